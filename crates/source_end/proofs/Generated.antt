-- The generated content grows by packets and rows.
use Rattle.std.proofs.Common.{◌≡◌, ℕ, zero, suc, ◌+◌, ◌*◌, List, [], ◌∷◌, ◌++◌, map, length, refl, sym, ap, ap₂, subst, ◌∙◌, append_assoc, append-nil, arith}
use Rattle.std.proofs.lemmas.List.{map-append, length-map}
use Rattle.island_pack.specs.declared.packet.Packet.{Packet}
use Rattle.source_end.specs.Content.{Frame, empty_frame, with_packet, with_row, on_last}
use Rattle.source_end.specs.Raster.{up_from}
use Rattle.source_end.specs.Generator.{row_byte, row_bytes, first_rows, sound_packet, first_sounds, frame_at, first_frames, clock_packet, Adds}
use Rattle.source_end.proofs.RasterRuns.{up_next}

-- One more of a list given by place.

map_more : {A : Type 0} (f : ℕ → A) (x n : ℕ) → map f (up_from x (n + 1)) ≡ map f (up_from x n) ++ f (x + n) ∷ []
map_more f x n = ap (map f) (up_next x n) ∙ map-append f (up_from x n) ((x + n) ∷ [])

pub byte_more : (f y n : ℕ) → row_bytes f y (n + 1) ≡ row_bytes f y n ++ row_byte f y n ∷ []
unfolding row_bytes
byte_more f y n = let e : 0 + n ≡ n = omega arith in map_more (row_byte f y) 0 n ∙ ap (λ (k : ℕ). map (row_byte f y) (up_from 0 n) ++ row_byte f y k ∷ []) e

pub row_more : (f n : ℕ) → first_rows f (n + 1) ≡ first_rows f n ++ row_bytes f n 1920 ∷ []
unfolding first_rows
row_more f n = let e : 0 + n ≡ n = omega arith in map_more (λ y. row_bytes f y 1920) 0 n ∙ ap (λ (k : ℕ). map (λ y. row_bytes f y 1920) (up_from 0 n) ++ row_bytes f k 1920 ∷ []) e

pub sound_more : (f n : ℕ) → first_sounds f (n + 1) ≡ first_sounds f n ++ sound_packet (200 * f + n) ∷ []
unfolding first_sounds
sound_more f n = map_more sound_packet (200 * f) n

pub frame_more : (avi audio : Packet) (n : ℕ) → first_frames avi audio (n + 1) ≡ first_frames avi audio n ++ frame_at avi audio n ∷ []
unfolding first_frames
frame_more avi audio n = let e : 0 + n ≡ n = omega arith in map_more (frame_at avi audio) 0 n ∙ ap (λ (k : ℕ). map (frame_at avi audio) (up_from 0 n) ++ frame_at avi audio k ∷ []) e

pub no_byte : (f y : ℕ) → row_bytes f y 0 ≡ []
unfolding row_bytes
no_byte f y = refl

pub no_row : (f : ℕ) → first_rows f 0 ≡ []
unfolding first_rows
no_row f = refl

pub no_sound : (f : ℕ) → first_sounds f 0 ≡ []
unfolding first_sounds
no_sound f = refl

pub no_frame : (avi audio : Packet) → first_frames avi audio 0 ≡ []
unfolding first_frames
no_frame avi audio = refl

-- The last frame grows.

pub last_changed : (change : Frame → Frame) (earlier : List Frame) (f : Frame) → on_last change (earlier ++ f ∷ []) ≡ earlier ++ change f ∷ []
last_changed change [] f = refl
last_changed change (x ∷ []) f = refl
last_changed change (x ∷ (y ∷ earlier)) f = ap (λ (fs : List Frame). x ∷ fs) (last_changed change (y ∷ earlier) f)

pub length_on_last : (change : Frame → Frame) (frames : List Frame) → length (on_last change frames) ≡ length frames
length_on_last change [] = refl
length_on_last change (x ∷ []) = refl
length_on_last change (x ∷ (y ∷ frames)) = ap (λ n. suc n) (length_on_last change (y ∷ frames))

pub adds_none : (old : List Frame) → Adds old old [] []
adds_none old = record { added = λ earlier f e. e ∙ ap₂ (λ (ps : List Packet) (rs : List (List ℕ)). earlier ++ record { packets = ps; rows = rs } ∷ []) (sym (append-nil f.packets)) (sym (append-nil f.rows)) }

pub adds_packet : (old mid new : List Frame) (ps : List Packet) (p : Packet) → Adds old mid ps [] → new ≡ on_last (with_packet p) mid → Adds old new (ps ++ p ∷ []) []
adds_packet old mid new ps p h e = grind (arith, last_changed, append_assoc)

pub adds_row : (old mid new : List Frame) (rows : List (List ℕ)) (row : List ℕ) → Adds old mid [] rows → new ≡ on_last (with_row row) mid → Adds old new [] (rows ++ row ∷ [])
adds_row old mid new rows row h e = grind (arith, last_changed, append_assoc)

-- a frame that gets its packets and then its rows
pub frame_made : (avi audio : Packet) (i : ℕ) (old begun led done : List Frame) → old ≡ first_frames avi audio i → begun ≡ old ++ empty_frame ∷ []
    → Adds begun led (avi ∷ (clock_packet ∷ (audio ∷ first_sounds i 200))) [] → Adds led done [] (first_rows i 480) → done ≡ first_frames avi audio (i + 1)
unfolding frame_at
frame_made avi audio i old begun led done e b p r = grind (arith, append-nil, frame_more)

pub length_up : (n x : ℕ) → length (up_from x n) ≡ n
length_up zero x = refl
length_up (suc n) x = ap (λ k. suc k) (length_up n (suc x))

pub length_frames : (avi audio : Packet) (n : ℕ) → length (first_frames avi audio n) ≡ n
unfolding first_frames
length_frames avi audio n = length-map (up_from 0 n) (frame_at avi audio) ∙ length_up n 0

-- the three packets before the sound
pub led : (old one two three : List Frame) (avi clock audio : Packet) (f : ℕ) → one ≡ on_last (with_packet avi) old → two ≡ on_last (with_packet clock) one → three ≡ on_last (with_packet audio) two → clock ≡ clock_packet
    → Adds old three (avi ∷ (clock_packet ∷ (audio ∷ first_sounds f 0))) []
led old one two three avi clock audio f e1 e2 e3 e =
    let first = adds_packet old old one [] avi (adds_none old) e1 in
    let second = adds_packet old one two (avi ∷ []) clock first e2 in
    let third = adds_packet old two three (avi ∷ (clock ∷ [])) audio second e3 in
    subst (λ (ps : List Packet). Adds old three ps []) (ap₂ (λ (p : Packet) (ps : List Packet). avi ∷ (p ∷ (audio ∷ ps))) e (sym (no_sound f))) third

pub sounds_added : (old mid new : List Frame) (avi audio p : Packet) (f i : ℕ) → Adds old mid (avi ∷ (clock_packet ∷ (audio ∷ first_sounds f i))) [] → new ≡ on_last (with_packet p) mid → p ≡ sound_packet (200 * f + i)
    → Adds old new (avi ∷ (clock_packet ∷ (audio ∷ first_sounds f (i + 1)))) []
sounds_added old mid new avi audio p f i h e is =
    subst (λ (ps : List Packet). Adds old new (avi ∷ (clock_packet ∷ (audio ∷ ps))) []) (ap (λ (q : Packet). first_sounds f i ++ q ∷ []) is ∙ sym (sound_more f i))
    (adds_packet old mid new (avi ∷ (clock_packet ∷ (audio ∷ first_sounds f i))) p h e)

pub rows_added : (old mid new : List Frame) (row : List ℕ) (f i : ℕ) → Adds old mid [] (first_rows f i) → new ≡ on_last (with_row row) mid → row ≡ row_bytes f i 1920 → Adds old new [] (first_rows f (i + 1))
rows_added old mid new row f i h e is =
    subst (λ (rs : List (List ℕ)). Adds old new [] rs) (ap (λ (r : List ℕ). first_rows f i ++ r ∷ []) is ∙ sym (row_more f i)) (adds_row old mid new (first_rows f i) row h e)

pub same_length : (change : Frame → Frame) (old new : List Frame) → new ≡ on_last change old → length new ≡ length old
same_length change old new e = ap length e ∙ length_on_last change old

-- a list that is written to its end
pub all_bytes_there : (f y k : ℕ) (items : List ℕ) → k ≡ 1920 → items ≡ row_bytes f y k → items ≡ row_bytes f y 1920
all_bytes_there f y k items e h = h ∙ ap (row_bytes f y) e
