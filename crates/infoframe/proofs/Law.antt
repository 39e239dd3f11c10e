-- What is written is read, what is read may be written, and what is read has one spelling.
use Rattle.std.proofs.Common.{◌≡◌, ℕ, suc, zero, ◌+◌, ◌-◌, ◌/◌, ◌%◌, ◌^◌, ◌<◌, ◌≤◌, Bool, true, false, cond, ◌&&◌, ◌==◌, List, [], ◌∷◌, ◌++◌, length, take, drop, replicate, get_or, refl, ap, ap₂, ◌∙◌, sym, subst, arith, eqb-true, add-one, All, inl, inr}
use Rattle.std.specs.Prelude.{slice_index, nat_lt, sum, None}
use Rattle.std.specs.List.{list_all}
use Rattle.std.proofs.Math.Nat.{mod-lt}
use Rattle.std.proofs.Math.Seq.{take-append_seam, drop-append_seam}
use Rattle.std.proofs.lemmas.Bool.{lt-ltb, le-leb, cases_lt}
use Rattle.std.proofs.lemmas.Nat.{pow_pos}
use Rattle.std.proofs.lemmas.Grind.{same_number_lists}
use Rattle.std.proofs.lemmas.List.{length-take, length-drop, take-append-drop, get_or_past}
use Rattle.std.proofs.lemmas.List.Elements.{All-take, All-drop}
use Rattle.std.proofs.lemmas.List.Sums.{sum_by-cons}
use Rattle.tmds_word.proofs.Below.{and-left, and-right}
use Rattle.island_pack.specs.Packets.{IsPacket}
use Rattle.island_pack.specs.Taken.{spotless}
use Rattle.island_pack.specs.declared.packet.Packet.{Packet}
use Rattle.island_pack.proofs.Parts.{three}
use Rattle.infoframe.specs.Fields.{number_of, field, avi_of, avi_table, avi_fits, avi_reserved, audio_of, audio_table, audio_fits, audio_reserved, spd_of}
use Rattle.island_pack.proofs.Losses.{none_spotless}
use Rattle.infoframe.specs.Frames.{Frame, frame_in, length_in, sum_of, kind_of, has_length}
use Rattle.infoframe.specs.Written.{padded, info_as, info_of, type_of, version_of, length_of, is_raw, fits, reserved_of, reserved_in, IsWritten}
use Rattle.infoframe.specs.Laws.{WrittenIsRead, OneSpelling, OneWriting, ReadFits, ReadIsWritten}
use Rattle.infoframe.specs.declared.content.InfoKind.{InfoKind}
use Rattle.infoframe.specs.declared.content.InfoKind.TheVariants.{Avi as AviKind, Audio as AudioKind, Spd as SpdKind, Raw as RawKind}
use Rattle.infoframe.specs.declared.content.Info.{Info}
use Rattle.infoframe.specs.declared.content.Info.TheVariants.{Avi, Audio, Spd, Raw}
use Rattle.infoframe.proofs.Refusals.{kind_in, length_below, taken_as, IsRead, is_read}
use Rattle.infoframe.proofs.Contents.{avi_bytes, audio_bytes, spd_bytes, avi_from_fields, audio_from_fields, spd_from_fields}
use Rattle.infoframe.proofs.Bounds.{raw_bounds}
use Rattle.infoframe.proofs.Writings.{length_from}

-- 1. what is read fits

both : {a b : Bool} → a ≡ true → b ≡ true → (a && b) ≡ true
both e f = λ i. e i && f i

bits_below : (n k : ℕ) → nat_lt (n % 2 ^ k) (2 ^ k) ≡ true
bits_below n k = lt-ltb (n % 2 ^ k) (2 ^ k) (mod-lt n (pow_pos k))

pub avi_of_fits : (xs : List ℕ) → avi_fits (avi_of xs) ≡ true
unfolding avi_fits avi_of avi_table field
avi_of_fits xs =
    both (bits_below (number_of (drop (1 - 1) xs) / 2 ^ 0) 2)
    (both (bits_below (number_of (drop (1 - 1) xs) / 2 ^ 2) 2)
    (both (bits_below (number_of (drop (1 - 1) xs) / 2 ^ 4) 1)
    (both (bits_below (number_of (drop (1 - 1) xs) / 2 ^ 5) 2)
    (both (bits_below (number_of (drop (2 - 1) xs) / 2 ^ 0) 4)
    (both (bits_below (number_of (drop (2 - 1) xs) / 2 ^ 4) 2)
    (both (bits_below (number_of (drop (2 - 1) xs) / 2 ^ 6) 2)
    (both (bits_below (number_of (drop (3 - 1) xs) / 2 ^ 0) 2)
    (both (bits_below (number_of (drop (3 - 1) xs) / 2 ^ 2) 2)
    (both (bits_below (number_of (drop (3 - 1) xs) / 2 ^ 4) 3)
    (both (bits_below (number_of (drop (3 - 1) xs) / 2 ^ 7) 1)
    (both (bits_below (number_of (drop (4 - 1) xs) / 2 ^ 0) 7)
    ((bits_below (number_of (drop (5 - 1) xs) / 2 ^ 0) 4)))))))))))))

pub audio_of_fits : (xs : List ℕ) → audio_fits (audio_of xs) ≡ true
unfolding audio_fits audio_of audio_table field
audio_of_fits xs =
    both (bits_below (number_of (drop (1 - 1) xs) / 2 ^ 0) 3)
    (both (bits_below (number_of (drop (1 - 1) xs) / 2 ^ 4) 4)
    (both (bits_below (number_of (drop (2 - 1) xs) / 2 ^ 0) 2)
    (both (bits_below (number_of (drop (2 - 1) xs) / 2 ^ 2) 3)
    (both (bits_below (number_of (drop (5 - 1) xs) / 2 ^ 3) 4)
    ((bits_below (number_of (drop (5 - 1) xs) / 2 ^ 7) 1))))))

all_zeros : (n : ℕ) → list_all (λ b. b == 0) (replicate n 0) ≡ true
all_zeros zero = refl
all_zeros (suc n) = all_zeros n

fits_as : (k : InfoKind) (f : Frame) → kind_of f.type_code f.version ≡ k → has_length k (length f.payload) ≡ true → 0x80 ≤ f.type_code
    → fits (info_as k f) ≡ true
unfolding fits info_as has_length
fits_as AviKind f e h le = avi_of_fits f.payload
fits_as AudioKind f e h le = audio_of_fits f.payload
fits_as SpdKind f e h le = refl
fits_as RawKind f e h le =
    both (le-leb 0x80 f.type_code le)
    (both (ap is_raw e) (both h (ap (list_all (λ b. b == 0)) (drop-append_seam f.payload _) ∙ all_zeros (27 - length f.payload))))

-- the payload is as long as the header says
payload_long : (p : Packet) → length p.bodies ≡ 28 → length_in p ≤ 27 → length (frame_in p).payload ≡ length_in p
unfolding frame_in
payload_long p long few = simp (length-take, length-drop) (omega arith)

module _ (p : Packet) (f : Frame) (whole : IsPacket p) (read : IsRead p f) where
  few : length_in p ≤ 27
  few = length_below (kind_in p) (length_in p) read.fits

  fits_payload : has_length (kind_in p) (length (frame_in p).payload) ≡ true
  fits_payload = ap (has_length (kind_in p)) (payload_long p whole.bodies few) ∙ read.fits

pub read_fits : ReadFits
unfolding info_of frame_in
read_fits p verdicts f whole le e =
    let read = is_read p verdicts f e in
    ap (λ (g : Frame). fits (info_of g)) (sym read.frame) ∙ fits_as (kind_in p) (frame_in p) refl (fits_payload p f whole read) le

-- 2. what is written is read

fits_length : (info : Info) → fits info ≡ true → has_length (kind_of (type_of info) (version_of info)) (length_of info) ≡ true
unfolding kind_of has_length
fits_length (Avi fields) h = refl
fits_length (Audio fields) h = refl
fits_length (Spd fields) h = refl
fits_length (Raw kind version long bytes) h =
    let bounds = raw_bounds kind version long bytes h in
    ap (λ k. has_length k long) bounds.unknown ∙ le-leb long 27 bounds.few

header_frame : (p : Packet) (t v n : ℕ) → p.header ≡ t ∷ v ∷ n ∷ [] → ((frame_in p).type_code ≡ t) × ((frame_in p).version ≡ v)
unfolding frame_in
header_frame p t v n e = (ap (λ (hd : List ℕ). slice_index hd 0) e, ap (λ (hd : List ℕ). slice_index hd 1) e)

pub written_is_read : WrittenIsRead
written_is_read info p verdicts h w none =
    let fit = fits_length info h in
    let few = length_below _ (length_of info) fit in
    let kind : kind_in p ≡ kind_of (type_of info) (version_of info) = ap (λ (hd : List ℕ). kind_of (slice_index hd 0) (slice_index hd 1)) w.header in
    let long = length_from p (type_of info) (version_of info) (length_of info) w.header few in
    let codes = header_frame p (type_of info) (version_of info) (length_of info) w.header in
    record {
      read = taken_as p verdicts none (ap₂ has_length kind long ∙ fit) w.checksum;
      type_code = codes.0;
      version = codes.1;
      long = payload_long p w.whole.bodies (omega arith) ∙ long;
      says = w.says;
    }

-- 3. one spelling

first_kind : (a b c : Bool) → cond a AviKind (cond b AudioKind (cond c SpdKind RawKind)) ≡ AviKind → a ≡ true
first_kind true b c e = refl
first_kind false true c e = cc
first_kind false false true e = cc
first_kind false false false e = cc

second_kind : (a b c : Bool) → cond a AviKind (cond b AudioKind (cond c SpdKind RawKind)) ≡ AudioKind → b ≡ true
second_kind true b c e = cc
second_kind false true c e = refl
second_kind false false true e = cc
second_kind false false false e = cc

third_kind : (a b c : Bool) → cond a AviKind (cond b AudioKind (cond c SpdKind RawKind)) ≡ SpdKind → c ≡ true
third_kind true b c e = cc
third_kind false true c e = cc
third_kind false false true e = refl
third_kind false false false e = cc

named : (type_code version t v : ℕ) → ((type_code == t) && (version == v)) ≡ true → (type_code ≡ t) × (version ≡ v)
named type_code version t v h = (eqb-true type_code t (and-left _ _ h), eqb-true version v (and-right _ _ h))

named_avi : (t v : ℕ) → kind_of t v ≡ AviKind → (t ≡ 0x82) × (v ≡ 2)
unfolding kind_of
named_avi t v e = named t v 0x82 2 (first_kind _ _ _ e)

named_audio : (t v : ℕ) → kind_of t v ≡ AudioKind → (t ≡ 0x84) × (v ≡ 1)
unfolding kind_of
named_audio t v e = named t v 0x84 1 (second_kind _ _ _ e)

named_spd : (t v : ℕ) → kind_of t v ≡ SpdKind → (t ≡ 0x83) × (v ≡ 1)
unfolding kind_of
named_spd t v e = named t v 0x83 1 (third_kind _ _ _ e)

-- the same type code, version and payload
pub record IsAlike (f g : Frame) : Type 0 where
  pub type_code : f.type_code ≡ g.type_code
  pub version : f.version ≡ g.version
  pub payload : f.payload ≡ g.payload

unpadded : (xs ys : List ℕ) → length xs ≡ length ys → padded xs ≡ padded ys → xs ≡ ys
unpadded xs ys long e = sym (take-append_seam xs _) ∙ ap₂ take long e ∙ take-append_seam ys _

alike : (kf kg : InfoKind) (f g : Frame) → kind_of f.type_code f.version ≡ kf → kind_of g.type_code g.version ≡ kg
    → has_length kf (length f.payload) ≡ true → has_length kg (length g.payload) ≡ true
    → ((k : ℕ) → get_or f.payload k 0 < 256) → ((k : ℕ) → get_or g.payload k 0 < 256)
    → info_as kf f ≡ info_as kg g → reserved_of kf f.payload ≡ reserved_of kg g.payload → IsAlike f g
unfolding info_as reserved_of has_length avi_reserved audio_reserved
alike AviKind AviKind f g ef eg hf hg bf bg e r =
    let nf = named_avi f.type_code f.version ef in
    let ng = named_avi g.type_code g.version eg in
    let fields : avi_of f.payload ≡ avi_of g.payload = cc in
    record {
      type_code = nf.0 ∙ sym ng.0;
      version = nf.1 ∙ sym ng.1;
      payload =
          avi_from_fields f.payload (eqb-true (length f.payload) 13 hf) bf
          ∙ (λ i. avi_bytes (fields i) (get_or (r i) 0 0) (get_or (r i) 1 0) (get_or (r i) 2 0))
          ∙ sym (avi_from_fields g.payload (eqb-true (length g.payload) 13 hg) bg);
    }
alike AudioKind AudioKind f g ef eg hf hg bf bg e r =
    let nf = named_audio f.type_code f.version ef in
    let ng = named_audio g.type_code g.version eg in
    let fields : audio_of f.payload ≡ audio_of g.payload = cc in
    record {
      type_code = nf.0 ∙ sym ng.0;
      version = nf.1 ∙ sym ng.1;
      payload =
          audio_from_fields f.payload (eqb-true (length f.payload) 10 hf) bf
          ∙ (λ i. audio_bytes (fields i) (get_or (r i) 0 0) (get_or (r i) 1 0) (get_or (r i) 2 0) (get_or (r i) 3 0) (drop 4 (r i)))
          ∙ sym (audio_from_fields g.payload (eqb-true (length g.payload) 10 hg) bg);
    }
alike SpdKind SpdKind f g ef eg hf hg bf bg e r =
    let nf = named_spd f.type_code f.version ef in
    let ng = named_spd g.type_code g.version eg in
    let fields : spd_of f.payload ≡ spd_of g.payload = cc in
    record {
      type_code = nf.0 ∙ sym ng.0;
      version = nf.1 ∙ sym ng.1;
      payload =
          spd_from_fields f.payload (eqb-true (length f.payload) 25 hf) bf ∙ ap spd_bytes fields
          ∙ sym (spd_from_fields g.payload (eqb-true (length g.payload) 25 hg) bg);
    }
alike RawKind RawKind f g ef eg hf hg bf bg e r =
    let long : length f.payload ≡ length g.payload = cc in
    let bytes : padded f.payload ≡ padded g.payload = cc in
    record { type_code = cc; version = cc; payload = unpadded f.payload g.payload long bytes }
alike _ _ f g ef eg hf hg bf bg e r = cc

below_everywhere : (xs : List ℕ) (n : ℕ) → 0 < n → All (λ x. x < n) xs → (k : ℕ) → get_or xs k 0 < n
below_everywhere xs n some h k =
    elim (cases_lt k (length xs)) [
      | inl less ↦ h k 0 less
      | inr past ↦ subst (λ x. x < n) (sym (get_or_past xs k 0 past)) some
    ]

payload_bytes : (p : Packet) → IsPacket p → (k : ℕ) → get_or (frame_in p).payload k 0 < 256
unfolding frame_in
payload_bytes p whole = below_everywhere (take (length_in p) (drop 1 p.bodies)) 256 (omega arith) (All-take (λ b. b < 256) (length_in p) (drop 1 p.bodies) (All-drop (λ b. b < 256) 1 p.bodies whole.body_bytes))

-- 28 bytes begin with the first
begins : (xs : List ℕ) (n : ℕ) → length xs ≡ 28 → take (n + 1) xs ≡ get_or xs 0 0 ∷ take n (drop 1 xs)
begins [] n e = absurd (omega arith)
begins (x ∷ xs) n e = ap (λ m. take m (x ∷ xs)) (add-one n)

-- the checksum is known from what it covers
same_checksum : (h b c s : ℕ) → b < 256 → c < 256 → (h + (b + s)) % 256 ≡ 0 → (h + (c + s)) % 256 ≡ 0 → b ≡ c
same_checksum h b c s lb lc e f = omega arith

covered : (p : Packet) → length p.bodies ≡ 28 → take (length_in p + 1) p.bodies ≡ get_or p.bodies 0 0 ∷ (frame_in p).payload
unfolding frame_in
covered p long = begins p.bodies (length_in p) long

sum_covered : (p : Packet) → length p.bodies ≡ 28 → sum_of p ≡ (sum p.header + (get_or p.bodies 0 0 + sum (frame_in p).payload)) % 256
unfolding sum_of
sum_covered p long =
    ap (λ xs. (sum p.header + sum xs) % 256) (covered p long)
    ∙ ap (λ n. (sum p.header + n) % 256) (sum_by-cons (λ x. x) (get_or p.bodies 0 0) (frame_in p).payload)

-- a byte from its low five bits and its high three
from_parts : (x y : ℕ) → x % 32 ≡ y % 32 → x / 32 ≡ y / 32 → x ≡ y
from_parts x y e f = omega arith

same_header : (p q : Packet) → length p.header ≡ 3 → length q.header ≡ 3 → slice_index p.header 0 ≡ slice_index q.header 0
    → slice_index p.header 1 ≡ slice_index q.header 1 → slice_index p.header 2 ≡ slice_index q.header 2 → p.header ≡ q.header
same_header p q lp lq e0 e1 e2 = three p.header lp ∙ (λ i. e0 i ∷ e1 i ∷ e2 i ∷ []) ∙ sym (three q.header lq)

fits_frame : (p : Packet) (f : Frame) → IsPacket p → IsRead p f
    → has_length (kind_of (frame_in p).type_code (frame_in p).version) (length (frame_in p).payload) ≡ true
unfolding frame_in
fits_frame p f whole read = fits_payload p f whole read

headers : (p q : Packet) → length p.header ≡ 3 → length q.header ≡ 3 → (frame_in p).type_code ≡ (frame_in q).type_code
    → (frame_in p).version ≡ (frame_in q).version → length_in p ≡ length_in q
    → slice_index p.header 2 / 32 ≡ slice_index q.header 2 / 32 → p.header ≡ q.header
unfolding frame_in length_in
headers p q lp lq e0 e1 low high = same_header p q lp lq e0 e1 (from_parts (slice_index p.header 2) (slice_index q.header 2) low high)

spelled : (p q : Packet) (f g : Frame) → IsPacket p → IsPacket q → IsRead p f → IsRead q g
    → info_of (frame_in p) ≡ info_of (frame_in q) → reserved_in p ≡ reserved_in q
    → (p.header ≡ q.header) × (take (length_in p + 1) p.bodies ≡ take (length_in q + 1) q.bodies)
unfolding info_of reserved_in
spelled p q f g wp wq rp rq same reserved =
    let a = alike (kind_of (frame_in p).type_code (frame_in p).version) (kind_of (frame_in q).type_code (frame_in q).version) (frame_in p) (frame_in q)
    refl refl (fits_frame p f wp rp) (fits_frame q g wq rq) (payload_bytes p wp) (payload_bytes q wq) same (ap (drop 1) reserved) in
    let long : length_in p ≡ length_in q =
    sym (payload_long p wp.bodies (few p f wp rp)) ∙ ap length a.payload ∙ payload_long q wq.bodies (few q g wq rq) in
    let high : slice_index p.header 2 / 32 ≡ slice_index q.header 2 / 32 = ap (λ xs. get_or xs 0 0) reserved in
    let header = headers p q wp.header wq.header a.type_code a.version long high in
    let bp = below_everywhere p.bodies 256 (omega arith) wp.body_bytes 0 in
    let bq = below_everywhere q.bodies 256 (omega arith) wq.body_bytes 0 in
    let sp = sym (sum_covered p wp.bodies) ∙ rp.checksum in
    let sq = ap₂ (λ (h xs : List ℕ). (sum h + (get_or q.bodies 0 0 + sum xs)) % 256) header a.payload ∙ sym (sum_covered q wq.bodies) ∙ rq.checksum in
    let first = same_checksum (sum p.header) (get_or p.bodies 0 0) (get_or q.bodies 0 0) (sum (frame_in p).payload) bp bq sp sq in
    (header, covered p wp.bodies ∙ (λ i. first i ∷ a.payload i) ∙ sym (covered q wq.bodies))

pub one_spelling : OneSpelling
one_spelling p q of_p of_q f g wp wq ep eq same reserved =
    let rp = is_read p of_p f ep in
    let rq = is_read q of_q g eq in
    spelled p q f g wp wq rp rq (ap info_of rp.frame ∙ same ∙ sym (ap info_of rq.frame)) reserved

-- 4. one writing

same_reserved_length : (k : InfoKind) (xs ys : List ℕ) → length (reserved_of k xs) ≡ length (reserved_of k ys)
unfolding reserved_of avi_reserved audio_reserved
same_reserved_length AviKind xs ys = refl
same_reserved_length AudioKind xs ys = refl
same_reserved_length SpdKind xs ys = refl
same_reserved_length RawKind xs ys = refl

same_zeros : (xs ys : List ℕ) → length xs ≡ length ys → All (λ x. x ≡ 0) xs → All (λ x. x ≡ 0) ys → xs ≡ ys
same_zeros xs ys long zx zy = same_number_lists xs ys long (λ k lt. zx k 0 lt ∙ sym (zy k 0 (omega arith)))

reserved_lengths : (p q : Packet) → p.header ≡ q.header → length (reserved_in p) ≡ length (reserved_in q)
unfolding reserved_in frame_in
reserved_lengths p q e =
    ap suc (ap (λ (h : List ℕ). length (reserved_of (kind_of (slice_index h 0) (slice_index h 1)) (frame_in p).payload)) e
    ∙ same_reserved_length (kind_in q) (frame_in p).payload (frame_in q).payload)

same_length : (p q : Packet) → p.header ≡ q.header → length_in p ≡ length_in q
unfolding length_in
same_length p q e = ap (λ (hd : List ℕ). slice_index hd 2 % 32) e

pub one_writing : OneWriting
one_writing info p q h wp wq =
    let rp = written_is_read info p spotless h wp none_spotless in
    let rq = written_is_read info q spotless h wq none_spotless in
    let header = wp.header ∙ sym wq.header in
    let reserved = same_zeros (reserved_in p) (reserved_in q) (reserved_lengths p q header) wp.reserved wq.reserved in
    let begin = one_spelling p q spotless spotless (frame_in p) (frame_in q) wp.whole wq.whole rp.read rq.read (rp.says ∙ sym rq.says) reserved in
    let long = same_length p q header in (
      header,
      sym (take-append-drop (length_in p + 1) p.bodies)
          ∙ ap₂ (λ (xs ys : List ℕ). xs ++ ys) begin.1 (wp.after ∙ ap (λ n. replicate (27 - n) 0) long ∙ sym wq.after)
          ∙ take-append-drop (length_in q + 1) q.bodies,
    )

-- 5. what is read is written so

spelled_header : (k : InfoKind) (f : Frame) → kind_of f.type_code f.version ≡ k → has_length k (length f.payload) ≡ true
    → (f.type_code ≡ type_of (info_as k f)) × (f.version ≡ version_of (info_as k f)) × (length f.payload ≡ length_of (info_as k f))
unfolding info_as has_length
spelled_header AviKind f e h = let n = named_avi f.type_code f.version e in (n.0, n.1, eqb-true (length f.payload) 13 h)
spelled_header AudioKind f e h = let n = named_audio f.type_code f.version e in (n.0, n.1, eqb-true (length f.payload) 10 h)
spelled_header SpdKind f e h = let n = named_spd f.type_code f.version e in (n.0, n.1, eqb-true (length f.payload) 25 h)
spelled_header RawKind f e h = (refl, refl, refl)

plain_length : (x n : ℕ) → x / 32 ≡ 0 → x % 32 ≡ n → x ≡ n
plain_length x n e f = omega arith

header_from : (p : Packet) (f : Frame) (whole : IsPacket p) (read : IsRead p f) → slice_index p.header 2 / 32 ≡ 0
    → p.header ≡ type_of (info_of (frame_in p)) ∷ version_of (info_of (frame_in p)) ∷ length_of (info_of (frame_in p)) ∷ []
unfolding info_of frame_in length_in
header_from p f whole read clear =
    let parts = spelled_header (kind_in p) (frame_in p) refl (fits_payload p f whole read) in
    let long : slice_index p.header 2 ≡ length_of (info_as (kind_in p) (frame_in p)) =
    plain_length (slice_index p.header 2) (length_in p) clear refl ∙ sym (payload_long p whole.bodies (few p f whole read)) ∙ parts.2 in
    three p.header whole.header ∙ (λ i. parts.0 i ∷ parts.1 i ∷ long i ∷ [])

no_high_bits : (p : Packet) → All (λ bits. bits ≡ 0) (reserved_in p) → slice_index p.header 2 / 32 ≡ 0
unfolding reserved_in
no_high_bits p zeros = zeros 0 0 (omega arith)

pub read_is_written : ReadIsWritten
read_is_written p verdicts f whole e zeros after =
    let read = is_read p verdicts f e in
    subst (λ (g : Frame). IsWritten (info_of g) p) read.frame (record {
      whole = whole;
      header = header_from p f whole read (no_high_bits p zeros);
      checksum = read.checksum;
      says = refl;
      reserved = zeros;
      after = after;
    })
