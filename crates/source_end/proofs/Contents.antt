-- Contents that grow.
use Rattle.std.proofs.Common.{◌≡◌, ℕ, suc, ◌-◌, ◌<◌, Bool, true, ◌==◌, ◌&&◌, List, [], ◌∷◌, ◌++◌, length, get_or, Result, refl, ap, ap₂, ◌∙◌, arith, lt-ltb, eq-eqb}
use Rattle.std.specs.Prelude.{OnOk, OnErr, slice_set, nat_lt}
use Rattle.std.specs.List.{list_all}
use Rattle.std.proofs.lemmas.List.Folds.{list_all-append}
use Rattle.tmds_word.proofs.Below.{and-left, and-right}
use Rattle.island_pack.specs.Conforming.{are_bytes}
use Rattle.island_pack.specs.declared.packet.Packet.{Packet}
use Rattle.source_end.specs.Content.{Frame, with_packet, with_row, on_last, is_payload, is_content, are_content}

both : (a b : Bool) → a ≡ true → b ≡ true → (a && b) ≡ true
both a b h g = ap₂ (λ (x y : Bool). x && y) h g

pub payload_is : (p : Packet) → length p.header ≡ 3 → are_bytes p.header ≡ true → length p.bodies ≡ 28 → are_bytes p.bodies ≡ true → is_payload p ≡ true
payload_is p three header many bodies =
    both ((length p.header == 3) && are_bytes p.header) _ (both (length p.header == 3) _ (eq-eqb (length p.header) 3 three) header)
    (both (length p.bodies == 28) _ (eq-eqb (length p.bodies) 28 many) bodies)

pub bytes_at : (bytes : List ℕ) → ((i : ℕ) → get_or bytes i 0 < 256) → are_bytes bytes ≡ true
bytes_at [] h = refl
bytes_at (b ∷ bytes) h = both (nat_lt b 256) (are_bytes bytes) (lt-ltb b 256 (h 0)) (bytes_at bytes (λ i. h (suc i)))

-- the last frame, changed
last_place : (frames : List Frame) (change : Frame → Frame) (f g : Frame) → f ≡ get_or frames (length frames - 1) f → g ≡ change f → slice_set frames (length frames - 1) g ≡ on_last change frames
last_place [] change f g at is = refl
last_place (x ∷ []) change f g at is =
    ap (λ (h : Frame). h ∷ []) (is ∙ ap change at)
last_place (x ∷ (y ∷ frames)) change f g at is =
    let here : length (x ∷ (y ∷ frames)) - 1 ≡ suc (length (y ∷ frames) - 1) = omega arith in
    ap (λ (k : ℕ). slice_set (x ∷ (y ∷ frames)) k g) here ∙ ap (λ (fs : List Frame). x ∷ fs) (last_place (y ∷ frames) change f g (at ∙ ap (λ (k : ℕ). get_or (x ∷ (y ∷ frames)) k f) here) is)

pub last_set : (change : Frame → Frame) (frames : List Frame) (f g : Frame) (n : ℕ) → n ≡ length frames → f ≡ get_or frames (n - 1) f → g ≡ change f → slice_set frames (n - 1) g ≡ on_last change frames
last_set change frames f g n e at is =
    ap (λ (k : ℕ). slice_set frames (k - 1) g) e ∙ last_place frames change f g (at ∙ ap (λ (k : ℕ). get_or frames (k - 1) f) e) is

-- it stays a content
pub set_content : (frames : List Frame) (f g : Frame) (n : ℕ) → n ≡ length frames → f ≡ get_or frames (n - 1) f → are_content frames ≡ true → (is_content f ≡ true → is_content g ≡ true) → are_content (slice_set frames (n - 1) g) ≡ true
set_content frames f g n e at h keeps = ap (λ (k : ℕ). are_content (slice_set frames (k - 1) g)) e ∙ here frames (at ∙ ap (λ (k : ℕ). get_or frames (k - 1) f) e) h
  where
    here : (fs : List Frame) → f ≡ get_or fs (length fs - 1) f → are_content fs ≡ true → are_content (slice_set fs (length fs - 1) g) ≡ true
    here [] at h = refl
    here (x ∷ []) at h =
        both (is_content g) true (keeps (ap is_content at ∙ and-left (is_content x) true h)) refl
    here (x ∷ (y ∷ fs)) at h =
        let k : length (x ∷ (y ∷ fs)) - 1 ≡ suc (length (y ∷ fs) - 1) = omega arith in
        ap (λ (i : ℕ). are_content (slice_set (x ∷ (y ∷ fs)) i g)) k
        ∙ both (is_content x) _ (and-left (is_content x) (are_content (y ∷ fs)) h) (here (y ∷ fs) (at ∙ ap (λ (i : ℕ). get_or (x ∷ (y ∷ fs)) i f) k) (and-right (is_content x) (are_content (y ∷ fs)) h))

pub packet_content : (p : Packet) (f g : Frame) → is_payload p ≡ true → g ≡ with_packet p f → is_content f ≡ true → is_content g ≡ true
packet_content p f g good is h =
    ap is_content is ∙ both (list_all are_bytes f.rows) _ (and-left (list_all are_bytes f.rows) _ h)
    (list_all-append is_payload f.packets (p ∷ []) ∙ both (list_all is_payload f.packets) _ (and-right (list_all are_bytes f.rows) _ h) (both (is_payload p) true good refl))

pub row_content : (bytes : List ℕ) (f g : Frame) → are_bytes bytes ≡ true → g ≡ with_row bytes f → is_content f ≡ true → is_content g ≡ true
row_content bytes f g good is h =
    ap is_content is ∙ both (list_all are_bytes (f.rows ++ bytes ∷ [])) (list_all is_payload f.packets)
    (list_all-append are_bytes f.rows (bytes ∷ []) ∙ both (list_all are_bytes f.rows) _ (and-left (list_all are_bytes f.rows) _ h) (both (are_bytes bytes) true good refl)) (and-right (list_all are_bytes f.rows) _ h)

-- a change that was made or not
pub kept_or : {E : Type 0} (r : Result (Unit {0}) E) (f g h : Frame) → OnOk r (g ≡ h) → OnErr r (g ≡ f) → (g ≡ h → is_content f ≡ true → is_content g ≡ true) → is_content f ≡ true → is_content g ≡ true
kept_or r f g h k l m p = grind arith
