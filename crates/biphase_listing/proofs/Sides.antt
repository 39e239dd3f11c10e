-- The groups of eight bytes of frames: each is a subframe of its side.
use Rattle.std.proofs.Common.{◌≡◌, ◌∙◌, ℕ, zero, suc, ◌+◌, ◌*◌, ◌%◌, ◌<◌, ◌≤◌, ◌==◌, Bool, true, false, List, [], ◌∷◌, ◌++◌, length, take, drop, All, refl, ap, sym, subst, append_assoc, length-drop, take_at, if◌then◌else◌, arith}
use Rattle.std.specs.Prelude.{flat_map}
use Rattle.std.proofs.Math.Seq.{drop-append_seam, drop-append-add}
use Rattle.std.proofs.lemmas.List.{take-append-le, drop-append-le}
use Rattle.audio_packets.specs.declared.sample.Sample.{Sample}
use Rattle.audio_out.specs.Frames.{frame_bytes, left_side, right_side}
use Rattle.audio_out.specs.Subframes.{subframe_bytes}
use Rattle.audio_out.proofs.Frames.{length-subframe}
use Rattle.audio_out.proofs.Spelled.{spelled_is}
use Rattle.audio_out.specs.declared.subframe.Mark.TheVariants.{B, M}
use Rattle.biphase_listing.specs.Groups.{IsCarried, IsSide, IsSideAt, group_at, is_right}
use Rattle.biphase_listing.proofs.Joining.{length-frame, length-frames}

left_mark : (start : Bool) → is_right (if start then B else M) ≡ false
left_mark start = grind arith

left_is : (s : Sample) → IsCarried s → IsSide false (subframe_bytes (left_side s))
left_is s is = (left_side s, spelled_is (left_side s) (record { value = is.sound.left; flags = is.sound.left_flags }), left_mark s.start)

right_is : (s : Sample) → IsCarried s → IsSide true (subframe_bytes (right_side s))
right_is s is = (right_side s, spelled_is (right_side s) (record { value = is.sound.right; flags = is.sound.right_flags }), refl)

-- the first two groups of a frame
pub first_group : (s : Sample) (more : List ℕ) → take 8 (frame_bytes s ++ more) ≡ subframe_bytes (left_side s)
unfolding frame_bytes
first_group s more =
    ap (take 8) (append_assoc (subframe_bytes (left_side s)) (subframe_bytes (right_side s)) more)
    ∙ take_at (subframe_bytes (left_side s)) (subframe_bytes (right_side s) ++ more) 8 (length-subframe (left_side s))

pub second_group : (s : Sample) (more : List ℕ) → take 8 (drop 8 (frame_bytes s ++ more)) ≡ subframe_bytes (right_side s)
unfolding frame_bytes
second_group s more =
    ap (λ (xs : List ℕ). take 8 (drop 8 xs)) (append_assoc (subframe_bytes (left_side s)) (subframe_bytes (right_side s)) more)
    ∙ ap (λ (n : ℕ). take 8 (drop n (subframe_bytes (left_side s) ++ (subframe_bytes (right_side s) ++ more)))) (sym (length-subframe (left_side s)))
    ∙ ap (take 8) (drop-append_seam (subframe_bytes (left_side s)) (subframe_bytes (right_side s) ++ more))
    ∙ take_at (subframe_bytes (right_side s)) more 8 (length-subframe (right_side s))

-- those after it
later_group : (s : Sample) (more : List ℕ) (m : ℕ) → group_at (frame_bytes s ++ more) (m + 2) ≡ group_at more m
later_group s more m =
    let n : 8 * (m + 2) ≡ length (frame_bytes s) + 8 * m = omega (arith, length-frame s) in
    ap (λ (k : ℕ). take 8 (drop k (frame_bytes s ++ more))) n ∙ ap (take 8) (drop-append-add (frame_bytes s) more (8 * m))

parity_again : (m : ℕ) → ((m + 2) % 2 == 1) ≡ (m % 2 == 1)
parity_again m = let e : (m + 2) % 2 ≡ m % 2 = omega arith in ap (λ (k : ℕ). k == 1) e

pub rest_carried : (s : Sample) (later : List Sample) → All IsCarried (s ∷ later) → All IsCarried later
rest_carried s later all k d lt = all (suc k) d (omega (arith, lt))

-- each group of frames, whatever follows
pub front_sides : (samples : List Sample) (tail : List ℕ) → All IsCarried samples → (m : ℕ) → m < 2 * length samples → IsSideAt (flat_map frame_bytes samples ++ tail) m
front_sides [] tail all m lt = absurd (omega (arith, lt))
front_sides (s ∷ later) tail all zero lt =
    subst (λ (xs : List ℕ). IsSide false xs) (sym (ap (take 8) (append_assoc (frame_bytes s) (flat_map frame_bytes later) tail) ∙ first_group s (flat_map frame_bytes later ++ tail)))
    (left_is s (all 0 s (omega arith)))
front_sides (s ∷ later) tail all (suc zero) lt =
    subst (λ (xs : List ℕ). IsSide true xs) (sym (ap (λ (xs : List ℕ). take 8 (drop 8 xs)) (append_assoc (frame_bytes s) (flat_map frame_bytes later) tail) ∙ second_group s (flat_map frame_bytes later ++ tail)))
    (right_is s (all 0 s (omega arith)))
front_sides (s ∷ later) tail all (suc (suc m)) lt =
    let two : suc (suc m) ≡ m + 2 = omega arith in
    subst (λ (k : ℕ). IsSideAt ((frame_bytes s ++ flat_map frame_bytes later) ++ tail) k) (sym two)
    (subst (λ (xs : List ℕ). IsSideAt xs (m + 2)) (sym (append_assoc (frame_bytes s) (flat_map frame_bytes later) tail))
    (subst (λ (xs : List ℕ). IsSide ((m + 2) % 2 == 1) xs) (sym (later_group s (flat_map frame_bytes later ++ tail) m))
    (subst (λ (b : Bool). IsSide b (group_at (flat_map frame_bytes later ++ tail) m)) (sym (parity_again m))
    (front_sides later tail (rest_carried s later all) m (omega (arith, lt))))))

even_parity : (k : ℕ) → (2 * k % 2 == 1) ≡ false
even_parity k = let e : 2 * k % 2 ≡ 0 = omega arith in ap (λ (n : ℕ). n == 1) e

odd_parity : (k : ℕ) → ((2 * k + 1) % 2 == 1) ≡ true
odd_parity k = let e : (2 * k + 1) % 2 ≡ 1 = omega arith in ap (λ (n : ℕ). n == 1) e

-- the two groups after frames
pub left_group : (samples : List Sample) (rest later : List ℕ) → 8 ≤ length rest → group_at (flat_map frame_bytes samples ++ (rest ++ later)) (2 * length samples) ≡ take 8 rest
left_group samples rest later long =
    let n : 8 * (2 * length samples) ≡ length (flat_map frame_bytes samples) = omega (arith, length-frames samples) in
    ap (λ (k : ℕ). take 8 (drop k (flat_map frame_bytes samples ++ (rest ++ later)))) n
    ∙ ap (take 8) (drop-append_seam (flat_map frame_bytes samples) (rest ++ later)) ∙ take-append-le 8 rest later long

pub right_group : (samples : List Sample) (rest later : List ℕ) → 16 ≤ length rest
    → group_at (flat_map frame_bytes samples ++ (rest ++ later)) (2 * length samples + 1) ≡ take 8 (drop 8 rest)
right_group samples rest later long =
    let n : 8 * (2 * length samples + 1) ≡ length (flat_map frame_bytes samples) + 8 = omega (arith, length-frames samples) in
    grind (arith, length-drop, drop-append-add, drop-append-le, take-append-le)

pub left_side_at : (samples : List Sample) (rest later : List ℕ) → 8 ≤ length rest → IsSide false (take 8 rest) → IsSideAt (flat_map frame_bytes samples ++ (rest ++ later)) (2 * length samples)
left_side_at samples rest later long is =
    subst (λ (b : Bool). IsSide b (group_at (flat_map frame_bytes samples ++ (rest ++ later)) (2 * length samples))) (sym (even_parity (length samples)))
    (subst (λ (xs : List ℕ). IsSide false xs) (sym (left_group samples rest later long)) is)

pub no_left_at : (samples : List Sample) (rest later : List ℕ) → 8 ≤ length rest → (IsSide false (take 8 rest) → ⊥) → IsSideAt (flat_map frame_bytes samples ++ (rest ++ later)) (2 * length samples) → ⊥
no_left_at samples rest later long none is =
    none (subst (λ (xs : List ℕ). IsSide false xs) (left_group samples rest later long)
    (subst (λ (b : Bool). IsSide b (group_at (flat_map frame_bytes samples ++ (rest ++ later)) (2 * length samples))) (even_parity (length samples)) is))

pub no_right_at : (samples : List Sample) (rest later : List ℕ) → 16 ≤ length rest → (IsSide true (take 8 (drop 8 rest)) → ⊥) → IsSideAt (flat_map frame_bytes samples ++ (rest ++ later)) (2 * length samples + 1) → ⊥
no_right_at samples rest later long none is =
    none (subst (λ (xs : List ℕ). IsSide true xs) (right_group samples rest later long)
    (subst (λ (b : Bool). IsSide b (group_at (flat_map frame_bytes samples ++ (rest ++ later)) (2 * length samples + 1))) (odd_parity (length samples)) is))
