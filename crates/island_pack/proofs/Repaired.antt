-- What is repaired of 32 columns is what is taken of them, and nothing else is.
use Rattle.std.proofs.Common.{◌≡◌, ◌≢◌, ℕ, suc, zero, ◌+◌, ◌*◌, ◌-◌, ◌%◌, ◌^◌, ◌<◌, ◌≤◌, Bool, true, false, not, ◌||◌, List, [], ◌∷◌, ◌++◌, length, take, drop, get_or, refl, ap, ap₂, ◌∙◌, sym, subst, arith, All, inl, inr, length-drop, length-take-le}
use Rattle.std.specs.Prelude.{slice_index_or}
use Rattle.std.proofs.lemmas.Bool.{cases_lt, true≢false}
use Rattle.std.proofs.lemmas.List.Elements.{All-get_or, All-take, All-drop}
use Rattle.std.proofs.lemmas.List.{take-append-drop, drop-drop, take_all, length-map}
use Rattle.tmds_word.specs.Bits.{number}
use Rattle.tmds_word.proofs.Numbers.{number-bits_of}
use Rattle.island_pack.proofs.Registers.{eight_bits}
use Rattle.bch_block.specs.Bits.{byte_bits, bits_of_bytes, flipped}
use Rattle.bch_block.specs.Block.{IsBlock}
use Rattle.bch_block.specs.Division.{Remainder, nothing, remainder, power}
use Rattle.bch_block.specs.Repair.{IsVerdict}
use Rattle.bch_block.specs.declared.Verdict.{Verdict}
use Rattle.bch_block.specs.declared.Verdict.TheVariants.{Clean, Mended}
use Rattle.bch_block.proofs.Quotient.{remainder_of_block, is_block}
use Rattle.bch_block.proofs.Distances.{length-flipped}
use Rattle.bch_block.proofs.Verdicts.{mended, lost, one_verdict}
use Rattle.island_pack.specs.Nibbles.{nibbles_of, by_turns, body_bits, header_bits}
use Rattle.island_pack.specs.Packets.{body_of}
use Rattle.island_pack.specs.Taken.{after, IsTaken, Taken}
use Rattle.island_pack.specs.declared.packet.Packet.{Packet}
use Rattle.island_pack.specs.declared.packet.PacketVerdicts.{PacketVerdicts}
use Rattle.island_pack.specs.Repaired.{is_nothing, divides, choice, mend_from, verdict_of, bytes_in, repaired, packet_in, verdicts_in}

-- whether division leaves nothing
or_left : (a b : Bool) → not (a || b) ≡ true → a ≡ false
or_left a b h = grind arith

or_right : (a b : Bool) → not (a || b) ≡ true → not b ≡ true
or_right a b h = grind arith

not_false : (a : Bool) → not a ≡ true → a ≡ false
not_false a h = grind arith

pub nothing_is : (r : Remainder) → is_nothing r ≡ true → r ≡ nothing
nothing_is r e0 = grind (arith, or_right, or_left, not_false)

block_divides : (x : List Bool) → IsBlock x → divides x ≡ true
unfolding divides
block_divides x b = ap is_nothing (remainder_of_block x b)

divides_leaves : (x : List Bool) → divides x ≡ true → remainder x ≡ nothing
unfolding divides
divides_leaves x e = nothing_is (remainder x) e

clash : (p : Bool) → p ≡ true → p ≡ false → ⊥
clash p e f = true≢false (sym e ∙ f)

-- the search is right from bit i on, where no bit before it mends
no_power : (x : List Bool) → 8 ≤ length x → length x ≤ 64 → ((j : ℕ) → j < length x → divides (flipped x j) ≡ false)
    → (k : ℕ) → k < length x → remainder x ≢ power k
no_power x long short none k lt e =
    let j = length x - suc k in
    let lj : j < length x = omega arith in
    let same : k ≡ length x - suc j = omega arith in
    let m : IsVerdict x (Mended j) = mended x j long short lj (e ∙ ap power same) in
    clash (divides (flipped x j)) (block_divides (flipped x j) m.2) (none j lj)

found_by : (x : List Bool) (i n : ℕ) (p : Bool) (v : Verdict) → 8 ≤ length x → divides x ≡ false → i < length x → divides (flipped x i) ≡ p
    → (p ≡ false → IsVerdict x v) → IsVerdict x (choice p (Mended i) v)
found_by x i n p v h k l m q = grind (arith, clash, block_divides, is_block, length-flipped, divides_leaves)

found : (x : List Bool) (i n : ℕ) → 8 ≤ length x → length x ≤ 64 → divides x ≡ false → i + n ≡ length x
    → ((j : ℕ) → j < i → divides (flipped x j) ≡ false) → IsVerdict x (mend_from x i n)
unfolding mend_from divides
found x i zero long short other e none = grind (arith, lost, clash, no_power)
found x i (suc n) long short other e none =
    found_by x i n (divides (flipped x i)) (mend_from x (i + 1) n) long other (omega (arith, e)) refl
    (λ f. found x (i + 1) n long short other (omega (arith, e)) (λ j lt. elim (cases_lt j i) [
      | inl less ↦ none j less
      | inr more ↦ let same : i ≡ j = omega arith in subst (λ k. divides (flipped x k) ≡ false) same f
    ]))

pub verdict_by : (x : List Bool) (p : Bool) → 8 ≤ length x → length x ≤ 64 → divides x ≡ p → IsVerdict x (choice p Clean (mend_from x 0 (length x)))
verdict_by x p h k l = grind (arith, is_block, divides_leaves, found)

pub verdict_is : (x : List Bool) (v : Verdict) → 8 ≤ length x → length x ≤ 64 → IsVerdict x v → v ≡ verdict_of x
unfolding verdict_of
verdict_is x v long short h = one_verdict x v (verdict_of x) short h (verdict_by x (divides x) long short refl)

first_byte : (b : ℕ) (rest : List Bool) → b < 256 → number (take 8 (byte_bits b ++ rest)) ≡ b
first_byte b rest lt =
    let e : b % 2 ^ 8 ≡ b = omega arith in
    ap number (sym (eight_bits b)) ∙ number-bits_of 8 b ∙ e

bytes_are : (bs : List ℕ) (rest : List Bool) → ((k : ℕ) → k < length bs → get_or bs k 0 < 256) → bytes_in (length bs) (bits_of_bytes bs ++ rest) ≡ bs
unfolding bytes_in
bytes_are [] rest fits = refl
bytes_are (b ∷ bs) rest fits =
    ap₂ (λ x (xs : List ℕ). x ∷ xs) (first_byte b (bits_of_bytes bs ++ rest) (fits 0 (omega arith))) (bytes_are bs rest (λ k lt. fits (suc k) (omega arith)))

-- the bytes that are taken of a block
pub bytes_taken : (x : List Bool) (bytes : List ℕ) (n : ℕ) (v : Verdict) → length bytes ≡ n → ((k : ℕ) → k < length bytes → get_or bytes k 0 < 256) → 8 ≤ length x → length x ≤ 64
    → IsTaken x bytes v → bytes ≡ repaired n x
unfolding repaired
bytes_taken x bytes n v long fits least most t =
    let y = after x v in
    sym (bytes_are bytes (drop (8 * length bytes) y) fits)
    ∙ ap (λ z. bytes_in (length bytes) (z ++ drop (8 * length bytes) y)) t.begins
    ∙ ap (bytes_in (length bytes)) (take-append-drop (8 * length bytes) y)
    ∙ ap₂ (λ m w. bytes_in m (after x w)) long (verdict_is x v least most t.found)

-- how many bits there are
length-turns : (b : ℕ) (gs rs : List ℕ) → length gs ≡ length rs → length (by_turns b gs rs) ≡ 2 * length gs
unfolding by_turns
length-turns b [] rs e = refl
length-turns b (g ∷ gs) [] e = absurd (omega arith)
length-turns b (g ∷ gs) (r ∷ rs) e = let rest = length-turns b gs rs (omega arith) in omega (arith, rest)

nibbles : (ws : List (List ℕ)) (lane : ℕ) → length (nibbles_of ws lane) ≡ length ws
unfolding nibbles_of
nibbles ws lane = length-map ws _

pub body_long : (ws : List (List ℕ)) (b : ℕ) → length ws ≡ 32 → length (body_bits ws b) ≡ 64
unfolding body_bits
body_long ws b long = grind (arith, nibbles, length-turns)

pub header_long : (ws : List (List ℕ)) → length ws ≡ 32 → length (header_bits ws) ≡ 32
unfolding header_bits
header_long ws long = length-map (nibbles_of ws 0) _ ∙ nibbles ws 0 ∙ long

-- lists by their parts
four_parts : (xs : List ℕ) → length xs ≡ 28 → xs ≡ take 7 xs ++ (take 7 (drop 7 xs) ++ (take 7 (drop 14 xs) ++ take 7 (drop 21 xs)))
four_parts xs long =
    let last : take 7 (drop 21 xs) ≡ drop 21 xs = take_all 7 (drop 21 xs) (omega (arith, long, length-drop 21 xs)) in
    sym (take-append-drop 7 xs)
    ∙ ap (λ z. take 7 xs ++ z)
    (sym (take-append-drop 7 (drop 7 xs)) ∙ ap (λ z. take 7 (drop 7 xs) ++ z)
    (drop-drop 7 7 xs
    ∙ sym (take-append-drop 7 (drop 14 xs)) ∙ ap (λ z. take 7 (drop 14 xs) ++ z)
    (drop-drop 7 14 xs ∙ sym last)))

five : (vs : List Verdict) (a b c d e : Verdict) → length vs ≡ 5 → slice_index_or vs 0 Clean ≡ a → slice_index_or vs 1 Clean ≡ b → slice_index_or vs 2 Clean ≡ c
    → slice_index_or vs 3 Clean ≡ d → slice_index_or vs 4 Clean ≡ e → vs ≡ a ∷ (b ∷ (c ∷ (d ∷ (e ∷ []))))
five [] a b c d e long e0 e1 e2 e3 e4 = absurd (omega arith)
five (v ∷ []) a b c d e long e0 e1 e2 e3 e4 = absurd (omega arith)
five (v ∷ (w ∷ [])) a b c d e long e0 e1 e2 e3 e4 = absurd (omega arith)
five (v ∷ (w ∷ (x ∷ []))) a b c d e long e0 e1 e2 e3 e4 = absurd (omega arith)
five (v ∷ (w ∷ (x ∷ (y ∷ [])))) a b c d e long e0 e1 e2 e3 e4 = absurd (omega arith)
five (v ∷ (w ∷ (x ∷ (y ∷ (z ∷ []))))) a b c d e long e0 e1 e2 e3 e4 = λ i. e0 i ∷ e1 i ∷ e2 i ∷ e3 i ∷ e4 i ∷ []
five (v ∷ (w ∷ (x ∷ (y ∷ (z ∷ (u ∷ vs)))))) a b c d e long e0 e1 e2 e3 e4 = absurd (omega arith)

length-body : (p : Packet) (b : ℕ) → length p.bodies ≡ 28 → b < 4 → length (body_of p b) ≡ 7
length-body p b long lt = length-take-le 7 (drop (7 * b) p.bodies) (omega (arith, long, lt, length-drop (7 * b) p.bodies))

byte_of_body : (p : Packet) (b : ℕ) → length p.bodies ≡ 28 → All (λ v. v < 256) p.bodies → b < 4 → (k : ℕ) → k < length (body_of p b) → get_or (body_of p b) k 0 < 256
byte_of_body p b long all lt k less =
    All-get_or (λ v. v < 256) (body_of p b) k 0 less (All-take (λ v. v < 256) 7 (drop (7 * b) p.bodies) (All-drop (λ v. v < 256) (7 * b) p.bodies all))

-- what is taken of 32 columns
pub packet_is : (ws : List (List ℕ)) (p : Packet) (v : PacketVerdicts) → length ws ≡ 32 → Taken ws p v → p ≡ packet_in ws
unfolding packet_in
packet_is ws p v long t =
    let body : (b : ℕ) → b < 4 → body_of p b ≡ repaired 7 (body_bits ws b) =
    λ b lt. bytes_taken (body_bits ws b) (body_of p b) 7 _ (length-body p b t.whole.bodies lt) (byte_of_body p b t.whole.bodies t.whole.body_bytes lt)
    (omega (arith, body_long ws b long)) (omega (arith, body_long ws b long)) (t.bodies b lt) in
    grind (arith, bytes_taken, All-get_or, header_long, four_parts)

pub verdicts_are : (ws : List (List ℕ)) (p : Packet) (v : PacketVerdicts) → length ws ≡ 32 → Taken ws p v → v ≡ verdicts_in ws
unfolding verdicts_in
verdicts_are ws p v long t = grind (arith, verdict_is, body_long, header_long, five)
