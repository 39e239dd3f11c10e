-- A packet of which no fault is reported: its columns carry it, whatever bit 3 of lane 0 is.
use Rattle.std.proofs.Common.{◌≡◌, ℕ, suc, zero, ◌+◌, ◌*◌, ◌%◌, ◌<◌, ◌≤◌, Bool, true, false, cond, not, List, [], ◌∷◌, ◌++◌, length, map, take, drop, refl, ap, ap₂, sym, ◌∙◌, subst, arith, All, append_assoc, length-take-le, length-drop, length-append}
use Rattle.std.specs.Prelude.{nat_lt, count_by}
use Rattle.std.specs.List.{list_all}
use Rattle.std.proofs.lemmas.Bool.{eqb-true, eq-eqb, lt-ltb}
use Rattle.std.proofs.lemmas.List.{length-map, take_at, drop_at, take_all}
use Rattle.std.proofs.lemmas.List.Folds.{list_all-append}
use Rattle.std.proofs.lemmas.List.Sums.{sum_by-cons}
use Rattle.std.proofs.Math.Seq.{take-add}
use Rattle.tmds_word.specs.Bits.{number, bits_of as number_bits}
use Rattle.tmds_word.proofs.Numbers.{bits_of-number}
use Rattle.tmds_word.proofs.Below.{and-left, and-right}
use Rattle.bch_block.specs.Bits.{byte_bits, bits_of_bytes, flipped}
use Rattle.bch_block.specs.declared.Verdict.{Verdict}
use Rattle.bch_block.specs.declared.Verdict.TheVariants.{Clean, Mended}
use Rattle.bch_block.proofs.Quotient.{is_block}
use Rattle.island_pack.specs.Nibbles.{nibbles_of, by_turns, sync_values, header_bits, body_bits, is_foreign, foreign_on, foreign_words}
use Rattle.island_pack.specs.Packets.{BeginsWith, AreTerc, CarriesFreely}
use Rattle.island_pack.specs.Conforming.{are_bytes, is_packet}
use Rattle.island_pack.proofs.Registers.{eight_bits}
use Rattle.island_pack.proofs.Parts.{length-four, All-four}
use Rattle.island_pack.specs.Repaired.{choice, divides, mend_from, verdict_of, bytes_in, repaired, packet_in, verdicts_in}
use Rattle.period_grammar.specs.Island.{packet_faults}
use Rattle.island_pack.proofs.Repaired.{nothing_is}
use Rattle.link_laws.proofs.Rows.{and_both}
use Rattle.period_grammar.proofs.Bytes.{number_below}
use Rattle.link_laws.proofs.exact.Faultless.{Fine, fine_left, fine_right, if_so_fine, not_false}

-- A block of which the verdict is clean.

never_clean : (p : Bool) (i : ℕ) (v : Verdict) → (v ≡ Clean → ⊥) → choice p (Mended i) v ≡ Clean → ⊥
never_clean p i v h k = grind arith

mend_never : (x : List Bool) (i n : ℕ) → mend_from x i n ≡ Clean → ⊥
unfolding mend_from
mend_never x i zero h = cc
mend_never x i (suc n) h = never_clean (divides (flipped x i)) i (mend_from x (i + 1) n) (mend_never x (i + 1) n) h

-- The bytes with which it begins.

length-bytes_in : (n : ℕ) (x : List Bool) → length (bytes_in n x) ≡ n
unfolding bytes_in
length-bytes_in zero x = refl
length-bytes_in (suc n) x = ap suc (length-bytes_in n (drop 8 x))

first_byte : (x : List Bool) → 8 ≤ length x → byte_bits (number (take 8 x)) ≡ take 8 x
first_byte x long =
    let n : length (take 8 x) ≡ 8 = length-take-le 8 x long in
    sym (eight_bits (number (take 8 x))) ∙ ap (λ k. number_bits k (number (take 8 x))) (sym n) ∙ bits_of-number (take 8 x)

bytes_begin : (n : ℕ) (x : List Bool) → 8 * n ≤ length x → bits_of_bytes (bytes_in n x) ≡ take (8 * n) x
unfolding bytes_in
bytes_begin zero x long = refl
bytes_begin (suc n) x long =
    let d = length-drop 8 x in
    let e : 8 * suc n ≡ 8 + 8 * n = omega arith in
    ap₂ (λ (a b : List Bool). a ++ b) (first_byte x (omega arith)) (bytes_begin n (drop 8 x) (omega arith))
    ∙ sym (ap (λ k. take k x) e ∙ take-add 8 (8 * n) x)

byte_below : (x : List Bool) → 8 ≤ length x → number (take 8 x) < 256
byte_below x long = grind (arith, length-take-le, number_below)

bytes_small : (n : ℕ) (x : List Bool) → 8 * n ≤ length x → are_bytes (bytes_in n x) ≡ true
unfolding bytes_in
bytes_small zero x long = refl
bytes_small (suc n) x long = grind (arith, length-drop, and_both, lt-ltb, byte_below, bytes_small n)

bytes_below : (n : ℕ) (x : List Bool) → 8 * n ≤ length x → All (λ b. b < 256) (bytes_in n x)
unfolding bytes_in
bytes_below zero x long = λ i d lt. absurd (omega arith)
bytes_below (suc n) x long = grind (arith, length-drop, byte_below, bytes_below n)

-- a clean block of n bytes and eight bits more
record BeginsClean (n : ℕ) (x : List Bool) (bytes : List ℕ) : Type 0 where
  begins : BeginsWith x bytes
  long : length bytes ≡ n
  small : are_bytes bytes ≡ true
  below : All (λ b. b < 256) bytes

block_of : (n : ℕ) (x : List Bool) → length x ≡ 8 * n + 8 → verdict_of x ≡ Clean → BeginsClean n x (repaired n x)
unfolding repaired verdict_of divides
block_of n x long h = grind (arith, length-bytes_in, bytes_begin, bytes_small, bytes_below, is_block, nothing_is, mend_never)

-- How many bits there are.

length-nibbles : (ws : List (List ℕ)) (lane : ℕ) → length (nibbles_of ws lane) ≡ length ws
unfolding nibbles_of
length-nibbles ws lane = length-map ws _

length-header : (ws : List (List ℕ)) → length (header_bits ws) ≡ length ws
unfolding header_bits
length-header ws = length-map (nibbles_of ws 0) _ ∙ length-nibbles ws 0

length-turns : (b : ℕ) (gs rs : List ℕ) → length gs ≡ length rs → length (by_turns b gs rs) ≡ 2 * length gs
unfolding by_turns
length-turns b [] rs e = refl
length-turns b (g ∷ gs) [] e = absurd (omega arith)
length-turns b (g ∷ gs) (r ∷ rs) e = let ih = length-turns b gs rs (omega arith) in omega arith

length-body : (ws : List (List ℕ)) (b : ℕ) → length (body_bits ws b) ≡ 2 * length ws
unfolding body_bits
length-body ws b = grind (arith, length-nibbles, length-turns)

small_sync : (ns : List ℕ) → list_all (λ v. nat_lt v 4) (map (λ n. n % 4) ns) ≡ true
small_sync [] = refl
small_sync (n ∷ ns) = and_both _ _ (lt-ltb (n % 4) 4 (omega arith)) (small_sync ns)

-- Words that are no TERC4 words.

foreign_by : (p : List ℕ → Bool) (w : List ℕ) (ws : List (List ℕ)) (q : Bool) → p w ≡ q → count_by p (w ∷ ws) ≡ 0 → (count_by p ws ≡ 0 → list_all (λ w. not (p w)) ws ≡ true)
    → list_all (λ w. not (p w)) (w ∷ ws) ≡ true
foreign_by p w ws true e h ih =
    let c = sum_by-cons (λ y. cond (p y) 1 0) w ws in
    let one : ◌≡◌ {A = ℕ} (cond (p w) 1 0) 1 = ap (λ q. cond q 1 0) e in
    absurd (omega arith)
foreign_by p w ws false e h ih = grind (arith, sum_by-cons, and_both)

none_foreign : (p : List ℕ → Bool) (ws : List (List ℕ)) → count_by p ws ≡ 0 → list_all (λ w. not (p w)) ws ≡ true
none_foreign p [] h = refl
none_foreign p (w ∷ ws) h = foreign_by p w ws (p w) refl h (λ e. none_foreign p ws e)

terc_all : (lane : ℕ) (ws : List (List ℕ)) → list_all (λ w. not (is_foreign lane w)) ws ≡ true → AreTerc ws lane
unfolding is_foreign
terc_all lane [] h = λ i d lt. absurd (omega arith)
terc_all lane (w ∷ ws) h = grind (arith, and-left, and-right, terc_all lane ws)

are_terc : (ws : List (List ℕ)) → foreign_words ws ≡ 0 → (lane : ℕ) → lane < 3 → AreTerc ws lane
unfolding foreign_words foreign_on
are_terc ws h zero lt = terc_all 0 ws (none_foreign (is_foreign 0) ws (omega arith))
are_terc ws h (suc zero) lt = terc_all 1 ws (none_foreign (is_foreign 1) ws (omega arith))
are_terc ws h (suc (suc zero)) lt = terc_all 2 ws (none_foreign (is_foreign 2) ws (omega arith))
are_terc ws h (suc (suc (suc lane))) lt = absurd (omega arith)

-- No fault is reported.

pub record AreClean (ws : List (List ℕ)) : Type 0 where
  pub terc : foreign_words ws ≡ 0
  pub body_0 : verdict_of (body_bits ws 0) ≡ Clean
  pub body_1 : verdict_of (body_bits ws 1) ≡ Clean
  pub body_2 : verdict_of (body_bits ws 2) ≡ Clean
  pub body_3 : verdict_of (body_bits ws 3) ≡ Clean
  pub header : verdict_of (header_bits ws) ≡ Clean

pub faults_fine : (s : ℕ) (ws : List (List ℕ)) → Fine (packet_faults s (verdicts_in ws)) → AreClean ws
unfolding verdicts_in
faults_fine s ws h = grind (arith, fine_right, eqb-true, not_false, if_so_fine, fine_left)

-- a packet that the columns carry
pub record IsCarried (ws : List (List ℕ)) : Type 0 where
  pub carries : CarriesFreely (packet_in ws) ws
  pub conforms : is_packet (packet_in ws) ≡ true

body_at : (a b c d : List ℕ) → length a ≡ 7 → length b ≡ 7 → length c ≡ 7 → length d ≡ 7 → (P : ℕ → List ℕ → Type 0) → P 0 a → P 1 b → P 2 c → P 3 d
    → (k : ℕ) → k < 4 → P k (take 7 (drop (7 * k) (a ++ (b ++ (c ++ d)))))
body_at a b c d la lb lc ld P pa pb pc pd zero lt = subst (P 0) (sym (take_at a (b ++ (c ++ d)) 7 la)) pa
body_at a b c d la lb lc ld P pa pb pc pd (suc zero) lt =
    subst (P 1) (sym (ap (take 7) (drop_at a (b ++ (c ++ d)) 7 la) ∙ take_at b (c ++ d) 7 lb)) pb
body_at a b c d la lb lc ld P pa pb pc pd (suc (suc zero)) lt =
    let n = length-append a b in
    subst (P 2) (sym (ap (λ xs. take 7 (drop 14 xs)) (sym (append_assoc a b (c ++ d))) ∙ ap (take 7) (drop_at (a ++ b) (c ++ d) 14 (omega arith)) ∙ take_at c d 7 lc)) pc
body_at a b c d la lb lc ld P pa pb pc pd (suc (suc (suc zero))) lt =
    let n = length-append a b in
    let m = length-append (a ++ b) c in
    subst (P 3) (sym (ap (λ xs. take 7 (drop 21 xs)) (sym (append_assoc a b (c ++ d)) ∙ sym (append_assoc (a ++ b) c d)) ∙ ap (take 7) (drop_at ((a ++ b) ++ c) d 21 (omega arith)) ∙ take_all 7 d (omega arith))) pd
body_at a b c d la lb lc ld P pa pb pc pd (suc (suc (suc (suc k)))) lt = absurd (omega arith)

four_small : (a b c d : List ℕ) → are_bytes a ≡ true → are_bytes b ≡ true → are_bytes c ≡ true → are_bytes d ≡ true → are_bytes (a ++ (b ++ (c ++ d))) ≡ true
four_small a b c d ha hb hc hd =
    let p = λ (n : ℕ). nat_lt n 256 in
    list_all-append p a (b ++ (c ++ d)) ∙ and_both _ _ ha (list_all-append p b (c ++ d) ∙ and_both _ _ hb (list_all-append p c d ∙ and_both _ _ hc hd))

pub carried : (s : ℕ) (ws : List (List ℕ)) → length ws ≡ 32 → Fine (packet_faults s (verdicts_in ws)) → IsCarried ws
unfolding packet_in is_packet sync_values repaired bytes_in
carried s ws long h =
    let c = faults_fine s ws h in
    let n = length-header ws in
    let n0 = length-body ws 0 in
    let n1 = length-body ws 1 in
    let n2 = length-body ws 2 in
    let n3 = length-body ws 3 in
    let ns : length (map (λ n. n % 4) (nibbles_of ws 0)) ≡ 32 = length-map (nibbles_of ws 0) (λ n. n % 4) ∙ length-nibbles ws 0 ∙ long in
    let hb = block_of 3 (header_bits ws) (omega arith) c.header in
    let b0 = block_of 7 (body_bits ws 0) (omega arith) c.body_0 in
    let b1 = block_of 7 (body_bits ws 1) (omega arith) c.body_1 in
    let b2 = block_of 7 (body_bits ws 2) (omega arith) c.body_2 in
    let b3 = block_of 7 (body_bits ws 3) (omega arith) c.body_3 in
    let r0 = repaired 7 (body_bits ws 0) in
    let r1 = repaired 7 (body_bits ws 1) in
    let r2 = repaired 7 (body_bits ws 2) in
    let r3 = repaired 7 (body_bits ws 3) in
    let many = length-four r0 r1 r2 r3 b0.long b1.long b2.long b3.long in
    record {
      carries = record {
        whole = record { header = hb.long; header_bytes = hb.below; bodies = many; body_bytes = All-four r0 r1 r2 r3 b0.below b1.below b2.below b3.below; sync = ns };
        count = long;
        terc = are_terc ws c.terc;
        sync = refl;
        header = hb.begins;
        bodies = body_at r0 r1 r2 r3 b0.long b1.long b2.long b3.long (λ k bs. BeginsWith (body_bits ws k) bs) b0.begins b1.begins b2.begins b3.begins;
      };
      conforms = grind (arith, and_both, eq-eqb, four_small, small_sync);
    }
