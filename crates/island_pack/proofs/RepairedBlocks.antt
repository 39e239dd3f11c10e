-- What is repaired of 32 columns is a packet, and each block is repaired as its verdict says.
use Rattle.std.proofs.Common.{◌≡◌, ℕ, suc, zero, ◌+◌, ◌*◌, ◌<◌, ◌≤◌, Bool, List, ◌++◌, length, take, drop, refl, ap, ap₂, ◌∙◌, sym, subst, arith, All, length-drop, length-take-le}
use Rattle.std.proofs.lemmas.List.{length-map}
use Rattle.std.proofs.lemmas.List.Elements.{All-nil, All-cons}
use Rattle.std.proofs.Math.Seq.{take-add}
use Rattle.tmds_word.specs.Bits.{number, bits_of as number_bits}
use Rattle.tmds_word.proofs.Numbers.{number-take, bits_of-number}
use Rattle.island_pack.proofs.Registers.{eight_bits}
use Rattle.bch_block.specs.Bits.{byte_bits, bits_of_bytes}
use Rattle.bch_block.specs.declared.Verdict.{Verdict}
use Rattle.bch_block.proofs.Distances.{length-flipped}
use Rattle.island_pack.specs.Nibbles.{nibbles_of, sync_values, header_bits, body_bits}
use Rattle.island_pack.specs.Taken.{after, IsTaken, Taken}
use Rattle.island_pack.specs.Repaired.{verdict_of, bytes_in, repaired, packet_in, verdicts_in}
use Rattle.island_pack.proofs.Parts.{body_0, body_1, body_2, body_3, each_body, All-four, length-four}
use Rattle.island_pack.proofs.Repaired.{verdict_by, body_long, header_long}

-- the bytes of bits have these bits
byte_back : (y : List Bool) → 8 ≤ length y → byte_bits (number (take 8 y)) ≡ take 8 y
byte_back y long =
    let n = length-take-le 8 y long in
    sym (eight_bits (number (take 8 y))) ∙ ap (λ k. number_bits k (number (take 8 y))) (sym n) ∙ bits_of-number (take 8 y)

bytes_back : (n : ℕ) (y : List Bool) → 8 * n ≤ length y → bits_of_bytes (bytes_in n y) ≡ take (8 * n) y
unfolding bytes_in
bytes_back zero y long = refl
bytes_back (suc n) y long =
    let e : 8 + 8 * n ≡ 8 * suc n = omega arith in
    ap₂ (λ (x z : List Bool). x ++ z) (byte_back y (omega arith)) (bytes_back n (drop 8 y) (omega (arith, length-drop 8 y)))
    ∙ sym (take-add 8 (8 * n) y) ∙ ap (λ k. take k y) e

length-bytes_in : (n : ℕ) (y : List Bool) → length (bytes_in n y) ≡ n
unfolding bytes_in
length-bytes_in zero y = refl
length-bytes_in (suc n) y = ap suc (length-bytes_in n (drop 8 y))

bytes_below : (n : ℕ) (y : List Bool) → All (λ b. b < 256) (bytes_in n y)
unfolding bytes_in
bytes_below zero y = All-nil (λ b. b < 256)
bytes_below (suc n) y =
    let e = number-take 8 y in
    All-cons (λ b. b < 256) (number (take 8 y)) (bytes_in n (drop 8 y)) (omega arith) (bytes_below n (drop 8 y))

length-after : (x : List Bool) (v : Verdict) → length (after x v) ≡ length x
length-after x v = grind (arith, length-flipped)

-- a block
block_taken : (n : ℕ) (x : List Bool) → 8 * n ≤ length x → 8 ≤ length x → length x ≤ 64 → IsTaken x (repaired n x) (verdict_of x)
unfolding repaired verdict_of
block_taken n x room least most = grind (arith, verdict_by, bytes_back, length-after, length-bytes_in)

length-repaired : (n : ℕ) (x : List Bool) → length (repaired n x) ≡ n
unfolding repaired
length-repaired n x = length-bytes_in n (after x (verdict_of x))

repaired_below : (n : ℕ) (x : List Bool) → All (λ b. b < 256) (repaired n x)
unfolding repaired
repaired_below n x = bytes_below n (after x (verdict_of x))

-- the bodies one after another, cut again
cut : (x : List Bool) (bytes own : List ℕ) (v : Verdict) → bytes ≡ own → IsTaken x own v → IsTaken x bytes v
cut x bytes own v e taken = subst (λ (ys : List ℕ). IsTaken x ys v) (sym e) taken

pub repaired_is_taken : (ws : List (List ℕ)) → length ws ≡ 32 → Taken ws (packet_in ws) (verdicts_in ws)
unfolding packet_in verdicts_in sync_values nibbles_of repaired bytes_in
repaired_is_taken ws long =
    let body : ℕ → List ℕ = λ b. repaired 7 (body_bits ws b) in
    let seven : (b : ℕ) → length (body b) ≡ 7 = λ b. length-repaired 7 (body_bits ws b) in
    let below : (b : ℕ) → All (λ v. v < 256) (body b) = λ b. repaired_below 7 (body_bits ws b) in
    let block : (b : ℕ) → IsTaken (body_bits ws b) (body b) (verdict_of (body_bits ws b)) =
    λ b. block_taken 7 (body_bits ws b) (omega (arith, body_long ws b long)) (omega (arith, body_long ws b long)) (omega (arith, body_long ws b long)) in
    let n = header_long ws long in
    record {
      whole = record {
        header = length-repaired 3 (header_bits ws);
        header_bytes = repaired_below 3 (header_bits ws);
        bodies = length-four (body 0) (body 1) (body 2) (body 3) (seven 0) (seven 1) (seven 2) (seven 3);
        body_bytes = All-four (body 0) (body 1) (body 2) (body 3) (below 0) (below 1) (below 2) (below 3);
        sync = length-map (nibbles_of ws 0) _ ∙ length-map ws _ ∙ long;
      };
      sync = refl;
      bodies = each_body _
          (cut _ _ _ _ (body_0 (body 0) (body 1) (body 2) (body 3) (seven 0)) (block 0))
          (cut _ _ _ _ (body_1 (body 0) (body 1) (body 2) (body 3) (seven 0) (seven 1)) (block 1))
          (cut _ _ _ _ (body_2 (body 0) (body 1) (body 2) (body 3) (seven 0) (seven 1) (seven 2)) (block 2))
          (cut _ _ _ _ (body_3 (body 0) (body 1) (body 2) (body 3) (seven 0) (seven 1) (seven 2) (seven 3)) (block 3));
      header = block_taken 3 (header_bits ws) (omega (arith, n)) (omega (arith, n)) (omega (arith, n));
      blocks = refl;
      symbols = refl;
    }
