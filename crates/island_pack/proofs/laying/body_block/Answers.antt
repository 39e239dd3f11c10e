use Rattle.std.proofs.Common.{◌≡◌, ℕ, ◌+◌, ◌*◌, ◌≤◌, List, [], ◌∷◌, ◌++◌, length, take, drop, get_or, ap, refl, sym, subst, ◌∙◌, arith}
use Rattle.tmds_word.specs.Bits.{bits_of as number_bits}
use Rattle.bch_block.specs.Bits.{bits_of_bytes}
use Rattle.bch_block.specs.Block.{IsBlock}
use Rattle.island_pack.proofs.Parts.{seven_from}
use Rattle.island_pack.proofs.Registers.{begins, bits_of_number, number_of_eight, fits_eight}
use Rattle.island_pack.proofs.laying.body_block.Goals as goal

pub returns-clause-block : goal.returns-clause-block
returns-clause-block c =
    let bodies = c.args.bodies.now in
    let n = 7 * c.args.b in
    let last = c.parity64.result in
    let at : ℕ → ℕ = λ i. get_or bodies i 0 in
    let fits = c.fits-bodies in
    let inside : n + 7 ≤ length bodies = omega (arith, c.told-bodies, c.requires) in
    let body = seven_from bodies n inside in
    let after : List ℕ → List ℕ = λ ys. ys ++ last ∷ [] in
    let bits : number_bits 64 c.from_le_bytes.result ≡ bits_of_bytes (after (take 7 (drop n bodies))) =
    ap (number_bits 64) (number_of_eight (at n) (at (n + 1)) (at (n + 2)) (at (n + 3)) (at (n + 4)) (at (n + 5)) (at (n + 6)) last _ c.from_le_bytes.ensures)
    ∙ bits_of_number (at n ∷ at (n + 1) ∷ at (n + 2) ∷ at (n + 3) ∷ at (n + 4) ∷ at (n + 5) ∷ at (n + 6) ∷ last ∷ []) 64 refl
    (fits_eight (at n) (at (n + 1)) (at (n + 2)) (at (n + 3)) (at (n + 4)) (at (n + 5)) (at (n + 6)) last
    (fits n) (fits (n + 1)) (fits (n + 2)) (fits (n + 3)) (fits (n + 4)) (fits (n + 5)) (fits (n + 6)) c.parity64.type_inv)
    ∙ sym (ap (λ ys. bits_of_bytes (after ys)) body) in
    begins _ (take 7 (drop n bodies)) last bits (subst (λ ys. IsBlock (bits_of_bytes (after ys))) (sym body) c.parity64.ensures.block)
