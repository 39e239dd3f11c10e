use Rattle.std.proofs.Common.{◌≡◌, ℕ, List, [], ◌∷◌, ◌++◌, get_or, ap, refl, sym, ◌∙◌}
use Rattle.tmds_word.specs.Bits.{bits_of as number_bits}
use Rattle.bch_block.specs.Bits.{bits_of_bytes}
use Rattle.island_pack.proofs.Parts.{three}
use Rattle.island_pack.proofs.Registers.{begins, bits_of_number, number_of_four, fits_four}
use Rattle.island_pack.proofs.laying.header_block.Goals as goal

pub returns-clause-block : goal.returns-clause-block
returns-clause-block c =
    let header = c.args.header.now in
    let last = c.parity32.result in
    let at : ℕ → ℕ = λ i. get_or header i 0 in
    let bits : number_bits 32 c.from_le_bytes.result ≡ bits_of_bytes (header ++ last ∷ []) =
    ap (number_bits 32) (number_of_four (at 0) (at 1) (at 2) last _ c.from_le_bytes.ensures)
    ∙ bits_of_number (at 0 ∷ at 1 ∷ at 2 ∷ last ∷ []) 32 refl
    (fits_four (at 0) (at 1) (at 2) last (c.fits-header 0) (c.fits-header 1) (c.fits-header 2) c.parity32.type_inv)
    ∙ sym (ap (λ (ys : List ℕ). bits_of_bytes (ys ++ last ∷ [])) (three header c.told-header)) in
    begins _ header last bits c.parity32.ensures.block
