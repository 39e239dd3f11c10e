use Rattle.std.proofs.Common.{arith, ◌≡◌, ℕ, ◌<◌, ◌+◌, ◌*◌, ◌∙◌, ap, ap₂, slice_index}
use Rattle.std.proofs.lemmas.Int.{to_z-of_z}
use mir.Syntax.{w32}
use Rattle.tmds_code.specs.Coding.{Sign, sign_of, coded_at}
use Rattle.tmds_code.specs.Places.{place_of}
use Rattle.tmds_code.specs.declared.tables.TheConstants.{CODED}
use Rattle.tmds_code.proofs.TableWords.{table_word, coded_below}
use Rattle.tmds_code.proofs.coding.encode.Goals as goal

value_is : (s : Sign) (b value p c : ℕ) → value ≡ slice_index CODED (256 * p + c) → p ≡ place_of s → c ≡ b → b < 256 → value ≡ coded_at s b
value_is s b value p c e f g lt = e ∙ ap₂ (λ q d. slice_index CODED (256 * q + d)) f g ∙ table_word s b lt

pub of-requires : goal.of-requires
of-requires c =
    let s = sign_of c.args.disparity in
    let value : c.coded-value.result ≡ coded_at s c.args.byte = value_is s c.args.byte c.coded-value.result c.sign.result c.from.result c.coded-value.ensures (c.sign.ensures ∙ ap (λ z. place_of (sign_of z)) (to_z-of_z w32 c.args.disparity c.ranges.disparity)) c.from.ensures c.ranges.byte.fits in
    let below : coded_at s c.args.byte < 1024 = coded_below s c.args.byte c.ranges.byte.fits in
    omega arith

pub returns : goal.returns
returns c = c.of.ensures ∙ value_is (sign_of c.args.disparity) c.args.byte c.coded-value.result c.sign.result c.from.result c.coded-value.ensures (c.sign.ensures ∙ ap (λ z. place_of (sign_of z)) (to_z-of_z w32 c.args.disparity c.ranges.disparity)) c.from.ensures c.ranges.byte.fits
