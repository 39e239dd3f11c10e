use Rattle.std.proofs.Common.{rules, ◌∙◌, ◌/◌, ◌%◌, ◌<◌, ◌^◌, ap, refl, arith}
use Rattle.biphase_listing.specs.Fours.{turned}
use Rattle.biphase_listing.proofs.Fours.{six_fours}
use Rattle.biphase_listing.proofs.Letters.{digits_are}
use Rattle.biphase_listing.proofs.LineDigits.{six_below}
use Rattle.biphase_listing.proofs.frame_line.digits.Goals as goal

pub returns-clause-digits : goal.returns-clause-digits
returns-clause-digits c =
    let side = c.args.side.now in
    let fits : side.fours < 2 ^ 64 = search rules in
    let swapped = six_fours side.sub side.fours fits c.requires in
    digits_are (turned side.sub.value) _ _ (ap (λ n. n / 256 % 281474976710656) c.swap_bytes.ensures ∙ swapped) refl

pub returns-clause-below : goal.returns-clause-below
returns-clause-below c = omega (arith, returns-clause-digits c, six_below (turned c.args.side.now.sub.value))
