use Rattle.std.proofs.Common.{◌≡◌, ◌+◌, ◌/◌, ℕ, List, sym, arith, length, take, take-take, length-take, subst}
use Rattle.tmds_word.specs.Bits.{bytes_bits}
use Rattle.tmds_word.proofs.Lists.{length-bytes_bits}
use Rattle.lane_align.specs.Search.{Holds}
use Rattle.lane_align.specs.Aligners.{EndsFirst}
use Rattle.lane_align.proofs.Controls.{run_within}
use Rattle.lane_align.proofs.Parts.{first_held, none_held}
use Rattle.lane_align.proofs.seeking.whole_run.Goals as goal

whole_holds : (bytes : List ℕ) (bits : ℕ) → length bytes ≡ (bits + 7) / 8 → Holds bytes (take bits (bytes_bits bytes)) 0 bits
whole_holds bytes bits long =
    let bs = bytes_bits bytes in
    record { within = omega (arith, length-take bits bs, length-bytes_bits bytes); bits = sym (take-take bits bits bs (omega arith)) }

pub returns-in-Some-clause-found : goal.returns-in-Some-clause-found
returns-in-Some-clause-found c =
    let bytes = c.args.bytes.now in
    let bits = c.args.bits in
    let us = take bits (bytes_bits bytes) in
    let holds = whole_holds bytes bits c.requires.bytes in
    let first = c.in-Some.ensures in
    let before = first.other.before in
    let end : 0 + c.in-Some.place + 120 ≡ c.in-Some.place + 119 + 1 = omega arith in (
      omega arith,
      omega arith,
      c.write_run.ensures.words,
      subst (λ n. EndsFirst us n (take 12 c.write_run.new.row)) end
          (first_held bytes us 0 bits 0 c.saturating_sub.result c.in-Some.place holds (omega (arith, c.saturating_sub.ensures)) (λ q less run. omega arith) first _ c.write_run.ensures.row),
    )

pub returns-in-None-clause-found : goal.returns-in-None-clause-found
returns-in-None-clause-found c p run =
    let bytes = c.args.bytes.now in
    let bits = c.args.bits in
    let us = take bits (bytes_bits bytes) in
    let within = run_within us p run in
    let len = length-take bits (bytes_bits bytes) in
    let room = length-bytes_bits bytes in
    none_held bytes us 0 bits 0 c.saturating_sub.result (whole_holds bytes bits c.requires.bytes) (omega (arith, c.saturating_sub.ensures, room)) c.in-None.ensures p (omega arith) (omega (arith, c.saturating_sub.ensures)) run
