-- The premises can be met.
use Rattle.std.proofs.Common.{[], ◌∷◌, arith}
use Rattle.tmds_word.specs.Taps.{HasSmallSkew}
use Rattle.link_laws.proofs.Example.{example}
use Rattle.link_sink.specs.Sinks.{Fed}
use Rattle.track_laws.proofs.SlipExample as slips
use Rattle.relock_laws.specs.Laws.{HasLastExample, HasSlipEndExample}
use Rattle.relock_laws.proofs.Last.{until_is_last}
use Rattle.relock_laws.proofs.SlipEnds.{slip_ends}

pub small : HasSmallSkew (0 ∷ 70 ∷ 35 ∷ [])
small = record { blue_green = (omega arith, omega arith); green_red = (omega arith, omega arith); blue_red = (omega arith, omega arith) }

pub last_example : HasLastExample
last_example =
    let h = example in
    let is = h.11 in
    let aligned = h.12 in
    let x : Fed = record { blue = h.5; green = h.6; red = h.7 } in (
      h.0,
      h.1,
      h.2,
      h.3,
      h.4,
      x,
      record {
        example = is;
        aligned = (h.8, h.9, h.10, aligned.first);
        last = until_is_last h.0 h.1 h.2 7 (0 ∷ 70 ∷ 35 ∷ []) h.3 x (record { reception = is.reception; tapped = aligned.tapped }) small h.4 is.aligns;
      },
    )

pub slip_end_example : HasSlipEndExample
slip_end_example =
    let h = slips.example in
    let is = h.9 in
    let ends = slip_ends h.0 h.1 h.2 7 (0 ∷ 70 ∷ 35 ∷ []) h.3 h.4 h.5 0 400 3 h.6 h.7 is.reception is.slips is.in_line in
    let end = ends.ends 0 h.8 is.end in
    (h.0, h.1, h.2, h.3, h.4, h.5, h.6, h.7, h.8, is, end, ends.then 0 h.8 end)
