use Rattle.std.proofs.Common.{arith, ◌+◌, ◌*◌, ◌-◌, ◌^◌, min, length, List, Some, None, sym, ap, ◌∙◌}
use Rattle.source_end.specs.Content.{Frame}
use Rattle.source_end.specs.Raster.{total}
use Rattle.source_end.specs.RasterRefusals.{bad_rows, no_room}
use Rattle.source_end.proofs.RasterFaults.{at_mode, at_rows, at_room, at_long, at_none}
use Rattle.source_end.proofs.refusal.raster_fault.Goals as goal

pub returns-in-Some : goal.returns-in-Some
returns-in-Some c = at_mode c.args.mode.now c.args.content.now c.in-Some.fault (sym c.mode_fault.ensures ∙ c.in-Some.is)

pub returns-in-Some-rows_fault : goal.returns-in-Some-rows_fault
returns-in-Some-rows_fault c = grind (arith, at_rows)

pub returns-in-Some-room_fault : goal.returns-in-Some-room_fault
returns-in-Some-room_fault c =
    let mode = c.args.mode.now in
    let same = c.frames-frames.ensures.value in
    at_room mode c.args.content.now (Some c.in-Some-room_fault.fault) (sym c.mode_fault.ensures ∙ c.in_default.is) (sym (c.rows_fault.ensures ∙ ap (bad_rows mode 0) same) ∙ c.in_default-rows_fault.is)
    (sym (c.room_fault.ensures ∙ ap (no_room mode 0) same) ∙ c.in-Some-room_fault.is)

pub returns-then-raster_columns-from : goal.returns-then-raster_columns-from
returns-then-raster_columns-from c =
    let mode = c.args.mode.now in
    let most = c.from.ensures in
    let more = c.if-raster_columns-from.true in
    let same = c.frames-frames.ensures.value in
    sym (at_long mode c.args.content.now c.raster_columns.result (c.raster_columns.ensures ∙ ap (λ (fs : List Frame). min (length fs * (total mode.across * total mode.down) + 32) (2 ^ 64 - 1)) same) (omega (arith, most, more)))
    ∙ at_room mode c.args.content.now None (sym c.mode_fault.ensures ∙ c.in_default.is) (sym (c.rows_fault.ensures ∙ ap (bad_rows mode 0) same) ∙ c.in_default-rows_fault.is)
    (sym (c.room_fault.ensures ∙ ap (no_room mode 0) same) ∙ c.in_default-room_fault.is)

pub returns : goal.returns
returns c =
    let mode = c.args.mode.now in
    let most = c.from.ensures in
    let few = c.if-raster_columns-from.false in
    let same = c.frames-frames.ensures.value in
    sym (at_none mode c.args.content.now c.raster_columns.result (c.raster_columns.ensures ∙ ap (λ (fs : List Frame). min (length fs * (total mode.across * total mode.down) + 32) (2 ^ 64 - 1)) same) (omega (arith, most, few)))
    ∙ at_room mode c.args.content.now None (sym c.mode_fault.ensures ∙ c.in_default.is) (sym (c.rows_fault.ensures ∙ ap (bad_rows mode 0) same) ∙ c.in_default-rows_fault.is)
    (sym (c.room_fault.ensures ∙ ap (no_room mode 0) same) ∙ c.in_default-room_fault.is)
