use Rattle.std.proofs.Common.{rules, length, take}
use Rattle.std.proofs.lemmas.Result.{err_from_is_err_and}
use Rattle.biphase_listing.proofs.Ends.{Fills, begun_of, full_of, judged_more, judged_stopped, judges_rest, less_of, piece_few, piece_more, stopped_as, through_as, read_stopped}
use Rattle.biphase_listing.proofs.reading.list_next.Goals as goal

pub judge-requires-clause-count : goal.judge-requires-clause-count
judge-requires-clause-count g c =
    piece_few c.args.frames.now c.list_piece.new.frames c.read_full.new.into c.in-Ok.count _ _ c.list_piece.result
    (record { bound = c.in-Ok.ensures.bound; size = search rules; few = c.requires.few }) c.list_piece.ensures.lists

pub returns-in_err-list_piece-in-Ok-clause-stopped : goal.returns-in_err-list_piece-in-Ok-clause-stopped
returns-in_err-list_piece-in-Ok-clause-stopped g c = λ from held h.
    let p = err_from_is_err_and c.from_residual.result c.from_residual.ensures.1 in
    let fills : Fills c.args.frames.now c.read_full.new.into c.in-Ok.count = record { bound = c.in-Ok.ensures.bound; size = search rules; few = c.requires.few } in
    let begun = begun_of from _ _ held _ c.args.frames.now c.read_full.new.into c.in-Ok.count fills c.in-Ok.ensures.bytes h in
    rw (p.1, p.2)
    (stopped_as from _ _ held _ _ c.args.frames.now c.list_piece.new.frames (take c.in-Ok.count c.read_full.new.into) c.list_piece.result c.in_err-list_piece-in-Ok.field-0.0 c.in_err-list_piece-in-Ok.was begun c.list_piece.ensures.lists)

pub returns-in_err-list_piece-in-Err-clause-stopped : goal.returns-in_err-list_piece-in-Err-clause-stopped
returns-in_err-list_piece-in-Err-clause-stopped g c = λ from held h.
    let p = err_from_is_err_and c.from_residual-in_err-list_piece-in-Err.result c.from_residual-in_err-list_piece-in-Err.ensures.1 in
    let fills : Fills c.args.frames.now c.read_full.new.into c.in-Err.got.arrived = record { bound = search rules; size = search rules; few = c.requires.few } in
    let begun = begun_of from _ _ held _ c.args.frames.now c.read_full.new.into c.in-Err.got.arrived fills c.in-Err.ensures.part h in
    rw (p.1, p.2)
    (stopped_as from _ _ held _ _ c.args.frames.now c.list_piece-in-Err.new.frames (take c.in-Err.got.arrived c.read_full.new.into) c.list_piece-in-Err.result c.in_err-list_piece-in-Err.field-0.0 c.in_err-list_piece-in-Err.was begun c.list_piece-in-Err.ensures.lists)

pub returns-in_ok-list_piece-in-Err-clause-stopped : goal.returns-in_ok-list_piece-in-Err-clause-stopped
returns-in_ok-list_piece-in-Err-clause-stopped g c = λ from held h.
    let fills : Fills c.args.frames.now c.read_full.new.into c.in-Err.got.arrived = record { bound = search rules; size = search rules; few = c.requires.few } in
    let begun = begun_of from _ _ held _ c.args.frames.now c.read_full.new.into c.in-Err.got.arrived fills c.in-Err.ensures.part h in
    read_stopped from _ held _ c.list_piece-in-Err.new.frames _ _
    (through_as from _ _ held _ _ c.args.frames.now c.list_piece-in-Err.new.frames (take c.in-Err.got.arrived c.read_full.new.into) c.list_piece-in-Err.result c.in_ok-list_piece-in-Err.field-0 c.in_ok-list_piece-in-Err.was begun c.list_piece-in-Err.ensures.lists)

pub returns-in_ok-list_piece-in-Ok-clause-more : goal.returns-in_ok-list_piece-in-Ok-clause-more
returns-in_ok-list_piece-in-Ok-clause-more g c = λ from held h.
    let fills : Fills c.args.frames.now c.read_full.new.into c.in-Ok.count = record { bound = c.in-Ok.ensures.bound; size = search rules; few = c.requires.few } in
    let begun = begun_of from _ _ held _ c.args.frames.now c.read_full.new.into c.in-Ok.count fills c.in-Ok.ensures.bytes h in
    let through = through_as from _ _ held _ _ c.args.frames.now c.list_piece.new.frames (take c.in-Ok.count c.read_full.new.into) c.list_piece.result c.in_ok-list_piece-in-Ok.field-0 c.in_ok-list_piece-in-Ok.was begun c.list_piece.ensures.lists in
    judged_more from _ held _ c.list_piece.new.frames _ _ through _ c.judge.result (full_of c.args.frames.now c.read_full.new.into c.in-Ok.count fills)
    (judges_rest from _ held _ c.args.frames.now c.list_piece.new.frames c.read_full.new.into c.in-Ok.count _ c.judge.result fills through c.judge.ensures)

pub returns-in_ok-list_piece-in-Ok-clause-stopped : goal.returns-in_ok-list_piece-in-Ok-clause-stopped
returns-in_ok-list_piece-in-Ok-clause-stopped g c = λ from held h.
    let fills : Fills c.args.frames.now c.read_full.new.into c.in-Ok.count = record { bound = c.in-Ok.ensures.bound; size = search rules; few = c.requires.few } in
    let begun = begun_of from _ _ held _ c.args.frames.now c.read_full.new.into c.in-Ok.count fills c.in-Ok.ensures.bytes h in
    let through = through_as from _ _ held _ _ c.args.frames.now c.list_piece.new.frames (take c.in-Ok.count c.read_full.new.into) c.list_piece.result c.in_ok-list_piece-in-Ok.field-0 c.in_ok-list_piece-in-Ok.was begun c.list_piece.ensures.lists in
    judged_stopped from _ held _ c.list_piece.new.frames _ _ through _ c.judge.result
    (λ other. c.in-Ok.ensures.end (less_of c.in-Ok.count (length c.read_full.new.into) c.in-Ok.ensures.bound other))
    (judges_rest from _ held _ c.args.frames.now c.list_piece.new.frames c.read_full.new.into c.in-Ok.count _ c.judge.result fills through c.judge.ensures)

pub returns-in_ok-list_piece-in-Ok-clause-on : goal.returns-in_ok-list_piece-in-Ok-clause-on
returns-in_ok-list_piece-in-Ok-clause-on g c =
    let fills : Fills c.args.frames.now c.read_full.new.into c.in-Ok.count = record { bound = c.in-Ok.ensures.bound; size = search rules; few = c.requires.few } in
    piece_more c.args.frames.now c.list_piece.new.frames c.read_full.new.into c.in-Ok.count _ _ c.list_piece.result c.in_ok-list_piece-in-Ok.field-0 c.judge.result c.in_ok-list_piece-in-Ok.was fills c.list_piece.ensures.lists c.judge.ensures

pub returns-in_err-list_piece-in-Ok-clause-taken : goal.returns-in_err-list_piece-in-Ok-clause-taken
returns-in_err-list_piece-in-Ok-clause-taken g c = (take c.in-Ok.count c.read_full.new.into, c.in-Ok.ensures.bytes)

pub returns-in_ok-list_piece-in-Ok-clause-taken : goal.returns-in_ok-list_piece-in-Ok-clause-taken
returns-in_ok-list_piece-in-Ok-clause-taken g c = (take c.in-Ok.count c.read_full.new.into, c.in-Ok.ensures.bytes)

pub returns-in_err-list_piece-in-Err-clause-taken : goal.returns-in_err-list_piece-in-Err-clause-taken
returns-in_err-list_piece-in-Err-clause-taken g c = (take c.in-Err.got.arrived c.read_full.new.into, c.in-Err.ensures.part)

pub returns-in_ok-list_piece-in-Err-clause-taken : goal.returns-in_ok-list_piece-in-Err-clause-taken
returns-in_ok-list_piece-in-Err-clause-taken g c = (take c.in-Err.got.arrived c.read_full.new.into, c.in-Err.ensures.part)
