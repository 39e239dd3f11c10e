use Rattle.std.proofs.Common.{rules, ◌≡◌, ◌*◌, ◌++◌, ◌∷◌, [], List, length, map, ap, refl, sym, subst, ◌∙◌, append_assoc, append-nil, length-append, arith}
use Rattle.std.specs.List.{list_all}
use Rattle.std.specs.Vec.Iter.{into_iter_items}
use Rattle.tmds_word.specs.Column.{Column}
use Rattle.terc4.specs.Columns.{one_if}
use Rattle.island_pack.specs.Periods.{Period, columns_of}
use Rattle.island_pack.specs.Spelling.{Spells}
use Rattle.source_end.specs.ItemPeriods.{period_of}
use Rattle.source_end.specs.Kept.{is_sendable}
use Rattle.source_end.specs.Raster.{Part}
use Rattle.source_end.specs.Gathering.{Parted}
use Rattle.source_end.proofs.Spellings.{joined}
use Rattle.source_end.proofs.Streams.{Spells-append}
use Rattle.source_end.proofs.Fronts.{ok_map}
use Rattle.source_end.proofs.RasterModes.{no_bad_mode}
use Rattle.source_end.proofs.RasterWriting.{none_bodies}
use Rattle.source_end.proofs.RasterFrames.{parted_none, next_frame, next_parted, next_begins, whole, all_begin, more_sendable, more_fits}
use Rattle.source_end.proofs.rasters.spell_frames.Goals as goal

pub loop-frame-init : goal.loop-frame-init
loop-frame-init g c = record {
  frames = c.into_iter-frame-iterator.ensures.into_iter_gives.0 ∙ c.into_frames-frame-items.ensures.value;
  count = search rules;
  periods = [];
  columns = [];
  parted = subst (λ (ps : List Part). Parted [] c.new-gathering.result ps) (sym (none_bodies c.args.mode.now)) (parted_none c.new-gathering.result c.new-gathering.ensures);
  taken = sym (append-nil (g.C.ColumnSink.taken c.args.out.now));
  spelled = refl;
}

pub ended_by-requires : goal.ended_by-requires
ended_by-requires g c =
    let right = next_frame c.args.mode.now c.args.content c.loop-frame.yielded _ c.in-Some.frame _ c.loop-frame.invariant.frames c.in-Some.ensures.steps.0 c.requires.fault in
    record { mode = no_bad_mode c.args.mode.now c.args.content c.requires.fault; rows = right.rows; height = right.count }

pub items-requires : goal.items-requires
items-requires g c =
    let mode = c.args.mode.now in
    let frames = c.args.content in
    let at = c.loop-frame in
    let was = at.invariant in
    let f = c.in-Some.frame in
    let first = c.in-Some.ensures.steps.0 in
    let more = map period_of c.in_ok-items.items.items in
    let parted = next_parted mode frames at.yielded _ f _ was.periods more at.gathering c.ended_by.new.gathering was.frames first c.requires.fault was.parted c.in_ok-items.ensures in
    let begins = next_begins mode frames at.yielded _ f _ (was.periods ++ more) c.ended_by.new.gathering was.frames first parted in
    let fits = more_fits mode frames was.periods more was.columns c.requires.fault begins was.spelled in
    let long = ap length was.taken ∙ length-append (g.C.ColumnSink.taken c.args.out.now) was.columns in
    record {
      sendable =
          ap (λ xs. list_all is_sendable (map period_of xs)) c.as_slice.ensures.value
          ∙ more_sendable mode frames was.periods more c.requires.fault c.into_frames-frame-items.ensures.content begins;
      room = omega (arith, fits, long, ap (λ xs. columns_of (map period_of xs)) c.as_slice.ensures.value, c.requires.room);
    }

pub loop-frame-preserved : goal.loop-frame-preserved
loop-frame-preserved g c =
    let at = c.loop-frame in
    let was = at.invariant in
    let f = c.in-Some.frame in
    let first = c.in-Some.ensures.steps.0 in
    let gone = c.in-Some.ensures.steps.1 in
    let more = map period_of c.in_ok-items.items.items in
    let own = c.in_ok-items-2.ensures.ok in
    record {
      frames = append_assoc at.yielded (f ∷ []) (into_iter_items c.next.new.self) ∙ ap (λ fs. at.yielded ++ fs) (sym first) ∙ was.frames;
      count = omega (arith, was.count, gone, ap length first);
      periods = was.periods ++ more;
      columns = was.columns ++ own.0;
      parted = next_parted c.args.mode.now c.args.content at.yielded _ f _ was.periods more at.gathering c.ended_by.new.gathering was.frames first c.requires.fault was.parted c.in_ok-items.ensures;
      taken = joined (g.C.ColumnSink.taken c.args.out.now) (g.C.ColumnSink.taken at.out) (g.C.ColumnSink.taken c.items.new.out) was.columns own.0 was.taken own.1;
      spelled = Spells-append was.periods more was.columns own.0 was.spelled (subst (λ xs. Spells (map period_of xs) own.0) c.as_slice.ensures.value own.2);
    }

pub items-requires-2 : goal.items-requires-2
items-requires-2 g c =
    let mode = c.args.mode.now in
    let frames = c.args.content in
    let at = c.loop-frame in
    let was = at.invariant in
    let v = c.sync_value.result in
    let value : v ≡ 3 * one_if mode.positive = omega (arith, c.sync_value.ensures.value) in
    let more = map period_of c.in_ok-items-3.items.items in
    let all = whole mode frames at.yielded _ was.periods more at.gathering c.columns.new.self v was.frames (sym was.count ∙ c.in-None.ensures.steps.0) c.requires.fault was.parted value c.in_ok-columns.ensures c.in_ok-items-3.ensures in
    let begin = all_begin mode frames (was.periods ++ more) all in
    let fits = more_fits mode frames was.periods more was.columns c.requires.fault begin was.spelled in
    let long = ap length was.taken ∙ length-append (g.C.ColumnSink.taken c.args.out.now) was.columns in
    record {
      sendable =
          ap (λ xs. list_all is_sendable (map period_of xs)) c.as_slice-2.ensures.value
          ∙ more_sendable mode frames was.periods more c.requires.fault c.into_frames-frame-items.ensures.content begin;
      room = omega (arith, fits, long, ap (λ xs. columns_of (map period_of xs)) c.as_slice-2.ensures.value, c.requires.room);
    }

pub returns : goal.returns
returns g c =
    let mode = c.args.mode.now in
    let frames = c.args.content in
    let at = c.loop-frame in
    let was = at.invariant in
    let v = c.sync_value.result in
    let value : v ≡ 3 * one_if mode.positive = omega (arith, c.sync_value.ensures.value) in
    let more = map period_of c.in_ok-items-3.items.items in
    let all = whole mode frames at.yielded _ was.periods more at.gathering c.columns.new.self v was.frames (sym was.count ∙ c.in-None.ensures.steps.0) c.requires.fault was.parted value c.in_ok-columns.ensures c.in_ok-items-3.ensures in
    let new = g.C.ColumnSink.taken c.items-2.new.out in
    ok_map c.items-2.result
    (λ (own : (columns : List Column) × (new ≡ g.C.ColumnSink.taken at.out ++ columns) × Spells (map period_of c.as_slice-2.result.now) columns). (
      was.columns ++ own.0,
      joined (g.C.ColumnSink.taken c.args.out.now) (g.C.ColumnSink.taken at.out) new was.columns own.0 was.taken own.1,
      subst (λ (ps : List Period). Spells ps (was.columns ++ own.0)) (sym all)
          (Spells-append was.periods more was.columns own.0 was.spelled (subst (λ xs. Spells (map period_of xs) own.0) c.as_slice-2.ensures.value own.2)),
    ))
    c.items-2.ensures.ok
