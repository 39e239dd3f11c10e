use Rattle.std.proofs.Common.{◌≡◌, ℕ, ◌*◌, ◌<◌, length, take, get_or, replicate, map, List, ◌++◌, sym, ap, subst, ◌∙◌, arith}
use Rattle.std.proofs.lemmas.List.{take_more, take_all}
use Rattle.std.specs.Prelude.{IfOk}
use Rattle.terc4.specs.Columns.{one_if}
use Rattle.island_pack.specs.Periods.{Period}
use Rattle.source_end.specs.ItemPeriods.{period_of}
use Rattle.source_end.specs.Content.{Frame}
use Rattle.source_end.specs.Raster.{Part, column, active, laid, lines_of, gathered, raster_of}
use Rattle.source_end.specs.Lines.{AreWide}
use Rattle.source_end.specs.Gathering.{Has}
use Rattle.source_end.proofs.RasterModes.{IsFrame, good_mode, good_frames, no_bad_mode, few_columns}
use Rattle.source_end.proofs.RasterFaults.{frame_at}
use Rattle.source_end.proofs.RasterWriting.{bodies, none_bodies, bodies_more, parts_bodies, few_so_far, few_at_end}
use Rattle.source_end.proofs.rasters.items_of.Goals as goal

pub loop-frame-init : goal.loop-frame-init
loop-frame-init c = subst (λ (ps : List Part). Has c.new-out.result ps) (sym (none_bodies c.args.mode.now)) c.new-out.ensures

pub frame-requires : goal.frame-requires
frame-requires c =
    let mode = c.args.mode.now in
    let frames = c.args.content.now in
    let d = c.frame-item.result in
    let i = c.loop-frame.frame-index in
    let same = c.frames-frame-items.ensures.value in
    let lt : i < length frames = omega (arith, ap length same, c.loop-frame-test.true) in
    let is : d ≡ get_or frames i d = c.frame-item.is ∙ ap (λ (fs : List Frame). get_or fs i d) same in
    let right : IsFrame mode (get_or frames i d) = frame_at mode frames i d (good_frames mode frames c.requires) lt in
    record {
      mode = no_bad_mode mode frames c.requires;
      rows = subst (λ (f : Frame). AreWide (active mode.across) f.rows) (sym is) right.rows;
      height = ap (λ (f : Frame). length f.rows) is ∙ right.count;
    }

pub loop-frame-preserved : goal.loop-frame-preserved
loop-frame-preserved c =
    let mode = c.args.mode.now in
    let frames = c.args.content.now in
    let d = c.frame-item.result in
    let i = c.loop-frame.frame-index in
    let same = c.frames-frame-items.ensures.value in
    let lt : i < length frames = omega (arith, ap length same, c.loop-frame-test.true) in
    let is : d ≡ get_or frames i d = c.frame-item.is ∙ ap (λ (fs : List Frame). get_or fs i d) same in
    let now = bodies mode (take i frames) in
    let few = few_so_far mode (good_mode mode frames c.requires) frames (good_frames mode frames c.requires) i lt (few_columns mode frames c.requires) in
    subst (λ (ps : List Part). Has c.frame.new.out ps)
    (ap (λ (f : Frame). now ++ laid mode (lines_of mode f) f.packets) is ∙ sym (bodies_more mode (take i frames) (get_or frames i d)) ∙ sym (ap (bodies mode) (take_more frames i d lt)))
    (c.in_ok-frame.ensures now c.loop-frame.invariant few)

pub returns : goal.returns
unfolding raster_of
returns c =
    let mode = c.args.mode.now in
    let frames = c.args.content.now in
    let i = c.loop-frame.frame-index in
    let same = c.frames-frame-items.ensures.value in
    let v = c.sync_value.result in
    let all : take i frames ≡ frames = take_all i frames (omega (arith, ap length same, c.loop-frame-test.false)) in
    let held = subst (λ (fs : List Frame). Has c.loop-frame.out (bodies mode fs)) all c.loop-frame.invariant in
    let few = few_at_end mode (good_mode mode frames c.requires) frames (good_frames mode frames c.requires) (few_columns mode frames c.requires) in
    let value : v ≡ 3 * one_if mode.positive = omega (arith, c.sync_value.ensures.value) in
    subst (λ (ps : List Period). IfOk c.into_items.result (λ items. map period_of items.items ≡ ps))
    (ap gathered (ap (λ (k : ℕ). bodies mode frames ++ replicate 32 (column k)) value ∙ parts_bodies mode frames))
    (c.into_items.ensures (bodies mode frames ++ replicate 32 (column v)) (c.in_ok-columns.ensures (bodies mode frames) held few))
