use Rattle.std.proofs.Common.{◌≡◌, ℕ, ◌%◌, ◌≤◌, ◌<◌, ◌+◌, ◌-◌, ◌*◌, ◌/◌, ◌++◌, List, [], length, map, take, drop, min, subst, refl, sym, ◌∙◌, arith, length-append, append-nil, take_all, length-take, length-drop}
use Rattle.std.proofs.lemmas.Grind.{common_steps}
use Rattle.tmds_word.specs.Column.{Column}
use Rattle.tmds_code.specs.Lanes.{IsLane}
use Rattle.island_pack.specs.Periods.{Pixel, pixels_of}
use Rattle.source_end.proofs.Spellings.{joined, length-pixels_of}
use Rattle.source_end.proofs.LineCodings.{lane_upto, no_lane, rest_of}
use Rattle.source_end.specs.LineCoding.{AreCoded}
use Rattle.source_end.proofs.Fronts.{on_err}
use Rattle.source_end.proofs.ItemFronts.{coded_front}
use Rattle.source_end.proofs.line_coding.pixels.Goals as goal

pub loop-i-init : goal.loop-i-init
loop-i-init g c =
    let bytes = c.args.bytes.now in
    let none : min (length bytes / 3 / 4 * 4) 0 ≡ 0 = omega arith in
    record {
      columns = [];
      taken = sym (append-nil (g.C.ColumnSink.taken c.args.out.now));
      blue_lane = no_lane c.new.result bytes _ (λ (p : Pixel). p.blue) (λ (k : Column). k.blue) none c.new.ensures;
      green_lane = no_lane c.new-2.result bytes _ (λ (p : Pixel). p.green) (λ (k : Column). k.green) none c.new-2.ensures;
      red_lane = no_lane c.new-3.result bytes _ (λ (p : Pixel). p.red) (λ (k : Column). k.red) none c.new-3.ensures;
      as_many = sym none;
      later = omega arith;
    }

pub loop-i-preserved : goal.loop-i-preserved
loop-i-preserved g c =
    let bytes = c.args.bytes.now in
    let was = c.loop-i.invariant in
    let i = c.loop-i.i in
    let count = length bytes / 3 / 4 * 4 in
    let from = 256 * i in
    let upto = c.min-upto.result in
    let own = c.in_ok-coders.ensures.ok in
    let begun : from < count = omega (arith, c.div_ceil-i-end.ensures, c.loop-i-test.true) in
    let le : from ≤ upto = omega (arith, c.min-upto.ensures, begun) in
    let within : upto ≤ length bytes / 3 = omega (arith, c.min-upto.ensures) in
    let here : min count (256 * i) ≡ from = omega (arith, begun) in
    let next : upto ≡ min count (256 * (i + 1)) = omega (arith, c.min-upto.ensures) in
    let piece = take (3 * upto - 3 * from) (drop (3 * from) bytes) in
    let size : length own.0 ≡ upto - from = own.2.as_many ∙ length-pixels_of piece ∙ omega (arith, length-take (3 * upto - 3 * from) (drop (3 * from) bytes), length-drop (3 * from) bytes, le, within) in
    record {
      columns = was.columns ++ own.0;
      taken = joined (g.C.ColumnSink.taken c.args.out.now) (g.C.ColumnSink.taken c.loop-i.out) (g.C.ColumnSink.taken c.block.new.out) was.columns own.0 was.taken own.1;
      blue_lane = lane_upto c.loop-i.coders.blue c.in_ok-coders.coders.blue bytes piece from upto _ _ was.columns own.0 (λ (p : Pixel). p.blue) (λ (k : Column). k.blue) le here next refl was.blue_lane own.2.blue_lane;
      green_lane = lane_upto c.loop-i.coders.green c.in_ok-coders.coders.green bytes piece from upto _ _ was.columns own.0 (λ (p : Pixel). p.green) (λ (k : Column). k.green) le here next refl was.green_lane own.2.green_lane;
      red_lane = lane_upto c.loop-i.coders.red c.in_ok-coders.coders.red bytes piece from upto _ _ was.columns own.0 (λ (p : Pixel). p.red) (λ (k : Column). k.red) le here next refl was.red_lane own.2.red_lane;
      as_many = length-append was.columns own.0 ∙ omega (arith, was.as_many, size, next, here, le);
      later = omega (arith, was.later, c.in_ok-coders.ensures.cause.later);
    }

pub returns-in_err-coders-clause-part : goal.returns-in_err-coders-clause-part
returns-in_err-coders-clause-part g c =
    let bytes = c.args.bytes.now in
    let was = c.loop-i.invariant in
    let coders = c.loop-i.coders in
    let i = c.loop-i.i in
    let count = length bytes / 3 / 4 * 4 in
    let from = 256 * i in
    let upto = c.min-upto.result in
    let begun : from < count = omega (arith, c.div_ceil-i-end.ensures, c.loop-i-test.true) in
    let le : from ≤ upto = omega (arith, c.min-upto.ensures, begun) in
    let here : min count (256 * i) ≡ from = omega (arith, begun) in
    let piece = take (3 * upto - 3 * from) (drop (3 * from) bytes) in
    on_err c.from_residual.result
    (coded_front (pixels_of bytes) upto (g.C.ColumnSink.taken c.args.out.now) (g.C.ColumnSink.taken c.loop-i.out) (g.C.ColumnSink.taken c.block.new.out) was.columns (AreCoded coders.blue coders.green coders.red (pixels_of piece)) was.taken c.in_err-coders.ensures.part
    (λ own coded. record {
      blue = (lane_upto coders.blue coded.0 bytes piece from upto _ upto was.columns own (λ (p : Pixel). p.blue) (λ (k : Column). k.blue) le here refl refl was.blue_lane coded.3.blue_lane).lane;
      green = (lane_upto coders.green coded.1 bytes piece from upto _ upto was.columns own (λ (p : Pixel). p.green) (λ (k : Column). k.green) le here refl refl was.green_lane coded.3.green_lane).lane;
      red = (lane_upto coders.red coded.2 bytes piece from upto _ upto was.columns own (λ (p : Pixel). p.red) (λ (k : Column). k.red) le here refl refl was.red_lane coded.3.red_lane).lane;
    }))

pub returns-clause-ok : goal.returns-clause-ok
returns-clause-ok g c =
    let bytes = c.args.bytes.now in
    let was = c.loop-i.invariant in
    let i = c.loop-i.i in
    let coders = c.loop-i.coders in
    let after = c.in_ok-rest.field-0 in
    let own = c.in_ok-rest.ensures.ok in
    let count = length bytes / 3 / 4 * 4 in
    let all = length bytes / 3 in
    let le : count ≤ all = omega arith in
    let here : min count (256 * i) ≡ count = omega (arith, c.div_ceil-i-end.ensures, c.loop-i-test.false) in
    let piece = take (length bytes - 3 * count) (drop (3 * count) bytes) in
    let is = rest_of bytes count c.requires.whole in
    let whole : take all (pixels_of bytes) ≡ pixels_of bytes = take_all all (pixels_of bytes) (omega (arith, length-pixels_of bytes)) in
    let blue = lane_upto coders.blue after.blue bytes piece count all _ all was.columns own.0 (λ (p : Pixel). p.blue) (λ (k : Column). k.blue) le here refl is was.blue_lane own.2.blue_lane in
    let green = lane_upto coders.green after.green bytes piece count all _ all was.columns own.0 (λ (p : Pixel). p.green) (λ (k : Column). k.green) le here refl is was.green_lane own.2.green_lane in
    let red = lane_upto coders.red after.red bytes piece count all _ all was.columns own.0 (λ (p : Pixel). p.red) (λ (k : Column). k.red) le here refl is was.red_lane own.2.red_lane in (
      was.columns ++ own.0,
      joined (g.C.ColumnSink.taken c.args.out.now) (g.C.ColumnSink.taken c.loop-i.out) (g.C.ColumnSink.taken c.rest.new.out) was.columns own.0 was.taken own.1,
      record {
        blue = subst (λ (ps : List Pixel). IsLane (map (λ (p : Pixel). p.blue) ps) (map (λ (k : Column). k.blue) (was.columns ++ own.0))) whole blue.lane;
        green = subst (λ (ps : List Pixel). IsLane (map (λ (p : Pixel). p.green) ps) (map (λ (k : Column). k.green) (was.columns ++ own.0))) whole green.lane;
        red = subst (λ (ps : List Pixel). IsLane (map (λ (p : Pixel). p.red) ps) (map (λ (k : Column). k.red) (was.columns ++ own.0))) whole red.lane;
      },
    )

pub returns-in_err-rest-clause-part : goal.returns-in_err-rest-clause-part
returns-in_err-rest-clause-part g c =
    let bytes = c.args.bytes.now in
    let was = c.loop-i.invariant in
    let coders = c.loop-i.coders in
    let i = c.loop-i.i in
    let count = length bytes / 3 / 4 * 4 in
    let all = length bytes / 3 in
    let le : count ≤ all = omega arith in
    let here : min count (256 * i) ≡ count = omega (arith, c.div_ceil-i-end.ensures, c.loop-i-test.false) in
    let piece = take (length bytes - 3 * count) (drop (3 * count) bytes) in
    let is = rest_of bytes count c.requires.whole in
    on_err c.from_residual-in_err-rest.result
    (coded_front (pixels_of bytes) all (g.C.ColumnSink.taken c.args.out.now) (g.C.ColumnSink.taken c.loop-i.out) (g.C.ColumnSink.taken c.rest.new.out) was.columns (AreCoded coders.blue coders.green coders.red (pixels_of piece)) was.taken c.in_err-rest.ensures.part
    (λ own coded. record {
      blue = (lane_upto coders.blue coded.0 bytes piece count all _ all was.columns own (λ (p : Pixel). p.blue) (λ (k : Column). k.blue) le here refl is was.blue_lane coded.3.blue_lane).lane;
      green = (lane_upto coders.green coded.1 bytes piece count all _ all was.columns own (λ (p : Pixel). p.green) (λ (k : Column). k.green) le here refl is was.green_lane coded.3.green_lane).lane;
      red = (lane_upto coders.red coded.2 bytes piece count all _ all was.columns own (λ (p : Pixel). p.red) (λ (k : Column). k.red) le here refl is was.red_lane coded.3.red_lane).lane;
    }))

-- ---- the sizes of a block and of what is left after the blocks

part_size : (bytes : List ℕ) (from upto : ℕ) → from ≤ upto → upto ≤ length bytes → length (take (upto - from) (drop from bytes)) ≡ upto - from
part_size bytes from upto le within = omega (arith, length-take (upto - from) (drop from bytes), length-drop from bytes)

block_size : (bytes : List ℕ) (i upto : ℕ) → upto ≡ min (length bytes / 3 / 4 * 4) (256 * i + 256) → 256 * i < length bytes / 3 / 4 * 4
    → length (take (3 * upto - 3 * (256 * i)) (drop (3 * (256 * i)) bytes)) ≡ 3 * upto - 3 * (256 * i)
block_size bytes i upto end begun = part_size bytes (3 * (256 * i)) (3 * upto) (omega arith) (omega arith)

block_whole : (len i upto n : ℕ) → upto ≡ min (len / 3 / 4 * 4) (256 * i + 256) → 256 * i < len / 3 / 4 * 4 → n ≡ 3 * upto - 3 * (256 * i) → n % 12 ≡ 0
block_whole len i upto n end begun size = omega arith

block_few : (len i upto n : ℕ) → upto ≡ min (len / 3 / 4 * 4) (256 * i + 256) → n ≡ 3 * upto - 3 * (256 * i) → n ≤ 768
block_few len i upto n end size = omega arith

rest_size : (bytes : List ℕ) → length (take (length bytes - 3 * (length bytes / 3 / 4 * 4)) (drop (3 * (length bytes / 3 / 4 * 4)) bytes)) ≡ length bytes - 3 * (length bytes / 3 / 4 * 4)
rest_size bytes = part_size bytes (3 * (length bytes / 3 / 4 * 4)) (length bytes) (omega arith) (omega arith)

rest_whole : (len n : ℕ) → len % 3 ≡ 0 → n ≡ len - 3 * (len / 3 / 4 * 4) → n % 3 ≡ 0
rest_whole len n whole size = omega arith

rest_few : (len n : ℕ) → len % 3 ≡ 0 → n ≡ len - 3 * (len / 3 / 4 * 4) → n ≤ 12
rest_few len n whole size = omega arith

pub block-requires-clause-whole : goal.block-requires-clause-whole
block-requires-clause-whole g c =
    let bytes = c.args.bytes.now in
    let begun : 256 * c.loop-i.i < length bytes / 3 / 4 * 4 = omega (arith, c.div_ceil-i-end.ensures, c.loop-i-test.true) in
    block_whole (length bytes) c.loop-i.i c.min-upto.result _ c.min-upto.ensures begun (block_size bytes c.loop-i.i c.min-upto.result c.min-upto.ensures begun)

pub block-requires-clause-few : goal.block-requires-clause-few
block-requires-clause-few g c =
    let bytes = c.args.bytes.now in
    let begun : 256 * c.loop-i.i < length bytes / 3 / 4 * 4 = omega (arith, c.div_ceil-i-end.ensures, c.loop-i-test.true) in
    block_few (length bytes) c.loop-i.i c.min-upto.result _ c.min-upto.ensures (block_size bytes c.loop-i.i c.min-upto.result c.min-upto.ensures begun)

pub rest-requires-clause-whole : goal.rest-requires-clause-whole
rest-requires-clause-whole g c = rest_whole (length c.args.bytes.now) _ c.requires.whole (rest_size c.args.bytes.now)

pub rest-requires-clause-few : goal.rest-requires-clause-few
rest-requires-clause-few g c = rest_few (length c.args.bytes.now) _ c.requires.whole (rest_size c.args.bytes.now)

pub block-requires-clause-room : goal.block-requires-clause-room
block-requires-clause-room c = grind (arith, common_steps)

pub rest-requires-clause-room : goal.rest-requires-clause-room
rest-requires-clause-room c = grind (arith, common_steps)
