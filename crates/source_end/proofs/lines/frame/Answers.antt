use Rattle.std.proofs.Common.{◌≡◌, ℕ, ◌+◌, ◌*◌, ◌<◌, ◌^◌, replicate, map, length, List, ◌++◌, true, false, sym, ap, subst, ◌∙◌, arith}
use Rattle.source_end.specs.Raster.{Part, blank, row_line, laid, active, front, sync, back, total}
use Rattle.source_end.specs.Gathering.{size, Has}
use Rattle.source_end.specs.Lines.{AreWide}
use Rattle.source_end.proofs.Gathered.{size_append}
use Rattle.source_end.proofs.RasterModes.{is_mode}
use Rattle.source_end.proofs.RasterSizes.{size_blank, size_rows, four_areas}
use Rattle.source_end.proofs.RasterWriting.{four, frame_parts}
use Rattle.source_end.proofs.lines.frame.Goals as goal

pub returns : goal.returns
returns c parts h few =
    let mode = c.args.mode.now in
    let f = c.args.frame.now in
    let t = total mode.across in
    let n1 = c.sync.result in
    let n2 = c.back.result in
    let n3 = c.front.result in
    let rows = c.rows.result.now in
    let p1 = c.packets.result.now in
    let r1 = c.in_ok-rest.rest.now in
    let r2 = c.in_ok-rest-2.rest.now in
    let r3 = c.in_ok-rest-3.rest.now in
    let a = laid mode (replicate n1 (blank true)) p1 in
    let b = laid mode (replicate n2 (blank false)) r1 in
    let d = laid mode (map row_line rows) r2 in
    let e = laid mode (replicate n3 (blank false)) r3 in
    let areas = four_areas (sync mode.down) (back mode.down) (active mode.down) (front mode.down) t in
    let k1 : n1 * t ≡ sync mode.down * t = ap (λ (n : ℕ). n * t) c.sync.ensures.value in
    let k2 : n2 * t ≡ back mode.down * t = ap (λ (n : ℕ). n * t) c.back.ensures.value in
    let k3 : n3 * t ≡ front mode.down * t = ap (λ (n : ℕ). n * t) c.front.ensures.value in
    let k4 : length rows * t ≡ active mode.down * t = ap (λ (n : ℕ). n * t) (ap length c.rows.ensures ∙ c.requires.height) in
    let few1 : size parts + n1 * t < 2 ^ 32 = omega (arith, few, areas, k1) in
    let held1 = c.in_ok-rest.ensures.parts parts h few1 in
    let sa = size_append parts a in
    let na = size_blank mode true n1 p1 in
    let few2 : size (parts ++ a) + n2 * t < 2 ^ 32 = omega (arith, few, areas, k1, k2, sa, na) in
    let held2 = c.in_ok-rest-2.ensures.parts (parts ++ a) held1 few2 in
    let sb = size_append (parts ++ a) b in
    let nb = size_blank mode false n2 r1 in
    let few3 : size ((parts ++ a) ++ b) + length rows * t < 2 ^ 32 = omega (arith, few, areas, k1, k2, k4, sa, na, sb, nb) in
    let held3 = c.in_ok-rest-3.ensures.parts ((parts ++ a) ++ b) held2 few3 in
    let sd = size_append ((parts ++ a) ++ b) d in
    let wide : AreWide (active mode.across) rows = subst (λ (rs : List (List ℕ)). AreWide (active mode.across) rs) (sym c.rows.ensures) c.requires.rows in
    let nd = size_rows mode (is_mode mode c.requires.mode) rows wide r2 in
    let few4 : size (((parts ++ a) ++ b) ++ d) + n3 * t < 2 ^ 32 = omega (arith, few, areas, k1, k2, k3, k4, sa, na, sb, nb, sd, nd) in
    let held4 = c.in_ok-blank_lines.ensures.parts (((parts ++ a) ++ b) ++ d) held3 few4 in
    subst (λ (qs : List Part). Has c.blank_lines-3.new.out qs)
    (four parts a b d e
    ∙ ap (λ (qs : List Part). parts ++ qs)
    (frame_parts mode f n1 n2 n3 rows p1 r1 r2 r3 c.sync.ensures.value c.back.ensures.value c.front.ensures.value c.rows.ensures c.packets.ensures c.in_ok-rest.ensures.rest c.in_ok-rest-2.ensures.rest c.in_ok-rest-3.ensures.rest))
    held4
