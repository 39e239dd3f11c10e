use Rattle.std.proofs.Common.{◌≡◌, ℕ, ◌+◌, ◌-◌, ◌<◌, ◌^◌, List, [], ◌∷◌, ◌++◌, false, ap, ap₂, subst, ◌∙◌, arith}
use Rattle.std.specs.Prelude.{OnOk}
use Rattle.source_end.specs.Raster.{Part, pixels, columns, blank, guard_at, sync, back, active}
use Rattle.source_end.specs.Lines.{lead, lead_end}
use Rattle.source_end.specs.Gathering.{size, Has}
use Rattle.source_end.proofs.Gathered.{size_append}
use Rattle.source_end.proofs.RasterModes.{is_mode}
use Rattle.source_end.proofs.RasterSizes.{size_columns}
use Rattle.source_end.proofs.RasterRuns.{with_ctl, row_parts, row_end}
use Rattle.source_end.proofs.RasterWriting.{size_lead, size_pixels, five}
use Rattle.source_end.proofs.lines.row_line.Goals as goal

pub returns : goal.returns
returns c parts h few =
    let mode = c.args.mode.now in
    let ps = c.args.packets.now in
    let row = c.args.row.now in
    let plain = with_ctl mode (blank false) 0 in
    let led = with_ctl mode (blank false) 4 in
    let guard = c.guard_at-guard.result in
    let from = c.in_ok-from.from in
    let t = c.total-end.result in
    let at = t - c.front.result in
    let a = lead mode (blank false) ps in
    let b = columns plain from (guard - 8) in
    let d = columns led (guard - 8) guard in
    let x = pixels row ∷ [] in
    let e = columns plain at t in
    let ok = is_mode mode c.requires.mode in
    let end = c.in_ok-from.ensures.end in
    let place = c.guard_at-guard.ensures.value in
    let wide = row_end mode ok ps c.requires.room in
    let sums : at ≡ sync mode.across + back mode.across + active mode.across = omega (arith, c.total-end.ensures.value, c.front.ensures.value) in
    let few1 : size parts + lead_end ps < 2 ^ 32 = omega (arith, few, wide) in
    let held1 = c.in_ok-from.ensures.parts parts h few1 in
    let sa = size_append parts a in
    let na = size_lead mode (blank false) ps in
    let few2 : size (parts ++ a) + (guard - 8 - from) < 2 ^ 32 = omega (arith, few, wide, end, place, sa, na) in
    let held2 = c.in_ok-span.ensures (parts ++ a) held1 few2 in
    let sb = size_append (parts ++ a) b in
    let nb = size_columns plain from (guard - 8) in
    let few3 : size ((parts ++ a) ++ b) + (guard - (guard - 8)) < 2 ^ 32 = omega (arith, few, wide, end, place, sa, na, sb, nb, ok.back_columns) in
    let held3 = c.in_ok-span-2.ensures ((parts ++ a) ++ b) held2 few3 in
    let held4 = c.in_ok-row.ensures (((parts ++ a) ++ b) ++ d) held3 in
    let sd = size_append ((parts ++ a) ++ b) d in
    let nd = size_columns led (guard - 8) guard in
    let sx = size_append (((parts ++ a) ++ b) ++ d) x in
    let nx = size_pixels row in
    let few4 : size ((((parts ++ a) ++ b) ++ d) ++ x) + (t - at) < 2 ^ 32 = omega (arith, few, wide, end, place, sums, c.total-end.ensures.value, c.requires.width, sa, na, sb, nb, sd, nd, sx, nx, ok.back_columns) in
    subst (λ (qs : List Part). OnOk c.span-3.result (Has c.span-3.new.out qs))
    (five parts a b d x e
    ∙ ap (λ (qs : List Part). parts ++ qs)
    (ap₂ (λ (i g : ℕ). a ++ (columns plain i (g - 8) ++ (columns led (g - 8) g ++ (pixels row ∷ e)))) end place
    ∙ ap (λ (k : ℕ). a ++ (columns plain (lead_end ps) (guard_at mode - 8) ++ (columns led (guard_at mode - 8) (guard_at mode) ++ (pixels row ∷ columns plain at k)))) c.total-end.ensures.value
    ∙ row_parts mode row ps at wide sums))
    (c.span-3.ensures ((((parts ++ a) ++ b) ++ d) ++ x) held4 few4)
