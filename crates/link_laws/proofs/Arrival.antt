-- Columns received with sparse damage of columns that spell periods, period after period.
use Rattle.std.proofs.Common.{◌≡◌, ℕ, suc, ◌+◌, ◌*◌, ◌≤◌, Bool, true, false, List, [], ◌∷◌, ◌++◌, length, map, replicate, refl, ap, sym, ◌∙◌, subst, append_assoc, arith, slice_index}
use Rattle.std.proofs.lemmas.List.{replicate-append-replicate}
use Rattle.std.proofs.lemmas.List.Elements.{All-tail}
use Rattle.tmds_word.specs.Column.{Column, blues, greens, reds}
use Rattle.tmds_word.proofs.Below.{and-left, and-right}
use Rattle.terc4.specs.Tables.{is_control, is_terc}
use Rattle.island_pack.specs.Packets.{AreTerc, CarriesFreely}
use Rattle.island_pack.specs.Periods.{ControlRun, Pixel, DataIsland, Period, control, video, island, values_of, pixels_of}
use Rattle.island_pack.specs.Conforming.{are_bytes}
use Rattle.island_pack.specs.Spelling.{control_column as column_of_value, guard_column, guard_columns, column_words, SpellsPixels, SpellsPacketsBy, SpellsBy, freely}
use Rattle.island_pack.specs.declared.packet.Packet.{Packet}
use Rattle.link_laws.proofs.Cutting.{AllControl}
use Rattle.link_laws.proofs.Rows.{and_both, control_columns, Small, clean, all_clean}
use Rattle.link_laws.proofs.Conformed.{Conforms, HasValues, has_values}
use Rattle.link_laws.proofs.VideoReported.{PixelAt, ArePixels, no_pixels, pixel_count, AreGuards}
use Rattle.link_laws.proofs.IslandColumns.{PartAt, AreParts, no_parts, part, ArePackets, no_packets, one_more, packet_sent}
use Rattle.link_laws.proofs.SpelledWords.{AreWords, lane_words, small_blue, small_green, small_red}
use Rattle.island_pack.specs.Kinds.{Kind, control_column, first_guard, second_guard, pixel_column, packet_column, kinds_in, kinds_of, kind_at}
use Rattle.island_pack.specs.Sparse.{unlike_at, IsSparse}
use Rattle.link_laws.proofs.Guards.{unlike, line_guard, IsWhole, stays_control}
use Rattle.link_laws.proofs.IslandReported.{framed, frame}
use Rattle.link_laws.proofs.Joining.{controls, pixels, packets, Arrives, nothing, more}
use Rattle.link_laws.proofs.VideoReported as seen

-- Columns one by one.

-- a column as sent and as received, and those after it
pub record FitsAt (k : Kind) (s r : Column) (ss rs : List Column) : Type 0 where
  pub one : unlike s r ≤ 1
  pub pair : k ≡ first_guard → unlike s r + unlike_at ss rs 0 ≤ 1

pub data Fits : List Kind → List Column → List Column → Type 0 where
  no_columns : Fits [] [] []
  column : (k : Kind) (s r : Column) (ks : List Kind) (ss rs : List Column) → FitsAt k s r ss rs → Fits ks ss rs → Fits (k ∷ ks) (s ∷ ss) (r ∷ rs)

pub record FitsEach (ks : List Kind) (ss rs : List Column) : Type 0 where
  pub same_length : length rs ≡ length ss
  pub one : (i : ℕ) → unlike_at ss rs i ≤ 1
  pub pair : (i : ℕ) → kind_at ks i ≡ first_guard → unlike_at ss rs i + unlike_at ss rs (suc i) ≤ 1

pub fits : (ks : List Kind) (ss rs : List Column) → length ks ≡ length ss → FitsEach ks ss rs → Fits ks ss rs
fits [] [] [] e h = no_columns
fits [] [] (r ∷ rs) e h = let l = h.same_length in absurd (omega arith)
fits [] (s ∷ ss) rs e h = absurd (omega arith)
fits (k ∷ ks) [] rs e h = absurd (omega arith)
fits (k ∷ ks) (s ∷ ss) [] e h = let l = h.same_length in absurd (omega arith)
fits (k ∷ ks) (s ∷ ss) (r ∷ rs) e h =
    let l = h.same_length in
    column k s r ks ss rs (record { one = h.one 0; pair = λ is. h.pair 0 is })
    (fits ks ss rs (omega arith) (record {
      same_length = omega arith;
      one = λ i. h.one (suc i);
      pair = λ i is. h.pair (suc i) is;
    }))

-- Control columns.

record ControlFront (vs : List ℕ) (ks : List Kind) (ss rs : List Column) : Type 0 where
  cs : List Column
  back : List Column
  is : rs ≡ cs ++ back
  count : length cs ≡ length vs
  all : AllControl cs
  fits_back : Fits ks ss back

pub whole_of : (c : Column) → clean c ≡ true → IsWhole c
whole_of c h =
    let r = and-right (is_control c.blue) _ h in
    record { blue = and-left _ _ h; green = and-left _ _ r; red = and-right (is_control c.green) _ r }

front_control : (vs : List ℕ) (ks : List Kind) (ss rs : List Column) → Small vs → Fits (replicate (length vs) control_column ++ ks) (control_columns vs ++ ss) rs → ControlFront vs ks ss rs
front_control [] ks ss rs small h = record { cs = []; back = rs; is = refl; count = refl; all = refl; fits_back = h }
front_control (v ∷ vs) ks ss _ small (column _ _ r _ _ rs at h) =
    let ih = front_control vs ks ss rs (and-right _ _ small) h in
    let whole = whole_of (column_of_value v) (and-left _ _ (all_clean (v ∷ vs) small)) in
    record {
      cs = r ∷ ih.cs;
      back = ih.back;
      is = ap (λ xs. r ∷ xs) ih.is;
      count = ap suc ih.count;
      all = and_both _ _ (stays_control (column_of_value v) r whole at.one) ih.all;
      fits_back = ih.fits_back;
    }

-- Guard columns.

record GuardFront (s t : Column) (ks : List Kind) (ss rs : List Column) : Type 0 where
  g : Column
  h : Column
  back : List Column
  is : rs ≡ g ∷ (h ∷ back)
  are : AreGuards s t g h
  fits_back : Fits ks ss back

front_guards : (s t : Column) (ks : List Kind) (ss rs : List Column) → Fits (first_guard ∷ (second_guard ∷ ks)) (s ∷ (t ∷ ss)) rs → GuardFront s t ks ss rs
front_guards s t ks ss _ (column _ _ g _ _ _ at (column _ _ h _ _ rs at2 f)) =
    record { g = g; h = h; back = rs; is = refl; are = record { one = at.pair refl }; fits_back = f }

-- Pixels.

record PixelFront (ps : List Pixel) (pp : List Column) (ks : List Kind) (ss rs : List Column) : Type 0 where
  qq : List Column
  back : List Column
  is : rs ≡ qq ++ back
  are : ArePixels ps pp qq
  fits_back : Fits ks ss back

front_pixels : (ps : List Pixel) (pp : List Column) (ks : List Kind) (ss rs : List Column)
    → AreWords (map (λ p. p.blue) ps) (blues pp) → AreWords (map (λ p. p.green) ps) (greens pp) → AreWords (map (λ p. p.red) ps) (reds pp)
    → Fits (replicate (length ps) pixel_column ++ ks) (pp ++ ss) rs → PixelFront ps pp ks ss rs
unfolding AreWords
front_pixels [] [] ks ss rs b g r h = record { qq = []; back = rs; is = refl; are = no_pixels; fits_back = h }
front_pixels [] (c ∷ cs) ks ss rs b g r h = absurd b
front_pixels (p ∷ ps) [] ks ss rs b g r h = absurd b
front_pixels (p ∷ ps) (c ∷ pp) ks ss _ b g r (column _ _ q _ _ rs at h) =
    let ih = front_pixels ps pp ks ss rs b.1 g.1 r.1 h in
    let here : PixelAt p c q = record { blue = b.0; green = g.0; red = r.0; one = at.one } in
    record { qq = q ∷ ih.qq; back = ih.back; is = ap (λ xs. q ∷ xs) ih.is; are = seen.more p c q ps pp ih.qq here ih.are; fits_back = ih.fits_back }

-- Packets.

record PartFront (pp : List Column) (ks : List Kind) (ss rs : List Column) : Type 0 where
  qq : List Column
  back : List Column
  is : rs ≡ qq ++ back
  are : AreParts pp qq
  fits_back : Fits ks ss back

front_parts : (pp : List Column) (ks : List Kind) (ss rs : List Column) → AreTerc (map column_words pp) 0 → AreTerc (map column_words pp) 1 → AreTerc (map column_words pp) 2
    → Fits (replicate (length pp) packet_column ++ ks) (pp ++ ss) rs → PartFront pp ks ss rs
front_parts [] ks ss rs b g r h = record { qq = []; back = rs; is = refl; are = no_parts; fits_back = h }
front_parts (c ∷ pp) ks ss _ b g r (column _ _ q _ _ rs at h) =
    let rest = map column_words pp in
    let tail = λ (lane : ℕ) (all : AreTerc (column_words c ∷ rest) lane). All-tail (λ words. is_terc (slice_index words lane) ≡ true) (column_words c) rest all in
    let ih = front_parts pp ks ss rs (tail 0 b) (tail 1 g) (tail 2 r) h in
    let here : PartAt c q = record { blue = b 0 [] (omega arith); green = g 0 [] (omega arith); red = r 0 [] (omega arith); one = at.one } in
    record { qq = q ∷ ih.qq; back = ih.back; is = ap (λ xs. q ∷ xs) ih.is; are = part c q pp ih.qq here ih.are; fits_back = ih.fits_back }

record PacketFront (first : Bool) (ps : List Packet) (pp : List Column) (ks : List Kind) (ss rs : List Column) : Type 0 where
  qq : List Column
  back : List Column
  is : rs ≡ qq ++ back
  are : ArePackets first ps pp qq
  fits_back : Fits ks ss back

-- the kinds of packets, one after another
packet_kinds : (n : ℕ) (own : List Column) (ks : List Kind) → length own ≡ 32
    → replicate (32 * suc n) packet_column ++ ks ≡ replicate (length own) packet_column ++ (replicate (32 * n) packet_column ++ ks)
packet_kinds n own ks e = grind (arith, replicate-append-replicate (length own) (32 * n) packet_column, append_assoc (replicate (length own) packet_column) (replicate (32 * n) packet_column) ks)

-- a packet, and the packets after it
packet_front : (first : Bool) (p : Packet) (ps : List Packet) (pp own later : List Column) (ks : List Kind) (ss rs : List Column) → pp ≡ own ++ later → CarriesFreely p (map column_words own)
    → (one : PartFront own (replicate (32 * length ps) packet_column ++ ks) (later ++ ss) rs) → PacketFront false ps later ks ss one.back → PacketFront first (p ∷ ps) pp ks ss rs
packet_front first p ps pp own later ks ss rs e c one rest = record {
  qq = one.qq ++ rest.qq;
  back = rest.back;
  is = one.is ∙ ap (λ xs. one.qq ++ xs) rest.is ∙ sym (append_assoc one.qq rest.qq rest.back);
  are = subst (λ cs. ArePackets first (p ∷ ps) cs (one.qq ++ rest.qq)) (sym e) (one_more first p ps own one.qq later rest.qq c one.are rest.are);
  fits_back = rest.fits_back;
}

front_packets : (first : Bool) (ps : List Packet) (pp : List Column) (ks : List Kind) (ss rs : List Column) → SpellsPacketsBy freely first ps pp
    → Fits (replicate (32 * length ps) packet_column ++ ks) (pp ++ ss) rs → PacketFront first ps pp ks ss rs
front_packets first [] pp ks ss rs h f = grind (arith, ArePackets, no_packets)
front_packets first (p ∷ ps) pp ks ss rs h f =
    let own = h.0 in
    let later = h.1 in
    let c = h.3 in
    let e : pp ++ ss ≡ own ++ (later ++ ss) = ap (λ cs. cs ++ ss) h.2 ∙ append_assoc own later ss in
    let k = packet_kinds (length ps) own ks (packet_sent first p own c) in
    let g = subst (λ cs. Fits (replicate (length own) packet_column ++ (replicate (32 * length ps) packet_column ++ ks)) cs rs) e (subst (λ xs. Fits xs (pp ++ ss) rs) k f) in
    let terc = c.terc in
    let one = front_parts own (replicate (32 * length ps) packet_column ++ ks) (later ++ ss) rs (terc 0 (omega arith)) (terc 1 (omega arith)) (terc 2 (omega arith)) g in
    let ih = front_packets false ps later ks ss one.back h.4 one.fits_back in
    packet_front first p ps pp own later ks ss rs h.2 c one ih

-- Periods.

none : (rs : List Column) → Fits [] [] rs → Arrives [] [] rs
none _ no_columns = nothing

arriving_control : (runs : List ControlRun) (xs : List Period) (back : List Column) → Small (values_of runs)
    → ((rs : List Column) → Fits (kinds_of xs) back rs → Arrives xs back rs)
    → (rs : List Column) → Fits (replicate (length (values_of runs)) control_column ++ kinds_of xs) (control_columns (values_of runs) ++ back) rs → Arrives (control runs ∷ xs) (control_columns (values_of runs) ++ back) rs
arriving_control runs xs back small ih rs f = grind (arith, front_control, Arrives, control_columns, more, controls)

arriving_video : (bytes : List ℕ) (xs : List Period) (v back : List Column) → are_bytes bytes ≡ true → SpellsPixels (pixels_of bytes) v
    → ((rs : List Column) → Fits (kinds_of xs) back rs → Arrives xs back rs)
    → (rs : List Column) → Fits (first_guard ∷ (second_guard ∷ (replicate (length (pixels_of bytes)) pixel_column ++ kinds_of xs))) (line_guard ∷ (line_guard ∷ (v ++ back))) rs
    → Arrives (video bytes ∷ xs) ((line_guard ∷ (line_guard ∷ v)) ++ back) rs
arriving_video bytes xs v back small lanes ih rs f =
    let a = front_guards line_guard line_guard _ (v ++ back) rs f in
    let p = front_pixels (pixels_of bytes) v (kinds_of xs) back a.back
    (lane_words _ _ (small_blue bytes small) lanes.blue) (lane_words _ _ (small_green bytes small) lanes.green) (lane_words _ _ (small_red bytes small) lanes.red) a.fits_back in
    let e : rs ≡ (a.g ∷ (a.h ∷ p.qq)) ++ p.back = a.is ∙ ap (λ ys. a.g ∷ (a.h ∷ ys)) p.is in
    subst (λ rs. Arrives (video bytes ∷ xs) ((line_guard ∷ (line_guard ∷ v)) ++ back) rs) (sym e)
    (more (video bytes) xs (line_guard ∷ (line_guard ∷ v)) (a.g ∷ (a.h ∷ p.qq)) back p.back (pixels bytes a.g a.h v p.qq a.are p.are) (ih p.back p.fits_back))

arriving_island : (x : DataIsland) (xs : List Period) (v back : List Column) → SpellsPacketsBy freely true x.packets v
    → ((rs : List Column) → Fits (kinds_of xs) back rs → Arrives xs back rs)
    → (rs : List Column) → Fits (first_guard ∷ (second_guard ∷ (replicate (32 * length x.packets) packet_column ++ (first_guard ∷ (second_guard ∷ kinds_of xs))))) (guard_columns x.opening ++ (v ++ (guard_columns x.closing ++ back))) rs
    → Arrives (island x ∷ xs) (frame x v ++ back) rs
arriving_island x xs v back h ih rs f =
    let close = guard_columns x.closing in
    let a = front_guards (guard_column x.opening.first) (guard_column x.opening.second) _ (v ++ (close ++ back)) rs f in
    let p = front_packets true x.packets v (first_guard ∷ (second_guard ∷ kinds_of xs)) (close ++ back) a.back h a.fits_back in
    let z = front_guards (guard_column x.closing.first) (guard_column x.closing.second) (kinds_of xs) back p.back p.fits_back in
    let reception = framed a.g a.h p.qq z.g z.h in
    let t : a.back ≡ (p.qq ++ (z.g ∷ (z.h ∷ []))) ++ z.back = p.is ∙ ap (λ ys. p.qq ++ ys) z.is ∙ sym (append_assoc p.qq (z.g ∷ (z.h ∷ [])) z.back) in
    let e : rs ≡ reception ++ z.back = a.is ∙ ap (λ ys. a.g ∷ (a.h ∷ ys)) t in
    subst (λ rs. Arrives (island x ∷ xs) (frame x v ++ back) rs) (sym e)
    (more (island x) xs (frame x v) reception back z.back (packets x a.g a.h z.g z.h v p.qq (record { opening = a.are; closing = z.are }) p.are) (ih z.back z.fits_back))

pub arriving : (xs : List Period) (sent received : List Column) → HasValues xs → SpellsBy freely xs sent → Fits (kinds_of xs) sent received → Arrives xs sent received
unfolding HasValues kinds_of kinds_in
arriving [] sent received small h f = subst (λ ss. Arrives [] ss received) (sym h) (none received (subst (λ ss. Fits [] ss received) h f))
arriving (control runs ∷ xs) sent received small h f = grind (arith, control_columns, Arrives, arriving_control, arriving xs)
arriving (video bytes ∷ xs) sent received small h f = grind (arith, line_guard, pixel_count, Arrives, arriving_video, arriving xs)
arriving (island x ∷ xs) sent received small h f = grind (arith, frame, append_assoc, Arrives, arriving_island, arriving xs)

pub arrive : (ps : List Period) (sent received : List Column) → Conforms ps → length (kinds_of ps) ≡ length sent → SpellsBy freely ps sent → IsSparse ps sent received → Arrives ps sent received
arrive ps sent received c many h s =
    arriving ps sent received (has_values ps c) h
    (fits (kinds_of ps) sent received many (record { same_length = s.same_length; one = s.one_a_column; pair = λ i is. next i (s.one_a_pair i is) }))
  where
    next : (i : ℕ) → unlike_at sent received i + unlike_at sent received (i + 1) ≤ 1 → unlike_at sent received i + unlike_at sent received (suc i) ≤ 1
    next i h = let e : i + 1 ≡ suc i = omega arith in subst (λ n. unlike_at sent received i + unlike_at sent received n ≤ 1) e h
