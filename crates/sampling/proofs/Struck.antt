-- Strikes on periods, one after another, and the hits that they are.
use Rattle.std.proofs.Common.{◌≡◌, ℕ, zero, suc, ◌+◌, ◌*◌, ◌≤◌, ◌<◌, Bool, true, cond, ◌&&◌, List, [], ◌∷◌, ◌++◌, length, map, take, get_or, refl, ap, ap₂, sym, ◌∙◌, subst, arith, append_assoc, append-nil, length-append, le-leb, leb-true}
use Rattle.std.specs.Prelude.{nat_le, not, filter, All, slice_index}
use Rattle.std.proofs.lemmas.List.{map-append, length-map, take_more, take_all}
use Rattle.std.proofs.lemmas.List.Elements.{All-nil, All-cons, All-head, All-tail, All-append, All-map, All-filter, filter-append}
use Rattle.std.proofs.lemmas.List.Filters.{length-filter_both}
use Rattle.tmds_word.specs.Column.{Column}
use Rattle.tmds_word.proofs.Below.{and-left, and-right}
use Rattle.island_pack.specs.Periods.{DataIsland, Period, control, video, island, period_columns, columns_of}
use Rattle.source_end.specs.Raster.{up_from}
use Rattle.source_end.specs.ItemPeriods.{period_of}
use Rattle.source_end.specs.declared.item.Item.{Item}
use Rattle.source_end.proofs.RasterRuns.{up_next}
use Rattle.source_end.proofs.Streams.{item_at, item_within, periods_room}
use Rattle.capture_file.specs.BlockDamage.{FitsLane, AllFitLanes}
use Rattle.capture_file.specs.Taps.{tap_count, tap_counts}
use Rattle.capture_file.specs.declared.damaging.Hit.{Hit}
use Rattle.capture_file.specs.declared.writing.Tap.{Tap}
use Rattle.sampling.specs.Strikes.{Strike, period_strikes, strikes, first_bit, is_within, hit_of, hits_of}
use Rattle.sampling.specs.Struck.{struck, packet_strike, packet_strikes}

-- hits of strikes

pub struck_append : (tap : Tap) (columns : ℕ) (xs ys : List Strike) → struck tap columns (xs ++ ys) ≡ struck tap columns xs ++ struck tap columns ys
unfolding struck
struck_append tap columns xs ys =
    ap (map (hit_of tap)) (filter-append (is_within tap columns) xs ys)
    ∙ map-append (hit_of tap) (filter (is_within tap columns) xs) (filter (is_within tap columns) ys)

pub struck_none : (tap : Tap) (columns : ℕ) → struck tap columns [] ≡ []
unfolding struck
struck_none tap columns = refl

pub struck_one : (tap : Tap) (columns : ℕ) (s : Strike) → first_bit tap s.lane ≤ 10 * s.column → 10 * s.column + 10 ≤ first_bit tap s.lane + tap_count tap columns s.lane
    → struck tap columns (s ∷ []) ≡ hit_of tap s ∷ []
unfolding struck
struck_one tap columns s low high =
    let e : is_within tap columns s ≡ true = ap₂ (λ (x y : Bool). x && y) (le-leb (first_bit tap s.lane) (10 * s.column) low) (le-leb (10 * s.column + 10) (first_bit tap s.lane + tap_count tap columns s.lane) high) in
    ap (λ (b : Bool). map (hit_of tap) (cond b (s ∷ []) [])) e

kept_or_not : (tap : Tap) (s : Strike) (b : Bool) → (b ≡ true → ⊥) → map (hit_of tap) (cond b (s ∷ []) []) ≡ []
kept_or_not tap s b h = grind arith

pub struck_early : (tap : Tap) (columns : ℕ) (s : Strike) → 10 * s.column < first_bit tap s.lane → struck tap columns (s ∷ []) ≡ []
unfolding struck
struck_early tap columns s early =
    kept_or_not tap s (is_within tap columns s) (λ h. let low = leb-true (first_bit tap s.lane) (10 * s.column) (and-left (nat_le (first_bit tap s.lane) (10 * s.column)) (nat_le (10 * s.column + 10) (first_bit tap s.lane + tap_count tap columns s.lane)) h) in omega arith)

pub struck_late : (tap : Tap) (columns : ℕ) (s : Strike) → first_bit tap s.lane + tap_count tap columns s.lane < 10 * s.column + 10 → struck tap columns (s ∷ []) ≡ []
unfolding struck
struck_late tap columns s late =
    kept_or_not tap s (is_within tap columns s) (λ h. let high = leb-true (10 * s.column + 10) (first_bit tap s.lane + tap_count tap columns s.lane) (and-right (nat_le (first_bit tap s.lane) (10 * s.column)) (nat_le (10 * s.column + 10) (first_bit tap s.lane + tap_count tap columns s.lane)) h) in omega arith)

-- strikes on one period more, and on one packet more

pub strikes_more : (at : ℕ) (ps : List Period) (p : Period) → strikes at (ps ++ p ∷ []) ≡ strikes at ps ++ period_strikes (at + columns_of ps) p
unfolding strikes columns_of
strikes_more at [] p = grind (arith, append-nil)
strikes_more at (q ∷ ps) p =
    let e : at + period_columns q + columns_of ps ≡ at + (period_columns q + columns_of ps) = omega arith in
    ap (λ (xs : List Strike). period_strikes at q ++ xs) (strikes_more (at + period_columns q) ps p)
    ∙ sym (append_assoc (period_strikes at q) (strikes (at + period_columns q) ps) (period_strikes (at + period_columns q + columns_of ps) p))
    ∙ ap (λ (k : ℕ). (period_strikes at q ++ strikes (at + period_columns q) ps) ++ period_strikes k p) e

pub packets_more : (at i : ℕ) → packet_strikes at (i + 1) ≡ packet_strikes at i ++ packet_strike at i ∷ []
unfolding packet_strikes
packets_more at i = grind (arith, up_next, map-append)

pub no_packets : (at : ℕ) → packet_strikes at 0 ≡ []
unfolding packet_strikes
no_packets at = refl

pub island_strikes : (at : ℕ) (x : DataIsland) → period_strikes at (island x) ≡ packet_strikes at (length x.packets)
unfolding packet_strikes
island_strikes at x = refl

-- one item more

pub room_at : (items : List Item) (ps : List Period) (i : ℕ) (x : Item) (at columns : ℕ) → map period_of items ≡ ps → i < length items → x ≡ get_or items i x → at ≡ columns_of (take i ps) → columns ≡ columns_of ps
    → at + period_columns (period_of x) ≤ columns
room_at items ps i x at columns same lt is here all =
    omega (arith, periods_room ps i (period_of x) (item_within items ps i same lt), ap period_columns (item_at items ps i x same lt is), here, all)

pub taken_more : (items : List Item) (ps : List Period) (i : ℕ) (x : Item) → map period_of items ≡ ps → i < length items → x ≡ get_or items i x → take (i + 1) ps ≡ take i ps ++ period_of x ∷ []
taken_more items ps i x same lt is =
    take_more ps i (period_of x) (item_within items ps i same lt) ∙ ap (λ (p : Period). take i ps ++ p ∷ []) (item_at items ps i x same lt is)

pub struck_more : (tap : Tap) (columns at : ℕ) (ps : List Period) (p : Period) (old new : List Hit) → at ≡ columns_of ps → old ≡ struck tap columns (strikes 0 ps) → new ≡ old ++ struck tap columns (period_strikes at p)
    → new ≡ struck tap columns (strikes 0 (ps ++ p ∷ []))
struck_more tap columns at ps p old new e was is = grind (arith, struck_append, strikes_more)

pub columns_more : (ps : List Period) (p : Period) → columns_of (ps ++ p ∷ []) ≡ columns_of ps + period_columns p
unfolding columns_of
columns_more [] p = omega arith
columns_more (q ∷ ps) p = omega (arith, columns_more ps p)

pub no_strikes : (tap : Tap) (columns : ℕ) → struck tap columns (strikes 0 []) ≡ []
unfolding struck strikes
no_strikes tap columns = refl

pub no_columns : columns_of [] ≡ 0
unfolding columns_of
no_columns = refl

-- all hits are on one of three lanes

period_lanes : (at : ℕ) (p : Period) → All (λ (s : Strike). s.lane < 3) (period_strikes at p)
period_lanes at (control runs) = All-nil (λ (s : Strike). s.lane < 3)
period_lanes at (video bytes) = All-cons (λ (s : Strike). s.lane < 3) (record { lane = 2; column = at + 2 + 100; value = 0x0ab }) [] (omega arith) (All-nil (λ (s : Strike). s.lane < 3))
period_lanes at (island x) = All-map (λ (s : Strike). s.lane < 3) (packet_strike at) (up_from 0 (length x.packets)) (λ k d lt. omega arith)

strikes_lanes : (at : ℕ) (ps : List Period) → All (λ (s : Strike). s.lane < 3) (strikes at ps)
unfolding strikes
strikes_lanes at [] = All-nil (λ (s : Strike). s.lane < 3)
strikes_lanes at (p ∷ ps) =
    All-append (λ (s : Strike). s.lane < 3) (period_strikes at p) (strikes (at + period_columns p) ps) (period_lanes at p) (strikes_lanes (at + period_columns p) ps)

pub hits_lanes : (tap : Tap) (ps : List Period) → All (λ (h : Hit). h.lane < 3) (hits_of tap ps)
unfolding hits_of
hits_lanes tap ps =
    All-map (λ (h : Hit). h.lane < 3) (hit_of tap) (filter (is_within tap (columns_of ps)) (strikes 0 ps))
    (All-filter (is_within tap (columns_of ps)) (λ (s : Strike). s.lane < 3) (strikes 0 ps) (strikes_lanes 0 ps))

-- there are at most as many as columns

length_up : (n x : ℕ) → length (up_from x n) ≡ n
length_up zero x = refl
length_up (suc n) x = ap (λ (k : ℕ). suc k) (length_up n (suc x))

period_few : (at : ℕ) (p : Period) → length (period_strikes at p) ≤ period_columns p
unfolding period_columns
period_few at p = grind (arith, length-map, length_up)

strikes_few : (at : ℕ) (ps : List Period) → length (strikes at ps) ≤ columns_of ps
unfolding strikes columns_of
strikes_few at [] = omega arith
strikes_few at (p ∷ ps) =
    omega (arith, length-append (period_strikes at p) (strikes (at + period_columns p) ps), period_few at p, strikes_few (at + period_columns p) ps)

pub hits_few : (tap : Tap) (ps : List Period) → length (hits_of tap ps) ≤ columns_of ps
unfolding hits_of
hits_few tap ps =
    let p = is_within tap (columns_of ps) in
    omega (
      arith,
      length-map (filter p (strikes 0 ps)) (hit_of tap),
      length-filter_both p (λ (s : Strike). not (p s)) (λ s. refl) (strikes 0 ps),
      strikes_few 0 ps,
    )

-- each lies within what a tap takes of its lane

lane_count : (tap : Tap) (columns : List Column) (lane : ℕ) → lane < 3 → slice_index (tap_counts tap columns) lane ≡ tap_count tap (length columns) lane
lane_count tap columns lane h = grind arith

fits_more : (counts : List ℕ) (h : Hit) (hs : List Hit) → FitsLane counts h → AllFitLanes counts hs → AllFitLanes counts (h ∷ hs)
fits_more counts h hs k l m p q = grind arith

fits_by : (b : Bool) (tap : Tap) (columns : List Column) (s : Strike) (xs : List Strike) → s.lane < 3 → is_within tap (length columns) s ≡ b → AllFitLanes (tap_counts tap columns) (map (hit_of tap) xs)
    → AllFitLanes (tap_counts tap columns) (map (hit_of tap) (cond b (s ∷ xs) xs))
fits_by b tap columns s xs h k l = grind (arith, fits_more, leb-true, and-left, and-right, lane_count)

fits_all : (tap : Tap) (columns : List Column) (xs : List Strike) → All (λ (s : Strike). s.lane < 3) xs → AllFitLanes (tap_counts tap columns) (map (hit_of tap) (filter (is_within tap (length columns)) xs))
fits_all tap columns [] lanes = grind arith
fits_all tap columns (s ∷ xs) lanes =
    fits_by (is_within tap (length columns) s) tap columns s (filter (is_within tap (length columns)) xs) (All-head (λ (s : Strike). s.lane < 3) s xs lanes) refl
    (fits_all tap columns xs (All-tail (λ (s : Strike). s.lane < 3) s xs lanes))

pub hits_fit : (tap : Tap) (ps : List Period) (columns : List Column) → length columns ≡ columns_of ps → AllFitLanes (tap_counts tap columns) (hits_of tap ps)
unfolding hits_of
hits_fit tap ps columns e =
    subst (λ (n : ℕ). AllFitLanes (tap_counts tap columns) (map (hit_of tap) (filter (is_within tap n) (strikes 0 ps)))) e
    (fits_all tap columns (strikes 0 ps) (strikes_lanes 0 ps))

-- the hits of a whole walk
pub walked : (tap : Tap) (columns : ℕ) (items : List Item) (ps : List Period) (i : ℕ) (hits : List Hit) → map period_of items ≡ ps → length items ≤ i → columns ≡ columns_of ps
    → hits ≡ struck tap columns (strikes 0 (take i ps)) → hits ≡ hits_of tap ps
unfolding struck hits_of
walked tap columns items ps i hits same end e is =
    let all : take i ps ≡ ps = take_all i ps (omega (arith, ap length same, length-map items period_of, end)) in
    is ∙ ap (λ (qs : List Period). struck tap columns (strikes 0 qs)) all ∙ ap (λ (n : ℕ). struck tap n (strikes 0 ps)) e
