-- The capture of columns that conforming periods spell, from its first bit on: where it is aligned, and what is heard of it.
use Rattle.std.proofs.Common.{◌≡◌, ℕ, suc, zero, ◌+◌, ◌-◌, ◌*◌, ◌<◌, ◌≤◌, Bool, List, [], ◌∷◌, ◌++◌, length, map, drop, replicate, refl, ◌∙◌, arith, length-append, length-drop, length-take-le}
use Rattle.std.proofs.lemmas.Bool.{cases_lt, and_parts, leb-true}
use Rattle.std.proofs.lemmas.List.{get_or_append_left, get_or-append_right, get_or-replicate, length-replicate, length-map, get_or_past, take_all}
use Rattle.tmds_word.specs.Column.{Column}
use Rattle.tmds_word.specs.Taps.{part_of, IsTap, HasSmallSkew}
use Rattle.tmds_word.specs.Words.{words_of, columns_of as joined_columns}
use Rattle.tmds_word.proofs.Lists.{length-row_bits}
use Rattle.lane_align.specs.Words.{words_from}
use Rattle.lane_align.proofs.Edges.{edge_within}
use Rattle.lane_deskew.specs.Aligned.{aligned_columns}
use Rattle.lane_deskew.specs.Triples.{IsTriple, IsFirst}
use Rattle.capture_file.specs.Captures.{IsCaptureOf}
use Rattle.capture_file.specs.Taps.{tap_counts, tap_of, tapped_capture}
use Rattle.capture_file.proofs.Tapped.{tap_is_tap, tap_is_captured}
use Rattle.island_pack.specs.Conforming.{IsConforming, conforms, is_control_period}
use Rattle.island_pack.specs.Kinds.{Kind, control_column, first_guard, second_guard, kinds_in, kinds_of, kind_at, IsAfterControl}
use Rattle.island_pack.specs.Periods.{ControlRun, Period, control, values_of, period_columns, columns_of}
use Rattle.island_pack.specs.Sparse.{IsSparseInPayload}
use Rattle.island_pack.specs.Spelling.{Spells}
use Rattle.island_pack.specs.declared.ranges.TheConstants.{COLUMN_LIMIT}
use Rattle.source_end.proofs.Streams.{Spells-length}
use Rattle.period_grammar.specs.Heard.{heard}
use Rattle.link_laws.proofs.Freely.{free_received}
use Rattle.link_laws.specs.Account.{account}
use Rattle.link_laws.specs.Laws.{ReceivedOf, AlignsUntil}
use Rattle.link_laws.proofs.Ends.{edges_end}
use Rattle.link_laws.proofs.Tapped.{tap_accounted}
use Rattle.listing_laws.proofs.Undamaged.{undamaged}
use Rattle.capture_commands.specs.Relays.{whole_tap}

-- The lanes.

abbrev pub blue_of : List Column → List Bool
blue_of columns = (tap_of columns whole_tap).blue

abbrev pub green_of : List Column → List Bool
green_of columns = (tap_of columns whole_tap).green

abbrev pub red_of : List Column → List Bool
red_of columns = (tap_of columns whole_tap).red

abbrev no_skews : List ℕ
no_skews = 0 ∷ 0 ∷ 0 ∷ []

pub own_tap : (columns : List Column) → IsTap columns 0 no_skews (tap_counts whole_tap columns) (blue_of columns) (green_of columns) (red_of columns)
own_tap columns = tap_is_tap columns whole_tap (omega arith)

pub own_captured : (columns : List Column) → length columns ≤ COLUMN_LIMIT → IsCaptureOf (blue_of columns) (green_of columns) (red_of columns) (tapped_capture columns whole_tap)
own_captured columns few = tap_is_captured columns whole_tap (omega arith) (omega (arith, few))

small_skews : HasSmallSkew no_skews
small_skews = record { blue_green = (omega arith, omega arith); green_red = (omega arith, omega arith); blue_red = (omega arith, omega arith) }

lane_long : (g : Column → ℕ) (columns : List Column) → length (part_of (map g columns) 0 (10 * length columns - 0 - 0)) ≡ 10 * length columns
lane_long g columns = grind (arith, length-row_bits, length-map, length-take-le)

-- The aligned columns: all from twelve columns before the edges on.

words_long : (n : ℕ) (xs : List Bool) → length (words_of n xs) ≡ n
unfolding words_of
words_long zero xs = refl
words_long (suc n) xs = let e = words_long n (drop 10 xs) in omega (arith, e)

columns_long : (a b c : List ℕ) (n : ℕ) → length a ≡ n → length b ≡ n → length c ≡ n → length (joined_columns a b c) ≡ n
unfolding joined_columns
columns_long [] b c n la lb lc = la
columns_long (x ∷ a) [] c n la lb lc = absurd (omega (arith, la, lb))
columns_long (x ∷ a) (y ∷ b) [] n la lb lc = absurd (omega (arith, la, lc))
columns_long (x ∷ a) (y ∷ b) (z ∷ c) zero la lb lc = absurd (omega (arith, la))
columns_long (x ∷ a) (y ∷ b) (z ∷ c) (suc n) la lb lc = let e = columns_long a b c n (omega (arith, la)) (omega (arith, lb)) (omega (arith, lc)) in omega (arith, e)

aligned_long : (xs ys zs : List Bool) (n a d e f : ℕ) → length xs ≡ 10 * n → length ys ≡ 10 * n → length zs ≡ 10 * n
    → d ≡ 10 * (a + 12) → e ≡ 10 * (a + 12) → f ≡ 10 * (a + 12) → length (aligned_columns xs ys zs d e f) ≡ n - a
unfolding aligned_columns words_from
aligned_long xs ys zs n a d e f lx ly lz ad ae af = grind (arith, columns_long, words_long)

-- The kinds of the columns.

first_control : (n i : ℕ) (ks : List Kind) → i < n → kind_at (replicate n control_column ++ ks) i ≡ control_column
first_control n i ks lt =
    let l = length-replicate n control_column in
    get_or_append_left (replicate n control_column) ks second_guard i (omega arith) ∙ get_or-replicate n i control_column second_guard lt

record OpensAt (n : ℕ) (q : Period) (ps : List Period) (kinds : List Kind) : Type 0 where
  rest : List Kind
  are : kinds ≡ replicate n control_column ++ (first_guard ∷ rest)

opens_at : (runs : List ControlRun) (q : Period) (ps : List Period) → IsConforming (control runs ∷ (q ∷ ps)) → OpensAt (length (values_of runs)) q ps (kinds_of (control runs ∷ (q ∷ ps)))
unfolding conforms kinds_of kinds_in
opens_at runs q ps h = grind arith

after_first : (n : ℕ) (q : Period) (ps : List Period) (kinds : List Kind) → 12 ≤ n → OpensAt n q ps kinds → IsAfterControl kinds n
after_first n q ps kinds long opens = grind (arith, first_control, get_or-append_right, length-replicate)

-- the only control period that ends at or before its end
ends_there : (n i : ℕ) (ks : List Kind) (kinds : List Kind) → kinds ≡ replicate n control_column ++ ks → i + 1 ≤ n → (kind_at kinds (i + 1) ≡ control_column → ⊥) → i + 1 ≡ n
ends_there n i ks kinds are le none = grind (arith, cases_lt, first_control)

first_long : (runs : List ControlRun) (ps : List Period) → IsConforming (control runs ∷ ps) → 12 ≤ length (values_of runs)
unfolding conforms is_control_period
first_long runs ps h = grind (arith, and_parts, leb-true)

-- Nothing was received other than it was sent.

own_received : (ps : List Period) (columns : List Column) → IsConforming ps → Spells ps columns → ReceivedOf ps columns columns
own_received ps columns good spelled = undamaged ps columns good spelled

own_payload : (ps : List Period) (columns : List Column) → ReceivedOf ps columns columns → IsSparseInPayload ps columns columns
own_payload ps columns reception = record { sparse = reception.sparse; spares = λ f i le not. refl }

own_aligns : (runs : List ControlRun) (q : Period) (ps : List Period) (columns : List Column) → IsConforming (control runs ∷ (q ∷ ps)) → length (values_of runs) < length columns
    → AlignsUntil (control runs ∷ (q ∷ ps)) columns columns 0 no_skews (tap_counts whole_tap columns) (length (values_of runs))
own_aligns runs q ps columns good more =
    let n = length (values_of runs) in
    let m = 10 * length columns - 0 - 0 in
    let long = first_long runs (q ∷ ps) good in
    record {
      after = after_first n q ps (kinds_of (control runs ∷ (q ∷ ps))) long (opens_at runs q ps good);
      spares = λ i le not. refl;
      holds = grind arith;
    }

-- With an edge.

pub record IsOwn (runs : List ControlRun) (ps : List Period) (columns : List Column) : Type 0 where
  pub blue : ℕ
  pub green : ℕ
  pub red : ℕ
  pub first : IsFirst (blue_of columns) (green_of columns) (red_of columns) blue green red
  pub a : ℕ
  pub from : a + 12 ≡ length (values_of runs)
  pub aligned : aligned_columns (blue_of columns) (green_of columns) (red_of columns) blue green red ≡ drop a columns
  pub reported : heard (aligned_columns (blue_of columns) (green_of columns) (red_of columns) blue green red) ≡ account (control runs ∷ ps) columns columns a (length (drop a columns))

-- from the end of its first control period on it is aligned
pub own_aligned : (runs : List ControlRun) (q : Period) (ps : List Period) (columns : List Column) → IsConforming (control runs ∷ (q ∷ ps)) → Spells (control runs ∷ (q ∷ ps)) columns
    → length (values_of runs) < length columns → IsOwn runs (q ∷ ps) columns
own_aligned runs q ps columns good spelled more =
    let all = control runs ∷ (q ∷ ps) in
    let n = length (values_of runs) in
    let x = blue_of columns in
    let y = green_of columns in
    let z = red_of columns in
    let reception = own_received all columns good spelled in
    let found = tap_accounted all columns columns (free_received all columns columns reception) 0 no_skews (tap_counts whole_tap columns) x y z (own_tap columns) small_skews n (own_aligns runs q ps columns good more) in
    let d = found.0 in
    let e = found.1 in
    let f = found.2 in
    let a = found.4.0 in
    let le = found.4.1 in
    let account_is = found.4.2 in
    let begins = found.4.3 in
    let opens = opens_at runs q ps good in
    let next : kind_at (kinds_of all) (a + 11 + 1) ≡ control_column → ⊥ = account_is.ends.then in
    let there = ends_there n (a + 11) (first_guard ∷ opens.rest) (kinds_of all) opens.are (omega (arith, le)) next in
    let ad = begins.blue in
    grind (arith, aligned_long, lane_long, length-drop, take_all)

-- With none.

alone_kinds : (runs : List ControlRun) → kinds_of (control runs ∷ []) ≡ replicate (length (values_of runs)) control_column ++ []
unfolding kinds_of kinds_in
alone_kinds runs = refl

alone_end : (n i : ℕ) (kinds : List Kind) → kinds ≡ replicate n control_column ++ [] → kind_at kinds i ≡ control_column → (kind_at kinds (i + 1) ≡ control_column → ⊥) → i + 1 ≡ n
alone_end n i kinds are here none = grind (arith, cases_lt, ends_there, get_or_past, length-append, length-replicate)

alone_size : (runs : List ControlRun) → columns_of (control runs ∷ []) ≡ length (values_of runs)
unfolding columns_of period_columns
alone_size runs = omega arith

-- where there is one control period alone it is aligned nowhere
pub own_nowhere : (runs : List ControlRun) (columns : List Column) → IsConforming (control runs ∷ []) → Spells (control runs ∷ []) columns → (d e f : ℕ)
    → IsTriple (blue_of columns) (green_of columns) (red_of columns) d e f → ⊥
own_nowhere runs columns good spelled d e f triple =
    let all = control runs ∷ [] in
    let reception = own_received all columns good spelled in
    let m = 10 * length columns - 0 - 0 in
    let end = (edges_end all columns columns (free_received all columns columns reception) (own_payload all columns reception)).0.edges 0 m d triple.blue in
    let n = length (values_of runs) in
    let there = alone_end n end.0 (kinds_of all) (alone_kinds runs) end.1.here end.1.then in
    let within = edge_within (blue_of columns) d triple.blue in
    let long = lane_long (λ c. c.blue) columns in
    let many = Spells-length all columns spelled in
    let size = alone_size runs in
    let at = end.2 in
    omega (arith, there, within, long, many, size, at)
