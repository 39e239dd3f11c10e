-- Where no fault is reported, periods are built whose columns begin with the ones before the cut column.
use Rattle.std.proofs.Common.{◌≡◌, ℕ, ◌+◌, ◌≤◌, Bool, true, false, not, ◌&&◌, List, [], ◌∷◌, ◌++◌, length, map, replicate, refl, ap, ap₂, sym, ◌∙◌, subst, arith, append_assoc}
use Rattle.std.specs.Prelude.{nat_lt}
use Rattle.std.specs.List.{list_all}
use Rattle.std.proofs.lemmas.List.{append-nil, map-append, length-append, length-map}
use Rattle.std.proofs.lemmas.List.Folds.{list_all-append}
use Rattle.tmds_word.specs.Column.{Column, column_of}
use Rattle.tmds_word.proofs.Below.{and-left, and-right}
use Rattle.terc4.specs.Tables.{video_guard}
use Rattle.terc4.specs.Columns.{is_video_guard, is_island_guard}
use Rattle.period_grammar.specs.Heard.{Kind, video, island, neither, lacks, line_bytes, opened, opening, in_payload, payload_closes, in_gap, at_close, heard, heard_so_far}
use Rattle.island_pack.specs.Periods.{ControlRun, Period, values_of, has_preamble, VIDEO_PREAMBLE, ISLAND_PREAMBLE}
use Rattle.island_pack.specs.Periods as sends
use Rattle.island_pack.specs.Conforming.{is_control_period, is_video_period, is_data_island, conforms}
use Rattle.island_pack.specs.Spelling.{control_column, guard_column, freely, SpellsPeriodBy}
use Rattle.period_grammar.specs.Column.{value_of, sync_digit}
use Rattle.period_grammar.specs.Events.{Event, broken, event_of, all_at, open_island}
use Rattle.period_grammar.specs.Cut.{Stretch as Cut, stretch, stretches}
use Rattle.period_grammar.specs.Island.{Payload, parts, left_at, when, payload, in_island, breaks, wrong_guards}
use Rattle.period_grammar.proofs.Joined.{IsCut, cut_stretches}
use Rattle.link_laws.proofs.Cutting.{control_reported, hear, gap_events, hear_last, hear_on}
use Rattle.link_laws.proofs.Rows.{and_both, clean, control_columns, Small}
use Rattle.period_grammar.specs.Exact.{is_fault_event, IsFront, IsClean}
use Rattle.period_grammar.proofs.Hearings.{events_at}
use Rattle.link_laws.proofs.exact.Faultless.{Fine, fine_left, fine_right, if_so_fine, both_sure}
use Rattle.link_laws.proofs.exact.Controls.{control_clean, columns_are, values_small, ones, values_of_ones, ones_period, lacks_long, lacks_lead}
use Rattle.link_laws.proofs.exact.Lines.{IsLine, line_fine, guard_is}
use Rattle.link_laws.proofs.exact.Islands.{is_broken, flat, flat_of, AreLong, LongOf, split_flat, split_long, ArePackets, AreGuards, both_guards, IsClosed, closed_fine, IsIsland, island_of, island_fine}
use Rattle.link_laws.proofs.exact.Nulls.{null_pixel, null_line, null_packet, null_carried}

-- The columns before the cut column.

abbrev pub island_front : Payload → List Column
island_front (parts ps t) = flat ps ++ when (not (is_broken t)) t

abbrev pub payload_front : Kind → List Column → List Column
payload_front video rest = []
payload_front island rest = island_front (payload rest)
payload_front neither rest = rest

abbrev pub gap_front : List Column → List Column
gap_front [] = []
gap_front (g ∷ []) = []
gap_front (g ∷ (h ∷ rest)) = g ∷ (h ∷ payload_front (opened g h) rest)

abbrev pub front : List Cut → List Column
front [] = []
front (stretch control gap ∷ []) = control ++ gap_front gap
front (stretch control gap ∷ (y ∷ ys)) = control ++ (gap ++ front (y ∷ ys))

-- Periods before others.

-- a period that may follow control columns of these values
abbrev pub inner : List ℕ → Period → Bool
inner vs (sends.control runs) = false
inner vs (sends.video bytes) = has_preamble VIDEO_PREAMBLE vs && is_video_period bytes
inner vs (sends.island x) = has_preamble ISLAND_PREAMBLE vs && is_data_island x

pub conforms_more : (runs : List ControlRun) (x : Period) (rest : List Period) → is_control_period runs ≡ true → inner (values_of runs) x ≡ true → conforms rest ≡ true
    → conforms (sends.control runs ∷ (x ∷ rest)) ≡ true
unfolding conforms
conforms_more runs x rest h k l = grind (arith, and_both, and-left, and-right)

-- control columns and those of a period before a front
more_front : (control own later : List Column) (x : Period) → list_all clean control ≡ true → 12 ≤ length control → inner (map value_of control) x ≡ true → SpellsPeriodBy freely x own → IsFront later
    → IsFront (control ++ (own ++ later))
more_front control own later x c long i spells f =
    let vs = map value_of control in
    let runs = ones vs in
    let n = length-map control value_of in
    let e : control ≡ map control_column (values_of runs) = columns_are control c ∙ ap (map control_column) (sym (values_of_ones vs)) in
    record {
      periods = sends.control runs ∷ (x ∷ f.periods);
      spelled = control ++ (own ++ f.spelled);
      conforming = conforms_more runs x f.periods (ones_period vs (values_small control c) (omega arith)) (subst (λ us. inner us x ≡ true) (sym (values_of_ones vs)) i) f.conforming;
      spells = (control, own ++ f.spelled, refl, e, (own, f.spelled, refl, spells, f.spells));
      rest = f.rest;
      front = ap (λ xs. control ++ (own ++ xs)) f.front ∙ ap (λ xs. control ++ xs) (sym (append_assoc own later f.rest)) ∙ sym (append_assoc control (own ++ later) f.rest);
    }

abbrev zeros : List ℕ
zeros = replicate 12 0

-- control columns alone, with twelve more
alone_front : (control : List Column) → list_all clean control ≡ true → IsFront control
unfolding conforms
alone_front control c =
    let vs = map value_of control in
    let all = vs ++ zeros in
    let small : Small all = list_all-append (λ v. nat_lt v 64) vs zeros ∙ and_both _ _ (values_small control c) refl in
    let n = length-append vs zeros in
    record {
      periods = sends.control (ones all) ∷ [];
      spelled = control_columns all;
      conforming = ones_period all small (omega arith);
      spells = (control_columns all, [], sym (append-nil (control_columns all)), ap (map control_column) (sym (values_of_ones all)), refl);
      rest = control_columns zeros;
      front = map-append control_column vs zeros ∙ ap (λ xs. xs ++ control_columns zeros) (sym (columns_are control c));
    }

-- a front of a front
pub front_less : (xs ys : List Column) → IsFront (xs ++ ys) → IsFront xs
front_less xs ys f = record { periods = f.periods; spelled = f.spelled; conforming = f.conforming; spells = f.spells; rest = ys ++ f.rest; front = f.front ∙ append_assoc xs ys f.rest }

-- What a gap is.

-- the period that a gap spells, after control columns
pub record IsSpelled (control gap : List Column) : Type 0 where
  pub x : Period
  pub fits : inner (map value_of control) x ≡ true
  pub spelled : SpellsPeriodBy freely x gap

-- one that it begins
record IsBegun (control gap : List Column) : Type 0 where
  own : List Column
  of : IsSpelled control own
  rest : List Column
  begins : own ≡ gap ++ rest

guards_line : (g h : Column) (rest : List Column) → is_video_guard g ≡ true → is_video_guard h ≡ true → g ∷ (h ∷ rest) ≡ column_of video_guard ∷ (column_of video_guard ∷ rest)
guards_line g h rest e f = ap₂ (λ (c d : Column). c ∷ (d ∷ rest)) (guard_is g e) (guard_is h f)

video_spelled : (b : ℕ) (control : List Column) (g h : Column) (rest : List Column) → is_video_guard g ≡ true → is_video_guard h ≡ true → Fine (lacks b control VIDEO_PREAMBLE) → IsLine rest
    → IsSpelled control (g ∷ (h ∷ rest))
video_spelled b control g h rest e f l line = record {
  x = sends.video (line_bytes rest);
  fits = and_both _ _ (lacks_lead b control VIDEO_PREAMBLE l) line.period;
  spelled = (rest, guards_line g h rest e f, line.spelled);
}

island_spelled : (b : ℕ) (control gap : List Column) → Fine (lacks b control ISLAND_PREAMBLE) → IsIsland gap → IsSpelled control gap
island_spelled b control gap l is = record { x = sends.island is.x; fits = and_both _ _ (lacks_lead b control ISLAND_PREAMBLE l) is.conforms; spelled = is.spelled }

closed_island : (g h : Column) (ps : List (List Column)) (t : List Column) → AreGuards g h → ArePackets true 0 ps → IsClosed (length ps) t → IsIsland (g ∷ (h ∷ (flat ps ++ t)))
closed_island g h ps t before are c =
    subst (λ t. IsIsland (g ∷ (h ∷ (flat ps ++ t)))) (sym c.columns) (island_of g h before ps are c.some c.first c.second c.guards)

-- an island that is not whole, completed by a Null packet where it has none
record IsOpen (gap : List Column) : Type 0 where
  own : List Column
  is : IsIsland own
  rest : List Column
  begins : own ≡ gap ++ rest

zero_pair : AreGuards (guard_column 0) (guard_column 0)
zero_pair = record { pair = record { first = 0; second = 0 }; columns = refl; first = refl; second = refl }

null_packets : ArePackets true 0 (null_packet ∷ [])
null_packets =
    let c = null_carried in
    record { spelled = (null_packet, [], refl, c.carries, refl); conforms = and_both _ _ c.conforms refl; few = omega arith }

abbrev closing : List Column
closing = guard_column 0 ∷ (guard_column 0 ∷ [])

open_island_front : (g h : Column) (ps : List (List Column)) → AreGuards g h → ArePackets true 0 ps → IsOpen (g ∷ (h ∷ flat ps))
open_island_front g h [] before are = record {
  own = g ∷ (h ∷ (flat (null_packet ∷ []) ++ closing));
  is = island_of g h before (null_packet ∷ []) null_packets (omega arith) (guard_column 0) (guard_column 0) zero_pair;
  rest = flat (null_packet ∷ []) ++ closing;
  begins = refl;
}
open_island_front g h (p ∷ ps) before are = grind (arith, flat (p ∷ ps), island_of g h before (p ∷ ps) are (omega arith) (guard_column 0) (guard_column 0) zero_pair)

-- What is reported of it.

record IsLed (b bits : ℕ) (control : List Column) : Type 0 where
  led : Fine (lacks b control bits)
  long : 12 ≤ length control

led : (b bits : ℕ) (control : List Column) → Fine (lacks b control bits) → IsLed b bits control
led b bits control h = record { led = h; long = lacks_long b control bits h }

-- while it goes on
abbrev going : ℕ → List Column → Column → Column → Kind → List Column → List Event
going b control g h k rest = map event_of (all_at (b + 1) (opening b control g h k) ++ in_payload b k rest)

going_fine : (b : ℕ) (control : List Column) (g h : Column) (k : Kind) (rest : List Column) → Fine (going b control g h k rest)
    → Fine (opening b control g h k) × Fine (map event_of (in_payload b k rest))
going_fine b control g h k rest f = grind (arith, Fine, map-append, events_at, fine_left, fine_right)

-- a gap that a control column closes
pub record IsWhole (control gap : List Column) : Type 0 where
  pub long : 12 ≤ length control
  pub of : IsSpelled control gap

island_by : (f : ℕ → Event) (b : ℕ) (control : List Column) (g h : Column) (pl : Payload) → ((c : ℕ) → is_fault_event (f c) ≡ true) → AreGuards g h → Fine (lacks b control ISLAND_PREAMBLE) → LongOf pl
    → Fine (map event_of (in_island b pl)) → Fine (breaks f b pl) → IsWhole control (g ∷ (h ∷ flat_of pl))
island_by f b control g h (parts ps t) bad before l long reported shut =
    let both = island_fine b ps t long reported in
    let c = closed_fine b (left_at b ps) (length ps) t (if_so_fine (is_broken t) (f (left_at b ps)) (bad (left_at b ps)) shut) both.1 in
    record { long = lacks_long b control ISLAND_PREAMBLE l; of = island_spelled b control _ l (closed_island g h ps t before both.0 c) }

whole_by : (b : ℕ) (control : List Column) (g h : Column) (k : Kind) (rest : List Column) → opened g h ≡ k → Fine (going b control g h k rest) → Fine (payload_closes b k rest) → IsWhole control (g ∷ (h ∷ rest))
whole_by b control g h video rest e f c = grind (arith, going_fine, fine_left, both_sure, fine_right, lacks_long, video_spelled, line_fine)
whole_by b control g h island rest e f c =
    let both = going_fine b control g h island rest f in
    let led = lacks b control ISLAND_PREAMBLE in
    let opens = open_island (sync_digit g.blue) (sync_digit h.blue) ∷ wrong_guards is_island_guard b g h in
    let l = fine_left led opens both.0 in
    let sure = both_sure is_island_guard b g h (fine_right led opens both.0) in
    subst (λ xs. IsWhole control (g ∷ (h ∷ xs))) (split_flat (length rest) rest)
    (island_by broken b control g h (payload rest) (λ c. refl) (both_guards g h sure.0 sure.1) l (split_long (length rest) rest) both.1 c)
whole_by b control g h neither rest e f c = let both = going_fine b control g h neither rest f in let n = both.0 in absurd cc

pub gap_whole : (b : ℕ) (control : List Column) (g : Column) (gap : List Column) → Fine (gap_events b control (g ∷ gap)) → Fine (at_close b (g ∷ gap)) → IsWhole control (g ∷ gap)
unfolding in_gap at_close
gap_whole b control g gap h k = grind (arith, whole_by)

-- a gap that the end cuts
record IsLast (control gap : List Column) : Type 0 where
  long : 12 ≤ length control
  of : IsBegun control gap

begun : (control gap : List Column) → IsSpelled control gap → IsBegun control gap
begun control gap s = record { own = gap; of = s; rest = []; begins = sym (append-nil gap) }

last_island : (q : Bool) (b : ℕ) (control : List Column) (g h : Column) (ps : List (List Column)) (t : List Column) → is_broken t ≡ q → AreGuards g h → Fine (lacks b control ISLAND_PREAMBLE) → AreLong ps
    → Fine (map event_of (in_island b (parts ps t))) → IsBegun control (g ∷ (h ∷ (flat ps ++ when (not q) t)))
last_island false b control g h ps t e before l long reported =
    let both = island_fine b ps t long reported in
    begun control _ (island_spelled b control _ l (closed_island g h ps t before both.0 (closed_fine b (left_at b ps) (length ps) t e both.1)))
last_island true b control g h ps t e before l long reported =
    let o = open_island_front g h ps before (island_fine b ps t long reported).0 in
    record { own = o.own; of = island_spelled b control o.own l o.is; rest = o.rest; begins = o.begins ∙ ap (λ xs. g ∷ (h ∷ (xs ++ o.rest))) (sym (append-nil (flat ps))) }

last_payload : (b : ℕ) (control : List Column) (g h : Column) (pl : Payload) → AreGuards g h → Fine (lacks b control ISLAND_PREAMBLE) → LongOf pl → Fine (map event_of (in_island b pl)) → IsBegun control (g ∷ (h ∷ island_front pl))
last_payload b control g h (parts ps t) before l long reported = last_island (is_broken t) b control g h ps t refl before l long reported

last_by : (b : ℕ) (control : List Column) (g h : Column) (k : Kind) (rest : List Column) → opened g h ≡ k → Fine (going b control g h k rest) → IsLast control (g ∷ (h ∷ payload_front k rest))
last_by b control g h video rest e f =
    let reported = (going_fine b control g h video rest f).0 in
    let l = fine_left (lacks b control VIDEO_PREAMBLE) (wrong_guards is_video_guard b g h) reported in
    let sure = both_sure is_video_guard b g h (fine_right (lacks b control VIDEO_PREAMBLE) (wrong_guards is_video_guard b g h) reported) in
    record {
      long = lacks_long b control VIDEO_PREAMBLE l;
      of = record { own = g ∷ (h ∷ null_pixel); of = video_spelled b control g h null_pixel sure.0 sure.1 l null_line; rest = null_pixel; begins = refl };
    }
last_by b control g h island rest e f =
    let both = going_fine b control g h island rest f in
    grind (arith, led, fine_left, both_sure, fine_right, lacks_long, last_payload, both_guards, split_long)
last_by b control g h neither rest e f = let both = going_fine b control g h neither rest f in let n = both.0 in absurd cc

-- All periods.

last_front : (b : ℕ) (control : List Column) (g : Column) (gap : List Column) → list_all clean control ≡ true → Fine (gap_events b control (g ∷ gap)) → IsFront (control ++ gap_front (g ∷ gap))
unfolding in_gap
last_front b control g [] c f = subst IsFront (sym (append-nil control)) (alone_front control c)
last_front b control g (h ∷ rest) c f =
    let gap = gap_front (g ∷ (h ∷ rest)) in
    let l = last_by b control g h (opened g h) rest refl f in
    let o = l.of in
    let all = more_front control o.own [] o.of.x c l.long o.of.fits o.of.spelled (alone_front [] refl) in
    let e : control ++ (o.own ++ []) ≡ (control ++ gap) ++ o.rest = ap (λ xs. control ++ xs) (append-nil o.own ∙ o.begins) ∙ sym (append_assoc control gap o.rest) in
    front_less (control ++ gap) o.rest (subst IsFront e all)

pub build : (j : ℕ) (xs : List Cut) → IsCut xs → Fine (hear j xs) → IsFront (front xs)
build j [] were h = alone_front [] refl
build j (stretch control [] ∷ []) were h = subst IsFront (sym (append-nil control)) (alone_front control (control_clean j control h))
build j (stretch control (g ∷ gap) ∷ []) were h = grind (arith, Fine, hear_last, control_reported, gap_events, last_front, control_clean, fine_left, fine_right)
build j (stretch [] [] ∷ (y ∷ ys)) were h = absurd were.1
build j (stretch (k ∷ control) [] ∷ (y ∷ ys)) were h = absurd were.1
build j (stretch control (g ∷ gap) ∷ (y ∷ ys)) were h =
    let b = j + length control in
    let m = j + (length control + length (g ∷ gap)) in
    let f = subst (λ (ts : List Event). Fine ts) (hear_on j control g gap y ys) h in
    let reported = control_reported j control in
    let events = gap_events b control (g ∷ gap) in
    let close = at_close b (g ∷ gap) in
    let later = hear m (y ∷ ys) in
    let f1 = fine_right reported (events ++ (close ++ later)) f in
    let f2 = fine_right events (close ++ later) f1 in
    let w = gap_whole b control g gap (fine_left events (close ++ later) f1) (fine_left close later f2) in
    more_front control (g ∷ gap) (front (y ∷ ys)) w.of.x (control_clean j control (fine_left reported (events ++ (close ++ later)) f)) w.long w.of.fits w.of.spelled
    (build m (y ∷ ys) were.2 (fine_right close later f2))

pub clean_front : (cs : List Column) → IsClean cs → IsFront (front (stretches cs))
unfolding heard heard_so_far
clean_front cs h = build 0 (stretches cs) (cut_stretches cs) h
