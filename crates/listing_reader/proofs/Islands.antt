-- What the reader keeps of a data island: periods, and the island after them.
use Rattle.std.proofs.Common.{◌≡◌, ℕ, ◌+◌, ◌*◌, ◌≤◌, Bool, true, false, not, ◌&&◌, List, [], ◌∷◌, ◌++◌, length, refl, ap, sym, subst, ◌∙◌, arith, length-append, Option, Some, None, Err}
use Rattle.std.specs.Prelude.{nat_le, nat_lt, is_some}
use Rattle.std.specs.List.{list_all}
use Rattle.island_pack.specs.Periods.{DataIsland, Period, video, island, period_columns, columns_of}
use Rattle.island_pack.specs.Conforming.{is_sync_pair, is_packet, is_data_island}
use Rattle.island_pack.specs.declared.packet.Packet.{Packet}
use Rattle.island_pack.specs.declared.ranges.TheConstants.{COLUMN_LIMIT}
use Rattle.source_end.specs.Refusals.{last_period, is_control_last, is_long_enough, is_in_range, is_in_order, has_control, is_announced, push_fault, close_fault}
use Rattle.source_end.proofs.Faults.{first, push_fault_is}
use Rattle.source_end.proofs.Turns.{left as first_of, right as second_of}
use Rattle.listing_reader.specs.declared.fault.ListCause.{ListCause}
use Rattle.listing_reader.specs.declared.fault.ListCause.TheVariants.{Range, Order, Long}
use Rattle.listing_reader.specs.declared.teller.Refusal.{Refusal}
use Rattle.listing_reader.specs.declared.teller.Refusal.TheVariants.{Cause}
use Rattle.listing_reader.specs.Causes.{run_cause, run_cause_after, island_cause, packet_cause, close_cause, end_cause, line_cause, caused, unless, is_closed, has_room, has_packets, is_nineteenth, announces_island}
use Rattle.listing_reader.specs.Drafts.{OpenIsland, Draft, open_columns, draft_columns}
use Rattle.listing_reader.specs.Forms.{control_line, video_line, close_line}
use Rattle.listing_reader.specs.Reported.{AnswersCause, drafted, MayStand, IsBegun}
use Rattle.listing_reader.proofs.Feeds.{both}
use Rattle.listing_reader.proofs.OpenPeriods.{le_from}
use Rattle.listing_reader.proofs.Refused.{goes_past, test_held, rest_held}

pub room_is : (draft : Draft) (count : ℕ) → has_room draft count ≡ true → draft_columns draft + count ≤ COLUMN_LIMIT
room_is draft count h = le_from (draft_columns draft + count) COLUMN_LIMIT h

-- ---- no island

pub some_open : (periods : List Period) (x : Option DataIsland) (draft : Draft) → drafted periods x ≡ draft → is_some x ≡ true → is_closed draft.opened ≡ false
some_open periods x draft h k = grind arith

pub none_closed : (periods : List Period) (x : Option DataIsland) (draft : Draft) → drafted periods x ≡ draft → is_some x ≡ false → is_closed draft.opened ≡ true
none_closed periods x draft h k = grind arith

closed_columns : (x : Option OpenIsland) → is_closed x ≡ true → open_columns x ≡ 0
closed_columns None h = refl
closed_columns (Some x) h = absurd cc

-- ---- what cannot follow the line before it

turned : (T : Type 0) (test closed : Bool) (rest : Option ListCause) (refusal : Refusal) → closed ≡ false → (test ≡ true → refusal ≡ Cause Order) → (test ≡ false → refusal ≡ Cause Range)
    → AnswersCause {T = T} (unless test Range (unless closed Order rest)) (Err refusal)
turned T test true rest refusal h order range = absurd cc
turned T true false rest refusal h order range = subst (λ (r : Refusal). AnswersCause {T = T} (Some Order) (Err r)) (sym (order refl)) refl
turned T false false rest refusal h order range = subst (λ (r : Refusal). AnswersCause {T = T} (Some Range) (Err r)) (sym (range refl)) refl

pub run_turned : (T : Type 0) (draft : Draft) (value count : ℕ) (refusal : Refusal) → is_closed draft.opened ≡ false → ((nat_lt value 64 && (nat_le 1 count && nat_le count COLUMN_LIMIT)) ≡ true → refusal ≡ Cause Order)
    → ((nat_lt value 64 && (nat_le 1 count && nat_le count COLUMN_LIMIT)) ≡ false → refusal ≡ Cause Range) → AnswersCause {T = T} (line_cause draft (control_line value count)) (Err refusal)
unfolding line_cause run_cause
run_turned T draft value count refusal h order range = turned T (nat_lt value 64 && (nat_le 1 count && nat_le count COLUMN_LIMIT)) (is_closed draft.opened) _ refusal h order range

pub video_turned : (T : Type 0) (draft : Draft) (bytes : List ℕ) (refusal : Refusal) → is_closed draft.opened ≡ false → (is_in_range (video bytes) ≡ true → refusal ≡ Cause Order) → (is_in_range (video bytes) ≡ false → refusal ≡ Cause Range)
    → AnswersCause {T = T} (line_cause draft (video_line bytes)) (Err refusal)
unfolding line_cause
video_turned T draft bytes refusal h order range = turned T (is_in_range (video bytes)) (is_closed draft.opened) _ refusal h order range

pub close_turned : (T : Type 0) (draft : Draft) (a b : ℕ) (refusal : Refusal) → has_packets 1 18 draft.opened ≡ false → ((nat_lt a 4 && nat_lt b 4) ≡ true → refusal ≡ Cause Order) → ((nat_lt a 4 && nat_lt b 4) ≡ false → refusal ≡ Cause Range)
    → AnswersCause {T = T} (line_cause draft (close_line a b)) (Err refusal)
unfolding line_cause close_cause
close_turned T draft a b refusal h order range = turned T (nat_lt a 4 && nat_lt b 4) (has_packets 1 18 draft.opened) _ refusal h order range

-- ---- what the periods judge alone

pub run_judged : (draft : Draft) (value count : ℕ) → is_closed draft.opened ≡ true → line_cause draft (control_line value count) ≡ run_cause_after (columns_of draft.periods) value count
unfolding line_cause run_cause
run_judged draft value count h =
    let none = closed_columns draft.opened h in
    let same : draft_columns draft ≡ columns_of draft.periods = omega arith in
    ap (unless (nat_lt value 64 && (nat_le 1 count && nat_le count COLUMN_LIMIT)) Range)
    (goes_past (is_closed draft.opened) Order (unless (has_room draft count) Long None) h ∙ ap (λ n. unless (nat_le (n + count) COLUMN_LIMIT) Long None) same)

judged_twice : (a b c d e : Bool) → unless a Range (caused (first a b c d e)) ≡ caused (first a b c d e)
judged_twice true b c d e = refl
judged_twice false b c d e = refl

pub video_judged : (draft : Draft) (bytes : List ℕ) → is_closed draft.opened ≡ true → line_cause draft (video_line bytes) ≡ caused (push_fault draft.periods (video bytes))
unfolding line_cause
video_judged draft bytes h =
    let p = video bytes in
    let before = last_period draft.periods in
    let all = push_fault_is draft.periods p in
    ap (unless (is_in_range p) Range) (goes_past (is_closed draft.opened) Order (caused (push_fault draft.periods p)) h ∙ ap caused all)
    ∙ judged_twice (is_in_range p) (is_in_order before p) (has_control before p) (is_announced before p) (nat_le (columns_of draft.periods + period_columns p) COLUMN_LIMIT)
    ∙ sym (ap caused all)

pub end_judged : (draft : Draft) → is_closed draft.opened ≡ true → end_cause draft ≡ caused (close_fault draft.periods)
unfolding end_cause
end_judged draft h = goes_past (is_closed draft.opened) Order (caused (close_fault draft.periods)) h

pub end_open : (draft : Draft) → is_closed draft.opened ≡ false → end_cause draft ≡ Some Order
unfolding end_cause
end_open draft h = grind arith

-- ---- an island begins

-- what is known where an island may begin
record MayBegin (draft : Draft) (a b : ℕ) : Type 0 where
  pub sync : (nat_lt a 4 && nat_lt b 4) ≡ true
  pub turn : (is_closed draft.opened && is_control_last (last_period draft.periods)) ≡ true
  pub long : is_long_enough (last_period draft.periods) ≡ true
  pub announced : announces_island (last_period draft.periods) ≡ true
  pub room : has_room draft 2 ≡ true

may_begin : (draft : Draft) (a b : ℕ) → island_cause draft a b ≡ None → MayBegin draft a b
unfolding island_cause
may_begin draft a b h = grind (arith, rest_held, test_held)

pub begins : (periods : List Period) (before : Option DataIsland) (draft : Draft) (a b : ℕ) (x : DataIsland) → drafted periods before ≡ draft → island_cause draft a b ≡ None
    → x.opening ≡ record { first = a; second = b } → x.packets ≡ [] → IsBegun periods x
begins periods before draft a b x same h opening empty =
    let may = may_begin draft a b h in
    let here : draft.periods ≡ periods = ap (λ (d : Draft). d.periods) (sym same) in
    let none = closed_columns draft.opened (first_of (is_closed draft.opened) (is_control_last (last_period draft.periods)) may.turn) in
    let room = room_is draft 2 may.room in
    let all = ap columns_of here in
    record {
      long = ap (λ (ps : List Period). is_long_enough (last_period ps)) (sym here) ∙ may.long;
      announced = ap (λ (ps : List Period). announces_island (last_period ps)) (sym here) ∙ may.announced;
      opening = ap is_sync_pair opening ∙ may.sync;
      packets = ap (list_all is_packet) empty;
      few = omega (arith, ap (λ (ps : List Packet). length ps) empty);
      room = omega (arith, ap (λ (ps : List Packet). length ps) empty);
    }

-- ---- a packet more

record MayCome (draft : Draft) (p : Packet) : Type 0 where
  pub range : (list_all (λ v. nat_lt v 4) p.sync && not (is_nineteenth draft.opened)) ≡ true
  pub open_island : has_packets 0 18 draft.opened ≡ true
  pub room : has_room draft 32 ≡ true

may_come : (draft : Draft) (p : Packet) → packet_cause draft p ≡ None → MayCome draft p
unfolding packet_cause
may_come draft p h = grind (arith, rest_held, test_held)

packets_pass : (ps : List Packet) (p : Packet) → list_all is_packet ps ≡ true → is_packet p ≡ true → list_all is_packet (ps ++ p ∷ []) ≡ true
packets_pass [] p h k = both (is_packet p) true k refl
packets_pass (q ∷ ps) p h k = both (is_packet q) (list_all is_packet (ps ++ p ∷ [])) (first_of (is_packet q) (list_all is_packet ps) h) (packets_pass ps p (second_of (is_packet q) (list_all is_packet ps) h) k)

below_last : (n : ℕ) → not (nat_le 18 n && nat_le n 18) ≡ true → n ≤ 18 → n + 1 ≤ 18
below_last n h few = grind arith

grows : (periods : List Period) (x : DataIsland) (draft : Draft) (p : Packet) (y : DataIsland) → IsBegun periods x → drafted periods (Some x) ≡ draft → packet_cause draft p ≡ None → is_packet p ≡ true
    → y ≡ record { opening = x.opening; packets = x.packets ++ p ∷ []; closing = x.closing } → IsBegun periods y
grows periods x draft p y begun same h packet more =
    let is = may_come draft p h in
    let room = room_is draft 32 is.room in
    let reported : draft_columns (drafted periods (Some x)) ≡ draft_columns draft = ap draft_columns same in
    let size : length y.packets ≡ length x.packets + 1 = ap (λ (i : DataIsland). length i.packets) more ∙ length-append x.packets (p ∷ []) in
    let opened : not (is_nineteenth (drafted periods (Some x)).opened) ≡ true = ap (λ (d : Draft). not (is_nineteenth d.opened)) same ∙ second_of (list_all (λ v. nat_lt v 4) p.sync) (not (is_nineteenth draft.opened)) is.range in
    record {
      long = begun.long;
      announced = begun.announced;
      opening = ap (λ (i : DataIsland). is_sync_pair i.opening) more ∙ begun.opening;
      packets = ap (λ (i : DataIsland). list_all is_packet i.packets) more ∙ packets_pass x.packets p begun.packets packet;
      few = omega (arith, below_last (length x.packets) opened begun.few);
      room = omega arith;
    }

pub grows_at : (periods : List Period) (before : Option DataIsland) (x : DataIsland) (draft : Draft) (p : Packet) (y : DataIsland) → before ≡ Some x → MayStand periods before
    → drafted periods before ≡ draft → packet_cause draft p ≡ None → is_packet p ≡ true
    → y ≡ record { opening = x.opening; packets = x.packets ++ p ∷ []; closing = x.closing } → IsBegun periods y
grows_at periods before x draft p y at stands same =
    grows periods x draft p y (subst (MayStand periods) at stands) (subst (λ (o : Option DataIsland). drafted periods o ≡ draft) at same)

-- ---- an island is closed

island_in_range : (x : DataIsland) (packets : List Packet) → is_sync_pair x.opening ≡ true → x.packets ≡ packets → list_all is_packet packets ≡ true → (nat_le 1 (length packets) && nat_le (length packets) 18) ≡ true → is_in_range (island x) ≡ is_sync_pair x.closing
unfolding is_in_range is_data_island
island_in_range x packets opening same sound count = grind arith

ends_control : (before : Option Period) (x : DataIsland) → is_long_enough before ≡ true → is_in_order before (island x) ≡ true
ends_control before x h = grind arith

is_announced_is : (before : Option Period) (x : DataIsland) → is_announced before (island x) ≡ announces_island before
is_announced_is before x = grind arith

judged_close : (s p r : Bool) → p ≡ true → unless s Range (unless p Order (unless r Long None)) ≡ caused (first s true true true r)
judged_close s p r h = grind arith

same_first : (a b c d e a' : Bool) (e' : Bool) → a ≡ a' → b ≡ true → c ≡ true → d ≡ true → e ≡ e' → first a b c d e ≡ first a' true true true e'
same_first a b c d e a' e' h i j k l = grind arith

closes : (periods : List Period) (x : DataIsland) (draft : Draft) (a b : ℕ) (y : DataIsland) → IsBegun periods x → drafted periods (Some x) ≡ draft → has_packets 1 18 draft.opened ≡ true
    → y ≡ record { opening = x.opening; packets = x.packets; closing = record { first = a; second = b } } → line_cause draft (close_line a b) ≡ caused (push_fault periods (island y))
unfolding line_cause close_cause period_columns
closes periods x draft a b y begun same some more =
    let before = last_period periods in
    let reported : draft_columns (drafted periods (Some x)) ≡ draft_columns draft = ap draft_columns same in
    let size : length y.packets ≡ length x.packets = ap (λ (i : DataIsland). length i.packets) more in
    let count : (nat_le 1 (length x.packets) && nat_le (length x.packets) 18) ≡ true = ap (λ (d : Draft). has_packets 1 18 d.opened) same ∙ some in
    let range : is_in_range (island y) ≡ (nat_lt a 4 && nat_lt b 4) =
    island_in_range y x.packets (ap (λ (i : DataIsland). is_sync_pair i.opening) more ∙ begun.opening) (ap (λ (i : DataIsland). i.packets) more) begun.packets count ∙ ap (λ (i : DataIsland). is_sync_pair i.closing) more in
    let sum : columns_of periods + (4 + 32 * length y.packets) ≡ draft_columns draft + 2 = omega arith in
    judged_close (nat_lt a 4 && nat_lt b 4) (has_packets 1 18 draft.opened) (has_room draft 2) some
    ∙ ap caused
    (sym (same_first (is_in_range (island y)) (is_in_order before (island y)) (has_control before (island y)) (is_announced before (island y)) (nat_le (columns_of periods + (4 + 32 * length y.packets)) COLUMN_LIMIT) (nat_lt a 4 && nat_lt b 4) (has_room draft 2)
    range (ends_control before y begun.long) begun.long (is_announced_is before y ∙ begun.announced) (ap (λ n. nat_le n COLUMN_LIMIT) sum))
    ∙ sym (push_fault_is periods (island y)))

pub closes_at : (periods : List Period) (before : Option DataIsland) (x : DataIsland) (draft : Draft) (a b : ℕ) (y : DataIsland) → before ≡ Some x → MayStand periods before → drafted periods before ≡ draft → has_packets 1 18 draft.opened ≡ true
    → y ≡ record { opening = x.opening; packets = x.packets; closing = record { first = a; second = b } } → line_cause draft (close_line a b) ≡ caused (push_fault periods (island y))
closes_at periods before x draft a b y at stands same =
    closes periods x draft a b y (subst (MayStand periods) at stands) (subst (λ (o : Option DataIsland). drafted periods o ≡ draft) at same)
