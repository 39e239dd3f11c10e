-- A listing that is taken gives periods that conform.
use Rattle.std.proofs.Common.{◌≡◌, ℕ, suc, ◌+◌, ◌-◌, ◌*◌, ◌%◌, ◌≤◌, Bool, true, false, ◌&&◌, ◌==◌, if◌then◌else◌, List, [], ◌∷◌, ◌++◌, map, length, take, drop, refl, ap, sym, subst, ◌∙◌, arith, inl, inr, ◌⊎◌, Option, Some, None, Result, Ok, Err, length-append, length-drop, length-take-le}
use Rattle.std.specs.Prelude.{nat_le, nat_lt, nat_eq, slice_index, codes}
use Rattle.std.specs.List.{list_all, starts_with}
use Rattle.std.proofs.lemmas.Bool.{lt-ltb, leb-true, eqb-true}
use Rattle.std.proofs.lemmas.List.{length-map}
use Rattle.std.proofs.lemmas.List.Folds.{list_all-append}
use Rattle.hex.specs.Hex.{IsBytes, decode_of}
use Rattle.hex.specs.declared.error.FromHexError.{FromHexError}
use Rattle.hex.proofs.HexLemmas.{decode_of-ok}
use Rattle.island_pack.specs.Periods.{ControlRun, DataIsland, Period, control, video, island, period_columns, columns_of}
use Rattle.island_pack.specs.Conforming.{are_bytes, is_packet, conforms}
use Rattle.island_pack.specs.Spelling.{SpellsPeriod, Spells}
use Rattle.island_pack.specs.declared.packet.Packet.{Packet}
use Rattle.island_pack.specs.declared.ranges.TheConstants.{COLUMN_LIMIT}
use Rattle.source_end.specs.Framings.{link_rules}
use Rattle.source_end.specs.Kept.{are_pixels, has_pixels, conforms_so_far}
use Rattle.source_end.specs.Refusals.{last_period, is_control_last, is_in_range, is_in_order, has_control, is_announced, push_fault, close_fault}
use Rattle.source_end.specs.declared.items.ItemFault.{ItemFault}
use Rattle.source_end.proofs.Faults.{none_holds, push_fault_is}
use Rattle.source_end.proofs.FramingLaws.{link_is_framing}
use Rattle.source_end.proofs.Pushes.{nothing_yet, pushed, closed}
use Rattle.source_end.proofs.Turns.{no_columns, columns_of-more}
use Rattle.listing_reader.specs.declared.fault.ListCause.{ListCause}
use Rattle.listing_reader.specs.Causes.{line_cause, run_cause, packet_cause, close_cause, end_cause, caused, is_closed, has_room, has_packets}
use Rattle.listing_reader.specs.Drafts.{Draft, nothing_reported, draft_columns, with_line}
use Rattle.listing_reader.specs.Forms.{LineForm, control_line, video_line, island_line, packet_line, close_line, end_line, fault_line, no_line, is_digit, number_of, control_by, control_form, video_by, video_form, pair_by, pair_form, part, has_spaces, packet_by, packet_form, is_fault, form_of}
use Rattle.listing_reader.specs.declared.lines.TheConstants.{LINE_LIMIT}
use Rattle.listing_reader.specs.Laws.{TakenConforms}
use Rattle.listing_reader.specs.Lines.{pieces_of}
use Rattle.listing_reader.specs.LineSteps.{Read, accepts, LineStep, tells, closes, wrong, within_text, cut_short, ended_by, steps_on, read_lines}
use Rattle.listing_reader.specs.Reading.{link_step_by, link_step, reads_as}
use Rattle.listing_reader.specs.Reported.{with_open, drafted, MayStand}
use Rattle.listing_reader.proofs.Feeds.{both}
use Rattle.listing_reader.proofs.FramedOpen.{framed_run, framed_closes}
use Rattle.listing_reader.proofs.Islands.{room_is, video_judged, end_judged, begins, grows_at, closes_at}
use Rattle.listing_reader.proofs.OpenPeriods.{last_of_more, run_more, in_range_more, none_in_range}
use Rattle.listing_reader.proofs.Refused.{test_held, rest_held, cause_island, cause_packet}
use Rattle.listing_reader.proofs.Steps.{is_end}

-- ---- the bytes of a line

bytes_pass : (bytes : List ℕ) → IsBytes bytes → are_bytes bytes ≡ true
bytes_pass [] h = refl
bytes_pass (b ∷ bytes) h = both (nat_lt b 256) (are_bytes bytes) (lt-ltb b 256 (h 0)) (bytes_pass bytes (λ i. h (suc i)))

-- all of a packet but the ranges of its sync values
abbrev is_laid : Packet → Bool
is_laid p = ((length p.header == 3) && are_bytes p.header) && (((length p.bodies == 28) && are_bytes p.bodies) && (length p.sync == 32))

is_whole : (p : Packet) → is_laid p ≡ true → list_all (λ v. nat_lt v 4) p.sync ≡ true → is_packet p ≡ true
unfolding is_packet
is_whole p h k = three ((length p.header == 3) && are_bytes p.header) ((length p.bodies == 28) && are_bytes p.bodies) (length p.sync == 32) (list_all (λ v. nat_lt v 4) p.sync) h k
  where
    three : (a b c d : Bool) → (a && (b && c)) ≡ true → d ≡ true → (a && (b && (c && d))) ≡ true
    three true true true d h k = k
    three true true false d h k = absurd cc
    three true false c d h k = absurd cc
    three false b c d h k = absurd cc

-- the bytes of a line `v` are whole pixels, and a line `p` has as many as a packet
abbrev Formed : LineForm → Type 0
Formed (control_line value count) = Unit {0}
Formed (video_line bytes) = are_pixels bytes ≡ true
Formed (island_line a b) = Unit {0}
Formed (packet_line p) = is_laid p ≡ true
Formed (close_line a b) = Unit {0}
Formed end_line = Unit {0}
Formed fault_line = Unit {0}
Formed no_line = Unit {0}

chosen : (b : Bool) (x y : LineForm) → Formed x → Formed y → Formed (if b then x else y)
chosen true x y h k = h
chosen false x y h k = k

control_formed : (r : Result (List ℕ) FromHexError) (b : Bool) (n : Option ℕ) → Formed (control_by r b n)
control_formed (Ok []) b n = tt
control_formed (Ok (v ∷ [])) true (Some count) = tt
control_formed (Ok (v ∷ [])) true None = tt
control_formed (Ok (v ∷ [])) false n = tt
control_formed (Ok (v ∷ (w ∷ vs))) b n = tt
control_formed (Err e) b n = tt

video_formed : (rest : List ℕ) (b : Bool) (r : Result (List ℕ) FromHexError) → (length rest % 6 == 0) ≡ b → decode_of rest ≡ r → Formed (video_by b r)
video_formed rest true (Ok bytes) six read =
    let ok = decode_of-ok rest bytes read in
    let twice = ok.2 in
    let even : length rest % 6 ≡ 0 = eqb-true (length rest % 6) 0 six in
    let third : length bytes % 3 ≡ 0 = omega (arith, twice, even) in
    both (are_bytes bytes) (length bytes % 3 == 0) (bytes_pass bytes ok.3) (ap (λ n. n == 0) third)
video_formed rest true (Err e) six read = tt
video_formed rest false r six read = tt

pair_formed : (b : Bool) (x y : ℕ) → Formed (pair_by island_line b x y) × Formed (pair_by close_line b x y)
pair_formed true x y = (tt, tt)
pair_formed false x y = (tt, tt)

part_long : (rest : List ℕ) (from n : ℕ) → from + n ≤ length rest → length (part from n rest) ≡ n
part_long rest from n room = length-take-le n (drop from rest) (omega (arith, room, length-drop from rest))

-- a part of hexadecimal digits
record IsPart (n : ℕ) (bytes : List ℕ) : Type 0 where
  long : length bytes ≡ n
  bytes_are : are_bytes bytes ≡ true

part_read : (rest : List ℕ) (from n : ℕ) (bytes : List ℕ) → from + 2 * n ≤ length rest → decode_of (part from (2 * n) rest) ≡ Ok bytes → IsPart n bytes
part_read rest from n bytes room read =
    let ok = decode_of-ok (part from (2 * n) rest) bytes read in
    let twice = ok.2 in
    let long = part_long rest from (2 * n) room in
    record { long = omega (arith, twice, long); bytes_are = bytes_pass bytes ok.3 }

both_parts : (m n : ℕ) (xs ys : List ℕ) → IsPart m xs → IsPart n ys → IsPart (m + n) (xs ++ ys)
both_parts m n xs ys h k =
    let a = h.long in
    let b = k.long in
    record {
      long = omega (arith, length-append xs ys, a, b);
      bytes_are = list_all-append (λ b. nat_lt b 256) xs ys ∙ both (are_bytes xs) (are_bytes ys) h.bytes_are k.bytes_are;
    }

packet_formed : (rest : List ℕ) (laid : Bool) (h a b c d : Result (List ℕ) FromHexError) → ((length rest == 99) && (has_spaces rest && list_all is_digit (part 67 32 rest))) ≡ laid
    → decode_of (part 0 6 rest) ≡ h → decode_of (part 7 14 rest) ≡ a → decode_of (part 22 14 rest) ≡ b → decode_of (part 37 14 rest) ≡ c → decode_of (part 52 14 rest) ≡ d
    → Formed (packet_by laid h a b c d (part 67 32 rest))
packet_formed rest true (Ok header) (Ok x) (Ok y) (Ok z) (Ok w) laid p q r s t =
    let long : length rest ≡ 99 = eqb-true (length rest) 99 (first_of _ _ laid) in
    let head = part_read rest 0 3 header (omega (arith, long)) p in
    let bodies = both_parts 21 7 (x ++ y ++ z) w
    (both_parts 14 7 (x ++ y) z (both_parts 7 7 x y (part_read rest 7 7 x (omega (arith, long)) q) (part_read rest 22 7 y (omega (arith, long)) r)) (part_read rest 37 7 z (omega (arith, long)) s))
    (part_read rest 52 7 w (omega (arith, long)) t) in
    let sync : length (map (λ digit. digit - 48) (part 67 32 rest)) ≡ 32 = length-map (part 67 32 rest) (λ digit. digit - 48) ∙ part_long rest 67 32 (omega (arith, long)) in
    both _ _ (both _ _ (ap (λ n. n == 3) head.long) head.bytes_are) (both _ _ (both _ _ (ap (λ n. n == 28) bodies.long) bodies.bytes_are) (ap (λ n. n == 32) sync))
  where
    first_of : (a b : Bool) → (a && b) ≡ true → a ≡ true
    first_of true b h = refl
    first_of false b h = absurd cc
packet_formed rest true (Ok header) (Ok x) (Ok y) (Ok z) (Err e) laid p q r s t = tt
packet_formed rest true (Ok header) (Ok x) (Ok y) (Err e) d laid p q r s t = tt
packet_formed rest true (Ok header) (Ok x) (Err e) c d laid p q r s t = tt
packet_formed rest true (Ok header) (Err e) b c d laid p q r s t = tt
packet_formed rest true (Err e) a b c d laid p q r s t = tt
packet_formed rest false h a b c d laid p q r s t = tt

control_line_formed : (rest : List ℕ) → Formed (control_form rest)
unfolding control_form
control_line_formed rest = control_formed (decode_of (take 2 rest)) (slice_index rest 2 == 32) (number_of (drop 3 rest))

video_line_formed : (rest : List ℕ) → Formed (video_form rest)
unfolding video_form
video_line_formed rest = video_formed rest (length rest % 6 == 0) (decode_of rest) refl refl

island_line_formed : (rest : List ℕ) → Formed (pair_form island_line rest)
unfolding pair_form
island_line_formed rest = (pair_formed ((length rest == 2) && (is_digit (slice_index rest 0) && is_digit (slice_index rest 1))) (slice_index rest 0) (slice_index rest 1)).0

close_line_formed : (rest : List ℕ) → Formed (pair_form close_line rest)
unfolding pair_form
close_line_formed rest = (pair_formed ((length rest == 2) && (is_digit (slice_index rest 0) && is_digit (slice_index rest 1))) (slice_index rest 0) (slice_index rest 1)).1

packet_line_formed : (rest : List ℕ) → Formed (packet_form rest)
unfolding packet_form
packet_line_formed rest =
    packet_formed rest ((length rest == 99) && (has_spaces rest && list_all is_digit (part 67 32 rest)))
    (decode_of (part 0 6 rest)) (decode_of (part 7 14 rest)) (decode_of (part 22 14 rest)) (decode_of (part 37 14 rest)) (decode_of (part 52 14 rest)) refl refl refl refl refl refl

-- what a line may be that is none of those before
abbrev from_end : List ℕ → LineForm
from_end line = if starts_with nat_eq line (codes "end") && (length line == 3) then end_line else no_line

abbrev from_close : List ℕ → LineForm
from_close line = if starts_with nat_eq line (codes "e ") then pair_form close_line (drop 2 line) else from_end line

abbrev from_packet : List ℕ → LineForm
from_packet line = if starts_with nat_eq line (codes "p ") then packet_form (drop 2 line) else from_close line

abbrev from_island : List ℕ → LineForm
from_island line = if starts_with nat_eq line (codes "i ") then pair_form island_line (drop 2 line) else from_packet line

abbrev from_video : List ℕ → LineForm
from_video line = if starts_with nat_eq line (codes "v ") then video_form (drop 2 line) else from_island line

abbrev from_control : List ℕ → LineForm
from_control line = if starts_with nat_eq line (codes "c ") then control_form (drop 2 line) else from_video line

abbrev from_short : List ℕ → LineForm
from_short line = if nat_lt LINE_LIMIT (length line) then no_line else from_control line

formed : (line : List ℕ) → Formed (form_of line)
unfolding form_of
formed line =
    chosen (is_fault line) fault_line (from_short line) tt
    (chosen (nat_lt LINE_LIMIT (length line)) no_line (from_control line) tt
    (chosen (starts_with nat_eq line (codes "c ")) (control_form (drop 2 line)) (from_video line) (control_line_formed (drop 2 line))
    (chosen (starts_with nat_eq line (codes "v ")) (video_form (drop 2 line)) (from_island line) (video_line_formed (drop 2 line))
    (chosen (starts_with nat_eq line (codes "i ")) (pair_form island_line (drop 2 line)) (from_packet line) (island_line_formed (drop 2 line))
    (chosen (starts_with nat_eq line (codes "p ")) (packet_form (drop 2 line)) (from_close line) (packet_line_formed (drop 2 line))
    (chosen (starts_with nat_eq line (codes "e ")) (pair_form close_line (drop 2 line)) (from_end line) (close_line_formed (drop 2 line))
    (chosen (starts_with nat_eq line (codes "end") && (length line == 3)) end_line no_line tt tt)))))))

-- ---- what was said so far

record IsGood (d : Draft) : Type 0 where
  periods : List Period
  runs : List ControlRun
  begun : Option DataIsland
  is : drafted (with_open periods runs) begun ≡ d
  turn : is_control_last (last_period periods) ≡ false
  so_far : conforms_so_far periods ≡ true
  in_range : is_in_range (control runs) ≡ true
  few : columns_of (with_open periods runs) ≤ COLUMN_LIMIT
  stands : MayStand (with_open periods runs) begun

nothing_good : IsGood nothing_reported
nothing_good =
    let none = no_columns in
    record { periods = []; runs = []; begun = None; is = refl; turn = refl; so_far = nothing_yet; in_range = none_in_range [] refl; few = omega (arith, none); stands = tt }

-- the last control period is among them
all_so_far : (ps : List Period) (rs : List ControlRun) → is_control_last (last_period ps) ≡ false → conforms_so_far ps ≡ true → is_in_range (control rs) ≡ true → columns_of (with_open ps rs) ≤ COLUMN_LIMIT → conforms_so_far (with_open ps rs) ≡ true
all_so_far ps [] turn so_far in_range few = so_far
all_so_far ps (r ∷ rs) turn so_far in_range few = pushed ps (control (r ∷ rs)) so_far refl refl (framed_closes link_rules SpellsPeriod Spells link_is_framing ps (r ∷ rs) turn in_range few)

no_cause : (fault : Option ItemFault) → caused fault ≡ None → fault ≡ None
no_cause None h = refl
no_cause (Some fault) h = cc h

-- a period more that is no control period
more_good : (now : Draft) (ps : List Period) (p : Period) → now ≡ drafted (ps ++ p ∷ []) None → conforms_so_far ps ≡ true → is_control_last (Some p) ≡ false → has_pixels p ≡ true → push_fault ps p ≡ None → IsGood now
more_good now ps p is so_far other whole none =
    let all = none_holds (is_in_range p) (is_in_order (last_period ps) p) (has_control (last_period ps) p) (is_announced (last_period ps) p) (nat_le (columns_of ps + period_columns p) COLUMN_LIMIT) (sym (push_fault_is ps p) ∙ none) in
    let room = leb-true (columns_of ps + period_columns p) COLUMN_LIMIT all.room in
    let size = columns_of-more ps p in
    record {
      periods = ps ++ p ∷ [];
      runs = [];
      begun = None;
      is = sym is;
      turn = ap is_control_last (last_of_more ps p) ∙ other;
      so_far = pushed ps p so_far refl whole none;
      in_range = none_in_range [] refl;
      few = omega (arith, room, size);
      stands = tt;
    }

-- ---- one line more

-- a run may come
record MayRun (d : Draft) (value count : ℕ) : Type 0 where
  range : (nat_lt value 64 && (nat_le 1 count && nat_le count COLUMN_LIMIT)) ≡ true
  out : is_closed d.opened ≡ true
  room : has_room d count ≡ true

may_run : (d : Draft) (value count : ℕ) → line_cause d (control_line value count) ≡ None → MayRun d value count
unfolding line_cause run_cause
may_run d value count h = grind (arith, rest_held, test_held)

none_begun : (ps : List Period) (x : Option DataIsland) → is_closed (drafted ps x).opened ≡ true → x ≡ None
none_begun ps None h = refl
none_begun ps (Some x) h = absurd cc

run_good : (d : Draft) → IsGood d → (value count : ℕ) → line_cause d (control_line value count) ≡ None → IsGood (with_line (control_line value count) d)
run_good d g value count none =
    let r : ControlRun = record { value = value; count = count } in
    let all = with_open g.periods g.runs in
    let may = may_run d value count none in
    let no : g.begun ≡ None = none_begun all g.begun (ap (λ (e : Draft). is_closed e.opened) g.is ∙ may.out) in
    let here : drafted all None ≡ d = ap (drafted all) (sym no) ∙ g.is in
    let size = framed_run link_rules SpellsPeriod Spells link_is_framing g.periods g.runs r in
    let room = room_is d count may.room in
    let sum : draft_columns (drafted all None) ≡ draft_columns d = ap draft_columns here in
    record {
      periods = g.periods;
      runs = g.runs ++ r ∷ [];
      begun = None;
      is = ap (λ (ps : List Period). drafted ps None) (sym (run_more g.periods g.runs r g.turn)) ∙ ap (with_line (control_line value count)) here;
      turn = g.turn;
      so_far = g.so_far;
      in_range = in_range_more g.runs r g.in_range may.range;
      few = omega (arith, size, room, sum);
      stands = tt;
    }

-- outside an island
video_out : (d : Draft) (bytes : List ℕ) → line_cause d (video_line bytes) ≡ None → is_closed d.opened ≡ true
unfolding line_cause
video_out d bytes h = grind (arith, rest_held, test_held)

video_good : (d : Draft) → IsGood d → (bytes : List ℕ) → are_pixels bytes ≡ true → line_cause d (video_line bytes) ≡ None → IsGood (with_line (video_line bytes) d)
video_good d g bytes whole none =
    let all = with_open g.periods g.runs in
    let out = video_out d bytes none in
    let no : g.begun ≡ None = none_begun all g.begun (ap (λ (e : Draft). is_closed e.opened) g.is ∙ out) in
    let here : d ≡ drafted all None = sym (ap (drafted all) (sym no) ∙ g.is) in
    let fine : push_fault d.periods (video bytes) ≡ None = no_cause (push_fault d.periods (video bytes)) (sym (video_judged d bytes out) ∙ none) in
    more_good (with_line (video_line bytes) d) all (video bytes) (ap (with_line (video_line bytes)) here) (all_so_far g.periods g.runs g.turn g.so_far g.in_range g.few) refl whole
    (ap (λ (e : Draft). push_fault e.periods (video bytes)) (sym here) ∙ fine)

island_good : (d : Draft) → IsGood d → (a b : ℕ) → line_cause d (island_line a b) ≡ None → IsGood (with_line (island_line a b) d)
island_good d g a b none =
    let all = with_open g.periods g.runs in
    let x : DataIsland = record { opening = record { first = a; second = b }; packets = []; closing = record { first = a; second = b } } in
    record {
      periods = g.periods;
      runs = g.runs;
      begun = Some x;
      is = ap (with_line (island_line a b)) g.is;
      turn = g.turn;
      so_far = g.so_far;
      in_range = g.in_range;
      few = g.few;
      stands = begins all g.begun d a b x g.is (sym (cause_island d a b) ∙ none) refl refl;
    }

record MayAdd (d : Draft) (p : Packet) : Type 0 where
  sync : list_all (λ v. nat_lt v 4) p.sync ≡ true
  within : has_packets 0 18 d.opened ≡ true

may_add : (d : Draft) (p : Packet) → packet_cause d p ≡ None → MayAdd d p
unfolding packet_cause
may_add d p h = grind (arith, rest_held, test_held)

-- an island is open
some_begun : (least : ℕ) (ps : List Period) (x : Option DataIsland) → has_packets least 18 (drafted ps x).opened ≡ true → (y : DataIsland) × (x ≡ Some y)
some_begun least ps (Some y) h = (y, refl)
some_begun least ps None h = absurd cc

packet_good : (d : Draft) → IsGood d → (p : Packet) → is_laid p ≡ true → line_cause d (packet_line p) ≡ None → IsGood (with_line (packet_line p) d)
packet_good d g p laid none =
    let all = with_open g.periods g.runs in
    let fine : packet_cause d p ≡ None = sym (cause_packet d p) ∙ none in
    let may = may_add d p fine in
    let was = some_begun 0 all g.begun (ap (λ (e : Draft). has_packets 0 18 e.opened) g.is ∙ may.within) in
    let x = was.0 in
    let at = was.1 in
    let y : DataIsland = record { opening = x.opening; packets = x.packets ++ p ∷ []; closing = x.closing } in
    record {
      periods = g.periods;
      runs = g.runs;
      begun = Some y;
      is = ap (with_line (packet_line p)) (ap (drafted all) (sym at) ∙ g.is);
      turn = g.turn;
      so_far = g.so_far;
      in_range = g.in_range;
      few = g.few;
      stands = grows_at all g.begun x d p y at g.stands g.is fine (is_whole p laid may.sync) refl;
    }

close_within : (d : Draft) (a b : ℕ) → line_cause d (close_line a b) ≡ None → has_packets 1 18 d.opened ≡ true
unfolding line_cause close_cause
close_within d a b h = grind (arith, rest_held, test_held)

close_good : (d : Draft) → IsGood d → (a b : ℕ) → line_cause d (close_line a b) ≡ None → IsGood (with_line (close_line a b) d)
close_good d g a b none =
    let all = with_open g.periods g.runs in
    let within = close_within d a b none in
    let was = some_begun 1 all g.begun (ap (λ (e : Draft). has_packets 1 18 e.opened) g.is ∙ within) in
    let x = was.0 in
    let at = was.1 in
    let y : DataIsland = record { opening = x.opening; packets = x.packets; closing = record { first = a; second = b } } in
    let fine : push_fault all (island y) ≡ None = no_cause (push_fault all (island y)) (sym (closes_at all g.begun x d a b y at g.stands g.is within refl) ∙ none) in
    more_good (with_line (close_line a b) d) all (island y) (ap (with_line (close_line a b)) (sym g.is ∙ ap (drafted all) at)) (all_so_far g.periods g.runs g.turn g.so_far g.in_range g.few) refl refl fine

line_good : (d : Draft) (form : LineForm) → IsGood d → Formed form → line_cause d form ≡ None → is_end form ≡ false → IsGood (with_line form d)
unfolding line_cause
line_good d (control_line value count) g formed none more = run_good d g value count none
line_good d (video_line bytes) g formed none more = video_good d g bytes formed none
line_good d (island_line a b) g formed none more = island_good d g a b none
line_good d (packet_line p) g formed none more = packet_good d g p formed none
line_good d (close_line a b) g formed none more = close_good d g a b none
line_good d end_line g formed none more = absurd cc
line_good d fault_line g formed none more = absurd cc
line_good d no_line g formed none more = absurd cc

-- ---- the line `end`

end_out : (d : Draft) → end_cause d ≡ None → is_closed d.opened ≡ true
unfolding end_cause
end_out d h = grind (arith, rest_held, test_held)

end_good : (d : Draft) → IsGood d → end_cause d ≡ None → conforms d.periods ≡ true
end_good d g none =
    let all = with_open g.periods g.runs in
    let here : all ≡ d.periods = ap (λ (e : Draft). e.periods) g.is in
    let fine : close_fault d.periods ≡ None = no_cause (close_fault d.periods) (sym (end_judged d (end_out d none)) ∙ none) in
    closed d.periods (subst (λ (ps : List Period). conforms_so_far ps ≡ true) here (all_so_far g.periods g.runs g.turn g.so_far g.in_range g.few)) fine

-- ---- all lines

-- what a line did that was not refused
abbrev Did : Draft → LineForm → LineStep Draft (List Period) → Type 0
Did d form (tells now) = (line_cause d form ≡ None) × (is_end form ≡ false) × (now ≡ with_line form d)
Did d form (closes periods) = (end_cause d ≡ None) × (periods ≡ d.periods)
Did d form (wrong cause) = Unit {0}

did : (d : Draft) (form : LineForm) (cause : Option ListCause) → line_cause d form ≡ cause → Did d form (link_step_by cause form d)
unfolding line_cause
did d form (Some cause) is = tt
did d (control_line value count) None is = (is, refl, refl)
did d (video_line bytes) None is = (is, refl, refl)
did d (island_line a b) None is = (is, refl, refl)
did d (packet_line p) None is = (is, refl, refl)
did d (close_line a b) None is = (is, refl, refl)
did d end_line None is = (is, refl)
did d fault_line None is = tt
did d no_line None is = tt

line_did : (d : Draft) (line : List ℕ) → Did d (form_of line) (link_step d line)
unfolding link_step
line_did d line = did d (form_of line) (line_cause d (form_of line)) refl

cut_refused : (n : ℕ) (line : List ℕ) (step : LineStep Draft (List Period)) (periods : List Period) → cut_short n line step ≡ accepts periods → ⊥
cut_refused n [] step periods h = cc h
cut_refused n (c ∷ line) (tells now) periods h = cc h
cut_refused n (c ∷ line) (closes given) periods h = cc h
cut_refused n (c ∷ line) (wrong cause) periods h = cc h

end_given : (n : ℕ) (given periods : List Period) (after : List (List ℕ)) → ended_by n given after ≡ accepts periods → given ≡ periods
end_given n given periods [] h = cc h
end_given n given periods ([] ∷ []) h = cc h
end_given n given periods ([] ∷ (line ∷ after)) h = cc h
end_given n given periods ((c ∷ line) ∷ after) h = cc h

-- what a line did by which a text was taken
record Taken (d : Draft) (form : LineForm) (rest : Draft → Read (List Period)) (periods : List Period) : Type 0 where
  now : Draft
  none : line_cause d form ≡ None
  more : is_end form ≡ false
  is : now ≡ with_line form d
  reads : rest now ≡ accepts periods

line_taken : (n : ℕ) (after : List (List ℕ)) (rest : Draft → Read (List Period)) (short : Bool) (d : Draft) (form : LineForm) (step : LineStep Draft (List Period)) (periods : List Period) → Did d form step
    → steps_on n after rest (within_text short step) ≡ accepts periods → Taken d form rest periods ⊎ ((end_cause d ≡ None) × (periods ≡ d.periods))
line_taken n after rest true d form (tells now) periods (none, more, is) h = inl record { now = now; none = none; more = more; is = is; reads = h }
line_taken n after rest true d form (closes given) periods (none, is) h = inr (none, sym (end_given (n + 1) given periods after h) ∙ is)
line_taken n after rest true d form (wrong cause) periods k h = cc h
line_taken n after rest false d form (tells now) periods k h = cc h
line_taken n after rest false d form (closes given) periods k h = cc h
line_taken n after rest false d form (wrong cause) periods k h = cc h

lines_conform : (n at : ℕ) (d : Draft) (lines : List (List ℕ)) (periods : List Period) → IsGood d → read_lines link_step n at d lines ≡ accepts periods → conforms periods ≡ true
unfolding read_lines
lines_conform n at d [] periods g h = cc h
lines_conform n at d (line ∷ []) periods g h = absurd (cut_refused n line (within_text (nat_le (at + length line) 4294967295) (link_step d line)) periods h)
lines_conform n at d (line ∷ (next ∷ more)) periods g h =
    elim (line_taken n (next ∷ more) (λ now. read_lines link_step (n + 1) (at + length line + 1) now (next ∷ more)) (nat_le (at + length line + 1) 4294967295) d (form_of line) (link_step d line) periods (line_did d line) h) [
      | inl t ↦
          lines_conform (n + 1) (at + length line + 1) t.now (next ∷ more) periods
          (subst (λ (e : Draft). IsGood e) (sym t.is) (line_good d (form_of line) g (formed line) t.none t.more)) t.reads
      | inr (none, is) ↦ ap conforms is ∙ end_good d g none
    ]

pub taken_conforms : TakenConforms
unfolding reads_as
taken_conforms text periods h = lines_conform 1 0 nothing_reported (pieces_of text) periods nothing_good h
