-- The text of a conforming list of periods, read from a line on, and whole.
use Rattle.std.proofs.lemmas.Grind.{common_steps}
use Rattle.std.proofs.Common.{◌≡◌, ℕ, ◌+◌, ◌*◌, ◌/◌, ◌%◌, ◌<◌, ◌≤◌, true, false, ◌&&◌, List, [], ◌∷◌, ◌++◌, length, refl, ap, sym, subst, ◌∙◌, arith, append_assoc, append-nil, length-append}
use Rattle.std.specs.Prelude.{None, nat_le, nat_lt}
use Rattle.std.specs.List.{list_all}
use Rattle.std.proofs.lemmas.Bool.{le-leb, eqb-true}
use Rattle.hex.specs.Hex.{IsBytes}
use Rattle.island_pack.specs.Periods.{ControlRun, DataIsland, Period, control, video, island, values_of, has_preamble, VIDEO_PREAMBLE, ISLAND_PREAMBLE, period_columns, columns_of}
use Rattle.island_pack.specs.Conforming.{is_run, is_control_period, is_video_period, is_data_island, conforms, IsConforming}
use Rattle.island_pack.specs.declared.ranges.TheConstants.{COLUMN_LIMIT}
use Rattle.period_grammar.specs.Events.{run as run_event, line as line_event}
use Rattle.source_end.specs.Refusals.{last_period, is_control_last, is_in_range, is_long_enough, push_fault}
use Rattle.source_end.proofs.Faults.{push_none}
use Rattle.source_end.proofs.Leads.{length-values_of-more}
use Rattle.source_end.proofs.Turns.{columns_of-more}
use Rattle.listing_reader.specs.Lines.{pieces_of}
use Rattle.listing_reader.specs.Forms.{control_line, video_line}
use Rattle.listing_reader.specs.Causes.{announces_island}
use Rattle.listing_reader.specs.LineSteps.{Read, accepts, tells, read_lines}
use Rattle.listing_reader.specs.Reading.{link_step, reads_as}
use Rattle.listing_reader.specs.Reported.{with_open}
use Rattle.listing_reader.proofs.Feeds.{and-left, and-right}
use Rattle.listing_reader.proofs.OpenPeriods.{last_of_more, run_more, columns_open}
use Rattle.listing_laws.proofs.Text.{line_of, run_lines, period_lines, text_of}
use Rattle.listing_laws.proofs.Digits.{below-from, bytes_from}
use Rattle.listing_laws.proofs.LineForms.{line_is, run_body, run_words, run_body_short, run_form, run_feedless, video_body, video_words, video_body_length, video_seen, video_feedless, end_body, end_form}
use Rattle.listing_laws.proofs.LineSteps.{read_more, read_end}
use Rattle.listing_laws.proofs.Islands.{reported, read_island}
use Rattle.listing_laws.proofs.NoCause.{run_cause_none, video_cause_none, end_cause_none}

least : (a b : ℕ) → nat_le a b ≡ true → a ≤ b
least a b h = grind arith

-- ---- the runs of a control period

run_count : (r : ControlRun) (runs : List ControlRun) → length (values_of (r ∷ runs)) ≡ r.count + length (values_of runs)
unfolding values_of
run_count r runs = grind (arith, common_steps, length-append)

-- one run
read_run : (n at : ℕ) (ps : List Period) (done : List ControlRun) (r : ControlRun) (rest : List ℕ) → is_control_last (last_period ps) ≡ false → is_run r ≡ true
    → columns_of ps + (length (values_of done) + r.count) ≤ COLUMN_LIMIT → at ≤ 14 * (columns_of ps + length (values_of done))
    → read_lines link_step n at (reported (with_open ps done)) (pieces_of (line_of (run_event r.value r.count) ++ rest)) ≡ read_lines link_step (n + 1) (at + length (run_body r) + 1) (reported (with_open ps (done ++ r ∷ []))) (pieces_of rest)
read_run n at ps done r rest turn run few before =
    let below : r.value < 64 = below-from r.value 64 (and-left (nat_lt r.value 64) (nat_le 1 r.count) run) in
    let some : 1 ≤ r.count = least 1 r.count (and-right (nat_lt r.value 64) (nat_le 1 r.count) run) in
    let small : r.count ≤ COLUMN_LIMIT = omega arith in
    let open_columns = columns_open ps done in
    let short = run_body_short r small in
    ap (λ (text : List ℕ). read_lines link_step n at (reported (with_open ps done)) (pieces_of text)) (line_is (run_event r.value r.count) (run_body r) rest (run_words r))
    ∙ read_more n at (reported (with_open ps done)) (reported (with_open ps (done ++ r ∷ []))) (run_body r) rest (control_line r.value r.count) (run_feedless r small) (run_form r below small)
    (run_cause_none (reported (with_open ps done)) r.value r.count below some small refl (omega arith))
    (ap (λ (qs : List Period). tells (reported qs)) (run_more ps done r turn))
    (omega arith)

-- all runs: `goal` is what the text after them reads as
read_runs : (ps : List Period) (done runs all : List ControlRun) (n at : ℕ) (rest : List ℕ) (goal : Read (List Period)) → is_control_last (last_period ps) ≡ false → list_all is_run runs ≡ true
    → done ++ runs ≡ all → columns_of ps + (length (values_of done) + length (values_of runs)) ≤ COLUMN_LIMIT → at ≤ 14 * (columns_of ps + length (values_of done))
    → ((m to : ℕ) → to ≤ 14 * (columns_of ps + length (values_of all)) → read_lines link_step m to (reported (with_open ps all)) (pieces_of rest) ≡ goal)
    → read_lines link_step n at (reported (with_open ps done)) (pieces_of (run_lines runs ++ rest)) ≡ goal
unfolding run_lines
read_runs ps done [] all n at rest goal turn every is few before after =
    let same : done ≡ all = sym (append-nil done) ∙ is in
    let to : at ≤ 14 * (columns_of ps + length (values_of all)) = subst (λ (rs : List ControlRun). at ≤ 14 * (columns_of ps + length (values_of rs))) same before in
    ap (λ (rs : List ControlRun). read_lines link_step n at (reported (with_open ps rs)) (pieces_of rest)) same ∙ after n at to
read_runs ps done (r ∷ runs) all n at rest goal turn every is few before after =
    let run : is_run r ≡ true = and-left (is_run r) (list_all is_run runs) every in
    let later : list_all is_run runs ≡ true = and-right (is_run r) (list_all is_run runs) every in
    let some : 1 ≤ r.count = least 1 r.count (and-right (nat_lt r.value 64) (nat_le 1 r.count) run) in
    let counted = run_count r runs in
    let more = length-values_of-more done r in
    let short = run_body_short r (omega arith) in
    ap (λ (text : List ℕ). read_lines link_step n at (reported (with_open ps done)) (pieces_of text)) (append_assoc (line_of (run_event r.value r.count)) (run_lines runs) rest)
    ∙ read_run n at ps done r (run_lines runs ++ rest) turn run (omega arith) before
    ∙ read_runs ps (done ++ r ∷ []) runs all (n + 1) (at + length (run_body r) + 1) rest goal turn later (append_assoc done (r ∷ []) runs ∙ is) (omega arith) (omega arith) after

-- ---- a whole period

long_enough : (runs : List ControlRun) → is_control_period runs ≡ true → nat_le 12 (length (values_of runs)) ≡ true
unfolding is_control_period
long_enough runs period = and-right (list_all is_run runs) (nat_le 12 (length (values_of runs))) period

all_runs : (runs : List ControlRun) → is_control_period runs ≡ true → list_all is_run runs ≡ true
unfolding is_control_period
all_runs runs period = and-left (list_all is_run runs) (nat_le 12 (length (values_of runs))) period

some_runs : (ps : List Period) (runs : List ControlRun) → is_control_period runs ≡ true → with_open ps runs ≡ ps ++ control runs ∷ []
unfolding is_control_period values_of
some_runs ps runs h = grind arith

-- a control period, from its first line on
read_control : (ps : List Period) (runs : List ControlRun) (n at : ℕ) (rest : List ℕ) (goal : Read (List Period)) → is_control_last (last_period ps) ≡ false → is_control_period runs ≡ true
    → columns_of ps + length (values_of runs) ≤ COLUMN_LIMIT → at ≤ 14 * columns_of ps
    → ((m to : ℕ) → to ≤ 14 * (columns_of ps + length (values_of runs)) → read_lines link_step m to (reported (ps ++ control runs ∷ [])) (pieces_of rest) ≡ goal)
    → read_lines link_step n at (reported ps) (pieces_of (run_lines runs ++ rest)) ≡ goal
unfolding values_of
read_control ps runs n at rest goal turn period few before after =
    read_runs ps [] runs runs n at rest goal turn (all_runs runs period) refl (omega arith) (omega arith)
    (λ m to within. ap (λ (qs : List Period). read_lines link_step m to (reported qs) (pieces_of rest)) (some_runs ps runs period) ∙ after m to within)

-- the last period is this control period
is_last : (ps : List Period) (runs : List ControlRun) → is_control_last (last_period (ps ++ control runs ∷ [])) ≡ true
is_last ps runs = ap is_control_last (last_of_more ps (control runs))

is_long : (ps : List Period) (runs : List ControlRun) → is_control_period runs ≡ true → is_long_enough (last_period (ps ++ control runs ∷ [])) ≡ true
is_long ps runs period = ap is_long_enough (last_of_more ps (control runs)) ∙ long_enough runs period

-- the line `end`
read_last : (n at : ℕ) (ps : List Period) (runs : List ControlRun) → is_control_period runs ≡ true → columns_of ps + length (values_of runs) ≤ COLUMN_LIMIT
    → at ≤ 14 * (columns_of ps + length (values_of runs)) → read_lines link_step n at (reported (ps ++ control runs ∷ [])) (pieces_of (text_of [])) ≡ accepts (ps ++ control runs ∷ [])
unfolding text_of
read_last n at ps runs period few before =
    read_end n at (reported (ps ++ control runs ∷ [])) end_body refl end_form (end_cause_none (reported (ps ++ control runs ∷ [])) (is_last ps runs) (is_long ps runs period)) (omega arith)

-- what the test of a video data period says
pub record IsVideo (bytes : List ℕ) : Type 0 where
  pub values : IsBytes bytes
  pub whole : length bytes % 3 ≡ 0
  pub range : is_in_range (video bytes) ≡ true
  pub few : length bytes / 3 ≤ 4096

pub video_is : (bytes : List ℕ) → is_video_period bytes ≡ true → IsVideo bytes
unfolding is_video_period is_in_range
video_is bytes period = grind (arith, and-right, bytes_from, and-left, eqb-true, least)

-- a video data period after a control period has no fault
video_follows : (ps : List Period) (runs : List ControlRun) (bytes : List ℕ) → is_control_period runs ≡ true → has_preamble VIDEO_PREAMBLE (values_of runs) ≡ true → IsVideo bytes
    → columns_of (ps ++ control runs ∷ []) + period_columns (video bytes) ≤ COLUMN_LIMIT → push_fault (ps ++ control runs ∷ []) (video bytes) ≡ None
video_follows ps runs bytes period announced is few = grind (arith, last_of_more, push_none, long_enough, le-leb)

-- a video data period's line
read_video : (n at : ℕ) (ps : List Period) (runs : List ControlRun) (bytes rest : List ℕ) → is_control_period runs ≡ true → has_preamble VIDEO_PREAMBLE (values_of runs) ≡ true → IsVideo bytes
    → columns_of (ps ++ control runs ∷ []) + period_columns (video bytes) ≤ COLUMN_LIMIT → at ≤ 14 * columns_of (ps ++ control runs ∷ [])
    → read_lines link_step n at (reported (ps ++ control runs ∷ [])) (pieces_of (line_of (line_event bytes) ++ rest))
    ≡ read_lines link_step (n + 1) (at + length (video_body bytes) + 1) (reported ((ps ++ control runs ∷ []) ++ video bytes ∷ [])) (pieces_of rest)
read_video n at ps runs bytes rest period announced is few before =
    let size = video_body_length bytes in
    let small = is.few in
    let far : at + length (video_body bytes) + 1 ≤ 4294967295 = omega arith in
    ap (λ (text : List ℕ). read_lines link_step n at (reported (ps ++ control runs ∷ [])) (pieces_of text)) (line_is (line_event bytes) (video_body bytes) rest (video_words bytes))
    ∙ read_more n at (reported (ps ++ control runs ∷ [])) (reported ((ps ++ control runs ∷ []) ++ video bytes ∷ [])) (video_body bytes) rest (video_line bytes) (video_feedless bytes)
    (video_seen bytes is.values is.whole is.few)
    (video_cause_none (reported (ps ++ control runs ∷ [])) bytes is.range refl (video_follows ps runs bytes period announced is few))
    refl far

-- ---- the columns and the bytes so far

control_columns : (ps : List Period) (runs : List ControlRun) → columns_of (ps ++ control runs ∷ []) ≡ columns_of ps + length (values_of runs)
unfolding period_columns
control_columns ps runs = columns_of-more ps (control runs)

video_columns : (ps : List Period) (bytes : List ℕ) → columns_of (ps ++ video bytes ∷ []) ≡ columns_of ps + (2 + length bytes / 3)
unfolding period_columns
video_columns ps bytes = columns_of-more ps (video bytes)

video_is_columns : (bytes : List ℕ) → period_columns (video bytes) ≡ 2 + length bytes / 3
unfolding period_columns
video_is_columns bytes = refl

first_columns : (runs : List ControlRun) (rest : List Period) → columns_of (control runs ∷ rest) ≡ length (values_of runs) + columns_of rest
unfolding columns_of period_columns
first_columns runs rest = refl

next_columns : (bytes : List ℕ) (rest : List Period) → columns_of (video bytes ∷ rest) ≡ (2 + length bytes / 3) + columns_of rest
unfolding columns_of period_columns
next_columns bytes rest = refl

island_columns : (ps : List Period) (x : DataIsland) → columns_of (ps ++ island x ∷ []) ≡ columns_of ps + (4 + 32 * length x.packets)
unfolding period_columns
island_columns ps x = columns_of-more ps (island x)

next_island_columns : (x : DataIsland) (rest : List Period) → columns_of (island x ∷ rest) ≡ (4 + 32 * length x.packets) + columns_of rest
unfolding columns_of period_columns
next_island_columns x rest = refl

-- ---- the text

control_text : (runs : List ControlRun) (rest : List Period) → text_of (control runs ∷ rest) ≡ run_lines runs ++ text_of rest
unfolding text_of period_lines
control_text runs rest = refl

video_text : (bytes : List ℕ) (rest : List Period) → text_of (video bytes ∷ rest) ≡ line_of (line_event bytes) ++ text_of rest
unfolding text_of period_lines
video_text bytes rest = refl

island_text : (x : DataIsland) (rest : List Period) → text_of (island x ∷ rest) ≡ period_lines (island x) ++ text_of rest
unfolding text_of
island_text x rest = refl

-- a control period and a video data period, where `goal` is what the text after them reads as
read_video_pair : (ps : List Period) (runs : List ControlRun) (bytes : List ℕ) (n at : ℕ) (rest : List Period) (goal : Read (List Period)) → is_control_last (last_period ps) ≡ false → is_control_period runs ≡ true
    → has_preamble VIDEO_PREAMBLE (values_of runs) ≡ true → is_video_period bytes ≡ true → columns_of ps + (length (values_of runs) + (2 + length bytes / 3)) ≤ COLUMN_LIMIT → at ≤ 14 * columns_of ps
    → ((m to : ℕ) → to ≤ 14 * (columns_of ps + (length (values_of runs) + (2 + length bytes / 3))) → read_lines link_step m to (reported ((ps ++ control runs ∷ []) ++ video bytes ∷ [])) (pieces_of (text_of rest)) ≡ goal)
    → read_lines link_step n at (reported ps) (pieces_of (text_of (control runs ∷ (video bytes ∷ rest)))) ≡ goal
read_video_pair ps runs bytes n at rest goal turn period announced good few before later =
    let is : IsVideo bytes = video_is bytes good in
    let whole = is.whole in
    let controls = control_columns ps runs in
    let here = video_is_columns bytes in
    let size = video_body_length bytes in
    ap (λ (text : List ℕ). read_lines link_step n at (reported ps) (pieces_of text)) (control_text runs (video bytes ∷ rest))
    ∙ read_control ps runs n at (text_of (video bytes ∷ rest)) goal turn period (omega arith) before
    (λ m to within.
    ap (λ (text : List ℕ). read_lines link_step m to (reported (ps ++ control runs ∷ [])) (pieces_of text)) (video_text bytes rest)
    ∙ read_video m to ps runs bytes (text_of rest) period announced is (omega arith) (omega arith)
    ∙ later (m + 1) (to + length (video_body bytes) + 1) (omega arith))

-- a control period and a data island
read_island_pair : (ps : List Period) (runs : List ControlRun) (x : DataIsland) (n at : ℕ) (rest : List Period) (goal : Read (List Period)) → is_control_last (last_period ps) ≡ false → is_control_period runs ≡ true
    → has_preamble ISLAND_PREAMBLE (values_of runs) ≡ true → is_data_island x ≡ true → columns_of ps + (length (values_of runs) + (4 + 32 * length x.packets)) ≤ COLUMN_LIMIT → at ≤ 14 * columns_of ps
    → ((m to : ℕ) → to ≤ 14 * (columns_of ps + (length (values_of runs) + (4 + 32 * length x.packets))) → read_lines link_step m to (reported ((ps ++ control runs ∷ []) ++ island x ∷ [])) (pieces_of (text_of rest)) ≡ goal)
    → read_lines link_step n at (reported ps) (pieces_of (text_of (control runs ∷ (island x ∷ rest)))) ≡ goal
read_island_pair ps runs x n at rest goal turn period announced good few before later =
    let controls = control_columns ps runs in
    ap (λ (text : List ℕ). read_lines link_step n at (reported ps) (pieces_of text)) (control_text runs (island x ∷ rest))
    ∙ read_control ps runs n at (text_of (island x ∷ rest)) goal turn period (omega arith) before
    (λ m to within.
    ap (λ (text : List ℕ). read_lines link_step m to (reported (ps ++ control runs ∷ [])) (pieces_of text)) (island_text x rest)
    ∙ read_island (ps ++ control runs ∷ []) x m to (text_of rest) goal good (is_last ps runs) (is_long ps runs period)
    (ap announces_island (last_of_more ps (control runs)) ∙ announced) (omega arith) (omega arith)
    (λ k end inside. later k end (omega arith)))

-- the two parts of a list of periods, put together again
joined_pair : (ps : List Period) (p q : Period) (rest : List Period) → ((ps ++ p ∷ []) ++ q ∷ []) ++ rest ≡ ps ++ p ∷ (q ∷ rest)
joined_pair ps p q rest = append_assoc (ps ++ p ∷ []) (q ∷ []) rest ∙ append_assoc ps (p ∷ []) (q ∷ rest)

-- the text of the periods `rest` after the periods `ps`
read_periods : (rest ps : List Period) (n at : ℕ) → conforms rest ≡ true → is_control_last (last_period ps) ≡ false → columns_of ps + columns_of rest ≤ COLUMN_LIMIT → at ≤ 14 * columns_of ps
    → read_lines link_step n at (reported ps) (pieces_of (text_of rest)) ≡ accepts (ps ++ rest)
unfolding conforms
read_periods [] ps n at good turn few before = absurd cc
read_periods (video bytes ∷ rest) ps n at good turn few before = absurd cc
read_periods (island x ∷ rest) ps n at good turn few before = absurd cc
read_periods (control runs ∷ []) ps n at good turn few before =
    let sum = first_columns runs [] in
    ap (λ (text : List ℕ). read_lines link_step n at (reported ps) (pieces_of text)) (control_text runs [])
    ∙ read_control ps runs n at (text_of []) (accepts (ps ++ control runs ∷ [])) turn good (omega arith) before
    (λ m to within. read_last m to ps runs good (omega arith) within)
read_periods (control runs ∷ (control more ∷ rest)) ps n at good turn few before = absurd cc
read_periods (control runs ∷ (video bytes ∷ rest)) ps n at good turn few before =
    let a = is_control_period runs in
    let b = has_preamble VIDEO_PREAMBLE (values_of runs) in
    let c = is_video_period bytes in
    let d = conforms rest in
    let period : a ≡ true = and-left a (b && (c && d)) good in
    let announced : b ≡ true = and-left b (c && d) (and-right a (b && (c && d)) good) in
    let is : c ≡ true = and-left c d (and-right b (c && d) (and-right a (b && (c && d)) good)) in
    let later : d ≡ true = and-right c d (and-right b (c && d) (and-right a (b && (c && d)) good)) in
    let sum = first_columns runs (video bytes ∷ rest) in
    let next = next_columns bytes rest in
    let controls = control_columns ps runs in
    let videos = video_columns (ps ++ control runs ∷ []) bytes in
    read_video_pair ps runs bytes n at rest (accepts (ps ++ control runs ∷ (video bytes ∷ rest))) turn period announced is (omega arith) before
    (λ m to within.
    read_periods rest ((ps ++ control runs ∷ []) ++ video bytes ∷ []) m to later (ap is_control_last (last_of_more (ps ++ control runs ∷ []) (video bytes))) (omega arith) (omega arith)
    ∙ ap accepts (joined_pair ps (control runs) (video bytes) rest))
read_periods (control runs ∷ (island x ∷ rest)) ps n at good turn few before =
    let a = is_control_period runs in
    let b = has_preamble ISLAND_PREAMBLE (values_of runs) in
    let c = is_data_island x in
    let d = conforms rest in
    let period : a ≡ true = and-left a (b && (c && d)) good in
    let announced : b ≡ true = and-left b (c && d) (and-right a (b && (c && d)) good) in
    let is : c ≡ true = and-left c d (and-right b (c && d) (and-right a (b && (c && d)) good)) in
    let later : d ≡ true = and-right c d (and-right b (c && d) (and-right a (b && (c && d)) good)) in
    let sum = first_columns runs (island x ∷ rest) in
    let next = next_island_columns x rest in
    let controls = control_columns ps runs in
    let islands = island_columns (ps ++ control runs ∷ []) x in
    read_island_pair ps runs x n at rest (accepts (ps ++ control runs ∷ (island x ∷ rest))) turn period announced is (omega arith) before
    (λ m to within.
    read_periods rest ((ps ++ control runs ∷ []) ++ island x ∷ []) m to later (ap is_control_last (last_of_more (ps ++ control runs ∷ []) (island x))) (omega arith) (omega arith)
    ∙ ap accepts (joined_pair ps (control runs) (island x) rest))

-- the text of a conforming stream of at most 20,000,000 columns reads as that stream
pub reads_back : (periods : List Period) → IsConforming periods → columns_of periods ≤ COLUMN_LIMIT → reads_as (text_of periods) ≡ accepts periods
unfolding reads_as columns_of
reads_back periods good few = read_periods periods [] 1 0 good refl (omega arith) (omega arith)
