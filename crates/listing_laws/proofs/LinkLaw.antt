-- What a link listing of a stream that was received whole and undamaged reads back as.
use Rattle.std.proofs.Common.{◌≡◌, ℕ, ◌+◌, ◌-◌, ◌≤◌, true, List, [], ◌∷◌, ◌++◌, length, refl, ap, sym, subst, ◌∙◌, append_assoc, append-nil, arith, take_all, length-append}
use Rattle.std.specs.Prelude.{codes}
use Rattle.tmds_word.specs.Column.{Column}
use Rattle.tmds_word.proofs.Below.{and-left, and-right}
use Rattle.island_pack.specs.Periods.{ControlRun, DataIsland, Period, control, video, island, values_of, has_preamble, VIDEO_PREAMBLE, ISLAND_PREAMBLE, period_columns}
use Rattle.island_pack.specs.Conforming.{is_control_period, is_video_period, is_data_island, conforms, IsConforming}
use Rattle.island_pack.specs.Runs.{longest}
use Rattle.island_pack.specs.Spelling.{Spells}
use Rattle.period_grammar.specs.Exact.{IsFront}
use Rattle.period_grammar.specs.Heard.{heard_so_far, heard}
use Rattle.period_grammar.specs.Events.{Event, line}
use Rattle.link_laws.specs.Account.{period_row, account_from, account}
use Rattle.link_laws.specs.PeriodLaws.{tells}
use Rattle.link_laws.proofs.Conformed.{is_control_of, is_island_of, Conforms, conforming}
use Rattle.link_laws.proofs.Freely.{free_received, free_spelled}
use Rattle.link_laws.proofs.Joining.{account_period, follows_long}
use Rattle.link_laws.proofs.PeriodLaws.{joining_law}
use Rattle.link_laws.proofs.SpelledWords.{period_size}
use Rattle.link_laws.proofs.exact.Arrivals.{front_is_clean}
use Rattle.link_laws.proofs.exact.Faultless.{Fine}
use Rattle.listing_writer.specs.Texts.{link_text}
use Rattle.listing_laws.specs.LinkLaws.{AccountReadsBack}
use Rattle.listing_laws.proofs.Accounted.{at_start}
use Rattle.listing_laws.proofs.JoinedRuns.{joined_periods, joined_conform, columns_same, spelled_joined, joined_spelled}
use Rattle.listing_laws.proofs.OwnRows.{own_control, own_video, own_island}
use Rattle.listing_laws.proofs.Periods.{video_is, reads_back}
use Rattle.listing_laws.proofs.SoundLines.{sound_lines, sound_append, all_sound}
use Rattle.listing_laws.proofs.Text.{line_of, run_lines, period_lines, text_of}
use Rattle.listing_laws.proofs.Undamaged.{undamaged}

-- ---- the columns are a front, of which no fault is reported

own_front : (ps : List Period) (cs : List Column) → IsConforming ps → Spells ps cs → IsFront cs
own_front ps cs good h = record { periods = ps; spelled = cs; conforming = good; spells = free_spelled ps cs h; rest = []; front = sym (append-nil cs) }

account_fine : (ps : List Period) (cs : List Column) → IsConforming ps → Spells ps cs → Fine (account_from 0 (length cs) [] ps cs cs)
unfolding heard heard_so_far
account_fine ps cs good h =
    subst (λ (ts : List Event). Fine ts) (ap (tells 0) (sym (take_all (length cs) cs (omega arith))) ∙ joining_law ps cs cs (free_received ps cs cs (undamaged ps cs good h)) 0 (length cs)) (front_is_clean cs (own_front ps cs good h))

-- ---- the text, period after period

columns_first : (p : Period) (ps : List Period) (cs : List Column) (h : Spells (p ∷ ps) cs) → length cs ≡ period_columns p + length h.1
columns_first p ps cs h = ap length h.2 ∙ length-append h.0 h.1 ∙ ap (λ (n : ℕ). n + length h.1) (period_size p h.0 h.3)

control_size : (runs : List ControlRun) → period_columns (control runs) ≡ length (values_of runs)
unfolding period_columns
control_size runs = refl

some_columns : (ps : List Period) (cs : List Column) → conforms ps ≡ true → Spells ps cs → 1 ≤ length cs
unfolding Conforms
some_columns [] cs good h = absurd (conforming [] good)
some_columns (video bytes ∷ rest) cs good h = absurd (conforming (video bytes ∷ rest) good)
some_columns (island x ∷ rest) cs good h = absurd (conforming (island x ∷ rest) good)
some_columns (control runs ∷ rest) cs good h =
    let long = follows_long (values_of runs) rest (conforming (control runs ∷ rest) good) in
    let size = columns_first (control runs) rest cs h in
    let same = control_size runs in
    omega (arith, long, size, same)

-- the text of the account of these columns, with its last line
abbrev text_from : ℕ → ℕ → List Column → List Period → List Column → List ℕ
text_from j m before ps cs = sound_lines (account_from j m before ps cs cs) ++ codes "end\n"

-- a period, and those after it
first_text : (p : Period) (ps : List Period) (j m : ℕ) (before cs : List Column) (text more : List ℕ) (h : Spells (p ∷ ps) cs)
    → sound_lines (period_row j m before p h.0 h.0) ≡ text
    → text_from (j + period_columns p) (m - period_columns p) h.0 ps h.1 ≡ more
    → text_from j m before (p ∷ ps) cs ≡ text ++ more
first_text p ps j m before cs text more h here after = grind (arith, period_size, sound_lines, account_period, sound_append, append_assoc)

control_text : (runs : List ControlRun) (ps : List Period) (j m : ℕ) (before cs : List Column) (more : List ℕ) (h : Spells (control runs ∷ ps) cs) → is_control_period runs ≡ true → length cs ≤ m
    → text_from (j + period_columns (control runs)) (m - period_columns (control runs)) h.0 ps h.1 ≡ more
    → text_from j m before (control runs ∷ ps) cs ≡ run_lines (longest (values_of runs)) ++ more
control_text runs ps j m before cs more h good le after =
    let all = columns_first (control runs) ps cs h in
    let own = period_size (control runs) h.0 h.3 in
    first_text (control runs) ps j m before cs (run_lines (longest (values_of runs))) more h
    (own_control j m before runs h.0 (is_control_of runs good).small h.3 (omega (arith, all, own, le))) after

-- columns follow a video data period
video_text : (bytes : List ℕ) (ps : List Period) (j m : ℕ) (before cs : List Column) (more : List ℕ) (h : Spells (video bytes ∷ ps) cs) → is_video_period bytes ≡ true → length cs ≤ m → 1 ≤ length h.1
    → text_from (j + period_columns (video bytes)) (m - period_columns (video bytes)) h.0 ps h.1 ≡ more
    → text_from j m before (video bytes ∷ ps) cs ≡ line_of (line bytes) ++ more
video_text bytes ps j m before cs more h good le some after =
    let all = columns_first (video bytes) ps cs h in
    let own = period_size (video bytes) h.0 h.3 in
    first_text (video bytes) ps j m before cs (line_of (line bytes)) more h
    (own_video j m before bytes h.0 (video_is bytes good).whole h.3 (omega (arith, all, own, le, some))) after

island_text : (x : DataIsland) (ps : List Period) (j m : ℕ) (before cs : List Column) (more : List ℕ) (h : Spells (island x ∷ ps) cs) → is_data_island x ≡ true → length cs ≤ m
    → text_from (j + period_columns (island x)) (m - period_columns (island x)) h.0 ps h.1 ≡ more
    → text_from j m before (island x ∷ ps) cs ≡ period_lines (island x) ++ more
unfolding period_columns
island_text x ps j m before cs more h good le after =
    let all = columns_first (island x) ps cs h in
    first_text (island x) ps j m before cs (period_lines (island x)) more h
    (own_island j m before x h.0 (is_island_of x good) h.3 (omega (arith, all, le))) after

text_is : (ps : List Period) (j m : ℕ) (before cs : List Column) → conforms ps ≡ true → Spells ps cs → length cs ≤ m → text_from j m before ps cs ≡ text_of (joined_periods ps)
unfolding conforms account_from text_of period_lines
text_is [] j m before cs good h le = absurd cc
text_is (video bytes ∷ rest) j m before cs good h le = absurd cc
text_is (island x ∷ rest) j m before cs good h le = absurd cc
text_is (control runs ∷ []) j m before cs good h le = control_text runs [] j m before cs (codes "end\n") h good le refl
text_is (control runs ∷ (control more ∷ rest)) j m before cs good h le = absurd cc
text_is (control runs ∷ (video bytes ∷ rest)) j m before cs good h le =
    let n = period_columns (control runs) in
    let later = h.4 in
    let after = and-right (is_control_period runs) _ good in
    let own = and-right (has_preamble VIDEO_PREAMBLE (values_of runs)) _ after in
    let others = and-right (is_video_period bytes) _ own in
    let all = columns_first (control runs) (video bytes ∷ rest) cs h in
    let inner = columns_first (video bytes) rest h.1 later in
    control_text runs (video bytes ∷ rest) j m before cs (line_of (line bytes) ++ text_of (joined_periods rest)) h (and-left (is_control_period runs) _ good) le
    (video_text bytes rest (j + n) (m - n) h.0 h.1 (text_of (joined_periods rest)) later (and-left (is_video_period bytes) _ own) (omega (arith, all, le)) (some_columns rest later.1 others later.4)
    (text_is rest (j + n + period_columns (video bytes)) (m - n - period_columns (video bytes)) later.0 later.1 others later.4 (omega (arith, all, inner, le))))
text_is (control runs ∷ (island x ∷ rest)) j m before cs good h le =
    let n = period_columns (control runs) in
    let later = h.4 in
    let after = and-right (is_control_period runs) _ good in
    let own = and-right (has_preamble ISLAND_PREAMBLE (values_of runs)) _ after in
    let others = and-right (is_data_island x) _ own in
    let all = columns_first (control runs) (island x ∷ rest) cs h in
    let inner = columns_first (island x) rest h.1 later in
    control_text runs (island x ∷ rest) j m before cs (period_lines (island x) ++ text_of (joined_periods rest)) h (and-left (is_control_period runs) _ good) le
    (island_text x rest (j + n) (m - n) h.0 h.1 (text_of (joined_periods rest)) later (and-left (is_data_island x) _ own) (omega (arith, all, le))
    (text_is rest (j + n + period_columns (island x)) (m - n - period_columns (island x)) later.0 later.1 others later.4 (omega (arith, all, inner, le))))

-- ---- the law

-- the account of all columns is that of the periods from the first on
whole_account : (ps : List Period) (cs : List Column) → IsConforming ps → Spells ps cs → account ps cs cs 0 (length cs) ≡ account_from 0 (length cs) [] ps cs cs
unfolding Conforms account_from period_row
whole_account [] cs good h = absurd (conforming [] good)
whole_account (video bytes ∷ rest) cs good h = absurd (conforming (video bytes ∷ rest) good)
whole_account (island x ∷ rest) cs good h = absurd (conforming (island x ∷ rest) good)
whole_account (control runs ∷ rest) cs good h =
    let long = follows_long (values_of runs) rest (conforming (control runs ∷ rest) good) in
    let same = control_size runs in
    at_start runs rest cs cs (length cs) (omega (arith, long, same))

-- the listing is the text of the periods with their runs joined
listing_is : (ps : List Period) (cs : List Column) → IsConforming ps → Spells ps cs → link_text (account ps cs cs 0 (length cs)) ≡ text_of (joined_periods ps)
unfolding link_text
listing_is ps cs good h =
    let events = account_from 0 (length cs) [] ps cs cs in
    ap link_text (whole_account ps cs good h)
    ∙ ap (λ (text : List ℕ). text ++ codes "end\n") (sym (all_sound events (account_fine ps cs good h)))
    ∙ text_is ps 0 (length cs) [] cs good h (omega arith)

pub listing_reads_back : AccountReadsBack
unfolding AccountReadsBack
listing_reads_back periods sent good spelled few = grind (arith, joined_periods, columns_same, joined_conform, listing_is, reads_back, spelled_joined, joined_spelled)
