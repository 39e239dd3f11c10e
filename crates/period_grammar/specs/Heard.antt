-- What is reported of a list of columns: control periods (HDMI 1.4, sections 5.1.2 and 5.2.1), their preambles
-- (5.2.1.1), video periods (5.2.2) and data islands (5.2.3). What is reported of columns that are not right is this
-- project's own.
use Rattle.island_pack.specs.declared.ranges.TheConstants.{PIXEL_LIMIT}
use Rattle.std.specs.Prelude.{ℕ, ◌+◌, Bool, true, false, List, [], ◌∷◌, ◌++◌, map, length, take, Option, Some, None, nat_le}
use Rattle.tmds_word.specs.Column.{Column}
use Rattle.terc4.specs.Tables.{is_control}
use Rattle.island_pack.specs.Periods.{has_preamble as announces, VIDEO_PREAMBLE, ISLAND_PREAMBLE}
use Rattle.terc4.specs.Columns.{is_video_guard, is_island_guard, video_words, island_words}
use Rattle.period_grammar.specs.Column.{value_of, sync_digit}
use Rattle.tmds_code.specs.Coding.{decoded_byte}
use Rattle.period_grammar.specs.Coding.{first_uncoded}
use Rattle.period_grammar.specs.Events.{Event, run, line, word, short, preamble, noise, empty, code, long_line, cut, open_island, broken, EventAt, at, all_at, event_of}
use Rattle.period_grammar.specs.Island.{payload, wrong_guards, in_island, breaks}
use Rattle.period_grammar.specs.Cut.{Stretch, stretch, stretches, Run, columns, runs}

-- Control columns.

-- the word of a lane that is no control word
abbrev pub other_word : ℕ → ℕ → Bool → List Event
other_word lane j true = []
other_word lane j false = word lane j ∷ []

unfoldable pub other_words : ℕ → Column → List Event
other_words j c = other_word 0 j (is_control c.blue) ++ (other_word 1 j (is_control c.green) ++ other_word 2 j (is_control c.red))

-- the words of columns from column j on, each reported at its column
abbrev pub words : ℕ → List Column → List EventAt
words j [] = []
words j (c ∷ cs) = all_at j (other_words j c) ++ words (j + 1) cs

-- a run, which is reported at the first column that is not in it
abbrev pub ended : ℕ → Run → List EventAt
ended j (columns v cs) = at (j + length cs) (run v (length cs)) ∷ []

abbrev pub in_run : ℕ → Run → List EventAt
in_run j (columns v cs) = words j cs

abbrev pub size : Run → ℕ
size (columns v cs) = length cs

-- runs from column j on, the last of which has not ended
abbrev pub in_runs : ℕ → List Run → List EventAt
in_runs j [] = []
in_runs j (r ∷ []) = in_run j r
in_runs j (r ∷ (s ∷ rs)) = in_run j r ++ (ended j r ++ in_runs (j + size r) (s ∷ rs))

-- the last run
abbrev pub last_run : List Run → List Event
last_run [] = []
last_run (columns v cs ∷ []) = run v (length cs) ∷ []
last_run (r ∷ (s ∷ rs)) = last_run (s ∷ rs)

-- Opening: the first two columns b and b + 1 after control columns.

-- whether the last eight columns are there and have these control bits
unfoldable pub has_preamble : ℕ → List Column → Bool
has_preamble bits control = announces bits (map value_of control)

abbrev pub if_not : Bool → Event → List Event
if_not true t = []
if_not false t = t ∷ []

-- what two columns open
pub data Kind : Type 0 where
  video : Kind
  island : Kind
  neither : Kind

abbrev pub kind_by : Bool → Bool → Kind
kind_by true i = video
kind_by false true = island
kind_by false false = neither

abbrev pub opened : Column → Column → Kind
opened g h = kind_by (nat_le 5 (video_words g + video_words h)) (nat_le 5 (island_words g + island_words h))

-- what is wrong with the control columns before
abbrev pub lacks : ℕ → List Column → ℕ → List Event
lacks b control bits = if_not (nat_le 12 (length control)) (short b) ++ if_not (has_preamble bits control) (preamble b)

abbrev pub opening : ℕ → List Column → Column → Column → Kind → List Event
opening b control g h video = lacks b control VIDEO_PREAMBLE ++ wrong_guards is_video_guard b g h
opening b control g h island = lacks b control ISLAND_PREAMBLE ++ open_island (sync_digit g.blue) (sync_digit h.blue) ∷ wrong_guards is_island_guard b g h
opening b control g h neither = noise b ∷ []

-- A line of pixels.

abbrev pub pixel : Column → List ℕ
pixel c = decoded_byte c.red ∷ (decoded_byte c.green ∷ (decoded_byte c.blue ∷ []))

unfoldable pub line_bytes : List Column → List ℕ
line_bytes [] = []
line_bytes (c ∷ cs) = pixel c ++ line_bytes cs

abbrev pub code_fault : ℕ → ℕ → Option ℕ → List Event
code_fault lane s None = []
code_fault lane s (Some i) = code lane (s + i) ∷ []

-- pixels from column s on
unfoldable pub codes_of : ℕ → List Column → List Event
codes_of s pixels = code_fault 0 s (first_uncoded (map (λ c. c.blue) pixels)) ++ (code_fault 1 s (first_uncoded (map (λ c. c.green) pixels)) ++ code_fault 2 s (first_uncoded (map (λ c. c.red) pixels)))

-- the pixels of a period that begins at column b, from column s on
abbrev pub line_at : ℕ → ℕ → List Column → List Event
line_at b s pixels = line (line_bytes (take PIXEL_LIMIT pixels)) ∷ (codes_of s (take PIXEL_LIMIT pixels) ++ if_not (nat_le (length pixels) PIXEL_LIMIT) (long_line b))

unfoldable pub line_of : ℕ → List Column → List Event
line_of b [] = empty b ∷ []
line_of b (c ∷ cs) = line_at b (b + 2) (c ∷ cs)

-- Columns that are no control columns, from column b on, after control columns.

abbrev pub in_payload : ℕ → Kind → List Column → List EventAt
in_payload b video rest = []
in_payload b island rest = in_island b (payload rest)
in_payload b neither rest = []

-- reported while they go on
unfoldable pub in_gap : ℕ → List Column → List Column → List EventAt
in_gap b control [] = []
in_gap b control (g ∷ []) = []
in_gap b control (g ∷ (h ∷ rest)) = all_at (b + 1) (opening b control g h (opened g h)) ++ in_payload b (opened g h) rest

abbrev pub payload_closes : ℕ → Kind → List Column → List Event
payload_closes b video rest = line_of b rest
payload_closes b island rest = breaks broken b (payload rest)
payload_closes b neither rest = []

-- reported at the first control column after them
unfoldable pub at_close : ℕ → List Column → List Event
at_close b [] = []
at_close b (g ∷ []) = noise b ∷ []
at_close b (g ∷ (h ∷ rest)) = payload_closes b (opened g h) rest

abbrev pub payload_ends : ℕ → Kind → List Column → List Event
payload_ends b video rest = cut (b + 2) ∷ []
payload_ends b island rest = breaks cut b (payload rest)
payload_ends b neither rest = []

-- reported at the end
unfoldable pub at_end : ℕ → List Column → List Event
at_end b [] = []
at_end b (g ∷ []) = cut b ∷ []
at_end b (g ∷ (h ∷ rest)) = payload_ends b (opened g h) rest

-- The whole.

-- what is reported of a stretch from column j on while it goes on
abbrev pub so_far : ℕ → Stretch → List EventAt
so_far j (stretch control []) = in_runs j (runs control)
so_far j (stretch control (g ∷ gap)) =
    let b = j + length control in
    in_runs j (runs control) ++ (all_at b (last_run (runs control)) ++ in_gap b control (g ∷ gap))

abbrev pub reach : Stretch → ℕ
reach (stretch control gap) = length control + length gap

-- what is reported of it at the first column after it
abbrev pub closing : ℕ → Stretch → List EventAt
closing j (stretch control gap) = all_at (j + reach (stretch control gap)) (at_close (j + length control) gap)

-- stretches from column j on, the last of which goes on
abbrev pub reported_from : ℕ → List Stretch → List EventAt
reported_from j [] = []
reported_from j (x ∷ []) = so_far j x
reported_from j (x ∷ (y ∷ ys)) = so_far j x ++ (closing j x ++ reported_from (j + reach x) (y ∷ ys))

-- what is reported at the end of the last one
abbrev pub ending : ℕ → Stretch → List Event
ending j (stretch control []) = last_run (runs control)
ending j (stretch control (g ∷ gap)) = at_end (j + length control) (g ∷ gap)

abbrev pub end_from : ℕ → List Stretch → List Event
end_from j [] = []
end_from j (x ∷ []) = ending j x
end_from j (x ∷ (y ∷ ys)) = end_from (j + reach x) (y ∷ ys)

-- what is reported of columns, and at which column each event
unfoldable pub heard_so_far : List Column → List EventAt
heard_so_far cs = reported_from 0 (stretches cs)

-- with what is reported at the end
unfoldable pub heard : List Column → List Event
heard cs = map event_of (heard_so_far cs) ++ end_from 0 (stretches cs)
