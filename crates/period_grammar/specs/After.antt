-- The last stretch of columns, and what is reported at one column more.
use Rattle.std.specs.Prelude.{ℕ, ◌+◌, Bool, true, false, ◌==◌, List, [], ◌∷◌, ◌++◌, length}
use Rattle.tmds_word.specs.Column.{Column}
use Rattle.period_grammar.specs.Column.{value_of}
use Rattle.period_grammar.specs.Events.{Event, run, noise}
use Rattle.period_grammar.specs.Cut.{Stretch, stretch, Run, columns, runs}
use Rattle.period_grammar.specs.Island.{Payload, parts, payload, begins_close, holds_packet, packet_events, closing_events, left_at, when}
use Rattle.period_grammar.specs.Heard.{other_words, last_run, if_not, opening, opened, Kind, video, island, neither, at_close, at_end}

abbrev pub last : List Stretch → Stretch
last [] = stretch [] []
last (x ∷ []) = x
last (x ∷ (y ∷ ys)) = last (y ∷ ys)

-- the columns of the last stretch
abbrev pub control_of : Stretch → List Column
control_of (stretch control gap) = control

abbrev pub gap_of : Stretch → List Column
gap_of (stretch control gap) = gap

-- the last run, where a column has another value
abbrev pub change : ℕ → List Run → List Event
change v [] = []
change v (columns w cs ∷ []) = if_not (w == v) (run w (length cs))
change v (r ∷ (s ∷ rs)) = change v (s ∷ rs)

-- a column after packets and what is left
abbrev pub settle_by : Bool → List (List Column) → List Column → Payload
settle_by true ps t = parts (ps ++ t ∷ []) []
settle_by false ps t = parts ps t

abbrev pub settle : List (List Column) → List Column → Payload
settle ps t = settle_by (holds_packet t) ps t

abbrev pub after_payload : Column → Payload → Payload
after_payload c (parts ps t) = settle ps (t ++ c ∷ [])

-- what is reported at a column in an island, after what is left of it
abbrev pub left_gain : ℕ → ℕ → ℕ → Column → List Column → List Event
left_gain b s k c [] = []
left_gain b s k c (x ∷ []) = when (begins_close (x ∷ (c ∷ []))) (closing_events b s k x c)
left_gain b s k c (x ∷ (y ∷ [])) = when (begins_close (x ∷ (y ∷ []))) (noise (s + 2) ∷ [])
left_gain b s k c (x ∷ (y ∷ (z ∷ r))) = []

abbrev pub choose : Bool → List Event → List Event → List Event
choose true xs ys = xs
choose false xs ys = ys

abbrev pub island_gain : ℕ → Column → Payload → List Event
island_gain b c (parts ps t) =
    choose (holds_packet (t ++ c ∷ [])) (packet_events (left_at b ps) (length ps) (t ++ c ∷ [])) (left_gain b (left_at b ps) (length ps) c t)

abbrev pub payload_gain : ℕ → Kind → Column → List Column → List Event
payload_gain b video c rest = []
payload_gain b island c rest = island_gain b c (payload rest)
payload_gain b neither c rest = []

-- what is reported at column n, where the last stretch's other columns begin at b
abbrev pub gains : Bool → ℕ → ℕ → Column → Stretch → List Event
gains true b n c (stretch control []) = change (value_of c) (runs control) ++ other_words n c
gains true b n c (stretch control (g ∷ gap)) = at_close b (g ∷ gap) ++ other_words n c
gains false b n c (stretch control []) = last_run (runs control)
gains false b n c (stretch control (g ∷ [])) = opening b control g c (opened g c)
gains false b n c (stretch control (g ∷ (h ∷ rest))) = payload_gain b (opened g h) c rest

-- the last stretch with one column more, which is a control column or not
abbrev pub grown : Bool → Column → Stretch → Stretch
grown true c (stretch control []) = stretch (control ++ c ∷ []) []
grown true c (stretch control (g ∷ gap)) = stretch (c ∷ []) []
grown false c (stretch control gap) = stretch control (gap ++ c ∷ [])

-- what is reported at the end of the last stretch
abbrev pub ends : ℕ → Stretch → List Event
ends b (stretch control []) = last_run (runs control)
ends b (stretch control (g ∷ gap)) = at_end b (g ∷ gap)
