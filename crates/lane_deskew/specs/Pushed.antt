-- What three lanes have pushed, and what a deskew that keeps little of it stands for.
use Rattle.std.specs.Prelude.{◌≡◌, ℕ, ◌+◌, ◌-◌, ◌*◌, ◌/◌, ◌^◌, ◌<◌, ◌≤◌, min, cond, Bool, true, false, List, [], ◌++◌, length, take, drop, slice_index, MatchOption, is_some}
use Rattle.std.proofs.Common.{suc, zero}
use Rattle.lane_align.specs.Words.{IsWordEdge}
use Rattle.lane_align.specs.declared.TheConstants.{ROW_WORDS}
use Rattle.lane_deskew.specs.Keeping.{stored, limit}
use Rattle.tmds_word.specs.Column.{Column}
use Rattle.tmds_word.specs.Words.{columns_of}
use Rattle.lane_deskew.specs.Triples.{AreTriple, AreFirst}
use Rattle.lane_deskew.specs.Seen.{Held}
use Rattle.lane_deskew.specs.declared.deskew.Deskew.{Deskew}

-- a lane: its lock, all characters that it has pushed from there on, how many of them it had at the last settling,
-- and whether it gets no more
pub record Pushed : Type 0 where
  pub lock : ℕ
  pub words : List ℕ
  pub settled : ℕ
  pub ended : Bool

-- three of them, and how many columns were consumed
pub record History : Type 0 where
  pub blue : Pushed
  pub green : Pushed
  pub red : Pushed
  pub taken : ℕ

-- before anything is pushed
abbrev pub no_words : Pushed
no_words = record { lock = 0; words = []; settled = 0; ended = false }

abbrev pub no_history : History
no_history = record { blue = no_words; green = no_words; red = no_words; taken = 0 }

-- after a call on a lane
abbrev pub more : ℕ → List ℕ → Pushed → Pushed
more lock words lane = record { lock = lock; words = lane.words ++ words; settled = lane.settled; ended = lane.ended }

abbrev pub over : Pushed → Pushed
over lane = record { lock = lane.lock; words = lane.words; settled = lane.settled; ended = true }

abbrev pub rested : Pushed → Pushed
rested lane = record { lock = lane.lock; words = lane.words; settled = length lane.words; ended = lane.ended }

-- with one lane changed
abbrev pub change : (Pushed → Pushed) → ℕ → History → History
change f zero p = record { blue = f p.blue; green = p.green; red = p.red; taken = p.taken }
change f (suc zero) p = record { blue = p.blue; green = f p.green; red = p.red; taken = p.taken }
change f (suc (suc n)) p = record { blue = p.blue; green = p.green; red = f p.red; taken = p.taken }

-- after each call
abbrev pub pushed : ℕ → ℕ → List ℕ → History → History
pushed lane lock words = change (more lock words) lane

abbrev pub ended : ℕ → History → History
ended lane = change over lane

abbrev pub settled : History → History
settled p = record { blue = rested p.blue; green = rested p.green; red = rested p.red; taken = p.taken }

abbrev pub consumed : ℕ → History → History
consumed n p = record { blue = p.blue; green = p.green; red = p.red; taken = p.taken + n }

-- the lanes were pushed evenly: at the last settling no lane had passed a place; a lane that has pushed since had been
-- near it, or began its run so near
pub record IsEven (place : ℕ) (lane : Pushed) : Type 0 where
  pub after : 0 < lane.settled → lane.lock + 10 * lane.settled ≤ place
  pub whole : lane.settled < length lane.words → place < lane.lock + 10 * lane.settled + 120

abbrev pub AreEven : History → Type 0
AreEven p = (place : ℕ) × IsEven place p.blue × IsEven place p.green × IsEven place p.red

-- the edges of a lane: of all its characters, and of those that it had at the last settling
abbrev pub edge_of : Pushed → ℕ → Type 0
edge_of lane = IsWordEdge lane.lock lane.words

abbrev pub settled_edge : Pushed → ℕ → Type 0
settled_edge lane = IsWordEdge lane.lock (take lane.settled lane.words)

-- the full alignments of all that was pushed, and the first of them
abbrev pub IsPastTriple : History → ℕ → ℕ → ℕ → Type 0
IsPastTriple p = AreTriple (edge_of p.blue) (edge_of p.green) (edge_of p.red)

abbrev pub IsPastAlignment : History → List ℕ → Type 0
IsPastAlignment p edges = AreFirst (edge_of p.blue) (edge_of p.green) (edge_of p.red) (slice_index edges 0) (slice_index edges 1) (slice_index edges 2)

-- the characters of a lane from the run before an edge on, but for those that were consumed
abbrev pub from_edge : Pushed → ℕ → List ℕ
from_edge lane e = drop ((e - 120 - lane.lock) / 10) lane.words

abbrev pub unconsumed : ℕ → Pushed → ℕ → List ℕ
unconsumed taken lane e = drop taken (from_edge lane e)

-- how many of them a column can reach: those that each lane has that has ended
abbrev pub reach : History → List ℕ → ℕ
reach p edges =
    min (limit p.blue.ended (length (unconsumed p.taken p.blue (slice_index edges 0))))
    (min (limit p.green.ended (length (unconsumed p.taken p.green (slice_index edges 1))))
    (limit p.red.ended (length (unconsumed p.taken p.red (slice_index edges 2)))))

-- the columns of all that was pushed, from an alignment's runs on
abbrev pub past_columns : History → List ℕ → List Column
past_columns p edges = columns_of (from_edge p.blue (slice_index edges 0)) (from_edge p.green (slice_index edges 1)) (from_edge p.red (slice_index edges 2))

-- what is kept of a lane in numbers
pub record Knows (lane : Held) (past : Pushed) : Type 0 where
  pub count : lane.count ≡ length past.words
  pub lock : lane.lock ≡ past.lock
  pub ended : lane.ended ≡ past.ended
  pub settled : past.settled ≤ length past.words

-- before the alignment: its last characters, from 32 before the last settling on
abbrev pub Waits : Held → Pushed → Type 0
Waits lane past = stored lane.kept ≡ drop (past.settled - 32) past.words

-- after it: its characters from the edge's run on that are not consumed and that a column can reach
pub record Lends (lane : Held) (past : Pushed) (taken e reach : ℕ) : Type 0 where
  pub ring : lane.kept.ring ≡ []
  pub row : lane.kept.row ≡ take reach (unconsumed taken past e)
  pub within : taken ≤ length (from_edge past e)

-- no alignment was found at the last settling
pub record Awaits (deskew : Deskew) (p : History) : Type 0 where
  pub blue : Waits deskew.blue p.blue
  pub green : Waits deskew.green p.green
  pub red : Waits deskew.red p.red
  pub none : (d e f : ℕ) → AreTriple (settled_edge p.blue) (settled_edge p.green) (settled_edge p.red) d e f → ⊥
  pub fresh : p.taken ≡ 0

-- one was found
pub record IsAligned (deskew : Deskew) (p : History) (edges : List ℕ) : Type 0 where
  pub alignment : IsPastAlignment p edges
  pub blue : Lends deskew.blue p.blue p.taken (slice_index edges 0) (reach p edges)
  pub green : Lends deskew.green p.green p.taken (slice_index edges 1) (reach p edges)
  pub red : Lends deskew.red p.red p.taken (slice_index edges 2) (reach p edges)

-- what is kept in numbers
pub record AreKnown (deskew : Deskew) (p : History) : Type 0 where
  pub blue : Knows deskew.blue p.blue
  pub green : Knows deskew.green p.green
  pub red : Knows deskew.red p.red

-- what a deskew keeps of all that was pushed
pub record DeskewRepresents (deskew : Deskew) (p : History) : Type 0 where
  pub known : AreKnown deskew p
  pub alignment : MatchOption deskew.found (Awaits deskew p) (λ at. IsAligned deskew p at.edges)

-- one of the lanes
abbrev pub lane_at : Deskew → ℕ → Held
lane_at deskew zero = deskew.blue
lane_at deskew (suc zero) = deskew.green
lane_at deskew (suc (suc n)) = deskew.red

-- a lane of which the first n characters in the row are kept
pub record IsCut (n : ℕ) (old new : Held) : Type 0 where
  pub ring : new.kept.ring ≡ old.kept.ring
  pub row : new.kept.row ≡ take n old.kept.row
  pub lock : new.lock ≡ old.lock
  pub count : new.count ≡ old.count
  pub ended : new.ended ≡ old.ended

-- how many characters of each lane may stand in a column
abbrev pub reach_of : Deskew → ℕ
reach_of d = min (limit d.blue.ended (length d.blue.kept.row)) (min (limit d.green.ended (length d.green.kept.row)) (limit d.red.ended (length d.red.kept.row)))

-- how many columns can be lent
abbrev pub ready_of : Deskew → ℕ
ready_of d = cond (is_some d.found) (min (length d.blue.kept.row) (min (length d.green.kept.row) (length d.red.kept.row))) 0

-- what is kept of a lane
abbrev pub kept_of : Deskew → ℕ → List ℕ
kept_of deskew lane = stored (lane_at deskew lane).kept

-- a lane may push these characters at this lock: the lock is the one that it had, there is room, the place after
-- them fits, and the lane has not ended
pub record CanPush (deskew : Deskew) (lane lock : ℕ) (words : List ℕ) : Type 0 where
  pub same : 0 < (lane_at deskew lane).count → lock ≡ (lane_at deskew lane).lock
  pub room : length (kept_of deskew lane) + length words ≤ ROW_WORDS
  pub total : lock + 10 * ((lane_at deskew lane).count + length words) < 2 ^ 63
  pub going : (lane_at deskew lane).ended ≡ true → words ≡ []
