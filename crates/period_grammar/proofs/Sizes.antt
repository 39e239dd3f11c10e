-- Everything that is reported is of the sizes that a link can have.
use Rattle.std.proofs.Common.{◌≡◌, ℕ, zero, suc, ◌+◌, ◌*◌, ◌%◌, ◌==◌, ◌<◌, ◌≤◌, Bool, true, not, List, [], ◌∷◌, ◌++◌, length, map, take, drop, refl, ap, ◌∙◌, arith, Option, All}
use Rattle.std.specs.Prelude.{nat_le, unwrap_or, IfSome}
use Rattle.std.proofs.Math.Nat.{mul-mod_left}
use Rattle.std.proofs.lemmas.Nat.{mod_below}
use Rattle.std.proofs.lemmas.Bool.{leb-true}
use Rattle.std.proofs.lemmas.List.{length-map, length-take-le}
use Rattle.std.proofs.lemmas.List.Elements.{All-nil, All-cons, All-map}
use Rattle.bch_block.specs.declared.Verdict.{Verdict}
use Rattle.island_pack.specs.Nibbles.{nibble_of, nibbles_of, sync_values}
use Rattle.island_pack.specs.declared.packet.PacketVerdicts.{PacketVerdicts}
use Rattle.tmds_word.specs.Column.{Column}
use Rattle.tmds_word.proofs.Below.{and-right}
use Rattle.terc4.specs.Tables.{control_words, value_in, is_control}
use Rattle.terc4.proofs.Entries.{value_below}
use Rattle.period_grammar.specs.Coding.{first_uncoded}
use Rattle.period_grammar.specs.Column.{control_bits, value_of, sync_digit}
use Rattle.island_pack.specs.Spelling.{column_words}
use Rattle.island_pack.specs.Repaired.{packet_in, packet_of, verdicts_of}
use Rattle.period_grammar.specs.Events.{Event, short, preamble, symbols, long_island, guard, EventAt, all_at, event_of}
use Rattle.period_grammar.specs.Cut.{Stretch, stretch, Run, columns, in_front, before_runs, runs}
use Rattle.period_grammar.specs.Island.{Payload, parts, begins_close, holds_packet, split_by, split, when, if_so, block_fault, block_faults, packet_faults, packet_events, in_packets, wrong_guards, closing_events, in_left, left_at, in_island, breaks}
use Rattle.period_grammar.specs.Heard.{other_word, other_words, words, ended, in_run, size, in_runs, last_run, has_preamble, if_not, Kind, lacks, opening, line_bytes, code_fault, codes_of, line_of, in_payload, in_gap, payload_closes, at_close, payload_ends, at_end, so_far, reach, closing, reported_from, ending, end_from, heard_so_far, heard}
use Rattle.period_grammar.specs.Sizes.{IsSized}
use Rattle.island_pack.specs.Packets.{IsPacket}
use Rattle.island_pack.proofs.RepairedBlocks.{repaired_is_taken}
use Rattle.period_grammar.proofs.Bytes.{decoded_below}

-- Lists of events, one after another.
abbrev pub Sized : List Event → Type 0
Sized [] = Unit {0}
Sized (t ∷ ts) = IsSized t × Sized ts

abbrev pub TellsSized : List EventAt → Type 0
TellsSized [] = Unit {0}
TellsSized (t ∷ ts) = IsSized (event_of t) × TellsSized ts

pub all_sized : (ts : List Event) → Sized ts → All IsSized ts
all_sized [] h = All-nil IsSized
all_sized (t ∷ ts) h = All-cons IsSized t ts h.0 (all_sized ts h.1)

pub sized_append : (ts us : List Event) → Sized ts → Sized us → Sized (ts ++ us)
sized_append [] us h k = k
sized_append (t ∷ ts) us h k = (h.0, sized_append ts us h.1 k)

pub tells_append : (ts us : List EventAt) → TellsSized ts → TellsSized us → TellsSized (ts ++ us)
tells_append [] us h k = k
tells_append (t ∷ ts) us h k = (h.0, tells_append ts us h.1 k)

pub tells_at : (j : ℕ) (ts : List Event) → Sized ts → TellsSized (all_at j ts)
tells_at j [] h = tt
tells_at j (t ∷ ts) h = (h.0, tells_at j ts h.1)

pub events_sized : (ts : List EventAt) → TellsSized ts → Sized (map event_of ts)
events_sized [] h = tt
events_sized (t ∷ ts) h = (h.0, events_sized ts h.1)

pub if_not_sized : (p : Bool) (t : Event) → IsSized t → Sized (if_not p t)
if_not_sized p t h = grind arith

when_sized : (p : Bool) (ts : List EventAt) → TellsSized ts → TellsSized (when p ts)
when_sized p ts h = grind arith

-- Values and digits.
pub zero_or_below : (o : Option ℕ) → IfSome o (λ v. v < 4) → unwrap_or o 0 < 4
zero_or_below o h = grind arith

pub control_value_below : (w : ℕ) → IfSome (value_in control_words w) (λ v. v < 4)
unfolding control_words
control_value_below w = value_below control_words w

pub control_bits_below : (w : ℕ) → control_bits w < 4
unfolding control_bits
control_bits_below w = zero_or_below (value_in control_words w) (control_value_below w)

pub value_of_below : (c : Column) → value_of c < 64
unfolding value_of
value_of_below c = omega (arith, control_bits_below c.blue, control_bits_below c.green, control_bits_below c.red)

digit_below : (w : ℕ) → sync_digit w < 4
unfolding sync_digit
digit_below w = mod_below (nibble_of w) 4 (omega arith)

sync_below : (ws : List (List ℕ)) → All (λ digit. digit < 4) (sync_values ws)
unfolding sync_values
sync_below ws = All-map (λ digit. digit < 4) (λ n. n % 4) (nibbles_of ws 0) (λ k d lt. mod_below _ 4 (omega arith))

-- Control columns.
pub other_word_sized : (lane j : ℕ) (p : Bool) → Sized (other_word lane j p)
other_word_sized lane j p = grind arith

pub other_words_sized : (j : ℕ) (c : Column) → Sized (other_words j c)
unfolding other_words
other_words_sized j c =
    sized_append _ _ (other_word_sized 0 j (is_control c.blue))
    (sized_append _ _ (other_word_sized 1 j (is_control c.green)) (other_word_sized 2 j (is_control c.red)))

pub words_sized : (j : ℕ) (cs : List Column) → TellsSized (words j cs)
words_sized j [] = tt
words_sized j (c ∷ cs) = tells_append _ _ (tells_at j (other_words j c) (other_words_sized j c)) (words_sized (j + 1) cs)

abbrev pub IsRun : Run → Type 0
IsRun (columns v cs) = (v < 64) × (1 ≤ length cs)

abbrev pub AreRuns : List Run → Type 0
AreRuns [] = Unit {0}
AreRuns (r ∷ rs) = IsRun r × AreRuns rs

pub in_front_runs : (p : Bool) (c : Column) (r : Run) (rs : List Run) → IsRun r → AreRuns rs → AreRuns (in_front p c r rs)
in_front_runs p c r rs h k = grind (arith, value_of_below)

pub more_runs : (c : Column) (rs : List Run) → AreRuns rs → AreRuns (before_runs c rs)
more_runs c rs h = grind (arith, value_of_below, in_front_runs)

pub are_runs : (cs : List Column) → AreRuns (runs cs)
unfolding runs
are_runs [] = tt
are_runs (c ∷ cs) = more_runs c (runs cs) (are_runs cs)

pub ended_sized : (j : ℕ) (r : Run) → IsRun r → TellsSized (ended j r)
ended_sized j (columns v cs) h = (h, tt)

pub in_run_sized : (j : ℕ) (r : Run) → TellsSized (in_run j r)
in_run_sized j (columns v cs) = words_sized j cs

pub in_runs_sized : (j : ℕ) (rs : List Run) → AreRuns rs → TellsSized (in_runs j rs)
in_runs_sized j [] h = tt
in_runs_sized j (r ∷ []) h = in_run_sized j r
in_runs_sized j (r ∷ (s ∷ rs)) h =
    tells_append _ _ (in_run_sized j r) (tells_append _ _ (ended_sized j r h.0) (in_runs_sized (j + size r) (s ∷ rs) h.1))

pub last_run_sized : (rs : List Run) → AreRuns rs → Sized (last_run rs)
last_run_sized [] h = tt
last_run_sized (columns v cs ∷ []) h = (h.0, tt)
last_run_sized (columns v cs ∷ (s ∷ rs)) h = last_run_sized (s ∷ rs) h.1

-- Opening.
lacks_sized : (b : ℕ) (control : List Column) (bits : ℕ) → Sized (lacks b control bits)
lacks_sized b control bits =
    sized_append _ _ (if_not_sized (nat_le 12 (length control)) (short b) tt) (if_not_sized (has_preamble bits control) (preamble b) tt)

if_so_sized : (p : Bool) (t : Event) → IsSized t → Sized (if_so p t)
if_so_sized p t h = grind arith

wrong_guards_sized : (is : Column → Bool) (s : ℕ) (c d : Column) → Sized (wrong_guards is s c d)
wrong_guards_sized is s c d = sized_append _ _ (if_so_sized (not (is c)) (guard s) tt) (if_so_sized (not (is d)) (guard (s + 1)) tt)

opening_sized : (b : ℕ) (control : List Column) (g h : Column) (k : Kind) → Sized (opening b control g h k)
opening_sized b control g h k = grind (arith, sized_append, lacks_sized, wrong_guards_sized, digit_below)

-- A line.
pub bytes_below : (cs : List Column) → All (λ byte. byte < 256) (line_bytes cs)
unfolding line_bytes
bytes_below [] = All-nil (λ byte. byte < 256)
bytes_below (c ∷ cs) = grind (arith, All-cons, decoded_below, bytes_below cs)

pub length-line_bytes : (cs : List Column) → length (line_bytes cs) ≡ length cs * 3
unfolding line_bytes
length-line_bytes [] = refl
length-line_bytes (c ∷ cs) = let e = length-line_bytes cs in omega (arith, e)

pub code_fault_sized : (lane s : ℕ) (o : Option ℕ) → Sized (code_fault lane s o)
code_fault_sized lane s o = grind arith

pub codes_of_sized : (s : ℕ) (pixels : List Column) → Sized (codes_of s pixels)
unfolding codes_of
codes_of_sized s pixels =
    sized_append _ _ (code_fault_sized 0 s (first_uncoded (map (λ c. c.blue) pixels)))
    (sized_append _ _ (code_fault_sized 1 s (first_uncoded (map (λ c. c.green) pixels))) (code_fault_sized 2 s (first_uncoded (map (λ c. c.red) pixels))))

pub whole_pixels : (cs : List Column) → length (line_bytes cs) % 3 ≡ 0
whole_pixels cs = ap (λ n. n % 3) (length-line_bytes cs) ∙ mul-mod_left (length cs) 3

pub take_at_most : (n : ℕ) (cs : List Column) → length (take n cs) ≤ n
take_at_most zero cs = omega arith
take_at_most (suc n) [] = omega arith
take_at_most (suc n) (c ∷ cs) = let le = take_at_most n cs in omega (arith, le)

line_of_sized : (b : ℕ) (cs : List Column) → Sized (line_of b cs)
unfolding line_of
line_of_sized b [] = (tt, tt)
line_of_sized b (c ∷ cs) =
    let pixels = c ∷ take 4095 cs in
    let le = take_at_most 4095 cs in
    let long = length-line_bytes pixels in
    ((whole_pixels pixels, omega (arith, long), omega (arith, long, le), bytes_below pixels), sized_append _ _ (codes_of_sized (b + 2) pixels) (if_not_sized _ _ tt))

-- An island.
block_fault_sized : (s b : ℕ) (v : Verdict) → Sized (block_fault s b v)
block_fault_sized s b v = grind arith

block_faults_sized : (s b : ℕ) (vs : List Verdict) → Sized (block_faults s b vs)
block_faults_sized s b [] = tt
block_faults_sized s b (v ∷ vs) = sized_append _ _ (block_fault_sized s b v) (block_faults_sized s (b + 1) vs)

packet_faults_sized : (s : ℕ) (v : PacketVerdicts) → Sized (packet_faults s v)
packet_faults_sized s v =
    sized_append _ _ (if_so_sized (not (v.symbols == 0)) (symbols s v.symbols) tt) (block_faults_sized s 0 v.blocks)

packet_sync_below : (p : List Column) → All (λ digit. digit < 4) (packet_of p).sync
unfolding packet_in
packet_sync_below p = sync_below (map column_words p)

abbrev pub AreWhole : List (List Column) → Type 0
AreWhole [] = Unit {0}
AreWhole (p ∷ ps) = (length p ≡ 32) × AreWhole ps

abbrev pub HasWhole : Payload → Type 0
HasWhole (parts ps t) = AreWhole ps

split_by_whole : (b : Bool) (cs : List Column) (x : Payload) → (b ≡ true → length (take 32 cs) ≡ 32) → HasWhole x → HasWhole (split_by b cs x)
split_by_whole b cs x h k = grind arith

packet_held : (cs : List Column) → holds_packet cs ≡ true → length (take 32 cs) ≡ 32
unfolding holds_packet
packet_held cs e = length-take-le 32 cs (leb-true 32 (length cs) (and-right (not (begins_close cs)) _ e))

split_whole : (n : ℕ) (cs : List Column) → HasWhole (split n cs)
unfolding split
split_whole zero cs = tt
split_whole (suc n) cs = split_by_whole (holds_packet cs) cs (split n (drop 32 cs)) (packet_held cs) (split_whole n (drop 32 cs))

packet_whole : (p : List Column) → length p ≡ 32 → IsPacket (packet_of p)
packet_whole p e = (repaired_is_taken (map column_words p) (length-map p column_words ∙ e)).whole

packet_events_sized : (s k : ℕ) (p : List Column) → length p ≡ 32 → Sized (packet_events s k p)
unfolding packet_events
packet_events_sized s k p e =
    ((packet_whole p e, packet_sync_below p), sized_append _ _ (packet_faults_sized s (verdicts_of p)) (if_so_sized (k == 18) (long_island s) tt))

in_packets_sized : (s k : ℕ) (ps : List (List Column)) → AreWhole ps → TellsSized (in_packets s k ps)
in_packets_sized s k [] h = tt
in_packets_sized s k (p ∷ ps) h =
    tells_append _ _ (tells_at (s + 31) (packet_events s k p) (packet_events_sized s k p h.0)) (in_packets_sized (s + 32) (k + 1) ps h.1)

closing_events_sized : (b s k : ℕ) (c d : Column) → Sized (closing_events b s k c d)
unfolding closing_events
closing_events_sized b s k c d = grind (arith, digit_below, sized_append, wrong_guards_sized, if_so_sized)

in_left_sized : (b s k : ℕ) (t : List Column) → TellsSized (in_left b s k t)
in_left_sized b s k t = grind (arith, when_sized, tells_at, closing_events_sized, tells_append)

breaks_sized : (f : ℕ → Event) (b : ℕ) (x : Payload) → ((n : ℕ) → IsSized (f n)) → Sized (breaks f b x)
breaks_sized f b (parts ps t) h = if_so_sized (not (begins_close t)) (f (left_at b ps)) (h (left_at b ps))

-- Columns after control columns.
in_payload_sized : (b : ℕ) (k : Kind) (rest : List Column) → TellsSized (in_payload b k rest)
unfolding in_island
in_payload_sized b k rest = grind (arith, split_whole, tells_append, in_packets_sized, in_left_sized)

in_gap_sized : (b : ℕ) (control gap : List Column) → TellsSized (in_gap b control gap)
unfolding in_gap
in_gap_sized b control gap = grind (arith, tells_append, tells_at, opening_sized, in_payload_sized)

payload_closes_sized : (b : ℕ) (k : Kind) (rest : List Column) → Sized (payload_closes b k rest)
payload_closes_sized b k rest = grind (arith, line_of_sized, breaks_sized)

at_close_sized : (b : ℕ) (gap : List Column) → Sized (at_close b gap)
unfolding at_close
at_close_sized b gap = grind (arith, payload_closes_sized)

payload_ends_sized : (b : ℕ) (k : Kind) (rest : List Column) → Sized (payload_ends b k rest)
payload_ends_sized b k rest = grind (arith, breaks_sized)

at_end_sized : (b : ℕ) (gap : List Column) → Sized (at_end b gap)
unfolding at_end
at_end_sized b gap = grind (arith, payload_ends_sized)

-- The whole.
so_far_sized : (j : ℕ) (x : Stretch) → TellsSized (so_far j x)
so_far_sized j x = grind (arith, in_runs_sized, are_runs, tells_append, tells_at, last_run_sized, in_gap_sized)

closing_sized : (j : ℕ) (x : Stretch) → TellsSized (closing j x)
closing_sized j (stretch control gap) = tells_at _ _ (at_close_sized (j + length control) gap)

reported_from_sized : (j : ℕ) (xs : List Stretch) → TellsSized (reported_from j xs)
reported_from_sized j [] = tt
reported_from_sized j (x ∷ []) = so_far_sized j x
reported_from_sized j (x ∷ (y ∷ ys)) = tells_append _ _ (so_far_sized j x) (tells_append _ _ (closing_sized j x) (reported_from_sized (j + reach x) (y ∷ ys)))

ending_sized : (j : ℕ) (x : Stretch) → Sized (ending j x)
ending_sized j x = grind (arith, last_run_sized, are_runs, at_end_sized)

end_from_sized : (j : ℕ) (xs : List Stretch) → Sized (end_from j xs)
end_from_sized j [] = tt
end_from_sized j (x ∷ []) = ending_sized j x
end_from_sized j (x ∷ (y ∷ ys)) = end_from_sized (j + reach x) (y ∷ ys)

pub all_are_sized : (cs : List Column) → All IsSized (heard cs)
unfolding heard heard_so_far
all_are_sized cs = grind (arith, all_sized, sized_append, events_sized, reported_from_sized, end_from_sized)
