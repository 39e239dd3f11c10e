-- What one event more makes of what a relay keeps.
use Rattle.std.proofs.Common.{◌≡◌, ℕ, ◌<◌, ◌≤◌, Bool, true, false, ◌&&◌, not, List, [], ◌∷◌, ◌++◌, refl, ap, sym, ◌∙◌, subst, arith}
use Rattle.std.specs.Prelude.{Option, Some, None, Result, Ok, Err, IfErr}
use Rattle.std.specs.List.{fold}
use Rattle.std.specs.Result.{IsErrAnd}
use Rattle.std.proofs.lemmas.Bool.{and_from, lt-ltb, le-leb}
use Rattle.std.proofs.lemmas.List.{append-nil}
use Rattle.std.proofs.lemmas.List.Folds.{list_all-append}
use Rattle.island_pack.specs.Periods.{columns_of}
use Rattle.island_pack.specs.Conforming.{is_video_period}
use Rattle.island_pack.specs.declared.packet.Packet.{Packet}
use Rattle.island_pack.specs.declared.packet.PacketVerdicts.{PacketVerdicts}
use Rattle.island_pack.specs.declared.ranges.TheConstants.{COLUMN_LIMIT}
use Rattle.period_grammar.specs.declared.event.Fault.{Fault}
use Rattle.period_grammar.specs.declared.event.Fault.TheVariants.{Word, Short, Preamble, Noise, Empty, Code, LongLine, Symbols, Mended, Lost, LongIsland, Broken, Guard}
use Rattle.period_grammar.specs.Faults.{fault_event}
use Rattle.period_grammar.specs.Events.{Event, run, line, cut, open_island, packet, close_island}
use Rattle.period_grammar.specs.Exact.{is_fault_event, faultless}
use Rattle.relay.specs.declared.relaying.Relay.{Relay}
use Rattle.relay.specs.declared.relaying.RelayFault.{RelayFault}
use Rattle.relay.specs.declared.relaying.RelayFault.TheVariants.{Long, NoMemory}
use Rattle.relay.specs.Relayed.{Begun, Alternation, some_columns, some_line, a_line, where_so, with_packet, closed, ended, joined, without_faults, kept_from, nulled, relayed}
use Rattle.relay.specs.Laws.{begun_after, begun_in, turns_in}
use Rattle.relay.specs.Sizes.{size}
use Rattle.relay.specs.Standing.{IsAt, IsCause, Refuses, RelayRepresents}
use Rattle.relay.proofs.Gaining.{gained}
use Rattle.relay.proofs.Growing.{columns_settled}

-- what an event makes of turns and of an island that goes on
abbrev pub turns_after : Alternation → Option Begun → Event → Alternation
turns_after t b x = fold joined t (nulled (kept_from b (without_faults (x ∷ []))))

abbrev pub island_after : Option Begun → Event → Option Begun
island_after b x = begun_after b (without_faults (x ∷ []))

abbrev pub good_after : Bool → Event → Bool
good_after good x = good && not (is_fault_event x)

and_true : (a b : Bool) → (a && (b && true)) ≡ (a && b)
and_true true true = refl
and_true true false = refl
and_true false b = refl

faultless_more : (reported : List Event) (x : Event) → faultless (reported ++ x ∷ []) ≡ good_after (faultless reported) x
faultless_more reported x = list_all-append (λ t. not (is_fault_event t)) reported (x ∷ []) ∙ and_true (faultless reported) (not (is_fault_event x))

pub stands_after : (relay : Relay) (reported : List Event) (x : Event) → IsAt relay (turns_after (turns_in reported) (begun_in reported) x) (island_after (begun_in reported) x) (good_after (faultless reported) x) → RelayRepresents relay (reported ++ x ∷ [])
stands_after relay reported x h = grind (arith, gained, faultless_more)

columns_after : (reported : List Event) (x : Event) → columns_of (relayed (reported ++ x ∷ [])) ≡ size (turns_after (turns_in reported) (begun_in reported) x)
columns_after reported x =
    let g = gained reported (x ∷ []) in
    ap columns_of (gained (reported ++ x ∷ []) []).relayed_is ∙ columns_settled (turns_in (reported ++ x ∷ [])) ∙ ap size g.turns

-- The events.

pub run_turns : (t : Alternation) (b : Option Begun) (v n : ℕ) → v < 64 → 1 ≤ n → turns_after t b (run v n) ≡ joined t (some_columns (record { value = v; count = n }))
unfolding without_faults kept_from nulled
run_turns t b v n small some =
    ap (λ q. fold joined t (nulled (where_so q (some_columns (record { value = v; count = n })) ++ []))) (and_from _ _ (lt-ltb v 64 small) (le-leb 1 n some))

pub line_turns : (t : Alternation) (b : Option Begun) (bytes : List ℕ) → is_video_period bytes ≡ true → turns_after t b (line bytes) ≡ ended t (a_line bytes)
unfolding without_faults kept_from nulled
line_turns t b bytes e = ap (λ q. fold joined t (nulled (where_so q (some_line bytes) ++ []))) e

pub close_turns : (t : Alternation) (b : Option Begun) (i j : ℕ) → turns_after t b (close_island i j) ≡ fold joined t (nulled (closed (record { first = i; second = j }) b))
unfolding without_faults kept_from nulled
close_turns t b i j = ap (λ ks. fold joined t (nulled ks)) (append-nil (closed (record { first = i; second = j }) b))

pub fault_turns : (t : Alternation) (b : Option Begun) (f : Fault) → (turns_after t b (fault_event f) ≡ t) × (island_after b (fault_event f) ≡ b) × (is_fault_event (fault_event f) ≡ true)
unfolding without_faults kept_from nulled
fault_turns t b (Word lane column) = (refl, refl, refl)
fault_turns t b (Short column) = (refl, refl, refl)
fault_turns t b (Preamble column) = (refl, refl, refl)
fault_turns t b (Noise column) = (refl, refl, refl)
fault_turns t b (Empty column) = (refl, refl, refl)
fault_turns t b (Code lane column) = (refl, refl, refl)
fault_turns t b (LongLine column) = (refl, refl, refl)
fault_turns t b (Symbols column count) = (refl, refl, refl)
fault_turns t b (Mended column block bit) = (refl, refl, refl)
fault_turns t b (Lost column block) = (refl, refl, refl)
fault_turns t b (LongIsland column) = (refl, refl, refl)
fault_turns t b (Broken column) = (refl, refl, refl)
fault_turns t b (Guard column) = (refl, refl, refl)

-- a refusal, asked of each reported list
pub cause_for_each : (r : Result Unit RelayFault) (old : Relay) (x : Event) → ((reported : List Event) → RelayRepresents old reported → IfErr r (λ fault. IsCause fault (columns_of (relayed (reported ++ x ∷ [])))))
    → IfErr r (Refuses old x)
cause_for_each (Ok u) old x h = tt
cause_for_each (Err f) old x h = h

pub if_err : (r : Result Unit RelayFault) (n m : ℕ) → n ≡ m → IfErr r (λ fault. IsCause fault m) → IfErr r (λ fault. IsCause fault n)
if_err r n m same h = subst (λ k. IfErr r (λ fault. IsCause fault k)) (sym same) h

-- memory was wanting for an event with which what is relayed is not too long
pub wanting_refuses : (r : Result Unit RelayFault) (old : Relay) (x : Event) → IsErrAnd r (λ e. e ≡ NoMemory) → ((reported : List Event) → RelayRepresents old reported → columns_of (relayed (reported ++ x ∷ [])) ≤ COLUMN_LIMIT)
    → IfErr r (Refuses old x)
wanting_refuses (Ok u) old x h few = tt
wanting_refuses (Err Long) old x h few = absurd (cc h)
wanting_refuses (Err NoMemory) old x h few = few

and_yes : (a : Bool) → (a && true) ≡ a
and_yes true = refl
and_yes false = refl

and_no : (a : Bool) → (a && false) ≡ false
and_no true = refl
and_no false = refl

pub no_fault : (good : Bool) (x : Event) → is_fault_event x ≡ false → good_after good x ≡ good
no_fault good x e = ap (λ q. good && not q) e ∙ and_yes good

pub some_fault : (good : Bool) (x : Event) → is_fault_event x ≡ true → good_after good x ≡ false
some_fault good x e = ap (λ q. good && not q) e ∙ and_no good

pub run_island : (b : Option Begun) (v n : ℕ) → island_after b (run v n) ≡ None
unfolding without_faults
run_island b v n = refl

pub line_island : (b : Option Begun) (bytes : List ℕ) → island_after b (line bytes) ≡ None
unfolding without_faults
line_island b bytes = refl

pub open_after : (t : Alternation) (b : Option Begun) (i j : ℕ) → (turns_after t b (open_island i j) ≡ t) × (island_after b (open_island i j) ≡ Some (record { opening = record { first = i; second = j }; packets = [] }))
unfolding without_faults kept_from nulled
open_after t b i j = (refl, refl)

pub packet_after : (t : Alternation) (b : Option Begun) (p : Packet) (v : PacketVerdicts) (s : ℕ) → (turns_after t b (packet p v s) ≡ t) × (island_after b (packet p v s) ≡ with_packet (record { packet = p; verdicts = v }) b)
unfolding without_faults kept_from nulled
packet_after t b p v s = (refl, refl)

pub close_island_after : (b : Option Begun) (i j : ℕ) → island_after b (close_island i j) ≡ None
unfolding without_faults
close_island_after b i j = refl

pub cut_after : (t : Alternation) (b : Option Begun) (j : ℕ) → (turns_after t b (cut j) ≡ t) × (island_after b (cut j) ≡ None)
unfolding without_faults kept_from nulled
cut_after t b j = (refl, refl)

pub moved : (relay : Relay) (reported : List Event) (x y : Event) (t : Alternation) (b : Option Begun) (good : Bool) → x ≡ y
    → turns_after (turns_in reported) (begun_in reported) y ≡ t → island_after (begun_in reported) y ≡ b → good_after (faultless reported) y ≡ good → IsAt relay t b good → RelayRepresents relay (reported ++ x ∷ [])
moved relay reported x y t b good same e f g h =
    subst (λ z. RelayRepresents relay (reported ++ z ∷ [])) (sym same)
    (stands_after relay reported y
    (subst (λ (u : Alternation). IsAt relay u (island_after (begun_in reported) y) (good_after (faultless reported) y)) (sym e)
    (subst (λ (c : Option Begun). IsAt relay t c (good_after (faultless reported) y)) (sym f)
    (subst (λ (q : Bool). IsAt relay t b q) (sym g) h))))

pub moved_columns : (reported : List Event) (x y : Event) (t : Alternation) → x ≡ y → turns_after (turns_in reported) (begun_in reported) y ≡ t → columns_of (relayed (reported ++ x ∷ [])) ≡ size t
moved_columns reported x y t same e = ap (λ z. columns_of (relayed (reported ++ z ∷ []))) same ∙ columns_after reported y ∙ ap size e

-- what a relay keeps is not too long
pub few_at : (relay : Relay) (t : Alternation) (b : Option Begun) (good : Bool) → IsAt relay t b good → size t ≤ COLUMN_LIMIT
few_at relay t b good at = let n = at.few in let m = at.columns in let k = at.period_columns in omega arith
