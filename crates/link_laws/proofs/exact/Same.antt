-- Of the columns from the cut column on no fault is reported: where none is reported of the columns before it, none is
-- reported of all.
use Rattle.std.proofs.Common.{◌≡◌, ℕ, suc, zero, ◌+◌, ◌≤◌, Bool, true, false, not, List, [], ◌∷◌, ◌++◌, length, take, drop, refl, ap, sym, ◌∙◌, subst, arith, length-append, length-take-le}
use Rattle.std.proofs.lemmas.List.{append-nil}
use Rattle.std.proofs.lemmas.List.Folds.{list_all-append}
use Rattle.tmds_word.specs.Column.{Column}
use Rattle.tmds_word.proofs.Below.{and-left, and-right}
use Rattle.terc4.specs.Columns.{is_control_column}
use Rattle.period_grammar.specs.Events.{Event}
use Rattle.period_grammar.specs.Cut.{Stretch as Cut, stretch, stretches}
use Rattle.period_grammar.specs.Island.{Payload, parts, with_packet, split_by, begins_close, holds_packet, split, payload, in_left, in_island}
use Rattle.period_grammar.specs.Heard.{Kind, opened, in_gap, at_close, payload_ends, at_end, heard, heard_so_far}
use Rattle.period_grammar.proofs.Islands.{holds_not, holds_long, holds_open, split_none}
use Rattle.period_grammar.proofs.Joined.{AllAre, IsCut, cut_stretches, split_packet}
use Rattle.link_laws.proofs.Cutting.{AllControl, NoneControl, begins, cut_gap, cut_both, control_reported, hear, gap_events, hear_control, hear_last, hear_on}
use Rattle.link_laws.proofs.Rows.{and_both}
use Rattle.link_laws.proofs.Between.{heads, begins_heads}
use Rattle.period_grammar.specs.Exact.{IsClean}
use Rattle.link_laws.proofs.exact.Faultless.{Fine, fine_left, fine_right, fine_both}
use Rattle.link_laws.proofs.exact.Islands.{is_broken, flat, flat_of, split_flat}
use Rattle.link_laws.proofs.exact.Building.{island_front, payload_front, gap_front, front}

-- Columns of one kind.

all_control : (cs : List Column) → AllAre true cs → AllControl cs
all_control [] h = refl
all_control (c ∷ cs) h = and_both _ _ h.0 (all_control cs h.1)

none_control : (cs : List Column) → AllAre false cs → NoneControl cs
none_control [] h = refl
none_control (c ∷ cs) h = and_both _ _ (ap not h.0) (none_control cs h.1)

-- Packets that are cut from columns are cut from their own columns again.

abbrev ArePackets : List (List Column) → Type 0
ArePackets [] = Unit {0}
ArePackets (p ∷ ps) = (length p ≡ 32) × (begins_close p ≡ false) × ArePackets ps

abbrev PacketsOf : Payload → Type 0
PacketsOf (parts ps t) = ArePackets ps

first_open : (cs : List Column) → begins_close cs ≡ false → begins_close (take 32 cs) ≡ false
first_open cs h = grind arith

packets_with : (p : List Column) (x : Payload) → length p ≡ 32 → begins_close p ≡ false → PacketsOf x → PacketsOf (with_packet p x)
packets_with p (parts ps t) e f h = (e, f, h)

packets_by : (q : Bool) (cs : List Column) (x : Payload) → holds_packet cs ≡ q → PacketsOf x → PacketsOf (split_by q cs x)
packets_by true cs x e h = packets_with (take 32 cs) x (length-take-le 32 cs (holds_long cs e)) (first_open cs (holds_open cs e)) h
packets_by false cs x e h = tt

split_packets : (n : ℕ) (cs : List Column) → PacketsOf (split n cs)
unfolding split
split_packets zero cs = tt
split_packets (suc n) cs = packets_by (holds_packet cs) cs (split n (drop 32 cs)) refl (split_packets n (drop 32 cs))

split_again : (n : ℕ) (ps : List (List Column)) → ArePackets ps → length (flat ps) ≤ n → split n (flat ps) ≡ parts ps []
split_again n [] h le = split_none n [] (holds_not [] (omega arith))
split_again zero (p ∷ ps) h le = let a = length-append p (flat ps) in let e = h.0 in absurd (omega arith)
split_again (suc n) (p ∷ ps) h le = grind (arith, length-append, flat, split_packet, split_again n ps)

-- What is reported of a gap while it goes on.

broken_left : (b s k : ℕ) (t : List Column) → is_broken t ≡ true → in_left b s k t ≡ []
broken_left b s k t h = grind arith

same_payload : (b : ℕ) (rest : List Column) (x : Payload) → payload rest ≡ x → PacketsOf x → flat_of x ≡ rest → in_island b (payload (island_front x)) ≡ in_island b (payload rest)
unfolding in_island
same_payload b rest (parts ps t) e h f = grind (arith, is_broken, append-nil, flat, split_again, broken_left)

same_gap : (b : ℕ) (control : List Column) (g h : Column) (rest : List Column) → gap_events b control (gap_front (g ∷ (h ∷ rest))) ≡ gap_events b control (g ∷ (h ∷ rest))
unfolding in_gap
same_gap b control g h rest = grind (arith, same_payload, split_packets, split_flat)

-- What is reported at the end is no fault.

ends_fine : (b : ℕ) (k : Kind) (rest : List Column) → Fine (payload_ends b k rest)
ends_fine b k rest = grind (arith, is_broken)

end_fine : (b : ℕ) (gap : List Column) → Fine (at_end b gap)
unfolding at_end
end_fine b gap = grind (arith, ends_fine)

-- How control columns, others and the rest are cut, where there may be no control column.

cut_any : (control : List Column) (g : Column) (gap rest : List Column) → AllControl control → NoneControl (g ∷ gap) → begins (stretches rest) ≡ true
    → stretches (control ++ ((g ∷ gap) ++ rest)) ≡ stretch control (g ∷ gap) ∷ stretches rest
cut_any [] g gap rest all none h = cut_gap (g ∷ gap) rest none h
cut_any (c ∷ cs) g gap rest all none h = cut_both c cs g gap rest all none h

none_stretches : stretches [] ≡ []
unfolding stretches
none_stretches = refl

cut_last : (control : List Column) (g : Column) (gap : List Column) → AllControl control → NoneControl (g ∷ gap) → stretches (control ++ (g ∷ gap)) ≡ stretch control (g ∷ gap) ∷ []
cut_last control g gap all none =
    ap (λ (xs : List Column). stretches (control ++ xs)) (sym (append-nil (g ∷ gap)))
    ∙ cut_any control g gap [] all none (ap begins none_stretches)
    ∙ ap (λ xs. stretch control (g ∷ gap) ∷ xs) none_stretches

-- The gap's front has no control column.

-- periods that are some
abbrev some : List Cut → Bool
some [] = false
some (x ∷ xs) = true

some_heads : (cs : List Column) → heads cs ≡ true → some (stretches cs) ≡ true
unfolding stretches
some_heads cs h = grind arith

abbrev all_parts : ℕ → List Column → Column → List Column → List Cut → List Event
all_parts j control g gap xs =
    control_reported j control ++ (gap_events (j + length control) control (g ∷ gap) ++ (at_close (j + length control) (g ∷ gap) ++ hear (j + (length control + length (g ∷ gap))) xs))

hear_some : (j : ℕ) (control : List Column) (g : Column) (gap : List Column) (xs : List Cut) → some xs ≡ true → hear j (stretch control (g ∷ gap) ∷ xs) ≡ all_parts j control g gap xs
hear_some j control g gap xs h = grind (arith, hear_on)

more_fine : (a b c d e : List Event) → Fine (a ++ (b ++ (c ++ d))) → (Fine d → Fine e) → Fine (a ++ (b ++ (c ++ e)))
more_fine a b c d e h f = grind (arith, fine_right, fine_both, fine_left)

-- a front of periods that begin with a control column begins with it
front_heads : (k : Column) (control gap : List Column) (xs : List Cut) → is_control_column k ≡ true → heads (front (stretch (k ∷ control) gap ∷ xs)) ≡ true
front_heads k control gap xs h = grind arith

payload_none : (x : Payload) → NoneControl (flat_of x) → NoneControl (island_front x)
payload_none (parts ps t) n = grind (arith, is_broken, NoneControl, append-nil, flat, and-left, list_all-append)

gap_none : (g h : Column) (rest : List Column) → NoneControl (g ∷ (h ∷ rest)) → NoneControl (gap_front (g ∷ (h ∷ rest)))
gap_none g h rest none = grind (arith, and-right, and_both, and-left, payload_none, NoneControl, split_flat)

last_same : (j : ℕ) (control : List Column) (g : Column) (gap : List Column) → AllControl control → NoneControl (g ∷ gap) → Fine (hear j (stretches (control ++ gap_front (g ∷ gap))))
    → Fine (hear j (stretch control (g ∷ gap) ∷ []))
unfolding in_gap
last_same j control g [] all none f =
    let b = j + length control in
    let reported = ap (λ cs. hear j (stretches cs)) (append-nil control) ∙ hear_control j control all in
    subst (λ (ts : List Event). Fine ts) (sym (hear_last j control g []))
    (fine_both (control_reported j control) (gap_events b control (g ∷ []) ++ at_end b (g ∷ [])) (subst (λ (ts : List Event). Fine ts) reported f) (end_fine b (g ∷ [])))
last_same j control g (h ∷ rest) all none f =
    let b = j + length control in
    let gap = h ∷ payload_front (opened g h) rest in
    let reported = control_reported j control in
    let events = gap_events b control (g ∷ gap) in
    let end = at_end b (g ∷ gap) in
    let e = ap (hear j) (cut_last control g gap all (gap_none g h rest none)) ∙ hear_last j control g gap in
    let p = subst (λ (ts : List Event). Fine ts) e f in
    let q = subst (λ (ts : List Event). Fine ts) (same_gap b control g h rest) (fine_left events end (fine_right reported (events ++ end) p)) in
    subst (λ (ts : List Event). Fine ts) (sym (hear_last j control g (h ∷ rest)))
    (fine_both reported (gap_events b control (g ∷ (h ∷ rest)) ++ at_end b (g ∷ (h ∷ rest))) (fine_left reported (events ++ end) p)
    (fine_both (gap_events b control (g ∷ (h ∷ rest))) (at_end b (g ∷ (h ∷ rest))) q (end_fine b (g ∷ (h ∷ rest)))))

same_from : (j : ℕ) (xs : List Cut) → IsCut xs → Fine (hear j (stretches (front xs))) → Fine (hear j xs)
same_from j [] were f = refl
same_from j (stretch control [] ∷ []) were f =
    subst (λ (ts : List Event). Fine ts) (ap (λ cs. hear j (stretches cs)) (append-nil control) ∙ hear_control j control (all_control control were.0.0)) f
same_from j (stretch control (g ∷ gap) ∷ []) were f = last_same j control g gap (all_control control were.0.0) (none_control (g ∷ gap) were.0.1) f
same_from j (stretch [] [] ∷ (y ∷ ys)) were f = absurd were.1
same_from j (stretch (k ∷ control) [] ∷ (y ∷ ys)) were f = absurd were.1
same_from j (stretch control (g ∷ gap) ∷ (stretch [] after ∷ ys)) were f = absurd were.1
same_from j (stretch control (g ∷ gap) ∷ (stretch (k ∷ first) after ∷ ys)) were f =
    let b = j + length control in
    let m = j + (length control + length (g ∷ gap)) in
    let y = stretch (k ∷ first) after in
    let rest = front (y ∷ ys) in
    let at = front_heads k first after ys were.2.0.0.0 in
    let e = ap (hear j) (cut_any control g gap rest (all_control control were.0.0) (none_control (g ∷ gap) were.0.1) (begins_heads rest at)) ∙ hear_some j control g gap (stretches rest) (some_heads rest at) in
    let p = subst (λ (ts : List Event). Fine ts) e f in
    subst (λ (ts : List Event). Fine ts) (sym (hear_on j control g gap y ys))
    (more_fine (control_reported j control) (gap_events b control (g ∷ gap)) (at_close b (g ∷ gap)) (hear m (stretches rest)) (hear m (y ∷ ys)) p (λ q. same_from m (y ∷ ys) were.2 q))

pub clean_by_front : (cs : List Column) → IsClean (front (stretches cs)) → IsClean cs
unfolding heard heard_so_far
clean_by_front cs h = same_from 0 (stretches cs) (cut_stretches cs) h
