-- The columns before the cut column are the front that is built: a cut is reported at the end alone.
use Rattle.std.proofs.Common.{◌≡◌, ℕ, ◌+◌, ◌*◌, Bool, true, false, not, List, [], ◌∷◌, ◌++◌, length, map, take, refl, ap, sym, ◌∙◌, subst, arith, append_assoc, length-append, zero-add}
use Rattle.std.specs.List.{list_all}
use Rattle.std.proofs.lemmas.List.{append-nil, map-append}
use Rattle.std.proofs.lemmas.List.Folds.{list_all-append}
use Rattle.std.proofs.Math.Seq.{take-append_seam}
use Rattle.tmds_word.specs.Column.{Column}
use Rattle.tmds_word.proofs.Below.{and-left, and-right}
use Rattle.bch_block.specs.declared.Verdict.{Verdict}
use Rattle.period_grammar.specs.Events.{Event, cut, guard, EventAt, all_at, event_of}
use Rattle.period_grammar.specs.Cut.{Stretch as Cut, stretch, stretches, Run, columns, runs}
use Rattle.period_grammar.specs.Island.{Payload, parts, when, if_so, block_fault, block_faults, packet_events, in_packets, closing_events, payload, in_left, in_island, breaks, wrong_guards, in_closing}
use Rattle.period_grammar.specs.Heard.{other_words, words, ended, in_runs, last_run, if_not, Kind, video, island, neither, codes_of, line_of, opened, opening, in_gap, payload_closes, at_close, payload_ends, at_end, heard_so_far, heard}
use Rattle.period_grammar.proofs.Joined.{IsCut, joined, joined_stretches, cut_stretches}
use Rattle.link_laws.proofs.Cutting.{control_reported, hear, gap_events, hear_last, hear_on}
use Rattle.link_laws.proofs.Rows.{and_both}
use Rattle.period_grammar.specs.Exact.{cut_column, whole_part}
use Rattle.period_grammar.proofs.Hearings.{events_at}
use Rattle.link_laws.proofs.exact.Islands.{is_broken, flat, flat_of, AreLong, LongOf, split_flat, split_long}
use Rattle.link_laws.proofs.exact.Building.{island_front, payload_front, gap_front, front}

-- Events none of which is a cut.

abbrev uncut : Event → Bool
uncut (cut c) = false
uncut _ = true

abbrev Uncut : List Event → Type 0
Uncut ts = list_all uncut ts ≡ true

both : (ts us : List Event) → Uncut ts → Uncut us → Uncut (ts ++ us)
both ts us h g = list_all-append uncut ts us ∙ and_both _ _ h g

uncut_if_not : (p : Bool) (t : Event) → uncut t ≡ true → Uncut (if_not p t)
uncut_if_not p t h = grind (arith, and_both)

uncut_if : (p : Bool) (t : Event) → uncut t ≡ true → Uncut (if_so p t)
uncut_if p t h = grind (arith, and_both)

uncut_at : (j : ℕ) (ts : List Event) → Uncut ts → Uncut (map event_of (all_at j ts))
uncut_at j ts h = subst (λ (us : List Event). Uncut us) (sym (events_at j ts)) h

reported_both : (ts us : List EventAt) → Uncut (map event_of ts) → Uncut (map event_of us) → Uncut (map event_of (ts ++ us))
reported_both ts us h g = subst (λ (vs : List Event). Uncut vs) (sym (map-append event_of ts us)) (both (map event_of ts) (map event_of us) h g)

uncut_column : (j : ℕ) (c : Column) → Uncut (other_words j c)
unfolding other_words
uncut_column j c = grind (arith, both)

uncut_words : (j : ℕ) (cs : List Column) → Uncut (map event_of (words j cs))
uncut_words j [] = refl
uncut_words j (c ∷ cs) = reported_both (all_at j (other_words j c)) (words (j + 1) cs) (uncut_at j (other_words j c) (uncut_column j c)) (uncut_words (j + 1) cs)

uncut_runs : (j : ℕ) (rs : List Run) → Uncut (map event_of (in_runs j rs))
uncut_runs j [] = refl
uncut_runs j (columns v cs ∷ []) = uncut_words j cs
uncut_runs j (columns v cs ∷ (s ∷ rs)) =
    reported_both (words j cs) (ended j (columns v cs) ++ in_runs (j + length cs) (s ∷ rs)) (uncut_words j cs) (uncut_runs (j + length cs) (s ∷ rs))

uncut_last : (rs : List Run) → Uncut (last_run rs)
uncut_last [] = refl
uncut_last (columns v cs ∷ []) = refl
uncut_last (r ∷ (s ∷ rs)) = uncut_last (s ∷ rs)

uncut_control : (j : ℕ) (control : List Column) → Uncut (control_reported j control)
uncut_control j control = both (map event_of (in_runs j (runs control))) (last_run (runs control)) (uncut_runs j (runs control)) (uncut_last (runs control))

uncut_guards : (is : Column → Bool) (s : ℕ) (c d : Column) → Uncut (wrong_guards is s c d)
uncut_guards is s c d = both (if_so (not (is c)) (guard s)) _ (uncut_if (not (is c)) (guard s) refl) (uncut_if (not (is d)) (guard (s + 1)) refl)

uncut_opening : (b : ℕ) (control : List Column) (g h : Column) (k : Kind) → Uncut (opening b control g h k)
uncut_opening b control g h k = grind (arith, both, uncut_guards, uncut_if_not)

uncut_block : (s b : ℕ) (v : Verdict) → Uncut (block_fault s b v)
uncut_block s b v = grind arith

uncut_blocks : (s b : ℕ) (vs : List Verdict) → Uncut (block_faults s b vs)
uncut_blocks s b [] = refl
uncut_blocks s b (v ∷ vs) = both (block_fault s b v) (block_faults s (b + 1) vs) (uncut_block s b v) (uncut_blocks s (b + 1) vs)

uncut_packet : (s k : ℕ) (p : List Column) → Uncut (packet_events s k p)
unfolding packet_events
uncut_packet s k p = grind (arith, both, uncut_if, uncut_blocks)

uncut_packets : (s k : ℕ) (ps : List (List Column)) → Uncut (map event_of (in_packets s k ps))
uncut_packets s k [] = refl
uncut_packets s k (p ∷ ps) = reported_both (all_at (s + 31) (packet_events s k p)) (in_packets (s + 32) (k + 1) ps) (uncut_at (s + 31) (packet_events s k p) (uncut_packet s k p)) (uncut_packets (s + 32) (k + 1) ps)

uncut_in_closing : (b s k : ℕ) (t : List Column) → Uncut (map event_of (in_closing b s k t))
unfolding closing_events
uncut_in_closing b s k t = grind (arith, uncut_at, reported_both, both, uncut_guards, uncut_if)

uncut_left : (b s k : ℕ) (t : List Column) → Uncut (map event_of (in_left b s k t))
uncut_left b s k t = grind (arith, uncut_in_closing)

uncut_gap : (b : ℕ) (control gap : List Column) → Uncut (gap_events b control gap)
unfolding in_gap in_island
uncut_gap b control gap = grind (arith, reported_both, uncut_at, uncut_opening, uncut_packets, uncut_left)

uncut_codes : (s : ℕ) (cs : List Column) → Uncut (codes_of s cs)
unfolding codes_of
uncut_codes s cs = grind (arith, both)

uncut_closes : (b : ℕ) (k : Kind) (rest : List Column) → Uncut (payload_closes b k rest)
unfolding line_of
uncut_closes b k rest = grind (arith, uncut_if, is_broken, both, uncut_codes, uncut_if_not)

uncut_close : (b : ℕ) (gap : List Column) → Uncut (at_close b gap)
unfolding at_close
uncut_close b gap = grind (arith, uncut_closes)

-- The cut column.

cut_after : (n : ℕ) (ts us : List Event) → Uncut ts → cut_column n (ts ++ us) ≡ cut_column n us
cut_after n [] us h = refl
cut_after n (t ∷ ts) us h = grind (arith, and-left, and-right, cut_after n ts us)

uncut_column_is : (n : ℕ) (ts : List Event) → Uncut ts → cut_column n ts ≡ n
uncut_column_is n ts h = ap (cut_column n) (sym (append-nil ts)) ∙ cut_after n ts [] h

length-flat : (ps : List (List Column)) → AreLong ps → length (flat ps) ≡ 32 * length ps
length-flat [] h = refl
length-flat (p ∷ ps) h = let ih = length-flat ps h.1 in let n = length-append p (flat ps) in let e = h.0 in omega arith

payload_cut : (n b : ℕ) (p : Payload) → LongOf p → n ≡ b + (2 + length (flat_of p)) → cut_column n (breaks cut b p) ≡ b + (2 + length (island_front p))
payload_cut n b (parts ps t) long h = grind (arith, is_broken, length-flat, length-append, flat)

kind_cut : (n b : ℕ) (k : Kind) (rest : List Column) → n ≡ b + (2 + length rest) → cut_column n (payload_ends b k rest) ≡ b + (2 + length (payload_front k rest))
kind_cut n b k rest h = grind (arith, payload_cut, split_long, split_flat)

front_cut : (j : ℕ) (xs : List Cut) → IsCut xs → cut_column (j + length (joined xs)) (hear j xs) ≡ j + length (front xs)
unfolding at_end
front_cut j [] were = refl
front_cut j (stretch control [] ∷ []) were = uncut_column_is (j + length (control ++ [])) (control_reported j control) (uncut_control j control)
front_cut j (stretch control (g ∷ gap) ∷ []) were = grind (arith, control_reported, gap_events, length-append, gap_front, hear_last, cut_after, uncut_control, uncut_gap, kind_cut)
front_cut j (stretch [] [] ∷ (y ∷ ys)) were = absurd were.1
front_cut j (stretch (k ∷ control) [] ∷ (y ∷ ys)) were = absurd were.1
front_cut j (stretch control (g ∷ gap) ∷ (y ∷ ys)) were =
    let b = j + length control in
    let m = j + (length control + length (g ∷ gap)) in
    let later = joined (y ∷ ys) in
    let n = j + length (control ++ ((g ∷ gap) ++ later)) in
    let reported = control_reported j control in
    let events = gap_events b control (g ∷ gap) in
    let close = at_close b (g ∷ gap) in
    let heard = hear m (y ∷ ys) in
    let a = length-append control ((g ∷ gap) ++ later) in
    let c = length-append (g ∷ gap) later in
    let d = length-append control ((g ∷ gap) ++ front (y ∷ ys)) in
    let f = length-append (g ∷ gap) (front (y ∷ ys)) in
    let same : n ≡ m + length later = omega arith in
    let ih = front_cut m (y ∷ ys) were.2 in
    let total : m + length (front (y ∷ ys)) ≡ j + length (control ++ ((g ∷ gap) ++ front (y ∷ ys))) = omega arith in
    ap (cut_column n) (hear_on j control g gap y ys)
    ∙ cut_after n reported (events ++ (close ++ heard)) (uncut_control j control)
    ∙ cut_after n events (close ++ heard) (uncut_gap b control (g ∷ gap))
    ∙ cut_after n close heard (uncut_close b (g ∷ gap))
    ∙ ap (λ k. cut_column k heard) same
    ∙ ih
    ∙ total

-- The front stands in front.

island_begins : (q : Bool) (ps : List (List Column)) (t : List Column) → (rest : List Column) × (flat ps ++ t ≡ (flat ps ++ when (not q) t) ++ rest)
island_begins true ps t = (t, ap (λ xs. xs ++ t) (sym (append-nil (flat ps))))
island_begins false ps t = ([], sym (append-nil (flat ps ++ t)))

payload_begins : (p : Payload) → (rest : List Column) × (flat_of p ≡ island_front p ++ rest)
payload_begins (parts ps t) = island_begins (is_broken t) ps t

kind_begins : (k : Kind) (rest : List Column) → (more : List Column) × (rest ≡ payload_front k rest ++ more)
kind_begins video rest = (rest, refl)
kind_begins island rest = let p = payload_begins (payload rest) in (p.0, sym (split_flat (length rest) rest) ∙ p.1)
kind_begins neither rest = ([], sym (append-nil rest))

gap_begins : (gap : List Column) → (more : List Column) × (gap ≡ gap_front gap ++ more)
gap_begins [] = ([], refl)
gap_begins (g ∷ []) = (g ∷ [], refl)
gap_begins (g ∷ (h ∷ rest)) = let k = kind_begins (opened g h) rest in (k.0, ap (λ xs. g ∷ (h ∷ xs)) k.1)

front_begins : (xs : List Cut) → (more : List Column) × (joined xs ≡ front xs ++ more)
front_begins [] = ([], refl)
front_begins (stretch control gap ∷ []) =
    let g = gap_begins gap in
    (g.0, ap (λ xs. control ++ xs) (append-nil gap ∙ g.1) ∙ sym (append_assoc control (gap_front gap) g.0))
front_begins (stretch control gap ∷ (y ∷ ys)) =
    let ih = front_begins (y ∷ ys) in
    (ih.0, ap (λ xs. control ++ (gap ++ xs)) ih.1 ∙ ap (λ xs. control ++ xs) (sym (append_assoc gap (front (y ∷ ys)) ih.0)) ∙ sym (append_assoc control (gap ++ front (y ∷ ys)) ih.0))

pub whole_is_front : (cs : List Column) → whole_part cs ≡ front (stretches cs)
unfolding whole_part heard heard_so_far
whole_is_front cs =
    let xs = stretches cs in
    let f = front_begins xs in
    let same = joined_stretches cs in
    let n : cut_column (length cs) (hear 0 xs) ≡ length (front xs) = ap (λ (ds : List Column). cut_column (length ds) (hear 0 xs)) (sym same) ∙ ap (λ k. cut_column k (hear 0 xs)) (sym (zero-add (length (joined xs)))) ∙ front_cut 0 xs (cut_stretches cs) ∙ zero-add (length (front xs)) in
    ap (λ k. take k cs) n
    ∙ ap (take (length (front xs))) (sym same ∙ f.1)
    ∙ take-append_seam (front xs) f.0
