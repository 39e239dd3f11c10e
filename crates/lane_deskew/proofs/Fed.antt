-- What the words of a deskew mean for bits, and that lanes which are fed evenly push evenly.
use Rattle.std.proofs.Common.{◌≡◌, ◌↔◌, ℕ, ◌+◌, ◌-◌, ◌/◌, ◌≤◌, Bool, List, [], length, drop, ap, ◌∙◌, sym, subst, arith, inl, inr, Option, Some, None, MatchOption, slice_index}
use Rattle.std.proofs.lemmas.Bool.{cases_lt}
use Rattle.lane_align.specs.Lanes.{IsRun, IsLock, IsEdge}
use Rattle.lane_align.specs.Words.{words_from, lane_words, IsWordEdge}
use Rattle.lane_align.proofs.Controls.{one_lock, run_within}
use Rattle.lane_align.proofs.Edges.{edges_apart, edge_within}
use Rattle.lane_align.proofs.Words.{word_edges, edge_words, length-words_from}
use Rattle.lane_align.proofs.Growing.{run_was}
use Rattle.lane_deskew.specs.Triples.{AreTriple, AreFirst, IsTriple, IsFirst, IsAlignment}
use Rattle.lane_deskew.specs.Aligned.{aligned_columns}
use Rattle.tmds_word.specs.Words.{columns_of}
use Rattle.lane_deskew.specs.Growing.{HasGrown, Extends}
use Rattle.lane_deskew.specs.Pushed.{Pushed, History, edge_of, from_edge, IsEven, IsPastTriple, IsPastAlignment, past_columns}
use Rattle.lane_deskew.specs.Fed.{IsCutFrom, AreCutFrom, WasFed}
use Rattle.lane_deskew.proofs.Growth.{edge_kept, edge_before, lock_kept}
use Rattle.lane_deskew.proofs.Settling.{first_extends}

no_words_edge : (lock e : ℕ) → IsWordEdge lock [] e → ⊥
no_words_edge lock e edge = let within = edge.ends.within in omega arith

-- by the lock: the lane's edges are those of its bits
edges_cut : (xs : List Bool) (lane : Pushed) (e : ℕ) (o : Option ℕ) → MatchOption o ((p : ℕ) → IsRun xs p → ⊥) (λ p. IsLock xs p × (lane.lock ≡ p)) → lane.words ≡ lane_words o xs
    → (edge_of lane e → IsEdge xs e) × (IsEdge xs e → edge_of lane e)
unfolding lane_words
edges_cut xs lane e None none words = (
  λ edge. absurd (no_words_edge lane.lock e (subst (λ (ws : List ℕ). IsWordEdge lane.lock ws e) words edge)),
  λ edge. absurd (none edge.lock edge.is_lock.run),
)
edges_cut xs lane e (Some p) locked words =
    let both = word_edges xs p e locked.0 in (
      λ edge. both.1 (subst (λ n. IsWordEdge n (words_from xs p) e) locked.1 (subst (λ (ws : List ℕ). IsWordEdge lane.lock ws e) words edge)),
      λ edge. subst (λ (ws : List ℕ). IsWordEdge lane.lock ws e) (sym words) (subst (λ n. IsWordEdge n (words_from xs p) e) (sym locked.1) (both.0 edge)),
    )

pub edge_cut : (xs : List Bool) (lane : Pushed) (e : ℕ) → IsCutFrom xs lane → edge_of lane e ↔ IsEdge xs e
edge_cut xs lane e cut = edges_cut xs lane e cut.found cut.lock cut.words

triple_moved : (A B C X Y Z : ℕ → Type 0) (d e f : ℕ) → (A d → X d) → (B e → Y e) → (C f → Z f) → AreTriple A B C d e f → AreTriple X Y Z d e f
triple_moved A B C X Y Z d e f a b c t = record {
  blue = a t.blue;
  green = b t.green;
  red = c t.red;
  blue_green = t.blue_green;
  green_red = t.green_red;
  blue_red = t.blue_red;
}

first_moved : (A B C X Y Z : ℕ → Type 0) (d e f : ℕ) → ((n : ℕ) → A n ↔ X n) → ((n : ℕ) → B n ↔ Y n) → ((n : ℕ) → C n ↔ Z n) → AreFirst A B C d e f → AreFirst X Y Z d e f
first_moved A B C X Y Z d e f a b c first = record {
  triple = triple_moved A B C X Y Z d e f (a d).0 (b e).0 (c f).0 first.triple;
  least = λ p q r t. first.least p q r (triple_moved X Y Z A B C p q r (a p).1 (b q).1 (c r).1 t);
}

module _ (xs ys zs : List Bool) (p : History) (cut : AreCutFrom xs ys zs p) where
  one : (n : ℕ) → edge_of p.blue n ↔ IsEdge xs n
  one n = edge_cut xs p.blue n cut.blue

  two : (n : ℕ) → edge_of p.green n ↔ IsEdge ys n
  two n = edge_cut ys p.green n cut.green

  three : (n : ℕ) → edge_of p.red n ↔ IsEdge zs n
  three n = edge_cut zs p.red n cut.red

  back : {A B : Type 0} → A ↔ B → B ↔ A
  back h = (h.1, h.0)

  pub past_triples : (d e f : ℕ) → IsPastTriple p d e f ↔ IsTriple xs ys zs d e f
  past_triples d e f = (
    triple_moved _ _ _ (IsEdge xs) (IsEdge ys) (IsEdge zs) d e f (one d).0 (two e).0 (three f).0,
    triple_moved (IsEdge xs) (IsEdge ys) (IsEdge zs) _ _ _ d e f (one d).1 (two e).1 (three f).1,
  )

  pub past_alignments : (edges : List ℕ) → IsPastAlignment p edges ↔ IsAlignment xs ys zs edges
  past_alignments edges = (
    first_moved (edge_of p.blue) (edge_of p.green) (edge_of p.red) (IsEdge xs) (IsEdge ys) (IsEdge zs) _ _ _ one two three,
    first_moved (IsEdge xs) (IsEdge ys) (IsEdge zs) (edge_of p.blue) (edge_of p.green) (edge_of p.red) _ _ _ (λ n. back (one n)) (λ n. back (two n)) (λ n. back (three n)),
  )

pub from_cut : (xs : List Bool) (lane : Pushed) (e : ℕ) (o : Option ℕ) → MatchOption o ((p : ℕ) → IsRun xs p → ⊥) (λ p. IsLock xs p × (lane.lock ≡ p)) → lane.words ≡ lane_words o xs
    → IsEdge xs e → from_edge lane e ≡ words_from xs (e - 120)
unfolding lane_words
from_cut xs lane e None none words edge = absurd (none edge.lock edge.is_lock.run)
from_cut xs lane e (Some p) locked words edge =
    ap (λ n. drop ((e - 120 - n) / 10) lane.words) locked.1 ∙ ap (drop ((e - 120 - p) / 10)) words ∙ edge_words xs p e locked.0 edge

pub past_columns_are : (xs ys zs : List Bool) (p : History) (edges : List ℕ) → AreCutFrom xs ys zs p → IsAlignment xs ys zs edges
    → past_columns p edges ≡ aligned_columns xs ys zs (slice_index edges 0) (slice_index edges 1) (slice_index edges 2)
unfolding aligned_columns
past_columns_are xs ys zs p edges cut first =
    let a = from_cut xs p.blue (slice_index edges 0) cut.blue.found cut.blue.lock cut.blue.words first.triple.blue in
    let b = from_cut ys p.green (slice_index edges 1) cut.green.found cut.green.lock cut.green.words first.triple.green in
    let c = from_cut zs p.red (slice_index edges 2) cut.red.found cut.red.lock cut.red.words first.triple.red in
    λ i. columns_of (a i) (b i) (c i)

-- evenly fed lanes
even_by : (n : ℕ) (xs us : List Bool) (before lane : Pushed) (o u : Option ℕ) → HasGrown xs us → WasFed n xs us
    → MatchOption o ((p : ℕ) → IsRun xs p → ⊥) (λ p. IsLock xs p × (before.lock ≡ p)) → before.words ≡ lane_words o xs
    → MatchOption u ((p : ℕ) → IsRun us p → ⊥) (λ p. IsLock us p × (lane.lock ≡ p)) → lane.words ≡ lane_words u us
    → lane.settled ≡ length before.words → IsEven n lane
unfolding lane_words
even_by n xs us before lane None None grown fed none was none_now now settled =
    let a : length before.words ≡ 0 = ap length was in
    let b : length lane.words ≡ 0 = ap length now in
    record { after = λ some. absurd (omega arith); whole = λ more. absurd (omega arith) }
even_by n xs us before lane None (Some p) grown fed none was locked now settled =
    let a : length before.words ≡ 0 = ap length was in
    let at = locked.1 in
    record {
      after = λ some. absurd (omega arith);
      whole = λ more. elim (cases_lt n (p + 120)) [
        | inl far ↦ omega arith
        | inr near ↦ elim fed [
          | inl all ↦ absurd (none p (run_was xs us grown.0 grown.1 p (omega arith) locked.0.run))
          | inr ended ↦ absurd (none p (subst (λ (vs : List Bool). IsRun vs p) ended.0 locked.0.run))
        ]
      ];
    }
even_by n xs us before lane (Some p) None grown fed locked was none now settled = absurd (none p (lock_kept xs us p grown locked.0).run)
even_by n xs us before lane (Some p) (Some q) grown fed locked was later now settled =
    let same : p ≡ q = one_lock us p q (lock_kept xs us p grown locked.0) later.0 in
    let at = later.1 in
    let within = run_within xs p locked.0.run in
    let a : length before.words ≡ (length xs - p) / 10 = ap length was ∙ length-words_from xs p in
    let b : length lane.words ≡ (length us - q) / 10 = ap length now ∙ length-words_from us q in
    let few : length xs ≤ n = elim fed [ inl all ↦ omega arith | inr ended ↦ ended.1 ] in
    record {
      after = λ some. omega arith;
      whole = λ more. elim fed [
        | inl all ↦ omega arith
        | inr ended ↦ let len : length us ≡ length xs = ap length ended.0 in absurd (omega arith)
      ];
    }

pub evenly_fed : (n : ℕ) (xs us : List Bool) (before lane : Pushed) → HasGrown xs us → WasFed n xs us → IsCutFrom xs before → IsCutFrom us lane
    → lane.settled ≡ length before.words → IsEven n lane
evenly_fed n xs us before lane grown fed was now settled = even_by n xs us before lane was.found now.found grown fed was.lock was.words now.lock now.words settled

-- bits that arrived later change no edge before them, and add none near one
pub bits_extend : (xs us : List Bool) → HasGrown xs us → Extends (IsEdge xs) (IsEdge us)
bits_extend xs us grown = record {
  stays = λ e edge. edge_kept xs us e grown edge;
  apart = λ d e old new near.
      let within = edge_within xs d old in
      elim (cases_lt d e) [
        | inl later ↦ let far = edges_apart us d e (edge_kept xs us d grown old) new later in absurd (omega arith)
        | inr sooner ↦ edge_before xs us e grown (omega arith) new
      ];
}

-- a first full alignment stays the first one when the lanes grow, however unevenly
pub first_stays : (xs ys zs us vs ws : List Bool) (d e f : ℕ) → HasGrown xs us → HasGrown ys vs → HasGrown zs ws → IsFirst xs ys zs d e f → IsFirst us vs ws d e f
first_stays xs ys zs us vs ws d e f a b c first =
    first_extends (IsEdge xs) (IsEdge ys) (IsEdge zs) (IsEdge us) (IsEdge vs) (IsEdge ws) d e f (bits_extend xs us a) (bits_extend ys vs b) (bits_extend zs ws c) first
