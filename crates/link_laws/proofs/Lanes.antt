-- The lanes of columns of conforming periods received with sparse damage: each is one in which an edge is the end of a
-- control period.
use Rattle.std.proofs.Common.{◌≡◌, ℕ, suc, zero, ◌+◌, ◌<◌, ◌≤◌, false, not, ◌==◌, List, [], ◌∷◌, map, length, take, drop, get_or, refl, ap, sym, ◌∙◌, subst, arith}
use Rattle.std.proofs.lemmas.Bool.{eq-eqb}
use Rattle.std.proofs.lemmas.List.{length-map, get_or-map}
use Rattle.tmds_word.specs.Column.{Column, blues, greens, reds}
use Rattle.terc4.specs.Columns.{one_if}
use Rattle.lane_align.specs.Laws.{marked}
use Rattle.island_pack.specs.Kinds.{Kind, IsPayload, kinds_of, kind_at}
use Rattle.link_laws.specs.LaneEnds.{IsReceived, IsLaneSent, IsSparseLane, damaged}
use Rattle.link_laws.proofs.LaneEnds.{sparse_received}
use Rattle.island_pack.specs.Periods.{Period}
use Rattle.island_pack.specs.Sparse.{unlike_words, AreFew, no_column, column_at, IsSparseInPayload}
use Rattle.link_laws.specs.Laws.{ReceivedFreely}
use Rattle.link_laws.proofs.Spelled.{FitsWord, FitsColumn, Fitting, no_columns, column, fitting_freely}

-- Sent words.

pub fitting_length : (ks : List Kind) (cs : List Column) → Fitting ks cs → length ks ≡ length cs
fitting_length _ _ no_columns = refl
fitting_length _ _ (column k c ks cs h hs) = ap suc (fitting_length ks cs hs)

pub fitting_at : (ks : List Kind) (cs : List Column) → Fitting ks cs → (i : ℕ) → i < length cs → FitsColumn (kind_at ks i) (column_at cs i)
fitting_at _ _ no_columns i lt = absurd (omega arith)
fitting_at _ _ (column k c ks cs h hs) zero lt = h
fitting_at _ _ (column k c ks cs h hs) (suc i) lt = fitting_at ks cs hs i (omega arith)

-- one lane of columns, by its word of a column
pub lane_sent : (f : Column → ℕ) (ks : List Kind) (cs : List Column) → length ks ≡ length cs
    → ((i : ℕ) → i < length cs → FitsWord (kind_at ks i) (f (column_at cs i))) → IsLaneSent ks (map f cs)
lane_sent f ks cs long fit = grind (arith, length-map, get_or-map)

-- Received words.

pub not_damaged : (xs ys : List ℕ) (i : ℕ) → length ys ≡ length xs → get_or ys i 0 ≡ get_or xs i 0 → get_or (damaged xs ys) i false ≡ false
unfolding damaged
not_damaged [] ys i l e = refl
not_damaged (x ∷ xs) [] i l e = absurd (omega arith)
not_damaged (x ∷ xs) (y ∷ ys) zero l e = ap not (eq-eqb x y (sym e))
not_damaged (x ∷ xs) (y ∷ ys) (suc i) l e = not_damaged xs ys i (omega arith) e

marked_unlike : (n : ℕ) (xs ys : List ℕ) → marked (take n (damaged xs ys)) ≡ unlike_words (take n xs) (take n ys)
unfolding damaged marked unlike_words
marked_unlike zero xs ys = refl
marked_unlike (suc n) [] ys = refl
marked_unlike (suc n) (x ∷ xs) [] = refl
marked_unlike (suc n) (x ∷ xs) (y ∷ ys) = ap (λ m. one_if (not (x == y)) + m) (marked_unlike n xs ys)

drop_damaged : (i : ℕ) (xs ys : List ℕ) → drop i (damaged xs ys) ≡ damaged (drop i xs) (drop i ys)
unfolding damaged
drop_damaged zero xs ys = refl
drop_damaged (suc i) [] ys = refl
drop_damaged (suc i) (x ∷ xs) [] = by (drop i xs)
  where
    by : (zs : List ℕ) → [] ≡ damaged zs []
    by [] = refl
    by (z ∷ zs) = refl
drop_damaged (suc i) (x ∷ xs) (y ∷ ys) = drop_damaged i xs ys

pub few_marked : (xs ys : List ℕ) → AreFew xs ys → (i : ℕ) → i + 11 ≤ length xs → marked (take 11 (drop i (damaged xs ys))) ≤ 2
few_marked xs ys few i within =
    let e = ap (λ ms. marked (take 11 ms)) (drop_damaged i xs ys) ∙ marked_unlike 11 (drop i xs) (drop i ys) in
    let f = few i within in
    omega arith

lane_sparse : (f : Column → ℕ) (ks : List Kind) (ss rs : List Column) → length rs ≡ length ss → ((i : ℕ) → i < length rs → f (column_at rs i) < 1024)
    → ((i : ℕ) → i < length ss → (IsPayload (kind_at ks i) → ⊥) → column_at rs i ≡ column_at ss i)
    → AreFew (map f ss) (map f rs) → IsSparseLane ks (map f ss) (map f rs)
lane_sparse f ks ss rs long narrow same few =
    let a = length-map ss f in
    let b = length-map rs f in
    record {
      same_length = omega arith;
      below = λ i lt. subst (λ w. w < 1024) (sym (get_or-map f rs i no_column 0 (omega arith))) (narrow i (omega arith));
      only_payload = λ i lt n. not_damaged (map f ss) (map f rs) i (omega arith)
          (get_or-map f rs i no_column 0 (omega arith) ∙ ap f (same i (omega arith) n) ∙ sym (get_or-map f ss i no_column 0 (omega arith)));
      few = few_marked (map f ss) (map f rs) few;
    }

-- the three lanes
pub record AreReceived (ps : List Period) (sent received : List Column) : Type 0 where
  pub blue : IsReceived (kinds_of ps) (blues received) (damaged (blues sent) (blues received))
  pub green : IsReceived (kinds_of ps) (greens received) (damaged (greens sent) (greens received))
  pub red : IsReceived (kinds_of ps) (reds received) (damaged (reds sent) (reds received))

pub lanes_received : (ps : List Period) (sent received : List Column) → ReceivedFreely ps sent received → IsSparseInPayload ps sent received → AreReceived ps sent received
lanes_received ps sent received reception alone =
    let ks = kinds_of ps in
    let fit = fitting_freely ps sent reception.conforming reception.spelled in
    let long = fitting_length ks sent fit in
    let at = fitting_at ks sent fit in
    let h = reception.sparse in
    let same : (i : ℕ) → i < length sent → (IsPayload (kind_at ks i) → ⊥) → column_at received i ≡ column_at sent i =
    λ i lt n. alone.spares i i (omega arith) n in
    record {
      blue = sparse_received ks (blues sent) (blues received)
          (lane_sent (λ c. c.blue) ks sent long (λ i lt. (at i lt).blue))
          (lane_sparse (λ c. c.blue) ks sent received h.same_length (λ i lt. (h.characters i lt).blue) same h.few_blue);
      green = sparse_received ks (greens sent) (greens received)
          (lane_sent (λ c. c.green) ks sent long (λ i lt. (at i lt).green))
          (lane_sparse (λ c. c.green) ks sent received h.same_length (λ i lt. (h.characters i lt).green) same h.few_green);
      red = sparse_received ks (reds sent) (reds received)
          (lane_sent (λ c. c.red) ks sent long (λ i lt. (at i lt).red))
          (lane_sparse (λ c. c.red) ks sent received h.same_length (λ i lt. (h.characters i lt).red) same h.few_red);
    }
