-- Lanes after hits, where the hits of other lanes are passed over.
use Rattle.std.proofs.Common.{◌≡◌, ℕ, suc, zero, ◌+◌, ◌≤◌, Bool, true, false, List, [], ◌∷◌, length, take, refl, ap, ◌∙◌, arith, ◌==◌, add-one}
use Rattle.std.specs.Prelude.{slice_get, Some}
use Rattle.std.proofs.lemmas.Bool.{eqb-true}
use Rattle.capture_file.specs.Damage.{with_word, hit_by, damaged}
use Rattle.capture_file.specs.BlockDamage.{LaneFits}
use Rattle.capture_file.specs.declared.damaging.Hit.{Hit}
use Rattle.capture_file.proofs.Hits.{length-with_word}

long_by : (b : Bool) (lane : ℕ) (h : Hit) (row : List Bool) → (h.lane == lane) ≡ b → (h.lane ≡ lane → h.place + 10 ≤ length row) → length (hit_by b h row) ≡ length row
long_by b lane h row k l = grind (arith, length-with_word, eqb-true)

pub damaged_long : (lane i : ℕ) (hits : List Hit) (row : List Bool) → LaneFits lane (length row) hits → length (damaged lane (take i hits) row) ≡ length row
unfolding damaged
damaged_long lane zero hits row fit = refl
damaged_long lane (suc i) [] row fit = refl
damaged_long lane (suc i) (h ∷ hits) row fit =
    let one : length (hit_by (h.lane == lane) h row) ≡ length row = long_by (h.lane == lane) lane h row refl (fit 0 h refl) in
    damaged_long lane i hits (hit_by (h.lane == lane) h row) (λ k hit at own. omega (arith, one, fit (suc k) hit at own)) ∙ one

more_damaged : (lane i : ℕ) (hits : List Hit) (h : Hit) (row : List Bool) → slice_get hits i ≡ Some h → damaged lane (take (suc i) hits) row ≡ hit_by (h.lane == lane) h (damaged lane (take i hits) row)
unfolding damaged
more_damaged lane i [] h row at = cc
more_damaged lane zero (x ∷ hits) h row at = let e : x ≡ h = cc in ap (λ y. hit_by (y.lane == lane) y row) e
more_damaged lane (suc i) (x ∷ hits) h row at = more_damaged lane i hits h (hit_by (x.lane == lane) x row) at

pub damaged_more : (lane i : ℕ) (hits : List Hit) (h : Hit) (row : List Bool) → slice_get hits i ≡ Some h → damaged lane (take (i + 1) hits) row ≡ hit_by (h.lane == lane) h (damaged lane (take i hits) row)
damaged_more lane i hits h row at = ap (λ k. damaged lane (take k hits) row) (add-one i) ∙ more_damaged lane i hits h row at

pub hit_own : (b : Bool) (h : Hit) (row : List Bool) → b ≡ true → hit_by b h row ≡ with_word h.place h.value row
hit_own b h row k = grind arith

pub hit_other : (b : Bool) (h : Hit) (row : List Bool) → b ≡ false → hit_by b h row ≡ row
hit_other b h row k = grind arith

pub damaged_none : (lane : ℕ) (row : List Bool) → damaged lane [] row ≡ row
unfolding damaged
damaged_none lane row = refl
