-- Control columns that are handed on one after another.
use Rattle.std.proofs.Common.{◌≡◌, ℕ, ◌+◌, ◌^◌, ◌<◌, List, [], ◌∷◌, ◌++◌, length, map, replicate, refl, ap, sym, ◌∙◌, subst, arith, zero, suc}
use Rattle.std.proofs.lemmas.List.{append_assoc, append-nil, map-append, length-append, length-replicate}
use Rattle.source_end.specs.declared.gathering.Gathering.{Gathering}
use Rattle.source_end.specs.Gathering.{size, Has}
use Rattle.source_end.specs.Raster.{Part, column}
use Rattle.source_end.proofs.Gathered.{size_append}
use Rattle.relay.specs.Handed.{Took}

same_columns : (n v : ℕ) → replicate n (column v) ≡ map column (replicate n v)
same_columns zero v = refl
same_columns (suc n) v = ap (λ ps. column v ∷ ps) (same_columns n v)

pub size_columns : (vs : List ℕ) → size (map column vs) ≡ length vs
unfolding size
size_columns [] = refl
size_columns (v ∷ vs) = let e = size_columns vs in omega arith

-- columns of one value
pub took_run : (x y : Gathering) (v n : ℕ) → ((parts : List Part) → Has x parts → size parts + n < 2 ^ 32 → Has y (parts ++ replicate n (column v))) → Took x y (replicate n v)
took_run x y v n f parts h few =
    let e = length-replicate n v in
    subst (λ ps. Has y (parts ++ ps)) (same_columns n v) (f parts h (omega arith))

pub took_none : (x : Gathering) → Took x x []
took_none x parts h few = subst (Has x) (sym (append-nil parts)) h

pub took_both : (x y z : Gathering) (vs ws : List ℕ) → Took x y vs → Took y z ws → Took x z (vs ++ ws)
took_both x y z vs ws f g parts h few =
    let n = length-append vs ws in
    let s = size_append parts (map column vs) in
    let m = size_columns vs in
    subst (Has z) (append_assoc parts (map column vs) (map column ws) ∙ ap (λ ps. parts ++ ps) (sym (map-append column vs ws)))
    (g (parts ++ map column vs) (f parts h (omega arith)) (omega arith))
