-- Periods of turns, as gathered parts.
use Rattle.std.proofs.Common.{arith, ◌≡◌, ℕ, List, [], ◌∷◌, ◌++◌, map, refl, ap, sym, ◌∙◌}
use Rattle.std.proofs.lemmas.List.{append-nil}
use Rattle.island_pack.specs.Periods.{Period, control, video, island}
use Rattle.island_pack.specs.Runs.{longest}
use Rattle.relay.specs.Relayed.{Data, a_line, an_island, Turn, period_of, periods_in}
use Rattle.source_end.specs.Raster.{Part, column, before, gathered}
use Rattle.relay.specs.Parts.{part_of, parts_in, AreSome, PartsGather}

-- periods that do not begin with a control period
abbrev Apart : List Period → Type 0
Apart (control runs ∷ ps) = ⊥
Apart _ = Unit {0}

one_column : (v : ℕ) (ps : List Period) → Apart ps → before v ps ≡ control (longest (v ∷ [])) ∷ ps
unfolding longest
one_column v [] a = refl
one_column v (control runs ∷ ps) a = absurd a
one_column v (video bytes ∷ ps) a = refl
one_column v (island x ∷ ps) a = refl

more_columns : (v w : ℕ) (vs : List ℕ) (ps : List Period) → before v (control (longest (w ∷ vs)) ∷ ps) ≡ control (longest (v ∷ (w ∷ vs))) ∷ ps
unfolding longest
more_columns v w vs ps = refl

columns_gather : (v : ℕ) (vs : List ℕ) (parts : List Part) → Apart (gathered parts) → gathered (map column (v ∷ vs) ++ parts) ≡ control (longest (v ∷ vs)) ∷ gathered parts
unfolding gathered
columns_gather v [] parts a = one_column v (gathered parts) a
columns_gather v (w ∷ vs) parts a = ap (before v) (columns_gather w vs parts a) ∙ more_columns v w vs (gathered parts)

some_gather : (vs : List ℕ) (parts : List Part) → (vs ≡ [] → ⊥) → Apart (gathered parts) → gathered (map column vs ++ parts) ≡ control (longest vs) ∷ gathered parts
some_gather [] parts some a = absurd (some refl)
some_gather (v ∷ vs) parts some a = columns_gather v vs parts a

part_gathers : (d : Data) (parts : List Part) → gathered (part_of d ∷ parts) ≡ period_of d ∷ gathered parts
unfolding gathered
part_gathers (a_line bytes) parts = refl
part_gathers (an_island x) parts = refl

part_apart : (d : Data) (parts : List Part) → Apart (gathered (part_of d ∷ parts))
unfolding gathered
part_apart (a_line bytes) parts = tt
part_apart (an_island x) parts = tt

none_apart : Apart (gathered [])
unfolding gathered
none_apart = tt

none_gather : gathered [] ≡ []
unfolding gathered
none_gather = refl

turns_gather : (xs : List Turn) (last : List ℕ) → AreSome xs → (last ≡ [] → ⊥) → periods_in xs last ≡ gathered (parts_in xs last)
turns_gather [] last h some =
    ap (λ ps. control (longest last) ∷ ps) (sym none_gather) ∙ sym (some_gather last [] some none_apart) ∙ ap gathered (append-nil (map column last))
turns_gather (x ∷ xs) last h some = grind (arith, part_gathers, some_gather, part_apart, turns_gather xs last)

pub parts_gather : PartsGather
parts_gather t h some = turns_gather t.turns t.last h some
