-- What is kept of the columns of an island.
use Rattle.std.specs.Prelude.{◌≡◌, ℕ, ◌<◌, true, false, List, [], ◌∷◌, length, map, take, Option, Some, None}
use Rattle.period_grammar.specs.Events.{Event}
use Rattle.tmds_word.specs.Column.{Column}
use Rattle.terc4.specs.Columns.{is_island_guard, closing_words}
use Rattle.period_grammar.specs.Column.{sync_digit}
use Rattle.period_grammar.specs.Island.{Payload, parts, payload, begins_close}
use Rattle.island_pack.specs.Spelling.{column_words}
use Rattle.period_grammar.specs.declared.island.Left.{Left}
use Rattle.period_grammar.specs.declared.island.Left.TheVariants.{Packet, First, Closed, Over}
use Rattle.period_grammar.specs.declared.island.Island.{Island}

abbrev pub IsLeftAfter : Left → ℕ → List (List ℕ) → List Column → Type 0
IsLeftAfter Packet within block t = (begins_close t ≡ false) × (within ≡ length t) × (take within block ≡ map column_words t) × (within ≡ 1 → ⊥)
IsLeftAfter (First words digit guard) within block (c ∷ []) =
    (words ≡ closing_words c) × (digit ≡ sync_digit c.blue) × (guard ≡ is_island_guard c) × (take 1 block ≡ column_words c ∷ [])
IsLeftAfter Closed within block (c ∷ (d ∷ [])) = begins_close (c ∷ (d ∷ [])) ≡ true
IsLeftAfter Over within block (c ∷ (d ∷ (e ∷ r))) = begins_close (c ∷ (d ∷ (e ∷ r))) ≡ true
IsLeftAfter (First words digit guard) within block _ = ⊥
IsLeftAfter Closed within block _ = ⊥
IsLeftAfter Over within block _ = ⊥

abbrev pub IsPartsAfter : Left → ℕ → ℕ → List (List ℕ) → Payload → Type 0
IsPartsAfter left packets within block (parts ps t) = (packets ≡ length ps) × IsLeftAfter left within block t

-- the columns after the opening guard
pub record IsIslandAfter (kept : Island) (rest : List Column) : Type 0 where
  pub stands : IsPartsAfter kept.left kept.packets kept.within kept.block (payload rest)

-- the first column alone
abbrev pub IsOne : Left → ℕ → Type 0
IsOne (First words digit guard) within = within ≡ 1
IsOne _ within = Unit {0}

pub record IsBlocked (kept : Island) : Type 0 where
  pub within : kept.within < 32
  pub first : IsOne kept.left kept.within

abbrev pub at_some : (ℕ → Event) → Option ℕ → List Event
at_some f None = []
at_some f (Some s) = f s ∷ []
