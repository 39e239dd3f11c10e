-- Columns that spell periods, one period after another.
use Rattle.std.proofs.Common.{◌≡◌, ℕ, suc, zero, ◌+◌, ◌≤◌, ◌<◌, Bool, true, List, [], ◌∷◌, ◌++◌, length, take, get_or, map, ap, sym, ◌∙◌, arith}
use Rattle.std.specs.List.{list_all}
use Rattle.std.proofs.Math.ListN.{get_or-map}
use Rattle.std.proofs.lemmas.List.{length-map}
use Rattle.tmds_word.specs.Column.{Column}
use Rattle.island_pack.specs.Periods.{Period, period_columns, columns_of}
use Rattle.island_pack.specs.Spelling.{SpellsPeriod, Spells}
use Rattle.source_end.specs.declared.item.Item.{Item}
use Rattle.source_end.specs.DviPeriods.{dvi_columns_of, DviSpellsPeriod, DviSpells}
use Rattle.source_end.specs.Framings.{link_rules, dvi_rules}
use Rattle.source_end.specs.ItemPeriods.{period_of}
use Rattle.source_end.proofs.Turns.{left, right}
use Rattle.source_end.proofs.FramingLaws.{link_is_framing, dvi_is_framing}
use Rattle.source_end.proofs.Framed.{spelled-append, spelled-length, framed_room}

pub Spells-append : (periods others : List Period) (columns more : List Column) → Spells periods columns → Spells others more → Spells (periods ++ others) (columns ++ more)
Spells-append periods others columns more h k = spelled-append link_rules SpellsPeriod Spells link_is_framing periods others columns more h k

pub Spells-length : (periods : List Period) (columns : List Column) → Spells periods columns → length columns ≡ columns_of periods
Spells-length periods columns h = spelled-length link_rules SpellsPeriod Spells link_is_framing periods columns h

pub DviSpells-length : (periods : List Period) (columns : List Column) → DviSpells periods columns → length columns ≡ dvi_columns_of periods
DviSpells-length periods columns h = spelled-length dvi_rules DviSpellsPeriod DviSpells dvi_is_framing periods columns h

-- the columns of the first periods and of the next one are among all
pub periods_room : (periods : List Period) (i : ℕ) (d : Period) → i < length periods → columns_of (take i periods) + period_columns (get_or periods i d) ≤ columns_of periods
periods_room periods i d lt = framed_room link_rules SpellsPeriod Spells link_is_framing periods i d lt

-- what each of a list passes
pub passed_at : {A : Type 0} (p : A → Bool) (xs : List A) (i : ℕ) (d : A) → list_all p xs ≡ true → i < length xs → p (get_or xs i d) ≡ true
passed_at p [] i d h lt = absurd (omega arith)
passed_at p (x ∷ xs) zero d h lt = left (p x) (list_all p xs) h
passed_at p (x ∷ xs) (suc i) d h lt = let lt' : i < length xs = omega arith in passed_at p xs i d (right (p x) (list_all p xs) h) lt'

pub item_at : (items : List Item) (periods : List Period) (i : ℕ) (x : Item) → map period_of items ≡ periods → i < length items → x ≡ get_or items i x → get_or periods i (period_of x) ≡ period_of x
item_at items periods i x e lt is =
    ap (λ (ps : List Period). get_or ps i (period_of x)) (sym e) ∙ get_or-map period_of items i x ∙ ap period_of (sym is)

pub item_within : (items : List Item) (periods : List Period) (i : ℕ) → map period_of items ≡ periods → i < length items → i < length periods
item_within items periods i e lt = omega (arith, ap length e, length-map items period_of)
