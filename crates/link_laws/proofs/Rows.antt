-- The columns of three control words that carry given values.
use Rattle.std.proofs.Common.{◌≡◌, ℕ, Bool, true, ◌&&◌, List, [], ◌∷◌, map, refl, ap₂}
use Rattle.std.specs.Prelude.{nat_lt}
use Rattle.std.specs.List.{list_all}
use Rattle.std.proofs.lemmas.Bool.{ltb-true}
use Rattle.tmds_word.specs.Column.{Column}
use Rattle.terc4.specs.Tables.{control_words, is_in, is_control}
use Rattle.tmds_word.proofs.Below.{and-left, and-right, passes_below, passes_at}
use Rattle.island_pack.specs.Spelling.{control_column}

pub and_both : (a b : Bool) → a ≡ true → b ≡ true → (a && b) ≡ true
and_both a b h g = ap₂ (λ (x y : Bool). x && y) h g

-- the columns of control values
abbrev pub control_columns : List ℕ → List Column
control_columns vs = map control_column vs

-- three control words
abbrev pub clean : Column → Bool
clean c = is_control c.blue && (is_control c.green && is_control c.red)

clean_test : passes_below 64 (λ v. clean (control_column v)) ≡ true
unfolding passes_below control_words is_control is_in
clean_test = refl

abbrev pub Small : List ℕ → Type 0
Small vs = list_all (λ v. nat_lt v 64) vs ≡ true

pub all_clean : (vs : List ℕ) → Small vs → list_all clean (control_columns vs) ≡ true
all_clean [] h = refl
all_clean (v ∷ vs) h = and_both _ _ (passes_at 64 (λ v. clean (control_column v)) v clean_test (ltb-true v 64 (and-left _ _ h))) (all_clean vs (and-right _ _ h))
