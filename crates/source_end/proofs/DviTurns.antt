-- How many columns periods without guard bands take.
use Rattle.std.proofs.Common.{◌≡◌, ◌+◌, List, [], ◌∷◌, ◌++◌, refl, ap, ◌∙◌, arith}
use Rattle.island_pack.specs.Periods.{Period}
use Rattle.source_end.specs.DviPeriods.{dvi_columns, dvi_columns_of}

pub dvi_no_columns : dvi_columns_of [] ≡ 0
unfolding dvi_columns_of
dvi_no_columns = refl

pub dvi_more_columns : (p : Period) (ps : List Period) → dvi_columns_of (p ∷ ps) ≡ dvi_columns p + dvi_columns_of ps
unfolding dvi_columns_of
dvi_more_columns p ps = refl

pub dvi_columns_of-more : (periods : List Period) (p : Period) → dvi_columns_of (periods ++ p ∷ []) ≡ dvi_columns_of periods + dvi_columns p
unfolding dvi_columns_of
dvi_columns_of-more [] p = omega arith
dvi_columns_of-more (q ∷ ps) p = ap (λ n. dvi_columns q + n) (dvi_columns_of-more ps p) ∙ omega arith
