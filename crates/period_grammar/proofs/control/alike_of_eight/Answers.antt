use Rattle.std.proofs.Common.{◌∙◌, List, map, ap, arith}
use Rattle.std.specs.Simd.Lanes.{mask_l}
use Rattle.std.proofs.lemmas.List.Sums.{prefix_len-le-length}
use Rattle.tmds_word.specs.Column.{Column, column_of}
use Rattle.tmds_word.specs.Lent.{columns_in}
use Rattle.period_grammar.specs.GoesOn.{is_alike, is_unlike}
use Rattle.period_grammar.proofs.Fronts.{columns_are, whole_lane}
use Rattle.period_grammar.proofs.control.alike_of_eight.Goals as goal

pub returns-clause-count : goal.returns-clause-count
returns-clause-count c =
    let cols = columns_in c.args.columns in
    let other = column_of c.args.other.now in
    c.first_unlike.ensures other cols c.requires.eight
    (c.unlike_columns.ensures
    ∙ ap (λ (ds : List Column). mask_l (map (is_unlike other) ds))
    (columns_are cols _ _ _ (whole_lane (λ d. d.blue) _ cols 8 c.blue.ensures.lane c.requires.eight) (whole_lane (λ d. d.green) _ cols 8 c.green.ensures.lane c.requires.eight) (whole_lane (λ d. d.red) _ cols 8 c.red.ensures.lane c.requires.eight)))

pub returns-clause-within : goal.returns-clause-within
returns-clause-within c =
    let cols = columns_in c.args.columns in
    let other = column_of c.args.other.now in
    let count = c.first_unlike.ensures other cols c.requires.eight
    (c.unlike_columns.ensures
    ∙ ap (λ (ds : List Column). mask_l (map (is_unlike other) ds))
    (columns_are cols _ _ _ (whole_lane (λ d. d.blue) _ cols 8 c.blue.ensures.lane c.requires.eight) (whole_lane (λ d. d.green) _ cols 8 c.green.ensures.lane c.requires.eight) (whole_lane (λ d. d.red) _ cols 8 c.red.ensures.lane c.requires.eight))) in
    omega (arith, count, prefix_len-le-length (is_alike other) cols, c.requires.eight)
