-- Clean columns that end in a control period of twelve columns or more are spelled whole.
use Rattle.std.proofs.Common.{◌≡◌, ℕ, ◌+◌, ◌≤◌, true, List, [], ◌∷◌, ◌++◌, length, map, refl, ap, sym, ◌∙◌, subst, arith}
use Rattle.std.specs.List.{list_all}
use Rattle.std.proofs.lemmas.Bool.{leb-true}
use Rattle.std.proofs.lemmas.List.{append-nil, length-map}
use Rattle.tmds_word.specs.Column.{Column}
use Rattle.island_pack.specs.Periods.{Period}
use Rattle.island_pack.specs.Periods as sends
use Rattle.island_pack.specs.Conforming.{conforms}
use Rattle.island_pack.specs.Spelling.{control_column, freely, SpellsPeriodBy}
use Rattle.period_grammar.specs.Column.{value_of}
use Rattle.period_grammar.specs.Cut.{Stretch as Cut, stretch, stretches}
use Rattle.period_grammar.specs.Heard.{at_close, heard, heard_so_far}
use Rattle.period_grammar.specs.Events.{Event}
use Rattle.period_grammar.proofs.Joined.{IsCut, joined, joined_stretches, cut_stretches}
use Rattle.link_laws.specs.Whole.{IsSpelledWhole, ends_long, CleanIsWhole}
use Rattle.link_laws.proofs.Cutting.{control_reported, hear, gap_events, hear_on}
use Rattle.link_laws.proofs.Rows.{clean}
use Rattle.link_laws.proofs.exact.Faultless.{Fine, fine_left, fine_right}
use Rattle.link_laws.proofs.exact.Controls.{control_clean, columns_are, values_small, ones, values_of_ones, ones_period}
use Rattle.link_laws.proofs.exact.Building.{inner, conforms_more, gap_whole}

alone_whole : (control : List Column) → list_all clean control ≡ true → 12 ≤ length control → IsSpelledWhole control
unfolding conforms
alone_whole control c long =
    let vs = map value_of control in
    let n = length-map control value_of in
    record {
      runs = ones vs;
      periods = [];
      conforming = ones_period vs (values_small control c) (omega arith);
      spells = (control, [], sym (append-nil control), columns_are control c ∙ ap (map control_column) (sym (values_of_ones vs)), refl);
    }

more_whole : (control own later : List Column) (x : Period) → list_all clean control ≡ true → 12 ≤ length control → inner (map value_of control) x ≡ true → SpellsPeriodBy freely x own → IsSpelledWhole later
    → IsSpelledWhole (control ++ (own ++ later))
more_whole control own later x c long i spells w =
    let vs = map value_of control in
    let runs = ones vs in
    let n = length-map control value_of in
    record {
      runs = runs;
      periods = x ∷ (sends.control w.runs ∷ w.periods);
      conforming = conforms_more runs x (sends.control w.runs ∷ w.periods) (ones_period vs (values_small control c) (omega arith)) (subst (λ us. inner us x ≡ true) (sym (values_of_ones vs)) i) w.conforming;
      spells = (control, own ++ later, refl, columns_are control c ∙ ap (map control_column) (sym (values_of_ones vs)), (own, later, refl, spells, w.spells));
    }

build_whole : (j : ℕ) (xs : List Cut) → IsCut xs → Fine (hear j xs) → ends_long xs ≡ true → IsSpelledWhole (joined xs)
build_whole j [] were h e = absurd cc
build_whole j (stretch control [] ∷ []) were h e =
    subst IsSpelledWhole (sym (append-nil control)) (alone_whole control (control_clean j control h) (leb-true 12 (length control) e))
build_whole j (stretch control (g ∷ gap) ∷ []) were h e = absurd cc
build_whole j (stretch [] [] ∷ (y ∷ ys)) were h e = absurd were.1
build_whole j (stretch (k ∷ control) [] ∷ (y ∷ ys)) were h e = absurd were.1
build_whole j (stretch control (g ∷ gap) ∷ (y ∷ ys)) were h e =
    let b = j + length control in
    let m = j + (length control + length (g ∷ gap)) in
    let f = subst (λ (ts : List Event). Fine ts) (hear_on j control g gap y ys) h in
    let reported = control_reported j control in
    let events = gap_events b control (g ∷ gap) in
    let close = at_close b (g ∷ gap) in
    let later = hear m (y ∷ ys) in
    let f1 = fine_right reported (events ++ (close ++ later)) f in
    let f2 = fine_right events (close ++ later) f1 in
    let w = gap_whole b control g gap (fine_left events (close ++ later) f1) (fine_left close later f2) in
    more_whole control (g ∷ gap) (joined (y ∷ ys)) w.of.x (control_clean j control (fine_left reported (events ++ (close ++ later)) f)) w.long w.of.fits w.of.spelled
    (build_whole m (y ∷ ys) were.2 (fine_right close later f2) e)

pub clean_is_whole : CleanIsWhole
unfolding heard heard_so_far
clean_is_whole cs h e = subst IsSpelledWhole (joined_stretches cs) (build_whole 0 (stretches cs) (cut_stretches cs) h e)
