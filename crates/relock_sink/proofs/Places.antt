-- The columns of an alignment are those of the characters at its places.
use Rattle.std.proofs.Common.{◌≡◌, ℕ, ◌+◌, ◌≤◌, Bool, true, false, List, slice_index, Option, Some, ◌∙◌, sym, arith}
use Rattle.std.specs.Prelude.{MatchBool}
use Rattle.tmds_word.specs.Bits.{window}
use Rattle.tmds_word.specs.Column.{Column}
use Rattle.terc4.specs.Columns.{is_control_column}
use Rattle.period_grammar.specs.Heard.{neither, opened}
use Rattle.lane_deskew.specs.Aligned.{column_from, aligned_column, place}
use Rattle.alignment_search.specs.Alignments.{least}
use Rattle.link_sink.specs.Sinks.{Fed}
use Rattle.relock_sink.specs.Bands.{AreSo, AreUnopened, AtEdges, so_kept}
use Rattle.relock_sink.specs.Columns.{column_here, column_after}
use Rattle.relock_sink.specs.Judges.{AreEdges}

pub aligned_is : (fed : Fed) (p q r j x y z : ℕ) → place p j ≡ x → place q j ≡ y → place r j ≡ z
    → aligned_column fed.blue fed.green fed.red p q r j ≡ column_from (window fed.blue x) (window fed.green y) (window fed.red z)
unfolding aligned_column
aligned_is fed p q r j x y z a b c = λ i. column_from (window fed.blue (a i)) (window fed.green (b i)) (window fed.red (c i))

module _ (fed : Fed) (edges : List ℕ) (are : AreEdges fed edges) where
  pub far_edges : 120 ≤ least edges
  far_edges =
      let a = are.blue.past in
      let b = are.green.past in
      let c = are.red.past in
      omega arith

  here_is : aligned_column fed.blue fed.green fed.red (slice_index edges 0) (slice_index edges 1) (slice_index edges 2) 12 ≡ column_here fed edges
  here_is =
      let far = far_edges in
      aligned_is fed (slice_index edges 0) (slice_index edges 1) (slice_index edges 2) 12 (slice_index edges 0) (slice_index edges 1) (slice_index edges 2) (omega arith) (omega arith) (omega arith)

  next_is : aligned_column fed.blue fed.green fed.red (slice_index edges 0) (slice_index edges 1) (slice_index edges 2) 13 ≡ column_after fed edges
  next_is =
      let far = far_edges in
      aligned_is fed (slice_index edges 0) (slice_index edges 1) (slice_index edges 2) 13 (slice_index edges 0 + 10) (slice_index edges 1 + 10) (slice_index edges 2 + 10) (omega arith) (omega arith) (omega arith)

  module _ (test : Column → Column → Bool) (answer : Bool) where
    -- what is so of the columns at edges
    pub so_at_edges : AreSo (column_here fed edges) (column_after fed edges) test answer → AtEdges test answer fed (slice_index edges 0) (slice_index edges 1) (slice_index edges 2)
    so_at_edges is = so_kept _ _ _ _ test answer (λ c at. here_is ∙ at) (λ c at. next_is ∙ at) is

    pub so_here : AtEdges test answer fed (slice_index edges 0) (slice_index edges 1) (slice_index edges 2) → AreSo (column_here fed edges) (column_after fed edges) test answer
    so_here is = so_kept _ _ _ _ test answer (λ c at. sym here_is ∙ at) (λ c at. sym next_is ∙ at) is

-- where a control period ends with the first of three columns, they are unopened where the other two open nothing
pub unopened_by : (answer : Bool) (a b c : Option Column) (last first second : Column) → a ≡ Some last → b ≡ Some first → c ≡ Some second
    → is_control_column last ≡ true → is_control_column first ≡ false → MatchBool answer (opened first second ≡ neither) (opened first second ≡ neither → ⊥)
    → MatchBool answer (AreUnopened a b c) (AreUnopened a b c → ⊥)
unopened_by true a b c last first second x y z control ends nothing =
    record { ending = record { last = last; first = first; second = second; is_last = x; is_first = y; is_second = z; control = control; ends = ends }; nothing = nothing }
unopened_by false a b c last first second x y z control ends opens =
    λ u. let e = u.ending in let g = e.is_first in let h = e.is_second in let n = u.nothing in opens cc
