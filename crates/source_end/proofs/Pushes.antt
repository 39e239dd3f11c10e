-- A period that has no fault after others goes on with them, with guard bands and without.
use Rattle.std.proofs.Common.{◌≡◌, ◌+◌, Bool, true, false, not, ◌&&◌, List, [], ◌∷◌, ◌++◌, refl, sym, ◌∙◌}
use Rattle.std.specs.Prelude.{nat_le, Option, Some, None}
use Rattle.island_pack.specs.Periods.{ControlRun, DataIsland, Period, control, video, island, values_of, has_preamble, VIDEO_PREAMBLE, ISLAND_PREAMBLE, period_columns, columns_of}
use Rattle.island_pack.specs.Conforming.{is_control_period, is_video_period, is_data_island, conforms}
use Rattle.island_pack.specs.declared.ranges.TheConstants.{COLUMN_LIMIT}
use Rattle.source_end.specs.DviPeriods.{dvi_columns, dvi_columns_of, dvi_conforms, is_island}
use Rattle.source_end.specs.Kept.{has_pixels, conforms_so_far, dvi_conforms_so_far}
use Rattle.source_end.specs.Refusals.{last_period, is_in_range, is_in_order, has_control, is_announced, push_fault, dvi_push_fault, close_fault}
use Rattle.source_end.proofs.Alternating.{Alternates, GoesOn, grown, ended}
use Rattle.source_end.proofs.Turns.{both, control_in_range, video_in_range}
use Rattle.source_end.proofs.Faults.{none_holds, push_fault_is, dvi_push_fault_is, ends_long}

-- With guard bands.

abbrev link_fits : List ControlRun → Period → Bool
link_fits runs (control more) = false
link_fits runs (video bytes) = has_preamble VIDEO_PREAMBLE (values_of runs) && is_video_period bytes
link_fits runs (island x) = has_preamble ISLAND_PREAMBLE (values_of runs) && is_data_island x

no_test : (a : Bool) → false ≡ (a && false)
no_test true = refl
no_test false = refl

parted : (a b c d : Bool) → (a && (b && (c && d))) ≡ (a && ((b && c) && d))
parted false b c d = refl
parted true false c d = refl
parted true true c d = refl

link_next : (runs : List ControlRun) (p : Period) (ps : List Period) → conforms_so_far (control runs ∷ (p ∷ ps)) ≡ (is_control_period runs && (link_fits runs p && conforms_so_far ps))
unfolding conforms_so_far
link_next runs (control more) ps = no_test (is_control_period runs)
link_next runs (video bytes) ps = parted (is_control_period runs) (has_preamble VIDEO_PREAMBLE (values_of runs)) (is_video_period bytes) (conforms_so_far ps)
link_next runs (island x) ps = parted (is_control_period runs) (has_preamble ISLAND_PREAMBLE (values_of runs)) (is_data_island x) (conforms_so_far ps)

link_then : (runs : List ControlRun) (p : Period) (ps : List Period) → conforms (control runs ∷ (p ∷ ps)) ≡ (is_control_period runs && (link_fits runs p && conforms ps))
unfolding conforms
link_then runs (control more) ps = no_test (is_control_period runs)
link_then runs (video bytes) ps = parted (is_control_period runs) (has_preamble VIDEO_PREAMBLE (values_of runs)) (is_video_period bytes) (conforms ps)
link_then runs (island x) ps = parted (is_control_period runs) (has_preamble ISLAND_PREAMBLE (values_of runs)) (is_data_island x) (conforms ps)

pub nothing_yet : conforms_so_far [] ≡ true
unfolding conforms_so_far
nothing_yet = refl

link_alternates : Alternates link_fits conforms_so_far conforms
unfolding conforms_so_far conforms
link_alternates = record {
  no_control = λ runs more. refl;
  nothing = refl;
  first = λ runs. refl;
  next = link_next;
  no_video = λ bytes ps. refl;
  no_island = λ x ps. refl;
  last = λ runs. refl;
  then = link_then;
}

island_in_range : (x : DataIsland) → is_in_range (island x) ≡ true → is_data_island x ≡ true
unfolding is_in_range
island_in_range x h = h

link_goes : (before : Option Period) (p : Period) → is_in_range p ≡ true → is_in_order before p ≡ true → has_control before p ≡ true → is_announced before p ≡ true → has_pixels p ≡ true → GoesOn link_fits before p
link_goes None (control runs) range order long announced whole = control_in_range runs range
link_goes None (video bytes) range order long announced whole = absurd cc
link_goes None (island x) range order long announced whole = absurd cc
link_goes (Some (control before)) (control runs) range order long announced whole = absurd cc
link_goes (Some (control before)) (video bytes) range order long announced whole = (long, both _ _ announced (video_in_range bytes range whole))
link_goes (Some (control before)) (island x) range order long announced whole = (long, both _ _ announced (island_in_range x range))
link_goes (Some (video before)) (control runs) range order long announced whole = control_in_range runs range
link_goes (Some (video before)) (video bytes) range order long announced whole = absurd cc
link_goes (Some (video before)) (island x) range order long announced whole = absurd cc
link_goes (Some (island before)) (control runs) range order long announced whole = control_in_range runs range
link_goes (Some (island before)) (video bytes) range order long announced whole = absurd cc
link_goes (Some (island before)) (island x) range order long announced whole = absurd cc

pub pushed : (ps : List Period) (p : Period) → conforms_so_far ps ≡ true → true ≡ true → has_pixels p ≡ true → push_fault ps p ≡ None → conforms_so_far (ps ++ p ∷ []) ≡ true
pushed ps p h carried whole none =
    let all = none_holds (is_in_range p) (is_in_order (last_period ps) p) (has_control (last_period ps) p) (is_announced (last_period ps) p) (nat_le (columns_of ps + period_columns p) COLUMN_LIMIT)
    (sym (push_fault_is ps p) ∙ none) in
    grown link_alternates ps p h (link_goes (last_period ps) p all.range all.order all.control all.preamble whole)

pub closed : (ps : List Period) → conforms_so_far ps ≡ true → close_fault ps ≡ None → conforms ps ≡ true
closed ps h none = ended link_alternates ps h (ends_long ps none)

-- Without them.

abbrev dvi_fits : List ControlRun → Period → Bool
dvi_fits runs (control more) = false
dvi_fits runs (video bytes) = is_video_period bytes
dvi_fits runs (island x) = false

dvi_next : (runs : List ControlRun) (p : Period) (ps : List Period) → dvi_conforms_so_far (control runs ∷ (p ∷ ps)) ≡ (is_control_period runs && (dvi_fits runs p && dvi_conforms_so_far ps))
unfolding dvi_conforms_so_far
dvi_next runs (control more) ps = no_test (is_control_period runs)
dvi_next runs (video bytes) ps = refl
dvi_next runs (island x) ps = no_test (is_control_period runs)

dvi_then : (runs : List ControlRun) (p : Period) (ps : List Period) → dvi_conforms (control runs ∷ (p ∷ ps)) ≡ (is_control_period runs && (dvi_fits runs p && dvi_conforms ps))
unfolding dvi_conforms
dvi_then runs (control more) ps = no_test (is_control_period runs)
dvi_then runs (video bytes) ps = refl
dvi_then runs (island x) ps = no_test (is_control_period runs)

pub dvi_nothing_yet : dvi_conforms_so_far [] ≡ true
unfolding dvi_conforms_so_far
dvi_nothing_yet = refl

dvi_alternates : Alternates dvi_fits dvi_conforms_so_far dvi_conforms
unfolding dvi_conforms_so_far dvi_conforms
dvi_alternates = record {
  no_control = λ runs more. refl;
  nothing = refl;
  first = λ runs. refl;
  next = dvi_next;
  no_video = λ bytes ps. refl;
  no_island = λ x ps. refl;
  last = λ runs. refl;
  then = dvi_then;
}

dvi_goes : (before : Option Period) (p : Period) → is_in_range p ≡ true → is_in_order before p ≡ true → has_control before p ≡ true → not (is_island p) ≡ true → has_pixels p ≡ true → GoesOn dvi_fits before p
dvi_goes before (island x) range order long carried whole = absurd cc
dvi_goes None (control runs) range order long carried whole = control_in_range runs range
dvi_goes None (video bytes) range order long carried whole = absurd cc
dvi_goes (Some (control before)) (control runs) range order long carried whole = absurd cc
dvi_goes (Some (control before)) (video bytes) range order long carried whole = (long, video_in_range bytes range whole)
dvi_goes (Some (video before)) (control runs) range order long carried whole = control_in_range runs range
dvi_goes (Some (video before)) (video bytes) range order long carried whole = absurd cc
dvi_goes (Some (island before)) (control runs) range order long carried whole = control_in_range runs range
dvi_goes (Some (island before)) (video bytes) range order long carried whole = absurd cc

pub dvi_pushed : (ps : List Period) (p : Period) → dvi_conforms_so_far ps ≡ true → not (is_island p) ≡ true → has_pixels p ≡ true → dvi_push_fault ps p ≡ None → dvi_conforms_so_far (ps ++ p ∷ []) ≡ true
dvi_pushed ps p h carried whole none =
    let all = none_holds (is_in_range p) (is_in_order (last_period ps) p) (has_control (last_period ps) p) true (nat_le (dvi_columns_of ps + dvi_columns p) COLUMN_LIMIT)
    (sym (dvi_push_fault_is ps p) ∙ none) in
    grown dvi_alternates ps p h (dvi_goes (last_period ps) p all.range all.order all.control carried whole)

pub dvi_closed : (ps : List Period) → dvi_conforms_so_far ps ≡ true → close_fault ps ≡ None → dvi_conforms ps ≡ true
dvi_closed ps h none = ended dvi_alternates ps h (ends_long ps none)
