-- Why an item is refused after the periods before it, and why a list of periods cannot end: the first cause decides.
use Rattle.std.specs.Prelude.{◌≡◌, ◌/◌, Bool, true, false, List, [], ◌∷◌, length, Option, Some, None, Result, Ok, Err}
use Rattle.std.specs.List.{list_all}
use Rattle.island_pack.specs.Periods.{Period, control, video, island, values_of, has_preamble, VIDEO_PREAMBLE, ISLAND_PREAMBLE, period_columns, columns_of}
use Rattle.island_pack.specs.Conforming.{is_data_island}
use Rattle.island_pack.specs.Ranges.{is_run_in_range, is_line_in_range, is_control_in_range, has_room}
use Rattle.source_end.specs.DviPeriods.{dvi_columns, dvi_columns_of}
use Rattle.source_end.specs.declared.items.ItemFault.{ItemFault}
use Rattle.source_end.specs.declared.items.ItemFault.TheVariants.{Range, Order, Control, Preamble, Long, NoMemory}

abbrev pub last_period : List Period → Option Period
last_period [] = None
last_period (p ∷ []) = Some p
last_period (p ∷ (q ∷ ps)) = last_period (q ∷ ps)

-- whether the runs, the pixels or the packets are such as a period may have
unfoldable pub is_in_range : Period → Bool
is_in_range (control runs) = list_all (λ r. is_run_in_range r.value r.count) runs
is_in_range (video bytes) = is_line_in_range (length bytes / 3)
is_in_range (island x) = is_data_island x

-- control and other periods take turns, a control period first
abbrev pub is_in_order : Option Period → Period → Bool
is_in_order None (control runs) = true
is_in_order None (video bytes) = false
is_in_order None (island x) = false
is_in_order (Some (control before)) (control runs) = false
is_in_order (Some (control before)) (video bytes) = true
is_in_order (Some (control before)) (island x) = true
is_in_order (Some (video before)) (control runs) = true
is_in_order (Some (video before)) (video bytes) = false
is_in_order (Some (video before)) (island x) = false
is_in_order (Some (island before)) (control runs) = true
is_in_order (Some (island before)) (video bytes) = false
is_in_order (Some (island before)) (island x) = false

-- a control period of at least twelve columns stands before another period
abbrev pub is_long_enough : Option Period → Bool
is_long_enough (Some (control runs)) = is_control_in_range (length (values_of runs))
is_long_enough _ = false

abbrev pub has_control : Option Period → Period → Bool
has_control before (control runs) = true
has_control before (video bytes) = is_long_enough before
has_control before (island x) = is_long_enough before

-- the control period before a video data period or a data island ends with its preamble
abbrev pub is_announced : Option Period → Period → Bool
is_announced before (control runs) = true
is_announced (Some (control runs)) (video bytes) = has_preamble VIDEO_PREAMBLE (values_of runs)
is_announced (Some (control runs)) (island x) = has_preamble ISLAND_PREAMBLE (values_of runs)
is_announced _ (video bytes) = false
is_announced _ (island x) = false

abbrev pub unless : Bool → ItemFault → Option ItemFault → Option ItemFault
unless true fault rest = rest
unless false fault rest = Some fault

-- the fault of an item that is announced or not, and whose columns have room or not
abbrev pub first_fault : List Period → Period → Bool → Bool → Option ItemFault
first_fault periods p announced room =
    unless (is_in_range p) Range
    (unless (is_in_order (last_period periods) p) Order
    (unless (has_control (last_period periods) p) Control
    (unless announced Preamble
    (unless room Long
    None))))

unfoldable pub push_fault : List Period → Period → Option ItemFault
push_fault periods p = first_fault periods p (is_announced (last_period periods) p) (has_room (columns_of periods) (period_columns p))

-- without guard bands nothing has to be announced
unfoldable pub dvi_push_fault : List Period → Period → Option ItemFault
dvi_push_fault periods p = first_fault periods p true (has_room (dvi_columns_of periods) (dvi_columns p))

abbrev pub is_control_last : Option Period → Bool
is_control_last (Some (control runs)) = true
is_control_last _ = false

unfoldable pub close_fault : List Period → Option ItemFault
close_fault periods =
    unless (is_control_last (last_period periods)) Order
    (unless (is_long_enough (last_period periods)) Control
    None)

-- a fault is returned exactly where there is one; where there is none, only memory may be wanting
abbrev pub AnswersFault : {T : Type 0} → Option ItemFault → Result T ItemFault → Type 0
AnswersFault (Some fault) result = result ≡ Err fault
AnswersFault None (Ok done) = Unit {0}
AnswersFault None (Err fault) = fault ≡ NoMemory

-- a fault is returned exactly where there is one
abbrev pub AnswersOnlyFault : {T : Type 0} → Option ItemFault → Result T ItemFault → Type 0
AnswersOnlyFault (Some fault) result = result ≡ Err fault
AnswersOnlyFault None (Ok done) = Unit {0}
AnswersOnlyFault None (Err fault) = ⊥
