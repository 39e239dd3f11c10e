-- Periods of a framing of which the last one, a control period, is still open.
use Rattle.std.proofs.Common.{◌≡◌, ◌+◌, ◌≤◌, true, false, List, [], ◌∷◌, ◌++◌, length, refl, ap, ◌∙◌, arith, Option, Some, None, Err}
use Rattle.tmds_word.specs.Column.{Column}
use Rattle.island_pack.specs.Periods.{ControlRun, Period, control, values_of}
use Rattle.island_pack.specs.declared.ranges.TheConstants.{COLUMN_LIMIT}
use Rattle.source_end.specs.declared.items.ItemFault.{ItemFault}
use Rattle.source_end.specs.Framings.{Rules, IsFraming}
use Rattle.source_end.specs.Refusals.{last_period, is_control_last, is_in_range, is_in_order, has_control, AnswersFault}
use Rattle.source_end.proofs.Faults.{at_none}
use Rattle.source_end.proofs.Framed.{framed_columns-more}
use Rattle.source_end.proofs.Leads.{length-values_of-more}
use Rattle.std.specs.Prelude.{nat_le}
use Rattle.listing_reader.specs.declared.teller.Refusal.{Refusal}
use Rattle.listing_reader.specs.declared.teller.Refusal.TheVariants.{NoMemory}
use Rattle.listing_reader.specs.Reported.{with_open, RefusesAs}
use Rattle.listing_reader.proofs.OpenPeriods.{in_turn, le_test, last_of_more}

pub framed_open : (r : Rules) (Own : Period → List Column → Type 0) (Whole : List Period → List Column → Type 0) → IsFraming r Own Whole
    → (ps : List Period) (rs : List ControlRun) → r.columns_of (with_open ps rs) ≡ r.columns_of ps + length (values_of rs)
unfolding values_of
framed_open r Own Whole f ps [] = omega arith
framed_open r Own Whole f ps (x ∷ rs) = framed_columns-more r Own Whole f ps (control (x ∷ rs)) ∙ ap (λ n. r.columns_of ps + n) (f.control_columns (x ∷ rs))

pub framed_run : (r : Rules) (Own : Period → List Column → Type 0) (Whole : List Period → List Column → Type 0) → IsFraming r Own Whole
    → (ps : List Period) (rs : List ControlRun) (x : ControlRun) → r.columns_of (with_open ps (rs ++ x ∷ [])) ≡ r.columns_of (with_open ps rs) + x.count
framed_run r Own Whole f ps rs x = omega (arith, framed_open r Own Whole f ps rs, framed_open r Own Whole f ps (rs ++ x ∷ []), length-values_of-more rs x)

pub framed_none : (r : Rules) (Own : Period → List Column → Type 0) (Whole : List Period → List Column → Type 0) → IsFraming r Own Whole
    → (ps : List Period) (rs : List ControlRun) → ps ≡ [] → rs ≡ [] → r.columns_of (with_open ps rs) ≤ COLUMN_LIMIT
unfolding values_of
framed_none r Own Whole f ps rs h k = omega (arith, framed_open r Own Whole f ps rs, ap r.columns_of h, f.no_columns, ap (λ xs. length (values_of xs)) k)

-- The control period that is closed has no fault.
pub framed_closes : (r : Rules) (Own : Period → List Column → Type 0) (Whole : List Period → List Column → Type 0) → IsFraming r Own Whole
    → (ps : List Period) (rs : List ControlRun) → is_control_last (last_period ps) ≡ false → is_in_range (control rs) ≡ true → r.columns_of (with_open ps rs) ≤ COLUMN_LIMIT → r.push_fault ps (control rs) ≡ None
framed_closes r Own Whole f ps rs turn range few =
    let all = framed_open r Own Whole f ps rs in
    let own = f.control_columns rs in
    f.fault ps (control rs)
    ∙ at_none (is_in_range (control rs)) (is_in_order (last_period ps) (control rs)) (has_control (last_period ps) (control rs)) (r.is_announced (last_period ps) (control rs)) (nat_le (r.columns_of ps + r.columns (control rs)) COLUMN_LIMIT)
    range (in_turn (last_period ps) rs turn) refl (f.announces_control (last_period ps) rs) (le_test (r.columns_of ps + r.columns (control rs)) COLUMN_LIMIT (omega arith))

-- where there is no fault, only memory may be wanting
pub only_memory : (T : Type 0) (seen : Option ItemFault) (fault : ItemFault) (refusal : Refusal) → seen ≡ None → AnswersFault {T = T} seen (Err fault) → RefusesAs fault refusal → refusal ≡ NoMemory
only_memory T seen fault refusal none h k = grind arith

-- A period more, which is no control period.
pub other_last : (all now : List Period) (p : Period) → now ≡ all ++ p ∷ [] → is_control_last (Some p) ≡ false → is_control_last (last_period now) ≡ false
other_last all now p more other = ap (λ (ps : List Period). is_control_last (last_period ps)) more ∙ ap is_control_last (last_of_more all p) ∙ other
