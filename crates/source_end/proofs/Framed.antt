-- Periods of a framing that grow by one, and the columns that spell them one after another.
use Rattle.std.proofs.Common.{◌≡◌, ℕ, suc, zero, ◌+◌, ◌≤◌, ◌<◌, Bool, true, List, [], ◌∷◌, ◌++◌, length, take, drop, get_or, ap, ap₂, sym, subst, ◌∙◌, arith, append_assoc, append-nil, length-append, refl, None}
use Rattle.std.specs.Prelude.{nat_le}
use Rattle.std.specs.List.{list_all}
use Rattle.std.proofs.lemmas.Bool.{and_parts, leb-true}
use Rattle.tmds_word.specs.Column.{Column}
use Rattle.island_pack.specs.Periods.{Period}
use Rattle.island_pack.specs.declared.ranges.TheConstants.{COLUMN_LIMIT}
use Rattle.source_end.specs.Fronts.{TookFront}
use Rattle.source_end.specs.Framings.{Rules, IsFraming}
use Rattle.source_end.specs.Kept.{capped, has_pixels}
use Rattle.source_end.specs.Refusals.{last_period, is_in_range, is_in_order, has_control, first_fault}
use Rattle.source_end.proofs.Turns.{capped_room, same_sum, room_left}
use Rattle.source_end.proofs.Faults.{none_holds}
use Rattle.source_end.proofs.Fronts.{front_after}
use Rattle.source_end.proofs.ItemFronts.{parts_at, all_after}

pub framed_columns-more : (r : Rules) (Own : Period → List Column → Type 0) (Whole : List Period → List Column → Type 0) → IsFraming r Own Whole
    → (periods : List Period) (p : Period) → r.columns_of (periods ++ p ∷ []) ≡ r.columns_of periods + r.columns p
framed_columns-more r Own Whole f [] p = omega (arith, f.more_columns p [], f.no_columns)
framed_columns-more r Own Whole f (q ∷ ps) p = omega (arith, f.more_columns q (ps ++ p ∷ []), f.more_columns q ps, framed_columns-more r Own Whole f ps p)

-- the columns of the first periods and of the next one are among all
pub framed_room : (r : Rules) (Own : Period → List Column → Type 0) (Whole : List Period → List Column → Type 0) → IsFraming r Own Whole
    → (periods : List Period) (i : ℕ) (d : Period) → i < length periods → r.columns_of (take i periods) + r.columns (get_or periods i d) ≤ r.columns_of periods
framed_room r Own Whole f [] i d lt = absurd (omega arith)
framed_room r Own Whole f (p ∷ ps) zero d lt = omega (arith, f.more_columns p ps, f.no_columns)
framed_room r Own Whole f (p ∷ ps) (suc i) d lt =
    let less : i < length ps = omega arith in
    omega (arith, f.more_columns p ps, f.more_columns p (take i ps), framed_room r Own Whole f ps i d less)

-- the fault that the five tests find
pub framed_fault : (r : Rules) (Own : Period → List Column → Type 0) (Whole : List Period → List Column → Type 0) → IsFraming r Own Whole
    → (periods seen : List Period) (p : Period) (announced room : Bool) (sum n : ℕ) → seen ≡ periods → announced ≡ r.is_announced (last_period seen) p → room ≡ nat_le (sum + n) COLUMN_LIMIT
    → sum ≡ r.columns_of periods → n ≡ capped (r.columns p) → first_fault seen p announced room ≡ r.push_fault periods p
framed_fault r Own Whole f periods seen p announced room sum n same a fits all e =
    ap₂ (first_fault seen p) a (fits ∙ capped_room sum n (r.columns p) e ∙ ap (λ k. nat_le (k + r.columns p) COLUMN_LIMIT) all)
    ∙ ap (λ qs. first_fault qs p (r.is_announced (last_period qs) p) (nat_le (r.columns_of periods + r.columns p) COLUMN_LIMIT)) same
    ∙ sym (f.fault periods p)

-- what holds of a list of items, and of their number of columns
pub record IsKept (r : Rules) (periods : List Period) (sum : ℕ) : Type 0 where
  pub conforming : r.conforms_so_far periods ≡ true
  pub columns : sum ≡ r.columns_of periods
  pub few : sum ≤ COLUMN_LIMIT

pub none_kept : (r : Rules) (Own : Period → List Column → Type 0) (Whole : List Period → List Column → Type 0) → IsFraming r Own Whole → (periods : List Period) → periods ≡ [] → IsKept r periods 0
none_kept r Own Whole f periods e = subst (λ (ps : List Period). IsKept r ps 0) (sym e) record { conforming = f.nothing; columns = sym f.no_columns; few = omega arith }

pub more_kept : (r : Rules) (Own : Period → List Column → Type 0) (Whole : List Period → List Column → Type 0) → IsFraming r Own Whole
    → (periods now : List Period) (p : Period) (sum n : ℕ) → r.conforms_so_far periods ≡ true → sum ≡ r.columns_of periods → n ≡ capped (r.columns p) → r.is_carried p ≡ true → has_pixels p ≡ true
    → r.push_fault periods p ≡ None → now ≡ periods ++ p ∷ [] → IsKept r now (sum + n)
more_kept r Own Whole f periods now p sum n so_far all e carried whole none grown =
    let fits = (none_holds (is_in_range p) (is_in_order (last_period periods) p) (has_control (last_period periods) p) (r.is_announced (last_period periods) p) (nat_le (r.columns_of periods + r.columns p) COLUMN_LIMIT)
    (sym (f.fault periods p) ∙ none)).room in
    let left = room_left sum n (nat_le (sum + n) COLUMN_LIMIT) refl (capped_room sum n (r.columns p) e ∙ ap (λ k. nat_le (k + r.columns p) COLUMN_LIMIT) all ∙ fits) in
    let same : sum + n ≡ sum + r.columns p = same_sum sum n (r.columns p) e left in
    subst (λ (ps : List Period). IsKept r ps (sum + n)) (sym grown)
    record {
      conforming = f.more periods p so_far carried whole none;
      columns = same ∙ ap (λ k. k + r.columns p) all ∙ sym (framed_columns-more r Own Whole f periods p);
      few = leb-true (sum + n) COLUMN_LIMIT (capped_room sum n (r.columns p) e ∙ ap (λ k. nat_le (k + r.columns p) COLUMN_LIMIT) all ∙ fits);
    }

pub spelled-append : (r : Rules) (Own : Period → List Column → Type 0) (Whole : List Period → List Column → Type 0) → IsFraming r Own Whole
    → (periods others : List Period) (columns more : List Column) → Whole periods columns → Whole others more → Whole (periods ++ others) (columns ++ more)
spelled-append r Own Whole f [] others columns more h k = subst (λ (cs : List Column). Whole others (cs ++ more)) (sym (f.of_none columns h)) k
spelled-append r Own Whole f (q ∷ ps) others columns more h k =
    let parts = f.of_first q ps columns h in
    subst (λ (cs : List Column). Whole (q ∷ (ps ++ others)) cs) (sym (ap (λ (cs : List Column). cs ++ more) parts.2 ∙ append_assoc parts.0 parts.1 more))
    (f.first_spelled q (ps ++ others) parts.0 (parts.1 ++ more) parts.3 (spelled-append r Own Whole f ps others parts.1 more parts.4 k))

pub spelled-more : (r : Rules) (Own : Period → List Column → Type 0) (Whole : List Period → List Column → Type 0) → IsFraming r Own Whole
    → (periods : List Period) (p : Period) (columns own : List Column) → Whole periods columns → Own p own → Whole (periods ++ p ∷ []) (columns ++ own)
spelled-more r Own Whole f periods p columns own h k =
    spelled-append r Own Whole f periods (p ∷ []) columns own h
    (subst (λ (cs : List Column). Whole (p ∷ []) cs) (append-nil own) (f.first_spelled p [] own [] k f.none_spelled))

pub spelled-length : (r : Rules) (Own : Period → List Column → Type 0) (Whole : List Period → List Column → Type 0) → IsFraming r Own Whole
    → (periods : List Period) (columns : List Column) → Whole periods columns → length columns ≡ r.columns_of periods
spelled-length r Own Whole f [] columns h = ap length (f.of_none columns h) ∙ sym f.no_columns
spelled-length r Own Whole f (p ∷ ps) columns h =
    let parts = f.of_first p ps columns h in
    omega (arith, ap length parts.2, length-append parts.0 parts.1, f.as_many p parts.0 parts.3, spelled-length r Own Whole f ps parts.1 parts.4, f.more_columns p ps)

periods_spelled : (r : Rules) (Own : Period → List Column → Type 0) (Whole : List Period → List Column → Type 0) → IsFraming r Own Whole
    → (periods : List Period) → list_all r.is_sendable periods ≡ true → (columns : List Column) × Whole periods columns
periods_spelled r Own Whole f [] h = ([], f.none_spelled)
periods_spelled r Own Whole f (p ∷ ps) h =
    let parts = and_parts (r.is_sendable p) (list_all r.is_sendable ps) h in
    let own = f.spelled p parts.0 in
    let rest = periods_spelled r Own Whole f ps parts.1 in
    (own.0 ++ rest.0, f.first_spelled p ps own.0 rest.0 own.1 rest.1)

-- What is taken of a list of periods of which not every column was taken: the columns that are missing can be given.
pub spelled_front : (r : Rules) (Own : Period → List Column → Type 0) (Whole : List Period → List Column → Type 0) → IsFraming r Own Whole
    → (periods : List Period) (i : ℕ) (p : Period) (old mid new columns : List Column) → list_all r.is_sendable periods ≡ true → i < length periods → get_or periods i p ≡ p
    → Whole (take i periods) columns → mid ≡ old ++ columns → TookFront mid new (Own p) → TookFront old new (Whole periods)
spelled_front r Own Whole f periods i p old mid new columns h lt at spelled was front =
    let rest = periods_spelled r Own Whole f (drop (suc i) periods) (all_after r.is_sendable periods (suc i) h) in
    let parts : take i periods ++ (p ∷ drop (suc i) periods) ≡ periods = ap (λ (q : Period). take i periods ++ (q ∷ drop (suc i) periods)) (sym at) ∙ parts_at periods i p lt in
    front_after old mid new columns (Own p) (Whole periods) was front
    (λ cs own. (
      rest.0,
      subst (λ (ps : List Period). Whole ps (columns ++ (cs ++ rest.0))) parts
          (spelled-append r Own Whole f (take i periods) (p ∷ drop (suc i) periods) columns (cs ++ rest.0) spelled (f.first_spelled p (drop (suc i) periods) cs rest.0 own rest.1)),
    ))
