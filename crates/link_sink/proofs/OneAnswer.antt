-- Of the bits of three lanes a sink has one answer.
use Rattle.std.proofs.Common.{◌≡◌, ℕ, Bool, true, false, List, [], ◌++◌, length, refl, sym, ◌∙◌, inl, inr}
use Rattle.std.proofs.lemmas.List.{append_cancel_left}
use Rattle.tmds_word.specs.Column.{Column}
use Rattle.lane_deskew.specs.Aligned.{aligned_columns}
use Rattle.lane_deskew.proofs.First.{one_first}
use Rattle.period_grammar.specs.Events.{Event}
use Rattle.link_sink.specs.Alignment.{reported_under}
use Rattle.link_sink.specs.Grammar.{Grammar}
use Rattle.link_sink.specs.Sinks.{Fed, IsReportedOf, IsGainOf}
use Rattle.link_sink.specs.Laws.{OneGain, OneGainAt, OneLast, OneAlignment}
use Rattle.link_sink.proofs.Decided.{first_decided, reported_so_far}
use Rattle.link_sink.proofs.Following.{one_reported}

-- of any bits something is reported so far
some_reported : {T : Type 0} (so_far : List Column → List T) (fed : Fed) → (ts : List T) × IsReportedOf so_far fed ts
some_reported so_far fed =
    elim (first_decided fed.blue fed.green fed.red) [
      | inl found ↦ (so_far (aligned_columns fed.blue fed.green fed.red found.0 found.1 found.2), inl (found.0, found.1, found.2, found.3, refl))
      | inr none ↦ ([], inr (none, refl))
    ]

gain_once : {T : Type 0} (so_far : List Column → List T) (before after : Fed) (us vs : List T) → IsGainOf so_far before after us → IsGainOf so_far before after vs → us ≡ vs
gain_once so_far before after us vs a b =
    let was = some_reported so_far before in
    append_cancel_left was.0 us vs (one_reported so_far after (was.0 ++ us) (was.0 ++ vs) (a was.0 was.1) (b was.0 was.1))

pub one_gain : OneGain
one_gain g before after us vs a b = gain_once g.so_far before after us vs a b

pub one_gain_at : OneGainAt
one_gain_at g before after us vs a b = gain_once g.so_far_at before after us vs a b

-- all that is reported of lanes
whole_once : (g : Grammar) (xs ys zs : List Bool) (a b : Bool) (n m : ℕ) (us vs : List Event) → reported_under g a xs ys zs n us → reported_under g b xs ys zs m vs
    → (a ≡ b) × (n ≡ m) × (us ≡ vs)
whole_once g xs ys zs true true n m us vs p q =
    let same = one_first xs ys zs p.blue p.green p.red q.blue q.green q.red p.first q.first in (
      refl,
      p.columns_are ∙ (λ i. length (aligned_columns xs ys zs (same.0 i) (same.1 i) (same.2 i))) ∙ sym q.columns_are,
      p.reported ∙ (λ i. g.whole (aligned_columns xs ys zs (same.0 i) (same.1 i) (same.2 i))) ∙ sym q.reported,
    )
whole_once g xs ys zs true false n m us vs p q = absurd (q.nowhere p.blue p.green p.red p.first.triple)
whole_once g xs ys zs false true n m us vs p q = absurd (p.nowhere q.blue q.green q.red q.first.triple)
whole_once g xs ys zs false false n m us vs p q = (refl, p.columns_are ∙ sym q.columns_are, p.reported ∙ sym q.reported)

pub one_last : OneLast
one_last g fed o p us vs a b =
    let was = reported_so_far g fed in
    let same = whole_once g fed.blue fed.green fed.red o.aligned p.aligned o.columns p.columns (was.0 ++ us) (was.0 ++ vs) (a was.0 was.1) (b was.0 was.1) in
    (same.0, same.1, append_cancel_left was.0 us vs same.2)

pub one_alignment : OneAlignment
one_alignment fed here is = (λ none. none _ _ _ is.triple, λ there also. one_first fed.blue fed.green fed.red _ _ _ _ _ _ is also)
