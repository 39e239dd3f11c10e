-- Whether an alignment is let go for the next edges.
use Rattle.std.proofs.Common.{ℕ, ◌<◌, Bool, true, false, List, slice_index, inl, inr, arith}
use Rattle.std.specs.Prelude.{◌^◌, MatchBool}
use Rattle.tmds_word.specs.declared.TheConstants.{MOST_BITS}
use Rattle.alignment_search.specs.Alignments.{greatest}
use Rattle.alignment_search.specs.Begins.{HaveOneBegin}
use Rattle.alignment_search.specs.declared.finder.AlignmentFinder.{AlignmentFinder}
use Rattle.link_sink.specs.Sinks.{Fed}
use Rattle.track_sink.specs.Epochs.{most_of}
use Rattle.relock_sink.specs.Rivals.{IsRefuted}
use Rattle.relock_sink.specs.Doubts.{IsContender, IsLetGo}
use Rattle.relock_sink.specs.Verdicts.{Contends, Says}
use Rattle.relock_sink.specs.RefutedDecided.{same_own}
use Rattle.relock_sink.specs.RivalSearches.{LetGoFor, IsKnownBefore, IsKnownAfter}
use Rattle.relock_sink.specs.declared.rivals.Own.{Own}
use Rattle.relock_sink.specs.declared.rivals.Own.TheVariants.{Confirmed}
use Rattle.relock_sink.specs.declared.rival.Verdict.TheVariants.{Nothing, Contended, Refuted}

-- places before the end of bits are small
pub small_edges : (fed : Fed) (edges : List ℕ) (own : Own) (finder : AlignmentFinder) → IsKnownBefore own finder fed edges → most_of fed < MOST_BITS → greatest edges < 2 ^ 60
small_edges fed edges own finder known small = let long = known.shown in omega arith

contender_of : (fed : Fed) (p q r d e f : ℕ) → IsLetGo fed p q r d e f → IsContender fed p q r d e f
contender_of fed p q r d e f (inl refuted) = record { later = refuted.later; other_skew = refuted.other_skew; period = refuted.period.ending }
contender_of fed p q r d e f (inr doubted) = doubted.contender

module _ (fed : Fed) (own edges : List ℕ) (finder : AlignmentFinder) (known : IsKnownBefore (Confirmed own) finder fed edges) where
  -- the alignment that is let go is this one
  contends_here : (p q r : ℕ) → IsContender fed p q r (slice_index edges 0) (slice_index edges 1) (slice_index edges 2) → Contends fed own edges
  contends_here p q r is =
      same_own fed (λ a b c. IsContender fed a b c (slice_index edges 0) (slice_index edges 1) (slice_index edges 2)) p q r (slice_index own 0) (slice_index own 1) (slice_index own 2)
      is.later.own known.own is

  stands : (LetGoFor fed edges → ⊥) → IsKnownAfter (Confirmed own) fed edges
  stands none = record { own = known.own; stands = none }

  -- edges that say nothing let nothing go
  pub says_nothing : Says Nothing fed own edges → IsKnownAfter (Confirmed own) fed edges
  says_nothing none =
      stands (λ given. none (contends_here given.0 given.1 given.2 (contender_of fed given.0 given.1 given.2 (slice_index edges 0) (slice_index edges 1) (slice_index edges 2) given.3)))

  -- those that refute it do
  pub says_refuted : Says Refuted fed own edges → LetGoFor fed edges
  says_refuted is = (slice_index own 0, slice_index own 1, slice_index own 2, inl is)

  -- and of others those do as far before which control periods begin on all lanes
  pub says_contended : (answer : Bool) → Says Contended fed own edges → MatchBool answer (HaveOneBegin fed.blue fed.green fed.red edges) (HaveOneBegin fed.blue fed.green fed.red edges → ⊥)
      → MatchBool answer (LetGoFor fed edges) (IsKnownAfter (Confirmed own) fed edges)
  says_contended true says begins = (slice_index own 0, slice_index own 1, slice_index own 2, inr (record { contender = says.0; begins = begins }))
  says_contended false says none = stands (λ given. by given.0 given.1 given.2 given.3)
    where
      by : (p q r : ℕ) → IsLetGo fed p q r (slice_index edges 0) (slice_index edges 1) (slice_index edges 2) → ⊥
      by p q r (inl refuted) =
          says.1 (same_own fed (λ a b c. IsRefuted fed a b c (slice_index edges 0) (slice_index edges 1) (slice_index edges 2)) p q r (slice_index own 0) (slice_index own 1) (slice_index own 2)
          refuted.later.own known.own refuted)
      by p q r (inr doubted) = none doubted.begins
