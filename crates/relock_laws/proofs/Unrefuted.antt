-- Where an alignment is let go for no edges, epochs end as where alignments are to be confirmed alone.
use Rattle.std.proofs.Common.{ℕ, inl, inr}
use Rattle.link_sink.specs.Sinks.{Fed}
use Rattle.relock_sink.specs.Refuting.{IsLastUnrefuted}
use Rattle.relock_sink.specs.Relocks.{IsLastEpoch}
use Rattle.relock_sink.specs.RefutingEnds.{decided, one}
use Rattle.relock_sink.specs.Rivals.{IsRefuted}
use Rattle.relock_sink.specs.Doubts.{IsDoubted, IsLetGo}
use Rattle.relock_laws.specs.RefutingLaws.{PayloadIsLastUnrefuted, UntilIsLastUnrefuted, EndsOrIsUnrefuted, OneRefutingEnd}
use Rattle.relock_laws.proofs.Last.{payload_is_last, until_is_last}
use Rattle.relock_laws.proofs.Standing.{payload_stands, until_stands}
use Rattle.relock_laws.proofs.Uncontended.{payload_has_no_contender}
use Rattle.relock_laws.proofs.Undoubted.{until_is_undoubted}

-- an alignment that is neither refuted nor doubted is let go for no edges
pub not_let_go : (fed : Fed) (p q r d e f : ℕ) → (IsRefuted fed p q r d e f → ⊥) → (IsDoubted fed p q r d e f → ⊥) → IsLetGo fed p q r d e f → ⊥
not_let_go fed p q r d e f stands undoubted (inl refuted) = stands refuted
not_let_go fed p q r d e f stands undoubted (inr doubted) = undoubted doubted

-- an epoch with no end otherwise, whose alignment is let go for no edges
pub last_unrefuted : (fed : Fed) → IsLastEpoch fed → ((p q r d e f : ℕ) → IsLetGo fed p q r d e f → ⊥) → IsLastUnrefuted fed
last_unrefuted fed last none = record { last = last; unrefuted = λ p q r d e f is. absurd (none p q r d e f is) }

pub payload_is_last_unrefuted : PayloadIsLastUnrefuted
payload_is_last_unrefuted ps sent received offset skews counts x reception alone small =
    last_unrefuted x (payload_is_last ps sent received offset skews counts x reception alone small) (λ p q r d e f.
    not_let_go x p q r d e f (payload_stands ps sent received offset skews counts x reception alone small p q r d e f) (λ is.
    payload_has_no_contender ps sent received offset skews counts x reception alone small p q r d e f is.contender))

pub until_is_last_unrefuted : UntilIsLastUnrefuted
until_is_last_unrefuted ps sent received offset skews counts x reception small until aligns spared =
    last_unrefuted x (until_is_last ps sent received offset skews counts x reception small until aligns) (λ p q r d e f.
    not_let_go x p q r d e f (until_stands ps sent received offset skews counts x reception small until aligns p q r d e f)
    (until_is_undoubted ps sent received offset skews counts x reception small until aligns spared p q r d e f))

pub ends_or_is_unrefuted : EndsOrIsUnrefuted
ends_or_is_unrefuted fed = elim (decided fed) [
  | inr last ↦ inr last
  | inl end ↦ inl (end.1, (end.0, end.2))
]

pub one_refuting_end : OneRefutingEnd
one_refuting_end fed p q a b = (one fed a.0 b.0 p q a.1 b.1).1
