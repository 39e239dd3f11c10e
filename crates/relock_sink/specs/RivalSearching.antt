-- What is known of the edges for which an alignment is let go, when bits arrive.
use Rattle.std.proofs.Common.{◌≡◌, max, true, slice_index, arith, inl, inr}
use Rattle.std.proofs.lemmas.Bool.{cases_lt}
use Rattle.link_sink.specs.Sinks.{Fed}
use Rattle.track_sink.specs.Tracks.{Grows}
use Rattle.track_sink.specs.Feds.{most_grows, grows_twice}
use Rattle.relock_sink.specs.Growing.{first_so_stays}
use Rattle.relock_sink.specs.RefutedGrowing.{let_go_was}
use Rattle.relock_sink.specs.Watching.{never_on}
use Rattle.relock_sink.specs.RivalSearches.{KnowsOwn, HasSoughtRivals}
use Rattle.relock_sink.specs.declared.rivals.Own.{Own}
use Rattle.relock_sink.specs.declared.rivals.Own.TheVariants.{Sought, Confirmed, Other}
use Rattle.relock_sink.specs.declared.rivals.RivalSearch.{RivalSearch}

knows_on : (own : Own) (P : Type 0) (before now : Fed) → Grows before now → KnowsOwn own P before → KnowsOwn own P now
knows_on Sought P before now grows known = known
knows_on (Confirmed own) P before now grows known = first_so_stays before now grows (slice_index own 0) (slice_index own 1) (slice_index own 2) true known
knows_on Other P before now grows known = never_on true before now grows known

pub rivals_on : (w : RivalSearch) (before now : Fed) → HasSoughtRivals w before → Grows before now → HasSoughtRivals w now
rivals_on w before now was grows =
    let more = most_grows before now grows in
    record {
      searched = λ later next. was.searched later (grows_twice before now later grows next);
      own = knows_on w.own (w.alignments.past ≡ 0) before now grows was.own;
      none = λ p q r d e f is. elim was.decided [
        | inl none ↦ omega arith
        | inr long ↦ elim (cases_lt (max d (max e f)) w.alignments.limit) [
          | inl before_limit ↦ was.none p q r d e f (let_go_was before now grows p q r d e f (omega arith) is)
          | inr past ↦ past
        ]
      ];
      decided = elim was.decided [ inl none ↦ inl none | inr long ↦ inr (omega arith) ];
    }
