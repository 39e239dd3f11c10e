-- Lanes of columns received with sparse damage, wherever it lies, are calm: so there is one epoch.
use Rattle.std.proofs.Common.{ℕ, suc, zero, List}
use Rattle.tmds_word.specs.Column.{Column}
use Rattle.island_pack.specs.Periods.{Period}
use Rattle.lane_track.proofs.Strays.{calm_has_none}
use Rattle.link_sink.specs.Sinks.{Fed}
use Rattle.link_laws.proofs.Calm.{lanes_are_calm}
use Rattle.track_sink.specs.Epochs.{HasNoEnd}
use Rattle.track_laws.specs.Laws.{Received}
use Rattle.track_laws.proofs.Ends.{none_of}

pub one_epoch : (ps : List Period) (sent received : List Column) (offset : ℕ) (skews counts : List ℕ) (x : Fed) → Received ps sent received offset skews counts x → HasNoEnd x
one_epoch ps sent received offset skews counts x reception zero lt =
    none_of x.blue _ reception.tapped.blue_part.bits_are (calm_has_none _ _ (lanes_are_calm ps sent received reception.reception).blue _ _)
one_epoch ps sent received offset skews counts x reception (suc zero) lt =
    none_of x.green _ reception.tapped.green_part.bits_are (calm_has_none _ _ (lanes_are_calm ps sent received reception.reception).green _ _)
one_epoch ps sent received offset skews counts x reception (suc (suc l)) lt =
    none_of x.red _ reception.tapped.red_part.bits_are (calm_has_none _ _ (lanes_are_calm ps sent received reception.reception).red _ _)
