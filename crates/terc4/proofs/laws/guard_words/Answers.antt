use Rattle.terc4.proofs.Counts.{video_guard_words, island_guard_words}
use Rattle.terc4.proofs.laws.guard_words.Goals as goal

pub returns-clause-video : goal.returns-clause-video
returns-clause-video c = video_guard_words

pub returns-clause-island : goal.returns-clause-island
returns-clause-island c = island_guard_words
