use Rattle.std.proofs.lemmas.List.{take_rest}
use Rattle.listing_reader.proofs.Feeds.{found_at, found_none}
use Rattle.listing_reader.proofs.lines.find_feed.Goals as goal

pub returns-in-Some : goal.returns-in-Some
returns-in-Some c = found_at c.args.bytes.now c.args.searched c.in-Some.place c.requires.within c.requires.before (rw take_rest at c.in-Some.ensures)

pub returns-in-None : goal.returns-in-None
returns-in-None c = found_none c.args.bytes.now c.args.searched c.requires.within c.requires.before (rw take_rest at c.in-None.ensures)
