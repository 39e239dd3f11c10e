use Rattle.std.specs.Prelude.{Some}
use Rattle.c_capture.specs.Makers.{command_of}
use Rattle.c_capture.proofs.Wrote.{wrote_of}
use Rattle.c_capture.proofs.making.write_by.Goals as goal

pub returns : goal.returns
returns c =
    wrote_of (command_of c.args.maker c.args.words.now) c.make_by.result c.args.listing.now c.make_by.new.made.bytes.items _ _ (Some c.make_by.new.source.rest.now) c.args.made.now.faults 0 c.make_by.new.made.faults
    c.make_by.ensures c.new.ensures c.requires.none
