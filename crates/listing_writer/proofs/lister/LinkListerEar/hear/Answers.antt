use Rattle.std.proofs.Common.{refl, ap, arith}
use Rattle.std.specs.Prelude.{slice_index}
use Rattle.period_grammar.specs.Events.{run, line, open_island, close_island, cut}
use Rattle.period_grammar.specs.Lending.{lent_event, fault_event}
use Rattle.listing_writer.specs.Texts.{line_words}
use Rattle.listing_writer.proofs.OneLine.{line_took, line_broke, fault_took, is_fault, always}
use Rattle.listing_writer.proofs.lister.LinkListerEar.hear.Goals as goal

pub returns-in-Run-clause-ok : goal.returns-in-Run-clause-ok
unfolding line_words
returns-in-Run-clause-ok g c =
    line_took _ _ _ _ _ (lent_event c.args.event) (run c.in-Run.value c.in-Run.count) _ (ap lent_event c.in-Run.is) refl
    refl c.write_run.ensures.whole

pub returns-in-Run-clause-err : goal.returns-in-Run-clause-err
unfolding line_words
returns-in-Run-clause-err g c =
    line_broke _ _ _ _ _ (lent_event c.args.event) (run c.in-Run.value c.in-Run.count) _ (ap lent_event c.in-Run.is)
    refl c.write_run.ensures.part

pub returns-in-Line-clause-ok : goal.returns-in-Line-clause-ok
unfolding line_words
returns-in-Line-clause-ok g c =
    line_took _ _ _ _ _ (lent_event c.args.event) (line c.in-Line.pixels.now) _ (ap lent_event c.in-Line.is) refl
    (c.encode_pixels-size.ensures.text) c.write_line.ensures.whole

pub returns-in-Line-clause-err : goal.returns-in-Line-clause-err
unfolding line_words
returns-in-Line-clause-err g c =
    line_broke _ _ _ _ _ (lent_event c.args.event) (line c.in-Line.pixels.now) _ (ap lent_event c.in-Line.is)
    (c.encode_pixels-size.ensures.text) c.write_line.ensures.part

pub returns-in-Open-clause-ok : goal.returns-in-Open-clause-ok
unfolding line_words
returns-in-Open-clause-ok g c =
    line_took _ _ _ _ _ (lent_event c.args.event) (open_island (slice_index c.in-Open.sync 0) (slice_index c.in-Open.sync 1)) _ (ap lent_event c.in-Open.is) refl
    refl c.write_guard.ensures.whole

pub returns-in-Open-clause-err : goal.returns-in-Open-clause-err
unfolding line_words
returns-in-Open-clause-err g c =
    line_broke _ _ _ _ _ (lent_event c.args.event) (open_island (slice_index c.in-Open.sync 0) (slice_index c.in-Open.sync 1)) _ (ap lent_event c.in-Open.is)
    refl c.write_guard.ensures.part

pub returns-in-Packet-clause-ok : goal.returns-in-Packet-clause-ok
unfolding line_words
returns-in-Packet-clause-ok g c =
    line_took _ _ _ _ _ (lent_event c.args.event) _ _ (ap lent_event c.in-Packet.is) refl
    c.packet_line.ensures c.write_line-in-Packet.ensures.whole

pub returns-in-Packet-clause-err : goal.returns-in-Packet-clause-err
unfolding line_words
returns-in-Packet-clause-err g c =
    line_broke _ _ _ _ _ (lent_event c.args.event) _ _ (ap lent_event c.in-Packet.is)
    c.packet_line.ensures c.write_line-in-Packet.ensures.part

pub returns-in-Close-clause-ok : goal.returns-in-Close-clause-ok
unfolding line_words
returns-in-Close-clause-ok g c =
    line_took _ _ _ _ _ (lent_event c.args.event) (close_island (slice_index c.in-Close.sync 0) (slice_index c.in-Close.sync 1)) _ (ap lent_event c.in-Close.is) refl
    refl c.write_guard-in-Close.ensures.whole

pub returns-in-Close-clause-err : goal.returns-in-Close-clause-err
unfolding line_words
returns-in-Close-clause-err g c =
    line_broke _ _ _ _ _ (lent_event c.args.event) (close_island (slice_index c.in-Close.sync 0) (slice_index c.in-Close.sync 1)) _ (ap lent_event c.in-Close.is)
    refl c.write_guard-in-Close.ensures.part

pub returns-in-Cut-clause-ok : goal.returns-in-Cut-clause-ok
unfolding line_words
returns-in-Cut-clause-ok g c =
    line_took _ _ _ _ _ (lent_event c.args.event) (cut c.in-Cut.column) _ (ap lent_event c.in-Cut.is) refl
    refl c.write_cut.ensures.whole

pub returns-in-Cut-clause-err : goal.returns-in-Cut-clause-err
unfolding line_words
returns-in-Cut-clause-err g c =
    line_broke _ _ _ _ _ (lent_event c.args.event) (cut c.in-Cut.column) _ (ap lent_event c.in-Cut.is)
    refl c.write_cut.ensures.part

pub returns-in_err-write_fault-in-Fault-clause-err : goal.returns-in_err-write_fault-in-Fault-clause-err
returns-in_err-write_fault-in-Fault-clause-err g c = grind (arith, always, line_broke)

pub returns-in_ok-write_fault-in-Fault-clause-ok : goal.returns-in_ok-write_fault-in-Fault-clause-ok
returns-in_ok-write_fault-in-Fault-clause-ok g c =
    fault_took _ _ _ _ _ (lent_event c.args.event) (fault_event c.in-Fault.fault) _ (ap lent_event c.in-Fault.is) (is_fault c.in-Fault.fault)
    refl (omega arith) c.in_ok-write_fault-in-Fault.ensures.whole
