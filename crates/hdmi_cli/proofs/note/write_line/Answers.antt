use Rattle.std.proofs.Common.{length, sym, subst}
use Rattle.std.proofs.Math.Seq.{take-length}
use Rattle.std.specs.Io.KnownBytes.{Appends}
use Rattle.hdmi_cli.proofs.note.write_line.Goals as goal

pub returns-in-Ok-clause-part : goal.returns-in-Ok-clause-part
returns-in-Ok-clause-part g c =
    (length c.args.line.now, subst (λ bytes. Appends (g.N.Sink.held c.args.notes.now) (g.N.Sink.held c.write_all.new.sink) bytes) (sym (take-length c.args.line.now)) c.in-Ok.ensures.whole)
