use Rattle.capture_file.proofs.Standing.{stands_head}
use Rattle.capture_file.proofs.capture_reader.CaptureReader.open.Goals as goal

pub returns-clause-ok : goal.returns-clause-ok
returns-clause-ok g c = let h = c.in_ok-heading.heading in (_, c.in_ok-heading.ensures.ok, stands_head h.version h.bits c.in_ok-heading.ensures.said)
