use Rattle.std.proofs.Common.{ap, ◌∙◌}
use Rattle.source_end.specs.Content.{empty_frame}
use Rattle.listing_reader.specs.ContentReported.{first_frames, last_frame}
use Rattle.listing_reader.proofs.ContentFrames.{first_append, last_append}
use Rattle.listing_reader.proofs.content_reader.begin_frame.Goals as goal

pub returns-clause-frames : goal.returns-clause-frames
returns-clause-frames c = rw c.if-is_open.false (ap first_frames c.in_ok-frame.ensures.ok ∙ first_append c.args.content.now empty_frame)

pub returns-clause-open : goal.returns-clause-open
returns-clause-open c = rw c.if-is_open.false (ap last_frame c.in_ok-frame.ensures.ok ∙ last_append c.args.content.now empty_frame)
