use Rattle.std.proofs.Common.{ap, ◌∙◌}
use Rattle.source_end.specs.Content.{with_packet}
use Rattle.listing_reader.proofs.ContentFrames.{whole_kept, open_changed, some_changed}
use Rattle.listing_reader.proofs.content_reader.push_packet.Goals as goal

pub returns-clause-frames : goal.returns-clause-frames
returns-clause-frames c = whole_kept (with_packet c.args.packet) c.begin_frame.new.content c.packet.new.self c.in_ok-packet.ensures.ok ∙ c.in_ok-begin_frame.ensures.frames

pub returns-clause-open : goal.returns-clause-open
returns-clause-open c =
    open_changed (with_packet c.args.packet) c.begin_frame.new.content c.packet.new.self c.in_ok-begin_frame.ensures.some c.in_ok-packet.ensures.ok ∙ ap (with_packet c.args.packet) c.in_ok-begin_frame.ensures.open

pub returns-clause-some : goal.returns-clause-some
returns-clause-some c = some_changed (with_packet c.args.packet) c.begin_frame.new.content c.packet.new.self c.in_ok-begin_frame.ensures.some c.in_ok-packet.ensures.ok
