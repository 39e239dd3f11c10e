use Rattle.std.proofs.Common.{◌∙◌, ◌++◌, ap, sym, append-nil}
use Rattle.biphase_listing.specs.FrameText.{status_text}
use Rattle.biphase_listing.proofs.frame_lines.FrameLines.end_block.Goals as goal

pub returns-in_default-clause-text : goal.returns-in_default-clause-text
unfolding status_text
returns-in_default-clause-text c = λ past stands.
    let text = c.args.self.now.text in
    sym (append-nil text) ∙ ap (λ r. text ++ status_text r) (sym c.in_default.is ∙ c.status.ensures past stands)
