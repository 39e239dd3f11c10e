use Rattle.std.proofs.Common.{ℕ, ◌∙◌, ap}
use Rattle.listing_writer.specs.Texts.{counted}
use Rattle.listing_writer.proofs.ContentAdding.{adds_fault}
use Rattle.listing_writer.proofs.content_lines.Lines.add_fault.Goals as goal

pub returns-clause-added : goal.returns-clause-added
returns-clause-added c words is kind =
    adds_fault c.args.self.now c.count_fault.new.self _ _ words (c.count_fault.ensures.text ∙ c.put.ensures.text) c.as_slice.ensures.value is
    (c.count_fault.ensures.faults ∙ ap (λ (n : ℕ). counted n 1) c.put.ensures.faults) kind
