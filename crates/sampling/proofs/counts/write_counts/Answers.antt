use Rattle.std.proofs.Common.{ℕ, List, ◌<◌, length, take, ◌∙◌, subst}
use Rattle.std.specs.Prelude.{OnOk, OnErr}
use Rattle.std.specs.Io.KnownBytes.{Appends}
use Rattle.sampling.proofs.counts.write_counts.Goals as goal

pub returns-clause-whole : goal.returns-clause-whole
returns-clause-whole g c =
    subst (λ (bytes : List ℕ). OnOk c.write_text.result (Appends (g.K.Sink.held c.args.out.now) (g.K.Sink.held c.write_text.new.out) bytes))
    (c.as_slice.ensures.value ∙ c.text_of_counts-text.ensures) c.write_text.ensures.whole

pub returns-clause-part : goal.returns-clause-part
returns-clause-part g c =
    subst (λ (bytes : List ℕ). OnErr c.write_text.result ((n : ℕ) × (n < length bytes) × Appends (g.K.Sink.held c.args.out.now) (g.K.Sink.held c.write_text.new.out) (take n bytes)))
    (c.as_slice.ensures.value ∙ c.text_of_counts-text.ensures) c.write_text.ensures.part
