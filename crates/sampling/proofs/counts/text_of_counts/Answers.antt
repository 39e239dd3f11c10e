use Rattle.std.proofs.Common.{[]}
use Rattle.sampling.proofs.CountLines.{no_text, text_more}
use Rattle.sampling.specs.Counts.{counts_text}
use Rattle.sampling.proofs.counts.text_of_counts.Goals as goal

pub returns : goal.returns
unfolding counts_text
returns c =
    text_more _ _ _ _ c.put_count-10.ensures.items
    (text_more _ _ _ _ c.put_count-9.ensures.items
    (text_more _ _ _ _ c.put_count-8.ensures.items
    (text_more _ _ _ _ c.put_count-7.ensures.items
    (text_more _ _ _ _ c.put_count-6.ensures.items
    (text_more _ _ _ _ c.put_count-5.ensures.items
    (text_more _ _ _ _ c.put_count-4.ensures.items
    (text_more _ _ _ _ c.put_count-3.ensures.items
    (text_more _ _ _ _ c.put_count-2.ensures.items
    (text_more [] _ _ _ c.put_count.ensures.items (no_text c.new-text.result.items c.new-text.ensures))))))))))
