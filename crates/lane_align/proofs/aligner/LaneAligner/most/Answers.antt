use Rattle.std.proofs.Common.{◌≡◌, ◌+◌, ◌∙◌, ◌++◌, ap, arith, subst, take}
use Rattle.tmds_word.proofs.Rows.{no_more}
use Rattle.lane_align.specs.Words.{lane_words}
use Rattle.lane_align.specs.Aligners.{AlignerRepresents}
use Rattle.lane_align.proofs.aligner.LaneAligner.most.Goals as goal

pub returns-then-bytes-lt8-clause-stands : goal.returns-then-bytes-lt8-clause-stands
returns-then-bytes-lt8-clause-stands c xs stands = subst (AlignerRepresents c.args.self.now) (no_more xs c.args.bytes.now) stands

pub returns-then-bytes-lt8-clause-words : goal.returns-then-bytes-lt8-clause-words
returns-then-bytes-lt8-clause-words c xs ws stands all =
    let same : c.args.at + 0 ≡ c.args.at = omega arith in
    ap (λ n. ws ++ take n c.args.row.now) same ∙ all ∙ ap (lane_words c.args.self.now.lock) (no_more xs c.args.bytes.now)
