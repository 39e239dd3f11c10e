use Rattle.std.proofs.Common.{ap, sym, ◌∙◌}
use Rattle.tmds_word.specs.Bits.{bits_of}
use Rattle.audio_out.specs.Levels.{level_after}
use Rattle.audio_out.specs.Subframes.{carries}
use Rattle.audio_out.proofs.Joined.{seven, is_joined}
use Rattle.audio_out.proofs.ReadBack.{both}
use Rattle.audio_out.proofs.Spelled.{eight_fit, one_spelling}
use Rattle.audio_out.proofs.subframe.write_subframe.Goals as goal

pub returns-clause-is : goal.returns-clause-is
unfolding seven
returns-clause-is c =
    is_joined c.args.sub.now _ _ _ _ _ _ _ _ c.requires c.preamble_byte-first.ensures
    (both _ _ c.cells-a.ensures (both _ _ c.cells-b.ensures (both _ _ c.cells-c.ensures (both _ _ c.cells-d.ensures
    (both _ _ c.cells-e.ensures (both _ _ c.cells-f.ensures (ap (λ n. carries (level_after c.cells-f.result) (bits_of 4 n) (bits_of 8 c.cells-g.result)) (sym c.side_bits.ensures.value) ∙ c.cells-g.ensures)))))))

pub returns-clause-bytes : goal.returns-clause-bytes
returns-clause-bytes c =
    (one_spelling c.args.sub.now _ c.requires
    (eight_fit _ _ _ _ _ _ _ _ c.preamble_byte-first.type_inv c.cells-a.type_inv c.cells-b.type_inv c.cells-c.type_inv c.cells-d.type_inv c.cells-e.type_inv c.cells-f.type_inv c.cells-g.type_inv)).0
    (returns-clause-is c)
