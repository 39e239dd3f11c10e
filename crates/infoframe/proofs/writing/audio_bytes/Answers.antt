use Rattle.std.proofs.Common.{ap, ◌∙◌, arith}
use Rattle.infoframe.specs.Fields.{field, audio_of, audio_reserved}
use Rattle.infoframe.proofs.Contents.{audio_of_bytes, audio_free, audio_plain}
use Rattle.infoframe.proofs.writing.audio_bytes.Goals as goal

pub returns-clause-fields : goal.returns-clause-fields
returns-clause-fields c =
    let x = c.args.audio.now in
    ap audio_of (audio_plain x) ∙ audio_of_bytes x c.requires (omega arith)

pub returns-clause-reserved : goal.returns-clause-reserved
returns-clause-reserved c =
    let x = c.args.audio.now in
    ap (λ xs. audio_reserved (field xs)) (audio_plain x) ∙ audio_free x c.requires
