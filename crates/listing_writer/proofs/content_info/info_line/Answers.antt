use Rattle.std.proofs.Common.{arith, List, ℕ, ◌++◌, ap, ◌∙◌}
use Rattle.std.specs.Prelude.{codes}
use Rattle.listing_writer.proofs.ContentCases.{as_avi, as_audio, as_spd, as_raw, no_some, raw_same}
use Rattle.listing_writer.proofs.content_info.info_line.Goals as goal

pub returns-in-Some : goal.returns-in-Some
returns-in-Some c =
    c.avi_line.ensures ∙ ap (λ (words : List ℕ). words ++ codes "\n") (as_avi _ c.args.info.now c.in-Some.avi c.in-Some.ensures)

pub returns-in-Some-audio : goal.returns-in-Some-audio
returns-in-Some-audio c =
    c.audio_line.ensures ∙ ap (λ (words : List ℕ). words ++ codes "\n") (as_audio _ c.args.info.now c.in-Some-audio.audio c.in-Some-audio.ensures)

pub returns-in-Some-spd : goal.returns-in-Some-spd
returns-in-Some-spd c =
    c.spd_line.ensures ∙ ap (λ (words : List ℕ). words ++ codes "\n") (as_spd _ c.args.info.now c.in-Some-spd.spd c.in-Some-spd.ensures)

pub returns-in-None : goal.returns-in-None
returns-in-None c = grind (arith, raw_same, as_raw, no_some)
