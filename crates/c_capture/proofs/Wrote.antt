-- What a maker wrote, from how it ended.
use Rattle.std.proofs.Common.{◌≡◌, ℕ, List, [], refl, sym, ◌∙◌, subst}
use Rattle.std.specs.Prelude.{Option, Some}
use Rattle.command_line.specs.declared.command.Command.{Command}
use Rattle.capture_commands.specs.Endings.{Ends, IsAnswered, seen, note_of, status_of}
use Rattle.capture_commands.specs.declared.ending.Ending.{Ending}
use Rattle.capture_commands.specs.declared.ending.Ending.TheVariants as ends
use Rattle.c_capture.specs.Made.{IsRefused, Wrote}
use Rattle.c_capture.proofs.Said.{output_of}

-- an ending with an outcome says the note of a refusal
refused_of : (command : Command) (e : Ending) (bytes : List ℕ) (f g h : ℕ) (rest : Option (List ℕ)) (text : List ℕ)
    → IsAnswered command e (seen (Some bytes) 0 (Some []) f) (seen rest g (Some text) h) bytes → status_of e ≡ 3
    → IsRefused command bytes (note_of e)
refused_of command e bytes f g h rest text a is = record { outcome = a.outcome; does = a.does; ended = a.status ∙ is; note_is = sym a.note }

wrote : (command : Command) (e : Ending) (bytes text : List ℕ) (rest : Option (List ℕ)) (f g h : ℕ)
    → Ends command e (seen (Some bytes) 0 (Some []) f) (seen rest g (Some text) h) → Wrote command bytes e text
wrote command ends.Done bytes text rest f g h it = output_of command ends.Done bytes f g h rest text 0 (it.1 bytes refl) refl
wrote command (ends.Listing fault) bytes text rest f g h it = refused_of command (ends.Listing fault) bytes f g h rest text (it.1 bytes refl) refl
wrote command (ends.Raster fault) bytes text rest f g h it = refused_of command (ends.Raster fault) bytes f g h rest text (it.1 bytes refl) refl
wrote command _ bytes text rest f g h it = tt

-- the same of a source that had these bytes, and a sink that held nothing
pub wrote_of : (command : Command) (e : Ending) (bytes text left held : List ℕ) (rest : Option (List ℕ)) (f g h : ℕ)
    → Ends command e (seen (Some left) 0 (Some held) f) (seen rest g (Some text) h) → left ≡ bytes → held ≡ [] → Wrote command bytes e text
wrote_of command e bytes text left held rest f g h it is none =
    let from_bytes = subst (λ (l : List ℕ). Ends command e (seen (Some l) 0 (Some held) f) (seen rest g (Some text) h)) is it in
    let to_none = subst (λ (l : List ℕ). Ends command e (seen (Some bytes) 0 (Some l) f) (seen rest g (Some text) h)) none from_bytes in
    wrote command e bytes text rest f g h to_none
