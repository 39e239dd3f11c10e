-- What was listed, from how a reader ended.
use Rattle.std.proofs.Common.{◌≡◌, ℕ, List, [], refl, sym, ◌∙◌, subst}
use Rattle.std.specs.Prelude.{Option, Some}
use Rattle.command_line.specs.declared.command.Command.{Command}
use Rattle.capture_commands.specs.Endings.{Ends, IsAnswered, seen, status_of as program_status}
use Rattle.capture_commands.specs.declared.ending.Ending.{Ending}
use Rattle.capture_commands.specs.declared.ending.Ending.TheVariants as ends
use Rattle.c_capture.specs.Listed.{IsOutput, Says}
use Rattle.c_capture.specs.Statuses.{status_of}
use Rattle.c_capture.specs.declared.status.ListingStatus.{ListingStatus}

-- an ending with an outcome says what was written since nothing was
pub output_of : (command : Command) (e : Ending) (bytes : List ℕ) (f g h : ℕ) (rest : Option (List ℕ)) (text : List ℕ) (status : ℕ)
    → IsAnswered command e (seen (Some bytes) 0 (Some []) f) (seen rest g (Some text) h) bytes → program_status e ≡ status
    → IsOutput command bytes status text
output_of command e bytes f g h rest text status a is = record { outcome = a.outcome; does = a.does; ended = a.status ∙ is; written = a.written }

said : (command : Command) (e : Ending) (bytes text : List ℕ) (rest : Option (List ℕ)) (f g h : ℕ)
    → Ends command e (seen (Some bytes) 0 (Some []) f) (seen rest g (Some text) h) → Says command bytes (status_of e) text
said command ends.Done bytes text rest f g h it = output_of command ends.Done bytes f g h rest text 0 (it.1 bytes refl) refl
said command ends.Faulty bytes text rest f g h it = output_of command ends.Faulty bytes f g h rest text 1 (it.1 bytes refl) refl
said command (ends.Capture fault) bytes text rest f g h it = output_of command (ends.Capture fault) bytes f g h rest text 3 (it.1 bytes refl) refl
said command ends.Unaligned bytes text rest f g h it = output_of command ends.Unaligned bytes f g h rest text 7 (it.2 bytes refl) refl
said command _ bytes text rest f g h it = tt

-- the same of a source that had these bytes, and a sink that held nothing
pub said_of : (command : Command) (e : Ending) (bytes text left held : List ℕ) (rest : Option (List ℕ)) (f g h : ℕ) (status : ListingStatus)
    → Ends command e (seen (Some left) 0 (Some held) f) (seen rest g (Some text) h) → left ≡ bytes → held ≡ [] → status ≡ status_of e → Says command bytes status text
said_of command e bytes text left held rest f g h status it is none named =
    let from_bytes = subst (λ (l : List ℕ). Ends command e (seen (Some l) 0 (Some held) f) (seen rest g (Some text) h)) is it in
    let to_none = subst (λ (l : List ℕ). Ends command e (seen (Some bytes) 0 (Some l) f) (seen rest g (Some text) h)) none from_bytes in
    subst (λ (s : ListingStatus). Says command bytes s text) (sym named) (said command e bytes text rest f g h to_none)
