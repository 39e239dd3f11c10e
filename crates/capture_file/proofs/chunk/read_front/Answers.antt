use Rattle.std.proofs.Common.{arith, ◌≡◌, ◌∙◌, ◌+◌, ◌/◌, ◌++◌, ap, sym, take, length, List, ℕ}
use Rattle.std.proofs.lemmas.Grind.{common_steps}
use Rattle.std.proofs.Math.Seq.{take-append_seam}
use Rattle.std.specs.Prelude.{OnOk, Result, Ok, Err}
use Rattle.tmds_word.specs.Bits.{bytes_bits}
use Rattle.capture_file.specs.Layout.{packed}
use Rattle.capture_file.specs.declared.fault.CaptureError.{CaptureError}
use Rattle.capture_file.proofs.Rooms.{front_bits}
use Rattle.capture_file.proofs.chunk.read_front.Goals as goal

spared_front : (r : Result (Unit {0}) CaptureError) (front rest : List ℕ) (count : ℕ) → length front ≡ (count + 7) / 8 → OnOk r (front ≡ packed (take count (bytes_bits front)))
    → OnOk r (take ((count + 7) / 8) (front ++ rest) ≡ packed (take count (bytes_bits (front ++ rest))))
spared_front (Ok x) front rest count len h =
    ap (λ n. take n (front ++ rest)) (sym len) ∙ take-append_seam front rest ∙ h ∙ sym (ap packed (front_bits front rest count len))
spared_front (Err e) front rest count len h = h

pub returns-clause-spared : goal.returns-clause-spared
returns-clause-spared g c =
    let size : length c.read_part.new.part ≡ (c.args.count + 7) / 8 = grind (arith, common_steps, c.read_part.auto.part, c.div_ceil-size.ensures, c.requires.few) in
    spared_front c.read_part.result c.read_part.new.part _ c.args.count size c.read_part.ensures.spared
