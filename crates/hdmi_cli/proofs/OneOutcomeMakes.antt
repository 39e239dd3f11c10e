-- What listings and contents are made into is one outcome.
use Rattle.std.proofs.Common.{◌≡◌, List, [], ◌∷◌, ◌++◌, ap, ap₂, ◌∙◌, sym, Option, Some, None}
use Rattle.tmds_word.specs.Column.{Column}
use Rattle.island_pack.specs.Periods.{Period, control, video, island, pixels_of}
use Rattle.island_pack.specs.Spelling.{Spells}
use Rattle.source_end.specs.Content.{Frame}
use Rattle.source_end.specs.DviPeriods.{DviSpells, DviSpellsPeriod}
use Rattle.source_end.specs.Raster.{raster_of}
use Rattle.source_end.specs.RasterRefusals.{raster_fault}
use Rattle.source_end.specs.declared.mode.Mode.{Mode}
use Rattle.source_end.specs.declared.refusal.RasterFault.{RasterFault}
use Rattle.capture_file.specs.declared.writing.Tap.{Tap}
use Rattle.capture_file.specs.Taps.{tapped_capture}
use Rattle.listing_reader.specs.LineSteps.{Read, accepts, refuses}
use Rattle.relay.proofs.OneSpelling.{one_line, one_spelling}
use Rattle.capture_commands.specs.Outcome.{RunOutcome, MakesStream, MakesLink, MakesRaster, MakesContent}

-- periods are spelled by one list of columns at most
abbrev SpellsOnce : (List Period → List Column → Type 0) → Type 0
SpellsOnce spells = (ps : List Period) (cs ds : List Column) → spells ps cs → spells ps ds → cs ≡ ds

one_dvi_period : (p : Period) (cs ds : List Column) → DviSpellsPeriod p cs → DviSpellsPeriod p ds → cs ≡ ds
one_dvi_period (control runs) cs ds h k = h ∙ sym k
one_dvi_period (video bytes) cs ds h k = one_line (pixels_of bytes) cs ds h k
one_dvi_period (island x) cs ds h k = absurd h

-- without guard columns too
pub one_dvi_spelling : (ps : List Period) (cs ds : List Column) → DviSpells ps cs → DviSpells ps ds → cs ≡ ds
one_dvi_spelling [] cs ds h k = h ∙ sym k
one_dvi_spelling (p ∷ ps) cs ds h k =
    h.2 ∙ ap₂ (λ (xs ys : List Column). xs ++ ys) (one_dvi_period p h.0 k.0 h.3 k.3) (one_dvi_spelling ps h.1 k.1 h.4 k.4) ∙ sym k.2

stream_once : (spells : List Period → List Column → Type 0) → SpellsOnce spells → (tap : Tap) (ps : List Period) (o p : RunOutcome) → MakesStream spells tap ps o → MakesStream spells tap ps p → o ≡ p
stream_once spells once tap ps o p a b =
    a.2 ∙ ap (λ (cs : List Column). record { status = 0; output = tapped_capture cs tap; note = [] }) (once ps a.0 b.0 a.1 b.1) ∙ sym b.2

pub makes_once : (spells : List Period → List Column → Type 0) → SpellsOnce spells → (tap : Tap) (read : Read (List Period)) (o p : RunOutcome) → MakesLink spells tap read o → MakesLink spells tap read p
    → o ≡ p
makes_once spells once tap (accepts periods) o p a b = stream_once spells once tap periods o p a b
makes_once spells once tap (refuses line cause) o p a b = a ∙ sym b

raster_once : (tap : Tap) (mode : Mode) (frames : List Frame) (fault : Option RasterFault) (o p : RunOutcome) → MakesRaster tap mode frames fault o → MakesRaster tap mode frames fault p → o ≡ p
raster_once tap mode frames None o p a b = stream_once Spells one_spelling tap (raster_of mode frames) o p a b
raster_once tap mode frames (Some fault) o p a b = a ∙ sym b

pub content_once : (tap : Tap) (read : Read (Mode × List Frame)) (o p : RunOutcome) → MakesContent tap read o → MakesContent tap read p → o ≡ p
content_once tap (accepts content) o p a b = raster_once tap content.0 content.1 (raster_fault content.0 content.1) o p a b
content_once tap (refuses line cause) o p a b = a ∙ sym b
