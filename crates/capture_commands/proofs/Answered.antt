-- The outcomes that the commands end with.
use Rattle.std.proofs.Common.{◌≡◌, ◌⊎◌, ℕ, ◌<◌, ◌≤◌, List, [], ◌∷◌, ◌++◌, map, refl, ap, sym, ◌∙◌, subst, inl, inr, arith}
use Rattle.std.specs.Prelude.{Option, Some, None, Result, Ok, Err, OnOk, IfErr, All, codes}
use Rattle.outside_io.specs.Causes.{Rose}
use Rattle.std.specs.Io.KnownBytes.{Appends, Keeps, IsAtEnd}
use Rattle.std.proofs.KnownBytes.{Appends-nil}
use Rattle.std.proofs.lemmas.List.Elements.{All-nil, All-cons, All-map}
use Rattle.tmds_word.specs.Column.{Column}
use Rattle.capture_file.specs.BlockDamage.{IsDamagedCapture, IsMisplacedIn, IsMisplacedLane, IsDamageFault, SaysBad, ReadFailed as DamageReadFailed, WriteFailed as DamageWriteFailed}
use Rattle.capture_file.proofs.Marks.{consumed}
use Rattle.capture_file.proofs.Damages.{nothing_written}
use Rattle.capture_file.specs.declared.damaging.Hit.{Hit}
use Rattle.capture_file.specs.declared.damaging.DamageError.{DamageError}
use Rattle.capture_file.specs.declared.damaging.DamageError.TheVariants as damages
use Rattle.capture_file.specs.Captures.{IsFault}
use Rattle.capture_file.specs.Slips.{IsSlippedCapture, IsWithinLane, IsPastLane, SaysFaulty, StopsReading, StopsWriting}
use Rattle.capture_file.specs.declared.fault.CaptureFault.{CaptureFault}
use Rattle.capture_file.specs.declared.slipping.SlipError.{SlipError}
use Rattle.capture_file.specs.declared.slipping.SlipError.TheVariants as slips
use Rattle.biphase_listing.specs.FrameText.{frames_text}
use Rattle.biphase_listing.specs.Reading.{IsListed, Stops, IsCaused}
use Rattle.biphase_listing.specs.declared.fault.BiphaseError.{BiphaseError}
use Rattle.biphase_listing.specs.declared.fault.BiphaseError.TheVariants as biphases
use Rattle.command_line.specs.declared.slip.SlipWord.{SlipWord}
use Rattle.capture_file.specs.Taps.{tapped_capture}
use Rattle.capture_file.specs.declared.writing.Tap.{Tap}
use Rattle.island_pack.specs.Periods.{Period}
use Rattle.island_pack.specs.Spelling.{Spells}
use Rattle.listing_reader.specs.Answers.{Answers as AnswersReading, IsCaused as IsListCaused}
use Rattle.listing_reader.specs.Reading.{reads_as}
use Rattle.listing_reader.specs.DviReading.{dvi_reads_as}
use Rattle.listing_reader.specs.LineSteps.{Read, accepts, refuses}
use Rattle.listing_reader.specs.ContentKept.{rastered, read_by}
use Rattle.listing_reader.specs.ContentReading.{content_reads_as}
use Rattle.listing_reader.specs.declared.fault.ListCause.{ListCause}
use Rattle.source_end.specs.Content.{Frame}
use Rattle.source_end.specs.DviPeriods.{DviSpells}
use Rattle.source_end.specs.Raster.{raster_of}
use Rattle.source_end.specs.RasterRefusals.{raster_fault, AnswersRasterFault}
use Rattle.source_end.specs.declared.mode.Mode.{Mode}
use Rattle.source_end.specs.declared.refusal.RasterFault.{RasterFault}
use Rattle.source_end.specs.declared.refusal.RasterFault.TheVariants.{Row, NoRoom, Long, NoMemory as NoRaster}
use Rattle.listing_reader.specs.declared.fault.ListFault.{ListFault}
use Rattle.listing_reader.specs.declared.fault.ListError.{ListError}
use Rattle.listing_reader.specs.declared.fault.ListError.TheVariants as lists
use Rattle.listing_reader.specs.declared.fault.ListError.TheVariants.{Bad as BadListing}
use Rattle.capture_commands.specs.Notes.{listing_note, raster_note, capture_note, frames_note, place_note}
use Rattle.capture_commands.specs.Commands.{hit_asked, tap_asked}
use Rattle.command_line.specs.declared.damage.DamageWord.{DamageWord}
use Rattle.command_line.specs.declared.tap.TapWords.{TapWords}
use Rattle.command_line.specs.Damages.{AreDamages}
use Rattle.command_line.specs.Commands.{IsCommand as IsLine, IsVersion}
use Rattle.capture_commands.specs.Outcome.{RunOutcome, MakesLink, MakesStream, MakesRaster, MakesContent, Does}
use Rattle.sampling.specs.Counts.{counts_text}
use Rattle.capture_commands.specs.Samples.{IsSampleWhole}
use Rattle.capture_commands.specs.Endings.{Devices, IsAnswered, Answers, Parts, Ends, EndsReadFailed, EndsWriteFailed, ColumnsEnd, ListingEnds, StreamEnds, damage_ending, frames_ending, raster_ending, slip_ending}
use Rattle.capture_commands.specs.Manners.{WritesOn}
use Rattle.command_line.specs.declared.command.Command.{Command}
use Rattle.command_line.specs.declared.command.Command.TheVariants.{MakeLink, MakeContent, MakeDvi, RecoverBiphase, Slip, ReadBiphase, Damage, Sample}
use Rattle.capture_commands.specs.declared.ending.Ending.{Ending}
use Rattle.capture_commands.specs.declared.ending.Ending.TheVariants.{Done, Faulty, Usage, Listing, Raster, Capture, Place, Frames, TooLong, ReadFailed, WriteFailed, NoMemory, Unaligned}

-- `make link` and `make dvi`

pub bad_listing : {T : Type 0} (reading : Read T) (r : Result T ListError) (e : ListError) (f : ListFault) → AnswersReading reading r → r ≡ Err e → e ≡ BadListing f → reading ≡ refuses f.line f.cause
bad_listing reading r e f answers is bad = subst (λ x. AnswersReading reading x) (is ∙ ap Err bad) answers

same_held : (old new : Option (List ℕ)) → new ≡ old → Appends old new []
same_held old new kept = subst (λ h. Appends old h []) (sym kept) (Appends-nil old)

-- a stream that is written ends a command that makes it
pub stream_ends : (spells : List Period → List Column → Type 0) (command : Command) (tap : Tap) (ps : List Period) (e : Ending) (before after : Devices)
    → ((text : List ℕ) (o : RunOutcome) → before.left ≡ Some text → MakesStream spells tap ps o → Does command text o)
    → (Parts command before after → EndsWriteFailed command before after) → (WritesOn command → ⊥)
    → IsAtEnd after.left → StreamEnds spells tap ps e before.held after.held before.output_faults after.output_faults → Ends command e before after
stream_ends spells command tap ps Done before after makes unwritten other end is = (
  end,
  λ text reported. record {
    outcome = record { status = 0; output = tapped_capture is.columns tap; note = [] };
    does = makes text (record { status = 0; output = tapped_capture is.columns tap; note = [] }) reported (is.columns, is.spelled, refl);
    status = refl;
    note = refl;
    written = is.written;
  },
)
stream_ends spells command tap ps WriteFailed before after makes unwritten other end is = (
  is.0,
  unwritten (λ text reported. record {
    outcome = record { status = 0; output = tapped_capture is.1.columns tap; note = [] };
    gone = is.1.gone;
    does = makes text (record { status = 0; output = tapped_capture is.1.columns tap; note = [] }) reported (is.1.columns, is.1.spelled, refl);
    status = (0, omega arith, refl);
    missing = is.1.missing;
    written = is.1.written;
  }),
)
stream_ends spells command tap ps NoMemory before after makes unwritten other end is = (is, λ reads. absurd (other reads))
stream_ends spells command tap ps Faulty before after makes unwritten other end is = absurd is
stream_ends spells command tap ps Usage before after makes unwritten other end is = absurd is
stream_ends spells command tap ps (Listing fault) before after makes unwritten other end is = absurd is
stream_ends spells command tap ps (Raster fault) before after makes unwritten other end is = absurd is
stream_ends spells command tap ps (Capture fault) before after makes unwritten other end is = absurd is
stream_ends spells command tap ps (Place i) before after makes unwritten other end is = absurd is
stream_ends spells command tap ps (Frames fault) before after makes unwritten other end is = absurd is
stream_ends spells command tap ps TooLong before after makes unwritten other end is = absurd is
stream_ends spells command tap ps ReadFailed before after makes unwritten other end is = absurd is
stream_ends spells command tap ps Unaligned before after makes unwritten other end is = absurd is

same_kept : (old new : Option (List ℕ)) → new ≡ old → Keeps old new
same_kept None new same = tt
same_kept (Some xs) new same = subst (λ h. Keeps (Some xs) h) (sym same) refl

listing_refused : (spells : List Period → List Column → Type 0) (command : Command) (tap : Tap) (reading : Read (List Period)) (fault : ListFault) (before after : Devices) (text : List ℕ)
    → ((o : RunOutcome) → MakesLink spells tap reading o → Does command text o) → reading ≡ refuses fault.line fault.cause → after.held ≡ before.held → IsAnswered command (Listing fault) before after text
listing_refused spells command tap reading fault before after text does read kept = record {
  outcome = record { status = 3; output = []; note = listing_note fault.line fault.cause };
  does = does (record { status = 3; output = []; note = listing_note fault.line fault.cause }) (subst (λ r. MakesLink spells tap r (record { status = 3; output = []; note = listing_note fault.line fault.cause })) (sym read) refl);
  status = refl;
  note = refl;
  written = same_held before.held after.held kept;
}

-- a listing that is read and written, or is not, ends a command that makes it
pub listing_ends : (spells : List Period → List Column → Type 0) (command : Command) (reads : List ℕ → Read (List Period)) (words : TapWords) (read : Result (List Period) ListError) (e : Ending) (before after : Devices)
    → ((text : List ℕ) (o : RunOutcome) → MakesLink spells (tap_asked words) (reads text) o → Does command text o)
    → (Parts command before after → EndsWriteFailed command before after) → (Keeps before.held after.held → EndsReadFailed command before after) → (WritesOn command → ⊥)
    → ((text : List ℕ) → before.left ≡ Some text → AnswersReading (reads text) read) → OnOk read (IsAtEnd after.left) → IfErr read (λ error. IsListCaused before.input_faults after.input_faults error)
    → ListingEnds spells (tap_asked words) read e before.held after.held before.output_faults after.output_faults → Ends command e before after
listing_ends spells command reads words (Ok ps) e before after does unwritten unread other answers end caused is =
    stream_ends spells command (tap_asked words) ps e before after
    (λ text o left made. does text o (subst (λ r. MakesLink spells (tap_asked words) r o) (sym (answers text left)) made)) unwritten other end is
listing_ends spells command reads words (Err (lists.Bad fault)) e before after does unwritten unread other answers end caused is =
    subst (λ x. Ends command x before after) (sym is.0)
    (same_kept before.held after.held is.1, λ text left. listing_refused spells command (tap_asked words) (reads text) fault before after text (does text) (answers text left) is.1)
listing_ends spells command reads words (Err lists.Read) e before after does unwritten unread other answers end caused is =
    subst (λ x. Ends command x before after) (sym is.0) (caused, unread (same_kept before.held after.held is.1))
listing_ends spells command reads words (Err lists.NoMemory) e before after does unwritten unread other answers end caused is =
    subst (λ x. Ends command x before after) (sym is.0) (same_kept before.held after.held is.1, λ reads. absurd (other reads))

-- a stream that was spelled into columns

pub spelled_ends : (spells : List Period → List Column → Type 0) (tap : Tap) (ps : List Period) (taken : List Column) (e : Ending) (old new : Option (List ℕ)) (before after : ℕ) → ((columns : List Column) × (taken ≡ [] ++ columns) × spells ps columns)
    → ColumnsEnd tap taken e old new before after → StreamEnds spells tap ps e old new before after
spelled_ends spells tap ps taken e old new before after h k = grind arith

-- `make content`

pub read_contents : (reading : Read (Mode × List Frame)) (r : Result (Result (Mode × List Frame) RasterFault) ListError) (content : Mode × List Frame)
    → AnswersReading (read_by rastered reading) r → r ≡ Ok (Ok content) → reading ≡ accepts content
read_contents reading r content answers is = grind arith

pub line_refused : (reading : Read (Mode × List Frame)) (line : ℕ) (cause : ListCause) → read_by rastered reading ≡ refuses line cause → reading ≡ refuses line cause
line_refused reading line cause h = grind arith

-- a text that describes a content without a raster
pub record HasNoRaster (text : List ℕ) (fault : RasterFault) : Type 0 where
  pub mode : Mode
  pub frames : List Frame
  pub read : content_reads_as text ≡ accepts (mode, frames)
  pub fault_is : raster_fault mode frames ≡ Some fault

pub read_fault : (text : List ℕ) (r : Result (Result (Mode × List Frame) RasterFault) ListError) (fault : RasterFault)
    → AnswersReading (read_by rastered (content_reads_as text)) r → r ≡ Ok (Err fault) → HasNoRaster text fault
read_fault text r fault answers is = grind arith

pub content_refused : (words : TapWords) (fault : ListFault) (before after : Devices) (text : List ℕ) → content_reads_as text ≡ refuses fault.line fault.cause → after.held ≡ before.held
    → IsAnswered (MakeContent words) (Listing fault) before after text
content_refused words fault before after text read kept = record {
  outcome = record { status = 3; output = []; note = listing_note fault.line fault.cause };
  does = subst (λ r. MakesContent (tap_asked words) r (record { status = 3; output = []; note = listing_note fault.line fault.cause })) (sym read) refl;
  status = refl;
  note = refl;
  written = same_held before.held after.held kept;
}

-- the raster of a content, or its fault

is_failed : {T : Type 0} → Result T RasterFault → Type 0
is_failed (Ok x) = ⊥
is_failed (Err x) = Unit {0}

failed_alone : {T : Type 0} (x : RasterFault) (y : T) → Err x ≡ Ok y → ⊥
unfolding is_failed
failed_alone x y e = subst is_failed e tt

fault_or : {T : Type 0} → RasterFault → Result T RasterFault → RasterFault
fault_or d (Ok x) = d
fault_or d (Err x) = x

fault_reported : {T : Type 0} (o : Option RasterFault) (r : Result T RasterFault) (fault : RasterFault) → AnswersRasterFault o r → r ≡ Err fault → (fault ≡ NoRaster → ⊥) → o ≡ Some fault
unfolding fault_or
fault_reported o r fault h k l = grind (arith, failed_alone, fault_or)

pub makes_content : {T : Type 0} (words : TapWords) (mode : Mode) (frames : List Frame) (r : Result T RasterFault) (done : T) (text : List ℕ) (o : RunOutcome) → content_reads_as text ≡ accepts (mode, frames)
    → AnswersRasterFault (raster_fault mode frames) r → r ≡ Ok done → MakesStream Spells (tap_asked words) (raster_of mode frames) o → Does (MakeContent words) text o
makes_content words mode frames r done text o read answers ok made = grind (arith, failed_alone)

pub made_fault : {T : Type 0} (text : List ℕ) (mode : Mode) (frames : List Frame) (r : Result T RasterFault) (fault : RasterFault) → content_reads_as text ≡ accepts (mode, frames)
    → AnswersRasterFault (raster_fault mode frames) r → r ≡ Err fault → (fault ≡ NoRaster → ⊥) → HasNoRaster text fault
made_fault text mode frames r fault read answers err other = record { mode = mode; frames = frames; read = read; fault_is = fault_reported (raster_fault mode frames) r fault answers err other }

raster_refused : (words : TapWords) (fault : RasterFault) (before after : Devices) (text : List ℕ) → HasNoRaster text fault → after.held ≡ before.held → IsAnswered (MakeContent words) (Raster fault) before after text
raster_refused words fault before after text none kept = record {
  outcome = record { status = 3; output = []; note = raster_note fault };
  does =
      subst (λ x. MakesContent (tap_asked words) x (record { status = 3; output = []; note = raster_note fault })) (sym none.read)
      (subst (λ f. MakesRaster (tap_asked words) none.mode none.frames f (record { status = 3; output = []; note = raster_note fault })) (sym none.fault_is) refl);
  status = refl;
  note = refl;
  written = same_held before.held after.held kept;
}

row_is_other : (f r : ℕ) → Row f r ≡ NoRaster → ⊥
row_is_other f r e = cc

room_is_other : (f p : ℕ) → NoRoom f p ≡ NoRaster → ⊥
room_is_other f p e = cc

long_is_other : Long ≡ NoRaster → ⊥
long_is_other e = cc

pub raster_ends : (words : TapWords) (fault : RasterFault) (before after : Devices) → ((fault ≡ NoRaster → ⊥) → (text : List ℕ) → before.left ≡ Some text → HasNoRaster text fault) → after.held ≡ before.held
    → Ends (MakeContent words) (raster_ending fault) before after
raster_ends words fault before after h k = grind (arith, raster_refused, row_is_other, room_is_other, long_is_other)

-- `damage`

-- what a copy of a capture with its hits says of its answer
pub record Damaged (hits : List Hit) (before after : Devices) (r : Result (Unit {0}) DamageError) : Type 0 where
  pub done : (bytes : List ℕ) → before.left ≡ Some bytes → OnOk r ((whole : List ℕ) × IsDamagedCapture bytes hits whole × Appends before.held after.held whole)
  pub bad : (bytes : List ℕ) → before.left ≡ Some bytes → IfErr r (λ e. SaysBad (λ fault. IsDamageFault bytes hits before.held after.held fault) e)
  pub place : (i : ℕ) → r ≡ Err (damages.Place i) → IsMisplacedLane before.left after.left hits i × Keeps before.held after.held
  pub read : r ≡ Err damages.Read → DamageReadFailed before.left after.left hits before.held after.held
  pub part : r ≡ Err damages.Write → DamageWriteFailed before.left after.left hits before.held after.held
  pub ended : OnOk r (IsAtEnd after.left)
  pub read_cause : r ≡ Err damages.Read → Rose before.input_faults after.input_faults
  pub write_cause : r ≡ Err damages.Write → Rose before.output_faults after.output_faults

-- the header that was taken is that of the bytes
misplaced : (hits : List Hit) (left rest : Option (List ℕ)) (bytes : List ℕ) (i : ℕ) → left ≡ Some bytes → IsMisplacedLane left rest hits i → IsMisplacedIn bytes hits i
misplaced hits left rest bytes i reported h =
    let c = consumed left rest bytes h.head reported h.took in
    record { head = h.head; tail = c.0; counts = h.counts; headed = h.headed; bytes_are = c.1; first = h.first }

pub damaged : (words : List DamageWord) (r : Result (Unit {0}) DamageError) (before after : Devices)
    → Damaged (map hit_asked words) before after r → Ends (Damage words) (damage_ending r) before after
damaged words (Ok done) before after it = (
  it.ended,
  λ bytes reported. let whole = it.done bytes reported in record {
    outcome = record { status = 0; output = whole.0; note = [] };
    does = inl (whole.0, whole.1, refl);
    status = refl;
    note = refl;
    written = whole.2;
  },
)
damaged words (Err (damages.Bad fault)) before after it = (
  λ last. absurd last,
  λ bytes reported. let bad = it.bad bytes reported in record {
    outcome = record { status = 3; output = bad.0; note = capture_note fault };
    does = inr (inr (fault, bad.0, bad.1, refl));
    status = refl;
    note = refl;
    written = bad.2;
  },
)
damaged words (Err (damages.Place i)) before after it =
    let p = it.place i refl in (
      p.1,
      λ bytes reported. record {
        outcome = record { status = 3; output = []; note = place_note i };
        does = inr (inl (i, misplaced (map hit_asked words) before.left after.left bytes i reported p.0, refl));
        status = refl;
        note = refl;
        written = nothing_written before.held after.held p.1;
      },
    )
damaged words (Err damages.Read) before after it = (it.read_cause refl, it.read refl)
damaged words (Err damages.Write) before after it = (it.write_cause refl, it.part refl)

-- the lanes of the hits that words ask for, as a copy wants them
lanes_of_damages : (texts : List (List ℕ)) (words : List DamageWord) → AreDamages texts words → All (λ (w : DamageWord). w.lane < 3) words
lanes_of_damages [] [] are = All-nil (λ (w : DamageWord). w.lane < 3)
lanes_of_damages [] (w ∷ ws) are = absurd are
lanes_of_damages (text ∷ texts) [] are = absurd are
lanes_of_damages (text ∷ texts) (w ∷ ws) are = All-cons (λ (w : DamageWord). w.lane < 3) w ws are.0.lane (lanes_of_damages texts ws are.1)

pub lanes_of_line : (words : List (List ℕ)) (damages : List DamageWord) → IsLine words (Damage damages) → All (λ (w : DamageWord). w.lane < 3) damages
lanes_of_line words damages named = lanes_of_damages named.operands damages named.means.1.0

pub lanes_of_hits : (words : List DamageWord) → All (λ (w : DamageWord). w.lane < 3) words → All (λ (h : Hit). h.lane < 3) (map hit_asked words)
lanes_of_hits words all = All-map (λ (h : Hit). h.lane < 3) hit_asked words all

version_asked : (text : Option (List ℕ)) (n : ℕ) → IsVersion text n → (n ≡ 1) ⊎ (n ≡ 2)
version_asked text n h = grind arith

pub version_of_line : (words : List (List ℕ)) (tap : TapWords) → IsLine words (MakeLink tap) → (tap.version ≡ 1) ⊎ (tap.version ≡ 2)
version_of_line words tap named = version_asked named.means.2.version_text tap.version named.means.2.version

pub version_of_dvi : (words : List (List ℕ)) (tap : TapWords) → IsLine words (MakeDvi tap) → (tap.version ≡ 1) ⊎ (tap.version ≡ 2)
version_of_dvi words tap named = version_asked named.means.2.version_text tap.version named.means.2.version

pub version_of_content : (words : List (List ℕ)) (tap : TapWords) → IsLine words (MakeContent tap) → (tap.version ≡ 1) ⊎ (tap.version ≡ 2)
version_of_content words tap named = version_asked named.means.2.version_text tap.version named.means.2.version

-- the pair that `recover biphase` asks for
pub pair_of_line : (words : List (List ℕ)) (pair : ℕ) → IsLine words (RecoverBiphase pair) → pair < 4
pair_of_line words pair named = let few = named.means.1.1 in omega (arith, few)

-- `sample`

pub sample_answers : (frames : ℕ) (before after : Devices) → IsSampleWhole frames before.held after.held → Answers (Sample frames) Done before after
sample_answers frames before after is text reported = record {
  outcome = record { status = 0; output = counts_text is.counts; note = [] };
  does = (is.counts, is.sampled, refl);
  status = refl;
  note = refl;
  written = is.written;
}

pub frames_of_line : (words : List (List ℕ)) (frames : ℕ) → IsLine words (Sample frames) → frames ≤ 20
frames_of_line words frames named = named.means.1.2.few

-- `slip`

-- what a copy without the bits of a slip says of its answer
pub record Slipped (slip : SlipWord) (before after : Devices) (r : Result (Unit {0}) SlipError) : Type 0 where
  pub done : (bytes : List ℕ) → before.left ≡ Some bytes → OnOk r ((whole : List ℕ) × IsSlippedCapture bytes slip.lane slip.place slip.bits whole × Appends before.held after.held whole)
  pub bad : (bytes : List ℕ) → before.left ≡ Some bytes → IfErr r (λ e. SaysFaulty (λ fault. IsFault bytes fault × IsWithinLane bytes slip.lane slip.place slip.bits) e)
  pub part : (bytes : List ℕ) → before.left ≡ Some bytes → r ≡ Err slips.Write → StopsWriting bytes slip.lane slip.place slip.bits before.held after.held × IsAtEnd after.left
  pub place : r ≡ Err slips.Place → IsPastLane before.left after.left slip.lane slip.place slip.bits
  pub read : r ≡ Err slips.Read → StopsReading before.left after.left slip.lane slip.place slip.bits
  pub unwritten : IfErr r (λ e. (e ≡ slips.Write → ⊥) → Keeps before.held after.held)
  pub ended : OnOk r (IsAtEnd after.left)
  pub read_cause : r ≡ Err slips.Read → Rose before.input_faults after.input_faults
  pub write_cause : r ≡ Err slips.Write → Rose before.output_faults after.output_faults

bad_is_no_write : (fault : CaptureFault) → slips.Bad fault ≡ slips.Write → ⊥
bad_is_no_write fault e = cc

place_is_no_write : slips.Place ≡ slips.Write → ⊥
place_is_no_write e = cc

pub slipped_ends : (slip : SlipWord) (r : Result (Unit {0}) SlipError) (before after : Devices) → Slipped slip before after r → Ends (Slip slip) (slip_ending r) before after
slipped_ends slip (Ok done) before after it = (
  it.ended,
  λ bytes reported. let whole = it.done bytes reported in record {
    outcome = record { status = 0; output = whole.0; note = [] };
    does = inl (whole.0, whole.1, refl);
    status = refl;
    note = refl;
    written = whole.2;
  },
)
slipped_ends slip (Err (slips.Bad fault)) before after it =
    let kept = it.unwritten (bad_is_no_write fault) in (
      λ last. kept,
      λ bytes reported. let bad = it.bad bytes reported in record {
        outcome = record { status = 3; output = []; note = capture_note fault };
        does = inr (inr (fault, bad.0, bad.1, refl));
        status = refl;
        note = refl;
        written = nothing_written before.held after.held kept;
      },
    )
slipped_ends slip (Err slips.Place) before after it =
    let kept = it.unwritten place_is_no_write in
    let p = it.place refl in (
      kept,
      λ bytes reported. let c = consumed before.left after.left bytes p.head reported p.took in record {
        outcome = record { status = 3; output = []; note = place_note 0 };
        does = inr (inl ((p.head, p.counts, c.0, p.headed, c.1, p.past), refl));
        status = refl;
        note = refl;
        written = nothing_written before.held after.held kept;
      },
    )
slipped_ends slip (Err slips.Read) before after it = grind arith
slipped_ends slip (Err slips.Write) before after it = (
  it.write_cause refl,
  λ bytes reported. let part = (it.part bytes reported refl).0 in record {
    outcome = record { status = 0; output = part.whole; note = [] };
    gone = part.gone;
    does = inl (part.whole, part.slips, refl);
    status = (0, omega arith, refl);
    missing = part.missing;
    written = part.wrote;
  },
)
slipped_ends slip (Err slips.NoMemory) before after it = grind arith

-- `read biphase`

-- what a list of frames says of its answer
pub record FramesListed (before after : Devices) (r : Result (Unit {0}) BiphaseError) : Type 0 where
  pub whole : (bytes : List ℕ) → before.left ≡ Some bytes → OnOk r (IsListed bytes before.held after.held)
  pub ended : OnOk r (IsAtEnd after.left)
  pub stopped : IfErr r (Stops before.left after.left before.held after.held)
  pub caused : IfErr r (IsCaused before.input_faults after.input_faults before.output_faults after.output_faults)

pub frames_end : (r : Result (Unit {0}) BiphaseError) (before after : Devices) → FramesListed before after r → Ends ReadBiphase (frames_ending r) before after
frames_end (Ok done) before after it = (
  it.ended,
  λ bytes reported. let l = it.whole bytes reported in record {
    outcome = record { status = 0; output = frames_text l.samples ++ codes "end\n"; note = [] };
    does = inl (l.samples, l.stream, refl);
    status = refl;
    note = refl;
    written = l.written;
  },
)
frames_end (Err (biphases.Bad fault)) before after it = (
  λ last. absurd last,
  λ bytes reported. let l = it.stopped.1 bytes reported in record {
    outcome = record { status = 3; output = frames_text l.samples; note = frames_note fault };
    does = inr (fault, l.samples, l.refused, refl);
    status = refl;
    note = refl;
    written = l.written;
  },
)
frames_end (Err biphases.Read) before after it = (it.caused, it.stopped)
frames_end (Err biphases.Write) before after it = (it.caused, it.stopped)

-- what is as it was is kept
pub keeps_itself : (held : Option (List ℕ)) → Keeps held held
keeps_itself held = grind arith
