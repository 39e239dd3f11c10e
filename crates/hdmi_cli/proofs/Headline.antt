-- What `recover` makes of the capture of a tap of columns received with sparse damage.
use Rattle.std.proofs.Common.{arith, ◌≡◌, ℕ, ◌+◌, ◌≤◌, Bool, List, length, refl, ap, ap₂, sym, ◌∙◌, subst, inl, inr}
use Rattle.std.specs.Prelude.{Option, Some}
use Rattle.std.specs.Io.KnownBytes.{Appends}
use Rattle.capture_file.specs.Captures.{IsCaptureOf}
use Rattle.lane_deskew.specs.Triples.{IsFirst}
use Rattle.lane_deskew.specs.Aligned.{aligned_columns}
use Rattle.lane_deskew.proofs.First.{one_first}
use Rattle.island_pack.specs.Sparse.{IsSparseInPayload}
use Rattle.period_grammar.specs.Events.{Event}
use Rattle.link_sink.specs.Grammar.{Grammar, link_grammar}
use Rattle.link_laws.proofs.Freely.{free_received}
use Rattle.link_laws.specs.Account.{account}
use Rattle.dvi_laws.specs.DviAccount.{dvi_account}
use Rattle.dvi_hearing.specs.DviGrammar.{dvi_grammar}
use Rattle.dvi_laws.proofs.Tapped.{tap_accounted as dvi_tap_accounted}
use Rattle.link_laws.specs.Laws.{IsAccounted, BeginColumn}
use Rattle.link_laws.proofs.Tapped.{payload_accounted, tap_accounted}
use Rattle.capture_commands.specs.Listings.{Listing as ListingOf, link_listing}
use Rattle.command_line.specs.Commands.{IsCommand}
use Rattle.capture_commands.specs.Outcome.{RunOutcome, ListsLanes, ListsCapture, Does, status_with}
use Rattle.hdmi_cli.specs.Headline.{TappedStream, IsTapped, AlignsBy, IsFirstOf, IsRecovered, IsRecoveredBy, Aligns, FromFirst, IsDviTapped, IsDviRecovered, aligned_of}
use Rattle.capture_commands.specs.Endings.{Devices, Answers, Ends, RunEnds, Unless, status_of}
use Rattle.capture_commands.specs.Samples.{SampleEnds}
use Rattle.command_line.specs.declared.command.Command.{Command}
use Rattle.command_line.specs.declared.command.Command.TheVariants.{RecoverDvi, RecoverLink, Sample}
use Rattle.command_line.proofs.OneCommand.{command_once}
use Rattle.capture_commands.specs.declared.ending.Ending.{Ending}
use Rattle.capture_commands.specs.declared.ending.Ending.TheVariants.{Done, Faulty, Usage, Listing, Raster, Capture, Place, Frames, TooLong, ReadFailed, WriteFailed, NoMemory, Unaligned}
use Rattle.capture_file.specs.Laws.{AreSame}
use Rattle.capture_file.proofs.OneCapture.{one_capture, no_fault}
use Rattle.capture_commands.proofs.Answered.{sample_answers}

-- where three lanes are aligned there is one first full alignment
pub aligned_same : (x y z : List Bool) (d e f p q r : ℕ) → IsFirst x y z d e f → IsFirst x y z p q r → aligned_columns x y z d e f ≡ aligned_columns x y z p q r
aligned_same x y z d e f p q r first other =
    let one = one_first x y z d e f p q r first other in
    ap (λ n. aligned_columns x y z n e f) one.0 ∙ ap₂ (λ m n. aligned_columns x y z p m n) one.1 one.2

-- an outcome is the listing of some things
pub record IsListingOf (listing : ListingOf) (all : List Event) (o : RunOutcome) : Type 0 where
  pub status : o.status ≡ status_with (listing.faults all)
  pub output : o.output ≡ listing.text all

lanes_listing : (g : Grammar) (listing : ListingOf) (all : List Event) (blue green red : List Bool) (d e f : ℕ) (o : RunOutcome)
    → IsFirst blue green red d e f → g.whole (aligned_columns blue green red d e f) ≡ all → ListsLanes g listing blue green red o → IsListingOf listing all o
lanes_listing g listing all blue green red d e f o first whole (inl (columns, events, reported, is)) = grind (arith, aligned_same)
lanes_listing g listing all blue green red d e f o first whole (inr (columns, events, nowhere, is)) = absurd (nowhere.nowhere d e f first.triple)

pub same_lanes : (g : Grammar) (listing : ListingOf) (x y z u v w : List Bool) (o : RunOutcome) → AreSame x y z u v w → ListsLanes g listing u v w o → ListsLanes g listing x y z o
same_lanes g listing x y z u v w o same h =
    subst (λ a. ListsLanes g listing a y z o) (sym same.blue) (subst (λ b. ListsLanes g listing u b z o) (sym same.green) (subst (λ c. ListsLanes g listing u v c o) (sym same.red) h))

-- the capture of such lanes is recovered so
pub capture_listing : (g : Grammar) (listing : ListingOf) (all : List Event) (blue green red : List Bool) (d e f : ℕ) (bytes : List ℕ) (o : RunOutcome)
    → IsCaptureOf blue green red bytes → IsFirst blue green red d e f → g.whole (aligned_columns blue green red d e f) ≡ all → ListsCapture g listing bytes o
    → IsListingOf listing all o
capture_listing g listing all blue green red d e f bytes o captured first whole (inl (x, y, z, is, recovers)) =
    let same = one_capture blue green red x y z bytes captured is in
    lanes_listing g listing all blue green red d e f o first whole (same_lanes g listing blue green red x y z o same recovers)
capture_listing g listing all blue green red d e f bytes o captured first whole (inr (fault, is)) =
    absurd (no_fault bytes fault (record { blue = blue; green = green; red = red; holds = captured }) is.is)

-- what a run says of it
answered : (listing : ListingOf) (command : Command) (t : TappedStream) (a d e f : ℕ) (ending : Ending) (before after : Devices)
    → ((o : RunOutcome) → Does command t.bytes o → ListsCapture link_grammar listing t.bytes o) → IsTapped t → IsFirstOf t d e f → IsAccounted t.periods t.sent t.received (aligned_of t d e f) a
    → BeginColumn t.offset t.skews (a + 12) d e f → before.left ≡ Some t.bytes → Answers command ending before after
    → IsRecovered listing t d e f a (status_of ending) before.held after.held
answered listing command t a d e f ending before after lists tapped first accounted begins left answers =
    let answer = answers t.bytes left in
    let all = account t.periods t.sent t.received a (length (aligned_of t d e f)) in
    let is = capture_listing link_grammar listing all t.blue t.green t.red d e f t.bytes answer.outcome tapped.captured first accounted.reported (lists answer.outcome answer.does) in
    record {
      accounted = accounted;
      begins = begins;
      status_is = sym answer.status ∙ is.status;
      written = subst (λ out. Appends before.held after.held out) is.output answer.written;
    }

ended : (P : ℕ → Option (List ℕ) → Option (List ℕ) → Type 0) (command : Command) (ending : Ending) (before after : Devices)
    → (Answers command ending before after → P (status_of ending) before.held after.held) → Ends command ending before after → Unless P (status_of ending) before after
ended P command Unaligned before after h k = inr (inr (inr (h k.2)))
ended P command ReadFailed before after h k = inl k.0
ended P command WriteFailed before after h k = inr (inl k.0)
ended P command NoMemory before after h k = inr (inr (inl refl))
ended P command Usage before after h k = absurd k
ended P command ending before after h k = inr (inr (inr (h k.1)))

-- and of a sample
sample_ended : (P : ℕ → Option (List ℕ) → Option (List ℕ) → Type 0) (frames : ℕ) (ending : Ending) (before after : Devices)
    → SampleEnds frames ending before.held after.held before.output_faults after.output_faults → (Answers (Sample frames) ending before after → P (status_of ending) before.held after.held) → Unless P (status_of ending) before after
sample_ended P frames Done before after ends says = inr (inr (inr (says (sample_answers frames before after ends))))
sample_ended P frames WriteFailed before after ends says = inr (inl ends.0)
sample_ended P frames NoMemory before after ends says = inr (inr (inl refl))
sample_ended P frames Faulty before after ends says = absurd ends
sample_ended P frames Usage before after ends says = absurd ends
sample_ended P frames (Listing fault) before after ends says = absurd ends
sample_ended P frames (Raster fault) before after ends says = absurd ends
sample_ended P frames (Capture fault) before after ends says = absurd ends
sample_ended P frames (Place i) before after ends says = absurd ends
sample_ended P frames (Frames fault) before after ends says = absurd ends
sample_ended P frames TooLong before after ends says = absurd ends
sample_ended P frames ReadFailed before after ends says = absurd ends
sample_ended P frames Unaligned before after ends says = absurd ends

-- a command that words name is the one that they name
named_ends : (words : List (List ℕ)) (command this : Command) (ending : Ending) (before after : Devices) → IsCommand words command → IsCommand words this
    → Ends command ending before after → Ends this ending before after
named_ends words command this ending before after named again ends =
    subst (λ (c : Command). Ends c ending before after) (command_once words command this named again) ends

-- what a run of a command says, from what each of its ends with an outcome says
pub run_ended : (P : ℕ → Option (List ℕ) → Option (List ℕ) → Type 0) (this : Command) (words : List (List ℕ)) (ending : Ending) (before after : Devices) (status : ℕ) → RunEnds words ending before after
    → status ≡ status_of ending → IsCommand words this → (Answers this ending before after → P (status_of ending) before.held after.held) → Unless P status before after
run_ended P this words ending before after status (inl (command, named, reads, ends, stops)) is again says =
    subst (λ s. Unless P s before after) (sym is) (ended P this ending before after says (named_ends words command this ending before after named again ends))
run_ended P this words ending before after status (inr (inl (frames, named, kept, ends))) is again says =
    subst (λ s. Unless P s before after) (sym is) (sample_ended P frames ending before after ends
    (λ answers. says (subst (λ (c : Command). Answers c ending before after) (command_once words (Sample frames) this named again) answers)))
run_ended P this words ending before after status (inr (inr (inl (none, usage, kept, held)))) is named says = absurd (none this named)
run_ended P this words ending before after status (inr (inr (inr (unheld, kept, held)))) is named says = inr (inr (inl (is ∙ ap status_of unheld)))

-- The first full alignment.

-- it is at or before each column until which damage spares control, guard and preamble words
at_or_before : (t : TappedStream) → IsTapped t → (d e f a : ℕ) → IsFirstOf t d e f → BeginColumn t.offset t.skews (a + 12) d e f → (until : ℕ) → AlignsBy t until → a + 12 ≤ until
at_or_before t tapped d e f a first begins until aligns =
    let law = tap_accounted t.periods t.sent t.received (free_received t.periods t.sent t.received tapped.reception) t.offset t.skews t.counts t.blue t.green t.red tapped.tap tapped.small until aligns in
    let one = one_first t.blue t.green t.red d e f law.0 law.1 law.2 first law.3 in
    let same = one.0 in
    let here = begins.blue in
    let there = law.4.3.blue in
    let before = law.4.1 in
    omega arith

-- the account of a tapped stream from there on
pub first_accounted : (t : TappedStream) → IsTapped t → Aligns t
    → FromFirst t (λ d e f a. IsAccounted t.periods t.sent t.received (aligned_of t d e f) a × BeginColumn t.offset t.skews (a + 12) d e f)
first_accounted t tapped (inl (alone, (d, e, f, first))) =
    let law = payload_accounted t.periods t.sent t.received (free_received t.periods t.sent t.received tapped.reception) alone t.offset t.skews t.counts t.blue t.green t.red tapped.tap tapped.small d e f first in
    (d, e, f, first, (law.0, at_or_before t tapped d e f law.0 first law.2, (law.1, law.2)))
first_accounted t tapped (inr (until, aligns)) =
    let law = tap_accounted t.periods t.sent t.received (free_received t.periods t.sent t.received tapped.reception) t.offset t.skews t.counts t.blue t.green t.red tapped.tap tapped.small until aligns in
    (law.0, law.1, law.2, law.3, (law.4.0, at_or_before t tapped law.0 law.1 law.2 law.4.0 law.3 law.4.3, (law.4.2, law.4.3)))

-- what holds of the first full alignment holds of any
at_first : (t : TappedStream) (P : ℕ → ℕ → ℕ → ℕ → Type 0) → FromFirst t P → (d e f : ℕ) → IsFirstOf t d e f → (a : ℕ) × P d e f a
at_first t P h d e f first =
    let one = one_first t.blue t.green t.red h.0 h.1 h.2 d e f h.3 first in
    (h.4.0, subst (λ n. P d e n h.4.0) one.2 (subst (λ n. P d n h.2 h.4.0) one.1 (subst (λ n. P n h.1 h.2 h.4.0) one.0 h.4.2)))

-- what follows where no device failed and memory was had
pub unless_so : (P Q : ℕ → Option (List ℕ) → Option (List ℕ) → Type 0) (status : ℕ) (before after : Devices) → (P status before.held after.held → Q status before.held after.held)
    → Unless P status before after → Unless Q status before after
unless_so P Q status before after h k = grind arith

-- what is recovered of a stream that aligns, by a premise from which that follows
pub recovered : (Known : TappedStream → Type 0) → ((t : TappedStream) → Known t → Aligns t) → (listing : ListingOf) (this : Command)
    → ((t : TappedStream) → IsTapped t → Known t → (o : RunOutcome) → Does this t.bytes o → ListsCapture link_grammar listing t.bytes o)
    → (words : List (List ℕ)) (ending : Ending) (before after : Devices) (status : ℕ) → RunEnds words ending before after → status ≡ status_of ending → IsCommand words this
    → (t : TappedStream) → IsTapped t → Known t → before.left ≡ Some t.bytes
    → Unless (λ s old new. FromFirst t (λ d e f a. IsRecovered listing t d e f a s old new)) status before after
recovered Known aligns listing this lists words ending before after status ends is named t tapped known left =
    let law = first_accounted t tapped (aligns t known) in
    run_ended (λ s old new. FromFirst t (λ d e f a. IsRecovered listing t d e f a s old new)) this words ending before after status ends is named
    (λ answers. (law.0, law.1, law.2, law.3, (law.4.0, law.4.1, answered listing this t law.4.0 law.0 law.1 law.2 ending before after (lists t tapped known) tapped law.3 law.4.2.0 law.4.2.1 left answers)))

-- sparse damage of payload alone
pub headlined : (words : List (List ℕ)) (ending : Ending) (before after : Devices) (status : ℕ) → RunEnds words ending before after → status ≡ status_of ending → IsCommand words RecoverLink
    → (t : TappedStream) → IsTapped t → IsSparseInPayload t.periods t.sent t.received → (d e f : ℕ) → IsFirstOf t d e f → before.left ≡ Some t.bytes
    → Unless (λ s old new. (a : ℕ) × IsRecovered link_listing t d e f a s old new) status before after
headlined words ending before after status ends is named t tapped alone d e f first left =
    unless_so
    (λ s old new. FromFirst t (λ p q r a. IsRecovered link_listing t p q r a s old new))
    (λ s old new. (a : ℕ) × IsRecovered link_listing t d e f a s old new)
    status before after
    (λ h. at_first t (λ p q r a. IsRecovered link_listing t p q r a status before.held after.held) h d e f first)
    (recovered Aligns (λ t aligns. aligns) link_listing RecoverLink (λ t tapped aligns o does. does) words ending before after status ends is named t tapped (inl (alone, (d, e, f, first))) left)

-- and damage anywhere that spares control and guard words until a column
pub headlined_anywhere : (words : List (List ℕ)) (ending : Ending) (before after : Devices) (status : ℕ) → RunEnds words ending before after → status ≡ status_of ending → IsCommand words RecoverLink
    → (t : TappedStream) → IsTapped t → (until : ℕ) → AlignsBy t until → before.left ≡ Some t.bytes
    → Unless (IsRecoveredBy link_listing t until) status before after
headlined_anywhere words ending before after status ends is named t tapped until aligns left =
    unless_so
    (λ s old new. FromFirst t (λ d e f a. IsRecovered link_listing t d e f a s old new))
    (IsRecoveredBy link_listing t until)
    status before after
    (λ h. (h.0, h.1, h.2, h.3, (h.4.0, h.4.1 until aligns, h.4.2)))
    (recovered Aligns (λ t aligns. aligns) link_listing RecoverLink (λ t tapped aligns o does. does) words ending before after status ends is named t tapped (inr (until, aligns)) left)

-- a stream without guard columns
pub dvi_headlined : (words : List (List ℕ)) (ending : Ending) (before after : Devices) (status : ℕ) → RunEnds words ending before after → status ≡ status_of ending → IsCommand words RecoverDvi
    → (t : TappedStream) → IsDviTapped t → (d e f : ℕ) → IsFirstOf t d e f → before.left ≡ Some t.bytes
    → Unless (λ s old new. (a : ℕ) × IsDviRecovered t d e f a s old new) status before after
dvi_headlined words ending before after status ends is named t tapped d e f first left =
    let law = dvi_tap_accounted t.periods t.sent t.received tapped.conforming tapped.three tapped.spelled tapped.sparse t.offset t.skews t.counts t.blue t.green t.red tapped.tap tapped.small d e f first in
    run_ended (λ s old new. (a : ℕ) × IsDviRecovered t d e f a s old new) RecoverDvi words ending before after status ends is named
    (λ answers.
    let answer = answers t.bytes left in
    let all = dvi_account t.periods t.sent t.received law.0 (length (aligned_of t d e f)) in
    let is = capture_listing dvi_grammar link_listing all t.blue t.green t.red d e f t.bytes answer.outcome tapped.captured first law.1.reported answer.does in (
      law.0,
      record {
        accounted = law.1;
        begins = law.2;
        status_is = sym answer.status ∙ is.status;
        written = subst (λ out. Appends before.held after.held out) is.output answer.written;
      },
    ))
