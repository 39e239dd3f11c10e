-- What a command lists of a capture of which anything may have been received after the alignment.
use Rattle.std.proofs.Common.{◌≡◌, ℕ, ◌+◌, ◌-◌, List, ◌++◌, length, map, take, drop, refl, ap, sym, ◌∙◌, subst, append_assoc, arith, length-take, length-drop}
use Rattle.std.specs.Prelude.{Some}
use Rattle.std.specs.Io.KnownBytes.{Appends}
use Rattle.tmds_word.specs.Column.{Column}
use Rattle.island_pack.specs.Periods.{columns_of}
use Rattle.island_pack.specs.Spelling.{SpellsBy, freely}
use Rattle.period_grammar.specs.Events.{Event, event_of}
use Rattle.period_grammar.specs.Heard.{heard_so_far, heard}
use Rattle.link_sink.specs.Grammar.{link_grammar}
use Rattle.link_laws.proofs.LocalLanes.{aligned_whatever_follows}
use Rattle.link_laws.proofs.LocalStream.{stream_anywhere}
use Rattle.command_line.specs.Commands.{IsCommand}
use Rattle.command_line.specs.declared.command.Command.{Command}
use Rattle.capture_commands.specs.Listings.{Listing as ListingOf}
use Rattle.capture_commands.specs.Listers.{IsText}
use Rattle.capture_commands.specs.Outcome.{RunOutcome, ListsCapture, Does}
use Rattle.hdmi_cli.specs.Headline.{TappedStream, AlignsBy, aligned_of}
use Rattle.capture_commands.specs.Endings.{Devices, RunEnds, Unless, status_of}
use Rattle.hdmi_cli.specs.Local.{IsTappedUntil, HasRows, IsHeardBy, row_of, reported_to}
use Rattle.capture_commands.specs.declared.ending.Ending.{Ending}
use Rattle.hdmi_cli.proofs.Headline.{capture_listing, run_ended}

-- the text of events begins with the lines of the first of them
pub begins_with_lines : (listing : ListingOf) (after : List Event → List Event → List ℕ) (last : List Event → List ℕ) → IsText listing after last
    → (all first later : List Event) → all ≡ first ++ later → listing.text all ≡ listing.lines first ++ (after first later ++ last all)
begins_with_lines listing after last text all first later is =
    text.whole all
    ∙ ap (λ ts. ts ++ last all) (ap listing.lines is ∙ text.both first later)
    ∙ append_assoc (listing.lines first) (after first later) (last all)

pub rows_stand : (listing : ListingOf) (after : List Event → List Event → List ℕ) (last : List Event → List ℕ) → IsText listing after last
    → (t : TappedStream) (until a : ℕ) (aligned : List Column) → IsTappedUntil t until → aligned ≡ take (length aligned) (drop a t.received) → HasRows listing t a aligned
rows_stand listing after last text t until a aligned tapped columns front p back is between alone late past =
    let j = columns_of front in
    let m = length aligned in
    let h = tapped.reception in
    let size = ap length columns in
    let l = length-take m (drop a t.received) in
    let k = length-drop a t.received in
    let law = stream_anywhere front p back t.sent t.received between (subst (λ ps. SpellsBy freely ps t.sent) is h.spelled) h.same_length alone a m late past (omega arith) in
    let us = reported_to a j aligned in
    let row = row_of t a p j in
    let reported : heard aligned ≡ us ++ (row ++ law.0) =
    subst (λ cs. heard cs ≡ map event_of (heard_so_far (take (j - a + 1) cs)) ++ (row ++ law.0)) (sym columns) law.1 in
    record {
      later = law.0;
      reported = reported;
      more = after (us ++ row) law.0 ++ last (heard aligned);
      listed = begins_with_lines listing after last text (heard aligned) (us ++ row) law.0 (reported ∙ sym (append_assoc us row law.0));
    }

-- damage that spares control and guard words until a column, and anything after it: of a capture that a command lists so
pub headlined_here : (listing : ListingOf) (after : List Event → List Event → List ℕ) (last : List Event → List ℕ) → IsText listing after last
    → (this : Command) (t : TappedStream) → ((o : RunOutcome) → Does this t.bytes o → ListsCapture link_grammar listing t.bytes o)
    → (words : List (List ℕ)) (ending : Ending) (before after : Devices) (status : ℕ) → RunEnds words ending before after → status ≡ status_of ending → IsCommand words this
    → (until : ℕ) → IsTappedUntil t until → AlignsBy t until → before.left ≡ Some t.bytes → Unless (IsHeardBy listing t until) status before after
headlined_here listing grown last text this t lists words ending before after status ends is named until tapped aligns left =
    let law = aligned_whatever_follows t.periods t.sent t.received until tapped.reception t.offset t.skews t.counts t.blue t.green t.red tapped.tap tapped.small aligns in
    let place = law.4 in
    let cs = aligned_of t law.0 law.1 law.2 in
    run_ended (IsHeardBy listing t until) this words ending before after status ends is named
    (λ answers.
    let answer = answers t.bytes left in
    let listed = capture_listing link_grammar listing (heard cs) t.blue t.green t.red law.0 law.1 law.2 t.bytes answer.outcome tapped.captured law.3 refl (lists answer.outcome answer.does) in (
      law.0,
      law.1,
      law.2,
      law.3,
      (
        place.0,
        place.2,
        record {
          ends = place.1;
          begins = place.3;
          columns = place.4;
          status_is = sym answer.status ∙ listed.status;
          written = subst (λ out. Appends before.held after.held out) listed.output answer.written;
          rows = rows_stand listing grown last text t until place.0 cs tapped place.4;
        },
      ),
    ))

-- of each capture that a command lists so
pub headlined_locally : (listing : ListingOf) (after : List Event → List Event → List ℕ) (last : List Event → List ℕ) → IsText listing after last
    → (this : Command) → ((bytes : List ℕ) (o : RunOutcome) → Does this bytes o → ListsCapture link_grammar listing bytes o)
    → (words : List (List ℕ)) (ending : Ending) (before after : Devices) (status : ℕ) → RunEnds words ending before after → status ≡ status_of ending → IsCommand words this
    → (t : TappedStream) (until : ℕ) → IsTappedUntil t until → AlignsBy t until → before.left ≡ Some t.bytes → Unless (IsHeardBy listing t until) status before after
headlined_locally listing grown last text this lists words ending before after status ends is named t until tapped aligns left =
    headlined_here listing grown last text this t (lists t.bytes) words ending before after status ends is named until tapped aligns left
