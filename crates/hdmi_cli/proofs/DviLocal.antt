-- What `recover dvi` lists of a capture of which anything may have been received after the alignment.
use Rattle.std.proofs.Common.{◌≡◌, inl, inr, ℕ, ◌+◌, ◌-◌, List, ◌++◌, length, map, take, drop, refl, ap, sym, ◌∙◌, subst, append_assoc, arith, length-take, length-drop}
use Rattle.std.specs.Prelude.{Some}
use Rattle.std.specs.Io.KnownBytes.{Appends}
use Rattle.tmds_word.specs.Column.{Column}
use Rattle.period_grammar.specs.Events.{event_of}
use Rattle.source_end.specs.DviPeriods.{dvi_columns_of, DviSpells}
use Rattle.dvi_hearing.specs.DviHeard.{dvi_so_far, dvi_heard}
use Rattle.dvi_hearing.specs.DviGrammar.{dvi_grammar}
use Rattle.dvi_laws.specs.DviLocal.{DviAlignsUntil}
use Rattle.dvi_laws.proofs.FirstUntil.{dvi_first_until}
use Rattle.dvi_laws.proofs.LocalLanes.{dvi_aligned_whatever_follows}
use Rattle.dvi_laws.proofs.LocalStream.{dvi_stream_anywhere}
use Rattle.command_line.specs.Commands.{IsCommand}
use Rattle.command_line.specs.declared.command.Command.TheVariants.{RecoverDvi}
use Rattle.hdmi_cli.specs.DviLocal.{IsDviTappedUntil, DviAlignsBy, dvi_row_of, dvi_reported_to, HasDviRows, IsDviHeardBy}
use Rattle.capture_commands.specs.Listings.{link_listing}
use Rattle.capture_commands.specs.Listers.{after_link, last_link, link_is_text}
use Rattle.hdmi_cli.specs.Headline.{TappedStream, aligned_of}
use Rattle.capture_commands.specs.Endings.{Devices, RunEnds, Unless, status_of}
use Rattle.capture_commands.specs.declared.ending.Ending.{Ending}
use Rattle.hdmi_cli.proofs.Headline.{capture_listing, run_ended}
use Rattle.hdmi_cli.proofs.Local.{begins_with_lines}

lines_stand : (t : TappedStream) (until a : ℕ) (aligned : List Column) → IsDviTappedUntil t until → aligned ≡ take (length aligned) (drop a t.received) → HasDviRows t a aligned
lines_stand t until a aligned tapped columns front bytes back is good alone late past =
    let j = dvi_columns_of front in
    let m = length aligned in
    let h = tapped.reception in
    let size = ap length columns in
    let l = length-take m (drop a t.received) in
    let k = length-drop a t.received in
    let law = dvi_stream_anywhere front bytes back t.sent t.received good (subst (λ ps. DviSpells ps t.sent) is h.spelled) h.same_length alone a m late past (omega arith) in
    let us = dvi_reported_to a j aligned in
    let row = dvi_row_of t a bytes j in
    let reported : dvi_heard aligned ≡ us ++ (row ++ law.0) =
    subst (λ cs. dvi_heard cs ≡ map event_of (dvi_so_far (take (j - a + 1) cs)) ++ (row ++ law.0)) (sym columns) law.1 in
    record {
      later = law.0;
      reported = reported;
      more = after_link (us ++ row) law.0 ++ last_link (dvi_heard aligned);
      listed = begins_with_lines link_listing after_link last_link link_is_text (dvi_heard aligned) (us ++ row) law.0 (reported ∙ sym (append_assoc us row law.0));
    }

heard_here : (words : List (List ℕ)) (ending : Ending) (before after : Devices) (status : ℕ) → RunEnds words ending before after → status ≡ status_of ending → IsCommand words RecoverDvi
    → (t : TappedStream) (until d e f : ℕ) → IsDviTappedUntil t until → DviAlignsUntil t.received t.offset t.skews t.counts until d e f → before.left ≡ Some t.bytes → Unless (IsDviHeardBy t until) status before after
heard_here words ending before after status ends is named t until d e f tapped aligns left =
    let law = dvi_aligned_whatever_follows t.periods t.sent t.received until tapped.reception t.offset t.skews t.counts t.blue t.green t.red tapped.tap tapped.small d e f aligns in
    let place = law.1 in
    let cs = aligned_of t d e f in
    run_ended (IsDviHeardBy t until) RecoverDvi words ending before after status ends is named
    (λ answers.
    let answer = answers t.bytes left in
    let listed = capture_listing dvi_grammar link_listing (dvi_heard cs) t.blue t.green t.red d e f t.bytes answer.outcome tapped.captured law.0 refl answer.does in (
      d,
      e,
      f,
      law.0,
      (
        place.0,
        place.2,
        record {
          ends = place.1;
          begins = place.3;
          columns = place.4;
          status_is = sym answer.status ∙ listed.status;
          written = subst (λ out. Appends before.held after.held out) listed.output answer.written;
          rows = lines_stand t until place.0 cs tapped place.4;
        },
      ),
    ))

pub dvi_headlined_locally : (words : List (List ℕ)) (ending : Ending) (before after : Devices) (status : ℕ) → RunEnds words ending before after → status ≡ status_of ending → IsCommand words RecoverDvi
    → (t : TappedStream) (until : ℕ) → IsDviTappedUntil t until → DviAlignsBy t until → before.left ≡ Some t.bytes → Unless (IsDviHeardBy t until) status before after
dvi_headlined_locally words ending before after status ends is named t until tapped (inl first) left =
    heard_here words ending before after status ends is named t until first.0 first.1 first.2 tapped first.3 left
dvi_headlined_locally words ending before after status ends is named t until tapped (inr holds) left =
    let first = dvi_first_until t.periods t.sent t.received until tapped.reception t.offset t.skews t.counts t.blue t.green t.red tapped.tap tapped.small holds in
    heard_here words ending before after status ends is named t until first.0 first.1 first.2 tapped first.3 left
