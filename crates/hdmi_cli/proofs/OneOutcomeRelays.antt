-- What a capture is relayed as is one outcome.
use Rattle.std.proofs.Common.{◌≡◌, ℕ, ◌≤◌, Bool, List, [], ◌++◌, length, take, drop, refl, ap, ◌∙◌, sym, subst, arith, inl, inr, append_assoc}
use Rattle.std.proofs.Math.Seq.{take-append_seam}
use Rattle.std.proofs.lemmas.Bool.{cases_lt}
use Rattle.std.proofs.lemmas.List.{take-append-drop, take-append-le}
use Rattle.tmds_word.specs.Column.{Column}
use Rattle.island_pack.specs.Periods.{columns_of}
use Rattle.island_pack.specs.declared.ranges.TheConstants.{COLUMN_LIMIT}
use Rattle.capture_file.specs.Captures.{IsCaptureOf, place_of}
use Rattle.capture_file.specs.Taps.{tapped_capture}
use Rattle.capture_file.specs.declared.fault.CaptureFault.{CaptureFault}
use Rattle.capture_file.proofs.MostBlocks.{AreNoLonger, read_begins, fault_after, most_blocks}
use Rattle.capture_file.proofs.OneCapture.{one_capture, no_fault}
use Rattle.capture_file.proofs.OneFault.{one_fault}
use Rattle.period_grammar.specs.Events.{Event}
use Rattle.period_grammar.specs.Exact.{faultless}
use Rattle.period_grammar.specs.Heard.{heard}
use Rattle.link_sink.specs.Alignment.{IsAlignedReported, IsNowhereReported}
use Rattle.link_sink.specs.Grammar.{link_grammar}
use Rattle.link_sink.specs.LinkHearing.{link_is_grammar}
use Rattle.link_sink.specs.Sinks.{Fed}
use Rattle.link_laws.specs.Growth.{AreGrown}
use Rattle.link_laws.proofs.Growth.{reported_grows}
use Rattle.relay.specs.Relayed.{relayed}
use Rattle.relay.proofs.OneSpelling.{one_spelling}
use Rattle.capture_reading.specs.Blocks.{HasBlocks}
use Rattle.capture_commands.specs.Notes.{capture_note}
use Rattle.capture_commands.specs.Outcome.{RunOutcome, Relays}
use Rattle.capture_commands.specs.Relays.{IsRelayed, PassesLimit, RelaysBefore, relay_status, whole_tap}
use Rattle.hdmi_cli.proofs.Headline.{aligned_same}
use Rattle.hdmi_cli.proofs.OneOutcomeLists.{capture_of, none_read, read_before}
use Rattle.hdmi_cli.proofs.RelayBlocks.{LanesBegin, blocks_begin}
use Rattle.hdmi_cli.proofs.RelayLimit.{same_reported, more_passes, passes_whole, passes_nowhere}

-- ---- of two readings of whole blocks the longer goes on from the other

front_of : {A : Type 0} → (xs a ys b : List A) → xs ++ a ≡ ys ++ b → length xs ≤ length ys → (more : List A) × (ys ≡ xs ++ more)
front_of xs a ys b is le =
    let n = length xs in
    let front : take n ys ≡ xs = sym (take-append-le n ys b le) ∙ ap (take n) (sym is) ∙ take-append_seam xs a in
    (drop n ys, sym (take-append-drop n ys) ∙ ap (λ us. us ++ drop n ys) front)

-- bytes begin a capture
record Beginning (x y z : List Bool) (whole front : List ℕ) : Type 0 where
  holds : IsCaptureOf x y z whole
  more : List ℕ
  split : whole ≡ front ++ more

lanes_grown : (x y z : List Bool) (p r : Fed) → LanesBegin x y z p.blue p.green p.red → LanesBegin x y z r.blue r.green r.red → AreNoLonger p.blue p.green p.red r.blue r.green r.red → AreGrown p r
lanes_grown x y z p r a b le = record {
  blue = front_of p.blue a.blue.0 r.blue b.blue.0 (sym a.blue.1 ∙ b.blue.1) le.blue;
  green = front_of p.green a.green.0 r.green b.green.0 (sym a.green.1 ∙ b.green.1) le.green;
  red = front_of p.red a.red.0 r.red b.red.0 (sym a.red.1 ∙ b.red.1) le.red;
}

both_begin : (x y z : List Bool) (whole taken took counts others : List ℕ) (j k : ℕ) (p r : Fed) → Beginning x y z whole taken → Beginning x y z whole took
    → HasBlocks counts j taken p → HasBlocks others k took r → AreNoLonger p.blue p.green p.red r.blue r.green r.red → AreGrown p r
both_begin x y z whole taken took counts others j k p r a b has had le =
    lanes_grown x y z p r
    (blocks_begin x y z p.blue p.green p.red whole taken a.more counts j _ a.holds a.split has)
    (blocks_begin x y z r.blue r.green r.red whole took b.more others k _ b.holds b.split had) le

blocks_grown : (bytes taken rest took more counts others : List ℕ) (j k : ℕ) (p r : Fed) → bytes ≡ taken ++ rest → bytes ≡ took ++ more → HasBlocks counts j taken p → HasBlocks others k took r
    → AreNoLonger p.blue p.green p.red r.blue r.green r.red → AreGrown p r
blocks_grown bytes taken rest took more counts others j k p r is are has had le = elim (cases_lt (length took) (length taken)) [
  | inl less ↦
      let begins = read_begins counts j _ taken p.blue p.green p.red has in
      let w = begins.whole in
      let front = front_of took more taken rest (sym are ∙ is) (omega (arith, less)) in
      both_begin w.blue w.green w.red (taken ++ begins.rest) taken took counts others j k p r
      (record { holds = w.holds; more = begins.rest; split = refl })
      (record { holds = w.holds; more = front.0 ++ begins.rest; split = ap (λ bs. bs ++ begins.rest) front.1 ∙ append_assoc took front.0 begins.rest })
      has had le
  | inr not ↦
      let begins = read_begins others k _ took r.blue r.green r.red had in
      let w = begins.whole in
      let front = front_of taken rest took more (sym is ∙ are) not in
      both_begin w.blue w.green w.red (took ++ begins.rest) taken took counts others j k p r
      (record { holds = w.holds; more = front.0 ++ begins.rest; split = ap (λ bs. bs ++ begins.rest) front.1 ∙ append_assoc taken front.0 begins.rest })
      (record { holds = w.holds; more = begins.rest; split = refl })
      has had le
]

-- ---- the limit

-- where it is passed before a fault, more is relayed of the whole blocks before the fault
passes_before : (bytes : List ℕ) (fault : CaptureFault) → PassesLimit bytes → RelaysBefore bytes fault → ⊥
passes_before bytes fault p r = elim (p.reported) [
  | inl (taken, rest, counts, j, split, has, reported) ↦ elim (r.before) [
    | inl (none, is) ↦ absurd (none_read bytes taken rest counts j _ _ _ _ none split has)
    | inr (took, more, others, k, cut, had, stops) ↦
        let before = fault_after bytes taken rest fault split (read_begins counts j _ taken p.fed.blue p.fed.green p.fed.red has) r.is in
        let most = most_blocks bytes (place_of fault) taken rest counts took j p.fed.blue p.fed.green p.fed.red r.fed.blue r.fed.green r.fed.red split has before
        (read_before bytes (place_of fault) took more others k r.fed cut had stops) in
        let grown = blocks_grown bytes taken rest took more counts others j k p.fed r.fed split cut has had most in
        let passes = more_passes p.events r.events (reported_grows link_grammar link_is_grammar p.fed r.fed p.events r.events grown reported r.reported) p.passes in
        let few = r.few in
        omega (arith, passes, few)
  ]
  | inr (columns, is, reported) ↦ no_fault bytes fault (capture_of p.fed.blue p.fed.green p.fed.red bytes is) r.is
]

within_limit : (x y z : List Bool) (columns : ℕ) (events : List Event) (output bytes : List ℕ) → IsCaptureOf x y z bytes → IsAlignedReported x y z columns events → IsRelayed events output → PassesLimit bytes → ⊥
within_limit x y z columns events output bytes captured aligned is p =
    let passes = passes_whole x y z aligned.blue aligned.green aligned.red bytes captured aligned.first p in
    let few = subst (λ (es : List Event). columns_of (relayed es) ≤ COLUMN_LIMIT) aligned.reported is.few in
    omega (arith, passes, few)

-- ---- the outcome

one_relayed : (events : List Event) (a b : List ℕ) → IsRelayed events a → IsRelayed events b → a ≡ b
one_relayed events a b h k = h.output_is ∙ ap (λ (cs : List Column). tapped_capture cs whole_tap) (one_spelling (relayed events) h.columns k.columns h.spelled k.spelled) ∙ sym k.output_is

one_reported : (x y z u v w : List Bool) (m n : ℕ) (us vs : List Event) (bytes : List ℕ) → IsCaptureOf x y z bytes → IsCaptureOf u v w bytes → IsAlignedReported x y z m us → IsAlignedReported u v w n vs → us ≡ vs
one_reported x y z u v w m n us vs bytes is are a b =
    let own = same_reported x y z u v w n vs (one_capture x y z u v w bytes is are) b in
    a.reported ∙ ap heard (aligned_same x y z a.blue a.green a.red own.blue own.green own.red a.first own.first) ∙ sym own.reported

aligned_nowhere : (x y z u v w : List Bool) (m n : ℕ) (us vs : List Event) (bytes : List ℕ) → IsCaptureOf x y z bytes → IsCaptureOf u v w bytes → IsAlignedReported x y z m us → IsNowhereReported u v w n vs → ⊥
aligned_nowhere x y z u v w m n us vs bytes is are a b =
    let own = same_reported u v w x y z m us (one_capture u v w x y z bytes are is) a in
    b.nowhere own.blue own.green own.red own.first.triple

pub relays_once : (bytes : List ℕ) (o p : RunOutcome) → Relays bytes o → Relays bytes p → o ≡ p
relays_once bytes o p (inl (x, y, z, m, us, out, captured, aligned, relays, is)) (inl (u, v, w, n, vs, other, again, reported, others, are)) =
    let same = one_reported x y z u v w m n us vs bytes captured again aligned reported in
    let output = one_relayed us out other relays (subst (λ (es : List Event). IsRelayed es other) (sym same) others) in
    is ∙ (λ i. record { status = relay_status (faultless (same i)); output = output i; note = [] }) ∙ sym are
relays_once bytes o p (inl (x, y, z, m, us, out, captured, aligned, relays, is)) (inr (inl (u, v, w, n, vs, again, nowhere, are))) =
    absurd (aligned_nowhere x y z u v w m n us vs bytes captured again aligned nowhere)
relays_once bytes o p (inl (x, y, z, m, us, out, captured, aligned, relays, is)) (inr (inr (inl (passes, are)))) = absurd (within_limit x y z m us out bytes captured aligned relays passes)
relays_once bytes o p (inl (x, y, z, m, us, out, captured, aligned, relays, is)) (inr (inr (inr (fault, before, are)))) = absurd (no_fault bytes fault (capture_of x y z bytes captured) before.is)
relays_once bytes o p (inr (inl (x, y, z, m, us, captured, nowhere, is))) (inl (u, v, w, n, vs, out, again, aligned, relays, are)) =
    absurd (aligned_nowhere u v w x y z n m vs us bytes again captured aligned nowhere)
relays_once bytes o p (inr (inl (x, y, z, m, us, captured, nowhere, is))) (inr (inl (u, v, w, n, vs, again, still, are))) = is ∙ sym are
relays_once bytes o p (inr (inl (x, y, z, m, us, captured, nowhere, is))) (inr (inr (inl (passes, are)))) = absurd (passes_nowhere x y z bytes captured nowhere.nowhere passes)
relays_once bytes o p (inr (inl (x, y, z, m, us, captured, nowhere, is))) (inr (inr (inr (fault, before, are)))) = absurd (no_fault bytes fault (capture_of x y z bytes captured) before.is)
relays_once bytes o p (inr (inr (inl (passes, is)))) (inl (x, y, z, m, us, out, captured, aligned, relays, are)) = absurd (within_limit x y z m us out bytes captured aligned relays passes)
relays_once bytes o p (inr (inr (inl (passes, is)))) (inr (inl (x, y, z, m, us, captured, nowhere, are))) = absurd (passes_nowhere x y z bytes captured nowhere.nowhere passes)
relays_once bytes o p (inr (inr (inl (passes, is)))) (inr (inr (inl (still, are)))) = is ∙ sym are
relays_once bytes o p (inr (inr (inl (passes, is)))) (inr (inr (inr (fault, before, are)))) = absurd (passes_before bytes fault passes before)
relays_once bytes o p (inr (inr (inr (fault, before, is)))) (inl (x, y, z, m, us, out, captured, aligned, relays, are)) = absurd (no_fault bytes fault (capture_of x y z bytes captured) before.is)
relays_once bytes o p (inr (inr (inr (fault, before, is)))) (inr (inl (x, y, z, m, us, captured, nowhere, are))) = absurd (no_fault bytes fault (capture_of x y z bytes captured) before.is)
relays_once bytes o p (inr (inr (inr (fault, before, is)))) (inr (inr (inl (passes, are)))) = absurd (passes_before bytes fault passes before)
relays_once bytes o p (inr (inr (inr (fault, before, is)))) (inr (inr (inr (other, again, are)))) =
    is ∙ ap (λ (f : CaptureFault). record { status = 3; output = []; note = capture_note f }) (one_fault bytes fault other before.is again.is) ∙ sym are
