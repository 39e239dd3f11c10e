-- A sample has one outcome.
use Rattle.std.proofs.Common.{◌≡◌, ℕ, Bool, true, false, List, [], length, ap, ap₂, ◌∙◌, sym, subst}
use Rattle.tmds_word.specs.Column.{Column}
use Rattle.island_pack.specs.Periods.{Period}
use Rattle.island_pack.specs.Spelling.{Spells}
use Rattle.capture_file.specs.BlockDamage.{IsDamagedCapture}
use Rattle.capture_file.specs.Captures.{IsCaptureOf}
use Rattle.capture_file.specs.Laws.{AreSame}
use Rattle.capture_file.specs.Taps.{tapped_capture}
use Rattle.capture_file.proofs.OneCapture.{one_capture}
use Rattle.capture_file.proofs.OneCopy.{one_damaged}
use Rattle.period_grammar.specs.Events.{Event}
use Rattle.period_grammar.specs.Heard.{heard}
use Rattle.link_sink.specs.Alignment.{AreReported, reported_by}
use Rattle.link_sink.specs.declared.hear.Outcome.{Outcome}
use Rattle.relay.proofs.OneSpelling.{one_spelling}
use Rattle.source_end.specs.Raster.{raster_of}
use Rattle.source_end.proofs.RasterOnce.{one_raster}
use Rattle.sampling.specs.Counts.{counts_of, counts_text}
use Rattle.sampling.specs.Sampled.{IsSampled, sample_mode, sample_tap}
use Rattle.sampling.specs.Strikes.{hits_of}
use Rattle.sampling.specs.declared.counts.Counts.{Counts}
use Rattle.capture_commands.specs.Outcome.{RunOutcome, Samples}
use Rattle.hdmi_cli.proofs.Headline.{aligned_same}

-- of lanes one count of columns and one list of events is reported
one_hearing : (x y z : List Bool) (a b : Bool) (m n : ℕ) (us vs : List Event) → reported_by a x y z m us → reported_by b x y z n vs → (m ≡ n) × (us ≡ vs)
one_hearing x y z true true m n us vs s t =
    let same = aligned_same x y z s.blue s.green s.red t.blue t.green t.red s.first t.first in
    (s.columns_are ∙ ap length same ∙ sym t.columns_are, s.reported ∙ ap heard same ∙ sym t.reported)
one_hearing x y z true false m n us vs s t = absurd (t.nowhere s.blue s.green s.red s.first.triple)
one_hearing x y z false true m n us vs s t = absurd (s.nowhere t.blue t.green t.red t.first.triple)
one_hearing x y z false false m n us vs s t = (s.columns_are ∙ sym t.columns_are, s.reported ∙ sym t.reported)

same_heard : (x y z u v w : List Bool) (outcome : Outcome) (events : List Event) → AreSame x y z u v w → AreReported u v w outcome events → AreReported x y z outcome events
same_heard x y z u v w outcome events same h =
    subst (λ a. AreReported a y z outcome events) (sym same.blue) (subst (λ b. AreReported u b z outcome events) (sym same.green) (subst (λ c. AreReported u v c outcome events) (sym same.red) h))

-- the same columns, damaged alike
same_damage : (ps qs : List Period) (cs ds : List Column) (whole : List ℕ) → ps ≡ qs → cs ≡ ds → IsDamagedCapture (tapped_capture ds sample_tap) (hits_of sample_tap qs) whole
    → IsDamagedCapture (tapped_capture cs sample_tap) (hits_of sample_tap ps) whole
same_damage ps qs cs ds whole periods columns h =
    subst (λ (xs : List Period). IsDamagedCapture (tapped_capture cs sample_tap) (hits_of sample_tap xs) whole) (sym periods)
    (subst (λ (xs : List Column). IsDamagedCapture (tapped_capture xs sample_tap) (hits_of sample_tap qs) whole) (sym columns) h)

one_sampled : (n : ℕ) (c d : Counts) → IsSampled n c → IsSampled n d → c ≡ d
one_sampled n c d a b =
    let raster = one_raster sample_mode n a.content b.content a.generated b.generated in
    let sent = one_spelling (raster_of sample_mode a.content) a.sent b.sent a.spelled (subst (λ (ps : List Period). Spells ps b.sent) (sym raster) b.spelled) in
    let damaged = one_damaged (tapped_capture a.sent sample_tap) (hits_of sample_tap (raster_of sample_mode a.content)) a.damaged b.damaged a.damaged_is
    (same_damage (raster_of sample_mode a.content) (raster_of sample_mode b.content) a.sent b.sent b.damaged raster sent b.damaged_is) in
    let lanes = one_capture a.blue a.green a.red b.blue b.green b.red a.damaged a.captured (subst (λ (bs : List ℕ). IsCaptureOf b.blue b.green b.red bs) (sym damaged) b.captured) in
    let one = one_hearing a.blue a.green a.red a.outcome.aligned b.outcome.aligned a.outcome.columns b.outcome.columns a.events b.events a.reported
    (same_heard a.blue a.green a.red b.blue b.green b.red b.outcome b.events lanes b.reported) in
    a.counts_are ∙ ap₂ counts_of one.0 one.1 ∙ sym b.counts_are

pub samples_once : (n : ℕ) (o p : RunOutcome) → Samples n o → Samples n p → o ≡ p
samples_once n o p (counts, a, is) (others, b, are) =
    is ∙ ap (λ (c : Counts). record { status = 0; output = counts_text c; note = [] }) (one_sampled n counts others a b) ∙ sym are
