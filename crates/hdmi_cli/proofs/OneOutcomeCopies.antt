-- What captures are copied to with hits or without a slip, and what bytes of frames are read as, is one outcome.
use Rattle.std.proofs.Common.{◌≡◌, ℕ, zero, suc, ◌<◌, List, [], ◌∷◌, ◌++◌, ap, ap₂, ◌∙◌, sym, subst, arith, inl, inr}
use Rattle.std.specs.Prelude.{All, map, codes, length, get_or}
use Rattle.capture_file.specs.Captures.{IsCapture, counts_of, lane_blocks}
use Rattle.capture_file.specs.BlockDamage.{IsDamagedCapture, IsMisplacedIn, IsFaultyDamage}
use Rattle.capture_file.specs.Slips.{IsSlippedCapture, IsWithinLane}
use Rattle.capture_file.specs.declared.damaging.Hit.{Hit}
use Rattle.capture_file.specs.declared.fault.CaptureFault.{CaptureFault}
use Rattle.capture_file.proofs.OneCapture.{no_fault}
use Rattle.capture_file.proofs.OneCopy.{one_damaged, one_slipped, one_header, one_misplaced, none_past, one_faulty}
use Rattle.capture_file.proofs.OneFault.{one_fault}
use Rattle.command_line.specs.Damages.{AreDamages}
use Rattle.command_line.specs.declared.damage.DamageWord.{DamageWord}
use Rattle.command_line.specs.declared.slip.SlipWord.{SlipWord}
use Rattle.audio_packets.specs.declared.sample.Sample.{Sample as Sound}
use Rattle.biphase_listing.specs.FrameText.{frames_text}
use Rattle.biphase_listing.proofs.OneRefusal.{one_refusal}
use Rattle.biphase_listing.proofs.Streams.{one_stream, stream_is_faultless}
use Rattle.capture_commands.specs.Commands.{hit_asked}
use Rattle.capture_commands.specs.Notes.{capture_note, place_note, frames_note}
use Rattle.capture_commands.specs.Outcome.{RunOutcome, Damages, Slips, IsPastEnd, ListsFrames}

-- ---- hits

abbrev AreOfLanes : List Hit → Type 0
AreOfLanes hits = All (λ (h : Hit). h.lane < 3) hits

asked_at : (w : DamageWord) (words : List DamageWord) → w.lane < 3 → AreOfLanes (map hit_asked words) → (k : ℕ) (d : Hit) → k < length (map hit_asked (w ∷ words))
    → (get_or (map hit_asked (w ∷ words)) k d).lane < 3
asked_at w words one all zero d lt = one
asked_at w words one all (suc k) d lt = all k d (omega (arith, lt))

-- words ask for hits of the three lanes
pub lanes_asked : (texts : List (List ℕ)) (words : List DamageWord) → AreDamages texts words → AreOfLanes (map hit_asked words)
lanes_asked [] [] are = λ k d lt. absurd (omega (arith, lt))
lanes_asked [] (w ∷ words) are = absurd are
lanes_asked (t ∷ texts) [] are = absurd are
lanes_asked (t ∷ texts) (w ∷ words) are = λ (k : ℕ) (d : Hit) lt. asked_at w words are.0.lane (lanes_asked texts words are.1) k d lt

damaged_capture : (bytes : List ℕ) (hits : List Hit) (whole : List ℕ) → IsDamagedCapture bytes hits whole → IsCapture bytes
damaged_capture bytes hits whole is = record { blue = is.blue; green = is.green; red = is.red; holds = is.holds }

misplaced_within : (bytes : List ℕ) (hits : List Hit) (i : ℕ) (fault : CaptureFault) (out : List ℕ) → IsMisplacedIn bytes hits i → IsFaultyDamage bytes hits fault out → ⊥
misplaced_within bytes hits i fault out a b = a.first.passes (b.within a.head a.counts a.tail a.headed a.bytes_are i a.first.hit a.first.here)

pub damages_once : (hits : List Hit) (bytes : List ℕ) (o p : RunOutcome) → AreOfLanes hits → Damages hits bytes o → Damages hits bytes p → o ≡ p
damages_once hits bytes o p lanes (inl (whole, a, is)) (inl (other, b, are)) =
    is ∙ ap (λ (w : List ℕ). record { status = 0; output = w; note = [] }) (one_damaged bytes hits whole other a b) ∙ sym are
damages_once hits bytes o p lanes (inl (whole, a, is)) (inr (inl (i, b, are))) = absurd (none_past bytes hits whole i lanes a b)
damages_once hits bytes o p lanes (inl (whole, a, is)) (inr (inr (fault, out, b, are))) = absurd (no_fault bytes fault (damaged_capture bytes hits whole a) b.is)
damages_once hits bytes o p lanes (inr (inl (i, a, is))) (inl (whole, b, are)) = absurd (none_past bytes hits whole i lanes b a)
damages_once hits bytes o p lanes (inr (inl (i, a, is))) (inr (inl (k, b, are))) =
    is ∙ ap (λ (n : ℕ). record { status = 3; output = []; note = place_note n }) (one_misplaced bytes hits i k lanes a b) ∙ sym are
damages_once hits bytes o p lanes (inr (inl (i, a, is))) (inr (inr (fault, out, b, are))) = absurd (misplaced_within bytes hits i fault out a b)
damages_once hits bytes o p lanes (inr (inr (fault, out, a, is))) (inl (whole, b, are)) = absurd (no_fault bytes fault (damaged_capture bytes hits whole b) a.is)
damages_once hits bytes o p lanes (inr (inr (fault, out, a, is))) (inr (inl (i, b, are))) = absurd (misplaced_within bytes hits i fault out b a)
damages_once hits bytes o p lanes (inr (inr (fault, out, a, is))) (inr (inr (other, more, b, are))) =
    let same : other ≡ fault = one_fault bytes other fault b.is a.is in
    let again = subst (λ (f : CaptureFault). IsFaultyDamage bytes hits f more) same b in
    is ∙ ap₂ (λ (w : List ℕ) (f : CaptureFault). record { status = 3; output = w; note = capture_note f }) (one_faulty bytes hits fault out more a again) (sym same) ∙ sym are

-- ---- a slip

slipped_capture : (bytes : List ℕ) (slip : SlipWord) (whole : List ℕ) → IsSlippedCapture bytes slip.lane slip.place slip.bits whole → IsCapture bytes
slipped_capture bytes slip whole is = record { blue = is.blue; green = is.green; red = is.red; holds = is.holds }

fits_within : (bytes : List ℕ) (slip : SlipWord) (whole : List ℕ) → slip.lane < 3 → IsSlippedCapture bytes slip.lane slip.place slip.bits whole → IsPastEnd slip bytes → ⊥
fits_within bytes slip whole lane a (head, counts, tail, headed, is, past) =
    let same = one_header bytes head tail counts a.holds.head (lane_blocks a.blue a.green a.red) (counts_of a.blue a.green a.red) headed is a.holds.headed a.holds.bytes_are in
    let fits = a.fits in
    omega (arith, past, fits, same.count slip.lane lane)

past_within : (bytes : List ℕ) (slip : SlipWord) → IsPastEnd slip bytes → IsWithinLane bytes slip.lane slip.place slip.bits → ⊥
past_within bytes slip (head, counts, tail, headed, is, past) within = let fits = within head counts tail headed is in omega (arith, past, fits)

pub slips_once : (slip : SlipWord) (bytes : List ℕ) (o p : RunOutcome) → slip.lane < 3 → Slips slip bytes o → Slips slip bytes p → o ≡ p
slips_once slip bytes o p lane (inl (whole, a, is)) (inl (other, b, are)) =
    is ∙ ap (λ (w : List ℕ). record { status = 0; output = w; note = [] }) (one_slipped bytes slip.lane slip.place slip.bits whole other a b) ∙ sym are
slips_once slip bytes o p lane (inl (whole, a, is)) (inr (inl (past, are))) = absurd (fits_within bytes slip whole lane a past)
slips_once slip bytes o p lane (inl (whole, a, is)) (inr (inr (fault, b, within, are))) = absurd (no_fault bytes fault (slipped_capture bytes slip whole a) b)
slips_once slip bytes o p lane (inr (inl (past, is))) (inl (whole, b, are)) = absurd (fits_within bytes slip whole lane b past)
slips_once slip bytes o p lane (inr (inl (past, is))) (inr (inl (still, are))) = is ∙ sym are
slips_once slip bytes o p lane (inr (inl (past, is))) (inr (inr (fault, b, within, are))) = absurd (past_within bytes slip past within)
slips_once slip bytes o p lane (inr (inr (fault, a, within, is))) (inl (whole, b, are)) = absurd (no_fault bytes fault (slipped_capture bytes slip whole b) a)
slips_once slip bytes o p lane (inr (inr (fault, a, within, is))) (inr (inl (past, are))) = absurd (past_within bytes slip past within)
slips_once slip bytes o p lane (inr (inr (fault, a, within, is))) (inr (inr (other, b, inside, are))) =
    is ∙ ap (λ (f : CaptureFault). record { status = 3; output = []; note = capture_note f }) (one_fault bytes fault other a b) ∙ sym are

-- ---- frames

pub frames_once : (bytes : List ℕ) (o p : RunOutcome) → ListsFrames bytes o → ListsFrames bytes p → o ≡ p
frames_once bytes o p (inl (samples, a, is)) (inl (others, b, are)) =
    is ∙ ap (λ (ss : List Sound). record { status = 0; output = frames_text ss ++ codes "end\n"; note = [] }) (one_stream samples others bytes a b) ∙ sym are
frames_once bytes o p (inl (samples, a, is)) (inr (fault, others, b, are)) = absurd (stream_is_faultless samples bytes fault a b.faulty)
frames_once bytes o p (inr (fault, samples, a, is)) (inl (others, b, are)) = absurd (stream_is_faultless others bytes fault b a.faulty)
frames_once bytes o p (inr (fault, samples, a, is)) (inr (other, others, b, are)) =
    let one = one_refusal bytes fault other samples others a b in
    is ∙ (λ i. record { status = 3; output = frames_text (one.1 i); note = frames_note (one.0 i) }) ∙ sym are
