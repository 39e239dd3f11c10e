-- The frames of the samples of a packet, one after another, and what the samples of a packet are.
use Rattle.std.proofs.Common.{◌≡◌, ◌∙◌, ◌⊎◌, ℕ, ◌+◌, ◌*◌, ◌<◌, ◌≤◌, ◌==◌, ◌&&◌, cond, Bool, true, false, if◌then◌else◌, List, [], ◌∷◌, ◌++◌, length, map, filter, take, All, slice_index, replicate, Bor, Option, Result, Ok, Err, ap, sym, subst, append_assoc, append-nil, length-append, arith}
use Rattle.std.specs.Prelude.{flat_map, is_some}
use Rattle.std.specs.Io.KnownBytes.{Appends}
use Rattle.std.proofs.KnownBytes.{Appends-nil}
use Rattle.std.proofs.lemmas.Bool.{eq-eqb}
use Rattle.std.proofs.lemmas.Grind.{flat_map-append}
use Rattle.std.proofs.lemmas.List.{length-map, map-append}
use Rattle.std.proofs.lemmas.List.Elements.{All-cons, All-filter, All-map, All-nil}
use Rattle.std.proofs.lemmas.List.Sums.{count_by-le-length, length-filter, sum_by-cons}
use Rattle.island_pack.specs.Packets.{IsPacket}
use Rattle.island_pack.specs.declared.packet.Packet.{Packet}
use Rattle.island_pack.specs.declared.packet.PacketVerdicts.{PacketVerdicts}
use Rattle.island_pack.specs.Taken.{first_lost}
use Rattle.audio_packets.specs.Faults.{unless_lost}
use Rattle.audio_packets.specs.declared.fault.AudioFault.{AudioFault}
use Rattle.audio_packets.specs.Laws.{ReadSamplesFit}
use Rattle.audio_packets.specs.Samples.{IsSample, IsSamplePacket, has_pair, note_at, packet_with, pair_of, sample_at}
use Rattle.audio_packets.specs.declared.sample.Sample.{Sample}
use Rattle.audio_packets.specs.declared.sample.SampleNote.{SampleNote}
use Rattle.audio_out.specs.Frames.{IsEncoderAfter, biphase, bytes_in}
use Rattle.period_grammar.specs.Lending.{fault_event, lent_event}
use Rattle.period_grammar.specs.Events.{Event, packet}
use Rattle.period_grammar.specs.declared.event.Fault.{Fault}
use Rattle.period_grammar.specs.declared.event.EventRef.{EventRef}
use Rattle.period_grammar.specs.declared.event.EventRef.TheVariants.{Run, Line, Open, Close, Fault as FaultReported, Cut}
use Rattle.listing_writer.specs.Texts.{counted}
use Rattle.biphase_listing.specs.StreamText.{Breaks, Lists, Recalls, biphase_faults, biphase_text, is_lost_sound, samples_at, samples_in, reported_samples}

abbrev pub samples_of_notes : List SampleNote → List Sample
samples_of_notes notes = map (λ note. note.sample) notes

-- of some notes the first were pushed, and the last are left
pub record Framed (notes left : List SampleNote) (old now : Bool) (frames : List ℕ) : Type 0 where
  pub seen : List SampleNote
  pub split : notes ≡ seen ++ left
  pub room : length frames ≤ 16 * length seen
  pub stands : (past : List Sample) → IsEncoderAfter old past → IsEncoderAfter now (past ++ samples_of_notes seen)
  pub written : (past : List Sample) → IsEncoderAfter old past → biphase (past ++ samples_of_notes seen) ≡ biphase past ++ frames

pub framed_none : (notes : List SampleNote) (old : Bool) (frames : List ℕ) → frames ≡ [] → Framed notes notes old old frames
framed_none notes old frames none = grind (arith, append-nil)

past_more : (past : List Sample) (seen : List SampleNote) (note : SampleNote) → (past ++ samples_of_notes seen) ++ note.sample ∷ [] ≡ past ++ samples_of_notes (seen ++ note ∷ [])
past_more past seen note =
    append_assoc past (samples_of_notes seen) (note.sample ∷ []) ∙ ap (λ (xs : List Sample). past ++ xs) (sym (map-append (λ (n : SampleNote). n.sample) seen (note ∷ [])))

pub framed_more : (notes left : List SampleNote) (note : SampleNote) (old now new : Bool) (frames more : List ℕ) (frame : Option (List ℕ))
    → Framed notes (note ∷ left) old now frames → more ≡ frames ++ bytes_in frame → length more ≤ length frames + 16
    → ((past : List Sample) → IsEncoderAfter now past → IsEncoderAfter new (past ++ note.sample ∷ []))
    → ((past : List Sample) → IsEncoderAfter now past → biphase (past ++ note.sample ∷ []) ≡ biphase past ++ bytes_in frame)
    → Framed notes left old new more
framed_more notes left note old now new frames more frame f is few stands written = record {
  seen = f.seen ++ note ∷ [];
  split = f.split ∙ sym (append_assoc f.seen (note ∷ []) left);
  room = grind (arith, length-append);
  stands = λ past old_stands. subst (λ (xs : List Sample). IsEncoderAfter new xs) (past_more past f.seen note) (stands (past ++ samples_of_notes f.seen) (f.stands past old_stands));
  written = grind (arith, past_more, append_assoc);
}

-- ---- what the samples of a packet are

notes_of : Result (List SampleNote) AudioFault → List SampleNote
notes_of (Ok notes) = notes
notes_of (Err fault) = []

ok_inside : (notes xs : List SampleNote) (lost : Option ℕ) → Ok notes ≡ unless_lost lost (Ok xs) → notes ≡ xs
unfolding notes_of
ok_inside notes xs lost h = grind arith

not_lost : (notes xs : List SampleNote) (lost : Option ℕ) → Ok notes ≡ unless_lost lost (Ok xs) → is_some lost ≡ false
not_lost notes xs lost h = grind arith

is_lost : (fault : AudioFault) (xs : List SampleNote) (lost : Option ℕ) → Err fault ≡ unless_lost lost (Ok xs) → is_some lost ≡ true
is_lost fault xs lost h = grind arith

-- what is read for a number is read for an equal one
pub pair_again : (p : Packet) (verdicts : PacketVerdicts) (a b : ℕ) (result : Result (List SampleNote) AudioFault) → result ≡ pair_of p verdicts a → a ≡ b → result ≡ pair_of p verdicts b
pair_again p verdicts a b result is same = is ∙ ap (pair_of p verdicts) same

pub pair_few : (p : Packet) (verdicts : PacketVerdicts) (pair : ℕ) (notes : List SampleNote) → Ok notes ≡ pair_of p verdicts pair → length notes ≤ 4
pair_few p verdicts pair notes is =
    let places = filter (has_pair (slice_index p.header 1) pair) (0 ∷ 1 ∷ 2 ∷ 3 ∷ []) in
    let a = ap length (ok_inside notes (map (note_at p) places) (first_lost verdicts) is) ∙ length-map places (note_at p) in
    grind (arith, count_by-le-length, length-filter)

-- a packet of these bytes with all four bodies present
abbrev full : List ℕ → List ℕ → Packet
full header bodies = record { header = 2 ∷ 15 ∷ slice_index header 2 ∷ []; bodies = bodies; sync = replicate 32 0 }

full_is : (header bodies : List ℕ) → length bodies ≡ 28 → slice_index header 2 < 256 → All (λ byte. byte < 256) bodies → IsPacket (full header bodies)
full_is header bodies long third bytes = grind (arith, All-cons, All-nil)

at_four : (f : ℕ → SampleNote) → All (λ note. IsSample note.sample) (f 0 ∷ f 1 ∷ f 2 ∷ f 3 ∷ []) → (place : ℕ) → place < 4 → IsSample (f place).sample
at_four f h k l = grind arith

pub bytes_fit : (header bodies : List ℕ) → ReadSamplesFit → length bodies ≡ 28 → slice_index header 2 < 256 → All (λ byte. byte < 256) bodies
    → (place : ℕ) → place < 4 → IsSample (sample_at (packet_with header bodies) place)
bytes_fit header bodies law long third bytes place lt =
    at_four (note_at (full header bodies)) (law (full header bodies) 0 (full_is header bodies long third bytes)) place lt

pub pair_fits : (p : Packet) (verdicts : PacketVerdicts) (pair : ℕ) (notes : List SampleNote) → ((place : ℕ) → place < 4 → IsSample (sample_at p place)) → Ok notes ≡ pair_of p verdicts pair
    → All (λ note. IsSample note.sample) notes
pair_fits p verdicts pair notes fit is =
    let places = filter (has_pair (slice_index p.header 1) pair) (0 ∷ 1 ∷ 2 ∷ 3 ∷ []) in
    let P : ℕ → Type 0 = λ place. IsSample (note_at p place).sample in
    let four : All P (0 ∷ 1 ∷ 2 ∷ 3 ∷ []) =
    All-cons P 0 (1 ∷ 2 ∷ 3 ∷ []) (fit 0 (omega arith)) (All-cons P 1 (2 ∷ 3 ∷ []) (fit 1 (omega arith)) (All-cons P 2 (3 ∷ []) (fit 2 (omega arith)) (All-cons P 3 [] (fit 3 (omega arith)) (All-nil P)))) in
    subst (λ (xs : List SampleNote). All (λ (note : SampleNote). IsSample note.sample) xs) (sym (ok_inside notes (map (note_at p) places) (first_lost verdicts) is))
    (All-map (λ (note : SampleNote). IsSample note.sample) (note_at p) places (All-filter (has_pair (slice_index p.header 1) pair) P (0 ∷ 1 ∷ 2 ∷ 3 ∷ []) four))

-- ---- one event more

one_reported : (pair : ℕ) (reported : List Event) (event : Event) → reported_samples pair (reported ++ event ∷ []) ≡ reported_samples pair reported ++ samples_at pair event
unfolding reported_samples
one_reported pair reported event = flat_map-append (samples_at pair) reported (event ∷ []) ∙ ap (λ (xs : List Sample). flat_map (samples_at pair) reported ++ xs) (append-nil (samples_at pair event))

pub lists_one : (pair : ℕ) (reported : List Event) (event : Event) (now : Bool) (before after : ℕ) (held holds : Option (List ℕ)) (samples : List Sample) (bytes : List ℕ)
    → samples_at pair event ≡ samples → after ≡ counted before (biphase_faults (event ∷ [])) → IsEncoderAfter now (reported_samples pair reported ++ samples)
    → biphase (reported_samples pair reported ++ samples) ≡ biphase (reported_samples pair reported) ++ bytes → Appends held holds bytes → Lists pair reported (event ∷ []) now before after held holds
unfolding biphase_text
lists_one pair reported event now before after held holds samples bytes are counts stands grows put = grind (arith, one_reported)

pub breaks_one : (pair : ℕ) (reported : List Event) (event : Event) (held holds : Option (List ℕ)) (samples : List Sample) (bytes : List ℕ) (n : ℕ)
    → samples_at pair event ≡ samples → biphase (reported_samples pair reported ++ samples) ≡ biphase (reported_samples pair reported) ++ bytes → n < length bytes → Appends held holds (take n bytes)
    → Breaks pair reported event held holds
unfolding biphase_text
breaks_one pair reported event held holds samples bytes n are grows missing put = grind (arith, one_reported)

-- an event without samples of the pair
pub lists_no_sound : (pair : ℕ) (reported : List Event) (event : Event) (now : Bool) (before after : ℕ) (held : Option (List ℕ))
    → samples_at pair event ≡ [] → after ≡ counted before (biphase_faults (event ∷ [])) → Recalls now pair reported → Lists pair reported (event ∷ []) now before after held held
lists_no_sound pair reported event now before after held none counts stands =
    lists_one pair reported event now before after held held [] [] none counts
    (subst (λ (xs : List Sample). IsEncoderAfter now xs) (sym (append-nil (reported_samples pair reported))) stands)
    (ap biphase (append-nil (reported_samples pair reported)) ∙ sym (append-nil (biphase (reported_samples pair reported)))) (Appends-nil held)

-- the samples of a packet, and its fault
pub sound_samples : (p : Packet) (verdicts : PacketVerdicts) (column pair : ℕ) (notes : List SampleNote) → IsSamplePacket p → Ok notes ≡ pair_of p verdicts pair
    → samples_at pair (packet p verdicts column) ≡ samples_of_notes notes
unfolding samples_at
sound_samples p verdicts column pair notes sound is =
    ap (λ (b : Bool). if b then samples_in (pair_of p verdicts pair) else []) (eq-eqb (slice_index p.header 0) 2 sound) ∙ ap samples_in (sym is)

pub lost_samples : (p : Packet) (verdicts : PacketVerdicts) (column pair : ℕ) (fault : AudioFault) → IsSamplePacket p → Err fault ≡ pair_of p verdicts pair
    → samples_at pair (packet p verdicts column) ≡ []
unfolding samples_at
lost_samples p verdicts column pair fault sound is =
    ap (λ (b : Bool). if b then samples_in (pair_of p verdicts pair) else []) (eq-eqb (slice_index p.header 0) 2 sound) ∙ ap samples_in (sym is)

pub other_samples : (p : Packet) (verdicts : PacketVerdicts) (column pair : ℕ) → (slice_index p.header 0 == 2) ≡ false → samples_at pair (packet p verdicts column) ≡ []
unfolding samples_at
other_samples p verdicts column pair other = ap (λ (b : Bool). if b then samples_in (pair_of p verdicts pair) else []) other

abbrev mark : Bool → ℕ
mark true = 1
mark false = 0

mark_is : (lost b : Bool) → lost ≡ b → cond lost 1 0 ≡ mark b
mark_is lost b h = grind arith

faults_one : (event : Event) (b : Bool) → is_lost_sound event ≡ b → biphase_faults (event ∷ []) ≡ mark b
unfolding biphase_faults
faults_one event b is = grind (arith, sum_by-cons, mark_is)

pub sound_faults : (p : Packet) (verdicts : PacketVerdicts) (column pair : ℕ) (notes : List SampleNote) → IsSamplePacket p → Ok notes ≡ pair_of p verdicts pair
    → biphase_faults (packet p verdicts column ∷ []) ≡ 0
unfolding is_lost_sound
sound_faults p verdicts column pair notes sound is =
    faults_one (packet p verdicts column) false
    (ap (λ (b : Bool). b && is_some (first_lost verdicts)) (eq-eqb (slice_index p.header 0) 2 sound) ∙ not_lost notes _ (first_lost verdicts) is)

pub lost_faults : (p : Packet) (verdicts : PacketVerdicts) (column pair : ℕ) (fault : AudioFault) → IsSamplePacket p → Err fault ≡ pair_of p verdicts pair
    → biphase_faults (packet p verdicts column ∷ []) ≡ 1
unfolding is_lost_sound
lost_faults p verdicts column pair fault sound is =
    faults_one (packet p verdicts column) true
    (ap (λ (b : Bool). b && is_some (first_lost verdicts)) (eq-eqb (slice_index p.header 0) 2 sound) ∙ is_lost fault _ (first_lost verdicts) is)

pub other_faults : (p : Packet) (verdicts : PacketVerdicts) (column : ℕ) → (slice_index p.header 0 == 2) ≡ false → biphase_faults (packet p verdicts column ∷ []) ≡ 0
unfolding is_lost_sound
other_faults p verdicts column other = faults_one (packet p verdicts column) false (ap (λ (b : Bool). b && is_some (first_lost verdicts)) other)

pub none_counted : (before n : ℕ) → n ≡ 0 → before ≡ counted before n
none_counted before n none = omega (arith, none)

-- ---- events that are no packets

record HasNoSound (event : Event) : Type 0 where
  pub samples : (pair : ℕ) → samples_at pair event ≡ []
  pub faults : biphase_faults (event ∷ []) ≡ 0

lists_nothing : (pair : ℕ) (reported : List Event) (event : Event) (now : Bool) (faults : ℕ) (held : Option (List ℕ)) → HasNoSound event → Recalls now pair reported
    → Lists pair reported (event ∷ []) now faults faults held held
lists_nothing pair reported event now faults held soundless recalls = lists_no_sound pair reported event now faults faults held (soundless.samples pair) (none_counted faults _ soundless.faults) recalls

soundless : (event : Event) → ((pair : ℕ) → samples_at pair event ≡ []) → is_lost_sound event ≡ false → HasNoSound event
soundless event none sound = record { samples = none; faults = faults_one event false sound }

fault_no_sound : (fault : Fault) → HasNoSound (fault_event fault)
unfolding samples_at is_lost_sound
fault_no_sound fault = grind (arith, soundless)

-- what is no packet
abbrev pub IsNoPacket : EventRef → Type 0
IsNoPacket reported =
    ((value : ℕ) × (count : ℕ) × (reported ≡ Run value count))
    ⊎ (((pixels : Bor (List ℕ)) × (reported ≡ Line pixels))
    ⊎ (((sync : List ℕ) × (reported ≡ Open sync))
    ⊎ (((sync : List ℕ) × (reported ≡ Close sync))
    ⊎ (((column : ℕ) × (reported ≡ Cut column))
    ⊎ ((fault : Fault) × (reported ≡ FaultReported fault))))))

reported_no_sound : (reported : EventRef) → IsNoPacket reported → HasNoSound (lent_event reported)
unfolding samples_at is_lost_sound
reported_no_sound reported h = grind (arith, soundless, fault_no_sound)

pub nothing_heard : (pair : ℕ) (before : List Event) (reported : EventRef) (now : Bool) (faults : ℕ) (held : Option (List ℕ)) → IsNoPacket reported → Recalls now pair before
    → Lists pair before (lent_event reported ∷ []) now faults faults held held
nothing_heard pair before reported now faults held is recalls = lists_nothing pair before (lent_event reported) now faults held (reported_no_sound reported is) recalls
