-- A content listing that is taken gives bytes and packets of bytes.
use Rattle.std.proofs.Common.{◌≡◌, ℕ, suc, ◌+◌, ◌-◌, ◌*◌, ◌/◌, ◌%◌, ◌^◌, ◌<◌, ◌≤◌, Bool, true, false, ◌&&◌, ◌==◌, if◌then◌else◌, List, [], ◌∷◌, ◌++◌, length, take, drop, replicate, get_or, All, refl, ap, sym, subst, ◌∙◌, arith, inl, inr, ◌⊎◌, Option, Some, None, Result, Ok, Err, length-append, length-drop, length-take-le}
use Rattle.std.specs.Prelude.{nat_le, nat_lt, nat_eq, slice_index, codes, map}
use Rattle.std.specs.List.{list_all, starts_with, flat_map}
use Rattle.std.proofs.lemmas.Bool.{lt-ltb, leb-true, ltb-true, eqb-true, and_parts}
use Rattle.std.proofs.lemmas.List.{length-map, length-replicate}
use Rattle.std.proofs.lemmas.List.Elements.{All-cons, All-nil, All-append, All-head, All-tail, All-replicate, All-from_get_or}
use Rattle.std.proofs.lemmas.List.Folds.{list_all-append}
use Rattle.hex.specs.Hex.{IsBytes, decode_of}
use Rattle.hex.specs.declared.error.FromHexError.{FromHexError}
use Rattle.hex.proofs.HexLemmas.{decode_of-ok}
use Rattle.tmds_word.specs.Bits.{number}
use Rattle.island_pack.specs.Conforming.{are_bytes}
use Rattle.island_pack.specs.declared.packet.Packet.{Packet}
use Rattle.infoframe.specs.Written.{fits, padded}
use Rattle.infoframe.specs.declared.content.Info.{Info}
use Rattle.infoframe.specs.declared.content.Info.TheVariants.{Spd, Raw}
use Rattle.audio_packets.specs.Clock.{acr_packet, clock_body}
use Rattle.audio_packets.specs.declared.clock.Acr.{Acr}
use Rattle.audio_packets.proofs.Marks.{four_bits}
use Rattle.audio_packets.specs.Samples.{IsSample, samples_packet, samples_header, samples_bodies, sample_body, side_bits}
use Rattle.audio_packets.specs.declared.sample.Sample.{Sample}
use Rattle.source_end.specs.Content.{Frame, is_payload, is_content, are_content, with_packet, with_row}
use Rattle.source_end.specs.declared.mode.Mode.{Mode}
use Rattle.listing_reader.specs.declared.fault.ListCause.{ListCause}
use Rattle.listing_reader.specs.ContentDrafts.{ContentDraft, no_content, with_samples, settled, with_sample, with_content, content_cause}
use Rattle.listing_reader.specs.ContentForms.{ContentLine, mode_line, row_line, frame_line, packet_line, sample_line, end_line, fault_line, no_line, fields_of, numbers_of, numbers_by, numbers_form, are_bytes as are_numbers_of_a_byte, are_words, within, vic_reported, mode_reported, frame_reported, info_reported, avi_from, reported_if, avi_reported, audio_from, audio_reported, acr_reported, gcp_reported, is_space, row_by, row_form, decoded_by, hex_field, spd_reported, spd_form, payload_form, info_line, info_form, packet_form, value_of, sample_reported, sample_form, numbers_line, digits_line, content_form_of}
use Rattle.listing_reader.specs.ContentReading.{closed_content, content_step_by, content_step, content_reads_as}
use Rattle.listing_reader.specs.Forms.{is_fault, part}
use Rattle.listing_reader.specs.InfoPackets.{info_packet, control_body, control_packet, no_sync}
use Rattle.listing_reader.specs.Lines.{pieces_of}
use Rattle.listing_reader.specs.LineSteps.{Read, accepts, LineStep, tells, closes, wrong, within_text, cut_short, ended_by, steps_on, read_lines}
use Rattle.listing_laws.specs.Said.{IsShaped}
use Rattle.listing_laws.specs.Taken.{TakenIsContent}
use Rattle.listing_laws.proofs.SaidPackets.{listed_is_said}
use Rattle.period_grammar.proofs.Bytes.{number_below}
use Rattle.listing_reader.proofs.Feeds.{both}

abbrev IsByte : ℕ → Type 0
IsByte b = b < 256

-- ---- bytes

pass : (xs : List ℕ) → ((k : ℕ) → k < length xs → get_or xs k 0 < 256) → are_bytes xs ≡ true
pass [] h = refl
pass (x ∷ xs) h = both (nat_lt x 256) (are_bytes xs) (lt-ltb x 256 (h 0 (omega arith))) (pass xs (λ k lt. h (suc k) (omega arith)))

all_pass : (xs : List ℕ) → All IsByte xs → are_bytes xs ≡ true
all_pass xs h = pass xs (λ k lt. h k 0 lt)

all_of : (xs : List ℕ) → IsBytes xs → All IsByte xs
all_of xs h = All-from_get_or IsByte xs 0 (λ k lt. h k)

three_bytes_are : (a b c : ℕ) → a < 256 → b < 256 → c < 256 → All IsByte (a ∷ b ∷ c ∷ [])
three_bytes_are a b c ha hb hc = All-cons IsByte a (b ∷ c ∷ []) ha (All-cons IsByte b (c ∷ []) hb (All-cons IsByte c [] hc (All-nil IsByte)))

seven_bytes_are : (a b c d e f g : ℕ) → a < 256 → b < 256 → c < 256 → d < 256 → e < 256 → f < 256 → g < 256 → All IsByte (a ∷ b ∷ c ∷ d ∷ e ∷ f ∷ g ∷ [])
seven_bytes_are a b c d e f g ha hb hc hd he hf hg =
    All-cons IsByte a (b ∷ c ∷ d ∷ e ∷ f ∷ g ∷ []) ha (All-cons IsByte b (c ∷ d ∷ e ∷ f ∷ g ∷ []) hb (All-cons IsByte c (d ∷ e ∷ f ∷ g ∷ []) hc (All-cons IsByte d (e ∷ f ∷ g ∷ []) hd (three_bytes_are e f g he hf hg))))

-- header and bodies of a packet
payload_passes : (header bodies sync : List ℕ) → length header ≡ 3 → All IsByte header → length bodies ≡ 28 → All IsByte bodies → is_payload (record { header = header; bodies = bodies; sync = sync }) ≡ true
payload_passes header bodies sync lh h lb b =
    both ((length header == 3) && are_bytes header) ((length bodies == 28) && are_bytes bodies)
    (both (length header == 3) (are_bytes header) (ap (λ n. n == 3) lh) (all_pass header h)) (both (length bodies == 28) (are_bytes bodies) (ap (λ n. n == 28) lb) (all_pass bodies b))

-- ---- the packets of lines

info_passes : (x : Info) → IsShaped x → fits x ≡ true → is_payload (info_packet x) ≡ true
info_passes x shaped fit =
    let w = (listed_is_said x shaped fit).1.whole in
    let p = info_packet x in
    payload_passes p.header p.bodies p.sync w.header w.header_bytes w.bodies w.body_bytes

clock_bytes : (acr : Acr) → acr.n < 1048576 → acr.cts < 1048576 → All IsByte (clock_body acr)
clock_bytes acr n cts =
    seven_bytes_are 0 (acr.cts / 65536) (acr.cts / 256 % 256) (acr.cts % 256) (acr.n / 65536) (acr.n / 256 % 256) (acr.n % 256)
    (omega arith) (omega arith) (omega arith) (omega arith) (omega arith) (omega arith) (omega arith)

four_bodies : (xs : List ℕ) → length xs ≡ 7 → All IsByte xs → (length (xs ++ xs ++ xs ++ xs) ≡ 28) × All IsByte (xs ++ xs ++ xs ++ xs)
four_bodies xs long h =
    let a = length-append (xs ++ xs ++ xs) xs in
    let b = length-append (xs ++ xs) xs in
    let c = length-append xs xs in
    (omega arith, All-append IsByte (xs ++ xs ++ xs) xs (All-append IsByte (xs ++ xs) xs (All-append IsByte xs xs h h) h) h)

clock_passes : (acr : Acr) → acr.n < 1048576 → acr.cts < 1048576 → is_payload (acr_packet acr no_sync) ≡ true
clock_passes acr n cts =
    let four = four_bodies (clock_body acr) refl (clock_bytes acr n cts) in
    payload_passes (1 ∷ 0 ∷ 0 ∷ []) (clock_body acr ++ clock_body acr ++ clock_body acr ++ clock_body acr) no_sync refl
    (three_bytes_are 1 0 0 (omega arith) (omega arith) (omega arith)) four.0 four.1

control_passes : (set clear depth : ℕ) → set < 2 → clear < 2 → depth < 16 → is_payload (control_packet set clear depth) ≡ true
unfolding control_packet
control_passes set clear depth s c d =
    let body = control_body set clear depth in
    let bytes : All IsByte body = seven_bytes_are (set + 16 * clear) depth 0 0 0 0 0 (omega arith) (omega arith) (omega arith) (omega arith) (omega arith) (omega arith) (omega arith) in
    let four = four_bodies body refl bytes in
    payload_passes (3 ∷ 0 ∷ 0 ∷ []) (body ++ body ++ body ++ body) no_sync refl
    (three_bytes_are 3 0 0 (omega arith) (omega arith) (omega arith)) four.0 four.1

-- ---- the packet of samples

side_below : (value flags : ℕ) → flags < 8 → side_bits value flags < 16
side_below value flags few = omega arith

sample_bytes : (s : Sample) → IsSample s → (length (sample_body s) ≡ 7) × All IsByte (sample_body s)
sample_bytes s fit =
    let l = fit.left in
    let r = fit.right in
    let a = side_below s.left s.left_flags fit.left_flags in
    let b = side_below s.right s.right_flags fit.right_flags in (
      refl,
      seven_bytes_are (s.left % 256) (s.left / 256 % 256) (s.left / 65536) (s.right % 256) (s.right / 256 % 256) (s.right / 65536) (side_bits s.left s.left_flags + 16 * side_bits s.right s.right_flags)
          (omega arith) (omega arith) (omega arith) (omega arith) (omega arith) (omega arith) (omega arith),
    )

bodies_bytes : (xs : List Sample) → All IsSample xs → (length (flat_map sample_body xs) ≡ 7 * length xs) × All IsByte (flat_map sample_body xs)
bodies_bytes [] h = (refl, All-nil IsByte)
bodies_bytes (x ∷ xs) h =
    let own = sample_bytes x (All-head IsSample x xs h) in
    let rest = bodies_bytes xs (All-tail IsSample x xs h) in
    let a = length-append (sample_body x) (flat_map sample_body xs) in
    let b = own.0 in
    let c = rest.0 in
    (omega arith, All-append IsByte (sample_body x) (flat_map sample_body xs) own.1 rest.1)

samples_passes : (xs : List Sample) → All IsSample xs → length xs ≤ 4 → is_payload (samples_packet xs no_sync) ≡ true
samples_passes xs h few =
    let marks = marks_below (map (λ (x : Sample). true) xs) (length-map xs (λ x. true)) few in
    let flats = marks_below (map (λ (x : Sample). x.flat) xs) (length-map xs (λ x. x.flat)) few in
    let starts = marks_below (map (λ (x : Sample). x.start) xs) (length-map xs (λ x. x.start)) few in
    let bodies = bodies_bytes xs h in
    let all = flat_map sample_body xs in
    let a = length-append all (replicate (28 - 7 * length xs) 0) in
    let b = length-replicate {A = ℕ} (28 - 7 * length xs) 0 in
    let c = bodies.0 in
    payload_passes (samples_header xs) (samples_bodies xs) no_sync refl
    (three_bytes_are 2 (number (map (λ (x : Sample). true) xs)) (number (map (λ (x : Sample). x.flat) xs) + 16 * number (map (λ (x : Sample). x.start) xs)) (omega arith) (omega arith) (omega arith))
    (omega arith) (All-append IsByte all (replicate (28 - 7 * length xs) 0) bodies.1 (All-replicate IsByte (28 - 7 * length xs) 0 (omega arith)))
  where
    marks_below : (marks : List Bool) → length marks ≡ length xs → length xs ≤ 4 → number marks < 16
    marks_below marks same small = four_bits (length marks) (number marks) (omega arith) (number_below marks)

-- ---- what the form of a line gives

abbrev Formed : ContentLine → Type 0
Formed (mode_line mode) = Unit {0}
Formed (row_line bytes) = are_bytes bytes ≡ true
Formed (frame_line width height) = Unit {0}
Formed (packet_line (Some p)) = is_payload p ≡ true
Formed (packet_line None) = Unit {0}
Formed (sample_line (Some s)) = IsSample s
Formed (sample_line None) = Unit {0}
Formed end_line = Unit {0}
Formed fault_line = Unit {0}
Formed no_line = Unit {0}

chosen : (b : Bool) (x y : ContentLine) → Formed x → Formed y → Formed (if b then x else y)
chosen true x y h k = h
chosen false x y h k = k

-- the same where the test is known
tested : (b : Bool) (x y : ContentLine) → (b ≡ true → Formed x) → Formed y → Formed (if b then x else y)
tested true x y h k = h refl
tested false x y h k = k

numbers_formed : (count : ℕ) (form : List ℕ → ContentLine) (o : Option (List ℕ)) → ((ns : List ℕ) → length ns ≡ count → Formed (form ns)) → Formed (numbers_by count form o)
numbers_formed count form None each = tt
numbers_formed count form (Some ns) each = tested (length ns == count) (form ns) no_line (λ e. each ns (eqb-true (length ns) count e)) tt

numbers_form_formed : (count : ℕ) (form : List ℕ → ContentLine) (rest : List ℕ) → ((ns : List ℕ) → length ns ≡ count → Formed (form ns)) → Formed (numbers_form count form rest)
unfolding numbers_form
numbers_form_formed count form rest each = numbers_formed count form (numbers_of (fields_of rest)) each

-- what digits decode to
record AreDigits (digits bytes : List ℕ) : Type 0 where
  twice : length digits ≡ 2 * length bytes
  bytes_are : IsBytes bytes

hex_formed : (digits : List ℕ) (form : List ℕ → ContentLine) (r : Result (List ℕ) FromHexError) → decode_of digits ≡ r → ((bytes : List ℕ) → AreDigits digits bytes → Formed (form bytes)) → Formed (decoded_by form r)
hex_formed digits form (Ok bytes) read each = let ok = decode_of-ok digits bytes read in each bytes (record { twice = ok.2; bytes_are = ok.3 })
hex_formed digits form (Err e) read each = tt

hex_field_formed : (digits : List ℕ) (form : List ℕ → ContentLine) → ((bytes : List ℕ) → AreDigits digits bytes → Formed (form bytes)) → Formed (hex_field digits form)
hex_field_formed digits form each = hex_formed digits form (decode_of digits) refl each

part_long : (rest : List ℕ) (from n : ℕ) → from + n ≤ length rest → length (part from n rest) ≡ n
part_long rest from n room = length-take-le n (drop from rest) (omega (arith, room, length-drop from rest))

-- half as many bytes as digits
half : (rest : List ℕ) (from n : ℕ) (bytes : List ℕ) → from + 2 * n ≤ length rest → AreDigits (part from (2 * n) rest) bytes → length bytes ≡ n
half rest from n bytes room h = let a = h.twice in let b = part_long rest from (2 * n) room in omega arith

info_formed : (b : Bool) (x : Info) → (b ≡ true → IsShaped x) → Formed (packet_line (reported_if b (info_reported x)))
unfolding info_reported
info_formed false x shaped = tt
info_formed true x shaped = by (fits x) refl
  where
    by : (fit : Bool) → fits x ≡ fit → Formed (packet_line (within fit (info_packet x)))
    by true e = info_passes x (shaped refl) e
    by false e = tt

info_alone : (x : Info) → IsShaped x → Formed (packet_line (info_reported x))
info_alone x shaped = info_formed true x (λ e. shaped)

-- numbers below a limit
below : (n : ℕ) (xs : List ℕ) → list_all (λ x. nat_lt x n) xs ≡ true → All (λ x. x < n) xs
below n [] h = All-nil (λ x. x < n)
below n (x ∷ xs) h = let p = and_parts (nat_lt x n) (list_all (λ y. nat_lt y n) xs) h in All-cons (λ y. y < n) x xs (ltb-true x n p.0) (below n xs p.1)

at_below : (n : ℕ) (xs : List ℕ) (k : ℕ) → All (λ x. x < n) xs → k < length xs → slice_index xs k < n
at_below n xs k h lt = h k 0 lt

avi_line_formed : (ns : List ℕ) → length ns ≡ 17 → Formed (avi_reported ns)
unfolding avi_reported
avi_line_formed ns long =
    let words = take 4 (drop 13 ns) in
    info_formed (are_numbers_of_a_byte (take 13 ns) && are_words words) (avi_from (take 13 ns) words)
    (λ e.
    let p = and_parts (are_numbers_of_a_byte (take 13 ns)) (are_words words) e in
    (length-take-le 4 (drop 13 ns) (omega (arith, long, length-drop 13 ns)), below 65536 words p.1))

audio_line_formed : (ns : List ℕ) → length ns ≡ 7 → Formed (audio_reported ns)
unfolding audio_reported
audio_line_formed ns long = info_formed (are_numbers_of_a_byte ns) (audio_from ns) (λ e. at_below 256 ns 4 (below 256 ns e) (omega arith))

acr_line_formed : (ns : List ℕ) → Formed (acr_reported ns)
unfolding acr_reported
acr_line_formed ns = by (nat_lt (slice_index ns 0) 1048576) (nat_lt (slice_index ns 1) 1048576) refl refl
  where
    by : (a b : Bool) → nat_lt (slice_index ns 0) 1048576 ≡ a → nat_lt (slice_index ns 1) 1048576 ≡ b → Formed (packet_line (within (a && b) (acr_packet (record { n = slice_index ns 0; cts = slice_index ns 1 }) no_sync)))
    by true true e f = clock_passes (record { n = slice_index ns 0; cts = slice_index ns 1 }) (ltb-true _ _ e) (ltb-true _ _ f)
    by true false e f = tt
    by false b e f = tt

gcp_line_formed : (ns : List ℕ) → Formed (gcp_reported ns)
unfolding gcp_reported
gcp_line_formed ns = by (nat_lt (slice_index ns 0) 2) (nat_lt (slice_index ns 1) 2) (nat_lt (slice_index ns 2) 16) refl refl refl
  where
    by : (a b c : Bool) → nat_lt (slice_index ns 0) 2 ≡ a → nat_lt (slice_index ns 1) 2 ≡ b → nat_lt (slice_index ns 2) 16 ≡ c
        → Formed (packet_line (within (a && (b && c)) (control_packet (slice_index ns 0) (slice_index ns 1) (slice_index ns 2))))
    by true true true e f g = control_passes (slice_index ns 0) (slice_index ns 1) (slice_index ns 2) (ltb-true _ _ e) (ltb-true _ _ f) (ltb-true _ _ g)
    by true true false e f g = tt
    by true false c e f g = tt
    by false b c e f g = tt

row_form_formed : (rest : List ℕ) → Formed (row_form rest)
unfolding row_form
row_form_formed rest = by (length rest % 6 == 0) (decode_of rest) refl
  where
    by : (b : Bool) (r : Result (List ℕ) FromHexError) → decode_of rest ≡ r → Formed (row_by b r)
    by true (Ok bytes) e = all_pass bytes (all_of bytes (decode_of-ok rest bytes e).3)
    by true (Err x) e = tt
    by false r e = tt

first_true : (a b : Bool) → (a && b) ≡ true → a ≡ true
first_true a b h = (and_parts a b h).0

spd_form_formed : (rest : List ℕ) → Formed (spd_form rest)
unfolding spd_form
spd_form_formed rest =
    tested ((length rest == 52) && (is_space rest 16 && is_space rest 49)) _ no_line
    (λ e.
    let long : length rest ≡ 52 = eqb-true (length rest) 52 (first_true _ _ e) in
    hex_field_formed (part 0 16 rest) _ (λ vendor v. hex_field_formed (part 17 32 rest) _ (λ product p. hex_field_formed (part 50 2 rest) (spd_reported vendor product) (λ kind k.
    info_alone (Spd (record { vendor = vendor; product = product; kind = slice_index kind 0 }))
    (half rest 0 8 vendor (omega arith) v, half rest 17 16 product (omega arith) p, all_of vendor v.bytes_are, all_of product p.bytes_are, k.bytes_are 0)))))
    tt

info_line_formed : (kind version bytes : List ℕ) → IsBytes kind → IsBytes version → IsBytes bytes → length bytes ≤ 27 → Formed (info_line kind version bytes)
info_line_formed kind version bytes k v b few =
    let a = length-append bytes (replicate (27 - length bytes) 0) in
    let c = length-replicate {A = ℕ} (27 - length bytes) 0 in
    info_alone (Raw (slice_index kind 0) (slice_index version 0) (length bytes) (padded bytes))
    (k 0, v 0, omega arith, All-append IsByte bytes (replicate (27 - length bytes) 0) (all_of bytes b) (All-replicate IsByte (27 - length bytes) 0 (omega arith)))

no_bytes : IsBytes []
no_bytes i = omega arith

payload_formed : (rest : List ℕ) (form : List ℕ → ContentLine) → ((bytes : List ℕ) → IsBytes bytes → length bytes ≤ 27 → Formed (form bytes)) → Formed (payload_form rest form)
unfolding payload_form
payload_formed [] form each = each [] no_bytes (omega arith)
payload_formed (c ∷ digits) form each =
    tested ((c == 32) && (nat_le 1 (length digits) && nat_le (length digits) 54)) (hex_field digits form) no_line
    (λ e.
    let few = leb-true (length digits) 54 (and_parts (nat_le 1 (length digits)) (nat_le (length digits) 54) (and_parts (c == 32) _ e).1).1 in
    hex_field_formed digits form (λ bytes d. let t = d.twice in each bytes d.bytes_are (omega arith)))
    tt

info_form_formed : (rest : List ℕ) → Formed (info_form rest)
unfolding info_form
info_form_formed rest =
    chosen (nat_le 5 (length rest) && is_space rest 2) _ no_line
    (hex_field_formed (part 0 2 rest) _ (λ kind k. hex_field_formed (part 3 2 rest) _ (λ version v. payload_formed (drop 5 rest) (info_line kind version) (λ bytes b few. info_line_formed kind version bytes k.bytes_are v.bytes_are b few))))
    tt

packet_form_formed : (rest : List ℕ) → Formed (packet_form rest)
unfolding packet_form
packet_form_formed rest =
    tested ((length rest == 66) && (is_space rest 6 && (is_space rest 21 && (is_space rest 36 && is_space rest 51)))) _ no_line
    (λ e.
    let long : length rest ≡ 66 = eqb-true (length rest) 66 (first_true _ _ e) in
    hex_field_formed (part 0 6 rest) _ (λ header h. hex_field_formed (part 7 14 rest) _ (λ a x. hex_field_formed (part 22 14 rest) _ (λ b y. hex_field_formed (part 37 14 rest) _ (λ c z. hex_field_formed (part 52 14 rest) _ (λ d w.
    let la = half rest 7 7 a (omega arith) x in
    let lb = half rest 22 7 b (omega arith) y in
    let lc = half rest 37 7 c (omega arith) z in
    let ld = half rest 52 7 d (omega arith) w in
    let l1 = length-append (a ++ b ++ c) d in
    let l2 = length-append (a ++ b) c in
    let l3 = length-append a b in
    payload_passes header (a ++ b ++ c ++ d) no_sync (half rest 0 3 header (omega arith) h) (all_of header h.bytes_are) (omega arith)
    (All-append IsByte (a ++ b ++ c) d (All-append IsByte (a ++ b) c (All-append IsByte a b (all_of a x.bytes_are) (all_of b y.bytes_are)) (all_of c z.bytes_are)) (all_of d w.bytes_are))))))))
    tt

three_bytes : (xs : List ℕ) → IsBytes xs → value_of xs < 2 ^ 24
three_bytes xs h = let a = h 0 in let b = h 1 in let c = h 2 in omega arith

sample_formed : (left right ns : List ℕ) → IsBytes left → IsBytes right → Formed (sample_reported left right ns)
unfolding sample_reported
sample_formed left right ns l r = by (nat_lt (slice_index ns 0) 8) (nat_lt (slice_index ns 1) 8) (nat_lt (slice_index ns 2) 2 && nat_lt (slice_index ns 3) 2) refl refl
  where
    sample : Sample
    sample = record { left = value_of left; right = value_of right; left_flags = slice_index ns 0; right_flags = slice_index ns 1; start = slice_index ns 2 == 1; flat = slice_index ns 3 == 1 }

    by : (a b c : Bool) → nat_lt (slice_index ns 0) 8 ≡ a → nat_lt (slice_index ns 1) 8 ≡ b → Formed (sample_line (within (a && (b && c)) sample))
    by true true true e f = record { left = three_bytes left l; right = three_bytes right r; left_flags = ltb-true _ _ e; right_flags = ltb-true _ _ f }
    by true true false e f = tt
    by true false c e f = tt
    by false b c e f = tt

sample_form_formed : (rest : List ℕ) → Formed (sample_form rest)
unfolding sample_form
sample_form_formed rest =
    chosen (nat_le 14 (length rest) && (is_space rest 6 && is_space rest 13)) _ no_line
    (hex_field_formed (part 0 6 rest) _ (λ left l. hex_field_formed (part 7 6 rest) _ (λ right r. numbers_form_formed 4 (sample_reported left right) (drop 14 rest) (λ ns long. sample_formed left right ns l.bytes_are r.bytes_are))))
    tt

-- ---- the form of a line

-- what a line may be that is none of those before
abbrev from_gcp : List ℕ → ContentLine
from_gcp line = if starts_with nat_eq line (codes "gcp ") then numbers_form 3 gcp_reported (drop 4 line) else no_line

abbrev from_acr : List ℕ → ContentLine
from_acr line = if starts_with nat_eq line (codes "acr ") then numbers_form 2 acr_reported (drop 4 line) else from_gcp line

abbrev from_audio : List ℕ → ContentLine
from_audio line = if starts_with nat_eq line (codes "audio ") then numbers_form 7 audio_reported (drop 6 line) else from_acr line

abbrev from_avi : List ℕ → ContentLine
from_avi line = if starts_with nat_eq line (codes "avi ") then numbers_form 17 avi_reported (drop 4 line) else from_audio line

abbrev from_frame : List ℕ → ContentLine
from_frame line = if starts_with nat_eq line (codes "frame ") then numbers_form 2 frame_reported (drop 6 line) else from_avi line

abbrev from_mode : List ℕ → ContentLine
from_mode line = if starts_with nat_eq line (codes "mode ") then numbers_form 9 mode_reported (drop 5 line) else from_frame line

vic_formed : (ns : List ℕ) → Formed (vic_reported ns)
unfolding vic_reported
vic_formed ns = tt

mode_formed : (ns : List ℕ) → Formed (mode_reported ns)
unfolding mode_reported
mode_formed ns = tt

numbers_line_formed : (line : List ℕ) → Formed (numbers_line line)
unfolding numbers_line
numbers_line_formed line =
    chosen (starts_with nat_eq line (codes "vic ")) (numbers_form 1 vic_reported (drop 4 line)) (from_mode line) (numbers_form_formed 1 vic_reported (drop 4 line) (λ ns long. vic_formed ns))
    (chosen (starts_with nat_eq line (codes "mode ")) (numbers_form 9 mode_reported (drop 5 line)) (from_frame line) (numbers_form_formed 9 mode_reported (drop 5 line) (λ ns long. mode_formed ns))
    (chosen (starts_with nat_eq line (codes "frame ")) (numbers_form 2 frame_reported (drop 6 line)) (from_avi line) (numbers_form_formed 2 frame_reported (drop 6 line) (λ ns long. tt))
    (chosen (starts_with nat_eq line (codes "avi ")) (numbers_form 17 avi_reported (drop 4 line)) (from_audio line) (numbers_form_formed 17 avi_reported (drop 4 line) avi_line_formed)
    (chosen (starts_with nat_eq line (codes "audio ")) (numbers_form 7 audio_reported (drop 6 line)) (from_acr line) (numbers_form_formed 7 audio_reported (drop 6 line) audio_line_formed)
    (chosen (starts_with nat_eq line (codes "acr ")) (numbers_form 2 acr_reported (drop 4 line)) (from_gcp line) (numbers_form_formed 2 acr_reported (drop 4 line) (λ ns long. acr_line_formed ns))
    (chosen (starts_with nat_eq line (codes "gcp ")) (numbers_form 3 gcp_reported (drop 4 line)) no_line (numbers_form_formed 3 gcp_reported (drop 4 line) (λ ns long. gcp_line_formed ns)) tt))))))

abbrev from_packet : List ℕ → ContentLine
from_packet line = if starts_with nat_eq line (codes "packet ") then packet_form (drop 7 line) else numbers_line line

abbrev from_info : List ℕ → ContentLine
from_info line = if starts_with nat_eq line (codes "info ") then info_form (drop 5 line) else from_packet line

digits_line_formed : (line : List ℕ) → Formed (digits_line line)
unfolding digits_line
digits_line_formed line =
    chosen (starts_with nat_eq line (codes "spd ")) (spd_form (drop 4 line)) (from_info line) (spd_form_formed (drop 4 line))
    (chosen (starts_with nat_eq line (codes "info ")) (info_form (drop 5 line)) (from_packet line) (info_form_formed (drop 5 line))
    (chosen (starts_with nat_eq line (codes "packet ")) (packet_form (drop 7 line)) (numbers_line line) (packet_form_formed (drop 7 line)) (numbers_line_formed line)))

abbrev from_end : List ℕ → ContentLine
from_end line = if starts_with nat_eq line (codes "end") && (length line == 3) then end_line else digits_line line

abbrev from_sample : List ℕ → ContentLine
from_sample line = if starts_with nat_eq line (codes "s ") then sample_form (drop 2 line) else from_end line

abbrev from_row : List ℕ → ContentLine
from_row line = if starts_with nat_eq line (codes "row ") then row_form (drop 4 line) else from_sample line

abbrev from_short : List ℕ → ContentLine
from_short line = if nat_lt 32768 (length line) then no_line else from_row line

formed : (line : List ℕ) → Formed (content_form_of line)
unfolding content_form_of
formed line =
    chosen (is_fault line) fault_line (from_short line) tt
    (chosen (nat_lt 32768 (length line)) no_line (from_row line) tt
    (chosen (starts_with nat_eq line (codes "row ")) (row_form (drop 4 line)) (from_sample line) (row_form_formed (drop 4 line))
    (chosen (starts_with nat_eq line (codes "s ")) (sample_form (drop 2 line)) (from_end line) (sample_form_formed (drop 2 line))
    (chosen (starts_with nat_eq line (codes "end") && (length line == 3)) end_line (digits_line line) tt (digits_line_formed line)))))

-- ---- what was said so far

record IsGood (d : ContentDraft) : Type 0 where
  frames : are_content d.frames ≡ true
  current : is_content d.current ≡ true
  samples : All IsSample d.samples
  few : length d.samples ≤ 3

nothing_good : IsGood no_content
nothing_good = record { frames = refl; current = refl; samples = All-nil IsSample; few = omega arith }

one_more : {A : Type 0} (p : A → Bool) (xs : List A) (x : A) → list_all p xs ≡ true → p x ≡ true → list_all p (xs ++ x ∷ []) ≡ true
one_more p xs x h k = list_all-append p xs (x ∷ []) ∙ both (list_all p xs) (p x && true) h (both (p x) true k refl)

with_packet_good : (p : Packet) (f : Frame) → is_content f ≡ true → is_payload p ≡ true → is_content (with_packet p f) ≡ true
with_packet_good p f h k =
    let parts = and_parts (list_all are_bytes f.rows) (list_all is_payload f.packets) h in
    both (list_all are_bytes f.rows) (list_all is_payload (f.packets ++ p ∷ [])) parts.0 (one_more is_payload f.packets p parts.1 k)

with_row_good : (bytes : List ℕ) (f : Frame) → is_content f ≡ true → are_bytes bytes ≡ true → is_content (with_row bytes f) ≡ true
with_row_good bytes f h k =
    let parts = and_parts (list_all are_bytes f.rows) (list_all is_payload f.packets) h in
    both (list_all are_bytes (f.rows ++ bytes ∷ [])) (list_all is_payload f.packets) (one_more are_bytes f.rows bytes parts.0 k) parts.1

with_samples_good : (xs : List Sample) (f : Frame) → is_content f ≡ true → All IsSample xs → length xs ≤ 4 → is_content (with_samples xs f) ≡ true
with_samples_good [] f h k few = h
with_samples_good (x ∷ xs) f h k few = with_packet_good (samples_packet (x ∷ xs) no_sync) f h (samples_passes (x ∷ xs) k few)

settled_good : (d : ContentDraft) → are_content d.frames ≡ true → is_content d.current ≡ true → All IsSample d.samples → length d.samples ≤ 4 → IsGood (settled d)
settled_good d frames current samples few = record { frames = frames; current = with_samples_good d.samples d.current current samples few; samples = All-nil IsSample; few = omega arith }

sample_good : (s : Sample) (d : ContentDraft) → IsGood d → IsSample s → IsGood (with_sample s d)
sample_good s d g fit = by (length (d.samples ++ s ∷ []) == 4) refl
  where
    all : List Sample
    all = d.samples ++ s ∷ []

    fit_all : All IsSample all
    fit_all = All-append IsSample d.samples (s ∷ []) g.samples (All-cons IsSample s [] fit (All-nil IsSample))

    by : (b : Bool) → (length all == 4) ≡ b → IsGood (if b then settled (record d { samples = all }) else record d { samples = all })
    by true e = settled_good (record d { samples = all }) g.frames g.current fit_all (let n = eqb-true (length all) 4 e in omega arith)
    by false e =
        let n = length-append d.samples (s ∷ []) in
        let few = g.few in
        record { frames = g.frames; current = g.current; samples = fit_all; few = not_four (length all) (omega arith) e }
      where
        not_four : (m : ℕ) → m ≤ 4 → (m == 4) ≡ false → m ≤ 3
        not_four m le h = grind arith

line_good : (d : ContentDraft) (form : ContentLine) → IsGood d → Formed form → IsGood (with_content form d)
line_good d (mode_line mode) g h = record { frames = g.frames; current = g.current; samples = g.samples; few = g.few }
line_good d (row_line bytes) g h =
    let few = g.few in
    let s = settled_good d g.frames g.current g.samples (omega arith) in
    record { frames = s.frames; current = with_row_good bytes (settled d).current s.current h; samples = s.samples; few = s.few }
line_good d (frame_line width height) g h =
    let few = g.few in
    let s = settled_good d g.frames g.current g.samples (omega arith) in
    record { frames = one_more is_content d.frames (settled d).current g.frames s.current; current = refl; samples = s.samples; few = s.few }
line_good d (packet_line (Some p)) g h =
    let few = g.few in
    let s = settled_good d g.frames g.current g.samples (omega arith) in
    record { frames = s.frames; current = with_packet_good p (settled d).current s.current h; samples = s.samples; few = s.few }
line_good d (packet_line None) g h = g
line_good d (sample_line (Some s)) g h = sample_good s d g h
line_good d (sample_line None) g h = g
line_good d end_line g h = g
line_good d fault_line g h = g
line_good d no_line g h = g

-- ---- all lines

abbrev Given : Type 0
Given = Mode × List Frame

-- what a line did
abbrev Did : ContentDraft → ContentLine → LineStep ContentDraft Given → Type 0
Did d form (tells now) = now ≡ with_content form d
Did d form (closes given) = given.1 ≡ d.frames
Did d form (wrong cause) = Unit {0}

closed_did : (d : ContentDraft) (mode : Option Mode) → Did d end_line (closed_content d mode)
closed_did d (Some mode) = refl
closed_did d None = tt

did : (d : ContentDraft) (form : ContentLine) (cause : Option ListCause) → Did d form (content_step_by cause form d)
did d form (Some cause) = tt
did d end_line None = closed_did d d.mode
did d (mode_line mode) None = refl
did d (row_line bytes) None = refl
did d (frame_line width height) None = refl
did d (packet_line packet) None = refl
did d (sample_line sample) None = refl
did d fault_line None = refl
did d no_line None = refl

line_did : (d : ContentDraft) (line : List ℕ) → Did d (content_form_of line) (content_step d line)
unfolding content_step
line_did d line = did d (content_form_of line) (content_cause d (content_form_of line))

cut_refused : (n : ℕ) (line : List ℕ) (step : LineStep ContentDraft Given) (given : Given) → cut_short n line step ≡ accepts given → ⊥
cut_refused n [] step given h = cc h
cut_refused n (c ∷ line) (tells now) given h = cc h
cut_refused n (c ∷ line) (closes done) given h = cc h
cut_refused n (c ∷ line) (wrong cause) given h = cc h

end_given : (n : ℕ) (done given : Given) (after : List (List ℕ)) → ended_by n done after ≡ accepts given → done ≡ given
end_given n done given [] h = cc h
end_given n done given ([] ∷ []) h = cc h
end_given n done given ([] ∷ (line ∷ after)) h = cc h
end_given n done given ((c ∷ line) ∷ after) h = cc h

-- what a line did by which a text was taken
record Goes (d : ContentDraft) (form : ContentLine) (rest : ContentDraft → Read Given) (given : Given) : Type 0 where
  now : ContentDraft
  is : now ≡ with_content form d
  reads : rest now ≡ accepts given

line_taken : (n : ℕ) (after : List (List ℕ)) (rest : ContentDraft → Read Given) (short : Bool) (d : ContentDraft) (form : ContentLine) (step : LineStep ContentDraft Given) (given : Given) → Did d form step
    → steps_on n after rest (within_text short step) ≡ accepts given → Goes d form rest given ⊎ (given.1 ≡ d.frames)
line_taken n after rest true d form (tells now) given is h = inl record { now = now; is = is; reads = h }
line_taken n after rest true d form (closes done) given is h = inr (ap (λ (g : Given). g.1) (sym (end_given (n + 1) done given after h)) ∙ is)
line_taken n after rest true d form (wrong cause) given k h = cc h
line_taken n after rest false d form (tells now) given k h = cc h
line_taken n after rest false d form (closes done) given k h = cc h
line_taken n after rest false d form (wrong cause) given k h = cc h

lines_taken : (n at : ℕ) (d : ContentDraft) (lines : List (List ℕ)) (given : Given) → IsGood d → read_lines content_step n at d lines ≡ accepts given → are_content given.1 ≡ true
unfolding read_lines
lines_taken n at d [] given g h = cc h
lines_taken n at d (line ∷ []) given g h = absurd (cut_refused n line (within_text (nat_le (at + length line) 4294967295) (content_step d line)) given h)
lines_taken n at d (line ∷ (next ∷ more)) given g h =
    elim (line_taken n (next ∷ more) (λ now. read_lines content_step (n + 1) (at + length line + 1) now (next ∷ more)) (nat_le (at + length line + 1) 4294967295) d (content_form_of line) (content_step d line) given (line_did d line) h) [
      | inl t ↦ lines_taken (n + 1) (at + length line + 1) t.now (next ∷ more) given (subst (λ (e : ContentDraft). IsGood e) (sym t.is) (line_good d (content_form_of line) g (formed line))) t.reads
      | inr is ↦ ap are_content is ∙ g.frames
    ]

pub taken_is_content : TakenIsContent
unfolding content_reads_as
taken_is_content text mode frames h = lines_taken 1 0 no_content (pieces_of text) (mode, frames) nothing_good h
