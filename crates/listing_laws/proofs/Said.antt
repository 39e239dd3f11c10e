-- The lines of a content listing that say what a packet says by its fields.
use Rattle.std.proofs.Common.{◌≡◌, ℕ, ◌+◌, ◌-◌, ◌≤◌, Bool, true, false, ◌&&◌, cond, List, [], ◌∷◌, ◌++◌, map, length, take, All, refl, ap, ap₂, sym, subst, ◌∙◌, arith, append_assoc}
use Rattle.std.specs.Prelude.{Option, None, nat_le, is_some, slice_index}
use Rattle.std.specs.List.{filter, flat_map, enumerate_from}
use Rattle.std.proofs.lemmas.Bool.{le-leb}
use Rattle.std.proofs.Math.Seq.{take-append_seam}
use Rattle.tmds_word.specs.Column.{Column}
use Rattle.island_pack.specs.Periods.{Period}
use Rattle.island_pack.specs.Taken.{first_lost, spotless}
use Rattle.island_pack.proofs.Losses.{none_spotless}
use Rattle.island_pack.specs.declared.packet.Packet.{Packet}
use Rattle.island_pack.specs.declared.packet.PacketVerdicts.{PacketVerdicts}
use Rattle.infoframe.specs.Fields.{avi_of, audio_of, spd_of}
use Rattle.infoframe.specs.Frames.{Frame, frame_in, frame_of, kind_of}
use Rattle.infoframe.specs.Written.{padded, info_as, info_of, type_of, version_of, fits, IsWritten}
use Rattle.infoframe.specs.declared.content.Info.{Info}
use Rattle.infoframe.specs.declared.content.Info.TheVariants.{Avi, Audio, Spd, Raw}
use Rattle.infoframe.specs.declared.content.InfoKind.TheVariants.{Avi as AviKind, Audio as AudioKind, Spd as SpdKind, Raw as RawKind}
use Rattle.infoframe.proofs.Bounds.{raw_bounds}
use Rattle.infoframe.proofs.Law.{written_is_read}
use Rattle.audio_packets.specs.Clock.{IsAcr, acr_packet}
use Rattle.audio_packets.specs.Samples.{IsSample, even_note, samples_packet}
use Rattle.audio_packets.specs.declared.clock.Acr.{Acr}
use Rattle.audio_packets.specs.declared.sample.Sample.{Sample}
use Rattle.audio_packets.proofs.WrittenClock.{written_acr_is_read}
use Rattle.audio_packets.proofs.WrittenSamples.{written_samples_are_read}
use Rattle.link_laws.specs.Account.{account}
use Rattle.source_end.specs.Content.{Frame as ContentFrame}
use Rattle.source_end.specs.Raster.{raster_of}
use Rattle.listing_writer.specs.ContentText.{content_lines, packet_lines, carried_lines, clock_lines, sample_lines, note_lines, info_lines, info_words, sample_words}
use Rattle.listing_laws.specs.ListingLaws.{Each, as_sent_at, reported_lines, tells_packet}
use Rattle.listing_laws.specs.PacketLaws.{Placed, Payload, placed, ReportedPacket, received_packet, packets_received, payload_of, content_packets}
use Rattle.listing_laws.specs.Said.{info, clock, samples, info_line, lines_saying, IsAmong, AreAmong, AreListed, SaidLines, FieldsAreListed, AreFieldsOf, ContentFieldsAreListed}
use Rattle.listing_laws.proofs.Contents.{raster_packets}
use Rattle.listing_laws.proofs.PacketLines.{lines_of_payload, packet_lines_come_back}
use Rattle.listing_laws.proofs.PacketsListed.{packet_lines_are_listed}
use Rattle.listing_laws.proofs.Reported.{packets_come_back}

-- ---- what a packet of no lost block lists

unlost_lines : (p : Packet) (v : PacketVerdicts) (column : ℕ) → first_lost v ≡ None → packet_lines p v column ≡ carried_lines (slice_index p.header 0) p v column
unfolding packet_lines
unlost_lines p v column none = ap (λ (lost : Option ℕ). cond (is_some lost) [] (carried_lines (slice_index p.header 0) p v column)) none

-- an InfoFrame's type starts at 0x80
carried_info : (t : ℕ) (p : Packet) (v : PacketVerdicts) (column : ℕ) → 128 ≤ t → carried_lines t p v column ≡ info_lines column (frame_of p v)
unfolding carried_lines
carried_info t p v column le = grind (arith, le-leb)

type_high : (x : Info) → fits x ≡ true → 128 ≤ type_of x
type_high (Avi x) fit = omega arith
type_high (Audio x) fit = omega arith
type_high (Spd x) fit = omega arith
type_high (Raw kind version n bytes) fit = (raw_bounds kind version n bytes fit).type_code

raw_same : (f : Frame) (kind version n : ℕ) (bytes : List ℕ) → info_as RawKind f ≡ Raw kind version n bytes → (f.type_code ≡ kind) × ((f.version ≡ version) × (f.payload ≡ take n bytes))
unfolding info_as
raw_same f kind version n bytes says =
    let size : length f.payload ≡ n = cc in
    let same : padded f.payload ≡ bytes = cc in
    (cc, (cc, sym (take-append_seam f.payload _) ∙ ap₂ take size same))

words_are : (x : Info) (f : Frame) → fits x ≡ true → f.type_code ≡ type_of x → f.version ≡ version_of x → info_of f ≡ x → info_words (kind_of f.type_code f.version) f ≡ info_line x
unfolding info_of info_as info_words kind_of
words_are (Avi x) f fit t v says =
    let known : kind_of f.type_code f.version ≡ AviKind = ap₂ kind_of t v in
    let there : info_as AviKind f ≡ Avi x = ap (λ k. info_as k f) (sym known) ∙ says in
    let fields : avi_of f.payload ≡ x = cc in
    ap (λ k. info_words k f) known ∙ ap (λ y. info_line (Avi y)) fields
words_are (Audio x) f fit t v says =
    let known : kind_of f.type_code f.version ≡ AudioKind = ap₂ kind_of t v in
    let there : info_as AudioKind f ≡ Audio x = ap (λ k. info_as k f) (sym known) ∙ says in
    let fields : audio_of f.payload ≡ x = cc in
    ap (λ k. info_words k f) known ∙ ap (λ y. info_line (Audio y)) fields
words_are (Spd x) f fit t v says =
    let known : kind_of f.type_code f.version ≡ SpdKind = ap₂ kind_of t v in
    let there : info_as SpdKind f ≡ Spd x = ap (λ k. info_as k f) (sym known) ∙ says in
    let fields : spd_of f.payload ≡ x = cc in
    ap (λ k. info_words k f) known ∙ ap (λ y. info_line (Spd y)) fields
words_are (Raw kind version n bytes) f fit t v says =
    let known : kind_of f.type_code f.version ≡ RawKind = ap₂ kind_of t v ∙ (raw_bounds kind version n bytes fit).unknown in
    let there : info_as RawKind f ≡ Raw kind version n bytes = ap (λ k. info_as k f) (sym known) ∙ says in
    let same = raw_same f kind version n bytes there in
    ap (λ k. info_words k f) known ∙ (λ i. raw_line (same.0 i) (same.1.0 i) (same.1.1 i))
  where
    raw_line : ℕ → ℕ → List ℕ → List ℕ
    raw_line k w payload = info_words RawKind (record { type_code = k; version = w; payload = payload })

info_said : (x : Info) (p : Packet) (v : PacketVerdicts) (column : ℕ) → fits x ≡ true → IsWritten x p → first_lost v ≡ None → packet_lines p v column ≡ info_line x ∷ []
unfolding info_lines
info_said x p v column fit written none =
    let back = written_is_read x p v fit written none in
    let t : slice_index p.header 0 ≡ type_of x = ap (λ (hd : List ℕ). slice_index hd 0) written.header in
    unlost_lines p v column none
    ∙ carried_info (slice_index p.header 0) p v column (subst (λ n. 128 ≤ n) (sym t) (type_high x fit))
    ∙ ap (info_lines column) back.read
    ∙ ap (λ (line : List ℕ). line ∷ []) (words_are x (frame_in p) fit back.type_code back.version back.says)

clock_said : (acr : Acr) (sync : List ℕ) (v : PacketVerdicts) (column : ℕ) → IsAcr acr → first_lost v ≡ None → packet_lines (acr_packet acr sync) v column ≡ lines_saying (clock acr)
unfolding carried_lines clock_lines
clock_said acr sync v column fit none =
    unlost_lines (acr_packet acr sync) v column none ∙ ap (clock_lines column) (written_acr_is_read acr sync v fit none)

notes_said : (column n : ℕ) (xs : List Sample) → flat_map (note_lines column) (map even_note (enumerate_from n xs)) ≡ map sample_words xs
unfolding note_lines
notes_said column n [] = refl
notes_said column n (x ∷ xs) = ap (λ (lines : List (List ℕ)). sample_words x ∷ lines) (notes_said column (n + 1) xs)

samples_said : (xs : List Sample) (sync : List ℕ) (v : PacketVerdicts) (column : ℕ) → 1 ≤ length xs → length xs ≤ 4 → All IsSample xs → first_lost v ≡ None
    → packet_lines (samples_packet xs sync) v column ≡ map sample_words xs
unfolding carried_lines sample_lines
samples_said xs sync v column some few fit none =
    unlost_lines (samples_packet xs sync) v column none
    ∙ ap (sample_lines column) (written_samples_are_read xs sync v some few fit none)
    ∙ notes_said column 0 xs

pub said_lines : SaidLines
said_lines (info x) p v column says none = info_said x p v column says.0 says.1 none
said_lines (clock acr) p v column says none = ap (λ (q : Packet). packet_lines q v column) says.1 ∙ clock_said acr p.sync v column says.0 none
said_lines (samples xs) p v column says none = ap (λ (q : Packet). packet_lines q v column) says.3 ∙ samples_said xs p.sync v column says.0 says.1 says.2 none

-- ---- one of a list

module _ {A : Type 0} where
  among_left : (xs ys : List A) (x : A) → IsAmong xs x → IsAmong (xs ++ ys) x
  among_left xs ys x h = (h.0, h.1 ++ ys, ap (λ (zs : List A). zs ++ ys) h.2 ∙ append_assoc h.0 (x ∷ h.1) ys)

  among_right : (xs ys : List A) (y : A) → IsAmong ys y → IsAmong (xs ++ ys) y
  among_right xs ys y h = (xs ++ h.0, h.1, ap (λ (zs : List A). xs ++ zs) h.2 ∙ sym (append_assoc xs h.0 (y ∷ h.1)))

  among_more : (x y : A) (xs : List A) → IsAmong xs y → IsAmong (x ∷ xs) y
  among_more x y xs h = (x ∷ h.0, h.1, ap (λ (zs : List A). x ∷ zs) h.2)

  -- an element of a list is its first or one of the others
  among_cases : (x y : A) (xs before after : List A) (P : A → Type 0) → x ∷ xs ≡ before ++ (y ∷ after) → P x → (IsAmong xs y → P y) → P y
  among_cases x y xs [] after P h here later = let e : x ≡ y = cc in subst P e here
  among_cases x y xs (b ∷ before) after P h here later = let e : xs ≡ before ++ (y ∷ after) = cc in later (before, after, e)

  filter_more : (xs kept_ones : List A) (x y : A) (kept : Bool) → (IsAmong kept_ones y → IsAmong xs y) → IsAmong (cond kept (x ∷ kept_ones) kept_ones) y → IsAmong (x ∷ xs) y
  filter_more xs kept_ones x y false more h = among_more x y xs (more h)
  filter_more xs kept_ones x y true more h = among_cases x y kept_ones h.0 h.1 (λ z. IsAmong (x ∷ xs) z) h.2 ([], xs, refl) (λ later. among_more x y xs (more later))

  among_filter : (test : A → Bool) (xs : List A) (y : A) → IsAmong (filter test xs) y → IsAmong xs y
  among_filter test [] y h = absurd (nothing h.0 h.1 h.2)
    where
      nothing : (before after : List A) → [] ≡ before ++ (y ∷ after) → ⊥
      nothing [] after e = cc e
      nothing (b ∷ before) after e = cc e
  among_filter test (x ∷ xs) y h = filter_more xs (filter test xs) x y (test x) (among_filter test xs y) h

  are_filter : (test : A → Bool) (xs ys : List A) → AreAmong (filter test xs) ys → AreAmong xs ys
  are_filter test xs [] h = tt
  are_filter test xs (y ∷ ys) h = (among_filter test xs y h.0, are_filter test xs ys h.1)

  are_left : (xs zs ys : List A) → AreAmong xs ys → AreAmong (xs ++ zs) ys
  are_left xs zs [] h = tt
  are_left xs zs (y ∷ ys) h = (among_left xs zs y h.0, are_left xs zs ys h.1)

  are_right : (zs xs ys : List A) → AreAmong xs ys → AreAmong (zs ++ xs) ys
  are_right zs xs [] h = tt
  are_right zs xs (y ∷ ys) h = (among_right zs xs y h.0, are_right zs xs ys h.1)

  are_more : (x : A) (xs ys : List A) → AreAmong xs ys → AreAmong (x ∷ xs) ys
  are_more x xs [] h = tt
  are_more x xs (y ∷ ys) h = (among_more x y xs h.0, are_more x xs ys h.1)

  are_own : (xs : List A) → AreAmong xs xs
  are_own [] = tt
  are_own (x ∷ xs) = (([], xs, refl), are_more x xs xs (are_own xs))

-- the lines of one of some packets are among all of theirs
are_flat : (before after : List ReportedPacket) (r : ReportedPacket) (ys : List (List ℕ)) → AreAmong (reported_lines r) ys → AreAmong (flat_map reported_lines (before ++ (r ∷ after))) ys
are_flat [] after r ys h = are_left (reported_lines r) (flat_map reported_lines after) ys h
are_flat (b ∷ before) after r ys h = are_right (reported_lines b) (flat_map reported_lines (before ++ (r ∷ after))) ys (are_flat before after r ys h)

-- ---- a packet that was received whole

received_one : (sent received : List Column) (a e : ℕ) (before after : List Placed) (k : Placed) → a ≤ k.at → k.at + 32 ≤ e
    → IsAmong (packets_received sent received a e (before ++ (k ∷ after))) (received_packet sent received a k)
unfolding packets_received
received_one sent received a e [] after k from to = (
  [],
  packets_received sent received a e after,
  ap₂ (λ (s t : Bool). cond (s && t) (received_packet sent received a k ∷ []) [] ++ packets_received sent received a e after) (le-leb a k.at from) (le-leb (k.at + 32) e to),
)
received_one sent received a e (b ∷ before) after k from to =
    among_right (cond (nat_le a b.at && nat_le (b.at + 32) e) (received_packet sent received a b ∷ []) []) (packets_received sent received a e (before ++ (k ∷ after))) (received_packet sent received a k)
    (received_one sent received a e before after k from to)

each_of : (P : Placed → Type 0) (before after : List Placed) (k : Placed) → Each P (before ++ (k ∷ after)) → P k
each_of P [] after k h = h.0
each_of P (b ∷ before) after k h = each_of P before after k h.1

-- ---- the fields that are listed

-- of a packet at a place, and of one that has its header and bodies
listed_at : (periods : List Period) (sent received : List Column) (a m : ℕ) (lines : List (List ℕ)) (k : Placed) (p : Packet)
    → filter tells_packet lines ≡ flat_map reported_lines (packets_received sent received a (a + m) (placed 0 periods))
    → Each (λ j. as_sent_at sent received j ≡ true → reported_lines (received_packet sent received a j) ≡ packet_lines j.packet spotless (j.at - a)) (placed 0 periods)
    → IsAmong (placed 0 periods) k → payload_of k.packet ≡ payload_of p → AreListed sent received a (a + m) lines k p
listed_at periods sent received a m lines k p listed each at same said says from to whole =
    let before = at.0 in
    let after = at.1 in
    let rp = received_packet sent received a k in
    let own : reported_lines rp ≡ lines_saying said =
    each_of (λ j. as_sent_at sent received j ≡ true → reported_lines (received_packet sent received a j) ≡ packet_lines j.packet spotless (j.at - a)) before after k
    (subst (λ (ks : List Placed). Each (λ j. as_sent_at sent received j ≡ true → reported_lines (received_packet sent received a j) ≡ packet_lines j.packet spotless (j.at - a)) ks) at.2 each) whole
    ∙ lines_of_payload k.packet p spotless (k.at - a) (ap (λ (x : Payload). x.header) same) (ap (λ (x : Payload). x.bodies) same)
    ∙ said_lines said p spotless (k.at - a) says none_spotless in
    let found = received_one sent received a (a + m) before after k from to in
    let among : AreAmong (flat_map reported_lines (packets_received sent received a (a + m) (before ++ (k ∷ after)))) (lines_saying said) =
    subst (λ (rs : List ReportedPacket). AreAmong (flat_map reported_lines rs) (lines_saying said)) (sym found.2)
    (are_flat found.0 found.1 rp (lines_saying said) (subst (λ (ys : List (List ℕ)). AreAmong (reported_lines rp) ys) own (are_own (reported_lines rp)))) in
    are_filter tells_packet lines (lines_saying said)
    (subst (λ (ys : List (List ℕ)). AreAmong ys (lines_saying said)) (sym listed)
    (subst (λ (ks : List Placed). AreAmong (flat_map reported_lines (packets_received sent received a (a + m) ks)) (lines_saying said)) (sym at.2) among))

pub fields_are_listed : FieldsAreListed
fields_are_listed periods sent received reception a m ends within k at =
    listed_at periods sent received a m (content_lines (account periods sent received a m)) k k.packet
    (packet_lines_are_listed (account periods sent received a m) ∙ ap (flat_map reported_lines) (packets_come_back periods sent received reception a m ends within))
    (packet_lines_come_back periods sent received reception a) at refl

-- a packet of a content stands at a place
record IsPlaced (ks : List Placed) (p : Packet) : Type 0 where
  k : Placed
  among : IsAmong ks k
  same : payload_of k.packet ≡ payload_of p

place_of : (ks : List Placed) (before after : List Packet) (p : Packet) → map (λ (k : Placed). payload_of k.packet) ks ≡ map payload_of (before ++ (p ∷ after)) → IsPlaced ks p
place_of [] [] after p h = cc h
place_of [] (b ∷ before) after p h = cc h
place_of (k ∷ ks) [] after p h = let e : payload_of k.packet ≡ payload_of p = cc in record { k = k; among = ([], ks, refl); same = e }
place_of (k ∷ ks) (b ∷ before) after p h =
    let e : map (λ (j : Placed). payload_of j.packet) ks ≡ map payload_of (before ++ (p ∷ after)) = cc in
    let rest = place_of ks before after p e in
    record { k = rest.k; among = among_more k rest.k ks rest.among; same = rest.same }

-- where the packets of periods are those of a content
pub fields_of_content : (frames : List ContentFrame) (periods : List Period) (sent received : List Column) (a m : ℕ) (lines : List (List ℕ))
    → filter tells_packet lines ≡ flat_map reported_lines (packets_received sent received a (a + m) (placed 0 periods))
    → Each (λ j. as_sent_at sent received j ≡ true → reported_lines (received_packet sent received a j) ≡ packet_lines j.packet spotless (j.at - a)) (placed 0 periods)
    → map (λ (k : Placed). payload_of k.packet) (placed 0 periods) ≡ map payload_of (content_packets frames)
    → AreFieldsOf frames periods sent received a (a + m) lines
fields_of_content frames periods sent received a m lines listed each content p at =
    let there = place_of (placed 0 periods) at.0 at.1 p (content ∙ ap (map payload_of) at.2) in
    (there.k, there.among, there.same, listed_at periods sent received a m lines there.k p listed each there.among there.same)

pub content_fields_are_listed : ContentFieldsAreListed
content_fields_are_listed mode frames none sent received reception a m ends within =
    let periods = raster_of mode frames in
    fields_of_content frames periods sent received a m (content_lines (account periods sent received a m))
    (packet_lines_are_listed (account periods sent received a m) ∙ ap (flat_map reported_lines) (packets_come_back periods sent received reception a m ends within))
    (packet_lines_come_back periods sent received reception a) (raster_packets mode frames none)
