-- A packet that says what an InfoFrame is to say, with nothing else set, is the one of its fields.
use Rattle.std.proofs.Common.{◌≡◌, ℕ, ◌+◌, ◌-◌, ◌%◌, ◌/◌, ◌<◌, ◌≤◌, true, List, [], ◌∷◌, ◌++◌, length, take, drop, replicate, get_or, refl, ap, ap₂, ◌∙◌, sym, subst, arith, add-one, All, inl, inr, length-take-le, length-drop, take-append-drop}
use Rattle.std.specs.Prelude.{slice_index, sum}
use Rattle.std.proofs.Math.Seq.{take-append_seam}
use Rattle.std.proofs.lemmas.Bool.{cases_lt}
use Rattle.std.proofs.lemmas.List.{get_or_past}
use Rattle.std.proofs.lemmas.List.Elements.{All-take, All-drop}
use Rattle.std.proofs.lemmas.List.Sums.{sum_by-cons}
use Rattle.island_pack.specs.Packets.{IsPacket}
use Rattle.island_pack.specs.declared.packet.Packet.{Packet}
use Rattle.infoframe.specs.Bytes.{bar_bytes}
use Rattle.infoframe.specs.Fields.{avi_of, avi_reserved, audio_of, audio_reserved, spd_of}
use Rattle.infoframe.specs.Frames.{Frame, frame_in, length_in, sum_of, kind_of}
use Rattle.infoframe.specs.Written.{padded, info_as, info_of, type_of, version_of, length_of, fits, reserved_of, reserved_in, IsWritten}
use Rattle.infoframe.specs.declared.content.InfoKind.TheVariants.{Raw as RawKind}
use Rattle.infoframe.specs.declared.content.Avi.{Avi as AviFields}
use Rattle.infoframe.specs.declared.content.AudioInfo.{AudioInfo}
use Rattle.infoframe.specs.declared.content.Spd.{Spd as SpdFields}
use Rattle.infoframe.specs.declared.content.Info.{Info}
use Rattle.infoframe.specs.declared.content.Info.TheVariants.{Avi, Audio, Spd, Raw}
use Rattle.infoframe.proofs.Contents.{avi_bytes, avi_plain, avi_from_fields, audio_bytes, audio_plain, audio_from_fields, spd_bytes, spd_from_fields}
use Rattle.infoframe.proofs.Bounds.{raw_bounds}
use Rattle.infoframe.proofs.Lists.{drop_after_first}
use Rattle.listing_reader.specs.InfoPackets.{payload_of, balance, info_packet, no_sync}

abbrev frame : ℕ → ℕ → List ℕ → Frame
frame t v xs = record { type_code = t; version = v; payload = xs }

abbrev payload : Packet → ℕ → List ℕ
payload p n = take n (drop 1 p.bodies)

below_everywhere : (xs : List ℕ) (n : ℕ) → 0 < n → All (λ x. x < n) xs → (k : ℕ) → get_or xs k 0 < n
below_everywhere xs n some h k =
    elim (cases_lt k (length xs)) [
      | inl less ↦ h k 0 less
      | inr past ↦ subst (λ x. x < n) (sym (get_or_past xs k 0 past)) some
    ]

module _ (p : Packet) (whole : IsPacket p) (n : ℕ) (few : n ≤ 27) where
  pub long : length (payload p n) ≡ n
  long = let size = whole.bodies in length-take-le n (drop 1 p.bodies) (omega (arith, length-drop 1 p.bodies))

  pub bytes : (k : ℕ) → get_or (payload p n) k 0 < 256
  bytes = below_everywhere (payload p n) 256 (omega arith) (All-take (λ b. b < 256) n (drop 1 p.bodies) (All-drop (λ b. b < 256) 1 p.bodies whole.body_bytes))

-- what the header says of the frame
frame_as : (p : Packet) (t v n : ℕ) → p.header ≡ t ∷ v ∷ n ∷ [] → n ≤ 27 → frame_in p ≡ frame t v (payload p n)
unfolding frame_in length_in
frame_as p t v n h few =
    let low : slice_index p.header 2 % 32 ≡ n = ap (λ (hd : List ℕ). slice_index hd 2 % 32) h ∙ omega arith in
    λ i. record { type_code = slice_index (h i) 0; version = slice_index (h i) 1; payload = take (low i) (drop 1 p.bodies) }

reserved_as : (p : Packet) (t v n : ℕ) → p.header ≡ t ∷ v ∷ n ∷ [] → n ≤ 27 → reserved_in p ≡ 0 ∷ reserved_of (kind_of t v) (payload p n)
unfolding reserved_in
reserved_as p t v n h few =
    let f = frame_as p t v n h few in
    let none : slice_index p.header 2 / 32 ≡ 0 = ap (λ (hd : List ℕ). slice_index hd 2 / 32) h ∙ omega arith in
    λ i. none i ∷ reserved_of (kind_of (f i).type_code (f i).version) (f i).payload

payload_avi : (x : AviFields) (p : Packet) → IsWritten (Avi x) p → payload p 13 ≡ payload_of (Avi x)
unfolding info_of info_as kind_of payload_of reserved_of avi_reserved
payload_avi x p w =
    let xs = payload p 13 in
    let says : info_of (frame 0x82 2 xs) ≡ Avi x = ap info_of (sym (frame_as p 0x82 2 13 w.header (omega arith))) ∙ w.says in
    let fields : avi_of xs ≡ x = cc in
    let free = subst (All (λ b. b ≡ 0)) (reserved_as p 0x82 2 13 w.header (omega arith)) w.reserved in
    avi_from_fields xs (long p w.whole 13 (omega arith)) (bytes p w.whole 13 (omega arith))
    ∙ (λ i. avi_bytes (fields i) (free 1 0 (omega arith) i) (free 2 0 (omega arith) i) (free 3 0 (omega arith) i))
    ∙ sym (avi_plain x (bar_bytes x.bars) refl)

payload_audio : (x : AudioInfo) (p : Packet) → IsWritten (Audio x) p → payload p 10 ≡ payload_of (Audio x)
unfolding info_of info_as kind_of payload_of reserved_of audio_reserved
payload_audio x p w =
    let xs = payload p 10 in
    let says : info_of (frame 0x84 1 xs) ≡ Audio x = ap info_of (sym (frame_as p 0x84 1 10 w.header (omega arith))) ∙ w.says in
    let fields : audio_of xs ≡ x = cc in
    let free = subst (All (λ b. b ≡ 0)) (reserved_as p 0x84 1 10 w.header (omega arith)) w.reserved in
    audio_from_fields xs (long p w.whole 10 (omega arith)) (bytes p w.whole 10 (omega arith))
    ∙ (λ i. audio_bytes (fields i) (free 1 0 (omega arith) i) (free 2 0 (omega arith) i) (free 3 0 (omega arith) i) (free 4 0 (omega arith) i)
    (free 5 0 (omega arith) i ∷ free 6 0 (omega arith) i ∷ free 7 0 (omega arith) i ∷ free 8 0 (omega arith) i ∷ free 9 0 (omega arith) i ∷ []))
    ∙ sym (audio_plain x)

payload_spd : (x : SpdFields) (p : Packet) → IsWritten (Spd x) p → payload p 25 ≡ payload_of (Spd x)
unfolding info_of info_as kind_of payload_of
payload_spd x p w =
    let xs = payload p 25 in
    let says : info_of (frame 0x83 1 xs) ≡ Spd x = ap info_of (sym (frame_as p 0x83 1 25 w.header (omega arith))) ∙ w.says in
    let fields : spd_of xs ≡ x = cc in
    spd_from_fields xs (long p w.whole 25 (omega arith)) (bytes p w.whole 25 (omega arith)) ∙ ap spd_bytes fields

payload_raw : (kind version n : ℕ) (bs : List ℕ) (p : Packet) → kind_of kind version ≡ RawKind → n ≤ 27 → IsWritten (Raw kind version n bs) p → payload p n ≡ payload_of (Raw kind version n bs)
unfolding info_of info_as payload_of
payload_raw kind version n bs p unknown few w =
    let xs = payload p n in
    let says : info_as (kind_of kind version) (frame kind version xs) ≡ Raw kind version n bs = ap info_of (sym (frame_as p kind version n w.header few)) ∙ w.says in
    let raw : info_as RawKind (frame kind version xs) ≡ Raw kind version n bs = ap (λ k. info_as k (frame kind version xs)) (sym unknown) ∙ says in
    let same : padded xs ≡ bs = cc in
    let size = long p w.whole n few in
    sym (take-append_seam xs (replicate (27 - length xs) 0)) ∙ ap₂ take size same

payload_is : (info : Info) (p : Packet) → fits info ≡ true → IsWritten info p → (length_of info ≤ 27) × (payload p (length_of info) ≡ payload_of info)
payload_is (Avi x) p fit w = (omega arith, payload_avi x p w)
payload_is (Audio x) p fit w = (omega arith, payload_audio x p w)
payload_is (Spd x) p fit w = (omega arith, payload_spd x p w)
payload_is (Raw kind version n bs) p fit w =
    let bounds = raw_bounds kind version n bs fit in
    (bounds.few, payload_raw kind version n bs p bounds.unknown bounds.few w)

begins : (xs : List ℕ) (n : ℕ) → length xs ≡ 28 → take (n + 1) xs ≡ get_or xs 0 0 ∷ take n (drop 1 xs)
begins [] n e = absurd (omega arith)
begins (x ∷ xs) n e = ap (λ m. take m (x ∷ xs)) (add-one n)

first_and_rest : (xs : List ℕ) → length xs ≡ 28 → xs ≡ get_or xs 0 0 ∷ drop 1 xs
first_and_rest [] e = absurd (omega arith)
first_and_rest (x ∷ xs) e = refl

header_sum : (t v n : ℕ) → sum (t ∷ v ∷ n ∷ []) ≡ t + v + n
header_sum t v n = omega arith

balanced : (h b s : ℕ) → b < 256 → (h + (b + s)) % 256 ≡ 0 → b ≡ balance (h + s)
balanced h b s less zero = omega arith

checksum_is : (p : Packet) (t v n : ℕ) → IsPacket p → n ≤ 27 → p.header ≡ t ∷ v ∷ n ∷ [] → sum_of p ≡ 0 → get_or p.bodies 0 0 ≡ balance (t + v + n + sum (payload p n))
unfolding sum_of length_in
checksum_is p t v n whole few h zero =
    let low : slice_index p.header 2 % 32 ≡ n = ap (λ (hd : List ℕ). slice_index hd 2 % 32) h ∙ omega arith in
    let all : (t + v + n + (get_or p.bodies 0 0 + sum (payload p n))) % 256 ≡ 0 =
    sym (ap (λ (m : ℕ). (sum p.header + sum (take (m + 1) p.bodies)) % 256) low
    ∙ ap (λ (xs : List ℕ). (sum p.header + sum xs) % 256) (begins p.bodies n whole.bodies)
    ∙ ap (λ (m : ℕ). (sum p.header + m) % 256) (sum_by-cons (λ x. x) (get_or p.bodies 0 0) (payload p n))
    ∙ ap (λ (hd : List ℕ). (sum hd + (get_or p.bodies 0 0 + sum (payload p n))) % 256) h
    ∙ ap (λ (m : ℕ). (m + (get_or p.bodies 0 0 + sum (payload p n))) % 256) (header_sum t v n)) ∙ zero in
    balanced (t + v + n) (get_or p.bodies 0 0) (sum (payload p n)) (below_everywhere p.bodies 256 (omega arith) whole.body_bytes 0) all

after_is : (p : Packet) (t v n : ℕ) → IsPacket p → n ≤ 27 → p.header ≡ t ∷ v ∷ n ∷ [] → drop (length_in p + 1) p.bodies ≡ replicate (27 - length_in p) 0
    → drop 1 p.bodies ≡ padded (payload p n)
unfolding length_in
after_is p t v n whole few h after =
    let low : slice_index p.header 2 % 32 ≡ n = ap (λ (hd : List ℕ). slice_index hd 2 % 32) h ∙ omega arith in
    let size = long p whole n few in
    let rest : drop n (drop 1 p.bodies) ≡ replicate (27 - length (payload p n)) 0 =
    sym (drop_after_first p.bodies n) ∙ ap (λ (m : ℕ). drop (m + 1) p.bodies) (sym low) ∙ after ∙ ap (λ (m : ℕ). replicate (27 - m) 0) (low ∙ sym size) in
    sym (take-append-drop n (drop 1 p.bodies)) ∙ ap (λ (zeros : List ℕ). payload p n ++ zeros) rest

pub written_packet : (info : Info) (p : Packet) → fits info ≡ true → IsWritten info p → p.sync ≡ no_sync → p ≡ info_packet info
unfolding info_packet
written_packet info p fit w sync =
    let is = payload_is info p fit w in
    let n = length_of info in
    let sum_is : get_or p.bodies 0 0 ≡ balance (type_of info + version_of info + n + sum (payload_of info)) =
    checksum_is p (type_of info) (version_of info) n w.whole is.0 w.header w.checksum
    ∙ ap (λ (xs : List ℕ). balance (type_of info + version_of info + n + sum xs)) is.1 in
    let rest : drop 1 p.bodies ≡ padded (payload_of info) = after_is p (type_of info) (version_of info) n w.whole is.0 w.header w.after ∙ ap padded is.1 in
    let bodies = first_and_rest p.bodies w.whole.bodies ∙ (λ i. sum_is i ∷ rest i) in
    λ i. record { header = w.header i; bodies = bodies i; sync = sync i }
