-- The packet that the line of an InfoFrame gives says its fields.
use Rattle.std.proofs.Common.{◌≡◌, ℕ, ◌+◌, ◌-◌, ◌*◌, ◌/◌, ◌%◌, ◌<◌, ◌≤◌, true, List, [], ◌∷◌, ◌++◌, length, take, drop, replicate, get_or, All, refl, ap, sym, subst, ◌∙◌, arith, append_assoc, length-append, inl, inr}
use Rattle.std.specs.Prelude.{sum}
use Rattle.std.proofs.Math.Seq.{take-append_seam, drop-append_seam}
use Rattle.std.proofs.lemmas.Bool.{cases_lt}
use Rattle.std.proofs.lemmas.List.{length-take, length-replicate, get_or_past}
use Rattle.std.proofs.lemmas.List.Elements.{All-cons, All-nil, All-append, All-replicate, All-take}
use Rattle.island_pack.specs.Packets.{IsPacket}
use Rattle.infoframe.specs.Bytes.{AviBounds, AudioBounds, bar_bytes}
use Rattle.infoframe.specs.Fields.{field, avi_of, avi_reserved, audio_of, audio_reserved, spd_of}
use Rattle.infoframe.specs.Frames.{kind_of, sum_of}
use Rattle.infoframe.specs.Written.{padded, info_as, reserved_of, type_of, version_of, length_of, fits, IsWritten}
use Rattle.infoframe.specs.declared.content.Avi.{Avi as AviFields}
use Rattle.infoframe.specs.declared.content.AudioInfo.{AudioInfo}
use Rattle.infoframe.specs.declared.content.Spd.{Spd as SpdFields}
use Rattle.infoframe.specs.declared.content.Info.{Info}
use Rattle.infoframe.specs.declared.content.Info.TheVariants.{Avi, Audio, Spd, Raw}
use Rattle.infoframe.proofs.Bounds.{avi_bounds, audio_bounds, raw_bounds}
use Rattle.infoframe.proofs.Contents.{avi_of_bytes, avi_free, avi_plain, audio_of_bytes, audio_free, audio_plain}
use Rattle.infoframe.proofs.Numbers.{field_whole}
use Rattle.infoframe.proofs.Writings.{written_from, sum_from, raw_written}
use Rattle.listing_reader.specs.InfoPackets.{payload_of, balance, info_packet}
use Rattle.listing_laws.specs.Said.{ListedIsSaid}

abbrev IsByte : ℕ → Type 0
IsByte b = b < 256

below_everywhere : (xs : List ℕ) (n : ℕ) → 0 < n → All (λ x. x < n) xs → (k : ℕ) → get_or xs k 0 < n
below_everywhere xs n some h k =
    elim (cases_lt k (length xs)) [
      | inl less ↦ h k 0 less
      | inr past ↦ subst (λ x. x < n) (sym (get_or_past xs k 0 past)) some
    ]

padded_bytes : (payload : List ℕ) → All IsByte payload → All IsByte (padded payload)
padded_bytes payload h = All-append IsByte payload (replicate (27 - length payload) 0) h (All-replicate IsByte (27 - length payload) 0 (omega arith))

padded_long : (payload : List ℕ) → length payload ≤ 27 → length (padded payload) ≡ 27
padded_long payload few = let a = length-append payload (replicate (27 - length payload) 0) in let b = length-replicate {A = ℕ} (27 - length payload) 0 in omega (arith, a, b)

-- a payload of an InfoFrame
record IsPayload (x : Info) (payload : List ℕ) : Type 0 where
  long : length payload ≡ length_of x
  few : length_of x ≤ 27
  bytes : All IsByte payload
  type_code : type_of x < 256
  version : version_of x < 256

whole : (x : Info) → IsPayload x (payload_of x) → IsPacket (info_packet x)
unfolding info_packet
whole x h =
    let long = h.long in
    let few = h.few in
    let size = padded_long (payload_of x) (omega arith) in
    record {
      header = refl;
      header_bytes = All-cons IsByte (type_of x) (version_of x ∷ length_of x ∷ []) h.type_code (All-cons IsByte (version_of x) (length_of x ∷ []) h.version (All-cons IsByte (length_of x) [] (omega arith) (All-nil IsByte)));
      bodies = omega (arith, size);
      body_bytes = All-cons IsByte (balance (type_of x + version_of x + length_of x + sum (payload_of x))) (padded (payload_of x)) (omega arith) (padded_bytes (payload_of x) h.bytes);
      sync = refl;
    }

header_is : (x : Info) → IsPayload x (payload_of x) → (info_packet x).header ≡ type_of x ∷ version_of x ∷ length (payload_of x) ∷ []
unfolding info_packet
header_is x h = ap (λ n. type_of x ∷ version_of x ∷ n ∷ []) (sym h.long)

bodies_are : (x : Info) → drop 1 (info_packet x).bodies ≡ padded (payload_of x)
unfolding info_packet
bodies_are x = refl

balanced : (h s : ℕ) → (h + (balance (h + s) + s)) % 256 ≡ 0
balanced h s = omega arith

header_sum : (t v n : ℕ) → sum (t ∷ v ∷ n ∷ []) ≡ t + v + n
header_sum t v n = omega arith

checksum : (x : Info) → IsPayload x (payload_of x) → sum_of (info_packet x) ≡ 0
unfolding info_packet
checksum x h =
    let xs = payload_of x in
    let t = type_of x in
    let v = version_of x in
    let long = h.long in
    let few = h.few in
    sum_from (info_packet x) t v (balance (t + v + length_of x + sum xs)) xs (header_is x h) refl (omega arith)
    ∙ ap (λ n. (n + (balance (t + v + length_of x + sum xs) + sum xs)) % 256) (header_sum t v (length xs) ∙ ap (λ n. t + v + n) long)
    ∙ balanced (t + v + length_of x) (sum xs)

said_by : (x : Info) (zeros : ℕ) → IsPayload x (payload_of x) → info_as (kind_of (type_of x) (version_of x)) (record { type_code = type_of x; version = version_of x; payload = payload_of x }) ≡ x
    → reserved_of (kind_of (type_of x) (version_of x)) (payload_of x) ≡ replicate zeros 0 → IsWritten x (info_packet x)
said_by x zeros h says reserved =
    let long = h.long in
    let few = h.few in
    written_from x (info_packet x) (payload_of x) zeros (whole x h) (header_is x h) long (omega arith) (bodies_are x) (checksum x h) says reserved

-- ---- the fields of each layout

bar_bytes_below : (bars : List ℕ) → All IsByte (bar_bytes bars)
bar_bytes_below [] = All-nil IsByte
bar_bytes_below (bar ∷ bars) = All-cons IsByte (bar % 256) (bar / 256 % 256 ∷ bar_bytes bars) (omega arith) (All-cons IsByte (bar / 256 % 256) (bar_bytes bars) (omega arith) (bar_bytes_below bars))

bar_bytes_long : (bars : List ℕ) → length (bar_bytes bars) ≡ 2 * length bars
bar_bytes_long [] = refl
bar_bytes_long (bar ∷ bars) = let e = bar_bytes_long bars in omega (arith, e)

avi_payload : (x : AviFields) → AviBounds x → length x.bars ≡ 4 → IsPayload (Avi x) (payload_of (Avi x))
unfolding payload_of
avi_payload x b four =
    let bars = bar_bytes_long x.bars in
    let b1 : ℕ = x.s + 4 * x.b + 16 * x.a + 32 * x.y in
    let b2 : ℕ = x.r + 16 * x.m + 64 * x.c in
    let b3 : ℕ = x.sc + 4 * x.q + 16 * x.ec + 128 * x.itc in
    let s = b.s in
    let bb = b.b in
    let a = b.a in
    let y = b.y in
    let r = b.r in
    let m = b.m in
    let c = b.c in
    let sc = b.sc in
    let q = b.q in
    let ec = b.ec in
    let itc = b.itc in
    let vic = b.vic in
    let pr = b.pr in
    record {
      long = omega (arith, bars, four);
      few = omega arith;
      bytes =
          All-cons IsByte b1 (b2 ∷ b3 ∷ x.vic ∷ x.pr ∷ bar_bytes x.bars) (omega arith) (All-cons IsByte b2 (b3 ∷ x.vic ∷ x.pr ∷ bar_bytes x.bars) (omega arith)
          (All-cons IsByte b3 (x.vic ∷ x.pr ∷ bar_bytes x.bars) (omega arith) (All-cons IsByte x.vic (x.pr ∷ bar_bytes x.bars) (omega arith) (All-cons IsByte x.pr (bar_bytes x.bars) (omega arith) (bar_bytes_below x.bars)))));
      type_code = omega arith;
      version = omega arith;
    }

avi_said : (x : AviFields) → AviBounds x → length x.bars ≡ 4 → All (λ bar. bar < 65536) x.bars → IsWritten (Avi x) (info_packet (Avi x))
unfolding payload_of info_as reserved_of kind_of
avi_said x b four below =
    let plain = avi_plain x (bar_bytes x.bars) refl in
    said_by (Avi x) 3 (avi_payload x b four) (ap Avi (ap avi_of plain ∙ avi_of_bytes x b four (below_everywhere x.bars 65536 (omega arith) below))) (ap (λ xs. avi_reserved (field xs)) plain ∙ avi_free x b)

audio_payload : (x : AudioInfo) → AudioBounds x → x.ca < 256 → IsPayload (Audio x) (payload_of (Audio x))
unfolding payload_of
audio_payload x b ca =
    let b1 : ℕ = x.cc + 16 * x.ct in
    let b2 : ℕ = x.ss + 4 * x.sf in
    let b5 : ℕ = 8 * x.lsv + 128 * x.dm in
    let channels = b.cc in
    let ct = b.ct in
    let ss = b.ss in
    let sf = b.sf in
    let lsv = b.lsv in
    let dm = b.dm in
    record {
      long = refl;
      few = omega arith;
      bytes =
          All-cons IsByte b1 (b2 ∷ 0 ∷ x.ca ∷ b5 ∷ replicate 5 0) (omega arith) (All-cons IsByte b2 (0 ∷ x.ca ∷ b5 ∷ replicate 5 0) (omega arith) (All-cons IsByte 0 (x.ca ∷ b5 ∷ replicate 5 0) (omega arith)
          (All-cons IsByte x.ca (b5 ∷ replicate 5 0) (omega arith) (All-cons IsByte b5 (replicate 5 0) (omega arith) (All-replicate IsByte 5 0 (omega arith))))));
      type_code = omega arith;
      version = omega arith;
    }

audio_said : (x : AudioInfo) → AudioBounds x → x.ca < 256 → IsWritten (Audio x) (info_packet (Audio x))
unfolding payload_of info_as reserved_of kind_of
audio_said x b ca =
    let plain = audio_plain x in
    said_by (Audio x) 9 (audio_payload x b ca) (ap Audio (ap audio_of plain ∙ audio_of_bytes x b ca)) (ap (λ xs. audio_reserved (field xs)) plain ∙ audio_free x b)

spd_payload : (x : SpdFields) → length x.vendor ≡ 8 → length x.product ≡ 16 → All IsByte x.vendor → All IsByte x.product → x.kind < 256 → IsPayload (Spd x) (payload_of (Spd x))
unfolding payload_of
spd_payload x vendor product all_vendor all_product kind =
    let a = length-append (x.vendor ++ x.product) (x.kind ∷ []) in
    let b = length-append x.vendor x.product in
    record {
      long = omega (arith, a, b, vendor, product);
      few = omega arith;
      bytes = All-append IsByte (x.vendor ++ x.product) (x.kind ∷ []) (All-append IsByte x.vendor x.product all_vendor all_product) (All-cons IsByte x.kind [] kind (All-nil IsByte));
      type_code = omega arith;
      version = omega arith;
    }

spd_fields : (x : SpdFields) → length x.vendor ≡ 8 → length x.product ≡ 16 → x.kind < 256 → spd_of (x.vendor ++ x.product ++ x.kind ∷ []) ≡ x
unfolding spd_of field
spd_fields x vendor product kind =
    let assoc = append_assoc x.vendor x.product (x.kind ∷ []) in
    let whole_list = x.vendor ++ x.product ++ x.kind ∷ [] in
    let first : take 8 whole_list ≡ x.vendor = ap (take 8) assoc ∙ ap (λ n. take n (x.vendor ++ (x.product ++ x.kind ∷ []))) (sym vendor) ∙ take-append_seam x.vendor (x.product ++ x.kind ∷ []) in
    let rest : drop 8 whole_list ≡ x.product ++ x.kind ∷ [] = ap (drop 8) assoc ∙ ap (λ n. drop n (x.vendor ++ (x.product ++ x.kind ∷ []))) (sym vendor) ∙ drop-append_seam x.vendor (x.product ++ x.kind ∷ []) in
    let second : take 16 (drop 8 whole_list) ≡ x.product = ap (take 16) rest ∙ ap (λ n. take n (x.product ++ x.kind ∷ [])) (sym product) ∙ take-append_seam x.product (x.kind ∷ []) in
    let both_long : 24 ≡ length (x.vendor ++ x.product) = omega (arith, length-append x.vendor x.product, vendor, product) in
    let last : drop 24 whole_list ≡ x.kind ∷ [] = ap (λ n. drop n whole_list) both_long ∙ drop-append_seam (x.vendor ++ x.product) (x.kind ∷ []) in
    let byte : field whole_list 25 0 7 ≡ x.kind = ap (λ (xs : List ℕ). field xs 1 0 7) last ∙ field_whole (x.kind ∷ []) 1 (omega arith) kind in
    λ i. record { vendor = first i; product = second i; kind = byte i }

spd_said : (x : SpdFields) → length x.vendor ≡ 8 → length x.product ≡ 16 → All IsByte x.vendor → All IsByte x.product → x.kind < 256 → IsWritten (Spd x) (info_packet (Spd x))
unfolding payload_of info_as reserved_of kind_of
spd_said x vendor product all_vendor all_product kind = said_by (Spd x) 0 (spd_payload x vendor product all_vendor all_product kind) (ap Spd (spd_fields x vendor product kind)) refl

raw_said : (kind version n : ℕ) (bytes : List ℕ) → fits (Raw kind version n bytes) ≡ true → kind < 256 → version < 256 → length bytes ≡ 27 → All IsByte bytes → IsWritten (Raw kind version n bytes) (info_packet (Raw kind version n bytes))
unfolding payload_of
raw_said kind version n bytes fit type_code version_code long all =
    let x = Raw kind version n bytes in
    let bounds = raw_bounds kind version n bytes fit in
    let few = bounds.few in
    let size : length (take n bytes) ≡ n = simp length-take (omega (arith, long, few)) in
    let h : IsPayload x (payload_of x) = record { long = size; few = few; bytes = All-take IsByte n bytes all; type_code = type_code; version = version_code } in
    raw_written kind version n bytes (info_packet x) bounds long (whole x h) (header_is x h) (bodies_are x) (checksum x h)

pub listed_is_said : ListedIsSaid
unfolding fits
listed_is_said (Avi x) shaped fit = (fit, avi_said x (avi_bounds x fit) shaped.0 shaped.1)
listed_is_said (Audio x) shaped fit = (fit, audio_said x (audio_bounds x fit) shaped)
listed_is_said (Spd x) shaped fit = (fit, spd_said x shaped.0 shaped.1 shaped.2 shaped.3 shaped.4)
listed_is_said (Raw kind version n bytes) shaped fit = (fit, raw_said kind version n bytes fit shaped.0 shaped.1 shaped.2 shaped.3)
