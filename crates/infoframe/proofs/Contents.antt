-- The fields of a payload that is written from fields, and the bytes of a payload from its fields.
use Rattle.std.proofs.Common.{◌≡◌, ℕ, ◌+◌, ◌*◌, ◌/◌, ◌%◌, ◌^◌, ◌<◌, List, [], ◌∷◌, ◌++◌, length, take, drop, get_or, ap, ◌∙◌, sym, arith}
use Rattle.infoframe.specs.Bytes.{AviBounds, AudioBounds, bar_bytes}
use Rattle.infoframe.specs.Fields.{field, avi_of, avi_table, avi_reserved, audio_of, audio_table, audio_reserved, spd_of}
use Rattle.infoframe.specs.declared.content.Avi.{Avi}
use Rattle.infoframe.specs.declared.content.AudioInfo.{AudioInfo}
use Rattle.infoframe.specs.declared.content.Spd.{Spd}
use Rattle.infoframe.proofs.Lists.{all_items}
use Rattle.infoframe.proofs.Numbers.{field_in_byte, field_of_two, field_whole}

-- the bytes of a payload, from its fields and from the bits that have no field
unfoldable pub avi_bytes : Avi → ℕ → ℕ → ℕ → List ℕ
avi_bytes x free1 free4 free5 =
    (x.s + 4 * x.b + 16 * x.a + 32 * x.y + 128 * free1)
    ∷ (x.r + 16 * x.m + 64 * x.c)
    ∷ (x.sc + 4 * x.q + 16 * x.ec + 128 * x.itc)
    ∷ (x.vic + 128 * free4)
    ∷ (x.pr + 16 * free5)
    ∷ bar_bytes x.bars

unfoldable pub audio_bytes : AudioInfo → ℕ → ℕ → ℕ → ℕ → List ℕ → List ℕ
audio_bytes x free1 free2 free3 free5 after =
    (x.cc + 8 * free1 + 16 * x.ct)
    ∷ (x.ss + 4 * x.sf + 32 * free2)
    ∷ free3
    ∷ x.ca
    ∷ (free5 + 8 * x.lsv + 128 * x.dm)
    ∷ after

-- bars after five bytes
bars_after : (bars : List ℕ) (b1 b2 b3 b4 b5 : ℕ) → length bars ≡ 4 → ((k : ℕ) → get_or bars k 0 < 65536)
    → (let xs : List ℕ = b1 ∷ b2 ∷ b3 ∷ b4 ∷ b5 ∷ bar_bytes bars in field xs 6 0 15 ∷ field xs 8 0 15 ∷ field xs 10 0 15 ∷ field xs 12 0 15 ∷ []) ≡ bars
bars_after [] b1 b2 b3 b4 b5 long below = absurd (omega arith)
bars_after (p ∷ []) b1 b2 b3 b4 b5 long below = absurd (omega arith)
bars_after (p ∷ (q ∷ [])) b1 b2 b3 b4 b5 long below = absurd (omega arith)
bars_after (p ∷ (q ∷ (r ∷ []))) b1 b2 b3 b4 b5 long below = absurd (omega arith)
bars_after (p ∷ (q ∷ (r ∷ (s ∷ (t ∷ bars))))) b1 b2 b3 b4 b5 long below = absurd (omega arith)
bars_after (p ∷ (q ∷ (r ∷ (s ∷ [])))) b1 b2 b3 b4 b5 long below =
    let xs : List ℕ = b1 ∷ b2 ∷ b3 ∷ b4 ∷ b5 ∷ bar_bytes (p ∷ q ∷ r ∷ s ∷ []) in
    let e6 : field xs 6 0 15 ≡ p = field_of_two xs 6 (omega arith) (omega arith) (omega arith) ∙ whole p (below 0) in
    let e8 : field xs 8 0 15 ≡ q = field_of_two xs 8 (omega arith) (omega arith) (omega arith) ∙ whole q (below 1) in
    let e10 : field xs 10 0 15 ≡ r = field_of_two xs 10 (omega arith) (omega arith) (omega arith) ∙ whole r (below 2) in
    let e12 : field xs 12 0 15 ≡ s = field_of_two xs 12 (omega arith) (omega arith) (omega arith) ∙ whole s (below 3) in
    λ i. e6 i ∷ e8 i ∷ e10 i ∷ e12 i ∷ []
  where
    whole : (n : ℕ) → n < 65536 → n % 256 + 256 * (n / 256 % 256) ≡ n
    whole n lt = omega arith

-- what is written has the fields
pub avi_of_bytes : (x : Avi) → AviBounds x → length x.bars ≡ 4 → ((k : ℕ) → get_or x.bars k 0 < 65536) → avi_of (avi_bytes x 0 0 0) ≡ x
unfolding avi_of avi_table avi_bytes
avi_of_bytes x h long below = grind (arith, field_in_byte, bars_after)

-- and no other bits
pub avi_free : (x : Avi) → AviBounds x → avi_reserved (field (avi_bytes x 0 0 0)) ≡ 0 ∷ 0 ∷ 0 ∷ []
unfolding avi_reserved avi_bytes
avi_free x h = grind (arith, field_in_byte)

abbrev pub five_zeros : List ℕ
five_zeros = 0 ∷ 0 ∷ 0 ∷ 0 ∷ 0 ∷ []

pub audio_of_bytes : (x : AudioInfo) → AudioBounds x → x.ca < 256 → audio_of (audio_bytes x 0 0 0 0 five_zeros) ≡ x
unfolding audio_of audio_table audio_bytes
audio_of_bytes x h below = grind (arith, field_in_byte, field_whole)

pub audio_free : (x : AudioInfo) → AudioBounds x → audio_reserved (field (audio_bytes x 0 0 0 0 five_zeros)) ≡ 0 ∷ 0 ∷ 0 ∷ 0 ∷ 0 ∷ 0 ∷ 0 ∷ 0 ∷ 0 ∷ []
unfolding audio_reserved audio_bytes
audio_free x h = grind (arith, field_in_byte, field_whole)

-- the bytes with no reserved bit set
pub avi_plain : (x : Avi) (bars : List ℕ) → bars ≡ bar_bytes x.bars
    → (x.s + 4 * x.b + 16 * x.a + 32 * x.y) ∷ (x.r + 16 * x.m + 64 * x.c) ∷ (x.sc + 4 * x.q + 16 * x.ec + 128 * x.itc) ∷ x.vic ∷ x.pr ∷ bars
    ≡ avi_bytes x 0 0 0
unfolding avi_bytes
avi_plain x bars e = grind arith

pub audio_plain : (x : AudioInfo)
    → (x.cc + 16 * x.ct) ∷ (x.ss + 4 * x.sf) ∷ 0 ∷ x.ca ∷ (8 * x.lsv + 128 * x.dm) ∷ five_zeros ≡ audio_bytes x 0 0 0 0 five_zeros
unfolding audio_bytes
audio_plain x = grind arith

-- bytes from their parts
avi_byte_1 : (x : ℕ) → x < 256 → x ≡ x / 2 ^ 0 % 2 ^ 2 + 4 * (x / 2 ^ 2 % 2 ^ 2) + 16 * (x / 2 ^ 4 % 2 ^ 1) + 32 * (x / 2 ^ 5 % 2 ^ 2) + 128 * (x / 2 ^ 7 % 2 ^ 1)
avi_byte_1 x lt = omega arith

avi_byte_2 : (x : ℕ) → x < 256 → x ≡ x / 2 ^ 0 % 2 ^ 4 + 16 * (x / 2 ^ 4 % 2 ^ 2) + 64 * (x / 2 ^ 6 % 2 ^ 2)
avi_byte_2 x lt = omega arith

avi_byte_3 : (x : ℕ) → x < 256 → x ≡ x / 2 ^ 0 % 2 ^ 2 + 4 * (x / 2 ^ 2 % 2 ^ 2) + 16 * (x / 2 ^ 4 % 2 ^ 3) + 128 * (x / 2 ^ 7 % 2 ^ 1)
avi_byte_3 x lt = omega arith

avi_byte_4 : (x : ℕ) → x < 256 → x ≡ x / 2 ^ 0 % 2 ^ 7 + 128 * (x / 2 ^ 7 % 2 ^ 1)
avi_byte_4 x lt = omega arith

avi_byte_5 : (x : ℕ) → x < 256 → x ≡ x / 2 ^ 0 % 2 ^ 4 + 16 * (x / 2 ^ 4 % 2 ^ 4)
avi_byte_5 x lt = omega arith

audio_byte_1 : (x : ℕ) → x < 256 → x ≡ x / 2 ^ 0 % 2 ^ 3 + 8 * (x / 2 ^ 3 % 2 ^ 1) + 16 * (x / 2 ^ 4 % 2 ^ 4)
audio_byte_1 x lt = omega arith

audio_byte_2 : (x : ℕ) → x < 256 → x ≡ x / 2 ^ 0 % 2 ^ 2 + 4 * (x / 2 ^ 2 % 2 ^ 3) + 32 * (x / 2 ^ 5 % 2 ^ 3)
audio_byte_2 x lt = omega arith

audio_byte_5 : (x : ℕ) → x < 256 → x ≡ x / 2 ^ 0 % 2 ^ 3 + 8 * (x / 2 ^ 3 % 2 ^ 4) + 128 * (x / 2 ^ 7 % 2 ^ 1)
audio_byte_5 x lt = omega arith

two_halves : (b c n : ℕ) → b < 256 → c < 256 → n ≡ b + 256 * c → (b ≡ n % 256) × (c ≡ n / 256 % 256)
two_halves b c n lb lc e = (omega arith, omega arith)

-- the bytes of a payload are those of its fields and of its other bits
pub avi_from_fields : (xs : List ℕ) → length xs ≡ 13 → ((k : ℕ) → get_or xs k 0 < 256)
    → xs ≡ avi_bytes (avi_of xs) (field xs 1 7 7) (field xs 4 7 7) (field xs 5 4 7)
unfolding avi_of avi_table avi_bytes
avi_from_fields xs long below =
    let b1 : get_or xs 0 0 ≡ field xs 1 0 1 + 4 * field xs 1 2 3 + 16 * field xs 1 4 4 + 32 * field xs 1 5 6 + 128 * field xs 1 7 7 =
    avi_byte_1 (get_or xs 0 0) (below 0) ∙ sym (λ i. field_in_byte xs 1 0 1 (omega arith) (omega arith) (omega arith) i + 4 * field_in_byte xs 1 2 3 (omega arith) (omega arith) (omega arith) i + 16 * field_in_byte xs 1 4 4 (omega arith) (omega arith) (omega arith) i + 32 * field_in_byte xs 1 5 6 (omega arith) (omega arith) (omega arith) i + 128 * field_in_byte xs 1 7 7 (omega arith) (omega arith) (omega arith) i) in
    let b2 : get_or xs 1 0 ≡ field xs 2 0 3 + 16 * field xs 2 4 5 + 64 * field xs 2 6 7 =
    avi_byte_2 (get_or xs 1 0) (below 1) ∙ sym (λ i. field_in_byte xs 2 0 3 (omega arith) (omega arith) (omega arith) i + 16 * field_in_byte xs 2 4 5 (omega arith) (omega arith) (omega arith) i + 64 * field_in_byte xs 2 6 7 (omega arith) (omega arith) (omega arith) i) in
    let b3 : get_or xs 2 0 ≡ field xs 3 0 1 + 4 * field xs 3 2 3 + 16 * field xs 3 4 6 + 128 * field xs 3 7 7 =
    avi_byte_3 (get_or xs 2 0) (below 2) ∙ sym (λ i. field_in_byte xs 3 0 1 (omega arith) (omega arith) (omega arith) i + 4 * field_in_byte xs 3 2 3 (omega arith) (omega arith) (omega arith) i + 16 * field_in_byte xs 3 4 6 (omega arith) (omega arith) (omega arith) i + 128 * field_in_byte xs 3 7 7 (omega arith) (omega arith) (omega arith) i) in
    let b4 : get_or xs 3 0 ≡ field xs 4 0 6 + 128 * field xs 4 7 7 =
    avi_byte_4 (get_or xs 3 0) (below 3) ∙ sym (λ i. field_in_byte xs 4 0 6 (omega arith) (omega arith) (omega arith) i + 128 * field_in_byte xs 4 7 7 (omega arith) (omega arith) (omega arith) i) in
    let b5 : get_or xs 4 0 ≡ field xs 5 0 3 + 16 * field xs 5 4 7 =
    avi_byte_5 (get_or xs 4 0) (below 4) ∙ sym (λ i. field_in_byte xs 5 0 3 (omega arith) (omega arith) (omega arith) i + 16 * field_in_byte xs 5 4 7 (omega arith) (omega arith) (omega arith) i) in
    let h6 = two_halves (get_or xs 5 0) (get_or xs 6 0) (field xs 6 0 15) (below 5) (below 6) (field_of_two xs 6 (omega arith) (below 5) (below 6)) in
    let h8 = two_halves (get_or xs 7 0) (get_or xs 8 0) (field xs 8 0 15) (below 7) (below 8) (field_of_two xs 8 (omega arith) (below 7) (below 8)) in
    let h10 = two_halves (get_or xs 9 0) (get_or xs 10 0) (field xs 10 0 15) (below 9) (below 10) (field_of_two xs 10 (omega arith) (below 9) (below 10)) in
    let h12 = two_halves (get_or xs 11 0) (get_or xs 12 0) (field xs 12 0 15) (below 11) (below 12) (field_of_two xs 12 (omega arith) (below 11) (below 12)) in
    sym (all_items xs 13 long) ∙ (λ i. b1 i ∷ b2 i ∷ b3 i ∷ b4 i ∷ b5 i ∷ h6.0 i ∷ h6.1 i ∷ h8.0 i ∷ h8.1 i ∷ h10.0 i ∷ h10.1 i ∷ h12.0 i ∷ h12.1 i ∷ [])

pub audio_from_fields : (xs : List ℕ) → length xs ≡ 10 → ((k : ℕ) → get_or xs k 0 < 256)
    → xs ≡ audio_bytes (audio_of xs) (field xs 1 3 3) (field xs 2 5 7) (field xs 3 0 7) (field xs 5 0 2)
    (field xs 6 0 7 ∷ field xs 7 0 7 ∷ field xs 8 0 7 ∷ field xs 9 0 7 ∷ field xs 10 0 7 ∷ [])
unfolding audio_of audio_table audio_bytes
audio_from_fields xs long below =
    let b1 : get_or xs 0 0 ≡ field xs 1 0 2 + 8 * field xs 1 3 3 + 16 * field xs 1 4 7 =
    audio_byte_1 (get_or xs 0 0) (below 0) ∙ sym (λ i. field_in_byte xs 1 0 2 (omega arith) (omega arith) (omega arith) i + 8 * field_in_byte xs 1 3 3 (omega arith) (omega arith) (omega arith) i + 16 * field_in_byte xs 1 4 7 (omega arith) (omega arith) (omega arith) i) in
    let b2 : get_or xs 1 0 ≡ field xs 2 0 1 + 4 * field xs 2 2 4 + 32 * field xs 2 5 7 =
    audio_byte_2 (get_or xs 1 0) (below 1) ∙ sym (λ i. field_in_byte xs 2 0 1 (omega arith) (omega arith) (omega arith) i + 4 * field_in_byte xs 2 2 4 (omega arith) (omega arith) (omega arith) i + 32 * field_in_byte xs 2 5 7 (omega arith) (omega arith) (omega arith) i) in
    let b3 = sym (field_whole xs 3 (omega arith) (below 2)) in
    let b4 = sym (field_whole xs 4 (omega arith) (below 3)) in
    let b5 : get_or xs 4 0 ≡ field xs 5 0 2 + 8 * field xs 5 3 6 + 128 * field xs 5 7 7 =
    audio_byte_5 (get_or xs 4 0) (below 4) ∙ sym (λ i. field_in_byte xs 5 0 2 (omega arith) (omega arith) (omega arith) i + 8 * field_in_byte xs 5 3 6 (omega arith) (omega arith) (omega arith) i + 128 * field_in_byte xs 5 7 7 (omega arith) (omega arith) (omega arith) i) in
    let b6 = sym (field_whole xs 6 (omega arith) (below 5)) in
    let b7 = sym (field_whole xs 7 (omega arith) (below 6)) in
    let b8 = sym (field_whole xs 8 (omega arith) (below 7)) in
    let b9 = sym (field_whole xs 9 (omega arith) (below 8)) in
    let b10 = sym (field_whole xs 10 (omega arith) (below 9)) in
    sym (all_items xs 10 long) ∙ (λ i. b1 i ∷ b2 i ∷ b3 i ∷ b4 i ∷ b5 i ∷ b6 i ∷ b7 i ∷ b8 i ∷ b9 i ∷ b10 i ∷ [])

abbrev pub spd_bytes : Spd → List ℕ
spd_bytes x = x.vendor ++ x.product ++ x.kind ∷ []

pub spd_from_fields : (xs : List ℕ) → length xs ≡ 25 → ((k : ℕ) → get_or xs k 0 < 256) → xs ≡ spd_bytes (spd_of xs)
unfolding spd_of
spd_from_fields xs long below =
    let parts : List ℕ → List ℕ = λ ys. take 8 ys ++ take 16 (drop 8 ys) ++ get_or ys 24 0 ∷ [] in
    sym (all_items xs 25 long) ∙ ap parts (all_items xs 25 long)
    ∙ ap (λ k. take 8 xs ++ take 16 (drop 8 xs) ++ k ∷ []) (sym (field_whole xs 25 (omega arith) (below 24)))
