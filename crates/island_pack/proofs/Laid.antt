-- Columns that hold the TERC4 words of the laid nibbles carry the packet.
use Rattle.std.proofs.Common.{◌≡◌, ℕ, suc, zero, ◌+◌, ◌*◌, ◌/◌, ◌%◌, ◌^◌, ◌<◌, Bool, true, not, List, [], ◌∷◌, length, map, get_or, refl, ap, ap₂, ◌∙◌, sym, subst, arith, ◌==◌, ◌&&◌, slice_index, All}
use Rattle.std.specs.Prelude.{is_some}
use Rattle.std.specs.Int.{bit_at}
use Rattle.std.proofs.lemmas.List.{get_or-map, length-map}
use Rattle.std.proofs.lemmas.List.Elements.{All-from_get_or, All-get_or}
use Rattle.std.proofs.lemmas.Grind.{same_number_lists}
use Rattle.std.proofs.lemmas.Nat.Bits.{bit_at-lt, bit_at-suc}
use Rattle.tmds_word.specs.Bits.{bits_of as number_bits}
use Rattle.terc4.specs.Tables.{terc_words, is_terc}
use Rattle.terc4.specs.Columns.{one_if}
use Rattle.terc4.proofs.Entries.{value_of_terc}
use Rattle.terc4.proofs.Members.{is_some-value_in}
use Rattle.bch_block.specs.Bits.{bit}
use Rattle.island_pack.specs.Nibbles.{nibble_of, nibbles_of, sync_values, header_bits, by_turns, body_bits}
use Rattle.island_pack.specs.Packets.{IsPacket, BeginsWith, body_of, AreTerc, Carries}
use Rattle.island_pack.specs.Registers.{blue_of, crossed_of, laid_nibbles, register_words}
use Rattle.island_pack.specs.declared.packet.Packet.{Packet}
use Rattle.island_pack.proofs.Columns.{length-nibbles_of}
use Rattle.island_pack.proofs.Parts.{each_body}
use Rattle.island_pack.proofs.Parities.{one_if-lt, one_if-bit}

is_terc-word : (n : ℕ) → n < 16 → is_terc (slice_index terc_words n) ≡ true
unfolding is_terc
is_terc-word n lt = sym (is_some-value_in terc_words (slice_index terc_words n)) ∙ ap is_some (value_of_terc n lt)

pub crossed-lt : (blocks : List ℕ) (place : ℕ) → crossed_of blocks place < 16
unfolding crossed_of
crossed-lt blocks place = grind (arith, bit_at-lt)

-- the nibble of lane 0
blue_at : ℕ → ℕ → Bool → ℕ → ℕ
blue_at header sync first i = sync + 4 * bit_at header i + 8 * one_if (not (first && (i == 0)))

blue-parts : (s h m : ℕ) → s < 4 → h < 2 → m < 2
    → (s + 4 * h + 8 * m < 16) × ((s + 4 * h + 8 * m) % 4 ≡ s) × ((s + 4 * h + 8 * m) / 2 ^ 2 % 2 ≡ h) × ((s + 4 * h + 8 * m) / 2 ^ 3 % 2 ≡ m)
blue-parts s h m ls lh lm = (omega arith, omega arith, omega arith, omega arith)

bit_at-crossed : (blocks : List ℕ) (place b : ℕ) → b < 4 → bit_at (crossed_of blocks place) b ≡ bit_at (slice_index blocks b) place
unfolding crossed_of
bit_at-crossed blocks place = grind (arith, bit_at-lt, each_body)

-- the columns of laid nibbles
abbrev AreLaid : List (List ℕ) → ℕ → List ℕ → List ℕ → Bool → Type 0
AreLaid columns header bodies sync first =
    (k : ℕ) → k < 32 → get_or columns k [] ≡ register_words (laid_nibbles header bodies (slice_index sync k) first k)

word_at : (columns : List (List ℕ)) (header : ℕ) (bodies sync : List ℕ) (first : Bool) → AreLaid columns header bodies sync first → (k : ℕ) → k < 32
    → (slice_index (get_or columns k []) 0 ≡ slice_index terc_words (blue_at header (slice_index sync k) first k))
    × (slice_index (get_or columns k []) 1 ≡ slice_index terc_words (crossed_of bodies (2 * k)))
    × (slice_index (get_or columns k []) 2 ≡ slice_index terc_words (crossed_of bodies (2 * k + 1)))
unfolding register_words laid_nibbles blue_at
word_at columns header bodies sync first laid k lt = grind arith

-- a nibble of a lane, from its word
nibble_from : (columns : List (List ℕ)) (lane k n : ℕ) → length columns ≡ 32 → k < 32 → n < 16
    → slice_index (get_or columns k []) lane ≡ slice_index terc_words n → get_or (nibbles_of columns lane) k 0 ≡ n
unfolding nibbles_of nibble_of
nibble_from columns lane k n long lt small e = grind (arith, get_or-map, value_of_terc)

-- a lane whose words are those of nibbles
are_terc : (columns : List (List ℕ)) (lane : ℕ) (n : ℕ → ℕ) → length columns ≡ 32 → ((k : ℕ) → k < 32 → n k < 16)
    → ((k : ℕ) → k < 32 → slice_index (get_or columns k []) lane ≡ slice_index terc_words (n k)) → AreTerc columns lane
are_terc columns lane n long small e =
    All-from_get_or (λ words. is_terc (slice_index words lane) ≡ true) columns []
    (λ k lt. let below : k < 32 = omega (arith, lt, long) in ap is_terc (e k below) ∙ is_terc-word (n k) (small k below))

-- the bits of a number, from a list that has them at its places
bits_by_places : (ns : List ℕ) (m k : ℕ) → length ns ≡ k → ((i : ℕ) → i < k → bit_at (get_or ns i 0) 2 ≡ bit_at m i) → map (λ n. bit n 2) ns ≡ number_bits k m
unfolding number_bits
bits_by_places [] m zero long h = refl
bits_by_places [] m (suc k) long h = absurd (omega arith)
bits_by_places (n ∷ ns) m zero long h = absurd (omega arith)
bits_by_places (n ∷ ns) m (suc k) long h =
    let e : bit_at m 0 ≡ m % 2 = omega arith in
    ap₂ (λ x xs. (x == 1) ∷ xs) (h 0 (omega arith) ∙ e)
    (bits_by_places ns (m / 2) k (omega arith) (λ i lt. h (suc i) (omega arith) ∙ bit_at-suc m i))

-- and by turns from two lists
turns_by_places : (b : ℕ) (gs rs : List ℕ) (m k : ℕ) → length gs ≡ k → length rs ≡ k
    → ((i : ℕ) → i < k → bit_at (get_or gs i 0) b ≡ bit_at m (2 * i)) → ((i : ℕ) → i < k → bit_at (get_or rs i 0) b ≡ bit_at m (2 * i + 1))
    → by_turns b gs rs ≡ number_bits (2 * k) m
unfolding number_bits by_turns
turns_by_places b [] rs m zero lg lr hg hr = refl
turns_by_places b [] rs m (suc k) lg lr hg hr = absurd (omega arith)
turns_by_places b (g ∷ gs) rs m zero lg lr hg hr = absurd (omega arith)
turns_by_places b (g ∷ gs) [] m (suc k) lg lr hg hr = absurd (omega arith)
turns_by_places b (g ∷ gs) (r ∷ rs) m (suc k) lg lr hg hr =
    let even : bit_at m (2 * 0) ≡ m % 2 = omega arith in
    let odd : bit_at m (2 * 0 + 1) ≡ m / 2 % 2 = omega arith in
    let two : suc (suc (2 * k)) ≡ 2 * suc k = omega arith in
    let later : (i j : ℕ) → j ≡ suc (suc i) → bit_at m j ≡ bit_at (m / 2 / 2) i =
    λ i j e. ap (bit_at m) e ∙ bit_at-suc m (suc i) ∙ bit_at-suc (m / 2) i in
    ap₂ (λ x (xs : List Bool). (x == 1) ∷ xs) (hg 0 (omega arith) ∙ even)
    (ap₂ (λ x (xs : List Bool). (x == 1) ∷ xs) (hr 0 (omega arith) ∙ odd)
    (turns_by_places b gs rs (m / 2 / 2) k (omega arith) (omega arith)
    (λ i lt. hg (suc i) (omega arith) ∙ later (2 * i) (2 * suc i) (omega arith))
    (λ i lt. hr (suc i) (omega arith) ∙ later (2 * i + 1) (2 * suc i + 1) (omega arith))))
    ∙ ap (λ n. number_bits n m) two

-- the words of a column whose nibbles are known
pub laid : (header : ℕ) (bodies : List ℕ) (s sync : ℕ) (first : Bool) (i green red : ℕ) (words : List ℕ) → words ≡ register_words (blue_of header s first i ∷ green ∷ red ∷ []) → s ≡ sync
    → green ≡ crossed_of bodies (2 * i) → red ≡ crossed_of bodies (2 * i + 1) → words ≡ register_words (laid_nibbles header bodies sync first i)
unfolding laid_nibbles
laid header bodies s sync first i green red words e es eg er = e ∙ λ j. register_words (blue_of header (es j) first i ∷ eg j ∷ er j ∷ [])

pub carried : (packet : Packet) (first : Bool) (columns : List (List ℕ)) (header : ℕ) (bodies : List ℕ) → IsPacket packet → All (λ v. v < 4) packet.sync
    → length columns ≡ 32 → BeginsWith (number_bits 32 header) packet.header
    → ((b : ℕ) → b < 4 → BeginsWith (number_bits 64 (slice_index bodies b)) (body_of packet b))
    → AreLaid columns header bodies packet.sync first → Carries packet first columns
unfolding sync_values header_bits body_bits blue_at
carried packet first columns header bodies whole small long begins_header begins_body laid =
    let words = word_at columns header bodies packet.sync first laid in
    let sync : ℕ → ℕ = λ k. slice_index packet.sync k in
    let mark : ℕ → Bool = λ k. not (first && (k == 0)) in
    let parts = λ (k : ℕ) (lt : k < 32).
    blue-parts (sync k) (bit_at header k) (one_if (mark k)) (All-get_or (λ v. v < 4) packet.sync k 0 (omega (arith, lt, whole.sync)) small) (bit_at-lt header k) (one_if-lt (mark k)) in
    let blue : (k : ℕ) → k < 32 → get_or (nibbles_of columns 0) k 0 ≡ blue_at header (sync k) first k =
    λ k lt. nibble_from columns 0 k _ long lt (parts k lt).0 (words k lt).0 in
    let green : (k : ℕ) → k < 32 → get_or (nibbles_of columns 1) k 0 ≡ crossed_of bodies (2 * k) =
    λ k lt. nibble_from columns 1 k _ long lt (crossed-lt bodies (2 * k)) (words k lt).1 in
    let red : (k : ℕ) → k < 32 → get_or (nibbles_of columns 2) k 0 ≡ crossed_of bodies (2 * k + 1) =
    λ k lt. nibble_from columns 2 k _ long lt (crossed-lt bodies (2 * k + 1)) (words k lt).2 in
    let lane_long : (lane : ℕ) → length (nibbles_of columns lane) ≡ 32 = λ lane. length-nibbles_of columns lane ∙ long in
    let halved : ℕ → ℕ = λ n. n % 4 in
    let blues = nibbles_of columns 0 in
    let header_is : map (λ n. bit n 2) blues ≡ number_bits 32 header =
    bits_by_places blues header 32 (lane_long 0) (λ i lt. ap (λ n. bit_at n 2) (blue i lt) ∙ (parts i lt).2) in
    let body_is : (b : ℕ) → b < 4 → by_turns b (nibbles_of columns 1) (nibbles_of columns 2) ≡ number_bits 64 (slice_index bodies b) =
    λ b few.
    turns_by_places b (nibbles_of columns 1) (nibbles_of columns 2) (slice_index bodies b) 32 (lane_long 1) (lane_long 2)
    (λ i lt. ap (λ n. bit_at n b) (green i lt) ∙ bit_at-crossed bodies (2 * i) b few)
    (λ i lt. ap (λ n. bit_at n b) (red i lt) ∙ bit_at-crossed bodies (2 * i + 1) b few) in
    record {
      free = record {
        whole = whole;
        count = long;
        terc = λ lane lt. each_lane (AreTerc columns)
            (are_terc columns 0 (λ k. blue_at header (sync k) first k) long (λ k below. (parts k below).0) (λ k below. (words k below).0))
            (are_terc columns 1 (λ k. crossed_of bodies (2 * k)) long (λ k below. crossed-lt bodies (2 * k)) (λ k below. (words k below).1))
            (are_terc columns 2 (λ k. crossed_of bodies (2 * k + 1)) long (λ k below. crossed-lt bodies (2 * k + 1)) (λ k below. (words k below).2))
            lane lt;
        sync = grind (arith, same_number_lists, length-map, get_or-map);
        header = subst (λ x. BeginsWith x packet.header) (sym header_is) begins_header;
        bodies = λ b lt. subst (λ x. BeginsWith x (body_of packet b)) (sym (body_is b lt)) (begins_body b lt);
      };
      mark = λ i lt. ap (λ n. bit n 3) (blue i lt) ∙ ap (λ n. n == 1) (parts i lt).3 ∙ one_if-bit (mark i);
    }
  where
    each_lane : (P : ℕ → Type 0) → P 0 → P 1 → P 2 → (lane : ℕ) → lane < 3 → P lane
    each_lane P p0 p1 p2 zero lt = p0
    each_lane P p0 p1 p2 (suc zero) lt = p1
    each_lane P p0 p1 p2 (suc (suc zero)) lt = p2
    each_lane P p0 p1 p2 (suc (suc (suc lane))) lt = absurd (omega arith)
