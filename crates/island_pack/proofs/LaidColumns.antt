-- The columns of three lanes' words, one by one, and a packet that they carry.
use Rattle.std.proofs.Common.{◌≡◌, ℕ, suc, zero, ◌+◌, ◌*◌, ◌<◌, ◌∙◌, Bool, List, [], ◌∷◌, length, map, get_or, slice_index, refl, ap, sym, arith, All}
use Rattle.tmds_word.specs.Bits.{bytes_bits, bits_of as number_bits}
use Rattle.tmds_word.specs.Words.{all_words, columns_of, packed_columns}
use Rattle.tmds_word.proofs.Eights.{count_in_bytes}
use Rattle.island_pack.specs.Packets.{IsPacket, BeginsWith, body_of, Carries}
use Rattle.island_pack.specs.Registers.{blue_of, crossed_of, laid_nibbles, register_words, HasNibbles}
use Rattle.island_pack.specs.Spelling.{column_words}
use Rattle.island_pack.specs.declared.packet.Packet.{Packet}
use Rattle.island_pack.proofs.Laid.{carried}

pub words_at : (bs gs rs : List ℕ) (k : ℕ) → length gs ≡ length bs → length rs ≡ length bs → k < length bs
    → get_or (map column_words (columns_of bs gs rs)) k [] ≡ get_or bs k 0 ∷ get_or gs k 0 ∷ get_or rs k 0 ∷ []
unfolding columns_of
words_at [] gs rs k e f lt = absurd (omega arith)
words_at (b ∷ bs) [] rs k e f lt = absurd (omega arith)
words_at (b ∷ bs) (g ∷ gs) [] k e f lt = absurd (omega arith)
words_at (b ∷ bs) (g ∷ gs) (r ∷ rs) zero e f lt = refl
words_at (b ∷ bs) (g ∷ gs) (r ∷ rs) (suc k) e f lt = words_at bs gs rs k (omega arith) (omega arith) (omega arith)

pub as_many : (bs gs rs : List ℕ) → length gs ≡ length bs → length rs ≡ length bs → length (map column_words (columns_of bs gs rs)) ≡ length bs
unfolding columns_of
as_many [] gs rs e f = refl
as_many (b ∷ bs) [] rs e f = absurd (omega arith)
as_many (b ∷ bs) (g ∷ gs) [] e f = absurd (omega arith)
as_many (b ∷ bs) (g ∷ gs) (r ∷ rs) e f = ap (λ n. suc n) (as_many bs gs rs (omega arith) (omega arith))

-- 32 columns in which each word has its nibble carry the packet
pub carried_packed : (packet : Packet) (first : Bool) (blue green red : List ℕ) (header : ℕ) (bodies : List ℕ) → IsPacket packet → All (λ v. v < 4) packet.sync
    → length blue ≡ 40 → length green ≡ 40 → length red ≡ 40 → BeginsWith (number_bits 32 header) packet.header
    → ((b : ℕ) → b < 4 → BeginsWith (number_bits 64 (slice_index bodies b)) (body_of packet b))
    → HasNibbles blue (λ i. blue_of header (slice_index packet.sync i) first i) → HasNibbles green (λ i. crossed_of bodies (2 * i)) → HasNibbles red (λ i. crossed_of bodies (2 * i + 1))
    → Carries packet first (map column_words (packed_columns blue green red))
unfolding laid_nibbles register_words
carried_packed packet first blue green red header bodies whole small lb lg lr begins_header begins_body hb hg hr =
    let bs = all_words (bytes_bits blue) in
    let gs = all_words (bytes_bits green) in
    let rs = all_words (bytes_bits red) in
    let nb : length bs ≡ 32 = omega (arith, count_in_bytes blue, lb) in
    let ng : length gs ≡ 32 = omega (arith, count_in_bytes green, lg) in
    let nr : length rs ≡ 32 = omega (arith, count_in_bytes red, lr) in
    carried packet first (map column_words (columns_of bs gs rs)) header bodies whole small (as_many bs gs rs (ng ∙ sym nb) (nr ∙ sym nb) ∙ nb) begins_header begins_body
    (λ k lt. words_at bs gs rs k (ng ∙ sym nb) (nr ∙ sym nb) (omega (arith, nb, lt)) ∙ λ j. hb k lt j ∷ hg k lt j ∷ hr k lt j ∷ [])
