-- The tables hold the characters of the coding and their bytes: each place is computed.
use Rattle.std.proofs.Common.{arith, ◌≡◌, ℕ, ◌+◌, ◌*◌, ◌^◌, ◌<◌, ◌≤◌, Bool, true, refl, nat_lt, nat_le, ◌==◌, ◌&&◌, bit_and, slice_index, eqb-true}
use Rattle.std.specs.Prelude.{if◌then◌else◌}
use borrow.Author.Tests.{leb-true, ltb-true}
use Rattle.tmds_word.specs.Bits.{bits_of, word_bits, number, ones, zeros, balance, turns, unlike}
use Rattle.tmds_word.proofs.Below.{passes_below, passes_at, and-left, and-right}
use Rattle.tmds_code.specs.Coding.{Sign, negative, null, positive, coded_at, coded_bits, balanced, minimised, takes_xnor, decoded_byte, decoded_bits}
use Rattle.tmds_code.specs.Places.{place_of}
use Rattle.tmds_code.specs.declared.tables.TheConstants.{CODED, DECODED, SIGNS}

-- the table has the character, which is one, carries the byte and has few transitions
word_holds : Sign → ℕ → Bool
word_holds s b =
    (slice_index CODED (256 * place_of s + b) == coded_at s b)
    && (nat_lt (coded_at s b) 1024 && ((decoded_byte (coded_at s b) == b) && nat_le (turns (word_bits (coded_at s b))) 5))

negative_words : passes_below 256 (word_holds negative) ≡ true
unfolding passes_below word_holds coded_at coded_bits balanced minimised takes_xnor decoded_byte decoded_bits bits_of word_bits number ones zeros balance turns unlike
negative_words = refl

null_words : passes_below 256 (word_holds null) ≡ true
unfolding passes_below word_holds coded_at coded_bits balanced minimised takes_xnor decoded_byte decoded_bits bits_of word_bits number ones zeros balance turns unlike
null_words = refl

positive_words : passes_below 256 (word_holds positive) ≡ true
unfolding passes_below word_holds coded_at coded_bits balanced minimised takes_xnor decoded_byte decoded_bits bits_of word_bits number ones zeros balance turns unlike
positive_words = refl

all_words : (s : Sign) → passes_below 256 (word_holds s) ≡ true
all_words s = grind (arith, negative_words, null_words, positive_words)

holds_at : (s : Sign) (b : ℕ) → b < 256 → word_holds s b ≡ true
holds_at s b lt = passes_at 256 (word_holds s) b (all_words s) lt

pub table_word : (s : Sign) (b : ℕ) → b < 256 → slice_index CODED (256 * place_of s + b) ≡ coded_at s b
unfolding word_holds
table_word s b lt = eqb-true _ _ (and-left _ _ (holds_at s b lt))

pub coded_below : (s : Sign) (b : ℕ) → b < 256 → coded_at s b < 1024
unfolding word_holds
coded_below s b lt = ltb-true _ _ (and-left _ _ (and-right _ _ (holds_at s b lt)))

pub decoded_coded : (s : Sign) (b : ℕ) → b < 256 → decoded_byte (coded_at s b) ≡ b
unfolding word_holds
decoded_coded s b lt = eqb-true _ _ (and-left _ _ (and-right _ _ (and-right _ _ (holds_at s b lt))))

pub coded_turns : (s : Sign) (b : ℕ) → b < 256 → turns (word_bits (coded_at s b)) ≤ 5
unfolding word_holds
coded_turns s b lt =
    leb-true _ _ (and-right (decoded_byte (coded_at s b) == b) _ (and-right (nat_lt (coded_at s b) 1024) _ (and-right (slice_index CODED (256 * place_of s + b) == coded_at s b) _ (holds_at s b lt))))

byte_holds : ℕ → Bool
byte_holds w = slice_index DECODED w == decoded_byte w

all_bytes : passes_below 1024 byte_holds ≡ true
unfolding passes_below byte_holds decoded_byte decoded_bits bits_of word_bits number
all_bytes = refl

pub table_byte : (w : ℕ) → w < 1024 → slice_index DECODED w ≡ decoded_byte w
unfolding byte_holds
table_byte w lt = eqb-true _ _ (passes_at 1024 byte_holds w all_bytes lt)

-- the table has the sign's bit exactly where the character is that of its own byte
mark_holds : Sign → ℕ → Bool
mark_holds s w = bit_and (slice_index SIGNS w) (2 ^ place_of s) == (if w == coded_at s (decoded_byte w) then 2 ^ place_of s else 0)

negative_marks : passes_below 1024 (mark_holds negative) ≡ true
unfolding passes_below mark_holds coded_at coded_bits balanced minimised takes_xnor decoded_byte decoded_bits bits_of word_bits number ones zeros balance
negative_marks = refl

null_marks : passes_below 1024 (mark_holds null) ≡ true
unfolding passes_below mark_holds coded_at coded_bits balanced minimised takes_xnor decoded_byte decoded_bits bits_of word_bits number ones zeros balance
null_marks = refl

positive_marks : passes_below 1024 (mark_holds positive) ≡ true
unfolding passes_below mark_holds coded_at coded_bits balanced minimised takes_xnor decoded_byte decoded_bits bits_of word_bits number ones zeros balance
positive_marks = refl

all_marks : (s : Sign) → passes_below 1024 (mark_holds s) ≡ true
all_marks s = grind (arith, negative_marks, null_marks, positive_marks)

pub table_mark : (s : Sign) (w : ℕ) → w < 1024 → bit_and (slice_index SIGNS w) (2 ^ place_of s) ≡ (if w == coded_at s (decoded_byte w) then 2 ^ place_of s else 0)
unfolding mark_holds
table_mark s w lt = eqb-true _ _ (passes_at 1024 (mark_holds s) w (all_marks s) lt)
