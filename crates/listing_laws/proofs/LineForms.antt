-- The lines that are written: they have no line feed, and the reader sees their forms.
use Rattle.std.proofs.Common.{◌≡◌, ℕ, ◌+◌, ◌*◌, ◌/◌, ◌%◌, ◌^◌, ◌<◌, ◌≤◌, true, false, List, [], ◌∷◌, ◌++◌, length, refl, ap, ◌∙◌, arith, append_assoc}
use Rattle.std.specs.Prelude.{Ok, slice_index, nat_lt}
use Rattle.std.specs.Fmt.{decimal}
use Rattle.std.proofs.lemmas.Fmt.{length-decimal-le}
use Rattle.hex.specs.Hex.{IsBytes, encode_lower, encode_with, lower_digits, decode_of}
use Rattle.hex.proofs.HexLemmas.{decode_of-encode_lower, length-encode_with}
use Rattle.island_pack.specs.Periods.{ControlRun}
use Rattle.island_pack.specs.declared.ranges.TheConstants.{COLUMN_LIMIT}
use Rattle.period_grammar.specs.Events.{Event, run as run_event, line as line_event}
use Rattle.listing_reader.specs.Forms.{control_line, video_line, end_line, form_of, is_fault, control_form, video_form}
use Rattle.listing_reader.specs.Held.{is_feedless}
use Rattle.listing_reader.proofs.Feeds.{both}
use Rattle.listing_writer.specs.Texts.{line_words}
use Rattle.listing_laws.proofs.Text.{line_of}
use Rattle.listing_laws.proofs.Digits.{number_of-decimal, decimal_feedless, digit_feedless, encode_feedless}

not_long : (n : ℕ) → n ≤ 32768 → nat_lt 32768 n ≡ false
not_long n short = grind arith

-- ---- the line of a run

-- a line as it stands before what follows it
pub line_is : (t : Event) (body rest : List ℕ) → line_words t ≡ body → line_of t ++ rest ≡ body ++ 10 ∷ rest
line_is t body rest e = append_assoc (line_words t) (10 ∷ []) rest ∙ ap (λ (words : List ℕ). words ++ 10 ∷ rest) e

abbrev pub run_body : ControlRun → List ℕ
run_body r = 99 ∷ 32 ∷ slice_index lower_digits (r.value / 16) ∷ slice_index lower_digits (r.value % 16) ∷ 32 ∷ decimal r.count

pub run_words : (r : ControlRun) → line_words (run_event r.value r.count) ≡ run_body r
unfolding line_words encode_with
run_words r = refl

one_byte : (value : ℕ) → value < 64 → IsBytes (value ∷ [])
one_byte value h k = grind arith

value_read : (value : ℕ) → value < 64 → decode_of (slice_index lower_digits (value / 16) ∷ slice_index lower_digits (value % 16) ∷ []) ≡ Ok (value ∷ [])
unfolding encode_with
value_read value below = decode_of-encode_lower (value ∷ []) (one_byte value below)

pub run_body_short : (r : ControlRun) → r.count ≤ COLUMN_LIMIT → length (run_body r) ≤ 13
run_body_short r few = let digits = length-decimal-le 8 r.count (omega arith) (omega arith) (omega arith) in omega arith

pub run_form : (r : ControlRun) → r.value < 64 → r.count ≤ COLUMN_LIMIT → form_of (run_body r) ≡ control_line r.value r.count
unfolding form_of is_fault control_form
run_form r below few = grind (arith, not_long, run_body_short, value_read, number_of-decimal)

pub run_feedless : (r : ControlRun) → r.count ≤ COLUMN_LIMIT → is_feedless (run_body r) ≡ true
run_feedless r few =
    let small : r.count < 2 ^ 64 = omega arith in
    let high = digit_feedless lower_digits (r.value / 16) refl in
    let low = digit_feedless lower_digits (r.value % 16) refl in
    both _ _ high (both _ _ low (decimal_feedless r.count small))

-- ---- the line of a video data period

abbrev pub video_body : List ℕ → List ℕ
video_body bytes = 118 ∷ 32 ∷ encode_lower bytes

pub video_words : (bytes : List ℕ) → line_words (line_event bytes) ≡ video_body bytes
unfolding line_words
video_words bytes = refl

pub video_body_length : (bytes : List ℕ) → length (video_body bytes) ≡ 2 + 2 * length bytes
video_body_length bytes = let digits = length-encode_with lower_digits bytes in omega arith

pub video_seen : (bytes : List ℕ) → IsBytes bytes → length bytes % 3 ≡ 0 → length bytes / 3 ≤ 4096 → form_of (video_body bytes) ≡ video_line bytes
unfolding form_of is_fault video_form
video_seen bytes all whole few = grind (arith, not_long, video_body_length, length-encode_with, decode_of-encode_lower)

pub video_feedless : (bytes : List ℕ) → is_feedless (video_body bytes) ≡ true
video_feedless bytes = encode_feedless bytes

-- ---- the line `end`

abbrev pub end_body : List ℕ
end_body = 101 ∷ 110 ∷ 100 ∷ []

pub end_form : form_of end_body ≡ end_line
unfolding form_of is_fault
end_form = refl
