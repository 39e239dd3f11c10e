-- From what is seen in a line of a content listing (fields, numbers, digits) to its form: a row, numbers, a packet, a product
-- description.
use Rattle.std.proofs.Common.{◌≡◌, ℕ, zero, suc, ◌+◌, ◌-◌, ◌*◌, ◌%◌, ◌<◌, Bool, true, false, ◌==◌, ◌&&◌, List, [], ◌∷◌, ◌++◌, length, take, drop, replicate, refl, ap, ap₂, sym, ◌∙◌, arith, append_assoc, append-nil, length-append}
use Rattle.std.specs.Prelude.{Option, Some, None, Result, Ok, Err, IsErr, is_ok, MatchOption, MatchResult, is_some, not, slice_index, nat_le}
use Rattle.std.proofs.Math.Seq.{drop-append_seam}
use Rattle.std.proofs.lemmas.List.{drop-replicate}
use Rattle.std.proofs.lemmas.Bool.{eqb-true, eq-eqb}
use Rattle.hex.specs.Hex.{decode_of, decode_sized}
use Rattle.hex.specs.declared.error.FromHexError.{FromHexError}
use Rattle.hex.proofs.HexLemmas.{decode_sized-twice}
use Rattle.island_pack.specs.declared.packet.Packet.{Packet}
use Rattle.listing_reader.specs.Lines.{before_pieces}
use Rattle.listing_reader.specs.Forms.{number_of, part}
use Rattle.listing_reader.specs.FormSeen.{HasBodies}
use Rattle.listing_reader.specs.ContentForms.{ContentLine, no_line, row_form, fields_of, numbers_of, then_number, numbers_form, hex_field, is_space, packet_form, packet_reported, packet_line, spd_form, spd_reported, sample_form, sample_reported, are_bytes, are_words, info_reported, avi_from, avi_reported}
use Rattle.listing_reader.specs.ContentFormSeen.{IsRow, IsNumbers, IsHexField}
use Rattle.listing_reader.proofs.PacketForms.{joined}

-- ---- a row

-- six bytes a pixel are what a row's line gives, if they are digits
pub row_seen : (digits : List ℕ) → length digits % 6 ≡ 0 → IsRow digits (row_form digits)
unfolding row_form
row_seen digits six = grind arith

-- bytes that make no whole pixels
pub row_odd : (digits : List ℕ) → (length digits % 6 == 0) ≡ false → row_form digits ≡ no_line
unfolding row_form
row_odd digits odd = grind arith

-- ---- fields

other : (b : Bool) → ¬ (b ≡ true) → b ≡ false
other b h = grind arith

-- the first space ends the first field
pub field_before : (text : List ℕ) (k : ℕ) → k < length text → (slice_index text k == 32) ≡ true → ((j : ℕ) → j < k → ¬ ((slice_index text j == 32) ≡ true))
    → fields_of text ≡ take k text ∷ fields_of (drop (k + 1) text)
unfolding fields_of
field_before [] k less here none = absurd (omega arith)
field_before (c ∷ text) zero less here none = ap (λ (b : Bool). before_pieces b c (fields_of text)) here
field_before (c ∷ text) (suc k) less here none =
    let later : fields_of text ≡ take k text ∷ fields_of (drop (k + 1) text) =
    field_before text k (omega arith) here (λ j before. none (suc j) (omega arith)) in
    let first : (c == 32) ≡ false = other (c == 32) (none 0 (omega arith)) in
    grind arith

-- a text without a space is one field
pub field_last : (text : List ℕ) → ((j : ℕ) → j < length text → ¬ ((slice_index text j == 32) ≡ true)) → fields_of text ≡ text ∷ []
unfolding fields_of
field_last [] none = refl
field_last (c ∷ text) none =
    let later : fields_of text ≡ text ∷ [] = field_last text (λ j before. none (suc j) (omega arith)) in
    let first : (c == 32) ≡ false = other (c == 32) (none 0 (omega arith)) in
    ap (λ (b : Bool). before_pieces b c (fields_of text)) first ∙ ap (before_pieces false c) later

fields_by : (b : Bool) (c : ℕ) (pieces : List (List ℕ)) → (first : List ℕ) × (more : List (List ℕ)) × (before_pieces b c pieces ≡ first ∷ more)
fields_by true c pieces = ([], pieces, refl)
fields_by false c [] = (c ∷ [], [], refl)
fields_by false c (piece ∷ pieces) = (c ∷ piece, pieces, refl)

fields_some : (text : List ℕ) → (first : List ℕ) × (more : List (List ℕ)) × (fields_of text ≡ first ∷ more)
unfolding fields_of
fields_some [] = ([], [], refl)
fields_some (c ∷ text) = fields_by (c == 32) c (fields_of text)

-- ---- numbers

-- numbers, and after them those of the fields that are left
abbrev pub after_numbers : List ℕ → Option (List ℕ) → Option (List ℕ)
after_numbers ns None = None
after_numbers ns (Some ms) = Some (ns ++ ms)

numbers_cons : (field : List ℕ) (fields : List (List ℕ)) → numbers_of (field ∷ fields) ≡ then_number (number_of field) (numbers_of fields)
unfolding numbers_of
numbers_cons field fields = refl

-- one field more is a number
pub numbers_more : (all : Option (List ℕ)) (ns field : List ℕ) (n : ℕ) (fields : List (List ℕ)) → all ≡ after_numbers ns (numbers_of (field ∷ fields)) → number_of field ≡ Some n
    → all ≡ after_numbers (ns ++ n ∷ []) (numbers_of fields)
numbers_more all ns field n fields was is = grind (arith, numbers_cons, append_assoc)

-- and it is the last
pub numbers_last : (all : Option (List ℕ)) (ns field : List ℕ) (n : ℕ) → all ≡ after_numbers ns (numbers_of (field ∷ [])) → number_of field ≡ Some n → all ≡ Some (ns ++ n ∷ [])
unfolding numbers_of
numbers_last all ns field n was is = grind (arith, numbers_more, append-nil)

no_number : (ms : Option (List ℕ)) → then_number None ms ≡ None
no_number ms = grind arith

-- a field is no number
pub numbers_bad : (all : Option (List ℕ)) (ns field : List ℕ) (fields : List (List ℕ)) → all ≡ after_numbers ns (numbers_of (field ∷ fields)) → number_of field ≡ None → all ≡ None
numbers_bad all ns field fields was is =
    was ∙ ap (after_numbers ns) (numbers_cons field fields ∙ ap (λ (k : Option ℕ). then_number k (numbers_of fields)) is ∙ no_number (numbers_of fields))

-- ---- so many numbers

pub numbers_reported : (text ns : List ℕ) (count : ℕ) → numbers_of (fields_of text) ≡ Some ns → length ns ≡ count → IsNumbers text count ns true
unfolding numbers_form
numbers_reported text ns count is size = λ form.
    let right : (length ns == count) ≡ true = rw size (eq-eqb count count refl) in
    rw (is, right) refl

pub numbers_none : (text ns : List ℕ) (count : ℕ) → numbers_of (fields_of text) ≡ None → IsNumbers text count ns false
unfolding numbers_form
numbers_none text ns count is = λ form. rw is refl

pub numbers_few : (text ns ms : List ℕ) (count : ℕ) → numbers_of (fields_of text) ≡ Some ms → length ms < count → IsNumbers text count ns false
unfolding numbers_form
numbers_few text ns ms count is less = λ form.
    let wrong : (length ms == count) ≡ false = other (length ms == count) (λ same. omega (arith, eqb-true (length ms) count same)) in
    rw (is, wrong) refl

still_by : (text ns : List ℕ) (count : ℕ) (n : Option ℕ) (ms : Option (List ℕ)) → numbers_of (fields_of text) ≡ after_numbers ns (then_number n ms) → length ns ≡ count → IsNumbers text count ns false
unfolding numbers_form
still_by text ns count n ms h k = grind (arith, numbers_none, no_number, length-append, other, eqb-true)

-- fields are left
pub numbers_over : (text ns left : List ℕ) (count : ℕ) → numbers_of (fields_of text) ≡ after_numbers ns (numbers_of (fields_of left)) → length ns ≡ count → IsNumbers text count ns false
numbers_over text ns left count is size =
    let some = fields_some left in
    still_by text ns count (number_of some.0) (numbers_of some.1)
    (is ∙ ap (λ (fields : List (List ℕ)). after_numbers ns (numbers_of fields)) some.2 ∙ ap (after_numbers ns) (numbers_cons some.0 some.1)) size

by_fields : (all : Option (List ℕ)) (ns text : List ℕ) (fields : List (List ℕ)) → all ≡ after_numbers ns (numbers_of (fields_of text)) → fields_of text ≡ fields → all ≡ after_numbers ns (numbers_of fields)
by_fields all ns text fields was split = was ∙ ap (λ (fs : List (List ℕ)). after_numbers ns (numbers_of fs)) split

-- the first field of what is left is a number
pub numbers_step : {A : Type 0} (now : A → List ℕ) (left : Option A) (all : Option (List ℕ)) (ns field text : List ℕ) (n : ℕ)
    → MatchOption left (fields_of text ≡ field ∷ []) (λ r. fields_of text ≡ field ∷ fields_of (now r)) → all ≡ after_numbers ns (numbers_of (fields_of text)) → number_of field ≡ Some n
    → MatchOption left (all ≡ Some (ns ++ n ∷ [])) (λ r. all ≡ after_numbers (ns ++ n ∷ []) (numbers_of (fields_of (now r))))
numbers_step now left all ns field text n h k l = grind (arith, numbers_last, by_fields, numbers_more)

-- or none
pub numbers_wrong : {A : Type 0} (now : A → List ℕ) (left : Option A) (all : Option (List ℕ)) (ns field text : List ℕ)
    → MatchOption left (fields_of text ≡ field ∷ []) (λ r. fields_of text ≡ field ∷ fields_of (now r)) → all ≡ after_numbers ns (numbers_of (fields_of text)) → number_of field ≡ None → all ≡ None
numbers_wrong now left all ns field text h k l = grind (arith, numbers_bad, by_fields)

-- there is room for no more
pub numbers_done : {A : Type 0} (now : A → List ℕ) (left : Option A) (text ns : List ℕ) (count : ℕ) (none : Bool)
    → MatchOption left (numbers_of (fields_of text) ≡ Some ns) (λ r. numbers_of (fields_of text) ≡ after_numbers ns (numbers_of (fields_of (now r)))) → length ns ≡ count → is_some left ≡ not none → IsNumbers text count ns none
numbers_done now left text ns count none h k l = grind (arith, numbers_reported, numbers_over)

-- ---- hexadecimal digits

pub hex_seen : (digits out : List ℕ) (n : ℕ) (r : Result Unit FromHexError) (ok : Bool) → length digits ≡ 2 * n
    → MatchResult (decode_sized digits n) (λ bytes. (r ≡ Ok tt) × (out ≡ bytes)) (λ e. r ≡ Err e) → is_ok r ≡ ok → IsHexField digits out ok
hex_seen digits out n r ok size h well = grind (arith, decode_sized-twice)

pub zeros_after : (ys xs : List ℕ) (n m : ℕ) → length ys ≡ m → m ≡ n → xs ≡ replicate 27 0 → drop n (ys ++ drop n xs) ≡ replicate (27 - n) 0
zeros_after ys xs n m size room is =
    ap (λ (k : ℕ). drop k (ys ++ drop n xs)) (sym (size ∙ room)) ∙ drop-append_seam ys (drop n xs) ∙ ap (drop n) is ∙ drop-replicate n 27 0

-- ---- a packet

pub hex_bad : (digits : List ℕ) (form : List ℕ → ContentLine) → IsErr (decode_of digits) → hex_field digits form ≡ no_line
hex_bad digits form bad = grind arith

-- a field after which nothing is given
pub hex_never : (digits : List ℕ) (form : List ℕ → ContentLine) → ((bytes : List ℕ) → form bytes ≡ no_line) → hex_field digits form ≡ no_line
hex_never digits form never = grind arith

bodies_form : List ℕ → List ℕ → ContentLine
bodies_form rest header =
    hex_field (part 7 14 rest) (λ a. hex_field (part 22 14 rest) (λ b. hex_field (part 37 14 rest) (λ c. hex_field (part 52 14 rest) (λ d. packet_reported header (a ++ b ++ c ++ d)))))

bodies_bad : (rest header : List ℕ) (b : ℕ) → b < 4 → IsErr (decode_of (part (7 + 15 * b) 14 rest)) → bodies_form rest header ≡ no_line
unfolding bodies_form
bodies_bad rest header zero less bad = hex_bad (part 7 14 rest) _ bad
bodies_bad rest header (suc zero) less bad = hex_never (part 7 14 rest) _ (λ a. hex_bad (part 22 14 rest) _ bad)
bodies_bad rest header (suc (suc zero)) less bad = hex_never (part 7 14 rest) _ (λ a. hex_never (part 22 14 rest) _ (λ b. hex_bad (part 37 14 rest) _ bad))
bodies_bad rest header (suc (suc (suc zero))) less bad =
    hex_never (part 7 14 rest) _ (λ a. hex_never (part 22 14 rest) _ (λ b. hex_never (part 37 14 rest) _ (λ c. hex_bad (part 52 14 rest) _ bad)))
bodies_bad rest header (suc (suc (suc (suc b)))) less bad = absurd (omega arith)

abbrev laid_out : List ℕ → Bool
laid_out rest = (length rest == 66) && (is_space rest 6 && (is_space rest 21 && (is_space rest 36 && is_space rest 51)))

packet_from : (rest header : List ℕ) → laid_out rest ≡ true → IsHexField (part 0 6 rest) header true → packet_form rest ≡ bodies_form rest header
unfolding packet_form bodies_form
packet_from rest header laid is = rw laid (is _)

pub packet_bad : (rest header bodies : List ℕ) → laid_out rest ≡ true → IsHexField (part 0 6 rest) header true → HasBodies rest bodies false → packet_form rest ≡ no_line
packet_bad rest header bodies laid is bad = packet_from rest header laid is ∙ bodies_bad rest header bad.0 bad.1 bad.2

pub packet_seen : (rest header bodies : List ℕ) → laid_out rest ≡ true → IsHexField (part 0 6 rest) header true → length bodies ≡ 28 → HasBodies rest bodies true
    → packet_form rest ≡ packet_reported header bodies
unfolding bodies_form
packet_seen rest header bodies laid is size has =
    packet_from rest header laid is
    ∙ rw (has 0 (omega arith), has 1 (omega arith), has 2 (omega arith), has 3 (omega arith)) (ap (packet_reported header) (joined bodies size))

-- ---- a source product description, and a sample

abbrev pub spd_laid : List ℕ → Bool
spd_laid rest = (length rest == 52) && (is_space rest 16 && is_space rest 49)

pub spd_seen : (rest vendor product kind : List ℕ) → spd_laid rest ≡ true → IsHexField (part 0 16 rest) vendor true → IsHexField (part 17 32 rest) product true
    → IsHexField (part 50 2 rest) kind true → spd_form rest ≡ spd_reported vendor product kind
unfolding spd_form
spd_seen rest vendor product kind laid v p k = rw laid (v _ ∙ p _ ∙ k _)

abbrev pub sample_laid : List ℕ → Bool
sample_laid rest = nat_le 14 (length rest) && (is_space rest 6 && is_space rest 13)

pub sample_seen : (rest left right ns : List ℕ) → sample_laid rest ≡ true → IsHexField (part 0 6 rest) left true → IsHexField (part 7 6 rest) right true
    → IsNumbers (drop 14 rest) 4 ns true → sample_form rest ≡ sample_reported left right ns
unfolding sample_form
sample_seen rest left right ns laid l r n = rw laid (l _ ∙ r _ ∙ n _)

pub sample_none : (rest left right ns : List ℕ) → sample_laid rest ≡ true → IsHexField (part 0 6 rest) left true → IsHexField (part 7 6 rest) right true
    → IsNumbers (drop 14 rest) 4 ns false → sample_form rest ≡ no_line
unfolding sample_form
sample_none rest left right ns laid l r n = rw laid (l _ ∙ r _ ∙ n _)

-- ---- fields of an AVI InfoFrame

pub avi_seen : (ns bs bars : List ℕ) (packet : Option Packet) → are_bytes (take 13 ns) ≡ true → are_words (take 4 (drop 13 ns)) ≡ true → bs ≡ take 13 ns → bars ≡ take 4 (drop 13 ns)
    → packet ≡ info_reported (avi_from bs bars) → avi_reported ns ≡ packet_line packet
unfolding avi_reported
avi_seen ns bs bars packet b w e f is = rw (b, w) (ap packet_line (ap₂ (λ (x y : List ℕ). info_reported (avi_from x y)) (sym e) (sym f) ∙ sym is))

pub avi_no_bytes : (ns : List ℕ) → are_bytes (take 13 ns) ≡ false → avi_reported ns ≡ packet_line None
unfolding avi_reported
avi_no_bytes ns none = rw none refl

pub avi_no_words : (ns : List ℕ) → are_bytes (take 13 ns) ≡ true → are_words (take 4 (drop 13 ns)) ≡ false → avi_reported ns ≡ packet_line None
unfolding avi_reported
avi_no_words ns bytes none = rw (bytes, none) refl
