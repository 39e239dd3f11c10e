-- Columns that carry the same packet agree but for bit 3 of lane 0.
use Rattle.std.proofs.Common.{◌≡◌, ℕ, suc, ◌+◌, ◌%◌, ◌<◌, Bool, true, false, cond, ◌==◌, List, [], ◌∷◌, length, map, drop, get_or, refl, ap, ap₂, sym, ◌∙◌, arith, slice_index}
use Rattle.std.proofs.lemmas.Bool.{eqb-true}
use Rattle.std.proofs.lemmas.List.{length-map}
use Rattle.std.specs.Prelude.{replicate}
use Rattle.tmds_word.specs.Column.{Column}
use Rattle.tmds_word.proofs.Below.{passes_below, passes_at}
use Rattle.terc4.specs.Tables.{terc_words, value_in, is_terc}
use Rattle.terc4.proofs.Members.{passes_all, passes_in}
use Rattle.bch_block.specs.Bits.{bit}
use Rattle.island_pack.specs.Kinds.{packet_column}
use Rattle.island_pack.specs.Nibbles.{nibble_of, nibbles_of, sync_values, header_bits, body_bits, by_turns}
use Rattle.island_pack.specs.Packets.{AreTerc, CarriesFreely, Carries}
use Rattle.island_pack.specs.Spelling.{column_words}
use Rattle.island_pack.specs.declared.packet.Packet.{Packet}
use Rattle.island_pack.proofs.Columns.{nibble_below}
use Rattle.relay.specs.Spelled.{AgreeButBit3, Agree}
use Rattle.relay.proofs.Completing.{one_block}

-- A digit, from its bits.

of_bits : Bool → Bool → Bool → Bool → ℕ
of_bits a b c d = (cond a 1 0 + cond b 2 0) + (cond c 4 0 + cond d 8 0)

bits_test : passes_below 16 (λ n. of_bits (bit n 0) (bit n 1) (bit n 2) (bit n 3) == n) ≡ true
unfolding passes_below of_bits
bits_test = refl

bits_back : (n : ℕ) → n < 16 → of_bits (bit n 0) (bit n 1) (bit n 2) (bit n 3) ≡ n
bits_back n lt = eqb-true _ n (passes_at 16 (λ n. of_bits (bit n 0) (bit n 1) (bit n 2) (bit n 3) == n) n bits_test lt)

same_digit : (n m : ℕ) → n < 16 → m < 16 → bit n 0 ≡ bit m 0 → bit n 1 ≡ bit m 1 → bit n 2 ≡ bit m 2 → bit n 3 ≡ bit m 3 → n ≡ m
same_digit n m ln lm e0 e1 e2 e3 = sym (bits_back n ln) ∙ (λ i. of_bits (e0 i) (e1 i) (e2 i) (e3 i)) ∙ bits_back m lm

of_low : ℕ → Bool → ℕ
of_low low c = low + cond c 4 0

low_test : passes_below 16 (λ n. of_low (n % 4) (bit n 2) == n % 8) ≡ true
unfolding passes_below of_low
low_test = refl

low_back : (n : ℕ) → n < 16 → of_low (n % 4) (bit n 2) ≡ n % 8
low_back n lt = eqb-true _ (n % 8) (passes_at 16 (λ n. of_low (n % 4) (bit n 2) == n % 8) n low_test lt)

same_low : (n m : ℕ) → n < 16 → m < 16 → n % 4 ≡ m % 4 → bit n 2 ≡ bit m 2 → n % 8 ≡ m % 8
same_low n m ln lm e e2 = sym (low_back n ln) ∙ ap₂ of_low e e2 ∙ low_back m lm

of_high : ℕ → Bool → ℕ
of_high low d = low + cond d 8 0

high_test : passes_below 16 (λ n. of_high (n % 8) (bit n 3) == n) ≡ true
unfolding passes_below of_high
high_test = refl

high_back : (n : ℕ) → n < 16 → of_high (n % 8) (bit n 3) ≡ n
high_back n lt = eqb-true _ n (passes_at 16 (λ n. of_high (n % 8) (bit n 3) == n) n high_test lt)

same_high : (n m : ℕ) → n < 16 → m < 16 → n % 8 ≡ m % 8 → bit n 3 ≡ bit m 3 → n ≡ m
same_high n m ln lm e e3 = sym (high_back n ln) ∙ ap₂ of_high e e3 ∙ high_back m lm

-- A word, from its digit.

word_test : passes_all (λ w. slice_index terc_words (nibble_of w) == w) terc_words ≡ true
unfolding passes_all nibble_of value_in terc_words
word_test = refl

word_back : (w : ℕ) → is_terc w ≡ true → slice_index terc_words (nibble_of w) ≡ w
unfolding is_terc
word_back w h = eqb-true _ w (passes_in (λ w. slice_index terc_words (nibble_of w) == w) terc_words w word_test h)

same_word : (v w : ℕ) → is_terc v ≡ true → is_terc w ≡ true → nibble_of v ≡ nibble_of w → v ≡ w
same_word v w hv hw e = sym (word_back v hv) ∙ ap (slice_index terc_words) e ∙ word_back w hw

-- Columns that carry the same bits.

abbrev AreDigits : List Column → Type 0
AreDigits cs = (lane : ℕ) → lane < 3 → AreTerc (map column_words cs) lane

digits_rest : (c : Column) (cs : List Column) → AreDigits (c ∷ cs) → AreDigits cs
digits_rest c cs h lane lt k d within = h lane lt (suc k) d (omega (arith, within))

record SameBits (cs ds : List Column) : Type 0 where
  low : sync_values (map column_words cs) ≡ sync_values (map column_words ds)
  second : header_bits (map column_words cs) ≡ header_bits (map column_words ds)
  others : (b : ℕ) → b < 4 → body_bits (map column_words cs) b ≡ body_bits (map column_words ds) b

bits_rest : (c d : Column) (cs ds : List Column) → SameBits (c ∷ cs) (d ∷ ds) → SameBits cs ds
unfolding sync_values header_bits body_bits by_turns nibbles_of
bits_rest c d cs ds h = record { low = ap (drop 1) h.low; second = ap (drop 1) h.second; others = λ b lt. ap (drop 2) (h.others b lt) }

low_first : (c d : Column) (cs ds : List Column) → is_terc c.blue ≡ true → is_terc d.blue ≡ true → SameBits (c ∷ cs) (d ∷ ds) → nibble_of c.blue % 8 ≡ nibble_of d.blue % 8
unfolding sync_values header_bits nibbles_of
low_first c d cs ds tc td h =
    same_low (nibble_of c.blue) (nibble_of d.blue) (nibble_below c.blue) (nibble_below d.blue)
    (ap (λ (l : List ℕ). get_or l 0 0) h.low) (ap (λ (l : List Bool). get_or l 0 false) h.second)

green_bit : (c d : Column) (cs ds : List Column) → SameBits (c ∷ cs) (d ∷ ds) → (b : ℕ) → b < 4 → bit (nibble_of c.green) b ≡ bit (nibble_of d.green) b
unfolding body_bits by_turns nibbles_of
green_bit c d cs ds h b lt = ap (λ (l : List Bool). get_or l 0 false) (h.others b lt)

red_bit : (c d : Column) (cs ds : List Column) → SameBits (c ∷ cs) (d ∷ ds) → (b : ℕ) → b < 4 → bit (nibble_of c.red) b ≡ bit (nibble_of d.red) b
unfolding body_bits by_turns nibbles_of
red_bit c d cs ds h b lt = ap (λ (l : List Bool). get_or l 1 false) (h.others b lt)

bits_word : (v w : ℕ) → is_terc v ≡ true → is_terc w ≡ true → ((b : ℕ) → b < 4 → bit (nibble_of v) b ≡ bit (nibble_of w) b) → v ≡ w
bits_word v w tv tw e =
    same_word v w tv tw
    (same_digit (nibble_of v) (nibble_of w) (nibble_below v) (nibble_below w) (e 0 (omega arith)) (e 1 (omega arith)) (e 2 (omega arith)) (e 3 (omega arith)))

first_agrees : (c d : Column) (cs ds : List Column) → AreDigits (c ∷ cs) → AreDigits (d ∷ ds) → SameBits (c ∷ cs) (d ∷ ds) → AgreeButBit3 c d
first_agrees c d cs ds tc td h = record {
  digit = tc 0 (omega arith) 0 [] (omega arith);
  other_digit = td 0 (omega arith) 0 [] (omega arith);
  low = low_first c d cs ds (tc 0 (omega arith) 0 [] (omega arith)) (td 0 (omega arith) 0 [] (omega arith)) h;
  green = bits_word c.green d.green (tc 1 (omega arith) 0 [] (omega arith)) (td 1 (omega arith) 0 [] (omega arith)) (green_bit c d cs ds h);
  red = bits_word c.red d.red (tc 2 (omega arith) 0 [] (omega arith)) (td 2 (omega arith) 0 [] (omega arith)) (red_bit c d cs ds h);
}

bits_agree : (cs ds : List Column) → length cs ≡ length ds → AreDigits cs → AreDigits ds → SameBits cs ds → Agree (replicate (length cs) packet_column) cs ds
bits_agree [] [] long tc td h = tt
bits_agree [] (d ∷ ds) long tc td h = absurd (omega arith)
bits_agree (c ∷ cs) [] long tc td h = absurd (omega arith)
bits_agree (c ∷ cs) (d ∷ ds) long tc td h =
    (first_agrees c d cs ds tc td h, bits_agree cs ds (omega arith) (digits_rest c cs tc) (digits_rest d ds td) (bits_rest c d cs ds h))

-- with bit 3 of lane 0 they are the same

abbrev SameMarks : List Column → List Column → Type 0
SameMarks cs ds = (i : ℕ) → i < length cs → bit (slice_index (nibbles_of (map column_words cs) 0) i) 3 ≡ bit (slice_index (nibbles_of (map column_words ds) 0) i) 3

marks_rest : (c d : Column) (cs ds : List Column) → SameMarks (c ∷ cs) (d ∷ ds) → SameMarks cs ds
unfolding nibbles_of
marks_rest c d cs ds h i lt = h (suc i) (omega arith)

mark_first : (c d : Column) (cs ds : List Column) → SameMarks (c ∷ cs) (d ∷ ds) → bit (nibble_of c.blue) 3 ≡ bit (nibble_of d.blue) 3
unfolding nibbles_of
mark_first c d cs ds h = h 0 (omega arith)

same_column : (c d : Column) → AgreeButBit3 c d → bit (nibble_of c.blue) 3 ≡ bit (nibble_of d.blue) 3 → c ≡ d
same_column c d h e = grind (arith, same_word, same_high, nibble_below)

agree_same : (cs ds : List Column) → Agree (replicate (length cs) packet_column) cs ds → SameMarks cs ds → cs ≡ ds
agree_same [] [] h m = refl
agree_same [] (d ∷ ds) h m = absurd h
agree_same (c ∷ cs) [] h m = absurd h
agree_same (c ∷ cs) (d ∷ ds) h m =
    ap₂ (λ (e : Column) (es : List Column). e ∷ es) (same_column c d h.0 (mark_first c d cs ds m)) (agree_same cs ds h.1 (marks_rest c d cs ds m))

-- Columns that carry a packet.

pub packet_count : (p : Packet) (cs : List Column) → CarriesFreely p (map column_words cs) → length cs ≡ 32
packet_count p cs h = sym (length-map cs column_words) ∙ h.count

carried_bits : (p : Packet) (cs ds : List Column) → CarriesFreely p (map column_words cs) → CarriesFreely p (map column_words ds) → SameBits cs ds
carried_bits p cs ds h k = grind (arith, one_block)

pub packet_agrees : (p : Packet) (cs ds : List Column) → CarriesFreely p (map column_words cs) → CarriesFreely p (map column_words ds) → Agree (replicate (length cs) packet_column) cs ds
packet_agrees p cs ds h k = bits_agree cs ds (packet_count p cs h ∙ sym (packet_count p ds k)) h.terc k.terc (carried_bits p cs ds h k)

pub one_packet : (p : Packet) (first : Bool) (cs ds : List Column) → Carries p first (map column_words cs) → Carries p first (map column_words ds) → cs ≡ ds
one_packet p first cs ds h k =
    let long = packet_count p cs h.free in
    agree_same cs ds (packet_agrees p cs ds h.free k.free) (λ i lt. h.mark i (omega arith) ∙ sym (k.mark i (omega arith)))
