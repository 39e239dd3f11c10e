-- The lines of a data island: they have no line feed, and the reader sees their forms.
use Rattle.std.proofs.lemmas.Grind.{common_steps}
use Rattle.std.proofs.Common.{◌≡◌, ℕ, zero, suc, ◌+◌, ◌-◌, ◌*◌, ◌<◌, Bool, true, false, not, ◌==◌, List, [], ◌∷◌, ◌++◌, map, length, take, drop, refl, ap, ap₂, sym, ◌∙◌, arith, append_assoc, take_at, take_all, length-append, length-take-le, length-drop}
use Rattle.std.specs.Prelude.{slice_index, nat_lt}
use Rattle.std.specs.List.{list_all}
use Rattle.std.proofs.lemmas.Bool.{eqb-true}
use Rattle.std.proofs.lemmas.List.{drop_at, drop-drop, get_or_at, get_or-drop, length-map}
use Rattle.std.proofs.lemmas.List.Folds.{list_all-append}
use Rattle.hex.specs.Hex.{IsBytes, encode_lower, lower_digits, decode_of}
use Rattle.hex.proofs.HexLemmas.{decode_of-encode_lower, length-encode_with}
use Rattle.island_pack.specs.Packets.{body_of}
use Rattle.island_pack.specs.Conforming.{is_packet}
use Rattle.island_pack.specs.declared.packet.Packet.{Packet}
use Rattle.period_grammar.specs.Events.{open_island, close_island}
use Rattle.listing_reader.specs.Forms.{LineForm, island_line, packet_line, close_line, form_of, is_fault, is_digit, part, has_spaces, pair_by, pair_form, packet_form}
use Rattle.listing_reader.specs.FormSeen.{HasBodies}
use Rattle.listing_reader.specs.Held.{is_feedless}
use Rattle.listing_writer.specs.Texts.{line_words, packet_fields, sync_digits}
use Rattle.listing_reader.proofs.Feeds.{and-left, and-right, both}
use Rattle.listing_reader.proofs.PacketForms.{form_packet}
use Rattle.listing_laws.proofs.Text.{reported_packet}
use Rattle.listing_laws.proofs.Digits.{bytes_from, below-from, digit, no_feed, encode_feedless}

back : (n : ℕ) → 48 + n - 48 ≡ n
back n = omega arith

-- ---- the lines of the guards

abbrev pub guard_body : ℕ → ℕ → ℕ → List ℕ
guard_body name a b = name ∷ 32 ∷ (48 + a) ∷ (48 + b) ∷ []

pub open_words : (a b : ℕ) → line_words (open_island a b) ≡ guard_body 105 a b
unfolding line_words sync_digits
open_words a b = refl

pub close_words : (a b : ℕ) → line_words (close_island a b) ≡ guard_body 101 a b
unfolding line_words sync_digits
close_words a b = refl

pair_read : (form : ℕ → ℕ → LineForm) (a b : ℕ) → a < 4 → b < 4 → pair_form form ((48 + a) ∷ (48 + b) ∷ []) ≡ form a b
unfolding pair_form
pair_read form a b first second =
    ap (λ (test : Bool). pair_by form test (48 + a) (48 + b)) (both (is_digit (48 + a)) (is_digit (48 + b)) (digit a (omega arith)) (digit b (omega arith)))
    ∙ ap₂ form (back a) (back b)

pub open_form : (a b : ℕ) → a < 4 → b < 4 → form_of (guard_body 105 a b) ≡ island_line a b
unfolding form_of is_fault
open_form a b first second = pair_read island_line a b first second

pub close_form : (a b : ℕ) → a < 4 → b < 4 → form_of (guard_body 101 a b) ≡ close_line a b
unfolding form_of is_fault
close_form a b first second = pair_read close_line a b first second

guard_feedless : (a b : ℕ) → a < 4 → b < 4 → is_feedless ((48 + a) ∷ (48 + b) ∷ []) ≡ true
guard_feedless a b first second = both (not (48 + a == 10)) _ (no_feed a (omega arith)) (both (not (48 + b == 10)) true (no_feed b (omega arith)) refl)

pub open_feedless : (a b : ℕ) → a < 4 → b < 4 → is_feedless (guard_body 105 a b) ≡ true
open_feedless a b first second = guard_feedless a b first second

pub close_feedless : (a b : ℕ) → a < 4 → b < 4 → is_feedless (guard_body 101 a b) ≡ true
close_feedless a b first second = guard_feedless a b first second

-- ---- the fields of a packet's line

nested : (h a b c d y : List ℕ)
    → h ++ (32 ∷ []) ++ a ++ (32 ∷ []) ++ b ++ (32 ∷ []) ++ c ++ (32 ∷ []) ++ d ++ (32 ∷ []) ++ y ≡ h ++ (32 ∷ (a ++ (32 ∷ (b ++ (32 ∷ (c ++ (32 ∷ (d ++ (32 ∷ y)))))))))
nested h a b c d y = simp append_assoc

-- what is after a field and its space
after : (xs rest : List ℕ) (n m : ℕ) → length xs ≡ n → m ≡ n + 1 → drop m (xs ++ 32 ∷ rest) ≡ rest
after xs rest n m size e =
    ap (λ (k : ℕ). drop k (xs ++ 32 ∷ rest)) e ∙ sym (drop-drop 1 n (xs ++ 32 ∷ rest)) ∙ ap (drop 1) (drop_at xs (32 ∷ rest) n size)

space_after : (t rest xs : List ℕ) (k n m : ℕ) → drop k t ≡ xs ++ 32 ∷ rest → length xs ≡ n → m ≡ k + n → (slice_index t m == 32) ≡ true
space_after t rest xs k n m e size sum = grind (arith, get_or-drop, get_or_at)

record Parts (t h a b c d y : List ℕ) : Type 0 where
  pub size : length t ≡ 99
  pub spaces : has_spaces t ≡ true
  pub header : part 0 6 t ≡ h
  pub first : part 7 14 t ≡ a
  pub second : part 22 14 t ≡ b
  pub third : part 37 14 t ≡ c
  pub fourth : part 52 14 t ≡ d
  pub sync : part 67 32 t ≡ y

parts_of : (t h a b c d y : List ℕ) → t ≡ h ++ (32 ∷ (a ++ (32 ∷ (b ++ (32 ∷ (c ++ (32 ∷ (d ++ (32 ∷ y)))))))))
    → length h ≡ 6 → length a ≡ 14 → length b ≡ 14 → length c ≡ 14 → length d ≡ 14 → length y ≡ 32 → Parts t h a b c d y
unfolding has_spaces
parts_of t h a b c d y e lh la lb lc ld ly =
    let n4 : List ℕ = d ++ (32 ∷ y) in
    let n3 : List ℕ = c ++ (32 ∷ n4) in
    let n2 : List ℕ = b ++ (32 ∷ n3) in
    let n1 : List ℕ = a ++ (32 ∷ n2) in
    let d1 : drop 7 t ≡ n1 = ap (drop 7) e ∙ after h n1 6 7 lh refl in
    let d2 : drop 22 t ≡ n2 = sym (drop-drop 15 7 t) ∙ ap (drop 15) d1 ∙ after a n2 14 15 la refl in
    let d3 : drop 37 t ≡ n3 = sym (drop-drop 15 22 t) ∙ ap (drop 15) d2 ∙ after b n3 14 15 lb refl in
    let d4 : drop 52 t ≡ n4 = sym (drop-drop 15 37 t) ∙ ap (drop 15) d3 ∙ after c n4 14 15 lc refl in
    let d5 : drop 67 t ≡ y = sym (drop-drop 15 52 t) ∙ ap (drop 15) d4 ∙ after d y 14 15 ld refl in
    let s4 = length-append d (32 ∷ y) in
    let s3 = length-append c (32 ∷ n4) in
    let s2 = length-append b (32 ∷ n3) in
    let s1 = length-append a (32 ∷ n2) in
    let s0 = length-append h (32 ∷ n1) in
    let whole : length t ≡ length (h ++ (32 ∷ n1)) = ap length e in
    record {
      size = omega arith;
      spaces =
          both _ _ (space_after t n1 h 0 6 6 e lh refl)
          (both _ _ (space_after t n2 a 7 14 21 d1 la refl)
          (both _ _ (space_after t n3 b 22 14 36 d2 lb refl)
          (both _ _ (space_after t n4 c 37 14 51 d3 lc refl)
          (both _ _ (space_after t y d 52 14 66 d4 ld refl) refl))));
      header = ap (take 6) e ∙ take_at h (32 ∷ n1) 6 lh;
      first = ap (take 14) d1 ∙ take_at a (32 ∷ n2) 14 la;
      second = ap (take 14) d2 ∙ take_at b (32 ∷ n3) 14 lb;
      third = ap (take 14) d3 ∙ take_at c (32 ∷ n4) 14 lc;
      fourth = ap (take 14) d4 ∙ take_at d (32 ∷ y) 14 ld;
      sync = ap (take 32) d5 ∙ take_all 32 y (omega arith);
    }

-- ---- what the test of a packet says

record IsSound (p : Packet) : Type 0 where
  pub header : length p.header ≡ 3
  pub header_bytes : IsBytes p.header
  pub bodies : length p.bodies ≡ 28
  pub body_bytes : IsBytes p.bodies
  pub sync : length p.sync ≡ 32
  pub values : list_all (λ v. nat_lt v 4) p.sync ≡ true

sound : (p : Packet) → is_packet p ≡ true → IsSound p
unfolding is_packet
sound p h = grind (arith, and-left, and-right, eqb-true, bytes_from)

bytes_drop : (k : ℕ) (xs : List ℕ) → IsBytes xs → IsBytes (drop k xs)
bytes_drop k xs h i = let e = get_or-drop k xs i 0 in let below = h (k + i) in omega arith

bytes_take : (n : ℕ) (xs : List ℕ) → IsBytes xs → IsBytes (take n xs)
bytes_take zero xs h i = omega arith
bytes_take (suc n) [] h i = omega arith
bytes_take (suc n) (x ∷ xs) h zero = h 0
bytes_take (suc n) (x ∷ xs) h (suc i) = bytes_take n xs (λ j. h (suc j)) i

body_bytes : (p : Packet) (b : ℕ) → IsBytes p.bodies → IsBytes (body_of p b)
body_bytes p b h = bytes_take 7 (drop (7 * b) p.bodies) (bytes_drop (7 * b) p.bodies h)

body_room : (xs : List ℕ) (i k : ℕ) → length xs ≡ 28 → i < 4 → k ≡ 7 → length (take k (drop (7 * i) xs)) ≡ 7
body_room xs i k size less seven = length-take-le k (drop (7 * i) xs) (omega (arith, length-drop (7 * i) xs)) ∙ seven

body_digits : (p : Packet) (b : ℕ) → length p.bodies ≡ 28 → b < 4 → length (encode_lower (body_of p b)) ≡ 14
body_digits p b size less = grind (arith, common_steps, length-encode_with, body_room)

values_digits : (vs : List ℕ) → list_all (λ v. nat_lt v 4) vs ≡ true → list_all is_digit (map (λ v. 48 + v) vs) ≡ true
values_digits [] h = refl
values_digits (v ∷ vs) h =
    both (is_digit (48 + v)) _ (digit v (let below = below-from v 4 (and-left (nat_lt v 4) _ h) in omega arith)) (values_digits vs (and-right (nat_lt v 4) _ h))

values_feedless : (vs : List ℕ) → list_all (λ v. nat_lt v 4) vs ≡ true → is_feedless (map (λ v. 48 + v) vs) ≡ true
values_feedless [] h = refl
values_feedless (v ∷ vs) h =
    both (not (48 + v == 10)) _ (no_feed v (let below = below-from v 4 (and-left (nat_lt v 4) _ h) in omega arith)) (values_feedless vs (and-right (nat_lt v 4) _ h))

values_back : (vs : List ℕ) → map (λ digit. digit - 48) (map (λ v. 48 + v) vs) ≡ vs
values_back [] = refl
values_back (v ∷ vs) = ap₂ (λ (w : ℕ) (ws : List ℕ). w ∷ ws) (back v) (values_back vs)

-- ---- the line of a packet

abbrev pub packet_body : Packet → List ℕ
packet_body p = 112 ∷ 32 ∷ packet_fields p

pub packet_words : (p : Packet) → line_words (reported_packet p) ≡ packet_body p
unfolding line_words
packet_words p = refl

fields_nested : (p : Packet)
    → packet_fields p ≡ encode_lower p.header ++ (32 ∷ (encode_lower (body_of p 0) ++ (32 ∷ (encode_lower (body_of p 1) ++ (32 ∷ (encode_lower (body_of p 2) ++ (32 ∷ (encode_lower (body_of p 3) ++ (32 ∷ sync_digits p.sync)))))))))
unfolding packet_fields
fields_nested p = nested (encode_lower p.header) (encode_lower (body_of p 0)) (encode_lower (body_of p 1)) (encode_lower (body_of p 2)) (encode_lower (body_of p 3)) (sync_digits p.sync)

fields_parts : (p : Packet) → IsSound p → Parts (packet_fields p) (encode_lower p.header) (encode_lower (body_of p 0)) (encode_lower (body_of p 1)) (encode_lower (body_of p 2)) (encode_lower (body_of p 3)) (sync_digits p.sync)
unfolding sync_digits
fields_parts p is =
    let header = length-encode_with lower_digits p.header in
    let three = is.header in
    parts_of _ _ _ _ _ _ _ (fields_nested p) (omega arith) (body_digits p 0 is.bodies (omega arith)) (body_digits p 1 is.bodies (omega arith)) (body_digits p 2 is.bodies (omega arith)) (body_digits p 3 is.bodies (omega arith))
    (length-map p.sync (λ v. 48 + v) ∙ is.sync)

has_bodies : (p : Packet) → IsSound p → HasBodies (packet_fields p) p.bodies true
has_bodies p is zero less = ap decode_of (fields_parts p is).first ∙ decode_of-encode_lower (body_of p 0) (body_bytes p 0 is.body_bytes)
has_bodies p is (suc zero) less = ap decode_of (fields_parts p is).second ∙ decode_of-encode_lower (body_of p 1) (body_bytes p 1 is.body_bytes)
has_bodies p is (suc (suc zero)) less = ap decode_of (fields_parts p is).third ∙ decode_of-encode_lower (body_of p 2) (body_bytes p 2 is.body_bytes)
has_bodies p is (suc (suc (suc zero))) less = ap decode_of (fields_parts p is).fourth ∙ decode_of-encode_lower (body_of p 3) (body_bytes p 3 is.body_bytes)
has_bodies p is (suc (suc (suc (suc b)))) less = absurd (omega arith)

packet_read : (p : Packet) → IsSound p → packet_form (packet_fields p) ≡ packet_line p
unfolding sync_digits
packet_read p is =
    let parts = fields_parts p is in
    form_packet (packet_fields p) p.header p.bodies p.sync
    (both (length (packet_fields p) == 99) _ (ap (λ (n : ℕ). n == 99) parts.size) (both _ _ parts.spaces (ap (list_all is_digit) parts.sync ∙ values_digits p.sync is.values)))
    (ap decode_of parts.header ∙ decode_of-encode_lower p.header is.header_bytes)
    is.bodies (has_bodies p is)
    (sym (ap (map (λ digit. digit - 48)) parts.sync ∙ values_back p.sync))

pub packet_length : (p : Packet) → is_packet p ≡ true → length (packet_body p) ≡ 101
packet_length p h = let size = (fields_parts p (sound p h)).size in omega arith

pub packet_seen : (p : Packet) → is_packet p ≡ true → form_of (packet_body p) ≡ packet_line p
unfolding form_of is_fault
packet_seen p h =
    let e : nat_lt 32768 (length (packet_body p)) ≡ false = ap (nat_lt 32768) (packet_length p h) in
    rw e (packet_read p (sound p h))

nested_feedless : (h a b c d y : List ℕ) → is_feedless h ≡ true → is_feedless a ≡ true → is_feedless b ≡ true → is_feedless c ≡ true → is_feedless d ≡ true → is_feedless y ≡ true
    → is_feedless (h ++ (32 ∷ (a ++ (32 ∷ (b ++ (32 ∷ (c ++ (32 ∷ (d ++ (32 ∷ y)))))))))) ≡ true
nested_feedless h a b c d y fh fa fb fc fd fy = grind (arith, list_all-append, both)

pub packet_feedless : (p : Packet) → is_packet p ≡ true → is_feedless (packet_body p) ≡ true
unfolding sync_digits
packet_feedless p h =
    ap is_feedless (fields_nested p)
    ∙ nested_feedless (encode_lower p.header) (encode_lower (body_of p 0)) (encode_lower (body_of p 1)) (encode_lower (body_of p 2)) (encode_lower (body_of p 3)) (sync_digits p.sync)
    (encode_feedless p.header) (encode_feedless (body_of p 0)) (encode_feedless (body_of p 1)) (encode_feedless (body_of p 2)) (encode_feedless (body_of p 3)) (values_feedless p.sync (sound p h).values)

pub packet_values : (p : Packet) → is_packet p ≡ true → list_all (λ v. nat_lt v 4) p.sync ≡ true
packet_values p h = (sound p h).values
