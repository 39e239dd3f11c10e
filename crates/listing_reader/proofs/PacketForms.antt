-- What shows a packet's line, and what shows that a line is none.
use Rattle.std.proofs.Common.{◌≡◌, ℕ, zero, suc, ◌+◌, ◌-◌, ◌*◌, ◌<◌, ◌≤◌, Bool, true, false, ◌==◌, ◌&&◌, List, ◌++◌, map, length, take, drop, ap, sym, subst, refl, inl, inr, ◌⊎◌, [], get_or, replicate, length-append, ◌∙◌, arith, take_all, length-take-le, length-drop, take-append-drop, append_assoc}
use Rattle.std.specs.Prelude.{Result, Ok, Err, IsErr, is_err, MatchResult}
use Rattle.std.specs.List.{list_all}
use Rattle.std.proofs.lemmas.List.{drop-take, drop-drop, get_or-take, get_or-drop, get_or_append_left, get_or-append_right, take-append-le}
use Rattle.std.proofs.lemmas.List.Folds.{list_all-append}
use Rattle.std.proofs.Math.Seq.{take-append_seam, drop-append_seam}
use Rattle.hex.specs.Hex.{decode_of, decode_sized, is_hex_digit}
use Rattle.hex.specs.declared.error.FromHexError.{FromHexError}
use Rattle.hex.proofs.HexLemmas.{decode_sized-twice}
use Rattle.listing_reader.specs.Forms.{no_line, packet_line, is_digit, part, has_spaces, packet_by, packet_form}
use Rattle.listing_reader.specs.FormSeen.{HasBodies}
use Rattle.listing_reader.specs.HexValues.{AreBytesOf}
use Rattle.listing_reader.proofs.HexPairs.{bytes_ok, not_read}

abbrev Read : Type 0
Read = Result (List ℕ) FromHexError

-- ---- no packet

-- one of the four bodies does not decode
no_first : (laid : Bool) (h a b c d : Read) (sync : List ℕ) → IsErr a → packet_by laid h a b c d sync ≡ no_line
no_first laid h a b c d sync k = grind arith

no_second : (laid : Bool) (h a b c d : Read) (sync : List ℕ) → IsErr b → packet_by laid h a b c d sync ≡ no_line
no_second laid h a b c d sync k = grind arith

no_third : (laid : Bool) (h a b c d : Read) (sync : List ℕ) → IsErr c → packet_by laid h a b c d sync ≡ no_line
no_third laid h a b c d sync k = grind arith

no_fourth : (laid : Bool) (h a b c d : Read) (sync : List ℕ) → IsErr d → packet_by laid h a b c d sync ≡ no_line
no_fourth laid h a b c d sync k = grind arith

pub form_header : (rest : List ℕ) → IsErr (decode_of (part 0 6 rest)) → packet_form rest ≡ no_line
unfolding packet_form
form_header rest is = grind arith

form_body : (rest : List ℕ) (b : ℕ) → b < 4 → IsErr (decode_of (part (7 + 15 * b) 14 rest)) → packet_form rest ≡ no_line
unfolding packet_form
form_body rest zero below is = no_first _ _ _ _ _ _ _ is
form_body rest (suc zero) below is = no_second _ _ _ _ _ _ _ is
form_body rest (suc (suc zero)) below is = no_third _ _ _ _ _ _ _ is
form_body rest (suc (suc (suc zero))) below is = no_fourth _ _ _ _ _ _ _ is
form_body rest (suc (suc (suc (suc b)))) below is = absurd (omega arith)

pub form_bodies : (rest bodies : List ℕ) → HasBodies rest bodies false → packet_form rest ≡ no_line
form_bodies rest bodies bad = form_body rest bad.0 bad.1 bad.2

-- ---- a packet

-- a list of 28 as its four parts of seven
pub joined : (xs : List ℕ) → length xs ≡ 28 → take 7 (drop 0 xs) ++ take 7 (drop 7 xs) ++ take 7 (drop 14 xs) ++ take 7 (drop 21 xs) ≡ xs
joined xs size =
    let a : List ℕ = take 7 xs in
    let b : List ℕ = take 7 (drop 7 xs) in
    let c : List ℕ = take 7 (drop 14 xs) in
    let last : take 7 (drop 21 xs) ≡ drop 7 (drop 14 xs) = take_all 7 (drop 21 xs) (omega (arith, length-drop 21 xs)) ∙ sym (drop-drop 7 14 xs) in
    ap (λ (ys : List ℕ). a ++ b ++ c ++ ys) last
    ∙ append_assoc (a ++ b) c (drop 7 (drop 14 xs))
    ∙ ap (λ (ys : List ℕ). a ++ b ++ ys) (take-append-drop 7 (drop 14 xs) ∙ sym (drop-drop 7 7 xs))
    ∙ append_assoc a b (drop 7 (drop 7 xs))
    ∙ ap (λ (ys : List ℕ). a ++ ys) (take-append-drop 7 (drop 7 xs))
    ∙ take-append-drop 7 xs

pub form_packet : (rest header bodies sync : List ℕ) → ((length rest == 99) && (has_spaces rest && list_all is_digit (part 67 32 rest))) ≡ true → decode_of (part 0 6 rest) ≡ Ok header
    → length bodies ≡ 28 → HasBodies rest bodies true → sync ≡ map (λ digit. digit - 48) (part 67 32 rest)
    → packet_form rest ≡ packet_line (record { header = header; bodies = bodies; sync = sync })
unfolding packet_form
form_packet rest header bodies sync laid read size has values =
    rw (laid, read, has 0 (omega arith), has 1 (omega arith), has 2 (omega arith), has 3 (omega arith))
    (ap (λ (bs : List ℕ). packet_line (record { header = header; bodies = bs; sync = map (λ digit. digit - 48) (part 67 32 rest) })) (joined bodies size)
    ∙ ap (λ (vs : List ℕ). packet_line (record { header = header; bodies = bodies; sync = vs })) (sym values))

-- ---- the bodies, one after another

pub read_well : (d : Read) (r : Result Unit FromHexError) (out : List ℕ) → MatchResult d (λ bytes. (r ≡ Ok tt) × (out ≡ bytes)) (λ e. r ≡ Err e) → is_err r ≡ false → d ≡ Ok out
read_well d r out h k = grind arith

pub read_badly : (d : Read) (r : Result Unit FromHexError) (out : List ℕ) → MatchResult d (λ bytes. (r ≡ Ok tt) × (out ≡ bytes)) (λ e. r ≡ Err e) → is_err r ≡ true → IsErr d
read_badly d r out h k = grind arith

header_sized : (rest : List ℕ) (m : ℕ) → length rest ≡ 99 → m ≡ 3 → decode_sized (part 0 6 rest) m ≡ decode_of (part 0 6 rest)
header_sized rest m size three = rw three (decode_sized-twice (part 0 6 rest) 3 (length-take-le 6 (drop 0 rest) (omega arith)))

pub header_none : (rest out : List ℕ) (m : ℕ) (r : Result Unit FromHexError) → length rest ≡ 99 → m ≡ 3 → MatchResult (decode_sized (part 0 6 rest) m) (λ bytes. (r ≡ Ok tt) × (out ≡ bytes)) (λ e. r ≡ Err e) → is_err r ≡ true → IsErr (decode_of (part 0 6 rest))
header_none rest out m r size three value bad = subst (λ (d : Read). IsErr d) (header_sized rest m size three) (read_badly _ r out value bad)

pub header_read : (rest out : List ℕ) (m : ℕ) (r : Result Unit FromHexError) → length rest ≡ 99 → m ≡ 3 → MatchResult (decode_sized (part 0 6 rest) m) (λ bytes. (r ≡ Ok tt) × (out ≡ bytes)) (λ e. r ≡ Err e) → is_err r ≡ false → decode_of (part 0 6 rest) ≡ Ok out
header_read rest out m r size three value well = sym (header_sized rest m size three) ∙ read_well _ r out value well

-- ---- the digits of all bodies at once

-- the digits of four parts and zeros are those of the parts
pub all_parts : (a b c d z : List ℕ) → list_all is_hex_digit (a ++ (b ++ (c ++ (d ++ z)))) ≡ (list_all is_hex_digit a && (list_all is_hex_digit b && (list_all is_hex_digit c && (list_all is_hex_digit d && list_all is_hex_digit z))))
all_parts a b c d z = grind (arith, list_all-append)

-- the values of a part that stands first, and of what stands after it
pub first_values : (s more bytes : List ℕ) (n : ℕ) → length s ≡ 2 * n → n ≤ length bytes → AreBytesOf (s ++ more) bytes → AreBytesOf s (take n bytes)
first_values s more bytes n twice le values k lt = grind (arith, get_or-take, get_or_append_left, length-take-le)

pub later_values : (s more bytes : List ℕ) (n : ℕ) → length s ≡ 2 * n → n ≤ length bytes → AreBytesOf (s ++ more) bytes → AreBytesOf more (drop n bytes)
later_values s more bytes n twice le values k lt = grind (arith, get_or-drop, get_or-append_right, length-drop)

-- one body
body_of : (s more bytes : List ℕ) → length s ≡ 14 → 7 ≤ length bytes → list_all is_hex_digit s ≡ true → AreBytesOf (s ++ more) bytes → decode_of s ≡ Ok (take 7 bytes)
body_of s more bytes size le all values = bytes_ok s (take 7 bytes) (omega (arith, size, length-take-le 7 bytes le)) all (first_values s more bytes 7 (omega (arith, size)) le values)

front : (k : ℕ) (bytes : List ℕ) → k + 7 ≤ 28 → 28 ≤ length bytes → take 7 (drop k (take 28 bytes)) ≡ take 7 (drop k bytes)
front k bytes le room =
    sym (drop-take k 7 (take 28 bytes))
    ∙ ap (drop k) (sym (take-append-le (k + 7) (take 28 bytes) (drop 28 bytes) (omega (arith, le, length-take-le 28 bytes room))) ∙ ap (take (k + 7)) (take-append-drop 28 bytes))
    ∙ drop-take k 7 bytes

pub part_size : (rest : List ℕ) (from : ℕ) → from + 14 ≤ length rest → length (part from 14 rest) ≡ 14
part_size rest from room = length-take-le 14 (drop from rest) (omega (arith, room, length-drop from rest))

-- four parts that are digits
all_four : (a b c d z : Bool) → (a && (b && (c && (d && z)))) ≡ true → record { first : a ≡ true; second : b ≡ true; third : c ≡ true; fourth : d ≡ true }
all_four a b c d z h = grind arith

-- one of four parts that are none
one_of_four : (a b c d : Bool) → (a && (b && (c && (d && true)))) ≡ false → (a ≡ false) ⊎ ((b ≡ false) ⊎ ((c ≡ false) ⊎ (d ≡ false)))
one_of_four false b c d h = inl refl
one_of_four true false c d h = inr (inl refl)
one_of_four true true false d h = inr (inr (inl refl))
one_of_four true true true false h = inr (inr (inr refl))
one_of_four true true true true h = cc h

pub bodies_read : (rest digits bytes bodies : List ℕ) → 66 ≤ length rest → digits ≡ part 7 14 rest ++ (part 22 14 rest ++ (part 37 14 rest ++ (part 52 14 rest ++ replicate 8 48)))
    → list_all is_hex_digit digits ≡ true → length bytes ≡ 32 → AreBytesOf digits bytes → bodies ≡ take 28 bytes → HasBodies rest bodies true
bodies_read rest digits bytes bodies long is all size values are = each
  where
    p0 : List ℕ
    p0 = part 7 14 rest

    p1 : List ℕ
    p1 = part 22 14 rest

    p2 : List ℕ
    p2 = part 37 14 rest

    p3 : List ℕ
    p3 = part 52 14 rest

    z : List ℕ
    z = replicate 8 48

    four : record { first : list_all is_hex_digit p0 ≡ true; second : list_all is_hex_digit p1 ≡ true; third : list_all is_hex_digit p2 ≡ true; fourth : list_all is_hex_digit p3 ≡ true }
    four = all_four _ _ _ _ (list_all is_hex_digit z) (sym (all_parts p0 p1 p2 p3 z) ∙ ap (list_all is_hex_digit) (sym is) ∙ all)

    v0 : AreBytesOf (p0 ++ (p1 ++ (p2 ++ (p3 ++ z)))) bytes
    v0 = subst (λ (s : List ℕ). AreBytesOf s bytes) is values

    v1 : AreBytesOf (p1 ++ (p2 ++ (p3 ++ z))) (drop 7 bytes)
    v1 = later_values p0 (p1 ++ (p2 ++ (p3 ++ z))) bytes 7 (part_size rest 7 (omega (arith, long))) (omega (arith, size)) v0

    v2 : AreBytesOf (p2 ++ (p3 ++ z)) (drop 7 (drop 7 bytes))
    v2 = later_values p1 (p2 ++ (p3 ++ z)) (drop 7 bytes) 7 (part_size rest 22 (omega (arith, long))) (omega (arith, size, length-drop 7 bytes)) v1

    v3 : AreBytesOf (p3 ++ z) (drop 7 (drop 7 (drop 7 bytes)))
    v3 = later_values p2 (p3 ++ z) (drop 7 (drop 7 bytes)) 7 (part_size rest 37 (omega (arith, long))) (omega (arith, size, length-drop 7 bytes, length-drop 7 (drop 7 bytes))) v2

    here : (k : ℕ) → k + 7 ≤ 28 → take 7 (drop k bodies) ≡ take 7 (drop k bytes)
    here k le = ap (λ (bs : List ℕ). take 7 (drop k bs)) are ∙ front k bytes le (omega (arith, size))

    each : (b : ℕ) → b < 4 → decode_of (part (7 + 15 * b) 14 rest) ≡ Ok (take 7 (drop (7 * b) bodies))
    each zero lt = body_of p0 (p1 ++ (p2 ++ (p3 ++ z))) bytes (part_size rest 7 (omega (arith, long))) (omega (arith, size)) four.first v0 ∙ ap (λ bs. Ok bs) (sym (here 0 (omega arith)))
    each (suc zero) lt =
        body_of p1 (p2 ++ (p3 ++ z)) (drop 7 bytes) (part_size rest 22 (omega (arith, long))) (omega (arith, size, length-drop 7 bytes)) four.second v1 ∙ ap (λ bs. Ok bs) (sym (here 7 (omega arith)))
    each (suc (suc zero)) lt =
        body_of p2 (p3 ++ z) (drop 7 (drop 7 bytes)) (part_size rest 37 (omega (arith, long))) (omega (arith, size, length-drop 7 bytes, length-drop 7 (drop 7 bytes))) four.third v2
        ∙ ap (λ bs. Ok (take 7 bs)) (drop-drop 7 7 bytes) ∙ ap (λ bs. Ok bs) (sym (here 14 (omega arith)))
    each (suc (suc (suc zero))) lt =
        body_of p3 z (drop 7 (drop 7 (drop 7 bytes))) (part_size rest 52 (omega (arith, long))) (omega (arith, size, length-drop 7 bytes, length-drop 7 (drop 7 bytes), length-drop 7 (drop 7 (drop 7 bytes)))) four.fourth v3
        ∙ ap (λ bs. Ok (take 7 bs)) (ap (drop 7) (drop-drop 7 7 bytes) ∙ drop-drop 7 14 bytes) ∙ ap (λ bs. Ok bs) (sym (here 21 (omega arith)))
    each (suc (suc (suc (suc b)))) lt = absurd (omega arith)

pub bodies_bad : (rest digits bodies : List ℕ) → digits ≡ part 7 14 rest ++ (part 22 14 rest ++ (part 37 14 rest ++ (part 52 14 rest ++ replicate 8 48))) → list_all is_hex_digit digits ≡ false → HasBodies rest bodies false
bodies_bad rest digits bodies is bad =
    elim (one_of_four _ _ _ _ (sym (all_parts (part 7 14 rest) (part 22 14 rest) (part 37 14 rest) (part 52 14 rest) (replicate 8 48)) ∙ ap (list_all is_hex_digit) (sym is) ∙ bad)) [
      | inl a ↦ (0, omega arith, not_read (part 7 14 rest) a)
      | inr more ↦
          elim more [
            | inl b ↦ (1, omega arith, not_read (part 22 14 rest) b)
            | inr last ↦
                elim last [
                  | inl c ↦ (2, omega arith, not_read (part 37 14 rest) c)
                  | inr d ↦ (3, omega arith, not_read (part 52 14 rest) d)
                ]
          ]
    ]

-- one part more is placed among 64 digits
placed : (x y done ys : List ℕ) (a : ℕ) → length x ≡ 64 → take a x ≡ done → length done ≡ a → length ys ≡ 14 → a + 14 ≤ 56 → y ≡ take a x ++ (ys ++ drop (a + 14) x)
    → record { size : length y ≡ 64; taken : take (a + 14) y ≡ done ++ ys; rest : drop 56 y ≡ drop 56 x }
placed x y done ys a long was at size room is =
    let front = done ++ ys in
    let more = drop (a + 14) x in
    let count : length front ≡ a + 14 = omega (arith, length-append done ys, at, size) in
    let all : y ≡ front ++ more = is ∙ ap (λ (ws : List ℕ). ws ++ (ys ++ more)) was ∙ sym (append_assoc done ys more) in
    let past : drop (a + 14) y ≡ more = ap (λ n. drop n y) (sym count) ∙ ap (drop (length front)) all ∙ drop-append_seam front more in
    let gap : a + 14 + (56 - (a + 14)) ≡ 56 = omega (arith, room) in
    record {
      size = omega (arith, ap length all, length-append front more, count, length-drop (a + 14) x, long, room);
      taken = ap (λ n. take n y) (sym count) ∙ ap (take (length front)) all ∙ take-append_seam front more;
      rest = ap (λ n. drop n y) (sym gap) ∙ sym (drop-drop (56 - (a + 14)) (a + 14) y) ∙ ap (drop (56 - (a + 14))) past ∙ drop-drop (56 - (a + 14)) (a + 14) x ∙ ap (λ n. drop n x) gap;
    }

pub four_placed : (x x1 x2 x3 x4 p0 p1 p2 p3 : List ℕ) → length x ≡ 64 → length p0 ≡ 14 → length p1 ≡ 14 → length p2 ≡ 14 → length p3 ≡ 14
    → x1 ≡ take 0 x ++ (p0 ++ drop 14 x) → x2 ≡ take 14 x1 ++ (p1 ++ drop 28 x1) → x3 ≡ take 28 x2 ++ (p2 ++ drop 42 x2) → x4 ≡ take 42 x3 ++ (p3 ++ drop 56 x3)
    → x4 ≡ p0 ++ (p1 ++ (p2 ++ (p3 ++ drop 56 x)))
four_placed x x1 x2 x3 x4 p0 p1 p2 p3 long s0 s1 s2 s3 e1 e2 e3 e4 =
    let a = placed x x1 [] p0 0 long refl refl s0 (omega arith) e1 in
    let b = placed x1 x2 p0 p1 14 a.size a.taken s0 s1 (omega arith) e2 in
    let c = placed x2 x3 (p0 ++ p1) p2 28 b.size b.taken (omega (arith, length-append p0 p1, s0, s1)) s2 (omega arith) e3 in
    let d = placed x3 x4 ((p0 ++ p1) ++ p2) p3 42 c.size c.taken (omega (arith, length-append (p0 ++ p1) p2, length-append p0 p1, s0, s1, s2)) s3 (omega arith) e4 in
    let whole : take 56 x4 ≡ ((p0 ++ p1) ++ p2) ++ p3 = d.taken in
    sym (take-append-drop 56 x4)
    ∙ ap (λ (ws : List ℕ). ws ++ drop 56 x4) whole
    ∙ ap (λ (ws : List ℕ). (((p0 ++ p1) ++ p2) ++ p3) ++ ws) (d.rest ∙ c.rest ∙ b.rest ∙ a.rest)
    ∙ append_assoc ((p0 ++ p1) ++ p2) p3 (drop 56 x)
    ∙ append_assoc (p0 ++ p1) p2 (p3 ++ drop 56 x)
    ∙ append_assoc p0 p1 (p2 ++ (p3 ++ drop 56 x))
