-- Bits that are held in a buffer of bytes, moved within it and appended after a few others.
use Rattle.track_sink.specs.declared.TheConstants.{ROOM, ROOM_BITS}
use Rattle.std.proofs.Common.{◌≡◌, ℕ, ◌+◌, ◌-◌, ◌*◌, ◌/◌, ◌%◌, ◌^◌, ◌<◌, ◌≤◌, Bool, List, [], ◌++◌, length, take, drop, get_or, refl, ap, ap₂, ◌∙◌, sym, arith, append_assoc, length-drop, length-take, take-take, bit_or}
use Rattle.std.specs.Prelude.{set}
use Rattle.std.proofs.Math.Nat.{mod-eq_of_lt}
use Rattle.std.proofs.Math.Pow.{pow_mono}
use Rattle.std.proofs.Math.Seq.{take-append-add, take-add, take-append_seam, drop-append_seam}
use Rattle.std.proofs.lemmas.Nat.{or_shifted}
use Rattle.std.proofs.lemmas.Slice.{take-put_mid}
use borrow.Rule.Slice.PartMut.{put_mid}
use Rattle.std.proofs.lemmas.List.{drop-take, drop-drop, take_more_set, take_all, take-set, length-take-le, get_or-set_same, length-set}
use Rattle.tmds_word.specs.Bits.{bits_of, bytes_bits}
use Rattle.tmds_word.proofs.Lists.{length-bytes_bits, bytes_bits-append}
use Rattle.tmds_word.proofs.Rows.{bits_of-mod, take_bytes, put_one, joined_below, tail_past, byte_after, no_more}
use Rattle.lane_align.proofs.Begun.{bytes_take}
use Rattle.lane_align.proofs.Feeding.{bytes_drop}

-- the first bits of the first bytes are the first bits
pub front_bits : (bytes : List ℕ) (bits : ℕ) → take bits (bytes_bits (take ((bits + 7) / 8) bytes)) ≡ take bits (bytes_bits bytes)
front_bits bytes bits = ap (take bits) (sym (bytes_take ((bits + 7) / 8) bytes)) ∙ take-take bits (8 * ((bits + 7) / 8)) (bytes_bits bytes) (omega arith)

pub length_held : (bytes : List ℕ) (start count : ℕ) → start + count ≤ 8 * length bytes → length (take count (drop start (bytes_bits bytes))) ≡ count
length_held bytes start count within =
    length-take-le count (drop start (bytes_bits bytes)) (let l = length-bytes_bits bytes in let d = length-drop start (bytes_bits bytes) in omega (arith, l, d))

-- the bytes from the first one on of which a bit is held
pub lent_bits : (bytes : List ℕ) (start count : ℕ) → take count (drop (start % 8) (bytes_bits (drop (start / 8) bytes))) ≡ take count (drop start (bytes_bits bytes))
lent_bits bytes start count =
    let e : 8 * (start / 8) + start % 8 ≡ start = omega arith in
    ap (λ us. take count (drop (start % 8) us)) (sym (bytes_drop (start / 8) bytes))
    ∙ ap (take count) (drop-drop (start % 8) (8 * (start / 8)) (bytes_bits bytes) ∙ ap (λ n. drop n (bytes_bits bytes)) e)

-- less its first bits
pub less_held : (bits : List Bool) (start count few : ℕ) → few ≤ count → take (count - few) (drop (start + few) bits) ≡ drop few (take count (drop start bits))
less_held bits start count few within =
    let k : few + (count - few) ≡ count = omega arith in
    ap (take (count - few)) (sym (drop-drop few start bits)) ∙ sym (drop-take few (count - few) (drop start bits)) ∙ ap (λ n. drop few (take n (drop start bits))) k

-- its first bits
pub front_held : (bits : List Bool) (start count few : ℕ) → few ≤ count → take few (drop start bits) ≡ take few (take count (drop start bits))
front_held bits start count few within = sym (take-take few count (drop start bits) within)

-- a byte above a few bits, in sixteen
pub or_is_sum : (t h w : ℕ) → t < 2 ^ h → w < 256 → h < 8 → bit_or (w * 2 ^ h % 65536) t ≡ t + 2 ^ h * w
or_is_sum t h w low high few =
    let below : t + 2 ^ h * w < 2 ^ (h + 8) = joined_below h 8 t w low high in
    let most : 2 ^ (h + 8) ≤ 2 ^ 16 = pow_mono {i = h + 8} {j = 16} (omega arith) in
    let fits : w * 2 ^ h < 65536 = omega arith in
    ap (λ n. bit_or n t) (mod-eq_of_lt fits) ∙ or_shifted w h t low ∙ omega arith

none_before : (ys : List Bool) → bytes_bits [] ++ ys ≡ ys
unfolding bytes_bits
none_before ys = refl

-- the first few bits of bytes
pub first_few : (bytes : List ℕ) (few : ℕ) → few < 8 → 1 ≤ length bytes → take few (bytes_bits bytes) ≡ bits_of few (get_or bytes 0 0)
first_few bytes few lt some =
    let e : 8 * 0 + few ≡ few = omega arith in
    ap (λ n. take n (bytes_bits bytes)) (sym e) ∙ take_bytes bytes 0 few lt (omega arith) ∙ none_before (bits_of few (get_or bytes 0 0))

-- before the first byte
pub begin_after : (bytes more : List ℕ) (few left : ℕ) → few < 8 → 1 ≤ length bytes → left ≡ get_or bytes 0 0 % 2 ^ few
    → bytes_bits (take 0 bytes) ++ bits_of few left ≡ take few (bytes_bits bytes) ++ bytes_bits (take 0 more)
begin_after bytes more few left lt some e =
    none_before (bits_of few left) ∙ ap (bits_of few) e ∙ bits_of-mod few (get_or bytes 0 0) ∙ sym (first_few bytes few lt some) ∙ no_more (take few (bytes_bits bytes)) more

-- one byte more after them
pub more_after : (start : List Bool) (was now more : List ℕ) (few left n i b : ℕ) → left < 2 ^ few → n ≡ left + 2 ^ few * b → b ≡ get_or more i 0 → i < length more
    → i < length was → now ≡ set was i (n % 256) → bytes_bits (take i was) ++ bits_of few left ≡ start ++ bytes_bits (take i more)
    → bytes_bits (take (i + 1) now) ++ bits_of few (n / 256) ≡ start ++ bytes_bits (take (i + 1) more)
more_after start was now more few left n i b lt e same within inside is held =
    let e8 : few + 8 ≡ 8 + few = omega arith in
    ap (λ bs. bytes_bits bs ++ bits_of few (n / 256)) (ap (take (i + 1)) is ∙ take_more_set was i (n % 256) inside)
    ∙ put_one (take i was) few left 8 b n few lt e e8
    ∙ byte_after start (bytes_bits (take i was) ++ bits_of few left) more i b held within same

-- a few bits are left over
pub narrow_rest : (left few b n : ℕ) → left < 2 ^ few → b < 256 → n ≡ left + 2 ^ few * b → n / 256 < 2 ^ few
narrow_rest left few b n lt low e = let h = joined_below few 8 left b lt low in tail_past n few 8 few (omega (arith, h)) (omega arith)

-- and the last few bits
pub all_after : (start : List Bool) (was now more : List ℕ) (few left : ℕ) → few < 8 → length was ≡ length more + 1 → now ≡ set was (length more) left
    → bytes_bits (take (length more) was) ++ bits_of few left ≡ start ++ bytes_bits (take (length more) more)
    → take (few + 8 * length more) (bytes_bits now) ≡ start ++ bytes_bits more
all_after start was now more few left lt room is held =
    let n = length more in
    let e : few + 8 * n ≡ 8 * n + few = omega arith in
    grind (arith, length-set, take_bytes, take-set, get_or-set_same, take_all)

-- Appending.

-- whole bytes at the front
pub copied_after : (into more now : List ℕ) (few n : ℕ) → few ≡ 0 → now ≡ more → n ≡ length more
    → take (few + 8 * n) (bytes_bits (now ++ drop n into)) ≡ take few (bytes_bits into) ++ bytes_bits more
copied_after into more now few n none e size =
    let k : few + 8 * n ≡ length (bytes_bits more) = omega (arith, length-bytes_bits more) in
    ap₂ (λ m bs. take m (bytes_bits (bs ++ drop n into))) k e
    ∙ ap (take (length (bytes_bits more))) (bytes_bits-append more (drop n into))
    ∙ take-append_seam (bytes_bits more) (bytes_bits (drop n into))
    ∙ ap (λ m. take m (bytes_bits into) ++ bytes_bits more) (sym none)

-- bits after the first ones, where a part of the bytes has new bits after its first few
pub put_into : (into new more : List ℕ) (count bits size : ℕ) → length into ≡ ROOM → count + bits ≤ ROOM_BITS
    → length more ≡ (bits + 7) / 8 → size ≡ length more + 1 → length new ≡ size
    → take (count % 8 + 8 * length more) (bytes_bits new) ≡ take (count % 8) (bytes_bits (take size (drop (count / 8) into))) ++ bytes_bits more
    → take (count + bits) (bytes_bits (put_mid (count / 8) size into new)) ≡ take count (bytes_bits into) ++ take bits (bytes_bits more)
put_into into new more count bits size room fits long sized same held =
    let at = count / 8 in
    let few = count % 8 in
    let whole : 8 * at + few ≡ count = omega arith in
    let all = bytes_bits (take at into) in
    let first : length all ≡ 8 * at = length-bytes_bits (take at into) ∙ ap (λ n. 8 * n) (length-take-le at into (omega arith)) in
    let lnew = length-bytes_bits new in
    let lmore = length-bytes_bits more in
    let now = put_mid at size into new in
    let cut : take (count + bits) (bytes_bits now) ≡ all ++ take (few + bits) (bytes_bits new) =
    sym (take-take (count + bits) (8 * (at + length new)) (bytes_bits now) (omega arith))
    ∙ ap (take (count + bits)) (bytes_take (at + length new) now ∙ ap bytes_bits (take-put_mid at size into new (at + length new) refl (omega arith)) ∙ bytes_bits-append (take at into) new)
    ∙ ap (λ n. take n (all ++ bytes_bits new)) (let k : count + bits ≡ length all + (few + bits) = omega (arith, first) in k)
    ∙ take-append-add all (bytes_bits new) (few + bits) in
    let start : all ++ take few (bytes_bits (take size (drop at into))) ≡ take count (bytes_bits into) =
    ap (λ ys. all ++ ys) (ap (take few) (sym (bytes_take size (drop at into))) ∙ take-take few (8 * size) (bytes_bits (drop at into)) (omega arith) ∙ ap (take few) (sym (bytes_drop at into)))
    ∙ ap (λ ys. ys ++ take few (drop (8 * at) (bytes_bits into))) (sym (bytes_take at into))
    ∙ sym (take-add (8 * at) few (bytes_bits into)) ∙ ap (λ n. take n (bytes_bits into)) whole in
    let head = take few (bytes_bits (take size (drop at into))) in
    let lhead : length head ≡ few = length-take-le few (bytes_bits (take size (drop at into))) (omega (arith, length-bytes_bits (take size (drop at into)), length-take size (drop at into), length-drop at into)) in
    let own : take (few + bits) (bytes_bits new) ≡ head ++ take bits (bytes_bits more) =
    sym (take-take (few + bits) (few + 8 * length more) (bytes_bits new) (omega arith)) ∙ ap (take (few + bits)) held
    ∙ ap (λ n. take (n + bits) (head ++ bytes_bits more)) (sym lhead) ∙ take-append-add head (bytes_bits more) bits in
    cut ∙ ap (λ ys. all ++ ys) own ∙ sym (append_assoc all head (take bits (bytes_bits more))) ∙ ap (λ ys. ys ++ take bits (bytes_bits more)) start

-- Releasing.

first_all : (xs ys : List Bool) (n : ℕ) → length xs ≡ n → take n (xs ++ ys) ≡ xs
first_all xs ys n is = ap (λ m. take m (xs ++ ys)) (sym is) ∙ take-append_seam xs ys

rest_all : (xs ys : List Bool) (n : ℕ) → length xs ≡ n → drop n (xs ++ ys) ≡ ys
rest_all xs ys n is = ap (λ m. drop m (xs ++ ys)) (sym is) ∙ drop-append_seam xs ys

-- bits that were moved to the front
pub moved_first : (was now : List ℕ) (start count : ℕ) → start + count ≤ 8 * length was → bytes_bits now ≡ take count (drop start (bytes_bits was)) ++ drop count (bytes_bits was)
    → take count (bytes_bits now) ≡ take count (drop start (bytes_bits was))
moved_first was now start count within moved =
    ap (take count) moved ∙ first_all (take count (drop start (bytes_bits was))) (drop count (bytes_bits was)) count (length_held was start count within)

-- what was settled
pub settled_first : (was now : List ℕ) (at skip start count : ℕ) → 8 * at + skip ≡ start → start + count ≤ 8 * length was
    → drop (8 * at) (bytes_bits now) ≡ take count (drop (8 * at + skip) (bytes_bits was)) ++ drop (8 * at + count) (bytes_bits was)
    → take count (drop (8 * at) (bytes_bits now)) ≡ take count (drop start (bytes_bits was))
settled_first was now at skip start count e within settled = grind (arith, first_all, length_held)

-- and what is held after it
pub settled_rest : (was now : List ℕ) (at skip start count : ℕ) → 8 * at + skip ≡ start → start + count ≤ 8 * length was
    → drop (8 * at) (bytes_bits now) ≡ take count (drop (8 * at + skip) (bytes_bits was)) ++ drop (8 * at + count) (bytes_bits was)
    → drop (start + count) (bytes_bits now) ≡ drop (start + count) (bytes_bits was)
settled_rest was now at skip start count e within settled =
    let bits = bytes_bits was in
    let cut : (us : List Bool) → drop (start + count) us ≡ drop skip (drop count (drop (8 * at) us)) =
    λ us. ap (λ n. drop n us) (let k : start + count ≡ 8 * at + count + skip = omega arith in k) ∙ sym (drop-drop skip (8 * at + count) us) ∙ ap (drop skip) (sym (drop-drop count (8 * at) us)) in
    cut (bytes_bits now)
    ∙ ap (λ us. drop skip (drop count us)) settled
    ∙ ap (drop skip) (rest_all (take count (drop (8 * at + skip) bits)) (drop (8 * at + count) bits) count (length_held was (8 * at + skip) count (omega arith)) ∙ sym (drop-drop count (8 * at) bits))
    ∙ sym (cut bits)

-- the bytes of what was released
pub released_bits : (bytes : List ℕ) (at k count : ℕ) → k ≡ (count + 7) / 8 → 8 * at + count ≤ 8 * length bytes
    → take (length (take count (drop (8 * at) (bytes_bits bytes)))) (bytes_bits (take k (drop at bytes))) ≡ take count (drop (8 * at) (bytes_bits bytes))
released_bits bytes at k count many within =
    ap₂ (λ n m. take n (bytes_bits (take m (drop at bytes)))) (length_held bytes (8 * at) count within) many
    ∙ front_bits (drop at bytes) count ∙ ap (take count) (sym (bytes_drop at bytes))
