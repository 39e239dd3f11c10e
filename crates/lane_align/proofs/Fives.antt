-- Groups of five bytes, read where they lie: what they say is what the bits say that are cut one after another.
use Rattle.std.proofs.Common.{◌≡◌, ℕ, suc, ◌+◌, ◌-◌, ◌*◌, ◌/◌, ◌%◌, ◌^◌, ◌<◌, ◌≤◌, Bool, true, List, [], ◌∷◌, ◌++◌, length, take, drop, refl, ap, ◌∙◌, sym, subst, arith, length-append, length-drop, append_assoc, Option, Some, None, MatchOption, is_some, get_or}
use Rattle.std.proofs.lemmas.List.{drop-drop, drop-append-le, drop_at, take-append-drop, length-take-le}
use Rattle.std.proofs.lemmas.Nat.{shr-shr, field_of}
use Rattle.std.proofs.Math.Pow.{mod-mod-pow}
use Rattle.std.proofs.Math.Seq.{take-add}
use Rattle.tmds_word.specs.Bits.{bits_of, bytes_bits, number}
use Rattle.tmds_word.specs.Words.{words_of}
use Rattle.tmds_word.proofs.Rows.{byte_after, number_of_bytes}
use Rattle.tmds_word.proofs.Lists.{length-bytes_bits, bytes_bits-append}
use Rattle.tmds_word.proofs.Numbers.{number-append, number-drop}
use Rattle.lane_align.specs.Words.{AreWords, words_in, lane_words}
use Rattle.lane_align.specs.Aligners.{Seeks, Cuts, AlignerRepresents}
use Rattle.lane_align.specs.declared.aligner.LaneAligner.{LaneAligner}
use Rattle.lane_align.proofs.Cutting.{four_words}
use Rattle.lane_align.proofs.Feeding.{HasCut, cut_stands, cut_words, words_number, words_same, bytes_drop, none_bytes}

-- four characters of a number are those of its lowest forty bits
words_low : (v w : ℕ) → v % 1099511627776 ≡ w % 1099511627776 → words_in 4 v ≡ words_in 4 w
words_low v w e =
    let a : v % 1024 ≡ w % 1024 = omega arith in
    let b : v / 1024 % 1024 ≡ w / 1024 % 1024 = omega arith in
    let c : v / 1048576 % 1024 ≡ w / 1048576 % 1024 = omega arith in
    let d : v / 1073741824 % 1024 ≡ w / 1073741824 % 1024 = omega arith in
    four_words v ∙ (λ i. a i ∷ (b i ∷ (c i ∷ (d i ∷ [])))) ∙ sym (four_words w)

-- forty bits from one of the first bits on lie in sixty-four
low_group : (r m : ℕ) → r ≤ 24 → m % 2 ^ 64 / 2 ^ r % 2 ^ 40 ≡ m / 2 ^ r % 2 ^ 40
low_group r m few =
    let j = 24 - r in
    let sum : (j + 40) + r ≡ 64 = omega arith in
    ap (λ e. m % 2 ^ e / 2 ^ r % 2 ^ 40) (sym sum) ∙ ap (λ x. x % 2 ^ 40) (field_of m (j + 40) r) ∙ mod-mod-pow (m / 2 ^ r) j 40

-- the four characters from a bit on, from the eight bytes in which they lie
four_from : (big k at r g : ℕ) → 8 * at + r ≡ k → r ≤ 24 → g ≡ (big / 2 ^ (8 * at)) % 18446744073709551616 → words_in 4 (g / 2 ^ r) ≡ words_in 4 (big / 2 ^ k)
four_from big k at r g place few is =
    let m = big / 2 ^ (8 * at) in
    words_low (g / 2 ^ r) (m / 2 ^ r) (ap (λ n. n / 2 ^ r % 1099511627776) is ∙ low_group r m few)
    ∙ ap (words_in 4) (shr-shr big (8 * at) r ∙ ap (λ k. big / 2 ^ k) place)

-- the characters of group i, from its eight bytes
group_words : (big r i g : ℕ) → r < 8 → g ≡ (big / 2 ^ (8 * (5 * i))) % 18446744073709551616 → words_in 4 (g / 2 ^ r) ≡ words_in 4 (big / 2 ^ (r + 40 * i))
group_words big r i g few is = four_from big (r + 40 * i) (5 * i) r g (omega arith) (omega arith) is

-- four characters and then the others
four_more : (n m v : ℕ) → n ≡ 4 + m → words_in n v ≡ words_in 4 v ++ words_in m (v / 1099511627776)
unfolding words_in
four_more n m v e =
    let four : n ≡ suc (suc (suc (suc m))) = omega arith in
    let past : v / 1024 / 1024 / 1024 / 1024 ≡ v / 1099511627776 = omega arith in
    ap (λ k. words_in k v) four
    ∙ ap (λ u. v % 1024 ∷ (v / 1024 % 1024 ∷ (v / 1024 / 1024 % 1024 ∷ (v / 1024 / 1024 / 1024 % 1024 ∷ words_in m u)))) past

-- the twelve characters from a bit on, from three numbers of eight bytes
pub twelve_words : (big p low high last : ℕ) → low ≡ (big / 2 ^ (8 * (p / 8))) % 18446744073709551616 → high ≡ (big / 2 ^ (8 * (p / 8 + 5))) % 18446744073709551616
    → (end : ℕ) → end ≡ (p + 127) / 8 - 8 → last ≡ (big / 2 ^ (8 * end)) % 18446744073709551616
    → (words_in 4 (low / 2 ^ (p % 8)) ++ words_in 4 (high / 2 ^ (p % 8))) ++ words_in 4 (last / 2 ^ (p + 80 - 8 * end)) ≡ words_in 12 (big / 2 ^ p)
twelve_words big p low high last is_low is_high end place is_last =
    let v = big / 2 ^ p in
    let second : v / 1099511627776 ≡ big / 2 ^ (p + 40) = shr-shr big p 40 in
    let third : v / 1099511627776 / 1099511627776 ≡ big / 2 ^ (p + 80) = shr-shr v 40 40 ∙ shr-shr big p 80 in
    let a = four_from big p (p / 8) (p % 8) low (omega arith) (omega arith) is_low in
    let b = four_from big (p + 40) (p / 8 + 5) (p % 8) high (omega arith) (omega arith) is_high ∙ ap (words_in 4) (sym second) in
    let c = four_from big (p + 80) end (p + 80 - 8 * end) last (omega arith) (omega arith) is_last ∙ ap (words_in 4) (sym third) in
    (λ i. (a i ++ b i) ++ c i)
    ∙ append_assoc (words_in 4 v) (words_in 4 (v / 1099511627776)) (words_in 4 (v / 1099511627776 / 1099511627776))
    ∙ sym (four_more 12 8 v refl ∙ ap (λ ws. words_in 4 v ++ ws) (four_more 8 4 (v / 1099511627776) refl))

-- one group more was written
pub group_written : (row after all : List ℕ) (big r i n at g : ℕ) → r < 8 → i < n → g ≡ (big / 2 ^ (8 * (5 * i))) % 18446744073709551616
    → take (at + 4 * i + 4) after ≡ take (at + 4 * i) row ++ words_in 4 (g / 2 ^ r)
    → take (at + 4 * i) row ++ words_in (4 * (n - i)) (big / 2 ^ (r + 40 * i)) ≡ all
    → take (at + 4 * (i + 1)) after ++ words_in (4 * (n - (i + 1))) (big / 2 ^ (r + 40 * (i + 1))) ≡ all
group_written row after all big r i n at g few within is written was =
    let v = big / 2 ^ (r + 40 * i) in
    let m = 4 * (n - (i + 1)) in
    let place : at + 4 * (i + 1) ≡ at + 4 * i + 4 = omega arith in
    let count : 4 * (n - i) ≡ 4 + m = omega arith in
    let deep : r + 40 * (i + 1) ≡ r + 40 * i + 40 = omega arith in
    let past : big / 2 ^ (r + 40 * (i + 1)) ≡ v / 1099511627776 = ap (λ k. big / 2 ^ k) deep ∙ sym (shr-shr big (r + 40 * i) 40) in
    (λ j. take (place j) after ++ words_in m (past j))
    ∙ ap (λ ws. ws ++ words_in m (v / 1099511627776)) (written ∙ ap (λ ws. take (at + 4 * i) row ++ ws) (group_words big r i g few is))
    ∙ append_assoc (take (at + 4 * i) row) (words_in 4 v) (words_in m (v / 1099511627776))
    ∙ ap (λ ws. take (at + 4 * i) row ++ ws) (sym (four_more (4 * (n - i)) m v count))
    ∙ was

pub two_number : (bs : List ℕ) → length bs ≡ 2 → ((i : ℕ) → get_or bs i 0 < 256) → number (bytes_bits bs) ≡ get_or bs 0 0 + 256 * get_or bs 1 0
two_number [] h small = absurd (omega arith)
two_number (a ∷ []) h small = absurd (omega arith)
two_number (a ∷ (b ∷ [])) h small =
    let n = none_bytes in
    let second = number_of_bytes b [] (small 1) in
    let first = number_of_bytes a (b ∷ []) (small 0) in
    omega arith
two_number (a ∷ (b ∷ (c ∷ bs))) h small = absurd (omega arith)

length-first : (n : ℕ) (bytes : List ℕ) → n ≤ length bytes → length (bytes_bits (take n bytes)) ≡ 8 * n
length-first n bytes room = length-bytes_bits (take n bytes) ∙ ap (λ m. 8 * m) (length-take-le n bytes room)

-- the bits of some bytes and of some after them
bits_add : (m n k : ℕ) (bytes : List ℕ) → k ≡ m + n → bytes_bits (take k bytes) ≡ bytes_bits (take m bytes) ++ bytes_bits (take n (drop m bytes))
bits_add m n k bytes e = ap (λ j. bytes_bits (take j bytes)) e ∙ ap bytes_bits (take-add m n bytes) ∙ bytes_bits-append (take m bytes) (take n (drop m bytes))

-- all but the first bits of a list with more before them
drop_past : (k j n : ℕ) (xs ys : List Bool) → length xs ≡ k → n ≡ k + j → drop n (xs ++ ys) ≡ drop j ys
drop_past k j n xs ys long e = ap (λ m. drop m (xs ++ ys)) e ∙ sym (drop-drop j k (xs ++ ys)) ∙ ap (drop j) (drop_at xs ys k long)

-- the last bits of five bytes that were fed last are those that are kept
kept_bits : (old : LaneAligner) (xs first : List Bool) → length first ≡ 40 → is_some old.lock ≡ true → AlignerRepresents old (xs ++ first) → old.rest ≡ number (drop (40 - old.held) first)
kept_bits old xs first long locked stands = by_lock old.lock locked stands.found
  where
    by_lock : (o : Option ℕ) → is_some o ≡ true → MatchOption o (Seeks old (xs ++ first)) (Cuts old (xs ++ first)) → old.rest ≡ number (drop (40 - old.held) first)
    by_lock None e h = cc
    by_lock (Some p) e h =
        let at = h.at in
        let few = old.few in
        let place : p + 10 * h.count ≡ length xs + (40 - old.held) = omega (arith, length-append xs first) in
        h.rest ∙ ap number (drop_past (length xs) (40 - old.held) (p + 10 * h.count) xs first refl place)

-- groups of five bytes after the first five, which were fed last
module _ (old : LaneAligner) (xs : List Bool) (bytes : List ℕ) (groups : ℕ) (room : 5 * groups + 8 ≤ length bytes) (locked : is_some old.lock ≡ true) (stands : AlignerRepresents old (xs ++ bytes_bits (take 5 bytes))) where
  few : old.held < 10
  few = old.few

  -- so many characters become whole
  many : (old.held + 40 * groups) / 10 ≡ 4 * groups
  many = let h = few in omega arith

  all_is : bytes_bits (take (5 * (groups + 1)) bytes) ≡ bytes_bits (take 5 bytes) ++ bytes_bits (take (5 * groups) (drop 5 bytes))
  all_is = bits_add 5 (5 * groups) (5 * (groups + 1)) bytes (omega arith)

  length-all : length (bytes_bits (take (5 * (groups + 1)) bytes)) ≡ 40 * groups + 40
  length-all = length-first (5 * (groups + 1)) bytes (omega arith) ∙ omega arith

  length-groups : length (bytes_bits (take (5 * groups) (drop 5 bytes))) ≡ 40 * groups
  length-groups = length-first (5 * groups) (drop 5 bytes) (omega (arith, length-drop 5 bytes)) ∙ omega arith

  -- the bits that are kept, with those of the groups
  joined_is : old.rest + 2 ^ old.held * number (bytes_bits (take (5 * groups) (drop 5 bytes))) ≡ number (drop (40 - old.held) (bytes_bits (take (5 * (groups + 1)) bytes)))
  joined_is =
      let first = bytes_bits (take 5 bytes) in
      let more = bytes_bits (take (5 * groups) (drop 5 bytes)) in
      let b = 40 - old.held in
      let h = few in
      let long : length first ≡ 40 = length-first 5 bytes (omega arith) in
      let left : length (drop b first) ≡ old.held = omega (arith, length-drop b first) in
      let rest = sym (kept_bits old xs first long locked stands) in
      sym (ap (λ ys. number (drop b ys)) all_is ∙ ap number (drop-append-le b first more (omega arith)) ∙ number-append (drop b first) more
      ∙ (λ i. rest i + 2 ^ (left i) * number more))

  -- the last bits of the last two bytes
  rest_is : number (drop (16 - old.held) (bytes_bits (take 2 (drop (5 * groups + 3) bytes))))
      ≡ (old.rest + 2 ^ old.held * number (bytes_bits (take (5 * groups) (drop 5 bytes)))) / 2 ^ (10 * ((old.held + 40 * groups) / 10))
  rest_is =
      let all = bytes_bits (take (5 * (groups + 1)) bytes) in
      let before = bytes_bits (take (5 * groups + 3) bytes) in
      let last = bytes_bits (take 2 (drop (5 * groups + 3) bytes)) in
      let b = 40 - old.held in
      let h = few in
      let long : length before ≡ 8 * (5 * groups + 3) = length-first (5 * groups + 3) bytes (omega arith) in
      let place : b + 10 * (4 * groups) ≡ 8 * (5 * groups + 3) + (16 - old.held) = omega arith in
      sym ((λ i. joined_is i / 2 ^ (10 * many i))
      ∙ sym (number-drop (10 * (4 * groups)) (drop b all))
      ∙ ap number (drop-drop (10 * (4 * groups)) b all
      ∙ ap (drop (b + 10 * (4 * groups))) (bits_add (5 * groups + 3) 2 (5 * (groups + 1)) bytes (omega arith))
      ∙ drop_past (8 * (5 * groups + 3)) (16 - old.held) (b + 10 * (4 * groups)) before last long place))

  -- the characters of the groups, read from a bit of a byte on
  groups_are : (k r : ℕ) → 8 * k + r ≡ 40 - old.held → words_in (4 * groups) (number (bytes_bits (drop k bytes)) / 2 ^ r)
      ≡ words_in ((old.held + 40 * groups) / 10) (old.rest + 2 ^ old.held * number (bytes_bits (take (5 * groups) (drop 5 bytes))))
  groups_are k r place =
      let all = bytes_bits (take (5 * (groups + 1)) bytes) in
      let past = bytes_bits (drop (5 * (groups + 1)) bytes) in
      let b = 40 - old.held in
      let h = few in
      let n = 4 * groups in
      let whole : bytes_bits bytes ≡ all ++ past = ap bytes_bits (sym (take-append-drop (5 * (groups + 1)) bytes)) ∙ bytes_bits-append (take (5 * (groups + 1)) bytes) (drop (5 * (groups + 1)) bytes) in
      let within : b ≤ length all = omega (arith, length-all) in
      let enough : 10 * n ≤ length (drop b all) = omega (arith, length-all, length-drop b all) in
      ap (words_in n) (sym (number-drop r (bytes_bits (drop k bytes))) ∙ ap number (ap (drop r) (sym (bytes_drop k bytes)) ∙ drop-drop r (8 * k) (bytes_bits bytes) ∙ ap (λ m. drop m (bytes_bits bytes)) place))
      ∙ sym (words_number n (drop b (bytes_bits bytes)))
      ∙ ap (words_of n) (ap (drop b) whole ∙ drop-append-le b all past within)
      ∙ words_same n (drop b all) past enough
      ∙ words_number n (drop b all)
      ∙ (λ i. words_in (sym many i) (sym joined_is i))

  regrouped : (xs ++ bytes_bits (take 5 bytes)) ++ bytes_bits (take (5 * groups) (drop 5 bytes)) ≡ xs ++ bytes_bits (take (5 * (groups + 1)) bytes)
  regrouped = append_assoc xs (bytes_bits (take 5 bytes)) (bytes_bits (take (5 * groups) (drop 5 bytes))) ∙ ap (λ ys. xs ++ ys) (sym all_is)

  module _ (new : LaneAligner) (rest : new.rest ≡ number (drop (16 - old.held) (bytes_bits (take 2 (drop (5 * groups + 3) bytes))))) (held : new.held ≡ old.held) (lock : new.lock ≡ old.lock) where
    cut : HasCut old new (number (bytes_bits (take (5 * groups) (drop 5 bytes)))) (40 * groups)
    cut = record { rest = rest ∙ rest_is; held = let m = many in omega arith }

    not_none : old.lock ≡ None → ⊥
    not_none e = by_lock old.lock locked e
      where
        by_lock : (o : Option ℕ) → is_some o ≡ true → o ≡ None → ⊥
        by_lock None h e = cc
        by_lock (Some p) h e = cc

    pub groups_stand : new.fed ≡ old.fed + 40 * groups → AlignerRepresents new (xs ++ bytes_bits (take (5 * (groups + 1)) bytes))
    groups_stand fed =
        let more = bytes_bits (take (5 * groups) (drop 5 bytes)) in
        subst (AlignerRepresents new) regrouped
        (cut_stands old new (xs ++ bytes_bits (take 5 bytes)) more (number more) (40 * groups) (λ o e. lock ∙ e) not_none cut length-groups refl fed stands)

    pub groups_written : (k r : ℕ) (before after ws : List ℕ) → 8 * k + r ≡ 40 - old.held → after ≡ before ++ words_in (4 * groups) (number (bytes_bits (drop k bytes)) / 2 ^ r)
        → ws ++ before ≡ lane_words old.lock (xs ++ bytes_bits (take 5 bytes)) → ws ++ after ≡ lane_words new.lock (xs ++ bytes_bits (take (5 * (groups + 1)) bytes))
    groups_written k r before after ws place written all =
        let more = bytes_bits (take (5 * groups) (drop 5 bytes)) in
        cut_words old new (xs ++ bytes_bits (take 5 bytes)) more (number more) (40 * groups) before after ws (λ o e. lock ∙ e) not_none cut length-groups refl stands
        (written ∙ ap (λ vs. before ++ vs) (groups_are k r place)) all
        ∙ ap (lane_words new.lock) regrouped

-- so many of the bytes were taken, and characters written after those that stood before
pub record HasTaken (old new : LaneAligner) (bytes before row : List ℕ) (taken first at size : ℕ) : Type 0 where
  pub fed : new.fed ≡ old.fed + 8 * taken
  pub size_is : length row ≡ size
  pub lock : new.lock ≡ old.lock
  pub room : 10 * at + new.held ≡ 10 * first + old.held + 8 * taken
  pub small : AreWords before → AreWords (take at row)
  pub stands : (xs : List Bool) → AlignerRepresents old xs → AlignerRepresents new (xs ++ bytes_bits (take taken bytes))
  pub words : (xs : List Bool) (ws : List ℕ) → AlignerRepresents old xs → ws ++ before ≡ lane_words old.lock xs → ws ++ take at row ≡ lane_words new.lock (xs ++ bytes_bits (take taken bytes))

-- one byte more
pub taken_byte : (old mid new : LaneAligner) (bytes before row after : List ℕ) (i first at next size : ℕ) → HasTaken old mid bytes before row i first at size → i < length bytes
    → new.fed ≡ mid.fed + 8 → length after ≡ length row → new.lock ≡ mid.lock → 10 * next + new.held ≡ 10 * at + mid.held + 8 → (AreWords (take at row) → AreWords (take next after))
    → ((xs : List Bool) → AlignerRepresents mid xs → AlignerRepresents new (xs ++ bits_of 8 (get_or bytes i 0)))
    → ((xs : List Bool) (ws : List ℕ) → AlignerRepresents mid xs → ws ++ take at row ≡ lane_words mid.lock xs → ws ++ take next after ≡ lane_words new.lock (xs ++ bits_of 8 (get_or bytes i 0)))
    → HasTaken old new bytes before after (i + 1) first next size
taken_byte old mid new bytes before row after i first at next size taken within more long same room small stands words =
    let so_far = λ (xs : List Bool). xs ++ bytes_bits (take i bytes) in
    let all : (xs : List Bool) → so_far xs ++ bits_of 8 (get_or bytes i 0) ≡ xs ++ bytes_bits (take (i + 1) bytes) =
    λ xs. byte_after xs (so_far xs) bytes i (get_or bytes i 0) refl within refl in
    let fed = taken.fed in
    let space = taken.room in
    record {
      fed = omega arith;
      size_is = long ∙ taken.size_is;
      lock = same ∙ taken.lock;
      room = omega arith;
      small = λ are. small (taken.small are);
      stands = λ xs st. subst (AlignerRepresents new) (all xs) (stands (so_far xs) (taken.stands xs st));
      words = λ xs ws st w. words (so_far xs) ws (taken.stands xs st) (taken.words xs ws st w) ∙ ap (lane_words new.lock) (all xs);
    }
