-- What a lane aligner stands for when bits arrive.
use Rattle.std.proofs.Common.{◌≡◌, ℕ, suc, zero, ◌+◌, ◌-◌, ◌*◌, ◌/◌, ◌%◌, ◌^◌, ◌<◌, ◌≤◌, Bool, List, [], ◌∷◌, ◌++◌, length, take, drop, refl, ap, ◌∙◌, sym, subst, arith, length-append, length-drop, append_assoc, Option, Some, None, MatchOption, get_or}
use Rattle.std.proofs.lemmas.List.{drop-drop, drop-append-le, take-append-le}
use Rattle.tmds_word.specs.Bits.{bits_of, bytes_bits, number}
use Rattle.tmds_word.proofs.Rows.{number_of_bytes}
use Rattle.tmds_word.proofs.Numbers.{number-append, number-drop, number-take}
use Rattle.lane_align.specs.Words.{words_from, words_in, lane_words}
use Rattle.tmds_word.specs.Words.{words_of}
use Rattle.lane_align.specs.Aligners.{Seeks, Cuts, AlignerRepresents}
use Rattle.lane_align.specs.declared.aligner.LaneAligner.{LaneAligner}
use Rattle.lane_align.proofs.Growing.{lock_stays}

-- characters as numbers
pub words_number : (n : ℕ) (xs : List Bool) → words_of n xs ≡ words_in n (number xs)
unfolding words_of words_in
words_number zero xs = refl
words_number (suc n) xs = (λ i. number-take 10 xs i ∷ words_number n (drop 10 xs) i) ∙ ap (λ v. number xs % 1024 ∷ words_in n v) (number-drop 10 xs)

words_add : (m n : ℕ) (xs : List Bool) → words_of (m + n) xs ≡ words_of m xs ++ words_of n (drop (10 * m) xs)
unfolding words_of
words_add zero n xs = let e : 0 + n ≡ n = omega arith in ap (λ k. words_of k xs) e
words_add (suc m) n xs =
    let e : suc m + n ≡ suc (m + n) = omega arith in
    let f : 10 + 10 * m ≡ 10 * suc m = omega arith in
    ap (λ k. words_of k xs) e
    ∙ ap (λ ws. number (take 10 xs) ∷ ws) (words_add m n (drop 10 xs) ∙ ap (λ ys. words_of m (drop 10 xs) ++ words_of n ys) (drop-drop (10 * m) 10 xs ∙ ap (λ k. drop k xs) f))

pub words_same : (n : ℕ) (xs ys : List Bool) → 10 * n ≤ length xs → words_of n (xs ++ ys) ≡ words_of n xs
unfolding words_of
words_same zero xs ys h = refl
words_same (suc n) xs ys h =
    (λ i. number (take-append-le 10 xs ys (omega arith) i) ∷ words_of n (drop-append-le 10 xs ys (omega arith) i))
    ∙ ap (λ ws. number (take 10 xs) ∷ ws) (words_same n (drop 10 xs) ys (omega (arith, length-drop 10 xs)))

-- bits were cut
pub record HasCut (old new : LaneAligner) (value count : ℕ) : Type 0 where
  pub rest : new.rest ≡ (old.rest + 2 ^ old.held * value) / 2 ^ (10 * ((old.held + count) / 10))
  pub held : new.held + 10 * ((old.held + count) / 10) ≡ old.held + count

module _ (old new : LaneAligner) (xs bs : List Bool) (p value count : ℕ) (cuts : Cuts old xs p) (cut : HasCut old new value count) (long : length bs ≡ count) (is : number bs ≡ value) where
  -- the bits past the last whole character, with the new ones
  joined : number (drop (p + 10 * cuts.count) (xs ++ bs)) ≡ old.rest + 2 ^ old.held * value
  joined =
      let base = p + 10 * cuts.count in
      let at = cuts.at in
      let held : length (drop base xs) ≡ old.held = omega (arith, length-drop base xs) in
      let rest = sym cuts.rest in
      ap number (drop-append-le base xs bs (omega arith)) ∙ number-append (drop base xs) bs
      ∙ (λ i. rest i + 2 ^ (held i) * is i)

  pub cuts_more : Cuts new (xs ++ bs) p
  cuts_more =
      let q = (old.held + count) / 10 in
      let base = p + 10 * cuts.count in
      let at = cuts.at in
      let now = cut.held in
      let next : base + 10 * q ≡ p + 10 * (cuts.count + q) = omega arith in
      record {
        lock = lock_stays xs (xs ++ bs) bs refl p cuts.lock;
        count = cuts.count + q;
        at = omega (arith, length-append xs bs);
        rest = cut.rest ∙ ap (λ v. v / 2 ^ (10 * q)) (sym joined) ∙ sym (number-drop (10 * q) (drop base (xs ++ bs)))
            ∙ ap number (drop-drop (10 * q) base (xs ++ bs) ∙ ap (λ k. drop k (xs ++ bs)) next);
      }

  pub words_more : words_from xs p ++ words_in ((old.held + count) / 10) (old.rest + 2 ^ old.held * value) ≡ words_from (xs ++ bs) p
  unfolding words_from
  words_more =
      let q = (old.held + count) / 10 in
      let c = cuts.count in
      let at = cuts.at in
      let few = old.few in
      let now = cut.held in
      let all = length-append xs bs in
      let before : c ≡ (length xs - p) / 10 = omega arith in
      let after : (length (xs ++ bs) - p) / 10 ≡ c + q = let later = new.few in omega arith in
      let grown : drop p (xs ++ bs) ≡ drop p xs ++ bs = drop-append-le p xs bs (omega arith) in
      sym (ap (λ k. words_of k (drop p (xs ++ bs))) after ∙ words_add c q (drop p (xs ++ bs))
      ∙ (λ i. words_of c (grown i) ++ words_of q (drop-drop (10 * c) p (xs ++ bs) i))
      ∙ (λ i. words_same c (drop p xs) bs (omega (arith, length-drop p xs)) i ++ words_number q (drop (p + 10 * c) (xs ++ bs)) i)
      ∙ (λ i. words_of (before i) (drop p xs) ++ words_in q (joined i)))

number_none : number [] ≡ 0
unfolding number
number_none = refl

-- bits that arrived from the lock on, and the characters that they made whole
pub cut_stands : (old new : LaneAligner) (xs bs : List Bool) (value count : ℕ) → (is_locked : (o : Option ℕ) → old.lock ≡ o → new.lock ≡ o) → (old.lock ≡ None → ⊥)
    → HasCut old new value count → length bs ≡ count → number bs ≡ value → new.fed ≡ old.fed + count → AlignerRepresents old xs → AlignerRepresents new (xs ++ bs)
cut_stands old new xs bs value count same locked cut long is fed stands = record {
  fed = let was = stands.fed in omega (arith, length-append xs bs);
  found = by_lock old.lock refl stands.found;
}
  where
    by_lock : (o : Option ℕ) → old.lock ≡ o → MatchOption o (Seeks old xs) (Cuts old xs) → MatchOption new.lock (Seeks new (xs ++ bs)) (Cuts new (xs ++ bs))
    by_lock None e h = absurd (locked e)
    by_lock (Some p) e h = subst (λ (o : Option ℕ). MatchOption o (Seeks new (xs ++ bs)) (Cuts new (xs ++ bs))) (sym (same (Some p) e)) (cuts_more old new xs bs p value count h cut long is)

pub cut_words : (old new : LaneAligner) (xs bs : List Bool) (value count : ℕ) (before after ws : List ℕ) → ((o : Option ℕ) → old.lock ≡ o → new.lock ≡ o) → (old.lock ≡ None → ⊥)
    → HasCut old new value count → length bs ≡ count → number bs ≡ value → AlignerRepresents old xs
    → after ≡ before ++ words_in ((old.held + count) / 10) (old.rest + 2 ^ old.held * value)
    → ws ++ before ≡ lane_words old.lock xs → ws ++ after ≡ lane_words new.lock (xs ++ bs)
unfolding lane_words
cut_words old new xs bs value count before after ws same locked cut long is stands written all = by_lock old.lock refl stands.found all
  where
    by_lock : (o : Option ℕ) → old.lock ≡ o → MatchOption o (Seeks old xs) (Cuts old xs) → ws ++ before ≡ lane_words o xs → ws ++ after ≡ lane_words new.lock (xs ++ bs)
    by_lock None e h w = absurd (locked e)
    by_lock (Some p) e h w =
        ap (λ vs. ws ++ vs) written ∙ sym (append_assoc ws before (words_in ((old.held + count) / 10) (old.rest + 2 ^ old.held * value)))
        ∙ ap (λ vs. vs ++ words_in ((old.held + count) / 10) (old.rest + 2 ^ old.held * value)) w
        ∙ words_more old new xs bs p value count h cut long is
        ∙ ap (λ (o : Option ℕ). lane_words o (xs ++ bs)) (sym (same (Some p) e))

drop_nil : (n : ℕ) → drop n (bytes_bits []) ≡ bytes_bits []
unfolding bytes_bits
drop_nil zero = refl
drop_nil (suc n) = refl

-- the bits of the bytes from a place on
pub bytes_drop : (j : ℕ) (bs : List ℕ) → drop (8 * j) (bytes_bits bs) ≡ bytes_bits (drop j bs)
unfolding bytes_bits bits_of
bytes_drop zero bs = refl
bytes_drop (suc j) [] = drop_nil (8 * suc j)
bytes_drop (suc j) (b ∷ bs) =
    let e : 8 * suc j ≡ 8 + 8 * j = omega arith in
    ap (λ n. drop n (bits_of 8 b ++ bytes_bits bs)) e
    ∙ sym (drop-drop (8 * j) 8 (bits_of 8 b ++ bytes_bits bs))
    ∙ bytes_drop j bs

pub none_bytes : number (bytes_bits []) ≡ 0
unfolding bytes_bits number
none_bytes = refl

-- five bytes
pub five_number : (bs : List ℕ) → length bs ≡ 5 → ((i : ℕ) → get_or bs i 0 < 256)
    → number (bytes_bits bs) ≡ get_or bs 0 0 + 256 * (get_or bs 1 0 + 256 * (get_or bs 2 0 + 256 * (get_or bs 3 0 + 256 * get_or bs 4 0)))
five_number [] h small = absurd (omega arith)
five_number (a ∷ []) h small = absurd (omega arith)
five_number (a ∷ (b ∷ [])) h small = absurd (omega arith)
five_number (a ∷ (b ∷ (c ∷ []))) h small = absurd (omega arith)
five_number (a ∷ (b ∷ (c ∷ (d ∷ [])))) h small = absurd (omega arith)
five_number (a ∷ (b ∷ (c ∷ (d ∷ (e ∷ []))))) h small =
    let n4 : number (bytes_bits (e ∷ [])) ≡ e + 256 * number (bytes_bits []) = number_of_bytes e [] (small 4) in
    let n5 : number (bytes_bits []) ≡ 0 = none_bytes in
    let n3 = number_of_bytes d (e ∷ []) (small 3) in
    let n2 = number_of_bytes c (d ∷ (e ∷ [])) (small 2) in
    let n1 = number_of_bytes b (c ∷ (d ∷ (e ∷ []))) (small 1) in
    let n0 = number_of_bytes a (b ∷ (c ∷ (d ∷ (e ∷ [])))) (small 0) in
    omega arith
five_number (a ∷ (b ∷ (c ∷ (d ∷ (e ∷ (f ∷ bs)))))) h small = absurd (omega arith)
