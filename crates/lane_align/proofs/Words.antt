-- The characters of a lane, place by place, and its edges among them.
use Rattle.std.proofs.Common.{◌≡◌, ◌↔◌, ℕ, suc, zero, ◌+◌, ◌-◌, ◌*◌, ◌/◌, ◌%◌, ◌<◌, ◌≤◌, Bool, true, false, List, length, take, drop, get_or, refl, ap, ◌∙◌, sym, subst, arith, Some, None, slice_get, if◌then◌else◌, nat_le}
use Rattle.std.proofs.lemmas.Bool.{cases_lt, lt-leb}
use Rattle.std.proofs.lemmas.List.{drop-drop}
use Rattle.std.proofs.lemmas.Option.{slice_get-get_or, slice_get_within, get_or_from_slice_get}
use Rattle.tmds_word.specs.Bits.{window, number}
use Rattle.terc4.specs.Tables.{is_control}
use Rattle.lane_align.specs.Lanes.{HasControl, IsLock, IsEdge}
use Rattle.lane_align.specs.Words.{words_from, IsWordEdge}
use Rattle.tmds_word.specs.Words.{words_of}
use Rattle.lane_align.proofs.Controls.{window_here, one_lock}

none_if : (b : Bool) (v : ℕ) → b ≡ false → (if b then Some v else None) ≡ None
none_if b v h = grind arith

-- there is no window where fewer than ten bits are
pub no_window : (xs : List Bool) (p : ℕ) → length xs < p + 10 → window xs p ≡ None
unfolding window
no_window xs p short = none_if (nat_le (p + 10) (length xs)) (number (take 10 (drop p xs))) (lt-leb _ _ short)

-- the character at j, where there are more than j
word_of : (n j : ℕ) (xs : List Bool) → j < n → slice_get (words_of n xs) j ≡ Some (number (take 10 (drop (10 * j) xs)))
unfolding words_of
word_of zero j xs lt = absurd (omega arith)
word_of (suc n) zero xs lt = refl
word_of (suc n) (suc j) xs lt = grind (arith, drop-drop (10 * j) 10 xs, word_of n j)

no_word_of : (n j : ℕ) (xs : List Bool) → n ≤ j → slice_get (words_of n xs) j ≡ None
unfolding words_of
no_word_of zero j xs le = refl
no_word_of (suc n) zero xs le = absurd (omega arith)
no_word_of (suc n) (suc j) xs le = no_word_of n j (drop 10 xs) (omega arith)

-- the characters from a place on are the windows ten apart
pub word_from : (xs : List Bool) (p j : ℕ) → slice_get (words_from xs p) j ≡ window xs (p + 10 * j)
unfolding words_from
word_from xs p j = grind (arith, cases_lt, word_of, drop-drop, window_here, no_word_of, no_window)

-- a control window is a character that is a control word
control_word : (xs : List Bool) (p j : ℕ) → HasControl xs (p + 10 * j) → is_control (get_or (words_from xs p) j 0) ≡ true
control_word xs p j has = ap is_control (get_or_from_slice_get (words_from xs p) j has.word 0 (word_from xs p j ∙ has.here)) ∙ has.control

word_control : (xs : List Bool) (p j : ℕ) → j < length (words_from xs p) → is_control (get_or (words_from xs p) j 0) ≡ true → HasControl xs (p + 10 * j)
word_control xs p j within h =
    let ws = words_from xs p in
    record { word = get_or ws j 0; here = sym (word_from xs p j) ∙ slice_get-get_or ws j 0 within; control = h }

edge_to : (xs : List Bool) (p e : ℕ) → IsLock xs p → IsEdge xs e → IsWordEdge p (words_from xs p) e
edge_to xs p e locked edge =
    let same = one_lock xs edge.lock p edge.is_lock locked in
    let past = edge.past in
    let aligned : e % 10 ≡ p % 10 = edge.aligned ∙ ap (λ n. n % 10) same in
    let i = (e - p) / 10 in
    let at : e ≡ p + 10 * i = omega arith in
    let here : slice_get (words_from xs p) i ≡ Some edge.word = word_from xs p i ∙ ap (window xs) (sym at) ∙ edge.here in
    record {
      index = i;
      at = at;
      ends = record {
        within = slice_get_within (words_from xs p) i edge.word here;
        past = omega arith;
        run = λ k lt.
            let f : e - 120 + 10 * k ≡ p + 10 * (i - 12 + k) = omega arith in
            control_word xs p (i - 12 + k) (subst (HasControl xs) f (edge.run k lt));
        no_control = ap is_control (get_or_from_slice_get (words_from xs p) i edge.word 0 here) ∙ edge.no_control;
      };
    }

edge_from : (xs : List Bool) (p e : ℕ) → IsLock xs p → IsWordEdge p (words_from xs p) e → IsEdge xs e
edge_from xs p e locked edge =
    let i = edge.index in
    let at = edge.at in
    let past = edge.ends.past in
    let within = edge.ends.within in
    let ws = words_from xs p in
    record {
      lock = p;
      is_lock = locked;
      past = omega arith;
      aligned = omega arith;
      run = λ k lt.
          let f : p + 10 * (i - 12 + k) ≡ e - 120 + 10 * k = omega arith in
          subst (HasControl xs) f (word_control xs p (i - 12 + k) (omega arith) (edge.ends.run k lt));
      word = get_or ws i 0;
      here = ap (window xs) at ∙ sym (word_from xs p i) ∙ slice_get-get_or ws i 0 within;
      no_control = edge.ends.no_control;
    }

pub word_edges : (xs : List Bool) (p e : ℕ) → IsLock xs p → IsEdge xs e ↔ IsWordEdge p (words_from xs p) e
word_edges xs p e locked = (edge_to xs p e locked, edge_from xs p e locked)

-- characters after the first ones
drop_words : (n i : ℕ) (xs : List Bool) → drop i (words_of n xs) ≡ words_of (n - i) (drop (10 * i) xs)
unfolding words_of
drop_words n zero xs = let e : n ≡ n - 0 = omega arith in ap (λ m. words_of m xs) e
drop_words zero (suc i) xs = let e : 0 ≡ 0 - suc i = omega arith in ap (λ m. words_of m (drop (10 * suc i) xs)) e
drop_words (suc n) (suc i) xs = grind (arith, drop-drop (10 * i) 10 xs, drop_words n i)

pub words_later : (xs : List Bool) (p i : ℕ) → drop i (words_from xs p) ≡ words_from xs (p + 10 * i)
unfolding words_from
words_later xs p i = grind (arith, drop_words, drop-drop)

pub edge_words : (xs : List Bool) (p e : ℕ) → IsLock xs p → IsEdge xs e → drop ((e - 120 - p) / 10) (words_from xs p) ≡ words_from xs (e - 120)
edge_words xs p e locked edge = grind (arith, one_lock, words_later)

length-words_of : (n : ℕ) (xs : List Bool) → length (words_of n xs) ≡ n
unfolding words_of
length-words_of zero xs = refl
length-words_of (suc n) xs = ap suc (length-words_of n (drop 10 xs))

-- how many characters there are
pub length-words_from : (xs : List Bool) (p : ℕ) → length (words_from xs p) ≡ (length xs - p) / 10
unfolding words_from
length-words_from xs p = length-words_of ((length xs - p) / 10) (drop p xs)
