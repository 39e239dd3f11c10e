-- Runs of lists that are cut, and of bytes that hold a part of a lane.
use Rattle.std.proofs.Common.{◌≡◌, ℕ, ◌+◌, ◌-◌, ◌*◌, ◌<◌, ◌≤◌, Bool, List, ◌++◌, length, take, drop, ap, ◌∙◌, sym, subst, arith, inl, inr, length-take, length-drop, take-take}
use Rattle.std.proofs.lemmas.Bool.{cases_lt}
use Rattle.std.proofs.lemmas.List.{drop-drop, drop-take, drop_at, take-append-drop, length-take-le}
use Rattle.tmds_word.specs.Bits.{bytes_bits}
use Rattle.tmds_word.specs.Words.{words_of}
use Rattle.lane_align.specs.Lanes.{HasControl, IsRun}
use Rattle.lane_align.specs.Search.{IsOther, IsFirstOther, Holds}
use Rattle.lane_align.specs.Aligners.{EndsFirst}
use Rattle.lane_align.proofs.Controls.{window_is, window_here, control_within}
use Rattle.lane_align.proofs.Feeding.{words_same}

-- ten bits that are the same are the same window
pub same_control : (xs ys : List Bool) (p q : ℕ) → take 10 (drop p xs) ≡ take 10 (drop q ys) → q + 10 ≤ length ys → HasControl xs p → HasControl ys q
same_control xs ys p q same within has = grind (arith, window_here, window_is)

pub take_piece : (n q m : ℕ) (xs : List Bool) → q + m ≤ n → take m (drop q (take n xs)) ≡ take m (drop q xs)
take_piece n q m xs le =
    let e : q + (n - q) ≡ n = omega arith in
    ap (λ k. take m (drop q (take k xs))) (sym e) ∙ ap (take m) (drop-take q (n - q) xs) ∙ take-take m (n - q) (drop q xs) (omega arith)

-- the run of a list that is cut off is one of the list
pub run_of_front : (n : ℕ) (xs : List Bool) (p : ℕ) → IsRun (take n xs) p → IsRun xs p
run_of_front n xs p run k lt =
    let within = control_within (take n xs) (p + 10 * k) (run k lt) in
    let len = length-take n xs in
    same_control (take n xs) xs (p + 10 * k) (p + 10 * k) (take_piece n (p + 10 * k) 10 xs (omega arith)) (omega arith) (run k lt)

pub run_in_front : (n : ℕ) (xs : List Bool) (p : ℕ) → p + 120 ≤ n → IsRun xs p → IsRun (take n xs) p
run_in_front n xs p long run k lt =
    let within = control_within xs (p + 10 * k) (run k lt) in
    let len = length-take n xs in
    same_control xs (take n xs) (p + 10 * k) (p + 10 * k) (sym (take_piece n (p + 10 * k) 10 xs (omega arith))) (omega arith) (run k lt)

-- the window at a place of the rest
pub rest_piece : (z q : ℕ) (xs : List Bool) → take 10 (drop q (drop z xs)) ≡ take 10 (drop (z + q) xs)
rest_piece z q xs = ap (take 10) (drop-drop q z xs)

pub run_of_rest : (z : ℕ) (xs : List Bool) (p : ℕ) → IsRun (drop z xs) p → IsRun xs (z + p)
run_of_rest z xs p run k lt =
    let within = control_within (drop z xs) (p + 10 * k) (run k lt) in
    let len = length-drop z xs in
    let e : z + (p + 10 * k) ≡ z + p + 10 * k = omega arith in
    same_control (drop z xs) xs (p + 10 * k) (z + p + 10 * k) (rest_piece z (p + 10 * k) xs ∙ ap (λ m. take 10 (drop m xs)) e) (omega arith) (run k lt)

pub run_in_rest : (z : ℕ) (xs : List Bool) (p : ℕ) → IsRun xs (z + p) → IsRun (drop z xs) p
run_in_rest z xs p run k lt =
    let within = control_within xs (z + p + 10 * k) (run k lt) in
    let len = length-drop z xs in
    let e : z + (p + 10 * k) ≡ z + p + 10 * k = omega arith in
    same_control xs (drop z xs) (z + p + 10 * k) (p + 10 * k) (sym (rest_piece z (p + 10 * k) xs ∙ ap (λ m. take 10 (drop m xs)) e)) (omega arith) (run k lt)

-- the runs of a lane are those of the bytes that hold its bits
pub run_held : (bytes : List ℕ) (xs : List Bool) (base count p : ℕ) → Holds bytes xs base count → p + 120 ≤ count → IsRun (bytes_bits bytes) p → IsRun xs (base + p)
run_held bytes xs base count p holds long run =
    run_of_rest base xs p (run_of_front count (drop base xs) p (subst (λ ys. IsRun ys p) holds.bits (run_in_front count (bytes_bits bytes) p long run)))

pub held_run : (bytes : List ℕ) (xs : List Bool) (base count p : ℕ) → Holds bytes xs base count → p + 120 ≤ count → IsRun xs (base + p) → IsRun (bytes_bits bytes) p
held_run bytes xs base count p holds long run =
    run_of_front count (bytes_bits bytes) p (subst (λ ys. IsRun ys p) (sym holds.bits) (run_in_front count (drop base xs) p long (run_in_rest base xs p run)))

-- twelve characters are those of their 120 bits
words_cut : (xs : List Bool) → 120 ≤ length xs → words_of 12 xs ≡ words_of 12 (take 120 xs)
words_cut xs long = ap (words_of 12) (sym (take-append-drop 120 xs)) ∙ words_same 12 (take 120 xs) (drop 120 xs) (omega (arith, length-take-le 120 xs long))

pub held_words : (bytes : List ℕ) (xs : List Bool) (base count p : ℕ) → Holds bytes xs base count → p + 120 ≤ count
    → words_of 12 (drop p (bytes_bits bytes)) ≡ words_of 12 (drop (base + p) xs)
held_words bytes xs base count p holds long =
    let bs = bytes_bits bytes in
    let within = holds.within in
    let cut : length (take count bs) ≡ length (take count (drop base xs)) = ap length holds.bits in
    let held : count ≤ length bs = omega (arith, length-take count bs, length-take count (drop base xs), length-drop base xs) in
    words_cut (drop p bs) (omega (arith, length-drop p bs))
    ∙ ap (words_of 12) (sym (take_piece count p 120 bs long) ∙ ap (λ ys. take 120 (drop p ys)) holds.bits ∙ take_piece count p 120 (drop base xs) long
    ∙ ap (take 120) (drop-drop p base xs))
    ∙ sym (words_cut (drop (base + p) xs) (omega (arith, length-drop (base + p) xs)))

-- the first run of a stretch ends first of all, where none begins before it
pub first_held : (bytes : List ℕ) (xs : List Bool) (base count from until p : ℕ) → Holds bytes xs base count → until + 119 ≤ count
    → ((q : ℕ) → q < base + from → IsRun xs q → ⊥) → IsFirstOther (bytes_bits bytes) from until 10 p
    → (words : List ℕ) → words ≡ words_of 12 (drop p (bytes_bits bytes)) → EndsFirst xs (base + p + 120) words
first_held bytes xs base count from until p holds long none first words are =
    let before = first.other.before in
    record {
      place = base + p;
      at = refl_at base p;
      lock = record {
        run = run_held bytes xs base count p holds (omega arith) first.other.run;
        least = λ q less run. elim (cases_lt q (base + from)) [
          | inl early ↦ none q early run
          | inr here ↦
              let e : base + (q - base) ≡ q = omega arith in
              first.least (q - base) (omega arith) (record {
                after = omega arith;
                before = omega arith;
                apart = λ h. omega arith;
                run = held_run bytes xs base count (q - base) holds (omega arith) (subst (IsRun xs) (sym e) run);
              })
        ];
      };
      words_are = are ∙ held_words bytes xs base count p holds (omega arith);
    }
  where
    refl_at : (base p : ℕ) → base + p + 120 ≡ base + p + 120
    refl_at base p = omega arith

-- no run of a stretch
pub none_held : (bytes : List ℕ) (xs : List Bool) (base count from until : ℕ) → Holds bytes xs base count → until + 119 ≤ count
    → ((p : ℕ) → IsOther (bytes_bits bytes) from until 10 p → ⊥) → (q : ℕ) → base + from ≤ q → q < base + until → IsRun xs q → ⊥
none_held bytes xs base count from until holds long none q after before run =
    let e : base + (q - base) ≡ q = omega arith in
    none (q - base) (record {
      after = omega arith;
      before = omega arith;
      apart = λ h. omega arith;
      run = held_run bytes xs base count (q - base) holds (omega arith) (subst (IsRun xs) (sym e) run);
    })

-- what follows a list
pub after_ends : (xs ys : List Bool) (used : ℕ) (words : List ℕ) → ((p : ℕ) → p < length xs → IsRun (xs ++ ys) p → ⊥) → EndsFirst ys used words → EndsFirst (xs ++ ys) (length xs + used) words
after_ends xs ys used words none ends =
    let at = ends.at in
    let cut : drop (length xs) (xs ++ ys) ≡ ys = drop_at xs ys (length xs) (λ i. length xs) in
    record {
      place = length xs + ends.place;
      at = omega arith;
      lock = record {
        run = run_of_rest (length xs) (xs ++ ys) ends.place (subst (λ zs. IsRun zs ends.place) (sym cut) ends.lock.run);
        least = λ q less run. elim (cases_lt q (length xs)) [
          | inl early ↦ none q early run
          | inr here ↦
              let e : length xs + (q - length xs) ≡ q = omega arith in
              ends.lock.least (q - length xs) (omega arith) (subst (λ zs. IsRun zs (q - length xs)) cut (run_in_rest (length xs) (xs ++ ys) (q - length xs) (subst (IsRun (xs ++ ys)) (sym e) run)))
        ];
      };
      words_are = ends.words_are ∙ ap (words_of 12) (ap (drop ends.place) (sym cut) ∙ drop-drop ends.place (length xs) (xs ++ ys));
    }

pub after_none : (xs ys : List Bool) → ((p : ℕ) → p < length xs → IsRun (xs ++ ys) p → ⊥) → ((p : ℕ) → IsRun ys p → ⊥) → (p : ℕ) → IsRun (xs ++ ys) p → ⊥
after_none xs ys before after p run = elim (cases_lt p (length xs)) [
  | inl early ↦ before p early run
  | inr here ↦
      let e : length xs + (p - length xs) ≡ p = omega arith in
      let cut : drop (length xs) (xs ++ ys) ≡ ys = drop_at xs ys (length xs) (λ i. length xs) in
      after (p - length xs) (subst (λ zs. IsRun zs (p - length xs)) cut (run_in_rest (length xs) (xs ++ ys) (p - length xs) (subst (IsRun (xs ++ ys)) (sym e) run)))
]
