-- What a lane aligner knows before the lock, when bits arrive.
use Rattle.std.proofs.Common.{◌≡◌, ℕ, suc, zero, ◌+◌, ◌-◌, ◌*◌, ◌/◌, ◌%◌, ◌^◌, ◌<◌, Option, Some, None, MatchOption, ◌≤◌, Bool, List, [], ◌∷◌, ◌++◌, length, take, drop, get_or, min, refl, ap, ◌∙◌, sym, subst, arith, inl, inr, length-append, length-drop, length-take, append_assoc, take-take}
use Rattle.std.proofs.lemmas.Bool.{cases_lt}
use Rattle.std.proofs.lemmas.List.{drop-drop, drop-take, drop-append-le, drop_all, take_all, take_more, take-append-drop, length-take-le}
use Rattle.std.proofs.Math.Seq.{take-append-add, take-add}
use Rattle.tmds_word.specs.Bits.{bits_of, bytes_bits, number}
use Rattle.tmds_word.proofs.Lists.{length-bytes_bits, length-bits_of, bytes_bits-append, bytes_bits-one, bits_of-add}
use Rattle.tmds_word.proofs.Rows.{take_bytes}
use Rattle.tmds_word.specs.Words.{words_of}
use Rattle.lane_align.specs.Words.{words_from, lane_words}
use Rattle.lane_align.specs.Lanes.{IsRun, IsLock}
use Rattle.lane_align.specs.Search.{IsOther, IsFirstOther, Holds}
use Rattle.lane_align.specs.Aligners.{EndsFirst, Seeks, Cuts, AlignerRepresents}
use Rattle.lane_align.specs.declared.aligner.LaneAligner.{LaneAligner}
use Rattle.lane_align.proofs.Controls.{run_within}
use Rattle.lane_align.proofs.Growing.{run_was, lock_was}
use Rattle.lane_align.proofs.Feeding.{bytes_drop, words_same}
use Rattle.lane_align.proofs.Parts.{first_held, none_held}

take_nil : (n : ℕ) → take n (bytes_bits []) ≡ bytes_bits []
unfolding bytes_bits
take_nil zero = refl
take_nil (suc n) = refl

-- the bits of the first bytes
pub bytes_take : (n : ℕ) (bs : List ℕ) → take (8 * n) (bytes_bits bs) ≡ bytes_bits (take n bs)
unfolding bytes_bits bits_of
bytes_take zero bs = refl
bytes_take (suc n) [] = take_nil (8 * suc n)
bytes_take (suc n) (b ∷ bs) =
    let e : 8 * suc n ≡ 8 + 8 * n = omega arith in
    let f : 8 ≡ length (bits_of 8 b) = sym (length-bits_of 8 b) in
    ap (λ k. take k (bits_of 8 b ++ bytes_bits bs)) e
    ∙ ap (λ k. take (k + 8 * n) (bits_of 8 b ++ bytes_bits bs)) f
    ∙ take-append-add (bits_of 8 b) (bytes_bits bs) (8 * n)
    ∙ ap (λ ys. bits_of 8 b ++ ys) (bytes_take n bs)

-- the kept bytes with the first of a piece after them hold the last bits that were received, and the first of the piece
module _ (kept joined bytes : List ℕ) (xs : List Bool) (bits count had : ℕ) (size : length kept ≡ 16)
    (same : take (16 + min (length bytes) 16) joined ≡ take (16 + min (length bytes) 16) (kept ++ bytes))
    (last : bytes_bits (drop (16 - length xs / 8) kept) ≡ drop (length xs - 128) xs)
    (whole : length xs % 8 ≡ 0) (long : length bytes ≡ (bits + 7) / 8) (is_count : count ≡ min (length xs / 8) 16) (is_had : had ≡ 8 * count)
  where
    abbrev pub few : ℕ
    few = min bits 128

    view_is : take (had + few) (bytes_bits (drop (16 - count) joined)) ≡ take (had + few) (drop (length xs - 128) xs ++ bytes_bits bytes)
    view_is =
        let m = min (length bytes) 16 in
        let n = count + m in
        let i = 16 - count in
        let within : had + few ≤ 8 * n = omega arith in
        let sum : i + n ≡ 16 + m = omega arith in
        let same_from : 16 - count ≡ 16 - length xs / 8 = omega arith in
        let front : take n (drop i joined) ≡ take n (drop i (kept ++ bytes)) =
        sym (drop-take i n joined) ∙ ap (λ k. drop i (take k joined)) sum ∙ ap (drop i) same ∙ ap (λ k. drop i (take k (kept ++ bytes))) (sym sum) ∙ drop-take i n (kept ++ bytes) in
        let cut : (bs : List ℕ) → take (had + few) (bytes_bits bs) ≡ take (had + few) (bytes_bits (take n bs)) =
        λ bs. sym (take-take (had + few) (8 * n) (bytes_bits bs) within) ∙ ap (take (had + few)) (bytes_take n bs) in
        cut (drop i joined) ∙ ap (λ bs. take (had + few) (bytes_bits bs)) front ∙ sym (cut (drop i (kept ++ bytes)))
        ∙ ap (λ bs. take (had + few) (bytes_bits bs)) (drop-append-le i kept bytes (omega arith))
        ∙ ap (take (had + few)) (bytes_bits-append (drop i kept) bytes ∙ ap (λ ys. ys ++ bytes_bits bytes) (ap (λ k. bytes_bits (drop k kept)) same_from ∙ last))

    pub view_holds : Holds (drop (16 - count) joined) (xs ++ take bits (bytes_bits bytes)) (length xs - had) (had + few)
    view_holds =
        let bs = bytes_bits bytes in
        let tail = drop (length xs - 128) xs in
        let place : length xs - 128 ≡ length xs - had = omega arith in
        let size_of : had ≡ length tail = omega (arith, length-drop (length xs - 128) xs) in
        let bits_long : few ≤ length (take bits bs) = omega (arith, length-take bits bs, length-bytes_bits bytes) in
        let inner : take few (take bits bs) ≡ take few bs = take-take few bits bs (omega arith) in
        record {
          within = omega (arith, length-append xs (take bits bs));
          bits = view_is
              ∙ ap (λ k. take (k + few) (tail ++ bs)) size_of ∙ take-append-add tail bs few
              ∙ ap (λ ys. tail ++ ys) (sym inner)
              ∙ sym (take-append-add tail (take bits bs) few) ∙ ap (λ k. take (k + few) (tail ++ take bits bs)) (sym size_of)
              ∙ ap (λ k. take (had + few) (drop k xs ++ take bits bs)) place
              ∙ ap (take (had + few)) (sym (drop-append-le (length xs - had) xs (take bits bs) (omega arith)));
        }

-- runs that began before a piece
module _ (view bytes : List ℕ) (xs : List Bool) (bits had from until : ℕ)
    (holds : Holds view (xs ++ take bits (bytes_bits bytes)) (length xs - had) (had + min bits 128)) (long : bits ≤ 8 * length bytes)
    (none : (p : ℕ) → IsRun xs p → ⊥) (is_had : had ≡ min (length xs) 128) (is_from : from ≡ had - 119) (is_until : until ≡ min had (had + min bits 128 - 119))
  where
    abbrev pub us : List Bool
    us = xs ++ take bits (bytes_bits bytes)

    early_none : (q : ℕ) → q < length xs - had + from → IsRun us q → ⊥
    early_none q less run = none q (run_was xs us (take bits (bytes_bits bytes)) refl q (omega arith) run)

    pub begun_ends : (p used : ℕ) → used + had ≡ p + 120 → IsFirstOther (bytes_bits view) from until 10 p
        → (words : List ℕ) → words ≡ words_of 12 (drop p (bytes_bits view)) → EndsFirst us (length xs + used) words
    begun_ends p used e first words are =
        let after = first.other.after in
        let before = first.other.before in
        let end : length xs - had + p + 120 ≡ length xs + used = omega arith in
        subst (λ n. EndsFirst us n words) end
        (first_held view us (length xs - had) (had + min bits 128) from until p holds (omega arith) early_none first words are)

    pub begun_none : ((p : ℕ) → IsOther (bytes_bits view) from until 10 p → ⊥) → (q : ℕ) → q < length xs → IsRun us q → ⊥
    begun_none others q less run = elim (cases_lt q (length xs - had + from)) [
      | inl early ↦ early_none q early run
      | inr late ↦
          let within = run_within us q run in
          let size : length us ≡ length xs + bits = omega (arith, length-append xs (take bits (bytes_bits bytes)), length-take bits (bytes_bits bytes), length-bytes_bits bytes) in
          none_held view us (length xs - had) (had + min bits 128) from until holds (omega arith) others q late (omega arith) run
    ]

-- the bytes that are kept when a piece arrived in which no run ended
pub kept_more : (kept new bytes : List ℕ) (xs : List Bool) (bits : ℕ) → length kept ≡ 16 → new ≡ drop (length bytes) (kept ++ bytes) → length bytes ≡ (bits + 7) / 8
    → length xs % 8 ≡ 0 → bytes_bits (drop (16 - length xs / 8) kept) ≡ drop (length xs - 128) xs
    → length (xs ++ take bits (bytes_bits bytes)) % 8 ≡ 0
    → bytes_bits (drop (16 - length (xs ++ take bits (bytes_bits bytes)) / 8) new) ≡ drop (length (xs ++ take bits (bytes_bits bytes)) - 128) (xs ++ take bits (bytes_bits bytes))
kept_more kept new bytes xs bits size is long whole last now =
    let bs = bytes_bits bytes in
    let us = xs ++ take bits bs in
    let n = length bytes in
    let l = length xs / 8 in
    let len : length us ≡ length xs + min bits (8 * n) = length-append xs (take bits bs) ∙ ap (λ k. length xs + k) (length-take bits bs ∙ ap (min bits) (length-bytes_bits bytes)) in
    let even : bits ≡ 8 * n = omega arith in
    let all : take bits bs ≡ bs = take_all bits bs (omega (arith, length-bytes_bits bytes)) in
    let r = n + (16 - length us / 8) - (16 - l) in
    let place : n + (16 - length us / 8) ≡ 16 - l + r = omega arith in
    let there : length xs - 128 + 8 * r ≡ length us - 128 = omega arith in
    ap (λ ns. bytes_bits (drop (16 - length us / 8) ns)) is
    ∙ ap bytes_bits (drop-drop (16 - length us / 8) n (kept ++ bytes) ∙ ap (λ k. drop k (kept ++ bytes)) place ∙ sym (drop-drop r (16 - l) (kept ++ bytes)))
    ∙ sym (bytes_drop r (drop (16 - l) (kept ++ bytes)))
    ∙ ap (λ ns. drop (8 * r) (bytes_bits ns)) (drop-append-le (16 - l) kept bytes (omega arith))
    ∙ ap (drop (8 * r)) (bytes_bits-append (drop (16 - l) kept) bytes ∙ ap (λ ys. ys ++ bs) last ∙ ap (λ ys. drop (length xs - 128) xs ++ ys) (sym all))
    ∙ ap (drop (8 * r)) (sym (drop-append-le (length xs - 128) xs (take bits bs) (omega arith)))
    ∙ drop-drop (8 * r) (length xs - 128) us
    ∙ ap (λ k. drop k us) there

number_none : number [] ≡ 0
unfolding number
number_none = refl

-- the lock that was found, up to the end of its run
pub cuts_run : (new : LaneAligner) (xs ys : List Bool) (used place : ℕ) → used ≤ length ys → IsLock (xs ++ ys) place → place + 120 ≡ length xs + used
    → new.held ≡ 0 → new.rest ≡ 0 → Cuts new (xs ++ take used ys) place
cuts_run new xs ys used place within lock at none empty =
    let us = xs ++ take used ys in
    let len : length us ≡ length xs + used = omega (arith, length-append xs (take used ys), length-take-le used ys within) in
    record {
      lock = lock_was us (xs ++ ys) (drop used ys) (ap (λ zs. xs ++ zs) (sym (take-append-drop used ys)) ∙ sym (append_assoc xs (take used ys) (drop used ys))) place (omega arith) lock;
      count = 12;
      at = omega arith;
      rest = empty ∙ sym (ap number (drop_all (place + 120) us (omega arith)) ∙ number_none);
    }

-- the characters of the run are those of the bits up to its end
pub words_run : (xs ys : List Bool) (used place : ℕ) (words : List ℕ) → used ≤ length ys → place + 120 ≡ length xs + used → words ≡ words_of 12 (drop place (xs ++ ys))
    → words ≡ words_from (xs ++ take used ys) place
unfolding words_from
words_run xs ys used place words within at are =
    let us = xs ++ take used ys in
    let len : length us ≡ length xs + used = omega (arith, length-append xs (take used ys), length-take-le used ys within) in
    let twelve : 12 ≡ (length us - place) / 10 = omega arith in
    let whole : xs ++ ys ≡ us ++ drop used ys = ap (λ zs. xs ++ zs) (sym (take-append-drop used ys)) ∙ sym (append_assoc xs (take used ys) (drop used ys)) in
    are ∙ ap (λ zs. words_of 12 (drop place zs)) whole ∙ ap (words_of 12) (drop-append-le place us (drop used ys) (omega arith))
    ∙ words_same 12 (drop place us) (drop used ys) (omega (arith, length-drop place us))
    ∙ ap (λ n. words_of n (drop place us)) twelve

-- what is known before the lock
pub seeks_of : (aligner : LaneAligner) (xs : List Bool) → aligner.lock ≡ None → AlignerRepresents aligner xs → Seeks aligner xs
seeks_of aligner xs none stands = subst (λ (o : Option ℕ). MatchOption o (Seeks aligner xs) (Cuts aligner xs)) none stands.found

-- nothing is left over before the lock
pub empty_of : (aligner : LaneAligner) → aligner.lock ≡ None → (aligner.held ≡ 0) × (aligner.rest ≡ 0)
empty_of aligner none =
    let held : aligner.held ≡ 0 = aligner.early none in
    let narrow : aligner.rest < 2 ^ 0 = subst (λ n. aligner.rest < 2 ^ n) held aligner.narrow in
    (held, omega arith)

-- a piece in which no run ended
pub still_seeks : (old new : LaneAligner) (bytes : List ℕ) (xs : List Bool) (bits : ℕ) → old.lock ≡ None → AlignerRepresents old xs → length old.kept ≡ 16
    → new.fed ≡ old.fed + bits → new.lock ≡ old.lock → new.kept ≡ drop (length bytes) (old.kept ++ bytes) → length bytes ≡ (bits + 7) / 8
    → length xs % 8 ≡ 0 → ((p : ℕ) → IsRun (xs ++ take bits (bytes_bits bytes)) p → ⊥) → AlignerRepresents new (xs ++ take bits (bytes_bits bytes))
still_seeks old new bytes xs bits none stands size fed lock kept long whole free =
    let us = xs ++ take bits (bytes_bits bytes) in
    let was = stands.fed in
    let seeks : Seeks new us = record {
      none = free;
      kept = λ now. kept_more old.kept new.kept bytes xs bits size kept long whole ((seeks_of old xs none stands).kept whole) now;
    } in
    record {
      fed = omega (arith, length-append xs (take bits (bytes_bits bytes)), length-take bits (bytes_bits bytes), length-bytes_bits bytes);
      found = subst (λ (o : Option ℕ). MatchOption o (Seeks new us) (Cuts new us)) (sym (lock ∙ none)) seeks;
    }

-- the end of the first run
module _ (old new : LaneAligner) (xs ys : List Bool) (used : ℕ) (words : List ℕ) (none : old.lock ≡ None) (stands : AlignerRepresents old xs) (within : used ≤ length ys)
    (ends : EndsFirst (xs ++ ys) (length xs + used) words) (fed : new.fed ≡ old.fed + used) (lock : new.lock ≡ Some (old.fed + used - 120)) (held : new.held ≡ old.held) (rest : new.rest ≡ old.rest)
  where
    place_is : old.fed + used - 120 ≡ ends.place
    place_is = let was = stands.fed in let at = ends.at in omega arith

    now_locked : new.lock ≡ Some ends.place
    now_locked = lock ∙ ap Some place_is

    pub run_stands : AlignerRepresents new (xs ++ take used ys)
    run_stands =
        let was = stands.fed in
        let us = xs ++ take used ys in
        let empty = empty_of old none in
        record {
          fed = omega (arith, length-append xs (take used ys), length-take-le used ys within);
          found = subst (λ (o : Option ℕ). MatchOption o (Seeks new us) (Cuts new us)) (sym now_locked)
              (cuts_run new xs ys used ends.place within ends.lock ends.at (held ∙ empty.0) (rest ∙ empty.1));
        }

    pub run_words : words ≡ lane_words new.lock (xs ++ take used ys)
    unfolding lane_words
    run_words = words_run xs ys used ends.place words within ends.at ends.words_are ∙ ap (λ (o : Option ℕ). lane_words o (xs ++ take used ys)) (sym now_locked)

-- the first bits of bytes: whole ones, and up to eight of the next
some_bytes : (bytes : List ℕ) (j k : ℕ) → k ≤ 8 → 8 * j + k ≤ 8 * length bytes → (0 < k → j < length bytes) → take (8 * j + k) (bytes_bits bytes) ≡ bytes_bits (take j bytes) ++ bits_of k (get_or bytes j 0)
some_bytes bytes j k few within inside = elim (cases_lt k 8) [
  | inl less ↦ take_bytes bytes j k less within
  | inr more ↦
      let eight : k ≡ 8 = omega arith in
      let next : 8 * j + 8 ≡ 8 * (j + 1) = omega arith in
      let here : j < length bytes = omega arith in
      ap (λ n. take (8 * j + n) (bytes_bits bytes)) eight ∙ ap (λ n. take n (bytes_bits bytes)) next ∙ bytes_take (j + 1) bytes
      ∙ ap bytes_bits (take_more bytes j 0 here) ∙ bytes_bits-append (take j bytes) (get_or bytes j 0 ∷ [])
      ∙ ap (λ ys. bytes_bits (take j bytes) ++ ys) (bytes_bits-one (get_or bytes j 0) ∙ ap (λ n. bits_of n (get_or bytes j 0)) (sym eight))
]

-- some bits more, of one byte
pub part_more : (xs : List Bool) (bytes : List ℕ) (used count : ℕ) → used % 8 + count ≤ 8 → used + count ≤ 8 * length bytes → used < 8 * length bytes
    → (xs ++ take used (bytes_bits bytes)) ++ bits_of count (get_or bytes (used / 8) 0 / 2 ^ (used % 8)) ≡ xs ++ take (used + count) (bytes_bits bytes)
part_more xs bytes used count few within here =
    let j = used / 8 in
    let k = used % 8 in
    let b = get_or bytes j 0 in
    let from : 8 * j + k ≡ used = omega arith in
    let to : 8 * j + (k + count) ≡ used + count = omega arith in
    let one = some_bytes bytes j k (omega arith) (omega arith) (λ h. omega arith) in
    let two = some_bytes bytes j (k + count) few (omega arith) (λ h. omega arith) in
    append_assoc xs (take used (bytes_bits bytes)) (bits_of count (b / 2 ^ k))
    ∙ ap (λ ys. xs ++ ys)
    (ap (λ n. take n (bytes_bits bytes) ++ bits_of count (b / 2 ^ k)) (sym from) ∙ ap (λ ys. ys ++ bits_of count (b / 2 ^ k)) one
    ∙ append_assoc (bytes_bits (take j bytes)) (bits_of k b) (bits_of count (b / 2 ^ k))
    ∙ ap (λ ys. bytes_bits (take j bytes) ++ ys) (sym (bits_of-add k count b)) ∙ sym two ∙ ap (λ n. take n (bytes_bits bytes)) to)

-- and all others, from a byte's first on
pub rest_more : (xs : List Bool) (bytes : List ℕ) (used bits : ℕ) → used ≤ bits → used % 8 ≡ 0
    → (xs ++ take used (bytes_bits bytes)) ++ take (bits - used) (bytes_bits (drop (used / 8) bytes)) ≡ xs ++ take bits (bytes_bits bytes)
rest_more xs bytes used bits within aligned =
    let all = bytes_bits bytes in
    let place : 8 * (used / 8) ≡ used = omega arith in
    let whole : used + (bits - used) ≡ bits = omega arith in
    append_assoc xs (take used all) (take (bits - used) (bytes_bits (drop (used / 8) bytes)))
    ∙ ap (λ ys. xs ++ (take used all ++ take (bits - used) ys)) (sym (bytes_drop (used / 8) bytes) ∙ ap (λ n. drop n all) place)
    ∙ ap (λ ys. xs ++ ys) (sym (take-add used (bits - used) all) ∙ ap (λ n. take n all) whole)
