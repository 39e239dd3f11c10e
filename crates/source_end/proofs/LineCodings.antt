-- Pixels coded block after block.
use Rattle.std.proofs.Common.{◌≡◌, ℕ, suc, zero, ◌+◌, ◌-◌, ◌*◌, ◌/◌, ◌%◌, ◌≤◌, ◌<◌, List, [], ◌∷◌, ◌++◌, length, take, drop, set, map, slice_index, replicate, min, refl, ap, ap₂, sym, subst, ◌∙◌, arith, append_assoc, append-nil, take_all, length-take-le, length-drop, get_or, ℤ}
use Rattle.std.proofs.lemmas.List.{take_more_set, map-append, take-replicate}
use Rattle.std.proofs.Math.Seq.{take-add, take-append_seam}
use Rattle.tmds_word.specs.Column.{Column, column_of}
use Rattle.tmds_word.specs.Bits.{row_bits, bytes_bits}
use Rattle.tmds_word.specs.Words.{words_of, all_words, columns_of, packed_columns}
use Rattle.tmds_word.proofs.Lists.{length-bytes_bits, bytes_bits-append}
use Rattle.tmds_word.proofs.Characters.{words_of-more, words_of-bytes}
use Rattle.tmds_word.proofs.Eights.{count_in_bytes}
use Rattle.tmds_code.specs.Coding.{Coded, sign_of}
use Rattle.tmds_code.proofs.TableWords.{coded_below}
use Rattle.tmds_code.specs.Pasts.{IsCoderAfter}
use Rattle.island_pack.specs.Periods.{Pixel, pixels_of}
use Rattle.source_end.specs.LineCoding.{GoesOn, AreCodersAfter, byte_of}
use Rattle.source_end.proofs.Spellings.{pixel_at, lane_more, length-pixels_of}

-- the pixels of a part of the bytes

pub pixels_of-take : (n : ℕ) (bytes : List ℕ) → pixels_of (take (3 * n) bytes) ≡ take n (pixels_of bytes)
unfolding pixels_of
pixels_of-take zero bytes = refl
pixels_of-take (suc n) [] = let e : 3 * suc n ≡ suc (suc (suc (3 * n))) = omega arith in ap (λ k. pixels_of (take k [])) e
pixels_of-take (suc n) (r ∷ []) = let e : 3 * suc n ≡ suc (suc (suc (3 * n))) = omega arith in ap (λ k. pixels_of (take k (r ∷ []))) e
pixels_of-take (suc n) (r ∷ (g ∷ [])) = let e : 3 * suc n ≡ suc (suc (suc (3 * n))) = omega arith in ap (λ k. pixels_of (take k (r ∷ g ∷ []))) e
pixels_of-take (suc n) (r ∷ (g ∷ (b ∷ rest))) =
    let e : 3 * suc n ≡ suc (suc (suc (3 * n))) = omega arith in
    let first : Pixel = record { red = r; green = g; blue = b } in
    ap (λ k. pixels_of (take k (r ∷ g ∷ b ∷ rest))) e ∙ ap (λ (ps : List Pixel). first ∷ ps) (pixels_of-take n rest)

pub pixels_of-drop : (n : ℕ) (bytes : List ℕ) → pixels_of (drop (3 * n) bytes) ≡ drop n (pixels_of bytes)
unfolding pixels_of
pixels_of-drop zero bytes = refl
pixels_of-drop (suc n) [] = let e : 3 * suc n ≡ suc (suc (suc (3 * n))) = omega arith in ap (λ k. pixels_of (drop k [])) e
pixels_of-drop (suc n) (r ∷ []) = let e : 3 * suc n ≡ suc (suc (suc (3 * n))) = omega arith in ap (λ k. pixels_of (drop k (r ∷ []))) e
pixels_of-drop (suc n) (r ∷ (g ∷ [])) = let e : 3 * suc n ≡ suc (suc (suc (3 * n))) = omega arith in ap (λ k. pixels_of (drop k (r ∷ g ∷ []))) e
pixels_of-drop (suc n) (r ∷ (g ∷ (b ∷ rest))) =
    let e : 3 * suc n ≡ suc (suc (suc (3 * n))) = omega arith in
    ap (λ k. pixels_of (drop k (r ∷ g ∷ b ∷ rest))) e ∙ pixels_of-drop n rest

-- the three lanes of columns
pub lanes_of : (bs gs rs : List ℕ) → length gs ≡ length bs → length rs ≡ length bs
    → record { blue : map (λ (c : Column). c.blue) (columns_of bs gs rs) ≡ bs; green : map (λ (c : Column). c.green) (columns_of bs gs rs) ≡ gs; red : map (λ (c : Column). c.red) (columns_of bs gs rs) ≡ rs; count : length (columns_of bs gs rs) ≡ length bs }
unfolding columns_of
lanes_of [] [] [] e f = record { blue = refl; green = refl; red = refl; count = refl }
lanes_of [] [] (z ∷ rs) e f = absurd (omega arith)
lanes_of [] (y ∷ gs) rs e f = absurd (omega arith)
lanes_of (x ∷ bs) [] rs e f = absurd (omega arith)
lanes_of (x ∷ bs) (y ∷ gs) [] e f = absurd (omega arith)
lanes_of (x ∷ bs) (y ∷ gs) (z ∷ rs) e f = grind (arith, lanes_of bs gs rs)

-- Equal columns.

-- the columns of three lanes that are each a place of the columns' words
columns_each : (ws : List (List ℕ)) → columns_of (map (λ w. slice_index w 0) ws) (map (λ w. slice_index w 1) ws) (map (λ w. slice_index w 2) ws) ≡ map column_of ws
unfolding columns_of
columns_each [] = refl
columns_each (w ∷ ws) = ap (λ cs. column_of w ∷ cs) (columns_each ws)

pub lanes_columns : (ws : List (List ℕ)) (bs gs rs : List ℕ) → bs ≡ map (λ w. slice_index w 0) ws → gs ≡ map (λ w. slice_index w 1) ws → rs ≡ map (λ w. slice_index w 2) ws → columns_of bs gs rs ≡ map column_of ws
lanes_columns ws bs gs rs b g r = (λ j. columns_of (b j) (g j) (r j)) ∙ columns_each ws

equal_columns : (n b g r : ℕ) → columns_of (replicate n b) (replicate n g) (replicate n r) ≡ replicate n (column_of (b ∷ g ∷ r ∷ []))
unfolding columns_of
equal_columns zero b g r = refl
equal_columns (suc n) b g r = ap (λ cs. column_of (b ∷ g ∷ r ∷ []) ∷ cs) (equal_columns n b g r)

-- the first of some equal characters that are packed
pub equal_front : (bytes : List ℕ) (w m n : ℕ) → m ≤ n → 5 * n ≤ length bytes → all_words (bytes_bits (take (5 * n) bytes)) ≡ replicate (4 * n) w → all_words (bytes_bits (take (5 * m) bytes)) ≡ replicate (4 * m) w
equal_front bytes w m n le room all =
    let front = take (5 * m) bytes in
    let more = take (5 * n - 5 * m) (drop (5 * m) bytes) in
    let sum : 5 * m + (5 * n - 5 * m) ≡ 5 * n = omega arith in
    let parted : take (5 * n) bytes ≡ front ++ more = ap (λ k. take k bytes) (sym sum) ∙ take-add (5 * m) (5 * n - 5 * m) bytes in
    let size : length front ≡ 5 * m = length-take-le (5 * m) bytes (omega arith) in
    let left : length more ≡ 5 * n - 5 * m = length-take-le (5 * n - 5 * m) (drop (5 * m) bytes) (omega (arith, length-drop (5 * m) bytes, room, le)) in
    let both : all_words (bytes_bits front ++ bytes_bits more) ≡ all_words (bytes_bits front) ++ all_words (bytes_bits more) = words_of-bytes (bytes_bits front) more (omega (arith, length-bytes_bits front, size)) (omega (arith, left)) in
    let count : length (all_words (bytes_bits front)) ≡ 4 * m = omega (arith, count_in_bytes front, size) in
    let whole : all_words (bytes_bits front) ++ all_words (bytes_bits more) ≡ replicate (4 * n) w =
    sym both ∙ ap all_words (sym (bytes_bits-append front more)) ∙ ap (λ bs. all_words (bytes_bits bs)) (sym parted) ∙ all in
    sym (take-append_seam (all_words (bytes_bits front)) (all_words (bytes_bits more)))
    ∙ ap (λ k. take k (all_words (bytes_bits front) ++ all_words (bytes_bits more))) count
    ∙ ap (take (4 * m)) whole
    ∙ take-replicate (4 * m) (4 * n) w (omega (arith, le))

-- the columns of equal characters
pub equal_packed : (bs gs rs : List ℕ) (size m b g r x y z : ℕ) → size ≡ 5 * m → x ≡ b → y ≡ g → z ≡ r → all_words (bytes_bits (take (5 * m) bs)) ≡ replicate (4 * m) x → all_words (bytes_bits (take (5 * m) gs)) ≡ replicate (4 * m) y
    → all_words (bytes_bits (take (5 * m) rs)) ≡ replicate (4 * m) z → packed_columns (take size bs) (take size gs) (take size rs) ≡ replicate (4 * m) (column_of (b ∷ g ∷ r ∷ []))
equal_packed bs gs rs size m b g r x y z is ex ey ez eb eg er =
    ap (λ k. packed_columns (take k bs) (take k gs) (take k rs)) is
    ∙ (λ i. columns_of (eb i) (eg i) (er i))
    ∙ (λ i. columns_of (replicate (4 * m) (ex i)) (replicate (4 * m) (ey i)) (replicate (4 * m) (ez i)))
    ∙ equal_columns (4 * m) b g r

pub replicate-add : {A : Type 0} (m n : ℕ) (x : A) → replicate m x ++ replicate n x ≡ replicate (m + n) x
replicate-add zero n x = let e : n ≡ 0 + n = omega arith in ap (λ k. replicate k x) e
replicate-add (suc m) n x = let e : suc (m + n) ≡ suc m + n = omega arith in ap (λ xs. x ∷ xs) (replicate-add m n x) ∙ ap (λ k. replicate k x) e

-- Coders that go on.

pub goes_nowhere : (d : ℤ) → GoesOn d d [] []
goes_nowhere d = λ past sent h. subst (λ (ws : List ℕ). IsCoderAfter d (past ++ []) ws) (sym (append-nil sent)) (subst (λ (bs : List ℕ). IsCoderAfter d bs sent) (sym (append-nil past)) h)

pub goes_more : (before mid after : ℤ) (bytes words : List ℕ) (i b w : ℕ) (f : Pixel → ℕ) → i < length bytes / 3 → i < length words
    → GoesOn before mid (map f (take i (pixels_of bytes))) (take i words)
    → ((past sent : List ℕ) → IsCoderAfter mid past sent → IsCoderAfter after (past ++ b ∷ []) (sent ++ w ∷ []))
    → b ≡ f (pixel_at bytes (3 * i) (3 * i + 1) (3 * i + 2))
    → GoesOn before after (map f (take (i + 1) (pixels_of bytes))) (take (i + 1) (set words i w))
goes_more before mid after bytes words i b w f lt room was next e = λ past sent h.
    let done = map f (take i (pixels_of bytes)) in
    let one = next (past ++ done) (sent ++ take i words) (was past sent h) in
    grind (arith, append_assoc, lane_more, take_more_set)

-- all of them
pub goes_through : (before after : ℤ) (bytes words : List ℕ) (i : ℕ) (f : Pixel → ℕ) → length bytes / 3 ≤ i → length words ≤ i
    → GoesOn before after (map f (take i (pixels_of bytes))) (take i words) → GoesOn before after (map f (pixels_of bytes)) words
goes_through before after bytes words i f le room was =
    subst (λ (ws : List ℕ). GoesOn before after (map f (pixels_of bytes)) ws) (take_all i words room)
    (subst (λ (ps : List Pixel). GoesOn before after (map f ps) (take i words)) (take_all i (pixels_of bytes) (omega (arith, length-pixels_of bytes))) was)

-- one block more of one lane
pub lane_after : (before after : ℤ) (bytes : List ℕ) (from upto : ℕ) (columns own : List Column) (f : Pixel → ℕ) (h : Column → ℕ) → from ≤ upto
    → IsCoderAfter before (map f (take from (pixels_of bytes))) (map h columns)
    → GoesOn before after (map f (pixels_of (take (3 * upto - 3 * from) (drop (3 * from) bytes)))) (map h own)
    → IsCoderAfter after (map f (take upto (pixels_of bytes))) (map h (columns ++ own))
lane_after before after bytes from upto columns own f h le was next =
    let ps = pixels_of bytes in
    let width : 3 * upto - 3 * from ≡ 3 * (upto - from) = omega arith in
    let all : from + (upto - from) ≡ upto = omega arith in
    let piece : pixels_of (take (3 * upto - 3 * from) (drop (3 * from) bytes)) ≡ take (upto - from) (drop from ps) =
    ap (λ k. pixels_of (take k (drop (3 * from) bytes))) width ∙ pixels_of-take (upto - from) (drop (3 * from) bytes) ∙ ap (take (upto - from)) (pixels_of-drop from bytes) in
    let taken : map f (take from ps) ++ map f (pixels_of (take (3 * upto - 3 * from) (drop (3 * from) bytes))) ≡ map f (take upto ps) =
    ap (λ (xs : List Pixel). map f (take from ps) ++ map f xs) piece ∙ sym (map-append f (take from ps) (take (upto - from) (drop from ps))) ∙ ap (map f) (sym (take-add from (upto - from) ps) ∙ ap (λ k. take k ps) all) in
    subst (λ (ws : List ℕ). IsCoderAfter after (map f (take upto ps)) ws) (sym (map-append h columns own))
    (subst (λ (bs : List ℕ). IsCoderAfter after bs (map h columns ++ map h own)) taken (next (map f (take from ps)) (map h columns) was))

-- the columns of a block
pub block_coded : (blue green red : ℤ) (ps : List Pixel) (blue_after green_after red_after : ℤ) (bs gs rs xs ys zs : List ℕ)
    → xs ≡ bs → ys ≡ gs → zs ≡ rs → length gs ≡ length bs → length rs ≡ length bs → length bs ≡ length ps
    → GoesOn blue blue_after (map (λ (p : Pixel). p.blue) ps) bs → GoesOn green green_after (map (λ (p : Pixel). p.green) ps) gs → GoesOn red red_after (map (λ (p : Pixel). p.red) ps) rs
    → AreCodersAfter blue green red ps (columns_of xs ys zs) blue_after green_after red_after
block_coded blue green red ps blue_after green_after red_after bs gs rs xs ys zs ex ey ez eg er size hb hg hr =
    let same : columns_of bs gs rs ≡ columns_of xs ys zs = sym (ap (λ v. columns_of v ys zs) ex ∙ ap₂ (λ v w. columns_of bs v w) ey ez) in
    let lanes = lanes_of bs gs rs eg er in
    subst (λ (cs : List Column). AreCodersAfter blue green red ps cs blue_after green_after red_after) same (record {
      blue_lane = subst (λ (ws : List ℕ). GoesOn blue blue_after (map (λ (p : Pixel). p.blue) ps) ws) (sym lanes.blue) hb;
      green_lane = subst (λ (ws : List ℕ). GoesOn green green_after (map (λ (p : Pixel). p.green) ps) ws) (sym lanes.green) hg;
      red_lane = subst (λ (ws : List ℕ). GoesOn red red_after (map (λ (p : Pixel). p.red) ps) ws) (sym lanes.red) hr;
      as_many = lanes.count ∙ size;
    })

-- a run with more equal columns
pub run_on : (old mid new own : List Column) (c : Column) (done n all : ℕ) → mid ≡ old ++ replicate done c → new ≡ mid ++ own → own ≡ replicate n c → done + n ≡ all → new ≡ old ++ replicate all c
run_on old mid new own c done n all was more is sum =
    more
    ∙ ap (λ cs. mid ++ cs) is
    ∙ ap (λ cs. cs ++ replicate n c) was
    ∙ append_assoc old (replicate done c) (replicate n c)
    ∙ ap (λ cs. old ++ cs) (replicate-add done n c)
    ∙ ap (λ k. old ++ replicate k c) sum

-- Four characters at a time.

-- one character more
goes_one : (before mid after : ℤ) (bytes words : List ℕ) (j b w : ℕ) (f : Pixel → ℕ) → j < length bytes / 3
    → GoesOn before mid (map f (take j (pixels_of bytes))) words
    → ((past sent : List ℕ) → IsCoderAfter mid past sent → IsCoderAfter after (past ++ b ∷ []) (sent ++ w ∷ []))
    → b ≡ f (pixel_at bytes (3 * j) (3 * j + 1) (3 * j + 2))
    → GoesOn before after (map f (take (j + 1) (pixels_of bytes))) (words ++ w ∷ [])
goes_one before mid after bytes words j b w f lt was next e = λ past sent h.
    let done = map f (take j (pixels_of bytes)) in
    let one = next (past ++ done) (sent ++ words) (was past sent h) in
    grind (arith, append_assoc, lane_more)

-- a byte of a pixel, by its place in the row
byte_at : (bytes : List ℕ) (part j at : ℕ) → part < 3 → at ≡ 3 * j + part → get_or bytes at 0 ≡ byte_of part (pixel_at bytes (3 * j) (3 * j + 1) (3 * j + 2))
byte_at bytes part j at h k = grind arith

joined_four : (ws : List ℕ) (a b c d : ℕ) → (((ws ++ a ∷ []) ++ b ∷ []) ++ c ∷ []) ++ d ∷ [] ≡ ws ++ a ∷ b ∷ c ∷ d ∷ []
joined_four ws a b c d = grind (arith, append_assoc)

-- a group of four characters more
pub goes_four : (before k0 k1 k2 k3 k4 : ℤ) (bytes words : List ℕ) (i part at a b c d : ℕ) → part < 3 → i < length bytes / 12 → at ≡ 12 * i + part
    → GoesOn before k0 (map (byte_of part) (take (4 * i) (pixels_of bytes))) words
    → ((past sent : List ℕ) → IsCoderAfter k0 past sent → IsCoderAfter k1 (past ++ get_or bytes at 0 ∷ []) (sent ++ a ∷ []))
    → ((past sent : List ℕ) → IsCoderAfter k1 past sent → IsCoderAfter k2 (past ++ get_or bytes (at + 3) 0 ∷ []) (sent ++ b ∷ []))
    → ((past sent : List ℕ) → IsCoderAfter k2 past sent → IsCoderAfter k3 (past ++ get_or bytes (at + 6) 0 ∷ []) (sent ++ c ∷ []))
    → ((past sent : List ℕ) → IsCoderAfter k3 past sent → IsCoderAfter k4 (past ++ get_or bytes (at + 9) 0 ∷ []) (sent ++ d ∷ []))
    → GoesOn before k4 (map (byte_of part) (take (4 * (i + 1)) (pixels_of bytes))) (words ++ a ∷ b ∷ c ∷ d ∷ [])
goes_four before k0 k1 k2 k3 k4 bytes words i part at a b c d few lt place was first second third fourth =
    let j = 4 * i in
    let one = goes_one before k0 k1 bytes words j _ a (byte_of part) (omega arith) was first (byte_at bytes part j at few (omega arith)) in
    let two = goes_one before k1 k2 bytes (words ++ a ∷ []) (j + 1) _ b (byte_of part) (omega arith) one second (byte_at bytes part (j + 1) (at + 3) few (omega arith)) in
    let two' : GoesOn before k2 (map (byte_of part) (take (j + 2) (pixels_of bytes))) ((words ++ a ∷ []) ++ b ∷ []) = next_of (j + 1) (j + 2) (omega arith) two in
    let three = goes_one before k2 k3 bytes ((words ++ a ∷ []) ++ b ∷ []) (j + 2) _ c (byte_of part) (omega arith) two' third (byte_at bytes part (j + 2) (at + 6) few (omega arith)) in
    let three' : GoesOn before k3 (map (byte_of part) (take (j + 3) (pixels_of bytes))) (((words ++ a ∷ []) ++ b ∷ []) ++ c ∷ []) = next_of (j + 2) (j + 3) (omega arith) three in
    let four = goes_one before k3 k4 bytes (((words ++ a ∷ []) ++ b ∷ []) ++ c ∷ []) (j + 3) _ d (byte_of part) (omega arith) three' fourth (byte_at bytes part (j + 3) (at + 9) few (omega arith)) in
    subst (λ (ws : List ℕ). GoesOn before k4 (map (byte_of part) (take (4 * (i + 1)) (pixels_of bytes))) ws) (joined_four words a b c d) (next_of (j + 3) (4 * (i + 1)) (omega arith) four)
  where
    next_of : {after : ℤ} {ws : List ℕ} (m n : ℕ) → m + 1 ≡ n → GoesOn before after (map (byte_of part) (take (m + 1) (pixels_of bytes))) ws → GoesOn before after (map (byte_of part) (take n (pixels_of bytes))) ws
    next_of {after} {ws} m n e h = subst (λ k. GoesOn before after (map (byte_of part) (take k (pixels_of bytes))) ws) e h

-- packed after those before them
pub packed_four : (into now : List ℕ) (i a b c d : ℕ) → 5 * i + 5 ≤ length into → a < 1024 → b < 1024 → c < 1024 → d < 1024
    → bytes_bits (take (5 * i + 5) now) ≡ bytes_bits (take (5 * i) into) ++ row_bits (a ∷ b ∷ c ∷ d ∷ [])
    → all_words (bytes_bits (take (5 * (i + 1)) now)) ≡ all_words (bytes_bits (take (5 * i) into)) ++ a ∷ b ∷ c ∷ d ∷ []
packed_four into now i a b c d room la lb lc ld e = grind (arith, length-bytes_bits, length-take-le, words_of-more)

-- four equal characters more
pub four_more : (into now : List ℕ) (i w : ℕ) → 5 * i + 5 ≤ length into → w < 1024 → all_words (bytes_bits (take (5 * i) into)) ≡ replicate (4 * i) w
    → bytes_bits (take (5 * i + 5) now) ≡ bytes_bits (take (5 * i) into) ++ row_bits (w ∷ w ∷ w ∷ w ∷ []) → all_words (bytes_bits (take (5 * (i + 1)) now)) ≡ replicate (4 * (i + 1)) w
four_more into now i w room lt was bits =
    let sum : 4 * i + 4 ≡ 4 * (i + 1) = omega arith in
    packed_four into now i w w w w room lt lt lt lt bits
    ∙ ap (λ ws. ws ++ replicate 4 w) was
    ∙ replicate-add (4 * i) 4 w
    ∙ ap (λ k. replicate k w) sum

pub none_packed : (into : List ℕ) → all_words (bytes_bits (take (5 * 0) into)) ≡ []
unfolding all_words words_of bytes_bits
none_packed into = refl

-- a coded byte's character
pub character_below : (d : ℤ) (b w : ℕ) → Coded d b w → b < 256 → w < 1024
character_below d b w coded lt = subst (λ n. n < 1024) (sym coded) (coded_below (sign_of d) b lt)

-- the characters of all groups
pub all_packed : (before after : ℤ) (bytes into : List ℕ) (i : ℕ) (f : Pixel → ℕ) → length bytes / 3 ≤ 4 * i → length into ≤ 5 * i
    → GoesOn before after (map f (take (4 * i) (pixels_of bytes))) (all_words (bytes_bits (take (5 * i) into)))
    → GoesOn before after (map f (pixels_of bytes)) (all_words (bytes_bits into))
all_packed before after bytes into i f le room was =
    subst (λ (bs : List ℕ). GoesOn before after (map f (pixels_of bytes)) (all_words (bytes_bits bs))) (take_all (5 * i) into room)
    (subst (λ (ps : List Pixel). GoesOn before after (map f ps) (all_words (bytes_bits (take (5 * i) into)))) (take_all (4 * i) (pixels_of bytes) (omega (arith, length-pixels_of bytes))) was)

-- how many characters the packed bytes of a block have
pub packed_size : (bytes into : List ℕ) → length bytes % 12 ≡ 0 → length into ≡ length bytes / 12 * 5 → length (all_words (bytes_bits into)) ≡ length (pixels_of bytes)
packed_size bytes into whole size = omega (arith, count_in_bytes into, length-pixels_of bytes)

-- one part more of one lane, up to another place
pub lane_upto : (before after : ℤ) (bytes piece : List ℕ) (from upto m n : ℕ) (columns own : List Column) (f : Pixel → ℕ) (h : Column → ℕ) → from ≤ upto → m ≡ from → upto ≡ n
    → piece ≡ take (3 * upto - 3 * from) (drop (3 * from) bytes)
    → IsCoderAfter before (map f (take m (pixels_of bytes))) (map h columns) → GoesOn before after (map f (pixels_of piece)) (map h own)
    → IsCoderAfter after (map f (take n (pixels_of bytes))) (map h (columns ++ own))
lane_upto before after bytes piece from upto m n columns own f h le e d is was next =
    subst (λ k. IsCoderAfter after (map f (take k (pixels_of bytes))) (map h (columns ++ own))) d
    (lane_after before after bytes from upto columns own f h le
    (subst (λ k. IsCoderAfter before (map f (take k (pixels_of bytes))) (map h columns)) e was)
    (subst (λ (bs : List ℕ). GoesOn before after (map f (pixels_of bs)) (map h own)) is next))

pub no_lane : (kept : ℤ) (bytes : List ℕ) (n : ℕ) (f : Pixel → ℕ) (h : Column → ℕ) → n ≡ 0 → IsCoderAfter kept [] [] → IsCoderAfter kept (map f (take n (pixels_of bytes))) (map h [])
no_lane kept bytes n f h e is = subst (λ k. IsCoderAfter kept (map f (take k (pixels_of bytes))) []) (sym e) is

-- what stands after the last group
pub rest_of : (bytes : List ℕ) (count : ℕ) → length bytes % 3 ≡ 0 → take (length bytes - 3 * count) (drop (3 * count) bytes) ≡ take (3 * (length bytes / 3) - 3 * count) (drop (3 * count) bytes)
rest_of bytes count whole = let e : length bytes ≡ 3 * (length bytes / 3) = omega arith in ap (λ n. take (n - 3 * count) (drop (3 * count) bytes)) e
