-- From columns that carry a packet that packet is taken, and nothing else.
use Rattle.std.proofs.Common.{◌≡◌, ℕ, suc, ◌+◌, ◌*◌, ◌%◌, ◌^◌, ◌<◌, Bool, true, not, cond, List, [], ◌∷◌, ◌++◌, length, take, drop, get_or, refl, ap, ap₂, ◌∙◌, sym, arith, slice_index, All, length-drop, length-take-le}
use Rattle.std.specs.Prelude.{slice_index_or}
use Rattle.std.proofs.lemmas.List.Elements.{All-get_or}
use Rattle.std.proofs.lemmas.List.Sums.{sum_by-append}
use Rattle.tmds_word.specs.Bits.{number}
use Rattle.tmds_word.proofs.Numbers.{number-bits_of}
use Rattle.terc4.specs.Tables.{is_terc}
use Rattle.bch_block.specs.Bits.{byte_bits, bits_of_bytes}
use Rattle.bch_block.specs.declared.Verdict.{Verdict}
use Rattle.bch_block.specs.declared.Verdict.TheVariants.{Clean}
use Rattle.bch_block.proofs.Bytes.{bits_of_bytes-append}
use Rattle.bch_block.proofs.Verdicts.{one_verdict}
use Rattle.island_pack.specs.Nibbles.{is_foreign, foreign_on, foreign_words, body_bits, header_bits}
use Rattle.island_pack.specs.Packets.{BeginsWith, body_of, AreTerc}
use Rattle.island_pack.specs.Taken.{after, IsTaken, verdict_on, CarriedIsTaken}
use Rattle.island_pack.specs.declared.packet.Packet.{Packet}
use Rattle.island_pack.proofs.Parts.{next_part, whole_list}
use Rattle.island_pack.proofs.Registers.{eight_bits}

-- a byte from its bits
byte_from : (b : ℕ) (rest : List Bool) → b < 256 → b ≡ number (take 8 (byte_bits b ++ rest))
byte_from b rest lt =
    let e : b ≡ b % 2 ^ 8 = omega arith in
    e ∙ sym (number-bits_of 8 b) ∙ ap number (eight_bits b)

-- bytes with the same bits are the same
same_bytes : (xs ys : List ℕ) → length xs ≡ length ys → ((k : ℕ) → k < length xs → get_or xs k 0 < 256) → ((k : ℕ) → k < length ys → get_or ys k 0 < 256)
    → bits_of_bytes xs ≡ bits_of_bytes ys → xs ≡ ys
same_bytes [] [] long fx fy e = refl
same_bytes [] (y ∷ ys) long fx fy e = absurd (omega arith)
same_bytes (x ∷ xs) [] long fx fy e = absurd (omega arith)
same_bytes (x ∷ xs) (y ∷ ys) long fx fy e =
    ap₂ (λ a (rest : List ℕ). a ∷ rest)
    (byte_from x (bits_of_bytes xs) (fx 0 (omega arith)) ∙ ap (λ z. number (take 8 z)) e ∙ sym (byte_from y (bits_of_bytes ys) (fy 0 (omega arith))))
    (same_bytes xs ys (omega arith) (λ k lt. fx (suc k) (omega arith)) (λ k lt. fy (suc k) (omega arith)) (ap (drop 8) e))

-- what is taken from a block is clean
clean_of : (x : List Bool) (bytes taken : List ℕ) (n : ℕ) (v : Verdict) → n < 8 → length bytes ≡ n → BeginsWith x bytes → IsTaken x taken v → v ≡ Clean
clean_of x bytes taken n v few long b t = one_verdict x v Clean (omega (arith, b.bits, long)) t.found b.block

-- and has the same bits
bits_taken : (x : List Bool) (bytes taken : List ℕ) (n : ℕ) (v : Verdict) → length bytes ≡ n → length taken ≡ n → BeginsWith x bytes → IsTaken x taken v → v ≡ Clean
    → bits_of_bytes taken ≡ bits_of_bytes bytes
bits_taken x bytes taken n v long same b t clean =
    t.begins ∙ ap₂ (λ m y. take (8 * m) y) (same ∙ sym long) (ap (after x) clean) ∙ b.begins

pub length-body_of : (packet : Packet) → length packet.bodies ≡ 28 → (b : ℕ) → b < 4 → length (body_of packet b) ≡ 7
length-body_of packet long b lt =
    length-take-le 7 (drop (7 * b) packet.bodies) (omega (arith, long, lt, length-drop (7 * b) packet.bodies))

-- the bits of 28 bytes, seven bytes at a time
four_parts : (xs : List ℕ) → length xs ≡ 28
    → bits_of_bytes xs ≡ bits_of_bytes (take 7 xs) ++ (bits_of_bytes (take 7 (drop 7 xs)) ++ (bits_of_bytes (take 7 (drop 14 xs)) ++ bits_of_bytes (take 7 (drop 21 xs))))
four_parts xs long =
    ap bits_of_bytes (next_part xs 0 7) ∙ bits_of_bytes-append (take 7 xs) (drop 7 xs)
    ∙ ap (λ z. bits_of_bytes (take 7 xs) ++ z)
    (ap bits_of_bytes (next_part xs 7 7) ∙ bits_of_bytes-append (take 7 (drop 7 xs)) (drop 14 xs)
    ∙ ap (λ z. bits_of_bytes (take 7 (drop 7 xs)) ++ z)
    (ap bits_of_bytes (next_part xs 14 7) ∙ bits_of_bytes-append (take 7 (drop 14 xs)) (drop 21 xs)
    ∙ ap (λ z. bits_of_bytes (take 7 (drop 14 xs)) ++ z)
    (ap bits_of_bytes (sym (whole_list (drop 21 xs) 7 (omega (arith, long, length-drop 21 xs)))))))

same_bodies : (p q : Packet) → length p.bodies ≡ 28 → length q.bodies ≡ 28 → ((b : ℕ) → b < 4 → bits_of_bytes (body_of q b) ≡ bits_of_bytes (body_of p b)) → bits_of_bytes q.bodies ≡ bits_of_bytes p.bodies
same_bodies p q lp lq e =
    four_parts q.bodies lq
    ∙ ap₂ (λ x y. x ++ y) (e 0 (omega arith))
    (ap₂ (λ x y. x ++ y) (e 1 (omega arith))
    (ap₂ (λ x y. x ++ y) (e 2 (omega arith)) (e 3 (omega arith))))
    ∙ sym (four_parts p.bodies lp)

five : (vs : List Verdict) → length vs ≡ 5 → slice_index_or vs 0 Clean ≡ Clean → slice_index_or vs 1 Clean ≡ Clean → slice_index_or vs 2 Clean ≡ Clean
    → slice_index_or vs 3 Clean ≡ Clean → slice_index_or vs 4 Clean ≡ Clean → vs ≡ Clean ∷ Clean ∷ Clean ∷ Clean ∷ Clean ∷ []
five [] long e0 e1 e2 e3 e4 = absurd (omega arith)
five (a ∷ []) long e0 e1 e2 e3 e4 = absurd (omega arith)
five (a ∷ (b ∷ [])) long e0 e1 e2 e3 e4 = absurd (omega arith)
five (a ∷ (b ∷ (c ∷ []))) long e0 e1 e2 e3 e4 = absurd (omega arith)
five (a ∷ (b ∷ (c ∷ (d ∷ [])))) long e0 e1 e2 e3 e4 = absurd (omega arith)
five (a ∷ (b ∷ (c ∷ (d ∷ (f ∷ []))))) long e0 e1 e2 e3 e4 = λ i. e0 i ∷ e1 i ∷ e2 i ∷ e3 i ∷ e4 i ∷ []
five (a ∷ (b ∷ (c ∷ (d ∷ (f ∷ (g ∷ vs)))))) long e0 e1 e2 e3 e4 = absurd (omega arith)

-- no word of a lane is foreign
none_foreign : (lane : ℕ) (columns : List (List ℕ)) → ((k : ℕ) → k < length columns → is_terc (slice_index (get_or columns k []) lane) ≡ true) → foreign_on columns lane ≡ 0
unfolding foreign_on is_foreign
none_foreign lane [] h = refl
none_foreign lane (c ∷ cs) h =
    sum_by-append (λ x. cond (is_foreign lane x) 1 0) (c ∷ []) cs
    ∙ ap₂ (λ b n. (0 + cond (not b) 1 0) + n) (h 0 (omega arith)) (none_foreign lane cs (λ k lt. h (suc k) (omega arith)))

none_of_columns : (columns : List (List ℕ)) → ((lane : ℕ) → lane < 3 → AreTerc columns lane) → foreign_words columns ≡ 0
unfolding foreign_words
none_of_columns columns terc = grind (arith, none_foreign, All-get_or)

pub carried_is_taken : CarriedIsTaken
carried_is_taken packet taken verdicts columns f t =
    let header_clean : verdict_on verdicts 4 ≡ Clean = clean_of (header_bits columns) packet.header taken.header 3 _ (omega arith) f.whole.header f.header t.header in
    let body_clean : (b : ℕ) → b < 4 → verdict_on verdicts b ≡ Clean =
    λ b lt. clean_of (body_bits columns b) (body_of packet b) (body_of taken b) 7 _ (omega arith) (length-body_of packet f.whole.bodies b lt) (f.bodies b lt) (t.bodies b lt) in
    let byte : (xs : List ℕ) → All (λ v. v < 256) xs → (k : ℕ) → k < length xs → get_or xs k 0 < 256 =
    λ xs all k lt. All-get_or (λ v. v < 256) xs k 0 lt all in
    let same_header : taken.header ≡ packet.header =
    same_bytes taken.header packet.header (t.whole.header ∙ sym f.whole.header) (byte _ t.whole.header_bytes) (byte _ f.whole.header_bytes)
    (bits_taken (header_bits columns) packet.header taken.header 3 _ f.whole.header t.whole.header f.header t.header header_clean) in
    let same_body : taken.bodies ≡ packet.bodies =
    same_bytes taken.bodies packet.bodies (t.whole.bodies ∙ sym f.whole.bodies) (byte _ t.whole.body_bytes) (byte _ f.whole.body_bytes)
    (same_bodies packet taken f.whole.bodies t.whole.bodies
    (λ b lt. bits_taken (body_bits columns b) (body_of packet b) (body_of taken b) 7 _ (length-body_of packet f.whole.bodies b lt) (length-body_of taken t.whole.bodies b lt) (f.bodies b lt) (t.bodies b lt) (body_clean b lt))) in
    let same_sync : taken.sync ≡ packet.sync = t.sync ∙ f.sync in
    grind (arith, five, none_of_columns)
