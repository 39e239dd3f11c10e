-- Subframes byte by byte: a preamble, then seven bytes of half cells that carry four bits each.
use Rattle.std.proofs.Common.{◌≡◌, ℕ, ◌+◌, ◌*◌, ◌/◌, ◌%◌, ◌^◌, Bool, true, false, ◌&&◌, List, [], ◌∷◌, ◌++◌, take, drop, refl, ap, ap₂, ◌∙◌, sym, arith, append_assoc, append-nil, get_or, length}
use Rattle.tmds_word.specs.Bits.{bits_of, bytes_bits}
use Rattle.tmds_word.proofs.Lists.{bits_of-add, bits_of-low}
use Rattle.audio_packets.specs.Samples.{side_bits}
use Rattle.audio_out.specs.Levels.{last_of, level_after}
use Rattle.audio_out.specs.Subframes.{IsSound, IsSubframe, preamble, slots, carries}
use Rattle.audio_out.specs.declared.subframe.Mark.{Mark}
use Rattle.audio_out.specs.declared.subframe.Subframe.{Subframe}
use Rattle.audio_out.proofs.Cells.{carries-four}

four_low : (n : ℕ) → bits_of 4 n ≡ bits_of 4 (n % 16)
four_low n =
    let e : n % 16 + 2 ^ 4 * (n / 16) ≡ n = omega arith in
    ap (bits_of 4) (sym e) ∙ bits_of-low 4 (n % 16) (n / 16)

four_first : (k n : ℕ) → bits_of (4 + k) n ≡ bits_of 4 (n % 16) ++ bits_of k (n / 16)
four_first k n =
    let f : n / 2 ^ 4 ≡ n / 16 = omega arith in
    bits_of-add 4 k n ∙ ap₂ (λ xs m. xs ++ bits_of k m) (four_low n) f

-- a value of 24 bits, four bits at a time
value_bits : (v : ℕ) → bits_of 24 v
    ≡ bits_of 4 (v % 16) ++ (bits_of 4 (v / 16 % 16) ++ (bits_of 4 (v / 256 % 16) ++ (bits_of 4 (v / 4096 % 16) ++ (bits_of 4 (v / 65536 % 16) ++ bits_of 4 (v / 1048576 % 16)))))
value_bits v =
    let b : v / 16 / 16 ≡ v / 256 = omega arith in
    let c : v / 256 / 16 ≡ v / 4096 = omega arith in
    let d : v / 4096 / 16 ≡ v / 65536 = omega arith in
    let e : v / 65536 / 16 ≡ v / 1048576 = omega arith in
    let last = ap (bits_of 4) e ∙ four_low (v / 1048576) in
    let at4 = four_first 4 (v / 65536) ∙ ap (λ xs. bits_of 4 (v / 65536 % 16) ++ xs) last in
    let at3 = four_first 8 (v / 4096) ∙ ap (λ xs. bits_of 4 (v / 4096 % 16) ++ xs) (ap (bits_of 8) d ∙ at4) in
    let at2 = four_first 12 (v / 256) ∙ ap (λ xs. bits_of 4 (v / 256 % 16) ++ xs) (ap (bits_of 12) c ∙ at3) in
    let at1 = four_first 16 (v / 16) ∙ ap (λ xs. bits_of 4 (v / 16 % 16) ++ xs) (ap (bits_of 16) b ∙ at2) in
    four_first 20 v ∙ ap (λ xs. bits_of 4 (v % 16) ++ xs) at1

slots_are : (sub : Subframe) → let v = sub.value in slots sub
    ≡ bits_of 4 (v % 16) ++ (bits_of 4 (v / 16 % 16) ++ (bits_of 4 (v / 256 % 16) ++ (bits_of 4 (v / 4096 % 16) ++ (bits_of 4 (v / 65536 % 16)
    ++ (bits_of 4 (v / 1048576 % 16) ++ bits_of 4 (side_bits v sub.flags))))))
unfolding slots
slots_are sub = grind (arith, value_bits, append_assoc)

-- seven bytes of half cells, each of which carries four bits
unfoldable pub seven : (level : Bool) (n0 n1 n2 n3 n4 n5 n6 a b c d e f g : ℕ) → Bool
seven level n0 n1 n2 n3 n4 n5 n6 a b c d e f g =
    carries level (bits_of 4 n0) (bits_of 8 a)
    && (carries (level_after a) (bits_of 4 n1) (bits_of 8 b)
    && (carries (level_after b) (bits_of 4 n2) (bits_of 8 c)
    && (carries (level_after c) (bits_of 4 n3) (bits_of 8 d)
    && (carries (level_after d) (bits_of 4 n4) (bits_of 8 e)
    && (carries (level_after e) (bits_of 4 n5) (bits_of 8 f)
    && carries (level_after f) (bits_of 4 n6) (bits_of 8 g))))))

-- the seven bytes of a subframe, after a level
abbrev pub sub_seven : Bool → Subframe → (a b c d e f g : ℕ) → Bool
sub_seven level sub a b c d e f g =
    let v = sub.value in
    seven level (v % 16) (v / 16 % 16) (v / 256 % 16) (v / 4096 % 16) (v / 65536 % 16) (v / 1048576 % 16) (side_bits v sub.flags) a b c d e f g

after_first : (p a b c d e f g : ℕ) → drop 8 (bytes_bits (p ∷ a ∷ b ∷ c ∷ d ∷ e ∷ f ∷ g ∷ []))
    ≡ bits_of 8 a ++ (bits_of 8 b ++ (bits_of 8 c ++ (bits_of 8 d ++ (bits_of 8 e ++ (bits_of 8 f ++ (bits_of 8 g ++ []))))))
unfolding bytes_bits bits_of
after_first p a b c d e f g = refl

pub first_eight : (p : ℕ) (bytes : List ℕ) → take 8 (bytes_bits (p ∷ bytes)) ≡ bits_of 8 p
unfolding bytes_bits bits_of
first_eight p bytes = refl

carried_seven : (sub : Subframe) (p a b c d e f g : ℕ)
    → carries false (slots sub) (drop 8 (bytes_bits (p ∷ a ∷ b ∷ c ∷ d ∷ e ∷ f ∷ g ∷ []))) ≡ sub_seven false sub a b c d e f g
unfolding seven
carried_seven sub p a b c d e f g = grind (arith, slots_are, after_first, append-nil, carries-four)

preamble_level : (mark : Mark) → last_of false (preamble mark) ≡ false
unfolding last_of preamble
preamble_level mark = grind arith

-- a preamble ends with level 0
pub level_marked : (p : ℕ) (mark : Mark) → bits_of 8 p ≡ preamble mark → level_after p ≡ false
unfolding level_after
level_marked p mark h = ap (last_of false) h ∙ preamble_level mark

-- eight bytes that are a subframe
pub is_joined : (sub : Subframe) (p a b c d e f g : ℕ) → IsSound sub → bits_of 8 p ≡ preamble sub.mark → sub_seven (level_after p) sub a b c d e f g ≡ true
    → IsSubframe sub (p ∷ a ∷ b ∷ c ∷ d ∷ e ∷ f ∷ g ∷ [])
is_joined sub p a b c d e f g sound marked h = record {
  sound = sound;
  marked = first_eight p _ ∙ marked;
  carried = carried_seven sub p a b c d e f g ∙ ap (λ level. sub_seven level sub a b c d e f g) (sym (level_marked p sub.mark marked)) ∙ h;
}

pub marked_first : (sub : Subframe) (p : ℕ) (bytes : List ℕ) → IsSubframe sub (p ∷ bytes) → bits_of 8 p ≡ preamble sub.mark
marked_first sub p bytes h = sym (first_eight p bytes) ∙ h.marked

pub joined_is : (sub : Subframe) (p a b c d e f g : ℕ) → IsSubframe sub (p ∷ a ∷ b ∷ c ∷ d ∷ e ∷ f ∷ g ∷ []) → sub_seven (level_after p) sub a b c d e f g ≡ true
joined_is sub p a b c d e f g h =
    ap (λ level. sub_seven level sub a b c d e f g) (level_marked p sub.mark (marked_first sub p _ h))
    ∙ sym (carried_seven sub p a b c d e f g) ∙ h.carried

-- a list of eight, element by element
pub eight : (xs : List ℕ) → length xs ≡ 8
    → xs ≡ get_or xs 0 0 ∷ get_or xs 1 0 ∷ get_or xs 2 0 ∷ get_or xs 3 0 ∷ get_or xs 4 0 ∷ get_or xs 5 0 ∷ get_or xs 6 0 ∷ get_or xs 7 0 ∷ []
eight (p ∷ (a ∷ (b ∷ (c ∷ (d ∷ (e ∷ (f ∷ (g ∷ [])))))))) h = refl
eight [] h = absurd (omega arith)
eight (p ∷ []) h = absurd (omega arith)
eight (p ∷ (a ∷ [])) h = absurd (omega arith)
eight (p ∷ (a ∷ (b ∷ []))) h = absurd (omega arith)
eight (p ∷ (a ∷ (b ∷ (c ∷ [])))) h = absurd (omega arith)
eight (p ∷ (a ∷ (b ∷ (c ∷ (d ∷ []))))) h = absurd (omega arith)
eight (p ∷ (a ∷ (b ∷ (c ∷ (d ∷ (e ∷ [])))))) h = absurd (omega arith)
eight (p ∷ (a ∷ (b ∷ (c ∷ (d ∷ (e ∷ (f ∷ []))))))) h = absurd (omega arith)
eight (p ∷ (a ∷ (b ∷ (c ∷ (d ∷ (e ∷ (f ∷ (g ∷ (x ∷ xs))))))))) h = absurd (omega arith)
