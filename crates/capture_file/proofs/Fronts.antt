-- Chunks of a lane that goes on: the bytes that they have, and those with which they may begin.
use Rattle.std.proofs.Common.{◌≡◌, ℕ, ◌+◌, ◌-◌, ◌*◌, ◌/◌, ◌%◌, ◌^◌, ◌<◌, ◌≤◌, Bool, false, List, ◌++◌, length, take, drop, min, refl, ap, ap₂, ◌∙◌, sym, arith, length-append, length-drop, length-take, replicate}
use Rattle.std.proofs.Math.Seq.{take-append_seam, drop-append_seam, take-append-add}
use Rattle.std.proofs.lemmas.List.{length-replicate, take-append-le, drop-append-le}
use Rattle.tmds_word.specs.Bits.{bytes_bits}
use Rattle.tmds_word.proofs.Lists.{length-bytes_bits}
use Rattle.capture_file.specs.Layout.{packed, header, high_first, chunk}
use Rattle.capture_file.specs.Captures.{AreBytes}
use Rattle.capture_file.proofs.Packs.{packed-append, packed-bytes}

-- parts of equal lengths of one list
pub same_front : (a b c d : List ℕ) → a ++ b ≡ c ++ d → length a ≡ length c → a ≡ c
same_front a b c d e len =
    sym (take-append_seam a b) ∙ ap₂ (λ n xs. take n xs) len e ∙ take-append_seam c d

pub same_rest : (a b c d : List ℕ) → a ++ b ≡ c ++ d → length a ≡ length c → b ≡ d
same_rest a b c d e len =
    sym (drop-append_seam a b) ∙ ap₂ (λ n xs. drop n xs) len e ∙ drop-append_seam c d

pub length-header : (count : ℕ) → length (header count) ≡ 8
unfolding header high_first
length-header count = refl

pub same_count : (m n : ℕ) (x y : List ℕ) → m < 2 ^ 32 → n < 2 ^ 32 → header m ++ x ≡ header n ++ y → m ≡ n
unfolding header high_first
same_count m n x y lm ln e = grind (arith, same_front, length-header)

-- chunks and blocks of longer lanes
pub chunk-longer : (k : ℕ) (a u : List ℕ) → 4096 * k + 4096 ≤ length a → chunk k (a ++ u) ≡ chunk k a
unfolding chunk
chunk-longer k a u room =
    ap (λ xs. take 4096 xs) (drop-append-le (4096 * k) a u (omega arith))
    ∙ take-append-le 4096 (drop (4096 * k) a) u (omega (arith, length-drop (4096 * k) a))

pub chunk-next : (j : ℕ) (a u : List ℕ) → length a ≡ 4096 * j → chunk j (a ++ u) ≡ take 4096 u
unfolding chunk
chunk-next j a u len = ap (λ n. take 4096 (drop n (a ++ u))) (sym len) ∙ ap (λ xs. take 4096 xs) (drop-append_seam a u)

-- the chunk that a lane's further bits begin with
abbrev pub part_of : List Bool → List ℕ
part_of u = take 4096 (packed u)

-- bits and then zeros
pub filled : List Bool → ℕ → List Bool
filled u n = u ++ replicate (n - length u) false

pub length-filled : (u : List Bool) (n : ℕ) → length u ≤ n → length (filled u n) ≡ n
unfolding filled
length-filled u n le = omega (arith, length-append u (replicate (n - length u) false), length-replicate (n - length u) false)

-- bytes that a chunk may begin with
pub part_of-begun : (piece : List ℕ) (n count : ℕ) → AreBytes piece → length piece < (count + 7) / 8 → count ≡ min n 32768
    → (u : List Bool) × (length u ≡ n) × (more : List ℕ) × (part_of u ≡ piece ++ more)
unfolding filled
part_of-begun piece n count are less is =
    let b = bytes_bits piece in
    let fill = replicate (n - length b) false in
    let len : length b ≡ 8 * length piece = length-bytes_bits piece in
    let whole : length b % 8 ≡ 0 = omega arith in
    let cut : 4096 ≡ length piece + (4096 - length piece) = omega arith in (
      b ++ fill,
      length-filled b n (omega arith),
      take (4096 - length piece) (packed fill),
      ap (λ xs. take 4096 xs) (packed-append b fill whole ∙ ap (λ xs. xs ++ packed fill) (packed-bytes piece are))
          ∙ ap (λ k. take k (piece ++ packed fill)) cut
          ∙ take-append-add piece (packed fill) (4096 - length piece),
    )

pub length-chunk_of : (j : ℕ) (a : List ℕ) → length (chunk j a) ≡ min 4096 (length a - 4096 * j)
unfolding chunk
length-chunk_of j a = length-take 4096 (drop (4096 * j) a) ∙ ap (λ n. min 4096 n) (length-drop (4096 * j) a)
