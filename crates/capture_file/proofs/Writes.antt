-- Parts of rows, written block by block.
use Rattle.std.proofs.Common.{◌≡◌, ℕ, ◌+◌, ◌-◌, ◌*◌, ◌/◌, ◌<◌, ◌≤◌, Bool, List, [], ◌++◌, length, take, drop, min, max, ap, ap₂, ◌∙◌, sym, arith, append_assoc}
use Rattle.std.specs.Prelude.{slice_index}
use Rattle.std.proofs.lemmas.List.{drop_all}
use Rattle.capture_file.specs.Layout.{packed, chunk, block, blocks_below, blocks_of}
use Rattle.capture_file.specs.Captures.{counts_of, header_of, header_two, lane_blocks, layout}
use Rattle.capture_file.specs.Taps.{HasBits}
use Rattle.capture_file.proofs.Packing.{length-packed, chunk-part}
use Rattle.capture_file.proofs.Parts.{length-lane, blocks_after}
use Rattle.capture_file.proofs.Heads.{length-header_two}
use Rattle.capture_file.proofs.Fronts.{length-header}

-- a lane that has no bits in a block adds nothing
pub no_chunk : (j bits from : ℕ) (row : List Bool) → HasBits row from bits → min (bits - 32768 * j) 32768 ≡ 0 → chunk j (packed (take bits (drop from row))) ≡ []
unfolding chunk
no_chunk j bits from row has none = grind (arith, length-packed, length-lane, drop_all)

-- a chunk is its own bits packed
pub some_chunk : (j bits from count : ℕ) (row : List Bool) → HasBits row from bits → 0 < count → count ≡ min (bits - 32768 * j) 32768
    → chunk j (packed (take bits (drop from row))) ≡ packed (take count (drop (from + 32768 * j) row))
some_chunk j bits from count row has some is = chunk-part row from bits j count (has (omega arith)).0 (omega arith) is

pub short_header : (version : ℕ) (bits : List ℕ) → length (header_of version bits) ≤ 16
unfolding header_of
short_header version bits = grind (arith, length-header_two, length-header)

-- the capture of parts of rows
pub record Layouts (version : ℕ) (x y z : List Bool) (bits : List ℕ) (most : ℕ) : Type 0 where
  pub is : layout version x y z ≡ header_of version bits ++ blocks_below (((most + 7) / 8 + 4095) / 4096) (packed x) (packed y) (packed z)
  pub after : (j : ℕ) → j < ((most + 7) / 8 + 4095) / 4096 → (rest : List ℕ) × (layout version x y z ≡ ((header_of version bits ++ blocks_below j (packed x) (packed y) (packed z)) ++ block j (packed x) (packed y) (packed z)) ++ rest)

same_header : (version : ℕ) (u v : List ℕ) → slice_index u 0 ≡ slice_index v 0 → slice_index u 1 ≡ slice_index v 1 → slice_index u 2 ≡ slice_index v 2 → header_of version u ≡ header_of version v
unfolding header_of header_two
same_header version u v a b c = grind arith

pub layouts : (version : ℕ) (x y z : List Bool) (bits : List ℕ) (most : ℕ) → length x ≡ slice_index bits 0 → length y ≡ slice_index bits 1 → length z ≡ slice_index bits 2
    → most ≡ max (slice_index bits 0) (max (slice_index bits 1) (slice_index bits 2)) → Layouts version x y z bits most
unfolding layout lane_blocks
layouts version x y z bits most ex ey ez is =
    let n = ((most + 7) / 8 + 4095) / 4096 in
    let a = packed x in
    let b = packed y in
    let d = packed z in
    let h = header_of version bits in
    let count : blocks_of (max (length a) (max (length b) (length d))) ≡ n = omega (arith, is, ex, ey, ez, length-packed x, length-packed y, length-packed z) in
    let own : layout version x y z ≡ h ++ blocks_below n a b d = ap₂ (λ p k. p ++ blocks_below k a b d) (same_header version (counts_of x y z) bits ex ey ez) count in
    record {
      is = own;
      after = λ j lt.
          let more = blocks_after j n a b d lt in (
            more.0,
            own
                ∙ ap (λ xs. h ++ xs) more.1
                ∙ sym (append_assoc h (blocks_below j a b d ++ block j a b d) more.0)
                ∙ ap (λ xs. xs ++ more.0) (sym (append_assoc h (blocks_below j a b d) (block j a b d))),
          );
    }
