-- A line of which no fault is reported: its columns spell its bytes.
use Rattle.std.proofs.Common.{◌≡◌, ℕ, suc, zero, ◌+◌, ◌*◌, ◌<◌, ◌≤◌, Bool, true, cond, List, [], ◌∷◌, length, map, take, get_or, refl, ap, ap₂, sym, subst, arith}
use Rattle.std.specs.Prelude.{nat_le, Option, Some, None, ℤ, pos, ◌+ℤ◌}
use Rattle.std.proofs.Math.IntN.{+ℤ_assoc, +ℤ_idl, +ℤ_idr}
use Rattle.std.proofs.lemmas.Bool.{eqb-true, eq-eqb, lt-ltb, le-leb, leb-true}
use Rattle.std.proofs.lemmas.List.{take_all, length-map, get_or-map}
use Rattle.tmds_word.specs.Bits.{word_bits, balance}
use Rattle.tmds_word.specs.Column.{Column, column_of}
use Rattle.tmds_word.proofs.Below.{and-left, and-right}
use Rattle.tmds_code.specs.Coding.{Coded, decoded_byte}
use Rattle.tmds_code.specs.Lanes.{disparity_of, IsLane}
use Rattle.terc4.specs.Tables.{video_guard}
use Rattle.terc4.specs.Columns.{is_video_guard}
use Rattle.island_pack.specs.Periods.{Pixel, pixels_of}
use Rattle.island_pack.specs.Conforming.{are_bytes, is_video_period}
use Rattle.island_pack.specs.Spelling.{SpellsPixels}
use Rattle.period_grammar.specs.Coding.{is_coded, first_from, first_uncoded}
use Rattle.period_grammar.specs.Events.{long_line}
use Rattle.period_grammar.specs.Heard.{if_not, line_bytes, codes_of, line_of}
use Rattle.link_laws.proofs.Rows.{and_both}
use Rattle.link_laws.proofs.exact.Faultless.{Fine, fine_left, fine_right, if_not_fine, code_fine}
use Rattle.period_grammar.proofs.Bytes.{decoded_below}

-- One lane.

cond_none : (p : Bool) (o : Option ℕ) (n : ℕ) → cond p o (Some n) ≡ None → (p ≡ true) × (o ≡ None)
cond_none p o n h = grind arith

coded_from : (d : ℤ) (n : ℕ) (ws : List ℕ) → first_from d n ws ≡ None → (j : ℕ) → j < length ws → Coded (d +ℤ disparity_of (take j ws)) (decoded_byte (get_or ws j 0)) (get_or ws j 0)
unfolding disparity_of is_coded
coded_from d n [] h j lt = absurd (omega arith)
coded_from d n (w ∷ ws) h zero lt =
    subst (λ e. Coded e (decoded_byte w) w) (sym (+ℤ_idr d)) (eqb-true w _ (cond_none _ _ n h).0)
coded_from d n (w ∷ ws) h (suc j) lt =
    subst (λ e. Coded e (decoded_byte (get_or ws j 0)) (get_or ws j 0)) (+ℤ_assoc d (balance (word_bits w)) (disparity_of (take j ws)))
    (coded_from (d +ℤ balance (word_bits w)) (n + 1) ws (cond_none _ _ n h).1 j (omega arith))

lane_of : (ws : List ℕ) → first_uncoded ws ≡ None → IsLane (map decoded_byte ws) ws
lane_of ws h = record {
  same_length = sym (length-map ws decoded_byte);
  coded = λ j lt.
      subst (λ d. Coded d (get_or (map decoded_byte ws) j 0) (get_or ws j 0)) (+ℤ_idl (disparity_of (take j ws)))
      (subst (λ b. Coded (pos 0 +ℤ disparity_of (take j ws)) b (get_or ws j 0)) (sym (get_or-map decoded_byte ws j 0 0 lt)) (coded_from (pos 0) 0 ws h j lt));
}

-- Bytes.

line_small : (cs : List Column) → are_bytes (line_bytes cs) ≡ true
unfolding line_bytes
line_small [] = refl
line_small (c ∷ cs) = grind (arith, and_both, lt-ltb, decoded_below, line_small cs)

line_long : (cs : List Column) → length (line_bytes cs) ≡ 3 * length cs
unfolding line_bytes
line_long [] = refl
line_long (c ∷ cs) = let ih = line_long cs in omega arith

pub line_period : (cs : List Column) → 1 ≤ length cs → length cs ≤ 4096 → is_video_period (line_bytes cs) ≡ true
unfolding is_video_period
line_period cs some few = grind (arith, line_long, and_both, line_small, eq-eqb, le-leb)

-- Pixels.

abbrev seen : Column → Pixel
seen c = record { red = decoded_byte c.red; green = decoded_byte c.green; blue = decoded_byte c.blue }

pixels_seen : (cs : List Column) → pixels_of (line_bytes cs) ≡ map seen cs
unfolding pixels_of line_bytes
pixels_seen [] = refl
pixels_seen (c ∷ cs) = ap (λ ps. seen c ∷ ps) (pixels_seen cs)

lane_seen : (f : Pixel → ℕ) (g : Column → ℕ) → ((c : Column) → f (seen c) ≡ decoded_byte (g c)) → (cs : List Column) → map f (map seen cs) ≡ map decoded_byte (map g cs)
lane_seen f g e [] = refl
lane_seen f g e (c ∷ cs) = ap₂ (λ (x : ℕ) (xs : List ℕ). x ∷ xs) (e c) (lane_seen f g e cs)

pub line_spelled : (s : ℕ) (cs : List Column) → Fine (codes_of s cs) → SpellsPixels (pixels_of (line_bytes cs)) cs
unfolding codes_of
line_spelled s cs h = grind (arith, fine_right, code_fine, fine_left, pixels_seen, lane_seen, lane_of)

-- a line that closes without a fault
pub record IsLine (cs : List Column) : Type 0 where
  pub period : is_video_period (line_bytes cs) ≡ true
  pub spelled : SpellsPixels (pixels_of (line_bytes cs)) cs

pub line_fine : (b : ℕ) (cs : List Column) → Fine (line_of b cs) → IsLine cs
unfolding line_of
line_fine b [] h = absurd cc
line_fine b (c ∷ cs) h =
    let codes = codes_of (b + 2) (take 4096 (c ∷ cs)) in
    let over = if_not (nat_le (length (c ∷ cs)) 4096) (long_line b) in
    let few = leb-true (length (c ∷ cs)) 4096 (if_not_fine _ (long_line b) refl (fine_right codes over h)) in
    let whole = take_all 4096 (c ∷ cs) few in
    record {
      period = line_period (c ∷ cs) (omega arith) few;
      spelled = line_spelled (b + 2) (c ∷ cs) (subst (λ xs. Fine (codes_of (b + 2) xs)) whole (fine_left codes over h));
    }

-- A guard column before it.

pub guard_is : (c : Column) → is_video_guard c ≡ true → c ≡ column_of video_guard
unfolding is_video_guard
guard_is c h = grind (arith, and-right, eqb-true, and-left)
