-- A first full alignment that is decided stays, whatever is received after it.
use Rattle.std.proofs.Common.{◌≡◌, ℕ, suc, zero, ◌+◌, ◌-◌, ◌*◌, ◌<◌, ◌≤◌, Bool, List, [], ◌∷◌, ◌++◌, length, map, take, drop, refl, ap, sym, ◌∙◌, subst, arith, length-append, length-take-le, length-drop}
use Rattle.std.specs.Prelude.{slice_index}
use Rattle.std.proofs.lemmas.List.{length-map, map-append, take-append-le, drop-append-le, take-append-drop, take-take, get_or-take}
use Rattle.std.proofs.Math.ListN.{get_or-append}
use Rattle.tmds_word.specs.Bits.{row_bits}
use Rattle.tmds_word.specs.Column.{Column, blues, greens, reds}
use Rattle.tmds_word.specs.Taps.{part_of, IsPart, IsTap}
use Rattle.tmds_word.proofs.Lists.{row_bits-append, length-row_bits}
use Rattle.lane_deskew.specs.Growing.{HasGrown}
use Rattle.lane_deskew.specs.Triples.{IsFirst}
use Rattle.lane_deskew.proofs.Fed.{first_stays}
use Rattle.island_pack.specs.Kinds.{kinds_of}
use Rattle.island_pack.specs.Sparse.{no_column, column_at}
use Rattle.link_laws.specs.Laws.{ReceivedFreely, EndsControl, AlignsUntil, HoldsEnd}
use Rattle.link_laws.specs.Local.{AlignedWhateverFollows}
use Rattle.link_laws.proofs.Shapes.{alternating, ends_late}
use Rattle.link_laws.proofs.Aligned.{columns_taken}
use Rattle.link_laws.proofs.Aligning.{first_until}
use Rattle.link_laws.proofs.Tapped.{ends, begin_at, characters}

-- a part that lies in the first words has nothing of those after them
part_front : (us ws : List ℕ) (from count : ℕ) → from + count ≤ 10 * length us → part_of (us ++ ws) from count ≡ part_of us from count
part_front us ws from count le =
    let n = length-row_bits us in
    let d = length-drop from (row_bits us) in
    ap (λ bs. take count (drop from bs)) (row_bits-append us ws)
    ∙ ap (take count) (drop-append-le from (row_bits us) (row_bits ws) (omega arith))
    ∙ take-append-le count (drop from (row_bits us)) (row_bits ws) (omega arith)

part_grows : (words : List ℕ) (from few many : ℕ) → few ≤ many → HasGrown (part_of words from few) (part_of words from many)
part_grows words from few many le =
    let bits = drop from (row_bits words) in
    (drop few (take many bits), sym (take-append-drop few (take many bits)) ∙ ap (λ bs. bs ++ drop few (take many bits)) (take-take few many bits le))

-- the first n columns with others after them
abbrev pub spliced : ℕ → List Column → List Column → List Column
spliced n received sent = take n received ++ drop n sent

pub lane_front : (g : Column → ℕ) (received sent : List Column) (n from count : ℕ) → n ≤ length received → from + count ≤ 10 * n
    → part_of (map g received) from count ≡ part_of (map g (spliced n received sent)) from count
lane_front g received sent n from count within le =
    let front = take n received in
    let l = length-map front g in
    let t = length-take-le n received within in
    ap (λ cs. part_of (map g cs) from count) (sym (take-append-drop n received))
    ∙ ap (λ ws. part_of ws from count) (map-append g front (drop n received))
    ∙ part_front (map g front) (map g (drop n received)) from count (omega arith)
    ∙ sym (part_front (map g front) (map g (drop n sent)) from count (omega arith))
    ∙ ap (λ ws. part_of ws from count) (sym (map-append g front (drop n sent)))

pub lane_grown : (g : Column → ℕ) (received sent : List Column) (n from few many : ℕ) (bits : List Bool) → n ≤ length received → from + few ≤ 10 * n → few ≤ many → bits ≡ part_of (map g received) from many
    → HasGrown (part_of (map g (spliced n received sent)) from few) bits
lane_grown g received sent n from few many bits within le more is =
    subst (λ bs. HasGrown bs bits) (lane_front g received sent n from few within le)
    (subst (HasGrown (part_of (map g received) from few)) (sym is) (part_grows (map g received) from few many more))

-- a part of the spliced columns
pub lane_part : (g : Column → ℕ) (received sent : List Column) (n from count : ℕ) → n ≤ length received → from + count ≤ 10 * n
    → IsPart (map g (spliced n received sent)) from count (part_of (map g (spliced n received sent)) from count)
lane_part g received sent n from count within le =
    let l = length-map (spliced n received sent) g in
    let t = length-take-le n received within in
    let a = length-append (take n received) (drop n sent) in
    record { within = omega arith; bits_are = refl }

same_column : (received sent : List Column) (n i : ℕ) → n ≤ length received → i < n → column_at (spliced n received sent) i ≡ column_at received i
same_column received sent n i within lt =
    let t = length-take-le n received within in
    get_or-append (take n received) (drop n sent) no_column i (omega arith) ∙ get_or-take n received i no_column lt

pub aligned_whatever_follows : AlignedWhateverFollows
aligned_whatever_follows ps sent received f h offset skews counts x y z tapped small aligns =
    let n = f + 1 in
    let k1 = offset + slice_index skews 0 in
    let k2 = offset + slice_index skews 1 in
    let k3 = offset + slice_index skews 2 in
    let n1 = 10 * n - k1 in
    let n2 = 10 * n - k2 in
    let n3 = 10 * n - k3 in
    let few : List ℕ = n1 ∷ (n2 ∷ (n3 ∷ [])) in
    let cs = spliced n received sent in
    let w1 = tapped.blue_part.within in
    let w2 = tapped.green_part.within in
    let w3 = tapped.red_part.within in
    let l1 = length-map received (λ c. c.blue) in
    let b1 = aligns.holds.begins 0 (omega arith) in
    let b2 = aligns.holds.begins 1 (omega arith) in
    let b3 = aligns.holds.begins 2 (omega arith) in
    let r1 = aligns.holds.reaches 0 (omega arith) in
    let r2 = aligns.holds.reaches 1 (omega arith) in
    let r3 = aligns.holds.reaches 2 (omega arith) in
    let within : n ≤ length received = omega arith in
    let reception : ReceivedFreely ps sent cs = record { conforming = h.conforming; spelled = h.spelled; sparse = h.sparse } in
    let u = part_of (blues cs) k1 n1 in
    let v = part_of (greens cs) k2 n2 in
    let w = part_of (reds cs) k3 n3 in
    let tap : IsTap cs offset skews few u v w = record {
      blue_part = lane_part (λ c. c.blue) received sent n k1 n1 within (omega arith);
      green_part = lane_part (λ c. c.green) received sent n k2 n2 within (omega arith);
      red_part = lane_part (λ c. c.red) received sent n k3 n3 within (omega arith);
    } in
    let holds : HoldsEnd offset skews few f = record { begins = aligns.holds.begins; reaches = reaching offset skews f (omega arith) (omega arith) (omega arith) } in
    let until : AlignsUntil ps sent cs offset skews few f = record {
      after = aligns.after;
      spares = λ i le not_payload. same_column received sent n i within (omega arith) ∙ aligns.spares i le not_payload;
      holds = holds;
    } in
    let found = first_until ps sent cs reception offset skews few u v w tap small f until in
    let p = found.0 in
    let q = found.1 in
    let r = found.2 in
    let first : IsFirst x y z p q r = first_stays u v w x y z p q r
    (lane_grown (λ c. c.blue) received sent n k1 n1 (slice_index counts 0) x within (omega arith) (omega arith) tapped.blue_part.bits_are)
    (lane_grown (λ c. c.green) received sent n k2 n2 (slice_index counts 1) y within (omega arith) (omega arith) tapped.green_part.bits_are)
    (lane_grown (λ c. c.red) received sent n k3 n3 (slice_index counts 2) z within (omega arith) (omega arith) tapped.red_part.bits_are)
    found.3 in
    let end = found.4 in
    let i = end.0 in
    let before = end.2 in
    let edges = end.3 in
    let far = ends_late (kinds_of ps) (alternating ps h.conforming) i end.1 in
    let a = i - 11 in
    let same : i ≡ a + 11 = omega arith in
    let at = begin_at received offset skews counts x y z p q r i tapped first far edges in (
      p,
      q,
      r,
      first,
      (
        a,
        subst (λ j. EndsControl ps j) same end.1,
        omega arith,
        record {
          blue = ends p offset (slice_index skews 0) i far edges.blue;
          green = ends q offset (slice_index skews 1) i far edges.green;
          red = ends r offset (slice_index skews 2) i far edges.red;
        },
        columns_taken received k1 k2 k3 (slice_index counts 0) (slice_index counts 1) (slice_index counts 2) a x y z p q r at
            (characters (λ c. c.blue) received (λ j lt. (h.characters j lt).blue)) (characters (λ c. c.green) received (λ j lt. (h.characters j lt).green)) (characters (λ c. c.red) received (λ j lt. (h.characters j lt).red)),
      ),
    )
  where
    reaching : (offset : ℕ) (skews : List ℕ) (f : ℕ)
        → offset + slice_index skews 0 ≤ 10 * (f + 1) → offset + slice_index skews 1 ≤ 10 * (f + 1) → offset + slice_index skews 2 ≤ 10 * (f + 1)
        → (lane : ℕ) → lane < 3
        → 10 * f + 10 ≤ offset + slice_index skews lane + slice_index ((10 * (f + 1) - (offset + slice_index skews 0)) ∷ ((10 * (f + 1) - (offset + slice_index skews 1)) ∷ ((10 * (f + 1) - (offset + slice_index skews 2)) ∷ []))) lane
    reaching offset skews f e0 e1 e2 zero lt = omega arith
    reaching offset skews f e0 e1 e2 (suc zero) lt = omega arith
    reaching offset skews f e0 e1 e2 (suc (suc zero)) lt = omega arith
    reaching offset skews f e0 e1 e2 (suc (suc (suc lane))) lt = absurd (omega arith)
