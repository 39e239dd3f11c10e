-- What a finder knows after it passed many characters.
use Rattle.std.proofs.Common.{◌≡◌, ℕ, suc, zero, ◌+◌, ◌-◌, ◌*◌, ◌/◌, ◌%◌, ◌<◌, ◌≤◌, min, Bool, false, List, take, drop, refl, ap, ◌∙◌, sym, subst, arith, inl, inr}
use Rattle.std.proofs.lemmas.Bool.{cases_lt}
use Rattle.tmds_word.specs.Bits.{number}
use Rattle.terc4.specs.Tables.{is_control}
use Rattle.lane_align.specs.Lanes.{HasControl}
use Rattle.lane_align.proofs.Calm.{control_is}
use Rattle.lane_align.proofs.Edges.{control_no_edge}
use Rattle.lane_align.proofs.Parts.{same_control}
use Rattle.lane_track.specs.Scouts.{HoldsBits}
use Rattle.lane_edges.specs.Finders.{HasScanned, HasCounted, HasNoEdge}
use Rattle.lane_edges.specs.Passing.{IsOther, HasOther, EndsOther, Repeats}
use Rattle.lane_edges.specs.declared.finder.EdgeFinder.{EdgeFinder}
use Rattle.lane_edges.proofs.Holding.{ten_held}
use Rattle.lane_edges.proofs.Beginning.{counted_others, counted_controls}
use Rattle.lane_edges.proofs.Scanning.{edge_apart}

module _ (bits xs : List Bool) (skip base count : ℕ) (holds : HoldsBits (drop skip bits) xs base count) (lock from : ℕ) (before now : EdgeFinder)
    (was : HasScanned xs lock before) (after : base ≤ before.next) (passed : ℕ) (whole : passed % 10 ≡ 0) (within : before.next + passed ≤ base + count)
    (at : now.next ≡ before.next + passed) (none : HasNoEdge xs from before.next) where
  other_lane : (q : ℕ) → q + 10 ≤ passed → IsOther bits (skip + (before.next - base) + q) → HasControl xs (before.next + q) → ⊥
  other_lane q less other has =
      let p = before.next + q in
      let e : skip + (before.next - base) + q ≡ skip + (p - base) = omega arith in
      let ten = ten_held bits xs skip base count p holds (omega arith) (omega arith) in
      let no : is_control (number (take 10 (drop p xs))) ≡ false = ap (λ ys. is_control (number ys)) (sym ten) ∙ subst (IsOther bits) e other in
      let is = control_is xs p has in
      cc

  -- where others run up to a character no control words do
  pub no_run : 3 ≤ before.others → before.run ≡ 0
  no_run three = elim (cases_lt 0 before.run) [
    | inl some ↦ absurd (was.counted.none 0 (omega arith) (was.control 0 some))
    | inr none ↦ omega arith
  ]

  counted_passed : 3 ≤ before.others → now.others ≡ before.others → now.begun ≡ before.begun → (0 < passed → EndsOther bits (skip + (before.next - base)) passed) → HasCounted xs lock now.next now.others now.begun
  counted_passed three same begun ends = elim (cases_lt 0 passed) [
    | inl some ↦
        let end = ends some in
        let enough = end.enough in
        let few = was.counted.few in
        let past = was.past in
        counted_others xs lock now.next now.others now.begun (omega arith) (omega arith) (omega arith)
        (λ k lt has.
        let e : now.next - 10 - 10 * k ≡ before.next + (passed - 10 - 10 * k) = omega arith in
        other_lane (passed - 10 - 10 * k) (omega arith) (end.three k lt) (subst (HasControl xs) e has))
    | inr nought ↦
        let e : before.next ≡ now.next = omega arith in
        subst (λ n. HasCounted xs lock n now.others now.begun) e
        (subst (λ n. HasCounted xs lock before.next n now.begun) (sym same) (subst (HasCounted xs lock before.next before.others) (sym begun) was.counted))
  ]

  -- others
  pub others_passed : 3 ≤ before.others → now.run ≡ before.run → now.others ≡ before.others → now.begun ≡ before.begun → HasOther bits (skip + (before.next - base)) passed
      → (0 < passed → EndsOther bits (skip + (before.next - base)) passed) → HasScanned xs lock now × HasNoEdge xs from now.next
  others_passed three still same begun others ends =
      let empty = no_run three in
      let past = was.past in
      let aligned = was.aligned in
      let long = holds.within in (
        record {
          is_lock = was.is_lock;
          past = omega arith;
          aligned = omega arith;
          within = omega arith;
          few = omega arith;
          control = λ k lt. absurd (omega arith);
          other = λ lt has. elim (cases_lt 0 passed) [
            | inl some ↦
                let e : now.next - 10 - 10 * now.run ≡ before.next + (passed - 10) = omega arith in
                other_lane (passed - 10) (omega arith) (others.last some) (subst (HasControl xs) e has)
            | inr nought ↦
                let e : now.next - 10 - 10 * now.run ≡ before.next - 10 - 10 * before.run = omega arith in
                was.other (omega arith) (subst (HasControl xs) e has)
          ];
          counted = counted_passed three same begun ends;
        },
        subst (HasNoEdge xs from) (sym at) no_edge,
      )
    where
      no_edge : HasNoEdge xs from (before.next + passed)
      no_edge e from_e less edge = elim (cases_lt e before.next) [
        | inl early ↦ none e from_e early edge
        | inr late ↦
            let empty = no_run three in
            let past = was.past in
            let apart = edge_apart xs lock e before was edge in
            let d = e - before.next in
            elim (cases_lt d 120) [
              | inl near ↦
                  let k = 11 - d / 10 in
                  let place : e - 120 + 10 * k ≡ before.next - 10 - 10 * before.run = omega arith in
                  was.other (omega arith) (subst (HasControl xs) place (edge.run k (omega arith)))
              | inr far ↦
                  let found = others.some d far (omega arith) (omega arith) in
                  let q = found.0 in
                  let tens = found.1 in
                  let low = found.2 in
                  let high = found.3 in
                  let k = (q + 120 - d) / 10 in
                  let place : e - 120 + 10 * k ≡ before.next + q = omega arith in
                  other_lane q (omega arith) found.4 (subst (HasControl xs) place (edge.run k (omega arith)))
            ]
      ]

  -- control words
  pub controls_passed : 4 ≤ before.run → base + 40 ≤ before.next → now.run ≡ min (before.run + passed / 10) 12 → now.others ≡ before.others → now.begun ≡ before.begun → Repeats bits (skip + (before.next - base)) passed
      → HasScanned xs lock now × HasNoEdge xs from now.next
  controls_passed many far counted same begun repeats =
      let past = was.past in
      let aligned = was.aligned in
      let few = was.few in
      let long = holds.within in (
        record {
          is_lock = was.is_lock;
          past = omega arith;
          aligned = omega arith;
          within = omega arith;
          few = omega arith;
          control = λ k lt. elim (cases_lt k (passed / 10)) [
            | inl new ↦
                let i = passed / 10 - 1 - k in
                let e : before.next + 10 * i ≡ now.next - 10 - 10 * k = omega arith in
                subst (HasControl xs) e (repeated i (omega arith))
            | inr old ↦
                let e : before.next - 10 - 10 * (k - passed / 10) ≡ now.next - 10 - 10 * k = omega arith in
                subst (HasControl xs) e (was.control (k - passed / 10) (omega arith))
          ];
          other = λ lt has.
              let e : now.next - 10 - 10 * now.run ≡ before.next - 10 - 10 * before.run = omega arith in
              was.other (omega arith) (subst (HasControl xs) e has);
          counted = subst (λ n. HasCounted xs lock n now.others now.begun) (sym at)
              (subst (λ n. HasCounted xs lock (before.next + passed) n now.begun) (sym same) (subst (HasCounted xs lock (before.next + passed) before.others) (sym begun)
              (counted_controls xs lock before.next (before.next + passed) before.others before.begun was.is_lock aligned (omega arith) (control_until before.next (omega arith) (omega arith) refl)
              (control_until (before.next + passed) (omega arith) (omega arith) (omega arith)) (λ q from_next less apart. control_until q from_next (omega arith) apart) was.counted)));
        },
        subst (HasNoEdge xs from) (sym at) no_edge,
      )
    where
      again : (i : ℕ) → 10 * i + 10 ≤ passed → HasControl xs (before.next + 10 * i - 40) → HasControl xs (before.next + 10 * i)
      again i less has =
          let p = before.next + 10 * i in
          let place = skip + (before.next - base) in
          let long = holds.within in
          let here : place + 10 * i ≡ skip + (p - base) = omega arith in
          let there : place + 10 * i - 40 ≡ skip + (p - 40 - base) = omega arith in
          let same : take 10 (drop (p - 40) xs) ≡ take 10 (drop p xs) =
          sym (ten_held bits xs skip base count (p - 40) holds (omega arith) (omega arith))
          ∙ ap (λ n. take 10 (drop n bits)) (sym there)
          ∙ sym (repeats (10 * i) less)
          ∙ ap (λ n. take 10 (drop n bits)) here
          ∙ ten_held bits xs skip base count p holds (omega arith) (omega arith) in
          same_control xs xs (p - 40) p same (omega arith) has

      first : (i : ℕ) → i < 4 → HasControl xs (before.next + 10 * i - 40)
      first i lt =
          let past = was.past in
          let e : before.next - 10 - 10 * (3 - i) ≡ before.next + 10 * i - 40 = omega arith in
          subst (HasControl xs) e (was.control (3 - i) (omega arith))

      repeated : (i : ℕ) → 10 * i + 10 ≤ passed → HasControl xs (before.next + 10 * i)
      repeated zero less = again zero less (first zero (omega arith))
      repeated (suc zero) less = again 1 less (first 1 (omega arith))
      repeated (suc (suc zero)) less = again 2 less (first 2 (omega arith))
      repeated (suc (suc (suc zero))) less = again 3 less (first 3 (omega arith))
      repeated (suc (suc (suc (suc i)))) less =
          let e : before.next + 10 * i ≡ before.next + 10 * suc (suc (suc (suc i))) - 40 = omega arith in
          again (suc (suc (suc (suc i)))) less (subst (HasControl xs) e (repeated i (omega arith)))

      control_until : (q : ℕ) → before.next ≤ q → q ≤ before.next + passed → q % 10 ≡ before.next % 10 → HasControl xs (q - 10)
      control_until q after until apart = elim (cases_lt before.next q) [
        | inl past ↦
            let i = (q - before.next) / 10 - 1 in
            let e : before.next + 10 * i ≡ q - 10 = omega arith in
            subst (HasControl xs) e (repeated i (omega arith))
        | inr first ↦ let e : before.next - 10 - 10 * 0 ≡ q - 10 = omega arith in subst (HasControl xs) e (was.control 0 (omega arith))
      ]

      no_edge : HasNoEdge xs from (before.next + passed)
      no_edge e from_e less edge = elim (cases_lt e before.next) [
        | inl early ↦ none e from_e early edge
        | inr late ↦
            let apart = edge_apart xs lock e before was edge in
            let i = (e - before.next) / 10 in
            let place : before.next + 10 * i ≡ e = omega arith in
            control_no_edge xs e (subst (HasControl xs) place (repeated i (omega arith))) edge
      ]
