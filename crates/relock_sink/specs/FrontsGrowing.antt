-- The first bits of lanes: lanes grow from them.
use Rattle.std.proofs.Common.{◌≡◌, ℕ, zero, suc, ◌≤◌, min, ◌++◌, length, take, drop, refl, ap, ◌∙◌, sym, subst, arith, inl, inr, length-take, take-take}
use Rattle.std.proofs.lemmas.Bool.{cases_lt}
use Rattle.std.proofs.lemmas.List.{take_all, drop_all, take-append-drop}
use Rattle.link_sink.specs.Sinks.{Fed}
use Rattle.track_sink.specs.Epochs.{lane_of, front_of, most_of}
use Rattle.track_sink.specs.Tracks.{Grows}
use Rattle.track_sink.specs.Feds.{same_fed, fronts_stay}

pub most_front : (n : ℕ) (fed : Fed) → most_of (front_of n fed) ≡ min n (most_of fed)
most_front n fed = omega (arith, length-take n fed.blue, length-take n fed.green, length-take n fed.red)

lane_front : (n : ℕ) (fed : Fed) (l : ℕ) → lane_of (front_of n fed) l ≡ take n (lane_of fed l)
lane_front n fed zero = refl
lane_front n fed (suc zero) = refl
lane_front n fed (suc (suc l)) = refl

-- lanes grow from their first bits
pub front_grows : (n : ℕ) (fed : Fed) → Grows (front_of n fed) fed
front_grows n fed l lt =
    let xs = lane_of fed l in
    let own = lane_front n fed l in (
      drop n xs,
      sym (ap (λ ys. ys ++ drop n xs) own ∙ take-append-drop n xs),
      elim (cases_lt (length xs) n) [
        | inl short ↦ inr (drop_all n xs (omega arith))
        | inr long ↦ inl (λ m few.
            let a = ap length own in
            let b = ap length (lane_front n fed m) in
            omega (arith, a, b, length-take n xs, length-take n (lane_of fed m)))
      ],
    )

-- the first bits of more of them
pub front_front : (n m : ℕ) (fed : Fed) → n ≤ m → front_of n (front_of m fed) ≡ front_of n fed
front_front n m fed le = same_fed (front_of n (front_of m fed)) (front_of n fed) (take-take n m fed.blue le) (take-take n m fed.green le) (take-take n m fed.red le)

pub fronts_grow : (n m : ℕ) (fed : Fed) → n ≤ m → Grows (front_of n fed) (front_of m fed)
fronts_grow n m fed le = subst (λ x. Grows x (front_of m fed)) (front_front n m fed le) (front_grows n (front_of m fed))

-- all of them
pub front_whole : (fed : Fed) → front_of (most_of fed) fed ≡ fed
front_whole fed = same_fed (front_of (most_of fed) fed) fed (take_all (most_of fed) fed.blue (omega arith)) (take_all (most_of fed) fed.green (omega arith)) (take_all (most_of fed) fed.red (omega arith))

-- what arrives later changes none of them
pub front_stays : (before now : Fed) (n : ℕ) → Grows before now → n ≤ most_of before → front_of n now ≡ front_of n before
front_stays before now n grows reached = fronts_stay before now 0 n grows (omega arith)
