-- Three lanes: their parts, the longest of them, and how they grow.
use Rattle.std.proofs.Common.{◌≡◌, ◌⊎◌, ℕ, suc, zero, ◌+◌, ◌<◌, ◌≤◌, max, Bool, List, [], ◌++◌, length, take, drop, refl, ap, ap₂, ◌∙◌, sym, arith, inl, inr, append_assoc, append-nil, length-append, length-drop}
use Rattle.std.proofs.lemmas.Bool.{cases_lt}
use Rattle.std.proofs.lemmas.List.{drop-drop, drop-append-le, take-append-le, take_all}
use Rattle.link_sink.specs.Sinks.{Fed}
use Rattle.track_sink.specs.Epochs.{lane_of, rest_of, front_of, most_of}
use Rattle.track_sink.specs.Tracks.{Grows}

pub lane_of_rest : (z : ℕ) (fed : Fed) (l : ℕ) → lane_of (rest_of z fed) l ≡ drop z (lane_of fed l)
lane_of_rest z fed zero = refl
lane_of_rest z fed (suc zero) = refl
lane_of_rest z fed (suc (suc l)) = refl

-- lanes that are the same, each by itself
pub same_fed : (x y : Fed) → x.blue ≡ y.blue → x.green ≡ y.green → x.red ≡ y.red → x ≡ y
same_fed x y b g r = λ i. record { blue = b i; green = g i; red = r i }

pub rest_of_rest : (y z : ℕ) (fed : Fed) → rest_of y (rest_of z fed) ≡ rest_of (z + y) fed
rest_of_rest y z fed = same_fed (rest_of y (rest_of z fed)) (rest_of (z + y) fed) (drop-drop y z fed.blue) (drop-drop y z fed.green) (drop-drop y z fed.red)

-- each lane is no longer than the longest, which is one of them
pub no_longer : (fed : Fed) (l : ℕ) → length (lane_of fed l) ≤ most_of fed
no_longer fed zero = omega arith
no_longer fed (suc zero) = omega arith
no_longer fed (suc (suc l)) = omega arith

pub longest_is : (fed : Fed) (C : Type 0) → ((l : ℕ) → l < 3 → most_of fed ≡ length (lane_of fed l) → C) → C
longest_is fed C one = elim (cases_lt (max (length fed.green) (length fed.red)) (length fed.blue)) [
  | inl blue ↦ one 0 (omega arith) (omega arith)
  | inr others ↦ elim (cases_lt (length fed.red) (length fed.green)) [
    | inl green ↦ one 1 (omega arith) (omega arith)
    | inr red ↦ one 2 (omega arith) (omega arith)
  ]
]

-- Growing.

-- a lane grows twice
pub grows_twice : (x y z : Fed) → Grows x y → Grows y z → Grows x z
grows_twice x y z first second l lt =
    let a = first l lt in
    let b = second l lt in
    let is : lane_of z l ≡ lane_of x l ++ (a.0 ++ b.0) = b.1 ∙ ap (λ us. us ++ b.0) a.1 ∙ append_assoc (lane_of x l) a.0 b.0 in (
      a.0 ++ b.0,
      is,
      elim a.2 [
        | inl longest ↦ inl longest
        | inr none ↦ elim b.2 [
          | inl longest ↦ inl (λ m few.
              let c = first m few in
              let h = longest m few in
              let lc = ap length c.1 ∙ length-append (lane_of x m) c.0 in
              let la = ap length a.1 ∙ length-append (lane_of x l) a.0 in
              let ln = ap (λ (us : List Bool). length us) none in
              omega arith)
          | inr still ↦ inr (ap₂ (λ us vs. us ++ vs) none still)
        ]
      ],
    )

-- what is cut of a lane that grows, up to a place that it has reached
front_stays : (xs more : List Bool) (start handed : ℕ) → (start + handed ≤ length xs) ⊎ (more ≡ []) → take handed (drop start (xs ++ more)) ≡ take handed (drop start xs)
front_stays xs more start handed (inl reached) =
    ap (take handed) (drop-append-le start xs more (omega arith)) ∙ take-append-le handed (drop start xs) more (omega (arith, length-drop start xs))
front_stays xs more start handed (inr none) = ap (λ us. take handed (drop start us)) (ap (λ us. xs ++ us) none ∙ append-nil xs)

pub fronts_stay : (x y : Fed) (start handed : ℕ) → Grows x y → start + handed ≤ most_of x → front_of handed (rest_of start y) ≡ front_of handed (rest_of start x)
fronts_stay x y start handed grows reached = grind (arith, same_fed, front_stays)

-- what is left of the lanes grows as they do
rest_grows_lane : (x y : Fed) (start l : ℕ) → l < 3 → Grows x y → start ≤ most_of x
    → (more : List Bool) × (drop start (lane_of y l) ≡ drop start (lane_of x l) ++ more) × (((m : ℕ) → m < 3 → length (drop start (lane_of x m)) ≤ length (drop start (lane_of x l))) ⊎ (more ≡ []))
rest_grows_lane x y start l lt grows reached =
    let a = grows l lt in
    elim a.2 [
      | inl longest ↦ (
        a.0,
        ap (drop start) a.1 ∙ drop-append-le start (lane_of x l) a.0 (longest_is x (start ≤ length (lane_of x l)) (λ m few e. let h = longest m few in omega arith)),
        inl (λ m few. let h = longest m few in omega (arith, length-drop start (lane_of x m), length-drop start (lane_of x l))),
      )
      | inr none ↦ (
        [],
        ap (drop start) (a.1 ∙ ap (λ us. lane_of x l ++ us) none ∙ append-nil (lane_of x l)) ∙ sym (append-nil (drop start (lane_of x l))),
        inr refl,
      )
    ]

pub rest_grows : (x y : Fed) (start : ℕ) → Grows x y → start ≤ most_of x → Grows (rest_of start x) (rest_of start y)
rest_grows x y start grows reached l lt =
    let a = rest_grows_lane x y start l lt grows reached in (
      a.0,
      lane_of_rest start y l ∙ a.1 ∙ ap (λ us. us ++ a.0) (sym (lane_of_rest start x l)),
      elim a.2 [
        | inl longest ↦ inl (λ m few.
            let h = longest m few in
            let e = ap length (lane_of_rest start x m) in
            let g = ap length (lane_of_rest start x l) in
            omega arith)
        | inr none ↦ inr none
      ],
    )

pub whole_front : (fed : Fed) (start handed : ℕ) → most_of fed ≤ start + handed → front_of handed (rest_of start fed) ≡ rest_of start fed
whole_front fed start handed all = grind (arith, same_fed, take_all, length-drop)

-- lanes to which nothing is added
pub same_grows : (fed : Fed) → Grows fed fed
same_grows fed l lt = ([], sym (append-nil (lane_of fed l)), inr refl)

-- lanes that grow are no shorter
longer_lane : (x y : Fed) (l : ℕ) → l < 3 → Grows x y → length (lane_of x l) ≤ length (lane_of y l)
longer_lane x y l lt grows = let a = grows l lt in let e = ap length a.1 ∙ length-append (lane_of x l) a.0 in omega arith

pub most_grows : (x y : Fed) → Grows x y → most_of x ≤ most_of y
most_grows x y grows = let a = longer_lane x y 0 (omega arith) grows in let b = longer_lane x y 1 (omega arith) grows in let c = longer_lane x y 2 (omega arith) grows in omega arith

-- what is left of the longest lane from a place on that it reaches
pub most_rest : (fed : Fed) (start : ℕ) → start ≤ most_of fed → most_of (rest_of start fed) + start ≡ most_of fed
most_rest fed start reached = omega (arith, length-drop start fed.blue, length-drop start fed.green, length-drop start fed.red)

-- a lane of the epoch is no longer than the longest
pub rest_no_longer : (fed : Fed) (start l : ℕ) → start ≤ most_of fed → length (lane_of (rest_of start fed) l) + start ≤ most_of fed
rest_no_longer fed start l reached = let e = ap length (lane_of_rest start fed l) ∙ length-drop start (lane_of fed l) in let h = no_longer fed l in omega arith
