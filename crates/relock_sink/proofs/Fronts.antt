-- The first bits of lanes: how far they were looked through, and how they are lent.
use Rattle.std.proofs.Common.{◌≡◌, ℕ, ◌+◌, ◌-◌, ◌≤◌, min, Bool, List, length, take, drop, Option, Some, None, ap, ◌∙◌, sym, subst, arith, inl, inr, length-take, take-take}
use Rattle.std.proofs.lemmas.Bool.{cases_lt}
use Rattle.std.proofs.lemmas.List.{take_all, drop-take, drop-drop, take-append-drop}
use Rattle.lane_align.proofs.Parts.{run_of_front, run_in_front, take_piece}
use Rattle.lane_track.specs.Strays.{IsStray}
use Rattle.lane_track.specs.Scouts.{HasSought}
use Rattle.lane_track.proofs.Strays.{stray_grows}
use Rattle.link_sink.specs.Sinks.{Fed}
use Rattle.track_sink.specs.Epochs.{front_of}
use Rattle.track_sink.specs.Seeking.{IsSought}
use Rattle.track_sink.specs.declared.strays.Strays.{Strays}
use Rattle.relock_sink.specs.FrontsGrowing.{most_front}

-- what is known of the places before one needs no later bits
sought_taken : (xs : List Bool) (n seen : ℕ) (lock : Option ℕ) → seen + 119 ≤ n → HasSought xs seen lock → HasSought (take n xs) seen lock
sought_taken xs n seen None long was = record {
  lock = λ p lt run. was.lock p lt (run_of_front n xs p run);
  none = λ p lt stray. was.lock p lt (run_of_front n xs p stray.run);
}
sought_taken xs n seen (Some l) long was =
    let before = was.lock.1 in
    record {
      lock = (
        record { run = run_in_front n xs l (omega arith) was.lock.0.run; least = λ q lt run. was.lock.0.least q lt (run_of_front n xs q run) },
        before,
      );
      none = λ p lt stray. was.none p lt (subst (λ ys. IsStray ys p) (take-append-drop n xs) (stray_grows (take n xs) (drop n xs) p stray));
    }

pub sought_front : (w : Strays) (n : ℕ) (fed : Fed) → w.seen + 119 ≤ n → IsSought w fed → IsSought w (front_of n fed)
sought_front w n fed long was =
    let most = most_front n fed in
    record {
      sought = record {
        blue = sought_taken fed.blue n w.seen w.blue.lock long was.sought.blue;
        green = sought_taken fed.green n w.seen w.green.lock long was.sought.green;
        red = sought_taken fed.red n w.seen w.red.lock long was.sought.red;
      };
      decided = elim was.decided [ inl none ↦ inl none | inr some ↦ inr (omega arith) ];
    }

-- Bits that are lent.

take_least : (ys : List Bool) (m n : ℕ) → m ≡ length ys → take (min m n) ys ≡ take n ys
take_least ys m n e = elim (cases_lt n m) [
  | inl few ↦ let f : min m n ≡ n = omega arith in ap (λ k. take k ys) f
  | inr many ↦ let f : min m n ≡ m = omega arith in ap (λ k. take k ys) f ∙ take_all m ys (omega arith) ∙ sym (take_all n ys (omega arith))
]

-- so many of them, or all, are the first bits of the lane from there on
pub first_lent : (bits xs : List Bool) (base count n some : ℕ) → take count bits ≡ drop base xs → count ≡ length (drop base xs) → some ≡ min count n
    → take some bits ≡ drop base (take (base + n) xs)
first_lent bits xs base count n some same many is =
    ap (λ k. take k bits) is
    ∙ sym (take-take (min count n) count bits (omega arith))
    ∙ ap (take (min count n)) same
    ∙ take_least (drop base xs) count n many
    ∙ sym (drop-take base n xs)

pub first_many : (xs : List Bool) (base count n some : ℕ) → count ≡ length (drop base xs) → some ≡ min count n → some ≡ length (drop base (take (base + n) xs))
first_many xs base count n some many is = omega (arith, length-take n (drop base xs), ap length (drop-take base n xs))

-- the ten bits at a place of a lane that is lent
pub ten_lent : (bits xs : List Bool) (skip base count place : ℕ) → take count (drop skip bits) ≡ drop base xs → base ≤ place → (place - base) + 10 ≤ count
    → take 10 (drop (skip + (place - base)) bits) ≡ take 10 (drop place xs)
ten_lent bits xs skip base count place same after long =
    let q = place - base in
    let e : base + q ≡ place = omega arith in
    ap (take 10) (sym (drop-drop q skip bits))
    ∙ sym (take_piece count q 10 (drop skip bits) long)
    ∙ ap (λ ys. take 10 (drop q ys)) same
    ∙ ap (take 10) (drop-drop q base xs ∙ ap (λ m. drop m xs) e)
