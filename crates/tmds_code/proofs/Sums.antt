-- The sums of sixteen lanes in four steps.
use Rattle.std.proofs.Common.{◌≡◌, ℕ, zero, suc, ◌+◌, ◌%◌, ◌<◌, ◌++◌, List, [], ◌∷◌, length, get_or, replicate, arith}
use Rattle.std.specs.Simd.Lanes.{zip2, pick_l}
use Rattle.tmds_code.specs.Vectors.{sum_to}

abbrev added : List ℕ → List ℕ → List ℕ
added a b = zip2 (λ x y. (x + y) % 256) a b

abbrev pub stepped : List ℕ → List ℕ → List ℕ
stepped at v = added v (pick_l 0 (v ++ replicate 16 0) at)

abbrev pub in_four : List ℕ → List ℕ
in_four v =
    stepped (16 ∷ 16 ∷ 16 ∷ 16 ∷ 16 ∷ 16 ∷ 16 ∷ 16 ∷ 0 ∷ 1 ∷ 2 ∷ 3 ∷ 4 ∷ 5 ∷ 6 ∷ 7 ∷ [])
    (stepped (16 ∷ 16 ∷ 16 ∷ 16 ∷ 0 ∷ 1 ∷ 2 ∷ 3 ∷ 4 ∷ 5 ∷ 6 ∷ 7 ∷ 8 ∷ 9 ∷ 10 ∷ 11 ∷ [])
    (stepped (16 ∷ 16 ∷ 0 ∷ 1 ∷ 2 ∷ 3 ∷ 4 ∷ 5 ∷ 6 ∷ 7 ∷ 8 ∷ 9 ∷ 10 ∷ 11 ∷ 12 ∷ 13 ∷ [])
    (stepped (16 ∷ 0 ∷ 1 ∷ 2 ∷ 3 ∷ 4 ∷ 5 ∷ 6 ∷ 7 ∷ 8 ∷ 9 ∷ 10 ∷ 11 ∷ 12 ∷ 13 ∷ 14 ∷ []) v)))

at0 : (a0 : ℕ) → ((((((((a0 + 0) % 256) + 0) % 256) + 0) % 256) + 0) % 256) ≡ (a0) % 256
at0 a0 = omega arith

at1 : (a0 a1 : ℕ) → ((((((((a1 + a0) % 256) + 0) % 256) + 0) % 256) + 0) % 256) ≡ (a0 + (a1)) % 256
at1 a0 a1 = omega arith

at2 : (a0 a1 a2 : ℕ) → ((((((((a2 + a1) % 256) + ((a0 + 0) % 256)) % 256) + 0) % 256) + 0) % 256) ≡ (a0 + (a1 + (a2))) % 256
at2 a0 a1 a2 = omega arith

at3 : (a0 a1 a2 a3 : ℕ) → ((((((((a3 + a2) % 256) + ((a1 + a0) % 256)) % 256) + 0) % 256) + 0) % 256) ≡ (a0 + (a1 + (a2 + (a3)))) % 256
at3 a0 a1 a2 a3 = omega arith

at4 : (a0 a1 a2 a3 a4 : ℕ) → ((((((((a4 + a3) % 256) + ((a2 + a1) % 256)) % 256) + ((((a0 + 0) % 256) + 0) % 256)) % 256) + 0) % 256) ≡ (a0 + (a1 + (a2 + (a3 + (a4))))) % 256
at4 a0 a1 a2 a3 a4 = omega arith

at5 : (a0 a1 a2 a3 a4 a5 : ℕ) → ((((((((a5 + a4) % 256) + ((a3 + a2) % 256)) % 256) + ((((a1 + a0) % 256) + 0) % 256)) % 256) + 0) % 256) ≡ (a0 + (a1 + (a2 + (a3 + (a4 + (a5)))))) % 256
at5 a0 a1 a2 a3 a4 a5 = omega arith

at6 : (a0 a1 a2 a3 a4 a5 a6 : ℕ) → ((((((((a6 + a5) % 256) + ((a4 + a3) % 256)) % 256) + ((((a2 + a1) % 256) + ((a0 + 0) % 256)) % 256)) % 256) + 0) % 256) ≡ (a0 + (a1 + (a2 + (a3 + (a4 + (a5 + (a6))))))) % 256
at6 a0 a1 a2 a3 a4 a5 a6 = omega arith

at7 : (a0 a1 a2 a3 a4 a5 a6 a7 : ℕ) → ((((((((a7 + a6) % 256) + ((a5 + a4) % 256)) % 256) + ((((a3 + a2) % 256) + ((a1 + a0) % 256)) % 256)) % 256) + 0) % 256) ≡ (a0 + (a1 + (a2 + (a3 + (a4 + (a5 + (a6 + (a7)))))))) % 256
at7 a0 a1 a2 a3 a4 a5 a6 a7 = omega arith

at8 : (a0 a1 a2 a3 a4 a5 a6 a7 a8 : ℕ) → ((((((((a8 + a7) % 256) + ((a6 + a5) % 256)) % 256) + ((((a4 + a3) % 256) + ((a2 + a1) % 256)) % 256)) % 256) + ((((((a0 + 0) % 256) + 0) % 256) + 0) % 256)) % 256) ≡ (a0 + (a1 + (a2 + (a3 + (a4 + (a5 + (a6 + (a7 + (a8))))))))) % 256
at8 a0 a1 a2 a3 a4 a5 a6 a7 a8 = omega arith

at9 : (a0 a1 a2 a3 a4 a5 a6 a7 a8 a9 : ℕ) → ((((((((a9 + a8) % 256) + ((a7 + a6) % 256)) % 256) + ((((a5 + a4) % 256) + ((a3 + a2) % 256)) % 256)) % 256) + ((((((a1 + a0) % 256) + 0) % 256) + 0) % 256)) % 256) ≡ (a0 + (a1 + (a2 + (a3 + (a4 + (a5 + (a6 + (a7 + (a8 + (a9)))))))))) % 256
at9 a0 a1 a2 a3 a4 a5 a6 a7 a8 a9 = omega arith

at10 : (a0 a1 a2 a3 a4 a5 a6 a7 a8 a9 a10 : ℕ) → ((((((((a10 + a9) % 256) + ((a8 + a7) % 256)) % 256) + ((((a6 + a5) % 256) + ((a4 + a3) % 256)) % 256)) % 256) + ((((((a2 + a1) % 256) + ((a0 + 0) % 256)) % 256) + 0) % 256)) % 256) ≡ (a0 + (a1 + (a2 + (a3 + (a4 + (a5 + (a6 + (a7 + (a8 + (a9 + (a10))))))))))) % 256
at10 a0 a1 a2 a3 a4 a5 a6 a7 a8 a9 a10 = omega arith

at11 : (a0 a1 a2 a3 a4 a5 a6 a7 a8 a9 a10 a11 : ℕ) → ((((((((a11 + a10) % 256) + ((a9 + a8) % 256)) % 256) + ((((a7 + a6) % 256) + ((a5 + a4) % 256)) % 256)) % 256) + ((((((a3 + a2) % 256) + ((a1 + a0) % 256)) % 256) + 0) % 256)) % 256) ≡ (a0 + (a1 + (a2 + (a3 + (a4 + (a5 + (a6 + (a7 + (a8 + (a9 + (a10 + (a11)))))))))))) % 256
at11 a0 a1 a2 a3 a4 a5 a6 a7 a8 a9 a10 a11 = omega arith

at12 : (a0 a1 a2 a3 a4 a5 a6 a7 a8 a9 a10 a11 a12 : ℕ) → ((((((((a12 + a11) % 256) + ((a10 + a9) % 256)) % 256) + ((((a8 + a7) % 256) + ((a6 + a5) % 256)) % 256)) % 256) + ((((((a4 + a3) % 256) + ((a2 + a1) % 256)) % 256) + ((((a0 + 0) % 256) + 0) % 256)) % 256)) % 256) ≡ (a0 + (a1 + (a2 + (a3 + (a4 + (a5 + (a6 + (a7 + (a8 + (a9 + (a10 + (a11 + (a12))))))))))))) % 256
at12 a0 a1 a2 a3 a4 a5 a6 a7 a8 a9 a10 a11 a12 = omega arith

at13 : (a0 a1 a2 a3 a4 a5 a6 a7 a8 a9 a10 a11 a12 a13 : ℕ) → ((((((((a13 + a12) % 256) + ((a11 + a10) % 256)) % 256) + ((((a9 + a8) % 256) + ((a7 + a6) % 256)) % 256)) % 256) + ((((((a5 + a4) % 256) + ((a3 + a2) % 256)) % 256) + ((((a1 + a0) % 256) + 0) % 256)) % 256)) % 256) ≡ (a0 + (a1 + (a2 + (a3 + (a4 + (a5 + (a6 + (a7 + (a8 + (a9 + (a10 + (a11 + (a12 + (a13)))))))))))))) % 256
at13 a0 a1 a2 a3 a4 a5 a6 a7 a8 a9 a10 a11 a12 a13 = omega arith

at14 : (a0 a1 a2 a3 a4 a5 a6 a7 a8 a9 a10 a11 a12 a13 a14 : ℕ) → ((((((((a14 + a13) % 256) + ((a12 + a11) % 256)) % 256) + ((((a10 + a9) % 256) + ((a8 + a7) % 256)) % 256)) % 256) + ((((((a6 + a5) % 256) + ((a4 + a3) % 256)) % 256) + ((((a2 + a1) % 256) + ((a0 + 0) % 256)) % 256)) % 256)) % 256) ≡ (a0 + (a1 + (a2 + (a3 + (a4 + (a5 + (a6 + (a7 + (a8 + (a9 + (a10 + (a11 + (a12 + (a13 + (a14))))))))))))))) % 256
at14 a0 a1 a2 a3 a4 a5 a6 a7 a8 a9 a10 a11 a12 a13 a14 = omega arith

at15 : (a0 a1 a2 a3 a4 a5 a6 a7 a8 a9 a10 a11 a12 a13 a14 a15 : ℕ) → ((((((((a15 + a14) % 256) + ((a13 + a12) % 256)) % 256) + ((((a11 + a10) % 256) + ((a9 + a8) % 256)) % 256)) % 256) + ((((((a7 + a6) % 256) + ((a5 + a4) % 256)) % 256) + ((((a3 + a2) % 256) + ((a1 + a0) % 256)) % 256)) % 256)) % 256) ≡ (a0 + (a1 + (a2 + (a3 + (a4 + (a5 + (a6 + (a7 + (a8 + (a9 + (a10 + (a11 + (a12 + (a13 + (a14 + (a15)))))))))))))))) % 256
at15 a0 a1 a2 a3 a4 a5 a6 a7 a8 a9 a10 a11 a12 a13 a14 a15 = omega arith

of_cons : (a0 a1 a2 a3 a4 a5 a6 a7 a8 a9 a10 a11 a12 a13 a14 a15 : ℕ) (k : ℕ) → k < 16 → get_or (in_four (a0 ∷ a1 ∷ a2 ∷ a3 ∷ a4 ∷ a5 ∷ a6 ∷ a7 ∷ a8 ∷ a9 ∷ a10 ∷ a11 ∷ a12 ∷ a13 ∷ a14 ∷ a15 ∷ [])) k 0 ≡ sum_to k (a0 ∷ a1 ∷ a2 ∷ a3 ∷ a4 ∷ a5 ∷ a6 ∷ a7 ∷ a8 ∷ a9 ∷ a10 ∷ a11 ∷ a12 ∷ a13 ∷ a14 ∷ a15 ∷ []) % 256
of_cons a0 a1 a2 a3 a4 a5 a6 a7 a8 a9 a10 a11 a12 a13 a14 a15 zero l = at0 a0
of_cons a0 a1 a2 a3 a4 a5 a6 a7 a8 a9 a10 a11 a12 a13 a14 a15 (suc zero) l = at1 a0 a1
of_cons a0 a1 a2 a3 a4 a5 a6 a7 a8 a9 a10 a11 a12 a13 a14 a15 (suc (suc zero)) l = at2 a0 a1 a2
of_cons a0 a1 a2 a3 a4 a5 a6 a7 a8 a9 a10 a11 a12 a13 a14 a15 (suc (suc (suc zero))) l = at3 a0 a1 a2 a3
of_cons a0 a1 a2 a3 a4 a5 a6 a7 a8 a9 a10 a11 a12 a13 a14 a15 (suc (suc (suc (suc zero)))) l = at4 a0 a1 a2 a3 a4
of_cons a0 a1 a2 a3 a4 a5 a6 a7 a8 a9 a10 a11 a12 a13 a14 a15 (suc (suc (suc (suc (suc zero))))) l = at5 a0 a1 a2 a3 a4 a5
of_cons a0 a1 a2 a3 a4 a5 a6 a7 a8 a9 a10 a11 a12 a13 a14 a15 (suc (suc (suc (suc (suc (suc zero)))))) l = at6 a0 a1 a2 a3 a4 a5 a6
of_cons a0 a1 a2 a3 a4 a5 a6 a7 a8 a9 a10 a11 a12 a13 a14 a15 (suc (suc (suc (suc (suc (suc (suc zero))))))) l = at7 a0 a1 a2 a3 a4 a5 a6 a7
of_cons a0 a1 a2 a3 a4 a5 a6 a7 a8 a9 a10 a11 a12 a13 a14 a15 (suc (suc (suc (suc (suc (suc (suc (suc zero)))))))) l = at8 a0 a1 a2 a3 a4 a5 a6 a7 a8
of_cons a0 a1 a2 a3 a4 a5 a6 a7 a8 a9 a10 a11 a12 a13 a14 a15 (suc (suc (suc (suc (suc (suc (suc (suc (suc zero))))))))) l = at9 a0 a1 a2 a3 a4 a5 a6 a7 a8 a9
of_cons a0 a1 a2 a3 a4 a5 a6 a7 a8 a9 a10 a11 a12 a13 a14 a15 (suc (suc (suc (suc (suc (suc (suc (suc (suc (suc zero)))))))))) l = at10 a0 a1 a2 a3 a4 a5 a6 a7 a8 a9 a10
of_cons a0 a1 a2 a3 a4 a5 a6 a7 a8 a9 a10 a11 a12 a13 a14 a15 (suc (suc (suc (suc (suc (suc (suc (suc (suc (suc (suc zero))))))))))) l = at11 a0 a1 a2 a3 a4 a5 a6 a7 a8 a9 a10 a11
of_cons a0 a1 a2 a3 a4 a5 a6 a7 a8 a9 a10 a11 a12 a13 a14 a15 (suc (suc (suc (suc (suc (suc (suc (suc (suc (suc (suc (suc zero)))))))))))) l = at12 a0 a1 a2 a3 a4 a5 a6 a7 a8 a9 a10 a11 a12
of_cons a0 a1 a2 a3 a4 a5 a6 a7 a8 a9 a10 a11 a12 a13 a14 a15 (suc (suc (suc (suc (suc (suc (suc (suc (suc (suc (suc (suc (suc zero))))))))))))) l = at13 a0 a1 a2 a3 a4 a5 a6 a7 a8 a9 a10 a11 a12 a13
of_cons a0 a1 a2 a3 a4 a5 a6 a7 a8 a9 a10 a11 a12 a13 a14 a15 (suc (suc (suc (suc (suc (suc (suc (suc (suc (suc (suc (suc (suc (suc zero)))))))))))))) l = at14 a0 a1 a2 a3 a4 a5 a6 a7 a8 a9 a10 a11 a12 a13 a14
of_cons a0 a1 a2 a3 a4 a5 a6 a7 a8 a9 a10 a11 a12 a13 a14 a15 (suc (suc (suc (suc (suc (suc (suc (suc (suc (suc (suc (suc (suc (suc (suc zero))))))))))))))) l = at15 a0 a1 a2 a3 a4 a5 a6 a7 a8 a9 a10 a11 a12 a13 a14 a15
of_cons a0 a1 a2 a3 a4 a5 a6 a7 a8 a9 a10 a11 a12 a13 a14 a15 (suc (suc (suc (suc (suc (suc (suc (suc (suc (suc (suc (suc (suc (suc (suc (suc n)))))))))))))))) l = absurd (omega arith)

pub sums_are : (v : List ℕ) → length v ≡ 16 → (k : ℕ) → k < 16 → get_or (in_four v) k 0 ≡ sum_to k v % 256
sums_are [] long k l = absurd (omega arith)
sums_are (a0 ∷ []) long k l = absurd (omega arith)
sums_are (a0 ∷ a1 ∷ []) long k l = absurd (omega arith)
sums_are (a0 ∷ a1 ∷ a2 ∷ []) long k l = absurd (omega arith)
sums_are (a0 ∷ a1 ∷ a2 ∷ a3 ∷ []) long k l = absurd (omega arith)
sums_are (a0 ∷ a1 ∷ a2 ∷ a3 ∷ a4 ∷ []) long k l = absurd (omega arith)
sums_are (a0 ∷ a1 ∷ a2 ∷ a3 ∷ a4 ∷ a5 ∷ []) long k l = absurd (omega arith)
sums_are (a0 ∷ a1 ∷ a2 ∷ a3 ∷ a4 ∷ a5 ∷ a6 ∷ []) long k l = absurd (omega arith)
sums_are (a0 ∷ a1 ∷ a2 ∷ a3 ∷ a4 ∷ a5 ∷ a6 ∷ a7 ∷ []) long k l = absurd (omega arith)
sums_are (a0 ∷ a1 ∷ a2 ∷ a3 ∷ a4 ∷ a5 ∷ a6 ∷ a7 ∷ a8 ∷ []) long k l = absurd (omega arith)
sums_are (a0 ∷ a1 ∷ a2 ∷ a3 ∷ a4 ∷ a5 ∷ a6 ∷ a7 ∷ a8 ∷ a9 ∷ []) long k l = absurd (omega arith)
sums_are (a0 ∷ a1 ∷ a2 ∷ a3 ∷ a4 ∷ a5 ∷ a6 ∷ a7 ∷ a8 ∷ a9 ∷ a10 ∷ []) long k l = absurd (omega arith)
sums_are (a0 ∷ a1 ∷ a2 ∷ a3 ∷ a4 ∷ a5 ∷ a6 ∷ a7 ∷ a8 ∷ a9 ∷ a10 ∷ a11 ∷ []) long k l = absurd (omega arith)
sums_are (a0 ∷ a1 ∷ a2 ∷ a3 ∷ a4 ∷ a5 ∷ a6 ∷ a7 ∷ a8 ∷ a9 ∷ a10 ∷ a11 ∷ a12 ∷ []) long k l = absurd (omega arith)
sums_are (a0 ∷ a1 ∷ a2 ∷ a3 ∷ a4 ∷ a5 ∷ a6 ∷ a7 ∷ a8 ∷ a9 ∷ a10 ∷ a11 ∷ a12 ∷ a13 ∷ []) long k l = absurd (omega arith)
sums_are (a0 ∷ a1 ∷ a2 ∷ a3 ∷ a4 ∷ a5 ∷ a6 ∷ a7 ∷ a8 ∷ a9 ∷ a10 ∷ a11 ∷ a12 ∷ a13 ∷ a14 ∷ []) long k l = absurd (omega arith)
sums_are (a0 ∷ a1 ∷ a2 ∷ a3 ∷ a4 ∷ a5 ∷ a6 ∷ a7 ∷ a8 ∷ a9 ∷ a10 ∷ a11 ∷ a12 ∷ a13 ∷ a14 ∷ a15 ∷ []) long k l = of_cons a0 a1 a2 a3 a4 a5 a6 a7 a8 a9 a10 a11 a12 a13 a14 a15 k l
sums_are (a0 ∷ a1 ∷ a2 ∷ a3 ∷ a4 ∷ a5 ∷ a6 ∷ a7 ∷ a8 ∷ a9 ∷ a10 ∷ a11 ∷ a12 ∷ a13 ∷ a14 ∷ a15 ∷ (b ∷ bs)) long k l = absurd (omega arith)
