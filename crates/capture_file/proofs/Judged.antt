-- What the first bytes of a capture of either version are.
use Rattle.std.proofs.Common.{◌≡◌, ℕ, suc, zero, ◌+◌, ◌^◌, ◌<◌, ◌≤◌, List, [], ◌∷◌, ◌++◌, length, take, drop, min, get_or, refl, ap, ap₂, ◌∙◌, sym, arith, subst, inl, inr, append_assoc, append-nil, length-append, length-drop, length-take-le, take-append-drop}
use Rattle.std.specs.Prelude.{◌⊎◌, slice_index, slice_get, Some, codes}
use Rattle.std.specs.Int.{w32, to_be_bytes, from_be_bytes}
use Rattle.std.proofs.lemmas.Nat.{be_bytes_4}
use Rattle.std.proofs.Math.ListN.{get_or-append}
use Rattle.std.proofs.lemmas.Bool.{cases_lt}
use Rattle.std.proofs.lemmas.List.{take-take, take_more, take-append-le, get_or-take, get_or-drop}
use Rattle.std.proofs.lemmas.Option.{slice_get-get_or}
use Rattle.capture_file.specs.Layout.{header, high_first}
use Rattle.capture_file.specs.Captures.{header_two, header_of, BeginsCapture, StopsAt, AreBytes, IsHeadless, IsHeaderPart, IsEarlyFault, SaysOf, SaysRead}
use Rattle.capture_file.specs.declared.fault.CaptureFault.{CaptureFault}
use Rattle.capture_file.specs.declared.fault.CaptureError.{CaptureError}
use Rattle.capture_file.specs.declared.fault.CaptureFault.TheVariants.{Magic, Version, Short}
use Rattle.capture_file.proofs.Heads.{header_cases, length-header_two, header_long}
use Rattle.capture_file.proofs.Marks.{high_first-of, four_of, get_drop, four_bytes}
use Rattle.capture_file.proofs.Stops.{begins_part, begins_take, header_begins, first_of, second_of, mark_of, version_of, capture_long}

take_one : (n p : ℕ) → p ≤ 3 → take p (header n) ≡ take p (codes "TMC")
unfolding header high_first
take_one n zero le = refl
take_one n (suc zero) le = refl
take_one n (suc (suc zero)) le = refl
take_one n (suc (suc (suc zero))) le = refl
take_one n (suc (suc (suc (suc p)))) le = absurd (omega arith)

-- the beginning of a mark
mark_begins : (p : ℕ) (xs : List ℕ) → p ≤ 3 → xs ≡ take p (codes "TMC") → BeginsCapture xs
mark_begins p xs le is = subst (λ bs. BeginsCapture bs) (take_one 0 p le ∙ sym is) (begins_take p (header 0) (header_begins (header 0) (0 ∷ 0 ∷ 0 ∷ []) (first_of 0 (omega arith))))

-- bytes that stop in their first four have no header
headless_stop : (bytes : List ℕ) (p : ℕ) → StopsAt bytes p → p < 4 → IsHeadless bytes
headless_stop bytes p s few head counts tail h is =
    let cut : take (p + 1) bytes ≡ take (p + 1) head = ap (λ xs. take (p + 1) xs) is ∙ take-append-le (p + 1) head tail (omega (arith, few, header_long head counts h)) in
    s.stops (subst (λ bs. BeginsCapture bs) (sym cut) (begins_take (p + 1) head (header_begins head counts h)))

pub headless_short : (bytes : List ℕ) → length bytes < 8 → IsHeadless bytes
headless_short bytes short head counts tail h is = omega (arith, short, ap length is, length-append head tail, header_long head counts h)

one_version : (n : ℕ) (tail : List ℕ) → get_or (header n ++ tail) 3 0 ≡ 49
unfolding header high_first
one_version n tail = refl

pub headless_second : (bytes : List ℕ) → get_or bytes 3 0 ≡ 50 → length bytes < 16 → IsHeadless bytes
headless_second bytes two short head counts tail h is =
    elim (header_cases head counts h) [
      | inl one ↦ absurd (omega (arith, sym two ∙ ap (λ xs. get_or xs 3 0) (is ∙ ap (λ xs. xs ++ tail) one.is) ∙ one_version (slice_index counts 0) tail))
      | inr second ↦ absurd (omega (arith, short, ap length is, length-append head tail, ap length second, length-header_two counts))
    ]

-- a byte that is not the mark's
pub mark_early : (head rest : List ℕ) (count p : ℕ) → length head ≡ 8 → count ≤ 8 → p < count → p < 3 → take p head ≡ take p (codes "TMC")
    → (get_or head p 0 ≡ get_or (codes "TMC") p 0 → ⊥) → IsEarlyFault (take count head ++ rest) (Magic p)
mark_early head rest count p len most less few like unlike =
    let first = take count head in
    let long : length first ≡ count = length-take-le count head (omega arith) in
    let cut : take p (first ++ rest) ≡ take p (codes "TMC") = take-append-le p first rest (omega arith) ∙ take-take p count head (omega arith) ∙ like in
    let more : take (p + 1) (first ++ rest) ≡ take (p + 1) head = take-append-le (p + 1) first rest (omega arith) ∙ take-take (p + 1) count head (omega arith) in
    let stops : StopsAt (first ++ rest) p = record {
      inside = omega (arith, long, length-append first rest);
      before = mark_begins p (take p (first ++ rest)) (omega arith) cut;
      stops = λ h.
          let cut_long : p < length (take (p + 1) head) = omega (arith, length-take-le (p + 1) head (omega arith)) in
          let same = ap (λ xs. get_or (xs ++ h.rest) p 0) more ∙ get_or-append (take (p + 1) head) h.rest 0 p cut_long ∙ get_or-take (p + 1) head p 0 (omega arith) in
          unlike (sym same ∙ mark_of (take (p + 1) (first ++ rest) ++ h.rest) p h.whole few);
    } in
    ((stops, few), headless_stop (first ++ rest) p stops (omega arith))

-- a fourth byte that is no version
pub version_early : (head rest : List ℕ) (count : ℕ) → length head ≡ 8 → count ≤ 8 → 3 < count → take 3 head ≡ codes "TMC"
    → (get_or head 3 0 ≡ 49 → ⊥) → (get_or head 3 0 ≡ 50 → ⊥) → IsEarlyFault (take count head ++ rest) (Version (get_or head 3 0))
version_early head rest count len most less like one two =
    let first = take count head in
    let long : length first ≡ count = length-take-le count head (omega arith) in
    let cut : take 3 (first ++ rest) ≡ take 3 (codes "TMC") = take-append-le 3 first rest (omega arith) ∙ take-take 3 count head (omega arith) ∙ like in
    let more : take 4 (first ++ rest) ≡ take 4 head = take-append-le 4 first rest (omega arith) ∙ take-take 4 count head (omega arith) in
    let stops : StopsAt (first ++ rest) 3 = record {
      inside = omega (arith, long, length-append first rest);
      before = mark_begins 3 (take 3 (first ++ rest)) (omega arith) cut;
      stops = λ h.
          let cut_long : 3 < length (take 4 head) = omega (arith, length-take-le 4 head (omega arith)) in
          let same : get_or (take 4 (first ++ rest) ++ h.rest) 3 0 ≡ get_or head 3 0 =
          ap (λ xs. get_or (xs ++ h.rest) 3 0) more ∙ get_or-append (take 4 head) h.rest 0 3 cut_long ∙ get_or-take 4 head 3 0 (omega arith) in
          elim (version_of (take 4 (first ++ rest) ++ h.rest) h.whole) [ inl is ↦ one (sym same ∙ is) | inr is ↦ two (sym same ∙ is.0) ];
    } in
    let byte : slice_get (first ++ rest) 3 ≡ Some (get_or head 3 0) =
    slice_get-get_or (first ++ rest) 3 0 (omega (arith, long, length-append first rest))
    ∙ ap Some (get_or-append first rest 0 3 (omega arith) ∙ get_or-take count head 3 0 less) in
    ((stops, byte), headless_stop (first ++ rest) 3 stops (omega arith))

-- eight bytes with the mark and the second version, and the two counts that may follow
pub mark_four : (head : List ℕ) (v : ℕ) → length head ≡ 8 → take 3 head ≡ codes "TMC" → get_or head 3 0 ≡ v → take 4 head ≡ codes "TMC" ++ v ∷ []
mark_four head v len like is = take_more head 3 0 (omega arith) ∙ ap₂ (λ xs b. xs ++ b ∷ []) like is

four_high : (xs : List ℕ) → length xs ≡ 4 → AreBytes xs → (n : ℕ) × (n < 2 ^ 32) × (high_first n ≡ xs)
four_high xs len are =
    let h = high_first-of (get_or xs 0 0) (get_or xs 1 0) (get_or xs 2 0) (get_or xs 3 0) (are 0) (are 1) (are 2) (are 3) in
    (h.0, h.1, h.2 ∙ sym (four_of xs len))

drop_bytes : (n : ℕ) (xs : List ℕ) → AreBytes xs → AreBytes (drop n xs)
drop_bytes n xs h i = get_drop n i xs h

one_whole : (head : List ℕ) → length head ≡ 8 → AreBytes head → take 3 head ≡ codes "TMC" → get_or head 3 0 ≡ 49 → BeginsCapture head
unfolding header
one_whole head len are like one =
    let h = four_high (drop 4 head) (omega (arith, length-drop 4 head)) (drop_bytes 4 head are) in
    let is : head ≡ header h.0 = sym (take-append-drop 4 head) ∙ ap₂ (λ xs ys. xs ++ ys) (mark_four head 49 len like one) (sym h.2) in
    subst (λ bs. BeginsCapture bs) (sym is) (header_begins (header h.0) (h.0 ∷ h.0 ∷ h.0 ∷ []) (first_of h.0 h.1))

second_is : (n p q : ℕ) → header_two (n ∷ p ∷ q ∷ []) ≡ ((codes "TMC" ++ 50 ∷ []) ++ high_first n) ++ (high_first p ++ high_first q)
unfolding header_two high_first
second_is n p q = refl

-- any beginning of two counts
pub second_begins : (front more : List ℕ) (n k : ℕ) → n < 2 ^ 32 → front ≡ (codes "TMC" ++ 50 ∷ []) ++ high_first n → length more ≡ 8 → AreBytes more → BeginsCapture (front ++ take k more)
second_begins front more n k small is len are =
    let p = four_high (take 4 more) (length-take-le 4 more (omega arith)) (λ i. lower 4 i more are) in
    let q = four_high (drop 4 more) (omega (arith, length-drop 4 more)) (drop_bytes 4 more are) in
    let whole : header_two (n ∷ p.0 ∷ q.0 ∷ []) ≡ (front ++ take k more) ++ drop k more =
    second_is n p.0 q.0 ∙ ap₂ (λ xs ys. xs ++ ys) (sym is) (ap₂ (λ xs ys. xs ++ ys) p.2 q.2 ∙ take-append-drop 4 more ∙ sym (take-append-drop k more)) ∙ sym (append_assoc front (take k more) (drop k more)) in
    begins_part (front ++ take k more) (drop k more) (subst (λ bs. BeginsCapture bs) whole (header_begins (header_two (n ∷ p.0 ∷ q.0 ∷ [])) (n ∷ p.0 ∷ q.0 ∷ []) (second_of n p.0 q.0 small p.1 q.1)))
  where
    lower : (n i : ℕ) (xs : List ℕ) → AreBytes xs → get_or (take n xs) i 0 < 256
    lower zero i xs h = omega arith
    lower (suc n) i [] h = omega arith
    lower (suc n) zero (x ∷ xs) h = h 0
    lower (suc n) (suc i) (x ∷ xs) h = lower n i xs (λ k. h (suc k))

two_whole : (head : List ℕ) → length head ≡ 8 → AreBytes head → take 3 head ≡ codes "TMC" → get_or head 3 0 ≡ 50 → BeginsCapture head
two_whole head len are like two =
    let h = four_high (drop 4 head) (omega (arith, length-drop 4 head)) (drop_bytes 4 head are) in
    let is : head ≡ (codes "TMC" ++ 50 ∷ []) ++ high_first h.0 = sym (take-append-drop 4 head) ∙ ap₂ (λ xs ys. xs ++ ys) (mark_four head 50 len like two) (sym h.2) in
    subst (λ bs. BeginsCapture bs) (append-nil head) (second_begins head head h.0 0 h.1 is len are)

-- the first bytes of a header, so far as they are there
pub first_begins : (head : List ℕ) (count : ℕ) → length head ≡ 8 → AreBytes head → take (min count 3) head ≡ take (min count 3) (codes "TMC")
    → (3 < count → (get_or head 3 0 ≡ 49) ⊎ (get_or head 3 0 ≡ 50)) → BeginsCapture (take count head)
first_begins head count len are like versions =
    elim (cases_lt 3 count) [
      | inl many ↦
          let three : min count 3 ≡ 3 = omega arith in
          let mark = rw three at like in
          begins_take count head (elim (versions many) [ inl one ↦ one_whole head len are mark one | inr two ↦ two_whole head len are mark two ])
      | inr few ↦ let all : min count 3 ≡ count = omega arith in mark_begins count (take count head) (omega arith) (rw all at like)
    ]

pub first_part : (head : List ℕ) (count : ℕ) → length head ≡ 8 → count < 8 → BeginsCapture (take count head) → IsHeaderPart (take count head)
first_part head count len less begins = (headless_short (take count head) (omega (arith, less, length-take-le count head (omega arith))), begins)

-- a header that ends within its first eight bytes
pub short_early : (head rest : List ℕ) (count : ℕ) → length head ≡ 8 → count < 8 → rest ≡ [] → BeginsCapture (take count head) → IsEarlyFault (take count head ++ rest) (Short count)
short_early head rest count len less none begins =
    let first = take count head in
    let e : first ++ rest ≡ first = ap (λ xs. first ++ xs) none ∙ append-nil first in
    let long : length first ≡ count = length-take-le count head (omega arith) in (
      (
        subst (λ bs. BeginsCapture bs) (sym e) begins,
        λ h. absurd (omega (arith, less, ap length e, long, capture_long (first ++ rest) h)),
        omega (arith, ap length e, long),
      ),
      headless_short (first ++ rest) (omega (arith, ap length e, long, less)),
    )

fourth : (n : ℕ) (tail : List ℕ) → get_or (((codes "TMC" ++ 50 ∷ []) ++ high_first n) ++ tail) 3 0 ≡ 50
unfolding high_first
fourth n tail = refl

pub length-second : (n : ℕ) → length ((codes "TMC" ++ 50 ∷ []) ++ high_first n) ≡ 8
unfolding high_first
length-second n = refl

-- a header that ends within its second eight bytes
pub second_early : (front more bytes : List ℕ) (n k : ℕ) → n < 2 ^ 32 → front ≡ (codes "TMC" ++ 50 ∷ []) ++ high_first n → length more ≡ 8 → AreBytes more → k < 8 → bytes ≡ take k more
    → IsEarlyFault (front ++ bytes) (Short (8 + k))
second_early front more bytes n k small is len are less own =
    let e : front ++ bytes ≡ front ++ take k more = ap (λ xs. front ++ xs) own in
    let long : length (front ++ take k more) ≡ 8 + k = omega (arith, less, ap length is, length-second n, length-append front (take k more), length-take-le k more (omega arith)) in
    let two : get_or (front ++ bytes) 3 0 ≡ 50 = ap (λ xs. get_or (xs ++ bytes) 3 0) is ∙ fourth n bytes in (
      (
        subst (λ bs. BeginsCapture bs) (sym e) (second_begins front more n k small is len are),
        λ h. elim (version_of (front ++ bytes) h) [ inl one ↦ absurd (omega (arith, one, two)) | inr big ↦ absurd (omega (arith, big.1, ap length e, long, less)) ],
        omega (arith, ap length e, long),
      ),
      headless_second (front ++ bytes) two (omega (arith, ap length e, long, less)),
    )

pub headless_part : (front part : List ℕ) (n : ℕ) → front ≡ (codes "TMC" ++ 50 ∷ []) ++ high_first n → length part < 8 → IsHeadless (front ++ part)
headless_part front part n is less =
    headless_second (front ++ part) (ap (λ xs. get_or (xs ++ part) 3 0) is ∙ fourth n part) (omega (arith, less, ap length is, length-second n, length-append front part))

pub later_part : (front more : List ℕ) (n k : ℕ) → n < 2 ^ 32 → front ≡ (codes "TMC" ++ 50 ∷ []) ++ high_first n → length more ≡ 8 → AreBytes more → k < 8 → IsHeaderPart (front ++ take k more)
later_part front more n k small is len are less =
    (headless_part front (take k more) n is (omega (arith, less, length-take-le k more (omega arith))), second_begins front more n k small is len are)

-- what four bytes say
pub four_say : (a b c d n : ℕ) → a < 256 → b < 256 → c < 256 → d < 256 → n ≡ from_be_bytes w32 (a ∷ b ∷ c ∷ d ∷ []) → high_first n ≡ a ∷ b ∷ c ∷ d ∷ []
unfolding high_first
four_say a b c d n la lb lc ld is =
    let e : to_be_bytes w32 n ≡ a ∷ b ∷ c ∷ d ∷ [] = be_bytes_4 (a ∷ b ∷ c ∷ d ∷ []) n refl (four_bytes a b c d la lb lc ld) is in
    ap (λ bs. get_or bs 0 0 ∷ get_or bs 1 0 ∷ get_or bs 2 0 ∷ get_or bs 3 0 ∷ []) e

-- an error that says more
pub says_of : (p q : CaptureFault → Type 0) (e : CaptureError) → ((fault : CaptureFault) → p fault → q fault) → SaysOf p e → SaysOf q e
says_of p q e h k = grind arith

pub says_read : (p q : Type 0) (e : CaptureError) → (p → q) → SaysRead p e → SaysRead q e
says_read p q e h k = grind arith

-- the first header, and the two parts of the second
pub header_one : (n : ℕ) → header_of 1 (n ∷ n ∷ n ∷ []) ≡ header n
unfolding header_of
header_one n = refl

pub header_two_is : (n p q : ℕ) → header_of 2 (n ∷ p ∷ q ∷ []) ≡ ((codes "TMC" ++ 50 ∷ []) ++ high_first n) ++ (high_first p ++ high_first q)
unfolding header_of
header_two_is n p q = second_is n p q

eight_are : (head : List ℕ) → length head ≡ 8 → head ≡ take 4 head ++ get_or head 4 0 ∷ get_or head 5 0 ∷ get_or head 6 0 ∷ get_or head 7 0 ∷ []
eight_are head len = grind (arith, take-append-drop, four_of, length-drop, get_or-drop)

pub head_is : (head : List ℕ) (v n : ℕ) → length head ≡ 8 → AreBytes head → take 3 head ≡ codes "TMC" → get_or head 3 0 ≡ v
    → n ≡ from_be_bytes w32 (get_or head 4 0 ∷ get_or head 5 0 ∷ get_or head 6 0 ∷ get_or head 7 0 ∷ []) → head ≡ (codes "TMC" ++ v ∷ []) ++ high_first n
head_is head v n len are like version is =
    eight_are head len
    ∙ ap₂ (λ xs ys. xs ++ ys) (mark_four head v len like version)
    (sym (four_say (get_or head 4 0) (get_or head 5 0) (get_or head 6 0) (get_or head 7 0) n (are 4) (are 5) (are 6) (are 7) is))

pub first_is : (n : ℕ) → (codes "TMC" ++ 49 ∷ []) ++ high_first n ≡ header n
unfolding header
first_is n = refl

pub more_is : (more : List ℕ) (p q : ℕ) → length more ≡ 8 → AreBytes more → p ≡ from_be_bytes w32 (get_or more 0 0 ∷ get_or more 1 0 ∷ get_or more 2 0 ∷ get_or more 3 0 ∷ [])
    → q ≡ from_be_bytes w32 (get_or more 4 0 ∷ get_or more 5 0 ∷ get_or more 6 0 ∷ get_or more 7 0 ∷ []) → more ≡ high_first p ++ high_first q
more_is more p q len are ep eq =
    eight_are more len
    ∙ ap₂ (λ xs ys. xs ++ ys)
    (four_of (take 4 more) (length-take-le 4 more (omega arith))
    ∙ ap₂ (λ a b. a ∷ b ∷ get_or (take 4 more) 2 0 ∷ get_or (take 4 more) 3 0 ∷ []) (get_or-take 4 more 0 0 (omega arith)) (get_or-take 4 more 1 0 (omega arith))
    ∙ ap₂ (λ a b. get_or more 0 0 ∷ get_or more 1 0 ∷ a ∷ b ∷ []) (get_or-take 4 more 2 0 (omega arith)) (get_or-take 4 more 3 0 (omega arith))
    ∙ sym (four_say (get_or more 0 0) (get_or more 1 0) (get_or more 2 0) (get_or more 3 0) p (are 0) (are 1) (are 2) (are 3) ep))
    (sym (four_say (get_or more 4 0) (get_or more 5 0) (get_or more 6 0) (get_or more 7 0) q (are 4) (are 5) (are 6) (are 7) eq))
