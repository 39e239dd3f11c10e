-- Headers of both versions: what they have in common, and that they give their counts.
use Rattle.std.proofs.lemmas.Bool.{ne_eqb}
use Rattle.std.proofs.Common.{◌≡◌, ◌≢◌, ℕ, ◌^◌, ◌<◌, ◌≤◌, List, ◌++◌, length, get_or, refl, ap, ◌∙◌, sym, arith, inl, inr}
use Rattle.std.specs.Prelude.{◌⊎◌, slice_index, if◌then◌else◌}
use Rattle.capture_file.specs.Layout.{header, high_first}
use Rattle.capture_file.specs.Captures.{header_two, header_of, IsHeader}
use Rattle.capture_file.proofs.Fronts.{same_front, same_count, length-header}

-- a header is one of two
pub record FirstHeader (head counts : List ℕ) : Type 0 where
  pub is : head ≡ header (slice_index counts 0)
  pub green : slice_index counts 1 ≡ slice_index counts 0
  pub red : slice_index counts 2 ≡ slice_index counts 0

pub header_cases : (head counts : List ℕ) → IsHeader head counts → FirstHeader head counts ⊎ (head ≡ header_two counts)
unfolding header_of
header_cases head counts h = grind arith

pub length-header_two : (counts : List ℕ) → length (header_two counts) ≡ 16
unfolding header_two high_first
length-header_two counts = refl

pub header_long : (head counts : List ℕ) → IsHeader head counts → 8 ≤ length head
header_long head counts h =
    elim (header_cases head counts h) [
      | inl one ↦ omega (arith, ap length one.is, length-header (slice_index counts 0))
      | inr two ↦ omega (arith, ap length two, length-header_two counts)
    ]

-- the fourth byte gives the version
fourth_one : (n : ℕ) (a : List ℕ) → get_or (header n ++ a) 3 0 ≡ 49
unfolding header high_first
fourth_one n a = refl

fourth_two : (counts a : List ℕ) → get_or (header_two counts ++ a) 3 0 ≡ 50
unfolding header_two high_first
fourth_two counts a = refl

pub unlike_versions : (n : ℕ) (counts a b : List ℕ) → header n ++ a ≡ header_two counts ++ b → ⊥
unlike_versions n counts a b e = omega (arith, sym (fourth_one n a) ∙ ap (λ xs. get_or xs 3 0) e ∙ fourth_two counts b)

-- a header gives its counts
pub record SameHeads (h k counts other : List ℕ) : Type 0 where
  pub same : h ≡ k
  pub count : (c : ℕ) → c < 3 → slice_index counts c ≡ slice_index other c

by_three : (u v : List ℕ) → slice_index u 0 ≡ slice_index v 0 → slice_index u 1 ≡ slice_index v 1 → slice_index u 2 ≡ slice_index v 2 → (c : ℕ) → c < 3 → slice_index u c ≡ slice_index v c
by_three u v h k l m p = grind arith

two_counts : (u v : List ℕ) → ((c : ℕ) → c < 3 → slice_index u c < 2 ^ 32) → ((c : ℕ) → c < 3 → slice_index v c < 2 ^ 32) → header_two u ≡ header_two v
    → (c : ℕ) → c < 3 → slice_index u c ≡ slice_index v c
unfolding header_two high_first
two_counts u v lu lv e = grind (arith, by_three)

pub same_heads : (h k counts other a b : List ℕ) → IsHeader h counts → IsHeader k other → h ++ a ≡ k ++ b → SameHeads h k counts other
same_heads h k counts other a b ih ik e =
    elim (header_cases h counts ih) [
      | inl one ↦
          elim (header_cases k other ik) [
            | inl first ↦ grind (arith, same_count, by_three)
            | inr second ↦ absurd (unlike_versions (slice_index counts 0) other a b (ap (λ xs. xs ++ a) (sym one.is) ∙ e ∙ ap (λ xs. xs ++ b) second))
          ]
      | inr two ↦
          elim (header_cases k other ik) [
            | inl first ↦ absurd (unlike_versions (slice_index other 0) counts b a (ap (λ xs. xs ++ b) (sym first.is) ∙ sym e ∙ ap (λ xs. xs ++ a) two))
            | inr second ↦ grind (arith, same_front, length-header_two, two_counts)
          ]
    ]

-- a header says the counts at the three places alone
pub header_same : (head counts other : List ℕ) → ((c : ℕ) → c < 3 → slice_index counts c ≡ slice_index other c) → IsHeader head counts → IsHeader head other
unfolding header_of header_two
header_same head counts other same h = grind arith

pub header_if_two : (version : ℕ) (counts : List ℕ) → version ≡ 2 → header_of version counts ≡ header_two counts
unfolding header_of
header_if_two version counts is = ap (λ v. header_of v counts) is

pub header_if_one : (version : ℕ) (counts : List ℕ) → (version ≢ 2) → header_of version counts ≡ header (slice_index counts 0)
unfolding header_of
header_if_one version counts not = ap (λ b. if b then header_two counts else header (slice_index counts 0)) (ne_eqb version 2 not)
