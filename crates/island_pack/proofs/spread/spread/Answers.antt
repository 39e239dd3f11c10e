use Rattle.std.proofs.Common.{◌≡◌, ◌≤◌, ℕ, ◌<◌, ◌+◌, ◌*◌, Bool, true, refl, sym, subst, ◌∙◌, ◌==◌, eqb-true, arith, slice_index}
use Rattle.std.proofs.lemmas.Nat.Bits.{bit_at-lt}
use Rattle.tmds_word.proofs.Below.{passes_below, passes_at}
use Rattle.terc4.specs.Tables.{terc_words, value_in}
use Rattle.island_pack.specs.Registers.{code_of, spread_of}
use Rattle.island_pack.specs.declared.spread.TheConstants.{SPREAD}
use Rattle.island_pack.proofs.spread.spread.Goals as goal

is_spread : ℕ → Bool
is_spread w = slice_index SPREAD w == spread_of (code_of w)

all_spread : passes_below 1024 is_spread ≡ true
unfolding passes_below is_spread spread_of code_of value_in terc_words
all_spread = refl

spread_at : (w : ℕ) → w < 1024 → slice_index SPREAD w ≡ spread_of (code_of w)
unfolding is_spread
spread_at w lt = eqb-true _ _ (passes_at 1024 is_spread w all_spread lt)

five_ones : (a b c d e : ℕ) → a < 2 → b < 2 → c < 2 → d < 2 → e < 2 → a + 256 * b + 65536 * c + 16777216 * d + 4294967296 * e ≤ 4311810305
five_ones a b c d e la lb lc ld le = omega arith

spread_most : (n : ℕ) → spread_of n ≤ 4311810305
unfolding spread_of
spread_most n = five_ones _ _ _ _ _ (bit_at-lt n 0) (bit_at-lt n 1) (bit_at-lt n 2) (bit_at-lt n 3) (bit_at-lt n 4)

pub returns-clause-value : goal.returns-clause-value
returns-clause-value c =
    subst (λ (n : ℕ). slice_index SPREAD n ≡ spread_of (code_of c.args.word)) (sym (c.from.ensures ∙ c.value.ensures.value)) (spread_at c.args.word (omega (arith, c.value.ensures.value, c.value.ensures.below)))

pub returns-clause-below : goal.returns-clause-below
returns-clause-below c = subst (λ (n : ℕ). n ≤ 4311810305) (sym (returns-clause-value c)) (spread_most (code_of c.args.word))
