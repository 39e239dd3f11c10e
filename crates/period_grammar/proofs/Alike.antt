-- Columns that have the words of a column of the last run.
use Rattle.std.proofs.Common.{◌≡◌, ℕ, ◌+◌, ◌*◌, ◌<◌, Bool, true, ◌==◌, ◌&&◌, ◌||◌, ◌⊎◌, refl, ap, sym, ◌∙◌, arith, eqb-true, slice_index}
use Rattle.std.proofs.lemmas.Bool.{eq-eqb}
use borrow.Author.Tests.{ltb-true}
use Rattle.tmds_word.specs.Column.{Column}
use Rattle.terc4.specs.Tables.{control_words, is_control, is_in, value_in}
use Rattle.period_grammar.specs.Column.{control_bits, value_of}
use Rattle.period_grammar.specs.GoesOn.{is_alike, goes_kept}
use Rattle.period_grammar.specs.declared.control.ControlState.{ControlState}
use Rattle.period_grammar.proofs.Going.{IsWhole, both, whole_is}

one_of : (a b : Bool) → (a || b) ≡ true → (a ≡ true) ⊎ (b ≡ true)
one_of a b h = grind arith

-- a control word is that of its bits
record IsKnown (w : ℕ) : Type 0 where
  pub word : slice_index control_words (control_bits w) ≡ w
  pub below : control_bits w < 4

known_1 : IsKnown 0x0ab
unfolding control_words control_bits value_in
known_1 = record { word = refl; below = ltb-true (control_bits 0x0ab) 4 refl }

known_2 : IsKnown 0x154
unfolding control_words control_bits value_in
known_2 = record { word = refl; below = ltb-true (control_bits 0x154) 4 refl }

known_3 : IsKnown 0x2ab
unfolding control_words control_bits value_in
known_3 = record { word = refl; below = ltb-true (control_bits 0x2ab) 4 refl }

among : (w x : ℕ) (p : Bool) → IsKnown x → (p ≡ true → IsKnown w) → ((x == w) || p) ≡ true → IsKnown w
among w x p known rest h = grind (arith, one_of, eqb-true)

known : (w : ℕ) → is_control w ≡ true → IsKnown w
unfolding is_control control_words is_in control_bits value_in
known w h = grind (arith, among, known_1, known_2, known_3, ltb-true)

same_word : (u w : ℕ) → is_control u ≡ true → is_control w ≡ true → control_bits u ≡ control_bits w → u ≡ w
same_word u w a b e = sym (known u a).word ∙ ap (slice_index control_words) e ∙ (known w b).word

bits_of_sum : (a b c x y z : ℕ) → a < 4 → b < 4 → c < 4 → x < 4 → y < 4 → z < 4 → (a + 4 * b) + 16 * c ≡ (x + 4 * y) + 16 * z → (a ≡ x) × (b ≡ y) × (c ≡ z)
bits_of_sum a b c x y z la lb lc lx ly lz e = (omega arith, omega arith, omega arith)

-- columns of control words that have one value are one
same_column : (v : ℕ) (c d : Column) → IsWhole v c → IsWhole v d → (d.blue ≡ c.blue) × (d.green ≡ c.green) × (d.red ≡ c.red)
unfolding value_of
same_column v c d p q =
    let bits = bits_of_sum (control_bits d.blue) (control_bits d.green) (control_bits d.red) (control_bits c.blue) (control_bits c.green) (control_bits c.red)
    (known d.blue q.blue).below (known d.green q.green).below (known d.red q.red).below (known c.blue p.blue).below (known c.green p.green).below (known c.red p.red).below (sym q.value ∙ p.value) in
    (same_word d.blue c.blue q.blue p.blue bits.0, same_word d.green c.green q.green p.green bits.1, same_word d.red c.red q.red p.red bits.2)

same_test : (p q : Bool) → (p ≡ true → q ≡ true) → (q ≡ true → p ≡ true) → p ≡ q
same_test p q h k = grind arith

three : (a b c : Bool) → a ≡ true → b ≡ true → c ≡ true → (a && (b && c)) ≡ true
three a b c h k l = grind arith

-- what has the words of a column that goes on with the last run goes on with it, and nothing else does
pub alike_goes : (kept : ControlState) (c : Column) → goes_kept kept c ≡ true → (d : Column) → is_alike c d ≡ goes_kept kept d
alike_goes kept c goes d = grind (arith, whole_is, both, same_test, eqb-true, same_column, three, eq-eqb)
