-- Pixels of a line that are heard sixteen at a time.
use Rattle.std.proofs.Common.{◌≡◌, ℕ, ◌+◌, ◌*◌, ◌≤◌, true, List, [], ◌∷◌, ◌++◌, length, take, drop, refl, ap, sym, subst, ◌∙◌, arith, All, append_assoc}
use Rattle.std.specs.List.{prefix_len}
use Rattle.std.proofs.Math.Seq.{take-add}
use Rattle.std.proofs.lemmas.List.{take-take}
use Rattle.std.proofs.lemmas.List.Elements.{All-append}
use Rattle.tmds_word.specs.Column.{Column}
use Rattle.period_grammar.specs.Heard.{line_bytes}
use Rattle.period_grammar.specs.Pixels.{is_pixel}
use Rattle.period_grammar.specs.LineSeen.{LineSeen}
use Rattle.period_grammar.specs.Lines.{IsLineAfter}
use Rattle.period_grammar.proofs.Pixels.{prefix_all, prefix_pass}

pub length_bytes : (cs : List Column) → length (line_bytes cs) ≡ 3 * length cs
unfolding line_bytes
length_bytes [] = refl
length_bytes (c ∷ cs) = omega (arith, length_bytes cs)

pub more_heard : (l : LineSeen) (pixels cols part : List Column) (at k : ℕ) → take k part ≡ take k (drop at cols) → IsLineAfter l ((pixels ++ take at cols) ++ take k part) → IsLineAfter l (pixels ++ take (at + k) cols)
more_heard l pixels cols part at k e was =
    subst (λ (cs : List Column). IsLineAfter l cs)
    (ap (λ ds. (pixels ++ take at cols) ++ ds) e ∙ append_assoc pixels (take at cols) (take k (drop at cols)) ∙ ap (λ ds. pixels ++ ds) (sym (take-add at k cols))) was

-- the first that pass among sixteen, after some that do
pub pixels_more : (cols part : List Column) (at n w : ℕ) → part ≡ take w (drop at cols) → n ≤ w → n ≡ prefix_len is_pixel part → All (λ c. is_pixel c ≡ true) (take at cols) → All (λ c. is_pixel c ≡ true) (take (at + n) cols)
pixels_more cols part at n w e le first all =
    let own : take (prefix_len is_pixel part) part ≡ take n (drop at cols) = (λ i. take (sym first i) (e i)) ∙ take-take n w (drop at cols) le in
    subst (λ (cs : List Column). All (λ c. is_pixel c ≡ true) cs) (sym (take-add at n cols))
    (All-append (λ c. is_pixel c ≡ true) (take at cols) (take n (drop at cols)) all
    (subst (λ (cs : List Column). All (λ c. is_pixel c ≡ true) cs) own (prefix_all is_pixel part)))

-- the columns after the first that pass
pub pixels_after : (cols part : List Column) (n m : ℕ) → n ≤ length cols → All (λ c. is_pixel c ≡ true) (take n cols) → part ≡ drop n cols → m ≡ prefix_len is_pixel part → n + m ≡ prefix_len is_pixel cols
pixels_after cols part n m le all e first =
    ap (λ k. n + k) (first ∙ ap (prefix_len is_pixel) e) ∙ sym (prefix_pass is_pixel n cols le all)
