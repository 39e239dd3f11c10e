use Rattle.std.proofs.Common.{◌≡◌, ℕ, ◌*◌, Bool, List, [], ◌∷◌, length, take, drop, ap, arith, refl, sym, subst, ◌∙◌}
use Rattle.bch_block.specs.declared.Verdict.{Verdict}
use Rattle.bch_block.specs.declared.Verdict.TheVariants.{Clean}
use Rattle.std.specs.Prelude.{slice_index_or}
use Rattle.island_pack.specs.Nibbles.{nibbles_of, by_turns, body_bits, header_bits, sync_values}
use Rattle.island_pack.specs.Taken.{IsTaken}
use Rattle.island_pack.proofs.Parts.{body_0, body_1, body_2, body_3, each_body, All-four, length-four}
use Rattle.island_pack.proofs.Rows.{body_of_rows, header_of_rows, sync_of_rows, foreign_of_rows}
use Rattle.island_pack.proofs.taking.taken.Goals as goal

moved : (x y : List Bool) (bytes whole : List ℕ) (v : Verdict) → x ≡ y → whole ≡ bytes → IsTaken x bytes v → IsTaken y whole v
moved x y bytes whole v e f taken = subst (λ z. IsTaken z whole v) e (subst (λ ys. IsTaken x ys v) (sym f) taken)

pub returns-clause-taken : goal.returns-clause-taken
unfolding body_bits header_bits sync_values
returns-clause-taken c =
    let columns = c.args.columns.now in
    let long : length columns ≡ 32 = c.blue_rows-blue.ensures.columns in
    let blue = c.blue_rows-blue.result in
    let others = c.other_rows-others.result in
    let are = c.blue_rows-blue.ensures.rows in
    let others_are = c.other_rows-others.ensures in
    let four : length blue ≡ 4 = omega arith in
    let eight : length others ≡ 8 = omega arith in
    let bits : ℕ → List Bool = λ b. by_turns b (nibbles_of columns 1) (nibbles_of columns 2) in
    let joined = c.joined.ensures in
    let verdicts : List Verdict =
    c.body-verdict0.result.1 ∷ c.body-verdict1.result.1 ∷ c.body-verdict2.result.1 ∷ c.body-verdict3.result.1 ∷ c.header-verdict4.result.1 ∷ [] in
    let b0 = c.body-verdict0.result.0 in
    let b1 = c.body-verdict1.result.0 in
    let b2 = c.body-verdict2.result.0 in
    let b3 = c.body-verdict3.result.0 in
    let l0 = c.body-verdict0.ensures.long in
    let l1 = c.body-verdict1.ensures.long in
    let l2 = c.body-verdict2.ensures.long in
    let l3 = c.body-verdict3.ensures.long in
    record {
      whole = grind (arith, length-four, All-four);
      sync = sync_of_rows columns blue c.sync_of.result long (omega arith) are c.sync_of.ensures;
      bodies =
          each_body (λ b. IsTaken (bits b) (take 7 (drop (7 * b) c.joined.result)) (slice_index_or verdicts b Clean))
          (moved _ (bits 0) b0 _ _ (body_of_rows columns others 0 long eight (omega arith) others_are)
          (ap (take 7) joined ∙ body_0 b0 b1 b2 b3 l0) c.body-verdict0.ensures.taken)
          (moved _ (bits 1) b1 _ _ (body_of_rows columns others 1 long eight (omega arith) others_are)
          (ap (λ ys. take 7 (drop 7 ys)) joined ∙ body_1 b0 b1 b2 b3 l0 l1) c.body-verdict1.ensures.taken)
          (moved _ (bits 2) b2 _ _ (body_of_rows columns others 2 long eight (omega arith) others_are)
          (ap (λ ys. take 7 (drop 14 ys)) joined ∙ body_2 b0 b1 b2 b3 l0 l1 l2) c.body-verdict2.ensures.taken)
          (moved _ (bits 3) b3 _ _ (body_of_rows columns others 3 long eight (omega arith) others_are)
          (ap (λ ys. take 7 (drop 21 ys)) joined ∙ body_3 b0 b1 b2 b3 l0 l1 l2 l3) c.body-verdict3.ensures.taken);
      header = subst (λ x. IsTaken x c.header-verdict4.result.0 c.header-verdict4.result.1) (header_of_rows columns blue long four are) c.header-verdict4.ensures.taken;
      blocks = refl;
      symbols = c.foreign_in.ensures ∙ foreign_of_rows columns blue others long four eight are others_are;
    }
