use Rattle.std.proofs.Common.{arith, ◌≡◌, ◌+◌, ◌-◌, ◌/◌, ◌%◌, ◌^◌, ◌==◌, false, ◌<◌, ◌≤◌, ◌∙◌, ℕ, Bool, List, length, take, drop, set, get_or, ap, sym, refl, inl, inr}
use Rattle.std.specs.Prelude.{◌⊎◌}
use Rattle.std.proofs.lemmas.List.{length-set}
use Rattle.tmds_word.specs.Bits.{word_bits}
use Rattle.capture_file.proofs.Setting.{word_done}
use Rattle.capture_file.specs.Damage.{with_word}
use Rattle.capture_file.proofs.Bitwise.{begun, begun_more, set_inside, set_outside, untouched, sent_is}
use Rattle.capture_file.proofs.chunk.Chunk.hit.Goals as goal
use Rattle.capture_file.proofs.chunk.Chunk.hit.Goals.{then-begins-first-via-then-begins-first, then-begins-first-via-else-begins-first+then-end-begins, then-first-at+then-at-end, else-first-at, else-first-at-via-then-first-at+else-at-end, else-first-at-via-else-first-at}

all_ten : (place w : ℕ) (row : List Bool) → begun place w 10 row ≡ with_word place w row
all_ten place w row = word_done row (begun place w 10 row) place 10 w refl refl

pub returns-then-begins-first-clause-part : goal.returns-then-begins-first-clause-part
returns-then-begins-first-clause-part c row room own =
    let n = length c.args.self.now in
    let p = c.args.place in
    let out : (p + 10 ≤ c.args.from) ⊎ (c.args.from + n ≤ p) =
    elim c.then-begins-first.branch [
      | then-begins-first-via-then-begins-first w ↦ inl (omega (arith, w.if-begins-first.true, c.from-begins.ensures, c.from-first.ensures))
      | then-begins-first-via-else-begins-first+then-end-begins w ↦ inr (omega (arith, w.if-end-begins.true, c.from-begins.ensures, c.from-first.ensures, c.from.ensures, c.len.ensures))
    ] in
    own ∙ sym (ap (λ xs. take n (drop c.args.from xs)) (sym (all_ten p c.args.value row)) ∙ untouched p c.args.value 10 c.args.from n row room (omega arith) out)

step : (from n place w k at : ℕ) (row old now : List Bool) (v : Bool) → place + 10 ≤ length row → k < 10 → at ≡ place + k → v ≡ ((w / 2 ^ k) % 2 == 1) → from ≤ at → at < from + n
    → old ≡ take n (drop from (begun place w k row)) → now ≡ set old (at - from) v → now ≡ take n (drop from (begun place w (k + 1) row))
step from n place w k at row old now v room lt e sent le less was is = grind (arith, sent_is, begun, begun_more, set_inside)

skip : (from n place w k at : ℕ) (row old : List Bool) → place + 10 ≤ length row → k < 10 → at ≡ place + k → (at < from) ⊎ (from + n ≤ at)
    → old ≡ take n (drop from (begun place w k row)) → old ≡ take n (drop from (begun place w (k + 1) row))
skip from n place w k at row old room lt e out was =
    let out_at : (place + k < from) ⊎ (from + n ≤ place + k) = elim out [ inl a ↦ inl (omega (arith, a, e)) | inr b ↦ inr (omega (arith, b, e)) ] in
    was ∙ sym (ap (λ xs. take n (drop from xs)) (begun_more place w k row room lt) ∙ set_outside from n (place + k) (begun place w k row) (get_or (word_bits w) k false) out_at)

pub loop-k-preserved : goal.loop-k-preserved
loop-k-preserved c = grind (arith, length-set, step, else-first-at, else-first-at-via-else-first-at, skip)

pub returns-clause-part : goal.returns-clause-part
returns-clause-part c row room own = grind (arith, begun, all_ten)
