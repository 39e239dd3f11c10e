use Rattle.std.proofs.Common.{◌≡◌, ℕ, ◌+◌, min, List, length, take, ap, sym, subst, arith, length-append}
use Rattle.std.proofs.lemmas.List.{length-take-le, take-map}
use Rattle.tmds_word.specs.Column.{blues, greens, reds}
use Rattle.tmds_word.specs.Lent.{columns_in}
use Rattle.period_grammar.specs.Heard.{line_bytes}
use Rattle.period_grammar.specs.LineSeen.{LineSeen, IsSized}
use Rattle.period_grammar.specs.Lines.{IsLineAfter}
use Rattle.period_grammar.proofs.Fronts.{front_long, wrong_below}
use Rattle.period_grammar.proofs.Sixteens.{length_bytes}
use Rattle.period_grammar.proofs.Lined.{line_append}
use Rattle.period_grammar.proofs.line.Line.hear_sixteen.Goals as goal

pub hear_front-requires-clause-wrong : goal.hear_front-requires-clause-wrong
hear_front-requires-clause-wrong c = wrong_below c.push_sixteen-front.result.count _ _ c.push_sixteen-front.result.blue (front_long c.push_sixteen-front.result.count (λ d. d.blue) (columns_in c.args.columns) c.requires.sixteen c.push_sixteen-front.ensures.within) c.push_sixteen-front.ensures.blue

pub hear_front-requires-2-clause-wrong : goal.hear_front-requires-2-clause-wrong
hear_front-requires-2-clause-wrong c = wrong_below c.push_sixteen-front.result.count _ _ c.push_sixteen-front.result.green (front_long c.push_sixteen-front.result.count (λ d. d.green) (columns_in c.args.columns) c.requires.sixteen c.push_sixteen-front.ensures.within) c.push_sixteen-front.ensures.green

pub hear_front-requires-3-clause-wrong : goal.hear_front-requires-3-clause-wrong
hear_front-requires-3-clause-wrong c = wrong_below c.push_sixteen-front.result.count _ _ c.push_sixteen-front.result.red (front_long c.push_sixteen-front.result.count (λ d. d.red) (columns_in c.args.columns) c.requires.sixteen c.push_sixteen-front.ensures.within) c.push_sixteen-front.ensures.red

pub invariant_of-self : goal.invariant_of-self
invariant_of-self c =
    let cols = columns_in c.args.columns in
    let n = c.push_sixteen-front.result.count in
    let within = c.push_sixteen-front.ensures.within in
    let room = c.requires.room in
    let counted : c.self.inside.count ≡ c.args.self.now.count = ap (λ (l : LineSeen). l.count) c.self.view_is in
    let sum : c.self.inside.count + n ≡ min (c.self.inside.count + n) 4096 = omega (arith, within, room, counted) in
    let count : min c.self.inside.count 4096 ≡ c.self.inside.count = omega (arith, room, counted) in
    let long : length (take n cols) ≡ n = length-take-le n cols (omega (arith, within, c.requires.sixteen)) in
    record {
      bytes = omega (arith, ap (λ (xs : List ℕ). length xs) c.push_sixteen-front.ensures.put, length-append c.self.inside.bytes (line_bytes (take n cols)), length_bytes (take n cols), long, c.self.invariant.bytes, count, sum);
      blue = subst (λ (m : ℕ). IsSized c.hear_front.new.self m) sum c.hear_front.ensures.sized;
      green = subst (λ (m : ℕ). IsSized c.hear_front-2.new.self m) sum c.hear_front-2.ensures.sized;
      red = subst (λ (m : ℕ). IsSized c.hear_front-3.new.self m) sum c.hear_front-3.ensures.sized;
    }

pub returns-clause-heard : goal.returns-clause-heard
returns-clause-heard c = λ pixels was.
    let cols = columns_in c.args.columns in
    let n = c.push_sixteen-front.result.count in
    let within = c.push_sixteen-front.ensures.within in
    let room = c.requires.room in
    let counted : c.self.inside.count ≡ c.args.self.now.count = ap (λ (l : LineSeen). l.count) c.self.view_is in
    let long : length (take n cols) ≡ n = length-take-le n cols (omega (arith, within, c.requires.sixteen)) in
    line_append _ _ pixels (take n cols) (take n (blues cols)) (take n (greens cols)) (take n (reds cols)) (subst (λ (l : LineSeen). IsLineAfter l pixels) (sym c.self.view_is) was)
    (omega (arith, long, within, room, counted)) (omega (arith, long)) c.push_sixteen-front.ensures.put
    (sym (take-map (λ d. d.blue) n cols)) (sym (take-map (λ d. d.green) n cols)) (sym (take-map (λ d. d.red) n cols))
    (λ ws h. c.hear_front.ensures.heard ws (take n (blues cols)) c.step.result h (front_long n (λ d. d.blue) cols c.requires.sixteen within) c.step.ensures.step c.push_sixteen-front.ensures.blue)
    (λ ws h. c.hear_front-2.ensures.heard ws (take n (greens cols)) c.step-2.result h (front_long n (λ d. d.green) cols c.requires.sixteen within) c.step-2.ensures.step c.push_sixteen-front.ensures.green)
    (λ ws h. c.hear_front-3.ensures.heard ws (take n (reds cols)) c.step-3.result h (front_long n (λ d. d.red) cols c.requires.sixteen within) c.step-3.ensures.step c.push_sixteen-front.ensures.red)
