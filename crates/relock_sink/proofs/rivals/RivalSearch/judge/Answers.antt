use Rattle.std.proofs.Common.{sym, subst}
use Rattle.std.specs.Prelude.{MatchBool}
use Rattle.relock_sink.specs.Verdicts.{Says}
use Rattle.relock_sink.specs.RivalSearches.{LetGoFor, IsKnownBefore, IsKnownAfter}
use Rattle.relock_sink.specs.declared.rivals.Own.{Own}
use Rattle.relock_sink.specs.declared.rival.Verdict.{Verdict}
use Rattle.relock_sink.proofs.Doubting.{small_edges, says_nothing, says_contended, says_refuted}
use Rattle.relock_sink.proofs.Rivalry.{first_after, never_after}
use Rattle.relock_sink.proofs.rivals.RivalSearch.judge.Goals as goal

pub own_at-self-requires-clause-found : goal.own_at-self-requires-clause-found
own_at-self-requires-clause-found c =
    let f = c.requires.found in
    let known = subst (λ (o : Own). IsKnownBefore o c.args.self.now.alignments f.0 c.args.edges) c.in-Sought.is f.2 in
    (f.0, f.1, known.own, known.shown)

pub verdict_at-requires-clause-edges : goal.verdict_at-requires-clause-edges
verdict_at-requires-clause-edges c =
    let f = c.requires.found in
    let known = subst (λ (o : Own). IsKnownBefore o c.args.self.now.alignments f.0 c.args.edges) c.in-Confirmed.is f.2 in
    (f.0, f.1, known.own, known.triple)

pub verdict_at-requires-clause-small : goal.verdict_at-requires-clause-small
verdict_at-requires-clause-small c = let f = c.requires.found in small_edges f.0 c.args.edges c.args.self.now.own c.args.self.now.alignments f.2 f.1.small

pub begins_so-requires : goal.begins_so-requires
begins_so-requires c = let f = c.requires.found in record { begun = (f.0.blue, f.0.green, f.0.red, f.2.begun) }

pub returns-in-Sought-clause-judged : goal.returns-in-Sought-clause-judged
returns-in-Sought-clause-judged c = λ fed lent before.
    let known = subst (λ (o : Own). IsKnownBefore o c.args.self.now.alignments fed c.args.edges) c.in-Sought.is before in
    first_after fed c.args.edges c.own_at-self.result known.own (c.own_at-self.ensures fed lent known.own known.shown)

pub returns-in-Nothing-clause-judged : goal.returns-in-Nothing-clause-judged
returns-in-Nothing-clause-judged c = λ fed lent before.
    let known = subst (λ (o : Own). IsKnownBefore o c.args.self.now.alignments fed c.args.edges) c.in-Confirmed.is before in
    let own = c.in-Confirmed.own in
    let says = subst (λ (v : Verdict). Says v fed own c.args.edges) c.in-Nothing.is (c.verdict_at.ensures fed lent known.own known.triple) in
    subst (λ (o : Own). IsKnownAfter o fed c.args.edges) (sym c.in-Confirmed.is) (says_nothing fed own c.args.edges c.args.self.now.alignments known says)

pub returns-in-Contended-clause-judged : goal.returns-in-Contended-clause-judged
returns-in-Contended-clause-judged c = λ fed lent before.
    let known = subst (λ (o : Own). IsKnownBefore o c.args.self.now.alignments fed c.args.edges) c.in-Confirmed.is before in
    let own = c.in-Confirmed.own in
    let says = subst (λ (v : Verdict). Says v fed own c.args.edges) c.in-Contended.is (c.verdict_at.ensures fed lent known.own known.triple) in
    subst (λ (o : Own). MatchBool c.begins_so.result (LetGoFor fed c.args.edges) (IsKnownAfter o fed c.args.edges)) (sym c.in-Confirmed.is)
    (says_contended fed own c.args.edges c.args.self.now.alignments known c.begins_so.result says (c.begins_so.ensures fed.blue fed.green fed.red known.begun))

pub returns-in-Refuted-clause-judged : goal.returns-in-Refuted-clause-judged
returns-in-Refuted-clause-judged c = λ fed lent before.
    let known = subst (λ (o : Own). IsKnownBefore o c.args.self.now.alignments fed c.args.edges) c.in-Confirmed.is before in
    let own = c.in-Confirmed.own in
    says_refuted fed own c.args.edges c.args.self.now.alignments known (subst (λ (v : Verdict). Says v fed own c.args.edges) c.in-Refuted.is (c.verdict_at.ensures fed lent known.own known.triple))

pub returns-in-Other-clause-judged : goal.returns-in-Other-clause-judged
returns-in-Other-clause-judged c = λ fed lent before.
    let known = subst (λ (o : Own). IsKnownBefore o c.args.self.now.alignments fed c.args.edges) c.in-Other.is before in
    subst (λ (o : Own). IsKnownAfter o fed c.args.edges) (sym c.in-Other.is) (never_after fed c.args.edges known.own)
