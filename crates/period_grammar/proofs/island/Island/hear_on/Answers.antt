use Rattle.std.proofs.Common.{ap, not, sym, subst, ◌∙◌, ℕ, ◌+◌, arith, ◌<◌}
use Rattle.tmds_word.specs.Column.{column_of}
use Rattle.period_grammar.specs.Island.{payload}
use Rattle.period_grammar.specs.After.{after_payload}
use Rattle.period_grammar.specs.IslandAfter.{IsPartsAfter}
use Rattle.period_grammar.specs.declared.island.Left.{Left}
use Rattle.period_grammar.specs.declared.island.Left.TheVariants.{Packet}
use Rattle.period_grammar.proofs.Blocks.{within_stands, second_stands, after_rest}
use Rattle.period_grammar.proofs.InPacket.{second_goes}
use Rattle.period_grammar.proofs.island.Island.hear_on.Goals as goal

pub returns-then-self-eq0-clause-heard : goal.returns-then-self-eq0-clause-heard
returns-then-self-eq0-clause-heard c rest was =
    after_rest _ rest (column_of c.args.column.now) (c.begin.ensures.heard (payload rest) (subst (λ (n : ℕ). IsPartsAfter Packet c.args.self.now.packets n c.args.self.now.block (payload rest)) c.if-self-eq0.true (subst (λ (l : Left). IsPartsAfter l c.args.self.now.packets c.args.self.now.within c.args.self.now.block (payload rest)) c.in-Packet.is was.stands)))

pub returns-else-self-eq31-clause-heard : goal.returns-else-self-eq31-clause-heard
returns-else-self-eq31-clause-heard c rest was =
    let lt : c.args.self.now.within < 31 = omega (arith, c.requires.blocked.within) in
    let pos : 0 < c.args.self.now.within = omega arith in
    after_rest _ rest (column_of c.args.column.now) (subst (λ (l : Left). IsPartsAfter l c.args.self.now.packets (c.args.self.now.within + 1) c.put.new.self (after_payload (column_of c.args.column.now) (payload rest))) (sym c.in-Packet.is) (within_stands c.args.self.now.packets c.args.self.now.within c.args.self.now.block c.put.new.self (column_of c.args.column.now) (payload rest) (subst (λ (l : Left). IsPartsAfter l c.args.self.now.packets c.args.self.now.within c.args.self.now.block (payload rest)) c.in-Packet.is was.stands) pos lt c.put.ensures.put))

pub returns-then-is_closed_by-clause-count : goal.returns-then-is_closed_by-clause-count
returns-then-is_closed_by-clause-count c rest was =
    ap not (sym (sym c.is_closed_by.ensures ∙ c.if-is_closed_by.true)) ∙ second_goes c.args.self.now.packets c.args.self.now.within _ _ _ c.args.self.now.block (column_of c.args.column.now) (payload rest) (subst (λ (l : Left). IsPartsAfter l c.args.self.now.packets c.args.self.now.within c.args.self.now.block (payload rest)) c.in-First.is was.stands)

pub returns-else-is_closed_by-clause-count : goal.returns-else-is_closed_by-clause-count
returns-else-is_closed_by-clause-count c rest was =
    ap not (sym (sym c.is_closed_by.ensures ∙ c.if-is_closed_by.false)) ∙ second_goes c.args.self.now.packets c.args.self.now.within _ _ _ c.args.self.now.block (column_of c.args.column.now) (payload rest) (subst (λ (l : Left). IsPartsAfter l c.args.self.now.packets c.args.self.now.within c.args.self.now.block (payload rest)) c.in-First.is was.stands)

pub returns-else-is_closed_by-clause-heard : goal.returns-else-is_closed_by-clause-heard
returns-else-is_closed_by-clause-heard c rest was =
    after_rest _ rest (column_of c.args.column.now) (second_stands c.args.self.now.packets c.args.self.now.within _ _ _ c.args.self.now.block _ (column_of c.args.column.now) (payload rest) (subst (λ (l : Left). IsPartsAfter l c.args.self.now.packets c.args.self.now.within c.args.self.now.block (payload rest)) c.in-First.is was.stands) (sym c.is_closed_by.ensures ∙ c.if-is_closed_by.false) c.put-in-First.ensures.put)
