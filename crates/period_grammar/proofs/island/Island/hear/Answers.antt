use Rattle.std.proofs.Common.{ap, refl, sym, subst, ◌∙◌, ℕ, ◌+◌, ◌*◌, arith, ◌<◌}
use Rattle.std.proofs.lemmas.Grind.{common_steps}
use Rattle.tmds_word.specs.Column.{column_of}
use Rattle.period_grammar.specs.Island.{payload}
use Rattle.period_grammar.specs.After.{after_payload}
use Rattle.period_grammar.specs.Noted.{lent}
use Rattle.island_pack.specs.Repaired.{packet_in, verdicts_in}
use Rattle.period_grammar.specs.IslandAfter.{IsPartsAfter}
use Rattle.period_grammar.specs.declared.island.Left.{Left}
use Rattle.period_grammar.specs.declared.island.Left.TheVariants.{Packet}
use Rattle.period_grammar.proofs.Leads.{no_notes}
use Rattle.period_grammar.proofs.Noting.{pushed}
use Rattle.period_grammar.proofs.Blocks.{first_reported, within_reported, within_stands, whole_reported, whole_stands, closing_reported, closing_stands, second_reported, second_stands, closed_reported, closed_stands, over_reported, over_stands, after_rest}
use Rattle.period_grammar.proofs.island.Island.hear.Goals as goal

pub returns-then-self-eq0-clause-reported : goal.returns-then-self-eq0-clause-reported
returns-then-self-eq0-clause-reported c rest bytes was =
    no_notes _ _ c.requires.room ∙ first_reported c.args.self.now.packets c.args.start c.args.self.now.block (column_of c.args.column.now) (payload rest)
    (subst (λ (n : ℕ). IsPartsAfter Packet c.args.self.now.packets n c.args.self.now.block (payload rest)) c.if-self-eq0.true (subst (λ (l : Left). IsPartsAfter l c.args.self.now.packets c.args.self.now.within c.args.self.now.block (payload rest)) c.in-Packet.is was.stands))

pub returns-then-self-eq0-clause-heard : goal.returns-then-self-eq0-clause-heard
returns-then-self-eq0-clause-heard c rest was =
    after_rest _ rest (column_of c.args.column.now) (c.begin.ensures.heard (payload rest) (subst (λ (n : ℕ). IsPartsAfter Packet c.args.self.now.packets n c.args.self.now.block (payload rest)) c.if-self-eq0.true (subst (λ (l : Left). IsPartsAfter l c.args.self.now.packets c.args.self.now.within c.args.self.now.block (payload rest)) c.in-Packet.is was.stands)))

pub returns-then-self-eq31-clause-reported : goal.returns-then-self-eq31-clause-reported
returns-then-self-eq31-clause-reported c rest bytes was =
    whole_reported c.args.self.now.packets c.args.start c.args.self.now.within ((c.args.start + 2) + 32 * c.args.self.now.packets) c.args.self.now.block c.put.new.self (column_of c.args.column.now) _ (payload rest) (subst (λ (l : Left). IsPartsAfter l c.args.self.now.packets c.args.self.now.within c.args.self.now.block (payload rest)) c.in-Packet.is was.stands) c.if-self-eq31.true
    c.put.ensures.put c.put.ensures.long refl (λ p e. c.tell_packet.ensures.reported bytes p (c.taken-self.ensures.packet ∙ ap packet_in e) (c.taken-self.ensures.verdicts ∙ ap verdicts_in e))

pub returns-then-self-eq31-clause-heard : goal.returns-then-self-eq31-clause-heard
returns-then-self-eq31-clause-heard c rest was =
    after_rest _ rest (column_of c.args.column.now) (subst (λ (l : Left). IsPartsAfter l (c.args.self.now.packets + 1) 0 c.put.new.self (after_payload (column_of c.args.column.now) (payload rest))) (sym c.in-Packet.is) (whole_stands c.args.self.now.packets c.args.self.now.within c.args.self.now.block c.put.new.self (column_of c.args.column.now) (payload rest) (subst (λ (l : Left). IsPartsAfter l c.args.self.now.packets c.args.self.now.within c.args.self.now.block (payload rest)) c.in-Packet.is was.stands) c.if-self-eq31.true))

pub returns-else-self-eq31-clause-reported : goal.returns-else-self-eq31-clause-reported
returns-else-self-eq31-clause-reported c rest bytes was =
    let lt : c.args.self.now.within < 31 = omega arith in
    no_notes _ _ c.requires.room ∙ within_reported c.args.self.now.packets c.args.start c.args.self.now.within c.args.self.now.block (column_of c.args.column.now) (payload rest) (subst (λ (l : Left). IsPartsAfter l c.args.self.now.packets c.args.self.now.within c.args.self.now.block (payload rest)) c.in-Packet.is was.stands) lt

pub returns-else-self-eq31-clause-heard : goal.returns-else-self-eq31-clause-heard
returns-else-self-eq31-clause-heard c rest was =
    let lt : c.args.self.now.within < 31 = omega arith in
    let pos : 0 < c.args.self.now.within = omega arith in
    after_rest _ rest (column_of c.args.column.now) (subst (λ (l : Left). IsPartsAfter l c.args.self.now.packets (c.args.self.now.within + 1) c.put.new.self (after_payload (column_of c.args.column.now) (payload rest))) (sym c.in-Packet.is) (within_stands c.args.self.now.packets c.args.self.now.within c.args.self.now.block c.put.new.self (column_of c.args.column.now) (payload rest) (subst (λ (l : Left). IsPartsAfter l c.args.self.now.packets c.args.self.now.within c.args.self.now.block (payload rest)) c.in-Packet.is was.stands) pos lt c.put.ensures.put))

pub returns-then-is_closed_by-clause-reported : goal.returns-then-is_closed_by-clause-reported
returns-then-is_closed_by-clause-reported c rest bytes was =
    closing_reported c.args.self.now.packets c.args.start c.args.self.now.within ((c.args.start + 2) + 32 * c.args.self.now.packets) _ _ _ c.args.self.now.block (column_of c.args.column.now) _ (payload rest) (subst (λ (l : Left). IsPartsAfter l c.args.self.now.packets c.args.self.now.within c.args.self.now.block (payload rest)) c.in-First.is was.stands)
    (sym c.is_closed_by.ensures ∙ c.if-is_closed_by.true) refl
    (λ g e f. c.tell_close.ensures.reported (lent bytes c.args.self.now.whole) g e f)

pub returns-then-is_closed_by-clause-heard : goal.returns-then-is_closed_by-clause-heard
returns-then-is_closed_by-clause-heard c rest was =
    after_rest _ rest (column_of c.args.column.now) (closing_stands c.args.self.now.packets c.args.self.now.within _ _ _ c.args.self.now.block c.args.self.now.block (column_of c.args.column.now) (payload rest) (subst (λ (l : Left). IsPartsAfter l c.args.self.now.packets c.args.self.now.within c.args.self.now.block (payload rest)) c.in-First.is was.stands) (sym c.is_closed_by.ensures ∙ c.if-is_closed_by.true))

pub returns-else-is_closed_by-clause-reported : goal.returns-else-is_closed_by-clause-reported
returns-else-is_closed_by-clause-reported c rest bytes was =
    no_notes _ _ c.requires.room ∙ second_reported c.args.self.now.packets c.args.start c.args.self.now.within _ _ _ c.args.self.now.block (column_of c.args.column.now) (payload rest) (subst (λ (l : Left). IsPartsAfter l c.args.self.now.packets c.args.self.now.within c.args.self.now.block (payload rest)) c.in-First.is was.stands) (sym c.is_closed_by.ensures ∙ c.if-is_closed_by.false)

pub returns-else-is_closed_by-clause-heard : goal.returns-else-is_closed_by-clause-heard
returns-else-is_closed_by-clause-heard c rest was =
    after_rest _ rest (column_of c.args.column.now) (second_stands c.args.self.now.packets c.args.self.now.within _ _ _ c.args.self.now.block _ (column_of c.args.column.now) (payload rest) (subst (λ (l : Left). IsPartsAfter l c.args.self.now.packets c.args.self.now.within c.args.self.now.block (payload rest)) c.in-First.is was.stands) (sym c.is_closed_by.ensures ∙ c.if-is_closed_by.false) c.put-in-First.ensures.put)

pub returns-in-Closed-clause-reported : goal.returns-in-Closed-clause-reported
returns-in-Closed-clause-reported c rest bytes was =
    closed_reported c.args.self.now.packets c.args.start c.args.self.now.within ((c.args.start + 2) + 32 * c.args.self.now.packets) c.args.self.now.block (column_of c.args.column.now) _ (payload rest) (subst (λ (l : Left). IsPartsAfter l c.args.self.now.packets c.args.self.now.within c.args.self.now.block (payload rest)) c.in-Closed.is was.stands) refl (pushed _ _ _ _ c.requires.room c.push.ensures)

pub returns-in-Closed-clause-heard : goal.returns-in-Closed-clause-heard
returns-in-Closed-clause-heard c rest was = after_rest _ rest (column_of c.args.column.now) (closed_stands c.args.self.now.packets c.args.self.now.within c.args.self.now.block c.args.self.now.block (column_of c.args.column.now) (payload rest) (subst (λ (l : Left). IsPartsAfter l c.args.self.now.packets c.args.self.now.within c.args.self.now.block (payload rest)) c.in-Closed.is was.stands))

pub returns-in-Over-clause-reported : goal.returns-in-Over-clause-reported
returns-in-Over-clause-reported c rest bytes was = no_notes _ _ c.requires.room ∙ over_reported c.args.self.now.packets c.args.start c.args.self.now.within c.args.self.now.block (column_of c.args.column.now) (payload rest) (subst (λ (l : Left). IsPartsAfter l c.args.self.now.packets c.args.self.now.within c.args.self.now.block (payload rest)) c.in-Over.is was.stands)

pub returns-in-Over-clause-heard : goal.returns-in-Over-clause-heard
returns-in-Over-clause-heard c rest was =
    after_rest _ rest (column_of c.args.column.now) (subst (λ (l : Left). IsPartsAfter l c.args.self.now.packets c.args.self.now.within c.args.self.now.block (after_payload (column_of c.args.column.now) (payload rest))) (sym c.in-Over.is) (over_stands c.args.self.now.packets c.args.self.now.within c.args.self.now.block c.args.self.now.block (column_of c.args.column.now) (payload rest) (subst (λ (l : Left). IsPartsAfter l c.args.self.now.packets c.args.self.now.within c.args.self.now.block (payload rest)) c.in-Over.is was.stands)))

pub returns-in-Closed-clause-room : goal.returns-in-Closed-clause-room
returns-in-Closed-clause-room c = grind (arith, common_steps)
