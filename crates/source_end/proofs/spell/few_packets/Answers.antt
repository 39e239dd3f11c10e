use Rattle.std.proofs.Common.{arith, rules, ◌≡◌, ◌*◌, ℕ, List, length, take, sym, subst}
use Rattle.std.proofs.lemmas.Slice.{take-put_mid}
use borrow.Rule.Slice.PartMut.{put_mid}
use Rattle.tmds_word.specs.Column.{Column}
use Rattle.tmds_word.specs.Words.{packed_columns}
use Rattle.island_pack.specs.Spelling.{SpellsPackets}
use Rattle.source_end.proofs.Fronts.{ok_map, err_map}
use Rattle.source_end.proofs.ItemFronts.{packets_cut}
use Rattle.source_end.proofs.spell.few_packets.Goals as goal

-- what a lane's room begins with
written : (n : ℕ) (old bs : List ℕ) → length bs ≡ n → take n (put_mid 0 n old bs) ≡ bs
written n old bs e = take-put_mid 0 n old bs n (omega (arith, e)) (omega arith)

same_columns : (n : ℕ) (blue green red bs gs rs : List ℕ) → length bs ≡ n → length gs ≡ n → length rs ≡ n
    → packed_columns bs gs rs ≡ packed_columns (take n (put_mid 0 n blue bs)) (take n (put_mid 0 n green gs)) (take n (put_mid 0 n red rs))
same_columns n blue green red bs gs rs lb lg lr = sym (λ j. packed_columns (written n blue bs lb j) (written n green gs lg j) (written n red rs lr j))

pub returns-clause-ok : goal.returns-clause-ok
returns-clause-ok g c =
    let packets = c.args.packets.now in
    let n = 40 * length packets in
    let same = same_columns n c.args.blue.now c.args.green.now c.args.red.now c.lay_each.new.blue c.lay_each.new.green c.lay_each.new.red (search rules) (search rules) (search rules) in
    ok_map c.packed.result
    (λ e. (_, e, subst (λ (cs : List Column). SpellsPackets c.args.first packets cs) same c.lay_each.ensures.spelled))
    c.packed.ensures.ok

pub returns-clause-part : goal.returns-clause-part
returns-clause-part g c =
    let packets = c.args.packets.now in
    let n = 40 * length packets in
    let same = same_columns n c.args.blue.now c.args.green.now c.args.red.now c.lay_each.new.blue c.lay_each.new.green c.lay_each.new.red (search rules) (search rules) (search rules) in
    err_map c.packed.result
    (λ cut.
    packets_cut packets c.args.first (g.C.ColumnSink.taken c.args.out.now) (g.C.ColumnSink.taken c.packed.new.self) _ cut.0
    (subst (λ (cs : List Column). SpellsPackets c.args.first packets cs) same c.lay_each.ensures.spelled) cut.1)
    c.packed.ensures.part
