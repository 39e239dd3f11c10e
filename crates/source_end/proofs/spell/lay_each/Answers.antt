use Rattle.std.proofs.Common.{◌≡◌, ◌+◌, ◌*◌, ◌++◌, ◌==◌, ◌&&◌, List, ℕ, [], length, take, get_or, ap, sym, subst, ◌∙◌, arith, take_all, length-take-le}
use Rattle.std.proofs.lemmas.List.{take_more}
use Rattle.tmds_word.specs.Column.{Column}
use Rattle.tmds_word.specs.Words.{packed_columns}
use Rattle.island_pack.specs.Spelling.{SpellsPackets}
use Rattle.island_pack.specs.declared.packet.Packet.{Packet}
use Rattle.source_end.proofs.Packets.{packet_at, sync_below, packed_more, lane_size, not_first, first_of_all, no_columns, SpellsPackets-more}
use Rattle.source_end.proofs.spell.lay_each.Goals as goal

none : Packet
none = record { header = []; bodies = []; sync = [] }

pub lay_packed-requires-clause-sync : goal.lay_packed-requires-clause-sync
unfolding none
lay_packed-requires-clause-sync c = grind (arith, sync_below, packet_at)

pub loop-i-init : goal.loop-i-init
loop-i-init c = record { blue_size = c.requires.blue; green_size = c.requires.green; red_size = c.requires.red; leads = first_of_all c.args.first; spelled = no_columns }

pub loop-i-preserved : goal.loop-i-preserved
unfolding none
loop-i-preserved c =
    let packets = c.args.packets.now in
    let i = c.loop-i.i in
    let p = get_or packets i none in
    let was = c.loop-i.invariant in
    let own = packed_columns c.lay_packed.new.blue c.lay_packed.new.green c.lay_packed.new.red in
    let long : length (take i packets) ≡ i = length-take-le i packets (omega (arith, c.loop-i-test.true)) in
    let more = packed_more c.loop-i.blue c.loop-i.green c.loop-i.red c.lay_packed.new.blue c.lay_packed.new.green c.lay_packed.new.red i
    (omega (arith, was.blue_size, c.loop-i-test.true)) (omega (arith, was.green_size, c.loop-i-test.true)) (omega (arith, was.red_size, c.loop-i-test.true))
    c.lay_packed.ensures.blue_size c.lay_packed.ensures.green_size c.lay_packed.ensures.red_size in
    record {
      blue_size = lane_size c.loop-i.blue c.lay_packed.new.blue i _ (omega (arith, was.blue_size, c.loop-i-test.true)) c.lay_packed.ensures.blue_size was.blue_size;
      green_size = lane_size c.loop-i.green c.lay_packed.new.green i _ (omega (arith, was.green_size, c.loop-i-test.true)) c.lay_packed.ensures.green_size was.green_size;
      red_size = lane_size c.loop-i.red c.lay_packed.new.red i _ (omega (arith, was.red_size, c.loop-i-test.true)) c.lay_packed.ensures.red_size was.red_size;
      leads = not_first c.args.first i;
      spelled =
          subst (λ (cs : List Column). SpellsPackets c.args.first (take (i + 1) packets) cs) (sym more)
          (subst (λ (ps : List Packet). SpellsPackets c.args.first ps (packed_columns (take (40 * i) c.loop-i.blue) (take (40 * i) c.loop-i.green) (take (40 * i) c.loop-i.red) ++ own)) (sym (take_more packets i none c.loop-i-test.true))
          (SpellsPackets-more c.args.first c.loop-i.leads (take i packets) p _ own (was.leads ∙ ap (λ n. c.args.first && (n == 0)) (sym long)) was.spelled c.lay_packed.ensures.carried));
    }

pub returns-clause-spelled : goal.returns-clause-spelled
returns-clause-spelled c =
    let packets = c.args.packets.now in
    let was = c.loop-i.invariant in
    let i = c.loop-i.i in
    let all : (bs : List ℕ) → length bs ≡ 40 * length packets → take (40 * i) bs ≡ bs = λ bs e. take_all (40 * i) bs (omega (arith, e, c.loop-i-test.false)) in
    let whole : take i packets ≡ packets = take_all i packets (omega (arith, c.loop-i-test.false)) in
    subst (λ (ps : List Packet). SpellsPackets c.args.first ps (packed_columns c.loop-i.blue c.loop-i.green c.loop-i.red)) whole
    (subst (λ (cs : List Column). SpellsPackets c.args.first (take i packets) cs) (λ j. packed_columns (all c.loop-i.blue was.blue_size j) (all c.loop-i.green was.green_size j) (all c.loop-i.red was.red_size j)) was.spelled)
