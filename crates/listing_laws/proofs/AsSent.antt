-- A packet of which at most one word was received unlike, or few were and no fault is found, is reported as it was sent, and
-- none of its blocks is lost.
use Rattle.std.proofs.Common.{◌≡◌, ℕ, suc, zero, ◌<◌, ◌≤◌, Bool, true, List, map, length, sym, subst, arith, inl, inr}
use Rattle.std.proofs.lemmas.List.{length-map}
use Rattle.tmds_word.specs.Column.{Column}
use Rattle.bch_block.specs.Block.{IsBlock}
use Rattle.bch_block.specs.Repair.{IsVerdict}
use Rattle.bch_block.specs.declared.Verdict.TheVariants.{Clean, Mended, Lost}
use Rattle.bch_block.proofs.Verdicts.{one_wrong}
use Rattle.island_pack.specs.Nibbles.{header_bits, body_bits}
use Rattle.island_pack.specs.Packets.{CarriesFreely}
use Rattle.island_pack.specs.Spelling.{column_words}
use Rattle.island_pack.specs.Taken.{verdict_on, spotless}
use Rattle.island_pack.specs.declared.packet.Packet.{Packet}
use Rattle.island_pack.specs.Repaired.{verdict_of, verdicts_in, verdicts_of}
use Rattle.island_pack.proofs.Repaired.{verdict_is}
use Rattle.link_laws.specs.Account.{damage, sync_row, is_as_sent, packet_row}
use Rattle.link_laws.specs.Laws.{wrong_bits}
use Rattle.link_laws.proofs.PacketRow.{length-header, length-body, length-body_of, one_or_few, clean_verdicts}
use Rattle.link_laws.proofs.WrongBits.{header_wrong, body_wrong, same_or_flipped}
use Rattle.listing_laws.specs.PacketLaws.{IsAsSent, OnePacketAsSent}

-- a block with at most one wrong bit is not lost
kept_block : (s x : List Bool) → IsBlock s → 8 ≤ length s → length s ≤ 64 → length x ≡ length s → wrong_bits s x ≤ 1 → verdict_of x ≡ Lost → ⊥
kept_block s x block low high same few lost = elim (same_or_flipped s x same few) [
  | inl e ↦ let v = verdict_is x Clean (omega (arith, low, same)) (omega (arith, high, same)) (subst (λ (y : List Bool). IsBlock y) (sym e) block) in cc
  | inr f ↦
      let found = one_wrong s f.place (omega (arith, high)) block f.within in
      let v = verdict_is x (Mended f.place) (omega (arith, low, same)) (omega (arith, high, same)) (subst (λ (y : List Bool). IsVerdict y (Mended f.place)) (sym f.is) found) in cc
]

kept_body : (p : Packet) (ss rs : List Column) → CarriesFreely p (map column_words ss) → length rs ≡ length ss → damage ss rs ≤ 1 → (b : ℕ) → b < 4 → verdict_of (body_bits (map column_words rs) b) ≡ Lost → ⊥
kept_body p ss rs carries same few b lt lost =
    let begins = carries.bodies b lt in
    let l = length-body_of p b carries.whole.bodies lt in
    kept_block (body_bits (map column_words ss) b) (body_bits (map column_words rs) b) begins.block (omega (arith, begins.bits, l)) (omega (arith, begins.bits, l)) (length-body b ss rs same) (omega (arith, body_wrong b ss rs, few)) lost

kept_header : (p : Packet) (ss rs : List Column) → CarriesFreely p (map column_words ss) → length rs ≡ length ss → damage ss rs ≤ 1 → verdict_of (header_bits (map column_words rs)) ≡ Lost → ⊥
kept_header p ss rs carries same few lost =
    let begins = carries.header in
    let l = carries.whole.header in
    kept_block (header_bits (map column_words ss)) (header_bits (map column_words rs)) begins.block (omega (arith, begins.bits, l)) (omega (arith, begins.bits, l)) (length-header ss rs same) (omega (arith, header_wrong ss rs, few)) lost

kept : (p : Packet) (ss rs : List Column) → CarriesFreely p (map column_words ss) → length rs ≡ length ss → damage ss rs ≤ 1 → (b : ℕ) → b < 5 → verdict_on (verdicts_of rs) b ≡ Lost → ⊥
unfolding verdicts_in
kept p ss rs h k l m q r = grind (arith, kept_body, kept_header)

-- nor is one of which no fault is found
spotless_kept : (b : ℕ) → b < 5 → verdict_on spotless b ≡ Lost → ⊥
spotless_kept zero lt h = cc
spotless_kept (suc zero) lt h = cc
spotless_kept (suc (suc zero)) lt h = cc
spotless_kept (suc (suc (suc zero))) lt h = cc
spotless_kept (suc (suc (suc (suc zero)))) lt h = cc
spotless_kept (suc (suc (suc (suc (suc b))))) lt h = absurd (omega arith)

none_lost : (p : Packet) (ss rs : List Column) → CarriesFreely p (map column_words ss) → length rs ≡ length ss → is_as_sent ss rs ≡ true → (b : ℕ) → b < 5 → verdict_on (verdicts_of rs) b ≡ Lost → ⊥
none_lost p ss rs carries same h b lt lost = elim (one_or_few ss rs h) [
  | inl one ↦ kept p ss rs carries same one b lt lost
  | inr few ↦ spotless_kept b lt (subst (λ v. verdict_on v b ≡ Lost) (clean_verdicts (map column_words rs) few.clean) lost)
]

pub as_sent_row : (p : Packet) (ss rs : List Column) → is_as_sent ss rs ≡ true → packet_row p ss rs ≡ record { header = p.header; bodies = p.bodies; sync = sync_row p.sync ss rs }
unfolding packet_row
as_sent_row p ss rs h = grind arith

pub as_sent_freely : (p : Packet) (ss rs : List Column) → CarriesFreely p (map column_words ss) → length rs ≡ 32 → is_as_sent ss rs ≡ true → IsAsSent p (packet_row p ss rs) (verdicts_of rs)
as_sent_freely p ss rs carries long h = grind (arith, length-map, as_sent_row, none_lost)

pub one_packet_as_sent : OnePacketAsSent
one_packet_as_sent p first ss rs carries long h = as_sent_freely p ss rs carries.free long h
