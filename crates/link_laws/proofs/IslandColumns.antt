-- The columns of data islands, as sent and as received.
use Rattle.std.proofs.Common.{◌≡◌, ℕ, zero, suc, ◌+◌, ◌*◌, ◌≤◌, Bool, true, false, not, ◌==◌, List, [], ◌∷◌, ◌++◌, length, map, take, refl, ap, sym, ◌∙◌, arith, length-append}
use Rattle.std.proofs.lemmas.List.{length-map}
use Rattle.std.proofs.lemmas.List.Folds.{list_all-append}
use Rattle.std.proofs.lemmas.Bool.{lt-leb}
use Rattle.tmds_word.specs.Column.{Column}
use Rattle.terc4.specs.Tables.{terc_words, island_guard, is_terc}
use Rattle.terc4.specs.Columns.{is_control_column, closing_words, closes}
use Rattle.terc4.proofs.Members.{passes_all, passes_in}
use Rattle.terc4.proofs.Words.{terc_apart}
use Rattle.link_laws.proofs.Computed.{not_true}
use Rattle.island_pack.specs.Packets.{CarriesFreely}
use Rattle.island_pack.specs.Spelling.{column_words}
use Rattle.island_pack.specs.Sparse.{unlike_words}
use Rattle.island_pack.specs.declared.packet.Packet.{Packet}
use Rattle.period_grammar.specs.Island.{begins_close}
use Rattle.link_laws.proofs.Cutting.{NoneControl}
use Rattle.link_laws.proofs.Rows.{and_both}
use Rattle.link_laws.proofs.Guards.{gained, stays_without_control}

-- Columns of packets.

-- a column of a packet as sent and as received
pub record PartAt (s r : Column) : Type 0 where
  pub blue : is_terc s.blue ≡ true
  pub green : is_terc s.green ≡ true
  pub red : is_terc s.red ≡ true
  pub one : unlike_words (column_words s) (column_words r) ≤ 1

pub data AreParts : List Column → List Column → Type 0 where
  no_parts : AreParts [] []
  part : (s r : Column) (ss rs : List Column) → PartAt s r → AreParts ss rs → AreParts (s ∷ ss) (r ∷ rs)

pub data ArePackets : Bool → List Packet → List Column → List Column → Type 0 where
  no_packets : (first : Bool) → ArePackets first [] [] []
  one_more :
      (first : Bool) (p : Packet) (ps : List Packet) (own reception ss rs : List Column)
      → CarriesFreely p (map column_words own) → AreParts own reception → ArePackets false ps ss rs → ArePackets first (p ∷ ps) (own ++ ss) (reception ++ rs)

pub part_no_control : (s r : Column) → PartAt s r → is_control_column r ≡ false
part_no_control s r h = stays_without_control s r (record { blue = terc_apart s.blue h.blue; green = terc_apart s.green h.green; red = terc_apart s.red h.red }) h.one

pub parts_no_control : (ss rs : List Column) → AreParts ss rs → NoneControl rs
parts_no_control _ _ no_parts = refl
parts_no_control _ _ (part s r ss rs h hs) = and_both _ _ (ap not (part_no_control s r h)) (parts_no_control ss rs hs)

parts_length : (ss rs : List Column) → AreParts ss rs → length rs ≡ length ss
parts_length _ _ no_parts = refl
parts_length _ _ (part s r ss rs h hs) = ap suc (parts_length ss rs hs)

is_open : ℕ → Bool
is_open w = not (w == island_guard)

open_test : passes_all is_open terc_words ≡ true
unfolding passes_all is_open terc_words island_guard
open_test = refl

terc_open : (s : ℕ) → is_terc s ≡ true → (s == island_guard) ≡ false
unfolding is_terc is_open
terc_open s h = not_true _ (passes_in is_open terc_words s open_test h)

-- at most one word of lanes 1 and 2 is a guard word
part_closing : (s r : Column) → PartAt s r → closing_words r ≤ 1
unfolding closing_words unlike_words
part_closing s r h =
    let g = gained (λ w. w == island_guard) s.green r.green (terc_open s.green h.green) (s.green == r.green) refl in
    let d = gained (λ w. w == island_guard) s.red r.red (terc_open s.red h.red) (s.red == r.red) refl in
    let one = h.one in
    omega arith

pub parts_open : (i : ℕ) (ss rs rest : List Column) → AreParts ss rs → 2 ≤ length rs → begins_close (take i (rs ++ rest)) ≡ false
unfolding closes
parts_open i _ _ rest no_parts many = absurd (omega arith)
parts_open i _ _ rest (part s r ss rs h no_parts) many = absurd (omega arith)
parts_open zero _ _ rest (part s r ss rs h (part t q tt qs g are)) many = refl
parts_open (suc zero) _ _ rest (part s r ss rs h (part t q tt qs g are)) many = refl
parts_open (suc (suc i)) _ _ rest (part s r ss rs h (part t q tt qs g are)) many = grind (arith, part_closing, lt-leb)

pub packets_no_control : (first : Bool) (ps : List Packet) (ss rs : List Column) → ArePackets first ps ss rs → NoneControl rs
packets_no_control _ _ _ _ (no_packets first) = refl
packets_no_control _ _ _ _ (one_more first p ps own reception ss rs c h hs) =
    list_all-append (λ c. not (is_control_column c)) reception rs ∙ and_both _ _ (parts_no_control own reception h) (packets_no_control false ps ss rs hs)

-- a packet has 32 columns
pub packet_sent : (first : Bool) (p : Packet) (own : List Column) → CarriesFreely p (map column_words own) → length own ≡ 32
packet_sent first p own c = sym (length-map own column_words) ∙ c.count

pub packet_received : (first : Bool) (p : Packet) (own reception : List Column) → CarriesFreely p (map column_words own) → AreParts own reception → length reception ≡ 32
packet_received first p own reception c h = parts_length own reception h ∙ packet_sent first p own c

pub packets_sent : (first : Bool) (ps : List Packet) (ss rs : List Column) → ArePackets first ps ss rs → length ss ≡ 32 * length ps
packets_sent _ _ _ _ (no_packets first) = refl
packets_sent _ _ _ _ (one_more first p ps own reception ss rs c h hs) =
    let l = packet_sent first p own c in
    let n = packets_sent false ps ss rs hs in
    let a = length-append own ss in
    omega arith

pub packets_received : (first : Bool) (ps : List Packet) (ss rs : List Column) → ArePackets first ps ss rs → length rs ≡ 32 * length ps
packets_received _ _ _ _ (no_packets first) = refl
packets_received _ _ _ _ (one_more first p ps own reception ss rs c h hs) =
    let l = packet_received first p own reception c h in
    let n = packets_received false ps ss rs hs in
    let a = length-append reception rs in
    omega arith
