-- A data island of which no fault is reported: its columns spell its packets.
use Rattle.std.proofs.Common.{◌≡◌, ℕ, suc, zero, ◌+◌, ◌<◌, ◌≤◌, ◌==◌, Bool, true, false, not, ◌&&◌, ◌||◌, List, [], ◌∷◌, ◌++◌, length, map, take, drop, slice_index, refl, ap, ap₂, sym, ◌∙◌, subst, arith, append_assoc, length-take-le, is_some}
use Rattle.std.specs.Prelude.{nat_lt, Option}
use Rattle.std.specs.List.{list_all}
use Rattle.std.proofs.lemmas.Bool.{cases_lt, eqb-true, eq-eqb, lt-ltb, le-leb, ltb-true, true≢false}
use Rattle.std.proofs.lemmas.List.{map-append, length-map, take-append-drop}
use Rattle.tmds_word.specs.Column.{Column}
use Rattle.tmds_word.proofs.Below.{and-left, and-right}
use Rattle.terc4.specs.Tables.{terc_words, value_in}
use Rattle.terc4.specs.Columns.{is_twelve_or_more, is_island_guard}
use Rattle.terc4.proofs.Members.{passes_all, passes_in, is_some-value_in}
use Rattle.island_pack.specs.Nibbles.{nibble_of}
use Rattle.island_pack.specs.Periods.{SyncPair, DataIsland}
use Rattle.island_pack.specs.Conforming.{is_packet, is_data_island}
use Rattle.island_pack.specs.Spelling.{guard_column, guard_columns, freely, SpellsPacketsBy, SpellsIslandBy}
use Rattle.period_grammar.specs.Column.{sync_digit}
use Rattle.island_pack.specs.Spelling.{column_words}
use Rattle.island_pack.specs.Repaired.{packet_of, verdicts_of}
use Rattle.period_grammar.specs.Events.{Event, long_island, event_of, all_at}
use Rattle.period_grammar.specs.Island.{Payload, parts, with_packet, split_by, if_so, packet_faults, packet_events, in_packets, closing_events, left_at, holds_packet, split, in_left, in_island, begins_close}
use Rattle.period_grammar.proofs.Islands.{holds_long}
use Rattle.period_grammar.proofs.Hearings.{events_at}
use Rattle.link_laws.proofs.Rows.{and_both}
use Rattle.link_laws.proofs.exact.Faultless.{Fine, fine_left, fine_right, if_so_fine, not_false, both_sure}
use Rattle.link_laws.proofs.exact.Packets.{carried}

-- The packets are the columns, in parts of 32.

abbrev pub flat : List (List Column) → List Column
flat [] = []
flat (p ∷ ps) = p ++ flat ps

abbrev pub flat_of : Payload → List Column
flat_of (parts ps t) = flat ps ++ t

flat_with : (p : List Column) (x : Payload) → flat_of (with_packet p x) ≡ p ++ flat_of x
flat_with p (parts ps t) = append_assoc p (flat ps) t

flat_by : (q : Bool) (cs : List Column) (x : Payload) → flat_of x ≡ drop 32 cs → flat_of (split_by q cs x) ≡ cs
flat_by true cs x h = flat_with (take 32 cs) x ∙ ap (λ ys. take 32 cs ++ ys) h ∙ take-append-drop 32 cs
flat_by false cs x h = refl

pub split_flat : (n : ℕ) (cs : List Column) → flat_of (split n cs) ≡ cs
unfolding split
split_flat zero cs = refl
split_flat (suc n) cs = flat_by (holds_packet cs) cs (split n (drop 32 cs)) (split_flat n (drop 32 cs))

abbrev pub AreLong : List (List Column) → Type 0
AreLong [] = Unit {0}
AreLong (p ∷ ps) = (length p ≡ 32) × AreLong ps

abbrev pub LongOf : Payload → Type 0
LongOf (parts ps t) = AreLong ps

long_with : (p : List Column) (x : Payload) → length p ≡ 32 → LongOf x → LongOf (with_packet p x)
long_with p (parts ps t) e h = (e, h)

long_by : (q : Bool) (cs : List Column) (x : Payload) → holds_packet cs ≡ q → LongOf x → LongOf (split_by q cs x)
long_by true cs x e h = long_with (take 32 cs) x (length-take-le 32 cs (holds_long cs e)) h
long_by false cs x e h = tt

pub split_long : (n : ℕ) (cs : List Column) → LongOf (split n cs)
unfolding split
split_long zero cs = tt
split_long (suc n) cs = long_by (holds_packet cs) cs (split n (drop 32 cs)) refl (split_long n (drop 32 cs))

-- Packets, k of which were received before.

pub record ArePackets (first : Bool) (k : ℕ) (ps : List (List Column)) : Type 0 where
  pub spelled : SpellsPacketsBy freely first (map packet_of ps) (flat ps)
  pub conforms : list_all is_packet (map packet_of ps) ≡ true
  pub few : k + length ps ≤ 18

fewer : (k : ℕ) → k ≤ 18 → (k == 18) ≡ false → k < 18
fewer k le h = grind (arith, cases_lt, eq-eqb)

pub packets_fine : (first : Bool) (s k : ℕ) (ps : List (List Column)) → AreLong ps → k ≤ 18 → Fine (map event_of (in_packets s k ps)) → ArePackets first k ps
unfolding packet_events
packets_fine first s k [] long le h = record { spelled = refl; conforms = refl; few = omega arith }
packets_fine first s k (p ∷ ps) long le h =
    let here = all_at (s + 31) (packet_events s k p) in
    let later = in_packets (s + 32) (k + 1) ps in
    let g = subst (λ (ts : List Event). Fine ts) (map-append event_of here later) h in
    let own = subst (λ (ts : List Event). Fine ts) (events_at (s + 31) (packet_events s k p)) (fine_left (map event_of here) (map event_of later) g) in
    let faults = packet_faults s (verdicts_of p) in
    let one = carried s (map column_words p) (length-map p column_words ∙ long.0) (fine_left faults (if_so (k == 18) (long_island s)) own) in
    let lt = fewer k le (if_so_fine (k == 18) (long_island s) refl (fine_right faults (if_so (k == 18) (long_island s)) own)) in
    let ih = packets_fine false (s + 32) (k + 1) ps long.1 (omega arith) (fine_right (map event_of here) (map event_of later) g) in
    let n = ih.few in
    record {
      spelled = (p, flat ps, refl, one.carries, ih.spelled);
      conforms = and_both _ _ one.conforms ih.conforms;
      few = omega arith;
    }

-- Guard columns.

guard_word : ℕ → Bool
guard_word w = not (is_twelve_or_more (value_in terc_words w)) || ((slice_index terc_words (12 + sync_digit w) == w) && nat_lt (sync_digit w) 4)

guard_test : passes_all guard_word terc_words ≡ true
unfolding passes_all guard_word terc_words is_twelve_or_more value_in sync_digit nibble_of
guard_test = refl

twelve_some : (o : Option ℕ) → is_twelve_or_more o ≡ true → is_some o ≡ true
unfolding is_twelve_or_more
twelve_some o h = grind arith

or_right : (p q : Bool) → p ≡ true → (not p || q) ≡ true → q ≡ true
or_right p q h k = grind arith

guard_is_word : (w : ℕ) → is_twelve_or_more (value_in terc_words w) ≡ true → ((slice_index terc_words (12 + sync_digit w) == w) && nat_lt (sync_digit w) 4) ≡ true
unfolding guard_word
guard_is_word w h = or_right _ _ h (passes_in guard_word terc_words w guard_test (sym (is_some-value_in terc_words w) ∙ twelve_some (value_in terc_words w) h))

pub guard_is : (c : Column) → is_island_guard c ≡ true → (c ≡ guard_column (sync_digit c.blue)) × (sync_digit c.blue < 4)
unfolding is_island_guard
guard_is c h =
    let both = guard_is_word c.blue (and-left _ _ h) in
    grind (arith, and-right, eqb-true, and-left, ltb-true)

-- two guard columns, and their sync digits
pub record AreGuards (g h : Column) : Type 0 where
  pub pair : SyncPair
  pub columns : g ∷ (h ∷ []) ≡ guard_columns pair
  pub first : nat_lt pair.first 4 ≡ true
  pub second : nat_lt pair.second 4 ≡ true

pub both_guards : (g h : Column) → is_island_guard g ≡ true → is_island_guard h ≡ true → AreGuards g h
both_guards g h a b =
    let x = guard_is g a in
    let y = guard_is h b in
    record {
      pair = record { first = sync_digit g.blue; second = sync_digit h.blue };
      columns = ap₂ (λ (c d : Column). c ∷ (d ∷ [])) x.0 y.0;
      first = lt-ltb _ 4 x.1;
      second = lt-ltb _ 4 y.1;
    }

-- What closes it.

pub record IsClosed (k : ℕ) (t : List Column) : Type 0 where
  pub first : Column
  pub second : Column
  pub guards : AreGuards first second
  pub columns : t ≡ first ∷ (second ∷ [])
  pub some : 1 ≤ k

-- whether what is left begins with no closing guard
abbrev pub is_broken : List Column → Bool
is_broken t = not (begins_close t)

pub closed_fine : (b s k : ℕ) (t : List Column) → is_broken t ≡ false → Fine (map event_of (in_left b s k t)) → IsClosed k t
unfolding closing_events
closed_fine b s k t h l = grind (arith, Fine, not_false, events_at, both_sure, fine_left, both_guards, if_so_fine, fine_right, map-append)

-- The whole island.

pub record IsIsland (gap : List Column) : Type 0 where
  pub x : DataIsland
  pub conforms : is_data_island x ≡ true
  pub spelled : SpellsIslandBy freely x gap

pub island_of : (g h : Column) → AreGuards g h → (ps : List (List Column)) → ArePackets true 0 ps → 1 ≤ length ps → (c d : Column) → AreGuards c d → IsIsland (g ∷ (h ∷ (flat ps ++ (c ∷ (d ∷ [])))))
unfolding is_data_island
island_of g h before ps are some c d close =
    let n = length-map ps packet_of in
    let few = are.few in
    record {
      x = record { opening = before.pair; packets = map packet_of ps; closing = close.pair };
      conforms = grind (arith, and_both, le-leb);
      spelled = (flat ps, ap₂ (λ (xs ys : List Column). xs ++ (flat ps ++ ys)) before.columns close.columns, are.spelled);
    }

-- the packets, and what is left
pub island_fine : (b : ℕ) (ps : List (List Column)) (t : List Column) → AreLong ps → Fine (map event_of (in_island b (parts ps t)))
    → ArePackets true 0 ps × Fine (map event_of (in_left b (left_at b ps) (length ps) t))
unfolding in_island
island_fine b ps t long h =
    let here = in_packets (b + 2) 0 ps in
    let left = in_left b (left_at b ps) (length ps) t in
    let g = subst (λ (ts : List Event). Fine ts) (map-append event_of here left) h in
    (packets_fine true (b + 2) 0 ps long (omega arith) (fine_left (map event_of here) (map event_of left) g), fine_right (map event_of here) (map event_of left) g)
