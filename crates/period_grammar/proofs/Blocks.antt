-- What is kept of an island, with one column more.
use Rattle.std.proofs.Common.{◌≡◌, ℕ, ◌+◌, ◌*◌, ◌<◌, ◌≤◌, Bool, true, false, not, ◌==◌, nat_le, List, [], ◌∷◌, ◌++◌, length, map, take, get_or, refl, ap, ap₂, sym, ◌∙◌, subst, append_assoc, arith}
use Rattle.std.proofs.lemmas.Bool.{cases_lt}
use Rattle.std.proofs.lemmas.List.{length_push, map_push, take_all, append-nil}
use Rattle.bch_block.specs.declared.Verdict.{Verdict}
use Rattle.bch_block.specs.declared.Verdict.TheVariants.{Clean}
use Rattle.island_pack.specs.declared.packet.Packet.{Packet as PacketOf}
use Rattle.island_pack.specs.declared.packet.PacketVerdicts.{PacketVerdicts}
use Rattle.island_pack.specs.Spelling.{column_words}
use Rattle.island_pack.specs.Repaired.{packet_of, verdicts_of}
use Rattle.tmds_word.specs.Column.{Column}
use Rattle.period_grammar.specs.Column.{sync_digit}
use Rattle.terc4.specs.Columns.{is_island_guard, closing_words, closes}
use Rattle.period_grammar.specs.Noted.{events, Lent}
use Rattle.period_grammar.specs.declared.event_queue.QueuedEvent.{QueuedEvent}
use Rattle.period_grammar.specs.declared.event_queue.QueuedEvent.TheVariants.{Close, Packet as PacketNote}
use Rattle.period_grammar.proofs.Noting.{pushed}
use Rattle.period_grammar.specs.Events.{Event, noise, packet, symbols, long_island, close_island, guard as guard_at, empty}
use Rattle.period_grammar.specs.Island.{Payload, parts, payload, split, begins_close, holds_packet, packet_events, block_fault, block_faults, packet_faults, closing_events, left_at, if_so}
use Rattle.period_grammar.specs.After.{left_gain, island_gain, choose, settle_by, settle, after_payload}
use Rattle.period_grammar.specs.IslandAfter.{IsLeftAfter, IsPartsAfter, IsIslandAfter}
use Rattle.period_grammar.specs.declared.island.Left.{Left}
use Rattle.period_grammar.specs.declared.island.Left.TheVariants.{Packet, First, Closed, Over}
use Rattle.period_grammar.specs.declared.island.Island.{Island}
use Rattle.period_grammar.proofs.Islands.{holds_not, holds_is, holds_never, payload_push}

pub fresh : (kept : Island) → kept.left ≡ Packet → kept.packets ≡ 0 → kept.within ≡ 0 → IsIslandAfter kept []
unfolding split
fresh kept l p w = record { stands = rw (l, p, w) (refl, (refl, refl, refl, λ e. cc)) }

block_push : (block next : List (List ℕ)) (t : List Column) (c : Column) (n : ℕ) → take n block ≡ map column_words t → take (n + 1) next ≡ take n block ++ column_words c ∷ []
    → take (n + 1) next ≡ map column_words (t ++ c ∷ [])
block_push block next t c n was e = e ∙ ap (λ ws. ws ++ column_words c ∷ []) was ∙ sym (map_push column_words t c)

-- the next state where the packet is not whole, and where it is
not_whole : (left : Left) (packets within : ℕ) (block : List (List ℕ)) (ps : List (List Column)) (t : List Column) → holds_packet t ≡ false
    → packets ≡ length ps → IsLeftAfter left within block t → IsPartsAfter left packets within block (settle ps t)
not_whole left packets within block ps t e n h = subst (λ p. IsPartsAfter left packets within block (settle_by p ps t)) (sym e) (n, h)

-- the first column of a packet or of the closing guard
pub first_stands : (packets within words digit : ℕ) (guard : Bool) (block next : List (List ℕ)) (c : Column) (x : Payload) → IsPartsAfter Packet packets 0 block x
    → words ≡ closing_words c → digit ≡ sync_digit c.blue → guard ≡ is_island_guard c → take 1 next ≡ column_words c ∷ [] → IsPartsAfter (First words digit guard) packets within next (after_payload c x)
first_stands packets within words digit guard block next c x h k l m p = grind (arith, not_whole, holds_not)

-- nothing is reported of it
pub first_reported : (packets start : ℕ) (block : List (List ℕ)) (c : Column) (x : Payload) → IsPartsAfter Packet packets 0 block x → [] ≡ island_gain start c x
first_reported packets start block c x h = grind (arith, holds_not)

left_gain_open : (b s k : ℕ) (c : Column) (t : List Column) → (length t ≡ 1 → ⊥) → begins_close t ≡ false → left_gain b s k c t ≡ []
left_gain_open b s k c t h l = grind arith

-- within a packet
pub within_reported : (packets start within : ℕ) (block : List (List ℕ)) (c : Column) (x : Payload) → IsPartsAfter Packet packets within block x → within < 31 → [] ≡ island_gain start c x
within_reported packets start within block c (parts ps t) was lt =
    sym (ap (λ p. choose p (packet_events (left_at start ps) (length ps) (t ++ c ∷ [])) (left_gain start (left_at start ps) (length ps) c t)) (holds_not (t ++ c ∷ []) (omega (arith, was.1.1, length_push t c)))
    ∙ left_gain_open start (left_at start ps) (length ps) c t (λ one. was.1.3 (was.1.1 ∙ one)) was.1.0)

begins_more : (t : List Column) (c : Column) → 1 < length t → begins_close t ≡ false → begins_close (t ++ c ∷ []) ≡ false
begins_more t c h k = grind arith

pub within_stands : (packets within : ℕ) (block next : List (List ℕ)) (c : Column) (x : Payload) → IsPartsAfter Packet packets within block x → 0 < within → within < 31
    → take (within + 1) next ≡ take within block ++ column_words c ∷ [] → IsPartsAfter Packet packets (within + 1) next (after_payload c x)
within_stands packets within block next c (parts ps t) was pos lt e = grind (arith, not_whole, holds_not, length_push, begins_more, block_push, cases_lt)

-- the last column of a packet
whole_now : (within : ℕ) (t : List Column) (c : Column) → within ≡ length t → within ≡ 31 → begins_close t ≡ false → holds_packet (t ++ c ∷ []) ≡ true
whole_now within t c e f g = holds_is (t ++ c ∷ []) (begins_more t c (omega arith) g) (omega (arith, length_push t c))

pub whole_reported : (packets start within at : ℕ) (block next : List (List ℕ)) (c : Column) (ts : List Event) (x : Payload) → IsPartsAfter Packet packets within block x → within ≡ 31
    → take (within + 1) next ≡ take within block ++ column_words c ∷ [] → length next ≡ 32 → at ≡ (start + 2) + 32 * packets
    → ((p : List Column) → next ≡ map column_words p → ts ≡ packet_events at packets p) → ts ≡ island_gain start c x
whole_reported packets start within at block next c ts (parts ps t) was e f n g reported = grind (arith, take_all, block_push, whole_now)

pub whole_stands : (packets within : ℕ) (block next : List (List ℕ)) (c : Column) (x : Payload) → IsPartsAfter Packet packets within block x → within ≡ 31
    → IsPartsAfter Packet (packets + 1) 0 next (after_payload c x)
whole_stands packets within block next c (parts ps t) was e =
    subst (λ p. IsPartsAfter Packet (packets + 1) 0 next (settle_by p ps (t ++ c ∷ []))) (sym (whole_now within t c was.1.1 e was.1.0))
    (omega (arith, was.0, length_push ps (t ++ c ∷ [])), (refl, refl, refl, λ e. cc))

-- the second column: of a closing guard
pub closing_reported : (packets start within at words digit : ℕ) (guard : Bool) (block : List (List ℕ)) (c : Column) (ts : List Event) (x : Payload) → IsPartsAfter (First words digit guard) packets within block x
    → nat_le 3 (words + closing_words c) ≡ true → at ≡ (start + 2) + 32 * packets
    → ((g : Column) → digit ≡ sync_digit g.blue → guard ≡ is_island_guard g → ts ≡ closing_events start at packets g c) → ts ≡ island_gain start c x
unfolding closes
closing_reported packets start within at words digit guard block c ts x h k l m = grind (arith, holds_not)

pub closing_stands : (packets within words digit : ℕ) (guard : Bool) (block next : List (List ℕ)) (c : Column) (x : Payload) → IsPartsAfter (First words digit guard) packets within block x
    → nat_le 3 (words + closing_words c) ≡ true → IsPartsAfter Closed packets within next (after_payload c x)
unfolding closes
closing_stands packets within words digit guard block next c x h k = grind (arith, not_whole, holds_not)

-- or of a packet
pub second_reported : (packets start within words digit : ℕ) (guard : Bool) (block : List (List ℕ)) (c : Column) (x : Payload) → IsPartsAfter (First words digit guard) packets within block x
    → nat_le 3 (words + closing_words c) ≡ false → [] ≡ island_gain start c x
unfolding closes
second_reported packets start within words digit guard block c x h k = grind (arith, holds_not)

pub second_stands : (packets within words digit : ℕ) (guard : Bool) (block next : List (List ℕ)) (c : Column) (x : Payload) → IsPartsAfter (First words digit guard) packets within block x
    → nat_le 3 (words + closing_words c) ≡ false → take 2 next ≡ take 1 block ++ column_words c ∷ [] → IsPartsAfter Packet packets 2 next (after_payload c x)
unfolding closes
second_stands packets within words digit guard block next c x h k l = grind (arith, not_whole, holds_not)

pub closed_reported : (packets start within at : ℕ) (block : List (List ℕ)) (c : Column) (ts : List Event) (x : Payload) → IsPartsAfter Closed packets within block x
    → at ≡ (start + 2) + 32 * packets → ts ≡ noise (at + 2) ∷ [] → ts ≡ island_gain start c x
closed_reported packets start within at block c ts x h k l = grind (arith, holds_not)

pub closed_stands : (packets within : ℕ) (block next : List (List ℕ)) (c : Column) (x : Payload) → IsPartsAfter Closed packets within block x → IsPartsAfter Over packets within next (after_payload c x)
closed_stands packets within block next c x h = grind (arith, not_whole, holds_not)

pub over_reported : (packets start within : ℕ) (block : List (List ℕ)) (c : Column) (x : Payload) → IsPartsAfter Over packets within block x → [] ≡ island_gain start c x
over_reported packets start within block c x h = grind (arith, holds_never)

pub over_stands : (packets within : ℕ) (block next : List (List ℕ)) (c : Column) (x : Payload) → IsPartsAfter Over packets within block x → IsPartsAfter Over packets within next (after_payload c x)
over_stands packets within block next c x h = grind (arith, not_whole, holds_never)

-- the next state, of the columns
pub after_rest : (next : Island) (rest : List Column) (c : Column) → IsPartsAfter next.left next.packets next.within next.block (after_payload c (payload rest)) → IsIslandAfter next (rest ++ c ∷ [])
after_rest next rest c h = record { stands = subst (λ (x : Payload). IsPartsAfter next.left next.packets next.within next.block x) (sym (payload_push rest c)) h }

-- notes
pub packet_noted : (l : Lent) (at k : ℕ) (p : List Column) (n0 n1 n2 n3 : List QueuedEvent) → l.whole.packet ≡ packet_of p → l.whole.verdicts ≡ verdicts_of p → length n0 ≤ 0
    → n1 ≡ n0 ++ PacketNote at ∷ [] → events l n2 ≡ events l n1 ++ packet_faults at l.whole.verdicts → events l n3 ≡ events l n2 ++ if_so (k == 18) (long_island at)
    → events l n3 ≡ packet_events at k p
unfolding packet_events
packet_noted l at k p n0 n1 n2 n3 e v room f g h =
    h ∙ ap (λ ts. ts ++ if_so (k == 18) (long_island at)) (g ∙ ap (λ ts. ts ++ packet_faults at l.whole.verdicts) (pushed l (PacketNote at) n0 n1 room f))
    ∙ ap₂ (λ (q : PacketOf) (w : PacketVerdicts). packet q w at ∷ (packet_faults at w ++ if_so (k == 18) (long_island at))) e v

pub verdicts_noted : (l : Lent) (at count : ℕ) (a b c d h : Verdict) (n0 n1 n2 n3 n4 n5 n6 : List QueuedEvent)
    → events l n1 ≡ events l n0 ++ if_so (not (count == 0)) (symbols at count)
    → events l n2 ≡ events l n1 ++ block_fault at 0 a → events l n3 ≡ events l n2 ++ block_fault at 1 b → events l n4 ≡ events l n3 ++ block_fault at 2 c
    → events l n5 ≡ events l n4 ++ block_fault at 3 d → events l n6 ≡ events l n5 ++ block_fault at 4 h
    → events l n6 ≡ events l n0 ++ (if_so (not (count == 0)) (symbols at count) ++ block_faults at 0 (a ∷ (b ∷ (c ∷ (d ∷ (h ∷ []))))))
verdicts_noted l at count a b c d h n0 n1 n2 n3 n4 n5 n6 e0 e1 e2 e3 e4 e5 = grind (arith, append_assoc, append-nil)

pub five_blocks : (at : ℕ) (vs : List Verdict) → length vs ≡ 5
    → block_faults at 0 (get_or vs 0 Clean ∷ (get_or vs 1 Clean ∷ (get_or vs 2 Clean ∷ (get_or vs 3 Clean ∷ (get_or vs 4 Clean ∷ []))))) ≡ block_faults at 0 vs
five_blocks at [] e = absurd (omega arith)
five_blocks at (a ∷ []) e = absurd (omega arith)
five_blocks at (a ∷ (b ∷ [])) e = absurd (omega arith)
five_blocks at (a ∷ (b ∷ (c ∷ []))) e = absurd (omega arith)
five_blocks at (a ∷ (b ∷ (c ∷ (d ∷ [])))) e = absurd (omega arith)
five_blocks at (a ∷ (b ∷ (c ∷ (d ∷ (h ∷ []))))) e = refl
five_blocks at (a ∷ (b ∷ (c ∷ (d ∷ (h ∷ (v ∷ vs)))))) e = absurd (omega arith)

pub close_noted : (l : Lent) (start at k d1 d2 : ℕ) (q1 q2 z : Bool) (c d : Column) (n0 n1 n2 n3 n4 : List QueuedEvent) → length n0 ≤ 0 → n1 ≡ n0 ++ Close d1 d2 ∷ []
    → events l n2 ≡ events l n1 ++ if_so (not q1) (guard_at at) → events l n3 ≡ events l n2 ++ if_so (not q2) (guard_at (at + 1)) → events l n4 ≡ events l n3 ++ if_so z (empty start)
    → d1 ≡ sync_digit c.blue → d2 ≡ sync_digit d.blue → q1 ≡ is_island_guard c → q2 ≡ is_island_guard d → z ≡ (k == 0)
    → events l n4 ≡ closing_events start at k c d
unfolding closing_events
close_noted l start at k d1 d2 q1 q2 z c d n0 n1 n2 n3 n4 room a e f g p1 p2 p3 p4 p5 =
    g ∙ ap (λ ts. ts ++ if_so z (empty start)) (f ∙ ap (λ ts. ts ++ if_so (not q2) (guard_at (at + 1))) (e ∙ ap (λ ts. ts ++ if_so (not q1) (guard_at at)) (pushed l (Close d1 d2) n0 n1 room a)))
    ∙ rw (p1, p2, p3, p4, p5) (ap (λ ts. close_island (sync_digit c.blue) (sync_digit d.blue) ∷ ts) refl)
