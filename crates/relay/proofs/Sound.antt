-- What is kept is sound: it can stand in a conforming list.
use Rattle.std.proofs.Common.{arith, ◌≡◌, ℕ, suc, Bool, true, false, cond, List, [], ◌∷◌, ◌++◌, length, map, refl, ap}
use Rattle.std.specs.Prelude.{Option, Some, None, nat_lt}
use Rattle.std.specs.List.{list_all, fold}
use Rattle.std.proofs.lemmas.Bool.{and_parts, and_from}
use Rattle.island_pack.specs.Conforming.{is_run, is_video_period, is_packet, is_data_island}
use Rattle.island_pack.specs.declared.packet.Packet.{Packet}
use Rattle.relay.specs.Relayed.{Said, columns, pixels, opens, carries, closes, ends, Judged, Begun, WholeIsland, data_of, RelayedPart, some_columns, some_line, some_island, where_so, closed, adds, goes_on, kept_from, null_packet, sure, with_nulls, nulled, Data, a_line, an_island, Turn, Alternation, ended, joined, none, gathered}
use Rattle.relay.proofs.Lists.{all_both, all_same}

abbrev pub IsSound : RelayedPart → Type 0
IsSound (some_columns r) = is_run r ≡ true
IsSound (some_line bytes) = is_video_period bytes ≡ true
IsSound (some_island x) = is_data_island (data_of x) ≡ true

abbrev pub AreSound : List RelayedPart → Type 0
AreSound [] = Unit {0}
AreSound (k ∷ ks) = IsSound k × AreSound ks

pub sound_both : (ks ls : List RelayedPart) → AreSound ks → AreSound ls → AreSound (ks ++ ls)
sound_both [] ls h g = g
sound_both (k ∷ ks) ls h g = (h.0, sound_both ks ls h.1 g)

-- What is kept.

sound_where : (p : Bool) (k : RelayedPart) → (p ≡ true → IsSound k) → AreSound (where_so p k)
sound_where true k f = (f refl, tt)
sound_where false k f = tt

sound_closed : (pair : _) (b : Option Begun) → AreSound (closed pair b)
sound_closed pair None = tt
sound_closed pair (Some b) = grind (arith, sound_where)

sound_adds : (b : Option Begun) (x : Said) → AreSound (adds b x)
sound_adds b (columns r) = sound_where (is_run r) (some_columns r) (λ h. h)
sound_adds b (pixels bytes) = sound_where (is_video_period bytes) (some_line bytes) (λ h. h)
sound_adds b (opens pair) = tt
sound_adds b (carries p v) = tt
sound_adds b (closes pair) = sound_closed pair b
sound_adds b ends = tt

pub sound_kept : (b : Option Begun) (xs : List Said) → AreSound (kept_from b xs)
unfolding kept_from
sound_kept b [] = tt
sound_kept b (x ∷ xs) = sound_both (adds b x) (kept_from (goes_on x b) xs) (sound_adds b x) (sound_kept (goes_on x b) xs)

-- Null packets.

sound_null : (p : Packet) → is_packet p ≡ true → is_packet (null_packet p.sync) ≡ true
unfolding is_packet
sound_null p h = grind (arith, and_parts)

sound_sure : (q : Bool) (p : Packet) → is_packet p ≡ true → is_packet (cond q (null_packet p.sync) p) ≡ true
sound_sure true p h = sound_null p h
sound_sure false p h = h

abbrev packets_of : List Judged → List Packet
packets_of ps = map (λ p. p.packet) ps

sound_packets : (ps : List Judged) → list_all is_packet (packets_of ps) ≡ true → list_all is_packet (packets_of (map sure ps)) ≡ true
sound_packets [] h = refl
sound_packets (p ∷ ps) h = grind (arith, and_parts, and_from, sound_sure, sound_packets ps)

as_many : (ps : List Judged) → length (packets_of (map sure ps)) ≡ length (packets_of ps)
as_many [] = refl
as_many (p ∷ ps) = ap (λ n. suc n) (as_many ps)

sound_island : (x : WholeIsland) → is_data_island (data_of x) ≡ true → IsSound (with_nulls (some_island x))
unfolding is_data_island
sound_island x h = grind (arith, and_parts, and_from, sound_packets, as_many)

sound_with : (k : RelayedPart) → IsSound k → IsSound (with_nulls k)
sound_with (some_columns r) h = h
sound_with (some_line bytes) h = h
sound_with (some_island x) h = sound_island x h

pub sound_nulled : (ks : List RelayedPart) → AreSound ks → AreSound (nulled ks)
unfolding nulled
sound_nulled [] h = tt
sound_nulled (k ∷ ks) h = (sound_with k h.0, sound_nulled ks h.1)

-- Joined runs.

abbrev pub Small : List ℕ → Type 0
Small vs = list_all (λ v. nat_lt v 64) vs ≡ true

abbrev pub IsInner : Data → Type 0
IsInner (a_line bytes) = is_video_period bytes ≡ true
IsInner (an_island x) = is_data_island x ≡ true

abbrev pub AreTurns : List Turn → Type 0
AreTurns [] = Unit {0}
AreTurns (x ∷ xs) = Small x.values × IsInner x.inner × AreTurns xs

pub record AreGathered (t : Alternation) : Type 0 where
  pub turns : AreTurns t.turns
  pub last : Small t.last

turns_both : (xs ys : List Turn) → AreTurns xs → AreTurns ys → AreTurns (xs ++ ys)
turns_both [] ys h g = g
turns_both (x ∷ xs) ys h g = (h.0, h.1, turns_both xs ys h.2 g)

sound_ended : (t : Alternation) (d : Data) → AreGathered t → IsInner d → AreGathered (ended t d)
sound_ended t d h i = record { turns = turns_both t.turns (record { values = t.last; inner = d } ∷ []) h.turns (h.last, i, tt); last = refl }

pub sound_joined : (t : Alternation) (k : RelayedPart) → AreGathered t → IsSound k → AreGathered (joined t k)
sound_joined t (some_columns r) h s = grind (arith, and_parts, all_both, all_same)
sound_joined t (some_line bytes) h s = sound_ended t (a_line bytes) h s
sound_joined t (some_island x) h s = sound_ended t (an_island (data_of x)) h s

pub sound_fold : (ks : List RelayedPart) (t : Alternation) → AreGathered t → AreSound ks → AreGathered (fold joined t ks)
sound_fold [] t h s = h
sound_fold (k ∷ ks) t h s = sound_fold ks (joined t k) (sound_joined t k h s.0) s.1

pub sound_gathered : (ks : List RelayedPart) → AreSound ks → AreGathered (gathered ks)
unfolding gathered
sound_gathered ks s = sound_fold ks none (record { turns = tt; last = refl }) s
