-- What C keeps after a feed.
use Rattle.std.proofs.Common.{◌≡◌, ℕ, ◌≤◌, min, true, ap, sym, subst, arith, Option, Some}
use Rattle.link_sink.specs.Sinks.{Fed}
use Rattle.c_room.specs.declared.kept.Kept.{Kept}
use Rattle.c_room.specs.declared.kind.Kind.{Kind}
use Rattle.c_room.specs.declared.lanes.BitCounts.{BitCounts}
use Rattle.c_room.specs.declared.lanes.CallerLanes.{CallerLanes}
use Rattle.c_room.specs.Handles.{Holds}
use Rattle.c_room.specs.Sinks.{kind_of, goes_on, StandsFor, HasTakenBits}
use Rattle.c_room.specs.Stands.{Stands}
use Rattle.c_room.specs.Takes.{most_of, counts_to, plus, grown_to, AreFew}

pub stands_after : (old new : Kept) (fed : Fed) (lanes : CallerLanes) (at : ℕ) → goes_on old.sink ≡ true → new.fed ≡ plus old.fed (counts_to at lanes.bits) → AreFew old.fed lanes.bits
    → ((bits : BitCounts) → HasTakenBits old.sink bits → HasTakenBits new.sink (plus bits (counts_to at lanes.bits)))
    → ((f : Fed) → StandsFor old.sink f → StandsFor new.sink (grown_to (counts_to at lanes.bits) f lanes))
    → Stands old fed → Stands new (grown_to (counts_to at lanes.bits) fed lanes)
stands_after old new fed lanes at is_open e few taken stands h = record {
  bits = λ _. subst (λ (b : BitCounts). HasTakenBits new.sink b) (sym e) (taken old.fed (h.bits is_open));
  sink = λ _. stands fed (h.sink is_open);
  blue = omega (arith, ap (λ b. b.blue) e, few.blue);
  green = omega (arith, ap (λ b. b.green) e, few.green);
  red = omega (arith, ap (λ b. b.red) e, few.red);
}

-- what is held where its box is taken out
pub held_kept : (o : Option Kept) (x y : Kept) (kind : Kind) (fed : Fed) → o ≡ Some x → y ≡ x → Holds o kind fed → (kind_of y.sink ≡ kind) × Stands y fed
held_kept o x y kind fed e f h =
    subst (λ (k : Kept). (kind_of k.sink ≡ kind) × Stands k fed) (sym f) (subst (λ (p : Option Kept). Holds p kind fed) e h)

-- all bits were taken
pub all_taken : (at : ℕ) (bits : BitCounts) → most_of bits ≤ at → counts_to at bits ≡ bits
all_taken at bits le =
    let x : min bits.blue at ≡ bits.blue = omega (arith, le) in
    let y : min bits.green at ≡ bits.green = omega (arith, le) in
    let z : min bits.red at ≡ bits.red = omega (arith, le) in
    λ i. record { blue = x i; green = y i; red = z i }
