-- The columns of an island with one column more.
use Rattle.std.proofs.Common.{◌≡◌, ℕ, suc, zero, ◌+◌, ◌*◌, ◌<◌, ◌≤◌, Bool, true, false, not, ◌&&◌, List, [], ◌∷◌, ◌++◌, length, take, drop, refl, ap, ap₂, sym, ◌∙◌, append_assoc, arith}
use Rattle.std.specs.Prelude.{nat_le}
use Rattle.std.proofs.lemmas.List.{append-nil, length_push, length-drop, take_all, take-append-le, drop-append-le, drop_all}
use Rattle.std.proofs.lemmas.Bool.{leb-true, leb-false, le-leb, lt-leb}
use Rattle.std.proofs.Math.Bool.{and-false}
use Rattle.tmds_word.specs.Column.{Column}
use Rattle.period_grammar.specs.Events.{Event, EventAt, all_at}
use Rattle.period_grammar.specs.Island.{Payload, parts, begins_close, holds_packet, with_packet, split_by, split, payload, packet_events, in_packets, in_closing, in_left, left_at, in_island, when}
use Rattle.period_grammar.specs.After.{left_gain, payload_gain, choose, settle_by, settle, after_payload}
use Rattle.period_grammar.specs.Heard.{Kind, in_payload}

pub holds_long : (cs : List Column) → holds_packet cs ≡ true → 32 ≤ length cs
unfolding holds_packet
holds_long cs e = grind (arith, leb-true)

pub holds_open : (cs : List Column) → holds_packet cs ≡ true → begins_close cs ≡ false
unfolding holds_packet
holds_open cs e = grind arith

-- columns that hold no packet and do not begin with a closing column are few
pub few_left : (cs : List Column) → holds_packet cs ≡ false → begins_close cs ≡ false → length cs < 32
unfolding holds_packet
few_left cs e f =
    let g : nat_le 32 (length cs) ≡ false = ap (λ p. not p && nat_le 32 (length cs)) (sym f) ∙ e in
    leb-false 32 (length cs) g

pub holds_is : (cs : List Column) → begins_close cs ≡ false → 32 ≤ length cs → holds_packet cs ≡ true
unfolding holds_packet
holds_is cs e le = ap (λ p. not p && nat_le 32 (length cs)) e ∙ le-leb 32 (length cs) le

pub holds_not : (cs : List Column) → length cs < 32 → holds_packet cs ≡ false
unfolding holds_packet
holds_not cs lt = ap (λ p. not (begins_close cs) && p) (lt-leb 32 (length cs) lt) ∙ and-false (not (begins_close cs))

pub holds_never : (cs : List Column) → begins_close cs ≡ true → holds_packet cs ≡ false
unfolding holds_packet
holds_never cs e = ap (λ p. not p && nat_le 32 (length cs)) e

begins_push : (cs : List Column) (c : Column) → 1 < length cs → begins_close (cs ++ c ∷ []) ≡ begins_close cs
begins_push cs c h = grind arith

open_part : (cs : List Column) (c : Column) → begins_close (cs ++ c ∷ []) ≡ false → begins_close cs ≡ false
open_part cs c h = grind arith

pub split_none : (n : ℕ) (cs : List Column) → holds_packet cs ≡ false → split n cs ≡ parts [] cs
unfolding split
split_none n cs h = grind arith

pub split_one : (n : ℕ) (cs : List Column) → holds_packet cs ≡ true → split (suc n) cs ≡ with_packet (take 32 cs) (split n (drop 32 cs))
unfolding split
split_one n cs e = ap (λ p. split_by p cs (split n (drop 32 cs))) e

commute : (p : Bool) (q : List Column) (ps : List (List Column)) (t : List Column) → with_packet q (settle_by p ps t) ≡ settle_by p (q ∷ ps) t
commute p q ps t = grind arith

with_after : (c : Column) (q : List Column) (x : Payload) → with_packet q (after_payload c x) ≡ after_payload c (with_packet q x)
with_after c q (parts ps t) = commute (holds_packet (t ++ c ∷ [])) q ps (t ++ c ∷ [])

whole : (cs : List Column) (c : Column) → holds_packet cs ≡ false → holds_packet (cs ++ c ∷ []) ≡ true → length (cs ++ c ∷ []) ≡ 32
whole cs c e f =
    let few = few_left cs e (open_part cs c (holds_open (cs ++ c ∷ []) f)) in
    omega (arith, length_push cs c, holds_long (cs ++ c ∷ []) f)

-- the last step: what was left holds no packet
last_step : (p : Bool) (m : ℕ) (cs : List Column) (c : Column) → holds_packet cs ≡ false → holds_packet (cs ++ c ∷ []) ≡ p → split (suc m) (cs ++ c ∷ []) ≡ settle [] (cs ++ c ∷ [])
last_step true m cs c e f =
    let t = cs ++ c ∷ [] in
    let long = whole cs c e f in
    split_one m t f ∙ ap₂ (λ a b. with_packet a (split m b)) (take_all 32 t (omega arith)) (drop_all 32 t (omega arith))
    ∙ ap (with_packet t) (split_none m [] (holds_not [] (omega arith))) ∙ ap (λ p. settle_by p [] t) (sym f)
last_step false m cs c e f = split_none (suc m) (cs ++ c ∷ []) f ∙ ap (λ p. settle_by p [] (cs ++ c ∷ [])) (sym f)

split_step : (p : Bool) (n m : ℕ) (cs : List Column) (c : Column) → holds_packet cs ≡ p
    → (32 ≤ length cs → split m (drop 32 cs ++ c ∷ []) ≡ after_payload c (split n (drop 32 cs)))
    → split (suc m) (cs ++ c ∷ []) ≡ after_payload c (split (suc n) cs)
split_step false n m cs c e more = last_step (holds_packet (cs ++ c ∷ [])) m cs c e refl ∙ ap (after_payload c) (sym (split_none (suc n) cs e))
split_step true n m cs c e more =
    let long = holds_long cs e in
    let still : holds_packet (cs ++ c ∷ []) ≡ true = holds_is (cs ++ c ∷ []) (begins_push cs c (omega arith) ∙ holds_open cs e) (omega (arith, length_push cs c)) in
    split_one m (cs ++ c ∷ []) still
    ∙ ap₂ (λ a b. with_packet a (split m b)) (take-append-le 32 cs (c ∷ []) long) (drop-append-le 32 cs (c ∷ []) long)
    ∙ ap (with_packet (take 32 cs)) (more long)
    ∙ with_after c (take 32 cs) (split n (drop 32 cs))
    ∙ ap (after_payload c) (sym (split_one n cs e))

pub split_push : (n m : ℕ) (cs : List Column) (c : Column) → length cs ≤ n → n < m → split m (cs ++ c ∷ []) ≡ after_payload c (split n cs)
split_push n zero cs c le lt = absurd (omega arith)
split_push zero (suc m) cs c le lt = grind (arith, holds_not, last_step, split_none)
split_push (suc n) (suc m) cs c le lt =
    split_step (holds_packet cs) n m cs c refl (λ long. split_push n m (drop 32 cs) c (omega (arith, length-drop 32 cs)) (omega arith))

pub payload_push : (cs : List Column) (c : Column) → payload (cs ++ c ∷ []) ≡ after_payload c (payload cs)
payload_push cs c = split_push (length cs) (length (cs ++ c ∷ [])) cs c (omega arith) (omega (arith, length_push cs c))

-- What is left holds no packet, and no column is lost.
abbrev pub Sound : List Column → Payload → Type 0
Sound cs (parts ps t) = (holds_packet t ≡ false) × (32 * length ps + length t ≡ length cs)

with_sound : (cs : List Column) (x : Payload) → 32 ≤ length cs → Sound (drop 32 cs) x → Sound cs (with_packet (take 32 cs) x)
with_sound cs (parts ps t) le h = (h.0, omega (arith, h.1, length-drop 32 cs))

by_sound : (p : Bool) (cs : List Column) (x : Payload) → holds_packet cs ≡ p → (32 ≤ length cs → Sound (drop 32 cs) x) → Sound cs (split_by p cs x)
by_sound true cs x e h = with_sound cs x (holds_long cs e) (h (holds_long cs e))
by_sound false cs x e h = (e, omega arith)

pub split_sound : (n : ℕ) (cs : List Column) → length cs ≤ n → Sound cs (split n cs)
unfolding split
split_sound zero cs le = (holds_not cs (omega arith), omega arith)
split_sound (suc n) cs le = by_sound (holds_packet cs) cs (split n (drop 32 cs)) refl (λ long. split_sound n (drop 32 cs) (omega (arith, length-drop 32 cs)))

pub payload_sound : (cs : List Column) → Sound cs (payload cs)
payload_sound cs = split_sound (length cs) cs (omega arith)

-- What is reported.

when_at : (p : Bool) (n : ℕ) (ts : List Event) → when p (all_at n ts) ≡ all_at n (when p ts)
when_at p n ts = grind arith

when_two : (p : Bool) (n : ℕ) (us : List EventAt) (ts : List Event) → when p (us ++ all_at n ts) ≡ when p us ++ all_at n (when p ts)
when_two p n us ts = grind arith

in_left_push : (b s k : ℕ) (t : List Column) (c : Column) → in_left b s k (t ++ c ∷ []) ≡ in_left b s k t ++ all_at (s + length t) (left_gain b s k c t)
in_left_push b s k t c = grind (arith, when_at, when_two, append-nil)

in_left_open : (b s k : ℕ) (t : List Column) → begins_close t ≡ false → in_left b s k t ≡ []
in_left_open b s k t e = ap (λ p. when p (in_closing b s k t)) e

in_packets_push : (s k u m : ℕ) (ps : List (List Column)) (p : List Column) → u ≡ s + 32 * length ps → m ≡ k + length ps
    → in_packets s k (ps ++ p ∷ []) ≡ in_packets s k ps ++ all_at (u + 31) (packet_events u m p)
in_packets_push s k u m [] p e f = grind (arith, append-nil)
in_packets_push s k u m (q ∷ ps) p e f =
    let a : u ≡ (s + 32) + 32 * length ps = omega arith in
    let b : m ≡ (k + 1) + length ps = omega arith in
    ap (λ ts. all_at (s + 31) (packet_events s k q) ++ ts) (in_packets_push (s + 32) (k + 1) u m ps p a b)
    ∙ sym (append_assoc (all_at (s + 31) (packet_events s k q)) (in_packets (s + 32) (k + 1) ps) (all_at (u + 31) (packet_events u m p)))

open_before : (t : List Column) (c : Column) → holds_packet (t ++ c ∷ []) ≡ true → begins_close t ≡ false
open_before t c e = open_part t c (holds_open (t ++ c ∷ []) e)

island_step : (p : Bool) (b n : ℕ) (c : Column) (ps : List (List Column)) (t : List Column) → holds_packet t ≡ false → n ≡ left_at b ps + length t → holds_packet (t ++ c ∷ []) ≡ p
    → in_island b (settle_by p ps (t ++ c ∷ [])) ≡ in_island b (parts ps t) ++ all_at n (choose p (packet_events (left_at b ps) (length ps) (t ++ c ∷ [])) (left_gain b (left_at b ps) (length ps) c t))
unfolding in_island
island_step true b n c ps t h e f =
    let long = whole t c h f in
    let place : left_at b ps + 31 ≡ n = omega (arith, length_push t c) in
    grind (arith, append-nil, in_packets_push, in_left_open, open_before)
island_step false b n c ps t h e f = grind (arith, in_left_push, append_assoc)

pub in_payload_push : (b n : ℕ) (k : Kind) (c : Column) (rest : List Column) → n ≡ (b + 2) + length rest
    → in_payload b k (rest ++ c ∷ []) ≡ in_payload b k rest ++ all_at n (payload_gain b k c rest)
in_payload_push b n k c rest h = grind (arith, payload_push, payload_sound, island_step)

pub in_payload_none : (b : ℕ) (k : Kind) → in_payload b k [] ≡ []
unfolding split in_island
in_payload_none b k = grind arith
