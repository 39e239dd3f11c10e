-- Lanes that push what their aligners write: that they may, and how little is kept once all columns are consumed.
use Rattle.std.proofs.Common.{◌≡◌, ℕ, suc, zero, ◌+◌, ◌-◌, ◌/◌, ◌^◌, ◌<◌, ◌≤◌, ◌⊎◌, min, cond, Bool, true, List, [], ◌∷◌, ◌++◌, length, refl, ap, ◌∙◌, sym, subst, arith, length-append, length-drop, Option, Some, None, MatchOption, is_some, slice_index}
use Rattle.std.proofs.lemmas.Bool.{cases_lt}
use Rattle.tmds_word.specs.Taps.{AreNear}
use Rattle.lane_align.specs.Lanes.{IsRun, IsLock, IsLockOf}
use Rattle.lane_align.specs.Words.{lane_words}
use Rattle.lane_align.proofs.Controls.{one_lock, run_within}
use Rattle.lane_align.proofs.Growing.{run_stays}
use Rattle.lane_align.proofs.Words.{length-words_from}
use Rattle.lane_deskew.specs.Keeping.{stored, limit}
use Rattle.lane_deskew.specs.Growing.{HasGrown}
use Rattle.lane_deskew.specs.Pushed.{Pushed, History, no_words, no_history, more, edge_of, from_edge, unconsumed, reach, Knows, Lends, Awaits, IsAligned, DeskewRepresents, CanPush, lane_at, kept_of, ready_of}
use Rattle.lane_deskew.specs.Fed.{IsCutFrom, AreCutFrom, AreGained, IsFedTo, past_at}
use Rattle.lane_deskew.specs.Seen.{Held}
use Rattle.lane_deskew.specs.declared.deskew.Deskew.{Deskew}
use Rattle.lane_deskew.specs.declared.Aligned.{Aligned}
use Rattle.lane_deskew.proofs.Growth.{lock_kept}
use Rattle.lane_deskew.proofs.Fed.{edge_cut, from_cut}
use Rattle.lane_deskew.proofs.Seeking.{stored_row}
use Rattle.lane_deskew.proofs.Aligning.{row_length}

-- a lane's characters are those at any lock of its bits
words_by : (xs : List Bool) (lane : Pushed) (o u : Option ℕ) → MatchOption o ((p : ℕ) → IsRun xs p → ⊥) (λ p. IsLock xs p × (lane.lock ≡ p)) → lane.words ≡ lane_words o xs
    → IsLockOf xs u → lane.words ≡ lane_words u xs
words_by xs lane None None h k l = k
words_by xs lane None (Some q) h k l = absurd (h q l.run)
words_by xs lane (Some p) None h k l = absurd (l p h.0.run)
words_by xs lane (Some p) (Some q) h k l = k ∙ ap (λ n. lane_words (Some n) xs) (one_lock xs p q h.0 l)

words_at : (xs : List Bool) (lane : Pushed) (u : Option ℕ) → IsCutFrom xs lane → IsLockOf xs u → lane.words ≡ lane_words u xs
words_at xs lane u cut is = words_by xs lane cut.found u cut.lock cut.words is

pub gained_pushed : (xs us : List Bool) (lane : Pushed) (lock : ℕ) (words : List ℕ) → AreGained xs us lock words → IsCutFrom xs lane → IsCutFrom us (more lock words lane)
gained_pushed xs us lane lock words gained cut = grind (arith, words_at)

-- no characters without a lock
no_lock : (xs us : List Bool) → lane_words None xs ≡ lane_words None us
unfolding lane_words
no_lock xs us = refl

no_bits : lane_words None [] ≡ []
unfolding lane_words
no_bits = refl

lane_cut : IsCutFrom [] no_words
lane_cut = record { found = None; lock = λ p run. let within = run_within [] p run in absurd (omega arith); words = sym no_bits }

pub nothing_cut : AreCutFrom [] [] [] no_history
nothing_cut = record { blue = lane_cut; green = lane_cut; red = lane_cut }

pub none_gained : (xs us : List Bool) (lane : Pushed) → HasGrown xs us → ((p : ℕ) → IsRun us p → ⊥) → IsCutFrom xs lane → IsCutFrom us lane
none_gained xs us lane grown none cut = record {
  found = None;
  lock = none;
  words = words_at xs lane None cut (λ p run. none p (run_stays xs us grown.0 grown.1 p run)) ∙ no_lock xs us;
}

-- a lane that has characters goes on with its lock
lock_by : (xs us : List Bool) (lane : Pushed) (lock : ℕ) (o : Option ℕ) → HasGrown xs us → MatchOption o ((p : ℕ) → IsRun xs p → ⊥) (λ p. IsLock xs p × (lane.lock ≡ p)) → lane.words ≡ lane_words o xs
    → IsLock us lock → 0 < length lane.words → lock ≡ lane.lock
unfolding lane_words
lock_by xs us lane lock None grown none words is some = let e = ap length words in absurd (omega arith)
lock_by xs us lane lock (Some p) grown locked words is some = one_lock us lock p is (lock_kept xs us p grown locked.0) ∙ sym locked.1

-- how many characters there are at a lock
count_at : (us : List Bool) (lock : ℕ) → length (lane_words (Some lock) us) ≡ (length us - lock) / 10
unfolding lane_words
count_at us lock = length-words_from us lock

-- where a list does not grow, nothing is added
nothing_more : (xs : List Bool) (lock : ℕ) (words : List ℕ) (o : Option ℕ) → IsLockOf xs o → IsLock xs lock → lane_words o xs ++ words ≡ lane_words (Some lock) xs → words ≡ []
nothing_more xs lock words None none is all = absurd (none lock is.run)
nothing_more xs lock words (Some p) is_p is all =
    let same : length (lane_words (Some p) xs) ≡ length (lane_words (Some lock) xs) = ap (λ n. length (lane_words (Some n) xs)) (one_lock xs p lock is_p is) in
    empty words (let e = ap length all in omega (arith, length-append (lane_words (Some p) xs) words))
  where
    empty : (ws : List ℕ) → length ws ≡ 0 → ws ≡ []
    empty [] h = refl
    empty (w ∷ ws) h = absurd (omega arith)

known_at : (d : Deskew) (p : History) (lane : ℕ) → DeskewRepresents d p → Knows (lane_at d lane) (past_at p lane)
known_at d p lane h = grind arith

pub gained_fit : (d : Deskew) (p : History) (lane lock : ℕ) (words : List ℕ) (xs us : List Bool) → DeskewRepresents d p → IsCutFrom xs (past_at p lane) → AreGained xs us lock words
    → length us < 2 ^ 63 → ((past_at p lane).ended ≡ true → us ≡ xs) → length (kept_of d lane) + length words ≤ 4160 → CanPush d lane lock words
gained_fit d p lane lock words xs us stands cut gained small over room =
    let past = past_at p lane in
    let knows = known_at d p lane stands in
    let count = knows.count in
    let within = run_within us lock gained.is_lock.run in
    let before = ap length (words_at xs past gained.before cut gained.was) in
    let all = ap length gained.all in
    record {
      same = λ some. lock_by xs us past lock cut.found gained.grown cut.lock cut.words gained.is_lock (omega arith) ∙ sym knows.lock;
      room = room;
      total = omega (arith, length-append (lane_words gained.before xs) words, count_at us lock);
      going = grind (arith, nothing_more);
    }

-- a lane in numbers: how many of its characters a column can reach, how many are not consumed and how many are in
-- its row; and how many bits it has, of so many that were fed
pub record IsShort (r n taken : ℕ) (ended : Bool) (many bits edge kept : ℕ) : Type 0 where
  pub in_row : kept ≡ min r many
  pub size : many ≡ (bits - (edge - 120)) / 10 - taken
  pub past : 120 ≤ edge
  pub fed : (bits ≡ n) ⊎ ((ended ≡ true) × (bits ≤ n))
  pub reached : ended ≡ true → r ≤ many

at_most : (n bits : ℕ) (ended : Bool) → (bits ≡ n) ⊎ ((ended ≡ true) × (bits ≤ n)) → bits ≤ n
at_most n bits ended h = grind arith

-- an empty row of one lane: the row of a lane whose edge is near is short
few_near : (r n taken : ℕ) (b c : Bool) (u x e k v y f m : ℕ) → IsShort r n taken b u x e k → IsShort r n taken c v y f m → e ≤ f + 70 → k ≡ 0 → m ≤ 7
few_near r n taken b c u x e k v y f m one two near none = grind (arith, at_most, cases_lt)

one_empty : (k l m : ℕ) → min k (min l m) ≡ 0 → (k ≡ 0) ⊎ ((l ≡ 0) ⊎ (m ≡ 0))
one_empty k l m h = grind arith

-- so where one lane has an empty row, all three rows are short
all_few : (r n taken : ℕ) (b c d : Bool) (u v w x y z e f g k l m : ℕ) → IsShort r n taken b u x e k → IsShort r n taken c v y f l → IsShort r n taken d w z g m
    → AreNear e f → AreNear f g → AreNear e g → (k ≡ 0) ⊎ ((l ≡ 0) ⊎ (m ≡ 0)) → (k ≤ 7) × (l ≤ 7) × (m ≤ 7)
all_few r n taken b c d u v w x y z e f g k l m one two three ef fg eg none = grind (arith, few_near)

limit_ended : (b : Bool) (n r : ℕ) → r ≤ limit b n → b ≡ true → r ≤ n
limit_ended b n r h k = grind arith

-- a lane that is aligned is such a lane
lane_short : (lane : Held) (past : Pushed) (taken e r n : ℕ) (xs : List Bool) → Lends lane past taken e r → edge_of past e → IsCutFrom xs past → IsFedTo n xs past
    → r ≤ limit past.ended (length (unconsumed taken past e)) → 120 ≤ e → IsShort r n taken past.ended (length (unconsumed taken past e)) (length xs) e (length lane.kept.row)
lane_short lane past taken e r n xs lends edge cut fed le far =
    let from = ap length (from_cut xs past e cut.found cut.lock cut.words ((edge_cut xs past e cut).0 edge)) ∙ length-words_from xs (e - 120) in
    record {
      in_row = row_length lane past taken e r lends;
      size = length-drop taken (from_edge past e) ∙ ap (λ m. m - taken) from;
      past = far;
      fed = fed;
      reached = limit_ended past.ended _ r le;
    }

far_edge : (past : Pushed) (e : ℕ) → edge_of past e → 120 ≤ e
far_edge past e edge = let at = edge.at in let past_run = edge.ends.past in omega arith

kept_short : (lane : Held) → lane.kept.ring ≡ [] → length lane.kept.row ≤ 7 → length (stored lane.kept) ≤ 7
kept_short lane ring few = let e = ap length (stored_row lane.kept ring) in omega arith

pub room_left : (d : Deskew) (p : History) (at : Aligned) (n : ℕ) (xs ys zs : List Bool) → DeskewRepresents d p → d.found ≡ Some at → AreCutFrom xs ys zs p
    → IsFedTo n xs p.blue → IsFedTo n ys p.green → IsFedTo n zs p.red → ready_of d ≡ 0 → (lane : ℕ) → length (kept_of d lane) ≤ 7
room_left d p at n xs ys zs stands found cut a b c none lane =
    let edges = at.edges in
    let al : IsAligned d p edges = subst (λ (o : Option Aligned). MatchOption o (Awaits d p) (λ found_at. IsAligned d p found_at.edges)) found stands.alignment in
    let r = reach p edges in
    let t = al.alignment.triple in
    let one = lane_short d.blue p.blue p.taken (slice_index edges 0) r n xs al.blue t.blue cut.blue a (omega arith) (far_edge p.blue (slice_index edges 0) t.blue) in
    let two = lane_short d.green p.green p.taken (slice_index edges 1) r n ys al.green t.green cut.green b (omega arith) (far_edge p.green (slice_index edges 1) t.green) in
    let three = lane_short d.red p.red p.taken (slice_index edges 2) r n zs al.red t.red cut.red c (omega arith) (far_edge p.red (slice_index edges 2) t.red) in
    let k = length d.blue.kept.row in
    let l = length d.green.kept.row in
    let m = length d.red.kept.row in
    let least : min k (min l m) ≡ 0 = sym (ap (λ (o : Option Aligned). cond (is_some o) (min k (min l m)) 0) found) ∙ none in
    by_lane al (all_few r n p.taken _ _ _ _ _ _ _ _ _ _ _ _ k l m one two three t.blue_green t.green_red t.blue_red (one_empty k l m least)) lane
  where
    by_lane : IsAligned d p at.edges → (length d.blue.kept.row ≤ 7) × (length d.green.kept.row ≤ 7) × (length d.red.kept.row ≤ 7) → (i : ℕ) → length (kept_of d i) ≤ 7
    by_lane al short zero = kept_short d.blue al.blue.ring short.0
    by_lane al short (suc zero) = kept_short d.green al.green.ring short.1
    by_lane al short (suc (suc i)) = kept_short d.red al.red.ring short.2
