-- What three lanes keep after their alignment, as lanes end and as columns are consumed.
use Rattle.std.proofs.Common.{◌≡◌, ℕ, suc, zero, ◌+◌, ◌-◌, ◌/◌, ◌^◌, ◌<◌, ◌≤◌, min, Bool, true, false, List, [], ◌∷◌, ◌++◌, length, take, drop, slice_index, refl, ap, ◌∙◌, sym, arith, length-drop, Option, Some, None, MatchOption, is_some, cond}
use Rattle.std.proofs.lemmas.List.{drop-drop, drop-take, take-take}
use Rattle.lane_deskew.specs.Keeping.{Stored, stored, limit}
use Rattle.tmds_word.specs.Words.{columns_of}
use Rattle.tmds_word.proofs.Lent.{columns_drop}
use Rattle.lane_deskew.specs.Pushed.{Pushed, History, ended, settled, consumed, from_edge, unconsumed, reach, IsPastAlignment, IsPastTriple, past_columns, Knows, Waits, Lends, AreKnown, Awaits, IsAligned, IsCut, reach_of}
use Rattle.lane_deskew.specs.Seen.{Held}
use Rattle.lane_deskew.specs.declared.deskew.Deskew.{Deskew}
use Rattle.lane_deskew.specs.declared.Aligned.{Aligned}
use Rattle.lane_deskew.proofs.Reaching.{reach_cut, reach_consumed, take_min}
use Rattle.lane_deskew.proofs.Seeking.{same_edge}
use Rattle.lane_deskew.proofs.Aligning.{three, row_length}
use Rattle.std.proofs.Math.Seq.{take-length}

-- a lane has fewer characters than numbers go
few_words : (lane : Held) (past : Pushed) (taken e : ℕ) → Knows lane past → length (unconsumed taken past e) < 2 ^ 63
few_words lane past taken e knows =
    let small = lane.small in
    let count = knows.count in
    omega (arith, length-drop taken (from_edge past e), length-drop ((e - 120 - past.lock) / 10) past.words)

-- what is kept of a lane whose kept characters are the same
waits_same : (old new : Held) (past : Pushed) → new.kept ≡ old.kept → Waits old past → Waits new past
waits_same old new past same waits = ap stored same ∙ waits

lends_same : (old new : Held) (past : Pushed) (taken e r : ℕ) → new.kept ≡ old.kept → Lends old past taken e r → Lends new past taken e r
lends_same old new past taken e r same lends = record {
  ring = ap (λ (k : Stored). k.ring) same ∙ lends.ring;
  row = ap (λ (k : Stored). k.row) same ∙ lends.row;
  within = lends.within;
}

-- by whether an alignment was found
pub when_none : (o : Option Aligned) (A X : Type 0) (B Y : Aligned → Type 0) → is_some o ≡ false → (A → X) → MatchOption o A B → MatchOption o X Y
when_none None A X B Y e f h = f h
when_none (Some at) A X B Y e f h = cc

pub when_some : (o : Option Aligned) (A X : Type 0) (B Y : Aligned → Type 0) → is_some o ≡ true → ((at : Aligned) → B at → Y at) → MatchOption o A B → MatchOption o X Y
when_some None A X B Y e f h = cc
when_some (Some at) A X B Y e f h = f at h

pub awaited : (o : Option Aligned) (A : Type 0) (B : Aligned → Type 0) → is_some o ≡ false → MatchOption o A B → A
awaited None A B e h = h
awaited (Some at) A B e h = cc

-- one lane has ended: before the alignment
module _ (d after : Deskew) (p : History) (a : after.blue.kept ≡ d.blue.kept) (b : after.green.kept ≡ d.green.kept) (c : after.red.kept ≡ d.red.kept) where
  pub awaits_ended : (lane : ℕ) → Awaits d p → Awaits after (ended lane p)
  awaits_ended zero awaits = record {
    blue = waits_same d.blue after.blue p.blue a awaits.blue;
    green = waits_same d.green after.green p.green b awaits.green;
    red = waits_same d.red after.red p.red c awaits.red;
    none = awaits.none;
    fresh = awaits.fresh;
  }
  awaits_ended (suc zero) awaits = record {
    blue = waits_same d.blue after.blue p.blue a awaits.blue;
    green = waits_same d.green after.green p.green b awaits.green;
    red = waits_same d.red after.red p.red c awaits.red;
    none = awaits.none;
    fresh = awaits.fresh;
  }
  awaits_ended (suc (suc n)) awaits = record {
    blue = waits_same d.blue after.blue p.blue a awaits.blue;
    green = waits_same d.green after.green p.green b awaits.green;
    red = waits_same d.red after.red p.red c awaits.red;
    none = awaits.none;
    fresh = awaits.fresh;
  }

-- after it, with what was reachable before
pub record IsAlignedTo (deskew : Deskew) (p : History) (edges : List ℕ) (r : ℕ) : Type 0 where
  pub alignment : IsPastAlignment p edges
  pub blue : Lends deskew.blue p.blue p.taken (slice_index edges 0) r
  pub green : Lends deskew.green p.green p.taken (slice_index edges 1) r
  pub red : Lends deskew.red p.red p.taken (slice_index edges 2) r

limit_over : (b : Bool) (n : ℕ) → n < 2 ^ 63 → limit true n ≤ limit b n
limit_over true n h = omega arith
limit_over false n h = omega arith

module _ (d after : Deskew) (p : History) (edges : List ℕ) (known : AreKnown d p) (al : IsAligned d p edges)
    (a : after.blue.kept ≡ d.blue.kept) (b : after.green.kept ≡ d.green.kept) (c : after.red.kept ≡ d.red.kept)
  where
    one : Lends after.blue p.blue p.taken (slice_index edges 0) (reach p edges)
    one = lends_same d.blue after.blue p.blue p.taken _ _ a al.blue

    two : Lends after.green p.green p.taken (slice_index edges 1) (reach p edges)
    two = lends_same d.green after.green p.green p.taken _ _ b al.green

    three_is : Lends after.red p.red p.taken (slice_index edges 2) (reach p edges)
    three_is = lends_same d.red after.red p.red p.taken _ _ c al.red

    pub aligned_ended : (lane : ℕ) → IsAlignedTo after (ended lane p) edges (reach p edges)
    aligned_ended zero = record {
      alignment = al.alignment;
      blue = record { ring = one.ring; row = one.row; within = one.within };
      green = two;
      red = three_is;
    }
    aligned_ended (suc zero) = record {
      alignment = al.alignment;
      blue = one;
      green = record { ring = two.ring; row = two.row; within = two.within };
      red = three_is;
    }
    aligned_ended (suc (suc n)) = record {
      alignment = al.alignment;
      blue = one;
      green = two;
      red = record { ring = three_is.ring; row = three_is.row; within = three_is.within };
    }

    pub reach_ended : (lane : ℕ) → reach (ended lane p) edges ≤ reach p edges
    reach_ended zero = let h = limit_over p.blue.ended _ (few_words d.blue p.blue p.taken (slice_index edges 0) known.blue) in omega arith
    reach_ended (suc zero) = let h = limit_over p.green.ended _ (few_words d.green p.green p.taken (slice_index edges 1) known.green) in omega arith
    reach_ended (suc (suc n)) = let h = limit_over p.red.ended _ (few_words d.red p.red p.taken (slice_index edges 2) known.red) in omega arith

cut_lane : (old new : Held) (past : Pushed) (taken e r s n : ℕ) → Lends old past taken e r → s ≤ r → n ≡ s → IsCut n old new → Lends new past taken e s
cut_lane old new past taken e r s n lends le same cut = record {
  ring = cut.ring ∙ lends.ring;
  row = cut.row ∙ ap (λ m. take m old.kept.row) same ∙ ap (take s) lends.row ∙ take-take s r (unconsumed taken past e) le;
  within = lends.within;
}

-- what no column can reach any more is cut
pub aligned_cut : (d after : Deskew) (p : History) (edges : List ℕ) (r : ℕ) → AreKnown d p → IsAlignedTo d p edges r → reach p edges ≤ r
    → IsCut (reach_of d) d.blue after.blue → IsCut (reach_of d) d.green after.green → IsCut (reach_of d) d.red after.red → IsAligned after p edges
aligned_cut d after p edges r known al le a b c =
    let x = row_length d.blue p.blue p.taken (slice_index edges 0) r al.blue in
    let y = row_length d.green p.green p.taken (slice_index edges 1) r al.green in
    let z = row_length d.red p.red p.taken (slice_index edges 2) r al.red in
    let same : reach_of d ≡ reach p edges =
    (λ i. three (known.blue.ended i) (x i) (known.green.ended i) (y i) (known.red.ended i) (z i))
    ∙ reach_cut p.blue.ended p.green.ended p.red.ended _ _ _ r le in
    record {
      alignment = al.alignment;
      blue = cut_lane d.blue after.blue p.blue p.taken _ r _ _ al.blue le same a;
      green = cut_lane d.green after.green p.green p.taken _ r _ _ al.green le same b;
      red = cut_lane d.red after.red p.red p.taken _ r _ _ al.red le same c;
    }

-- numbers stay known where they are the same
pub known_same : (old new : Held) (past : Pushed) → (new.lock ≡ old.lock) × (new.count ≡ old.count) × (new.ended ≡ old.ended) → Knows old past → Knows new past
known_same old new past same knows = record {
  count = same.1 ∙ knows.count;
  lock = same.0 ∙ knows.lock;
  ended = same.2 ∙ knows.ended;
  settled = knows.settled;
}

pub cut_known : (n : ℕ) (old new : Held) (past : Pushed) → IsCut n old new → Knows old past → Knows new past
cut_known n old new past cut knows = known_same old new past (cut.lock, cut.count, cut.ended) knows

-- a lane of which n characters were consumed
pub record HasConsumed (n : ℕ) (old new : Held) : Type 0 where
  pub ring : new.kept.ring ≡ old.kept.ring
  pub row : new.kept.row ≡ drop n old.kept.row
  pub same : (new.lock ≡ old.lock) × (new.count ≡ old.count) × (new.ended ≡ old.ended)

waits_consumed : (n : ℕ) (old new : Held) (past : Pushed) → n ≡ 0 → HasConsumed n old new → Waits old past → Waits new past
waits_consumed n old new past none gone waits =
    (λ i. gone.ring i ++ gone.row i) ∙ ap (λ m. old.kept.ring ++ drop m old.kept.row) none ∙ waits

lends_consumed : (n : ℕ) (old new : Held) (past : Pushed) (taken e r s : ℕ) → HasConsumed n old new → Lends old past taken e r → n ≤ length old.kept.row
    → min (r - n) (length (unconsumed taken past e) - n) ≡ min s (length (unconsumed taken past e) - n) → Lends new past (taken + n) e s
lends_consumed n old new past taken e r s gone lends le same =
    let xs = unconsumed taken past e in
    let within = lends.within in
    let len = row_length old past taken e r lends in
    let rest : drop n xs ≡ unconsumed (taken + n) past e = drop-drop n taken (from_edge past e) in
    let few = length-drop n xs in
    let all : r ≡ n + (r - n) = omega arith in
    record {
      ring = gone.ring ∙ lends.ring;
      row = gone.row ∙ ap (drop n) lends.row ∙ ap (λ m. drop n (take m xs)) all ∙ drop-take n (r - n) xs
          ∙ take_min (r - n) s (drop n xs) (ap (min (r - n)) few ∙ same ∙ sym (ap (min s) few)) ∙ ap (take s) rest;
      within = omega (arith, length-drop taken (from_edge past e));
    }

-- columns were consumed
module _ (d after : Deskew) (p : History) (n : ℕ) (known : AreKnown d p)
    (a : HasConsumed n d.blue after.blue) (b : HasConsumed n d.green after.green) (c : HasConsumed n d.red after.red)
  where
    pub known_consumed : AreKnown after (consumed n p)
    known_consumed = record {
      blue = known_same d.blue after.blue p.blue a.same known.blue;
      green = known_same d.green after.green p.green b.same known.green;
      red = known_same d.red after.red p.red c.same known.red;
    }

    pub awaits_consumed : n ≡ 0 → Awaits d p → Awaits after (consumed n p)
    awaits_consumed none awaits =
        let fresh = awaits.fresh in
        record {
          blue = waits_consumed n d.blue after.blue p.blue none a awaits.blue;
          green = waits_consumed n d.green after.green p.green none b awaits.green;
          red = waits_consumed n d.red after.red p.red none c awaits.red;
          none = awaits.none;
          fresh = omega arith;
        }

    pub aligned_consumed : (edges : List ℕ) → n ≤ length d.blue.kept.row → n ≤ length d.green.kept.row → n ≤ length d.red.kept.row → IsAligned d p edges → IsAligned after (consumed n p) edges
    aligned_consumed edges le1 le2 le3 al =
        let x = length (unconsumed p.taken p.blue (slice_index edges 0)) in
        let y = length (unconsumed p.taken p.green (slice_index edges 1)) in
        let z = length (unconsumed p.taken p.red (slice_index edges 2)) in
        let len1 : length d.blue.kept.row ≡ min (reach p edges) x = row_length d.blue p.blue p.taken (slice_index edges 0) (reach p edges) al.blue in
        let len2 : length d.green.kept.row ≡ min (reach p edges) y = row_length d.green p.green p.taken (slice_index edges 1) (reach p edges) al.green in
        let len3 : length d.red.kept.row ≡ min (reach p edges) z = row_length d.red p.red p.taken (slice_index edges 2) (reach p edges) al.red in
        let few1 : x < 2 ^ 63 = few_words d.blue p.blue p.taken (slice_index edges 0) known.blue in
        let few2 : y < 2 ^ 63 = few_words d.green p.green p.taken (slice_index edges 1) known.green in
        let few3 : z < 2 ^ 63 = few_words d.red p.red p.taken (slice_index edges 2) known.red in
        let in1 : n ≤ x = within_of n (length d.blue.kept.row) (reach p edges) x le1 len1 in
        let in2 : n ≤ y = within_of n (length d.green.kept.row) (reach p edges) y le2 len2 in
        let in3 : n ≤ z = within_of n (length d.red.kept.row) (reach p edges) z le3 len3 in
        let same : (k m : ℕ) → k ≡ m - n → n ≤ m → m < 2 ^ 63 → min (reach p edges - n) k ≡ min (reach (consumed n p) edges) k =
        λ k m is within few. reach_consumed p.blue.ended p.green.ended p.red.ended x y z n k (omega arith) in1 in2 in3
        ∙ sym (reach_moved edges k) in
        record {
          alignment = al.alignment;
          blue = lends_consumed n d.blue after.blue p.blue p.taken _ _ _ a al.blue le1 (same (x - n) x refl in1 few1);
          green = lends_consumed n d.green after.green p.green p.taken _ _ _ b al.green le2 (same (y - n) y refl in2 few2);
          red = lends_consumed n d.red after.red p.red p.taken _ _ _ c al.red le3 (same (z - n) z refl in3 few3);
        }
      where
        within_of : (n k r x : ℕ) → n ≤ k → k ≡ min r x → n ≤ x
        within_of n k r x le is = omega arith

        left : (past : Pushed) (e : ℕ) → length (unconsumed (p.taken + n) past e) ≡ length (unconsumed p.taken past e) - n
        left past e = ap length (sym (drop-drop n p.taken (from_edge past e))) ∙ length-drop n (unconsumed p.taken past e)

        reach_moved : (edges : List ℕ) (k : ℕ) → min (reach (consumed n p) edges) k
            ≡ min (three p.blue.ended (length (unconsumed p.taken p.blue (slice_index edges 0)) - n) p.green.ended (length (unconsumed p.taken p.green (slice_index edges 1)) - n) p.red.ended (length (unconsumed p.taken p.red (slice_index edges 2)) - n)) k
        reach_moved edges k = λ i. min (three p.blue.ended (left p.blue (slice_index edges 0) i) p.green.ended (left p.green (slice_index edges 1) i) p.red.ended (left p.red (slice_index edges 2) i)) k

-- what a settling answers of all that was pushed
pub answer_of : (d : Deskew) (p : History) (o : Option Aligned) → MatchOption o (Awaits d (settled p)) (λ at. IsAligned d (settled p) at.edges)
    → MatchOption o ((x y z : ℕ) → IsPastTriple p x y z → ⊥) (λ at. IsPastAlignment p at.edges)
answer_of d p (Some at) al = al.alignment
answer_of d p None awaits = λ x y z t. awaits.none x y z (record {
  blue = same_edge _ _ _ _ x refl (sym (take-length p.blue.words)) t.blue;
  green = same_edge _ _ _ _ y refl (sym (take-length p.green.words)) t.green;
  red = same_edge _ _ _ _ z refl (sym (take-length p.red.words)) t.red;
  blue_green = t.blue_green;
  green_red = t.green_red;
  blue_red = t.blue_red;
})

-- as many of each as the shortest has give all columns
pub columns_take : (n : ℕ) (xs ys zs : List ℕ) → min (length xs) (min (length ys) (length zs)) ≤ n → columns_of (take n xs) (take n ys) (take n zs) ≡ columns_of xs ys zs
unfolding columns_of
columns_take zero [] ys zs h = refl
columns_take zero (x ∷ xs) [] zs h = refl
columns_take zero (x ∷ xs) (y ∷ ys) [] h = refl
columns_take zero (x ∷ xs) (y ∷ ys) (z ∷ zs) h = absurd (omega arith)
columns_take (suc n) [] ys zs h = refl
columns_take (suc n) (x ∷ xs) [] zs h = refl
columns_take (suc n) (x ∷ xs) (y ∷ ys) [] h = refl
columns_take (suc n) (x ∷ xs) (y ∷ ys) (z ∷ zs) h = ap (λ cs. record { blue = x; green = y; red = z } ∷ cs) (columns_take n xs ys zs (omega arith))

-- how many columns as many of each give
pub length_first : (n : ℕ) (xs ys zs : List ℕ) → n ≤ min (length xs) (min (length ys) (length zs)) → length (columns_of (take n xs) (take n ys) (take n zs)) ≡ n
unfolding columns_of
length_first zero xs ys zs le = refl
length_first (suc n) [] ys zs le = absurd (omega arith)
length_first (suc n) (x ∷ xs) [] zs le = absurd (omega arith)
length_first (suc n) (x ∷ xs) (y ∷ ys) [] le = absurd (omega arith)
length_first (suc n) (x ∷ xs) (y ∷ ys) (z ∷ zs) le = ap suc (length_first n xs ys zs (omega arith))

pub ready_within : (o : Option Aligned) (n : ℕ) → cond (is_some o) n 0 ≤ n
ready_within None n = omega arith
ready_within (Some at) n = omega arith

reach_enough : (a b c : Bool) (x y z : ℕ) → x < 2 ^ 63 → min x (min y z) ≤ three a x b y c z
reach_enough true true true x y z h = omega arith
reach_enough true true false x y z h = omega arith
reach_enough true false true x y z h = omega arith
reach_enough true false false x y z h = omega arith
reach_enough false true true x y z h = omega arith
reach_enough false true false x y z h = omega arith
reach_enough false false true x y z h = omega arith
reach_enough false false false x y z h = omega arith

-- the rows' columns are those that are not consumed
pub columns_lent : (d : Deskew) (p : History) (edges : List ℕ) (n : ℕ) → AreKnown d p → IsAligned d p edges
    → n ≡ min (length d.blue.kept.row) (min (length d.green.kept.row) (length d.red.kept.row))
    → columns_of (take n d.blue.kept.row) (take n d.green.kept.row) (take n d.red.kept.row) ≡ drop p.taken (past_columns p edges)
columns_lent d p edges n known al is =
    let r = reach p edges in
    let xs = unconsumed p.taken p.blue (slice_index edges 0) in
    let ys = unconsumed p.taken p.green (slice_index edges 1) in
    let zs = unconsumed p.taken p.red (slice_index edges 2) in
    let len1 = row_length d.blue p.blue p.taken (slice_index edges 0) r al.blue in
    let len2 = row_length d.green p.green p.taken (slice_index edges 1) r al.green in
    let len3 = row_length d.red p.red p.taken (slice_index edges 2) r al.red in
    let enough : min (length xs) (min (length ys) (length zs)) ≤ r = reach_enough p.blue.ended p.green.ended p.red.ended (length xs) (length ys) (length zs) (few_words d.blue p.blue p.taken (slice_index edges 0) known.blue) in
    let le : n ≤ r = at_most n r _ _ _ _ is len1 in
    let all : min (length xs) (min (length ys) (length zs)) ≤ n = at_least n r _ _ _ _ _ _ is len1 len2 len3 enough in
    (λ i. columns_of (take n (al.blue.row i)) (take n (al.green.row i)) (take n (al.red.row i)))
    ∙ (λ i. columns_of (take-take n r xs le i) (take-take n r ys le i) (take-take n r zs le i))
    ∙ columns_take n xs ys zs all
    ∙ sym (columns_drop p.taken (from_edge p.blue (slice_index edges 0)) (from_edge p.green (slice_index edges 1)) (from_edge p.red (slice_index edges 2)))
  where
    at_most : (n r u v w x : ℕ) → n ≡ min u (min v w) → u ≡ min r x → n ≤ r
    at_most n r u v w x is a = omega arith

    at_least : (n r u v w x y z : ℕ) → n ≡ min u (min v w) → u ≡ min r x → v ≡ min r y → w ≡ min r z → min x (min y z) ≤ r → min x (min y z) ≤ n
    at_least n r u v w x y z is a b c le = omega arith
