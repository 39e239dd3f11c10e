-- Where no lane slips there is one epoch: no lane has a stray, and the first alignment is the end of a control period, whose
-- guard pair follows.
use Rattle.std.proofs.Common.{◌≡◌, ℕ, ◌+◌, ◌<◌, ◌≤◌, true, List, ◌++◌, length, take, drop, ap, ap₂, sym, ◌∙◌, subst, arith, inl, inr, Some, length-take, length-drop, slice_get, true≢false}
use Rattle.std.proofs.lemmas.Bool.{cases_lt}
use Rattle.std.proofs.lemmas.Option.{slice_get_within, get_or_from_slice_get}
use Rattle.std.proofs.lemmas.List.{get_or_append_left, get_or-take, get_or-drop, length-map, length-take-le}
use Rattle.tmds_word.specs.Column.{Column}
use Rattle.tmds_word.specs.Taps.{IsTap, HasSmallSkew}
use Rattle.lane_deskew.specs.Triples.{IsFirst}
use Rattle.lane_deskew.specs.Aligned.{aligned_columns}
use Rattle.lane_deskew.proofs.First.{one_first}
use Rattle.lane_deskew.proofs.Listed.{columns_listed}
use Rattle.island_pack.specs.Conforming.{IsConforming}
use Rattle.island_pack.specs.Periods.{Period}
use Rattle.island_pack.specs.Kinds.{kinds_of, kind_at, IsPayload, EndsAt}
use Rattle.island_pack.specs.Sparse.{unlike_words, no_column, column_at, unlike_at, IsSparseInPayload}
use Rattle.island_pack.specs.Spelling.{column_words}
use Rattle.link_laws.specs.Laws.{ReceivedFreely, IsAccounted, AlignsUntil}
use Rattle.link_laws.specs.Local.{ReceivedUntil}
use Rattle.link_laws.proofs.Freely.{free_received}
use Rattle.link_laws.proofs.LocalLanes.{aligned_whatever_follows}
use Rattle.link_laws.proofs.Shapes.{alternating, parted}
use Rattle.link_laws.proofs.Tapped.{payload_accounted, tap_accounted}
use Rattle.link_sink.specs.Sinks.{Fed}
use Rattle.track_sink.specs.Epochs.{HasNoEnd}
use Rattle.track_laws.specs.Laws.{Received}
use Rattle.track_laws.proofs.Calm.{one_epoch}
use Rattle.track_laws.proofs.Ends.{payload_has_no_end}
use Rattle.relock_sink.specs.Relocks.{is_announced, IsUnconfirmed, IsLastEpoch}
use Rattle.relock_laws.proofs.Announced.{PairAt, pair_at, announced_at}

-- aligned columns that are received columns from one on
pub column_is : (received aligned : List Column) (a j : ℕ) (c : Column) → aligned ≡ take (length aligned) (drop a received) → slice_get aligned j ≡ Some c
    → (a + j < length received) × (column_at received (a + j) ≡ c)
column_is received aligned a j c columns here =
    let n = length aligned in
    let within = slice_get_within aligned j c here in
    let size = ap length columns in
    let long = length-take n (drop a received) in
    let rest = length-drop a received in
    let inside : a + j < length received = omega arith in
    let at : column_at aligned j ≡ c = get_or_from_slice_get aligned j c no_column here in
    let moved : column_at (take n (drop a received)) j ≡ column_at (drop a received) j = get_or-take n (drop a received) j no_column within in
    (inside, sym (get_or-drop a received j no_column) ∙ sym moved ∙ sym (ap (λ cs. column_at cs j) columns) ∙ at)

-- lanes whose aligned columns are received columns from the end of a control period on, the first after which was received as it
-- was sent, and the second but for one character, are not unconfirmed there
confirmed_by : (sent received : List Column) → length received ≡ length sent → (x : Fed) (d e f a : ℕ)
    → aligned_columns x.blue x.green x.red d e f ≡ take (length (aligned_columns x.blue x.green x.red d e f)) (drop a received)
    → (a + 12 < length sent → PairAt sent (a + 12)) → column_at received (a + 12) ≡ column_at sent (a + 12) → unlike_at sent received (a + 13) ≤ 1
    → IsUnconfirmed x d e f → ⊥
confirmed_by sent received long x d e f a columns pair same one u =
    let cs = aligned_columns x.blue x.green x.red d e f in
    let here = column_is received cs a 12 u.columns.here columns (columns_listed x.blue x.green x.red d e f 12 ∙ u.columns.is_here) in
    let next = column_is received cs a 13 u.columns.next columns (columns_listed x.blue x.green x.red d e f 13 ∙ u.columns.is_next) in
    let within = here.0 in
    let announced : is_announced (column_at received (a + 12)) (column_at received (a + 13)) ≡ true = announced_at sent received (a + 12) (a + 13) (omega arith) (pair (omega arith)) same one in
    true≢false (sym announced ∙ ap₂ is_announced here.1 next.1 ∙ u.columns.so)

pub confirmed_at : (ps : List Period) (sent received : List Column) → ReceivedFreely ps sent received → (x : Fed) (d e f a : ℕ)
    → IsAccounted ps sent received (aligned_columns x.blue x.green x.red d e f) a → column_at received (a + 12) ≡ column_at sent (a + 12)
    → IsUnconfirmed x d e f → ⊥
confirmed_at ps sent received reception x d e f a is same u =
    confirmed_by sent received reception.sparse.same_length x d e f a is.columns (λ lt. pair_at ps sent reception.conforming reception.spelled (a + 11) (a + 12) is.ends (omega arith) lt) same (reception.sparse.one_a_column (a + 13)) u

-- what follows a control period is no payload
pub guard_after : (ps : List Period) → IsConforming ps → (a : ℕ) → EndsAt (kinds_of ps) (a + 11) → IsPayload (kind_at (kinds_of ps) (a + 12)) → ⊥
guard_after ps conforms a ends payload =
    let e : a + 12 ≡ a + 11 + 1 = omega arith in
    parted (kinds_of ps) (alternating ps conforms) (a + 11) ends.here (subst (λ n. IsPayload (kind_at (kinds_of ps) n)) e payload)

-- where damage lies in pixels and packets alone
pub payload_confirmed : (ps : List Period) (sent received : List Column) → ReceivedFreely ps sent received → IsSparseInPayload ps sent received → (x : Fed) (d e f a : ℕ)
    → IsAccounted ps sent received (aligned_columns x.blue x.green x.red d e f) a → IsUnconfirmed x d e f → ⊥
payload_confirmed ps sent received reception alone x d e f a is u =
    confirmed_at ps sent received reception x d e f a is (alone.spares (a + 12) (a + 12) (omega arith) (guard_after ps reception.conforming a is.ends)) u

pub payload_is_last : (ps : List Period) (sent received : List Column) (offset : ℕ) (skews counts : List ℕ) (x : Fed) → Received ps sent received offset skews counts x
    → IsSparseInPayload ps sent received → HasSmallSkew skews → IsLastEpoch x
payload_is_last ps sent received offset skews counts x reception alone small =
    let free = free_received ps sent received reception.reception in
    record {
      no_stray = payload_has_no_end ps sent received offset skews counts x reception alone;
      confirmed = λ d e f u.
          let is = payload_accounted ps sent received free alone offset skews counts x.blue x.green x.red reception.tapped small d e f u.first in
          payload_confirmed ps sent received free alone x d e f is.0 is.1 u;
    }

-- the first alignment is one
unconfirmed_at : (x : Fed) (d e f p q r : ℕ) → IsFirst x.blue x.green x.red p q r → IsUnconfirmed x d e f → IsUnconfirmed x p q r
unconfirmed_at x d e f p q r first u =
    let same = one_first x.blue x.green x.red d e f p q r u.first first in
    subst (λ n. IsUnconfirmed x n q r) same.0 (subst (λ n. IsUnconfirmed x d n r) same.1 (subst (λ n. IsUnconfirmed x d e n) same.2 u))

pub until_is_last : (ps : List Period) (sent received : List Column) (offset : ℕ) (skews counts : List ℕ) (x : Fed) → Received ps sent received offset skews counts x
    → HasSmallSkew skews → (until : ℕ) → AlignsUntil ps sent received offset skews counts until → IsLastEpoch x
until_is_last ps sent received offset skews counts x reception small until aligns =
    let free = free_received ps sent received reception.reception in
    let t = tap_accounted ps sent received free offset skews counts x.blue x.green x.red reception.tapped small until aligns in
    let found = t.4 in
    let before = found.1 in
    let is = found.2 in
    record {
      no_stray = one_epoch ps sent received offset skews counts x reception;
      confirmed = λ d e f u.
          confirmed_at ps sent received free x t.0 t.1 t.2 found.0 is
          (aligns.spares (found.0 + 12) before (guard_after ps free.conforming found.0 is.ends))
          (unconfirmed_at x d e f t.0 t.1 t.2 t.3 u);
    }

-- Where any characters are received after a column.

-- the first columns of a list with others after them
spliced_at : (received sent : List Column) (n i : ℕ) → n ≤ length received → i < n → column_at (take n received ++ drop n sent) i ≡ column_at received i
spliced_at received sent n i within lt =
    let long = length-take-le n received within in
    get_or_append_left (take n received) (drop n sent) no_column i (omega arith) ∙ get_or-take n received i no_column lt

one_unlike : (ps : List Period) (sent received : List Column) (f : ℕ) → ReceivedUntil ps sent received f → f < length received → unlike_at sent received (f + 1) ≤ 1
    → (i : ℕ) → i ≤ f + 1 → unlike_at sent received i ≤ 1
one_unlike ps sent received f h within next i le = elim (cases_lt f i) [
  | inl past ↦ let e : f + 1 ≡ i = omega arith in subst (λ n. unlike_at sent received n ≤ 1) e next
  | inr before ↦
      subst (λ c. unlike_words (column_words (column_at sent i)) (column_words c) ≤ 1) (spliced_at received sent (f + 1) i (omega arith) (omega arith)) (h.sparse.one_a_column i)
]

pub local_is_last : (ps : List Period) (sent received : List Column) (offset : ℕ) (skews counts : List ℕ) (x : Fed) (until : ℕ) → ReceivedUntil ps sent received until
    → IsTap received offset skews counts x.blue x.green x.red → HasSmallSkew skews → AlignsUntil ps sent received offset skews counts until
    → unlike_at sent received (until + 1) ≤ 1 → HasNoEnd x → IsLastEpoch x
local_is_last ps sent received offset skews counts x until h tapped small aligns next none =
    let found = aligned_whatever_follows ps sent received until h offset skews counts x.blue x.green x.red tapped small aligns in
    let end = found.4 in
    let a = end.0 in
    let before = end.2 in
    let cs = take (until + 1) received ++ drop (until + 1) sent in
    let free : ReceivedFreely ps sent cs = record { conforming = h.conforming; spelled = h.spelled; sparse = h.sparse } in
    let reaches = aligns.holds.reaches 0 (omega arith) in
    let inside = tapped.blue_part.within in
    let size = length-map received (λ c. c.blue) in
    record {
      no_stray = none;
      confirmed = λ d e f u.
          confirmed_by sent received h.same_length x found.0 found.1 found.2 a end.4 (λ lt. pair_at ps sent free.conforming free.spelled (a + 11) (a + 12) end.1 (omega arith) lt)
          (aligns.spares (a + 12) before (guard_after ps h.conforming a end.1))
          (one_unlike ps sent received until h (omega arith) next (a + 13) (omega arith))
          (unconfirmed_at x d e f found.0 found.1 found.2 found.3 u);
    }
