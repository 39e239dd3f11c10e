-- What is relayed of an account.
use Rattle.std.proofs.Common.{◌≡◌, ◌⊎◌, inl, inr, ℕ, zero, suc, ◌+◌, ◌-◌, ◌*◌, ◌/◌, ◌<◌, ◌≤◌, Bool, true, false, cond, List, [], ◌∷◌, ◌++◌, length, map, take, drop, refl, ap, ap₂, sym, ◌∙◌, arith}
use Rattle.std.specs.Prelude.{Option, Some, None, nat_lt, nat_le}
use Rattle.std.specs.List.{list_all}
use Rattle.std.proofs.lemmas.Bool.{cases_lt, and_parts, and_from, lt-ltb, le-ltb, le-leb, lt-leb, leb-true}
use Rattle.std.proofs.lemmas.List.{append_assoc, append-nil, length-take-le, length-drop, drop-drop, take_all}
use Rattle.tmds_word.specs.Column.{Column}
use Rattle.island_pack.specs.Periods.{ControlRun, SyncPair, DataIsland, Period, control, video, island, pixels_of, period_columns, columns_of}
use Rattle.island_pack.specs.Conforming.{is_run, is_video_period, is_data_island, conforms}
use Rattle.island_pack.specs.Repaired.{verdicts_of}
use Rattle.island_pack.specs.declared.packet.Packet.{Packet}
use Rattle.period_grammar.specs.Events.{Event, run, line, cut, event_of}
use Rattle.period_grammar.specs.Cut.{Run, columns as same_columns, value, in_front, before_runs, runs}
use Rattle.period_grammar.specs.Island.{packet_faults}
use Rattle.period_grammar.specs.Heard.{words, codes_of}
use Rattle.link_laws.specs.Account.{runs_row, control_row, open_video_row, open_island_row, close_island_row, pixel_bytes, video_row, video_reported, packet_row, packet_reported, packets_reported, island_reported, period_row, account_from, account_at, account}
use Rattle.relay.proofs.Below.{Facts}
use Rattle.relay.specs.Relayed.{Said, columns, pixels, opens, carries, closes, ends, without_faults, Judged, Begun, RelayedPart, some_columns, some_line, some_island, where_so, closed, kept_from, kept, conformed, relayed}
use Rattle.relay.specs.Laws.{begun_after}
use Rattle.relay.specs.Received.{runs_kept, packets_received, digits_of, island_received, period_received, received_from, received_at, reception, RelayedAccount}
use Rattle.relay.proofs.Gaining.{faults_both, kept_both}
use Rattle.relay.proofs.FaultsAlone.{AreFaults, are_faults_both, are_faults_before, are_faults_preamble, are_faults_guards, are_faults_packet, are_faults_codes, are_faults_words}
use Rattle.relay.proofs.Fitting.{line_fits, island_fits, few_packets, as_many_packets}

-- what is kept of events after an island that goes on or none, and the island that goes on after them
abbrev pub keeps : Option Begun → List Event → List RelayedPart
keeps b ts = kept_from b (without_faults ts)

abbrev after : Option Begun → List Event → Option Begun
after b ts = begun_after b (without_faults ts)

keeps_both : (b : Option Begun) (ts us : List Event) → keeps b (ts ++ us) ≡ keeps b ts ++ keeps (after b ts) us
keeps_both b ts us = ap (kept_from b) (faults_both ts us) ∙ kept_both b (without_faults ts) (without_faults us)

-- Control periods.

abbrev AreRuns : List Run → Type 0
AreRuns [] = Unit {0}
AreRuns (same_columns v cs ∷ rs) = (is_run (record { value = v; count = length cs }) ≡ true) × AreRuns rs

one_run : (v n : ℕ) → v < 64 → 1 ≤ n → is_run (record { value = v; count = n }) ≡ true
one_run v n h k = and_from (nat_lt v 64) _ (lt-ltb v 64 h) (le-leb 1 n k)

front_runs : (q : Bool) (c : Column) (r : Run) (rs : List Run) → Facts → AreRuns (r ∷ rs) → AreRuns (in_front q c r rs)
front_runs q c r rs h k = grind (arith, and_from, and_parts, le-leb, one_run)

before_sound : (c : Column) (rs : List Run) → Facts → AreRuns rs → AreRuns (before_runs c rs)
before_sound c rs h k = grind (arith, one_run, front_runs)

are_runs : Facts → (cs : List Column) → AreRuns (runs cs)
unfolding runs
are_runs f [] = tt
are_runs f (c ∷ cs) = before_sound c (runs cs) f (are_runs f cs)

abbrev said_runs : List Run → List Said
said_runs [] = []
said_runs (same_columns v cs ∷ rs) = columns (record { value = v; count = length cs }) ∷ said_runs rs

runs_said : (j : ℕ) (rs : List Run) → without_faults (runs_row j rs) ≡ said_runs rs
unfolding runs_row without_faults
runs_said j [] = refl
runs_said j (same_columns v cs ∷ rs) =
    are_faults_before (map event_of (words j cs)) (run v (length cs) ∷ runs_row (j + length cs) rs) (are_faults_words j cs)
    ∙ ap (λ xs. columns (record { value = v; count = length cs }) ∷ xs) (runs_said (j + length cs) rs)

runs_keep : (b : Option Begun) (rs : List Run) → AreRuns rs → kept_from b (said_runs rs) ≡ runs_kept rs
unfolding kept_from runs_kept
runs_keep b [] h = refl
runs_keep b (same_columns v cs ∷ rs) h =
    let r : ControlRun = record { value = v; count = length cs } in
    ap (λ p. where_so p (some_columns r) ++ kept_from None (said_runs rs)) h.0
    ∙ ap (λ ks. some_columns r ∷ ks) (runs_keep None rs h.1)

runs_end : (rs : List Run) → begun_after None (said_runs rs) ≡ None
runs_end [] = refl
runs_end (same_columns v cs ∷ rs) = runs_end rs

control_keeps : Facts → (j : ℕ) (cs : List Column) → keeps None (control_row j cs) ≡ runs_kept (runs cs)
control_keeps f j cs = ap (kept_from None) (runs_said j (runs cs)) ∙ runs_keep None (runs cs) (are_runs f cs)

control_ends : (j : ℕ) (cs : List Column) → after None (control_row j cs) ≡ None
control_ends j cs = ap (begun_after None) (runs_said j (runs cs)) ∙ runs_end (runs cs)

-- Lines.

pub are_faults_video : (b : ℕ) (before rs : List Column) → AreFaults (open_video_row b before rs)
unfolding open_video_row without_faults
are_faults_video b before rs = grind (arith, are_faults_both, are_faults_preamble, are_faults_guards)

-- what is said of a line that was received whole or not
abbrev line_said : Bool → List ℕ → List Said
line_said true bytes = pixels bytes ∷ []
line_said false bytes = ends ∷ []

pub reported_line : (q : Bool) (b s : ℕ) (bytes : List ℕ) (rs : List Column) → without_faults (cond q (line bytes ∷ codes_of s rs) (cut b ∷ [])) ≡ line_said q bytes
unfolding without_faults
reported_line q b s bytes rs = grind (arith, are_faults_codes)

line_keeps : (q : Bool) (bytes : List ℕ) → is_video_period bytes ≡ true → kept_from None (line_said q bytes) ≡ cond q (some_line bytes ∷ []) []
unfolding kept_from
line_keeps q bytes h = grind arith

line_ends : (q : Bool) (bytes : List ℕ) → begun_after None (line_said q bytes) ≡ None
line_ends q bytes = grind arith

same_lt : (a b i : ℕ) → a ≡ b → nat_lt a i ≡ nat_lt (2 + b) (suc (suc i))
same_lt a b i e = grind (arith, cases_lt, lt-ltb, le-ltb)

pub pixel_count : (bytes : List ℕ) → length (pixels_of bytes) ≡ length bytes / 3
unfolding pixels_of
pixel_count [] = refl
pixel_count (r ∷ []) = refl
pixel_count (r ∷ (g ∷ [])) = refl
pixel_count (r ∷ (g ∷ (b ∷ rest))) = let n = pixel_count rest in omega arith

video_said : (b i : ℕ) (before : List Column) (bytes : List ℕ) (ss rs : List Column)
    → without_faults (video_reported b (suc (suc i)) before (pixels_of bytes) ss rs) ≡ line_said (nat_lt (2 + length bytes / 3) (suc (suc i))) (pixel_bytes (pixels_of bytes) (drop 2 ss) (drop 2 rs))
unfolding video_reported video_row
video_said b i before bytes ss rs = grind (arith, are_faults_before, are_faults_video, reported_line, same_lt, pixel_count)

-- What is kept of a period's row, and that no island goes on after it or nothing was received of the next period.

record IsRow (m : ℕ) (p : Period) (ss rs : List Column) (row : List Event) : Type 0 where
  keeps_it : keeps None row ≡ period_received m p ss rs
  over : (after None row ≡ None) ⊎ (m ≤ period_columns p)

video_whole : (m : ℕ) (bytes : List ℕ) (ss rs : List Column) (q : Bool) → nat_lt (period_columns (video bytes)) m ≡ q
    → cond q (some_line (pixel_bytes (pixels_of bytes) (drop 2 ss) (drop 2 rs)) ∷ []) [] ≡ period_received m (video bytes) ss rs
unfolding period_received
video_whole m bytes ss rs q e = ap (λ p. cond p (some_line (pixel_bytes (pixels_of bytes) (drop 2 ss) (drop 2 rs)) ∷ []) []) (sym e)

video_is_row : Facts → (j m : ℕ) (before : List Column) (bytes : List ℕ) (ss rs : List Column) → is_video_period bytes ≡ true
    → length ss ≡ 2 + length bytes / 3 → length rs ≡ 2 + length bytes / 3 → IsRow m (video bytes) ss rs (period_row j m before (video bytes) ss rs)
unfolding period_row video_reported without_faults kept_from period_columns
video_is_row f j zero before bytes ss rs h a b = record { keeps_it = video_whole zero bytes ss rs false (le-ltb _ 0 (omega arith)); over = inl refl }
video_is_row f j (suc zero) before bytes ss rs h a b = record { keeps_it = video_whole 1 bytes ss rs false (le-ltb _ 1 (omega arith)); over = inl refl }
video_is_row f j (suc (suc i)) before bytes ss rs h a b = grind (arith, length-drop, line_fits, video_said, line_keeps, video_whole, line_ends)

-- Islands.

pub open_said : (b : ℕ) (before rs : List Column) → 2 ≤ length rs → without_faults (open_island_row b before rs) ≡ opens (digits_of rs) ∷ []
unfolding open_island_row without_faults digits_of
open_said b before rs h = grind (arith, are_faults_before, are_faults_preamble, are_faults_guards)

pub close_said : (s : ℕ) (rs : List Column) → 2 ≤ length rs → without_faults (close_island_row s rs) ≡ closes (digits_of rs) ∷ []
unfolding close_island_row without_faults digits_of
close_said s rs h = grind (arith, are_faults_guards)

abbrev pub judged : Packet → List Column → List Column → Judged
judged p ss rs = record { packet = packet_row p (take 32 ss) (take 32 rs); verdicts = verdicts_of (take 32 rs) }

pub packet_said : (s : ℕ) (p : Packet) (ss rs : List Column) (ts : List Event)
    → without_faults (packet_reported s p (take 32 ss) (take 32 rs) ++ ts) ≡ carries (packet_row p (take 32 ss) (take 32 rs)) (verdicts_of (take 32 rs)) ∷ without_faults ts
unfolding packet_reported without_faults
packet_said s p ss rs ts =
    let v = verdicts_of (take 32 rs) in
    ap (λ xs. carries (packet_row p (take 32 ss) (take 32 rs)) v ∷ xs) (are_faults_before (packet_faults s v) ts (are_faults_packet s v))

abbrev pub with_all : Begun → List Judged → Begun
with_all b js = record { opening = b.opening; packets = b.packets ++ js }

pub nothing_more : (b : Begun) → b ≡ with_all b []
nothing_more b = ap (λ (js : List Judged). record { opening = b.opening; packets = js }) (sym (append-nil b.packets))

pub closing_keeps : (b : Begun) (pair : SyncPair) → kept_from (Some b) (closes pair ∷ []) ≡ closed pair (Some b)
unfolding kept_from
closing_keeps b pair = append-nil (closed pair (Some b))

pub carrying_keeps : (b : Begun) (p : Packet) (ss rs : List Column) (ts : List Event)
    → kept_from (Some b) (carries (packet_row p (take 32 ss) (take 32 rs)) (verdicts_of (take 32 rs)) ∷ without_faults ts) ≡ keeps (Some (record { opening = b.opening; packets = b.packets ++ judged p ss rs ∷ [] })) ts
unfolding kept_from
carrying_keeps b p ss rs ts = refl

packets_whole : (s : ℕ) (ps : List Packet) (i : ℕ) (ss rs : List Column) (b : Begun) → 32 * length ps + 2 ≤ length rs → 32 * length ps + 2 ≤ i
    → (keeps (Some b) (packets_reported cut s ps i ss rs) ≡ closed (digits_of (drop (32 * length ps) rs)) (Some (with_all b (packets_received ps ss rs))))
    × (after (Some b) (packets_reported cut s ps i ss rs) ≡ None)
unfolding packets_reported packets_received
packets_whole s [] i ss rs b long all = grind (arith, le-leb, close_said, closing_keeps, nothing_more)
packets_whole s (p ∷ ps) i ss rs b long all =
    let rest = packets_reported cut (s + 32) ps (i - 32) (drop 32 ss) (drop 32 rs) in
    let j = judged p ss rs in
    let b2 : Begun = record { opening = b.opening; packets = b.packets ++ j ∷ [] } in
    let d = length-drop 32 rs in
    let e = ap (λ q. without_faults (cond q (cut s ∷ []) (packet_reported s p (take 32 ss) (take 32 rs) ++ rest))) (le-ltb i 32 (omega arith)) ∙ packet_said s p ss rs rest in
    let ih = packets_whole (s + 32) ps (i - 32) (drop 32 ss) (drop 32 rs) b2 (omega arith) (omega arith) in
    let n : 32 + 32 * length ps ≡ 32 * length (p ∷ ps) = omega arith in
    let pair = ap digits_of (drop-drop (32 * length ps) 32 rs ∙ ap (λ k. drop k rs) n) in
    let all_packets = append_assoc b.packets (j ∷ []) (packets_received ps (drop 32 ss) (drop 32 rs)) in (
      ap (kept_from (Some b)) e ∙ carrying_keeps b p ss rs rest ∙ ih.0
          ∙ ap₂ (λ (c : SyncPair) (js : List Judged). closed c (Some (record { opening = b.opening; packets = js }))) pair all_packets,
      ap (begun_after (Some b)) e ∙ ih.1,
    )

packets_part : (s : ℕ) (ps : List Packet) (i : ℕ) (ss rs : List Column) (b : Begun) → i < 32 * length ps + 2 → keeps (Some b) (packets_reported cut s ps i ss rs) ≡ []
unfolding packets_reported without_faults kept_from
packets_part s [] i ss rs b part = ap (λ q. keeps (Some b) (cond q (close_island_row s rs) (cut s ∷ []))) (lt-leb 2 i (omega arith))
packets_part s (p ∷ ps) i ss rs b part = elim (cases_lt i 32) [
  | inl lt ↦ ap (λ q. keeps (Some b) (cond q (cut s ∷ []) (packet_reported s p (take 32 ss) (take 32 rs) ++ packets_reported cut (s + 32) ps (i - 32) (drop 32 ss) (drop 32 rs)))) (lt-ltb i 32 lt)
  | inr le ↦
      let rest = packets_reported cut (s + 32) ps (i - 32) (drop 32 ss) (drop 32 rs) in
      ap (λ q. keeps (Some b) (cond q (cut s ∷ []) (packet_reported s p (take 32 ss) (take 32 rs) ++ rest))) (le-ltb i 32 le)
      ∙ ap (kept_from (Some b)) (packet_said s p ss rs rest)
      ∙ packets_part (s + 32) ps (i - 32) (drop 32 ss) (drop 32 rs) (record { opening = b.opening; packets = b.packets ++ judged p ss rs ∷ [] }) (omega arith)
]

first_packets : (js : List Judged) → length js ≤ 18 → take 18 js ≡ js
first_packets js h = take_all 18 js h

pub closed_whole : Facts → (x : DataIsland) (ss rs : List Column) → is_data_island x ≡ true → length ss ≡ 4 + 32 * length x.packets → length rs ≡ 4 + 32 * length x.packets
    → closed (digits_of (drop (32 * length x.packets) (drop 2 rs))) (Some (record { opening = digits_of rs; packets = packets_received x.packets (drop 2 ss) (drop 2 rs) })) ≡ some_island (island_received x ss rs) ∷ []
unfolding island_received
closed_whole f x ss rs h a b =
    let js = packets_received x.packets (drop 2 ss) (drop 2 rs) in
    let n = as_many_packets x.packets (drop 2 ss) (drop 2 rs) in
    let few = leb-true (length x.packets) 18 (few_packets x h) in
    grind (arith, first_packets, island_fits)

-- the row of an island of which two columns were received, or more
island_opens : (j i : ℕ) (before : List Column) (x : DataIsland) (ss rs : List Column) → 2 ≤ length rs
    → without_faults (island_reported j (suc (suc i)) before x ss rs) ≡ opens (digits_of rs) ∷ without_faults (packets_reported cut (j + 2) x.packets i (drop 2 ss) (drop 2 rs))
unfolding island_reported
island_opens j i before x ss rs long =
    let rest = packets_reported cut (j + 2) x.packets i (drop 2 ss) (drop 2 rs) in
    faults_both (open_island_row j before rs) rest ∙ ap (λ xs. xs ++ without_faults rest) (open_said j before rs long)

opening_keeps : (pair : SyncPair) (ts : List Event) → kept_from None (opens pair ∷ without_faults ts) ≡ keeps (Some (record { opening = pair; packets = [] })) ts
unfolding kept_from
opening_keeps pair ts = refl

island_by : (m : ℕ) (x : DataIsland) (ss rs : List Column) (q : Bool) → nat_le (period_columns (island x)) m ≡ q → period_received m (island x) ss rs ≡ cond q (some_island (island_received x ss rs) ∷ []) []
unfolding period_received
island_by m x ss rs q e = ap (λ p. cond p (some_island (island_received x ss rs) ∷ []) []) e

island_row_by : Facts → (j i : ℕ) (before : List Column) (x : DataIsland) (ss rs : List Column) → is_data_island x ≡ true
    → length ss ≡ 4 + 32 * length x.packets → length rs ≡ 4 + 32 * length x.packets → IsRow (suc (suc i)) (island x) ss rs (island_reported j (suc (suc i)) before x ss rs)
unfolding period_columns
island_row_by f j i before x ss rs h a b =
    let n = 32 * length x.packets in
    let rest = packets_reported cut (j + 2) x.packets i (drop 2 ss) (drop 2 rs) in
    let e = island_opens j i before x ss rs (omega arith) in
    let d = length-drop 2 rs in
    let start : Begun = record { opening = digits_of rs; packets = [] } in
    elim (cases_lt i (n + 2)) [
      | inl part ↦ grind (arith, opening_keeps, packets_part, island_by, lt-leb)
      | inr all ↦
          let w = packets_whole (j + 2) x.packets i (drop 2 ss) (drop 2 rs) start (omega arith) all in
          record {
            keeps_it = grind (arith, opening_keeps, closed_whole, island_by, le-leb);
            over = inl (ap (begun_after None) e ∙ w.1);
          }
    ]

island_is_row : Facts → (j m : ℕ) (before : List Column) (x : DataIsland) (ss rs : List Column) → is_data_island x ≡ true
    → length ss ≡ 4 + 32 * length x.packets → length rs ≡ 4 + 32 * length x.packets → IsRow m (island x) ss rs (island_reported j m before x ss rs)
unfolding island_reported without_faults kept_from period_columns
island_is_row f j zero before x ss rs h a b = record { keeps_it = sym (island_by zero x ss rs false (lt-leb _ 0 (omega arith))); over = inl refl }
island_is_row f j (suc zero) before x ss rs h a b = record { keeps_it = sym (island_by 1 x ss rs false (lt-leb _ 1 (omega arith))); over = inl refl }
island_is_row f j (suc (suc i)) before x ss rs h a b = island_row_by f j i before x ss rs h a b

-- All periods.

abbrev fits : Period → Bool
fits (control runs) = true
fits (video bytes) = is_video_period bytes
fits (island x) = is_data_island x

is_row : Facts → (j m : ℕ) (before : List Column) (p : Period) (ss rs : List Column) → fits p ≡ true → length ss ≡ period_columns p → length rs ≡ period_columns p
    → IsRow m p ss rs (period_row j m before p ss rs)
unfolding period_row period_received period_columns
is_row f j m before (control sent) ss rs h a b = record { keeps_it = control_keeps f j (take m rs); over = inl (control_ends j (take m rs)) }
is_row f j m before (video bytes) ss rs h a b = video_is_row f j m before bytes ss rs h a b
is_row f j m before (island x) ss rs h a b = island_is_row f j m before x ss rs h a b

no_row : (j : ℕ) (before : List Column) (p : Period) (ss rs : List Column) → period_row j 0 before p ss rs ≡ []
unfolding period_row runs_row runs video_reported island_reported
no_row j before p ss rs = grind arith

none_reported : (ps : List Period) (j m : ℕ) (before ss rs : List Column) → m ≡ 0 → account_from j m before ps ss rs ≡ []
unfolding account_from
none_reported [] j m before ss rs e = refl
none_reported (p ∷ ps) j m before ss rs e = grind (arith, no_row, none_reported ps)

no_received : (p : Period) (ss rs : List Column) → period_received 0 p ss rs ≡ []
unfolding period_received runs_kept runs period_columns
no_received p ss rs = grind (arith, le-ltb, lt-leb)

none_received : (ps : List Period) (m : ℕ) (ss rs : List Column) → m ≡ 0 → received_from m ps ss rs ≡ []
unfolding received_from
none_received [] m ss rs e = refl
none_received (p ∷ ps) m ss rs e = grind (arith, no_received, none_received ps)

keeps_none : (b : Option Begun) → keeps b [] ≡ []
unfolding without_faults kept_from
keeps_none b = refl

account_keeps : Facts → (ps : List Period) (j m : ℕ) (before ss rs : List Column) → list_all fits ps ≡ true → length ss ≡ columns_of ps → length rs ≡ columns_of ps
    → keeps None (account_from j m before ps ss rs) ≡ received_from m ps ss rs
unfolding account_from received_from columns_of
account_keeps f [] j m before ss rs h a b = keeps_none None
account_keeps f (p ∷ ps) j m before ss rs h a b = grind (arith, and_parts, length-drop, is_row, length-take-le, keeps_both, none_reported, keeps_none, none_received, account_keeps f ps)

conforming_fits : (ps : List Period) → conforms ps ≡ true → list_all fits ps ≡ true
unfolding conforms
conforming_fits [] h = refl
conforming_fits (video bytes ∷ ps) h = absurd cc
conforming_fits (island x ∷ ps) h = absurd cc
conforming_fits (control runs ∷ []) h = refl
conforming_fits (control runs ∷ (control more ∷ ps)) h = absurd cc
conforming_fits (control runs ∷ (video bytes ∷ ps)) h = grind (arith, and_parts, and_from, conforming_fits ps)
conforming_fits (control runs ∷ (island x ∷ ps)) h = grind (arith, and_parts, and_from, conforming_fits ps)

at_keeps : Facts → (p : Period) (a m : ℕ) (ps : List Period) (ss rs : List Column) → list_all fits ps ≡ true → length ss ≡ columns_of (p ∷ ps) → length rs ≡ columns_of (p ∷ ps)
    → keeps None (account_at p a m ps ss rs) ≡ received_at p a m ps ss rs
unfolding account_at received_at columns_of
at_keeps f p a m ps ss rs h e d = grind (arith, length-drop, keeps_both, control_keeps, control_ends, account_keeps)

cond_same : {A B : Type 0} (g : A → B) (q : Bool) (x y : A) (u v : B) → g x ≡ u → g y ≡ v → g (cond q x y) ≡ cond q u v
cond_same g q x y u v h k = grind arith

all_keeps : Facts → (ps : List Period) (ss rs : List Column) (a m : ℕ) → list_all fits ps ≡ true → length ss ≡ columns_of ps → length rs ≡ columns_of ps
    → keeps None (account ps ss rs a m) ≡ reception ps ss rs a m
unfolding account reception columns_of
all_keeps f [] ss rs a m h e d = keeps_none None
all_keeps f (p ∷ ps) ss rs a m h e d = grind (arith, and_parts, length-drop, cond_same, at_keeps, all_keeps f ps)

pub relayed_account : Facts → RelayedAccount
unfolding relayed kept
relayed_account f ps sent received h a b at m = ap conformed (all_keeps f ps sent received at m (conforming_fits ps h) a b)
