-- A packet of which at most one word was received unlike, or few were and no fault is found, is taken as it was sent.
use Rattle.std.proofs.Common.{◌≡◌, ℕ, suc, zero, ◌+◌, ◌*◌, ◌<◌, ◌≤◌, Bool, true, ◌&&◌, ◌||◌, ◌⊎◌, nat_le, List, [], ◌∷◌, map, length, refl, ap, sym, ◌∙◌, subst, arith, inl, inr, length-drop, length-take-le}
use Rattle.std.specs.Prelude.{drop}
use Rattle.std.proofs.lemmas.Bool.{eqb-true, leb-true, le-leb, or_cases}
use Rattle.std.proofs.Math.Bool.{or-true}
use Rattle.std.proofs.lemmas.List.{length-map}
use Rattle.tmds_word.specs.Column.{Column, blues, greens, reds}
use Rattle.tmds_word.proofs.Below.{and-left, and-right}
use Rattle.bch_block.specs.declared.Verdict.{Verdict}
use Rattle.bch_block.specs.declared.Verdict.TheVariants.{Clean, Mended}
use Rattle.bch_block.proofs.Distances.{flipped-flipped}
use Rattle.bch_block.proofs.Verdicts.{one_wrong}
use Rattle.island_pack.specs.Nibbles.{nibbles_of, by_turns, sync_values, header_bits, body_bits, foreign_words}
use Rattle.island_pack.specs.Packets.{IsPacket, BeginsWith, body_of, CarriesFreely}
use Rattle.island_pack.specs.Spelling.{column_words}
use Rattle.island_pack.specs.Sparse.{unlike_words}
use Rattle.island_pack.specs.Taken.{IsTaken, verdict_on, spotless}
use Rattle.island_pack.specs.declared.packet.Packet.{Packet}
use Rattle.island_pack.specs.declared.packet.PacketVerdicts.{PacketVerdicts}
use Rattle.period_grammar.specs.Column.{sync_digit}
use Rattle.period_grammar.specs.Exact.{faultless}
use Rattle.period_grammar.specs.Island.{packet_faults}
use Rattle.island_pack.specs.Repaired.{packet_of, packet_in, verdict_of, verdicts_of, verdicts_in}
use Rattle.island_pack.proofs.Repaired.{packet_is, body_long, header_long}
use Rattle.link_laws.specs.Account.{damage, sync_row, are_few, is_as_sent, packet_row}
use Rattle.link_laws.specs.Laws.{wrong_bits}
use Rattle.link_laws.specs.Noticed.{OneIsAsSent, FewIsAsSent}
use Rattle.link_laws.proofs.FewWrong.{clean_block}
use Rattle.link_laws.proofs.Rows.{and_both}
use Rattle.link_laws.proofs.WrongBits.{header_wrong_on, body_wrong_on, header_wrong, body_wrong, IsFlipped, same_or_flipped}
use Rattle.link_laws.proofs.exact.Packets.{AreClean, faults_fine}

-- Blocks.

-- the verdict under which the bits are taken as the bytes
pub record IsMended (x : List Bool) (bytes : List ℕ) : Type 0 where
  pub verdict : Verdict
  pub taken : IsTaken x bytes verdict

pub sent_block : (s x : List Bool) (bytes : List ℕ) → x ≡ s → BeginsWith s bytes → IsMended x bytes
sent_block s x bytes e b = subst (λ y. IsMended y bytes) (sym e) (record { verdict = Clean; taken = record { found = b.block; begins = sym b.begins } })

flipped_block : (s x : List Bool) (bytes : List ℕ) → length bytes ≤ 7 → IsFlipped s x → BeginsWith s bytes → IsMended x bytes
flipped_block s x bytes few f b =
    subst (λ y. IsMended y bytes) (sym f.is)
    (record {
      verdict = Mended f.place;
      taken = grind (arith, one_wrong, flipped-flipped);
    })

-- a block with at most one wrong bit is taken as sent
mended_block : (s x : List Bool) (bytes : List ℕ) → length bytes ≤ 7 → length x ≡ length s → wrong_bits s x ≤ 1 → BeginsWith s bytes → IsMended x bytes
mended_block s x bytes few same wrong b = elim (same_or_flipped s x same wrong) [
  | inl e ↦ sent_block s x bytes e b
  | inr f ↦ flipped_block s x bytes few f b
]

-- Of one length.

pub length-header : (ss rs : List Column) → length rs ≡ length ss → length (header_bits (map column_words rs)) ≡ length (header_bits (map column_words ss))
unfolding header_bits nibbles_of
length-header [] [] e = refl
length-header [] (r ∷ rs) e = absurd (omega arith)
length-header (s ∷ ss) [] e = absurd (omega arith)
length-header (s ∷ ss) (r ∷ rs) e = ap suc (length-header ss rs (omega arith))

pub length-body : (b : ℕ) (ss rs : List Column) → length rs ≡ length ss → length (body_bits (map column_words rs) b) ≡ length (body_bits (map column_words ss) b)
unfolding body_bits nibbles_of by_turns
length-body b [] [] e = refl
length-body b [] (r ∷ rs) e = absurd (omega arith)
length-body b (s ∷ ss) [] e = absurd (omega arith)
length-body b (s ∷ ss) (r ∷ rs) e = ap (λ n. suc (suc n)) (length-body b ss rs (omega arith))

pub length-body_of : (p : Packet) (b : ℕ) → length p.bodies ≡ 28 → b < 4 → length (body_of p b) ≡ 7
length-body_of p b long lt = length-take-le 7 (drop (7 * b) p.bodies) (omega (arith, long, lt, length-drop (7 * b) p.bodies))

-- Sync values.

sync_of_sent : (ss rs : List Column) → length rs ≡ length ss → sync_row (sync_values (map column_words ss)) ss rs ≡ sync_values (map column_words rs)
unfolding sync_row sync_values nibbles_of sync_digit
sync_of_sent [] [] e = refl
sync_of_sent [] (r ∷ rs) e = absurd (omega arith)
sync_of_sent (s ∷ ss) [] e = absurd (omega arith)
sync_of_sent (s ∷ ss) (r ∷ rs) e = grind (arith, eqb-true, sync_of_sent ss rs)

pub sync_taken : (p : Packet) (first : Bool) (ss rs : List Column) → CarriesFreely p (map column_words ss) → length rs ≡ length ss → sync_row p.sync ss rs ≡ sync_values (map column_words rs)
sync_taken p first ss rs carries same = ap (λ vs. sync_row vs ss rs) (sym carries.sync) ∙ sync_of_sent ss rs same

-- Packets.

length-sync : (ws : List (List ℕ)) → length (sync_values ws) ≡ length ws
unfolding sync_values nibbles_of
length-sync [] = refl
length-sync (w ∷ ws) = ap suc (length-sync ws)

-- the verdicts on four bodies and a header
abbrev verdicts_by : List (List ℕ) → Verdict → Verdict → Verdict → Verdict → Verdict → PacketVerdicts
verdicts_by ws v0 v1 v2 v3 header = record { blocks = v0 ∷ (v1 ∷ (v2 ∷ (v3 ∷ (header ∷ [])))); symbols = foreign_words ws }

-- each body under its verdict
bodies_taken : (ws : List (List ℕ)) (p : Packet) (v0 v1 v2 v3 header : Verdict)
    → IsTaken (body_bits ws 0) (body_of p 0) v0 → IsTaken (body_bits ws 1) (body_of p 1) v1
    → IsTaken (body_bits ws 2) (body_of p 2) v2 → IsTaken (body_bits ws 3) (body_of p 3) v3
    → (b : ℕ) → b < 4 → IsTaken (body_bits ws b) (body_of p b) (verdict_on (verdicts_by ws v0 v1 v2 v3 header) b)
bodies_taken ws p v0 v1 v2 v3 header t0 t1 t2 t3 zero lt = t0
bodies_taken ws p v0 v1 v2 v3 header t0 t1 t2 t3 (suc zero) lt = t1
bodies_taken ws p v0 v1 v2 v3 header t0 t1 t2 t3 (suc (suc zero)) lt = t2
bodies_taken ws p v0 v1 v2 v3 header t0 t1 t2 t3 (suc (suc (suc zero))) lt = t3
bodies_taken ws p v0 v1 v2 v3 header t0 t1 t2 t3 (suc (suc (suc (suc b)))) lt = absurd (omega arith)

-- a packet whose blocks are taken as its bytes is the one that is computed
pub by_blocks : (p : Packet) (ws : List (List ℕ)) → IsPacket p → length ws ≡ 32
    → IsMended (body_bits ws 0) (body_of p 0) → IsMended (body_bits ws 1) (body_of p 1)
    → IsMended (body_bits ws 2) (body_of p 2) → IsMended (body_bits ws 3) (body_of p 3)
    → IsMended (header_bits ws) p.header
    → record { header = p.header; bodies = p.bodies; sync = sync_values ws } ≡ packet_in ws
by_blocks p ws whole long m0 m1 m2 m3 header =
    packet_is ws
    (record { header = p.header; bodies = p.bodies; sync = sync_values ws })
    (verdicts_by ws m0.verdict m1.verdict m2.verdict m3.verdict header.verdict)
    long
    (record {
      whole = grind (arith, length-sync);
      sync = refl;
      bodies = bodies_taken ws p m0.verdict m1.verdict m2.verdict m3.verdict header.verdict m0.taken m1.taken m2.taken m3.taken;
      header = header.taken;
      blocks = refl;
      symbols = refl;
    })

-- where at most one word is unlike
as_sent : (p : Packet) (first : Bool) (ss rs : List Column) → CarriesFreely p (map column_words ss) → length rs ≡ 32 → length rs ≡ length ss → damage ss rs ≤ 1
    → record { header = p.header; bodies = p.bodies; sync = sync_values (map column_words rs) } ≡ packet_of rs
as_sent p first ss rs carries long same few =
    let ws = map column_words rs in
    let header : IsMended (header_bits ws) p.header =
    mended_block (header_bits (map column_words ss)) (header_bits ws) p.header (omega (arith, carries.whole.header)) (length-header ss rs same)
    (omega (arith, header_wrong ss rs, few)) carries.header in
    let body : (b : ℕ) → b < 4 → IsMended (body_bits ws b) (body_of p b) =
    λ b lt. mended_block (body_bits (map column_words ss) b) (body_bits ws b) (body_of p b) (omega (arith, length-body_of p b carries.whole.bodies lt)) (length-body b ss rs same)
    (omega (arith, body_wrong b ss rs, few)) (carries.bodies b lt) in
    by_blocks p ws carries.whole (length-map rs column_words ∙ long) (body 0 (omega arith)) (body 1 (omega arith)) (body 2 (omega arith)) (body 3 (omega arith)) header

-- where few are, and no fault is found
pub few_as_sent : (p : Packet) (first : Bool) (ss rs : List Column) → CarriesFreely p (map column_words ss) → length rs ≡ 32 → length rs ≡ length ss
    → unlike_words (blues ss) (blues rs) ≤ 3 → unlike_words (greens ss) (greens rs) + unlike_words (reds ss) (reds rs) ≤ 3 → AreClean (map column_words rs)
    → record { header = p.header; bodies = p.bodies; sync = sync_values (map column_words rs) } ≡ packet_of rs
few_as_sent p first ss rs carries long same header_few body_few c =
    let ws = map column_words rs in
    let all : length ws ≡ 32 = length-map rs column_words ∙ long in
    let hl = header_long ws all in
    let hw = header_wrong_on ss rs in
    let header : IsMended (header_bits ws) p.header =
    sent_block (header_bits (map column_words ss)) (header_bits ws) p.header
    (clean_block (header_bits (map column_words ss)) (header_bits ws) (omega arith) (omega arith) (length-header ss rs same) (omega arith) carries.header.block c.header) carries.header in
    let body : (b : ℕ) → b < 4 → verdict_of (body_bits ws b) ≡ Clean → IsMended (body_bits ws b) (body_of p b) = λ b lt v.
    let bl = body_long ws b all in
    let bw = body_wrong_on b ss rs in
    sent_block (body_bits (map column_words ss) b) (body_bits ws b) (body_of p b)
    (clean_block (body_bits (map column_words ss) b) (body_bits ws b) (omega arith) (omega arith) (length-body b ss rs same) (omega arith) (carries.bodies b lt).block v) (carries.bodies b lt) in
    by_blocks p ws carries.whole all (body 0 (omega arith) c.body_0) (body 1 (omega arith) c.body_1) (body 2 (omega arith) c.body_2) (body 3 (omega arith) c.body_3) header

-- which of the two it is
pub record HasFew (ss rs : List Column) : Type 0 where
  pub blue : unlike_words (blues ss) (blues rs) ≤ 3
  pub others : unlike_words (greens ss) (greens rs) + unlike_words (reds ss) (reds rs) ≤ 3
  pub clean : AreClean (map column_words rs)

pub one_or_few : (ss rs : List Column) → is_as_sent ss rs ≡ true → (damage ss rs ≤ 1) ⊎ HasFew ss rs
unfolding is_as_sent are_few
one_or_few ss rs h = elim (or_cases (nat_le (damage ss rs) 1) _ h) [
  | inl one ↦ inl (leb-true _ _ one)
  | inr both ↦
      let few = and-left _ _ both in
      inr (record {
        blue = leb-true _ _ (and-left _ _ few);
        others = leb-true _ _ (and-right (nat_le (unlike_words (blues ss) (blues rs)) 3) _ few);
        clean = faults_fine 0 (map column_words rs) (and-right (are_few ss rs) _ both);
      })
]

pub one_is_as_sent : OneIsAsSent
unfolding is_as_sent
one_is_as_sent ss rs few = ap (λ q. q || (are_few ss rs && faultless (packet_faults 0 (verdicts_of rs)))) (le-leb (damage ss rs) 1 few)

-- clean blocks have no fault
pub clean_verdicts : (ws : List (List ℕ)) → AreClean ws → verdicts_in ws ≡ spotless
unfolding verdicts_in
clean_verdicts ws c = rw c.body_0 (rw c.body_1 (rw c.body_2 (rw c.body_3 (rw c.header (rw c.terc refl)))))

pub few_is_as_sent : FewIsAsSent
unfolding is_as_sent are_few
few_is_as_sent ss rs blue others column none =
    let v = clean_verdicts (map column_words rs) (faults_fine column (map column_words rs) (ap faultless none)) in
    ap (λ q. nat_le (damage ss rs) 1 || q)
    (and_both (are_few ss rs) (faultless (packet_faults 0 (verdicts_of rs)))
    (and_both (nat_le (unlike_words (blues ss) (blues rs)) 3) (nat_le (unlike_words (greens ss) (greens rs) + unlike_words (reds ss) (reds rs)) 3) (le-leb _ 3 blue) (le-leb _ 3 others))
    (ap (λ w. faultless (packet_faults 0 w)) v))
    ∙ or-true (nat_le (damage ss rs) 1)

sent_taken : (p : Packet) (first : Bool) (ss rs : List Column) → CarriesFreely p (map column_words ss) → length rs ≡ 32 → length rs ≡ length ss → is_as_sent ss rs ≡ true
    → record { header = p.header; bodies = p.bodies; sync = sync_values (map column_words rs) } ≡ packet_of rs
sent_taken p first ss rs carries long same h = elim (one_or_few ss rs h) [
  | inl one ↦ as_sent p first ss rs carries long same one
  | inr few ↦ few_as_sent p first ss rs carries long same few.blue few.others few.clean
]

-- what is taken of the columns received of a packet is the packet of the account
pub packet_row_taken : (p : Packet) (first : Bool) (ss rs : List Column) → CarriesFreely p (map column_words ss) → length rs ≡ 32 → packet_of rs ≡ packet_row p ss rs
unfolding packet_row packet_in
packet_row_taken p first ss rs carries long = grind (arith, length-map, sent_taken, sync_taken)
