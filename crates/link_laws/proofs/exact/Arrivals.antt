-- Columns that spell periods, whatever bit 3 of lane 0 is, arrive as themselves; and of what is reported of them
-- nothing is a fault.
use Rattle.std.proofs.Common.{◌≡◌, ℕ, suc, ◌+◌, ◌-◌, ◌<◌, ◌≤◌, Bool, true, false, cond, not, List, [], ◌∷◌, ◌++◌, length, map, take, drop, get_or, slice_index, refl, ap, ap₂, sym, ◌∙◌, subst, arith, append_assoc}
use Rattle.std.specs.Prelude.{nat_lt, Option, Some, None, ℤ, pos, ◌+ℤ◌, count_by}
use Rattle.std.specs.List.{list_all}
use Rattle.std.proofs.Math.IntN.{+ℤ_assoc, +ℤ_idl, +ℤ_idr}
use Rattle.std.proofs.lemmas.Bool.{eq-eqb, ltb-true, lt-ltb}
use Rattle.std.proofs.lemmas.List.{take_at, drop_at, take_all, length-map}
use Rattle.std.proofs.lemmas.List.Elements.{All-tail}
use Rattle.std.proofs.lemmas.List.Sums.{sum_by-cons}
use Rattle.std.proofs.Math.Seq.{take-append_seam}
use Rattle.tmds_word.specs.Bits.{word_bits, balance}
use Rattle.tmds_word.specs.Column.{Column, blues, greens, reds}
use Rattle.tmds_word.proofs.Below.{and-left, and-right, passes_below, passes_at}
use Rattle.tmds_code.specs.Coding.{Coded, coded_word, sign_of, decoded_byte}
use Rattle.tmds_code.specs.Lanes.{disparity_of, IsLane}
use Rattle.tmds_code.proofs.TableWords.{decoded_coded}
use Rattle.terc4.specs.Tables.{terc_words, video_guard, island_guard, value_in, is_terc}
use Rattle.terc4.specs.Columns.{one_if, is_video_guard, is_island_guard, is_twelve_or_more}
use Rattle.bch_block.specs.declared.Verdict.TheVariants.{Clean}
use Rattle.island_pack.specs.Nibbles.{body_bits, is_foreign, foreign_on, foreign_words}
use Rattle.island_pack.specs.Packets.{AreTerc, BeginsWith, body_of, CarriesFreely}
use Rattle.island_pack.specs.Taken.{IsTaken, verdict_on, Taken, spotless}
use Rattle.island_pack.specs.Periods.{ControlRun, Pixel, DataIsland, Period, control, video, island, values_of, pixels_of, period_columns, has_preamble as announces, ISLAND_PREAMBLE}
use Rattle.island_pack.specs.Conforming.{are_bytes}
use Rattle.island_pack.specs.Spelling.{control_column, guard_column, guard_columns, column_words, SpellsPixels, freely, SpellsPacketsBy, SpellsPeriodBy, SpellsBy}
use Rattle.island_pack.specs.Sparse.{unlike_words}
use Rattle.island_pack.specs.declared.packet.Packet.{Packet}
use Rattle.period_grammar.specs.Coding.{is_coded, first_from, first_uncoded}
use Rattle.island_pack.specs.Repaired.{verdicts_of}
use Rattle.period_grammar.specs.Events.{Event, cut}
use Rattle.period_grammar.specs.Cut.{runs, stretches}
use Rattle.period_grammar.specs.Island.{packet_faults, wrong_guards}
use Rattle.period_grammar.specs.Heard.{code_fault, codes_of, heard, heard_so_far}
use Rattle.island_pack.proofs.Repaired.{verdicts_are}
use Rattle.link_laws.specs.Account.{control_row, open_video_row, open_island_row, close_island_row, video_row, video_reported, packet_reported, packets_reported, island_reported, period_row, account_from, account_at, account}
use Rattle.link_laws.specs.Exact.{FrontIsClean}
use Rattle.link_laws.specs.Whole.{WholeHeard}
use Rattle.link_laws.proofs.Cutting.{AllControl, hear}
use Rattle.link_laws.proofs.Rows.{and_both, control_columns, clean, Small, all_clean}
use Rattle.link_laws.proofs.Conformed.{IsIsland, IsInner, Follows, ends, goes_on, Conforms, conforming, HasValues, has_values}
use Rattle.link_laws.proofs.Between.{IsControlPeriod}
use Rattle.link_laws.proofs.Guards.{unlike, line_guard, stays_control}
use Rattle.link_laws.proofs.VideoReported.{ArePixels, no_pixels, AreGuards}
use Rattle.link_laws.proofs.VideoReported as seen
use Rattle.link_laws.proofs.IslandColumns.{AreParts, no_parts, part, ArePackets, no_packets, one_more, packet_sent}
use Rattle.link_laws.proofs.IslandReported.{frame}
use Rattle.link_laws.proofs.Joining.{ArrivesPeriod, controls, pixels, packets, Arrives, nothing, more, sized, account_period, control_period, follows_long, is_tail, joined}
use Rattle.link_laws.proofs.Arrival.{whole_of}
use Rattle.link_laws.proofs.SpelledWords.{AreWords, lane_words, small_blue, small_green, small_red}
use Rattle.link_laws.proofs.exact.ControlFine.{control_fine, preamble_fine}
use Rattle.link_laws.proofs.exact.Faultless.{Fine, fine_both, guards_fine}

-- A column as it was received, which is the column that was sent.

same_column : (c : Column) → unlike c c ≡ 0
unfolding unlike_words one_if
same_column c = grind (arith, eq-eqb)

same_words : (c : Column) → unlike c c ≤ 1
same_words c = let e = same_column c in omega arith

same_guards : (g h : Column) → AreGuards g h g h
same_guards g h = record { one = let e = same_column g in let f = same_column h in omega arith }

control_arrives : (cs : List Column) → list_all clean cs ≡ true → AllControl cs
control_arrives [] h = refl
control_arrives (c ∷ cs) h = and_both _ _ (stays_control c c (whole_of c (and-left _ _ h)) (same_words c)) (control_arrives cs (and-right (clean c) _ h))

pixels_arrive : (ps : List Pixel) (pp : List Column) → AreWords (map (λ p. p.blue) ps) (blues pp) → AreWords (map (λ p. p.green) ps) (greens pp) → AreWords (map (λ p. p.red) ps) (reds pp) → ArePixels ps pp pp
unfolding AreWords
pixels_arrive [] [] b g r = no_pixels
pixels_arrive [] (c ∷ pp) b g r = absurd b
pixels_arrive (p ∷ ps) [] b g r = absurd b
pixels_arrive (p ∷ ps) (c ∷ pp) b g r =
    seen.more p c c ps pp pp (record { blue = b.0; green = g.0; red = r.0; one = same_words c }) (pixels_arrive ps pp b.1 g.1 r.1)

parts_arrive : (pp : List Column) → AreTerc (map column_words pp) 0 → AreTerc (map column_words pp) 1 → AreTerc (map column_words pp) 2 → AreParts pp pp
parts_arrive [] b g r = no_parts
parts_arrive (c ∷ pp) b g r =
    let rest = map column_words pp in
    let tail = λ (lane : ℕ) (all : AreTerc (column_words c ∷ rest) lane). All-tail (λ words. is_terc (slice_index words lane) ≡ true) (column_words c) rest all in
    part c c pp pp (record { blue = b 0 [] (omega arith); green = g 0 [] (omega arith); red = r 0 [] (omega arith); one = same_words c }) (parts_arrive pp (tail 0 b) (tail 1 g) (tail 2 r))

packets_arrive : (first : Bool) (ps : List Packet) (pp : List Column) → SpellsPacketsBy freely first ps pp → ArePackets first ps pp pp
packets_arrive first [] pp h = subst (λ cs. ArePackets first [] cs cs) (sym h) (no_packets first)
packets_arrive first (p ∷ ps) pp h =
    let terc = h.3.terc in
    let parts = parts_arrive h.0 (terc 0 (omega arith)) (terc 1 (omega arith)) (terc 2 (omega arith)) in
    subst (λ cs. ArePackets first (p ∷ ps) cs cs) (sym h.2) (one_more first p ps h.0 h.0 h.1 h.1 h.3 parts (packets_arrive false ps h.1 h.4))

period_arrives : (x : Period) (own : List Column) → HasValues (x ∷ []) → SpellsPeriodBy freely x own → ArrivesPeriod x own own
unfolding HasValues
period_arrives (control runs) own small h = grind (arith, ArrivesPeriod, controls, control_columns, length-map, control_arrives, all_clean)
period_arrives (video bytes) own small h =
    subst (λ cs. ArrivesPeriod (video bytes) cs cs) (sym h.1) (pixels bytes line_guard line_guard h.0 h.0 (same_guards line_guard line_guard) (pixels_arrive (pixels_of bytes) h.0
    (lane_words _ _ (small_blue bytes small.0) h.2.blue) (lane_words _ _ (small_green bytes small.0) h.2.green) (lane_words _ _ (small_red bytes small.0) h.2.red)))
period_arrives (island x) own small h =
    let g = guard_column x.opening.first in
    let i = guard_column x.opening.second in
    let c = guard_column x.closing.first in
    let d = guard_column x.closing.second in
    subst (λ cs. ArrivesPeriod (island x) cs cs) (sym h.1)
    (packets x g i c d h.0 h.0 (record { opening = same_guards g i; closing = same_guards c d }) (packets_arrive true x.packets h.0 h.2))

first_values : (x : Period) (xs : List Period) → HasValues (x ∷ xs) → HasValues (x ∷ []) × HasValues xs
unfolding HasValues
first_values x xs h = grind arith

arrive : (xs : List Period) (cs : List Column) → HasValues xs → SpellsBy freely xs cs → Arrives xs cs cs
arrive [] cs small h = subst (λ cs. Arrives [] cs cs) (sym h) nothing
arrive (x ∷ xs) cs small h = grind (arith, first_values, Arrives, more, period_arrives, arrive xs)

-- Lanes that are coded as they should be.

is_coded_at : (d : ℤ) (b w : ℕ) → b < 256 → Coded d b w → is_coded d w ≡ true
unfolding is_coded
is_coded_at d b w lt e =
    let byte : decoded_byte w ≡ b = ap decoded_byte e ∙ decoded_coded (sign_of d) b lt in
    eq-eqb w (coded_word d (decoded_byte w)) (e ∙ ap (coded_word d) (sym byte))

none_from : (d : ℤ) (n : ℕ) (bs ws : List ℕ) → are_bytes bs ≡ true → length ws ≡ length bs
    → ((j : ℕ) → j < length ws → Coded (d +ℤ disparity_of (take j ws)) (get_or bs j 0) (get_or ws j 0)) → first_from d n ws ≡ None
unfolding disparity_of
none_from d n bs [] small long coded = refl
none_from d n [] (w ∷ ws) small long coded = absurd (omega arith)
none_from d n (b ∷ bs) (w ∷ ws) small long coded =
    let here : Coded d b w = subst (λ e. Coded e b w) (+ℤ_idr d) (coded 0 (omega arith)) in
    ap (λ p. cond p (first_from (d +ℤ balance (word_bits w)) (n + 1) ws) (Some n)) (is_coded_at d b w (ltb-true b 256 (and-left _ _ small)) here)
    ∙ none_from (d +ℤ balance (word_bits w)) (n + 1) bs ws (and-right (nat_lt b 256) _ small) (omega arith)
    (λ j lt. subst (λ e. Coded e (get_or bs j 0) (get_or ws j 0)) (sym (+ℤ_assoc d (balance (word_bits w)) (disparity_of (take j ws)))) (coded (suc j) (omega arith)))

lane_none : (bs ws : List ℕ) → are_bytes bs ≡ true → IsLane bs ws → first_uncoded ws ≡ None
lane_none bs ws small lane =
    none_from (pos 0) 0 bs ws small lane.same_length (λ j lt. subst (λ d. Coded d (get_or bs j 0) (get_or ws j 0)) (sym (+ℤ_idl (disparity_of (take j ws)))) (lane.coded j lt))

none_fine : (lane s : ℕ) (o : Option ℕ) → o ≡ None → Fine (code_fault lane s o)
none_fine lane s o h = grind arith

codes_fine : (s : ℕ) (bytes : List ℕ) (pp : List Column) → are_bytes bytes ≡ true → SpellsPixels (pixels_of bytes) pp → Fine (codes_of s pp)
unfolding codes_of
codes_fine s bytes pp small h =
    fine_both (code_fault 0 s (first_uncoded (map (λ c. c.blue) pp))) _ (none_fine 0 s _ (lane_none _ _ (small_blue bytes small) h.blue))
    (fine_both (code_fault 1 s (first_uncoded (map (λ c. c.green) pp))) _ (none_fine 1 s _ (lane_none _ _ (small_green bytes small) h.green)) (none_fine 2 s _ (lane_none _ _ (small_red bytes small) h.red)))

-- Packets that are carried, freely.

none_counted : (lane : ℕ) (ws : List (List ℕ)) → AreTerc ws lane → count_by (is_foreign lane) ws ≡ 0
unfolding is_foreign
none_counted lane [] h = refl
none_counted lane (w ∷ ws) h =
    let p = λ (v : List ℕ). not (is_terc (slice_index v lane)) in
    let c = sum_by-cons (λ y. cond (p y) 1 0) w ws in
    let none : ◌≡◌ {A = ℕ} (cond (p w) 1 0) 0 = ap (λ q. cond (not q) 1 0) (h 0 [] (omega arith)) in
    let ih = none_counted lane ws (All-tail (λ words. is_terc (slice_index words lane) ≡ true) w ws h) in
    omega arith

none_foreign : (ws : List (List ℕ)) → ((lane : ℕ) → lane < 3 → AreTerc ws lane) → foreign_words ws ≡ 0
unfolding foreign_words foreign_on
none_foreign ws h = grind (arith, none_counted)

clean_taken : (x : List Bool) (bytes : List ℕ) → BeginsWith x bytes → IsTaken x bytes Clean
clean_taken x bytes b = record { found = b.block; begins = sym b.begins }

clean_on : (b : ℕ) → b < 5 → verdict_on spotless b ≡ Clean
clean_on b h = grind arith

taken_spotless : (p : Packet) (ws : List (List ℕ)) → CarriesFreely p ws → Taken ws p spotless
taken_spotless p ws c = record {
  whole = c.whole;
  sync = sym c.sync;
  bodies = λ b lt. subst (λ v. IsTaken (body_bits ws b) (body_of p b) v) (sym (clean_on b (omega arith))) (clean_taken _ _ (c.bodies b lt));
  header = clean_taken _ _ c.header;
  blocks = refl;
  symbols = sym (none_foreign ws c.terc);
}

faults_none : (s : ℕ) (p : Packet) (own : List Column) → CarriesFreely p (map column_words own) → Fine (packet_faults s (verdicts_of own))
faults_none s p own c = subst (λ v. Fine (packet_faults s v)) (verdicts_are (map column_words own) p spotless c.count (taken_spotless p (map column_words own) c)) refl

-- Guard columns.

island_test : passes_below 4 (λ d. is_island_guard (guard_column d)) ≡ true
unfolding passes_below is_island_guard is_twelve_or_more value_in terc_words island_guard
island_test = refl

pair_fine : (s d e : ℕ) → d < 4 → e < 4 → Fine (wrong_guards is_island_guard s (guard_column d) (guard_column e))
pair_fine s d e ld le =
    let is = λ (d : ℕ). is_island_guard (guard_column d) in
    guards_fine is_island_guard s (guard_column d) (guard_column e) (passes_at 4 is d island_test ld) (passes_at 4 is e island_test le)

small_values : (runs : List ControlRun) → HasValues (control runs ∷ []) → Small (values_of runs)
unfolding HasValues
small_values runs h = h.0

-- The account.

cond_fine : (p : Bool) (ts us : List Event) → Fine ts → Fine us → Fine (cond p ts us)
cond_fine p ts us h k = grind arith

-- control columns of values that announce a period
record Announced (bits : ℕ) (vs : List ℕ) : Type 0 where
  small : Small vs
  carry : announces bits vs ≡ true

packets_fine : (first : Bool) (x : DataIsland) → IsIsland x → (s : ℕ) (ps : List Packet) (i : ℕ) (pp : List Column) → SpellsPacketsBy freely first ps pp
    → Fine (packets_reported cut s ps i (pp ++ guard_columns x.closing) (pp ++ guard_columns x.closing))
unfolding packets_reported packet_reported close_island_row
packets_fine first x is s [] i pp h = grind (arith, Fine, cond_fine, pair_fine)
packets_fine first x is s (p ∷ ps) i pp h =
    let after = guard_columns x.closing in
    let own = h.0 in
    let rest = h.1 in
    let n = packet_sent first p own h.3 in
    let e : pp ++ after ≡ own ++ (rest ++ after) = ap (λ cs. cs ++ after) h.2 ∙ append_assoc own rest after in
    let t : take 32 (pp ++ after) ≡ own = ap (take 32) e ∙ take_at own (rest ++ after) 32 n in
    let d : drop 32 (pp ++ after) ≡ rest ++ after = ap (drop 32) e ∙ drop_at own (rest ++ after) 32 n in
    let here = subst (λ cs. Fine (packet_faults s (verdicts_of cs))) (sym t) (faults_none s p own h.3) in
    let later = subst (λ cs. Fine (packets_reported cut (s + 32) ps (i - 32) cs cs)) (sym d) (packets_fine false x is (s + 32) ps (i - 32) rest h.4) in
    let one = packet_reported s p (take 32 (pp ++ after)) (take 32 (pp ++ after)) in
    let others = packets_reported cut (s + 32) ps (i - 32) (drop 32 (pp ++ after)) (drop 32 (pp ++ after)) in
    cond_fine (nat_lt i 32) (cut s ∷ []) (one ++ others) refl (fine_both one others here later)

island_fine : (j m : ℕ) (vs : List ℕ) (x : DataIsland) (pp : List Column) → Announced ISLAND_PREAMBLE vs → IsIsland x → SpellsPacketsBy freely true x.packets pp
    → Fine (island_reported j m (control_columns vs) x (frame x pp) (frame x pp))
unfolding island_reported open_island_row
island_fine j m vs x pp h k l = grind (arith, control_columns, fine_both, preamble_fine, pair_fine, packets_fine)

inner_fine : (j m : ℕ) (vs : List ℕ) (x : Period) (own : List Column) → Small vs → IsInner vs x → SpellsPeriodBy freely x own → Fine (period_row j m (control_columns vs) x own own)
unfolding period_row IsInner video_reported video_row open_video_row is_video_guard video_guard
inner_fine j m vs x own h k l = grind (arith, Fine, control_columns, island_fine, line_guard, fine_both, preamble_fine, guards_fine, cond_fine, codes_fine)

-- what follows control columns
account_fine : (vs : List ℕ) (tail : List Period) → Follows vs tail → (j m : ℕ) (cs : List Column) → HasValues tail → SpellsBy freely tail cs → Fine (account_from j m (control_columns vs) tail cs cs)
unfolding account_from
account_fine _ _ (ends vs c) j m cs small h = grind (arith, control_columns)
account_fine _ _ (goes_on vs x runs rest c i f) j m cs small h =
    let own = h.0 in
    let later = h.1 in
    let next = h.4.0 in
    let others = h.4.1 in
    let ws = values_of runs in
    let b = first_values x (control runs ∷ rest) small in
    let d = first_values (control runs) rest b.1 in
    let k = m - period_columns x in
    let l = j + period_columns x in
    let sized_next = sized (control runs) next next (period_arrives (control runs) next d.0 h.4.3) in
    let e = ap (λ cs. account_from j m (control_columns vs) (x ∷ (control runs ∷ rest)) cs cs) h.2
    ∙ account_period j m (control_columns vs) x (control runs ∷ rest) own own later later (sized x own own (period_arrives x own b.0 h.3)) in
    let g = ap (λ cs. account_from l k own (control runs ∷ rest) cs cs) h.4.2 ∙ control_period l k own runs rest next next others others sized_next in
    let row = period_row j m (control_columns vs) x own own in
    let after = control_row l (take k next) in
    let more = account_from (l + length next) (k - length next) next rest others others in
    subst (λ (ts : List Event). Fine ts) (sym (e ∙ ap (λ ts. row ++ ts) g))
    (fine_both row (after ++ more) (inner_fine j m vs x own c.small i h.3)
    (fine_both after more (subst (λ (ds : List Column). Fine (control_row l (take k ds))) (sym h.4.3) (control_fine l k ws (small_values runs d.0)))
    (subst (λ (ds : List Column). Fine (account_from (l + length next) (k - length next) ds rest others others)) (sym h.4.3)
    (account_fine ws rest f (l + length next) (k - length next) others d.1 h.4.4))))

-- A front of what conforming periods spell.

spelled_fine : (ps : List Period) (cs : List Column) (m : ℕ) → Conforms ps → SpellsBy freely ps cs → Fine (hear 0 (stretches (take m cs)))
unfolding Conforms
spelled_fine [] cs m c h = absurd c
spelled_fine (video bytes ∷ xs) cs m c h = absurd c
spelled_fine (island x ∷ xs) cs m c h = absurd c
spelled_fine (control runs ∷ xs) cs m c h =
    let vs = values_of runs in
    let before = control_columns vs in
    let rest = h.1 in
    let b = first_values (control runs) xs (has_values (control runs ∷ xs) c) in
    let small = small_values runs b.0 in
    let e : cs ≡ before ++ rest = h.2 ∙ ap (λ own. own ++ rest) h.3 in
    let n = length-map vs control_column in
    let long = follows_long vs xs c in
    let first : IsControlPeriod before = record { long = omega arith; all = control_arrives before (all_clean vs small) } in
    let reported = ap (λ (ds : List Column). hear 0 (stretches (take m ds))) e ∙ joined xs (is_tail vs xs c) before rest rest first (arrive xs rest b.1 h.4) 0 m in
    subst (λ (ts : List Event). Fine ts) (sym reported)
    (fine_both (control_row 0 (take m before)) (account_from (0 + length before) (m - length before) before xs rest rest) (control_fine 0 m vs small)
    (account_fine vs xs c (0 + length before) (m - length before) rest b.1 h.4))

spelled_heard : (runs : List ControlRun) (xs : List Period) (cs : List Column) (m : ℕ) → Conforms (control runs ∷ xs) → SpellsBy freely (control runs ∷ xs) cs → hear 0 (stretches (take m cs)) ≡ account (control runs ∷ xs) cs cs 0 m
unfolding Conforms account account_at period_columns
spelled_heard runs xs cs m c h =
    let vs = values_of runs in
    let k = length vs in
    let before = control_columns vs in
    let rest = h.1 in
    let b = first_values (control runs) xs (has_values (control runs ∷ xs) c) in
    let small = small_values runs b.0 in
    let e : cs ≡ before ++ rest = h.2 ∙ ap (λ own. own ++ rest) h.3 in
    let n = length-map vs control_column in
    let long = follows_long vs xs c in
    let first : IsControlPeriod before = record { long = omega arith; all = control_arrives before (all_clean vs small) } in
    let reported = ap (λ (ds : List Column). hear 0 (stretches (take m ds))) e ∙ joined xs (is_tail vs xs c) before rest rest first (arrive xs rest b.1 h.4) 0 m in
    let i : k - 0 ≡ 0 + length before = omega arith in
    let l : m - (k - 0) ≡ m - length before = omega arith in
    let at = ap₂ (λ (us ws : List Column). control_row 0 (take m us) ++ account_from (k - 0) (m - (k - 0)) us xs ws ws) (ap (take k) e ∙ take_at before rest k n) (ap (drop k) e ∙ drop_at before rest k n)
    ∙ ap₂ (λ (p q : ℕ). control_row 0 (take m before) ++ account_from p q before xs rest rest) i l in
    reported ∙ sym (ap (λ q. cond q (control_row 0 (take m (take k cs)) ++ account_from (k - 0) (m - (k - 0)) (take k cs) xs (drop k cs) (drop k cs)) (account xs (drop k cs) (drop k cs) (0 - k) m)) (lt-ltb 0 k (omega arith)) ∙ at)

pub whole_heard : WholeHeard
unfolding heard heard_so_far
whole_heard cs w =
    let all = take_all (length cs) cs (omega arith) in
    ap (λ (ds : List Column). hear 0 (stretches ds)) (sym all) ∙ spelled_heard w.runs w.periods cs (length cs) (conforming (control w.runs ∷ w.periods) w.conforming) w.spells

pub front_is_clean : FrontIsClean
unfolding heard heard_so_far
front_is_clean cs f =
    let front : take (length cs) f.spelled ≡ cs = ap (take (length cs)) f.front ∙ take-append_seam cs f.rest in
    subst (λ (ds : List Column). Fine (hear 0 (stretches ds))) front (spelled_fine f.periods f.spelled (length cs) (conforming f.periods f.conforming) f.spells)
