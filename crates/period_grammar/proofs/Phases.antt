-- What is reported at a column in each phase.
use Rattle.std.proofs.Common.{◌≡◌, ℕ, ◌+◌, Bool, true, false, not, ◌==◌, nat_le, List, [], ◌∷◌, ◌++◌, length, ap, ap₂, sym, ◌∙◌, arith, append_assoc}
use Rattle.std.specs.Prelude.{Option}
use Rattle.std.proofs.lemmas.List.{length_push, map-append}
use Rattle.tmds_word.specs.Column.{Column}
use Rattle.terc4.specs.Tables.{is_control}
use Rattle.terc4.specs.Columns.{is_video_guard, is_island_guard, video_words, island_words}
use Rattle.terc4.proofs.Counts.{video_counted, island_counted}
use Rattle.island_pack.specs.Periods.{VIDEO_PREAMBLE, ISLAND_PREAMBLE}
use Rattle.period_grammar.specs.Column.{sync_digit}
use Rattle.period_grammar.specs.Events.{Event, noise, cut, broken, open_island, guard}
use Rattle.period_grammar.specs.Cut.{Stretch, stretch, runs}
use Rattle.period_grammar.specs.Island.{payload, breaks, if_so}
use Rattle.period_grammar.specs.Heard.{last_run, video, island, kind_by, opened, lacks, opening, other_word, other_words, at_close, at_end, payload_closes, payload_ends, line_of}
use Rattle.period_grammar.specs.After.{change, gains, grown, gap_of, ends, payload_gain, island_gain}
use Rattle.period_grammar.specs.LineSeen.{LineSeen}
use Rattle.period_grammar.specs.Lines.{IsLineAfter}
use Rattle.period_grammar.specs.ControlAfter.{IsControlAfter}
use Rattle.period_grammar.specs.IslandAfter.{IsIslandAfter, at_some}
use Rattle.period_grammar.specs.Noted.{events, noted, Lent}
use Rattle.period_grammar.specs.declared.event_queue.QueuedEvent.{QueuedEvent}
use Rattle.period_grammar.specs.declared.event_queue.QueuedEvent.TheVariants.{Open}
use Rattle.period_grammar.specs.declared.island.Island.{Island}
use Rattle.period_grammar.specs.declared.control.ControlState.{ControlState}
use Rattle.period_grammar.specs.declared.phase.Phase.TheVariants.{Control, First, Video, Island as InIsland, Noise}
use Rattle.period_grammar.specs.Stands.{IsStretchAfter, closed}

-- the kind of two columns, by what is kept of the first
kind_video : (g c : Column) (v w : ℕ) → v ≡ video_words g → w ≡ video_words c → nat_le 5 (v + w) ≡ true → opened g c ≡ video
kind_video g c v w e f five = ap (λ p. kind_by p (nat_le 5 (island_words g + island_words c))) (sym (ap₂ (λ a b. nat_le 5 (a + b)) e f) ∙ five)

kind_island : (g c : Column) (v i w k : ℕ) → v ≡ video_words g → i ≡ island_words g → w ≡ video_words c → k ≡ island_words c
    → nat_le 5 (v + w) ≡ false → nat_le 5 (i + k) ≡ true → opened g c ≡ island
kind_island g c v i w k e f s t few five =
    ap₂ kind_by (sym (ap₂ (λ a b. nat_le 5 (a + b)) e s) ∙ few) (sym (ap₂ (λ a b. nat_le 5 (a + b)) f t) ∙ five)

module _ (kept : ControlState) (line : LineSeen) (isle : Island) (n : ℕ) (ts : List Event) where
  pub close_control : (v : ℕ) → ((control : List Column) → IsControlAfter kept control → ts ≡ change v (runs control))
      → (x : Stretch) (b : ℕ) → IsStretchAfter Control kept line isle n x → ts ≡ closed v b x
  close_control v reported (stretch control []) b was = reported control was.0
  close_control v reported (stretch control (g ∷ [])) b was = absurd was.1
  close_control v reported (stretch control (g ∷ (h ∷ rest))) b was = absurd was.1

  pub close_first : (v start : ℕ) (p q : ℕ) (digit : ℕ) → ts ≡ noise start ∷ []
      → (x : Stretch) (b : ℕ) → IsStretchAfter (First start p q digit) kept line isle n x → b + length (gap_of x) ≡ n → ts ≡ closed v b x
  unfolding at_close
  close_first v start p q digit reported (stretch control []) b was e = absurd was.1
  close_first v start p q digit reported (stretch control (g ∷ [])) b was e =
      let same : start ≡ b = omega (arith, was.1.0) in
      reported ∙ ap (λ m. noise m ∷ []) same
  close_first v start p q digit reported (stretch control (g ∷ (h ∷ rest))) b was e = absurd was.1

  pub close_video : (v start : ℕ) → ((pixels : List Column) → IsLineAfter line pixels → ts ≡ line_of start pixels)
      → (x : Stretch) (b : ℕ) → IsStretchAfter (Video start) kept line isle n x → b + length (gap_of x) ≡ n → ts ≡ closed v b x
  unfolding at_close
  close_video v start reported (stretch control []) b was e = absurd was.1
  close_video v start reported (stretch control (g ∷ [])) b was e = absurd was.1
  close_video v start reported (stretch control (g ∷ (h ∷ rest))) b was e =
      let same : start ≡ b = omega (arith, was.1.1) in
      reported rest was.1.2 ∙ ap (λ m. line_of m rest) same ∙ ap (λ k. payload_closes b k rest) (sym was.1.0)

  pub close_payload : (v start : ℕ) (o : Option ℕ) → ts ≡ at_some broken o → ((rest : List Column) (f : ℕ → Event) → IsIslandAfter isle rest → breaks f start (payload rest) ≡ at_some f o)
      → (x : Stretch) (b : ℕ) → IsStretchAfter (InIsland start) kept line isle n x → b + length (gap_of x) ≡ n → ts ≡ closed v b x
  unfolding at_close
  close_payload v start o reported is (stretch control []) b was e = absurd was.1
  close_payload v start o reported is (stretch control (g ∷ [])) b was e = absurd was.1
  close_payload v start o reported is (stretch control (g ∷ (h ∷ rest))) b was e =
      let same : start ≡ b = omega (arith, was.1.1) in
      reported ∙ sym (is rest broken was.1.2) ∙ ap (λ m. breaks broken m (payload rest)) same ∙ ap (λ k. payload_closes b k rest) (sym was.1.0)

  pub close_noise : (v : ℕ) → ts ≡ [] → (x : Stretch) (b : ℕ) → IsStretchAfter Noise kept line isle n x → ts ≡ closed v b x
  unfolding at_close
  close_noise v reported (stretch control []) b was = absurd was.1
  close_noise v reported (stretch control (g ∷ [])) b was = absurd was.1
  close_noise v reported (stretch control (g ∷ (h ∷ rest))) b was = reported ∙ ap (λ k. payload_closes b k rest) (sym was.1)

  -- the end
  pub end_control : ((control : List Column) → IsControlAfter kept control → ts ≡ last_run (runs control))
      → (x : Stretch) (b : ℕ) → IsStretchAfter Control kept line isle n x → ts ≡ ends b x
  end_control reported (stretch control []) b was = reported control was.0
  end_control reported (stretch control (g ∷ [])) b was = absurd was.1
  end_control reported (stretch control (g ∷ (h ∷ rest))) b was = absurd was.1

  pub end_first : (start : ℕ) (p q : ℕ) (digit : ℕ) → ts ≡ cut start ∷ []
      → (x : Stretch) (b : ℕ) → IsStretchAfter (First start p q digit) kept line isle n x → b + length (gap_of x) ≡ n → ts ≡ ends b x
  unfolding at_end
  end_first start p q digit reported (stretch control []) b was e = absurd was.1
  end_first start p q digit reported (stretch control (g ∷ [])) b was e =
      let same : start ≡ b = omega (arith, was.1.0) in
      reported ∙ ap (λ m. cut m ∷ []) same
  end_first start p q digit reported (stretch control (g ∷ (h ∷ rest))) b was e = absurd was.1

  pub end_video : (start : ℕ) → ts ≡ cut (start + 2) ∷ []
      → (x : Stretch) (b : ℕ) → IsStretchAfter (Video start) kept line isle n x → b + length (gap_of x) ≡ n → ts ≡ ends b x
  unfolding at_end
  end_video start reported (stretch control []) b was e = absurd was.1
  end_video start reported (stretch control (g ∷ [])) b was e = absurd was.1
  end_video start reported (stretch control (g ∷ (h ∷ rest))) b was e =
      let same : start ≡ b = omega (arith, was.1.1) in
      reported ∙ ap (λ m. cut (m + 2) ∷ []) same ∙ ap (λ k. payload_ends b k rest) (sym was.1.0)

  pub end_payload : (start : ℕ) (o : Option ℕ) → ts ≡ at_some cut o → ((rest : List Column) (f : ℕ → Event) → IsIslandAfter isle rest → breaks f start (payload rest) ≡ at_some f o)
      → (x : Stretch) (b : ℕ) → IsStretchAfter (InIsland start) kept line isle n x → b + length (gap_of x) ≡ n → ts ≡ ends b x
  unfolding at_end
  end_payload start o reported is (stretch control []) b was e = absurd was.1
  end_payload start o reported is (stretch control (g ∷ [])) b was e = absurd was.1
  end_payload start o reported is (stretch control (g ∷ (h ∷ rest))) b was e =
      let same : start ≡ b = omega (arith, was.1.1) in
      reported ∙ sym (is rest cut was.1.2) ∙ ap (λ m. breaks cut m (payload rest)) same ∙ ap (λ k. payload_ends b k rest) (sym was.1.0)

  pub end_noise : ts ≡ [] → (x : Stretch) (b : ℕ) → IsStretchAfter Noise kept line isle n x → ts ≡ ends b x
  unfolding at_end
  end_noise reported (stretch control []) b was = absurd was.1
  end_noise reported (stretch control (g ∷ [])) b was = absurd was.1
  end_noise reported (stretch control (g ∷ (h ∷ rest))) b was = reported ∙ ap (λ k. payload_ends b k rest) (sym was.1)

  -- a column that is no control column
  pub on_control : (c : Column) → ((control : List Column) → IsControlAfter kept control → ts ≡ last_run (runs control))
      → (x : Stretch) (b : ℕ) → IsStretchAfter Control kept line isle n x → ts ≡ gains false b n c x
  on_control c reported (stretch control []) b was = reported control was.0
  on_control c reported (stretch control (g ∷ [])) b was = absurd was.1
  on_control c reported (stretch control (g ∷ (h ∷ rest))) b was = absurd was.1

  pub on_video_opens : (c : Column) (start p q w : ℕ) (second : Bool) (digit : ℕ)
      → ((control : List Column) → IsControlAfter kept control → ts ≡ lacks start control VIDEO_PREAMBLE ++ (if_so (not (p == 3)) (guard start) ++ if_so (not second) (guard (start + 1))))
      → w ≡ video_words c → second ≡ is_video_guard c → nat_le 5 (p + w) ≡ true
      → (x : Stretch) (b : ℕ) → IsStretchAfter (First start p q digit) kept line isle n x → b + length (gap_of x) ≡ n → ts ≡ gains false b n c x
  on_video_opens c start p q w second digit reported v s five (stretch control []) b was e = absurd was.1
  on_video_opens c start p q w second digit reported v s five (stretch control (g ∷ [])) b was e =
      let same : start ≡ b = omega (arith, was.1.0) in
      reported control was.0 ∙ ap (λ m. lacks m control VIDEO_PREAMBLE ++ (if_so (not (p == 3)) (guard m) ++ if_so (not second) (guard (m + 1)))) same
      ∙ ap₂ (λ x y. lacks b control VIDEO_PREAMBLE ++ (if_so (not x) (guard b) ++ if_so (not y) (guard (b + 1)))) (video_counted g p was.1.1) s
      ∙ ap (opening b control g c) (sym (kind_video g c p w was.1.1 v five))
  on_video_opens c start p q w second digit reported v s five (stretch control (g ∷ (h ∷ rest))) b was e = absurd was.1

  pub on_island_opens : (c : Column) (start p q w k : ℕ) (third : Bool) (digit d : ℕ)
      → ((control : List Column) → IsControlAfter kept control → ts ≡ lacks start control ISLAND_PREAMBLE ++ open_island digit d ∷ (if_so (not (q == 3)) (guard start) ++ if_so (not third) (guard (start + 1))))
      → w ≡ video_words c → k ≡ island_words c → third ≡ is_island_guard c → d ≡ sync_digit c.blue → nat_le 5 (p + w) ≡ false → nat_le 5 (q + k) ≡ true
      → (x : Stretch) (b : ℕ) → IsStretchAfter (First start p q digit) kept line isle n x → b + length (gap_of x) ≡ n → ts ≡ gains false b n c x
  on_island_opens c start p q w k third digit d reported v i t f few five (stretch control []) b was e = absurd was.1
  on_island_opens c start p q w k third digit d reported v i t f few five (stretch control (g ∷ [])) b was e =
      let same : start ≡ b = omega (arith, was.1.0) in
      reported control was.0 ∙ ap (λ m. lacks m control ISLAND_PREAMBLE ++ open_island digit d ∷ (if_so (not (q == 3)) (guard m) ++ if_so (not third) (guard (m + 1)))) same
      ∙ ap₂ (λ a z. lacks b control ISLAND_PREAMBLE ++ open_island a z ∷ (if_so (not (q == 3)) (guard b) ++ if_so (not third) (guard (b + 1)))) was.1.3 f
      ∙ ap₂ (λ x y. lacks b control ISLAND_PREAMBLE ++ open_island (sync_digit g.blue) (sync_digit c.blue) ∷ (if_so (not x) (guard b) ++ if_so (not y) (guard (b + 1)))) (island_counted g q was.1.2) t
      ∙ ap (opening b control g c) (sym (kind_island g c p q w k was.1.1 was.1.2 v i few five))
  on_island_opens c start p q w k third digit d reported v i t f few five (stretch control (g ∷ (h ∷ rest))) b was e = absurd was.1

  pub on_video : (c : Column) (start : ℕ) → ts ≡ [] → (x : Stretch) (b : ℕ) → IsStretchAfter (Video start) kept line isle n x → ts ≡ gains false b n c x
  on_video c start reported (stretch control []) b was = absurd was.1
  on_video c start reported (stretch control (g ∷ [])) b was = absurd was.1
  on_video c start reported (stretch control (g ∷ (h ∷ rest))) b was = reported ∙ ap (λ k. payload_gain b k c rest) (sym was.1.0)

  pub on_payload : (c : Column) (start : ℕ) → ((rest : List Column) → IsIslandAfter isle rest → ts ≡ island_gain start c (payload rest))
      → (x : Stretch) (b : ℕ) → IsStretchAfter (InIsland start) kept line isle n x → b + length (gap_of x) ≡ n → ts ≡ gains false b n c x
  on_payload c start reported (stretch control []) b was e = absurd was.1
  on_payload c start reported (stretch control (g ∷ [])) b was e = absurd was.1
  on_payload c start reported (stretch control (g ∷ (h ∷ rest))) b was e =
      let same : start ≡ b = omega (arith, was.1.1) in
      reported rest was.1.2 ∙ ap (λ m. island_gain m c (payload rest)) same ∙ ap (λ k. payload_gain b k c rest) (sym was.1.0)

-- the next phase
module _ (kept : ControlState) (line : LineSeen) (isle : Island) (n : ℕ) (c : Column) where
  pub video_stands : (start : ℕ) (next : LineSeen) → ((pixels : List Column) → IsLineAfter line pixels → IsLineAfter next (pixels ++ c ∷ []))
      → (x : Stretch) → IsStretchAfter (Video start) kept line isle n x → IsStretchAfter (Video start) kept next isle (n + 1) (grown false c x)
  video_stands start next more (stretch control []) was = absurd was.1
  video_stands start next more (stretch control (g ∷ [])) was = absurd was.1
  video_stands start next more (stretch control (g ∷ (h ∷ rest))) was =
      (was.0, (was.1.0, omega (arith, was.1.1, length_push rest c), more rest was.1.2))

pub three_words : (ts : List Event) (n a b r : ℕ) (c : Column) → a ≡ c.blue → b ≡ c.green → r ≡ c.red
    → ((ts ++ other_word 0 n (is_control a)) ++ other_word 1 n (is_control b)) ++ other_word 2 n (is_control r) ≡ ts ++ other_words n c
unfolding other_words
three_words ts n a b r c e f g = rw (e, f, g) (append_assoc (ts ++ other_word 0 n (is_control c.blue)) _ _ ∙ append_assoc ts _ _)

pub open_noted : (l : Lent) (was now : List QueuedEvent) (ts : List Event) (a b : ℕ) → events l was ≡ ts → now ≡ was ++ Open a b ∷ [] → events l now ≡ ts ++ open_island a b ∷ []
open_noted l was now ts a b e f = ap (events l) f ∙ map-append (noted l) was (Open a b ∷ []) ∙ ap (λ us. us ++ open_island a b ∷ []) e

-- two guards reported after other events
pub guards_noted : (l : Lent) (n1 n2 n3 : List QueuedEvent) (ts us vs : List Event) → events l n1 ≡ ts → events l n2 ≡ events l n1 ++ us → events l n3 ≡ events l n2 ++ vs → events l n3 ≡ ts ++ (us ++ vs)
guards_noted l n1 n2 n3 ts us vs e f g = g ∙ ap (λ xs. xs ++ vs) (f ∙ ap (λ xs. xs ++ us) e) ∙ append_assoc ts us vs

pub open_guards_noted : (l : Lent) (n0 n1 n2 n3 : List QueuedEvent) (ts us vs : List Event) (a b : ℕ) → events l n0 ≡ ts → n1 ≡ n0 ++ Open a b ∷ [] → events l n2 ≡ events l n1 ++ us → events l n3 ≡ events l n2 ++ vs
    → events l n3 ≡ ts ++ open_island a b ∷ (us ++ vs)
open_guards_noted l n0 n1 n2 n3 ts us vs a b e o f g =
    guards_noted l n1 n2 n3 (ts ++ open_island a b ∷ []) us vs (open_noted l n0 n1 ts a b e o) f g ∙ append_assoc ts (open_island a b ∷ []) (us ++ vs)
