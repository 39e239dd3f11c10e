-- What is reported at a column in each phase.
use Rattle.std.proofs.Common.{◌≡◌, ℕ, ◌+◌, false, nat_le, List, [], ◌∷◌, ◌++◌, length, ap, ◌∙◌, arith, length-append}
use Rattle.tmds_word.specs.Column.{Column}
use Rattle.period_grammar.specs.Events.{Event, short, cut}
use Rattle.period_grammar.specs.Cut.{Stretch, stretch, runs}
use Rattle.period_grammar.specs.Heard.{last_run, line_at, if_not}
use Rattle.period_grammar.specs.After.{change, grown, gap_of}
use Rattle.period_grammar.specs.Gains.{gains_by, ends_by}
use Rattle.period_grammar.specs.LineSeen.{LineSeen}
use Rattle.period_grammar.specs.Lines.{IsLineAfter}
use Rattle.period_grammar.specs.ControlAfter.{IsControlAfter}
use Rattle.period_grammar.specs.declared.control.ControlState.{ControlState}
use Rattle.dvi_hearing.specs.DviHeard.{dvi_gaps, dvi_line, dvi_closing}
use Rattle.dvi_hearing.specs.DviGains.{no_gain}
use Rattle.dvi_hearing.specs.DviStands.{IsStretchAfter, closed}
use Rattle.dvi_hearing.specs.declared.phase.DviPhase.TheVariants.{Control, Pixels}

module _ (kept : ControlState) (line : LineSeen) (n : ℕ) (ts : List Event) where
  pub close_control : (v : ℕ) → ((control : List Column) → IsControlAfter kept control → ts ≡ change v (runs control))
      → (x : Stretch) (b : ℕ) → IsStretchAfter Control kept line n x → ts ≡ closed v b x
  close_control v reported (stretch control []) b was = reported control was.0
  close_control v reported (stretch control (g ∷ gap)) b was = absurd was.1

  pub close_pixels : (v start : ℕ) → ((pixels : List Column) → IsLineAfter line pixels → ts ≡ if_not (nat_le 12 kept.columns) (short start) ++ line_at start start pixels)
      → (x : Stretch) (b : ℕ) → IsStretchAfter (Pixels start) kept line n x → b + length (gap_of x) ≡ n → ts ≡ closed v b x
  unfolding dvi_closing dvi_line
  close_pixels v start reported (stretch control []) b was e = absurd was.1
  close_pixels v start reported (stretch control (g ∷ gap)) b was e =
      let place = was.1.0 in
      let same : start ≡ b = omega (arith, place, e) in
      reported (g ∷ gap) was.1.1
      ∙ ap (λ m. if_not (nat_le 12 m) (short start) ++ line_at start start (g ∷ gap)) was.0.columns
      ∙ ap (λ m. if_not (nat_le 12 (length control)) (short m) ++ line_at m m (g ∷ gap)) same

  pub end_control : ((control : List Column) → IsControlAfter kept control → ts ≡ last_run (runs control))
      → (x : Stretch) (b : ℕ) → IsStretchAfter Control kept line n x → ts ≡ ends_by dvi_gaps b x
  end_control reported (stretch control []) b was = reported control was.0
  end_control reported (stretch control (g ∷ gap)) b was = absurd was.1

  pub end_pixels : (start : ℕ) → ts ≡ cut start ∷ [] → (x : Stretch) (b : ℕ) → IsStretchAfter (Pixels start) kept line n x → b + length (gap_of x) ≡ n → ts ≡ ends_by dvi_gaps b x
  end_pixels start reported (stretch control []) b was e = absurd was.1
  end_pixels start reported (stretch control (g ∷ gap)) b was e =
      let place = was.1.0 in
      let same : start ≡ b = omega (arith, place, e) in
      reported ∙ ap (λ m. cut m ∷ []) same

  pub on_control : (c : Column) → ((control : List Column) → IsControlAfter kept control → ts ≡ last_run (runs control))
      → (x : Stretch) (b : ℕ) → IsStretchAfter Control kept line n x → ts ≡ gains_by dvi_gaps no_gain false b n c x
  on_control c reported (stretch control []) b was = reported control was.0
  on_control c reported (stretch control (g ∷ gap)) b was = absurd was.1

  pub on_pixels : (c : Column) (start : ℕ) → ts ≡ [] → (x : Stretch) (b : ℕ) → IsStretchAfter (Pixels start) kept line n x → ts ≡ gains_by dvi_gaps no_gain false b n c x
  on_pixels c start none (stretch control []) b was = absurd was.1
  on_pixels c start none (stretch control (g ∷ gap)) b was = none

module _ (kept : ControlState) (old new : LineSeen) (n : ℕ) (c : Column) where
  pub control_stands : IsLineAfter new (c ∷ []) → (x : Stretch) → IsStretchAfter Control kept old n x → IsStretchAfter (Pixels n) kept new (n + 1) (grown false c x)
  control_stands line (stretch control []) was = (was.0, (omega arith, line))
  control_stands line (stretch control (g ∷ gap)) was = absurd was.1

  pub pixels_stand : (start : ℕ) → ((pixels : List Column) → IsLineAfter old pixels → IsLineAfter new (pixels ++ c ∷ []))
      → (x : Stretch) → IsStretchAfter (Pixels start) kept old n x → IsStretchAfter (Pixels start) kept new (n + 1) (grown false c x)
  pixels_stand start line (stretch control []) was = absurd was.1
  pixels_stand start line (stretch control (g ∷ gap)) was =
      let place = was.1.0 in
      let l = length-append gap (c ∷ []) in
      (was.0, (omega (arith, place, l), line (g ∷ gap) was.1.1))
