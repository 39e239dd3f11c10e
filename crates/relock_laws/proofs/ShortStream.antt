-- A short stream of two lines: the control period between the lines has columns 27 to 46.
use Rattle.std.proofs.Common.{◌≡◌, ℕ, zero, suc, ◌+◌, ◌-◌, ◌<◌, ◌≤◌, Bool, true, false, not, List, [], ◌∷◌, ◌++◌, map, length, take, replicate, refl, ap, ap₂, subst, arith}
use Rattle.std.specs.Prelude.{ℤ, pos, ◌+ℤ◌}
use Rattle.std.proofs.lemmas.List.{length-replicate, get_or-replicate}
use Rattle.tmds_word.specs.Bits.{bits_of, word_bits, number, ones, zeros, balance}
use Rattle.tmds_word.specs.Column.{Column, column_of}
use Rattle.tmds_word.proofs.Below.{passes_below, passes_at}
use Rattle.tmds_code.specs.Coding.{null, takes_xnor, minimised, balanced, coded_bits, coded_at}
use Rattle.tmds_code.specs.Lanes.{IsLane, disparity_of}
use Rattle.terc4.specs.Tables.{video_guard}
use Rattle.island_pack.specs.Conforming.{IsConforming, conforms, is_control_period, is_video_period}
use Rattle.island_pack.specs.Kinds.{Kind, control_column as control_kind, kinds_in, kinds_of, kind_at}
use Rattle.island_pack.specs.Periods.{ControlRun, Period, control, video, values_of, has_preamble, pixels_of}
use Rattle.island_pack.specs.Sparse.{unlike_at}
use Rattle.island_pack.specs.Spelling.{control_column, SpellsPixels, SpellsPeriod, Spells}
use Rattle.relock_laws.specs.WholePeriods.{IsWholeAmong}
use Rattle.relock_laws.proofs.UndoubtedExample.{is_control_kind, control_kind as from_test}

-- The periods.

abbrev times : ℕ → ℕ → ControlRun
times value count = record { value = value; count = count }

abbrev pub first_runs : List ControlRun
first_runs = times 0 16 ∷ (times 4 8 ∷ [])

abbrev pub second_runs : List ControlRun
second_runs = times 0 12 ∷ (times 4 8 ∷ [])

abbrev pub last_runs : List ControlRun
last_runs = times 0 12 ∷ []

abbrev from_last : List Period
from_last = control last_runs ∷ []

abbrev from_long : List Period
from_long = video (replicate 90 16) ∷ from_last

abbrev from_second : List Period
from_second = control second_runs ∷ from_long

abbrev from_short : List Period
from_short = video (replicate 3 16) ∷ from_second

unfoldable pub stream : List Period
stream = control first_runs ∷ from_short

pub conforming : IsConforming stream
unfolding stream conforms is_control_period values_of has_preamble is_video_period
conforming = refl

-- The columns: each pixel's word has as many ones as zeros.

abbrev grey : Column
grey = record { blue = 0x1f0; green = 0x1f0; red = 0x1f0 }

abbrev controls : List ControlRun → List Column
controls runs = map control_column (values_of runs)

abbrev lines : ℕ → List Column
lines n = column_of video_guard ∷ (column_of video_guard ∷ replicate n grey)

abbrev last_on : List Column
last_on = controls last_runs ++ []

abbrev long_on : List Column
long_on = lines 30 ++ last_on

abbrev second_on : List Column
second_on = controls second_runs ++ long_on

abbrev short_on : List Column
short_on = lines 1 ++ second_on

unfoldable pub sent : List Column
sent = controls first_runs ++ short_on

coded_test : coded_at null 16 ≡ 0x1f0
unfolding coded_at coded_bits takes_xnor minimised balanced bits_of number ones zeros balance
coded_test = refl

level_test : balance (word_bits 0x1f0) ≡ pos 0
unfolding word_bits balance bits_of zeros ones
level_test = refl

level : (n j : ℕ) → disparity_of (take j (replicate n 0x1f0)) ≡ pos 0
unfolding disparity_of
level n zero = refl
level zero (suc j) = refl
level (suc n) (suc j) = ap₂ (λ (x y : ℤ). x +ℤ y) level_test (level n j)

lane : (n : ℕ) → IsLane (replicate n 16) (replicate n 0x1f0)
lane n = grind (arith, length-replicate, get_or-replicate, coded_test, level)

spells_long : SpellsPixels (pixels_of (replicate 90 16)) (replicate 30 grey)
unfolding pixels_of
spells_long = record { blue = lane 30; green = lane 30; red = lane 30 }

spells_short : SpellsPixels (pixels_of (replicate 3 16)) (replicate 1 grey)
unfolding pixels_of
spells_short = record { blue = lane 1; green = lane 1; red = lane 1 }

spells_more : (p : Period) (ps : List Period) (own rest : List Column) → SpellsPeriod p own → Spells ps rest → Spells (p ∷ ps) (own ++ rest)
spells_more p ps own rest h g = (own, rest, refl, h, g)

pub spelled : Spells stream sent
unfolding stream sent
spelled =
    spells_more (control first_runs) from_short (controls first_runs) short_on refl
    (spells_more (video (replicate 3 16)) from_second (lines 1) second_on (replicate 1 grey, refl, spells_short)
    (spells_more (control second_runs) from_long (controls second_runs) long_on refl
    (spells_more (video (replicate 90 16)) from_last (lines 30) last_on (replicate 30 grey, refl, spells_long)
    (spells_more (control last_runs) [] (controls last_runs) [] refl refl))))

pub long_sent : length sent ≡ 91
unfolding sent values_of video_guard
long_sent = refl

-- The control period between the lines has columns 27 to 46.

not_control : (k : Kind) → not (is_control_kind k) ≡ true → k ≡ control_kind → ⊥
not_control k none is = let same = ap is_control_kind is in grind arith

inside_test : passes_below 20 (λ n. is_control_kind (kind_at (kinds_of stream) (27 + n))) ≡ true
unfolding passes_below stream kinds_of kinds_in values_of
inside_test = refl

after_test : passes_below 15 (λ n. not (is_control_kind (kind_at (kinds_of stream) (47 + n)))) ≡ true
unfolding passes_below stream kinds_of kinds_in values_of
after_test = refl

before_test : not (is_control_kind (kind_at (kinds_of stream) 26)) ≡ true
unfolding stream kinds_of kinds_in values_of
before_test = refl

inside : (k : ℕ) → 27 ≤ k → k ≤ 46 → kind_at (kinds_of stream) k ≡ control_kind
inside k low high =
    let at : 27 + (k - 27) ≡ k = omega arith in
    subst (λ n. kind_at (kinds_of stream) n ≡ control_kind) at
    (from_test (kind_at (kinds_of stream) (27 + (k - 27))) (passes_at 20 (λ n. is_control_kind (kind_at (kinds_of stream) (27 + n))) (k - 27) inside_test (omega arith)))

other : (k : ℕ) → 47 ≤ k → k < 62 → kind_at (kinds_of stream) k ≡ control_kind → ⊥
other k low high is =
    let at : k ≡ 47 + (k - 47) = omega arith in
    not_control (kind_at (kinds_of stream) (47 + (k - 47))) (passes_at 15 (λ n. not (is_control_kind (kind_at (kinds_of stream) (47 + n)))) (k - 47) after_test (omega arith))
    (subst (λ n. kind_at (kinds_of stream) n ≡ control_kind) at is)

-- it comes whole where the columns around it were received as they were sent
pub whole : (received : List Column) → ((k : ℕ) → 24 ≤ k → k < 62 → unlike_at sent received k ≡ 0) → IsWholeAmong stream sent received 27 35
whole received as_sent = record {
  begins = record {
    order = omega arith;
    control = inside;
    before = λ h at is. let same : h ≡ 26 = omega arith in not_control (kind_at (kinds_of stream) 26) before_test (subst (λ n. kind_at (kinds_of stream) n ≡ control_kind) same is);
  };
  ends = record { here = inside 46 (omega arith) (omega arith); then = other 47 (omega arith) (omega arith) };
  long = omega arith;
  late = omega arith;
  other = other;
  as_sent = λ k low high. as_sent k (omega arith) (omega arith);
}
