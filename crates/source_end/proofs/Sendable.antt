-- The periods of a conforming list can be sent, and each has as many columns as it takes.
use Rattle.std.proofs.Common.{◌≡◌, ℕ, ◌/◌, ◌%◌, true, ◌==◌, ◌&&◌, List, [], ◌∷◌, length, map, refl, sym, ◌∙◌, arith, length-append}
use Rattle.std.specs.Prelude.{nat_le, nat_lt}
use Rattle.std.specs.List.{list_all}
use Rattle.std.proofs.lemmas.List.{length-map}
use Rattle.tmds_word.specs.Column.{Column}
use Rattle.island_pack.specs.Periods.{ControlRun, Period, control, video, island, values_of, Pixel, pixels_of, period_columns}
use Rattle.island_pack.specs.Conforming.{is_run, is_control_period, is_video_period, conforms}
use Rattle.island_pack.specs.Spelling.{SpellsPixels, SpellsPeriod, control_column}
use Rattle.island_pack.proofs.Spelled.{video_spelled}
use Rattle.source_end.specs.DviPeriods.{dvi_columns, dvi_conforms, DviSpellsPeriod}
use Rattle.source_end.specs.Kept.{is_sendable, is_dvi_sendable}
use Rattle.source_end.proofs.Turns.{left, right, both}
use Rattle.source_end.proofs.Spellings.{length-pixels_of}
use Rattle.source_end.proofs.Packets.{packets_length}

control_sendable : (runs : List ControlRun) → is_control_period runs ≡ true → list_all is_run runs ≡ true
unfolding is_control_period
control_sendable runs h = left (list_all is_run runs) (nat_le 12 (length (values_of runs))) h

video_sendable : (bytes : List ℕ) → is_video_period bytes ≡ true → (length bytes % 3 == 0) ≡ true
unfolding is_video_period
video_sendable bytes h = left (length bytes % 3 == 0) (nat_le 1 (length bytes / 3) && nat_le (length bytes / 3) 4096) (right (list_all (λ b. nat_lt b 256) bytes) _ h)

-- With guard bands.
pub sendable_all : (periods : List Period) → conforms periods ≡ true → list_all is_sendable periods ≡ true
unfolding conforms
sendable_all [] h = refl
sendable_all (video bytes ∷ ps) h = absurd cc
sendable_all (island x ∷ ps) h = absurd cc
sendable_all (control runs ∷ []) h = both (is_sendable (control runs)) true (control_sendable runs h) refl
sendable_all (control runs ∷ (control more ∷ ps)) h = absurd cc
sendable_all (control runs ∷ (video bytes ∷ ps)) h = grind (arith, right, both, control_sendable, left, video_sendable, sendable_all ps)
sendable_all (control runs ∷ (island x ∷ ps)) h = grind (arith, right, both, control_sendable, left, sendable_all ps)

pixels_length : (bytes : List ℕ) (columns : List Column) → SpellsPixels (pixels_of bytes) columns → length columns ≡ length bytes / 3
pixels_length bytes columns h =
    sym (length-map columns (λ (c : Column). c.blue)) ∙ h.blue.same_length ∙ length-map (pixels_of bytes) (λ (p : Pixel). p.blue) ∙ length-pixels_of bytes

pub period_length : (p : Period) (columns : List Column) → SpellsPeriod p columns → length columns ≡ period_columns p
unfolding period_columns
period_length (control runs) columns h = grind (arith, length-map)
period_length (video bytes) columns h = grind (arith, length-append, pixels_length)
period_length (island x) columns h = grind (arith, length-append, packets_length)

-- Without them.
pub dvi_sendable_all : (periods : List Period) → dvi_conforms periods ≡ true → list_all is_dvi_sendable periods ≡ true
unfolding dvi_conforms
dvi_sendable_all [] h = refl
dvi_sendable_all (video bytes ∷ ps) h = absurd cc
dvi_sendable_all (island x ∷ ps) h = absurd cc
dvi_sendable_all (control runs ∷ []) h = both (is_dvi_sendable (control runs)) true (control_sendable runs h) refl
dvi_sendable_all (control runs ∷ (control more ∷ ps)) h = absurd cc
dvi_sendable_all (control runs ∷ (island x ∷ ps)) h = absurd cc
dvi_sendable_all (control runs ∷ (video bytes ∷ ps)) h = grind (arith, right, both, control_sendable, left, video_sendable, dvi_sendable_all ps)

pub dvi_period_length : (p : Period) (columns : List Column) → DviSpellsPeriod p columns → length columns ≡ dvi_columns p
unfolding dvi_columns
dvi_period_length (control runs) columns h = grind (arith, length-map)
dvi_period_length (video bytes) columns h = pixels_length bytes columns h
dvi_period_length (island x) columns h = absurd h

-- each of them has columns that spell it
pub dvi_period_spelled : (p : Period) → is_dvi_sendable p ≡ true → (columns : List Column) × DviSpellsPeriod p columns
dvi_period_spelled (control runs) h = (map control_column (values_of runs), refl)
dvi_period_spelled (video bytes) h = let all = video_spelled bytes in (all.1.0, all.1.2)
dvi_period_spelled (island x) h = absurd cc
