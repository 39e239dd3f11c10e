-- What is kept of the columns of a control period, and of the periods so far.
use Rattle.std.specs.Prelude.{ℕ, ◌-◌, ◌^◌, ◌%◌, Bool, true, false, ◌==◌, ◌&&◌, List, [], ◌∷◌, length, min, reverse, nat_lt}
use Rattle.std.specs.List.{list_all, prefix_len}
use Rattle.island_pack.specs.Periods.{ControlRun, Period, control, video, island, values_of, ctl, has_preamble, VIDEO_PREAMBLE, ISLAND_PREAMBLE}
use Rattle.island_pack.specs.Conforming.{is_run, is_control_period, is_video_period, is_data_island}
use Rattle.island_pack.specs.Ranges.{is_run_in_range as is_run_size}

-- a count that stands still at the greatest u32
abbrev pub capped : ℕ → ℕ
capped n = min n (2 ^ 32 - 1)

-- a value and a count that an item may have
unfoldable pub is_run_in_range : ControlRun → Bool
is_run_in_range r = is_run_size r.value r.count

-- bytes, three to a pixel
abbrev pub are_pixels : List ℕ → Bool
are_pixels bytes = list_all (λ b. nat_lt b 256) bytes && (length bytes % 3 == 0)

abbrev pub has_pixels : Period → Bool
has_pixels (control runs) = true
has_pixels (video bytes) = are_pixels bytes
has_pixels (island x) = true

-- what the columns of a period are made from: values below 64, whole pixels, sync values below 4
abbrev pub is_sendable : Period → Bool
is_sendable (control runs) = list_all is_run runs
is_sendable (video bytes) = length bytes % 3 == 0
is_sendable (island x) = is_data_island x

-- the same of a period without guard bands, which is no island
abbrev pub is_dvi_sendable : Period → Bool
is_dvi_sendable (control runs) = list_all is_run runs
is_dvi_sendable (video bytes) = length bytes % 3 == 0
is_dvi_sendable (island x) = false

-- how many columns at the end have these control bits
unfoldable pub led_by : ℕ → List ControlRun → ℕ
led_by bits runs = prefix_len (λ v. ctl v == bits) (reverse (values_of runs))

-- whether periods can be the first ones of a conforming list; the last control period may still be short
unfoldable pub conforms_so_far : List Period → Bool
conforms_so_far [] = true
conforms_so_far (control runs ∷ []) = list_all is_run runs
conforms_so_far (control runs ∷ (video bytes ∷ rest)) =
    is_control_period runs && (has_preamble VIDEO_PREAMBLE (values_of runs) && (is_video_period bytes && conforms_so_far rest))
conforms_so_far (control runs ∷ (island x ∷ rest)) =
    is_control_period runs && (has_preamble ISLAND_PREAMBLE (values_of runs) && (is_data_island x && conforms_so_far rest))
conforms_so_far _ = false

-- the same without guard bands
unfoldable pub dvi_conforms_so_far : List Period → Bool
dvi_conforms_so_far [] = true
dvi_conforms_so_far (control runs ∷ []) = list_all is_run runs
dvi_conforms_so_far (control runs ∷ (video bytes ∷ rest)) = is_control_period runs && (is_video_period bytes && dvi_conforms_so_far rest)
dvi_conforms_so_far _ = false
