-- Which lists of periods conform. HDMI 1.4, sections 5.1.2, 5.2.1, 5.2.2 and 5.2.3: control periods of at least twelve
-- columns, and between any two of them one video data period or one data island, which the control period's preamble
-- announces. A data island has 1 to 18 packets. That a video data period has at most 4,096 pixels is this project's own
-- limit.
use Rattle.std.specs.Prelude.{ℕ, ◌/◌, ◌%◌, Bool, false, ◌==◌, ◌&&◌, List, [], ◌∷◌, length, nat_le, nat_lt, IsTrue}
use Rattle.std.specs.List.{list_all}
use Rattle.island_pack.specs.Periods.{ControlRun, SyncPair, DataIsland, Period, control, video, island, values_of, has_preamble, VIDEO_PREAMBLE, ISLAND_PREAMBLE}
use Rattle.island_pack.specs.Ranges.{is_control_in_range, is_line_in_range, are_sync_values, is_island_in_range}
use Rattle.island_pack.specs.declared.packet.Packet.{Packet}

abbrev pub is_run : ControlRun → Bool
is_run r = nat_lt r.value 64 && nat_le 1 r.count

unfoldable pub is_control_period : List ControlRun → Bool
is_control_period runs = list_all is_run runs && is_control_in_range (length (values_of runs))

abbrev pub are_bytes : List ℕ → Bool
are_bytes bytes = list_all (λ b. nat_lt b 256) bytes

-- one to 4,096 whole pixels
unfoldable pub is_video_period : List ℕ → Bool
is_video_period bytes =
    are_bytes bytes && ((length bytes % 3 == 0) && is_line_in_range (length bytes / 3))

abbrev pub is_sync_pair : SyncPair → Bool
is_sync_pair pair = are_sync_values pair.first pair.second

-- three header bytes, four bodies of seven bytes, and a sync value below 4 for each of 32 columns
unfoldable pub is_packet : Packet → Bool
is_packet p =
    ((length p.header == 3) && are_bytes p.header)
    && (((length p.bodies == 28) && are_bytes p.bodies) && ((length p.sync == 32) && list_all (λ v. nat_lt v 4) p.sync))

-- one to 18 packets
unfoldable pub is_data_island : DataIsland → Bool
is_data_island x =
    (is_sync_pair x.opening && is_sync_pair x.closing)
    && (list_all is_packet x.packets && is_island_in_range (length x.packets))

unfoldable pub conforms : List Period → Bool
conforms (control runs ∷ []) = is_control_period runs
conforms (control runs ∷ (video bytes ∷ rest)) =
    is_control_period runs && (has_preamble VIDEO_PREAMBLE (values_of runs) && (is_video_period bytes && conforms rest))
conforms (control runs ∷ (island x ∷ rest)) =
    is_control_period runs && (has_preamble ISLAND_PREAMBLE (values_of runs) && (is_data_island x && conforms rest))
conforms _ = false

abbrev pub IsConforming : List Period → Type 0
IsConforming periods = IsTrue (conforms periods)
