-- What is taken of an item of which not every column was taken: the columns that are missing can be given.
use Rattle.std.proofs.Common.{◌≡◌, ℕ, suc, zero, ◌<◌, Bool, true, ◌==◌, ◌&&◌, List, [], ◌∷◌, ◌++◌, length, take, drop, get_or, map, replicate, refl, ap, ap₂, sym, subst, ◌∙◌, arith, append_assoc, append-nil, drop-cons, ◌⊎◌, inl, inr}
use Rattle.std.proofs.lemmas.Bool.{and_parts}
use Rattle.std.proofs.lemmas.List.{take-append-drop, map-append}
use Rattle.std.specs.List.{list_all}
use Rattle.tmds_word.specs.Column.{Column, column_of}
use Rattle.terc4.specs.Tables.{video_guard}
use Rattle.island_pack.specs.Periods.{ControlRun, DataIsland, Period, control, video, island, values_of, Pixel, pixels_of, SyncPair}
use Rattle.island_pack.specs.Conforming.{is_packet, is_data_island}
use Rattle.island_pack.specs.Spelling.{SpellsPixels, SpellsVideo, SpellsIsland, SpellsPackets, SpellsPeriod, control_column, guard_columns, guard_column}
use Rattle.island_pack.specs.declared.packet.Packet.{Packet}
use Rattle.island_pack.proofs.PixelColumns.{pixels_go_on}
use Rattle.island_pack.proofs.Spelled.{packets_spelled, video_spelled}
use Rattle.source_end.specs.Fronts.{TookFront}
use Rattle.source_end.specs.Kept.{is_sendable}
use Rattle.source_end.proofs.Fronts.{front_after}
use Rattle.source_end.proofs.Spellings.{map_replicate, joined}
use Rattle.source_end.proofs.Packets.{SpellsPackets-append, packets_in_range}

-- A list with one item seen, and what stands after it.
pub parts_at : {A : Type 0} (xs : List A) (i : ℕ) (d : A) → i < length xs → take i xs ++ (get_or xs i d ∷ drop (suc i) xs) ≡ xs
parts_at xs i d lt = ap (λ ys. take i xs ++ ys) (sym (drop-cons xs i d lt)) ∙ take-append-drop i xs

pub all_after : {A : Type 0} (p : A → Bool) (xs : List A) (i : ℕ) → list_all p xs ≡ true → list_all p (drop i xs) ≡ true
all_after p xs zero h = h
all_after p [] (suc i) h = refl
all_after p (x ∷ xs) (suc i) h = all_after p xs i (and_parts (p x) (list_all p xs) h).1

-- A control period.
values_at : (runs : List ControlRun) (i : ℕ) (d : ControlRun) → i < length runs
    → values_of (take i runs) ++ (replicate (get_or runs i d).count (get_or runs i d).value ++ values_of (drop (suc i) runs)) ≡ values_of runs
unfolding values_of
values_at [] i d lt = absurd (omega arith)
values_at (r ∷ runs) zero d lt = refl
values_at (r ∷ runs) (suc i) d lt = grind (arith, append_assoc, values_at runs i d)

pub control_front : (runs : List ControlRun) (i : ℕ) (d : ControlRun) (old mid new : List Column) → i < length runs → mid ≡ old ++ map control_column (values_of (take i runs))
    → TookFront mid new (λ columns. columns ≡ replicate (get_or runs i d).count (control_column (get_or runs i d).value))
    → TookFront old new (λ columns. columns ≡ map control_column (values_of runs))
control_front runs i d old mid new lt was front =
    let x = get_or runs i d in
    let done = values_of (take i runs) in
    let own = replicate x.count x.value in
    let rest = values_of (drop (suc i) runs) in
    front_after old mid new (map control_column done) (λ columns. columns ≡ replicate x.count (control_column x.value)) (λ columns. columns ≡ map control_column (values_of runs)) was front
    (λ cs e. (
      map control_column rest,
      ap (λ (ds : List Column). map control_column done ++ (ds ++ map control_column rest)) (e ∙ sym (map_replicate control_column x.count x.value))
          ∙ ap (λ (ds : List Column). map control_column done ++ ds) (sym (map-append control_column own rest))
          ∙ sym (map-append control_column done (own ++ rest))
          ∙ ap (map control_column) (values_at runs i d lt),
    ))

-- A video data period.
pub guards_front : (bytes : List ℕ) (guard : Column) (old new : List Column) → guard ≡ column_of video_guard
    → TookFront old new (λ columns. columns ≡ replicate 2 guard) → TookFront old new (SpellsVideo bytes)
guards_front bytes guard old new is front =
    let all = video_spelled bytes in
    front_after old old new [] (λ columns. columns ≡ replicate 2 guard) (SpellsVideo bytes) (sym (append-nil old)) front
    (λ cs e. (all.1.0, (all.1.0, ap (λ (ds : List Column). ds ++ all.1.0) e ∙ ap (λ (g : Column). g ∷ (g ∷ all.1.0)) is, all.1.2)))

pub video_whole : (bytes : List ℕ) (guard : Column) (old mid new columns : List Column) → guard ≡ column_of video_guard → mid ≡ old ++ replicate 2 guard → new ≡ mid ++ columns
    → SpellsPixels (pixels_of bytes) columns → (all : List Column) × (new ≡ old ++ all) × SpellsVideo bytes all
video_whole bytes guard old mid new columns is was more spelled =
    (replicate 2 guard ++ columns, joined old mid new (replicate 2 guard) columns was more, (columns, ap (λ (g : Column). g ∷ (g ∷ columns)) is, spelled))

pub pixels_front : (bytes : List ℕ) (guard : Column) (old mid new : List Column) → guard ≡ column_of video_guard → mid ≡ old ++ replicate 2 guard
    → TookFront mid new (SpellsPixels (pixels_of bytes)) → TookFront old new (SpellsVideo bytes)
pixels_front bytes guard old mid new is was front =
    front_after old mid new (replicate 2 guard) (SpellsPixels (pixels_of bytes)) (SpellsVideo bytes) was front
    (λ cs own. ([], (cs, ap₂ (λ (g : Column) (ds : List Column). g ∷ (g ∷ ds)) is (append-nil cs), own)))

-- some pixels are coded, and those after them can be
pub coded_front : (pixels : List Pixel) (upto : ℕ) (old mid new done : List Column) (Own : List Column → Type 0) → mid ≡ old ++ done → TookFront mid new Own
    → ((own : List Column) → Own own → SpellsPixels (take upto pixels) (done ++ own)) → TookFront old new (SpellsPixels pixels)
coded_front pixels upto old mid new done Own was front coded =
    front_after old mid new done Own (SpellsPixels pixels) was front
    (λ cs own.
    let all = pixels_go_on (take upto pixels) (done ++ cs) (drop upto pixels) (coded cs own) in (
      all.0,
      subst (λ (ps : List Pixel). SpellsPixels ps (done ++ (cs ++ all.0))) (take-append-drop upto pixels)
          (subst (λ (ds : List Column). SpellsPixels (take upto pixels ++ drop upto pixels) ds) (append_assoc done cs all.0) all.1),
    ))

-- The packets of a data island.
pub part_range : (packets : List Packet) (from n : ℕ) → list_all is_packet packets ≡ true → list_all is_packet (take n (drop from packets)) ≡ true
part_range packets from n all = first_all (drop from packets) n (all_after is_packet packets from all)
  where
    first_all : (ps : List Packet) (n : ℕ) → list_all is_packet ps ≡ true → list_all is_packet (take n ps) ≡ true
    first_all ps zero h = refl
    first_all [] (suc n) h = refl
    first_all (p ∷ ps) (suc n) h = let parts = and_parts (is_packet p) (list_all is_packet ps) h in ap₂ (λ a b. a && b) parts.0 (first_all ps n parts.1)

pub packets_front : (packets : List Packet) (from n : ℕ) (first : Bool) (old mid new columns : List Column) → list_all is_packet packets ≡ true
    → first ≡ (true && (length (take from packets) == 0)) → SpellsPackets true (take from packets) columns
    → mid ≡ old ++ columns → TookFront mid new (SpellsPackets first (take n (drop from packets))) → TookFront old new (SpellsPackets true packets)
packets_front packets from n first old mid new columns all begins spelled was front =
    let part = take n (drop from packets) in
    let later = drop n (drop from packets) in
    let done = take from packets ++ part in
    let now = true && (length done == 0) in
    let rest = packets_spelled now later (all_after is_packet (drop from packets) n (all_after is_packet packets from all)) in
    let whole : done ++ later ≡ packets =
    append_assoc (take from packets) part later ∙ ap (λ (ps : List Packet). take from packets ++ ps) (take-append-drop n (drop from packets)) ∙ take-append-drop from packets in
    front_after old mid new columns (SpellsPackets first part) (SpellsPackets true packets) was front
    (λ cs own. (
      rest.0,
      subst (λ (ps : List Packet). SpellsPackets true ps (columns ++ (cs ++ rest.0))) whole
          (subst (λ (ds : List Column). SpellsPackets true (done ++ later) ds) (append_assoc columns cs rest.0)
          (SpellsPackets-append true now done later (columns ++ cs) rest.0 refl (SpellsPackets-append true first (take from packets) part columns cs begins spelled own) rest.1)),
    ))

-- the first columns of some packets whose columns are known
pub packets_cut : (packets : List Packet) (first : Bool) (old new columns : List Column) (k : ℕ) → SpellsPackets first packets columns → new ≡ old ++ take k columns
    → TookFront old new (SpellsPackets first packets)
packets_cut packets first old new columns k spelled cut =
    (take k columns, drop k columns, cut, subst (λ (cs : List Column). SpellsPackets first packets cs) (sym (take-append-drop k columns)) spelled)

-- A data island. Of two guard columns none was taken, or the first one.
pub pair_front : (pair : SyncPair) (old new : List Column) → (new ≡ old) ⊎ (new ≡ old ++ guard_column pair.first ∷ []) → TookFront old new (λ columns. columns ≡ guard_columns pair)
pair_front pair old new cut = elim cut [
  | inl none ↦ ([], guard_columns pair, none ∙ sym (append-nil old), refl)
  | inr one ↦ (guard_column pair.first ∷ [], guard_column pair.second ∷ [], one, refl)
]

pub opening_front : (x : DataIsland) (old new own : List Column) → is_data_island x ≡ true → own ≡ guard_columns x.opening
    → TookFront old new (λ columns. columns ≡ own) → TookFront old new (SpellsIsland x)
opening_front x old new own h is front =
    let packets = packets_spelled true x.packets (packets_in_range x h) in
    let closing = guard_columns x.closing in
    front_after old old new [] (λ columns. columns ≡ own) (SpellsIsland x) (sym (append-nil old)) front
    (λ cs e. (
      packets.0 ++ closing,
      (packets.0, ap (λ (ds : List Column). ds ++ (packets.0 ++ closing)) (e ∙ is) ∙ sym (append_assoc (guard_columns x.opening) packets.0 closing), packets.1),
    ))

pub inner_front : (x : DataIsland) (packets : List Packet) (old mid new own : List Column) → own ≡ guard_columns x.opening → packets ≡ x.packets → mid ≡ old ++ own
    → TookFront mid new (SpellsPackets true packets) → TookFront old new (SpellsIsland x)
inner_front x packets old mid new own is same was front =
    let closing = guard_columns x.closing in
    front_after old mid new own (SpellsPackets true packets) (SpellsIsland x) was front
    (λ cs spelled. (
      closing,
      (cs, ap (λ (ds : List Column). ds ++ (cs ++ closing)) is ∙ sym (append_assoc (guard_columns x.opening) cs closing), subst (λ (ps : List Packet). SpellsPackets true ps cs) same spelled),
    ))

pub closing_front : (x : DataIsland) (packets : List Packet) (old mid late new own columns end : List Column) → own ≡ guard_columns x.opening → packets ≡ x.packets → end ≡ guard_columns x.closing
    → mid ≡ old ++ own → late ≡ mid ++ columns → SpellsPackets true packets columns
    → TookFront late new (λ cs. cs ≡ end) → TookFront old new (SpellsIsland x)
closing_front x packets old mid late new own columns end is same ends was more spelled front = grind (arith, front_after, append_assoc, append-nil)

-- Each period has columns that spell it.
island_spelled : (x : DataIsland) → is_data_island x ≡ true → (columns : List Column) × SpellsIsland x columns
island_spelled x h =
    let packets = packets_spelled true x.packets (packets_in_range x h) in
    ((guard_columns x.opening ++ packets.0) ++ guard_columns x.closing, (packets.0, refl, packets.1))

pub period_spelled : (p : Period) → is_sendable p ≡ true → (columns : List Column) × SpellsPeriod p columns
period_spelled (control runs) h = (map control_column (values_of runs), refl)
period_spelled (video bytes) h = video_spelled bytes
period_spelled (island x) h = island_spelled x h
