-- Guard columns as received, of which one word of a pair may be unlike the one that was sent.
use Rattle.std.proofs.Common.{◌≡◌, ℕ, ◌+◌, ◌<◌, ◌≤◌, Bool, true, false, not, ◌&&◌, ◌==◌, slice_index, refl, ap, ap₂, arith}
use Rattle.std.proofs.lemmas.Bool.{eqb-true, le-leb, lt-leb}
use Rattle.tmds_word.specs.Column.{Column, column_of}
use Rattle.tmds_word.proofs.Below.{and-left, and-right, passes_below, passes_at}
use Rattle.terc4.specs.Tables.{control_words, terc_words, video_guard, island_guard, value_in, is_in, is_control}
use Rattle.terc4.specs.Columns.{is_control_column, one_if, is_twelve_or_more, video_words, closing_words, island_words, closes}
use Rattle.link_laws.proofs.Computed.{not_true}
use Rattle.island_pack.specs.Spelling.{guard_column, column_words}
use Rattle.island_pack.specs.Sparse.{unlike_words}
use Rattle.period_grammar.specs.Heard.{video, island, kind_by, opened}

pub one_at_most : (q : Bool) → one_if q ≤ 1
unfolding one_if
one_at_most q = grind arith

-- what a word was found to be, it is found to be still, but for a word that was received unlike
pub lost : (p : ℕ → Bool) (s r : ℕ) → p s ≡ true → (same : Bool) → (s == r) ≡ same → 1 ≤ one_if (p r) + one_if (not same)
unfolding one_if
lost p s r h k l = grind (arith, eqb-true)

pub gained : (p : ℕ → Bool) (s r : ℕ) → p s ≡ false → (same : Bool) → (s == r) ≡ same → one_if (p r) ≤ one_if (not same)
unfolding one_if
gained p s r h k l = grind (arith, eqb-true, one_at_most)

abbrev pub unlike : Column → Column → ℕ
unlike s r = unlike_words (column_words s) (column_words r)

-- columns of no control words, of control words
pub record IsWithoutControl (s : Column) : Type 0 where
  pub blue : is_control s.blue ≡ false
  pub green : is_control s.green ≡ false
  pub red : is_control s.red ≡ false

pub stays_without_control : (s r : Column) → IsWithoutControl s → unlike s r ≤ 1 → is_control_column r ≡ false
unfolding is_control_column unlike_words
stays_without_control s r h one = grind (arith, gained, lt-leb)

pub record IsWhole (s : Column) : Type 0 where
  pub blue : is_control s.blue ≡ true
  pub green : is_control s.green ≡ true
  pub red : is_control s.red ≡ true

pub stays_control : (s r : Column) → IsWhole s → unlike s r ≤ 1 → is_control_column r ≡ true
unfolding is_control_column unlike_words
stays_control s r h one = grind (arith, lost, le-leb)

-- Video guards.

abbrev pub line_guard : Column
line_guard = column_of video_guard

pub line_guard_no_control : IsWithoutControl line_guard
unfolding is_control is_in control_words video_guard
line_guard_no_control = record { blue = refl; green = refl; red = refl }

video_kept : (r : Column) → 3 ≤ video_words r + unlike line_guard r
unfolding video_words unlike_words video_guard
video_kept r =
    let b = lost (λ w. w == 0x2cc) 0x2cc r.blue refl (0x2cc == r.blue) refl in
    grind (arith, lost)

pub opens_video : (g h : Column) → unlike line_guard g + unlike line_guard h ≤ 1 → opened g h ≡ video
opens_video g h one = grind (arith, video_kept, le-leb)

-- Island guards.

abbrev guard_test : ℕ → Bool
guard_test w = not (is_control w) && (is_twelve_or_more (value_in terc_words w) && not (w == slice_index video_guard 0))

blue_test : passes_below 4 (λ d. guard_test (slice_index terc_words (12 + d))) ≡ true
unfolding passes_below is_control is_in control_words terc_words value_in is_twelve_or_more video_guard
blue_test = refl

pub record IsBlue (w : ℕ) : Type 0 where
  pub no_control : is_control w ≡ false
  pub twelve : is_twelve_or_more (value_in terc_words w) ≡ true
  pub other : (w == slice_index video_guard 0) ≡ false

pub is_blue : (d : ℕ) → d < 4 → IsBlue (guard_column d).blue
is_blue d lt =
    let t = passes_at 4 (λ d. guard_test (slice_index terc_words (12 + d))) d blue_test lt in
    let u = and-right (not (is_control (guard_column d).blue)) _ t in
    record { no_control = not_true _ (and-left _ _ t); twelve = and-left _ _ u; other = not_true _ (and-right (is_twelve_or_more (value_in terc_words (guard_column d).blue)) _ u) }

pub guard_no_control : (d : ℕ) → d < 4 → IsWithoutControl (guard_column d)
unfolding is_control is_in control_words island_guard
guard_no_control d lt = grind (arith, is_blue, not_true)

closing_kept : (s r : Column) → s.green ≡ island_guard → s.red ≡ island_guard → 2 ≤ closing_words r + unlike s r
unfolding closing_words unlike_words island_guard
closing_kept s r e f =
    let g = lost (λ w. w == 0x133) s.green r.green (ap (λ w. w == 0x133) e) (s.green == r.green) refl in
    let d = lost (λ w. w == 0x133) s.red r.red (ap (λ w. w == 0x133) f) (s.red == r.red) refl in
    omega arith

island_kept : (s r : Column) → IsBlue s.blue → s.green ≡ island_guard → s.red ≡ island_guard → 3 ≤ island_words r + unlike s r
unfolding island_words closing_words unlike_words island_guard
island_kept s r blue e f =
    let b = lost (λ w. is_twelve_or_more (value_in terc_words w)) s.blue r.blue blue.twelve (s.blue == r.blue) refl in
    grind (arith, lost)

-- an island guard has one word of a video guard, its green one
video_few : (s r : Column) → IsBlue s.blue → s.red ≡ island_guard → video_words r ≤ 1 + unlike s r
unfolding video_words unlike_words island_guard video_guard
video_few s r blue f =
    let b = gained (λ w. w == 0x2cc) s.blue r.blue blue.other (s.blue == r.blue) refl in
    let g = one_at_most (r.green == 0x133) in
    let d = gained (λ w. w == 0x2cc) s.red r.red (ap (λ w. w == 0x2cc) f) (s.red == r.red) refl in
    omega arith

pub opens_island : (u v : ℕ) (g h : Column) → u < 4 → v < 4 → unlike (guard_column u) g + unlike (guard_column v) h ≤ 1 → opened g h ≡ island
opens_island u v g h lu lv one =
    let a = video_few (guard_column u) g (is_blue u lu) refl in
    let b = video_few (guard_column v) h (is_blue v lv) refl in
    let c = island_kept (guard_column u) g (is_blue u lu) refl refl in
    let d = island_kept (guard_column v) h (is_blue v lv) refl refl in
    ap₂ kind_by (lt-leb 5 (video_words g + video_words h) (omega arith)) (le-leb 5 (island_words g + island_words h) (omega arith))

pub guards_close : (u v : ℕ) (c d : Column) → unlike (guard_column u) c + unlike (guard_column v) d ≤ 1 → closes c d ≡ true
unfolding closes
guards_close u v c d one = grind (arith, closing_kept (guard_column u) c refl refl, closing_kept (guard_column v) d refl refl)
