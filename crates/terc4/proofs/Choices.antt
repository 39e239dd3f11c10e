-- How the tests of a column's words decide its kind.
use Rattle.std.proofs.Common.{arith, ◌≡◌, ◌+◌, ◌∙◌, Bool, true, false, nat_le, refl, ap₂, sym}
use Rattle.std.specs.Int.{from_bool}
use Rattle.tmds_word.specs.Column.{Column}
use Rattle.terc4.specs.declared.columns.ColumnKind.TheVariants.{Control, VideoGuard, IslandGuard, Other}
use Rattle.terc4.specs.Tables.{is_control}
use Rattle.terc4.specs.Columns.{one_if, is_control_column, is_video_guard, is_island_guard}
use Rattle.terc4.specs.Kinds.{kind_of}

pub from_bool-one_if : (b : Bool) → from_bool b ≡ one_if b
unfolding one_if
from_bool-one_if b = grind arith

pub control_kind : (c : Column) → is_control_column c ≡ true → Control ≡ kind_of c
unfolding kind_of
control_kind c h = rw h refl

pub video_kind : (c : Column) → is_control_column c ≡ false → is_video_guard c ≡ true → VideoGuard ≡ kind_of c
unfolding kind_of
video_kind c h g = rw (h, g) refl

pub island_kind : (c : Column) → is_control_column c ≡ false → is_video_guard c ≡ false → is_island_guard c ≡ true → IslandGuard ≡ kind_of c
unfolding kind_of
island_kind c h g f = rw (h, g, f) refl

pub other_kind : (c : Column) → is_control_column c ≡ false → is_video_guard c ≡ false → is_island_guard c ≡ false → Other ≡ kind_of c
unfolding kind_of
other_kind c h g f = rw (h, g, f) refl

-- without a control word on lanes 1 and 2 no column is a control column
one_at_most : (p : Bool) → false ≡ nat_le 2 ((one_if p + one_if false) + one_if false)
unfolding one_if
one_at_most true = refl
one_at_most false = refl

pub few_controls : (c : Column) → is_control c.green ≡ false → is_control c.red ≡ false → false ≡ is_control_column c
unfolding is_control_column
few_controls c g r = one_at_most (is_control c.blue) ∙ sym (ap₂ (λ p q. nat_le 2 ((one_if (is_control c.blue) + one_if p) + one_if q)) g r)
