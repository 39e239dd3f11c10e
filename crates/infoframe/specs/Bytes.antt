-- Bounds of fields, and the bytes of bars. Only contracts of private functions cite them.
use Rattle.std.specs.Prelude.{ℕ, ◌/◌, ◌%◌, ◌<◌, List, [], ◌∷◌}
use Rattle.infoframe.specs.declared.content.Avi.{Avi}
use Rattle.infoframe.specs.declared.content.AudioInfo.{AudioInfo}

-- the low byte of each first
abbrev pub bar_bytes : List ℕ → List ℕ
bar_bytes [] = []
bar_bytes (bar ∷ bars) = (bar % 256) ∷ (bar / 256 % 256) ∷ bar_bytes bars

-- each field fits its bits
pub record AviBounds (x : Avi) : Type 0 where
  pub s : x.s < 4
  pub b : x.b < 4
  pub a : x.a < 2
  pub y : x.y < 4
  pub r : x.r < 16
  pub m : x.m < 4
  pub c : x.c < 4
  pub sc : x.sc < 4
  pub q : x.q < 4
  pub ec : x.ec < 8
  pub itc : x.itc < 2
  pub vic : x.vic < 128
  pub pr : x.pr < 16

pub record AudioBounds (x : AudioInfo) : Type 0 where
  pub cc : x.cc < 8
  pub ct : x.ct < 16
  pub ss : x.ss < 4
  pub sf : x.sf < 8
  pub lsv : x.lsv < 16
  pub dm : x.dm < 2
