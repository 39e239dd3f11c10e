-- What a line of pixels stands for.
use Rattle.island_pack.specs.declared.ranges.TheConstants.{PIXEL_LIMIT}
use Rattle.std.specs.Prelude.{◌≡◌, List, map, take, length}
use Rattle.tmds_word.specs.Column.{Column}
use Rattle.period_grammar.specs.Heard.{line_bytes}
use Rattle.period_grammar.specs.Judged.{IsLaneAfter}
use Rattle.period_grammar.specs.LineSeen.{LineSeen}

pub record IsLineAfter (line : LineSeen) (pixels : List Column) : Type 0 where
  pub count : line.count ≡ length pixels
  pub bytes : line.bytes ≡ line_bytes (take PIXEL_LIMIT pixels)
  pub blue : IsLaneAfter line.blue (map (λ c. c.blue) (take PIXEL_LIMIT pixels))
  pub green : IsLaneAfter line.green (map (λ c. c.green) (take PIXEL_LIMIT pixels))
  pub red : IsLaneAfter line.red (map (λ c. c.red) (take PIXEL_LIMIT pixels))
