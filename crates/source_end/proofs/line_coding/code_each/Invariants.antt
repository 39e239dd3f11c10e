use Rattle.std.proofs.Common.{◌≡◌, length, map, take}
use Rattle.island_pack.specs.Periods.{Pixel, pixels_of}
use Rattle.source_end.specs.LineCoding.{GoesOn}
use Rattle.source_end.proofs.line_coding.code_each.Given as goal

abbrev pub invariant-loop-i : goal.invariant-loop-i
invariant-loop-i l = record {
  blue_size : length l.blue_words ≡ length l.fn.blue_words;
  green_size : length l.green_words ≡ length l.fn.green_words;
  red_size : length l.red_words ≡ length l.fn.red_words;
  blue_lane : GoesOn l.initial.blue l.blue (map (λ (p : Pixel). p.blue) (take l.i (pixels_of l.bytes))) (take l.i l.blue_words);
  green_lane : GoesOn l.initial.green l.green (map (λ (p : Pixel). p.green) (take l.i (pixels_of l.bytes))) (take l.i l.green_words);
  red_lane : GoesOn l.initial.red l.red (map (λ (p : Pixel). p.red) (take l.i (pixels_of l.bytes))) (take l.i l.red_words);
}
