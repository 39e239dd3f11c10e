-- A tap of the short stream, one lane of which loses three bits in its first line: both epochs have a full alignment.
use Rattle.std.proofs.Common.{◌≡◌, ℕ, suc, zero, ◌+◌, ◌-◌, ◌<◌, ◌≤◌, Bool, true, List, [], ◌∷◌, length, take, drop, refl, ap, ◌∙◌, sym, arith, inr}
use Rattle.std.proofs.lemmas.List.{length-map, take-take}
use Rattle.tmds_word.specs.Bits.{bits_of, word_bits, row_bits, number, window}
use Rattle.tmds_word.specs.Column.{blues, greens, reds}
use Rattle.tmds_word.specs.Taps.{part_of, IsPart, IsTap, HasSmallSkew}
use Rattle.terc4.specs.Tables.{control_words, is_in, is_control, video_guard}
use Rattle.island_pack.specs.Kinds.{control_column, pixel_column}
use Rattle.island_pack.specs.Periods.{values_of}
use Rattle.lane_align.specs.Lanes.{IsLock, IsEdge}
use Rattle.lane_deskew.specs.Triples.{IsFirst}
use Rattle.link_laws.proofs.Freely.{free_received}
use Rattle.link_laws.proofs.Computed.{has, runs_at, none_before, is_lock}
use Rattle.tmds_word.proofs.Below.{passes_below}
use Rattle.link_laws.specs.Laws.{HoldsEnd}
use Rattle.link_sink.specs.Sinks.{Fed}
use Rattle.link_laws.proofs.Aligning.{first_until}
use Rattle.lane_track.specs.Slips.{slipped}
use Rattle.lane_track.proofs.Around.{drop_part, rest_is_part}
use Rattle.track_sink.specs.Epochs.{lane_of, IsEnd}
use Rattle.track_laws.specs.Laws.{Received, Slipped, SlipsInVideo, HasSlipExample}
use Rattle.track_laws.proofs.Before.{edges_at}
use Rattle.track_laws.proofs.First.{first_same}
use Rattle.track_laws.proofs.Noticed.{slip_noticed, begins_again}
use Rattle.track_laws.proofs.SlipStream.{stream, sent, received, long_received, reception, alone, after_first, after_second, pixels, then_control, middle, damaged}

-- The tap, as many bits as each lane has from there on.

abbrev skews : List ℕ
skews = 0 ∷ (70 ∷ (35 ∷ []))

abbrev counts : List ℕ
counts = 903 ∷ (833 ∷ (868 ∷ []))

unfoldable blue : List Bool
blue = part_of (blues received) 7 903

abbrev x : Fed
x = record { blue = part_of (blues received) 7 903; green = part_of (greens received) 77 833; red = part_of (reds received) 42 868 }

-- three bits are lost
abbrev y : Fed
y = record { blue = slipped x.blue 400 3; green = x.green; red = x.red }

long_blue : length (blues received) ≡ 91
long_blue = length-map received (λ c. c.blue) ∙ long_received

long_green : length (greens received) ≡ 91
long_green = length-map received (λ c. c.green) ∙ long_received

long_red : length (reds received) ≡ 91
long_red = length-map received (λ c. c.red) ∙ long_received

part : (words : List ℕ) (from many : ℕ) → length words ≡ 91 → from + many ≤ 910 → IsPart words from many (part_of words from many)
part words from many long le = record { within = omega arith; bits_are = refl }

tapped : Received stream sent received 7 skews counts x
tapped = record {
  reception = reception;
  tapped = record {
    blue_part = part (blues received) 7 903 long_blue (omega arith);
    green_part = part (greens received) 77 833 long_green (omega arith);
    red_part = part (reds received) 42 868 long_red (omega arith);
  };
}

no_pixel : control_column ≡ pixel_column → ⊥
no_pixel e = cc

others_same : (l : ℕ) → l < 3 → (l ≡ 0 → ⊥) → lane_of y l ≡ lane_of x l
others_same l h k = grind arith

slips : Slipped x 0 400 3 y
slips = record { within = omega arith; few = (omega arith, omega arith); this = refl; others = others_same }

before : HasSmallSkew skews
before = record { blue_green = (omega arith, omega arith); green_red = (omega arith, omega arith); blue_red = (omega arith, omega arith) }

abbrev later : List ℕ
later = 3 ∷ (70 ∷ (35 ∷ []))

after : HasSmallSkew later
after = record { blue_green = (omega arith, omega arith); green_red = (omega arith, omega arith); blue_red = (omega arith, omega arith) }

in_line : SlipsInVideo stream sent received 7 skews counts 0 400 3 26 56
in_line = record {
  alone = alone;
  begins = omega arith;
  ends = omega arith;
  after = omega arith;
  before = omega arith;
  pixels = pixels;
  then = inr (λ p. no_pixel (sym then_control ∙ p));
  undamaged = λ i under over. middle i (omega arith) (omega arith);
  small = after;
}

-- Where the second epoch begins.

run_test : runs_at blue 3 ≡ true
unfolding passes_below blue received values_of control_words video_guard has window row_bits word_bits bits_of number is_control is_in
run_test = refl

none_test : none_before blue 3 ≡ true
unfolding passes_below blue received values_of control_words video_guard has window row_bits word_bits bits_of number is_control is_in
none_test = refl

pub lock : IsLock x.blue 3
unfolding blue
lock = is_lock blue 3 run_test none_test

found : (start : ℕ) × IsEnd y 0 start
found = slip_noticed stream sent received 7 skews counts x y 0 400 3 26 56 tapped slips in_line 3 lock (omega arith) 0 (omega arith) (λ k less. absurd (omega arith)) (omega arith)

-- The two alignments.

each_lane : (P : ℕ → Type 0) → P 0 → P 1 → P 2 → (l : ℕ) → l < 3 → P l
each_lane P p q r zero lt = p
each_lane P p q r (suc zero) lt = q
each_lane P p q r (suc (suc zero)) lt = r
each_lane P p q r (suc (suc (suc l))) lt = absurd (omega arith)

front : (words : List ℕ) (from many n : ℕ) → length words ≡ 91 → from + many ≤ 910 → n ≤ many → IsPart words from n (take n (part_of words from many))
front words from many n long le less = record { within = omega arith; bits_are = take-take n many (drop from (row_bits words)) less }

first_alignment : (start : ℕ) → IsEnd y 0 start → 400 ≤ start → start ≤ 600
    → (d e f : ℕ) × IsFirst (take start y.blue) (take start y.green) (take start y.red) d e f
first_alignment start end far near =
    let ns : List ℕ = 400 ∷ (start ∷ (start ∷ [])) in
    let tap : IsTap received 7 skews ns (take 400 x.blue) (take start x.green) (take start x.red) = record {
      blue_part = front (blues received) 7 903 400 long_blue (omega arith) (omega arith);
      green_part = front (greens received) 77 833 start long_green (omega arith) (omega arith);
      red_part = front (reds received) 42 868 start long_red (omega arith) (omega arith);
    } in
    let holds : HoldsEnd 7 skews ns 24 = grind arith in
    let h = first_until stream sent received (free_received stream sent received reception) 7 skews ns _ _ _ tap before 24 (record { after = after_first; spares = alone.spares 24; holds = holds }) in
    let blue_edges = edges_at stream sent received 7 skews counts x y 0 400 3 26 56 start tapped slips in_line end in (
      h.0,
      h.1,
      h.2,
      first_same (IsEdge (take 400 x.blue)) (IsEdge (take start x.green)) (IsEdge (take start x.red)) (IsEdge (take start y.blue)) (IsEdge (take start y.green)) (IsEdge (take start y.red))
          (λ e. let b = blue_edges e in (b.1, b.0)) (λ e. (λ g. g, λ g. g)) (λ e. (λ g. g, λ g. g)) h.0 h.1 h.2 h.3,
    )

moved : (words : List ℕ) (a b n : ℕ) (bits : List Bool) → length words ≡ 91 → a ≡ b → b + n ≤ 910 → bits ≡ part_of words a n → IsPart words b n bits
moved words a b n bits long e le is = record { within = omega arith; bits_are = is ∙ ap (λ m. part_of words m n) e }

second_alignment : (start : ℕ) → 400 ≤ start → start ≤ 550
    → (p q r : ℕ) × IsFirst (drop start y.blue) (drop start y.green) (drop start y.red) p q r
second_alignment start far near =
    let ns : List ℕ = (903 - 3 - start) ∷ ((833 - start) ∷ ((868 - start) ∷ [])) in
    let l = long_blue in
    let tap : IsTap received (7 + start) later ns (drop start y.blue) (drop start y.green) (drop start y.red) = record {
      blue_part = moved (blues received) (7 + 3 + start) (7 + start + 3) (903 - 3 - start) (drop start y.blue) long_blue (omega arith) (omega arith)
          (rest_is_part (blues received) 7 903 400 3 start far (omega arith) (omega arith));
      green_part = moved (greens received) (77 + start) (7 + start + 70) (833 - start) (drop start y.green) long_green (omega arith) (omega arith) (drop_part (greens received) 77 833 start);
      red_part = moved (reds received) (42 + start) (7 + start + 35) (868 - start) (drop start y.red) long_red (omega arith) (omega arith) (drop_part (reds received) 42 868 start);
    } in
    let holds : HoldsEnd (7 + start) later ns 76 = grind arith in
    let h = first_until stream sent received (free_received stream sent received reception) (7 + start) later ns _ _ _ tap after 76 (record { after = after_second; spares = alone.spares 76; holds = holds }) in
    (h.0, h.1, h.2, h.3)

pub example : HasSlipExample
example =
    let start = found.0 in
    let end = found.1 in
    let again = begins_again stream sent received 7 skews counts x y 0 400 3 26 56 start tapped slips in_line end in
    let few = again.few in
    let place = again.place in
    let first = first_alignment start end (omega arith) (omega arith) in
    let second = second_alignment start (omega arith) (omega arith) in (
      stream,
      sent,
      received,
      counts,
      x,
      y,
      26,
      56,
      start,
      record {
        reception = tapped;
        slips = slips;
        in_line = in_line;
        damaged = damaged;
        end = end;
        before = before;
        one = first;
        two = second;
      },
    )
