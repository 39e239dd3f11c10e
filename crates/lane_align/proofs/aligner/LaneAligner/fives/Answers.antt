use Rattle.std.proofs.Common.{◌≡◌, ℕ, List, ◌+◌, ◌-◌, ◌*◌, ◌/◌, ◌%◌, ◌^◌, ◌∙◌, ◌++◌, ap, arith, refl, take, drop}
use Rattle.std.proofs.lemmas.List.{take_rest}
use Rattle.tmds_word.specs.Bits.{bytes_bits, number}
use Rattle.lane_align.specs.Words.{words_in}
use Rattle.lane_align.specs.declared.aligner.LaneAligner.{LaneAligner}
use Rattle.lane_align.proofs.Cutting.{small_written}
use Rattle.lane_align.proofs.Fives.{groups_stand, groups_written}
use Rattle.lane_align.proofs.aligner.LaneAligner.fives.Goals as goal

-- five bytes end with two
last_two : (n held g : ℕ) (bytes : List ℕ) → n ≡ number (drop (16 - held) (bytes_bits (take (5 * g + 5 - (5 * g + 3)) (drop (5 * g + 3) bytes))))
    → n ≡ number (drop (16 - held) (bytes_bits (take 2 (drop (5 * g + 3) bytes))))
last_two n held g bytes e =
    let two : 5 * g + 5 - (5 * g + 3) ≡ 2 = omega arith in
    e ∙ ap (λ k. number (drop (16 - held) (bytes_bits (take k (drop (5 * g + 3) bytes))))) two

pub returns-clause-stands : goal.returns-clause-stands
returns-clause-stands c xs stands =
    let old = c.args.self.now in
    let bytes = c.args.bytes.now in
    let g = c.args.groups in
    groups_stand old xs bytes g c.requires.bytes c.requires.lock stands _ (last_two c.last_bits-self.result old.held g bytes c.last_bits-self.ensures.value) refl refl refl

pub returns-clause-words : goal.returns-clause-words
returns-clause-words c xs ws stands all =
    let old = c.args.self.now in
    let few = old.few in
    let bytes = c.args.bytes.now in
    let g = c.args.groups in
    let k = (40 - old.held) / 8 in
    let r = (40 - old.held) % 8 in
    let new : LaneAligner = record {
      fed = old.fed + 40 * g;
      lock = old.lock;
      kept = old.kept;
      rest = c.last_bits-self.result;
      held = old.held;
      few = old.few;
      early = old.early;
      narrow = c.last_bits-self.ensures.below;
    } in
    let place : 8 * k + r ≡ 40 - old.held = omega arith in
    groups_written old xs bytes g c.requires.bytes c.requires.lock stands new (last_two c.last_bits-self.result old.held g bytes c.last_bits-self.ensures.value) refl refl k r (take c.args.at c.args.row.now) (take (c.args.at + 4 * g) c.cut_fives.new.row) ws place
    (c.cut_fives.ensures.row ∙ ap (λ bs. take c.args.at c.args.row.now ++ words_in (4 * g) (number (bytes_bits bs) / 2 ^ r)) (take_rest bytes k)) all

pub returns-clause-small : goal.returns-clause-small
returns-clause-small c small = small_written _ _ _ _ c.cut_fives.ensures.row small
