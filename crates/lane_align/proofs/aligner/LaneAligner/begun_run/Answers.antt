use Rattle.std.proofs.Common.{◌≡◌, ◌+◌, ◌-◌, ◌*◌, ◌/◌, ◌%◌, ◌++◌, min, sym, subst, refl, arith, length, take, drop, length-drop}
use Rattle.std.proofs.lemmas.List.{take_all}
use Rattle.tmds_word.specs.Bits.{bytes_bits}
use Rattle.lane_align.specs.Search.{Holds}
use Rattle.lane_align.proofs.Begun.{seeks_of, view_holds, begun_ends, begun_none}
use Rattle.lane_align.proofs.aligner.LaneAligner.begun_run.Goals as goal

pub returns-in-Some-clause-found : goal.returns-in-Some-clause-found
returns-in-Some-clause-found c xs stands =
    let self = c.args.self.now in
    let bytes = c.args.bytes.now in
    let bits = c.args.bits in
    let count = c.min-kept.result in
    let had = 8 * count in
    let fed = stands.fed in
    let joined = c.joined-joined.result in
    let whole : length xs % 8 ≡ 0 = omega (arith, c.requires.whole) in
    let seeks = seeks_of self xs c.requires.seeks stands in
    let count_is : count ≡ min (length xs / 8) 16 = omega (arith, c.min-kept.ensures) in
    let view = take (32 - (16 - count)) (drop (16 - count) joined) in
    let all : view ≡ drop (16 - count) joined = take_all (32 - (16 - count)) (drop (16 - count) joined) (omega (arith, length-drop (16 - count) joined)) in
    let holds = subst (λ v. Holds v (xs ++ take bits (bytes_bits bytes)) (length xs - had) (had + min bits 128)) (sym all)
    (view_holds self.kept joined bytes xs bits count had (omega arith) c.joined-joined.ensures (seeks.kept whole) whole c.requires.bytes count_is refl) in
    begun_ends view bytes xs bits had _ _ holds (omega (arith, c.requires.bytes)) seeks.none (omega arith) (omega arith) (omega arith)
    c.in-Some.place _ (let before = c.in-Some.ensures.other.before in let after = c.in-Some.ensures.other.after in omega arith) c.in-Some.ensures _ c.write_run.ensures.row

pub returns-in-None-clause-found : goal.returns-in-None-clause-found
returns-in-None-clause-found c xs stands =
    let self = c.args.self.now in
    let bytes = c.args.bytes.now in
    let bits = c.args.bits in
    let count = c.min-kept.result in
    let had = 8 * count in
    let fed = stands.fed in
    let joined = c.joined-joined.result in
    let whole : length xs % 8 ≡ 0 = omega (arith, c.requires.whole) in
    let seeks = seeks_of self xs c.requires.seeks stands in
    let count_is : count ≡ min (length xs / 8) 16 = omega (arith, c.min-kept.ensures) in
    let view = take (32 - (16 - count)) (drop (16 - count) joined) in
    let all : view ≡ drop (16 - count) joined = take_all (32 - (16 - count)) (drop (16 - count) joined) (omega (arith, length-drop (16 - count) joined)) in
    let holds = subst (λ v. Holds v (xs ++ take bits (bytes_bits bytes)) (length xs - had) (had + min bits 128)) (sym all)
    (view_holds self.kept joined bytes xs bits count had (omega arith) c.joined-joined.ensures (seeks.kept whole) whole c.requires.bytes count_is refl) in
    begun_none view bytes xs bits had _ _ holds (omega (arith, c.requires.bytes)) seeks.none (omega arith) (omega arith) (omega arith) c.in-None.ensures
