use Rattle.std.proofs.Common.{ap, sym, ◌∙◌, arith, take_all, take, ℕ, List, ◌-◌, ◌++◌, ◌∷◌, [], map, get_or}
use Rattle.std.proofs.lemmas.List.{take_more, take_more_set, map-append, length-set}
use Rattle.listing_reader.proofs.packet.sync_values.Goals as goal

pub loop-i-preserved : goal.loop-i-preserved
loop-i-preserved c =
    let i = c.loop-i.i in
    let digits = c.args.digits.now in
    let value : ℕ → ℕ = λ digit. digit - 48 in
    let size = c.loop-i.invariant.size in
    record {
      reported =
          take_more_set c.loop-i.values i (value (get_or digits i 0)) (omega arith)
          ∙ ap (λ (values : List ℕ). values ++ value (get_or digits i 0) ∷ []) c.loop-i.invariant.reported
          ∙ sym (map-append value (take i digits) (get_or digits i 0 ∷ []))
          ∙ sym (ap (map value) (take_more digits i 0 (omega arith)));
      size = length-set c.loop-i.values i (value (get_or digits i 0)) ∙ size;
    }

pub returns : goal.returns
returns c =
    let value : ℕ → ℕ = λ digit. digit - 48 in
    let size = c.loop-i.invariant.size in
    sym (take_all c.loop-i.i c.loop-i.values (omega arith)) ∙ c.loop-i.invariant.reported ∙ ap (map value) (take_all c.loop-i.i c.args.digits.now (omega arith))
