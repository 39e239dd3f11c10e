use Rattle.std.proofs.Common.{◌≡◌, ℕ, ◌+◌, List, length, drop, ap, sym, ◌∙◌, arith}
use Rattle.std.proofs.lemmas.List.{length-map}
use Rattle.tmds_word.specs.Column.{Column}
use Rattle.tmds_word.specs.Lent.{columns_in}
use Rattle.island_pack.proofs.KeptColumns.{kept_of, length-kept_of, put_kept, behind_kept}
use Rattle.island_pack.proofs.packet_columns.PacketColumns.put_all.Goals as goal

pub returns-clause-room : goal.returns-clause-room
unfolding kept_of
returns-clause-room c =
    let kept = c.self.inside in
    let all = ap (λ (ws : List (List ℕ)). length ws) (sym c.self.view_is) ∙ length-kept_of kept.blue kept.green kept.red (omega arith) (omega arith) in
    omega (arith, all)

pub returns-clause-long : goal.returns-clause-long
unfolding kept_of
returns-clause-long c =
    let all = length-kept_of c.put_words.new.lane c.put_words-2.new.lane c.put_words-3.new.lane (omega (arith, c.put_words.array_long, c.put_words-2.array_long)) (omega (arith, c.put_words.array_long, c.put_words-3.array_long)) in
    omega (arith, all, c.put_words.array_long)

pub returns-clause-put : goal.returns-clause-put
unfolding kept_of
returns-clause-put c =
    let kept = c.self.inside in
    put_kept kept.blue kept.green kept.red c.put_words.new.lane c.put_words-2.new.lane c.put_words-3.new.lane _ _ _ c.args.self.now (columns_in c.args.columns) c.args.at c.self.view_is
    (omega arith) (omega arith) (omega arith) (omega (arith, c.requires)) c.blue.ensures.lane c.green.ensures.lane c.red.ensures.lane
    c.put_words.ensures.put c.put_words-2.ensures.put c.put_words-3.ensures.put

pub returns-clause-behind : goal.returns-clause-behind
unfolding kept_of
returns-clause-behind c =
    let kept = c.self.inside in
    let m = c.args.at + length (columns_in c.args.columns) in
    let blue : m ≡ c.args.at + length c.blue.result.now = omega (arith, ap (λ (l : List ℕ). length l) c.blue.ensures.lane, length-map (columns_in c.args.columns) (λ (d : Column). d.blue)) in
    let green : m ≡ c.args.at + length c.green.result.now = omega (arith, ap (λ (l : List ℕ). length l) c.green.ensures.lane, length-map (columns_in c.args.columns) (λ (d : Column). d.green)) in
    let red : m ≡ c.args.at + length c.red.result.now = omega (arith, ap (λ (l : List ℕ). length l) c.red.ensures.lane, length-map (columns_in c.args.columns) (λ (d : Column). d.red)) in
    behind_kept kept.blue kept.green kept.red c.put_words.new.lane c.put_words-2.new.lane c.put_words-3.new.lane c.args.self.now m c.self.view_is
    (ap (λ n. drop n c.put_words.new.lane) blue ∙ c.put_words.ensures.behind ∙ ap (λ n. drop n kept.blue) (sym blue))
    (ap (λ n. drop n c.put_words-2.new.lane) green ∙ c.put_words-2.ensures.behind ∙ ap (λ n. drop n kept.green) (sym green))
    (ap (λ n. drop n c.put_words-3.new.lane) red ∙ c.put_words-3.ensures.behind ∙ ap (λ n. drop n kept.red) (sym red))
