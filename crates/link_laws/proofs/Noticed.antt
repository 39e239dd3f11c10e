-- A packet of which few words were received unlike, and of which no fault is reported, is taken as it was sent.
use Rattle.std.proofs.Common.{List, ◌∷◌, length, map, ap, ap₂, sym, ◌∙◌, true, arith, ◌≡◌}
use Rattle.std.proofs.lemmas.List.{length-map}
use Rattle.island_pack.specs.Spelling.{column_words}
use Rattle.island_pack.specs.Repaired.{verdicts_of}
use Rattle.period_grammar.specs.Events.{Event, packet}
use Rattle.period_grammar.specs.Exact.{faultless}
use Rattle.link_laws.specs.Account.{packet_reported}
use Rattle.link_laws.specs.Noticed.{Noticed, NoticedReported}
use Rattle.link_laws.proofs.PacketRow.{packet_row_taken, few_as_sent, sync_taken}
use Rattle.link_laws.proofs.exact.Packets.{faults_fine}

pub noticed : Noticed
noticed p ss rs column few =
    let carries = few.carries in
    let long = few.long in
    let count = carries.count in
    let sent_many = length-map ss column_words in
    let same : length rs ≡ length ss = omega arith in
    sym (few_as_sent p true ss rs carries long same few.blue few.others (faults_fine column (map column_words rs) (ap faultless few.unmarked)))
    ∙ ap (λ vs. record { header = p.header; bodies = p.bodies; sync = vs }) (sym (sync_taken p true ss rs carries same))

pub noticed_reported : NoticedReported
unfolding packet_reported
noticed_reported p ss rs column few =
    ap₂ (λ q (ts : List Event). packet q (verdicts_of rs) column ∷ ts)
    (sym (packet_row_taken p true ss rs few.carries few.long) ∙ noticed p ss rs column few) few.unmarked
