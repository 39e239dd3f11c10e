use Rattle.std.proofs.Common.{◌≡◌, ◌∙◌, sym, ap, subst, List, arith}
use Rattle.std.specs.Prelude.{IfOk}
use Rattle.island_pack.specs.Periods.{Period, columns_of}
use Rattle.island_pack.specs.Conforming.{IsConforming}
use Rattle.period_grammar.specs.Exact.{faultless}
use Rattle.relay.specs.Laws.{turns_in, begun_in}
use Rattle.relay.proofs.Conforming.{relayed_conforms}
use Rattle.relay.proofs.Going.{stream_parts, stream_has, stream_columns}
use Rattle.relay.proofs.relaying.Relay.take.Goals as goal

pub into_stream-requires : goal.into_stream-requires
into_stream-requires c =
    let reported = c.requires.0 in
    let s = c.requires.1 in
    let now = c.settle.new.self in
    let settled = c.in_ok-settle.ensures.settled (turns_in reported) (begun_in reported) (faultless reported) s in
    let e = stream_parts reported in
    let n = s.columns in
    let m = s.period_columns in
    let f = s.few in
    let k = settled.columns in
    (_, stream_has now.whole reported settled.whole, subst (λ ps. IsConforming ps) (sym e) (relayed_conforms reported), settled.columns ∙ stream_columns reported ∙ ap columns_of (sym e), omega arith)

pub returns : goal.returns
returns c reported s =
    let settled = c.in_ok-settle.ensures.settled (turns_in reported) (begun_in reported) (faultless reported) s in
    subst (λ (ps : List Period). IfOk c.into_stream.result (λ stream. stream ≡ ps)) (stream_parts reported) (c.into_stream.ensures _ (stream_has c.settle.new.self.whole reported settled.whole))
