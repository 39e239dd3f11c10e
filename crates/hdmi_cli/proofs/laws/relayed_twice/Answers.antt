use Rattle.relay.proofs.Below.{facts}
use Rattle.relay.proofs.Own.{relayed_again}
use Rattle.hdmi_cli.proofs.RelayExamples.{relayed_twice}
use Rattle.hdmi_cli.proofs.laws.relayed_twice.Goals as goal

pub returns : goal.returns
returns c = relayed_twice (relayed_again facts)
