use Rattle.link_laws.proofs.Noticed.{noticed_reported}
use Rattle.link_laws.proofs.PacketRow.{one_is_as_sent, few_is_as_sent}
use Rattle.link_laws.proofs.WrongBits.{few_on_lanes}
use Rattle.link_laws.proofs.link.noticed_reported.Goals as goal

pub returns-clause-reported : goal.returns-clause-reported
returns-clause-reported c = noticed_reported

pub returns-clause-few : goal.returns-clause-few
returns-clause-few c = few_on_lanes

pub returns-clause-one : goal.returns-clause-one
returns-clause-one c = one_is_as_sent

pub returns-clause-as_sent : goal.returns-clause-as_sent
returns-clause-as_sent c = few_is_as_sent
