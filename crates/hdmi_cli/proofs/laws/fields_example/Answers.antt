use Rattle.hdmi_cli.proofs.FieldsExample as laws
use Rattle.hdmi_cli.proofs.laws.fields_example.Goals as goal

pub returns : goal.returns
returns c = laws.fields_example
