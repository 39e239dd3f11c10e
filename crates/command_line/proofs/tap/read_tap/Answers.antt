use Rattle.std.proofs.Common.{Option, Bor, option_map}
use Rattle.command_line.specs.Grammar.{Text}
use Rattle.command_line.proofs.Taps.{no_offset, no_skews, no_limit, no_version}
use Rattle.command_line.proofs.tap.read_tap.Goals as goal

abbrev now_of : Option (Bor Text) → Option Text
now_of = option_map (λ t. t.now)

pub returns-in_err-offset : goal.returns-in_err-offset
returns-in_err-offset c = λ options operands f. rw c.from_residual.ensures (no_offset options (now_of c.option_text.result) (c.option_text.ensures options operands f) c.in_err-offset.ensures)

pub returns-in_err-skews : goal.returns-in_err-skews
returns-in_err-skews c = λ options operands f. rw c.from_residual-in_err-skews.ensures (no_skews options (now_of c.option_text-2.result) (c.option_text-2.ensures options operands f) c.in_err-skews.ensures)

pub returns-in_err-bits : goal.returns-in_err-bits
returns-in_err-bits c = λ options operands f. rw c.from_residual-in_err-bits.ensures (no_limit options (now_of c.option_text-3.result) (c.option_text-3.ensures options operands f) c.in_err-bits.ensures)

pub returns-in_err-version : goal.returns-in_err-version
returns-in_err-version c = λ options operands f. rw c.from_residual-in_err-version.ensures (no_version options (now_of c.option_text-4.result) (c.option_text-4.ensures options operands f) c.in_err-version.ensures)

pub returns : goal.returns
returns c = λ options operands f. record {
  offset_text = now_of c.option_text.result;
  skew_text = now_of c.option_text-2.result;
  bits_text = now_of c.option_text-3.result;
  version_text = now_of c.option_text-4.result;
  offset_given = c.option_text.ensures options operands f;
  skew_given = c.option_text-2.ensures options operands f;
  bits_given = c.option_text-3.ensures options operands f;
  version_given = c.option_text-4.ensures options operands f;
  offset = c.in_ok-offset.ensures;
  skews = c.in_ok-skews.ensures;
  bits = c.in_ok-bits.ensures;
  version = c.in_ok-version.ensures;
}
