-- What holds of the two framings.
use Rattle.std.proofs.Common.{refl, sym}
use Rattle.island_pack.specs.Spelling.{SpellsPeriod, Spells}
use Rattle.source_end.specs.DviPeriods.{DviSpellsPeriod, DviSpells}
use Rattle.source_end.specs.Framings.{link_rules, dvi_rules, IsFraming}
use Rattle.source_end.proofs.Faults.{push_fault_is, dvi_push_fault_is}
use Rattle.source_end.proofs.Follows.{control_columns, dvi_control_columns}
use Rattle.source_end.proofs.ItemFronts.{period_spelled}
use Rattle.source_end.proofs.Turns.{no_columns, more_columns}
use Rattle.source_end.proofs.DviTurns.{dvi_no_columns, dvi_more_columns}
use Rattle.source_end.proofs.Pushes.{nothing_yet, pushed, closed, dvi_nothing_yet, dvi_pushed, dvi_closed}
use Rattle.source_end.proofs.Sendable.{sendable_all, period_length, dvi_sendable_all, dvi_period_length, dvi_period_spelled}

pub link_is_framing : IsFraming link_rules SpellsPeriod Spells
link_is_framing = record {
  carries_control = λ runs. refl;
  carries_video = λ bytes. refl;
  announces_control = λ before runs. refl;
  control_columns = λ runs. sym (control_columns runs);
  no_columns = no_columns;
  more_columns = more_columns;
  fault = push_fault_is;
  nothing = nothing_yet;
  more = pushed;
  ended = closed;
  sendable = sendable_all;
  spelled = period_spelled;
  as_many = period_length;
  none_spelled = refl;
  of_none = λ columns h. h;
  first_spelled = λ p ps own rest h k. (own, rest, refl, h, k);
  of_first = λ p ps columns h. h;
}

pub dvi_is_framing : IsFraming dvi_rules DviSpellsPeriod DviSpells
dvi_is_framing = record {
  carries_control = λ runs. refl;
  carries_video = λ bytes. refl;
  announces_control = λ before runs. refl;
  control_columns = λ runs. sym (dvi_control_columns runs);
  no_columns = dvi_no_columns;
  more_columns = dvi_more_columns;
  fault = dvi_push_fault_is;
  nothing = dvi_nothing_yet;
  more = dvi_pushed;
  ended = dvi_closed;
  sendable = dvi_sendable_all;
  spelled = dvi_period_spelled;
  as_many = dvi_period_length;
  none_spelled = refl;
  of_none = λ columns h. h;
  first_spelled = λ p ps own rest h k. (own, rest, refl, h, k);
  of_first = λ p ps columns h. h;
}
