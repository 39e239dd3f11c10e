-- Words and bytes have one outcome.
use Rattle.std.proofs.Common.{◌≡◌, ℕ, List, ◌∙◌, sym, subst, inl, inr}
use Rattle.std.specs.Prelude.{map}
use Rattle.island_pack.specs.Spelling.{Spells}
use Rattle.source_end.specs.DviPeriods.{DviSpells}
use Rattle.listing_reader.specs.Reading.{reads_as}
use Rattle.listing_reader.specs.DviReading.{dvi_reads_as}
use Rattle.listing_reader.specs.ContentReading.{content_reads_as}
use Rattle.link_sink.specs.Grammar.{link_grammar}
use Rattle.dvi_hearing.specs.DviGrammar.{dvi_grammar}
use Rattle.track_sink.specs.Epochs.{stray_rule}
use Rattle.track_sink.specs.StrayRule.{stray_is_rule}
use Rattle.relock_sink.specs.Refuting.{refuting_rule}
use Rattle.relock_sink.specs.RefuterRule.{refuting_is_rule}
use Rattle.command_line.specs.Commands.{IsCommand}
use Rattle.command_line.specs.declared.command.Command.{Command}
use Rattle.command_line.specs.declared.command.Command.TheVariants.{MakeLink, MakeContent, MakeDvi, RecoverLink, RecoverContent, RecoverTrack, RecoverRelock, RecoverContentRelock, RecoverBiphase, RecoverDvi, Check, Damage, Slip, ReadBiphase, Relay, Sample}
use Rattle.command_line.proofs.OneCommand.{command_once}
use Rattle.relay.proofs.OneSpelling.{one_spelling}
use Rattle.capture_commands.specs.Commands.{hit_asked, tap_asked}
use Rattle.capture_commands.specs.Listings.{link_listing, check_listing, content_listing, biphase_listing}
use Rattle.capture_commands.specs.TrackListings.{link_track_listing, content_track_listing}
use Rattle.hdmi_cli.specs.OneOutcome.{Decides, OneOutcome}
use Rattle.capture_commands.specs.Outcome.{RunOutcome, Does}
use Rattle.hdmi_cli.proofs.OneOutcomeCopies.{damages_once, lanes_asked, slips_once, frames_once}
use Rattle.hdmi_cli.proofs.OneOutcomeLists.{lists_once, tracks_once}
use Rattle.hdmi_cli.proofs.OneOutcomeMakes.{makes_once, content_once, one_dvi_spelling}
use Rattle.hdmi_cli.proofs.OneOutcomeRelays.{relays_once}
use Rattle.hdmi_cli.proofs.OneOutcomeSample.{samples_once}

-- a command that words name makes one outcome of bytes
does_once : (words : List (List ℕ)) (command : Command) (bytes : List ℕ) (o p : RunOutcome) → IsCommand words command → Decides command bytes → Does command bytes o → Does command bytes p → o ≡ p
does_once words (MakeLink tap) bytes o p named decides a b = makes_once Spells one_spelling (tap_asked tap) (reads_as bytes) o p a b
does_once words (MakeContent tap) bytes o p named decides a b = content_once (tap_asked tap) (content_reads_as bytes) o p a b
does_once words (MakeDvi tap) bytes o p named decides a b = makes_once DviSpells one_dvi_spelling (tap_asked tap) (dvi_reads_as bytes) o p a b
does_once words RecoverLink bytes o p named decides a b = lists_once link_grammar link_listing bytes o p a b
does_once words RecoverContent bytes o p named decides a b = lists_once link_grammar content_listing bytes o p a b
does_once words RecoverTrack bytes o p named decides a b = tracks_once stray_rule stray_is_rule link_track_listing bytes o p decides a b
does_once words RecoverRelock bytes o p named decides a b = tracks_once refuting_rule refuting_is_rule link_track_listing bytes o p decides a b
does_once words RecoverContentRelock bytes o p named decides a b = tracks_once refuting_rule refuting_is_rule content_track_listing bytes o p decides a b
does_once words (RecoverBiphase pair) bytes o p named decides a b = lists_once link_grammar (biphase_listing pair) bytes o p a b
does_once words RecoverDvi bytes o p named decides a b = lists_once dvi_grammar link_listing bytes o p a b
does_once words Check bytes o p named decides a b = lists_once link_grammar check_listing bytes o p a b
does_once words (Damage damages) bytes o p named decides a b = damages_once (map hit_asked damages) bytes o p (lanes_asked named.operands damages named.means.1.0) a b
does_once words (Slip slip) bytes o p named decides a b = slips_once slip bytes o p named.means.1.2.lane a b
does_once words ReadBiphase bytes o p named decides a b = frames_once bytes o p a b
does_once words Relay bytes o p named decides a b = relays_once bytes o p a b
does_once words (Sample frames) bytes o p named decides a b = samples_once frames o p a b

pub one_outcome : OneOutcome
one_outcome words text o p decides (inl (command, named, does)) (inl (other, again, others)) =
    does_once words command text o p named (decides command named) does (subst (λ (c : Command). Does c text p) (command_once words other command again named) others)
one_outcome words text o p decides (inl (command, named, does)) (inr (none, is)) = absurd (none command named)
one_outcome words text o p decides (inr (none, is)) (inl (command, named, does)) = absurd (none command named)
one_outcome words text o p decides (inr (none, is)) (inr (still, are)) = is ∙ sym are
