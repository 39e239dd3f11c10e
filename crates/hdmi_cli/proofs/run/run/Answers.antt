use Rattle.std.proofs.Common.{rules}
use Rattle.capture_commands.specs.Endings.{note_of, seen}
use Rattle.command_line.specs.declared.command.Command.TheVariants.{RecoverLink, RecoverContent, RecoverTrack, RecoverRelock, RecoverContentRelock, Check}
use Rattle.capture_commands.specs.Listings.{link_listing, content_listing, check_listing}
use Rattle.capture_commands.specs.TrackListings.{link_track_listing, content_track_listing}
use Rattle.capture_commands.specs.Listers.{after_link, last_link, link_is_text, after_content, content_is_text, after_check, last_check, check_is_text}
use Rattle.hdmi_cli.specs.Headline.{Aligns, StaysAligned}
use Rattle.hdmi_cli.proofs.Ends.{says}
use Rattle.hdmi_cli.proofs.Exact.{check_is_exact}
use Rattle.hdmi_cli.proofs.Headline.{headlined, headlined_anywhere, dvi_headlined, recovered}
use Rattle.hdmi_cli.proofs.Beside.{beside_locally}
use Rattle.hdmi_cli.proofs.DviLocal.{dvi_headlined_locally}
use Rattle.hdmi_cli.proofs.Local.{headlined_locally}
use Rattle.hdmi_cli.proofs.LocalPackets.{packeted_locally}
use Rattle.hdmi_cli.proofs.LocalPictures.{pictured_locally}
use Rattle.hdmi_cli.proofs.RelayAgain.{relay_again}
use Rattle.hdmi_cli.proofs.RelayClean.{relay_passes}
use Rattle.hdmi_cli.proofs.RelayHeadline.{relay_headlined}
use Rattle.hdmi_cli.proofs.RelayLocal.{relayed_locally}
use Rattle.hdmi_cli.proofs.RelaySettles.{relay_agrees, relay_settles}
use Rattle.capture_commands.proofs.Taken.{run_refused, run_wants}
use Rattle.hdmi_cli.proofs.TrackHeadline.{stays_aligns, tracks_as_link, relocks_as_link, relocks_as_content}
use Rattle.hdmi_cli.proofs.TrackLocal.{tracked_locally}
use Rattle.hdmi_cli.proofs.TrackSlip.{tracked_across, relocked_across, content_relocked_across}
use Rattle.hdmi_cli.proofs.TrackPasses.{tracked_as_one, relocked_as_one, content_relocked_as_one}
use Rattle.hdmi_cli.proofs.RelockAmid.{listed_alone}
use Rattle.hdmi_cli.proofs.RelockWhole.{listed_at_whole}
use Rattle.hdmi_cli.proofs.RelockLocal.{clear_is_uncontended, relocked_locally, content_relocked_locally}
use Rattle.hdmi_cli.proofs.Fields.{fielded}
use Rattle.hdmi_cli.proofs.Pictures.{packeted, pictured}
use Rattle.hdmi_cli.proofs.Sounds.{sounded}
use Rattle.relay.proofs.Accounting.{relayed_account}
use Rattle.relay.proofs.Below.{facts}
use Rattle.relay.proofs.Local.{line_relayed, island_relayed}
use Rattle.relay.proofs.Own.{relayed_again, whole_relayed}
use Rattle.hdmi_cli.proofs.run.run.Goals as goal

pub returns : goal.returns
returns g c =
    let before = seen (g.S.Source.left c.args.input.now) (g.S.Source.faults c.args.input.now) (g.K.Sink.held c.args.output.now) (g.K.Sink.faults c.args.output.now) in
    let after = seen (g.S.Source.left c.carry_out-ending.new.input) (g.S.Source.faults c.carry_out-ending.new.input) (g.K.Sink.held c.carry_out-ending.new.output) (g.K.Sink.faults c.carry_out-ending.new.output) in
    let words = c.args.words.now in
    let ending = c.carry_out-ending.result in
    let ends = c.carry_out-ending.ensures.ends in
    let status = c.status.result in
    let known = c.status.ensures in
    let s = says words ending before after status ends known in
    record {
      status = s.status_known;
      outcome = s.outcome;
      usage = s.usage;
      unnamed = s.unnamed;
      done = s.done;
      read_failed = s.read_failed;
      write_failed = s.write_failed;
      memory = s.memory;
      taken = c.carry_out-ending.ensures.taken;
      ended = s.ended;
      unread = s.unread;
      unwritten = s.unwritten;
      refused = s.refused;
      refused_at = run_refused words ending before after status ends known;
      relay_memory = run_wants words ending before after status ends known;
      cut_short = s.cut_short;
      part = s.part;
      sampled = s.sampled;
      theorem = record {
        headline = headlined words ending before after status ends known;
        headline_anywhere = headlined_anywhere words ending before after status ends known;
        headline_local = headlined_locally link_listing after_link last_link link_is_text RecoverLink (λ bytes o does. does) words ending before after status ends known;
        check_exact = check_is_exact words before after status (note_of ending) s;
        content_headline = recovered Aligns (λ t aligns. aligns) content_listing RecoverContent (λ t tapped aligns o does. does) words ending before after status ends known;
        pictures = pictured Aligns (λ t aligns. aligns) RecoverContent (λ t tapped aligns o does. does) words ending before after status ends known;
        packets = packeted Aligns (λ t aligns. aligns) RecoverContent (λ t tapped aligns o does. does) words ending before after status ends known;
        fields = fielded Aligns (λ t aligns. aligns) RecoverContent (λ t tapped aligns o does. does) words ending before after status ends known;
        content_local = headlined_locally content_listing after_content last_link content_is_text RecoverContent (λ bytes o does. does) words ending before after status ends known;
        check_local = headlined_locally check_listing after_check last_check check_is_text Check (λ bytes o does. does) words ending before after status ends known;
        pictures_local = pictured_locally words ending before after status ends known;
        packets_local = packeted_locally words ending before after status ends known;
        packets_beside = beside_locally words ending before after status ends known;
        biphase_headline = sounded words ending before after status ends known;
        dvi_headline = dvi_headlined words ending before after status ends known;
        dvi_local = dvi_headlined_locally words ending before after status ends known;
        track_headline = recovered Aligns (λ t aligns. aligns) link_listing RecoverTrack tracks_as_link words ending before after status ends known;
        track_local = tracked_locally words ending before after status ends known;
        track_slip = tracked_across words ending before after status ends known;
        track_slip_passes = tracked_as_one words ending before after status ends known;
        relock_headline = recovered StaysAligned stays_aligns link_listing RecoverRelock relocks_as_link words ending before after status ends known;
        relock_slip = relocked_across words ending before after status ends known;
        relock_slip_passes = relocked_as_one words ending before after status ends known;
        relock_local = λ named t until tapped aligns clear.
            relocked_locally words ending before after status ends known named t until tapped aligns (clear_is_uncontended t until tapped aligns clear);
        relock_uncontended = relocked_locally words ending before after status ends known;
        relock_at_whole = listed_at_whole words ending before after status ends known;
        relock_local_at_whole = listed_alone link_track_listing RecoverRelock (λ bytes o does. does) words ending before after status ends known;
        content_relock_headline = recovered StaysAligned stays_aligns content_listing RecoverContentRelock relocks_as_content words ending before after status ends known;
        content_relock_pictures = pictured StaysAligned stays_aligns RecoverContentRelock relocks_as_content words ending before after status ends known;
        content_relock_packets = packeted StaysAligned stays_aligns RecoverContentRelock relocks_as_content words ending before after status ends known;
        content_relock_fields = fielded StaysAligned stays_aligns RecoverContentRelock relocks_as_content words ending before after status ends known;
        content_relock_local = λ named t until tapped aligns clear.
            content_relocked_locally words ending before after status ends known named t until tapped aligns (clear_is_uncontended t until tapped aligns clear);
        content_relock_uncontended = content_relocked_locally words ending before after status ends known;
        content_relock_local_at_whole = listed_alone content_track_listing RecoverContentRelock (λ bytes o does. does) words ending before after status ends known;
        content_relock_slip = content_relocked_across words ending before after status ends known;
        content_relock_slip_passes = content_relocked_as_one words ending before after status ends known;
        relay_headline = relay_headlined (relayed_account facts) words ending before after status ends known;
        relay_local = relayed_locally (line_relayed facts) (island_relayed facts) words ending before after status ends known;
        relay_clean = relay_passes (whole_relayed facts) words ending before after status ends known;
        relay_clean_columns = relay_agrees (whole_relayed facts) words ending before after status ends known;
        relay_again = relay_again (relayed_again facts) words ending before after status ends known;
        relay_settles = relay_settles (relayed_again facts) words ending before after status ends known;
      };
      notes = (note_of ending, s.noted, c.write_note.ensures.whole, c.write_note.ensures.part);
      input_later = search rules;
      output_later = search rules;
      notes_later = search rules;
    }
