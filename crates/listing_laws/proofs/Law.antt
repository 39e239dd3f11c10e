-- Frames are recovered.
use Rattle.std.proofs.Common.{◌≡◌, ℕ, ◌+◌, ◌-◌, ◌≤◌, List, [], length, refl, ap, subst, ◌∙◌, arith}
use Rattle.island_pack.specs.Kinds.{Kind, EndsAt}
use Rattle.period_grammar.specs.Events.{Event}
use Rattle.link_laws.proofs.Freely.{free_received}
use Rattle.link_laws.proofs.Framing.{link_law}
use Rattle.source_end.specs.Raster.{parts_of, raster_of}
use Rattle.source_end.specs.Gathering.{size}
use Rattle.source_end.proofs.RasterModes.{good_mode, good_frames}
use Rattle.listing_writer.specs.Listed.{listed}
use Rattle.listing_laws.specs.FrameLaws.{FramesComeBack, FramesHeard}
use Rattle.listing_laws.proofs.Cells.{fresh, after}
use Rattle.listing_laws.proofs.Ready.{is_heard}
use Rattle.listing_laws.proofs.Starts.{gathered_kinds}
use Rattle.listing_laws.proofs.Rows.{seen}
use Rattle.listing_laws.proofs.From.{starts_at, frames_listed_from, StartsSync}
use Rattle.listing_laws.proofs.Arrived.{parts_arrived}
use Rattle.listing_laws.proofs.Fine.{flags, SparseFrom, flags_sparse}
use Rattle.listing_laws.proofs.ReceivedBack.{Scene, at_mid, fine_seen, start_same}
use Rattle.listing_laws.proofs.From.{size_mid}
use Rattle.listing_laws.proofs.Counting.{begins_parts}
use Rattle.listing_laws.proofs.Arrived.{arrived_size}

nothing : size [] ≡ 0
unfolding size
nothing = refl

pub frames_come_back : FramesComeBack
unfolding raster_of
frames_come_back mode frames fault sent received reception a m end le =
    let ok = good_mode mode frames fault in
    let are = good_frames mode frames fault in
    let same = reception.sparse.same_length in
    let long : a + m ≤ length sent = omega (arith, same, le) in
    let h = starts_at mode ok frames are (a + 11) (subst (λ (ks : List Kind). EndsAt ks (a + 11)) (gathered_kinds (parts_of mode frames)) end) in
    let place : size h.front ≡ a = omega (arith, h.place) in
    let n : size h.front ≡ a - 0 = omega (arith, h.place) in
    let arrived = parts_arrived (parts_of mode frames) sent received reception in
    let columns = arrived_size (parts_of mode frames) sent received arrived in
    let enough : 11 ≤ length sent = let k = size_mid mode.positive (parts_of mode frames) (begins_parts mode ok frames) in omega (arith, columns, k) in
    let sparse : SparseFrom (flags sent received) = record { before = []; sparse_after = flags_sparse sent received same enough reception.sparse.few_blue } in
    let last = is_heard mode.positive (after (seen sent received (a + m) a h.mid) fresh).heard in
    let scene : Scene mode frames sent received a (a + m) last = record { ok = ok; early = h.front; mid = h.mid; are = h.are; place = place; arrived = arrived; sparse = sparse; at_last = refl } in
    frames_listed_from mode frames (a + 11) h sent received a m place long le (fine_seen mode frames sent received a (a + m) last h.mid a scene (at_mid mode frames sent received a (a + m) last scene))
    ∙ start_same mode frames sent received a (a + m) last scene frames are 0 (omega arith) (record { before = []; are = refl; place = nothing }) (subst (λ (i : ℕ). StartsSync mode frames i h.mid) n h.sync_start)

pub frames_heard : FramesHeard
frames_heard mode frames fault sent received reception a m end le =
    ap (λ (events : List Event). listed events) (link_law (raster_of mode frames) sent received (free_received (raster_of mode frames) sent received reception) a m end)
    ∙ frames_come_back mode frames fault sent received reception a m end le
