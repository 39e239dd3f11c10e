-- Where `relay` passes the limit on the way, what is relayed of the whole capture passes it too.
use Rattle.std.proofs.Common.{◌≡◌, ℕ, ◌<◌, ◌≤◌, Bool, List, [], length, refl, ap, sym, ◌∙◌, subst, inl, inr, arith}
use Rattle.capture_file.specs.Captures.{IsCaptureOf}
use Rattle.capture_file.specs.Laws.{AreSame}
use Rattle.capture_file.proofs.OneCapture.{one_capture}
use Rattle.island_pack.specs.Periods.{columns_of}
use Rattle.island_pack.specs.declared.ranges.TheConstants.{COLUMN_LIMIT}
use Rattle.lane_deskew.specs.Aligned.{aligned_columns}
use Rattle.lane_deskew.specs.Triples.{IsFirst, IsTriple}
use Rattle.lane_deskew.proofs.Fed.{first_stays}
use Rattle.period_grammar.specs.Heard.{heard}
use Rattle.period_grammar.specs.Events.{Event}
use Rattle.link_sink.specs.Alignment.{IsAlignedReported}
use Rattle.link_sink.specs.Grammar.{link_grammar}
use Rattle.link_sink.specs.LinkHearing.{link_is_grammar}
use Rattle.link_sink.specs.Sinks.{Fed, IsReportedSoFar}
use Rattle.relay.specs.Laws.{turns_in}
use Rattle.relay.specs.Relayed.{without_faults, kept_from, kept, nulled, gathered, relayed}
use Rattle.relay.proofs.Going.{stream_columns}
use Rattle.relay.proofs.Growing.{columns_grow}
use Rattle.link_laws.specs.Growth.{AreGrown, Begins}
use Rattle.capture_commands.specs.Relays.{PassesLimit}
use Rattle.link_laws.proofs.Growth.{whole_grows}
use Rattle.hdmi_cli.proofs.Headline.{aligned_same}
use Rattle.hdmi_cli.proofs.RelayBlocks.{LanesBegin, blocks_begin}

abbrev lanes : List Bool → List Bool → List Bool → Fed
lanes x y z = record { blue = x; green = y; red = z }

-- the first blocks of a capture have the first bits of its lanes
grown : (x y z : List Bool) (fed : Fed) → LanesBegin x y z fed.blue fed.green fed.red → AreGrown fed (lanes x y z)
grown x y z fed h = record { blue = h.blue; green = h.green; red = h.red }

-- the same is reported of the same lanes
pub same_reported : (x y z u v w : List Bool) (columns : ℕ) (events : List Event) → AreSame x y z u v w → IsAlignedReported u v w columns events → IsAlignedReported x y z columns events
same_reported x y z u v w columns events same h =
    subst (λ a. IsAlignedReported a y z columns events) (sym same.blue) (subst (λ b. IsAlignedReported u b z columns events) (sym same.green) (subst (λ c. IsAlignedReported u v c columns events) (sym same.red) h))

pub more_passes : (events all : List Event) → Begins events all → COLUMN_LIMIT < columns_of (relayed events) → COLUMN_LIMIT < columns_of (relayed all)
more_passes events all b passes = grind (arith, columns_grow)

-- what is reported of the aligned columns, all of them, is relayed past the limit
pub passes_whole : (x y z : List Bool) (d e f : ℕ) (bytes : List ℕ) → IsCaptureOf x y z bytes → IsFirst x y z d e f → PassesLimit bytes
    → COLUMN_LIMIT < columns_of (relayed (heard (aligned_columns x y z d e f)))
passes_whole x y z d e f bytes captured first p = elim (p.reported) [
  | inl (taken, rest, counts, j, split, has, reported) ↦
      let begin = blocks_begin x y z p.fed.blue p.fed.green p.fed.red bytes taken rest counts j _ captured split has in
      let whole = whole_grows link_grammar link_is_grammar p.fed (lanes x y z) (length (aligned_columns x y z d e f)) p.events (heard (aligned_columns x y z d e f)) (grown x y z p.fed begin) reported
      (record { blue = d; green = e; red = f; first = first; columns_are = refl; reported = refl }) in
      more_passes p.events (heard (aligned_columns x y z d e f)) whole p.passes
  | inr (columns, is, reported) ↦
      let own = same_reported x y z p.fed.blue p.fed.green p.fed.red columns p.events (one_capture x y z p.fed.blue p.fed.green p.fed.red bytes captured is) reported in
      let all : p.events ≡ heard (aligned_columns x y z d e f) = own.reported ∙ ap heard (aligned_same x y z own.blue own.green own.red d e f own.first first) in
      subst (λ ts. COLUMN_LIMIT < columns_of (relayed ts)) all p.passes
]

none_columns : columns_of (relayed []) ≤ COLUMN_LIMIT
unfolding turns_in gathered nulled kept without_faults kept_from
none_columns = let e = stream_columns [] in omega (arith, e)

none_reported : (x y z : List Bool) (fed : Fed) (events : List Event) → ((d e f : ℕ) → IsTriple x y z d e f → ⊥) → LanesBegin x y z fed.blue fed.green fed.red → IsReportedSoFar fed events → events ≡ []
none_reported x y z fed events nowhere h (inl (d, e, f, first, reported)) = absurd (nowhere d e f (first_stays _ _ _ _ _ _ d e f h.blue h.green h.red first).triple)
none_reported x y z fed events nowhere h (inr (none, reported)) = reported

-- and where the lanes are aligned nowhere the limit is not passed
pub passes_nowhere : (x y z : List Bool) (bytes : List ℕ) → IsCaptureOf x y z bytes → ((d e f : ℕ) → IsTriple x y z d e f → ⊥) → PassesLimit bytes → ⊥
passes_nowhere x y z bytes captured nowhere p = elim (p.reported) [
  | inl (taken, rest, counts, j, split, has, reported) ↦
      let begin = blocks_begin x y z p.fed.blue p.fed.green p.fed.red bytes taken rest counts j _ captured split has in
      let passes = subst (λ ts. COLUMN_LIMIT < columns_of (relayed ts)) (none_reported x y z p.fed p.events nowhere begin reported) p.passes in
      omega (arith, passes, none_columns)
  | inr (columns, is, reported) ↦
      let own = same_reported x y z p.fed.blue p.fed.green p.fed.red columns p.events (one_capture x y z p.fed.blue p.fed.green p.fed.red bytes captured is) reported in
      nowhere own.blue own.green own.red own.first.triple
]
