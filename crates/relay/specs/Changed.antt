-- Control columns as they are settled: those from a place on get the control bits.
use Rattle.std.proofs.Common.{suc, zero}
use Rattle.std.specs.Prelude.{◌≡◌, ◌≤◌, ℕ, ◌-◌, List, [], ◌∷◌, ◌++◌, length, min, replicate}
use Rattle.relay.specs.Relayed.{with_ctl, announcing}

-- the values from place k on get the control bits
unfoldable pub changed_from : ℕ → ℕ → List ℕ → List ℕ
changed_from bits k [] = []
changed_from bits zero (v ∷ vs) = with_ctl bits v ∷ changed_from bits zero vs
changed_from bits (suc k) (v ∷ vs) = v ∷ changed_from bits k vs

-- columns of one value, of which the first `left` stay as they are
abbrev pub some_changed : ℕ → ℕ → ℕ → ℕ → List ℕ
some_changed bits left v n = replicate (min n left) v ++ replicate (n - min n left) (with_ctl bits v)

-- the preamble before a line or an island is that from the eighth place from the end on; with no place changed nothing is
abbrev pub AnnouncedFrom : Type 0
AnnouncedFrom = (bits : ℕ) (vs : List ℕ) → 8 ≤ length vs → announcing bits vs ≡ changed_from bits (length vs - 8) vs

abbrev pub ChangedNone : Type 0
ChangedNone = (bits : ℕ) (vs : List ℕ) → changed_from bits (length vs) vs ≡ vs
