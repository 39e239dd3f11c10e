-- What `make link` makes of the listing.
use Rattle.std.proofs.Common.{sym, subst}
use Rattle.std.specs.Prelude.{[]}
use Rattle.island_pack.specs.Spelling.{Spells}
use Rattle.capture_commands.specs.Outcome.{MakesLink}
use Rattle.capture_commands.specs.Relays.{whole_tap}
use Rattle.worked_rows.specs.Row.{IsMade, columns, capture}
use Rattle.worked_rows.proofs.Read.{read}
use Rattle.worked_rows.proofs.Captured.{captured}
use Rattle.worked_rows.proofs.Spelled.{spelled}

pub made : IsMade
made =
    subst (λ r. MakesLink Spells whole_tap r (record { status = 0; output = capture; note = [] })) (sym read)
    (columns, spelled, (λ i. record { status = 0; output = sym captured i; note = [] }))
