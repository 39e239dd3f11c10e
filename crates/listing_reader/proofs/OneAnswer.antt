-- A text has one answer.
use Rattle.std.proofs.Common.{◌≡◌, ℕ}
use Rattle.listing_reader.specs.declared.fault.ListCause.{ListCause}
use Rattle.listing_reader.specs.LineSteps.{Read, accepts, refuses}
use Rattle.listing_reader.specs.Laws.{OneAnswer}

accepted_once : (T : Type 0) (reading : Read T) (a b : T) → reading ≡ accepts a → reading ≡ accepts b → a ≡ b
accepted_once T reading a b p q = cc

not_both : (T : Type 0) (reading : Read T) (a : T) (line : ℕ) (cause : ListCause) → reading ≡ accepts a → reading ≡ refuses line cause → ⊥
not_both T reading a line cause p q = cc

refused_line : (T : Type 0) (reading : Read T) (m n : ℕ) (c d : ListCause) → reading ≡ refuses m c → reading ≡ refuses n d → m ≡ n
refused_line T reading m n c d p q = cc

refused_cause : (T : Type 0) (reading : Read T) (m n : ℕ) (c d : ListCause) → reading ≡ refuses m c → reading ≡ refuses n d → c ≡ d
refused_cause T reading m n c d p q = cc

pub one_answer : (T : Type 0) → OneAnswer T
one_answer T reading = (
  λ a b p q. accepted_once T reading a b p q,
  λ a fault p q. not_both T reading a fault.line fault.cause p q,
  λ f g p q. (refused_line T reading f.line g.line f.cause g.cause p q, refused_cause T reading f.line g.line f.cause g.cause p q),
)
