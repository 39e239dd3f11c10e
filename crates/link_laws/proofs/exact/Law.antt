-- The law, both ways.
use Rattle.std.proofs.Common.{sym, subst}
use Rattle.period_grammar.specs.Exact.{IsClean, IsFront, whole_part}
use Rattle.link_laws.specs.Exact.{CleanIsFront, CheckIsExact}
use Rattle.link_laws.proofs.exact.Building.{clean_front}
use Rattle.link_laws.proofs.exact.Fronts.{whole_is_front}
use Rattle.link_laws.proofs.exact.Arrivals.{front_is_clean}
use Rattle.link_laws.proofs.exact.Same.{clean_by_front}

pub clean_is_front : CleanIsFront
clean_is_front cs h = subst IsFront (sym (whole_is_front cs)) (clean_front cs h)

pub check_is_exact : CheckIsExact
check_is_exact cs = (clean_is_front cs, λ f. clean_by_front cs (subst IsClean (whole_is_front cs) (front_is_clean (whole_part cs) f)))
