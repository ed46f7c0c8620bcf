use Rattle.std.proofs.Common.{List, subst}
use Rattle.std.specs.Prelude.{IsPermutation}
use Rattle.hsr_load.specs.declared.transit.Transit.{Transit}
use Rattle.hsr_load.proofs.window.rising.Goals as goal

pub returns-clause-same : goal.returns-clause-same
returns-clause-same c = subst (λ (xs : List Transit). IsPermutation xs c.sort.new.transits.items) c.in_ok-list.ensures c.sort.ensures.same
