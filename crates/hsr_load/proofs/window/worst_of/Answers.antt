use Rattle.std.proofs.Common.{List, sym, subst}
use Rattle.std.specs.Prelude.{IsPermutation}
use Rattle.hsr_load.specs.declared.transit.Transit.{Transit}
use Rattle.hsr_load.proofs.Worst.{result_moved}
use Rattle.hsr_load.proofs.window.worst_of.Goals as goal

pub returns : goal.returns
returns c =
    let moved = subst (λ (xs : List Transit). IsPermutation c.args.transits.now xs) (sym c.as_slice.ensures.value) c.in_ok-list.ensures.same in
    result_moved c.worst_of_rising.result c.args.transits.now c.as_slice.result.now moved c.worst_of_rising.ensures
