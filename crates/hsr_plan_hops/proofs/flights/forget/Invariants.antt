use Rattle.std.proofs.Common.{◌≡◌, drop}
use Rattle.hsr_plan_hops.proofs.flights.forget.Given as goal

abbrev pub invariant-loop-gone : goal.invariant-loop-gone
invariant-loop-gone l = l.flights.items ≡ drop l.gone l.fn.flights.items
