use Rattle.std.proofs.Common.{◌≡◌, ℕ, ◌<◌, ◌++◌}
use Rattle.hsr_timeline.specs.Fronts.{lists_of}
use Rattle.hsr_capture.specs.Capture.{interfaces_below}
use Rattle.hsr_capture.specs.Fits.{LinkFits}
use Rattle.hsr_capture.proofs.capturing.put_interfaces.Given as goal

abbrev pub invariant-loop-link : goal.invariant-loop-link
invariant-loop-link g l = record {
  bytes : l.text.items ≡ l.initial.text.items ++ interfaces_below (lists_of l.names) l.closed.run l.link;
  fits : (k : ℕ) → k < l.link → LinkFits (lists_of l.names) l.closed.run k;
}
