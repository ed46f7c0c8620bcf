use Rattle.std.proofs.Common.{◌≡◌, ℕ, ◌<◌, ◌≤◌, None, get_or}
use Rattle.hsr_node.specs.Record.{Owner}
use Rattle.hsr_timeline.specs.Hops.{passed_from}
use Rattle.hsr_timeline.proofs.walk.next_pass.Given as goal

-- so far entries passed nothing
abbrev pub invariant-loop-at : goal.invariant-loop-at
invariant-loop-at l =
    let owner : Owner = record { number = l.fn.number; place = l.fn.place } in
    record {
      behind : l.fn.from ≤ l.at;
      nothing : (k : ℕ) → k < l.at → l.fn.from ≤ k → get_or (passed_from owner l.fn.port 0 l.entries) k None ≡ None;
    }
