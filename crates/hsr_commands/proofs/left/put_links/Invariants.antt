use Rattle.std.proofs.Common.{◌≡◌, ◌++◌, ◌≤◌}
use Rattle.hsr_commands.specs.OpenRun.{open_links}
use Rattle.hsr_commands.proofs.left.put_links.Given as goal

abbrev pub invariant-loop-link : goal.invariant-loop-link
invariant-loop-link g l = (l.text.items ≡ l.initial.text.items ++ open_links l.world l.link) × (l.link ≤ l.link-end)
