use Rattle.std.proofs.Common.{◌≡◌, ◌<◌, ℕ, length, slice_index_or, Some}
use Rattle.hsr_routes.specs.Numbered.{channel_at}
use Rattle.hsr_routes.specs.Routes.{bare, heading, sender_at}
use Rattle.hsr_faults.specs.Onward.{AreFollowing}
use Rattle.hsr_faults.specs.declared.channels.Channels.{Channels}
use Rattle.hsr_faults.proofs.onward.Onward.new.Given as goal

abbrev pub invariant-loop-number : goal.invariant-loop-number
invariant-loop-number l = (length l.next.items ≡ l.number)
    × ((n : ℕ) (d : Channels) → n < l.number → AreFollowing (bare l.topology.places l.topology.links) (sender_at l.frame.sender) (heading l.frame.dst l.frame.kind) (Some (channel_at n)) (slice_index_or l.next.items n d).words)
