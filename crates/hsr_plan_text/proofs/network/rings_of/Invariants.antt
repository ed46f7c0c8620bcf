use Rattle.std.proofs.Common.{◌≡◌, []}
use Rattle.toml.specs.View.{members_view}
use Rattle.hsr_toml.specs.Fallible.{each_member}
use Rattle.hsr_plan_text.specs.Network.{ring}
use Rattle.hsr_plan_text.proofs.network.rings_of.Given as goal

abbrev pub invariant-loop-word : goal.invariant-loop-word
invariant-loop-word l =
    each_member ring l.rings.items (members_view l._word-iterator) ≡ each_member ring [] (members_view l.members.entries)
