use Rattle.std.proofs.Common.{◌≡◌, []}
use Rattle.toml.specs.View.{members_view}
use Rattle.hsr_toml.specs.Fallible.{each_member}
use Rattle.hsr_plan_text.specs.Network.{address}
use Rattle.hsr_plan_text.proofs.network.addresses_of.Given as goal

abbrev pub invariant-loop-word : goal.invariant-loop-word
invariant-loop-word l =
    each_member address l.addresses.items (members_view l.word-iterator) ≡ each_member address [] (members_view l.members.entries)
