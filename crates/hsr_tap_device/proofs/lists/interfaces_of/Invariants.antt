use Rattle.std.proofs.Common.{◌≡◌, []}
use Rattle.toml.specs.View.{members_view}
use Rattle.hsr_toml.specs.Fallible.{each_member}
use Rattle.hsr_tap_device.specs.Lists.{interface}
use Rattle.hsr_tap_device.proofs.lists.interfaces_of.Given as goal

abbrev pub invariant-loop-word : goal.invariant-loop-word
invariant-loop-word l =
    each_member (interface l.role) l.interfaces.items (members_view l.word-iterator) ≡ each_member (interface l.role) [] (members_view l.members.entries)
