use Rattle.std.proofs.Common.{◌≡◌, []}
use Rattle.toml.specs.View.{members_view}
use Rattle.hsr_toml.specs.Fallible.{each_member}
use Rattle.hsr_plan_text.specs.Network.{redbox}
use Rattle.hsr_plan_text.proofs.network.redboxes_of.Given as goal

abbrev pub invariant-loop-word : goal.invariant-loop-word
invariant-loop-word l =
    each_member redbox l.redboxes.items (members_view l.word-iterator) ≡ each_member redbox [] (members_view l.members.entries)
