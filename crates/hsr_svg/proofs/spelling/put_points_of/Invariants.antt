use Rattle.std.proofs.Common.{◌≡◌, ◌++◌, take}
use Rattle.std.specs.List.{flat_map}
use Rattle.hsr_svg.specs.Spelling.{point_text}
use Rattle.hsr_svg.proofs.spelling.put_points_of.Given as goal

abbrev pub invariant-loop-look : goal.invariant-loop-look
invariant-loop-look l = l.text.items ≡ l.initial.text.items ++ flat_map point_text (take l.look-index l.looks)
