-- The marks of nodes that go off or come on, on their lines.
--     switch_shapes   those of one change
use Rattle.std.specs.Prelude.{ℕ, ◌==◌, if◌then◌else◌, List, []}
use Rattle.std.specs.List.{flat_map}
use Rattle.hsr_downs.specs.declared.switching.Switch.{Switch}
use Rattle.hsr_diagram_layout.specs.Shades.{mark_if}
use Rattle.hsr_diagram_text.specs.Labels.{switch_word}
use Rattle.hsr_svg.specs.Elements.{Shape}

-- on a line of a node
abbrev pub switch_if : List ℕ → Switch → ℕ → List Shape
switch_if moments switch node = if node == switch.node then mark_if moments (switch_word switch.is_off) switch.change else []

-- one on each line of its node, of lines of these nodes
abbrev pub switch_shapes : List ℕ → List ℕ → Switch → List Shape
switch_shapes moments nodes switch = flat_map (switch_if moments switch) nodes
