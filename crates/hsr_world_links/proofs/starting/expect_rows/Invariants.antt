use Rattle.std.specs.Prelude.{◌≡◌, map}
use Rattle.hsr_world_links.specs.Views.{span_view}
use Rattle.hsr_world_links.proofs.starting.expect_rows.Given as goal

abbrev pub invariant-loop-i : goal.invariant-loop-i
invariant-loop-i l = map span_view l.spans ≡ map span_view l.fn.spans
