use Rattle.std.proofs.Common.{◌≡◌, ◌<◌, ℕ, map}
use Rattle.hsr_world_links.specs.Giving.{IsReadyAt}
use Rattle.hsr_world_links.specs.Views.{span_view}
use Rattle.hsr_world_links.proofs.giving.prepare.Given as goal

abbrev pub invariant-loop-link : goal.invariant-loop-link
invariant-loop-link l = record {
  view : map span_view l.spans ≡ map span_view l.fn.spans;
  ready : (j : ℕ) → j < l.link-index → IsReadyAt l.node l.links l.spans j;
}
