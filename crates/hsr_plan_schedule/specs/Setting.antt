-- Where the occasions of a plan take place, and how copies move there.
use Rattle.std.specs.Prelude.{ℕ, List}
use Rattle.hsr_topology.specs.declared.end.End.{End}
use Rattle.hsr_plan_text.specs.Plan.{Stream}
use Rattle.hsr_plan_text.specs.declared.plan.Moves.{Moves}
use Rattle.hsr_plan_network.specs.Nodes.{Node}
use Rattle.hsr_plan_schedule.specs.declared.publication.Publication.{Publication}

pub record Setting : Type 0 where
  pub moves : Moves
  -- how many copies wait in each direction of a link
  pub capacity : ℕ
  pub nodes : List Node
  pub links : List (List End)
  pub streams : List Stream
  pub publications : List Publication
  -- the moment 0, in seconds since 1970
  pub epoch : ℕ
