-- How a contract sees the nodes and the spans of the code as a world.
use Rattle.std.specs.List.{range_with_len}
use Rattle.std.specs.Prelude.{ℕ, ◌≡◌, ◌≤◌, List, length, map, Result, Ok, Err}
use Rattle.hsr_node.specs.Kept.{Record, past_of}
use Rattle.hsr_world_laws.specs.Spans.{Span}
use Rattle.hsr_world_laws.specs.World.{World}
use Rattle.hsr_finished_run.specs.declared.planned.Planned.{Planned}
use Rattle.hsr_world_steps.specs.declared.step.WorldFault.{WorldFault}

abbrev pub in_world : World → Result (List Span) WorldFault → Result World WorldFault
in_world w (Ok spans) = Ok (record w { spans = spans })
in_world w (Err fault) = Err fault

-- each node has its index as its number, and the numbers of ports fit
pub record AreNumbered (nodes : List Record) : Type 0 where
  pub few : length nodes ≤ 64
  pub numbered : map (λ (r : Record). r.number) nodes ≡ range_with_len 0 (length nodes)

abbrev pub world_of : ℕ → List Record → List Span → List Planned → World
world_of moment nodes spans plan =
    record { moment = moment; places = map (λ (r : Record). r.place) nodes; records = map past_of nodes; spans = spans; plan = plan }
