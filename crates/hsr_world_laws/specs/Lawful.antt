-- What holds of a world that was reached by steps from the first one of its topology on.
--     links_of      how its links join ports
--     finished_of   the finished run that it is, with its plan
--     IsLawful      what holds of it, whatever was done
--     IsEnded       nothing is under way, and nothing was injected
use Rattle.std.specs.Prelude.{ℕ, ◌≡◌, false, List, [], ◌∷◌, map}
use Rattle.hsr_run_laws.specs.Closed.{IsOfSend}
use Rattle.hsr_finished_run.specs.Finished.{Finished, IsPlanned}
use Rattle.hsr_run_laws.specs.Premises.{NumberedFirst}
use Rattle.hsr_topology.specs.declared.end.End.{End}
use Rattle.hsr_world_laws.specs.Closing.{IsQuiet, run_of}
use Rattle.hsr_world_laws.specs.Law.{IsSound}
use Rattle.hsr_world_laws.specs.Spans.{Span}
use Rattle.hsr_world_laws.specs.Origin.{EachCopy, is_injected}
use Rattle.hsr_world_laws.specs.World.{World}

abbrev pub ends_of : Span → List End
ends_of span = span.forth.from ∷ span.forth.to ∷ []

abbrev pub links_of : List Span → List (List End)
links_of spans = map ends_of spans

-- its records, rows and plan, the oldest first
abbrev pub finished_of : ℕ → World → Finished
finished_of capacity w = record { run = run_of capacity (links_of w.spans) w; plan = w.plan }

-- It is sound, and its plan is what its records tell of the main worker. Where nothing was injected each copy is of a send, with
-- its frame and its number, and a RedBox numbers a send of its Station before anything tagged of it comes, and once.
pub record IsLawful (capacity : ℕ) (w : World) : Type 0 where
  pub sound : IsSound capacity w
  pub planned : IsPlanned (finished_of capacity w).run w.plan
  pub of_send : is_injected w.spans ≡ false → EachCopy (IsOfSend (finished_of capacity w).run) w
  pub numbered_first : is_injected w.spans ≡ false → NumberedFirst (finished_of capacity w).run

pub record IsEnded (w : World) : Type 0 where
  pub quiet : IsQuiet w
  pub own : is_injected w.spans ≡ false
