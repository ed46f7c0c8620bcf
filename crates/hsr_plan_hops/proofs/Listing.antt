-- Hops, one after another.
use Rattle.std.proofs.Common.{◌≡◌, ℕ, ◌+◌, ◌<◌, ◌&&◌, length, get_or, drop, List, ap}
use Rattle.std.proofs.lemmas.List.{drop_more}
use Rattle.std.specs.List.{list_all}
use Rattle.hsr_run_laws.specs.Run.{Run}
use Rattle.hsr_timeline.specs.declared.hop.Hop.{Hop}
use Rattle.hsr_plan_hops.specs.Hops.{is_in_time}

pub hops_step : (us : ℕ) (run : Run) (hops : List Hop) (i : ℕ) (d : Hop) → i < length hops
    → list_all (is_in_time us run) (drop i hops) ≡ is_in_time us run (get_or hops i d) && list_all (is_in_time us run) (drop (i + 1) hops)
hops_step us run hops i d h = ap (list_all (is_in_time us run)) (drop_more hops i d h)
