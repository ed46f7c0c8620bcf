-- How the threads of a run end.
use Rattle.std.proofs.Common.{ℕ, ◌≡◌, ◌≤◌, Bool, true, false, subst, List, length, None, IfSome, Vec, inl, inr, refl, arith}
use Rattle.std.specs.Global.{Global}
use Rattle.hsr_node.specs.Kept.{Receipts, Record}
use Rattle.hsr_link.specs.declared.row.Row.{Row}
use Rattle.hsr_topology.specs.Topology.{Topology}
use Rattle.hsr_finished_run.specs.declared.planned.Planned.{Planned}
use Rattle.hsr_scenario.specs.Meaning.{Meant}
use Rattle.hsr_world_steps.specs.declared.step.WorldFault.TheVariants as world
use Rattle.hsr_runner.specs.Endings.{IsCheckFault, IsConducted, IsEnding, IsPlayFault, fault_of, worker_fault}
use Rattle.hsr_finished_run.specs.Finished.{Finished}
use Rattle.hsr_finished_run.specs.declared.disagree.Disagree.{Disagree}
use Rattle.hsr_runner.specs.Brought.{IsUnlike}
use Rattle.hsr_runner.specs.Faults.{AllFit, IsCause, IsRunFault, is_fine_step}
use Rattle.hsr_runner.specs.Plan.{plan_of}
use Rattle.hsr_runner.specs.Runs.{IsRunOf}
use Rattle.hsr_runner.specs.declared.conduct.Conducted.{Conducted}
use Rattle.hsr_runner.specs.declared.conduct.Conducted.TheVariants.{All, Left, Own}
use Rattle.hsr_runner.specs.declared.conduct.Conducted.TheVariants as conducted
use Rattle.hsr_runner.specs.declared.fault.RunFault.{RunFault}
use Rattle.hsr_runner.specs.declared.fault.RunFault.TheVariants as fault
use Rattle.hsr_runner.specs.declared.ending.Ending.{Ending}
use Rattle.hsr_runner.specs.declared.ending.Ending.TheVariants.{Stopped, Shut, Refused, NoMemory}

-- who ends as one with a gate that is always open ends as one with any gate
pub unshut : (capacity : ℕ) (may_shut : Bool) (ending : Ending) → IsEnding capacity false ending → IsEnding capacity may_shut ending
unshut capacity may_shut Stopped h = tt
unshut capacity may_shut Shut h = absurd cc
unshut capacity may_shut (Refused fault) h = h
unshut capacity may_shut NoMemory h = tt

worker_end : (capacity : ℕ) (may_shut : Bool) (s : Meant) (k : ℕ) (ending : Ending) → k ≤ length s.steps → IsEnding capacity may_shut ending → IfSome (worker_fault k ending) (λ f. IsPlayFault capacity may_shut s f)
worker_end capacity may_shut s k Stopped below h = tt
worker_end capacity may_shut s k Shut below h = h
worker_end capacity may_shut s k (Refused fault) below h = (below, inr h)
worker_end capacity may_shut s k NoMemory below h = tt

pub play_fault : (capacity : ℕ) (may_shut : Bool) (s : Meant) (c : Conducted) (ending : Ending) → IsConducted capacity may_shut s c → IsEnding capacity may_shut ending
    → IfSome (fault_of c ending (length s.steps)) (λ f. IsPlayFault capacity may_shut s f)
play_fault capacity may_shut s All ending c h = worker_end capacity may_shut s (length s.steps) ending (omega arith) h
play_fault capacity may_shut s (Left k) Stopped c h = tt
play_fault capacity may_shut s (Left k) Shut c h = h
play_fault capacity may_shut s (Left k) (Refused f) c h = (c, inr h)
play_fault capacity may_shut s (Left k) NoMemory c h = tt
play_fault capacity may_shut s (Own k world.NoMemory) ending c h = tt
play_fault capacity may_shut s (Own k (world.Node f)) ending c h = (omega (arith, c.0), inl c.1)
play_fault capacity may_shut s (Own k world.NoSuchNode) ending c h = (omega (arith, c.0), inl c.1)
play_fault capacity may_shut s (Own k world.NoSuchLink) ending c h = (omega (arith, c.0), inl c.1)
play_fault capacity may_shut s (Own k world.NoSuchPort) ending c h = (omega (arith, c.0), inl c.1)
play_fault capacity may_shut s (Own k world.Busy) ending c h = (omega (arith, c.0), inl c.1)
play_fault capacity may_shut s (Own k world.Nothing) ending c h = (omega (arith, c.0), inl c.1)
play_fault capacity may_shut s (Own k world.TooLong) ending c h = (omega (arith, c.0), inl c.1)
play_fault capacity may_shut s conducted.Shut ending c h = c
play_fault capacity may_shut s conducted.NoThread ending c h = tt
play_fault capacity may_shut s conducted.NoMemory ending c h = tt

-- where there is a run, each step fits
pub all_fit : (capacity : ℕ) (may_shut : Bool) (s : Meant) (c : Conducted) (ending : Ending) (last : ℕ) → IsConducted capacity may_shut s c → fault_of c ending last ≡ None
    → AllFit s.topology s.steps
all_fit capacity may_shut s All ending last c is = c
all_fit capacity may_shut s (Left k) Stopped last c is = absurd cc
all_fit capacity may_shut s (Left k) Shut last c is = absurd cc
all_fit capacity may_shut s (Left k) (Refused f) last c is = absurd cc
all_fit capacity may_shut s (Left k) NoMemory last c is = absurd cc
all_fit capacity may_shut s (Own k world.NoMemory) ending last c is = absurd cc
all_fit capacity may_shut s (Own k (world.Node f)) ending last c is = absurd cc
all_fit capacity may_shut s (Own k world.NoSuchNode) ending last c is = absurd cc
all_fit capacity may_shut s (Own k world.NoSuchLink) ending last c is = absurd cc
all_fit capacity may_shut s (Own k world.NoSuchPort) ending last c is = absurd cc
all_fit capacity may_shut s (Own k world.Busy) ending last c is = absurd cc
all_fit capacity may_shut s (Own k world.Nothing) ending last c is = absurd cc
all_fit capacity may_shut s (Own k world.TooLong) ending last c is = absurd cc
all_fit capacity may_shut s conducted.Shut ending last c is = absurd cc
all_fit capacity may_shut s conducted.NoThread ending last c is = absurd cc
all_fit capacity may_shut s conducted.NoMemory ending last c is = absurd cc

-- what is known of a fault that threads leave
pub run_fault : (capacity : ℕ) (may_shut : Bool) (s : Meant) (f : RunFault) → IsPlayFault capacity may_shut s f → IsRunFault capacity s f
run_fault capacity may_shut s (fault.FineStep k) h = absurd h
run_fault capacity may_shut s fault.GateShut h = tt
run_fault capacity may_shut s (fault.Step k f) h = h
run_fault capacity may_shut s fault.Thread h = h
run_fault capacity may_shut s (fault.Check c) h = h
run_fault capacity may_shut s fault.NoMemory h = h

pub not_fine : (capacity : ℕ) (may_shut : Bool) (s : Meant) (f : RunFault) → IsPlayFault capacity may_shut s f → is_fine_step f ≡ false
not_fine capacity may_shut s (fault.FineStep k) h = absurd h
not_fine capacity may_shut s fault.GateShut h = refl
not_fine capacity may_shut s (fault.Step k f) h = refl
not_fine capacity may_shut s fault.Thread h = refl
not_fine capacity may_shut s (fault.Check c) h = refl
not_fine capacity may_shut s fault.NoMemory h = refl

-- a shut gate is answered only where it may shut
pub shuts : (capacity : ℕ) (may_shut : Bool) (s : Meant) (f : RunFault) → IsPlayFault capacity may_shut s f → f ≡ fault.GateShut → may_shut ≡ true
shuts capacity may_shut s f h is = subst (λ g. IsPlayFault capacity may_shut s g) is h

-- what the closing check leaves of the scenario's nodes, links and plan is a fault as well that threads may leave
pub check_fault : (capacity : ℕ) (may_shut : Bool) (s : Meant) (topology : Topology) (kept : List Record) (rows : List (Vec Row Global)) (passes : List Receipts) (plan : List Planned) (f : RunFault)
    → topology ≡ s.topology → plan ≡ plan_of s.steps → IsCheckFault capacity topology kept rows passes plan f → IsPlayFault capacity may_shut s f
check_fault capacity may_shut s topology kept rows passes plan (fault.FineStep k) here planned h = absurd h
check_fault capacity may_shut s topology kept rows passes plan fault.GateShut here planned h = absurd h
check_fault capacity may_shut s topology kept rows passes plan (fault.Step k f) here planned h = absurd h
check_fault capacity may_shut s topology kept rows passes plan fault.Thread here planned h = absurd h
check_fault capacity may_shut s topology kept rows passes plan (fault.Check d) here planned h =
    inl (subst (λ t. IsCause capacity t (plan_of s.steps) d) here (subst (λ p. IsCause capacity topology p d) planned (record { kept = kept; rows = rows; passes = passes; first = h })))
check_fault capacity may_shut s topology kept rows passes plan fault.NoMemory here planned h = tt

-- and so is what the look behind it leaves
pub unlike_fault : (capacity : ℕ) (s : Meant) (f : Finished) (d : Disagree) → IsRunOf capacity s f → IsUnlike f.run s.steps d → IsRunFault capacity s (fault.Check d)
unlike_fault capacity s f d is_run unlike = inr (record { finished = f; is_run = is_run; unlike = unlike })
