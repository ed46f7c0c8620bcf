-- What nodes under locks refuse.
use Rattle.std.proofs.Common.{ℕ, ◌≡◌, ◌⊎◌, ◌∙◌, Bool, true, false, if◌then◌else◌, nat_lt, List, length, Option, Some, None, Err, inl, inr, ap, sym, subst, refl}
use Rattle.std.proofs.lemmas.Bool.{false≢true}
use Rattle.hsr_node.specs.Cell.{IsLegalRecord}
use Rattle.hsr_node.specs.Kept.{Record, answer_to}
use Rattle.hsr_node.specs.declared.event.Carried.{Carried}
use Rattle.hsr_node.specs.declared.event.Event.{Event}
use Rattle.hsr_node.specs.declared.event.Event.TheVariants.{Arrive}
use Rattle.hsr_node.specs.declared.event.StepFault.{StepFault}
use Rattle.hsr_node.specs.declared.event.StepFault.TheVariants as refused
use Rattle.hsr_topology.specs.Topology.{Topology}
use Rattle.hsr_finished_run.specs.declared.planned.Planned.{Planned}
use Rattle.hsr_link.specs.declared.row.Dir.{Dir}
use Rattle.hsr_scenario.specs.declared.steps.Order.{Order}
use Rattle.hsr_scenario.specs.declared.steps.Order.TheVariants.{Step, Drain}
use Rattle.hsr_world_steps.specs.declared.step.Step.TheVariants.{Clock, Send, Supervise, Age, Put, Take, Judge, Cut, Mend, Inject}
use Rattle.hsr_world_steps.specs.Refused.{world_fault}
use Rattle.hsr_world_steps.specs.declared.step.WorldFault.{WorldFault}
use Rattle.hsr_world_steps.specs.declared.step.WorldFault.TheVariants.{NoSuchNode, NoSuchLink, NoSuchPort, Busy, Nothing, TooLong, Node, NoMemory}
use Rattle.hsr_runner.specs.Endings.{IsEnding, IsOrderEnd, IsPlanEnd, ending_of}
use Rattle.hsr_runner.specs.Faults.{IsRefusedPlan, if_link, if_node, misfit, too_long}
use Rattle.hsr_runner.specs.Plan.{planned_at}

-- what a node under a lock tells of a refusal
abbrev pub Told : ℕ → ℕ → Event → StepFault → Type 0
Told capacity at event fault = (fault ≡ refused.NoMemory) ⊎ ((r : Record) × IsLegalRecord capacity r × (answer_to capacity r at event ≡ Err fault))

pub copy_refused : (capacity at port : ℕ) (copy : Carried) (may_shut : Bool) (fault : StepFault) → Told capacity at (Arrive port copy) fault → IsEnding capacity may_shut (ending_of fault)
copy_refused capacity at port copy may_shut refused.NoMemory told = tt
copy_refused capacity at port copy may_shut refused.WrongEvent (inl e) = absurd cc
copy_refused capacity at port copy may_shut refused.WrongEvent (inr told) = (at, port, copy, told)
copy_refused capacity at port copy may_shut (refused.Send f) (inl e) = absurd cc
copy_refused capacity at port copy may_shut (refused.Send f) (inr told) = (at, port, copy, told)
copy_refused capacity at port copy may_shut refused.NotProxied (inl e) = absurd cc
copy_refused capacity at port copy may_shut refused.NotProxied (inr told) = (at, port, copy, told)
copy_refused capacity at port copy may_shut refused.Spent (inl e) = absurd cc
copy_refused capacity at port copy may_shut refused.Spent (inr told) = (at, port, copy, told)

pub plan_refused : (capacity : ℕ) (topology : Topology) (planned : Planned) (fault : StepFault) → Told capacity planned.at planned.event fault → IsPlanEnd capacity topology planned (world_fault fault)
plan_refused capacity topology planned refused.NoMemory told = tt
plan_refused capacity topology planned refused.WrongEvent (inl e) = absurd cc
plan_refused capacity topology planned refused.WrongEvent (inr told) = told
plan_refused capacity topology planned (refused.Send f) (inl e) = absurd cc
plan_refused capacity topology planned (refused.Send f) (inr told) = told
plan_refused capacity topology planned refused.NotProxied (inl e) = absurd cc
plan_refused capacity topology planned refused.NotProxied (inr told) = told
plan_refused capacity topology planned refused.Spent (inl e) = absurd cc
plan_refused capacity topology planned refused.Spent (inr told) = told

-- ---- orders

misfit_in : Topology → Option Planned → Option WorldFault
misfit_in topology None = None
misfit_in topology (Some planned) = if_node topology planned.node

-- what is planned of an order stands at its node
misfit_of : (topology : Topology) (at : ℕ) (o : Order) (planned : Planned) → planned_at at o ≡ Some planned → misfit topology o ≡ if_node topology planned.node
unfolding misfit_in
misfit_of topology at Drain planned is = absurd cc
misfit_of topology at (Step (Clock now)) planned is = absurd cc
misfit_of topology at (Step (Send node from dst vlan ethertype payload)) planned is = ap (misfit_in topology) is
misfit_of topology at (Step (Supervise node about)) planned is = ap (misfit_in topology) is
misfit_of topology at (Step (Age node)) planned is = ap (misfit_in topology) is
misfit_of topology at (Step (Put node port)) planned is = absurd cc
misfit_of topology at (Step (Take link dir)) planned is = absurd cc
misfit_of topology at (Step (Judge node port)) planned is = absurd cc
misfit_of topology at (Step (Cut link)) planned is = absurd cc
misfit_of topology at (Step (Mend link)) planned is = absurd cc
misfit_of topology at (Step (Inject link dir octets)) planned is = absurd cc

pub order_refused : (capacity : ℕ) (topology : Topology) (at : ℕ) (o : Order) (planned : Planned) (fault : WorldFault) → planned_at at o ≡ Some planned → IsPlanEnd capacity topology planned fault
    → IsOrderEnd capacity topology o fault
order_refused capacity topology at o planned NoMemory is end = tt
order_refused capacity topology at o planned (Node fault) is end = (at, subst (λ p. IsRefusedPlan capacity p fault) (sym is) end)
order_refused capacity topology at o planned NoSuchNode is end = misfit_of topology at o planned is ∙ end
order_refused capacity topology at o planned NoSuchLink is end = misfit_of topology at o planned is ∙ end
order_refused capacity topology at o planned NoSuchPort is end = misfit_of topology at o planned is ∙ end
order_refused capacity topology at o planned Busy is end = misfit_of topology at o planned is ∙ end
order_refused capacity topology at o planned Nothing is end = misfit_of topology at o planned is ∙ end
order_refused capacity topology at o planned TooLong is end = misfit_of topology at o planned is ∙ end

-- ---- steps that are refused whatever was done before

is_plain : Option WorldFault → Bool
is_plain (Some (Node fault)) = false
is_plain _ = true

if_plain : (b : Bool) (x y : Option WorldFault) → is_plain x ≡ true → is_plain y ≡ true → is_plain (if b then x else y) ≡ true
if_plain true x y h k = h
if_plain false x y h k = k

misfit_plain : (topology : Topology) (o : Order) → is_plain (misfit topology o) ≡ true
unfolding is_plain
misfit_plain topology Drain = refl
misfit_plain topology (Step (Clock now)) = refl
misfit_plain topology (Step (Send node from dst vlan ethertype payload)) = if_plain (nat_lt node (length topology.places)) None (Some NoSuchNode) refl refl
misfit_plain topology (Step (Supervise node about)) = if_plain (nat_lt node (length topology.places)) None (Some NoSuchNode) refl refl
misfit_plain topology (Step (Age node)) = if_plain (nat_lt node (length topology.places)) None (Some NoSuchNode) refl refl
misfit_plain topology (Step (Put node port)) = refl
misfit_plain topology (Step (Take link dir)) = refl
misfit_plain topology (Step (Judge node port)) = refl
misfit_plain topology (Step (Cut link)) = if_plain (nat_lt link (length topology.links)) None (Some NoSuchLink) refl refl
misfit_plain topology (Step (Mend link)) = if_plain (nat_lt link (length topology.links)) None (Some NoSuchLink) refl refl
misfit_plain topology (Step (Inject link dir octets)) =
    if_plain (nat_lt link (length topology.links)) (too_long octets) (Some NoSuchLink) (if_plain (nat_lt 2048 (length octets)) (Some TooLong) None refl refl) refl

pub misfit_refused : (capacity : ℕ) (topology : Topology) (o : Order) (fault : WorldFault) → misfit topology o ≡ Some fault → IsOrderEnd capacity topology o fault
unfolding is_plain
misfit_refused capacity topology o NoMemory is = tt
misfit_refused capacity topology o (Node fault) is = absurd (false≢true (sym (ap is_plain is) ∙ misfit_plain topology o))
misfit_refused capacity topology o NoSuchNode is = is
misfit_refused capacity topology o NoSuchLink is = is
misfit_refused capacity topology o NoSuchPort is = is
misfit_refused capacity topology o Busy is = is
misfit_refused capacity topology o Nothing is = is
misfit_refused capacity topology o TooLong is = is

pub inject_refused : (capacity : ℕ) (topology : Topology) (link : ℕ) (dir : Dir) (octets : List ℕ) (fault : WorldFault) → (fault ≡ NoMemory) ⊎ (if_link topology link (too_long octets) ≡ Some fault)
    → IsOrderEnd capacity topology (Step (Inject link dir octets)) fault
inject_refused capacity topology link dir octets fault (inl is) = subst (λ f. IsOrderEnd capacity topology (Step (Inject link dir octets)) f) (sym is) tt
inject_refused capacity topology link dir octets fault (inr is) = misfit_refused capacity topology (Step (Inject link dir octets)) fault is
