-- The turns of a drain and of a run, one after another.
use Rattle.std.proofs.Common.{◌≡◌, ℕ, ◌+◌, ◌<◌, suc, List, [], ◌∷◌, Some, Ok, refl, subst, arith, sym}
use Rattle.hsr_ring.specs.Stopping.{IsDrainFault, IsRefused, Runs, Stops}
use Rattle.hsr_world_laws.specs.World.{Drains, World, next_step, tried}
use Rattle.hsr_world_steps.specs.declared.step.DrainFault.TheVariants as fault
use Rattle.hsr_world_steps.specs.declared.step.Step.{Step}
use Rattle.hsr_world_steps.specs.declared.step.WorldFault.{WorldFault}

-- ---- a drain

abbrev pub GoesOn : ℕ → ℕ → World → World → Type 0
GoesOn capacity n w old = (m : ℕ) (v : World) → Drains capacity m w v → Drains capacity (n + m) old v

pub so_far : (capacity n : ℕ) (w old : World) → GoesOn capacity n w old → Drains capacity n old w
so_far capacity n w old h =
    let all : n + 0 ≡ n = omega arith in
    subst (λ k. Drains capacity k old w) all (h 0 w refl)

pub one_turn : (capacity n : ℕ) (w after old : World) (step : Step) → next_step w ≡ Some step → tried capacity w step ≡ Ok after → GoesOn capacity n w old → GoesOn capacity (n + 1) after old
one_turn capacity n w after old step next done h = λ m v d.
    let all : n + suc m ≡ n + 1 + m = omega arith in
    subst (λ k. Drains capacity k old v) all (h (suc m) v (step, after, next, done, d))

pub drain_refused : (capacity : ℕ) (old now new : World) (limit n : ℕ) (step : Step) (f : WorldFault) → next_step now ≡ Some step → new ≡ now → IsRefused capacity now step f → n < limit →
    Drains capacity n old now → IsDrainFault capacity old new limit (fault.World f)
drain_refused capacity old now new limit n step f next same why below h =
    subst (λ (w : World). IsDrainFault capacity old w limit (fault.World f)) (sym same) (n, below, h, (step, next, why))

pub drained_all : (capacity n limit : ℕ) (old w : World) → n ≡ limit → Drains capacity n old w → Drains capacity limit old w
drained_all capacity n limit old w all h = subst (λ k. Drains capacity k old w) all h

-- ---- a run

-- what is made of the steps that are left is made of all
pub record RunsOn (capacity : ℕ) (n : ℕ) (left steps : List Step) (w old : World) : Type 0 where
  pub runs : (v : World) → Runs capacity left w v → Runs capacity steps old v
  pub stops : (m : ℕ) (v : World) (f : WorldFault) → Stops capacity left m w v f → Stops capacity steps (n + m) old v f

pub run_turn : (capacity n : ℕ) (step : Step) (left more steps : List Step) (w after old : World) → left ≡ step ∷ more → tried capacity w step ≡ Ok after →
    RunsOn capacity n left steps w old → RunsOn capacity (n + 1) more steps after old
run_turn capacity n step left more steps w after old is done h = record {
  runs = λ v r. h.runs v (subst (λ ls. Runs capacity ls w v) (sym is) (after, done, r));
  stops = λ m v f s.
      let all : n + suc m ≡ n + 1 + m = omega arith in
      subst (λ k. Stops capacity steps k old v f) all (h.stops (suc m) v f (subst (λ ls. Stops capacity ls (suc m) w v f) (sym is) (after, done, s)));
}

pub run_all : (capacity n : ℕ) (left steps : List Step) (w old : World) → left ≡ [] → RunsOn capacity n left steps w old → Runs capacity steps old w
run_all capacity n left steps w old is h = h.runs w (subst (λ ls. Runs capacity ls w w) (sym is) refl)

pub run_stops : (capacity n : ℕ) (step : Step) (left more steps : List Step) (w after old : World) (f : WorldFault) → left ≡ step ∷ more → after ≡ w → IsRefused capacity w step f →
    RunsOn capacity n left steps w old → Stops capacity steps n old after f
run_stops capacity n step left more steps w after old f is same why h =
    let all : n + 0 ≡ n = omega arith in
    subst (λ k. Stops capacity steps k old after f) all (h.stops 0 after f (subst (λ ls. Stops capacity ls 0 w after f) (sym is) (same, why)))
