-- A copy that comes to its end now is taken next.
use Rattle.std.proofs.Common.{◌≡◌, ℕ, ◌||◌, List, Option, Some, Bool, true, false, not, ap, refl, subst, sym}
use Rattle.std.proofs.lemmas.Bool.{eq-eqb}
use Rattle.hsr_link.specs.Rows.{is_same_dir}
use Rattle.hsr_link.specs.declared.row.Dir.{Dir}
use Rattle.hsr_link.specs.declared.row.Dir.TheVariants.{Forth, Back}
use Rattle.hsr_scenario.specs.declared.steps.Order.{Order}
use Rattle.hsr_topology.specs.declared.end.End.{End}
use Rattle.hsr_world_steps.specs.declared.step.Step.TheVariants.{Put, Take}
use Rattle.hsr_world_steps.specs.declared.step.Step as steps
use Rattle.hsr_world_laws.specs.World.{World}
use Rattle.hsr_plan_text.specs.declared.plan.Transfer.{Transfer}
use Rattle.hsr_plan_hops.specs.Beginning.{IsNext, IsSettled, Stage, next_copy}
use Rattle.hsr_plan_hops.specs.Flights.{is_at_end}
use Rattle.hsr_plan_hops.specs.Telling.{PutsFirst}
use Rattle.hsr_plan_hops.specs.Turns.{is_free, may_stand}
use Rattle.hsr_plan_hops.specs.declared.flights.Arrival.{Arrival}
use Rattle.hsr_plan_hops.specs.declared.turns.Due.{Due}
use Rattle.hsr_plan_hops.specs.declared.turns.Due.TheVariants.{Nothing, Judgement, Puts}

-- ---- where nothing is left to judge or to put

or_true : (a b : Bool) → b ≡ true → (a || b) ≡ true
or_true true b h = refl
or_true false b h = h

stands_free : (capacity : ℕ) (w : World) (due : Due) (step : steps.Step) → is_free step ≡ true → IsSettled capacity w due → may_stand due step ≡ true
stands_free capacity w Nothing step free h = free
stands_free capacity w (Judgement end) step free h = absurd h
stands_free capacity w (Puts n) step free h = or_true _ (is_free step) free

puts_first : (capacity : ℕ) (w : World) (due : Due) (step : steps.Step) → IsSettled capacity w due → PutsFirst capacity w due step
puts_first capacity w Nothing step h = tt
puts_first capacity w (Judgement end) step h = absurd h
puts_first capacity w (Puts n) (Put k port) h = tt
puts_first capacity w (Puts n) step h = h

-- ---- a copy that comes to its end

same_dir : (dir : Dir) → is_same_dir dir dir ≡ true
same_dir Forth = refl
same_dir Back = refl

at_end : (now : ℕ) (a : Arrival) → a.at ≡ now → is_at_end now a.link a.dir (Some a) ≡ true
at_end now a just = rw (eq-eqb a.link a.link refl, same_dir a.dir, eq-eqb a.at now just) refl

takes : (capacity : ℕ) (transfer : Transfer) (links : List (List End)) (s : Stage) (a : Arrival) → IsSettled capacity s.world s.due → next_copy transfer links s ≡ Some a → a.at ≡ s.moment
    → s.begun ≡ false → IsNext capacity transfer links s (Take a.link a.dir) s.told
takes capacity transfer links s a settled next just first = record {
  does = refl;
  stands = stands_free capacity s.world s.due (Take a.link a.dir) refl settled;
  puts_first = puts_first capacity s.world s.due (Take a.link a.dir) settled;
  first = ap not first;
  on_time = let P : Option Arrival → Type 0 = λ o. is_at_end s.moment a.link a.dir o ≡ true in subst P (sym next) (at_end s.moment a just);
  called_for = tt;
}

pub takes_at : (capacity : ℕ) (transfer : Transfer) (links : List (List End)) (s : Stage) (a : Arrival) (more : List Order) → IsSettled capacity s.world s.due
    → next_copy transfer links s ≡ Some a → a.at ≡ s.moment → s.begun ≡ false → more ≡ s.told → IsNext capacity transfer links s (Take a.link a.dir) more
takes_at capacity transfer links s a more settled next just first same =
    let P : List Order → Type 0 = IsNext capacity transfer links s (Take a.link a.dir) in
    subst P (sym same) (takes capacity transfer links s a settled next just first)
