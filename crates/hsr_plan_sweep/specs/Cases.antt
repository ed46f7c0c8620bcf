-- What is off in turn: each link and each node, each two of them where that is asked for, and at last nothing.
use Rattle.std.specs.Prelude.{ℕ, ◌+◌, ◌-◌, ◌%◌, ◌==◌, ◌&&◌, not, Bool, true, false, if◌then◌else◌, List, [], ◌∷◌, ◌++◌, map, Option, Some, None}
use Rattle.hsr_faults.specs.Fault.{faults_of_one, faults_of_two}
use Rattle.hsr_faults.specs.declared.fault.Fault.{Fault}
use Rattle.hsr_plan_sweep.specs.declared.asked.Asked.{Asked}
use Rattle.hsr_plan_sweep.specs.declared.asked.Part.{Part}
use Rattle.hsr_plan_sweep.specs.declared.cases.Case.{Case}
use Rattle.hsr_plan_sweep.specs.declared.cases.Case.TheVariants.{Undisturbed, Off}

abbrev pub faults_asked : Bool → ℕ → ℕ → List Fault
faults_asked false links nodes = faults_of_one links nodes
faults_asked true links nodes = faults_of_one links nodes ++ faults_of_two links nodes

abbrev pub whole : List Fault → List Case
whole faults = map Off faults ++ Undisturbed ∷ []

-- each N-th case, from the K-th on; an index counts from 0, and a part from 1
abbrev pub is_in_part : Part → ℕ → Bool
is_in_part part i = not (part.of == 0) && (i % part.of == part.number - 1)

abbrev pub one_if : {X : Type 0} → Bool → X → List X
one_if is_one x = if is_one then x ∷ [] else []

-- of cases that follow i others
abbrev pub in_part : Part → ℕ → List Case → List Case
in_part part i [] = []
in_part part i (case ∷ cases) = one_if (is_in_part part i) case ++ in_part part (i + 1) cases

abbrev pub parted : Option Part → List Case → List Case
parted None cases = cases
parted (Some part) cases = in_part part 0 cases

-- of a topology with so many links and nodes
abbrev pub cases_of : Asked → ℕ → ℕ → List Case
cases_of asked links nodes = parted asked.part (whole (faults_asked asked.pairs links nodes))
