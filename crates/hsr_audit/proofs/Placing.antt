-- Where a fact of the places of records fails first.
use Rattle.std.proofs.Common.{◌≡◌, ℕ, ◌+◌, ◌<◌, length, subst, arith, ⊎_elim}
use Rattle.std.proofs.lemmas.Bool.{cases_lt}
use Rattle.hsr_run_laws.specs.Run.{Run, record_of}
use Rattle.hsr_table_flaws.specs.Flaws.{IsFirstNot}
use Rattle.hsr_audit.specs.Placed.{HoldsBelow, HoldsIn, IsFirstOf}

pub holds_more : (P : ℕ → ℕ → Type 0) (k n : ℕ) → P k n → HoldsBelow P k n → HoldsBelow P k (n + 1)
holds_more P k n here before i low =
    ⊎_elim (λ lower. before i lower) (λ high. let same : n ≡ i = omega (arith, low, high) in subst (P k) same here) (cases_lt i n)

pub nodes_more : (run : Run) (P : ℕ → ℕ → Type 0) (n : ℕ) → HoldsBelow P n (length (record_of run n)) → HoldsIn run P n → HoldsIn run P (n + 1)
nodes_more run P n here before k low =
    ⊎_elim (λ lower. before k lower)
    (λ high.
    let same : n ≡ k = omega (arith, low, high) in
    let Q : ℕ → Type 0 = λ m. HoldsBelow P m (length (record_of run m)) in
    subst Q same here)
    (cases_lt k n)

pub first_not : (run : Run) (P : ℕ → ℕ → Type 0) (k i : ℕ) → k < length run.places → HoldsIn run P k → IsFirstOf P k (length (record_of run k)) i → IsFirstNot run P k i
first_not run P k i node before first = record { node = node; place = first.below; fails = first.fails; before = first.before; nodes = λ l j lower inside. before l lower j inside }

pub not_all : (run : Run) (P : ℕ → ℕ → Type 0) (k i : ℕ) → IsFirstNot run P k i → HoldsIn run P (length run.places) → ⊥
not_all run P k i first all = first.fails (all k first.node i first.place)
