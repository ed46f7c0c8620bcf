-- What the tables of one more node needed.
use Rattle.std.proofs.Common.{◌≡◌, ℕ, ◌+◌, List, [], ◌∷◌, ◌++◌, length, subst, arith}
use Rattle.hsr_run_laws.specs.Run.{Run}
use Rattle.hsr_table_demand.specs.Needs.{IsMostAt}
use Rattle.hsr_table_demand.specs.declared.most.Needed.{Needed}
use Rattle.hsr_devices.specs.Listing.{AreMost}

pub most_push : (run : Run) (n k : ℕ) (ms : List Needed) (m : Needed) → AreMost run n ms → n + length ms ≡ k → IsMostAt run k m → AreMost run n (ms ++ m ∷ [])
most_push run n k [] m all same most = (let P : ℕ → Type 0 = λ i. IsMostAt run i m in subst P (let e : k ≡ n = omega (arith, same) in e) most, tt)
most_push run n k (first ∷ ms) m all same most = (all.0, most_push run (n + 1) k ms m all.1 (omega (arith, same)) most)

pub long_push : (ms : List Needed) (m : Needed) → length (ms ++ m ∷ []) ≡ length ms + 1
long_push [] m = omega arith
long_push (first ∷ ms) m = let rest = long_push ms m in omega (arith, rest)
