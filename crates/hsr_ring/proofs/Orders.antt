-- The turns of a play, one after another.
use Rattle.std.proofs.Common.{◌≡◌, ℕ, ◌+◌, suc, List, [], ◌∷◌, refl, subst, arith, sym}
use Rattle.hsr_world_laws.specs.World.{World}
use Rattle.hsr_world_steps.specs.declared.step.DrainFault.{DrainFault}
use Rattle.hsr_scenario.specs.declared.steps.Order.{Order}
use Rattle.hsr_ring.specs.Playing.{Halts, Obeys, Plays, Refuses}

-- what is made of the orders that are left is made of all
pub record PlaysOn (capacity : ℕ) (n : ℕ) (left orders : List Order) (w old : World) : Type 0 where
  pub plays : (v : World) → Plays capacity left w v → Plays capacity orders old v
  pub halts : (m : ℕ) (v : World) (f : DrainFault) → Halts capacity left m w v f → Halts capacity orders (n + m) old v f

pub play_turn : (capacity n : ℕ) (order : Order) (left more orders : List Order) (w after old : World) → left ≡ order ∷ more → Obeys capacity order w after →
    PlaysOn capacity n left orders w old → PlaysOn capacity (n + 1) more orders after old
play_turn capacity n order left more orders w after old is done h = record {
  plays = λ v r. h.plays v (subst (λ ls. Plays capacity ls w v) (sym is) (after, done, r));
  halts = λ m v f s.
      let all : n + suc m ≡ n + 1 + m = omega arith in
      subst (λ k. Halts capacity orders k old v f) all (h.halts (suc m) v f (subst (λ ls. Halts capacity ls (suc m) w v f) (sym is) (after, done, s)));
}

pub play_all : (capacity n : ℕ) (left orders : List Order) (w old : World) → left ≡ [] → PlaysOn capacity n left orders w old → Plays capacity orders old w
play_all capacity n left orders w old is h = h.plays w (subst (λ ls. Plays capacity ls w w) (sym is) refl)

pub play_halts : (capacity n : ℕ) (order : Order) (left more orders : List Order) (w after old : World) (f : DrainFault) → left ≡ order ∷ more → Refuses capacity order w after f →
    PlaysOn capacity n left orders w old → Halts capacity orders n old after f
play_halts capacity n order left more orders w after old f is why h =
    let all : n + 0 ≡ n = omega arith in
    subst (λ k. Halts capacity orders k old after f) all (h.halts 0 after f (subst (λ ls. Halts capacity ls 0 w after f) (sym is) why))
