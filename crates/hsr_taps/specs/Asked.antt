-- What is asked of interfaces, taps and points, without where it lies in memory.
use Rattle.std.specs.Prelude.{ℕ, List}
use Rattle.hsr_taps.specs.declared.choice.TapsAsked.{TapsAsked}

-- interfaces that are to be one point, and its name
pub record PointFields : Type 0 where
  pub name : List ℕ
  pub interfaces : List ℕ

-- only these interfaces, or all where there is none; how taps are told apart; which interfaces are to be one point
pub record ChoiceFields : Type 0 where
  pub interfaces : List ℕ
  pub taps : TapsAsked
  pub points : List PointFields
