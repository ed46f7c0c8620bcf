-- What a plan says.
use Rattle.std.specs.Prelude.{ℕ, List, Option}
use Rattle.hsr_plan_text.specs.declared.plan.Addressed.{Addressed}
use Rattle.hsr_plan_text.specs.declared.plan.Event.{Event}
use Rattle.hsr_plan_text.specs.declared.plan.Framing.{Framing}
use Rattle.hsr_plan_text.specs.declared.plan.InMode.{InMode}
use Rattle.hsr_plan_text.specs.declared.plan.Moves.{Moves}
use Rattle.hsr_plan_text.specs.declared.plan.Pace.{Pace}
use Rattle.hsr_plan_text.specs.declared.plan.SampleRate.{SampleRate}
use Rattle.hsr_plan_text.specs.declared.plan.SampleRate.TheVariants.{Rate4000, Rate4800, Rate12800, Rate14400}

pub record Behind : Type 0 where
  pub redbox : List ℕ
  pub stations : List (List ℕ)

pub record Network : Type 0 where
  pub rings : List (List (List ℕ))
  pub redboxes : List Behind
  pub addresses : List Addressed
  pub modes : List InMode

abbrev pub per_second : SampleRate → ℕ
per_second Rate4000 = 4000
per_second Rate4800 = 4800
per_second Rate12800 = 12800
per_second Rate14400 = 14400

-- in microseconds
pub record Timing : Type 0 where
  pub starts : List ℕ
  pub pace : Pace
  -- how many samples a frame of sampled values has
  pub asdus : ℕ
  pub count : Option ℕ
  pub until : Option ℕ

pub record Stream : Type 0 where
  pub from : List (List ℕ)
  -- who needs it; nobody is named where it is for all that it is due at
  pub receivers : List (List ℕ)
  pub framing : Framing
  pub timing : Timing

pub record Outline : Type 0 where
  pub title : Option (List ℕ)
  -- where it is said
  pub capacity : Option ℕ
  pub life : ℕ
  pub until : Option ℕ
  -- the moment 0, in seconds since 1970
  pub epoch : ℕ
  pub moves : Moves
  pub network : Network

pub record Plan : Type 0 where
  pub outline : Outline
  pub streams : List Stream
  pub events : List Event
