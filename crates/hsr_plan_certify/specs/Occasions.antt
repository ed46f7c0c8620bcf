-- What a plan's orders send comes from its occasions: what is named in a verdict is listed in the plan, at that moment.
--     IsAbout                   an occasion is the supervision of a node, or a frame that it sends for a stream
--     IsListed                  one of these occasions is where an order comes from
--     OrdersComeFromOccasions   so it is with each order of a plan that sends, once its moves are left out
use Rattle.std.specs.Prelude.{ℕ, ◌≡◌, List, slice_get, Some}
use Rattle.hsr_plan_text.specs.Plan.{Plan}
use Rattle.hsr_plan_schedule.specs.Meaning.{IfListed, Meaning, listed}
use Rattle.hsr_plan_schedule.specs.declared.occasion.Happening.{Happening}
use Rattle.hsr_plan_schedule.specs.declared.occasion.Happening.TheVariants as happening
use Rattle.hsr_plan_schedule.specs.declared.occasion.Occasion.{Occasion}
use Rattle.hsr_plan_hops.specs.Moving.{MeansMoved}
use Rattle.hsr_plan_certify.specs.Origins.{origin_of}
use Rattle.hsr_plan_certify.specs.Verdicts.{coarsened}
use Rattle.hsr_plan_certify.specs.declared.origin.Cause.{Cause}
use Rattle.hsr_plan_certify.specs.declared.origin.Cause.TheVariants.{Stream, Life}
use Rattle.hsr_plan_certify.specs.declared.origin.Origin.{Origin}

-- a node sends a frame of a stream, or supervision
abbrev pub IsAbout : Happening → ℕ → Cause → Type 0
IsAbout (happening.Send sent) node cause = (sent.sender.node ≡ node) × (cause ≡ Stream sent.stream)
IsAbout (happening.Life k) node cause = (k ≡ node) × (cause ≡ Life)
IsAbout what node cause = ⊥

-- one of these occasions is that of an order that comes from there
pub record IsListed (occasions : List Occasion) (origin : Origin) : Type 0 where
  pub index : ℕ
  pub occasion : Occasion
  pub listed : slice_get occasions index ≡ Some occasion
  pub at : occasion.at ≡ origin.at
  pub about : IsAbout occasion.what origin.node origin.cause

abbrev pub OrdersComeFromOccasions : Type 0
OrdersComeFromOccasions = (capacity : ℕ) (plan : Plan) (m : Meaning) (i : ℕ) (origin : Origin) → MeansMoved capacity plan m → origin_of (coarsened m) i ≡ Some origin →
    IfListed (listed plan) (λ all. IsListed all.occasions origin)
