-- The verdict on a plan.
--     coarsened      what is certified of what a plan means
--     TellsVerdict   words tell a verdict
--     TellsFaults    words tell behind a line what faults cut off
--     IsToldOf       words tell the verdict on what is meant
--     IsTold         words tell the verdict on a plan
use Rattle.std.specs.Prelude.{ℕ, ◌≡◌, ◌⊎◌, List, Option, Some, None}
use Rattle.hsr_certify.specs.Verdict.{setup_of}
use Rattle.hsr_certify_text.specs.Coarse.{coarse}
use Rattle.hsr_certify_text.specs.Found.{IsFound}
use Rattle.hsr_certify_text.specs.declared.verdict.Verdict.{Verdict}
use Rattle.hsr_certify_text.specs.declared.verdict.Verdict.TheVariants.{Certified, Doubted}
use Rattle.hsr_plays.specs.Setup.{Setup}
use Rattle.hsr_routes.specs.Routes.{bare}
use Rattle.hsr_faults.specs.Sweep.{Swept}
use Rattle.hsr_plan_text.specs.Plan.{Plan}
use Rattle.hsr_plan_network.specs.Nodes.{Node}
use Rattle.hsr_plan_schedule.specs.Meaning.{Meaning}
use Rattle.hsr_plan_outages.specs.Outages.{TellsOutages, faults_for}
use Rattle.hsr_plan_outages.specs.declared.outages.AtOnce.{AtOnce}
use Rattle.hsr_plan_hops.specs.Moving.{MeansMoved}
use Rattle.hsr_plan_hops.specs.Refusing.{IsImmovable}
use Rattle.hsr_plan_scenario.specs.Refusals.{MeansNothing}
use Rattle.hsr_plan_scenario.specs.declared.planning.Ending.{Ending}
use Rattle.hsr_plan_scenario.specs.declared.planning.Ending.TheVariants as ending
use Rattle.hsr_plan_certify.specs.Lines.{IsLineOf}
use Rattle.hsr_plan_certify.specs.Parts.{part_of}
use Rattle.hsr_plan_certify.specs.Words.{verdict_text}
use Rattle.hsr_plan_certify.specs.declared.part.Part.{Part}
use Rattle.hsr_plan_certify.specs.declared.question.Question.{Question}

-- all that happens in a plan, without the moves of its copies, and a drain behind all
abbrev pub coarsened : Meaning → Meaning
coarsened m = record m { orders = coarse m.orders }

-- with tables of so many entries
abbrev pub setup_for : ℕ → Option ℕ → Meaning → Setup
setup_for capacity within m = setup_of m.topology m.capacity capacity m.orders within

-- ---- its words

abbrev pub part_in : Meaning → Verdict → Option Part
part_in m (Certified certified) = None
part_in m (Doubted doubt) = part_of m doubt

-- by names of what is meant, and with a line of the plan's text
abbrev pub TellsVerdict : List ℕ → Meaning → Verdict → List ℕ → Type 0
TellsVerdict text m verdict words = (line : Option ℕ) × IsLineOf text m.nodes (part_in m verdict) line × (words ≡ verdict_text m verdict line)

-- ---- faults

-- nothing more, where no faults are question for
abbrev pub TellsAsked : Option AtOnce → Swept → List Node → List ℕ → List ℕ → Type 0
TellsAsked None swept nodes line words = words ≡ line
TellsAsked (Some at_once) swept nodes line words = TellsOutages nodes swept (faults_for at_once swept.net) line words

-- ---- of a plan

abbrev pub ending_of : Verdict → Ending
ending_of (Certified certified) = ending.Planned
ending_of (Doubted doubt) = ending.Doubted

-- the verdict on what is meant, and its line
pub record IsCertification (capacity : ℕ) (within : Option ℕ) (text : List ℕ) (meant : Meaning) (verdict : Verdict) (line : List ℕ) : Type 0 where
  pub found : IsFound (setup_for capacity within (coarsened meant)) verdict
  pub tells : TellsVerdict text (coarsened meant) verdict line

-- the setup of what is meant, for what each fault cuts off
abbrev pub swept_for : Option ℕ → Meaning → Swept
swept_for within m = record { net = bare m.topology.places m.topology.links; orders = m.orders; within = within }

-- behind the line of a certificate stands what each fault cuts off, if that is question for
abbrev pub TellsFaults : Question → Meaning → Verdict → List ℕ → List ℕ → Type 0
TellsFaults question m (Doubted doubt) line words = words ≡ line
TellsFaults question m (Certified certified) line words = TellsAsked question.faults (swept_for question.within m) m.nodes line words

-- the verdict on what is meant, in its words, what each fault cuts off, and how a run ends that writes it
pub record IsToldOf (capacity : ℕ) (question : Question) (text : List ℕ) (meant : Meaning) (words : List ℕ) (end : Ending) : Type 0 where
  pub verdict : Verdict
  pub found : IsFound (setup_for capacity question.within (coarsened meant)) verdict
  pub line : List ℕ
  pub tells : TellsVerdict text (coarsened meant) verdict line
  pub faults : TellsFaults question (coarsened meant) verdict line words
  pub ends : end ≡ ending_of verdict

-- and on what a plan means
pub record IsTold (capacity : ℕ) (question : Question) (text : List ℕ) (plan : Plan) (words : List ℕ) (end : Ending) : Type 0 where
  pub meant : Meaning
  pub means : MeansMoved capacity plan meant
  pub told : IsToldOf capacity question text meant words end

-- there is none: the plan means nothing, or its copies, which move by hops or wires, can't
abbrev pub IsUncertified : ℕ → Plan → Type 0
IsUncertified capacity plan = MeansNothing plan ⊎ IsImmovable capacity plan
