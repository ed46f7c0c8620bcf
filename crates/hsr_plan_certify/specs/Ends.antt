-- How a run over a plan ends that is to certify it, what it wrote, and what it told.
use Rattle.std.specs.Prelude.{ℕ, ◌≡◌, ◌⊎◌, ⊤, List, Option, Result, Ok, Err}
use Rattle.std.specs.Io.KnownBytes.{Appends, Keeps}
use Rattle.std.specs.Str.{IsUtf8}
use Rattle.hsr_plan_text.specs.Meaning.{plan_of}
use Rattle.hsr_plan_text.specs.Plan.{Plan}
use Rattle.hsr_plan_text.specs.declared.fault.PlanFault.{PlanFault}
use Rattle.hsr_plan_scenario.specs.Ends.{TellsFault, TellsInput}
use Rattle.hsr_plan_scenario.specs.declared.planning.Ending.{Ending}
use Rattle.hsr_plan_scenario.specs.declared.planning.Ending.TheVariants.{Planned, Doubted, Refused, Failed, Unwritten}
use Rattle.hsr_plan_certify.specs.declared.question.Question.{Question}
use Rattle.hsr_plan_certify.specs.Verdicts.{IsTold, IsUncertified}

-- octets are a text, and these words tell the verdict on what it says as a plan
abbrev pub IsToldIn : ℕ → Question → List ℕ → List ℕ → Ending → Type 0
IsToldIn capacity question octets words end = IsUtf8 octets × ((plan : Plan) × (plan_of octets ≡ Ok plan) × IsTold capacity question octets plan words end)

abbrev pub IsUncertifiedIf : ℕ → Result Plan PlanFault → Type 0
IsUncertifiedIf capacity (Ok plan) = IsUncertified capacity plan
IsUncertifiedIf capacity (Err fault) = ⊤

-- octets are no text; or one that is no plan, or a plan on which there is no verdict
abbrev pub IsUncertifiable : ℕ → List ℕ → Type 0
IsUncertifiable capacity octets = (¬ IsUtf8 octets) ⊎ IsUncertifiedIf capacity (plan_of octets)

-- a verdict was written, and nothing told
abbrev pub WritesVerdict : ℕ → Question → List ℕ → Option (List ℕ) → Option (List ℕ) → Option (List ℕ) → Option (List ℕ) → Ending → Type 0
WritesVerdict capacity question octets held holds told tells end = (words : List ℕ) × IsToldIn capacity question octets words end × Appends held holds words × Keeps told tells

-- A certificate was written, or a doubt, and nothing told; or there is no verdict, and nothing was written, and a fault told; or the text wasn't
-- read, or an allocation failed, and nothing was written, and that told; of a failed write no more is said than that nothing was told.
abbrev pub CertifyEnds : ℕ → Question → List ℕ → Option (List ℕ) → Option (List ℕ) → Option (List ℕ) → Option (List ℕ) → Ending → Type 0
CertifyEnds capacity question octets held holds told tells Planned = WritesVerdict capacity question octets held holds told tells Planned
CertifyEnds capacity question octets held holds told tells Doubted = WritesVerdict capacity question octets held holds told tells Doubted
CertifyEnds capacity question octets held holds told tells Refused = IsUncertifiable capacity octets × Keeps held holds × TellsFault told tells
CertifyEnds capacity question octets held holds told tells Failed = Keeps held holds × TellsInput told tells
CertifyEnds capacity question octets held holds told tells Unwritten = Keeps told tells
