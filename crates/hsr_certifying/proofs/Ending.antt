-- How `certify` ends, by what was written and by what was read.
use Rattle.std.proofs.Common.{ℕ, ◌^◌, List, Option, Some, None, IfSome, refl, subst}
use Rattle.std.specs.Io.KnownBytes.{Appends, Keeps}
use Rattle.hsr_text.specs.Whole.{IsWhole}
use Rattle.hsr_certify_text.specs.Words.{verdict_line}
use Rattle.hsr_commands.specs.Reading.{IsNoScenario, Said, scenario_of}
use Rattle.hsr_commands.proofs.Said.{as_read}
use Rattle.hsr_commands.specs.declared.fault.Fault.{Fault}
use Rattle.hsr_commands.specs.declared.fault.Fault.TheVariants.{Line, Scenario, Step, Fine, Transcript, Check, Names, Tables, Read, Write, Memory, Thread, Gate}
use Rattle.hsr_commands.specs.declared.fault.Status.{Status}
use Rattle.hsr_commands.specs.declared.fault.Status.TheVariants.{Certified, Fault as Stopped, Doubt, Open}
use Rattle.hsr_certifying.specs.Certifying.{CertifyEnds, IsDelivered, IsToldOf}
use Rattle.hsr_certifying.specs.declared.question.Question.{Question}
use Rattle.hsr_certifying.specs.declared.running.Told.{Told}

keeps_same : (held : Option (List ℕ)) → Keeps held held
keeps_same None = tt
keeps_same (Some xs) = refl

module _ (q : Question) (said : Said) (held holds : Option (List ℕ)) (told : Told) (is : IsToldOf q said told) where
  whole : Appends held holds told.line.items → Appends held holds (verdict_line told.verdict)
  whole = subst (λ line. Appends held holds line) is.1

  pub delivered : (status : Status) → IsDelivered held holds told.line.items told.verdict status → CertifyEnds q said held holds status
  delivered Certified d = record { verdict = told.verdict; is_found = is.0; tells = d.0; written = whole d.1 }
  delivered Doubt d = record { verdict = told.verdict; is_found = is.0; tells = d.0; written = whole d.1 }
  delivered Open d = absurd d
  delivered (Stopped Write) d = (told.verdict, is.0)
  delivered (Stopped (Line n)) d = absurd d
  delivered (Stopped (Scenario f)) d = absurd d
  delivered (Stopped (Step n f)) d = absurd d
  delivered (Stopped (Fine n)) d = absurd d
  delivered (Stopped (Transcript f)) d = absurd d
  delivered (Stopped (Check f)) d = absurd d
  delivered (Stopped (Names f)) d = absurd d
  delivered (Stopped Tables) d = absurd d
  delivered (Stopped Read) d = absurd d
  delivered (Stopped Memory) d = absurd d
  delivered (Stopped Thread) d = absurd d
  delivered (Stopped Gate) d = absurd d

-- a reason that is there, but no writer's, ends it with nothing written
pub stopped : (q : Question) (said : Said) (held : Option (List ℕ)) (fault : Fault) → IsNoScenario said fault → CertifyEnds q said held held (Stopped fault)
stopped q said held (Line n) why = (why, keeps_same held)
stopped q said held (Scenario f) why = (why, keeps_same held)
stopped q said held (Step n f) why = (why, keeps_same held)
stopped q said held (Fine n) why = (why, keeps_same held)
stopped q said held (Transcript f) why = (why, keeps_same held)
stopped q said held (Check f) why = (why, keeps_same held)
stopped q said held (Names f) why = (why, keeps_same held)
stopped q said held Tables why = (why, keeps_same held)
stopped q said held Read why = keeps_same held
stopped q said held Write why = absurd why
stopped q said held Memory why = (why, keeps_same held)
stopped q said held Thread why = (why, keeps_same held)
stopped q said held Gate why = (why, keeps_same held)

-- what is told of what was read is told of the text
pub told_text : (q : Question) (all : Option (List ℕ)) (read : List ℕ) (held holds : Option (List ℕ)) (status : Status)
    → IfSome all (λ text. IsWhole (2 ^ 24) text read) → CertifyEnds q (scenario_of read) held holds status
    → IfSome all (λ text. CertifyEnds q (scenario_of text) held holds status)
told_text q None read held holds status whole told = tt
told_text q (Some text) read held holds status whole told =
    subst (λ (said : Said). CertifyEnds q said held holds status) (as_read text read whole) told
