-- A plan that is read whole, or up to a front that is too long, and what is written of its verdict.
use Rattle.std.proofs.Common.{◌≡◌, ◌⊎◌, ◌++◌, ◌<◌, ℕ, ◌^◌, length, List, Option, Some, None, Result, Ok, Err, IfErr, IfOk, IfSome, IsOk, inl, inr, sym, subst}
use Rattle.std.specs.Io.KnownBytes.{Appends, Keeps}
use Rattle.hsr_text.specs.Whole.{IsWhole}
use Rattle.hsr_plan_text.specs.Meaning.{plan_of}
use Rattle.hsr_plan_text.specs.Plan.{Plan}
use Rattle.hsr_plan_text.specs.declared.fault.PlanFault.{PlanFault}
use Rattle.hsr_plan_scenario.proofs.Whole.{longer, no_plan}
use Rattle.hsr_plan_scenario.specs.Ends.{TellsWhy}
use Rattle.hsr_plan_scenario.specs.declared.planning.Ending.{Ending}
use Rattle.hsr_plan_scenario.specs.declared.planning.Ending.TheVariants.{Planned, Doubted as EndsDoubted, Refused, Failed, Unwritten}
use Rattle.hsr_certify_text.specs.declared.verdict.Verdict.{Verdict}
use Rattle.hsr_certify_text.specs.declared.verdict.Verdict.TheVariants.{Certified, Doubted}
use Rattle.hsr_certify_text.specs.Found.{IsFound}
use Rattle.hsr_plan_schedule.specs.Meaning.{Meaning}
use Rattle.hsr_plan_certify.specs.declared.question.Question.{Question}
use Rattle.hsr_plan_certify.specs.Verdicts.{IsCertification, IsToldOf, IsUncertified, TellsFaults, TellsVerdict, coarsened, ending_of, setup_for}
use Rattle.hsr_plan_certify.specs.Ends.{CertifyEnds, IsToldIn, IsUncertifiable, IsUncertifiedIf, WritesVerdict}

-- a text over 16 MiB is no plan
none_said : (said : Result Plan PlanFault) (fault : PlanFault) (plan : Plan) → said ≡ Err fault → said ≡ Ok plan → ⊥
none_said said fault plan e is = absurd cc

uncertifiable : (capacity : ℕ) (front rest all : List ℕ) → 2 ^ 24 < length front → all ≡ front ++ rest → IsUncertifiable capacity all
uncertifiable capacity front rest all h is =
    let P : Result Plan PlanFault → Type 0 = IsUncertifiedIf capacity in
    inr (subst P (sym (no_plan all (longer front rest all h is))) tt)

writes_whole : (capacity : ℕ) (question : Question) (all front : List ℕ) (held holds told tells : Option (List ℕ)) (ending : Ending) → IsWhole (2 ^ 24) all front
    → WritesVerdict capacity question front held holds told tells ending → WritesVerdict capacity question all held holds told tells ending
writes_whole capacity question all front held holds told tells ending (inl same) (words, says, written, kept) =
    (words, subst (λ t. IsToldIn capacity question t words ending) (sym same) says, written, kept)
writes_whole capacity question all front held holds told tells ending (inr long) (words, says, written, kept) =
    absurd (none_said (plan_of front) _ says.1.0 (no_plan front long.0) says.1.1)

-- a plan on which there is no verdict is one in its octets
pub uncertified_so : {X Y Z : Type 0} (r : Result X (Result Y Z)) (capacity : ℕ) (octets text : List ℕ) (plan : Plan) → plan_of text ≡ Ok plan → text ≡ octets
    → IfErr r (λ line. IsOk line → IsUncertified capacity plan) → IfErr r (λ line. IsOk line → IsUncertifiable capacity octets)
uncertified_so (Ok x) capacity octets text plan is same none = tt
uncertified_so (Err line) capacity octets text plan is same none = λ told.
    let P : Result Plan PlanFault → Type 0 = IsUncertifiedIf capacity in
    inr (subst (λ t. IsUncertifiedIf capacity (plan_of t)) same (subst P (sym is) (none told)))

-- what is told of what is meant, by its parts
pub told_so : (capacity : ℕ) (question : Question) (text : List ℕ) (meant m : Meaning) (verdict : Verdict) (line words : List ℕ) (end : Ending) → m ≡ coarsened meant
    → IsFound (setup_for capacity question.within m) verdict → TellsVerdict text m verdict line → TellsFaults question m verdict line words → end ≡ ending_of verdict
    → IsToldOf capacity question text meant words end
told_so capacity question text meant m verdict line words end same found tells faults ends =
    let P : Meaning → Type 0 = λ v. IsFound (setup_for capacity question.within v) verdict in
    let Q : Meaning → Type 0 = λ v. TellsVerdict text v verdict line in
    let R : Meaning → Type 0 = λ v. TellsFaults question v verdict line words in
    record { verdict = verdict; found = subst P same found; line = line; tells = subst Q same tells; faults = subst R same faults; ends = ends }

pub certified_so : (capacity : ℕ) (within : Option ℕ) (text : List ℕ) (meant m : Meaning) (verdict : Verdict) (line : List ℕ) → m ≡ coarsened meant
    → IsFound (setup_for capacity within m) verdict → TellsVerdict text m verdict line → IsCertification capacity within text meant verdict line
certified_so capacity within text meant m verdict line same found tells =
    let P : Meaning → Type 0 = λ v. IsFound (setup_for capacity within v) verdict in
    let Q : Meaning → Type 0 = λ v. TellsVerdict text v verdict line in
    record { found = subst P same found; tells = subst Q same tells }

-- ---- what is written

written_so : (capacity : ℕ) (question : Question) (octets : List ℕ) (held holds told tells : Option (List ℕ)) (verdict : Verdict)
    → WritesVerdict capacity question octets held holds told tells (ending_of verdict) → CertifyEnds capacity question octets held holds told tells (ending_of verdict)
written_so capacity question octets held holds told tells (Certified certified) writes = writes
written_so capacity question octets held holds told tells (Doubted doubt) writes = writes

pub given_so : (capacity : ℕ) (question : Question) (octets words : List ℕ) (held holds told tells : Option (List ℕ)) (end ending : Ending) → IsToldIn capacity question octets words end
    → (ending ≡ Unwritten) ⊎ ((ending ≡ end) × Appends held holds words) → Keeps told tells → CertifyEnds capacity question octets held holds told tells ending
given_so capacity question octets words held holds told tells end ending says (inl none) kept =
    let P : Ending → Type 0 = CertifyEnds capacity question octets held holds told tells in subst P (sym none) kept
given_so capacity question octets words held holds told tells end ending (is_text, (plan, is, verdict)) (inr (same, written)) kept =
    let P : Ending → Type 0 = CertifyEnds capacity question octets held holds told tells in
    let Q : Ending → Type 0 = WritesVerdict capacity question octets held holds told tells in
    let ends : end ≡ ending_of verdict.told.verdict = verdict.told.ends in
    let writes : Q end = (words, (is_text, (plan, is, verdict)), written, kept) in
    subst P (sym same) (subst P (sym ends) (written_so capacity question octets held holds told tells verdict.told.verdict (subst Q ends writes)))

pub why_so : (capacity : ℕ) (question : Question) (octets : List ℕ) (held holds told tells : Option (List ℕ)) (why : Type 0) (ending : Ending) → (why → IsUncertifiable capacity octets)
    → Keeps held holds → TellsWhy why told tells ending → CertifyEnds capacity question octets held holds told tells ending
why_so capacity question octets held holds told tells why Planned so kept none = absurd none
why_so capacity question octets held holds told tells why EndsDoubted so kept none = absurd none
why_so capacity question octets held holds told tells why Refused so kept (this, fault) = (so this, kept, fault)
why_so capacity question octets held holds told tells why Failed so kept fault = (kept, fault)
why_so capacity question octets held holds told tells why Unwritten so kept none = absurd none

-- ---- what is read

-- what is told of what was read is told of all
certify_whole : (capacity : ℕ) (question : Question) (all front : List ℕ) (held holds told tells : Option (List ℕ)) (ending : Ending) → IsWhole (2 ^ 24) all front
    → CertifyEnds capacity question front held holds told tells ending → CertifyEnds capacity question all held holds told tells ending
certify_whole capacity question all front held holds told tells Planned whole ends = writes_whole capacity question all front held holds told tells Planned whole ends
certify_whole capacity question all front held holds told tells EndsDoubted whole ends = writes_whole capacity question all front held holds told tells EndsDoubted whole ends
certify_whole capacity question all front held holds told tells Refused (inl same) (none, kept, fault) = (subst (IsUncertifiable capacity) (sym same) none, kept, fault)
certify_whole capacity question all front held holds told tells Refused (inr long) (none, kept, fault) = (uncertifiable capacity front long.1.0 all long.0 long.1.1, kept, fault)
certify_whole capacity question all front held holds told tells Failed whole ends = ends
certify_whole capacity question all front held holds told tells Unwritten whole ends = ends

-- so it is told of the text that was read, if the reader told it
pub run_whole : {E : Type 0} (remaining : Option (List ℕ)) (front text : List ℕ) (capacity : ℕ) (question : Question) (held holds told tells : Option (List ℕ)) (r : Result Ending E)
    → IfSome remaining (λ all. IsWhole (2 ^ 24) all front) → text ≡ front → IfOk r (CertifyEnds capacity question text held holds told tells)
    → IfOk r (λ ending. IfSome remaining (λ octets. CertifyEnds capacity question octets held holds told tells ending))
run_whole None front text capacity question held holds told tells (Ok ending) whole same ends = tt
run_whole (Some all) front text capacity question held holds told tells (Ok ending) whole same ends =
    let P : List ℕ → Type 0 = λ t. CertifyEnds capacity question t held holds told tells ending in
    certify_whole capacity question all front held holds told tells ending whole (subst P same ends)
run_whole None front text capacity question held holds told tells (Err e) whole same ends = tt
run_whole (Some all) front text capacity question held holds told tells (Err e) whole same ends = tt
