-- The report on the health of a ring, of its parts.
use Rattle.std.proofs.Common.{◌≡◌, inl, inr, ℕ, Bool, List, ◌==◌, length, refl, sym, subst, ◌∙◌, Option, Some, None, Ok, Err, Result}
use Rattle.std.specs.Prelude.{IfSome}
use Rattle.std.specs.Io.KnownBytes.{Appends, Keeps}
use Rattle.std.specs.Str.{IsUtf8}
use Rattle.hsr_capture_reader.specs.Capture.{CaptureFields, capture_of, most_octets}
use Rattle.hsr_capture_reader.specs.Reading.{Fails as FailsToRead}
use Rattle.hsr_capture_reader.specs.declared.fault.ReadFault.{ReadFault}
use Rattle.hsr_capture_reader.specs.declared.fault.ReadFault.TheVariants as read
use Rattle.hsr_expected.specs.Expected.{expected_in}
use Rattle.hsr_expected.specs.declared.expected.ExpectedFault.{ExpectedFault}
use Rattle.hsr_expected.specs.declared.expected.ExpectedFault.TheVariants as expected
use Rattle.hsr_health.specs.Whole.{IsBounded, IsFaultOf, IsGathered, IsHealth}
use Rattle.hsr_health.specs.declared.gathered.Gathered.{Gathered}
use Rattle.hsr_health.specs.declared.health.Health.{Health}
use Rattle.hsr_health.specs.declared.health.HealthFault.{HealthFault}
use Rattle.hsr_health.specs.declared.health.HealthFault.TheVariants as health
use Rattle.hsr_health_text.specs.Report.{report_text}
use Rattle.hsr_text.specs.Whole.{IsWhole}
use Rattle.hsr_tap.specs.Examining.{Examines, IsExamined, IsFound, IsGatheredOf, IsLacking, IsSeen, IsUnexpected, IsUnseen, IsUntellable, Shows, ShowsOf, TellsEnded, expected_by, missing_of, numbers_of}
use Rattle.hsr_tap.specs.Fault.{expected_fault, health_fault, read_fault}
use Rattle.hsr_tap.specs.Tapping.{IsNoInput}
use Rattle.hsr_tap.specs.declared.examining.Ended.{Ended}
use Rattle.hsr_tap.specs.declared.examining.Ended.TheVariants as ended
use Rattle.hsr_tap.specs.declared.examining.Found.TheVariants as found
use Rattle.hsr_tap.specs.declared.examining.Looking.{Looking}
use Rattle.hsr_tap.specs.declared.examining.Seen.{Seen}
use Rattle.hsr_tap.specs.declared.examining.Seen.TheVariants as seen
use Rattle.hsr_tap.specs.declared.fault.Fault.{Fault}
use Rattle.hsr_tap.specs.declared.fault.Fault.TheVariants as fault
use Rattle.hsr_tap.specs.declared.reporting.Report.{Report}
use Rattle.hsr_tap.proofs.Whole.{same_capture}

pub no_capture : (looking : Looking) (octets : List ℕ) (e : ReadFault) → FailsToRead e (capture_of looking.fcs octets) → IsUnseen looking octets (read_fault e)
no_capture looking octets (read.Refused refusal) h = h
no_capture looking octets read.NoMemory h = tt

pub is_lacking : (looking : Looking) (octets : List ℕ) (capture : CaptureFields) (number : ℕ) → capture_of looking.fcs octets ≡ Ok capture
    → Some number ≡ missing_of (numbers_of looking.asked.choice) (length capture.interfaces) → IsFound looking octets (found.NoInterface number)
is_lacking looking octets capture number is missing = record { capture = capture; is_capture = is; is_missing = sym missing }

pub is_gathered : (looking : Looking) (octets : List ℕ) (capture : CaptureFields) (gathered : Gathered) → capture_of looking.fcs octets ≡ Ok capture
    → None ≡ missing_of (numbers_of looking.asked.choice) (length capture.interfaces) → IsBounded capture → IsGathered capture looking.asked gathered → IsFound looking octets (found.Gathered gathered)
is_gathered looking octets capture gathered is there bounded of = record {
  capture = capture;
  is_capture = is;
  is_there = sym there;
  is_bounded = bounded;
  is_gathered = of;
}

pub is_examined : (looking : Looking) (macs : List (List ℕ)) (gathered : Gathered) (ring : Health) (text : List ℕ) (healthy : Bool)
    → ((capture : CaptureFields) → IsGathered capture looking.asked gathered → IsHealth capture looking.asked macs ring)
    → text ≡ report_text ring looking.asked.choice.interfaces looking.asked.table looking.is_full → healthy ≡ (length ring.reasons.items == 0)
    → (octets : List ℕ) → IsGatheredOf looking octets gathered → IsExamined looking macs octets text healthy
is_examined looking macs gathered ring text healthy is same well octets of = record {
  capture = of.capture;
  is_capture = of.is_capture;
  is_there = of.is_there;
  is_of = record { health = ring; is_health = is of.capture of.is_gathered; is_text = same; is_healthy = well };
}

pub untellable : (looking : Looking) (gathered : Gathered) (e : HealthFault) → ((capture : CaptureFields) → IsGathered capture looking.asked gathered → IsFaultOf capture looking.asked e)
    → IsUntellable looking gathered (health_fault e)
untellable looking gathered health.Sources is = is
untellable looking gathered health.Memory is = tt

pub unseen : (looking : Looking) (octets : List ℕ) (gathered : Gathered) (e : Fault) → IsFound looking octets (found.Gathered gathered) → IsUntellable looking gathered e → IsUnseen looking octets e
unseen looking octets gathered fault.Sources of h = (of.capture, of.is_capture, h of.capture of.is_gathered)
unseen looking octets gathered fault.Memory of h = tt
unseen looking octets gathered fault.Read of h = absurd h
unseen looking octets gathered (fault.Capture e) of h = absurd h
unseen looking octets gathered fault.NoDevice of h = absurd h
unseen looking octets gathered (fault.Device e) of h = absurd h
unseen looking octets gathered (fault.Lines e) of h = absurd h
unseen looking octets gathered (fault.Stimuli e) of h = absurd h
unseen looking octets gathered (fault.Judge e) of h = absurd h
unseen looking octets gathered fault.NoPlanFile of h = absurd h
unseen looking octets gathered fault.NoPlan of h = absurd h
unseen looking octets gathered fault.Write of h = absurd h

pub is_seen : (looking : Looking) (macs : List (List ℕ)) (octets : List ℕ) (gathered : Gathered) (report : Report) → IsFound looking octets (found.Gathered gathered)
    → ((octets : List ℕ) → IsGatheredOf looking octets gathered → IsExamined looking macs octets report.text.items report.is_well) → IsSeen looking macs octets (seen.Told report)
is_seen looking macs octets gathered report of is = is octets of

pub no_plan : (plan : List ℕ) (e : ExpectedFault) → (e ≡ expected.NoPlan → IsUtf8 plan → expected_in plan ≡ None) → IsUnexpected (Some plan) (expected_fault e)
no_plan plan expected.NoPlan h = h refl
no_plan plan expected.NoMemory h = tt

-- ---- of a capture that is too large a front tells it too

lacking_whole : (looking : Looking) (all read : List ℕ) (number : ℕ) → capture_of looking.fcs all ≡ capture_of looking.fcs read → IsLacking looking read number → IsLacking looking all number
lacking_whole looking all read number same h = record { capture = h.capture; is_capture = same ∙ h.is_capture; is_missing = h.is_missing }

examined_whole : (looking : Looking) (macs : List (List ℕ)) (all read text : List ℕ) (healthy : Bool) → capture_of looking.fcs all ≡ capture_of looking.fcs read
    → IsExamined looking macs read text healthy → IsExamined looking macs all text healthy
examined_whole looking macs all read text healthy same h = record { capture = h.capture; is_capture = same ∙ h.is_capture; is_there = h.is_there; is_of = h.is_of }

seen_whole : (looking : Looking) (macs : List (List ℕ)) (all read : List ℕ) (s : Seen) → capture_of looking.fcs all ≡ capture_of looking.fcs read → IsSeen looking macs read s → IsSeen looking macs all s
seen_whole looking macs all read (seen.Told report) same h = examined_whole looking macs all read report.text.items report.is_well same h
seen_whole looking macs all read (seen.NoInterface number) same h = lacking_whole looking all read number same h

unseen_whole : (looking : Looking) (all read : List ℕ) (e : Fault) → capture_of looking.fcs all ≡ capture_of looking.fcs read → IsUnseen looking read e → IsUnseen looking all e
unseen_whole looking all read (fault.Capture e) same h = same ∙ h
unseen_whole looking all read fault.Sources same (capture, is, many) = (capture, same ∙ is, many)
unseen_whole looking all read fault.Read same h = h
unseen_whole looking all read fault.Memory same h = h
unseen_whole looking all read fault.NoDevice same h = h
unseen_whole looking all read (fault.Device e) same h = h
unseen_whole looking all read (fault.Lines e) same h = h
unseen_whole looking all read (fault.Stimuli e) same h = h
unseen_whole looking all read (fault.Judge e) same h = h
unseen_whole looking all read fault.NoPlanFile same h = h
unseen_whole looking all read fault.NoPlan same h = h
unseen_whole looking all read fault.Write same h = h

pub seen_of_whole : (looking : Looking) (macs : List (List ℕ)) (told : Option (List ℕ)) (read : List ℕ) (s : Seen) → IfSome told (λ all. IsWhole most_octets all read) → IsSeen looking macs read s
    → IfSome told (λ octets. IsSeen looking macs octets s)
seen_of_whole looking macs None read s whole h = tt
seen_of_whole looking macs (Some all) read s whole h = seen_whole looking macs all read s (same_capture looking.fcs all read whole) h

pub unseen_of_whole : (looking : Looking) (told : Option (List ℕ)) (read : List ℕ) (e : Fault) → IfSome told (λ all. IsWhole most_octets all read) → IsUnseen looking read e
    → IfSome told (λ octets. IsUnseen looking octets e)
unseen_of_whole looking None read e whole h = tt
unseen_of_whole looking (Some all) read e whole h = unseen_whole looking all read e (same_capture looking.fcs all read whole) h

pub no_input : (looking : Looking) (text : Option (List ℕ)) (e : Fault) → IsNoInput e → IfSome text (λ octets. IsUnseen looking octets e)
no_input looking None e h = tt
no_input looking (Some all) fault.Read h = tt
no_input looking (Some all) fault.Memory h = tt
no_input looking (Some all) (fault.Capture e) h = absurd h
no_input looking (Some all) fault.NoDevice h = absurd h
no_input looking (Some all) (fault.Device e) h = absurd h
no_input looking (Some all) (fault.Lines e) h = absurd h
no_input looking (Some all) (fault.Stimuli e) h = absurd h
no_input looking (Some all) (fault.Judge e) h = absurd h
no_input looking (Some all) fault.Sources h = absurd h
no_input looking (Some all) fault.NoPlanFile h = absurd h
no_input looking (Some all) fault.NoPlan h = absurd h
no_input looking (Some all) fault.Write h = absurd h

-- ---- how it ends

module _ (looking : Looking) (macs : List (List ℕ)) (text held holds : Option (List ℕ)) where
  pub not_seen : (e : Fault) → IfSome text (λ octets. IsUnseen looking octets e) → Keeps held holds → IfSome text (λ octets. ShowsOf looking macs octets held holds (Err e))
  not_seen e h kept = by_text text h
    where
      by_text : (text : Option (List ℕ)) → IfSome text (λ octets. IsUnseen looking octets e) → IfSome text (λ octets. ShowsOf looking macs octets held holds (Err e))
      by_text None h = tt
      by_text (Some octets) h = inl (h, kept)

  pub not_delivered : (e : Fault) → e ≡ fault.Write → IfSome text (λ octets. ShowsOf looking macs octets held holds (Err e))
  not_delivered e is = by_text text
    where
      by_text : (text : Option (List ℕ)) → IfSome text (λ octets. ShowsOf looking macs octets held holds (Err e))
      by_text None = tt
      by_text (Some octets) = inr is

  pub delivered : (report : Report) (well : Bool) → Appends held holds report.text.items → well ≡ report.is_well → IfSome text (λ octets. IsSeen looking macs octets (seen.Told report))
      → IfSome text (λ octets. ShowsOf looking macs octets held holds (Ok (ended.Told well)))
  delivered report well written same h = by_text text h
    where
      by_text : (text : Option (List ℕ)) → IfSome text (λ octets. IsSeen looking macs octets (seen.Told report))
          → IfSome text (λ octets. ShowsOf looking macs octets held holds (Ok (ended.Told well)))
      by_text None h = tt
      by_text (Some octets) h = (report.text.items, subst (λ (b : Bool). IsExamined looking macs octets report.text.items b) (sym same) h, written)

  pub not_there : (number : ℕ) → Keeps held holds → IfSome text (λ octets. IsSeen looking macs octets (seen.NoInterface number))
      → IfSome text (λ octets. ShowsOf looking macs octets held holds (Ok (ended.NoInterface number)))
  not_there number kept h = by_text text h
    where
      by_text : (text : Option (List ℕ)) → IfSome text (λ octets. IsSeen looking macs octets (seen.NoInterface number))
          → IfSome text (λ octets. ShowsOf looking macs octets held holds (Ok (ended.NoInterface number)))
      by_text None h = tt
      by_text (Some octets) h = (h, kept)

module _ (looking : Looking) (macs : List (List ℕ)) (plan text held holds : Option (List ℕ)) where
  pub shows : (found : List (List ℕ)) (r : Result Ended Fault) → expected_by macs plan ≡ Some found → IfSome text (λ octets. ShowsOf looking found octets held holds r)
      → IfSome text (λ octets. Shows looking macs plan octets held holds r)
  shows found r is h = by_text text h
    where
      by_text : (text : Option (List ℕ)) → IfSome text (λ octets. ShowsOf looking found octets held holds r) → IfSome text (λ octets. Shows looking macs plan octets held holds r)
      by_text None h = tt
      by_text (Some octets) h = inl (found, is, h)

  pub unexpected : (e : Fault) → IsUnexpected plan e → Keeps held holds → IfSome text (λ octets. Shows looking macs plan octets held holds (Err e))
  unexpected e h kept = by_text text
    where
      by_text : (text : Option (List ℕ)) → IfSome text (λ octets. Shows looking macs plan octets held holds (Err e))
      by_text None = tt
      by_text (Some octets) = inr (e, refl, h, kept)

  pub examines : (told tells : Option (List ℕ)) (r : Result Ended Fault) (code : ℕ) → IfSome text (λ octets. Shows looking macs plan octets held holds r) → TellsEnded told tells r code
      → IfSome text (λ octets. Examines looking macs plan octets held holds told tells code)
  examines told tells r code h is = by_text text h
    where
      by_text : (text : Option (List ℕ)) → IfSome text (λ octets. Shows looking macs plan octets held holds r) → IfSome text (λ octets. Examines looking macs plan octets held holds told tells code)
      by_text None h = tt
      by_text (Some octets) h = record { ended = r; shows = h; is_told = is }
