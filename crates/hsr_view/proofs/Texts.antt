-- What is shown of a text, by its head and what follows.
use Rattle.std.proofs.Common.{◌≡◌, ◌⊎◌, inl, inr, ℕ, List, ◌++◌, Option, None, Some, Result, Ok, Err, subst}
use Rattle.std.specs.Global.{Global}
use Rattle.std.specs.Prelude.{IfErr, IfOk, IfSome, Vec}
use Rattle.std.specs.Io.KnownBytes.{Keeps}
use Rattle.hsr_finished_run.specs.Finished.{Finished}
use Rattle.hsr_table_size.specs.Sizes.{capacity_of}
use Rattle.hsr_table_size.specs.declared.size.TableSize.{TableSize}
use Rattle.hsr_transcript.specs.Answers.{Answers, IsTextOf}
use Rattle.hsr_transcript.specs.declared.fault.ReadFault.{ReadFault}
use Rattle.hsr_head.specs.Told.{told_size}
use Rattle.hsr_view.specs.Ends.{Ends}
use Rattle.hsr_view.specs.Fault.{fault_of_read}
use Rattle.hsr_given.specs.Given.{given_of}
use Rattle.hsr_head.specs.Reads.{ReadsHead, front}
use Rattle.hsr_view.specs.Refusals.{IsUnshown, IsUnshownOf, IsUnshownWith}
use Rattle.hsr_view.specs.Viewing.{IsShownOf}
use Rattle.hsr_view.specs.declared.views.What.{What}
use Rattle.hsr_view.specs.declared.fault.Fault.{Fault}
use Rattle.hsr_given.specs.declared.given.Given.{Given}
use Rattle.hsr_head.proofs.Heads.{of_text}

module _ (what : What) (scenario : Option (List ℕ)) where
  pub unread : (capacity : ℕ) (given : Option Given) (rests : Option (List ℕ)) (head : List ℕ) (why : ReadFault) (fault : Fault) →
      fault ≡ fault_of_read why given → IfSome rests (λ rest. Answers capacity (Err why) (head ++ rest)) → IfSome rests (λ rest. IsUnshownWith capacity given (head ++ rest) what scenario fault)
  unread capacity given None head why fault is answers = tt
  unread capacity given (Some rest) head why fault is answers = record { why = inr (inl (why, is, answers)) }

  pub unshown_run : (capacity : ℕ) (given : Option Given) (rests : Option (List ℕ)) (head : List ℕ) (f : Finished) (r : Result (Vec ℕ Global) Fault) →
      IfSome rests (λ rest. IsTextOf capacity f (head ++ rest)) → IfErr r (IsUnshown f what scenario) →
      IfErr r (λ fault. IfSome rests (λ rest. IsUnshownWith capacity given (head ++ rest) what scenario fault))
  unshown_run capacity given rests head f (Ok octets) text unshown = tt
  unshown_run capacity given None head f (Err fault) text unshown = tt
  unshown_run capacity given (Some rest) head f (Err fault) text unshown = record { why = inr (inr (f, text, unshown)) }

  pub shown_sized : (table : TableSize) (rests : Option (List ℕ)) (head : List ℕ) (r : Result (Vec ℕ Global) Fault) → table ≡ told_size (front head) →
      IfOk r (λ octets. IfSome rests (λ rest. IsShownOf (capacity_of table) (head ++ rest) what scenario octets.items)) →
      IfOk r (λ octets. IfSome rests (λ rest. IsShownOf (capacity_of (told_size (front head))) (head ++ rest) what scenario octets.items))
  shown_sized table rests head r size shown =
      let P : TableSize → Type 0 = λ t. IfOk r (λ octets. IfSome rests (λ rest. IsShownOf (capacity_of t) (head ++ rest) what scenario octets.items)) in
      subst P size shown

  pub unshown_sized : (table : TableSize) (given : Option Given) (rests : Option (List ℕ)) (head : List ℕ) (r : Result (Vec ℕ Global) Fault) → table ≡ told_size (front head) →
      IfErr r (λ fault. IfSome rests (λ rest. IsUnshownWith (capacity_of table) given (head ++ rest) what scenario fault)) →
      IfErr r (λ fault. IfSome rests (λ rest. IsUnshownOf (capacity_of (told_size (front head))) given (head ++ rest) what scenario fault))
  unshown_sized table given rests head (Ok octets) size unshown = tt
  unshown_sized table given None head (Err fault) size unshown = tt
  unshown_sized table given (Some rest) head (Err fault) size unshown =
      let P : TableSize → Type 0 = λ t. IsUnshownOf (capacity_of t) given (head ++ rest) what scenario fault in
      subst P size unshown.why

  pub shown_text : (old new : Option (List ℕ)) (head one : List ℕ) (r : Result (Vec ℕ Global) Fault) → ReadsHead old new head → one ≡ head →
      IfOk r (λ octets. IfSome new (λ rest. IsShownOf (capacity_of (told_size (front one))) (one ++ rest) what scenario octets.items)) →
      IfOk r (λ octets. IfSome old (λ text. IsShownOf (capacity_of (told_size (front text))) text what scenario octets.items))
  shown_text old new head one (Err fault) read is shown = tt
  shown_text old new head one (Ok octets) read is shown =
      let P : List ℕ → List ℕ → Type 0 = λ f t. IsShownOf (capacity_of (told_size f)) t what scenario octets.items in
      let Q : List ℕ → Type 0 = λ h. IfSome new (λ rest. P (front h) (h ++ rest)) in
      of_text P old new head read (subst Q is shown)

  pub unshown_text : (old new : Option (List ℕ)) (head one : List ℕ) (r : Result (Vec ℕ Global) Fault) → ReadsHead old new head → one ≡ head →
      IfErr r (λ fault. IfSome new (λ rest. IsUnshownOf (capacity_of (told_size (front one))) (given_of (front one)) (one ++ rest) what scenario fault)) →
      IfErr r (λ fault. IfSome old (λ text. IsUnshownOf (capacity_of (told_size (front text))) (given_of (front text)) text what scenario fault))
  unshown_text old new head one (Ok octets) read is unshown = tt
  unshown_text old new head one (Err fault) read is unshown =
      let P : List ℕ → List ℕ → Type 0 = λ f t. IsUnshownOf (capacity_of (told_size f)) (given_of f) t what scenario fault in
      let Q : List ℕ → Type 0 = λ h. IfSome new (λ rest. P (front h) (h ++ rest)) in
      of_text P old new head read (subst Q is unshown)

  pub not_shown : (texts held holds : Option (List ℕ)) (fault : Fault) →
      IfSome texts (λ text. IsUnshownOf (capacity_of (told_size (front text))) (given_of (front text)) text what scenario fault) → Keeps held holds →
      IfSome texts (λ text. Ends text what scenario held holds (Err fault))
  not_shown None held holds fault unshown keeps = tt
  not_shown (Some text) held holds fault unshown keeps = inl (unshown, keeps)
