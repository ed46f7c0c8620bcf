-- How it ends, of a text that is known or isn't.
use Rattle.std.proofs.Common.{◌≡◌, inl, inr, ℕ, List, refl, Option, Some, None, Ok, Err}
use Rattle.std.specs.Prelude.{IfSome}
use Rattle.std.specs.Io.KnownBytes.{Appends, Keeps}
use Rattle.hsr_node_lines.specs.Lines.{LinesFields}
use Rattle.hsr_tap.specs.Ends.{Ends}
use Rattle.hsr_tap.specs.Tapping.{IsTold, IsUntold}
use Rattle.hsr_tap.specs.declared.fault.Fault.{Fault}
use Rattle.hsr_tap.specs.declared.fault.Fault.TheVariants as fault

module _ (document : Option (List ℕ)) (fcs : ℕ) (text held holds : Option (List ℕ)) where
  pub not_told : (e : Fault) → IfSome text (λ octets. IsUntold document fcs octets e) → Keeps held holds → IfSome text (λ octets. Ends document fcs octets held holds (Err e))
  not_told e untold kept = by_text text untold
    where
      by_text : (text : Option (List ℕ)) → IfSome text (λ octets. IsUntold document fcs octets e) → IfSome text (λ octets. Ends document fcs octets held holds (Err e))
      by_text None h = tt
      by_text (Some octets) h = inl (h, kept)

  pub not_delivered : (e : Fault) (lines : LinesFields) → e ≡ fault.Write → IfSome text (λ octets. IsTold document fcs octets (Ok lines))
      → IfSome text (λ octets. Ends document fcs octets held holds (Err e))
  not_delivered e lines is told = by_text text told
    where
      by_text : (text : Option (List ℕ)) → IfSome text (λ octets. IsTold document fcs octets (Ok lines)) → IfSome text (λ octets. Ends document fcs octets held holds (Err e))
      by_text None h = tt
      by_text (Some octets) h = inr (is, (lines, h))

  pub delivered : (lines : LinesFields) → Appends held holds lines.text → IfSome text (λ octets. IsTold document fcs octets (Ok lines))
      → IfSome text (λ octets. Ends document fcs octets held holds (Ok lines.skipped))
  delivered lines written told = by_text text told
    where
      by_text : (text : Option (List ℕ)) → IfSome text (λ octets. IsTold document fcs octets (Ok lines)) → IfSome text (λ octets. Ends document fcs octets held holds (Ok lines.skipped))
      by_text None h = tt
      by_text (Some octets) h = (lines, h, written, refl)
