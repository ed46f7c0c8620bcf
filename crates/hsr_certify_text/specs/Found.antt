-- What is found of a setup: a certificate, and what holds then in any order; or the first doubt.
use Rattle.std.specs.Prelude.{◌≡◌, length}
use Rattle.hsr_plays.specs.Setup.{Setup}
use Rattle.hsr_plays.specs.Spans.{spans}
use Rattle.hsr_certify.specs.AnyOrder.{HoldsInAnyOrder}
use Rattle.hsr_certify.specs.Doubts.{IsFirst, IsPremised, IsSo, table}
use Rattle.hsr_certify.specs.declared.certifying.Certified as certifying
use Rattle.hsr_certify_text.specs.declared.verdict.Verdict.{Verdict}
use Rattle.hsr_certify_text.specs.declared.verdict.Verdict.TheVariants.{Certified, Doubted}

-- all conditions hold, this is how many sends there are, and what is certified holds in any order
pub record IsCertificate (s : Setup) (certified : certifying.Certified) : Type 0 where
  pub premised : IsPremised s
  pub sends : certified.sends ≡ length (spans s)
  pub holds : HoldsInAnyOrder s

abbrev pub IsFound : Setup → Verdict → Type 0
IsFound s (Certified certified) = IsCertificate s certified
IsFound s (Doubted doubt) = IsFirst IsSo table s doubt
