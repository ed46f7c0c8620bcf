-- The moments of a picture: those at which its arrows begin and end, and those of its sends.
use Rattle.std.specs.Prelude.{ℕ, List, [], ◌∷◌, ◌++◌, Option, Some, None}
use Rattle.std.specs.List.{Contains, flat_map}
use Rattle.std.specs.List.Sorted.{IsStrictlyIncreasing}
use Rattle.hsr_timeline.specs.declared.stamp.Stamp.{Stamp}
use Rattle.hsr_diagram.specs.declared.arrow.Arrow.{Arrow}
use Rattle.hsr_diagram.specs.declared.sending.Sent.{Sent}

abbrev pub moment_if : Option Stamp → List ℕ
moment_if None = []
moment_if (Some t) = t.moment ∷ []

abbrev pub arrow_moments : Arrow → List ℕ
arrow_moments arrow = arrow.row.moment ∷ moment_if arrow.start

abbrev pub sent_moments : Sent → List ℕ
sent_moments sent = moment_if sent.start

abbrev pub all_moments : List Arrow → List Sent → List ℕ
all_moments arrows sends = flat_map arrow_moments arrows ++ flat_map sent_moments sends

-- each of these once, rising, and no other
pub record AreMoments (all moments : List ℕ) : Type 0 where
  pub rise : IsStrictlyIncreasing moments
  pub kept : (m : ℕ) → Contains all m → Contains moments m
  pub none_more : (m : ℕ) → Contains moments m → Contains all m
