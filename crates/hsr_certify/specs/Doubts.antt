-- The doubts, in their order: each with the condition that clears it.
--     AsksForSend   a step asks for a send
--     IsSo          a doubt is so: at the lowest step, and the lowest node
--     table         the doubts, each with its condition
--     IsFirst       a doubt of a table is so, and all conditions before its own hold
--     IsPremised    something is sent, and all conditions hold
use Rattle.std.specs.Prelude.{ℕ, ◌<◌, ◌≡◌, ◌==◌, Bool, true, false, List, [], ◌∷◌, length, slice_get, Some}
use Rattle.hsr_deliveries.specs.Delivered.{is_due}
use Rattle.hsr_network_laws.specs.Network.{IsNetwork}
use Rattle.hsr_routes.specs.Networks.{AreGoingRound, HaveOwnAddresses, IsFirstUnlike}
use Rattle.hsr_scenario.specs.declared.steps.Order.{Order}
use Rattle.hsr_plays.specs.Conditions.{HasRoom, IsAccepted, IsBrief, IsClear, IsCovered, IsEnded, IsFine, IsNotBack, IsServed, IsUncrowded, IsUnwrapped, Leads, LeadsDue, OfSends, OfSteps}
use Rattle.hsr_plays.specs.Setup.{Setup, net_of}
use Rattle.hsr_plays.specs.Spans.{spans}
use Rattle.hsr_plays.specs.declared.span.SendSpan.{SendSpan}
use Rattle.hsr_certify.specs.declared.doubt.CertifyFault.{CertifyFault}
use Rattle.hsr_certify.specs.declared.doubt.CertifyFault.TheVariants as fault
use Rattle.hsr_certify.specs.declared.doubt.Doubt.{Doubt}
use Rattle.hsr_certify.specs.declared.doubt.Doubt.TheVariants.{Empty, Fine, Open, Mode, SameAddress, Side, Refused, Back, Late, Crowded, Wrapped, Uncovered, Queue, CutOff}

-- ---- each doubt

-- a step asks for a send
pub record AsksForSend (s : Setup) : Type 0 where
  pub at : ℕ
  pub span : SendSpan
  pub listed : slice_get (spans s) at ≡ Some span

-- the first step of which a condition doesn't hold
pub record IsFirstStep (P : Setup → ℕ → Order → Type 0) (s : Setup) (i : ℕ) : Type 0 where
  pub order : Order
  pub listed : slice_get s.orders i ≡ Some order
  pub fails : ¬ P s i order
  pub before : (j : ℕ) (other : Order) → j < i → slice_get s.orders j ≡ Some other → P s j other

-- the first send of which a condition doesn't hold, by the index of its step
pub record IsFirstSend (P : Setup → SendSpan → Type 0) (s : Setup) (i : ℕ) : Type 0 where
  pub at : ℕ
  pub span : SendSpan
  pub listed : slice_get (spans s) at ≡ Some span
  pub index : span.index ≡ i
  pub fails : ¬ P s span
  pub before : (j : ℕ) (other : SendSpan) → j < at → slice_get (spans s) j ≡ Some other → P s other

-- the lowest node that the send at an index is due at and that no routes lead to
pub record IsCutOff (s : Setup) (i k : ℕ) : Type 0 where
  pub at : ℕ
  pub span : SendSpan
  pub listed : slice_get (spans s) at ≡ Some span
  pub index : span.index ≡ i
  pub node : k < length s.places
  pub due : is_due (net_of s) span.asked.node span.asked.dst span.asked.kind k ≡ true
  pub unled : ¬ Leads s span k
  pub before : (m : ℕ) → m < k → LeadsDue s span m

-- its number in the order in which doubts are tried
abbrev pub number : Doubt → ℕ
number Empty = 0
number (Fine i) = 1
number (Open i) = 2
number Mode = 3
number SameAddress = 4
number (Side l) = 5
number (Refused i) = 6
number (Back i) = 7
number (Late i) = 8
number (Crowded i) = 9
number (Wrapped i) = 10
number (Uncovered i) = 11
number (Queue i) = 12
number (CutOff i k) = 13

-- when it is so
abbrev pub IsSo : Setup → Doubt → Type 0
IsSo s Empty = ¬ AsksForSend s
IsSo s (Fine i) = IsFirstStep IsFine s i
IsSo s (Open i) = IsFirstSend IsEnded s i
IsSo s Mode = ¬ AreGoingRound (net_of s)
IsSo s SameAddress = ¬ HaveOwnAddresses (net_of s)
IsSo s (Side l) = IsFirstUnlike (net_of s) l
IsSo s (Refused i) = IsFirstStep IsAccepted s i
IsSo s (Back i) = IsFirstStep IsNotBack s i
IsSo s (Late i) = IsFirstSend IsBrief s i
IsSo s (Crowded i) = IsFirstSend IsUncrowded s i
IsSo s (Wrapped i) = IsFirstSend IsUnwrapped s i
IsSo s (Uncovered i) = IsFirstSend IsCovered s i
IsSo s (Queue i) = IsFirstSend HasRoom s i
IsSo s (CutOff i k) = IsFirstSend IsServed s i × IsCutOff s i k

-- ---- the table

-- a kind of doubt by its number, and what holds where there is none of that kind
pub record Row (X : Type 0) : Type 1 where
  pub number : ℕ
  pub Holds : X → Type 0

-- A doubt stands here for all of its kind: which step, node or link it names is the same to the table.
abbrev pub clears : {X : Type 0} → Doubt → (X → Type 0) → Row X
clears doubt P = record { number = number doubt; Holds = P }

abbrev pub table : List (Row Setup)
table =
    clears Empty AsksForSend ∷ clears (Fine 0) (OfSteps IsFine) ∷ clears (Open 0) (OfSends IsEnded)
    ∷ clears Mode (λ s. AreGoingRound (net_of s)) ∷ clears SameAddress (λ s. HaveOwnAddresses (net_of s)) ∷ clears (Side 0) (λ s. IsNetwork (net_of s))
    ∷ clears (Refused 0) (OfSteps IsAccepted) ∷ clears (Back 0) (OfSteps IsNotBack)
    ∷ clears (Late 0) (OfSends IsBrief) ∷ clears (Crowded 0) (OfSends IsUncrowded) ∷ clears (Wrapped 0) (OfSends IsUnwrapped)
    ∷ clears (Uncovered 0) (OfSends IsCovered) ∷ clears (Queue 0) (OfSends HasRoom) ∷ clears (CutOff 0 0) (OfSends IsServed) ∷ []

-- ---- the first doubt

abbrev pub either : Bool → Type 0 → Type 0 → Type 0
either true P Q = P
either false P Q = Q

-- a doubt of a table is so, and all before its own row hold
abbrev pub IsFirst : {X : Type 0} → (X → Doubt → Type 0) → List (Row X) → X → Doubt → Type 0
IsFirst So [] x doubt = ⊥
IsFirst So (r ∷ rows) x doubt = either (r.number == number doubt) (So x doubt) (r.Holds x × IsFirst So rows x doubt)

-- no memory says nothing of the setup
abbrev pub IsFirstFault : Setup → CertifyFault → Type 0
IsFirstFault s (fault.Doubt doubt) = IsFirst IsSo table s doubt
IsFirstFault s fault.NoMemory = Unit {0}

-- something is sent, and all conditions hold
pub record IsPremised (s : Setup) : Type 0 where
  pub sends : AsksForSend s
  pub clear : IsClear s

-- where there is a doubt, this isn't so
abbrev pub IsDoubted : Setup → CertifyFault → Type 0
IsDoubted s (fault.Doubt doubt) = ¬ IsPremised s
IsDoubted s fault.NoMemory = Unit {0}
