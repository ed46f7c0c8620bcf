-- Why a run can't be certified: when each doubt is so, and the doubts of each scope in their order.
--     IsSo                  when a doubt is so
--     Row, clears           a row of a table: a kind of doubt, and what holds of a run that is clear of it
--     of_ring, of_network   the table of each audit
--     IsFirst               a doubt of a table is so, and the run is clear of those before it
use Rattle.std.specs.Prelude.{ℕ, ◌==◌, Bool, true, false, List, [], ◌∷◌}
use Rattle.hsr_run_laws.specs.Premises.{NothingForgotten, NothingMistaken, OneLossyLink}
use Rattle.hsr_run_laws.specs.Run.{Run}
use Rattle.hsr_network_laws.specs.Late.{NothingLate}
use Rattle.hsr_network_laws.specs.Network.{IsNetwork}
use Rattle.hsr_table_flaws.specs.Flaws.{IsFirstNot, IsInTimeAt, KnowsOwnAt, RemembersAt}
use Rattle.hsr_table_flaws.specs.declared.flaw.Flaw.{Flaw}
use Rattle.hsr_table_flaws.specs.declared.flaw.Flaw.TheVariants as flaw
use Rattle.hsr_routes.specs.Networks.{AreGoingRound, HaveOwnAddresses, IsFirstUnlike}
use Rattle.hsr_audit.specs.Danhs.{IsDanhRing}
use Rattle.hsr_audit.specs.Sends.{AreKnown, ArePromised, AreServed, HasSend, IsCoveredAt, IsCutOff, IsKnownAt, IsServedAt}
use Rattle.hsr_audit.specs.declared.doubt.AuditFault.{AuditFault}
use Rattle.hsr_audit.specs.declared.doubt.AuditFault.TheVariants as fault
use Rattle.hsr_audit.specs.declared.doubt.Doubt.{Doubt}
use Rattle.hsr_audit.specs.declared.doubt.Doubt.TheVariants.{NotRing, Empty, Mode, SameAddress, Side, TwoLinks, Forgot, Mistaken, NumberedLate, CutOff, UnknownStation, Uncovered}

-- ---- each doubt

-- its number in the order in which doubts are tried
abbrev pub number : Doubt → ℕ
number NotRing = 0
number Empty = 1
number Mode = 2
number SameAddress = 3
number (Side l) = 4
number TwoLinks = 5
number (Forgot k i) = 6
number (Mistaken k i) = 7
number (NumberedLate k i) = 8
number (CutOff k i n) = 9
number (UnknownStation k i) = 10
number (Uncovered k i) = 11

-- when it is so
abbrev pub IsSo : Run → Doubt → Type 0
IsSo run NotRing = ¬ IsDanhRing run
IsSo run Empty = ¬ HasSend run
IsSo run Mode = ¬ AreGoingRound run
IsSo run SameAddress = ¬ HaveOwnAddresses run
IsSo run (Side l) = IsFirstUnlike run l
IsSo run TwoLinks = ¬ OneLossyLink run
IsSo run (Forgot k i) = IsFirstNot run (RemembersAt run) k i
IsSo run (Mistaken k i) = IsFirstNot run (KnowsOwnAt run) k i
IsSo run (NumberedLate k i) = IsFirstNot run (IsInTimeAt run) k i
IsSo run (CutOff k i n) = IsFirstNot run (IsServedAt run) k i × IsCutOff run k i n
IsSo run (UnknownStation k i) = IsFirstNot run (IsKnownAt run) k i
IsSo run (Uncovered k i) = IsFirstNot run (IsCoveredAt run) k i

-- ---- tables

-- a kind of doubt by its number, and what holds of a run that gives none of that kind
pub record Row : Type 1 where
  pub number : ℕ
  pub IsClear : Run → Type 0

-- A doubt stands here for all of its kind: which node, place or link it names is the same to a table.
abbrev pub clears : Doubt → (Run → Type 0) → Row
clears doubt P = record { number = number doubt; IsClear = P }

-- the doubts of a ring's audit
abbrev pub of_ring : List Row
of_ring =
    clears NotRing IsDanhRing ∷ clears Mode AreGoingRound ∷ clears SameAddress HaveOwnAddresses ∷ clears TwoLinks OneLossyLink
    ∷ clears (Forgot 0 0) NothingForgotten ∷ clears (Mistaken 0 0) NothingMistaken ∷ []

-- the doubts of a network's audit
abbrev pub of_network : List Row
of_network =
    clears Empty HasSend ∷ clears Mode AreGoingRound ∷ clears SameAddress HaveOwnAddresses ∷ clears (Side 0) IsNetwork
    ∷ clears (Forgot 0 0) NothingForgotten ∷ clears (Mistaken 0 0) NothingMistaken ∷ clears (NumberedLate 0 0) NothingLate
    ∷ clears (CutOff 0 0 0) AreServed ∷ clears (UnknownStation 0 0) AreKnown ∷ clears (Uncovered 0 0) ArePromised ∷ []

-- ---- the first doubt

abbrev pub either : Bool → Type 0 → Type 0 → Type 0
either true P Q = P
either false P Q = Q

-- a doubt of a table is so, and the run is clear of all rows before its own
abbrev pub IsFirst : List Row → Run → Doubt → Type 0
IsFirst [] run doubt = ⊥
IsFirst (r ∷ rows) run doubt = either (r.number == number doubt) (IsSo run doubt) (r.IsClear run × IsFirst rows run doubt)

-- ---- premises

-- something was sent, in a network, where nothing was forgotten that was needed, nothing mistaken, and nothing numbered late
pub record IsSound (run : Run) : Type 0 where
  pub sends : HasSend run
  pub network : IsNetwork run
  pub forgotten : NothingForgotten run
  pub mistaken : NothingMistaken run
  pub in_time : NothingLate run

-- so it is; and each send comes to each node that it is due at, is known each time by the RedBox of a Station that it is to, and is
-- covered
pub record IsNetworkPremised (run : Run) : Type 0 where
  pub sound : IsSound run
  pub served : AreServed run
  pub known : AreKnown run
  pub covered : ArePromised run

-- ---- answers

-- a doubt is the first one of a table; no memory says nothing of the run
abbrev pub IsFirstFault : List Row → Run → AuditFault → Type 0
IsFirstFault rows run (fault.Doubt doubt) = IsFirst rows run doubt
IsFirstFault rows run fault.NoMemory = Unit {0}

-- where there is a doubt, these premises don't hold
abbrev pub IsRefused : Type 0 → AuditFault → Type 0
IsRefused P (fault.Doubt doubt) = ¬ P
IsRefused P fault.NoMemory = Unit {0}

-- ---- as hsr_table_flaws says it

abbrev pub doubt_at : Flaw → Doubt
doubt_at (flaw.Forgot k i) = Forgot k i
doubt_at (flaw.Mistaken k i) = Mistaken k i
doubt_at (flaw.Late k i) = NumberedLate k i
