-- The doubts as the tests find them, in the order of the table.
--     Subject      what the tests look at
--     IsTestedSo   the tests find a doubt
--     tests        the doubts, each with the tests that clear it
--     IsPassed     all tests are passed
use Rattle.std.specs.Prelude.{ℕ, ◌≡◌, true, false, List, [], ◌∷◌, length, Some, None}
use Rattle.std.specs.List.{list_any}
use Rattle.hsr_run_laws.specs.Run.{Run}
use Rattle.hsr_network_laws.specs.Network.{IsNetwork}
use Rattle.hsr_routes.specs.Networks.{AreGoingRound, HaveOwnAddresses, IsFirstUnlike}
use Rattle.hsr_scenario.specs.declared.steps.Order.{Order}
use Rattle.hsr_plays.specs.Conditions.{is_covered_send}
use Rattle.hsr_plays.specs.Law.{is_send}
use Rattle.hsr_plays.specs.Setup.{Setup, net_of}
use Rattle.hsr_plays.specs.Spans as plays
use Rattle.hsr_plays.specs.declared.span.SendSpan.{SendSpan}
use Rattle.hsr_certify.specs.Doubts.{IsFirst, Row, clears}
use Rattle.hsr_certify.specs.Firsts.{first_send, first_step}
use Rattle.hsr_certify.specs.Served.{IsCutAt, ServedBelow}
use Rattle.hsr_certify.specs.Tests.{first_back, has_room, is_accepted, is_brief, is_coarse, is_ended, is_uncrowded, is_unwrapped}
use Rattle.hsr_certify.specs.declared.doubt.CertifyFault.{CertifyFault}
use Rattle.hsr_certify.specs.declared.doubt.CertifyFault.TheVariants as fault
use Rattle.hsr_certify.specs.declared.doubt.Doubt.{Doubt}
use Rattle.hsr_certify.specs.declared.doubt.Doubt.TheVariants.{Empty, Fine, Open, Mode, SameAddress, Side, Refused, Back, Late, Crowded, Wrapped, Uncovered, Queue, CutOff}

-- nodes and links, how much waits and is noted, the steps, and their spans
pub record Subject : Type 0 where
  pub net : Run
  pub room : ℕ
  pub capacity : ℕ
  pub orders : List Order
  pub spans : List SendSpan

abbrev pub subject_of : Setup → Subject
subject_of s = record { net = net_of s; room = s.room; capacity = s.capacity; orders = s.orders; spans = plays.spans s }

-- ---- each doubt

abbrev pub IsTestedSo : Subject → Doubt → Type 0
IsTestedSo t Empty = list_any is_send t.orders ≡ false
IsTestedSo t (Fine i) = first_step is_coarse 0 t.orders ≡ Some i
IsTestedSo t (Open i) = first_send (is_ended (length t.orders)) t.spans ≡ Some i
IsTestedSo t Mode = ¬ AreGoingRound t.net
IsTestedSo t SameAddress = ¬ HaveOwnAddresses t.net
IsTestedSo t (Side l) = IsFirstUnlike t.net l
IsTestedSo t (Refused i) = first_step (is_accepted t.net t.orders t.spans) 0 t.orders ≡ Some i
IsTestedSo t (Back i) = first_back 0 0 t.orders ≡ Some i
IsTestedSo t (Late i) = first_send (is_brief t.orders) t.spans ≡ Some i
IsTestedSo t (Crowded i) = first_send (is_uncrowded t.capacity t.spans) t.spans ≡ Some i
IsTestedSo t (Wrapped i) = first_send (is_unwrapped t.net t.spans) t.spans ≡ Some i
IsTestedSo t (Uncovered i) = first_send (is_covered_send t.net) t.spans ≡ Some i
IsTestedSo t (Queue i) = first_send (has_room t.room t.spans) t.spans ≡ Some i
IsTestedSo t (CutOff i k) = IsCutAt t.net t.orders t.spans (record { step = i; node = k })

-- ---- the table

-- of nodes, links and steps alone; then of spans, up to those of numbers; then the others
abbrev pub tests : List (Row Subject)
tests =
    clears Empty (λ t. list_any is_send t.orders ≡ true)
    ∷ clears (Fine 0) (λ t. first_step is_coarse 0 t.orders ≡ None)
    ∷ clears (Open 0) (λ t. first_send (is_ended (length t.orders)) t.spans ≡ None)
    ∷ clears Mode (λ t. AreGoingRound t.net)
    ∷ clears SameAddress (λ t. HaveOwnAddresses t.net)
    ∷ clears (Side 0) (λ t. IsNetwork t.net)
    ∷ clears (Refused 0) (λ t. first_step (is_accepted t.net t.orders t.spans) 0 t.orders ≡ None)
    ∷ clears (Back 0) (λ t. first_back 0 0 t.orders ≡ None)
    ∷ clears (Late 0) (λ t. first_send (is_brief t.orders) t.spans ≡ None)
    ∷ clears (Crowded 0) (λ t. first_send (is_uncrowded t.capacity t.spans) t.spans ≡ None)
    ∷ clears (Wrapped 0) (λ t. first_send (is_unwrapped t.net t.spans) t.spans ≡ None)
    ∷ clears (Uncovered 0) (λ t. first_send (is_covered_send t.net) t.spans ≡ None)
    ∷ clears (Queue 0) (λ t. first_send (has_room t.room t.spans) t.spans ≡ None)
    ∷ clears (CutOff 0 0) (λ t. ServedBelow t.net t.orders t.spans (length t.spans))
    ∷ []

-- no memory says nothing of what is tested
abbrev pub IsFirstFound : Subject → CertifyFault → Type 0
IsFirstFound t (fault.Doubt doubt) = IsFirst IsTestedSo tests t doubt
IsFirstFound t fault.NoMemory = Unit {0}

abbrev pub HoldAll : {X : Type 0} → List (Row X) → X → Type 0
HoldAll [] x = Unit {0}
HoldAll (r ∷ rows) x = r.Holds x × HoldAll rows x

abbrev pub IsPassed : Subject → Type 0
IsPassed t = HoldAll tests t
