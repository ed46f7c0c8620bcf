-- Where something that was needed was forgotten, something mistaken, or something numbered late.
--     RemembersAt, KnowsOwnAt   nothing is at a place of a node's record, and nothing mistaken
--     IsInTimeAt                nothing is numbered late there
--     IsFirstNot                the first place where such a fact fails
--     IsFirstFlaw               the first flaw of a run, or none
pub use Rattle.hsr_finished_run.specs.Places.{HoldsAt}
use Rattle.std.specs.Prelude.{ℕ, ◌+◌, ◌<◌, ◌≡◌, Bool, true, false, List, ◌∷◌, length, reverse, take, Option, Some, None}
use Rattle.hsr_node.specs.Record.{Owner, now}
use Rattle.hsr_node.specs.declared.entry.Entry.{Entry}
use Rattle.hsr_run_laws.specs.Premises.{KnowsOwn, NothingForgotten, NothingMistaken, Remembers}
use Rattle.hsr_run_laws.specs.Run.{Run, owner_of, record_of}
use Rattle.hsr_network_laws.specs.Late.{NothingLate, is_numbered_late}
use Rattle.hsr_table_flaws.specs.Looked.{forgets_of, lates_of, mistakes_of}
use Rattle.hsr_table_flaws.specs.declared.flaw.Flaw.{Flaw}
use Rattle.hsr_table_flaws.specs.declared.flaw.Flaw.TheVariants.{Forgot, Late, Mistaken}

-- nothing that the arrival at a place of a node's record needs is forgotten
abbrev pub RemembersAt : Run → ℕ → ℕ → Type 0
RemembersAt run k = HoldsAt (λ x past. Remembers run.capacity (owner_of run k) past (now (x ∷ past)) x.event) (record_of run k)

-- nothing that the arrival at a place of a node's record finds is mistaken
abbrev pub KnowsOwnAt : Run → ℕ → ℕ → Type 0
KnowsOwnAt run k = HoldsAt (λ x past. KnowsOwn run.capacity (owner_of run k) past (now (x ∷ past)) x.event) (record_of run k)

-- nothing gets its number late at a place of a node's record
abbrev pub IsInTimeAt : Run → ℕ → ℕ → Type 0
IsInTimeAt run k = HoldsAt (λ x past. is_numbered_late (owner_of run k) past x.event x.outcome ≡ false) (record_of run k)

-- of all places of all records the first where P fails: the lowest node, and its lowest place
pub record IsFirstNot (run : Run) (P : ℕ → ℕ → Type 0) (k i : ℕ) : Type 0 where
  pub node : k < length run.places
  pub place : i < length (record_of run k)
  pub fails : ¬ P k i
  pub before : (j : ℕ) → j < i → P k j
  pub nodes : (l j : ℕ) → l < k → j < length (record_of run l) → P l j

-- the first place where something is forgotten; or else, where nothing is, the first where something is mistaken; or else the
-- first where something is numbered late; or none
abbrev pub IsFirstFlaw : Run → Option Flaw → Type 0
IsFirstFlaw run (Some (Forgot k i)) = IsFirstNot run (RemembersAt run) k i
IsFirstFlaw run (Some (Mistaken k i)) = NothingForgotten run × IsFirstNot run (KnowsOwnAt run) k i
IsFirstFlaw run (Some (Late k i)) = NothingForgotten run × NothingMistaken run × IsFirstNot run (IsInTimeAt run) k i
IsFirstFlaw run None = NothingForgotten run × NothingMistaken run × NothingLate run

-- ---- as tests of what is kept

-- a test of a record, the newest entry first, by the capacity and the owner
abbrev pub Test : Type 0
Test = ℕ → Owner → List Entry → Bool

abbrev pub test_at : Test → Run → ℕ → ℕ → Bool
test_at test run k i = test run.capacity (owner_of run k) (reverse (take (i + 1) (record_of run k)))

abbrev pub NoneBelow : Test → Run → ℕ → ℕ → Type 0
NoneBelow test run k n = (i : ℕ) → i < n → test_at test run k i ≡ false

-- of the first n places of a record the first where a test holds
pub record IsFirstOf (test : Test) (run : Run) (k n i : ℕ) : Type 0 where
  pub below : i < n
  pub here : test_at test run k i ≡ true
  pub before : NoneBelow test run k i

-- the first of them, or none
abbrev pub IsFirstAt : Test → Run → ℕ → ℕ → Option ℕ → Type 0
IsFirstAt test run k n None = NoneBelow test run k n
IsFirstAt test run k n (Some i) = IsFirstOf test run k n i

-- the first places of a node's record
pub record AreFirsts (run : Run) (k : ℕ) (forgot mistaken late : Option ℕ) : Type 0 where
  pub forgot_at : IsFirstAt forgets_of run k (length (record_of run k)) forgot
  pub mistaken_at : IsFirstAt mistakes_of run k (length (record_of run k)) mistaken
  pub late_at : IsFirstAt lates_of run k (length (record_of run k)) late

abbrev pub ClearBelow : Test → Run → ℕ → Type 0
ClearBelow test run n = (k : ℕ) → k < n → NoneBelow test run k (length (record_of run k))

-- of all places of the nodes below n the first where a test holds
pub record IsFirstPlace (test : Test) (run : Run) (n k i : ℕ) : Type 0 where
  pub node : k < n
  pub first : IsFirstOf test run k (length (record_of run k)) i
  pub nodes : ClearBelow test run k

abbrev pub IsFirstPlaceOf : Test → Run → ℕ → Option (ℕ × ℕ) → Type 0
IsFirstPlaceOf test run n None = ClearBelow test run n
IsFirstPlaceOf test run n (Some at) = IsFirstPlace test run n at.0 at.1

-- the first place of nodes, after one more node
abbrev pub first_after : Option (ℕ × ℕ) → ℕ → Option ℕ → Option (ℕ × ℕ)
first_after (Some at) k here = Some at
first_after None k None = None
first_after None k (Some i) = Some (k, i)
