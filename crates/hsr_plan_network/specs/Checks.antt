-- What names a plan may not have.
use Rattle.std.specs.Prelude.{ℕ, ◌-◌, ◌==◌, ◌&&◌, ◌||◌, not, nat_lt, nat_le, Bool, true, ⊤, List, [], ◌∷◌, ◌++◌, codes, length, Result, Ok, Err, if◌then◌else◌}
use Rattle.std.specs.List.{list_any}
use Rattle.std.specs.Str.{bytes_eq}
use Rattle.hsr_toml.specs.Fallible.{◌>>=◌, guard}
use Rattle.hsr_plan_text.specs.Plan.{Behind, Network}
use Rattle.hsr_plan_text.specs.declared.fault.Key.TheVariants as key
use Rattle.hsr_plan_text.specs.declared.fault.What.{What}
use Rattle.hsr_plan_text.specs.declared.fault.What.TheVariants.{BadValue, Refused}
use Rattle.hsr_plan_text.specs.declared.fault.Refusal.{Refusal}
use Rattle.hsr_plan_text.specs.declared.fault.Refusal.TheVariants.{NameTwice, NoSuchName, TooMany, Topology as NoTopology}
use Rattle.hsr_plan_text.specs.declared.plan.Addressed.{Addressed}
use Rattle.hsr_plan_text.specs.declared.plan.InMode.{InMode}
use Rattle.hsr_plan_network.specs.Names.{is_in, times_met}

-- a refusal, unless it holds
abbrev pub unless_held : Bool → Refusal → Result ⊤ What
unless_held holds why = guard holds (Refused why)

-- each passes; or the first fault
abbrev pub each_passes : {A : Type 0} → (A → Result ⊤ What) → List A → Result ⊤ What
each_passes check [] = Ok tt
each_passes check (x ∷ xs) = check x >>= λ _. each_passes check xs

-- no name of these stands again further on
abbrev pub each_once : List (List ℕ) → Result ⊤ What
each_once [] = Ok tt
each_once (n ∷ ns) = unless_held (not (is_in n ns)) (NameTwice n) >>= λ _. each_once ns

-- ---- rings

-- rings list n names at most
abbrev pub list_at_most : ℕ → List (List (List ℕ)) → Bool
list_at_most n [] = true
list_at_most n (ring ∷ rings) = nat_le (length ring) n && list_at_most (n - length ring) rings

-- 64 nodes are in 64 rings at most, each in two: this is counted before names are compared
abbrev pub may_be_64 : List (List (List ℕ)) → Bool
may_be_64 rings = nat_le (length rings) 64 && list_at_most 128 rings

unfoldable pub in_two : List (List (List ℕ)) → List ℕ → Result ⊤ What
in_two rings n = unless_held (nat_le (times_met rings n) 2) (NameTwice n)

-- a ring has each name once and two at least, and each is in two rings at most
unfoldable pub ring_passes : List (List (List ℕ)) → List (List ℕ) → Result ⊤ What
ring_passes rings ring = each_once ring >>= λ _. unless_held (nat_le 2 (length ring)) NoTopology >>= λ _. each_passes (in_two rings) ring

-- ---- RedBoxes, addresses and modes

-- a name that is in one ring
abbrev pub in_one : List (List (List ℕ)) → List ℕ → Bool
in_one rings n = times_met rings n == 1

abbrev pub some_sixteen : List (List ℕ) → Bool
some_sixteen ns = nat_lt 0 (length ns) && nat_le (length ns) 16

-- no name of stations is a node's
unfoldable pub is_new : List (List (List ℕ)) → List ℕ → Result ⊤ What
is_new rings n = unless_held (times_met rings n == 0) (NameTwice n)

-- a RedBox is in one ring, leaves its Station a name that is new, and has 1 to 16 stations of new names
unfoldable pub redbox_passes : List (List (List ℕ)) → Behind → Result ⊤ What
redbox_passes rings b =
    unless_held (in_one rings b.redbox) (NoSuchName b.redbox) >>= λ _. guard (nat_le (length b.redbox) 27) (BadValue key.RedBox)
    >>= λ _. is_new rings (b.redbox ++ codes "-sans") >>= λ _. unless_held (some_sixteen b.stations) (TooMany key.RedBox)
    >>= λ _. each_passes (is_new rings) b.stations

-- the stations behind all RedBoxes
abbrev pub stations_of : List Behind → List (List ℕ)
stations_of [] = []
stations_of (b ∷ bs) = b.stations ++ stations_of bs

abbrev pub is_station : List Behind → List ℕ → Bool
is_station bs n = list_any (λ b. is_in n b.stations) bs

-- an address is one of a node in one ring, or of a station
unfoldable pub address_passes : Network → Addressed → Result ⊤ What
address_passes network a = unless_held (in_one network.rings a.name || is_station network.redboxes a.name) (NoSuchName a.name)

-- some of these has the address
abbrev pub has_mac : List ℕ → List Addressed → Bool
has_mac mac given = list_any (λ a. bytes_eq a.mac mac) given

-- no address stands again further on
abbrev pub own_addresses : List Addressed → Result ⊤ What
own_addresses [] = Ok tt
own_addresses (a ∷ later) = unless_held (not (has_mac a.mac later)) NoTopology >>= λ _. own_addresses later

unfoldable pub mode_passes : List (List (List ℕ)) → InMode → Result ⊤ What
mode_passes rings m = unless_held (in_one rings m.name) (NoSuchName m.name)

-- all of a network passes
unfoldable pub passes : Network → Result ⊤ What
passes network = do
  _ ← unless_held (may_be_64 network.rings) (TooMany key.Ring)
  _ ← each_passes (ring_passes network.rings) network.rings
  _ ← each_passes (redbox_passes network.rings) network.redboxes
  _ ← each_once (stations_of network.redboxes)
  _ ← each_passes (address_passes network) network.addresses
  _ ← own_addresses network.addresses
  each_passes (mode_passes network.rings) network.modes
