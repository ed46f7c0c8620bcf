-- Each of a list passes, or the first fault.
use Rattle.std.proofs.Common.{◌≡◌, ℕ, ◌+◌, ◌-◌, ◌<◌, ◌∙◌, ◌&&◌, nat_le, ◌++◌, length, get_or, drop, List, [], ◌∷◌, Result, Ok, not, ap, sym, subst, append_assoc}
use Rattle.std.specs.Prelude.{⊤}
use Rattle.std.proofs.lemmas.List.{drop_more}
use Rattle.hsr_plan_text.proofs.Lists.{stays}
use Rattle.hsr_toml.specs.Fallible.{◌>>=◌}
use Rattle.hsr_plan_text.specs.Fallible.{Fails}
use Rattle.hsr_plan_text.specs.Plan.{Behind, Network}
use Rattle.hsr_plan_text.specs.declared.fault.What.{What}
use Rattle.hsr_plan_text.specs.declared.fault.Refusal.TheVariants.{NameTwice, Topology as NoTopology}
use Rattle.hsr_plan_text.specs.declared.plan.Addressed.{Addressed}
use Rattle.hsr_plan_text.specs.declared.plan.InMode.{InMode}
use Rattle.hsr_plan_network.specs.Addresses.{is_own}
use Rattle.hsr_plan_network.specs.Checks.{address_passes, each_once, each_passes, has_mac, in_two, is_new, list_at_most, mode_passes, own_addresses, redbox_passes, ring_passes, stations_of, unless_held}
use Rattle.hsr_plan_network.specs.Names.{is_in}
use Rattle.hsr_plan_network.specs.Nodes.{Node}

module _ {A : Type 0} (check : A → Result ⊤ What) where
  step : (xs : List A) (i : ℕ) (d : A) (u : ⊤) → i < length xs → check (get_or xs i d) ≡ Ok u → each_passes check (drop i xs) ≡ each_passes check (drop (i + 1) xs)
  step xs i d u h e = ap (each_passes check) (drop_more xs i d h) ∙ ap (λ r. r >>= λ _. each_passes check (drop (i + 1) xs)) e

  fails : (xs : List A) (i : ℕ) (d : A) (what : What) (whole : Result ⊤ What) → i < length xs
      → each_passes check (drop i xs) ≡ whole → Fails what (check (get_or xs i d)) → Fails what whole
  fails xs i d what whole h same f =
      subst (Fails what) (sym (ap (each_passes check) (drop_more xs i d h)) ∙ same) (stays what (check (get_or xs i d)) (λ _. each_passes check (drop (i + 1) xs)) f)

pub passes_step : {A : Type 0} (check : A → Result ⊤ What) (xs : List A) (i : ℕ) (d : A) (u : ⊤) → i < length xs → check (get_or xs i d) ≡ Ok u
    → each_passes check (drop i xs) ≡ each_passes check (drop (i + 1) xs)
passes_step check = step check

pub passes_fails : {A : Type 0} (check : A → Result ⊤ What) (xs : List A) (i : ℕ) (d : A) (what : What) (whole : Result ⊤ What) → i < length xs
    → each_passes check (drop i xs) ≡ whole → Fails what (check (get_or xs i d)) → Fails what whole
passes_fails check = fails check

-- ---- names that stand once

pub once_step : (xs : List (List ℕ)) (i : ℕ) (d : List ℕ) (u : ⊤) → i < length xs
    → unless_held (not (is_in (get_or xs i d) (drop (i + 1) xs))) (NameTwice (get_or xs i d)) ≡ Ok u → each_once (drop i xs) ≡ each_once (drop (i + 1) xs)
once_step xs i d u h e = ap each_once (drop_more xs i d h) ∙ ap (λ r. r >>= λ _. each_once (drop (i + 1) xs)) e

pub once_fails : (xs : List (List ℕ)) (i : ℕ) (d : List ℕ) (what : What) (whole : Result ⊤ What) → i < length xs
    → each_once (drop i xs) ≡ whole → Fails what (unless_held (not (is_in (get_or xs i d) (drop (i + 1) xs))) (NameTwice (get_or xs i d))) → Fails what whole
once_fails xs i d what whole h same f =
    subst (Fails what) (sym (ap each_once (drop_more xs i d h)) ∙ same) (stays what (unless_held (not (is_in (get_or xs i d) (drop (i + 1) xs))) (NameTwice (get_or xs i d))) (λ _. each_once (drop (i + 1) xs)) f)

-- ---- how many

pub list_step : (n : ℕ) (rings : List (List (List ℕ))) (i : ℕ) (d : List (List ℕ)) → i < length rings
    → list_at_most n (drop i rings) ≡ (nat_le (length (get_or rings i d)) n && list_at_most (n - length (get_or rings i d)) (drop (i + 1) rings))
list_step n rings i d h = ap (list_at_most n) (drop_more rings i d h)

-- ---- two

pub two_step : (rings : List (List (List ℕ))) (xs : List (List ℕ)) (i : ℕ) (d : List ℕ) (u : ⊤) → i < length xs → in_two rings (get_or xs i d) ≡ Ok u
    → each_passes (in_two rings) (drop i xs) ≡ each_passes (in_two rings) (drop (i + 1) xs)
two_step rings = step (in_two rings)

pub two_fails : (rings : List (List (List ℕ))) (xs : List (List ℕ)) (i : ℕ) (d : List ℕ) (what : What) (whole : Result ⊤ What) → i < length xs
    → each_passes (in_two rings) (drop i xs) ≡ whole → Fails what (in_two rings (get_or xs i d)) → Fails what whole
two_fails rings = fails (in_two rings)

-- ---- rings

pub rings_step : (rings : List (List (List ℕ))) (xs : List (List (List ℕ))) (i : ℕ) (d : List (List ℕ)) (u : ⊤) → i < length xs → ring_passes rings (get_or xs i d) ≡ Ok u
    → each_passes (ring_passes rings) (drop i xs) ≡ each_passes (ring_passes rings) (drop (i + 1) xs)
rings_step rings = step (ring_passes rings)

pub rings_fails : (rings : List (List (List ℕ))) (xs : List (List (List ℕ))) (i : ℕ) (d : List (List ℕ)) (what : What) (whole : Result ⊤ What) → i < length xs
    → each_passes (ring_passes rings) (drop i xs) ≡ whole → Fails what (ring_passes rings (get_or xs i d)) → Fails what whole
rings_fails rings = fails (ring_passes rings)

-- ---- new

pub new_step : (rings : List (List (List ℕ))) (xs : List (List ℕ)) (i : ℕ) (d : List ℕ) (u : ⊤) → i < length xs → is_new rings (get_or xs i d) ≡ Ok u
    → each_passes (is_new rings) (drop i xs) ≡ each_passes (is_new rings) (drop (i + 1) xs)
new_step rings = step (is_new rings)

pub new_fails : (rings : List (List (List ℕ))) (xs : List (List ℕ)) (i : ℕ) (d : List ℕ) (what : What) (whole : Result ⊤ What) → i < length xs
    → each_passes (is_new rings) (drop i xs) ≡ whole → Fails what (is_new rings (get_or xs i d)) → Fails what whole
new_fails rings = fails (is_new rings)

-- ---- redboxes

pub redboxes_step : (rings : List (List (List ℕ))) (xs : List Behind) (i : ℕ) (d : Behind) (u : ⊤) → i < length xs → redbox_passes rings (get_or xs i d) ≡ Ok u
    → each_passes (redbox_passes rings) (drop i xs) ≡ each_passes (redbox_passes rings) (drop (i + 1) xs)
redboxes_step rings = step (redbox_passes rings)

pub redboxes_fails : (rings : List (List (List ℕ))) (xs : List Behind) (i : ℕ) (d : Behind) (what : What) (whole : Result ⊤ What) → i < length xs
    → each_passes (redbox_passes rings) (drop i xs) ≡ whole → Fails what (redbox_passes rings (get_or xs i d)) → Fails what whole
redboxes_fails rings = fails (redbox_passes rings)

-- ---- addresses

pub addresses_step : (network : Network) (xs : List Addressed) (i : ℕ) (d : Addressed) (u : ⊤) → i < length xs → address_passes network (get_or xs i d) ≡ Ok u
    → each_passes (address_passes network) (drop i xs) ≡ each_passes (address_passes network) (drop (i + 1) xs)
addresses_step network = step (address_passes network)

pub addresses_fails : (network : Network) (xs : List Addressed) (i : ℕ) (d : Addressed) (what : What) (whole : Result ⊤ What) → i < length xs
    → each_passes (address_passes network) (drop i xs) ≡ whole → Fails what (address_passes network (get_or xs i d)) → Fails what whole
addresses_fails network = fails (address_passes network)

-- ---- addresses that are nobody else's

pub taken_step : (nodes : List Node) (xs : List Addressed) (i : ℕ) (d : Addressed) (u : ⊤) → i < length xs → is_own nodes (get_or xs i d) ≡ Ok u
    → each_passes (is_own nodes) (drop i xs) ≡ each_passes (is_own nodes) (drop (i + 1) xs)
taken_step nodes = step (is_own nodes)

pub taken_fails : (nodes : List Node) (xs : List Addressed) (i : ℕ) (d : Addressed) (what : What) (whole : Result ⊤ What) → i < length xs
    → each_passes (is_own nodes) (drop i xs) ≡ whole → Fails what (is_own nodes (get_or xs i d)) → Fails what whole
taken_fails nodes = fails (is_own nodes)

-- ---- modes

pub modes_step : (rings : List (List (List ℕ))) (xs : List InMode) (i : ℕ) (d : InMode) (u : ⊤) → i < length xs → mode_passes rings (get_or xs i d) ≡ Ok u
    → each_passes (mode_passes rings) (drop i xs) ≡ each_passes (mode_passes rings) (drop (i + 1) xs)
modes_step rings = step (mode_passes rings)

pub modes_fails : (rings : List (List (List ℕ))) (xs : List InMode) (i : ℕ) (d : InMode) (what : What) (whole : Result ⊤ What) → i < length xs
    → each_passes (mode_passes rings) (drop i xs) ≡ whole → Fails what (mode_passes rings (get_or xs i d)) → Fails what whole
modes_fails rings = fails (mode_passes rings)

-- ---- stations

pub stations_step : (seen : List (List ℕ)) (xs : List Behind) (i : ℕ) (d : Behind) → i < length xs
    → seen ++ stations_of (drop i xs) ≡ (seen ++ (get_or xs i d).stations) ++ stations_of (drop (i + 1) xs)
stations_step seen xs i d h =
    ap (λ bs. seen ++ stations_of bs) (drop_more xs i d h) ∙ sym (append_assoc seen (get_or xs i d).stations (stations_of (drop (i + 1) xs)))

-- ---- addresses that stand once

pub own_step : (xs : List Addressed) (i : ℕ) (d : Addressed) (u : ⊤) → i < length xs
    → unless_held (not (has_mac (get_or xs i d).mac (drop (i + 1) xs))) NoTopology ≡ Ok u → own_addresses (drop i xs) ≡ own_addresses (drop (i + 1) xs)
own_step xs i d u h e = ap own_addresses (drop_more xs i d h) ∙ ap (λ r. r >>= λ _. own_addresses (drop (i + 1) xs)) e

pub own_fails : (xs : List Addressed) (i : ℕ) (d : Addressed) (what : What) (whole : Result ⊤ What) → i < length xs
    → own_addresses (drop i xs) ≡ whole → Fails what (unless_held (not (has_mac (get_or xs i d).mac (drop (i + 1) xs))) NoTopology) → Fails what whole
own_fails xs i d what whole h same f =
    subst (Fails what) (sym (ap own_addresses (drop_more xs i d h)) ∙ same) (stays what (unless_held (not (has_mac (get_or xs i d).mac (drop (i + 1) xs))) NoTopology) (λ _. own_addresses (drop (i + 1) xs)) f)
