-- Copies, each as often: agreement in a form that a test decides.
use Rattle.std.specs.Prelude.{ℕ, ◌≡◌, ◌&&◌, nat_eq, Bool, true, false, List, count_by, Option, Some, None, unwrap_or}
use Rattle.std.specs.Borrow.{Bor}
use Rattle.std.specs.Option.{option_eq}
use Rattle.std.specs.Str.{bytes_eq}
use Rattle.indexmap.specs.IndexMap.{IndexMap, get_by}
use Rattle.hsr_node.specs.declared.event.Carried.{Carried}
use Rattle.hsr_node.specs.declared.event.Probe.{Probe}
use Rattle.hsr_run_laws.specs.Run.{is_of}

abbrev pub is_same_probe : Option Probe → Option Probe → Bool
is_same_probe None None = true
is_same_probe None (Some other) = false
is_same_probe (Some probe) other = is_of probe other

abbrev pub is_same_carried : Carried → Carried → Bool
is_same_carried x y = is_same_probe x.probe y.probe && bytes_eq x.octets y.octets

-- each copy is as often in the one list as in the other
unfoldable pub AsOften : List Carried → List Carried → Type 0
AsOften xs ys = (copy : Carried) → count_by (is_same_carried copy) xs ≡ count_by (is_same_carried copy) ys

-- ---- counts by an index

-- the node and place of a send
abbrev pub probe_pair : Option Probe → Option (ℕ × ℕ)
probe_pair None = None
probe_pair (Some send) = Some (send.node, send.place)

-- a key of an index is that of a copy
abbrev pub is_key_of : Carried → Option (ℕ × ℕ) × Bor (List ℕ) → Bool
is_key_of copy key = option_eq (λ x y. nat_eq x.0 y.0 && nat_eq x.1 y.1) (probe_pair copy.probe) key.0 && bytes_eq copy.octets key.1.now

-- how often a copy is by an index
abbrev pub count_of : {S : Type 0} → IndexMap (Option (ℕ × ℕ) × Bor (List ℕ)) ℕ S → Carried → ℕ
count_of counts copy = unwrap_or (get_by (is_key_of copy) counts) 0
