-- What the keys of a plan say of its nodes.
use Rattle.std.specs.Prelude.{ℕ, List, [], ◌∷◌, Option, Some, None, Result, Ok, Err, ok_or}
use Rattle.toml.specs.Data.{Data, Members}
use Rattle.hsr_frame.specs.Words.{mode_of}
use Rattle.hsr_toml.specs.Fallible.{◌>>=◌, each_item, each_member}
use Rattle.hsr_plan_text.specs.Plan.{Behind, Network}
use Rattle.hsr_toml.specs.Tables.{at_key, items, members, optional, text, word}
use Rattle.hsr_plan_text.specs.Fault.{faults}
use Rattle.hsr_toml.specs.Names.{mac_of, name_of}
use Rattle.hsr_plan_text.specs.declared.fault.Key.{Key}
use Rattle.hsr_plan_text.specs.declared.fault.Key.TheVariants as key
use Rattle.hsr_plan_text.specs.declared.fault.What.{What}
use Rattle.hsr_plan_text.specs.declared.fault.What.TheVariants.{BadName, Missing, Refused}
use Rattle.hsr_plan_text.specs.declared.fault.Refusal.TheVariants.{Together}
use Rattle.hsr_plan_text.specs.declared.plan.Addressed.{Addressed}
use Rattle.hsr_plan_text.specs.declared.plan.InMode.{InMode}

-- ---- names

-- the name that a text is
abbrev pub named : Key → List ℕ → Result (List ℕ) What
named key k = ok_or (name_of k) (BadName key k)

abbrev pub name : Key → Data → Result (List ℕ) What
name key d = text faults key d >>= named key

abbrev pub names : Key → Data → Result (List (List ℕ)) What
names key d = items faults key d >>= each_item (name key) []

-- ---- rings

abbrev pub only_ring : Key → Data → Result (List (List (List ℕ))) What
only_ring key d = names key d >>= λ ns. Ok (ns ∷ [])

abbrev pub ring : List ℕ → Data → Result (List (List ℕ)) What
ring k d = names key.Rings d

abbrev pub rings : Key → Data → Result (List (List (List ℕ))) What
rings key d = members faults key d >>= each_member ring []

abbrev pub some_rings : List (List (List ℕ)) → Result (List (List (List ℕ))) What
some_rings [] = Err (Missing key.Ring)
some_rings (r ∷ rs) = Ok (r ∷ rs)

abbrev pub named_rings : Key → Data → Result (List (List (List ℕ))) What
named_rings key d = rings key d >>= some_rings

-- the one ring, or those of the table `rings`, by its keys, and not both
abbrev pub rings_at : Option Data → Option Data → Result (List (List (List ℕ))) What
rings_at None None = Err (Missing key.Ring)
rings_at (Some d) None = only_ring key.Ring d
rings_at None (Some d) = named_rings key.Rings d
rings_at (Some d) (Some e) = Err (Refused (Together key.Rings))

abbrev pub rings_in : Members → Result (List (List (List ℕ))) What
rings_in ms = rings_at (at_key faults key.Ring ms) (at_key faults key.Rings ms)

-- ---- what else is said of nodes

abbrev pub redbox : List ℕ → Data → Result Behind What
redbox k d = named key.RedBox k >>= λ n. names key.RedBox d >>= λ ns. Ok (record { redbox = n; stations = ns })

abbrev pub redboxes : Key → Data → Result (List Behind) What
redboxes key d = members faults key d >>= each_member redbox []

abbrev pub address : List ℕ → Data → Result Addressed What
address k d = named key.Address k >>= λ n. word faults mac_of key.Address d >>= λ m. Ok (record { name = n; mac = m })

abbrev pub addresses : Key → Data → Result (List Addressed) What
addresses key d = members faults key d >>= each_member address []

abbrev pub mode : List ℕ → Data → Result InMode What
mode k d = named key.Mode k >>= λ n. word faults mode_of key.Mode d >>= λ m. Ok (record { name = n; mode = m })

abbrev pub modes : Key → Data → Result (List InMode) What
modes key d = members faults key d >>= each_member mode []

unfoldable pub network_in : Members → Result Network What
network_in ms = do
  rs ← rings_in ms
  bs ← optional faults key.RedBox [] redboxes ms
  macs ← optional faults key.Address [] addresses ms
  us ← optional faults key.Mode [] modes ms
  Ok (record { rings = rs; redboxes = bs; addresses = macs; modes = us })
