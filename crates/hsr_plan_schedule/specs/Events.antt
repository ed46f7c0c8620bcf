-- The events of a plan as occasions.
use Rattle.std.specs.Prelude.{ℕ, ◌==◌, ◌&&◌, ◌||◌, nat_le, Bool, true, false, List, [], ◌∷◌, slice_get, position, Option, Some, None, option_map, Result, Ok, ok_or}
use Rattle.hsr_node.specs.Words.{port_of}
use Rattle.hsr_topology.specs.declared.end.End.{End}
use Rattle.hsr_toml.specs.Fallible.{◌>>=◌, guard}
use Rattle.hsr_plan_text.specs.declared.fault.Key.{Key}
use Rattle.hsr_plan_text.specs.declared.fault.Key.TheVariants as key
use Rattle.hsr_plan_text.specs.declared.fault.What.{What}
use Rattle.hsr_plan_text.specs.declared.fault.What.TheVariants.{Refused}
use Rattle.hsr_plan_text.specs.declared.fault.Refusal.{Refusal}
use Rattle.hsr_plan_text.specs.declared.fault.Refusal.TheVariants.{NoLink, NoSuchName, OfStation, TooLate}
use Rattle.hsr_plan_text.specs.declared.plan.Deed.{Deed}
use Rattle.hsr_plan_text.specs.declared.plan.Deed.TheVariants.{Cut, Mend, Off, On}
use Rattle.hsr_plan_text.specs.declared.plan.Event.{Event}
use Rattle.hsr_plan_text.specs.declared.plan.LinkEnd.{LinkEnd}
use Rattle.hsr_plan_network.specs.Names.{is_in}
use Rattle.hsr_plan_network.specs.Nodes.{Node}
use Rattle.hsr_plan_schedule.specs.Senders.{named}
use Rattle.hsr_plan_schedule.specs.declared.events.Asked.{Asked}
use Rattle.hsr_plan_schedule.specs.declared.occasion.Happening.{Happening}
use Rattle.hsr_plan_schedule.specs.declared.occasion.Happening.TheVariants as happening
use Rattle.hsr_plan_schedule.specs.declared.occasion.Occasion.{Occasion}

-- ---- which link

-- nobody has the name, or a station behind a RedBox has it
abbrev pub no_node_if : Option ℕ → List ℕ → Refusal
no_node_if None n = NoSuchName n
no_node_if (Some k) n = OfStation n

abbrev pub no_node : List Node → List ℕ → Refusal
no_node nodes n = no_node_if (position (λ node. is_in n node.stations) nodes) n

-- the number of the node that has the name
abbrev pub node : List Node → List ℕ → Result ℕ What
node nodes n = ok_or (named nodes n) (Refused (no_node nodes n))

abbrev pub port_at : Option Node → ℕ → Option ℕ
port_at None letter = None
port_at (Some node) letter = port_of node.place letter

-- any port, or the port of a letter
abbrev pub port : List Node → ℕ → Option ℕ → List ℕ → Result (Option ℕ) What
port nodes k None n = Ok None
port nodes k (Some letter) n = ok_or (option_map (λ p. Some p) (port_at (slice_get nodes k) letter)) (Refused (NoSuchName n))

abbrev pub asked : List Node → LinkEnd → Result Asked What
asked nodes e = node nodes e.name >>= λ k. port nodes k e.letter e.name >>= λ p. Ok (record { node = k; port = p })

abbrev pub port_fits : Option ℕ → ℕ → Bool
port_fits None port = true
port_fits (Some asked) port = asked == port

abbrev pub fits : Asked → End → Bool
fits asked end = (asked.node == end.node) && port_fits asked.port end.port

-- a link joins two ends that are asked for
abbrev pub joins : Asked → Asked → List End → Bool
joins a b (e ∷ f ∷ []) = (fits a e && fits b f) || (fits a f && fits b e)
joins a b _ = false

-- the first link that joins them
abbrev pub link_between : Key → List Node → List (List End) → LinkEnd → LinkEnd → Result ℕ What
link_between key nodes links a b = asked nodes a >>= λ a. asked nodes b >>= λ b. ok_or (position (joins a b) links) (Refused (NoLink key))

-- ---- events

abbrev pub happening_of : List Node → List (List End) → Deed → Result Happening What
happening_of nodes links (Cut a b) = link_between key.Cut nodes links a b >>= λ l. Ok (happening.Cut l)
happening_of nodes links (Mend a b) = link_between key.Mend nodes links a b >>= λ l. Ok (happening.Mend l)
happening_of nodes links (Off n) = node nodes n >>= λ k. Ok (happening.Off k)
happening_of nodes links (On n) = node nodes n >>= λ k. Ok (happening.On k)

-- not behind the end of the plan
abbrev pub in_time : Option ℕ → ℕ → Bool
in_time None at = true
in_time (Some until) at = nat_le at until

abbrev pub event : Option ℕ → List Node → List (List End) → Event → Result Occasion What
event until nodes links e = happening_of nodes links e.deed >>= λ w. guard (in_time until e.at) (Refused (TooLate key.At)) >>= λ _. Ok (record { at = e.at; what = w })
