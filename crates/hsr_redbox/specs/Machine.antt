-- What a contract sees of a RedBox: all that it holds.
use Rattle.std.specs.Prelude.{◌≡◌, ℕ, List, ◌≤◌}
use Rattle.hsr_frame.specs.Address.{IsGroup}
use Rattle.hsr_frame.specs.Counters.{AreWithin as CountersWithin, no_counts, step_limit}
use Rattle.hsr_frame.specs.declared.counters.Counters.{Counters}
use Rattle.hsr_frame.specs.declared.node.Mode.{Mode}
use Rattle.hsr_tables.specs.Nodes.{Nodes, no_nodes}
use Rattle.hsr_tables.specs.Proxies.{Proxies, no_proxies}
use Rattle.hsr_forwarding.specs.Tables.{AreWithin, Notes, no_notes}
use Rattle.hsr_redbox.specs.Wanted.{egresses}

pub record Machine : Type 0 where
  pub own : List ℕ
  pub mode : Mode
  -- what each egress remembers
  pub notes : Notes
  -- the addresses that were heard on the interlink
  pub proxies : Proxies
  -- the nodes that were heard on the ring
  pub nodes : Nodes
  -- the number of the next frame
  pub next : ℕ
  pub counters : Counters
  -- the greatest moment so far
  pub moment : ℕ
  -- how many sends, supervisions and arrivals were accepted
  pub accepted : ℕ

abbrev pub new_machine : List ℕ → Mode → Machine
new_machine own mode = record {
  own = own;
  mode = mode;
  notes = no_notes egresses;
  proxies = no_proxies;
  nodes = no_nodes;
  next = 0;
  counters = no_counts;
  moment = 0;
  accepted = 0;
}

-- what holds of each RedBox
pub record IsSound (machine : Machine) : Type 0 where
  pub station : ¬ IsGroup machine.own
  pub there : machine.notes.there ≡ egresses
  pub notes : AreWithin machine.notes machine.moment machine.accepted
  pub proxies : machine.proxies.last ≤ machine.moment
  pub nodes : machine.nodes.last ≤ machine.moment
  pub steps : machine.accepted ≤ step_limit
  pub counters : CountersWithin machine.counters machine.accepted
