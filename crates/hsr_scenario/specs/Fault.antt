-- The words of a fault.
use Rattle.std.specs.Prelude.{ℕ, Bool, true, false, List, ◌++◌, codes}
use Rattle.std.specs.Fmt.{decimal}
use Rattle.hsr_toml.specs.Faults.{Faults}
use Rattle.hsr_topology.specs.Fault.{topology_fault_code}
use Rattle.hsr_scenario.specs.declared.fault.Key.{Key}
use Rattle.hsr_scenario.specs.declared.fault.Key.TheVariants as key
use Rattle.hsr_scenario.specs.declared.fault.Spot.{Spot}
use Rattle.hsr_scenario.specs.declared.fault.Spot.TheVariants.{Top, Node, Link, Step}
use Rattle.hsr_scenario.specs.declared.fault.What.{What}
use Rattle.hsr_scenario.specs.declared.fault.What.TheVariants.{Text, Missing, Unknown, WrongKind, BadValue, NameTwice, NoSuchName, Topology, NoMemory}
use Rattle.hsr_scenario.specs.declared.fault.ScenarioFault.{ScenarioFault}

-- a key as it is written
abbrev pub key_text : Key → List ℕ
key_text key.Capacity = codes "capacity"
key_text key.TimeUnit = codes "unit"
key_text key.Node = codes "node"
key_text key.Link = codes "link"
key_text key.Step = codes "step"
key_text key.Name = codes "name"
key_text key.Role = codes "role"
key_text key.Mac = codes "mac"
key_text key.Mode = codes "mode"
key_text key.Macs = codes "macs"
key_text key.Ends = codes "ends"
key_text key.Do = codes "do"
key_text key.At = codes "at"
key_text key.To = codes "to"
key_text key.Kind = codes "type"
key_text key.Payload = codes "payload"
key_text key.Vlan = codes "vlan"
key_text key.From = codes "from"
key_text key.About = codes "about"
key_text key.Port = codes "port"
key_text key.Dir = codes "dir"
key_text key.Octets = codes "octets"
key_text key.Stream = codes "stream"

abbrev pub is_memory : What → Bool
is_memory NoMemory = true
is_memory _ = false

abbrev pub is_memory_at : ScenarioFault → Bool
is_memory_at fault = is_memory fault.what

-- what is told of a key and its value
abbrev pub faults : Faults Key What
faults = record { text = key_text; missing = Missing; wrong_kind = WrongKind; bad_value = BadValue; is_memory = is_memory }

abbrev pub spot_text : Spot → List ℕ
spot_text Top = codes "top"
spot_text (Node i) = codes "node " ++ decimal i
spot_text (Link i) = codes "link " ++ decimal i
spot_text (Step i) = codes "step " ++ decimal i

abbrev pub what_text : What → List ℕ
what_text Text = codes "text"
what_text (Missing k) = codes "missing " ++ key_text k
what_text Unknown = codes "unknown"
what_text (WrongKind k) = codes "wrong-kind " ++ key_text k
what_text (BadValue k) = codes "bad-value " ++ key_text k
what_text NameTwice = codes "name-twice"
what_text NoSuchName = codes "no-such-name"
what_text (Topology fault) = codes "topology-" ++ decimal (topology_fault_code fault)
what_text NoMemory = codes "no-memory"

-- a fault on its line: where it is, and what
abbrev pub fault_text : ScenarioFault → List ℕ
fault_text fault = spot_text fault.spot ++ (codes " " ++ what_text fault.what)
