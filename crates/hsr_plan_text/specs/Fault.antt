-- The words of keys, and what is told of them.
use Rattle.std.specs.Prelude.{ℕ, Bool, true, false, List, codes}
use Rattle.hsr_toml.specs.Faults.{Faults}
use Rattle.hsr_plan_text.specs.declared.fault.Key.{Key}
use Rattle.hsr_plan_text.specs.declared.fault.Key.TheVariants as key
use Rattle.hsr_plan_text.specs.declared.fault.PlanFault.{PlanFault}
use Rattle.hsr_plan_text.specs.declared.fault.What.{What}
use Rattle.hsr_plan_text.specs.declared.fault.What.TheVariants.{Missing, WrongKind, BadValue, NoMemory}

-- a key as it is written
abbrev pub key_text : Key → List ℕ
key_text key.Title = codes "title"
key_text key.Ring = codes "ring"
key_text key.Rings = codes "rings"
key_text key.RedBox = codes "redbox"
key_text key.Address = codes "address"
key_text key.Mode = codes "mode"
key_text key.Capacity = codes "capacity"
key_text key.Life = codes "life_ms"
key_text key.Until = codes "until_us"
key_text key.Epoch = codes "epoch"
key_text key.Moves = codes "moves"
key_text key.Hop = codes "hop_us"
key_text key.Rate = codes "rate_mbps"
key_text key.Residence = codes "residence_us"
key_text key.Switching = codes "switching"
key_text key.Stream = codes "stream"
key_text key.Event = codes "event"
key_text key.From = codes "from"
key_text key.For = codes "for"
key_text key.To = codes "to"
key_text key.Kind = codes "type"
key_text key.Size = codes "size"
key_text key.Vlan = codes "vlan"
key_text key.Priority = codes "priority"
key_text key.Appid = codes "appid"
key_text key.ControlBlock = codes "control_block"
key_text key.Id = codes "id"
key_text key.DataSet = codes "data_set"
key_text key.Start = codes "start_us"
key_text key.Every = codes "every_us"
key_text key.Count = codes "count"
key_text key.Grow = codes "grow"
key_text key.Most = codes "most_us"
key_text key.SampleRate = codes "smp_rate"
key_text key.Asdus = codes "asdus"
key_text key.At = codes "at_us"
key_text key.Cut = codes "cut"
key_text key.Mend = codes "mend"
key_text key.Off = codes "off"
key_text key.On = codes "on"

abbrev pub is_memory : What → Bool
is_memory NoMemory = true
is_memory _ = false

abbrev pub is_memory_at : PlanFault → Bool
is_memory_at fault = is_memory fault.what

-- what is told of a key and its value
abbrev pub faults : Faults Key What
faults = record { text = key_text; missing = Missing; wrong_kind = WrongKind; bad_value = BadValue; is_memory = is_memory }
