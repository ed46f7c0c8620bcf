-- What DANH, RedBox and QuadBox do alike with an arrival.
use Rattle.std.specs.Prelude.{ℕ, Bool, true, List, [], ◌∷◌, fold, Option, Some, None, Result, Ok, Err, if◌then◌else◌}
use Rattle.hsr_frame.specs.Address.{is_same_address}
use Rattle.hsr_frame.specs.declared.fault.FrameFault.{FrameFault}
use Rattle.hsr_frame.specs.declared.node.RingPort.{RingPort}
use Rattle.hsr_tag.specs.Tag.{TaggedFields}
use Rattle.hsr_tag.specs.Seen.{is_told, payload_in}
use Rattle.hsr_tag.specs.declared.seen.Seen.{Seen}
use Rattle.hsr_tag.specs.declared.seen.Seen.TheVariants.{Plain, Tagged}
use Rattle.hsr_duptable.specs.Key.{Key}
use Rattle.hsr_tables.specs.Nodes.{Nodes, listened}
use Rattle.hsr_tables.specs.Proxies.{Proxies, learned}

-- ---- what is looked for

abbrev pub key_of : TaggedFields → Key
key_of frame = record { src = frame.src; seq = frame.seq }

-- the key by which an arrival is looked for: a tagged frame has one
abbrev pub key_in : Result Seen FrameFault → Option Key
key_in (Err fault) = None
key_in (Ok (Plain frame)) = None
key_in (Ok (Tagged frame)) = Some (key_of frame)

-- only what has a key is looked for: `found` of its key, or what is so without a look
abbrev pub judged_by : {X : Type 0} → (Key → X) → X → Option Key → X
judged_by found left None = left
judged_by found left (Some key) = found key

-- ---- what is heard on the ring

-- a tagged supervision frame of another node is heard, duplicates too; whether it could be read, and the nodes after it
abbrev pub heard_of : List ℕ → Nodes → RingPort → Result Seen FrameFault → ℕ → Bool × Nodes
heard_of own nodes x seen now = if is_told own seen then listened nodes (payload_in seen) x now else (true, nodes)

-- ---- what is heard on an interlink

-- the source of a plain frame but for the own address, with its moment
abbrev pub source_in : List ℕ → ℕ → Result Seen FrameFault → List (List ℕ × ℕ)
source_in own now (Err fault) = []
source_in own now (Ok (Tagged frame)) = []
source_in own now (Ok (Plain frame)) = if is_same_address frame.src own then [] else (frame.src, now) ∷ []

-- the stations after it
abbrev pub heard_from : List ℕ → Proxies → Result Seen FrameFault → ℕ → Proxies
heard_from own stations seen now = fold learned stations (source_in own now seen)
