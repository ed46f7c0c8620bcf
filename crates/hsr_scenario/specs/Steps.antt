-- What the table of a step says.
use Rattle.std.specs.Prelude.{ℕ, ℤ, pos, negsuc, nat_lt, List, [], ◌∷◌, Option, Some, None, Result, Ok, ok_or, if◌then◌else◌}
use Rattle.toml.specs.Data.{Data, Members}
use Rattle.hsr_frame.specs.declared.node.About.{About}
use Rattle.hsr_frame.specs.declared.node.About.TheVariants.{Own, Proxied}
use Rattle.hsr_world_steps.specs.declared.step.Step.{Step}
use Rattle.hsr_world_steps.specs.declared.step.Step.TheVariants.{Clock, Send, Supervise, Age, Put, Take, Judge, Cut, Mend, Inject}
use Rattle.hsr_text.specs.declared.time_unit.TimeUnit.{TimeUnit}
use Rattle.hsr_toml.specs.Fallible.{◌>>=◌}
use Rattle.hsr_toml.specs.Tables.{between, integer, needed, optional, perhaps, word}
use Rattle.hsr_scenario.specs.Fault.{faults}
use Rattle.hsr_scenario.specs.Tables.{moment, only}
use Rattle.hsr_toml.specs.Names.{mac_of, name_of}
use Rattle.hsr_scenario.specs.Words.{deed_of, octets_of}
use Rattle.hsr_link.specs.Words.{dir_of}
use Rattle.hsr_scenario.specs.Links.{used_end, used_name}
use Rattle.hsr_scenario.specs.declared.fault.Key.{Key}
use Rattle.hsr_scenario.specs.declared.fault.Key.TheVariants as key
use Rattle.hsr_scenario.specs.declared.fault.What.{What}
use Rattle.hsr_scenario.specs.declared.fault.What.TheVariants.{NoSuchName}
use Rattle.hsr_scenario.specs.declared.nodes.Named.{Named}
use Rattle.hsr_scenario.specs.declared.steps.Order.{Order}
use Rattle.hsr_scenario.specs.declared.steps.Order.TheVariants.{Step as OfStep, Drain}
use Rattle.hsr_scenario.specs.declared.words.Deed.{Deed}
use Rattle.hsr_scenario.specs.declared.words.Deed.TheVariants as deed

-- the number of a link that is there
abbrev pub link_numbered : ℕ → ℤ → Option ℕ
link_numbered links (pos n) = if nat_lt n links then Some n else None
link_numbered links (negsuc n) = None

abbrev pub used_link : ℕ → Key → Data → Result ℕ What
used_link links key d = integer faults key d >>= λ z. ok_or (link_numbered links z) NoSuchName

-- who a supervision frame is about
abbrev pub about_of : Option (List ℕ) → About
about_of None = Own
about_of (Some mac) = Proxied mac

-- the name of the stream from which a frame is; the empty one where it's from none
abbrev pub stream : Members → Result (List ℕ) What
stream ms = optional faults key.Stream [] (word faults name_of) ms

unfoldable pub clock : TimeUnit → Members → Result Step What
clock unit ms = do
  _ ← only (key.Do ∷ key.At ∷ []) ms
  at ← needed faults key.At (moment unit) ms
  Ok (Clock at)

unfoldable pub send : List Named → Members → Result Step What
send nodes ms = do
  _ ← only (key.Do ∷ key.Node ∷ key.To ∷ key.Kind ∷ key.Payload ∷ key.Vlan ∷ key.From ∷ key.Stream ∷ []) ms
  node ← needed faults key.Node (used_name nodes) ms
  dst ← needed faults key.To (word faults mac_of) ms
  ethertype ← needed faults key.Kind (between faults 0 65535) ms
  payload ← optional faults key.Payload [] (word faults octets_of) ms
  vlan ← optional faults key.Vlan None (perhaps (between faults 0 65535)) ms
  from ← optional faults key.From 0 (between faults 0 15) ms
  _ ← stream ms
  Ok (Send node from dst vlan ethertype payload)

unfoldable pub life : List Named → Members → Result Step What
life nodes ms = do
  _ ← only (key.Do ∷ key.Node ∷ key.About ∷ key.Stream ∷ []) ms
  node ← needed faults key.Node (used_name nodes) ms
  about ← optional faults key.About None (perhaps (word faults mac_of)) ms
  _ ← stream ms
  Ok (Supervise node (about_of about))

unfoldable pub age : List Named → Members → Result Step What
age nodes ms = do
  _ ← only (key.Do ∷ key.Node ∷ []) ms
  node ← needed faults key.Node (used_name nodes) ms
  Ok (Age node)

-- `put` and `judge`
unfoldable pub at_port : (ℕ → ℕ → Step) → List Named → Members → Result Step What
at_port step nodes ms = do
  _ ← only (key.Do ∷ key.Port ∷ []) ms
  end ← needed faults key.Port (used_end nodes) ms
  Ok (step end.node end.port)

unfoldable pub take : ℕ → Members → Result Step What
take links ms = do
  _ ← only (key.Do ∷ key.Link ∷ key.Dir ∷ []) ms
  link ← needed faults key.Link (used_link links) ms
  dir ← needed faults key.Dir (word faults dir_of) ms
  Ok (Take link dir)

-- `cut` and `mend`
unfoldable pub at_link : (ℕ → Step) → ℕ → Members → Result Step What
at_link step links ms = do
  _ ← only (key.Do ∷ key.Link ∷ []) ms
  link ← needed faults key.Link (used_link links) ms
  Ok (step link)

unfoldable pub inject : ℕ → Members → Result Step What
inject links ms = do
  _ ← only (key.Do ∷ key.Link ∷ key.Dir ∷ key.Octets ∷ []) ms
  link ← needed faults key.Link (used_link links) ms
  dir ← needed faults key.Dir (word faults dir_of) ms
  octets ← needed faults key.Octets (word faults octets_of) ms
  Ok (Inject link dir octets)

abbrev pub stepped : Result Step What → Result Order What
stepped r = r >>= λ step. Ok (OfStep step)

unfoldable pub drain : Members → Result Order What
drain ms = do
  _ ← only (key.Do ∷ []) ms
  Ok Drain

abbrev pub order_of : Deed → TimeUnit → List Named → ℕ → Members → Result Order What
order_of deed.Clock unit nodes links ms = stepped (clock unit ms)
order_of deed.Send unit nodes links ms = stepped (send nodes ms)
order_of deed.Life unit nodes links ms = stepped (life nodes ms)
order_of deed.Age unit nodes links ms = stepped (age nodes ms)
order_of deed.Put unit nodes links ms = stepped (at_port Put nodes ms)
order_of deed.Judge unit nodes links ms = stepped (at_port Judge nodes ms)
order_of deed.Take unit nodes links ms = stepped (take links ms)
order_of deed.Cut unit nodes links ms = stepped (at_link Cut links ms)
order_of deed.Mend unit nodes links ms = stepped (at_link Mend links ms)
order_of deed.Inject unit nodes links ms = stepped (inject links ms)
order_of deed.Drain unit nodes links ms = drain ms

-- the step of a table, where moments are in this unit, and there are these nodes and `links` links
unfoldable pub order_in : TimeUnit → List Named → ℕ → Members → Result Order What
order_in unit nodes links ms = do
  deed ← needed faults key.Do (word faults deed_of) ms
  order_of deed unit nodes links ms
