-- The word for each reason why a node refuses an event.
use Rattle.std.specs.Prelude.{ℕ, List, codes}
use Rattle.hsr_frame.specs.Refusal.{send_word}
use Rattle.hsr_node.specs.declared.event.StepFault.{StepFault}
use Rattle.hsr_node.specs.declared.event.StepFault.TheVariants.{WrongEvent, Send, NotProxied, Spent, NoMemory}

abbrev pub node_word : StepFault → List ℕ
node_word WrongEvent = codes "wrong-event"
node_word (Send fault) = send_word fault
node_word NotProxied = codes "not-proxied"
node_word Spent = codes "spent"
node_word NoMemory = codes "memory"
