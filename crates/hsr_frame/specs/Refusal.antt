-- The word for each reason why a node refuses to send.
use Rattle.std.specs.Prelude.{ℕ, List, codes}
use Rattle.hsr_frame.specs.declared.fault.SendFault.{SendFault}
use Rattle.hsr_frame.specs.declared.fault.SendFault.TheVariants.{SelfAddressed, ReservedType, Spent, TooLong}

abbrev pub send_word : SendFault → List ℕ
send_word SelfAddressed = codes "self-addressed"
send_word ReservedType = codes "reserved-type"
send_word Spent = codes "spent"
send_word TooLong = codes "too-long"
