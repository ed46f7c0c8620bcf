-- The numbers of faults in texts.
use Rattle.std.specs.Prelude.{ℕ}
use Rattle.hsr_frame.specs.declared.fault.FrameFault.{FrameFault}
use Rattle.hsr_frame.specs.declared.fault.FrameFault.TheVariants.{Short, Long, GroupSource, DoubleVlan, ShortTag, NestedTag}
use Rattle.hsr_frame.specs.declared.fault.SendFault.{SendFault}
use Rattle.hsr_frame.specs.declared.fault.SendFault.TheVariants.{SelfAddressed, ReservedType, Spent, TooLong}

abbrev pub frame_fault_code : FrameFault → ℕ
frame_fault_code Short = 1
frame_fault_code Long = 2
frame_fault_code GroupSource = 3
frame_fault_code DoubleVlan = 4
frame_fault_code ShortTag = 5
frame_fault_code NestedTag = 6

abbrev pub send_fault_code : SendFault → ℕ
send_fault_code SelfAddressed = 1
send_fault_code ReservedType = 2
send_fault_code Spent = 3
send_fault_code TooLong = 4
