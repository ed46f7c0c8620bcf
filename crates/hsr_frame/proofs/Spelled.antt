-- What was written as a word is read again.
use Rattle.std.proofs.Common.{◌≡◌, Some, refl}
use Rattle.hsr_frame.specs.Fault.{frame_fault_code}
use Rattle.hsr_frame.specs.Words.{cause_of, cause_word, fault_in, fault_of, mode_of, mode_word, port_of, port_word}
use Rattle.hsr_frame.specs.declared.fault.FrameFault.{FrameFault}
use Rattle.hsr_frame.specs.declared.fault.FrameFault.TheVariants.{Short, Long, GroupSource, DoubleVlan, ShortTag, NestedTag}
use Rattle.hsr_frame.specs.declared.node.Cause.{Cause}
use Rattle.hsr_frame.specs.declared.node.Cause.TheVariants.{Passed, Duplicate, Returned, Foreign, Local, Untagged, Tagged, Malformed}
use Rattle.hsr_frame.specs.declared.node.Mode.{Mode}
use Rattle.hsr_frame.specs.declared.node.Mode.TheVariants.{H, N, U}
use Rattle.hsr_frame.specs.declared.node.RingPort.{RingPort}
use Rattle.hsr_frame.specs.declared.node.RingPort.TheVariants.{A, B}

pub mode_again : (mode : Mode) → mode_of (mode_word mode) ≡ Some mode
mode_again H = refl
mode_again N = refl
mode_again U = refl

pub port_again : (port : RingPort) → port_of (port_word port) ≡ Some port
port_again A = refl
port_again B = refl

pub fault_again : (fault : FrameFault) → fault_of (frame_fault_code fault) ≡ Some fault
fault_again Short = refl
fault_again Long = refl
fault_again GroupSource = refl
fault_again DoubleVlan = refl
fault_again ShortTag = refl
fault_again NestedTag = refl

pub cause_again : (cause : Cause) → cause_of (cause_word cause) (fault_in cause) ≡ Some cause
cause_again Passed = refl
cause_again Duplicate = refl
cause_again Returned = refl
cause_again Foreign = refl
cause_again Local = refl
cause_again Untagged = refl
cause_again Tagged = refl
cause_again (Malformed fault) = refl
