-- The line of a fault: the words behind `fault: `.
use Rattle.std.specs.Prelude.{ℕ, List, ◌++◌, codes, map}
use Rattle.std.specs.Fmt.{decimal}
use Rattle.hsr_capture_reader.specs.declared.fault.CaptureFault.{CaptureFault}
use Rattle.hsr_capture_reader.specs.declared.fault.CaptureFault.TheVariants as capture
use Rattle.hsr_capture_reader.specs.declared.fault.Refusal.{Refusal}
use Rattle.hsr_capture_reader.specs.declared.fault.ReadFault.{ReadFault}
use Rattle.hsr_capture_reader.specs.declared.fault.ReadFault.TheVariants as read
use Rattle.hsr_expected.specs.declared.expected.ExpectedFault.{ExpectedFault}
use Rattle.hsr_expected.specs.declared.expected.ExpectedFault.TheVariants as expected
use Rattle.hsr_health.specs.declared.health.HealthFault.{HealthFault}
use Rattle.hsr_health.specs.declared.health.HealthFault.TheVariants as health
use Rattle.hsr_judging_text.specs.Judging.{judge_fault_words}
use Rattle.hsr_judging_text.specs.declared.judging.JudgeFault.{JudgeFault}
use Rattle.hsr_judging_text.specs.declared.judging.JudgeFault.TheVariants as judge
use Rattle.hsr_node_lines.specs.declared.fault.LinesFault.{LinesFault}
use Rattle.hsr_node_lines.specs.declared.fault.LinesFault.TheVariants as lines
use Rattle.hsr_stimuli.specs.declared.device.NoStimuli.{NoStimuli}
use Rattle.hsr_stimuli.specs.declared.device.NoStimuli.TheVariants as stimuli
use Rattle.hsr_tap_device.specs.Telling.{device_words}
use Rattle.hsr_tap_device.specs.declared.fault.DeviceFault.{DeviceFault}
use Rattle.hsr_tap_device.specs.declared.fault.DeviceFault.TheVariants as device
use Rattle.hsr_text.specs.declared.whole.InputFault.{InputFault}
use Rattle.hsr_text.specs.declared.whole.InputFault.TheVariants as input
use Rattle.hsr_toml.specs.Line.{shown}
use Rattle.hsr_tap.specs.declared.fault.Fault.{Fault}
use Rattle.hsr_tap.specs.declared.fault.Fault.TheVariants.{Capture, NoDevice, Device, Lines, Stimuli, Judge, Sources, NoPlanFile, NoPlan, Read, Write, Memory}

-- what is wrong with a capture
abbrev pub capture_word : CaptureFault → List ℕ
capture_word capture.TooLarge = codes "too-large"
capture_word capture.Gzip = codes "gzip"
capture_word capture.Magic = codes "magic"
capture_word capture.Header = codes "header"
capture_word capture.Block = codes "block"
capture_word capture.ByteOrder = codes "byte-order"
capture_word capture.Version = codes "version"
capture_word capture.Interface = codes "interface"
capture_word capture.Packet = codes "packet"
capture_word capture.Interfaces = codes "interfaces"
capture_word capture.Packets = codes "packets"

-- at which octet, and what is wrong there
abbrev pub capture_words : Refusal → List ℕ
capture_words refusal = codes "capture " ++ decimal refusal.offset ++ codes " " ++ capture_word refusal.fault

abbrev pub lines_words : LinesFault → List ℕ
lines_words lines.Role = codes "device role lines-are-of-a-danh"
lines_words (lines.Link link) = codes "device interface link " ++ decimal link
lines_words (lines.NoSuchName name) = codes "device interface no-such-name " ++ map shown name
lines_words (lines.NoDirection packet) = codes "device interface no-direction packet " ++ decimal packet
lines_words lines.NoMemory = codes "memory"

abbrev pub stimuli_words : NoStimuli → List ℕ
stimuli_words stimuli.NoPlace = codes "device mac bad-value"
stimuli_words stimuli.NoTable = codes "device table bad-value"
stimuli_words stimuli.TooLong = codes "too-long"
stimuli_words stimuli.NoMemory = codes "memory"

abbrev pub fault_words : Fault → List ℕ
fault_words (Capture refusal) = capture_words refusal
fault_words NoDevice = codes "device top read"
fault_words (Device fault) = codes "device " ++ device_words fault
fault_words (Lines fault) = lines_words fault
fault_words (Stimuli fault) = stimuli_words fault
fault_words (Judge fault) = codes "device " ++ judge_fault_words fault
fault_words Sources = codes "capture 0 sources"
fault_words NoPlanFile = codes "expect read"
fault_words NoPlan = codes "expect plan"
fault_words Read = codes "read"
fault_words Write = codes "write"
fault_words Memory = codes "memory"

abbrev pub fault_line : Fault → List ℕ
fault_line fault = codes "fault: " ++ fault_words fault ++ codes "\n"

-- ---- faults of parts

abbrev pub input_fault : InputFault → Fault
input_fault input.Read = Read
input_fault input.Memory = Memory

abbrev pub read_fault : ReadFault → Fault
read_fault (read.Refused refusal) = Capture refusal
read_fault read.NoMemory = Memory

abbrev pub device_fault : DeviceFault → Fault
device_fault device.NoMemory = Memory
device_fault fault = Device fault

abbrev pub lines_fault : LinesFault → Fault
lines_fault lines.NoMemory = Memory
lines_fault fault = Lines fault

abbrev pub stimuli_fault : NoStimuli → Fault
stimuli_fault stimuli.NoMemory = Memory
stimuli_fault fault = Stimuli fault

abbrev pub health_fault : HealthFault → Fault
health_fault health.Sources = Sources
health_fault health.Memory = Memory

abbrev pub judge_fault : JudgeFault → Fault
judge_fault judge.NoMemory = Memory
judge_fault fault = Judge fault

abbrev pub expected_fault : ExpectedFault → Fault
expected_fault expected.NoPlan = NoPlan
expected_fault expected.NoMemory = Memory
