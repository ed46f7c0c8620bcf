-- Why there are no lines.
use Rattle.std.proofs.Common.{◌≡◌, ℕ, List, ap, Option, Some, Ok}
use Rattle.hsr_capture_reader.specs.Capture.{CaptureFields, capture_of}
use Rattle.hsr_capture_reader.specs.Reading.{Fails as FailsToRead}
use Rattle.hsr_capture_reader.specs.declared.fault.ReadFault.{ReadFault}
use Rattle.hsr_capture_reader.specs.declared.fault.ReadFault.TheVariants as read
use Rattle.hsr_node_lines.specs.declared.fault.LinesFault.{LinesFault}
use Rattle.hsr_node_lines.specs.declared.fault.LinesFault.TheVariants as lines
use Rattle.hsr_tap_device.specs.Device.{DeviceFields}
use Rattle.hsr_tap_device.specs.Fallible.{Fails as FailsToDescribe}
use Rattle.hsr_tap_device.specs.Reading.{device_of}
use Rattle.hsr_tap_device.specs.declared.fault.DeviceFault.{DeviceFault}
use Rattle.hsr_tap_device.specs.declared.fault.DeviceFault.TheVariants as device
use Rattle.hsr_tap.specs.Fault.{device_fault, lines_fault, read_fault}
use Rattle.hsr_tap.specs.Tapping.{Describes, IsUnlined, IsUntold, some_of}

pub no_device : (document : List ℕ) (fcs : ℕ) (octets : List ℕ) (e : DeviceFault) → FailsToDescribe e (device_of document) → IsUntold (Some document) fcs octets (device_fault e)
no_device document fcs octets device.Text h = ap some_of h
no_device document fcs octets (device.Unknown word) h = ap some_of h
no_device document fcs octets (device.WrongKind key) h = ap some_of h
no_device document fcs octets (device.Missing key) h = ap some_of h
no_device document fcs octets (device.Unwanted key) h = ap some_of h
no_device document fcs octets (device.BadValue key) h = ap some_of h
no_device document fcs octets device.NoMemory h = tt

pub no_capture : (given : Option DeviceFields) (fcs : ℕ) (octets : List ℕ) (e : ReadFault) → FailsToRead e (capture_of fcs octets)
    → Describes given (λ document. IsUntold document fcs octets (read_fault e))
no_capture given fcs octets (read.Refused refusal) h = λ document is. record { device = given; is_device = is; is_refused = h }
no_capture given fcs octets read.NoMemory h = λ document is. tt

pub no_lines : (given : Option DeviceFields) (capture : CaptureFields) (fcs : ℕ) (octets : List ℕ) (e : LinesFault) → capture_of fcs octets ≡ Ok capture → IsUnlined given capture e
    → Describes given (λ document. IsUntold document fcs octets (lines_fault e))
no_lines given capture fcs octets lines.Role is h = λ document describes. record { device = given; capture = capture; is_device = describes; is_capture = is; has_lines = h }
no_lines given capture fcs octets (lines.Link link) is h = λ document describes. record { device = given; capture = capture; is_device = describes; is_capture = is; has_lines = h }
no_lines given capture fcs octets (lines.NoSuchName name) is h = λ document describes. record { device = given; capture = capture; is_device = describes; is_capture = is; has_lines = h }
no_lines given capture fcs octets (lines.NoDirection packet) is h = λ document describes. record { device = given; capture = capture; is_device = describes; is_capture = is; has_lines = h }
no_lines given capture fcs octets lines.NoMemory is h = λ document describes. tt
