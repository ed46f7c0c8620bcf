-- What is told is what the definition says, unless memory ran out.
use Rattle.std.specs.Prelude.{◌≡◌, Result, Err}
use Rattle.hsr_toml.specs.Fallible.{UnlessMemory, Gives as Told}
use Rattle.hsr_tap_device.specs.Fault.{is_memory}
use Rattle.hsr_tap_device.specs.declared.fault.DeviceFault.{DeviceFault}

abbrev pub Fails : {Y : Type 0} → DeviceFault → Result Y DeviceFault → Type 0
Fails fault said = UnlessMemory (is_memory fault) (said ≡ Err fault)

abbrev pub Gives : {X Y : Type 0} → (X → Y) → Result X DeviceFault → Result Y DeviceFault → Type 0
Gives view told said = Told is_memory view told said
