-- Why a capture doesn't fit a device, and what code gives of steps that may be refused.
use Rattle.std.specs.Prelude.{◌≡◌, ◌++◌, Bool, true, false, ℕ, List, codes, map, Result, Err}
use Rattle.std.specs.Fmt.{decimal}
use Rattle.hsr_toml.specs.Fallible.{UnlessMemory, Gives as Told}
use Rattle.hsr_toml.specs.Line.{shown}
use Rattle.hsr_tap_passages.specs.declared.fault.PassageFault.{PassageFault}
use Rattle.hsr_tap_passages.specs.declared.fault.PassageFault.TheVariants.{Link, NoSuchName, NoDirection, NoMemory}

abbrev pub is_memory : PassageFault → Bool
is_memory NoMemory = true
is_memory (Link link) = false
is_memory (NoSuchName name) = false
is_memory (NoDirection packet) = false

-- what a function answered is what is said, unless room was refused
abbrev pub Fails : {Y : Type 0} → PassageFault → Result Y PassageFault → Type 0
Fails fault said = UnlessMemory (is_memory fault) (said ≡ Err fault)

abbrev pub Gives : {X Y : Type 0} → (X → Y) → Result X PassageFault → Result Y PassageFault → Type 0
Gives view told said = Told is_memory view told said

-- the words of a fault, as they stand behind `fault: device `
abbrev pub fault_words : PassageFault → List ℕ
fault_words (Link link) = codes "interface link " ++ decimal link
fault_words (NoSuchName name) = codes "interface no-such-name " ++ map shown name
fault_words (NoDirection packet) = codes "interface no-direction packet " ++ decimal packet
fault_words NoMemory = codes "memory"
