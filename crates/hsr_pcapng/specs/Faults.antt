-- Why a block can't be written.
use Rattle.hsr_pcapng.specs.declared.fault.BlockFault.{BlockFault}
use Rattle.hsr_pcapng.specs.declared.fault.BlockFault.TheVariants.{TooLong, NoMemory}

-- `TooLong` says that this holds
abbrev pub IfTooLong : Type 0 → BlockFault → Type 0
IfTooLong P TooLong = P
IfTooLong P NoMemory = Unit {0}
