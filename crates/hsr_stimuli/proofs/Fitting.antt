-- The header fits.
use Rattle.std.proofs.Common.{codes, lit<}
use Rattle.hsr_pcapng.specs.Blocks.{FitsSection, option_of, section_body}
use Rattle.hsr_pcapng.specs.Faults.{IfTooLong}
use Rattle.hsr_pcapng.specs.declared.fault.BlockFault.{BlockFault}
use Rattle.hsr_pcapng.specs.declared.fault.BlockFault.TheVariants.{TooLong, NoMemory}

header_fits : FitsSection (codes "hsr_tap")
unfolding section_body option_of
header_fits = record { program_fits = lit< tt; block_fits = lit< tt }

-- it is never too long
pub no_header : (Q : Type 0) (f : BlockFault) → IfTooLong (FitsSection (codes "hsr_tap") → ⊥) f → IfTooLong Q f
no_header Q TooLong never = absurd (never header_fits)
no_header Q NoMemory never = tt
