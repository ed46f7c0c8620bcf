-- The line that tells why a text isn't read.
use Rattle.std.specs.Prelude.{ℕ, List, codes}
use Rattle.hsr_text.specs.declared.whole.InputFault.{InputFault}
use Rattle.hsr_text.specs.declared.whole.InputFault.TheVariants.{Read, Memory}

abbrev pub input_line : InputFault → List ℕ
input_line Read = codes "fault: read\n"
input_line Memory = codes "fault: memory\n"
