-- What a call that writes a text did.
use Rattle.std.specs.Prelude.{List, ℕ, Option, Result, Ok, Err}
use Rattle.std.specs.Io.KnownBytes.{Appends, Keeps}
use Rattle.hsr_transcript.specs.declared.fault.WriteFault.{WriteFault}
use Rattle.hsr_transcript.specs.declared.fault.WriteFault.TheVariants.{Write, NoMemory}

-- the text follows what the writer held; without memory the writer is as it was; after a failed write nothing is said
abbrev pub Written : Option (List ℕ) → Option (List ℕ) → List ℕ → Result Unit WriteFault → Type 0
Written held holds text (Ok _) = Appends held holds text
Written held holds text (Err Write) = Unit {0}
Written held holds text (Err NoMemory) = Keeps held holds
