-- How arguments are refused, and how that is told.
use Rattle.std.specs.Prelude.{ℕ, ◌≡◌, ◌<◌, List, [], ◌∷◌, ◌++◌, ⊤, length, codes, string_bytes, Option}
use Rattle.std.specs.Io.KnownBytes.{Appends, Keeps}
use Rattle.clap.specs.Words.{Text}
use Rattle.hsr_cli.specs.declared.fault.OptionFault.{OptionFault}
use Rattle.hsr_cli.specs.declared.fault.OptionFault.TheVariants.{Usage, Memory}

-- a text, or another where it is empty
abbrev pub or_else : Text → Text → Text
or_else [] other = other
or_else (c ∷ cs) other = c ∷ cs

-- P of the text of a refusal; of a failed allocation nothing
abbrev pub IfUsage : OptionFault → (Text → Type 0) → Type 0
IfUsage (Usage text) P = P (string_bytes text)
IfUsage Memory P = ⊤

-- a refusal is told by its text, and the process ends with 3; a failed allocation as a fault, and it ends with 1
abbrev pub TurnsAway : OptionFault → Option (List ℕ) → Option (List ℕ) → ℕ → Type 0
TurnsAway (Usage text) told tells code = (code ≡ 3) × Appends told tells (string_bytes text ++ codes "\n")
TurnsAway Memory told tells code = (code ≡ 1) × Appends told tells (codes "fault: memory\n")

-- Arguments are refused by a text that isn't empty, or there was no memory to read them. That is told, and nothing is written.
pub record IsTurnedAway (IsRefusedBy : Text → Type 0) (held holds told tells : Option (List ℕ)) (code : ℕ) : Type 0 where
  pub fault : OptionFault
  pub refused : IfUsage fault IsRefusedBy
  pub some : IfUsage fault (λ text. 0 < length text)
  pub turned_away : TurnsAway fault told tells code
  pub kept : Keeps held holds
