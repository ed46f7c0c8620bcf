-- What is known of a refusal by clap's error.
use Rattle.std.proofs.Common.{◌≢◌, ⊎_elim, string_bytes, [], subst}
use Rattle.clap.specs.Kinds.{HasKind, IsAmong, Kinds}
use Rattle.clap.specs.Words.{Text, kind_of}
use Rattle.clap.specs.declared.error.Error.{Error}
use Rattle.clap.specs.declared.error.kind.ErrorKind.TheVariants.{OutOfMemory}
use Rattle.hsr_cli.specs.Refusal.{IfUsage}
use Rattle.hsr_cli.specs.declared.fault.OptionFault.{OptionFault}
use Rattle.hsr_cli.specs.declared.fault.OptionFault.TheVariants.{Usage, Memory}

-- an error that isn't a failed allocation tells a fault
pub fault_found : (kinds : Kinds) (e : Error) → HasKind kinds e → kind_of e ≢ OutOfMemory → kinds ≢ []
fault_found kinds e h room = ⊎_elim (λ memory. absurd (room memory)) (λ among none. subst (IsAmong (kind_of e)) none among) h

pub usage_weaker : (f : OptionFault) (P Q : Text → Type 0) → ((t : Text) → P t → Q t) → IfUsage f P → IfUsage f Q
usage_weaker (Usage text) P Q f h = f (string_bytes text) h
usage_weaker Memory P Q f h = tt
