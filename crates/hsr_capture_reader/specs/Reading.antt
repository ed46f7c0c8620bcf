-- What was read of a capture so far, and what it answers where memory suffices.
use Rattle.std.specs.Prelude.{◌≡◌, ℕ, Bool, false, List, [], ◌∷◌, ◌++◌, None, Result, Ok, Err}
use Rattle.hsr_capture_reader.specs.declared.fields.Losses.{Losses}
use Rattle.hsr_capture_reader.specs.declared.fault.Refusal.{Refusal}
use Rattle.hsr_capture_reader.specs.declared.fault.ReadFault.{ReadFault}
use Rattle.hsr_capture_reader.specs.declared.fault.ReadFault.TheVariants.{Refused, NoMemory}
use Rattle.hsr_capture_reader.specs.Fields.{InterfaceFields, PacketFields}

-- what was read: the interfaces, how many of them are of earlier sections, what was lost at each, the packets, the latest stamp, the
-- latest end that statistics say, and whether the file breaks off
pub record ReadingFields : Type 0 where
  pub interfaces : List InterfaceFields
  pub earlier : ℕ
  pub losses : List Losses
  pub packets : List PacketFields
  pub stamp : ℕ
  pub end : ℕ
  pub is_short : Bool

abbrev pub nothing_read : ReadingFields
nothing_read = record { interfaces = []; earlier = 0; losses = []; packets = []; stamp = 0; end = 0; is_short = false }

-- with one more interface
abbrev pub with_interface : ReadingFields → InterfaceFields → ReadingFields
with_interface r interface = record r { interfaces = r.interfaces ++ interface ∷ []; losses = r.losses ++ record { by_packets = None; by_statistics = None } ∷ [] }

-- with one more packet
abbrev pub with_packet : ReadingFields → PacketFields → ReadingFields
with_packet r packet = record r { packets = r.packets ++ packet ∷ [] }

-- ---- steps that may be refused

infixl 10 ◌>>=◌
abbrev pub ◌>>=◌ : {A B : Type 0} → Result A Refusal → (A → Result B Refusal) → Result B Refusal
(Ok x) >>= f = f x
(Err e) >>= f = Err e

-- what a function answered is what is read, unless room was refused
abbrev pub Fails : {A : Type 0} → ReadFault → Result A Refusal → Type 0
Fails NoMemory read = Unit {0}
Fails (Refused refusal) read = read ≡ Err refusal

abbrev pub Gives : {A : Type 0} → Result A ReadFault → Result A Refusal → Type 0
Gives (Ok x) read = read ≡ Ok x
Gives (Err fault) read = Fails fault read
