-- The supervision frames that nodes send (IEC 62439-3 clause 5.7).
use Rattle.std.specs.Prelude.{ℕ, List, Option, None}
use Rattle.hsr_frame.specs.Address.{supervision_address}
use Rattle.hsr_frame.specs.Grammar as frame
use Rattle.hsr_frame.specs.Layout.{ethertype_supervision}
use Rattle.hsr_supervision.specs.Payload.{Fields, spelling}
use Rattle.hsr_supervision.specs.declared.payload.SupKind.TheVariants.{Hsr}

-- what one says: the node that it is about, the RedBox that speaks for it, if one does, and how many were sent before
abbrev pub life_said : List ℕ → Option (List ℕ) → ℕ → Fields
life_said about redbox life = record { path = 0; version = 1; seq = life; kind = Hsr; about = about; redbox = redbox }

-- the frame with this payload: from the node's own address to the group of supervision frames, with no VLAN tag
abbrev pub life_frame : List ℕ → Fields → frame.Fields
life_frame own said = record { dst = supervision_address; src = own; vlan = None; kind = ethertype_supervision; rest = spelling said }
