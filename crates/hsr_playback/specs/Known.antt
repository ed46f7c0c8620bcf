-- The numbers by which the reference knows frames of the ring.
use Rattle.std.specs.Prelude.{ℕ, ◌-◌, ◌==◌, ◌&&◌, nat_le, Bool, List, [], ◌∷◌, Option, Some, None, Result, Ok, Err, if◌then◌else◌}
use Rattle.hsr_frame.specs.Address.{is_same_address}
use Rattle.hsr_frame.specs.Cases.{first_of}
use Rattle.hsr_frame.specs.declared.fault.FrameFault.{FrameFault}
use Rattle.hsr_tag.specs.Seen.{classified}
use Rattle.hsr_tag.specs.Tag.{TaggedFields, tagged_spelling}
use Rattle.hsr_tag.specs.declared.seen.Seen.{Seen}
use Rattle.hsr_tag.specs.declared.seen.Seen.TheVariants.{Plain, Tagged}
use Rattle.hsr_node.specs.declared.event.Event.{Event}
use Rattle.hsr_node.specs.declared.event.Event.TheVariants.{Send, Supervise, Arrive, Age}
use Rattle.hsr_playback.specs.declared.known.Given.{Given}

abbrev pub is_given : Given → List ℕ → ℕ → Bool
is_given g source number = is_same_address g.source source && (g.device == number)

-- the number by which the reference knows a frame: its own, where it numbered the frame less than 400 ms before; what it numbered is given
-- latest first
abbrev pub known_number : List Given → ℕ → List ℕ → ℕ → ℕ
known_number [] at source number = number
known_number (g ∷ past) at source number = first_of
    ((nat_le 400000 (at - g.at), number) ∷ (is_given g source number, g.reference) ∷ [])
    (known_number past at source number)

-- the octets of a frame with that number, where it is another one
abbrev pub octets_with : TaggedFields → ℕ → Option (List ℕ)
octets_with f number = if number == f.seq then None else Some (tagged_spelling (record f { seq = number }))

abbrev pub octets_known : List Given → ℕ → Result Seen FrameFault → Option (List ℕ)
octets_known past at (Ok (Tagged f)) = octets_with f (known_number past at f.src f.seq)
octets_known past at (Ok (Plain f)) = None
octets_known past at (Err fault) = None
