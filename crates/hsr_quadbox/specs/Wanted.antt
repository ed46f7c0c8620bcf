-- Which egresses of a QuadBox want an arrival.
use Rattle.std.specs.Prelude.{List, [], ◌∷◌, Result, Ok, Err}
use Rattle.hsr_frame.specs.Egress.{Egress, a, b, c, d, exits_of, nowhere, to}
use Rattle.hsr_frame.specs.declared.egress.Exits.{Exits}
use Rattle.hsr_frame.specs.declared.egress.Wants.{Wants}
use Rattle.hsr_frame.specs.declared.fault.FrameFault.{FrameFault}
use Rattle.hsr_frame.specs.declared.node.Cause.TheVariants.{Untagged, Malformed}
use Rattle.hsr_tag.specs.declared.seen.Seen.{Seen}
use Rattle.hsr_tag.specs.declared.seen.Seen.TheVariants.{Plain, Tagged}
use Rattle.hsr_quadbox.specs.declared.wanted.QuadPort.{QuadPort}
use Rattle.hsr_quadbox.specs.declared.wanted.QuadPort.TheVariants.{A, B, C, D}

-- the ports but the one of arrival
abbrev pub others : QuadPort → List Egress
others A = b ∷ c ∷ d ∷ []
others B = a ∷ c ∷ d ∷ []
others C = a ∷ b ∷ d ∷ []
others D = a ∷ b ∷ c ∷ []

-- the egresses of a QuadBox
abbrev pub egresses : Exits
egresses = exits_of (a ∷ b ∷ c ∷ d ∷ [])

-- what came to port x: a tagged frame is wanted at the other ports, whatever it is
abbrev pub wanted : QuadPort → Result Seen FrameFault → Wants
wanted x (Err fault) = nowhere (Malformed fault)
wanted x (Ok (Plain frame)) = nowhere Untagged
wanted x (Ok (Tagged frame)) = to (others x)
