-- Which egresses of a RedBox want a frame: the cases of the tables, tried downwards. `knows` tells which addresses
-- are known on the interlink.
use Rattle.std.specs.Prelude.{List, [], ◌∷◌, ℕ, Bool, Some, None, Result, Ok, Err}
use Rattle.hsr_frame.specs.Address.{is_group, is_same_address}
use Rattle.hsr_frame.specs.Cases.{first_of}
use Rattle.hsr_frame.specs.Egress.{Egress, up, a, b, c, exits_of, is_supervision, nowhere, to}
use Rattle.hsr_frame.specs.declared.egress.Exits.{Exits}
use Rattle.hsr_frame.specs.declared.egress.Wants.{Wants}
use Rattle.hsr_frame.specs.declared.fault.FrameFault.{FrameFault}
use Rattle.hsr_frame.specs.declared.node.Cause.TheVariants.{Returned, Local, Malformed}
use Rattle.hsr_frame.specs.declared.node.Cause.TheVariants as cause
use Rattle.hsr_frame.specs.declared.node.Mode.{Mode}
use Rattle.hsr_frame.specs.declared.node.RingPort.{RingPort}
use Rattle.hsr_frame.specs.Grammar.{Fields}
use Rattle.hsr_tag.specs.Tag.{TaggedFields}
use Rattle.hsr_tag.specs.declared.seen.Seen.{Seen}
use Rattle.hsr_tag.specs.declared.seen.Seen.TheVariants.{Plain, Tagged}
use Rattle.hsr_forwarding.specs.Wanted as of_ring
use Rattle.hsr_redbox.specs.declared.wanted.Handling.{Handling}

abbrev pub interlink : Egress
interlink = c

-- the egresses of a RedBox
abbrev pub egresses : Exits
egresses = exits_of (up ∷ a ∷ b ∷ interlink ∷ [])

-- ---- an arrival at a ring port

-- a tagged frame that came to ring port x, in mode H or U
abbrev pub wanted_tagged : List ℕ → Mode → (List ℕ → Bool) → RingPort → TaggedFields → Wants
wanted_tagged own mode knows x frame = of_ring.wanted_tagged own mode (Some knows) x frame

-- what came to ring port x
abbrev pub wanted : List ℕ → Mode → (List ℕ → Bool) → RingPort → Result Seen FrameFault → Wants
wanted own mode knows x seen = of_ring.wanted own mode (Some knows) x seen

-- ---- a frame of the interlink, and one of the RedBox's own

-- it goes out with no number, or with one for its source
abbrev pub unnumbered : Wants → Handling
unnumbered wants = record { wants = wants; source = None }

abbrev pub numbered : List ℕ → Wants → Handling
numbered src wants = record { wants = wants; source = Some src }

-- a plain frame that came to the interlink
abbrev pub handling_plain : List ℕ → (List ℕ → Bool) → Fields → Handling
handling_plain own knows frame = first_of
    ((is_same_address frame.src own, unnumbered (nowhere Returned))
    ∷ (is_same_address frame.dst own, unnumbered (to (up ∷ [])))
    ∷ (knows frame.dst, unnumbered (nowhere Local))
    ∷ (is_group frame.dst, numbered frame.src (to (up ∷ a ∷ b ∷ [])))
    ∷ [])
    (numbered frame.src (to (a ∷ b ∷ [])))

-- what came to the interlink
abbrev pub handling_interlink : List ℕ → (List ℕ → Bool) → Result Seen FrameFault → Handling
handling_interlink own knows (Err fault) = unnumbered (nowhere (Malformed fault))
handling_interlink own knows (Ok (Tagged frame)) = unnumbered (nowhere cause.Tagged)
handling_interlink own knows (Ok (Plain frame)) = handling_plain own knows frame

-- a send, by its destination and type
abbrev pub handling_send : List ℕ → (List ℕ → Bool) → List ℕ → ℕ → Handling
handling_send own knows dst ethertype = first_of
    ((knows dst, unnumbered (to (interlink ∷ [])))
    ∷ (is_supervision dst ethertype, numbered own (to (a ∷ b ∷ [])))
    ∷ (is_group dst, numbered own (to (a ∷ b ∷ interlink ∷ [])))
    ∷ [])
    (numbered own (to (a ∷ b ∷ [])))
