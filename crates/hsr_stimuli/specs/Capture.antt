-- The capture of stimuli: an interface for each port, with its letter as name, and a packet for each stimulus, with its rule as comment.
--     capture   the whole
--     Fits      no length in a block is over what its field can say
use Rattle.std.specs.Prelude.{ℕ, List, [], ◌∷◌, ◌++◌, All, codes}
use Rattle.std.specs.List.{flat_map}
use Rattle.hsr_node.specs.Words.{letters}
use Rattle.hsr_node.specs.declared.place.Place.{Place}
use Rattle.hsr_pcapng.specs.Blocks.{FitsInterface, FitsPacket, interface, packet, section_header}
use Rattle.hsr_stimuli.specs.Rules.{rule_word}
use Rattle.hsr_stimuli.specs.Shapes.{octets_of}
use Rattle.hsr_stimuli.specs.declared.scene.Stimulus.{Stimulus}

abbrev pub interface_of : ℕ → List ℕ
interface_of letter = interface (letter ∷ []) (codes "frames for this port")

abbrev pub packet_of : Stimulus → List ℕ
packet_of s = packet s.port s.at (octets_of s.shape) (rule_word s.rule)

unfoldable pub capture : Place → List Stimulus → List ℕ
capture place list = section_header (codes "hsr_tap") ++ flat_map interface_of (letters place) ++ flat_map packet_of list

-- ---- what fits

abbrev pub LetterFits : ℕ → Type 0
LetterFits letter = FitsInterface (letter ∷ []) (codes "frames for this port")

abbrev pub StimulusFits : Stimulus → Type 0
StimulusFits s = FitsPacket s.port s.at (octets_of s.shape) (rule_word s.rule)

pub record Fits (place : Place) (list : List Stimulus) : Type 0 where
  pub letters_fit : All LetterFits (letters place)
  pub stimuli_fit : All StimulusFits list
