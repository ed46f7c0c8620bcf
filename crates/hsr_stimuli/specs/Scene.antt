-- What stimuli of a scene have in common.
use Rattle.std.specs.Prelude.{ℕ, ◌+◌, ◌*◌, ◌/◌, ◌%◌, ◌==◌, List, [], ◌∷◌, slice_index, if◌then◌else◌}
use Rattle.hsr_frame.specs.Address.{supervision_address}
use Rattle.hsr_frame.specs.Layout.{ethertype_supervision}
use Rattle.hsr_stimuli.specs.declared.rule.Rule.{Rule}
use Rattle.hsr_stimuli.specs.declared.scene.Scene.{Scene}
use Rattle.hsr_stimuli.specs.declared.scene.Stimulus.{Stimulus}
use Rattle.hsr_stimuli.specs.declared.shape.Form.{Form}
use Rattle.hsr_stimuli.specs.declared.shape.Form.TheVariants.{Plain, Tagged}
use Rattle.hsr_stimuli.specs.declared.shape.Load.{Load}
use Rattle.hsr_stimuli.specs.declared.shape.Load.TheVariants.{Filled, Supervision}
use Rattle.hsr_stimuli.specs.declared.shape.Tag.{Tag}
use Rattle.hsr_stimuli.specs.declared.shape.Tlv.{Tlv}

-- ---- addresses

-- a group of nobody
abbrev pub group_address : List ℕ
group_address = 0x03 ∷ 0x48 ∷ 0x53 ∷ 0x52 ∷ 0 ∷ 0 ∷ []

abbrev pub no_address : List ℕ
no_address = 0 ∷ 0 ∷ 0 ∷ 0 ∷ 0 ∷ 0 ∷ []

-- another node or station, by its number: never the device itself
abbrev pub other : List ℕ → ℕ → List ℕ
other own number = (if slice_index own 0 == 2 then 6 else 2) ∷ 0x48 ∷ 0x53 ∷ 0x52 ∷ number / 256 ∷ number % 256 ∷ []

-- ---- a scene

-- so many milliseconds behind its start
abbrev pub moment : Scene → ℕ → ℕ
moment scene ms = scene.start + 1000 * ms

abbrev pub source : Scene → List ℕ
source scene = other scene.own scene.sender

abbrev pub from : Scene → ℕ → Scene
from scene sender = record scene { sender = sender }

abbrev pub with_port : Scene → ℕ → Scene
with_port scene port = record scene { port = port }

-- by the ring's other port
abbrev pub turned : Scene → Scene
turned scene = record scene { port = scene.beyond; beyond = scene.port }

-- ---- frames

abbrev pub experimental : ℕ
experimental = 0x88B5

abbrev pub usual_load : Load
usual_load = Filled 46

-- what comes to A and C has path 1, what comes to B and D path 0; the size is that of a usual payload and six
abbrev pub tag_at : Scene → ℕ → Tag
tag_at scene number = record { first = if scene.port % 2 == 0 then 0x1000 + 52 else 52; number = number }

abbrev pub shaped : Scene → ℕ → Rule → List ℕ → List ℕ → Form → Load → Stimulus
shaped scene ms rule dst src form load = record {
  at = moment scene ms;
  port = scene.port;
  rule = rule;
  shape = record { dst = dst; src = src; form = form; kind = experimental; load = load };
}

abbrev pub tagged : Scene → ℕ → Rule → List ℕ → ℕ → Stimulus
tagged scene ms rule dst number = shaped scene ms rule dst (source scene) (Tagged (tag_at scene number)) usual_load

abbrev pub plain : Scene → ℕ → Rule → List ℕ → Stimulus
plain scene ms rule dst = shaped scene ms rule dst (source scene) Plain usual_load

-- ---- supervision

abbrev pub tlv : ℕ → ℕ → List ℕ → Tlv
tlv kind len mac = record { kind = kind; len = len; mac = mac }

abbrev pub end_tlv : Tlv
end_tlv = tlv 0 0 no_address

abbrev pub supervision : Scene → ℕ → Rule → ℕ → Tlv → Tlv → Stimulus
supervision scene ms rule number first second = record {
  at = moment scene ms;
  port = scene.port;
  rule = rule;
  shape = record {
    dst = supervision_address;
    src = source scene;
    form = Tagged (tag_at scene number);
    kind = ethertype_supervision;
    load = Supervision (record { number = number; first = first; second = second });
  };
}
