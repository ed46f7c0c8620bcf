-- The lines of `node`, as they are written: without what stands behind them.
use Rattle.std.specs.Prelude.{ℕ, ◌==◌, if◌then◌else◌, List, [], ◌++◌, length, codes, Option, Some, None}
use Rattle.std.specs.Fmt.{decimal}
use Rattle.std.specs.Int.{to_be_bytes, w16}
use Rattle.hex.specs.Hex.{encode_upper}
use Rattle.hsr_frame.specs.Words.{port_word}
use Rattle.hsr_frame.specs.declared.node.RingPort.{RingPort}
use Rattle.hsr_text.specs.Words.{mac_text}

-- a frame to be sent
pub record Sending : Type 0 where
  pub at : ℕ
  pub dst : List ℕ
  pub kind : ℕ
  pub payload : List ℕ
  pub vlan : Option ℕ

-- what a packet asks of a node
pub data Asked : Type 0 where
  send : Sending → Asked
  life : ℕ → Asked
  arrive : ℕ → RingPort → List ℕ → Asked

-- octets in digits, a hyphen for none
abbrev pub octets_text : List ℕ → List ℕ
octets_text octets = if length octets == 0 then codes "-" else encode_upper octets

abbrev pub pair_text : ℕ → List ℕ
pair_text n = encode_upper (to_be_bytes w16 n)

abbrev pub vlan_text : Option ℕ → List ℕ
vlan_text None = []
vlan_text (Some control) = codes " " ++ pair_text control

abbrev pub send_text : Sending → List ℕ
send_text s =
    codes "send " ++ decimal s.at ++ codes " " ++ mac_text s.dst ++ codes " " ++ pair_text s.kind ++ codes " " ++ octets_text s.payload ++ vlan_text s.vlan

abbrev pub arrive_text : ℕ → RingPort → List ℕ → List ℕ
arrive_text at port octets = codes "arrive " ++ decimal at ++ codes " " ++ port_word port ++ codes " " ++ octets_text octets

abbrev pub life_text : ℕ → List ℕ
life_text at = codes "life " ++ decimal at

-- the line that asks for this
abbrev pub line_text : Asked → List ℕ
line_text (send s) = send_text s
line_text (life at) = life_text at
line_text (arrive at port octets) = arrive_text at port octets
