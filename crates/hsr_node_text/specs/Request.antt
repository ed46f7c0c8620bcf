-- What an input line of `node` asks for.
use Rattle.std.specs.Prelude.{ℕ, List, [], ◌∷◌, Option, Some, None, codes}
use Rattle.std.specs.Result.{result_ok}
use Rattle.std.specs.Str.{bytes_eq}
use Rattle.hsr_frame.specs.Address.{address_of}
use Rattle.hsr_frame.specs.Cases.{first_of}
use Rattle.hsr_frame.specs.declared.node.About.{About}
use Rattle.hsr_frame.specs.declared.node.About.TheVariants.{Own, Proxied}
use Rattle.hsr_text.specs.Moments.{moment_of}
use Rattle.hsr_text.specs.Words.{◌>>=◌, cut, word_at, hex_pair_of, hex_octets_of}
use Rattle.hsr_text.specs.declared.time_unit.TimeUnit.{TimeUnit}
use Rattle.hsr_node.specs.Words.{port_of}
use Rattle.hsr_node.specs.declared.event.Event.TheVariants.{Send, Supervise, Arrive, Age}
use Rattle.hsr_node.specs.declared.place.Place.{Place}
use Rattle.hsr_node_text.specs.declared.request.Request.{Request}
use Rattle.hsr_node_text.specs.declared.request.Setting.{Setting}

-- a word that is the last
abbrev pub last_word : Option (List ℕ) → Option (List ℕ)
last_word words = do
  word ← word_at words
  elim word.1 [ None ↦ Some word.0 | Some _ ↦ None ]

-- the octets that the last word spells
abbrev pub last_octets : Option (List ℕ) → Option (List ℕ)
last_octets words = do
  word ← last_word words
  hex_octets_of word

-- the word of a VLAN tag's control information, if there is one, and nothing behind it
abbrev pub vlan_of : Option (List ℕ) → Option (Option ℕ)
vlan_of None = Some None
vlan_of (Some text) = do
  word ← last_word (Some text)
  control ← hex_pair_of word
  Some (Some control)

-- the address of the station that a supervision is about, if there is one, and nothing behind it
abbrev pub about_of : Option (List ℕ) → Option About
about_of None = Some Own
about_of (Some text) = do
  word ← last_word (Some text)
  mac ← result_ok (address_of word)
  Some (Proxied mac)

-- a port that the place has, by its letter alone
abbrev pub port_in : Place → List ℕ → Option ℕ
port_in place [] = None
port_in place (c ∷ []) = port_of place c
port_in place (c ∷ d ∷ cs) = None

-- a port that the place has, by the first word, and the words behind it
abbrev pub port_at : Place → Option (List ℕ) → Option (ℕ × Option (List ℕ))
port_at place words = do
  letter ← word_at words
  port ← port_in place letter.0
  Some (port, letter.1)

-- <at> <dst> <type4> <payload> [<vlan4>]
abbrev pub send_in : TimeUnit → Option (List ℕ) → Option Request
send_in unit words = do
  at ← word_at words
  moment ← moment_of unit at.0
  dst ← word_at at.1
  address ← result_ok (address_of dst.0)
  type ← word_at dst.1
  ethertype ← hex_pair_of type.0
  text ← word_at type.1
  payload ← hex_octets_of text.0
  vlan ← vlan_of text.1
  Some (record { at = moment; event = Send 0 address vlan ethertype payload })

-- <at> [<station>]
abbrev pub life_in : TimeUnit → Option (List ℕ) → Option Request
life_in unit words = do
  at ← word_at words
  moment ← moment_of unit at.0
  about ← about_of at.1
  Some (record { at = moment; event = Supervise about })

-- <at> <port> <octets>
abbrev pub arrival_in : Setting → Option (List ℕ) → Option Request
arrival_in setting words = do
  at ← word_at words
  moment ← moment_of setting.unit at.0
  port ← port_at setting.place at.1
  octets ← last_octets port.1
  Some (record { at = moment; event = Arrive port.0 (record { probe = None; octets = octets }) })

-- <at>
abbrev pub age_in : TimeUnit → Option (List ℕ) → Option Request
age_in unit words = do
  word ← last_word words
  moment ← moment_of unit word
  Some (record { at = moment; event = Age })

-- what a line asks for, by its first word
unfoldable pub request_of : Setting → List ℕ → Option Request
request_of setting line =
    let verb = (cut 32 line).0 in
    let words = (cut 32 line).1 in
    first_of
    ((bytes_eq verb (codes "send"), send_in setting.unit words)
    ∷ (bytes_eq verb (codes "arrive"), arrival_in setting words)
    ∷ (bytes_eq verb (codes "life"), life_in setting.unit words)
    ∷ (bytes_eq verb (codes "age"), age_in setting.unit words)
    ∷ [])
    None
