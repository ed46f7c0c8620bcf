-- How the lines of a transcript are spelled.
--     version_text  the first line
--     place_text    a node: `danh <mac> <H|N|U>`, `redbox <mac> <H|N|U>`, `quadbox` or `station <mac> ..`
--     link_text     a link: `<node>.<port> <node>.<port>`
--     entry_text    an entry of a node's record: `<worker> <at> <event> = <outcome>`
--     row_text      a row of a link: `<forth|back> <probe> <octets> <taken|down|cut|overrun>`
-- One space parts two words; numbers are decimal, octets hexadecimal in upper case, and `-` stands for nothing.
use Rattle.std.specs.Prelude.{ℕ, Bool, List, [], ◌∷◌, ◌++◌, map, codes, slice_index_or, Option, Some, None, if◌then◌else◌}
use Rattle.std.specs.Fmt.{decimal}
use Rattle.hex.specs.Hex.{encode_upper}
use Rattle.hsr_frame.specs.Grammar.{pair}
use Rattle.hsr_frame.specs.Words.{cause_text, mode_word}
use Rattle.hsr_frame.specs.declared.node.About.{About}
use Rattle.hsr_frame.specs.declared.node.About.TheVariants.{Own, Proxied}
use Rattle.hsr_text.specs.Moments.{whole_units}
use Rattle.hsr_text.specs.declared.time_unit.TimeUnit.{TimeUnit}
use Rattle.hsr_text.specs.declared.time_unit.TimeUnit.TheVariants.{Milliseconds, Microseconds}
use Rattle.hsr_text.specs.Words.{mac_text}
use Rattle.hsr_node.specs.Record.{has_port}
use Rattle.hsr_node.specs.Words.{letter, role_word}
use Rattle.hsr_node.specs.declared.entry.Entry.{Entry}
use Rattle.hsr_node.specs.declared.event.Event.{Event}
use Rattle.hsr_node.specs.declared.event.Event.TheVariants.{Send, Supervise, Arrive, Age}
use Rattle.hsr_node.specs.declared.event.Outcome.{Outcome}
use Rattle.hsr_node.specs.declared.event.Outcome.TheVariants.{Sent, Life, Judged, Aged}
use Rattle.hsr_node.specs.declared.event.Probe.{Probe}
use Rattle.hsr_node.specs.declared.place.Place.{Place}
use Rattle.hsr_node.specs.declared.place.Place.TheVariants.{Danh, RedBox, QuadBox, Station}
use Rattle.hsr_node.specs.declared.role.Role.TheVariants as role
use Rattle.hsr_link.specs.Words.{dir_word, fate_word}
use Rattle.hsr_link.specs.declared.row.Dir.TheVariants.{Forth}
use Rattle.hsr_link.specs.declared.row.Row.{Row}
use Rattle.hsr_run_laws.specs.Run.{from_end, to_end}
use Rattle.hsr_topology.specs.declared.end.End.{End}

-- a word, and others behind it, with one space between two
abbrev pub spaced : List ℕ → List (List ℕ) → List ℕ
spaced word [] = word
spaced word (next ∷ others) = word ++ 32 ∷ spaced next others

-- version 1 tells moments in milliseconds
abbrev pub version_text : TimeUnit → List ℕ
version_text Milliseconds = codes "hsr-bench 1"
version_text Microseconds = codes "hsr-bench 2"

-- ---- words

abbrev pub octets_text : List ℕ → List ℕ
octets_text [] = codes "-"
octets_text (octet ∷ octets) = encode_upper (octet ∷ octets)

-- four digits
abbrev pub vlan_text : Option ℕ → List ℕ
vlan_text None = codes "-"
vlan_text (Some control) = encode_upper (pair control)

abbrev pub seq_text : Option ℕ → List ℕ
seq_text None = codes "-"
seq_text (Some seq) = decimal seq

-- `<node>:<place>`; a copy of nobody's send has a hyphen, which no text of a closed run holds
abbrev pub probe_text : Option Probe → List ℕ
probe_text None = codes "-"
probe_text (Some probe) = decimal probe.node ++ 58 ∷ decimal probe.place

abbrev pub about_text : About → List ℕ
about_text Own = codes "own"
about_text (Proxied mac) = mac_text mac

-- ---- nodes and links

unfoldable pub place_text : Place → List ℕ
place_text (Danh mac mode) = spaced (role_word role.Danh) (mac_text mac ∷ mode_word mode ∷ [])
place_text (RedBox mac mode) = spaced (role_word role.RedBox) (mac_text mac ∷ mode_word mode ∷ [])
place_text QuadBox = role_word role.QuadBox
place_text (Station macs) = spaced (role_word role.Station) (map mac_text macs.items)

-- `<node>.<port>`
abbrev pub end_text : List Place → End → List ℕ
end_text places end = decimal end.node ++ 46 ∷ letter (slice_index_or places end.node QuadBox) end.port ∷ []

unfoldable pub link_text : List Place → List End → List ℕ
link_text places ends = spaced (end_text places (from_end Forth ends)) (end_text places (to_end Forth ends) ∷ [])

-- ---- entries

unfoldable pub event_text : Place → Event → List ℕ
event_text place (Send from dst vlan ethertype payload) =
    spaced (codes "send") (decimal from ∷ mac_text dst ∷ vlan_text vlan ∷ encode_upper (pair ethertype) ∷ octets_text payload ∷ [])
event_text place (Supervise about) = spaced (codes "life") (about_text about ∷ [])
event_text place (Arrive port carried) =
    spaced (codes "arrive") ((letter place port ∷ []) ∷ probe_text carried.probe ∷ octets_text carried.octets ∷ [])
event_text place Age = codes "age"

-- a space and a letter, for a port by which something leaves
abbrev pub port_text : Place → List Bool → ℕ → List ℕ
port_text place ports port = if has_port ports port then 32 ∷ letter place port ∷ [] else []

abbrev pub ports_text : Place → List Bool → List ℕ
ports_text place ports = port_text place ports 0 ++ (port_text place ports 1 ++ (port_text place ports 2 ++ port_text place ports 3))

abbrev pub up_text : Bool → List ℕ
up_text up = if up then codes " up" else []

unfoldable pub outcome_text : Place → Outcome → List ℕ
outcome_text place (Sent seq ports) = codes "sent " ++ (seq_text seq ++ ports_text place ports)
outcome_text place (Life seq life ports) = codes "life " ++ (decimal seq ++ 32 ∷ (decimal life ++ ports_text place ports))
outcome_text place (Judged up ports seq cause) =
    codes "judged " ++ (cause_text (codes "-") cause ++ 32 ∷ (seq_text seq ++ (up_text up ++ ports_text place ports)))
outcome_text place Aged = codes "aged"

-- the moment is told in the unit of the text
unfoldable pub entry_text : TimeUnit → Place → Entry → List ℕ
entry_text unit place entry =
    spaced (decimal entry.worker) (decimal (whole_units unit entry.at) ∷ event_text place entry.event ∷ codes "=" ∷ outcome_text place entry.outcome ∷ [])

-- ---- rows

unfoldable pub row_text : Row → List ℕ
row_text row =
    spaced (dir_word row.dir) (probe_text row.carried.probe ∷ octets_text row.carried.octets ∷ fate_word row.fate ∷ [])
