-- What the lines of a transcript say. Lines are read freely here: a line that says a value is that value's line only if
-- it is spelled so, which `exactly` tests.
use Rattle.std.specs.Prelude.{ℕ, zero, suc, ◌==◌, ◌^◌, nat_lt, not, Bool, false, List, [], ◌∷◌, length, Option, Some, None, option_map, if◌then◌else◌, codes, slice_index_or}
use Rattle.std.specs.List.{list_any}
use Rattle.std.specs.Result.{result_ok}
use Rattle.std.specs.Str.{bytes_eq}
use Rattle.std.specs.Fmt.{decimal}
use Rattle.hsr_frame.specs.Address.{address_of}
use Rattle.hsr_frame.specs.Cases.{first_of}
use Rattle.hsr_text.specs.Moments.{moment_of}
use Rattle.hsr_text.specs.declared.time_unit.TimeUnit.{TimeUnit}
use Rattle.hsr_text.specs.declared.time_unit.TimeUnit.TheVariants.{Milliseconds, Microseconds}
use Rattle.hsr_text.specs.Words.{◌>>=◌, cut, word_at, decimal_of, hex_pair_of, hex_octets_of}
use Rattle.hsr_frame.specs.Words.{cause_of, fault_of, mode_of}
use Rattle.hsr_frame.specs.declared.fault.FrameFault.{FrameFault}
use Rattle.hsr_frame.specs.declared.node.Cause.{Cause}
use Rattle.hsr_frame.specs.declared.node.Mode.{Mode}
use Rattle.hsr_frame.specs.declared.node.About.{About}
use Rattle.hsr_frame.specs.declared.node.About.TheVariants.{Own, Proxied}
use Rattle.hsr_node.specs.declared.entry.Entry.{Entry}
use Rattle.hsr_node.specs.declared.event.Event.{Event}
use Rattle.hsr_node.specs.declared.event.Event.TheVariants.{Send, Supervise, Arrive, Age}
use Rattle.hsr_node.specs.declared.event.Outcome.{Outcome}
use Rattle.hsr_node.specs.declared.event.Outcome.TheVariants.{Sent, Life, Judged, Aged}
use Rattle.hsr_node.specs.declared.event.Probe.{Probe}
use Rattle.hsr_node.specs.declared.place.Place.{Place}
use Rattle.hsr_node.specs.declared.place.Place.TheVariants.{Danh, RedBox, QuadBox, Station}
use Rattle.hsr_node.specs.declared.role.Role.{Role}
use Rattle.hsr_node.specs.declared.role.Role.TheVariants as role
use Rattle.hsr_link.specs.Rows.{is_queued}
use Rattle.hsr_link.specs.Words.{dir_of, fate_of}
use Rattle.hsr_link.specs.declared.row.Fate.{Fate}
use Rattle.hsr_link.specs.declared.row.Row.{Row}
use Rattle.hsr_node.specs.Place.{ports}
use Rattle.hsr_node.specs.Words.{letter, port_of, role_of}
use Rattle.hsr_topology.specs.declared.end.End.{End}
use Rattle.hsr_transcript_lines.specs.Exact.{exactly, tested}
use Rattle.hsr_transcript_lines.specs.Lines.{head}
use Rattle.hsr_transcript_lines.specs.Spelled.{entry_text, link_text, place_text, row_text, version_text}

-- ---- words

-- what a word says, by a table of words
abbrev pub word_of : {Y : Type 0} → List (Bool × Option Y) → Option Y
word_of rows = first_of rows None

-- a decimal number below a bound
abbrev pub below : ℕ → List ℕ → Option ℕ
below bound word = tested (λ n. nat_lt n bound) (decimal_of word)

-- the fate of a copy that waits no more
abbrev pub read_fate : List ℕ → Option Fate
read_fate w = tested (λ fate. not (is_queued fate)) (fate_of w)

-- the fault behind a cause's hyphen, if there is one
abbrev pub read_fault : Option (List ℕ) → Option (Option FrameFault)
read_fault None = Some None
read_fault (Some digits) = option_map Some (decimal_of digits >>= fault_of)

abbrev pub read_cause : List ℕ → Option Cause
read_cause w = do
  fault ← read_fault (cut 45 w).1
  cause_of (cut 45 w).0 fault

abbrev pub read_vlan : List ℕ → Option (Option ℕ)
read_vlan w = if bytes_eq w (codes "-") then Some None else option_map Some (hex_pair_of w)

abbrev pub read_seq : List ℕ → Option (Option ℕ)
read_seq w = if bytes_eq w (codes "-") then Some None else option_map Some (below (2 ^ 16) w)

abbrev pub read_about : List ℕ → Option About
read_about w = if bytes_eq w (codes "own") then Some Own else option_map Proxied (result_ok (address_of w))

-- `<node>:<place>`
abbrev pub read_probe : List ℕ → Option Probe
read_probe w = do
  node ← decimal_of (cut 58 w).0
  rest ← (cut 58 w).1
  place ← decimal_of rest
  Some (record { node = node; place = place })

-- a port that the place has, by a word that begins with its letter
abbrev pub read_port : Place → List ℕ → Option ℕ
read_port place [] = None
read_port place (c ∷ cs) = port_of place c

-- ---- nodes and links

-- addresses, at most n
unfoldable pub read_macs : ℕ → Option (List ℕ) → Option (List (List ℕ))
read_macs n None = Some []
read_macs zero (Some text) = None
read_macs (suc n) (Some text) = do
  mac ← result_ok (address_of (cut 32 text).0)
  macs ← read_macs n (cut 32 text).1
  Some (mac ∷ macs)

-- an address and a mode
abbrev pub read_ring_node : (List ℕ → Mode → Place) → Option (List ℕ) → Option Place
read_ring_node node words = do
  address ← word_at words
  mac ← result_ok (address_of address.0)
  word ← word_at address.1
  mode ← mode_of word.0
  Some (node mac mode)

abbrev pub read_station : Option (List ℕ) → Option Place
read_station words = do
  macs ← tested (λ macs. nat_lt 0 (length macs)) (read_macs 16 words)
  Some (Station (record { items = macs }))

abbrev pub read_words : Role → Option (List ℕ) → Option Place
read_words role.Danh words = read_ring_node Danh words
read_words role.RedBox words = read_ring_node RedBox words
read_words role.QuadBox words = Some QuadBox
read_words role.Station words = read_station words

unfoldable pub read_place : List ℕ → Option Place
read_place line = do
  role ← role_of (cut 32 line).0
  read_words role (cut 32 line).1

-- `<node>.<port>`, of a node that is there
abbrev pub read_end : List Place → List ℕ → Option End
read_end places w = do
  node ← tested (λ n. nat_lt n (length places)) (decimal_of (cut 46 w).0)
  rest ← (cut 46 w).1
  port ← read_port (slice_index_or places node QuadBox) rest
  Some (record { node = node; port = port })

unfoldable pub read_link : List Place → List ℕ → Option (List End)
read_link places line = do
  first ← word_at (Some line)
  a ← read_end places first.0
  second ← word_at first.1
  b ← read_end places second.0
  Some (a ∷ b ∷ [])

-- ---- entries

abbrev pub read_send : Option (List ℕ) → Option (Event × Option (List ℕ))
read_send words = do
  first ← word_at words
  from ← below 256 first.0
  second ← word_at first.1
  dst ← result_ok (address_of second.0)
  third ← word_at second.1
  vlan ← read_vlan third.0
  fourth ← word_at third.1
  ethertype ← hex_pair_of fourth.0
  fifth ← word_at fourth.1
  payload ← hex_octets_of fifth.0
  Some (Send from dst vlan ethertype payload, fifth.1)

abbrev pub read_life : Option (List ℕ) → Option (Event × Option (List ℕ))
read_life words = do
  word ← word_at words
  about ← read_about word.0
  Some (Supervise about, word.1)

abbrev pub read_arrive : Place → Option (List ℕ) → Option (Event × Option (List ℕ))
read_arrive place words = do
  first ← word_at words
  port ← read_port place first.0
  second ← word_at first.1
  probe ← read_probe second.0
  third ← word_at second.1
  octets ← hex_octets_of third.0
  Some (Arrive port (record { probe = Some probe; octets = octets }), third.1)

-- an event, and what follows it
unfoldable pub read_event : Place → Option (List ℕ) → Option (Event × Option (List ℕ))
read_event place words = do
  verb ← word_at words
  word_of
      ((bytes_eq verb.0 (codes "send"), read_send verb.1) ∷ (bytes_eq verb.0 (codes "life"), read_life verb.1)
      ∷ (bytes_eq verb.0 (codes "arrive"), read_arrive place verb.1) ∷ (bytes_eq verb.0 (codes "age"), Some (Age, verb.1)) ∷ [])

-- whether an octet is among others
unfoldable pub has_octet : ℕ → List ℕ → Bool
has_octet c text = list_any (λ b. b == c) text

-- whether the letter of a port that the place has is among these octets
abbrev pub has_letter : Place → List ℕ → ℕ → Bool
has_letter place text port = if nat_lt port (ports place) then has_octet (letter place port) text else false

abbrev pub read_ports : Place → List ℕ → List Bool
read_ports place text = has_letter place text 0 ∷ has_letter place text 1 ∷ has_letter place text 2 ∷ has_letter place text 3 ∷ []

-- what follows, if something does
abbrev pub tail_of : Option (List ℕ) → List ℕ
tail_of None = []
tail_of (Some text) = text

abbrev pub read_sent : Place → Option (List ℕ) → Option Outcome
read_sent place words = do
  word ← word_at words
  seq ← read_seq word.0
  Some (Sent seq (read_ports place (tail_of word.1)))

abbrev pub read_lived : Place → Option (List ℕ) → Option Outcome
read_lived place words = do
  first ← word_at words
  seq ← below (2 ^ 16) first.0
  second ← word_at first.1
  life ← below (2 ^ 16) second.0
  Some (Life seq life (read_ports place (tail_of second.1)))

abbrev pub read_judged : Place → Option (List ℕ) → Option Outcome
read_judged place words = do
  first ← word_at words
  cause ← read_cause first.0
  second ← word_at first.1
  seq ← read_seq second.0
  Some (Judged (has_octet 117 (tail_of second.1)) (read_ports place (tail_of second.1)) seq cause)

unfoldable pub read_outcome : Place → Option (List ℕ) → Option Outcome
read_outcome place words = do
  verb ← word_at words
  word_of
      ((bytes_eq verb.0 (codes "sent"), read_sent place verb.1) ∷ (bytes_eq verb.0 (codes "life"), read_lived place verb.1)
      ∷ (bytes_eq verb.0 (codes "judged"), read_judged place verb.1) ∷ (bytes_eq verb.0 (codes "aged"), Some Aged) ∷ [])

unfoldable pub read_entry : TimeUnit → Place → List ℕ → Option Entry
read_entry unit place line = do
  first ← word_at (Some line)
  worker ← below (2 ^ 16) first.0
  second ← word_at first.1
  at ← moment_of unit second.0
  event ← read_event place second.1
  equals ← word_at event.1
  outcome ← read_outcome place equals.1
  Some (record { worker = worker; at = at; event = event.0; outcome = outcome })

-- ---- rows

unfoldable pub read_row : List ℕ → Option Row
read_row line = do
  first ← word_at (Some line)
  dir ← dir_of first.0
  second ← word_at first.1
  probe ← read_probe second.0
  third ← word_at second.1
  octets ← hex_octets_of third.0
  fourth ← word_at third.1
  fate ← read_fate fourth.0
  Some (record { dir = dir; carried = record { probe = Some probe; octets = octets }; injected = false; fate = fate })

-- ---- lines

-- the unit of the moments, by the version
abbrev pub read_version : List ℕ → Option TimeUnit
read_version line = word_of ((bytes_eq line (codes "hsr-bench 1"), Some Milliseconds) ∷ (bytes_eq line (codes "hsr-bench 2"), Some Microseconds) ∷ [])

unfoldable pub version_of : List ℕ → Option TimeUnit
version_of line = exactly version_text read_version line

unfoldable pub place_of : List ℕ → Option Place
place_of line = exactly place_text read_place line

unfoldable pub link_of : List Place → List ℕ → Option (List End)
link_of places line = exactly (link_text places) (read_link places) line

unfoldable pub entry_of : TimeUnit → Place → List ℕ → Option Entry
entry_of unit place line = exactly (entry_text unit place) (read_entry unit place) line

unfoldable pub row_of : List ℕ → Option Row
row_of line = exactly row_text read_row line

abbrev pub number_in : Option (List ℕ) → Option ℕ
number_in None = None
number_in (Some word) = decimal_of word

-- the number behind a name
unfoldable pub count_of : List ℕ → List ℕ → Option ℕ
count_of name line = exactly (head name) (λ line. number_in (cut 32 line).1) line

-- a number alone
unfoldable pub turn_of : List ℕ → Option ℕ
turn_of line = exactly decimal decimal_of line

-- a line that stands in each text
abbrev pub only : List ℕ → List ℕ → Option (Unit {0})
only word = exactly (λ _. word) (λ _. Some tt)
