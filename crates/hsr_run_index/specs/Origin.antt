-- Whether a copy is of the send that its probe names, read from the oldest entry on.
use Rattle.std.specs.Prelude.{ℕ, ◌≡◌, false, List, [], ◌∷◌, Option, Some, None, Ok, slice_get}
use Rattle.std.specs.Option.{option_and_then, option_or}
use Rattle.hsr_frame.specs.Grammar.{Fields}
use Rattle.hsr_tag.specs.Seen.{classified}
use Rattle.hsr_tag.specs.Tag.{TaggedFields}
use Rattle.hsr_tag.specs.declared.seen.Seen.TheVariants.{Tagged}
use Rattle.hsr_node.specs.Copies.{plain_in}
use Rattle.hsr_node.specs.Flow.{sent_by}
use Rattle.hsr_node.specs.declared.sending.Sending.{Sending}
use Rattle.hsr_node.specs.Kept.{Record}
use Rattle.hsr_node.specs.declared.entry.Entry.{Entry}
use Rattle.hsr_node.specs.declared.event.Carried.{Carried}
use Rattle.hsr_node.specs.declared.event.Probe.{Probe}
use Rattle.hsr_node.specs.declared.place.Place.{Place}
use Rattle.hsr_run_laws.specs.Run.{gives, peer_in}
use Rattle.hsr_link.specs.declared.row.Row.{Row}
use Rattle.hsr_topology.specs.declared.end.End.{End}

-- what an entry sends, if there is one
abbrev pub sent_in : Place → Option Entry → Option Sending
sent_in place None = None
sent_in place (Some x) = sent_by place x.event x.outcome

-- the first number that these entries gave to a send
abbrev pub given_in : Probe → List Entry → Option ℕ
given_in send [] = None
given_in send (x ∷ xs) = option_or (gives send x.event x.outcome) (given_in send xs)

abbrev pub given_of : Probe → Option Record → Option ℕ
given_of send None = None
given_of send (Some r) = given_in send r.entries

-- the number that the RedBox at the link of a Station gave to a send of it
abbrev pub given_to : List (List End) → List Record → Probe → Option ℕ
given_to links kept send = option_and_then (λ (end : End). given_of send (slice_get kept end.node)) (peer_in (record { node = send.node; port = 0 }) links)

abbrev pub sent_of : ℕ → Option Record → Option Sending
sent_of n None = None
sent_of n (Some r) = sent_in r.place (slice_get r.entries n)

-- what the entry that a probe names sends
abbrev pub sent_at : List Record → Probe → Option Sending
sent_at kept send = sent_of send.place (slice_get kept send.node)

-- octets say what a frame says, and where they are tagged they have this number
pub record FitsSend (number : Option ℕ) (frame : Fields) (octets : List ℕ) : Type 0 where
  pub plain : plain_in (classified octets) ≡ Some frame
  pub numbered : (tagged : TaggedFields) → classified octets ≡ Ok (Tagged tagged) → number ≡ Some tagged.seq

-- the copy is of the send that its probe names
pub record IsOwn (links : List (List End)) (kept : List Record) (copy : Carried) : Type 0 where
  pub send : Probe
  pub sending : Sending
  pub named : copy.probe ≡ Some send
  pub is_send : sent_at kept send ≡ Some sending
  pub fits : FitsSend (option_or sending.seq (given_to links kept send)) sending.frame copy.octets

-- the row was put by a node, and its copy is of a send
pub record IsOurs (links : List (List End)) (kept : List Record) (row : Row) : Type 0 where
  pub put : row.injected ≡ false
  pub own : IsOwn links kept row.carried
