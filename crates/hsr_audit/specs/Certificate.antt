-- What a certificate says of a run.
--     certified        the sends of a run, with the nodes that each is for
--     IsCertified      all that exactly once rests on holds, so that it holds too, and the sends are listed
use Rattle.std.specs.Prelude.{ℕ, zero, suc, ◌≡◌, List, [], ◌∷◌, ◌++◌, length, filter, Option, option_map}
use Rattle.std.specs.List.{cons_option, range_with_len}
use Rattle.hsr_frame.specs.Grammar.{Fields}
use Rattle.hsr_node.specs.Flow.{sent_by}
use Rattle.hsr_node.specs.declared.sending.Sending.{Sending}
use Rattle.hsr_node.specs.Record.{Owner}
use Rattle.hsr_node.specs.declared.entry.Entry.{Entry}
use Rattle.hsr_node.specs.declared.event.Probe.{Probe}
use Rattle.hsr_audit.specs.Danhs.{IsPremised}
use Rattle.hsr_run_laws.specs.Once.{IsExactlyOnce, is_addressed}
use Rattle.hsr_run_laws.specs.Run.{Run, owner_of, past_of}

-- a send, and the nodes that it is for
pub record Certified : Type 0 where
  pub probe : Probe
  pub receivers : List ℕ

-- the nodes that a frame is for, rising
abbrev pub receivers : List (List ℕ) → ℕ → Fields → List ℕ
receivers macs sender frame = filter (is_addressed macs sender frame) (range_with_len 0 (length macs))

abbrev pub certified_as : List (List ℕ) → Probe → Sending → Certified
certified_as macs send sending = record { probe = send; receivers = receivers macs send.node sending.frame }

-- an entry on this past, if it is a send
abbrev pub certified_by : List (List ℕ) → Owner → Entry → List Entry → Option Certified
certified_by macs owner x past =
    option_map (certified_as macs (record { node = owner.number; place = length past })) (sent_by owner.place x.event x.outcome)

-- the sends of a record, by their places
abbrev pub certified_in : List (List ℕ) → Owner → List Entry → List Certified
certified_in macs owner [] = []
certified_in macs owner (x ∷ past) = certified_in macs owner past ++ cons_option (certified_by macs owner x past) []

-- the sends of the nodes below one, by node and place
abbrev pub certified_below : Run → List (List ℕ) → ℕ → List Certified
certified_below run macs zero = []
certified_below run macs (suc k) = certified_below run macs k ++ certified_in macs (owner_of run k) (past_of run k)

abbrev pub certified : Run → List (List ℕ) → List Certified
certified run macs = certified_below run macs (length run.places)

-- The run is that of a ring, with losses on at most one link, nothing forgotten and nothing mistaken; each send is listed
-- with the nodes that it is for; and each of these took its frame up just once.
pub record IsCertified (run : Run) (sends : List Certified) : Type 0 where
  pub macs : List (List ℕ)
  pub premised : IsPremised run macs
  pub listed : sends ≡ certified run macs
  pub once : IsExactlyOnce run macs
