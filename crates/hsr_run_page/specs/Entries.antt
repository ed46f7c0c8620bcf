-- The entries of a finished run in the order of time.
--     stamped_all   each entry with its stamp, by node and place
--     AreEntries    each once, in the order of time
--     is_wanted     an entry is of the moments and of the sends that are asked for
use Rattle.std.specs.Prelude.{ℕ, ◌+◌, ◌&&◌, ◌||◌, Bool, false, List, [], ◌∷◌, ◌++◌, IsPermutation, length, nat_eq, Option, Some, None}
use Rattle.std.specs.List.Sorted.{IsSorted}
use Rattle.std.specs.Ordering.{nat_cmp, ordering_then}
use Rattle.std.specs.declared.cmp.Ordering.{Ordering}
use Rattle.hsr_node.specs.Record.{probe_handled}
use Rattle.hsr_node.specs.declared.entry.Entry.{Entry}
use Rattle.hsr_node.specs.declared.event.Probe.{Probe}
use Rattle.hsr_run_laws.specs.Run.{Run}
use Rattle.hsr_finished_run.specs.declared.planned.Planned.{Planned}
use Rattle.hsr_timeline.specs.Causes.{origins}
use Rattle.hsr_timeline.specs.Stamps.{AreStamps, at_spot}
use Rattle.hsr_timeline.specs.declared.stamp.Stamp.{Stamp}
use Rattle.hsr_diagram.specs.Sends.{is_among}
use Rattle.hsr_diagram.specs.Wanted.{is_in}
use Rattle.hsr_diagram.specs.declared.span.Span.{Span}
use Rattle.hsr_run_page.specs.declared.entries.Stamped.{Stamped}

abbrev pub stamped_at : ℕ → ℕ → Stamp → Stamped
stamped_at node place t = record { moment = t.moment; step = t.step; node = node; place = place }

-- the entries of a node, from a place on
abbrev pub stamped_from : ℕ → ℕ → List Stamp → List Stamped
stamped_from node place [] = []
stamped_from node place (t ∷ ts) = stamped_at node place t ∷ stamped_from node (place + 1) ts

-- those of all nodes from one on
abbrev pub stamped_nodes : ℕ → List (List Stamp) → List Stamped
stamped_nodes node [] = []
stamped_nodes node (ts ∷ more) = stamped_from node 0 ts ++ stamped_nodes (node + 1) more

-- all entries, by node and place
abbrev pub stamped_all : List (List Stamp) → List Stamped
stamped_all stamps = stamped_nodes 0 stamps

-- by moment, by step, then by node and place
abbrev pub stamped_cmp : Stamped → Stamped → Ordering
stamped_cmp x y =
    ordering_then (nat_cmp x.moment y.moment) (ordering_then (nat_cmp x.step y.step) (ordering_then (nat_cmp x.node y.node) (nat_cmp x.place y.place)))

-- each entry once, in the order of time
pub record AreEntries (run : Run) (plan : List Planned) (entries : List Stamped) : Type 0 where
  pub stamps : List (List Stamp)
  pub are_stamps : AreStamps (origins run plan) (at_spot stamps)
  pub once : IsPermutation (stamped_all stamps) entries
  pub sorted : IsSorted stamped_cmp entries

abbrev pub is_of_sends : List Probe → Option Probe → Bool
is_of_sends sends None = false
is_of_sends sends (Some send) = is_among sends send

-- what an entry has to do with: the send whose copy came, or else itself
abbrev pub probe_of : Stamped → Entry → Option Probe
probe_of s x = probe_handled (record { node = s.node; place = s.place }) x.event

-- an entry is of the span, and of one of the sends; of any where there are none of these
abbrev pub is_wanted : List Probe → Span → Stamped → Entry → Bool
is_wanted sends span s x = is_in span s.moment && (nat_eq (length sends) 0 || is_of_sends sends (probe_of s x))
