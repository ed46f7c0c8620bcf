-- The sends that are listed, in the order of time.
use Rattle.std.specs.Prelude.{ℕ, List, map, Option, Some, None}
use Rattle.std.specs.List.Sorted.{IsPermutation, IsSorted}
use Rattle.std.specs.Ordering.{nat_cmp, ordering_then}
use Rattle.std.specs.declared.cmp.Ordering.{Ordering}
use Rattle.hsr_timeline.specs.declared.stamp.Stamp.{Stamp}
use Rattle.hsr_diagram.specs.declared.sending.Sent.{Sent}
use Rattle.hsr_diagram_layout.specs.declared.items.Item.{Item}

-- a send with its stamp; the first moment, where it has none
abbrev pub item_at : ℕ → Option Stamp → Item
item_at n None = record { moment = 0; step = 0; number = n }
item_at n (Some t) = record { moment = t.moment; step = t.step; number = n }

abbrev pub item_of : Sent → Item
item_of sent = item_at sent.number sent.start

-- by moment, then by step, then by index among the deliveries
abbrev pub item_cmp : Item → Item → Ordering
item_cmp x y = ordering_then (nat_cmp x.moment y.moment) (ordering_then (nat_cmp x.step y.step) (nat_cmp x.number y.number))

-- each once, in the order of time
pub record AreListed (sends : List Sent) (items : List Item) : Type 0 where
  pub once : IsPermutation (map item_of sends) items
  pub rise : IsSorted item_cmp items
