-- The sends that are listed beside a picture: those that are asked for; or without any those of the span.
use Rattle.std.specs.Prelude.{ℕ, ◌+◌, ◌==◌, ◌&&◌, ◌||◌, Bool, false, if◌then◌else◌, List, [], ◌∷◌, ◌++◌, Option, Some, None}
use Rattle.hsr_node.specs.declared.event.Probe.{Probe}
use Rattle.hsr_timeline.specs.declared.origin.Spot.{Spot}
use Rattle.hsr_timeline.specs.declared.stamp.Stamp.{Stamp}
use Rattle.hsr_deliveries.specs.Delivered.{Delivery}
use Rattle.hsr_diagram.specs.Wanted.{is_in}
use Rattle.hsr_diagram.specs.declared.sending.Sent.{Sent}
use Rattle.hsr_diagram.specs.declared.span.Span.{Span}

-- a send is one of these
abbrev pub is_among : List Probe → Probe → Bool
is_among [] send = false
is_among (one ∷ sends) send = (one.node == send.node && one.place == send.place) || is_among sends send

-- a moment is of a span, if there is one
abbrev pub is_stamp_in : Span → Option Stamp → Bool
is_stamp_in span None = false
is_stamp_in span (Some t) = is_in span t.moment

abbrev pub is_listed : List Probe → Span → Probe → Option Stamp → Bool
is_listed [] span send start = is_stamp_in span start
is_listed (one ∷ sends) span send start = is_among (one ∷ sends) send

abbrev pub start_of : (Spot → Option Stamp) → Probe → Option Stamp
start_of stamp send = stamp (record { node = send.node; place = send.place })

abbrev pub sent_if : List Probe → Span → ℕ → Probe → Option Stamp → List Sent
sent_if sends span i send start = if is_listed sends span send start then record { number = i; start = start } ∷ [] else []

-- those of some deliveries, the i-th first: each by its index among them
abbrev pub sents_from : (Spot → Option Stamp) → List Probe → Span → ℕ → List Delivery → List Sent
sents_from stamp sends span i [] = []
sents_from stamp sends span i (d ∷ ds) = sent_if sends span i d.send (start_of stamp d.send) ++ sents_from stamp sends span (i + 1) ds

abbrev pub sents : (Spot → Option Stamp) → List Probe → Span → List Delivery → List Sent
sents stamp sends span ds = sents_from stamp sends span 0 ds
