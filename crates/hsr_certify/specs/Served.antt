-- Which nodes a send comes to, whatever is down in its span.
--     AreAvoidedBelow   a set has just the channels that are down
--     first_missed      the lowest node that a send is due at and that isn't found
--     IsUnled           the lowest node that a send is due at and that no routes lead to
--     IsFirstUnled      of all sends the first
use Rattle.std.specs.Prelude.{ℕ, ◌+◌, ◌<◌, ◌≡◌, ◌==◌, ◌&&◌, not, Bool, true, if◌then◌else◌, List, [], ◌∷◌, length, slice_get, Option, Some, None}
use Rattle.hsr_bitset.specs.Numbers.{has}
use Rattle.hsr_deliveries.specs.Delivered.{is_due, is_for}
use Rattle.hsr_node.specs.declared.place.Place.{Place}
use Rattle.hsr_run_laws.specs.Run.{Run}
use Rattle.hsr_network_laws.specs.Network.{Channel}
use Rattle.hsr_routes.specs.Numbered.{number_of}
use Rattle.hsr_routes.specs.Routes.{IsLedTo, heading, sender_at}
use Rattle.hsr_scenario.specs.declared.steps.Order.{Order}
use Rattle.hsr_plays.specs.Spans.{is_down}
use Rattle.hsr_plays.specs.declared.span.SendSpan.{SendSpan}
use Rattle.hsr_certify.specs.declared.serving.CutOff.{CutOff}

-- ---- what is avoided

-- of links below one just the channels of those that are down
abbrev pub AreAvoidedBelow : List Order → SendSpan → ℕ → List ℕ → Type 0
AreAvoidedBelow orders span links set = (channel : Channel) → channel.link < links → has set (number_of channel) ≡ is_down orders span channel.link

-- ---- one send

abbrev pub is_missed_at : SendSpan → List ℕ → ℕ → Place → Bool
is_missed_at span nodes k place = (not (k == span.asked.node) && is_for place span.asked.dst span.asked.kind) && not (has nodes k)

abbrev pub first_missed_from : SendSpan → List ℕ → ℕ → List Place → Option ℕ
first_missed_from span nodes k [] = None
first_missed_from span nodes k (place ∷ places) = if is_missed_at span nodes k place then Some k else first_missed_from span nodes (k + 1) places

abbrev pub LeadsTo : Run → List Order → SendSpan → ℕ → Type 0
LeadsTo net orders span k = IsLedTo net (sender_at span.asked.node) (heading span.asked.dst span.asked.kind) (λ channel. is_down orders span channel.link) k

abbrev pub ServesBelow : Run → List Order → SendSpan → ℕ → Type 0
ServesBelow net orders span n = (k : ℕ) → k < n → is_due net span.asked.node span.asked.dst span.asked.kind k ≡ true → LeadsTo net orders span k

pub record IsUnledAt (net : Run) (orders : List Order) (span : SendSpan) (k : ℕ) : Type 0 where
  pub below : k < length net.places
  pub due : is_due net span.asked.node span.asked.dst span.asked.kind k ≡ true
  pub unled : ¬ LeadsTo net orders span k
  pub before : ServesBelow net orders span k

abbrev pub IsUnled : Run → List Order → SendSpan → Option ℕ → Type 0
IsUnled net orders span None = ServesBelow net orders span (length net.places)
IsUnled net orders span (Some k) = IsUnledAt net orders span k

-- ---- all sends

-- their nodes are there
abbrev pub AreSentIn : List Place → List SendSpan → Type 0
AreSentIn places spans = (i : ℕ) (span : SendSpan) → slice_get spans i ≡ Some span → span.asked.node < length places

abbrev pub ServedBelow : Run → List Order → List SendSpan → ℕ → Type 0
ServedBelow net orders spans n = (i : ℕ) (span : SendSpan) → i < n → slice_get spans i ≡ Some span → ServesBelow net orders span (length net.places)

pub record IsCutAt (net : Run) (orders : List Order) (spans : List SendSpan) (cut : CutOff) : Type 0 where
  pub at : ℕ
  pub span : SendSpan
  pub listed : slice_get spans at ≡ Some span
  pub index : span.index ≡ cut.step
  pub unled : IsUnledAt net orders span cut.node
  pub before : ServedBelow net orders spans at

abbrev pub IsFirstUnled : Run → List Order → List SendSpan → Option CutOff → Type 0
IsFirstUnled net orders spans None = ServedBelow net orders spans (length spans)
IsFirstUnled net orders spans (Some cut) = IsCutAt net orders spans cut
