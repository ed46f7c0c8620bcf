-- What is counted of a record at a port.
--     is_counted        an entry is counted there
--     summed            over the four ports that a node may have
--     SumsAreCounters   these sums are the node's counters
use Rattle.std.specs.Prelude.{ℕ, ◌+◌, ◌≤◌, ◌≡◌, ◌==◌, ◌&&◌, ◌||◌, Bool, true, false, List, count_by, reverse}
use Rattle.hsr_frame.specs.Cause.{is_duplicate, is_returned, is_foreign, is_local, is_untagged, is_tagged, is_malformed}
use Rattle.hsr_frame.specs.declared.counters.Counters.{Counters}
use Rattle.hsr_frame.specs.declared.node.Cause.{Cause}
use Rattle.hsr_frame.specs.declared.node.Cause.TheVariants as cause
use Rattle.hsr_node.specs.Counts.{counters}
use Rattle.hsr_node.specs.Record.{IsLegal, Owner, has_port}
use Rattle.hsr_node.specs.declared.entry.Entry.{Entry}
use Rattle.hsr_node.specs.declared.event.Event.{Event}
use Rattle.hsr_node.specs.declared.event.Event.TheVariants.{Arrive}
use Rattle.hsr_node.specs.declared.event.Outcome.{Outcome}
use Rattle.hsr_node.specs.declared.event.Outcome.TheVariants.{Sent, Life, Judged}
use Rattle.hsr_devices.specs.declared.counted.Counted.{Counted}
use Rattle.hsr_devices.specs.declared.counted.Counted.TheVariants.{Arrived, Up, Passed, Duplicate, Returned, Foreign, Local, Untagged, Tagged, Malformed, Own, Forwarded}

-- ---- an entry

-- an arrival at a port
abbrev pub is_at : ℕ → Event → Bool
is_at port (Arrive by copy) = by == port
is_at port event = false

abbrev pub is_passed : Cause → Bool
is_passed cause.Passed = true
is_passed _ = false

-- what became of an arrival: it was taken up, or this is why it went where it did
abbrev pub judged_as : Counted → Bool → Cause → Bool
judged_as Arrived up c = true
judged_as Up up c = up
judged_as Passed up c = is_passed c
judged_as Duplicate up c = is_duplicate c
judged_as Returned up c = is_returned c
judged_as Foreign up c = is_foreign c
judged_as Local up c = is_local c
judged_as Untagged up c = is_untagged c
judged_as Tagged up c = is_tagged c
judged_as Malformed up c = is_malformed c
judged_as Own up c = false
judged_as Forwarded up c = false

abbrev pub becomes : Counted → Outcome → Bool
becomes what (Judged up ports seq c) = judged_as what up c
becomes what outcome = false

-- a copy of the node's own frame left by a port, or a copy of an arrival
abbrev pub leaves_by : Counted → ℕ → Outcome → Bool
leaves_by Own port (Sent seq ports) = has_port ports port
leaves_by Own port (Life seq life ports) = has_port ports port
leaves_by Forwarded port (Judged up ports seq c) = has_port ports port
leaves_by what port outcome = false

abbrev pub is_counted : Counted → ℕ → Entry → Bool
is_counted what port x = (is_at port x.event && becomes what x.outcome) || leaves_by what port x.outcome

-- ---- a record

-- over the four ports that a node may have
abbrev pub summed : Counted → List Entry → ℕ
summed what entries = count_by (is_counted what 0) entries + count_by (is_counted what 1) entries + count_by (is_counted what 2) entries + count_by (is_counted what 3) entries

-- what was taken up at a port was passed there too
abbrev pub IsUpPassed : List Entry → Type 0
IsUpPassed entries = (port : ℕ) → count_by (is_counted Up port) entries ≤ count_by (is_counted Passed port) entries

-- each of a node's counters of arrivals is what its ports sum up to, and what was taken up was passed
pub record SumsAre (entries : List Entry) (node : Counters) : Type 0 where
  pub passed : IsUpPassed entries
  pub up : summed Up entries ≡ node.up
  pub forwarded : summed Forwarded entries ≡ node.forwarded
  pub duplicate : summed Duplicate entries ≡ node.duplicate
  pub returned : summed Returned entries ≡ node.returned
  pub foreign : summed Foreign entries ≡ node.foreign
  pub local : summed Local entries ≡ node.local
  pub untagged : summed Untagged entries ≡ node.untagged
  pub tagged : summed Tagged entries ≡ node.tagged
  pub malformed : summed Malformed entries ≡ node.malformed

-- What is counted at the ports of a legal record sums up to the counters of its node, and what was taken up was passed.
abbrev pub SumsAreCounters : Type 0
SumsAreCounters = (capacity : ℕ) (owner : Owner) (entries : List Entry) → IsLegal capacity owner (reverse entries) → SumsAre entries (counters owner.place (reverse entries))
