-- What holds of a setup in any order of its copies.
--     AcceptsNext       the step that comes next is accepted
--     CarriesOnce       no direction of a link carries a send twice
--     OverrunsNone      no copy was lost by a full queue
--     LosesWhereDown    what was lost of a send was lost on a link that is down in its span
--     CanGoOn           nothing is under way, or some move is done
--     HoldsNow          all these, and few moves, at a moment of a play
--     HoldsInAnyOrder   that at each moment of each play, and at its end what an audit asks for
--     RunCertifies      what `run` plays is certified
use Rattle.std.specs.Prelude.{ℕ, ◌*◌, ◌<◌, ◌≤◌, ◌≡◌, ◌⊎◌, true, false, List, [], ◌∷◌, length, count_by, slice_get, Some, None, Ok}
use Rattle.std.specs.List.{list_any}
use Rattle.hsr_node.specs.declared.event.Probe.{Probe}
use Rattle.hsr_link.specs.Rows.{is_lost, put_copies}
use Rattle.hsr_link.specs.declared.row.Dir.{Dir}
use Rattle.hsr_link.specs.declared.row.Row.{Row}
use Rattle.hsr_run_laws.specs.Once.{is_copy}
use Rattle.hsr_run_laws.specs.Run.{rows_of}
use Rattle.hsr_audit.specs.Doubts.{IsNetworkPremised}
use Rattle.hsr_ring.specs.Playing as ring
use Rattle.hsr_scenario.specs.declared.steps.Order.{Order}
use Rattle.hsr_scenario.specs.declared.steps.Order.TheVariants as order
use Rattle.hsr_world_laws.specs.Closing.{IsQuiet}
use Rattle.hsr_world_laws.specs.World.{World, tried}
use Rattle.hsr_world_steps.specs.declared.step.Step.{Step}
use Rattle.hsr_plays.specs.Law.{IsCertain, IsSpanOf, is_overrun, is_send, run_in}
use Rattle.hsr_plays.specs.Plays.{IsPlayed}
use Rattle.hsr_plays.specs.Setup.{IsSetup, Setup, first_world, is_move}
use Rattle.hsr_plays.specs.Spans.{is_down}
use Rattle.hsr_plays.specs.declared.span.SendSpan.{SendSpan}
use Rattle.hsr_certify.specs.Doubts.{IsPremised}

-- ---- at a moment of a play

-- a drain is no step of a world: moves are done until nothing is under way
abbrev pub AcceptsNext : Setup → List Order → World → Type 0
AcceptsNext s (order.Step step ∷ later) w = (after : World) × (tried s.capacity w step ≡ Ok after)
AcceptsNext s _ w = Unit {0}

abbrev pub CarriesOnce : Setup → World → Type 0
CarriesOnce s w = (l : ℕ) (dir : Dir) (send : Probe) → l < length s.links → count_by (is_copy send) (put_copies dir (rows_of (run_in s w) l)) ≤ 1

abbrev pub OverrunsNone : Setup → World → Type 0
OverrunsNone s w = (l : ℕ) → l < length s.links → list_any (λ row. is_overrun row.fate) (rows_of (run_in s w) l) ≡ false

abbrev pub LosesWhereDown : Setup → World → Type 0
LosesWhereDown s w = (l i : ℕ) (row : Row) (send : Probe) → l < length s.links → slice_get (rows_of (run_in s w) l) i ≡ Some row → is_lost row.fate ≡ true → row.carried.probe ≡ Some send →
    (span : SendSpan) × IsSpanOf s w send span × (is_down s.orders span l ≡ true)

abbrev pub CanGoOn : Setup → World → Type 0
CanGoOn s w = IsQuiet w ⊎ ((move : Step) × (after : World) × (is_move move ≡ true) × (tried s.capacity w move ≡ Ok after))

-- Some steps are done, with so many moves, and others come later. Each send is put, taken and judged once at most in each direction of each link.
pub record HoldsNow (s : Setup) (done later : List Order) (n : ℕ) (w : World) : Type 0 where
  pub accepts : AcceptsNext s later w
  pub once : CarriesOnce s w
  pub overruns : OverrunsNone s w
  pub loses : LosesWhereDown s w
  pub few : n ≤ 6 * length s.links * count_by is_send done
  pub goes_on : CanGoOn s w

-- ---- of each play

-- At the end of a play each send is covered and came to each node that it is due at, each of these took it up once, and nothing else went up. So
-- where no time is told that a copy lives, the audit of a network certifies what `run` plays.
pub record HoldsInAnyOrder (s : Setup) : Type 0 where
  pub always : (done later : List Order) (n : ℕ) (w : World) → IsPlayed s done later n w → HoldsNow s done later n w
  pub ends : (n : ℕ) (w : World) → IsPlayed s s.orders [] n w → IsCertain s w
  pub run : s.within ≡ None → (w : World) → ring.Plays s.capacity s.orders (first_world s) w → IsNetworkPremised (run_in s w)

-- ---- `run`

abbrev pub RunCertifies : Type 0
RunCertifies = (s : Setup) (w : World) → IsSetup s → IsPremised s → s.within ≡ None → ring.Plays s.capacity s.orders (first_world s) w → IsNetworkPremised (run_in s w)
