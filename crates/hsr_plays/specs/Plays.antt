-- The plays of a scenario: its steps in their order, with any moves of copies between them.
--     under_way   the copies that are under way in a world
--     IsTimely    each of them is of a send that was given less than so long ago
--     Moves       a number of moves lead from one world to another
--     IsDone      a step of the scenario does
--     Plays       a play of steps, with so many moves
--     IsPlayed    the play of the first steps of a setup, from its first world on
use Rattle.std.specs.Prelude.{ℕ, zero, suc, ◌+◌, ◌<◌, ◌≡◌, ◌==◌, Bool, true, if◌then◌else◌, List, [], ◌∷◌, ◌++◌, length, filter_map, Option, Some, None, option_to_list, Ok}
use Rattle.std.specs.List.{AllByRecursion}
use Rattle.hsr_node.specs.declared.entry.Entry.{Entry}
use Rattle.hsr_node.specs.declared.event.Carried.{Carried}
use Rattle.hsr_node.specs.declared.event.Probe.{Probe}
use Rattle.hsr_link.specs.Rows.{is_queued}
use Rattle.hsr_link.specs.declared.row.Row.{Row}
use Rattle.hsr_scenario.specs.declared.steps.Order.{Order}
use Rattle.hsr_scenario.specs.declared.steps.Order.TheVariants as order
use Rattle.hsr_world_laws.specs.Closing.{IsQuiet}
use Rattle.hsr_world_laws.specs.Spans.{Lane, Span}
use Rattle.hsr_world_laws.specs.World.{World, record_at, tried}
use Rattle.hsr_world_steps.specs.declared.step.Step.{Step}
use Rattle.hsr_plays.specs.Setup.{Setup, first_world, is_move}

-- ---- under way

-- a row's copy, if it waits
abbrev pub queued_copy : Row → Option Carried
queued_copy row = if is_queued row.fate then Some row.carried else None

abbrev pub in_lane : Lane → List Carried
in_lane lane = lane.outbox ++ option_to_list lane.hand

-- on a link, in the outboxes and in the hands of its ports
abbrev pub in_span : Span → List Carried
in_span span = filter_map queued_copy span.link.rows ++ (in_lane span.forth ++ in_lane span.back)

abbrev pub in_spans : List Span → List Carried
in_spans [] = []
in_spans (span ∷ spans) = in_span span ++ in_spans spans

abbrev pub under_way : World → List Carried
under_way w = in_spans w.spans

-- ---- in time

-- the moment that was given with the entry at a place of a record
abbrev pub given_moment : ℕ → List Entry → ℕ
given_moment n [] = 0
given_moment n (x ∷ past) = if n == length past then x.at else given_moment n past

abbrev pub sent_moment : World → Probe → ℕ
sent_moment w send = given_moment send.place (record_at w send.node)

-- it is less than so long ago that its send was given
abbrev pub IsYoung : ℕ → World → Carried → Type 0
IsYoung limit w copy = (send : Probe) → copy.probe ≡ Some send → w.moment < sent_moment w send + limit

-- nothing is asked where no limit is told
abbrev pub IsTimely : Option ℕ → World → Type 0
IsTimely None w = Unit {0}
IsTimely (Some limit) w = AllByRecursion (IsYoung limit w) (under_way w)

-- ---- plays

-- so many moves, one after another
abbrev pub Moves : ℕ → ℕ → World → World → Type 0
Moves capacity zero w after = w ≡ after
Moves capacity (suc n) w after = (move : Step) × (between : World) × (is_move move ≡ true) × (tried capacity w move ≡ Ok between) × Moves capacity n between after

-- a step of the scenario is done, and each copy is in time then; at a drain nothing is under way, and it changes nothing
abbrev pub IsDone : ℕ → Option ℕ → Order → World → World → Type 0
IsDone capacity within (order.Step step) w after = (tried capacity w step ≡ Ok after) × IsTimely within after
IsDone capacity within order.Drain w after = IsQuiet w × (w ≡ after)

-- the steps in their order, and before each of them and behind the last any moves, so many in all
abbrev pub Plays : ℕ → Option ℕ → List Order → ℕ → World → World → Type 0
Plays capacity within [] n w after = Moves capacity n w after
Plays capacity within (order ∷ orders) n w after =
    (m : ℕ) × (more : ℕ) × (n ≡ m + more)
    × ((before : World) × (behind : World) × Moves capacity m w before × IsDone capacity within order before behind × Plays capacity within orders more behind after)

-- the first steps of a setup were played with so many moves, which led to this world, and the later ones are still to come
pub record IsPlayed (s : Setup) (done later : List Order) (n : ℕ) (w : World) : Type 0 where
  pub whole : s.orders ≡ done ++ later
  pub plays : Plays s.capacity s.within done n (first_world s) w
