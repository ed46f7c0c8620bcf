-- Orders that do all that is told, one after another.
use Rattle.std.proofs.Common.{◌≡◌, ◌∙◌, ℕ, inl, inr, ◌∷◌, ◌++◌, [], List, Ok, ap, append_assoc, append-nil, refl, sym, subst, true, false}
use Rattle.hsr_frame.specs.declared.node.About.TheVariants.{Own, Proxied}
use Rattle.hsr_topology.specs.declared.end.End.{End}
use Rattle.hsr_scenario.specs.declared.steps.Order.{Order}
use Rattle.hsr_scenario.specs.declared.steps.Order.TheVariants.{Step, Drain}
use Rattle.hsr_world_steps.specs.declared.step.Step.TheVariants.{Clock, Send, Supervise, Age, Put, Take, Judge, Cut, Mend, Inject}
use Rattle.hsr_world_steps.specs.declared.step.Step as steps
use Rattle.hsr_ring.specs.Playing.{Plays}
use Rattle.hsr_plan_schedule.specs.Meaning.{Meaning}
use Rattle.hsr_plan_text.specs.declared.plan.Transfer.{Transfer}
use Rattle.hsr_world_laws.specs.Lawful.{finished_of}
use Rattle.hsr_world_laws.specs.World.{World, tried}
use Rattle.hsr_plan_hops.specs.Beginning.{Begins, DoesAll, IsNext, Stage, at_first, done, left_out, seen_at}
use Rattle.hsr_plan_hops.specs.Flights.{AreOnTime}
use Rattle.hsr_plan_hops.specs.Moving.{MovesAtPace, first_sight, world_of}
use Rattle.hsr_plan_hops.specs.Telling.{Does, IsDone, IsUnknownTo, LeavesOut, Tells}
use Rattle.hsr_plan_hops.specs.Turns.{are_in_turn, due_behind}
use Rattle.hsr_plan_hops.specs.Weaving.{EndsWell, Woven}
use Rattle.hsr_plan_hops.specs.declared.turns.Due.{Due}
use Rattle.hsr_plan_hops.proofs.Begun.{made}
use Rattle.hsr_plan_hops.specs.declared.turns.Due.TheVariants.{Nothing}

-- ---- one step

leaves_none : (capacity : ℕ) (w : World) (told : List Order) → LeavesOut capacity w told told
leaves_none capacity w [] = refl
leaves_none capacity w (order ∷ told) = inl refl

-- a step that comes next, and is done, does what is told
does_next : (capacity : ℕ) (transfer : Transfer) (links : List (List End)) (s : Stage) (step : steps.Step) (more : List Order) (after : World) → IsNext capacity transfer links s step more → tried capacity s.world step ≡ Ok after
    → IsDone capacity s.told s.due s.world step more after
does_next capacity transfer links s step more after next is = record {
  left = s.told;
  left_out = leaves_none capacity s.world s.told;
  does = next.does;
  puts_first = next.puts_first;
  done = is;
}

-- what is left out is told next
unknown_first : (capacity : ℕ) (w : World) (step : steps.Step) (told more : List Order) → Does step told more → IsUnknownTo capacity w step → told ≡ Step step ∷ more
unknown_first capacity w (Supervise n (Proxied mac)) told more does unknown = does
unknown_first capacity w (Supervise n Own) told more does unknown = absurd unknown
unknown_first capacity w (Clock at) told more does unknown = absurd unknown
unknown_first capacity w (Send n from dst vlan ethertype payload) told more does unknown = absurd unknown
unknown_first capacity w (Age n) told more does unknown = absurd unknown
unknown_first capacity w (Put n port) told more does unknown = absurd unknown
unknown_first capacity w (Take l dir) told more does unknown = absurd unknown
unknown_first capacity w (Judge n port) told more does unknown = absurd unknown
unknown_first capacity w (Cut l) told more does unknown = absurd unknown
unknown_first capacity w (Mend l) told more does unknown = absurd unknown
unknown_first capacity w (Inject l dir octets) told more does unknown = absurd unknown

-- what does the rest of what is told, once more of it is left out
tells_first : (capacity : ℕ) (links : List (List End)) (step : steps.Step) (more : List Order) (due : Due) (w : World) (rest : List Order) (after : World) → IsUnknownTo capacity w step
    → Tells capacity links more due w rest after → Tells capacity links (Step step ∷ more) due w rest after
tells_first capacity links step more due w [] after unknown (out, same) = (inr (unknown, out), same)
tells_first capacity links step more due w (Drain ∷ rest) after unknown h = absurd h
tells_first capacity links step more due w (Step next ∷ rest) after unknown (told, between, is, h) =
    (told, between, record { left = is.left; left_out = inr (unknown, is.left_out); does = is.does; puts_first = is.puts_first; done = is.done }, h)

-- ---- all

module _ (capacity : ℕ) (transfer : Transfer) (told : Meaning) where
  -- what does the rest, does all behind a beginning
  tells_on : (orders : List Order) (s : Stage) → Begins capacity transfer told orders s → (rest : List Order) (after : World)
      → Tells capacity told.topology.links s.told s.due s.world rest after → Tells capacity told.topology.links told.orders Nothing (world_of told) (orders ++ rest) after
  tells_on orders s at_first rest after h = h
  tells_on orders s (done first t step more between begins next is) rest after h =
      let P : List Order → Type 0 = λ os. Tells capacity told.topology.links told.orders Nothing (world_of told) os after in
      subst P (sym (append_assoc first (Step step ∷ []) rest))
      (tells_on first t begins (Step step ∷ rest) after (more, between, does_next capacity transfer told.topology.links t step more between next is, h))
  tells_on orders s (left_out first t step more begins next unknown) rest after h =
      let P : List Order → Type 0 = λ ts. Tells capacity told.topology.links ts t.due t.world rest after in
      tells_on first t begins rest after
      (subst P (sym (unknown_first capacity t.world step t.told more next.does unknown)) (tells_first capacity told.topology.links step more t.due t.world rest after unknown h))

  on_time_on : (orders : List Order) (s : Stage) → Begins capacity transfer told orders s → (rest : List Order) → AreOnTime capacity transfer s.turn (seen_at told.topology.links s) rest
      → AreOnTime capacity transfer 0 (first_sight told) (orders ++ rest)
  on_time_on orders s at_first rest h = h
  on_time_on orders s (done first t step more between begins next is) rest h =
      let P : List Order → Type 0 = AreOnTime capacity transfer 0 (first_sight told) in
      subst P (sym (append_assoc first (Step step ∷ []) rest)) (on_time_on first t begins (Step step ∷ rest) (between, is, next.on_time, h))
  on_time_on orders s (left_out first t step more begins next unknown) rest h = on_time_on first t begins rest h

  in_turn_on : (orders : List Order) (s : Stage) → Begins capacity transfer told orders s → (rest : List Order) → are_in_turn told.topology.links s.due s.moment s.begun rest ≡ true
      → are_in_turn told.topology.links Nothing 0 false (orders ++ rest) ≡ true
  in_turn_on orders s at_first rest h = h
  in_turn_on orders s (done first t step more between begins next is) rest h =
      ap (are_in_turn told.topology.links Nothing 0 false) (append_assoc first (Step step ∷ []) rest)
      ∙ in_turn_on first t begins (Step step ∷ rest) (rw (next.stands, next.first, h) refl)
  in_turn_on orders s (left_out first t step more begins next unknown) rest h = in_turn_on first t begins rest h

-- ---- the run

-- orders that do what is told are played
plays : (capacity : ℕ) (links : List (List End)) (told : List Order) (due : Due) (w : World) (orders : List Order) (after : World)
    → Tells capacity links told due w orders after → Plays capacity orders w after
plays capacity links told due w [] after (out, is) = is
plays capacity links told due w (Drain ∷ orders) after h = absurd h
plays capacity links told due w (Step step ∷ orders) after (more, between, is, rest) =
    (between, is.done, plays capacity links more (due_behind links step) between orders after rest)

pub at_transfer : (capacity : ℕ) (transfer : Transfer) (told : Meaning) (orders : List Order) (s : Stage) → DoesAll capacity transfer told orders s → EndsWell capacity transfer s.world → MovesAtPace capacity transfer told orders
at_transfer capacity transfer told orders s all ends =
    let same : orders ++ [] ≡ orders = append-nil orders in
    let T : List Order → Type 0 = λ os. Tells capacity told.topology.links told.orders Nothing (world_of told) os s.world in
    let A : List Order → Type 0 = AreOnTime capacity transfer 0 (first_sight told) in
    let N : List Order → Type 0 = λ ts. LeavesOut capacity s.world ts [] in
    let tells : T orders = subst T same (tells_on capacity transfer told orders s all.begins [] s.world (subst N (sym all.all) refl, refl)) in
    record {
      in_turn = ap (are_in_turn told.topology.links Nothing 0 false) (sym same) ∙ in_turn_on capacity transfer told orders s all.begins [] refl;
      run = record {
        run = finished_of capacity s.world;
        finished = record {
          world = s.world;
          plays = plays capacity told.topology.links told.orders Nothing (world_of told) orders s.world tells;
          ended = ends.ended;
          is = refl;
        };
        tells = tells;
        on_time = subst A same (on_time_on capacity transfer told orders s all.begins [] tt);
        in_time = ends.in_time;
      };
    }

pub at_pace_at : (capacity : ℕ) (transfer : Transfer) (told : Meaning) (v : Woven) (s : Stage) (orders : List Order) (w : World) → made s orders ≡ v → s.world ≡ w → DoesAll capacity transfer told v.orders v.stage
    → EndsWell capacity transfer w → MovesAtPace capacity transfer told orders
at_pace_at capacity transfer told v s orders w is_made is_world all ends =
    let P : Woven → Type 0 = λ x. DoesAll capacity transfer told x.orders x.stage in
    let W : World → Type 0 = EndsWell capacity transfer in
    at_transfer capacity transfer told orders s (subst P (sym is_made) all) (subst W (sym is_world) ends)
