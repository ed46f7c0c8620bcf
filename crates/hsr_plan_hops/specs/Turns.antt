-- What comes next among orders. A judgement stands right behind the take of its copy, and puts stand right behind what their node passed.
-- Moments rise, and at each of them the copies that arrive come first.
use Rattle.std.specs.Prelude.{ℕ, ◌==◌, nat_lt, Bool, true, false, not, ◌&&◌, ◌||◌, List, [], ◌∷◌, Option, Some, option_map, slice_get}
use Rattle.hsr_topology.specs.declared.end.End.{End}
use Rattle.hsr_link.specs.declared.row.Dir.{Dir}
use Rattle.hsr_run_laws.specs.Run.{to_end}
use Rattle.hsr_scenario.specs.declared.steps.Order.{Order}
use Rattle.hsr_scenario.specs.declared.steps.Order.TheVariants.{Step, Drain}
use Rattle.hsr_world_steps.specs.declared.step.Step.TheVariants.{Clock, Send, Supervise, Age, Put, Take, Judge, Cut, Mend, Inject}
use Rattle.hsr_world_steps.specs.declared.step.Step as steps
use Rattle.hsr_plan_hops.specs.declared.turns.Due.{Due}
use Rattle.hsr_plan_hops.specs.declared.turns.Due.TheVariants.{Nothing, Judgement, Puts}

-- ---- neighbours

-- the port to which a direction of a link leads
abbrev pub receiver : List (List End) → ℕ → Dir → Option End
receiver links l dir = option_map (to_end dir) (slice_get links l)

-- what is due behind a step: the judgement of what it took, or the puts of what its node passed
abbrev pub due_behind : List (List End) → steps.Step → Due
due_behind links (Clock at) = Nothing
due_behind links (Send n from dst vlan ethertype payload) = Puts n
due_behind links (Supervise n about) = Puts n
due_behind links (Age n) = Nothing
due_behind links (Put n port) = Puts n
due_behind links (Take l dir) = Judgement (receiver links l dir)
due_behind links (Judge n port) = Puts n
due_behind links (Cut l) = Nothing
due_behind links (Mend l) = Nothing
due_behind links (Inject l dir octets) = Nothing

abbrev pub is_judgement : steps.Step → Bool
is_judgement (Judge n port) = true
is_judgement _ = false

abbrev pub is_judgement_at : Option End → steps.Step → Bool
is_judgement_at (Some end) (Judge n port) = (n == end.node) && (port == end.port)
is_judgement_at _ _ = false

abbrev pub is_put : steps.Step → Bool
is_put (Put n port) = true
is_put _ = false

abbrev pub is_put_of : ℕ → steps.Step → Bool
is_put_of k (Put n port) = n == k
is_put_of k _ = false

abbrev pub is_free : steps.Step → Bool
is_free step = not (is_put step) && not (is_judgement step)

-- a step may stand where this is due
abbrev pub may_stand : Due → steps.Step → Bool
may_stand Nothing step = is_free step
may_stand (Judgement end) step = is_judgement_at end step
may_stand (Puts k) step = is_put_of k step || is_free step

-- ---- moments

-- a moment is later than the one before, and nothing is taken at a moment at which something that is told was done
abbrev pub is_first : ℕ → Bool → steps.Step → Bool
is_first now begun (Clock at) = nat_lt now at
is_first now begun (Take l dir) = not begun
is_first now begun _ = true

abbrev pub moment_behind : ℕ → steps.Step → ℕ
moment_behind now (Clock at) = at
moment_behind now _ = now

-- something that is told was done at the moment behind a step
abbrev pub begun_behind : Bool → steps.Step → Bool
begun_behind begun (Clock at) = false
begun_behind begun (Send n from dst vlan ethertype payload) = true
begun_behind begun (Supervise n about) = true
begun_behind begun (Age n) = true
begun_behind begun (Put n port) = begun
begun_behind begun (Take l dir) = begun
begun_behind begun (Judge n port) = begun
begun_behind begun (Cut l) = true
begun_behind begun (Mend l) = true
begun_behind begun (Inject l dir octets) = true

-- ---- all

-- so it is with each of these orders, of which the first stands where this is due, at this moment
abbrev pub are_in_turn : List (List End) → Due → ℕ → Bool → List Order → Bool
are_in_turn links due now begun [] = true
are_in_turn links due now begun (Drain ∷ orders) = false
are_in_turn links due now begun (Step step ∷ orders) =
    (may_stand due step && is_first now begun step) && are_in_turn links (due_behind links step) (moment_behind now step) (begun_behind begun step) orders
