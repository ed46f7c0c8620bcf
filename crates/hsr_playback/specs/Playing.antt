-- All passages, played to the reference.
--     heard         a RedBox that knows stations from the start
--     taken_by      what a passage makes of a run
--     played        what all passages make of it, in the order of time
use Rattle.std.specs.Prelude.{ℕ, ◌+◌, ◌-◌, not, Bool, true, false, List, [], ◌∷◌, ◌++◌, slice_get, unwrap_or, Option, Some, None, option_and_then, option_map, Result, Ok, Err, if◌then◌else◌}
use Rattle.hsr_frame.specs.Address.{is_group}
use Rattle.hsr_frame.specs.Counters.{no_counts}
use Rattle.hsr_frame.specs.declared.counters.Counters.{Counters}
use Rattle.hsr_frame.specs.declared.node.Mode.{Mode}
use Rattle.hsr_node.specs.Step.{counters_of, new_node, node_step}
use Rattle.hsr_node.specs.declared.event.Event.{Event}
use Rattle.hsr_node.specs.declared.event.Outcome.{Outcome}
use Rattle.hsr_node.specs.declared.event.StepFault.{StepFault}
use Rattle.hsr_node.specs.declared.place.Place.{Place}
use Rattle.hsr_node.specs.declared.place.Place.TheVariants as place
use Rattle.hsr_node.specs.declared.role.Role.{Role}
use Rattle.hsr_node.specs.declared.role.Role.TheVariants as role
use Rattle.hsr_tap_device.specs.Device.{DeviceFields}
use Rattle.hsr_tap_device.specs.declared.device.End.{End}
use Rattle.hsr_tap_device.specs.declared.device.Numbers.{Numbers}
use Rattle.hsr_tap_device.specs.declared.device.Owner.{Owner}
use Rattle.hsr_playback.specs.Answers.{Machine, stepped}
use Rattle.hsr_playback.specs.Asked.{arrival, asked_by}
use Rattle.hsr_playback.specs.Letting.{From, copies_of, said_of}
use Rattle.hsr_playback.specs.Passages.{us}
use Rattle.hsr_playback.specs.declared.asked.Asked.{Asked}
use Rattle.hsr_playback.specs.declared.asked.Asked.TheVariants as asked
use Rattle.hsr_playback.specs.declared.expected.Expected.{Expected}
use Rattle.hsr_playback.specs.declared.passage.Passage.{Passage}
use Rattle.hsr_playback.specs.declared.playing.Answer.{Answer}
use Rattle.hsr_playback.specs.declared.playing.Said.{Said}
use Rattle.hsr_playback.specs.declared.playing.Said.TheVariants as said
use Rattle.hsr_playback.specs.declared.taken.Taken.{Taken}
use Rattle.hsr_playback.specs.declared.taps.Taps.{Taps}

-- ---- the start

-- where a device stands
abbrev pub place_by : Role → Option (List ℕ) → Mode → Option Place
place_by role.Danh own mode = option_map (λ mac. place.Danh mac mode) own
place_by role.RedBox own mode = option_map (λ mac. place.RedBox mac mode) own
place_by role.QuadBox own mode = Some place.QuadBox
place_by role.Station own mode = None

abbrev pub place_of : Owner → Option Place
place_of o = place_by o.role o.mac o.mode

-- no group has its address
abbrev pub has_own_address : Place → Bool
has_own_address (place.Danh mac mode) = not (is_group mac)
has_own_address (place.RedBox mac mode) = not (is_group mac)
has_own_address place.QuadBox = true
has_own_address (place.Station macs) = true

abbrev pub machine_at : (capacity : ℕ) → Numbers → Place → Option (Machine capacity)
machine_at capacity numbers p = if has_own_address p
    then Some (record { node = new_node capacity p; place = p; given = []; next = unwrap_or numbers.start 0; next_life = unwrap_or numbers.life_start 0 })
    else None

unfoldable pub new_machine : (capacity : ℕ) → Owner → Numbers → Option (Machine capacity)
new_machine capacity owner numbers = option_and_then (machine_at capacity numbers) (place_of owner)

-- the frame that a station sends to itself, which a RedBox hears and sends nowhere
abbrev pub station_octets : List ℕ → List ℕ
station_octets mac = mac ++ (mac ++ (136 ∷ 251 ∷ []))

abbrev pub heard_one : (capacity : ℕ) → Machine capacity → List ℕ → Machine capacity
heard_one capacity m mac = record m { node = (node_step capacity m.node 0 (arrival 2 (station_octets mac))).1 }

abbrev pub heard : (capacity : ℕ) → Machine capacity → List (List ℕ) → Machine capacity
heard capacity m [] = m
heard capacity m (mac ∷ macs) = heard capacity (heard_one capacity m mac) macs

-- ---- a run

pub record RunFields (capacity : ℕ) : Type 0 where
  pub reference : Machine capacity
  pub expected : List Expected
  pub answers : List Answer

-- the copies that are let out after an event
abbrev pub let_out : Taps → Place → From → Event → Result Outcome StepFault → List Expected
let_out taps p from event (Ok said) = copies_of taps p from event said
let_out taps p from event (Err fault) = []

abbrev pub answer_if : ℕ → Option Said → List Answer
answer_if index None = []
answer_if index (Some said) = record { passage = index; said = said } ∷ []

-- what is said of what came
abbrev pub answers_by : ℕ → Option End → Result Outcome StepFault → List Answer
answers_by index None r = []
answers_by index (Some end) r = answer_if index (said_of r)

abbrev pub stepped_by : {capacity : ℕ} → Taps → RunFields capacity → From → Event → Result Outcome StepFault → Machine capacity → RunFields capacity
stepped_by taps run from event r after = record {
  reference = after;
  expected = run.expected ++ let_out taps after.place from event r;
  answers = run.answers ++ answers_by from.index from.by r;
}

-- an event for which a passage asks
abbrev pub step_by : (capacity : ℕ) → Taps → RunFields capacity → From → Event → Taken → RunFields capacity
step_by capacity taps run from event taken =
    let after = stepped capacity run.reference (us from.passage.moment) event taken in stepped_by taps run from event after.0 after.1

abbrev pub came : ℕ → Passage → From
came index p = record { passage = p; index = index; by = Some p.end }

abbrev pub sent : ℕ → Passage → From
sent index p = record { passage = p; index = index; by = None }

-- what a passage asks is done
abbrev pub asked_of : (capacity : ℕ) → Taps → RunFields capacity → ℕ → Passage → Asked → Taken → RunFields capacity
asked_of capacity taps run index p asked.Nothing taken = run
asked_of capacity taps run index p (asked.Refused fault) taken = record run { answers = run.answers ++ answer_if index (Some (said.Refused fault)) }
asked_of capacity taps run index p (asked.Arrival event) taken = step_by capacity taps run (came index p) event taken
asked_of capacity taps run index p (asked.Handed event) taken = step_by capacity taps run (came index p) event taken
asked_of capacity taps run index p (asked.Own event) taken = step_by capacity taps run (sent index p) event taken

-- ---- all passages

abbrev pub begins_at : List Bool → ℕ → Bool
begins_at begins i = unwrap_or (slice_get begins i) false

abbrev pub taken_at : List Taken → ℕ → Taken
taken_at taken i = unwrap_or (slice_get taken i) (record { number = None; life = None })

-- a passage
abbrev pub played_one : (capacity : ℕ) → Taps → Option (List ℕ) → RunFields capacity → ℕ → Passage → Bool → Taken → RunFields capacity
played_one capacity taps own run i p begins taken = asked_of capacity taps run i p (asked_by own begins p) taken

-- from an index on
abbrev pub played_from : (capacity : ℕ) → Taps → Option (List ℕ) → List Bool → List Taken → RunFields capacity → ℕ → List Passage → RunFields capacity
played_from capacity taps own begins taken run i [] = run
played_from capacity taps own begins taken run i (p ∷ ps) =
    played_from capacity taps own begins taken (played_one capacity taps own run i p (begins_at begins i) (taken_at taken i)) (i + 1) ps

abbrev pub empty_run : (capacity : ℕ) → Machine capacity → RunFields capacity
empty_run capacity m = record { reference = m; expected = []; answers = [] }

abbrev pub first_run : (capacity : ℕ) → DeviceFields → Machine capacity → RunFields capacity
first_run capacity device m = empty_run capacity (heard capacity m device.stations)

-- the run of a device; none where it has no address that it can have
unfoldable pub first_if : (capacity : ℕ) → DeviceFields → Option (RunFields capacity)
first_if capacity device = option_map (first_run capacity device) (new_machine capacity device.owner device.numbers)

-- the counters don't count how the stations were heard
abbrev pub without : Counters → Counters → Counters
without counters heard = record counters { local = counters.local - heard.local }

pub record PlayedFields : Type 0 where
  pub expected : List Expected
  pub answers : List Answer
  pub counters : Counters

-- what came of a run, behind one that it began with
abbrev pub told_by : (capacity : ℕ) → RunFields capacity → RunFields capacity → PlayedFields
told_by capacity first run = record {
  expected = run.expected;
  answers = run.answers;
  counters = without (counters_of capacity run.reference.node) (counters_of capacity first.reference.node);
}

abbrev pub played_after : (capacity : ℕ) → DeviceFields → Taps → List Passage → List Bool → List Taken → RunFields capacity → PlayedFields
played_after capacity device taps passages begins taken first =
    told_by capacity first (played_from capacity taps device.owner.mac begins taken first 0 passages)

abbrev pub nothing_played : PlayedFields
nothing_played = record { expected = []; answers = []; counters = no_counts }

-- of a device that has an address that it can have
abbrev pub played_if : (capacity : ℕ) → DeviceFields → Taps → List Passage → List Bool → List Taken → Option (RunFields capacity) → PlayedFields
played_if capacity device taps passages begins taken None = nothing_played
played_if capacity device taps passages begins taken (Some first) = played_after capacity device taps passages begins taken first

-- what the reference answers to passages
unfoldable pub answers_to : (capacity : ℕ) → DeviceFields → Taps → List Passage → List Bool → List Taken → PlayedFields
answers_to capacity device taps passages begins taken =
    played_if capacity device taps passages begins taken (first_if capacity device)
