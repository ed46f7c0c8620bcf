-- When supervision and the frames of streams are sent.
use Rattle.std.specs.Prelude.{ℕ, zero, suc, ◌+◌, ◌-◌, ◌*◌, ◌/◌, ◌^◌, min, nat_lt, nat_le, ◌==◌, Bool, true, false, ⊤, List, [], ◌∷◌, ◌++◌, length, slice_get, Option, Some, None, Result, Ok, Err, if◌then◌else◌}
use Rattle.std.specs.List.{list_all}
use Rattle.hsr_node.specs.declared.place.Place.{Place}
use Rattle.hsr_node.specs.declared.place.Place.TheVariants.{Danh, RedBox, QuadBox, Station}
use Rattle.hsr_toml.specs.Fallible.{◌>>=◌, guard}
use Rattle.hsr_plan_text.specs.Plan.{Outline, Stream, Timing, per_second}
use Rattle.hsr_plan_text.specs.declared.fault.Key.TheVariants as key
use Rattle.hsr_plan_text.specs.declared.fault.What.{What}
use Rattle.hsr_plan_text.specs.declared.fault.What.TheVariants.{Refused}
use Rattle.hsr_plan_text.specs.declared.fault.Refusal.TheVariants.{Endless, TooLate, TooMany}
use Rattle.hsr_plan_text.specs.declared.plan.Pace.{Pace}
use Rattle.hsr_plan_text.specs.declared.plan.Pace.TheVariants.{Gaps, Samples}
use Rattle.hsr_plan_text.specs.declared.plan.SampleRate.{SampleRate}
use Rattle.hsr_plan_network.specs.Checks.{each_passes, unless_held}
use Rattle.hsr_plan_network.specs.Nodes.{Node}
use Rattle.hsr_plan_schedule.specs.Senders.{receives, sources, target}
use Rattle.hsr_plan_schedule.specs.declared.occasion.Happening.TheVariants.{Life, Send}
use Rattle.hsr_plan_schedule.specs.declared.occasion.Occasion.{Occasion}
use Rattle.hsr_plan_schedule.specs.declared.occasion.Sender.{Sender}
use Rattle.hsr_plan_schedule.specs.declared.occasion.Sent.{Sent}

-- ---- supervision

abbrev pub supervises : Place → Bool
supervises (Danh mac mode) = true
supervises (RedBox mac mode) = true
supervises QuadBox = false
supervises (Station macs) = false

abbrev pub life_of : Place → ℕ → ℕ → List Occasion
life_of place at k = if supervises place then record { at = at; what = Life k } ∷ [] else []

-- each DANH and each RedBox, of nodes that follow k others
abbrev pub lives_at : ℕ → ℕ → List Node → List Occasion
lives_at at k [] = []
lives_at at k (node ∷ nodes) = life_of node.place at k ++ lives_at at (k + 1) nodes

-- n rounds at most, from a moment on
unfoldable pub rounds : ℕ → ℕ → ℕ → ℕ → List Node → List Occasion
rounds zero at every until nodes = []
rounds (suc n) at every until nodes = if nat_lt at until then lives_at at 0 nodes ++ rounds n (at + every) every until nodes else []

-- at most 16384 rounds
abbrev pub lives_until : ℕ → Option ℕ → List Node → Result (List Occasion) What
lives_until every None nodes = Err (Refused (Endless key.Until))
lives_until every (Some until) nodes = guard (nat_le until (every * 16384)) (Refused (TooMany key.Life)) >>= λ _. Ok (rounds 16384 0 every until nodes)

abbrev pub lives : Outline → List Node → Result (List Occasion) What
lives outline nodes = if outline.life == 0 then Ok [] else lives_until outline.life outline.until nodes

-- ---- streams

-- the earlier of two moments
abbrev pub earlier : Option ℕ → Option ℕ → Option ℕ
earlier None b = b
earlier (Some a) None = Some a
earlier (Some a) (Some b) = Some (min a b)

abbrev pub end_if : Option ℕ → Option ℕ → Result ℕ What
end_if (Some until) count = Ok until
end_if None (Some count) = Ok (2 ^ 41)
end_if None None = Err (Refused (Endless key.Every))

-- where a stream ends: with itself or with the plan; one that has a count needs no end
abbrev pub end_of : Option ℕ → Timing → Result ℕ What
end_of until timing = end_if (earlier until timing.until) timing.count

-- how many are sent from a start on at most
abbrev pub most_sent : Option ℕ → ℕ
most_sent None = 2 ^ 20 + 1
most_sent (Some count) = min count (2 ^ 20 + 1)

abbrev pub first_gap : Pace → ℕ
first_gap (Gaps every grow most) = min every most
first_gap (Samples rate) = 0

-- the gap behind one
abbrev pub next_gap : Pace → ℕ → ℕ
next_gap (Gaps every grow most) gap = min (gap * grow) most
next_gap (Samples rate) gap = gap

-- how long n samples take, to the nearest microsecond; half of one counts as one
abbrev pub time_of : SampleRate → ℕ → ℕ
time_of rate n = (n * 1000000 + per_second rate / 2) / per_second rate

-- the moment of the k-th frame behind a start, where the one before it comes at a moment, with this gap behind it
abbrev pub moment : Timing → Pace → ℕ → ℕ → ℕ → ℕ → ℕ
moment timing (Gaps every grow most) start k at gap = at + gap
moment timing (Samples rate) start k at gap = start + time_of rate (k * timing.asdus)

-- frames of one sender from one start on, n at most: from the k-th, at a moment, with this gap to the next
unfoldable pub run : ℕ → ℕ → ℕ → ℕ → ℕ → Timing → ℕ → Sent → List Occasion
run zero k start at gap timing until sent = []
run (suc n) k start at gap timing until sent = if nat_lt at until
    then record { at = at; what = Send (record sent { count = k }) }
    ∷ run n (k + 1) start (moment timing timing.pace start (k + 1) at gap) (next_gap timing.pace gap) timing until sent
    else []

-- all of them
abbrev pub run_from : ℕ → Timing → ℕ → Sent → List Occasion
run_from start timing until sent = run (most_sent timing.count) 0 start start (first_gap timing.pace) timing until sent

-- a start ends the one before it
abbrev pub next_end : Option ℕ → ℕ → ℕ
next_end None until = until
next_end (Some start) until = min start until

-- frames of one sender, of starts that follow s others
abbrev pub runs : ℕ → List ℕ → Timing → ℕ → Sent → List Occasion
runs s [] timing until sent = []
runs s (start ∷ more) timing until sent =
    run_from start timing (next_end (slice_get timing.starts (s + 1)) until) (record sent { state = s })
    ++ runs (s + 1) more timing until sent

-- frames of senders that follow j others, of a stream with this number
abbrev pub sent_by : ℕ → ℕ → List Sender → Timing → ℕ → List ℕ → List Occasion
sent_by i j [] timing until dst = []
sent_by i j (s ∷ more) timing until dst =
    runs 0 timing.starts timing until (record { stream = i; index = j; sender = s; dst = dst; state = 0; count = 0 })
    ++ sent_by i (j + 1) more timing until dst

-- how much room is left after n, if there is as much
unfoldable pub left : ℕ → ℕ → Option ℕ
left room n = if nat_le n room then Some (room - n) else None

-- all these, if there is room for them
abbrev pub in_room : ℕ → List Occasion → Result (List Occasion) What
in_room room os = unless_held (nat_le (length os) room) (TooMany key.Stream) >>= λ _. Ok os

-- each start comes before the end
abbrev pub starts_in_time : ℕ → List ℕ → Result ⊤ What
starts_in_time until starts = unless_held (list_all (λ start. nat_lt start until) starts) (TooLate key.Start)

-- all frames of a stream, if there is room for them
abbrev pub sends : List Node → Option ℕ → ℕ → ℕ → Stream → Result (List Occasion) What
sends nodes until room i stream = target nodes stream.framing.target >>= λ dst. sources nodes dst [] stream.from
    >>= λ senders. each_passes (receives nodes senders dst) stream.receivers >>= λ _. end_of until stream.timing
    >>= λ until. starts_in_time until stream.timing.starts >>= λ _. in_room room (sent_by i 0 senders stream.timing until dst)
