-- The spans of sends. A time is a number of steps that are done; a step at index i is done between the times i and i + 1.
--     moment_at     the world's moment at a time
--     is_cut_at     a link is cut at a time
--     ends_span     a step ends the span of a send
--     spans         the spans of all sends, in their order
--     is_open_at    copies of a send may be under way at a time
--     meets         each of two spans begins before the other ends
--     RisesLess     the clock rises by less than so much from a time of a span on
--     is_down       a link is down at some time of a span
use Rattle.std.specs.Prelude.{ℕ, ◌+◌, ◌-◌, ◌<◌, ◌≤◌, ◌==◌, ◌&&◌, ◌||◌, nat_lt, nat_le, Bool, true, false, if◌then◌else◌, List, [], ◌∷◌, ◌++◌, take, drop, Option, Some, None}
use Rattle.hsr_scenario.specs.declared.steps.Order.{Order}
use Rattle.hsr_scenario.specs.declared.steps.Order.TheVariants as order
use Rattle.hsr_world_steps.specs.declared.step.Step.TheVariants.{Clock, Cut, Mend}
use Rattle.hsr_plays.specs.Setup.{Setup, asked_by}
use Rattle.hsr_plays.specs.declared.span.Asked.{Asked}
use Rattle.hsr_plays.specs.declared.span.SendSpan.{SendSpan}

-- ---- at a time

abbrev pub moment_after : ℕ → Order → ℕ
moment_after moment (order.Step (Clock at)) = at
moment_after moment _ = moment

abbrev pub moment_behind : ℕ → List Order → ℕ
moment_behind moment [] = moment
moment_behind moment (order ∷ orders) = moment_behind (moment_after moment order) orders

-- the world's moment, which is 0 at first
abbrev pub moment_at : List Order → ℕ → ℕ
moment_at orders n = moment_behind 0 (take n orders)

abbrev pub cut_after : ℕ → Bool → Order → Bool
cut_after link was (order.Step (Cut l)) = (l == link) || was
cut_after link was (order.Step (Mend l)) = if l == link then false else was
cut_after link was _ = was

abbrev pub cut_behind : ℕ → Bool → List Order → Bool
cut_behind link was [] = was
cut_behind link was (order ∷ orders) = cut_behind link (cut_after link was order) orders

-- no link is cut at first
abbrev pub is_cut_at : List Order → ℕ → ℕ → Bool
is_cut_at orders n link = cut_behind link false (take n orders)

-- ---- spans

-- as much time has passed as a copy of a send lives at most, where that is told
abbrev pub is_passed : Option ℕ → ℕ → ℕ → Bool
is_passed None sent at = false
is_passed (Some limit) sent at = nat_le (sent + limit) at

-- a drain, or a clock step by which as much time has passed as a copy lives at most
abbrev pub ends_span : Option ℕ → ℕ → Order → Bool
ends_span within sent order.Drain = true
ends_span within sent (order.Step (Clock at)) = is_passed within sent at
ends_span within sent _ = false

-- the index of the step that ends the span of a send at a moment, among steps from this index on; or how many there are
abbrev pub end_from : Option ℕ → ℕ → ℕ → List Order → ℕ
end_from within sent index [] = index
end_from within sent index (order ∷ later) = if ends_span within sent order then index else end_from within sent (index + 1) later

abbrev pub span_if : Option ℕ → ℕ → ℕ → List Order → Option Asked → List SendSpan
span_if within moment index later None = []
span_if within moment index later (Some asked) = record { asked = asked; index = index; moment = moment; end = end_from within moment (index + 1) later } ∷ []

-- of the steps from an index on, with the moment at which they begin
abbrev pub spans_from : Option ℕ → ℕ → ℕ → List Order → List SendSpan
spans_from within moment index [] = []
spans_from within moment index (order ∷ later) =
    span_if within moment index later (asked_by order) ++ spans_from within (moment_after moment order) (index + 1) later

abbrev pub spans : Setup → List SendSpan
spans s = spans_from s.within 0 0 s.orders

-- ---- what is asked of spans

-- behind the send, and before the step that ends the span is done
abbrev pub is_open_at : ℕ → SendSpan → Bool
is_open_at n span = nat_lt span.index n && nat_le n span.end

abbrev pub meets : SendSpan → SendSpan → Bool
meets a b = nat_lt a.index b.end && nat_lt b.index a.end

-- Behind the first time and up to the end the moment at no time is so much below that at a later one, up to the last.
abbrev pub RisesLess : List Order → ℕ → ℕ → ℕ → ℕ → Type 0
RisesLess orders limit first end last =
    (j k : ℕ) → first < j → j ≤ end → j ≤ k → k ≤ last → moment_at orders k < moment_at orders j + limit

-- a link is cut before these steps, or behind one of them
abbrev pub is_down_in : ℕ → Bool → List Order → Bool
is_down_in link was [] = was
is_down_in link was (order ∷ orders) = was || is_down_in link (cut_after link was order) orders

-- the steps from the send on to the one that ends its span
abbrev pub steps_of : List Order → SendSpan → List Order
steps_of orders span = take (span.end - span.index) (drop span.index orders)

-- it is cut when the send is asked for, or at some time of its span
abbrev pub is_down : List Order → SendSpan → ℕ → Bool
is_down orders span link = is_down_in link (is_cut_at orders span.index link) (steps_of orders span)
