-- What orders send, one after another, and from which streams.
--     OfSends        something holds of what each order sends
--     of_sends_at    it holds of what the order at a step sends
--     of_sends_coarse   moves of copies send nothing
--     IsLed          it holds of what orders send, which lead to a moment, and send as many frames as there are streams
use Rattle.std.proofs.Common.{ℕ, zero, suc, ◌≡◌, ◌+◌, not, List, [], ◌∷◌, ◌++◌, length, take, drop, filter, count_by, slice_get, Option, Some, IfSome, cond, refl, sym, ap, subst, ◌∙◌, arith}
use Rattle.std.proofs.lemmas.List.Sums.{sum_by-cons}
use Rattle.hsr_scenario.specs.declared.steps.Order.{Order}
use Rattle.hsr_scenario.specs.declared.steps.Order.TheVariants as order
use Rattle.hsr_world_steps.specs.declared.step.Step.TheVariants.{Clock, Send, Supervise, Age, Put, Take, Judge, Cut, Mend, Inject}
use Rattle.hsr_plays.specs.Conditions.{is_fine}
use Rattle.hsr_plays.specs.Spans.{moment_after, moment_behind}
use Rattle.hsr_plan_certify.specs.Origins.{is_frame, origin_by, origin_if}
use Rattle.hsr_plan_certify.specs.declared.origin.Origin.{Origin}

-- the streams of the frames behind an order
abbrev pub streams_behind : Order → List ℕ → List ℕ
streams_behind (order.Step (Send node from dst vlan ethertype payload)) streams = drop 1 streams
streams_behind order streams = streams

-- of orders that begin at a moment, with the streams of their frames
abbrev pub OfSends : (Origin → Type 0) → ℕ → List ℕ → List Order → Type 0
OfSends P at streams [] = Unit {0}
OfSends P at streams (o ∷ orders) = IfSome (origin_by at o (slice_get streams 0)) P × OfSends P (moment_after at o) (streams_behind o streams) orders

-- where the order at a step comes from
abbrev pub origin_from : ℕ → List ℕ → List Order → ℕ → Option Origin
origin_from at streams orders i = origin_if (moment_behind at (take i orders)) (slice_get orders i) (slice_get streams (count_by is_frame (take i orders)))

-- ---- frames

-- a list that begins with a frame has one more
one_more : (node from : ℕ) (dst : List ℕ) (vlan : Option ℕ) (ethertype : ℕ) (payload : List ℕ) (orders : List Order) →
    count_by is_frame (order.Step (Send node from dst vlan ethertype payload) ∷ orders) ≡ count_by is_frame orders + 1
one_more node from dst vlan ethertype payload orders =
    omega (arith, sum_by-cons (λ o. cond (is_frame o) 1 0) (order.Step (Send node from dst vlan ethertype payload)) orders)

-- what stands one place further on, behind one more
behind_one : (s : ℕ) (ss : List ℕ) (n k : ℕ) → n ≡ k + 1 → slice_get (s ∷ ss) n ≡ slice_get ss k
behind_one s ss n k e = grind (arith, e)

not_none : (n k : ℕ) → n ≡ k + 1 → n ≡ 0 → ⊥
not_none n k e is = omega (arith, e, is)

-- ---- at a step

module _ (P : Origin → Type 0) where
  at_first : (at : ℕ) (s : Option ℕ) (o : Order) (origin : Origin) → IfSome (origin_by at o s) P → origin_by at o s ≡ Some origin → P origin
  at_first at s o origin holds is = let Q : Option Origin → Type 0 = λ r. IfSome r P in subst Q is holds

  -- the step behind the first, among all
  behind_first : (at : ℕ) (streams : List ℕ) (o : Order) (orders : List Order) (i : ℕ) →
      origin_from at streams (o ∷ orders) (suc i) ≡ origin_from (moment_after at o) (streams_behind o streams) orders i
  behind_first at [] (order.Step (Send node from dst vlan ethertype payload)) orders i = refl
  behind_first at (s ∷ ss) (order.Step (Send node from dst vlan ethertype payload)) orders i =
      ap (λ stream. origin_if (moment_behind at (take i orders)) (slice_get orders i) stream)
      (behind_one s ss _ (count_by is_frame (take i orders)) (one_more node from dst vlan ethertype payload (take i orders)))
  behind_first at streams (order.Step (Clock now)) orders i = refl
  behind_first at streams (order.Step (Supervise node about)) orders i = refl
  behind_first at streams (order.Step (Age node)) orders i = refl
  behind_first at streams (order.Step (Put node port)) orders i = refl
  behind_first at streams (order.Step (Take link dir)) orders i = refl
  behind_first at streams (order.Step (Judge node port)) orders i = refl
  behind_first at streams (order.Step (Cut link)) orders i = refl
  behind_first at streams (order.Step (Mend link)) orders i = refl
  behind_first at streams (order.Step (Inject link dir octets)) orders i = refl
  behind_first at streams order.Drain orders i = refl

  pub of_sends_at : (at : ℕ) (streams : List ℕ) (orders : List Order) (i : ℕ) (origin : Origin) → OfSends P at streams orders → origin_from at streams orders i ≡ Some origin → P origin
  of_sends_at at streams [] i origin all is = absurd cc
  of_sends_at at streams (o ∷ orders) zero origin (first, rest) is = at_first at (slice_get streams 0) o origin first is
  of_sends_at at streams (o ∷ orders) (suc i) origin (first, rest) is =
      of_sends_at (moment_after at o) (streams_behind o streams) orders i origin rest (sym (behind_first at streams o orders i) ∙ is)

  -- ---- moves left out

  pub of_sends_coarse : (at : ℕ) (streams : List ℕ) (orders : List Order) → OfSends P at streams orders → OfSends P at streams (filter (λ o. not (is_fine o)) orders)
  of_sends_coarse at streams [] all = all
  of_sends_coarse at streams (order.Step (Clock now) ∷ orders) (first, rest) = (first, of_sends_coarse now streams orders rest)
  of_sends_coarse at streams (order.Step (Send node from dst vlan ethertype payload) ∷ orders) (first, rest) = (first, of_sends_coarse at (drop 1 streams) orders rest)
  of_sends_coarse at streams (order.Step (Supervise node about) ∷ orders) (first, rest) = (first, of_sends_coarse at streams orders rest)
  of_sends_coarse at streams (order.Step (Age node) ∷ orders) (first, rest) = (first, of_sends_coarse at streams orders rest)
  of_sends_coarse at streams (order.Step (Put node port) ∷ orders) (first, rest) = of_sends_coarse at streams orders rest
  of_sends_coarse at streams (order.Step (Take link dir) ∷ orders) (first, rest) = of_sends_coarse at streams orders rest
  of_sends_coarse at streams (order.Step (Judge node port) ∷ orders) (first, rest) = of_sends_coarse at streams orders rest
  of_sends_coarse at streams (order.Step (Cut link) ∷ orders) (first, rest) = (first, of_sends_coarse at streams orders rest)
  of_sends_coarse at streams (order.Step (Mend link) ∷ orders) (first, rest) = (first, of_sends_coarse at streams orders rest)
  of_sends_coarse at streams (order.Step (Inject link dir octets) ∷ orders) (first, rest) = of_sends_coarse at streams orders rest
  of_sends_coarse at streams (order.Drain ∷ orders) (first, rest) = (first, of_sends_coarse at streams orders rest)

  -- ---- one after another

  -- of orders, and then of others
  pub of_sends_append : (at : ℕ) (streams more : List ℕ) (orders others : List Order) → count_by is_frame orders ≡ length streams →
      OfSends P at streams orders → OfSends P (moment_behind at orders) more others → OfSends P at (streams ++ more) (orders ++ others)
  of_sends_append at [] more [] others count all then = then
  of_sends_append at (s ∷ ss) more [] others count all then = absurd cc
  of_sends_append at [] more (order.Step (Send node from dst vlan ethertype payload) ∷ orders) others count all then =
      absurd (not_none _ (count_by is_frame orders) (one_more node from dst vlan ethertype payload orders) count)
  of_sends_append at (s ∷ ss) more (order.Step (Send node from dst vlan ethertype payload) ∷ orders) others count (first, rest) then =
      (first, of_sends_append at ss more orders others (omega (arith, count, one_more node from dst vlan ethertype payload orders)) rest then)
  of_sends_append at streams more (order.Step (Clock now) ∷ orders) others count (first, rest) then = (first, of_sends_append now streams more orders others count rest then)
  of_sends_append at streams more (order.Step (Supervise node about) ∷ orders) others count (first, rest) then = (first, of_sends_append at streams more orders others count rest then)
  of_sends_append at streams more (order.Step (Age node) ∷ orders) others count (first, rest) then = (first, of_sends_append at streams more orders others count rest then)
  of_sends_append at streams more (order.Step (Put node port) ∷ orders) others count (first, rest) then = (first, of_sends_append at streams more orders others count rest then)
  of_sends_append at streams more (order.Step (Take link dir) ∷ orders) others count (first, rest) then = (first, of_sends_append at streams more orders others count rest then)
  of_sends_append at streams more (order.Step (Judge node port) ∷ orders) others count (first, rest) then = (first, of_sends_append at streams more orders others count rest then)
  of_sends_append at streams more (order.Step (Cut link) ∷ orders) others count (first, rest) then = (first, of_sends_append at streams more orders others count rest then)
  of_sends_append at streams more (order.Step (Mend link) ∷ orders) others count (first, rest) then = (first, of_sends_append at streams more orders others count rest then)
  of_sends_append at streams more (order.Step (Inject link dir octets) ∷ orders) others count (first, rest) then = (first, of_sends_append at streams more orders others count rest then)
  of_sends_append at streams more (order.Drain ∷ orders) others count (first, rest) then = (first, of_sends_append at streams more orders others count rest then)
