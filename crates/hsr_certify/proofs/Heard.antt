-- A RedBox surely knows an address just where the test says so, and so a step is accepted.
use Rattle.std.proofs.Common.{◌≡◌, ℕ, ◌<◌, ◌≤◌, ◌==◌, nat_lt, nat_le, ◌||◌, not, Bool, true, false, if◌then◌else◌, List, [], ◌∷◌, length, Option, Some, None, refl, sym, ap, ◌∙◌, subst, arith, zero, suc, eqb-true, eq-eqb, ltb-true, lt-ltb, leb-true, le-leb, ⊎_elim}
use Rattle.std.specs.Prelude.{slice_get, slice_index_or}
use Rattle.std.specs.List.{AllByRecursion, list_any}
use Rattle.std.proofs.lemmas.List.Elements.{recursion_from_All}
use Rattle.std.proofs.lemmas.Bool.{and_parts, and_from, false≢true, or_cases, or_left, or_right, not-true}
use Rattle.hsr_frame.specs.declared.node.About.{About}
use Rattle.hsr_frame.specs.declared.node.About.TheVariants.{Own, Proxied}
use Rattle.hsr_link.specs.declared.row.Dir.{Dir}
use Rattle.hsr_link.specs.declared.row.Dir.TheVariants.{Forth, Back}
use Rattle.hsr_node.specs.Copies.{address_at}
use Rattle.hsr_node.specs.declared.place.Place.{Place}
use Rattle.hsr_node.specs.declared.place.Place.TheVariants.{Danh, RedBox, QuadBox, Station}
use Rattle.hsr_topology.proofs.Back.{back_of_wired}
use Rattle.hsr_topology.proofs.Ends.{end_is}
use Rattle.hsr_topology.proofs.Lookup.{is_link_of}
use Rattle.hsr_topology.specs.Links.{is_first_in, is_same_end, link_from}
use Rattle.hsr_topology.specs.Wired.{EndsLeadBack, IsJoin, IsWired}
use Rattle.hsr_topology.specs.declared.end.End.{End}
use Rattle.hsr_run_laws.proofs.Same.{address_same, same_address}
use Rattle.hsr_run_laws.specs.Run.{place_of, to_end}
use Rattle.hsr_network_laws.specs.Network.{Channel, start_of}
use Rattle.hsr_scenario.specs.declared.steps.Order.{Order}
use Rattle.hsr_scenario.specs.declared.steps.Order.TheVariants as order
use Rattle.hsr_world_steps.specs.declared.step.Step.{Step}
use Rattle.hsr_world_steps.specs.declared.step.Step.TheVariants.{Clock, Send, Supervise, Age, Put, Take, Judge, Cut, Mend, Inject}
use Rattle.hsr_plays.specs.Conditions.{IsAccepted, IsAcceptedStep, IsHeard, Speaks}
use Rattle.hsr_plays.specs.Setup.{Setup, net_of}
use Rattle.hsr_plays.specs.Spans.{is_down, spans}
use Rattle.hsr_certify.specs.Tests.{channel_to, interlink_of, is_accepted, is_accepted_step, is_from, is_heard, is_heard_at, is_heard_by, speaks, was_lately}
use Rattle.hsr_plays.proofs.Asking.{is_placed}
use Rattle.hsr_certify.proofs.Lately.{lately_so, so_lately}

-- ---- one of a list

record IsSomewhere {X : Type 0} (p : X → Bool) (xs : List X) : Type 0 where
  i : ℕ
  x : X
  got : slice_get xs i ≡ Some x
  is : p x ≡ true

somewhere : {X : Type 0} (p : X → Bool) (xs : List X) → list_any p xs ≡ true → IsSomewhere p xs
somewhere p [] h = absurd (false≢true h)
somewhere p (x ∷ xs) h =
    ⊎_elim (λ here. record { i = zero; x = x; got = refl; is = here })
    (λ later. let at = somewhere p xs later in record { i = suc at.i; x = at.x; got = at.got; is = at.is })
    (or_cases (p x) (list_any p xs) h)

any_at : {X : Type 0} (p : X → Bool) (xs : List X) (i : ℕ) (x : X) → slice_get xs i ≡ Some x → p x ≡ true → list_any p xs ≡ true
any_at p [] i x got is = absurd cc
any_at p (y ∷ xs) zero x got is =
    let same : y ≡ x = let e : Some y ≡ Some x = got in cc in
    or_left (p y) (list_any p xs) (ap p same ∙ is)
any_at p (y ∷ xs) (suc i) x got is = or_right (p y) (list_any p xs) (any_at p xs i x got is)

-- ---- addresses

from_so : (own : Option (List ℕ)) (mac : List ℕ) → is_from own mac ≡ true → own ≡ Some mac
from_so None mac h = absurd (false≢true h)
from_so (Some own) mac h = ap (λ (m : List ℕ). Some m) (same_address own mac h)

so_from : (own : Option (List ℕ)) (mac : List ℕ) → own ≡ Some mac → is_from own mac ≡ true
so_from own mac h = ap (λ o. is_from o mac) h ∙ address_same mac mac refl

-- ---- the channel to an interlink

-- the end that is found is where the channel stops
stops : (end : End) (ends : List End) (first : Bool) → length ends ≡ 2 → is_first_in end ends ≡ Some first →
    to_end (if first then Back else Forth) ends ≡ end
stops end [] first two is = absurd (omega (arith, two))
stops end (a ∷ []) first two is = absurd (omega (arith, two))
stops end (a ∷ b ∷ c ∷ more) first two is = absurd (omega (arith, two))
stops end (a ∷ b ∷ []) first two is = by_first (is_same_end end a) refl is
  where
    by_second : (t : Bool) → (is_same_end end b || false) ≡ t → (if t then Some false else None) ≡ Some first → to_end (if first then Back else Forth) (a ∷ b ∷ []) ≡ end
    by_second false e h = absurd cc
    by_second true e h =
        let same : false ≡ first = cc in
        let is_b = ⊎_elim (λ yes. yes) (λ no. absurd (false≢true no)) (or_cases (is_same_end end b) false e) in
        ap (λ t. to_end (if t then Back else Forth) (a ∷ b ∷ [])) (sym same) ∙ sym (end_is end b is_b)

    by_first : (t : Bool) → is_same_end end a ≡ t → (if t then Some true else (if is_same_end end b || false then Some false else None)) ≡ Some first →
        to_end (if first then Back else Forth) (a ∷ b ∷ []) ≡ end
    by_first true e h =
        let same : true ≡ first = cc in
        ap (λ t. to_end (if t then Back else Forth) (a ∷ b ∷ [])) (sym same) ∙ sym (end_is end a e)
    by_first false e h = by_second (is_same_end end b || false) refl h

-- the two ends of a link that joins
record HasTwo (ends : List End) : Type 0 where
  a : End
  b : End
  is : ends ≡ a ∷ b ∷ []

two_ends : (places : List Place) (link : List End) → IsJoin places link → HasTwo link
two_ends places [] h = elim h [ ]
two_ends places (a ∷ []) h = elim h [ ]
two_ends places (a ∷ b ∷ []) h = record { a = a; b = b; is = refl }
two_ends places (a ∷ b ∷ c ∷ ends) h = elim h [ ]

two_at : (places : List Place) (links : List (List End)) → AllByRecursion (IsJoin places) links → (l : ℕ) → l < length links → HasTwo (slice_index_or links l [])
two_at places [] joins l below = absurd (omega (arith, below))
two_at places (link ∷ links) joins zero below = two_ends places link joins.0
two_at places (link ∷ links) joins (suc l) below = two_at places links joins.1 l (omega (arith, below))

-- ---- heard

module _ (s : Setup) (wired : IsWired s.places s.links) (i : ℕ) (there : i ≤ length s.orders) where
  two : (l : ℕ) → l < length s.links → HasTwo (slice_index_or s.links l [])
  two l below = two_at s.places s.links (recursion_from_All (IsJoin s.places) s.links wired.joined) l below

  heard_so : (node : ℕ) (mac : List ℕ) → is_heard (net_of s) s.orders (spans s) i node mac ≡ true → IsHeard s i node mac
  heard_so node mac h = by_link (link_from 0 s.links (interlink_of node)) refl h
    where
      by_link : (o : Option (ℕ × Bool)) → link_from 0 s.links (interlink_of node) ≡ o → is_heard_at (net_of s) s.orders (spans s) i mac o ≡ true → IsHeard s i node mac
      by_link None e h = absurd (false≢true h)
      by_link (Some at) e h =
          let found = somewhere (is_heard_by (net_of s) s.orders i mac (channel_to at)) (spans s) h in
          let link = is_link_of s.links (interlink_of node) at e in
          let ends = two at.0 link.below in
          let one = and_parts (found.x.asked.node == (start_of (net_of s) (channel_to at)).node) _ found.is in
          let second = and_parts (is_from (address_at (place_of (net_of s) found.x.asked.node) found.x.asked.from) mac) _ one.1 in
          let third = and_parts (nat_le found.x.end i) _ second.1 in
          let fourth = and_parts (was_lately s.orders i found.x) (not (is_down s.orders found.x at.0)) third.1 in
          let ended = leb-true found.x.end i third.0 in
          record {
            at = found.i;
            span = found.x;
            listed = found.got;
            channel = channel_to at;
            below = link.below;
            comes = stops (interlink_of node) (slice_index_or s.links at.0 []) at.1 (ap length ends.is) (link.side []);
            sender = sym (eqb-true found.x.asked.node (start_of (net_of s) (channel_to at)).node one.0);
            address = from_so (address_at (place_of (net_of s) found.x.asked.node) found.x.asked.from) mac second.0;
            ended = ended;
            up = not-true (is_down s.orders found.x at.0) fourth.1;
            lately = lately_so s.orders found.x (is_placed s.within s.orders found.i found.x found.got) i ended there fourth.0;
          }

  so_heard : (node : ℕ) (mac : List ℕ) → IsHeard s i node mac → is_heard (net_of s) s.orders (spans s) i node mac ≡ true
  so_heard node mac h =
      let ends = two h.channel.link h.below in
      by_dir h.channel.dir refl ends.a ends.b ends.is
    where
      lead : EndsLeadBack s.links
      lead = back_of_wired s.places s.links wired

      heard_over : (at : ℕ × Bool) → channel_to at ≡ h.channel → link_from 0 s.links (interlink_of node) ≡ Some at → is_heard (net_of s) s.orders (spans s) i node mac ≡ true
      heard_over at same found =
          ap (λ o. is_heard_at (net_of s) s.orders (spans s) i mac o) found
          ∙ any_at (is_heard_by (net_of s) s.orders i mac (channel_to at)) (spans s) h.at h.span h.listed
          (subst (λ (c : Channel). is_heard_by (net_of s) s.orders i mac c h.span ≡ true) (sym same)
          (and_from _ _ (eq-eqb h.span.asked.node (start_of (net_of s) h.channel).node (sym h.sender))
          (and_from _ _ (so_from (address_at (place_of (net_of s) h.span.asked.node) h.span.asked.from) mac h.address)
          (and_from _ _ (le-leb h.span.end i h.ended)
          (and_from _ _ (so_lately s.orders h.span (is_placed s.within s.orders h.at h.span h.listed) i h.ended there h.lately) (ap not h.up))))))

      by_dir : (dir : Dir) → h.channel.dir ≡ dir → (a b : End) → slice_index_or s.links h.channel.link [] ≡ a ∷ b ∷ [] → is_heard (net_of s) s.orders (spans s) i node mac ≡ true
      by_dir Forth e a b ends =
          let at_b : b ≡ interlink_of node = sym (ap (λ xs. to_end Forth xs) ends) ∙ (ap (λ d. to_end d (slice_index_or s.links h.channel.link [])) (sym e) ∙ h.comes) in
          heard_over (h.channel.link, false) (λ j. record { link = h.channel.link; dir = sym e j }) (ap (link_from 0 s.links) (sym at_b) ∙ (lead h.channel.link [] a b h.below ends).1)
      by_dir Back e a b ends =
          let at_a : a ≡ interlink_of node = sym (ap (λ xs. to_end Back xs) ends) ∙ (ap (λ d. to_end d (slice_index_or s.links h.channel.link [])) (sym e) ∙ h.comes) in
          heard_over (h.channel.link, true) (λ j. record { link = h.channel.link; dir = sym e j }) (ap (link_from 0 s.links) (sym at_a) ∙ (lead h.channel.link [] a b h.below ends).0)

  -- ---- accepted

  speaks_so : (node : ℕ) (place : Place) (about : About) → speaks (net_of s) s.orders (spans s) i node place about ≡ true → Speaks s i node place about
  speaks_so node (Danh mac mode) Own h = tt
  speaks_so node (Danh mac mode) (Proxied station) h = absurd (false≢true h)
  speaks_so node (RedBox mac mode) Own h = tt
  speaks_so node (RedBox mac mode) (Proxied station) h = heard_so node station h
  speaks_so node QuadBox about h = absurd (false≢true h)
  speaks_so node (Station macs) about h = absurd (false≢true h)

  so_speaks : (node : ℕ) (place : Place) (about : About) → Speaks s i node place about → speaks (net_of s) s.orders (spans s) i node place about ≡ true
  so_speaks node (Danh mac mode) Own h = refl
  so_speaks node (Danh mac mode) (Proxied station) h = absurd h
  so_speaks node (RedBox mac mode) Own h = refl
  so_speaks node (RedBox mac mode) (Proxied station) h = so_heard node station h
  so_speaks node QuadBox about h = absurd h
  so_speaks node (Station macs) about h = absurd h

  step_so : (step : Step) → is_accepted_step (net_of s) s.orders (spans s) i step ≡ true → IsAcceptedStep s i step
  step_so (Clock at) h = tt
  step_so (Send node from dst vlan ethertype payload) h = let parts = and_parts (nat_lt node (length s.places)) _ h in (ltb-true node (length s.places) parts.0, parts.1)
  step_so (Supervise node about) h = let parts = and_parts (nat_lt node (length s.places)) _ h in (ltb-true node (length s.places) parts.0, speaks_so node (place_of (net_of s) node) about parts.1)
  step_so (Age node) h = ltb-true node (length s.places) h
  step_so (Put node port) h = tt
  step_so (Take link dir) h = tt
  step_so (Judge node port) h = tt
  step_so (Cut link) h = ltb-true link (length s.links) h
  step_so (Mend link) h = ltb-true link (length s.links) h
  step_so (Inject link dir octets) h = tt

  so_step : (step : Step) → IsAcceptedStep s i step → is_accepted_step (net_of s) s.orders (spans s) i step ≡ true
  so_step (Clock at) h = refl
  so_step (Send node from dst vlan ethertype payload) h = and_from _ _ (lt-ltb node (length s.places) h.0) h.1
  so_step (Supervise node about) h = and_from _ _ (lt-ltb node (length s.places) h.0) (so_speaks node (place_of (net_of s) node) about h.1)
  so_step (Age node) h = lt-ltb node (length s.places) h
  so_step (Put node port) h = refl
  so_step (Take link dir) h = refl
  so_step (Judge node port) h = refl
  so_step (Cut link) h = lt-ltb link (length s.links) h
  so_step (Mend link) h = lt-ltb link (length s.links) h
  so_step (Inject link dir octets) h = refl

  pub accepted_so : (o : Order) → is_accepted (net_of s) s.orders (spans s) i o ≡ true → IsAccepted s i o
  accepted_so (order.Step step) h = step_so step h
  accepted_so order.Drain h = tt

  pub so_accepted : (o : Order) → IsAccepted s i o → is_accepted (net_of s) s.orders (spans s) i o ≡ true
  so_accepted (order.Step step) h = so_step step h
  so_accepted order.Drain h = refl
