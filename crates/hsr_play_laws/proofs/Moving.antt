-- What is told of a world of a play stays told: behind a move, behind a step of the scenario and behind a drain.
use Rattle.std.proofs.Common.{◌≡◌, ◌⊎◌, inl, inr, ℕ, ◌+◌, ◌<◌, ◌≤◌, ◌==◌, ◌||◌, not, Bool, true, false, cond, if◌then◌else◌, List, [], ◌∷◌, ◌++◌, length, take, count_by, Option, Some, None, Result, Ok, refl, sym, ap, ◌∙◌, subst, arith, ⊎_elim, zero, suc, eq-eqb, eqb-true, ne_eqb, leb-true}
use Rattle.std.specs.Prelude.{nat_le, slice_get, is_some}
use Rattle.std.specs.List.{AllByRecursion, list_any}
use Rattle.std.proofs.lemmas.Bool.{cases_Bool, false_from_ne_true, false≢true, or_parts}
use Rattle.std.proofs.lemmas.List.Elements.{recursion_from_All}
use Rattle.hsr_frame.specs.Address.{supervision_address}
use Rattle.hsr_frame.specs.Layout.{ethertype_supervision}
use Rattle.hsr_node.specs.declared.entry.Entry.{Entry}
use Rattle.hsr_node.specs.declared.event.Carried.{Carried}
use Rattle.hsr_node.specs.declared.event.Event.{Event}
use Rattle.hsr_node.specs.declared.event.Event.TheVariants as event
use Rattle.hsr_node.specs.declared.event.Probe.{Probe}
use Rattle.hsr_topology.specs.declared.end.End.{End}
use Rattle.hsr_run_laws.specs.Once.{is_copy}
use Rattle.hsr_run_laws.specs.Run.{is_of}
use Rattle.hsr_run_laws.proofs.Same.{is_of_itself}
use Rattle.hsr_run_laws.proofs.Lists.{count_more, one_if, zero_if}
use Rattle.hsr_scenario.specs.declared.steps.Order.{Order}
use Rattle.hsr_scenario.specs.declared.steps.Order.TheVariants as order
use Rattle.hsr_world_laws.specs.Closing.{IsOwn, IsQuiet, is_busy, is_busy_lane}
use Rattle.hsr_world_laws.specs.Fit.{FitsStep}
use Rattle.hsr_world_laws.specs.Origin.{is_injected}
use Rattle.hsr_world_laws.specs.Reached.{IsReached}
use Rattle.hsr_world_laws.specs.Spans.{Span, held_in, lanes_of}
use Rattle.hsr_world_laws.specs.World.{World, or_same, record_at, run, span_at, tried}
use Rattle.hsr_world_laws.proofs.FitFrames.{fit_last, frames_reached}
use Rattle.hsr_world_steps.specs.declared.step.Step.{Step}
use Rattle.hsr_world_steps.specs.declared.step.Step.TheVariants.{Clock, Send, Supervise, Age, Put, Take, Judge, Cut, Mend, Inject}
use Rattle.hsr_plays.specs.Conditions.{IsClear, is_fine}
use Rattle.hsr_plays.specs.Law.{IsSpanOf, is_main, is_planned_for, mains_below}
use Rattle.hsr_plays.specs.Plays.{IsTimely, given_moment, sent_moment, under_way}
use Rattle.hsr_plays.specs.Setup.{FitsOrder, IsSetup, Setup, asked_by, is_move}
use Rattle.hsr_plays.specs.Spans.{cut_after, ends_span, is_cut_at, is_down, is_open_at, is_passed, moment_after, moment_at, moment_behind, spans}
use Rattle.hsr_plays.specs.declared.span.Asked.{Asked}
use Rattle.hsr_plays.specs.declared.span.SendSpan.{SendSpan}
use Rattle.hsr_plays.proofs.Asking.{asked_at}
use Rattle.hsr_plays.proofs.Open.{open_parts, opened, still_open}
use Rattle.hsr_plays.proofs.Times.{next_moment}
use Rattle.hsr_under_way.specs.StepsOn.{HasEntered, IsEventOf, IsSentBy, IsStepOn, Overruns, is_injecting, is_lost_on, is_under_way, has_overrun, moves_in}
use Rattle.hsr_under_way.proofs.Kept.{held_any}
use Rattle.hsr_under_way.proofs.StepsOn.{steps_on}
use Rattle.hsr_play_laws.specs.Told.{IsAt, IsOpenCopy, IsOpenSend, IsSentAt, IsTold, Timed, event_asks, is_main_at}
use Rattle.hsr_play_laws.proofs.Down.{down_at, next_cut}
use Rattle.hsr_play_laws.proofs.Listed.{span_listed}
use Rattle.hsr_play_laws.proofs.Mains.{count_next, given_here, main_here, mains_all, mains_stay}
use Rattle.hsr_play_laws.proofs.OneSpan.{asked_planned}
use Rattle.hsr_play_laws.proofs.Worlds.{links_are, sound}
use Rattle.hsr_play_laws.proofs.Room.{no_overrun}
use Rattle.hsr_play_laws.proofs.Stays.{Grows, each_copy, main_kept, of_copy, open_kept, open_now, span_kept, timed_kept}

-- ---- one step more from the first world on

run_more : (capacity : ℕ) (steps : List Step) (step : Step) (w : World) → run capacity (steps ++ step ∷ []) w ≡ or_same (run capacity steps w) (tried capacity (run capacity steps w) step)
run_more capacity [] step w = refl
run_more capacity (first ∷ steps) step w = run_more capacity steps step (or_same w (tried capacity w first))

own_after : (s : Setup) (w after : World) (step : Step) → IsOwn s.capacity s.places s.links w → FitsStep step → tried s.capacity w step ≡ Ok after → is_injected after.spans ≡ false →
    IsOwn s.capacity s.places s.links after
own_after s w after step own fits done clean =
    let r = own.reached in
    let all = fit_last r.steps step r.fit_steps fits in
    let reached : IsReached s.capacity s.places s.links after = record {
      room = r.room;
      steps = r.steps ++ step ∷ [];
      is = run_more s.capacity r.steps step _ ∙ (ap (λ (v : World). or_same v (tried s.capacity v step)) r.is ∙ ap (or_same w) done);
      fit_places = r.fit_places;
      fit_steps = all;
    } in
    record { wired = own.wired; reached = reached; frames = frames_reached s.capacity s.places s.links after reached r.fit_places all; own = clean }

-- ---- what moves don't do

pub record IsMove (w : World) (step : Step) : Type 0 where
  pub not_injecting : is_injecting step ≡ false
  pub fits : FitsStep step
  pub moment : (m : ℕ) → moment_after m (order.Step step) ≡ m
  pub cut : (l : ℕ) (b : Bool) → cut_after l b (order.Step step) ≡ b
  pub not_sent : (send : Probe) → IsSentBy w step send → ⊥

pub of_move : (w : World) (step : Step) → is_move step ≡ true → IsMove w step
of_move w (Clock at) is = absurd (false≢true is)
of_move w (Send n from dst vlan ethertype payload) is = absurd (false≢true is)
of_move w (Supervise n about) is = absurd (false≢true is)
of_move w (Age n) is = absurd (false≢true is)
of_move w (Put n port) is = record { not_injecting = refl; fits = tt; moment = λ m. refl; cut = λ l b. refl; not_sent = λ send h. h }
of_move w (Take l dir) is = record { not_injecting = refl; fits = tt; moment = λ m. refl; cut = λ l b. refl; not_sent = λ send h. h }
of_move w (Judge n port) is = record { not_injecting = refl; fits = tt; moment = λ m. refl; cut = λ l b. refl; not_sent = λ send h. h }
of_move w (Cut l) is = absurd (false≢true is)
of_move w (Mend l) is = absurd (false≢true is)
of_move w (Inject l dir octets) is = absurd (false≢true is)

-- what a move brings to a node came to a port, and was held there
record IsHeldEvent (w : World) (x : Entry) : Type 0 where
  end : End
  copy : Carried
  is : x.event ≡ event.Arrive end.port copy
  held : held_in end (lanes_of w.spans) ≡ Some copy
  not_main : is_main x ≡ false

of_event : (w : World) (step : Step) (k : ℕ) (x : Entry) → is_move step ≡ true → IsEventOf w step k x → IsHeldEvent w x
of_event w (Clock at) k x move is = absurd is
of_event w (Send n from dst vlan ethertype payload) k x move is = absurd (false≢true move)
of_event w (Supervise n about) k x move is = absurd (false≢true move)
of_event w (Age n) k x move is = absurd (false≢true move)
of_event w (Put n port) k x move is = absurd is
of_event w (Take l dir) k x move is = absurd is
of_event w (Judge n port) k x move (node, (worker, (copy, event_is, held))) =
    let e : End = record { node = n; port = port } in
    record { end = e; copy = copy; is = event_is; held = held; not_main = ne_eqb x.worker 0 (λ none. omega (arith, none, worker)) }
of_event w (Cut l) k x move is = absurd is
of_event w (Mend l) k x move is = absurd is
of_event w (Inject l dir octets) k x move is = absurd is

-- ---- what is known of a step of a scenario

pub of_fine : (step : Step) → is_fine (order.Step step) ≡ false → (is_injecting step ≡ false) × (is_move step ≡ false)
of_fine (Clock at) is = (refl, refl)
of_fine (Send n from dst vlan ethertype payload) is = (refl, refl)
of_fine (Supervise n about) is = (refl, refl)
of_fine (Age n) is = (refl, refl)
of_fine (Put n port) is = absurd (false≢true (sym is))
of_fine (Take l dir) is = absurd (false≢true (sym is))
of_fine (Judge n port) is = absurd (false≢true (sym is))
of_fine (Cut l) is = (refl, refl)
of_fine (Mend l) is = (refl, refl)
of_fine (Inject l dir octets) is = absurd (false≢true (sym is))

-- what it brings to a node is the node's, by the main worker, and turns no clock
record IsMainEvent (step : Step) (k : ℕ) (x : Entry) : Type 0 where
  main : x.worker ≡ 0
  planned : is_planned_for k (order.Step step) ≡ true
  moment : (m : ℕ) → moment_after m (order.Step step) ≡ m

main_event : (w : World) (step : Step) (k : ℕ) (x : Entry) → is_fine (order.Step step) ≡ false → IsEventOf w step k x → IsMainEvent step k x
main_event w (Clock at) k x fine is = absurd is
main_event w (Send n from dst vlan ethertype payload) k x fine (node, (main, it)) = record { main = main; planned = eq-eqb n k (sym node); moment = λ m. refl }
main_event w (Supervise n about) k x fine (node, (main, it)) = record { main = main; planned = eq-eqb n k (sym node); moment = λ m. refl }
main_event w (Age n) k x fine (node, (main, it)) = record { main = main; planned = eq-eqb n k (sym node); moment = λ m. refl }
main_event w (Put n port) k x fine is = absurd is
main_event w (Take l dir) k x fine is = absurd is
main_event w (Judge n port) k x fine is = absurd (false≢true (sym fine))
main_event w (Cut l) k x fine is = absurd is
main_event w (Mend l) k x fine is = absurd is
main_event w (Inject l dir octets) k x fine is = absurd is

-- the send of a step
record IsSendOf (w : World) (step : Step) (send : Probe) : Type 0 where
  asked : Asked
  is : asked_by (order.Step step) ≡ Some asked
  node : send.node ≡ asked.node
  place : send.place ≡ length (record_at w send.node)

send_of : (w : World) (step : Step) (send : Probe) → IsSentBy w step send → IsSendOf w step send
send_of w (Clock at) send is = absurd is
send_of w (Send n from dst vlan ethertype payload) send is =
    let node : send.node ≡ n = ap (λ (q : Probe). q.node) is in
    record {
      asked = record { node = n; from = from; dst = dst; kind = ethertype };
      is = refl;
      node = node;
      place = ap (λ (q : Probe). q.place) is ∙ ap (λ m. length (record_at w m)) (sym node);
    }
send_of w (Supervise n about) send is =
    let node : send.node ≡ n = ap (λ (q : Probe). q.node) is in
    record {
      asked = record { node = n; from = 0; dst = supervision_address; kind = ethertype_supervision };
      is = refl;
      node = node;
      place = ap (λ (q : Probe). q.place) is ∙ ap (λ m. length (record_at w m)) (sym node);
    }
send_of w (Age n) send is = absurd is
send_of w (Put n port) send is = absurd is
send_of w (Take l dir) send is = absurd is
send_of w (Judge n port) send is = absurd is
send_of w (Cut l) send is = absurd is
send_of w (Mend l) send is = absurd is
send_of w (Inject l dir octets) send is = absurd is

-- only the clock ends a span
clock_ends : (within : Option ℕ) (m : ℕ) (step : Step) → ends_span within m (order.Step step) ≡ true → (at : ℕ) × (step ≡ Clock at)
clock_ends within m (Clock at) is = (at, refl)
clock_ends within m (Send n from dst vlan ethertype payload) is = absurd (false≢true is)
clock_ends within m (Supervise n about) is = absurd (false≢true is)
clock_ends within m (Age n) is = absurd (false≢true is)
clock_ends within m (Put n port) is = absurd (false≢true is)
clock_ends within m (Take l dir) is = absurd (false≢true is)
clock_ends within m (Judge n port) is = absurd (false≢true is)
clock_ends within m (Cut l) is = absurd (false≢true is)
clock_ends within m (Mend l) is = absurd (false≢true is)
clock_ends within m (Inject l dir octets) is = absurd (false≢true is)

-- ---- a step that is done

module _ (s : Setup) (clear : IsClear s) (time n : ℕ) (w : World) (told : IsTold s time n w) (step : Step) (after : World) (not_injecting : is_injecting step ≡ false) (fits : FitsStep step)
    (done : tried s.capacity w step ≡ Ok after) where
  on : IsStepOn w step after
  on = steps_on s.capacity w after step (sound s w told.own) not_injecting done

  grows : (k : ℕ) → Grows (record_at w k) (record_at after k)
  grows k = ⊎_elim (λ same. inl same) (λ e. inr (e.entry, e.is)) (on.records k)

  own_now : IsOwn s.capacity s.places s.links after
  own_now = own_after s w after step told.own fits done (on.own ∙ told.own.own)

  there : (l : ℕ) → l < length s.links → l < length w.spans
  there l below = let as_many = links_are s w told.own in omega (arith, below, as_many)

  no_more_overrun : (l : ℕ) → l < length s.links → has_overrun l after ≡ false
  no_more_overrun l below =
      false_from_ne_true (has_overrun l after)
      (λ h. ⊎_elim (λ was. false≢true (sym (told.overrun l below) ∙ was)) (λ o. no_overrun s clear time n w told step l below o) (on.overrun l h))

  abbrev Lost : ℕ → Probe → Type 0
  Lost l send = (span : SendSpan) × IsSpanOf s after send span × (is_down s.orders span l ≡ true) × (is_main_at send.place (record_at after send.node) ≡ true)

  lost_kept : (l : ℕ) (send : Probe) → l < length s.links → is_lost_on send l w ≡ true → Lost l send
  lost_kept l send below was = let o = told.lost l send below was in (o.0, span_kept s w after grows send o.0 o.3 o.1, o.2, main_kept s w after grows send o.3)

  lost_new : (l : ℕ) (send : Probe) → (o : IsOpenSend s w send time) → is_down s.orders o.span l ≡ true → Lost l send
  lost_new l send o down = (o.span, span_kept s w after grows send o.span o.main o.is, down, main_kept s w after grows send o.main)

  -- ---- a move

  pub told_move : is_move step ≡ true → IsTold s time (n + 1) after
  told_move is_a_move =
      let move = of_move w step is_a_move in
      record {
        own = own_now;
        moment = on.moment ∙ (move.moment w.moment ∙ told.moment);
        cut = λ l below. on.cut l (there l below) ∙ (move.cut l (span_at w l).link.is_cut ∙ told.cut l below);
        room = λ l below. on.room l ∙ told.room l below;
        mains = λ k. ⊎_elim (λ same. ap (count_by is_main) same ∙ told.mains k) (λ e. mains_at k e) (on.records k);
        fresh = each_copy (λ q. IsOpenSend s after q time) (under_way after)
            (λ send h. ⊎_elim (λ was. open_kept s w after grows send time (open_now s w time told.fresh send was)) (λ sent. absurd (move.not_sent send sent)) (on.kept send h));
        timed = λ k. ⊎_elim (λ same. subst (Timed s after k time) (sym same) (timed_kept s w after grows k time time (record_at w k) (omega arith) (told.timed k))) (λ e. timed_at k e) (on.records k);
        lost = λ l send below h. ⊎_elim (λ was. lost_kept l send below was) (λ new. lost_at move l send below new.0 new.1) (on.lost l send h);
        overrun = no_more_overrun;
        balanced = on.balanced told.balanced;
        moves = let more = on.moves in let one = one_if (is_move step) is_a_move in let so_far = told.moves in omega (arith, more, one, so_far);
      }
    where
      mains_at : (k : ℕ) → HasEntered w step after k → count_by is_main (record_at after k) ≡ count_by (is_planned_for k) (take time s.orders)
      mains_at k e =
          let held = of_event w step k e.entry is_a_move e.by in
          let same = ap (count_by is_main) e.is in
          let more = count_more is_main e.entry (record_at w k) in
          let none = zero_if (is_main e.entry) held.not_main in
          let rest = told.mains k in
          omega (arith, same, more, none, rest)

      timed_at : (k : ℕ) → HasEntered w step after k → Timed s after k time (record_at after k)
      timed_at k e =
          let held = of_event w step k e.entry is_a_move e.by in
          let is_at : IsOpenCopy s after time held.copy =
          λ send named. open_kept s w after grows send time (open_now s w time told.fresh send
          (held_any (is_copy send) held.end held.copy w.spans held.held (ap (is_of send) named ∙ is_of_itself send))) in
          subst (Timed s after k time) (sym e.is) (
            time,
            (omega arith),
            e.at ∙ told.moment,
            subst (λ ev. IsAt s after k time ev (record_at w k)) (sym held.is) is_at,
            timed_kept s w after grows k time time (record_at w k) (omega arith) (told.timed k),
          )

      lost_at : IsMove w step → (l : ℕ) (send : Probe) → l < length s.links → is_under_way send w ≡ true → ((span_at after l).link.is_cut ≡ true) ⊎ Overruns w step l → Lost l send
      lost_at move l send below was (inr o) = absurd (no_overrun s clear time n w told step l below o)
      lost_at move l send below was (inl cut) =
          let o = open_now s w time told.fresh send was in
          let p = open_parts time o.span o.open_then in
          let cut_then : is_cut_at s.orders time l ≡ true =
          sym (told.cut l below) ∙ (sym (move.cut l (span_at w l).link.is_cut) ∙ (sym (on.cut l (there l below)) ∙ cut)) in
          lost_new l send o (down_at s.orders o.span l time (omega (arith, p)) p.1 cut_then)

  -- ---- a step of the scenario

  module _ (fine : is_fine (order.Step step) ≡ false) (listed : slice_get s.orders time ≡ Some (order.Step step)) (timely : IsTimely s.within after) where
    next : suc time ≡ time + 1
    next = omega arith

    moment_next : moment_at s.orders (time + 1) ≡ moment_after (moment_at s.orders time) (order.Step step)
    moment_next = ap (moment_at s.orders) (sym next) ∙ next_moment 0 time s.orders (order.Step step) listed

    cut_next : (l : ℕ) → is_cut_at s.orders (time + 1) l ≡ cut_after l (is_cut_at s.orders time l) (order.Step step)
    cut_next l = ap (λ m. is_cut_at s.orders m l) (sym next) ∙ next_cut l false time s.orders (order.Step step) listed

    count_is : (k : ℕ) → count_by (is_planned_for k) (take (time + 1) s.orders) ≡ count_by (is_planned_for k) (take time s.orders) + cond {A = ℕ} (is_planned_for k (order.Step step)) 1 0
    count_is k = ap (λ m. count_by (is_planned_for k) (take m s.orders)) (sym next) ∙ count_next (is_planned_for k) time s.orders (order.Step step) listed

    -- the send of this step
    sent_now : (send : Probe) → IsSentBy w step send → IsSentAt s after (time + 1) send (asked_by (order.Step step))
    sent_now send sent =
        let of_it = send_of w step send sent in
        let l = span_listed s.within 0 0 s.orders time (order.Step step) of_it.asked listed of_it.is in
        let span = l.span in
        let index : span.index ≡ time = let i = l.index_is in omega (arith, i) in
        let planned : is_planned_for send.node (order.Step step) ≡ true = ap (λ k. is_planned_for k (order.Step step)) of_it.node ∙ asked_planned (order.Step step) of_it.asked of_it.is in
        let e = on.asked send.node planned in
        let main = (main_event w step send.node e.entry fine e.by).main in
        let p = asked_at s.within 0 0 s.orders l.at span l.listed in
        let at_time : p.at ≡ time = let i = p.index_is in omega (arith, i, index) in
        let old = record_at w send.node in
        let below : mains_below send.place (record_at after send.node) ≡ count_by (is_planned_for send.node) (take span.index s.orders) =
        ap (mains_below send.place) e.is ∙ (ap (λ m. mains_below m (e.entry ∷ old)) of_it.place ∙ (mains_stay (length old) e.entry old (omega arith) ∙ (mains_all old
        ∙ (told.mains send.node ∙ ap (λ m. count_by (is_planned_for send.node) (take m s.orders)) (sym index))))) in
        let given : sent_moment after send ≡ span.moment =
        ap (given_moment send.place) e.is ∙ (ap (λ m. given_moment m (e.entry ∷ old)) of_it.place ∙ (given_here e.entry old
        ∙ (e.at ∙ (told.moment ∙ (ap (moment_at s.orders) (sym at_time) ∙ sym p.moment_is))))) in
        let made : IsOpenSend s after send (time + 1) = record {
          span = span;
          is = record { at = l.at; listed = l.listed; node = of_it.node ∙ ap (λ (a : Asked). a.node) (sym l.asked_is); step = below };
          main = ap (is_main_at send.place) e.is ∙ (ap (λ m. is_main_at m (e.entry ∷ old)) of_it.place ∙ main_here e.entry old main);
          given = given;
          open_then = subst (λ m. is_open_at (m + 1) span ≡ true) index (opened s.within s.orders l.at span l.listed);
        } in
        (made, ap (λ m. m + 1) (sym index), of_it.is ∙ ap (λ (a : Asked). Some a) (sym l.asked_is))

    -- a copy whose span ends isn't under way
    not_late : (send : Probe) → (o : IsOpenSend s after send time) → ends_span s.within o.span.moment (order.Step step) ≡ true → is_under_way send after ≡ true → ⊥
    not_late send o ends under =
        let c = clock_ends s.within o.span.moment step ends in
        let at : after.moment ≡ c.0 = on.moment ∙ ap (λ q. moment_after w.moment (order.Step q)) c.1 in
        by_within s.within timely c.0 at (ap (λ q. ends_span s.within o.span.moment (order.Step q)) (sym c.1) ∙ ends)
      where
        by_within : (within : Option ℕ) → IsTimely within after → (at : ℕ) → after.moment ≡ at → is_passed within o.span.moment at ≡ true → ⊥
        by_within None timely at is passed = false≢true passed
        by_within (Some limit) timely at is passed =
            let young : after.moment < sent_moment after send + limit = of_copy (λ q. after.moment < sent_moment after q + limit) (under_way after) timely send under in
            let given = o.given in
            let low = leb-true (o.span.moment + limit) at passed in
            omega (arith, young, given, low, is)

    open_next : (send : Probe) → is_under_way send after ≡ true → IsOpenSend s after send (time + 1)
    open_next send under =
        ⊎_elim
        (λ was.
        let o = open_kept s w after grows send time (open_now s w time told.fresh send was) in
        let of_it = o.is in
        ⊎_elim
        (λ ends. absurd (not_late send o ends under))
        (λ goes_on. record {
          span = o.span;
          is = o.is;
          main = o.main;
          given = o.given;
          open_then = still_open s.within s.orders of_it.at o.span of_it.listed time (order.Step step) listed goes_on o.open_then;
        })
        (cases_Bool (ends_span s.within o.span.moment (order.Step step))))
        (λ sent. (sent_now send sent).0)
        (on.kept send under)

    at_next : (k : ℕ) (x : Entry) (q : Step) → q ≡ step → is_fine (order.Step q) ≡ false → IsEventOf w q k x → IsAt s after k (time + 1) x.event (record_at w k)
    at_next k x (Clock at) same ok is = absurd is
    at_next k x (Send m from dst vlan ethertype payload) same ok (node, (main, it)) =
        let here : Probe = record { node = k; place = length (record_at w k) } in
        let sent : IsSentBy w (Send m from dst vlan ethertype payload) here = ap (λ j. let q : Probe = record { node = j; place = length (record_at w j) } in q) node in
        let asks : asked_by (order.Step step) ≡ event_asks k (event.Send from dst vlan ethertype payload) =
        ap (λ q. asked_by (order.Step q)) (sym same) ∙ ap (λ j. let a : Asked = record { node = j; from = from; dst = dst; kind = ethertype } in Some a) (sym node) in
        subst (λ ev. IsAt s after k (time + 1) ev (record_at w k)) (sym it) (subst (IsSentAt s after (time + 1) here) asks (sent_now here (subst (λ q. IsSentBy w q here) same sent)))
    at_next k x (Supervise m about) same ok (node, (main, it)) =
        let here : Probe = record { node = k; place = length (record_at w k) } in
        let sent : IsSentBy w (Supervise m about) here = ap (λ j. let q : Probe = record { node = j; place = length (record_at w j) } in q) node in
        let asks : asked_by (order.Step step) ≡ event_asks k (event.Supervise about) =
        ap (λ q. asked_by (order.Step q)) (sym same) ∙ ap (λ j. let a : Asked = record { node = j; from = 0; dst = supervision_address; kind = ethertype_supervision } in Some a) (sym node) in
        subst (λ ev. IsAt s after k (time + 1) ev (record_at w k)) (sym it) (subst (IsSentAt s after (time + 1) here) asks (sent_now here (subst (λ q. IsSentBy w q here) same sent)))
    at_next k x (Age m) same ok (node, (main, it)) = subst (λ ev. IsAt s after k (time + 1) ev (record_at w k)) (sym it) tt
    at_next k x (Put m port) same ok is = absurd is
    at_next k x (Take l dir) same ok is = absurd is
    at_next k x (Judge m port) same ok is = absurd (false≢true (sym ok))
    at_next k x (Cut l) same ok is = absurd is
    at_next k x (Mend l) same ok is = absurd is
    at_next k x (Inject l dir octets) same ok is = absurd is

    timed_next : (k : ℕ) → HasEntered w step after k → Timed s after k (time + 1) (record_at after k)
    timed_next k e =
        let m = main_event w step k e.entry fine e.by in
        subst (Timed s after k (time + 1)) (sym e.is) (
          time + 1,
          (omega arith),
          e.at ∙ (told.moment ∙ (sym (m.moment (moment_at s.orders time)) ∙ sym moment_next)),
          at_next k e.entry step refl fine e.by,
          timed_kept s w after grows k time (time + 1) (record_at w k) (omega arith) (told.timed k),
        )

    mains_next : (k : ℕ) → count_by is_main (record_at after k) ≡ count_by (is_planned_for k) (take (time + 1) s.orders)
    mains_next k =
        ⊎_elim
        (λ yes.
        let e = on.asked k yes in
        let m = main_event w step k e.entry fine e.by in
        let same = ap (count_by is_main) e.is in
        let more = count_more is_main e.entry (record_at w k) in
        let one = one_if (is_main e.entry) (eq-eqb e.entry.worker 0 m.main) in
        let rest = told.mains k in
        let steps = count_is k in
        let one_step = one_if (is_planned_for k (order.Step step)) yes in
        omega (arith, same, more, one, rest, steps, one_step))
        (λ no.
        let same : count_by is_main (record_at after k) ≡ count_by is_main (record_at w k) =
        ⊎_elim (λ e. ap (count_by is_main) e) (λ e. absurd (false≢true (sym no ∙ (main_event w step k e.entry fine e.by).planned))) (on.records k) in
        let rest = told.mains k in
        let steps = count_is k in
        let none = zero_if (is_planned_for k (order.Step step)) no in
        omega (arith, same, rest, steps, none))
        (cases_Bool (is_planned_for k (order.Step step)))

    lost_next : (l : ℕ) (send : Probe) → l < length s.links → is_under_way send w ≡ true → ((span_at after l).link.is_cut ≡ true) ⊎ Overruns w step l → Lost l send
    lost_next l send below was (inr o) = absurd (no_overrun s clear time n w told step l below o)
    lost_next l send below was (inl cut) =
        let o = open_now s w time told.fresh send was in
        let of_it = o.is in
        let p = open_parts time o.span o.open_then in
        let behind : cut_after l (is_cut_at s.orders time l) (order.Step step) ≡ true =
        ap (λ b. cut_after l b (order.Step step)) (sym (told.cut l below)) ∙ (sym (on.cut l (there l below)) ∙ cut) in
        ⊎_elim
        (λ ends.
        let c = clock_ends s.within o.span.moment step ends in
        let before : is_cut_at s.orders time l ≡ true = ap (λ q. cut_after l (is_cut_at s.orders time l) (order.Step q)) (sym c.1) ∙ behind in
        lost_new l send o (down_at s.orders o.span l time (omega (arith, p)) p.1 before))
        (λ goes_on.
        let later = open_parts (time + 1) o.span (still_open s.within s.orders of_it.at o.span of_it.listed time (order.Step step) listed goes_on o.open_then) in
        lost_new l send o (down_at s.orders o.span l (time + 1) (omega (arith, later)) later.1 (cut_next l ∙ behind)))
        (cases_Bool (ends_span s.within o.span.moment (order.Step step)))

    pub told_step : IsTold s (time + 1) n after
    told_step = record {
      own = own_now;
      moment = on.moment ∙ (ap (λ m. moment_after m (order.Step step)) told.moment ∙ sym moment_next);
      cut = λ l below. on.cut l (there l below) ∙ (ap (λ b. cut_after l b (order.Step step)) (told.cut l below) ∙ sym (cut_next l));
      room = λ l below. on.room l ∙ told.room l below;
      mains = mains_next;
      fresh = each_copy (λ q. IsOpenSend s after q (time + 1)) (under_way after) open_next;
      timed = λ k. ⊎_elim (λ same. subst (Timed s after k (time + 1)) (sym same) (timed_kept s w after grows k time (time + 1) (record_at w k) (omega arith) (told.timed k))) (λ e. timed_next k e) (on.records k);
      lost = λ l send below h. ⊎_elim (λ was. lost_kept l send below was) (λ new. lost_next l send below new.0 new.1) (on.lost l send h);
      overrun = no_more_overrun;
      balanced = on.balanced told.balanced;
      moves = let more = on.moves in let none = zero_if (is_move step) (of_fine step fine).1 in let so_far = told.moves in omega (arith, more, none, so_far);
    }
