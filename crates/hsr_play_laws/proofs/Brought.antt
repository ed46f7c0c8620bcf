-- What the main worker brought to a node is what the steps so far ask of it, in their order.
use Rattle.std.proofs.Common.{◌≡◌, ◌⊎◌, ℕ, ◌+◌, ◌*◌, ◌<◌, ◌≤◌, ◌==◌, Bool, true, false, cond, if◌then◌else◌, List, [], ◌∷◌, ◌++◌, length, take, count_by, Option, Some, None, refl, sym, ap, ◌∙◌, subst, arith, ⊎_elim, zero, suc, eq-eqb, ne_eqb, append_assoc, Ok}
use Rattle.std.specs.Prelude.{slice_get}
use Rattle.std.specs.List.{AllByRecursion, cons_option}
use Rattle.std.specs.Option.{option_and_then}
use Rattle.std.proofs.lemmas.Bool.{cases_Bool, cases_eq, cond-false, cond-true, false≢true}
use Rattle.std.proofs.lemmas.List.{length-append}
use Rattle.hsr_node.specs.declared.entry.Entry.{Entry}
use Rattle.hsr_node.specs.declared.event.Event.{Event}
use Rattle.hsr_node.specs.declared.event.Event.TheVariants as event
use Rattle.hsr_topology.specs.Workers.{port_worker}
use Rattle.hsr_run_laws.proofs.Lists.{count_more, one_if, zero_if}
use Rattle.hsr_scenario.specs.declared.steps.Order.{Order}
use Rattle.hsr_scenario.specs.declared.steps.Order.TheVariants as order
use Rattle.hsr_world_laws.specs.Law.{IsSound}
use Rattle.hsr_world_laws.specs.World.{World, or_same, record_at, tried}
use Rattle.hsr_world_laws.proofs.First.{first_sound, no_entries}
use Rattle.hsr_world_laws.proofs.Keeps.{keeps}
use Rattle.hsr_world_steps.specs.declared.step.Step.{Step}
use Rattle.hsr_world_steps.specs.declared.step.Step.TheVariants.{Clock, Send, Supervise, Age, Put, Take, Judge, Cut, Mend, Inject}
use Rattle.hsr_plays.specs.Conditions.{IsClear}
use Rattle.hsr_plays.specs.Law.{is_main, is_planned_for}
use Rattle.hsr_plays.specs.Plays.{IsDone, IsPlayed, Moves, Plays}
use Rattle.hsr_plays.specs.Setup.{IsSetup, Setup, first_world, is_move}
use Rattle.hsr_under_way.specs.StepsOn.{HasEntered, IsEventOf, IsStepOn}
use Rattle.hsr_under_way.proofs.StepsOn.{steps_on}
use Rattle.hsr_play_laws.proofs.Down.{next_is}
use Rattle.hsr_play_laws.proofs.Mains.{count_next}
use Rattle.hsr_play_laws.proofs.Moving.{of_fine, of_move}

-- ---- events, the latest first

-- those of entries of the main worker
abbrev pub main_events : List Entry → List Event
main_events [] = []
main_events (x ∷ past) = if is_main x then x.event ∷ main_events past else main_events past

-- what a step asks of a node
abbrev pub asks_of : ℕ → Order → Option Event
asks_of k (order.Step (Send node from dst vlan ethertype payload)) = if node == k then Some (event.Send from dst vlan ethertype payload) else None
asks_of k (order.Step (Supervise node about)) = if node == k then Some (event.Supervise about) else None
asks_of k (order.Step (Age node)) = if node == k then Some event.Age else None
asks_of k _ = None

abbrev pub asks_at : ℕ → List Order → ℕ → Option Event
asks_at k orders n = option_and_then (asks_of k) (slice_get orders n)

-- of the first so many steps
abbrev pub asked_events : ℕ → List Order → ℕ → List Event
asked_events k orders zero = []
asked_events k orders (suc n) = cons_option (asks_at k orders n) (asked_events k orders n)

main_more : (x : Entry) (past : List Entry) → is_main x ≡ true → main_events (x ∷ past) ≡ x.event ∷ main_events past
main_more x past main = cond-true (is_main x) (x.event ∷ main_events past) (main_events past) main

port_same : (x : Entry) (past : List Entry) → is_main x ≡ false → main_events (x ∷ past) ≡ main_events past
port_same x past other = cond-false (is_main x) (x.event ∷ main_events past) (main_events past) other

-- ---- a step

module _ (w : World) (after : World) (k : ℕ) where
  abbrev Adds : Step → Type 0
  Adds step = main_events (record_at after k) ≡ cons_option (asks_of k (order.Step step)) (main_events (record_at w k))

  -- where the node has an entry
  entered : (step : Step) → HasEntered w step after k → Adds step
  entered step e = by_step step e.by
    where
      by_main : (asked : Option Event) (ev : Event) → asked ≡ Some ev → e.entry.worker ≡ 0 → e.entry.event ≡ ev → main_events (record_at after k) ≡ cons_option asked (main_events (record_at w k))
      by_main asked ev is main same =
          ap main_events e.is ∙ (main_more e.entry (record_at w k) (eq-eqb e.entry.worker 0 main)
          ∙ (ap (λ v. v ∷ main_events (record_at w k)) same ∙ ap (λ o. cons_option o (main_events (record_at w k))) (sym is)))

      by_step : (q : Step) → IsEventOf w q k e.entry → Adds q
      by_step (Clock at) is = absurd is
      by_step (Send n from dst vlan ethertype payload) is =
          by_main (asks_of k (order.Step (Send n from dst vlan ethertype payload))) (event.Send from dst vlan ethertype payload)
          (cond-true (n == k) (Some (event.Send from dst vlan ethertype payload)) None (eq-eqb n k (sym is.0))) is.1.0 is.1.1
      by_step (Supervise n about) is =
          by_main (asks_of k (order.Step (Supervise n about))) (event.Supervise about) (cond-true (n == k) (Some (event.Supervise about)) None (eq-eqb n k (sym is.0))) is.1.0 is.1.1
      by_step (Age n) is = by_main (asks_of k (order.Step (Age n))) event.Age (cond-true (n == k) (Some event.Age) None (eq-eqb n k (sym is.0))) is.1.0 is.1.1
      by_step (Put n port) is = absurd is
      by_step (Take l dir) is = absurd is
      by_step (Judge n port) is =
          let worker : e.entry.worker ≡ 1 + 8 * n + port = is.1.0 in
          ap main_events e.is ∙ port_same e.entry (record_at w k) (ne_eqb e.entry.worker 0 (λ none. omega (arith, worker, none)))
      by_step (Cut l) is = absurd is
      by_step (Mend l) is = absurd is
      by_step (Inject l dir octets) is = absurd is

  -- where nothing is asked of the node
  none_asked : (step : Step) → is_planned_for k (order.Step step) ≡ false → asks_of k (order.Step step) ≡ None
  none_asked (Clock at) free = refl
  none_asked (Send n from dst vlan ethertype payload) free = cond-false (n == k) (Some (event.Send from dst vlan ethertype payload)) None free
  none_asked (Supervise n about) free = cond-false (n == k) (Some (event.Supervise about)) None free
  none_asked (Age n) free = cond-false (n == k) (Some event.Age) None free
  none_asked (Put n port) free = refl
  none_asked (Take l dir) free = refl
  none_asked (Judge n port) free = refl
  none_asked (Cut l) free = refl
  none_asked (Mend l) free = refl
  none_asked (Inject l dir octets) free = refl

  adds : (step : Step) → IsStepOn w step after → Adds step
  adds step on =
      ⊎_elim
      (λ yes. entered step (on.asked k yes))
      (λ no.
      ⊎_elim
      (λ same. ap main_events same ∙ ap (λ o. cons_option o (main_events (record_at w k))) (sym (none_asked step no)))
      (λ e. entered step e)
      (on.records k))
      (cases_Bool (is_planned_for k (order.Step step)))

move_asks : (k : ℕ) (step : Step) → is_move step ≡ true → asks_of k (order.Step step) ≡ None
move_asks k (Clock at) is = refl
move_asks k (Send n from dst vlan ethertype payload) is = absurd (false≢true is)
move_asks k (Supervise n about) is = absurd (false≢true is)
move_asks k (Age n) is = absurd (false≢true is)
move_asks k (Put n port) is = refl
move_asks k (Take l dir) is = refl
move_asks k (Judge n port) is = refl
move_asks k (Cut l) is = refl
move_asks k (Mend l) is = refl
move_asks k (Inject l dir octets) is = refl

-- ---- plays

pub record IsBrought (s : Setup) (time : ℕ) (w : World) : Type 0 where
  pub sound : IsSound s.capacity w
  pub events : (k : ℕ) → main_events (record_at w k) ≡ asked_events k s.orders time

module _ (s : Setup) (clear : IsClear s) where
  kept_sound : (w after : World) (step : Step) → IsSound s.capacity w → tried s.capacity w step ≡ Ok after → IsSound s.capacity after
  kept_sound w after step sound done = subst (λ r. IsSound s.capacity (or_same w r)) done (keeps s.capacity w step sound)

  brought_moves : (m time : ℕ) (w after : World) → IsBrought s time w → Moves s.capacity m w after → IsBrought s time after
  brought_moves zero time w after b same = subst (IsBrought s time) same b
  brought_moves (suc m) time w after b (move, between, is, done, rest) =
      let on = steps_on s.capacity w between move b.sound (of_move w move is).not_injecting done in
      brought_moves m time between after
      (record {
        sound = kept_sound w between move b.sound done;
        events = λ k. adds w between k move on ∙ (ap (λ o. cons_option o (main_events (record_at w k))) (move_asks k move is) ∙ b.events k);
      }) rest

  brought_order : (o : Order) (time : ℕ) (w after : World) → IsBrought s time w → slice_get s.orders time ≡ Some o → IsDone s.capacity s.within o w after → IsBrought s (suc time) after
  brought_order order.Drain time w after b listed (quiet, same) =
      subst (IsBrought s (suc time)) same
      (record { sound = b.sound; events = λ k. b.events k ∙ ap (λ q. cons_option (option_and_then (asks_of k) q) (asked_events k s.orders time)) (sym listed) })
  brought_order (order.Step step) time w after b listed (done, timely) =
      let on = steps_on s.capacity w after step b.sound (of_fine step (clear.fine time (order.Step step) listed)).0 done in
      record {
        sound = kept_sound w after step b.sound done;
        events = λ k. adds w after k step on ∙ (ap (λ es. cons_option (asks_of k (order.Step step)) es) (b.events k) ∙ ap (λ q. cons_option (option_and_then (asks_of k) q) (asked_events k s.orders time)) (sym listed));
      }

  brought_plays : (rest later begun : List Order) (more : ℕ) (w after : World) → s.orders ≡ begun ++ (rest ++ later) → IsBrought s (length begun) w → Plays s.capacity s.within rest more w after →
      IsBrought s (length begun + length rest) after
  brought_plays [] later begun more w after whole b moves =
      let e : length begun + 0 ≡ length begun = omega arith in
      subst (λ t. IsBrought s t after) (sym e) (brought_moves more (length begun) w after b moves)
  brought_plays (o ∷ rest) later begun more w after whole b (m, others, sum, (before, behind, moves, done, plays)) =
      let first = brought_moves m (length begun) w before b moves in
      let listed = ap (λ (orders : List Order). slice_get orders (length begun)) whole ∙ next_is begun (rest ++ later) o in
      let second = brought_order o (length begun) before behind first listed done in
      let one : length (begun ++ o ∷ []) ≡ length begun + 1 = length-append begun (o ∷ []) in
      let next : suc (length begun) ≡ length (begun ++ o ∷ []) = omega (arith, one) in
      let all = brought_plays rest later (begun ++ o ∷ []) others behind after (whole ∙ sym (append_assoc begun (o ∷ []) (rest ++ later))) (subst (λ t. IsBrought s t behind) next second) plays in
      let times : length (begun ++ o ∷ []) + length rest ≡ length begun + length (o ∷ rest) = omega (arith, one) in
      subst (λ t. IsBrought s t after) times all

pub brought : (s : Setup) (done later : List Order) (n : ℕ) (w : World) → IsSetup s → IsClear s → IsPlayed s done later n w → IsBrought s (length done) w
brought s done later n w setup clear played =
    let e : 0 + length done ≡ length done = omega arith in
    subst (λ t. IsBrought s t w) e
    (brought_plays s clear done later [] n (first_world s) w played.whole
    (record { sound = first_sound s.capacity s.room s.places s.links setup.wired; events = λ k. ap main_events (no_entries s.places k) }) played.plays)

-- ---- what was brought by a step

-- an entry of a record, with what stands below it
pub record IsEntryOf (h : List Entry) (e : Event) (below : List Event) : Type 0 where
  pub entry : Entry
  pub past : List Entry
  pub newer : List Entry
  pub is : h ≡ newer ++ (entry ∷ past)
  pub main : is_main entry ≡ true
  pub event : entry.event ≡ e
  pub rest : main_events past ≡ below

under : (x : Entry) (h : List Entry) (e : Event) (below : List Event) → IsEntryOf h e below → IsEntryOf (x ∷ h) e below
under x h e below o = record { entry = o.entry; past = o.past; newer = x ∷ o.newer; is = ap (λ (ys : List Entry). x ∷ ys) o.is; main = o.main; event = o.event; rest = o.rest }

latest_main : (h : List Entry) (e : Event) (below : List Event) → main_events h ≡ e ∷ below → IsEntryOf h e below
latest_main [] e below is = absurd cc
latest_main (x ∷ past) e below is = by_main (is_main x) refl is (latest_main past e below)
  where
    by_main : (b : Bool) → is_main x ≡ b → (if b then x.event ∷ main_events past else main_events past) ≡ e ∷ below → (main_events past ≡ e ∷ below → IsEntryOf past e below) → IsEntryOf (x ∷ past) e below
    by_main true main is rest =
        let first : x.event ≡ e = cc in
        let others : main_events past ≡ below = cc in
        record { entry = x; past = past; newer = []; is = refl; main = main; event = first; rest = others }
    by_main false other is rest = under x past e below (rest is)

deeper : (h newer past : List Entry) (x : Entry) (e : Event) (below : List Event) → h ≡ newer ++ (x ∷ past) → IsEntryOf past e below → IsEntryOf h e below
deeper h newer past x e below is o = record {
  entry = o.entry;
  past = o.past;
  newer = newer ++ (x ∷ o.newer);
  is = is ∙ (ap (λ (ys : List Entry). newer ++ (x ∷ ys)) o.is ∙ sym (append_assoc newer (x ∷ o.newer) (o.entry ∷ o.past)));
  main = o.main;
  event = o.event;
  rest = o.rest;
}

pub entry_asked : (k : ℕ) (orders : List Order) (i t : ℕ) (e : Event) (h : List Entry) → main_events h ≡ asked_events k orders t → i < t → asks_at k orders i ≡ Some e → IsEntryOf h e (asked_events k orders i)
entry_asked k orders i zero e h all before asks = absurd (omega (arith, before))
entry_asked k orders i (suc t) e h all before asks =
    ⊎_elim
    (λ last.
    let here : asks_at k orders t ≡ Some e = ap (asks_at k orders) (sym last) ∙ asks in
    let whole : main_events h ≡ e ∷ asked_events k orders i = all ∙ (ap (λ o. cons_option o (asked_events k orders t)) here ∙ ap (λ m. e ∷ asked_events k orders m) (sym last)) in
    latest_main h e (asked_events k orders i) whole)
    (λ other. by_asks (asks_at k orders t) all (λ past there. entry_asked k orders i t e past there (lower other) asks))
    (cases_eq i t)
  where
    lower : (i ≡ t → ⊥) → i < t
    lower other = less i t before other
      where
        less : (a b : ℕ) → a < suc b → (a ≡ b → ⊥) → a < b
        less a b low away = omega arith

    by_asks : (o : Option Event) → main_events h ≡ cons_option o (asked_events k orders t) → ((past : List Entry) → main_events past ≡ asked_events k orders t → IsEntryOf past e (asked_events k orders i)) →
        IsEntryOf h e (asked_events k orders i)
    by_asks None all rest = rest h all
    by_asks (Some v) all rest =
        let first = latest_main h v (asked_events k orders t) all in
        deeper h first.newer first.past first.entry e (asked_events k orders i) first.is (rest first.past first.rest)

-- ---- how many there are

pub mains_counted : (h : List Entry) → length (main_events h) ≡ count_by is_main h
mains_counted [] = refl
mains_counted (x ∷ past) = by_main (is_main x) refl (mains_counted past)
  where
    by_main : (b : Bool) → is_main x ≡ b → length (main_events past) ≡ count_by is_main past → length (if b then x.event ∷ main_events past else main_events past) ≡ count_by is_main (x ∷ past)
    by_main true main rest = let more = count_more is_main x past in let one = one_if (is_main x) main in omega (arith, rest, more, one)
    by_main false other rest = let more = count_more is_main x past in let none = zero_if (is_main x) other in omega (arith, rest, more, none)

count_past : {X : Type 0} (p : X → Bool) (n : ℕ) (xs : List X) → slice_get xs n ≡ None → count_by p (take (suc n) xs) ≡ count_by p (take n xs)
count_past p zero [] none = refl
count_past p (suc n) [] none = refl
count_past p zero (x ∷ xs) none = absurd cc
count_past p (suc n) (x ∷ xs) none =
    let a = count_more p x (take (suc n) xs) in
    let b = count_more p x (take n xs) in
    let rest = count_past p n xs none in
    omega (arith, a, b, rest)

pub asked_counted : (k : ℕ) (orders : List Order) (n : ℕ) → length (asked_events k orders n) ≡ count_by (is_planned_for k) (take n orders)
asked_counted k orders zero = refl
asked_counted k orders (suc n) = by_order (slice_get orders n) refl (asked_counted k orders n)
  where
    one_more : (b : Bool) (ev : Event) (es : List Event) → length (cons_option (if b then Some ev else None) es) ≡ length es + cond {A = ℕ} b 1 0
    one_more true ev es = omega arith
    one_more false ev es = omega arith

    by_kind : (o : Order) (es : List Event) → length (cons_option (asks_of k o) es) ≡ length es + cond {A = ℕ} (is_planned_for k o) 1 0
    by_kind order.Drain es = omega arith
    by_kind (order.Step (Clock at)) es = omega arith
    by_kind (order.Step (Send node from dst vlan ethertype payload)) es = one_more (node == k) (event.Send from dst vlan ethertype payload) es
    by_kind (order.Step (Supervise node about)) es = one_more (node == k) (event.Supervise about) es
    by_kind (order.Step (Age node)) es = one_more (node == k) event.Age es
    by_kind (order.Step (Put n port)) es = omega arith
    by_kind (order.Step (Take l dir)) es = omega arith
    by_kind (order.Step (Judge n port)) es = omega arith
    by_kind (order.Step (Cut l)) es = omega arith
    by_kind (order.Step (Mend l)) es = omega arith
    by_kind (order.Step (Inject l dir octets)) es = omega arith

    by_order : (o : Option Order) → slice_get orders n ≡ o → length (asked_events k orders n) ≡ count_by (is_planned_for k) (take n orders) →
        length (cons_option (option_and_then (asks_of k) o) (asked_events k orders n)) ≡ count_by (is_planned_for k) (take (suc n) orders)
    by_order None is rest = let none = count_past (is_planned_for k) n orders is in omega (arith, rest, none)
    by_order (Some o) is rest =
        let next = count_next (is_planned_for k) n orders o is in
        let more = by_kind o (asked_events k orders n) in
        omega (arith, rest, next, more)
