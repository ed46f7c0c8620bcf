-- What is handed over where a world is closed agrees exactly where the world is ended.
use Rattle.std.proofs.Common.{◌≡◌, ◌⊎◌, inl, inr, ℕ, ◌<◌, zero, suc, true, false, cond, List, [], ◌∷◌, length, map, get_or, reverse, filter_map, Option, Some, None, Vec, refl, sym, ap, ◌∙◌, subst, arith, ⊎_elim, eq-eqb}
use Rattle.std.specs.Global.{Global}
use Rattle.std.specs.List.{AllByRecursion, cons_option}
use Rattle.std.proofs.lemmas.Bool.{or_cases, or_left, or_right}
use Rattle.std.proofs.lemmas.List.{get_or-map, length-map, reverse-reverse}
use Rattle.std.proofs.lemmas.List.Elements.{recursion_from_All}
use Rattle.hsr_node.specs.Flow.{arrivals, copy_at}
use Rattle.hsr_node.specs.Kept.{Receipts, Record, past_of}
use Rattle.hsr_node.specs.declared.entry.Entry.{Entry}
use Rattle.hsr_node.specs.declared.event.Carried.{Carried}
use Rattle.hsr_node.specs.declared.event.Event.{Event}
use Rattle.hsr_node.specs.declared.event.Event.TheVariants.{Send, Supervise, Arrive, Age}
use Rattle.hsr_node.specs.declared.place.Place.{Place}
use Rattle.hsr_link.specs.declared.row.Row.{Row}
use Rattle.hsr_topology.proofs.Ends.{end_is, end_same}
use Rattle.hsr_finished_run.specs.Checked.{Agrees, IfDisagree, IsFirst, IsOpen}
use Rattle.hsr_duptable.specs.Table.{IsTableSize}
use Rattle.hsr_run_laws.specs.Closed.{IsClosed}
use Rattle.hsr_finished_run.specs.Finished.{Finished, IsPlanned, planned_by}
use Rattle.hsr_finished_run.specs.Finished as finished
use Rattle.hsr_finished_run.specs.InOrder.{came}
use Rattle.hsr_topology.specs.Links.{is_end_of, is_same_end, is_used}
use Rattle.hsr_run_laws.specs.Once.{IsCalm}
use Rattle.hsr_finished_run.specs.OfRecords.{AllAgreeOf, ArePassesOf}
use Rattle.hsr_finished_run.specs.Passes.{IsToldBy}
use Rattle.hsr_finished_run.specs.Receipts.{HasReceipts}
use Rattle.hsr_run_laws.specs.Premises.{NumberedFirst}
use Rattle.hsr_run_laws.specs.Run.{Run}
use Rattle.hsr_finished_run.specs.Shape.{IsShaped, NodesFit, is_linked}
use Rattle.hsr_topology.specs.Topology.{Topology}
use Rattle.hsr_topology.specs.Wired.{IsJoin, IsWired}
use Rattle.hsr_finished_run.specs.declared.disagree.CheckFault.{CheckFault}
use Rattle.hsr_finished_run.specs.declared.disagree.CheckFault.TheVariants as fault
use Rattle.hsr_finished_run.specs.declared.disagree.Disagree.{Disagree}
use Rattle.hsr_finished_run.specs.declared.disagree.Disagree.TheVariants.{Shape, LinkPut, LinkTaken, Stranger, NotQuiet}
use Rattle.hsr_finished_run.specs.declared.disagree.Disagree.TheVariants as cause
use Rattle.hsr_topology.specs.declared.end.End.{End}
use Rattle.hsr_finished_run.specs.declared.planned.Planned.{Planned}
use Rattle.hsr_finished_run.proofs.Forwards.{arrivals_of}
use Rattle.hsr_run_laws.proofs.NoStorm.{no_storm}
use Rattle.hsr_finished_run.proofs.Shaped.{from_there}
use Rattle.hsr_world_laws.specs.Closing.{IsOwn, run_of}
use Rattle.hsr_ring.specs.Ending.{AreRowsOf, IsKnownOnceEnded, IsToldClosed, IsToldOpen}
use Rattle.hsr_world_laws.specs.Lawful.{IsEnded, finished_of}
use Rattle.hsr_world_laws.specs.Spans.{Span}
use Rattle.hsr_world_laws.specs.Reached.{IsReached}
use Rattle.hsr_ring.specs.Views.{AreNumbered, world_of}
use Rattle.hsr_world_laws.specs.World.{World, new_world}
use Rattle.hsr_world_laws.proofs.Closed.{always_closes, always_numbered_first, spans_counted, linked, only_quiet_closes, run_is, wires}
use Rattle.hsr_ring.proofs.Entered.{number_at}
use Rattle.hsr_world_laws.proofs.Lawful.{own_of, same_links}
use Rattle.hsr_world_laws.proofs.Linked.{is_led_to, leads_to}
use Rattle.hsr_world_laws.proofs.Plans.{always_planned}
use Rattle.hsr_world_laws.proofs.Wires.{run_keeps, wire_of}

-- ---- where a link leads, it is used

used : (places : List Place) (links : List (List End)) (end : End) → AllByRecursion (IsJoin places) links → is_led_to (map wire_of links) end ≡ true → is_used links end ≡ true
used places [] end joins led = led
used places (link ∷ links) end joins led = ⊎_elim
    (λ here. or_left (is_end_of end link) (is_used links end) (by_link link joins.0 here))
    (λ later. or_right (is_end_of end link) (is_used links end) (used places links end joins.1 later))
    (or_cases (leads_to end (wire_of link)) (is_led_to (map wire_of links) end) led)
  where
    by_link : (x : List End) → IsJoin places x → leads_to end (wire_of x) ≡ true → is_end_of end x ≡ true
    by_link [] join h = absurd join
    by_link (a ∷ []) join h = absurd join
    by_link (a ∷ b ∷ c ∷ ends) join h = absurd join
    by_link (a ∷ b ∷ []) join h = ⊎_elim
        (λ second. or_right (is_same_end end a) (is_end_of end (b ∷ [])) (or_left (is_same_end end b) false (end_same end b (sym (end_is b end second)))))
        (λ first. or_left (is_same_end end a) (is_end_of end (b ∷ [])) (end_same end a (sym (end_is a end first))))
        (or_cases (is_same_end b end) (is_same_end a end) h)

-- ---- where nothing came, no entry is an arrival

head_none : (o : Option Carried) (cs : List Carried) → cons_option o cs ≡ [] → (o ≡ None) × (cs ≡ [])
head_none None cs h = (refl, h)
head_none (Some c) cs h = absurd (cc)

none_at : (port : ℕ) (entries : List Entry) (i : ℕ) (d : Entry) → came port entries ≡ [] → i < length entries → copy_at port (get_or entries i d).event ≡ None
none_at port [] i d none below = absurd (omega arith)
none_at port (x ∷ xs) zero d none below = (head_none (copy_at port x.event) (came port xs) none).0
none_at port (x ∷ xs) (suc i) d none below = none_at port xs i d (head_none (copy_at port x.event) (came port xs) none).1 (omega (arith, below))

linked_at : (links : List (List End)) (k : ℕ) (entries : List Entry) (i : ℕ) (d : Entry) → ((port : ℕ) → (is_used links (record { node = k; port = port }) ≡ true) ⊎ (came port entries ≡ [])) → i < length entries →
    is_linked links k (get_or entries i d).event ≡ true
linked_at links k entries i d h below = by_event (get_or entries i d).event (λ port none. none_at port entries i d none below)
  where
    by_event : (e : Event) → ((port : ℕ) → came port entries ≡ [] → copy_at port e ≡ None) → is_linked links k e ≡ true
    by_event (Send from dst vlan ethertype payload) f = refl
    by_event (Supervise about) f = refl
    by_event Age f = refl
    by_event (Arrive port copy) f = ⊎_elim (λ is. is) (λ none. here none (ap (λ b. cond b (Some copy) None) (eq-eqb port port refl)) (f port none)) (h port)
      where
        here : came port entries ≡ [] → copy_at port (Arrive port copy) ≡ Some copy → copy_at port (Arrive port copy) ≡ None → is_used links (record { node = k; port = port }) ≡ true
        here none some nothing = absurd (cc)

none_came : (port : ℕ) (entries : List Entry) → arrivals port (reverse entries) ≡ [] → came port entries ≡ []
none_came port entries h = sym (reverse-reverse (came port entries)) ∙ ap reverse (sym (arrivals_of port entries) ∙ h)

-- ---- a world that was reached

module _ (capacity : ℕ) (topology : Topology) (moment : ℕ) (kept : List Record) (spans : List Span) (plan : List Planned)
    (tables : IsTableSize capacity) (wired : IsWired topology.places topology.links) (numbered : AreNumbered kept) (r : IsReached capacity topology.places topology.links (world_of moment kept spans plan)) where
  abbrev world : World
  world = world_of moment kept spans plan

  places : map (λ (r : Record). r.place) kept ≡ topology.places
  places = ap (λ (v : World). v.places) (sym r.is) ∙ (run_keeps capacity r.steps (new_world r.room topology.places topology.links)).places

  many : length kept ≡ length topology.places
  many = sym (length-map kept (λ (r : Record). r.place)) ∙ ap length places

  fit : NodesFit topology.links kept (length kept)
  fit k d below = (
    number_at kept k d numbered below,
    λ i x inside. linked_at topology.links k (get_or kept k d).entries i x
        (λ port. ⊎_elim
        (λ led. inl (used topology.places topology.links (record { node = k; port = port }) (recursion_from_All (IsJoin topology.places) topology.links wired.joined)
        (subst (λ ws. is_led_to ws (record { node = k; port = port }) ≡ true) (wires capacity topology.places topology.links world wired r) led)))
        (λ none. inr (none_came port (get_or kept k d).entries (ap (arrivals port) (sym (get_or-map past_of kept k d [] below)) ∙ none)))
        (linked capacity topology.places topology.links world wired r k port))
        inside,
  )

  module _ (rows : List (Vec Row Global)) (passes : List Receipts) (of_links : AreRowsOf spans rows) (told : ArePassesOf kept plan passes) where
    run_same : run_of capacity topology.links world ≡ finished.run_of capacity topology kept rows
    run_same = run_is capacity topology kept rows world places refl (sym of_links)

    run_whole : finished.run_of capacity topology kept rows ≡ (finished_of capacity world).run
    run_whole = sym run_same ∙ ap (λ (ls : List (List End)). run_of capacity ls world) (sym (same_links capacity topology.places topology.links world wired r))

    shaped : IsShaped topology kept rows
    shaped = record {
      places = places;
      of_links = sym (length-map rows finished.items_of) ∙ (ap length of_links ∙ (length-map spans _ ∙ spans_counted capacity topology.places topology.links world wired r));
      fit = fit;
    }

    planned : IsPlanned (finished.run_of capacity topology kept rows) plan
    planned = subst (λ (run : Run). IsPlanned run plan) run_same (always_planned capacity topology.places topology.links world r)

    told_by : IsToldBy kept plan
    told_by = record {
      nodes = λ i d below. let inside = planned.nodes i d below in omega (arith, inside, many);
      each = λ k d below. planned.each k (omega (arith, below, many)) ∙ ap (filter_map (planned_by k)) (get_or-map (λ (r : Record). r.entries) kept k d [] below);
    }

    receipts : HasReceipts kept passes plan
    receipts = told.right told_by

    ended : IsClosed (finished.run_of capacity topology kept rows) → IsEnded world
    ended closed =
        let both = only_quiet_closes capacity topology.places topology.links world wired r (subst (λ (run : Run). IsClosed run) (sym run_same) closed) in
        record { quiet = both.0; own = both.1 }

    own : IsEnded world → IsOwn capacity topology.places topology.links world
    own end = own_of capacity topology.places topology.links world wired r end.own

    agrees : IsEnded world → Agrees capacity topology kept rows passes plan
    agrees end = record {
      shaped = shaped;
      closed = subst (λ (run : Run). IsClosed run) run_same (always_closes capacity topology.places topology.links world tables (own end) end.quiet);
      receipts = receipts;
    }

    numbered_first : IsClosed (finished.run_of capacity topology kept rows) → NumberedFirst (finished.run_of capacity topology kept rows)
    numbered_first closed = subst (λ (run : Run). NumberedFirst run) run_same (always_numbered_first capacity topology.places topology.links world (own (ended closed)))

    calm : IsClosed (finished.run_of capacity topology kept rows) → IsCalm (finished.run_of capacity topology kept rows)
    calm closed =
        no_storm (finished.run_of capacity topology kept rows) (λ l dir below. from_there topology.places topology.links wired l dir below) closed (numbered_first closed)

    open_as : (d : Disagree) → IsFirst capacity topology kept rows passes plan d → IsOpen (finished.run_of capacity topology kept rows) d
    unfolding HasReceipts
    open_as Shape first = absurd (first (tables, shaped))
    open_as (LinkPut link dir) first = first.1
    open_as (LinkTaken link dir) first = first.1
    open_as (Stranger link row) first = first.1
    open_as (NotQuiet link) first = first.1
    open_as (cause.Receipts worker) first = absurd (first.1.4.here (receipts worker))

  pub known : IsKnownOnceEnded capacity topology kept plan spans
  unfolding AllAgreeOf
  known quiet own rows of_links passes told = agrees rows passes of_links told (record { quiet = quiet; own = own })

  pub closed_is : (closed : Finished) → IsToldClosed capacity topology kept plan spans closed → closed ≡ finished_of capacity world
  closed_is closed c =
      let same = run_whole c.rows c.told.passes c.of_links c.told.told in
      c.told.is ∙ ap (λ (run : Run). let f : Finished = record { run = run; plan = plan } in f) same

  pub closed_ended : (closed : Finished) → IsToldClosed capacity topology kept plan spans closed → IsEnded world
  closed_ended closed c = ended c.rows c.told.passes c.of_links c.told.told c.told.agrees.closed

  pub closed_calm : (closed : Finished) → IsToldClosed capacity topology kept plan spans closed → IsCalm closed.run
  closed_calm closed c = subst (λ (f : Finished). IsCalm f.run) (sym c.told.is) (calm c.rows c.told.passes c.of_links c.told.told c.told.agrees.closed)

  pub closed_numbered : (closed : Finished) → IsToldClosed capacity topology kept plan spans closed → NumberedFirst closed.run
  closed_numbered closed c = subst (λ (f : Finished). NumberedFirst f.run) (sym c.told.is) (numbered_first c.rows c.told.passes c.of_links c.told.told c.told.agrees.closed)

  pub open_refused : (d : Disagree) → IsToldOpen capacity topology kept plan spans d → ¬ IsEnded world
  open_refused d o end = o.told.refused (agrees o.rows o.told.passes o.of_links o.told.told end)

  pub open_first : (d : Disagree) → IsToldOpen capacity topology kept plan spans d → IsOpen (finished_of capacity world).run d
  open_first d o = subst (λ (run : Run). IsOpen run d) (run_whole o.rows o.told.passes o.of_links o.told.told) (open_as o.rows o.told.passes o.of_links o.told.told d o.told.first)

-- ---- what a call that closes a world answers

pub record Closes (capacity : ℕ) (w : World) (closed : Finished) : Type 0 where
  pub is : closed ≡ finished_of capacity w
  pub ended : IsEnded w
  pub numbered : NumberedFirst closed.run
  pub calm : IsCalm closed.run

pub record StaysOpen (capacity : ℕ) (w : World) (fault : CheckFault) : Type 0 where
  pub refused : IfDisagree fault (λ d. ¬ IsEnded w)
  pub first : IfDisagree fault (λ d. IsOpen (finished_of capacity w).run d)

if_map : (fault : CheckFault) (P Q : Disagree → Type 0) → ((d : Disagree) → P d → Q d) → IfDisagree fault P → IfDisagree fault Q
if_map (fault.Disagree d) P Q f h = f d h
if_map fault.NoMemory P Q f h = h

module _ (capacity : ℕ) (topology : Topology) (moment : ℕ) (kept : List Record) (spans : List Span) (plan : List Planned) (w : World) (is : world_of moment kept spans plan ≡ w)
    (tables : IsTableSize capacity) (wired : IsWired topology.places topology.links) (numbered : AreNumbered kept) (r : IsReached capacity topology.places topology.links w) where
  reached : IsReached capacity topology.places topology.links (world_of moment kept spans plan)
  reached = subst (IsReached capacity topology.places topology.links) (sym is) r

  pub known_here : IsKnownOnceEnded capacity topology kept plan spans
  known_here = known capacity topology moment kept spans plan tables wired numbered reached

  pub closes : (closed : Finished) → IsToldClosed capacity topology kept plan spans closed → Closes capacity w closed
  closes closed c = subst (λ (v : World). Closes capacity v closed) is (record {
    is = closed_is capacity topology moment kept spans plan tables wired numbered reached closed c;
    ended = closed_ended capacity topology moment kept spans plan tables wired numbered reached closed c;
    numbered = closed_numbered capacity topology moment kept spans plan tables wired numbered reached closed c;
    calm = closed_calm capacity topology moment kept spans plan tables wired numbered reached closed c;
  })

  pub stays_open : (fault : CheckFault) → IfDisagree fault (IsToldOpen capacity topology kept plan spans) → StaysOpen capacity w fault
  stays_open fault o = subst (λ (v : World). StaysOpen capacity v fault) is (record {
    refused = if_map fault (IsToldOpen capacity topology kept plan spans) (λ d. ¬ IsEnded (world_of moment kept spans plan)) (open_refused capacity topology moment kept spans plan tables wired numbered reached) o;
    first = if_map fault (IsToldOpen capacity topology kept plan spans) (λ d. IsOpen (finished_of capacity (world_of moment kept spans plan)).run d) (open_first capacity topology moment kept spans plan tables wired numbered reached) o;
  })
