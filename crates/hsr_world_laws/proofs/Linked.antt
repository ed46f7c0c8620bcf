-- What comes to a port comes by its link: each step keeps that nothing came to a port without one.
use Rattle.std.proofs.Common.{◌≡◌, ◌⊎◌, ℕ, ◌<◌, ◌==◌, nat_lt, max, Bool, true, false, List, [], ◌∷◌, map, set, length, Option, Some, None, Result, Ok, Err, refl, sym, ap, ◌∙◌, subst, eqb-true, eq-eqb, ⊎_elim, inl, inr}
use Rattle.std.specs.Prelude.{if◌then◌else◌, ◌||◌}
use Rattle.std.specs.List.{cons_option, list_any}
use Rattle.std.proofs.lemmas.Bool.{false≢true, cases_Bool}
use Rattle.std.proofs.lemmas.List.{get_or-set_same, get_or-set_other}
use Rattle.hsr_link.specs.Link.{inject_step, take_step}
use Rattle.hsr_link.specs.Rows.{first_copy}
use Rattle.hsr_link.specs.declared.row.Dir.{Dir}
use Rattle.hsr_node.specs.Flow.{arrivals, copy_at}
use Rattle.hsr_node.specs.Record.{answer, now}
use Rattle.hsr_node.specs.declared.entry.Entry.{Entry}
use Rattle.hsr_node.specs.declared.event.Carried.{Carried}
use Rattle.hsr_node.specs.declared.event.Event.{Event}
use Rattle.hsr_node.specs.declared.event.Event.TheVariants as event
use Rattle.hsr_node.specs.declared.event.Outcome.{Outcome}
use Rattle.hsr_node.specs.declared.event.StepFault.{StepFault}
use Rattle.hsr_topology.specs.Links.{is_same_end}
use Rattle.hsr_run_laws.specs.Run.{record_in}
use Rattle.hsr_topology.specs.declared.end.End.{End}
use Rattle.hsr_world_laws.specs.Spans.{Span, Lane, Spot, held_in, lane_of, lanes_of, spot_from}
use Rattle.hsr_world_laws.specs.World.{World, and_added, cleared, entered, has_link, has_node, has_port, injected_at, judged_at, span_at, or_same, owner_at, planned, put_at, put_from, record_at, run, take_to, taken_by, tried, with_span}
use Rattle.hsr_topology.specs.Workers.{port_worker}
use Rattle.hsr_world_steps.specs.declared.step.Step.{Step}
use Rattle.hsr_world_steps.specs.declared.step.Step.TheVariants.{Clock, Send, Supervise, Age, Put, Take, Judge, Cut, Mend, Inject}
use Rattle.hsr_world_steps.specs.declared.step.WorldFault.{WorldFault}
use Rattle.hsr_world_steps.specs.declared.step.WorldFault.TheVariants.{TooLong}
use Rattle.hsr_world_laws.proofs.Keeps.{entry_of, keeps, node_below}
use Rattle.hsr_world_laws.proofs.Wires.{Wire, step_keeps, wire}
use Rattle.hsr_world_laws.specs.Law.{IsSound}

-- a lane ends there
abbrev pub leads_to : End → Wire → Bool
leads_to end e = is_same_end e.1 end || is_same_end e.3 end

abbrev pub is_led_to : List Wire → End → Bool
is_led_to wires end = list_any (leads_to end) wires

abbrev pub IsLinked : List Wire → List (List Entry) → Type 0
IsLinked wires records = (n port : ℕ) → (is_led_to wires (record { node = n; port = port }) ≡ true) ⊎ (arrivals port (record_in records n) ≡ [])

held_leads : (end : End) (spans : List Span) (c : Carried) → held_in end (lanes_of spans) ≡ Some c → is_led_to (map wire spans) end ≡ true
held_leads end [] c h = absurd cc
held_leads end (span ∷ spans) c h = by_case (is_same_end span.forth.to end) (is_same_end span.back.to end) h (λ e. held_leads end spans c e)
  where
    by_case : (f b : Bool) → (if f then span.forth.hand else (if b then span.back.hand else held_in end (lanes_of spans))) ≡ Some c →
        (held_in end (lanes_of spans) ≡ Some c → is_led_to (map wire spans) end ≡ true) → ((f || b) || is_led_to (map wire spans) end) ≡ true
    by_case true b h rest = refl
    by_case false true h rest = refl
    by_case false false h rest = rest h

-- an entry more
linked_added : (wires : List Wire) (records : List (List Entry)) (n : ℕ) (x : Entry) → n < length records → ((port : ℕ) (c : Carried) → x.event ≡ event.Arrive port c → is_led_to wires (record { node = n; port = port }) ≡ true) →
    IsLinked wires records → IsLinked wires (set records n (x ∷ record_in records n))
linked_added wires records n x below came h m port = ⊎_elim
    (λ same. let at = eqb-true m n same in
    subst (λ k. (is_led_to wires (record { node = k; port = port }) ≡ true) ⊎ (arrivals port (record_in (set records n (x ∷ record_in records n)) k) ≡ [])) (sym at)
    (by_event x.event came (h n port)))
    (λ other. ⊎_elim inl
    (λ none. inr (ap (arrivals port) (get_or-set_other records n m (x ∷ record_in records n) [] (λ s. false≢true (sym other ∙ eq-eqb m n s))) ∙ none))
    (h m port))
    (cases_Bool (m == n))
  where
    Goal : Type 0
    Goal = (is_led_to wires (record { node = n; port = port }) ≡ true) ⊎ (arrivals port (record_in (set records n (x ∷ record_in records n)) n) ≡ [])

    here : (o : Option Carried) → o ≡ copy_at port x.event → cons_option o (arrivals port (record_in records n)) ≡ [] → arrivals port (record_in (set records n (x ∷ record_in records n)) n) ≡ []
    here o e f = ap (arrivals port) (get_or-set_same records n (x ∷ record_in records n) [] below) ∙ (ap (λ v. cons_option v (arrivals port (record_in records n))) (sym e) ∙ f)

    by_copy : (o : Option Carried) → o ≡ copy_at port x.event → ((c : Carried) → o ≡ Some c → is_led_to wires (record { node = n; port = port }) ≡ true) →
        (is_led_to wires (record { node = n; port = port }) ≡ true) ⊎ (arrivals port (record_in records n) ≡ []) →
        (is_led_to wires (record { node = n; port = port }) ≡ true) ⊎ (arrivals port (record_in (set records n (x ∷ record_in records n)) n) ≡ [])
    by_copy None e f old = ⊎_elim inl (λ none. inr (here None e none)) old
    by_copy (Some c) e f old = inl (f c refl)

    came_at : (e : Event) → ((q : ℕ) (c : Carried) → e ≡ event.Arrive q c → is_led_to wires (record { node = n; port = q }) ≡ true) → (c : Carried) → copy_at port e ≡ Some c → is_led_to wires (record { node = n; port = port }) ≡ true
    came_at (event.Send from dst vlan ethertype payload) f c h = absurd cc
    came_at (event.Supervise about) f c h = absurd cc
    came_at event.Age f c h = absurd cc
    came_at (event.Arrive q d) f c h = by_port (q == port) (eqb-true q port) h
      where
        by_port : (b : Bool) → (b ≡ true → q ≡ port) → (if b then Some d else None) ≡ Some c → is_led_to wires (record { node = n; port = port }) ≡ true
        by_port true same h = subst (λ p. is_led_to wires (record { node = n; port = p }) ≡ true) (same refl) (f q d refl)
        by_port false same h = absurd cc

    by_event : (e : Event) → ((q : ℕ) (c : Carried) → x.event ≡ event.Arrive q c → is_led_to wires (record { node = n; port = q }) ≡ true) →
        (is_led_to wires (record { node = n; port = port }) ≡ true) ⊎ (arrivals port (record_in records n) ≡ []) →
        (is_led_to wires (record { node = n; port = port }) ≡ true) ⊎ (arrivals port (record_in (set records n (x ∷ record_in records n)) n) ≡ [])
    by_event e f old = by_copy (copy_at port x.event) refl (λ c h. came_at x.event f c h) old

linked_entered : (capacity : ℕ) (wires : List Wire) (v w : World) (worker n : ℕ) (e : Event) → n < length w.records →
    ((port : ℕ) (c : Carried) → e ≡ event.Arrive port c → is_led_to wires (record { node = n; port = port }) ≡ true) → IsLinked wires w.records → IsLinked wires v.records →
    IsLinked wires (or_same v (entered capacity w worker n e)).records
linked_entered capacity wires v w worker n e below came h before = by_case (answer capacity (owner_at w n) (record_at w n) (max (now (record_at w n)) w.moment) e)
  where
    by_case : (r : Result Outcome StepFault) → IsLinked wires (or_same v (and_added w worker n e r)).records
    by_case (Err fault) = before
    by_case (Ok o) = linked_added wires w.records n (entry_of w worker e o) below came h

linked_judged : (capacity : ℕ) (w : World) (end : End) → end.node < length w.records → IsLinked (map wire w.spans) w.records →
    IsLinked (map wire w.spans) (or_same w (judged_at capacity w end (held_in end (lanes_of w.spans)))).records
linked_judged capacity w end below h = by_case (held_in end (lanes_of w.spans)) refl
  where
    port_is : (m k : ℕ) (x y : Carried) → event.Arrive m x ≡ event.Arrive k y → m ≡ k
    port_is m k x y e = cc

    by_case : (held : Option Carried) → held_in end (lanes_of w.spans) ≡ held → IsLinked (map wire w.spans) (or_same w (judged_at capacity w end held)).records
    by_case None e = h
    by_case (Some c) e =
        linked_entered capacity (map wire w.spans) w (cleared w end) (port_worker end) end.node (event.Arrive end.port c) below
        (λ port d is. subst (λ p. is_led_to (map wire w.spans) (record { node = end.node; port = p }) ≡ true) (port_is end.port port c d is) (held_leads end w.spans c e)) h h

-- the steps on links do nothing at a node
pub same_put : (w : World) (spot : Option Spot) → (or_same w (put_at w spot)).records ≡ w.records
same_put w None = refl
same_put w (Some s) = by_case (lane_of s.dir (span_at w s.link)).outbox
  where
    by_case : (box : List Carried) → (or_same w (put_from w s box)).records ≡ w.records
    by_case [] = refl
    by_case (c ∷ cs) = refl

pub same_take : (w : World) (l : ℕ) (dir : Dir) (hand : Option Carried) → (or_same w (take_to w l dir hand)).records ≡ w.records
same_take w l dir (Some held) = refl
same_take w l dir None = of_queue (first_copy dir (span_at w l).link.rows)
  where
    of_queue : (first : Option Carried) → (or_same w (taken_by w l dir (first, (take_step (span_at w l).link dir).1))).records ≡ w.records
    of_queue None = refl
    of_queue (Some c) = refl

pub same_injected : (w : World) (l : ℕ) (dir : Dir) (octets : List ℕ) → (or_same w (injected_at w l dir octets)).records ≡ w.records
same_injected w l dir octets = by_case (nat_lt 2048 (length octets))
  where
    by_case : (b : Bool) → (or_same w (if b then Err TooLong else Ok (with_span w l (Rattle.hsr_world_laws.specs.Spans.with_link (inject_step (span_at w l).link dir (record { probe = None; octets = octets })).1 (span_at w l))))).records ≡ w.records
    by_case true = refl
    by_case false = refl

met : (wires : List Wire) (w : World) (b : Bool) (r : Result World WorldFault) (f : WorldFault) → IsLinked wires w.records → (b ≡ true → IsLinked wires (or_same w r).records) → IsLinked wires (or_same w (if b then r else Err f)).records
met wires w true r f h k = k refl
met wires w false r f h k = h

unchanged : (wires : List Wire) (old new : List (List Entry)) → new ≡ old → IsLinked wires old → IsLinked wires new
unchanged wires old new e h = subst (IsLinked wires) (sym e) h

linked_step : (capacity : ℕ) (w : World) (step : Step) → IsSound capacity w → IsLinked (map wire w.spans) w.records → IsLinked (map wire w.spans) (or_same w (tried capacity w step)).records
unfolding tried
linked_step capacity w (Clock at) s h = h
linked_step capacity w (Send n from dst vlan ethertype payload) s h =
    met _ w (has_node w n) _ _ h (λ e. linked_entered capacity _ w (planned w n (event.Send from dst vlan ethertype payload)) 0 n (event.Send from dst vlan ethertype payload) (node_below capacity w n s e) (λ x c e. absurd (cc)) h h)
linked_step capacity w (Supervise n about) s h =
    met _ w (has_node w n) _ _ h (λ e. linked_entered capacity _ w (planned w n (event.Supervise about)) 0 n (event.Supervise about) (node_below capacity w n s e) (λ x c e. absurd (cc)) h h)
linked_step capacity w (Age n) s h = met _ w (has_node w n) _ _ h (λ e. linked_entered capacity _ w (planned w n event.Age) 0 n event.Age (node_below capacity w n s e) (λ x c e. absurd (cc)) h h)
linked_step capacity w (Put n port) s h =
    met _ w (has_node w n) _ _ h (λ e. met _ w (has_port w n port) _ _ h (λ f. unchanged _ w.records _ (same_put w (spot_from (record { node = n; port = port }) 0 w.spans)) h))
linked_step capacity w (Take l dir) s h = met _ w (has_link w l) _ _ h (λ e. unchanged _ w.records _ (same_take w l dir (lane_of dir (span_at w l)).hand) h)
linked_step capacity w (Judge n port) s h =
    met _ w (has_node w n) _ _ h (λ e. met _ w (has_port w n port) _ _ h (λ f. linked_judged capacity w (record { node = n; port = port }) (node_below capacity w n s e) h))
linked_step capacity w (Cut l) s h = met _ w (has_link w l) _ _ h (λ e. h)
linked_step capacity w (Mend l) s h = met _ w (has_link w l) _ _ h (λ e. h)
linked_step capacity w (Inject l dir octets) s h = met _ w (has_link w l) _ _ h (λ e. unchanged _ w.records _ (same_injected w l dir octets) h)

pub linked_run : (capacity : ℕ) (steps : List Step) (w : World) → IsSound capacity w → IsLinked (map wire w.spans) w.records → IsLinked (map wire (run capacity steps w).spans) (run capacity steps w).records
linked_run capacity [] w s h = h
linked_run capacity (step ∷ steps) w s h =
    let after = or_same w (tried capacity w step) in
    linked_run capacity steps (or_same w (tried capacity w step)) (keeps capacity w step s)
    (subst (λ wires. IsLinked wires after.records) (sym (step_keeps capacity w step).wires) (linked_step capacity w step s h))
