-- Each step keeps that the plan is what the records tell of the main worker.
use Rattle.std.proofs.Common.{◌≡◌, ℕ, ◌<◌, ◌==◌, nat_lt, max, Bool, true, false, List, [], ◌∷◌, ◌++◌, filter_map, map, reverse, set, length, Option, Some, None, Result, Ok, Err, refl, sym, ap, ◌∙◌, subst, arith, eqb-true, eq-eqb, ne_eqb, ⊎_elim, zero, suc}
use Rattle.std.specs.Prelude.{if◌then◌else◌, slice_index_or}
use Rattle.std.specs.List.{AllByRecursion, cons_option}
use Rattle.std.proofs.lemmas.Bool.{false≢true, cases_Bool, ltb-true}
use Rattle.std.proofs.lemmas.List.{append-nil, get_or-set_same, get_or-set_other, length-map, length-set, reverse-append}
use Rattle.std.proofs.lemmas.List.Elements.{All-from_recursion, filter_map-append}
use Rattle.hsr_link.specs.Link.{inject_step, take_step}
use Rattle.hsr_link.specs.Rows.{first_copy}
use Rattle.hsr_link.specs.declared.row.Dir.{Dir}
use Rattle.hsr_node.specs.Record.{answer, now}
use Rattle.hsr_node.specs.declared.entry.Entry.{Entry}
use Rattle.hsr_node.specs.declared.event.Carried.{Carried}
use Rattle.hsr_node.specs.declared.event.Event.{Event}
use Rattle.hsr_node.specs.declared.event.Event.TheVariants as event
use Rattle.hsr_node.specs.declared.event.Outcome.{Outcome}
use Rattle.hsr_node.specs.declared.event.StepFault.{StepFault}
use Rattle.hsr_node.specs.declared.place.Place.{Place}
use Rattle.hsr_finished_run.specs.Finished.{planned_by, planned_for}
use Rattle.hsr_run_laws.specs.Run.{record_in}
use Rattle.hsr_topology.specs.declared.end.End.{End}
use Rattle.hsr_finished_run.specs.declared.planned.Planned.{Planned}
use Rattle.hsr_world_laws.specs.Closing.{AlwaysPlanned}
use Rattle.hsr_world_laws.specs.Spans.{Spot, held_in, lane_of, lanes_of, spot_from, with_link}
use Rattle.hsr_world_laws.specs.World.{World, and_added, cleared, entered, has_link, has_node, has_port, injected_at, judged_at, span_at, new_world, or_same, owner_at, planned, put_at, put_from, record_at, run, take_to, taken_by, tried, with_span}
use Rattle.hsr_topology.specs.Workers.{port_worker}
use Rattle.hsr_world_steps.specs.declared.step.Step.{Step}
use Rattle.hsr_world_steps.specs.declared.step.Step.TheVariants.{Clock, Send, Supervise, Age, Put, Take, Judge, Cut, Mend, Inject}
use Rattle.hsr_world_steps.specs.declared.step.WorldFault.{WorldFault}
use Rattle.hsr_world_steps.specs.declared.step.WorldFault.TheVariants.{TooLong}
use Rattle.hsr_world_laws.proofs.First.{no_entries}
use Rattle.hsr_world_laws.proofs.Keeps.{entry_of}

pub record Plans (w : World) : Type 0 where
  pub counted : length w.records ≡ length w.places
  pub nodes : AllByRecursion (λ (p : Planned). p.node < length w.places) w.plan
  pub each : (k : ℕ) → filter_map (planned_for k) w.plan ≡ filter_map (planned_by k) (reverse (record_in w.records k))

-- ---- lists

newest_last : (x : Entry) (past : List Entry) → reverse (x ∷ past) ≡ reverse past ++ x ∷ []
newest_last x past = reverse-append (x ∷ []) past

all_last : (n : ℕ) (ps : List Planned) (p : Planned) → AllByRecursion (λ (q : Planned). q.node < n) ps → p.node < n → AllByRecursion (λ (q : Planned). q.node < n) (ps ++ p ∷ [])
all_last n [] p all h = (h, tt)
all_last n (q ∷ ps) p all h = (all.0, all_last n ps p all.1 h)

-- ---- an entry is added

-- by the main worker
told_main : (plan : List Planned) (past : List Entry) (n k : ℕ) (x : Entry) → k ≡ n → x.worker ≡ 0 → filter_map (planned_for k) plan ≡ filter_map (planned_by k) (reverse past) →
    filter_map (planned_for k) (plan ++ record { node = n; at = x.at; event = x.event } ∷ []) ≡ filter_map (planned_by k) (reverse (x ∷ past))
told_main plan past n k x same main h =
    let p : Planned = record { node = n; at = x.at; event = x.event } in
    let here : planned_for k (record { node = n; at = x.at; event = x.event }) ≡ Some (record { node = n; at = x.at; event = x.event }) =
    ap (λ b. if b then Some p else None) (eq-eqb n k (sym same)) in
    let there : planned_by k x ≡ Some (record { node = n; at = x.at; event = x.event }) =
    ap (λ b. if b then Some (let q : Planned = record { node = k; at = x.at; event = x.event } in q) else None) (eq-eqb x.worker 0 main)
    ∙ ap (λ m. Some (let q : Planned = record { node = m; at = x.at; event = x.event } in q)) same in
    filter_map-append (planned_for k) plan (p ∷ [])
    ∙ (ap (λ o. filter_map (planned_for k) plan ++ cons_option o []) here
    ∙ (ap (λ ps. ps ++ p ∷ []) h
    ∙ (ap (λ o. filter_map (planned_by k) (reverse past) ++ cons_option o []) (sym there)
    ∙ (sym (filter_map-append (planned_by k) (reverse past) (x ∷ []))
    ∙ ap (filter_map (planned_by k)) (sym (newest_last x past))))))

-- what is planned for another node
told_other : (plan : List Planned) (n k : ℕ) (at : ℕ) (e : Event) → (n ≡ k → ⊥) → filter_map (planned_for k) (plan ++ record { node = n; at = at; event = e } ∷ []) ≡ filter_map (planned_for k) plan
told_other plan n k at e other =
    let p : Planned = record { node = n; at = at; event = e } in
    filter_map-append (planned_for k) plan (p ∷ [])
    ∙ (ap (λ b. filter_map (planned_for k) plan ++ cons_option (if b then Some p else None) []) (ne_eqb n k other)
    ∙ append-nil (filter_map (planned_for k) plan))

-- by the worker of a port
told_port : (past : List Entry) (k : ℕ) (x : Entry) → (x.worker == 0) ≡ false → filter_map (planned_by k) (reverse (x ∷ past)) ≡ filter_map (planned_by k) (reverse past)
told_port past k x port =
    ap (filter_map (planned_by k)) (newest_last x past)
    ∙ (filter_map-append (planned_by k) (reverse past) (x ∷ [])
    ∙ (ap (λ b. filter_map (planned_by k) (reverse past) ++ cons_option (if b then Some (let q : Planned = record { node = k; at = x.at; event = x.event } in q) else None) []) port
    ∙ append-nil (filter_map (planned_by k) (reverse past))))

not_main : (end : End) → (port_worker end == 0) ≡ false
not_main end = ne_eqb (port_worker end) 0 (λ e. absurd (omega (arith, e)))

plans_main : (capacity : ℕ) (w : World) (n : ℕ) (e : Event) → n < length w.places → Plans w → Plans (or_same w (entered capacity (planned w n e) 0 n e))
plans_main capacity w n e below h = by_case (answer capacity (owner_at w n) (record_at w n) (max (now (record_at w n)) w.moment) e)
  where
    by_case : (r : Result Outcome StepFault) → Plans (or_same w (and_added (planned w n e) 0 n e r))
    by_case (Err fault) = h
    by_case (Ok o) =
        let x : Entry = entry_of w 0 e o in
        let counted = h.counted in
        let inside : n < length w.records = omega (arith, below, counted) in
        record {
          counted = length-set w.records n (x ∷ record_at w n) ∙ h.counted;
          nodes = all_last (length w.places) w.plan (record { node = n; at = w.moment; event = e }) h.nodes below;
          each = λ k. ⊎_elim
              (λ same. let at = eqb-true k n same in
              told_main w.plan (record_at w n) n k x at refl (h.each k ∙ ap (λ m. filter_map (planned_by k) (reverse (record_in w.records m))) at)
              ∙ ap (λ past. filter_map (planned_by k) (reverse past)) (sym (ap (record_in (set w.records n (x ∷ record_at w n))) at ∙ get_or-set_same w.records n (x ∷ record_at w n) [] inside)))
              (λ other. let away : n ≡ k → ⊥ = λ s. false≢true (sym other ∙ eq-eqb k n (sym s)) in
              told_other w.plan n k w.moment e away
              ∙ (h.each k ∙ ap (λ past. filter_map (planned_by k) (reverse past)) (sym (get_or-set_other w.records n k (x ∷ record_at w n) [] (λ s. away (sym s))))))
              (cases_Bool (k == n));
        }

plans_judged : (capacity : ℕ) (w : World) (end : End) (held : Option Carried) → end.node < length w.places → Plans w → Plans (or_same w (judged_at capacity w end held))
plans_judged capacity w end None below h = h
plans_judged capacity w end (Some c) below h = by_case (answer capacity (owner_at w end.node) (record_at w end.node) (max (now (record_at w end.node)) w.moment) (event.Arrive end.port c))
  where
    by_case : (r : Result Outcome StepFault) → Plans (or_same w (and_added (cleared w end) (port_worker end) end.node (event.Arrive end.port c) r))
    by_case (Err fault) = h
    by_case (Ok o) =
        let x : Entry = entry_of w (port_worker end) (event.Arrive end.port c) o in
        let n : ℕ = end.node in
        let counted = h.counted in
        let inside : end.node < length w.records = omega (arith, below, counted) in
        record {
          counted = length-set w.records end.node (x ∷ record_at w end.node) ∙ h.counted;
          nodes = h.nodes;
          each = λ k. ⊎_elim
              (λ same. let at = eqb-true k end.node same in
              (h.each k ∙ ap (λ m. filter_map (planned_by k) (reverse (record_in w.records m))) at)
              ∙ (sym (told_port (record_at w end.node) k x (not_main end))
              ∙ ap (λ past. filter_map (planned_by k) (reverse past))
              (sym (ap (record_in (set w.records end.node (x ∷ record_at w end.node))) at ∙ get_or-set_same w.records end.node (x ∷ record_at w end.node) [] inside))))
              (λ other.
              h.each k
              ∙ ap (λ past. filter_map (planned_by k) (reverse past)) (sym (get_or-set_other w.records end.node k (x ∷ record_at w end.node) [] (λ s. false≢true (sym other ∙ eq-eqb k end.node s)))))
              (cases_Bool (k == end.node));
        }

-- ---- the steps on links

plans_put : (w : World) (spot : Option Spot) → Plans w → Plans (or_same w (put_at w spot))
plans_put w None h = h
plans_put w (Some s) h = by_case (lane_of s.dir (span_at w s.link)).outbox
  where
    by_case : (box : List Carried) → Plans (or_same w (put_from w s box))
    by_case [] = h
    by_case (c ∷ cs) = record { counted = h.counted; nodes = h.nodes; each = h.each }

plans_take : (w : World) (l : ℕ) (dir : Dir) (hand : Option Carried) → Plans w → Plans (or_same w (take_to w l dir hand))
plans_take w l dir (Some held) h = h
plans_take w l dir None h = of_queue (first_copy dir (span_at w l).link.rows)
  where
    of_queue : (first : Option Carried) → Plans (or_same w (taken_by w l dir (first, (take_step (span_at w l).link dir).1)))
    of_queue None = h
    of_queue (Some c) = record { counted = h.counted; nodes = h.nodes; each = h.each }

plans_injected : (w : World) (l : ℕ) (dir : Dir) (octets : List ℕ) → Plans w → Plans (or_same w (injected_at w l dir octets))
plans_injected w l dir octets h = by_case (nat_lt 2048 (length octets))
  where
    by_case : (b : Bool) → Plans (or_same w (if b then Err TooLong else Ok (with_span w l (with_link (inject_step (span_at w l).link dir (record { probe = None; octets = octets })).1 (span_at w l)))))
    by_case true = h
    by_case false = record { counted = h.counted; nodes = h.nodes; each = h.each }

-- ---- any step

met : (w : World) (b : Bool) (r : Result World WorldFault) (f : WorldFault) → Plans w → (b ≡ true → Plans (or_same w r)) → Plans (or_same w (if b then r else Err f))
met w true r f h k = k refl
met w false r f h k = h

plans_step : (capacity : ℕ) (w : World) (s : Step) → Plans w → Plans (or_same w (tried capacity w s))
unfolding tried
plans_step capacity w (Clock at) h = record { counted = h.counted; nodes = h.nodes; each = h.each }
plans_step capacity w (Send n from dst vlan ethertype payload) h = met w (has_node w n) _ _ h (λ e. plans_main capacity w n (event.Send from dst vlan ethertype payload) (ltb-true n (length w.places) e) h)
plans_step capacity w (Supervise n about) h = met w (has_node w n) _ _ h (λ e. plans_main capacity w n (event.Supervise about) (ltb-true n (length w.places) e) h)
plans_step capacity w (Age n) h = met w (has_node w n) _ _ h (λ e. plans_main capacity w n event.Age (ltb-true n (length w.places) e) h)
plans_step capacity w (Put n port) h = met w (has_node w n) _ _ h (λ e. met w (has_port w n port) _ _ h (λ f. plans_put w (spot_from (record { node = n; port = port }) 0 w.spans) h))
plans_step capacity w (Take l dir) h = met w (has_link w l) _ _ h (λ e. plans_take w l dir (lane_of dir (span_at w l)).hand h)
plans_step capacity w (Judge n port) h =
    met w (has_node w n) _ _ h
    (λ e. met w (has_port w n port) _ _ h
    (λ f. plans_judged capacity w (record { node = n; port = port }) (held_in (record { node = n; port = port }) (lanes_of w.spans)) (ltb-true n (length w.places) e) h))
plans_step capacity w (Cut l) h = met w (has_link w l) _ _ h (λ e. record { counted = h.counted; nodes = h.nodes; each = h.each })
plans_step capacity w (Mend l) h = met w (has_link w l) _ _ h (λ e. record { counted = h.counted; nodes = h.nodes; each = h.each })
plans_step capacity w (Inject l dir octets) h = met w (has_link w l) _ _ h (λ e. plans_injected w l dir octets h)

plans_run : (capacity : ℕ) (steps : List Step) (w : World) → Plans w → Plans (run capacity steps w)
plans_run capacity [] w h = h
plans_run capacity (s ∷ steps) w h = plans_run capacity steps (or_same w (tried capacity w s)) (plans_step capacity w s h)

first_plans : (room : ℕ) (places : List Place) (links : List (List End)) → Plans (new_world room places links)
first_plans room places links = record {
  counted = length-map places (λ (place : Place). []);
  nodes = tt;
  each = λ k. sym (ap (λ past. filter_map (planned_by k) (reverse past)) (no_entries places k));
}

record_is : (records : List (List Entry)) (k : ℕ) → slice_index_or (map reverse records) k [] ≡ reverse (record_in records k)
record_is [] k = refl
record_is (past ∷ records) zero = refl
record_is (past ∷ records) (suc k) = record_is records k

pub always_planned : AlwaysPlanned
always_planned capacity places links w r =
    let h : Plans w = subst Plans r.is (plans_run capacity r.steps (new_world r.room places links) (first_plans r.room places links)) in
    record {
      nodes = All-from_recursion (λ (p : Planned). p.node < length w.places) w.plan h.nodes;
      each = λ k below. h.each k ∙ ap (filter_map (planned_by k)) (sym (record_is w.records k));
    }
