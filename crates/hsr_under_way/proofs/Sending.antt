-- Of which sends copies are under way behind a step.
use Rattle.std.proofs.Common.{◌≡◌, ◌⊎◌, inl, inr, ℕ, max, Bool, true, false, List, [], ◌∷◌, ◌++◌, length, map, Option, Some, None, Result, Ok, refl, sym, ap, ◌∙◌, subst, ⊎_elim}
use Rattle.std.specs.Prelude.{option_to_list}
use Rattle.std.specs.List.{list_any}
use Rattle.std.proofs.lemmas.Bool.{cases_Bool, false≢true, or_cases, or_left}
use Rattle.hsr_link.specs.Rows.{first_copy, turned}
use Rattle.hsr_link.specs.declared.row.Dir.{Dir}
use Rattle.hsr_link.specs.declared.row.Dir.TheVariants.{Forth, Back}
use Rattle.hsr_link.specs.declared.row.Fate.TheVariants.{Taken}
use Rattle.hsr_link.specs.declared.row.Row.{Row}
use Rattle.hsr_node.specs.Copies.{ports_of}
use Rattle.hsr_node.specs.Flow.{pass_of}
use Rattle.hsr_node.specs.Record.{Owner, answer, has_port, now, probe_handled}
use Rattle.hsr_node.specs.declared.entry.Entry.{Entry}
use Rattle.hsr_node.specs.declared.event.Carried.{Carried}
use Rattle.hsr_node.specs.declared.event.Event.{Event}
use Rattle.hsr_node.specs.declared.event.Event.TheVariants as event
use Rattle.hsr_node.specs.declared.event.Outcome.{Outcome}
use Rattle.hsr_node.specs.declared.event.Outcome.TheVariants.{Aged}
use Rattle.hsr_node.specs.declared.event.Probe.{Probe}
use Rattle.hsr_run_laws.specs.Once.{is_copy}
use Rattle.hsr_run_laws.specs.Run.{is_of}
use Rattle.hsr_run_laws.proofs.NoStorm.{IsPassOf, new_pass}
use Rattle.hsr_run_laws.proofs.Same.{probe_is}
use Rattle.hsr_world_laws.specs.Spans.{Lane, Span, emptied, on_lanes}
use Rattle.hsr_world_laws.specs.World.{World, owner_at, record_at, span_at, span_in}
use Rattle.hsr_world_steps.specs.declared.step.Step.{Step}
use Rattle.hsr_world_steps.specs.declared.step.Step.TheVariants.{Clock, Send, Supervise, Age, Put, Take, Judge, Cut, Mend, Inject}
use Rattle.hsr_plays.specs.Plays.{in_lane, in_span, in_spans, queued_copy}
use Rattle.hsr_under_way.specs.StepsOn.{IsSentBy, is_under_way}
use Rattle.hsr_under_way.proofs.Kept.{Gives, cut_less, emptied_less, held_any, put_less, replaced, spread_less, take_less}
use Rattle.hsr_under_way.proofs.Places.{cut_span, mend_span, no_span, put_span, take_span}
use Rattle.hsr_under_way.proofs.Shapes.{Asks, Brings, Cuts, Judges, Mends, Puts, Shape, Takes, brings, cuts, judges, mends, puts, takes, ticks}

-- ---- an entry

-- what leaves is of the entry's send, if that is another none of it leaves
gives_none : (owner : Owner) (x : Entry) (past : List Entry) (send : Probe) → is_of send (probe_handled (record { node = owner.number; place = length past }) x.event) ≡ false → Gives (is_copy send) owner x past
gives_none owner x past send other port c is mine = by_pass (new_pass owner port x past)
  where
    by_pass : ((pass_of owner port x past ≡ None) ⊎ ((copy : Carried) × (pass_of owner port x past ≡ Some copy) × IsPassOf owner port x past copy)) → ⊥
    by_pass (inl none) = let both : None ≡ Some c = sym none ∙ is in absurd cc
    by_pass (inr (copy, found, pass)) =
        let both : Some copy ≡ Some c = sym found ∙ is in
        let same : copy ≡ c = cc in
        let probe : c.probe ≡ probe_handled (record { node = owner.number; place = length past }) x.event = ap (λ (k : Carried). k.probe) (sym same) ∙ pass.probe in
        false≢true (sym other ∙ (ap (is_of send) (sym probe) ∙ mine))

-- nothing leaves of what ages
aged_none : (owner : Owner) (x : Entry) (past : List Entry) (send : Probe) → x.outcome ≡ Aged → Gives (is_copy send) owner x past
aged_none owner x past send aged port c is mine = by_pass (new_pass owner port x past)
  where
    by_pass : ((pass_of owner port x past ≡ None) ⊎ ((copy : Carried) × (pass_of owner port x past ≡ Some copy) × IsPassOf owner port x past copy)) → ⊥
    by_pass (inl none) = let both : None ≡ Some c = sym none ∙ is in absurd cc
    by_pass (inr (copy, found, pass)) = false≢true (ap (λ o. has_port (ports_of o) port) (sym aged) ∙ pass.left)

-- ---- a step

module _ (capacity : ℕ) (w : World) (send : Probe) where
  abbrev Was : Type 0
  Was = is_under_way send w ≡ true

  -- one span is changed, which has none that it hadn't
  by_span : (after : World) (l : ℕ) (span : Span) → after.spans ≡ Rattle.std.proofs.Common.set w.spans l span → (list_any (is_copy send) (in_span span) ≡ true → list_any (is_copy send) (in_span (span_at w l)) ≡ true) →
      is_under_way send after ≡ true → Was
  by_span after l span are less h = replaced (is_copy send) w.spans l no_span span less (ap (λ spans. list_any (is_copy send) (in_spans spans)) (sym are) ∙ h)

  asked : (step : Step) (k : ℕ) (e : Event) → Asks step k e → (outcome : Outcome) → answer capacity (owner_at w k) (record_at w k) (max (now (record_at w k)) w.moment) e ≡ Ok outcome →
      is_of send (probe_handled (record { node = k; place = length (record_at w k) }) e) ≡ true → IsSentBy w step send ⊎ (outcome ≡ Aged)
  asked (Send n from dst vlan ethertype payload) k e asks outcome ok mine = inl (sent n k asks.0 (ap (probe_handled (record { node = k; place = length (record_at w k) })) asks.1) mine)
    where
      sent : (n k : ℕ) → k ≡ n → probe_handled (record { node = k; place = length (record_at w k) }) e ≡ Some (record { node = k; place = length (record_at w k) }) →
          is_of send (probe_handled (record { node = k; place = length (record_at w k) }) e) ≡ true → send ≡ record { node = n; place = length (record_at w n) }
      sent n k same is mine =
          let here : Probe = record { node = k; place = length (record_at w k) } in
          let both : Some here ≡ Some send = sym is ∙ probe_is send (probe_handled here e) mine in
          let equal : send ≡ here = cc in
          equal ∙ ap (λ m. let q : Probe = record { node = m; place = length (record_at w m) } in q) same
  asked (Supervise n about) k e asks outcome ok mine =
      let here : Probe = record { node = k; place = length (record_at w k) } in
      let both : Some here ≡ Some send = sym (ap (probe_handled here) asks.1) ∙ probe_is send (probe_handled here e) mine in
      let equal : send ≡ here = cc in
      inl (equal ∙ ap (λ m. let q : Probe = record { node = m; place = length (record_at w m) } in q) asks.0)
  asked (Age n) k e asks outcome ok mine =
      let aged : Ok Aged ≡ Ok outcome = ap (answer capacity (owner_at w k) (record_at w k) (max (now (record_at w k)) w.moment)) (sym asks.1) ∙ ok in
      let same : Aged ≡ outcome = cc in
      inr (sym same)
  asked (Clock t) k e asks outcome ok mine = absurd asks
  asked (Put n port) k e asks outcome ok mine = absurd asks
  asked (Take l dir) k e asks outcome ok mine = absurd asks
  asked (Judge n port) k e asks outcome ok mine = absurd asks
  asked (Cut l) k e asks outcome ok mine = absurd asks
  asked (Mend l) k e asks outcome ok mine = absurd asks
  asked (Inject l dir octets) k e asks outcome ok mine = absurd asks

  pub kept_step : (step : Step) (after : World) → Shape capacity w step after → is_under_way send after ≡ true → (is_under_way send w ≡ true) ⊎ IsSentBy w step send
  kept_step step after (ticks t) h = inl (ap (λ (v : World). list_any (is_copy send) (in_spans v.spans)) (sym t.is) ∙ h)
  kept_step step after (brings b) h =
      let x : Entry = record { worker = 0; at = w.moment; event = b.event; outcome = b.outcome } in
      let past = record_at w b.node in
      let there = ap (λ (v : World). list_any (is_copy send) (in_spans v.spans)) (sym b.is) ∙ h in
      ⊎_elim
      (λ mine. ⊎_elim (λ sent. inr sent) (λ aged. inl (spread_less (is_copy send) (owner_at w b.node) x past (aged_none (owner_at w b.node) x past send aged) w.spans there))
      (asked step b.node b.event b.asks b.outcome b.answered mine))
      (λ other. inl (spread_less (is_copy send) (owner_at w b.node) x past (gives_none (owner_at w b.node) x past send other) w.spans there))
      (cases_Bool (is_of send (probe_handled (record { node = b.node; place = length past }) b.event)))
  kept_step step after (judges j) h =
      let x : Entry = record { worker = Rattle.hsr_topology.specs.Workers.port_worker j.end; at = w.moment; event = event.Arrive j.end.port j.copy; outcome = j.outcome } in
      let past = record_at w j.end.node in
      let there = ap (λ (v : World). list_any (is_copy send) (in_spans v.spans)) (sym j.is) ∙ h in
      inl
      (⊎_elim
      (λ mine. held_any (is_copy send) j.end j.copy w.spans j.held mine)
      (λ other. emptied_less (is_copy send) j.end w.spans (spread_less (is_copy send) (owner_at w j.end.node) x past (gives_none (owner_at w j.end.node) x past send other) (map (on_lanes (emptied j.end)) w.spans) there))
      (cases_Bool (is_copy send j.copy)))
  kept_step step after (puts p) h =
      inl (by_span after p.spot.link (put_span p.spot.dir p.copy p.box (span_at w p.spot.link)) (ap (λ (v : World). v.spans) p.is) (λ here. put_less (is_copy send) p.spot.dir (span_at w p.spot.link) p.copy p.box p.waits here) h)
  kept_step step after (takes t) h =
      inl (by_span after t.link (take_span t.dir t.copy (span_at w t.link)) (ap (λ (v : World). v.spans) t.is) (λ here. take_less (is_copy send) t.dir (span_at w t.link) t.copy t.first here) h)
  kept_step step after (cuts c) h =
      inl (by_span after c.link (cut_span (span_at w c.link)) (ap (λ (v : World). v.spans) c.is) (λ here. cut_less (is_copy send) (span_at w c.link) here) h)
  kept_step step after (mends m) h = inl (by_span after m.link (mend_span (span_at w m.link)) (ap (λ (v : World). v.spans) m.is) (λ here. here) h)
