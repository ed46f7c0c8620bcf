-- Of which sends copies are lost behind a step, and on which links.
use Rattle.std.proofs.Common.{◌≡◌, ◌⊎◌, inl, inr, ℕ, ◌==◌, ◌&&◌, ◌||◌, Bool, true, false, if◌then◌else◌, List, [], ◌∷◌, ◌++◌, length, map, set, get_or, filter_map, count_by, Option, Some, None, refl, sym, ap, ◌∙◌, subst, ⊎_elim, zero, suc, eqb-true}
use Rattle.std.specs.Prelude.{option_to_list}
use Rattle.std.specs.List.{cons_option, list_any}
use Rattle.std.proofs.lemmas.Bool.{and_parts, and_from, false≢true, or_cases, or_left, or_right}
use Rattle.hsr_frame.specs.Cases.{first_of}
use Rattle.hsr_link.specs.Link.{Link, fate_of}
use Rattle.hsr_link.specs.Rows.{is_lost, is_queued, lost, put_fate, turned, waits, with_fate}
use Rattle.hsr_link.specs.declared.row.Dir.{Dir}
use Rattle.hsr_link.specs.declared.row.Dir.TheVariants.{Forth, Back}
use Rattle.hsr_link.specs.declared.row.Fate.{Fate}
use Rattle.hsr_link.specs.declared.row.Fate.TheVariants.{Queued, Taken, LostDown, LostCut, LostOverrun}
use Rattle.hsr_link.specs.declared.row.Row.{Row}
use Rattle.hsr_node.specs.declared.event.Carried.{Carried}
use Rattle.hsr_node.specs.declared.event.Probe.{Probe}
use Rattle.hsr_run_laws.specs.Once.{is_copy}
use Rattle.hsr_node.specs.declared.event.Event.TheVariants as event
use Rattle.hsr_topology.specs.Workers.{port_worker}
use Rattle.hsr_world_laws.specs.Spans.{Lane, Span, Spot, emptied, lane_of, on_lanes, spread}
use Rattle.hsr_world_laws.specs.World.{World, owner_at, record_at, span_at, span_in}
use Rattle.hsr_world_laws.proofs.Keeps.{entry_of}
use Rattle.hsr_world_steps.specs.declared.step.Step.{Step}
use Rattle.hsr_world_steps.specs.declared.step.Step.TheVariants.{Put}
use Rattle.hsr_plays.specs.Law.{is_overrun}
use Rattle.hsr_plays.specs.Plays.{in_lane, in_span, in_spans, queued_copy}
use Rattle.hsr_under_way.specs.StepsOn.{Overruns, has_overrun, is_lost_on, is_under_way}
use Rattle.hsr_under_way.proofs.Kept.{box_any, either_any, from_at, left_any, on_link, right_any}
use Rattle.hsr_under_way.proofs.Shapes.{Puts, Shape, brings, cuts, judges, mends, puts, takes, ticks}
use Rattle.hsr_under_way.proofs.Places.{cut_span, mapped_link, mend_span, no_span, put_span, set_cases, take_span}

-- ---- where a copy stands

-- what is on a link is under way
pub any_at : (p : Carried → Bool) (spans : List Span) (l : ℕ) → list_any p (in_span (span_in spans l)) ≡ true → list_any p (in_spans spans) ≡ true
any_at p [] l h = h
any_at p (x ∷ xs) zero h = left_any p (in_span x) (in_spans xs) h
any_at p (x ∷ xs) (suc l) h = right_any p (in_span x) (in_spans xs) (any_at p xs l h)

module _ (send : Probe) where
  abbrev is_lost_row : Row → Bool
  is_lost_row row = is_copy send row.carried && is_lost row.fate

  -- ---- rows

  -- what is taken isn't lost
  turned_lost : (dir : Dir) (rows : List Row) → list_any is_lost_row (turned Taken dir rows) ≡ true → list_any is_lost_row rows ≡ true
  turned_lost dir [] h = h
  turned_lost dir (row ∷ rows) h = by_test (waits dir row) h (turned_lost dir rows)
    where
      by_test : (b : Bool) → list_any is_lost_row (if b then with_fate Taken row ∷ rows else row ∷ turned Taken dir rows) ≡ true → (list_any is_lost_row (turned Taken dir rows) ≡ true → list_any is_lost_row rows ≡ true) →
          list_any is_lost_row (row ∷ rows) ≡ true
      by_test true h rest =
          ⊎_elim (λ here. absurd (false≢true (and_parts (is_copy send row.carried) false here).1)) (λ later. or_right (is_lost_row row) (list_any is_lost_row rows) later)
          (or_cases (is_copy send row.carried && false) (list_any is_lost_row rows) h)
      by_test false h rest =
          ⊎_elim (λ here. or_left (is_lost_row row) (list_any is_lost_row rows) here) (λ later. or_right (is_lost_row row) (list_any is_lost_row rows) (rest later))
          (or_cases (is_lost_row row) (list_any is_lost_row (turned Taken dir rows)) h)

  -- what a cut loses waited
  cut_lost : (rows : List Row) → list_any is_lost_row (map lost rows) ≡ true → (list_any is_lost_row rows ≡ true) ⊎ (list_any (is_copy send) (filter_map queued_copy rows) ≡ true)
  cut_lost [] h = inl h
  cut_lost (row ∷ rows) h =
      ⊎_elim (λ here. by_test (is_queued row.fate) refl here)
      (λ later. ⊎_elim (λ a. inl (or_right (is_lost_row row) (list_any is_lost_row rows) a)) (λ b. inr (more (queued_copy row) b)) (cut_lost rows later))
      (or_cases (is_lost_row (lost row)) (list_any is_lost_row (map lost rows)) h)
    where
      more : (o : Option Carried) → list_any (is_copy send) (filter_map queued_copy rows) ≡ true → list_any (is_copy send) (cons_option o (filter_map queued_copy rows)) ≡ true
      more None h = h
      more (Some c) h = or_right (is_copy send c) (list_any (is_copy send) (filter_map queued_copy rows)) h

      by_test : (b : Bool) → is_queued row.fate ≡ b → is_lost_row (if b then with_fate LostCut row else row) ≡ true →
          (list_any is_lost_row (row ∷ rows) ≡ true) ⊎ (list_any (is_copy send) (filter_map queued_copy (row ∷ rows)) ≡ true)
      by_test true is h =
          inr (subst (λ b. list_any (is_copy send) (cons_option (if b then Some row.carried else None) (filter_map queued_copy rows)) ≡ true) (sym is)
          (or_left (is_copy send row.carried) (list_any (is_copy send) (filter_map queued_copy rows)) (and_parts (is_copy send row.carried) true h).0))
      by_test false is h = inl (or_left (is_lost_row row) (list_any is_lost_row rows) h)

  -- ---- a step

  module _ (capacity : ℕ) (w : World) where
    abbrev Newly : Step → World → ℕ → Type 0
    Newly step after l = (is_lost_on send l w ≡ true) ⊎ ((is_under_way send w ≡ true) × (((span_at after l).link.is_cut ≡ true) ⊎ Overruns w step l))

    -- the row that is put is lost by a cut or an overrun
    put_lost : (step : Step) (after : World) (p : Puts w step after) (l : ℕ) → l ≡ p.spot.link → (is_cut : Bool) → (span_at w p.spot.link).link.is_cut ≡ is_cut → (full : Bool) →
        (count_by (waits p.spot.dir) (span_at w p.spot.link).link.rows == (span_at w p.spot.link).link.capacity) ≡ full →
        is_lost (first_of ((is_cut, LostDown) ∷ (full, LostOverrun) ∷ []) Queued) ≡ true → ((span_at w l).link.is_cut ≡ true) ⊎ Overruns w step l
    put_lost step after p l here true cut full is h = inl (ap (λ m. (span_at w m).link.is_cut) here ∙ cut)
    put_lost step after p l here false cut true is h =
        inr (record {
          node = p.end.node;
          port = p.end.port;
          put = p.step_is;
          dir = p.spot.dir;
          copy = p.copy;
          box = p.box;
          first = ap (λ m. (lane_of p.spot.dir (span_at w m)).outbox) here ∙ p.waits;
          spot = p.found ∙ ap (λ m. let s : Spot = record { link = m; dir = p.spot.dir } in Some s) (sym here);
          full = ap (λ m. count_by (waits p.spot.dir) (span_at w m).link.rows) here ∙ (eqb-true _ _ is ∙ ap (λ m. (span_at w m).link.capacity) (sym here));
        })
    put_lost step after p l here false cut false is h = absurd (false≢true h)

    lost_puts : (step : Step) (after : World) (p : Puts w step after) (l : ℕ) → is_lost_on send l after ≡ true → Newly step after l
    lost_puts step after p l h =
        ⊎_elim
        (λ other. inl (ap (λ (s : Span). list_any is_lost_row s.link.rows) (sym other) ∙ there))
        (λ same.
        let rows = (span_at w p.spot.link).link.rows in
        let k = (span_at w p.spot.link).link in
        ⊎_elim
        (λ old. inl (ap (λ m. list_any is_lost_row (span_at w m).link.rows) same.0 ∙ old))
        (λ new.
        let parts = and_parts (is_copy send p.copy) (is_lost (put_fate k.is_cut (count_by (waits p.spot.dir) rows) k.capacity)) (one new) in
        let cut_now : (span_at after l).link.is_cut ≡ (span_at w l).link.is_cut =
        ap (λ (v : World). (span_at v l).link.is_cut) p.is ∙ (ap (λ (s : Span). s.link.is_cut) same.1 ∙ ap (λ m. (span_at w m).link.is_cut) (sym same.0)) in
        inr (
          any_at (is_copy send) w.spans p.spot.link (box_any (is_copy send) p.spot.dir (span_at w p.spot.link) p.copy p.box p.waits parts.0),
          ⊎_elim (λ c. inl (cut_now ∙ c)) (λ o. inr o)
              (put_lost step after p l same.0 k.is_cut refl (count_by (waits p.spot.dir) rows == k.capacity) refl parts.1),
        ))
        (either_any is_lost_row rows (record { dir = p.spot.dir; carried = p.copy; injected = false; fate = fate_of (span_at w p.spot.link).link p.spot.dir } ∷ []) (ap (λ (s : Span). list_any is_lost_row s.link.rows) (sym same.1) ∙ there)))
        (set_cases w.spans p.spot.link l (put_span p.spot.dir p.copy p.box (span_at w p.spot.link)) no_span)
      where
        there : list_any is_lost_row (span_in (set w.spans p.spot.link (put_span p.spot.dir p.copy p.box (span_at w p.spot.link))) l).link.rows ≡ true
        there = ap (λ (v : World). is_lost_on send l v) (sym p.is) ∙ h

        one : {b : Bool} → (b || false) ≡ true → b ≡ true
        one {b} h = ⊎_elim (λ yes. yes) (λ no. absurd (false≢true no)) (or_cases b false h)

    pub lost_step : (step : Step) (after : World) → Shape capacity w step after → (l : ℕ) → is_lost_on send l after ≡ true → Newly step after l
    lost_step step after (ticks t) l h = inl (ap (λ (v : World). is_lost_on send l v) (sym t.is) ∙ h)
    lost_step step after (brings b) l h =
        inl (ap (λ (k : Link). list_any is_lost_row k.rows) (sym (mapped_link (spread (owner_at w b.node) (entry_of w 0 b.event b.outcome) (record_at w b.node)) w.spans l)) ∙ (ap (λ (v : World). is_lost_on send l v) (sym b.is) ∙ h))
    lost_step step after (judges j) l h =
        inl (ap (λ (k : Link). list_any is_lost_row k.rows) (sym (mapped_link (spread (owner_at w j.end.node) (entry_of w (port_worker j.end) (event.Arrive j.end.port j.copy) j.outcome) (record_at w j.end.node)) (map (on_lanes (emptied j.end)) w.spans) l ∙ mapped_link (emptied j.end) w.spans l)) ∙ (ap (λ (v : World). is_lost_on send l v) (sym j.is) ∙ h))
    lost_step step after (puts p) l h = lost_puts step after p l h
    lost_step step after (takes t) l h =
        ⊎_elim
        (λ other. inl (ap (λ (s : Span). list_any is_lost_row s.link.rows) (sym other) ∙ (ap (λ (v : World). is_lost_on send l v) (sym t.is) ∙ h)))
        (λ same.
        inl (ap (λ m. list_any is_lost_row (span_at w m).link.rows) same.0
        ∙ turned_lost t.dir (span_at w t.link).link.rows (ap (λ (s : Span). list_any is_lost_row s.link.rows) (sym same.1) ∙ (ap (λ (v : World). is_lost_on send l v) (sym t.is) ∙ h))))
        (set_cases w.spans t.link l (take_span t.dir t.copy (span_at w t.link)) no_span)
    lost_step step after (cuts c) l h =
        ⊎_elim
        (λ other. inl (ap (λ (s : Span). list_any is_lost_row s.link.rows) (sym other) ∙ (ap (λ (v : World). is_lost_on send l v) (sym c.is) ∙ h)))
        (λ same.
        ⊎_elim
        (λ old. inl (ap (λ m. list_any is_lost_row (span_at w m).link.rows) same.0 ∙ old))
        (λ waited. inr (
          any_at (is_copy send) w.spans c.link (from_at (is_copy send) (span_at w c.link) (on_link waited)),
          inl (ap (λ (v : World). (span_at v l).link.is_cut) c.is ∙ ap (λ (s : Span). s.link.is_cut) same.1),
        ))
        (cut_lost (span_at w c.link).link.rows (ap (λ (s : Span). list_any is_lost_row s.link.rows) (sym same.1) ∙ (ap (λ (v : World). is_lost_on send l v) (sym c.is) ∙ h))))
        (set_cases w.spans c.link l (cut_span (span_at w c.link)) no_span)
    lost_step step after (mends m) l h =
        ⊎_elim
        (λ other. inl (ap (λ (s : Span). list_any is_lost_row s.link.rows) (sym other) ∙ (ap (λ (v : World). is_lost_on send l v) (sym m.is) ∙ h)))
        (λ same.
        inl (ap (λ k. list_any is_lost_row (span_at w k).link.rows) same.0
        ∙ (ap (λ (s : Span). list_any is_lost_row s.link.rows) (sym same.1) ∙ (ap (λ (v : World). is_lost_on send l v) (sym m.is) ∙ h))))
        (set_cases w.spans m.link l (mend_span (span_at w m.link)) no_span)

-- ---- full queues

abbrev is_overrun_row : Row → Bool
is_overrun_row row = is_overrun row.fate

turned_overrun : (dir : Dir) (rows : List Row) → list_any is_overrun_row (turned Taken dir rows) ≡ true → list_any is_overrun_row rows ≡ true
turned_overrun dir [] h = h
turned_overrun dir (row ∷ rows) h = by_test (waits dir row) h (turned_overrun dir rows)
  where
    by_test : (b : Bool) → list_any is_overrun_row (if b then with_fate Taken row ∷ rows else row ∷ turned Taken dir rows) ≡ true → (list_any is_overrun_row (turned Taken dir rows) ≡ true → list_any is_overrun_row rows ≡ true) →
        list_any is_overrun_row (row ∷ rows) ≡ true
    by_test true h rest = or_right (is_overrun_row row) (list_any is_overrun_row rows) h
    by_test false h rest =
        ⊎_elim (λ here. or_left (is_overrun_row row) (list_any is_overrun_row rows) here) (λ later. or_right (is_overrun_row row) (list_any is_overrun_row rows) (rest later))
        (or_cases (is_overrun_row row) (list_any is_overrun_row (turned Taken dir rows)) h)

cut_overrun : (rows : List Row) → list_any is_overrun_row (map lost rows) ≡ true → list_any is_overrun_row rows ≡ true
cut_overrun [] h = h
cut_overrun (row ∷ rows) h =
    ⊎_elim (λ here. or_left (is_overrun_row row) (list_any is_overrun_row rows) (by_test (is_queued row.fate) here))
    (λ later. or_right (is_overrun_row row) (list_any is_overrun_row rows) (cut_overrun rows later))
    (or_cases (is_overrun_row (lost row)) (list_any is_overrun_row (map lost rows)) h)
  where
    by_test : (b : Bool) → is_overrun_row (if b then with_fate LostCut row else row) ≡ true → is_overrun_row row ≡ true
    by_test true h = absurd (false≢true h)
    by_test false h = h

module _ (capacity : ℕ) (w : World) where
  abbrev Over : Step → ℕ → Type 0
  Over step l = (has_overrun l w ≡ true) ⊎ Overruns w step l

  put_over : (step : Step) (after : World) (p : Puts w step after) (l : ℕ) → l ≡ p.spot.link → (is_cut : Bool) → (full : Bool) →
      (count_by (waits p.spot.dir) (span_at w p.spot.link).link.rows == (span_at w p.spot.link).link.capacity) ≡ full →
      is_overrun (first_of ((is_cut, LostDown) ∷ (full, LostOverrun) ∷ []) Queued) ≡ true → Overruns w step l
  put_over step after p l here true full is h = absurd (false≢true h)
  put_over step after p l here false true is h =
      record {
        node = p.end.node;
        port = p.end.port;
        put = p.step_is;
        dir = p.spot.dir;
        copy = p.copy;
        box = p.box;
        first = ap (λ m. (lane_of p.spot.dir (span_at w m)).outbox) here ∙ p.waits;
        spot = p.found ∙ ap (λ m. let s : Spot = record { link = m; dir = p.spot.dir } in Some s) (sym here);
        full = ap (λ m. count_by (waits p.spot.dir) (span_at w m).link.rows) here ∙ (eqb-true _ _ is ∙ ap (λ m. (span_at w m).link.capacity) (sym here));
      }
  put_over step after p l here false false is h = absurd (false≢true h)

  over_in : (spans : List Span) (k l : ℕ) (span : Span) → (list_any is_overrun_row span.link.rows ≡ true → list_any is_overrun_row (span_in spans k).link.rows ≡ true) →
      list_any is_overrun_row (span_in (set spans k span) l).link.rows ≡ true → list_any is_overrun_row (span_in spans l).link.rows ≡ true
  over_in spans k l span less h =
      ⊎_elim (λ other. ap (λ (s : Span). list_any is_overrun_row s.link.rows) (sym other) ∙ h)
      (λ same. ap (λ m. list_any is_overrun_row (span_in spans m).link.rows) same.0 ∙ less (ap (λ (s : Span). list_any is_overrun_row s.link.rows) (sym same.1) ∙ h))
      (set_cases spans k l span no_span)

  pub over_step : (step : Step) (after : World) → Shape capacity w step after → (l : ℕ) → has_overrun l after ≡ true → Over step l
  over_step step after (ticks t) l h = inl (ap (λ (v : World). has_overrun l v) (sym t.is) ∙ h)
  over_step step after (brings b) l h =
      inl (ap (λ (k : Link). list_any is_overrun_row k.rows) (sym (mapped_link (spread (owner_at w b.node) (entry_of w 0 b.event b.outcome) (record_at w b.node)) w.spans l)) ∙ (ap (λ (v : World). has_overrun l v) (sym b.is) ∙ h))
  over_step step after (judges j) l h =
      inl (ap (λ (k : Link). list_any is_overrun_row k.rows) (sym (mapped_link (spread (owner_at w j.end.node) (entry_of w (port_worker j.end) (event.Arrive j.end.port j.copy) j.outcome) (record_at w j.end.node)) (map (on_lanes (emptied j.end)) w.spans) l ∙ mapped_link (emptied j.end) w.spans l)) ∙ (ap (λ (v : World). has_overrun l v) (sym j.is) ∙ h))
  over_step step after (puts p) l h =
      ⊎_elim
      (λ other. inl (ap (λ (s : Span). list_any is_overrun_row s.link.rows) (sym other) ∙ there))
      (λ same.
      let k = (span_at w p.spot.link).link in
      ⊎_elim
      (λ old. inl (ap (λ m. list_any is_overrun_row (span_at w m).link.rows) same.0 ∙ old))
      (λ new. inr (put_over step after p l same.0 k.is_cut (count_by (waits p.spot.dir) k.rows == k.capacity) refl (one new)))
      (either_any is_overrun_row k.rows (record { dir = p.spot.dir; carried = p.copy; injected = false; fate = fate_of (span_at w p.spot.link).link p.spot.dir } ∷ []) (ap (λ (s : Span). list_any is_overrun_row s.link.rows) (sym same.1) ∙ there)))
      (set_cases w.spans p.spot.link l (put_span p.spot.dir p.copy p.box (span_at w p.spot.link)) no_span)
    where
      there : list_any is_overrun_row (span_in (set w.spans p.spot.link (put_span p.spot.dir p.copy p.box (span_at w p.spot.link))) l).link.rows ≡ true
      there = ap (λ (v : World). has_overrun l v) (sym p.is) ∙ h

      one : {b : Bool} → (b || false) ≡ true → b ≡ true
      one {b} h = ⊎_elim (λ yes. yes) (λ no. absurd (false≢true no)) (or_cases b false h)
  over_step step after (takes t) l h =
      inl (over_in w.spans t.link l (take_span t.dir t.copy (span_at w t.link)) (λ here. turned_overrun t.dir (span_at w t.link).link.rows here) (ap (λ (v : World). has_overrun l v) (sym t.is) ∙ h))
  over_step step after (cuts c) l h =
      inl (over_in w.spans c.link l (cut_span (span_at w c.link)) (λ here. cut_overrun (span_at w c.link).link.rows here) (ap (λ (v : World). has_overrun l v) (sym c.is) ∙ h))
  over_step step after (mends m) l h =
      inl (over_in w.spans m.link l (mend_span (span_at w m.link)) (λ here. here) (ap (λ (v : World). has_overrun l v) (sym m.is) ∙ h))
