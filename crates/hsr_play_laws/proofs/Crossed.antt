-- What left by a port and isn't under way any more came to the other end of the link, where nothing of it was lost there.
use Rattle.std.proofs.Common.{◌≡◌, ◌⊎◌, ℕ, ◌<◌, ◌&&◌, not, Bool, true, false, if◌then◌else◌, List, [], ◌∷◌, ◌++◌, length, map, filter_map, get_or, Option, Some, None, refl, sym, ap, ◌∙◌, subst, arith, ⊎_elim, zero, suc}
use Rattle.std.specs.Prelude.{option_to_list, slice_index_or}
use Rattle.std.specs.List.{AllByRecursion, cons_option, list_any}
use Rattle.std.proofs.lemmas.Bool.{and_from, and_parts, cases_Bool, false≢true, or_cases, or_left, or_parts, or_right}
use Rattle.std.proofs.lemmas.List.{get_or-map, length-map}
use Rattle.hsr_link.specs.Rows.{goes, is_lost, is_queued, is_taken, put_copies, put_copy, taken_copies, taken_copy}
use Rattle.hsr_link.specs.declared.row.Dir.{Dir}
use Rattle.hsr_link.specs.declared.row.Dir.TheVariants.{Forth, Back}
use Rattle.hsr_link.specs.declared.row.Fate.{Fate}
use Rattle.hsr_link.specs.declared.row.Fate.TheVariants.{Queued, Taken, LostDown, LostCut, LostOverrun}
use Rattle.hsr_link.specs.declared.row.Row.{Row}
use Rattle.hsr_node.specs.Flow.{arrivals, passes}
use Rattle.hsr_node.specs.declared.event.Carried.{Carried}
use Rattle.hsr_node.specs.declared.event.Probe.{Probe}
use Rattle.hsr_node.specs.declared.place.Place.{Place}
use Rattle.hsr_topology.specs.Wired.{IsJoin}
use Rattle.hsr_topology.specs.declared.end.End.{End}
use Rattle.hsr_run_laws.specs.Once.{is_copy}
use Rattle.hsr_run_laws.specs.Run.{from_end, no_end, owner_in, to_end}
use Rattle.hsr_run_laws.proofs.Lists.{all_permutation, any_permutation}
use Rattle.hsr_run_laws.proofs.Same.{any_one_more}
use Rattle.hsr_world_laws.specs.Law.{LaneAgrees, SpanAgrees}
use Rattle.hsr_world_laws.specs.Origin.{is_injected}
use Rattle.hsr_world_laws.specs.Spans.{Lane, Span, lane_of}
use Rattle.hsr_world_laws.specs.World.{World, record_at, span_at, span_in}
use Rattle.hsr_world_laws.proofs.Closed.{wires}
use Rattle.hsr_world_laws.proofs.Wires.{Wire, wire, wire_of}
use Rattle.hsr_plays.specs.Plays.{in_lane, in_span, queued_copy}
use Rattle.hsr_plays.specs.Setup.{Setup}
use Rattle.hsr_under_way.specs.StepsOn.{is_lost_on, is_under_way}
use Rattle.hsr_under_way.proofs.Kept.{At, coming, either_any, from_at, going, left_any, on_link, right_any}
use Rattle.hsr_under_way.proofs.Losing.{any_at}
use Rattle.hsr_play_laws.specs.Told.{IsTold}
use Rattle.hsr_play_laws.proofs.Room.{own_at}
use Rattle.hsr_play_laws.proofs.Worlds.{links_are, sound}

-- ---- rows

-- what was put, and neither waits nor was lost, was taken
put_taken : (p : Carried → Bool) (dir : Dir) (rows : List Row) → list_any (λ (row : Row). p row.carried && is_lost row.fate) rows ≡ false → list_any p (filter_map queued_copy rows) ≡ false →
    list_any p (put_copies dir rows) ≡ true → list_any p (taken_copies dir rows) ≡ true
put_taken p dir [] lost queued put = put
put_taken p dir (row ∷ rows) lost queued put =
    let parts = or_parts (p row.carried && is_lost row.fate) (list_any (λ (r : Row). p r.carried && is_lost r.fate) rows) lost in
    by_put (goes dir row && not row.injected) refl put parts.0 (λ later. any_one_more p (taken_copy dir row) (taken_copies dir rows) (put_taken p dir rows parts.1 (no_later (queued_copy row) queued) later))
  where
    no_later : (o : Option Carried) → list_any p (cons_option o (filter_map queued_copy rows)) ≡ false → list_any p (filter_map queued_copy rows) ≡ false
    no_later None none = none
    no_later (Some c) none = (or_parts (p c) (list_any p (filter_map queued_copy rows)) none).1

    by_fate : (fate : Fate) → row.fate ≡ fate → goes dir row ≡ true → p row.carried ≡ true → (p row.carried && is_lost row.fate) ≡ false → list_any p (cons_option (taken_copy dir row) (taken_copies dir rows)) ≡ true
    by_fate Queued is there mine none =
        let waits : list_any p (row.carried ∷ filter_map queued_copy rows) ≡ false =
        subst (λ f. list_any p (cons_option (if is_queued f then Some row.carried else None) (filter_map queued_copy rows)) ≡ false) is queued in
        absurd (false≢true (sym waits ∙ or_left (p row.carried) (list_any p (filter_map queued_copy rows)) mine))
    by_fate Taken is there mine none =
        subst (λ b. list_any p (cons_option (if b then Some row.carried else None) (taken_copies dir rows)) ≡ true) (sym (and_from (goes dir row) (is_taken row.fate) there (ap is_taken is)))
        (or_left (p row.carried) (list_any p (taken_copies dir rows)) mine)
    by_fate LostDown is there mine none = absurd (false≢true (sym none ∙ and_from (p row.carried) (is_lost row.fate) mine (ap is_lost is)))
    by_fate LostCut is there mine none = absurd (false≢true (sym none ∙ and_from (p row.carried) (is_lost row.fate) mine (ap is_lost is)))
    by_fate LostOverrun is there mine none = absurd (false≢true (sym none ∙ and_from (p row.carried) (is_lost row.fate) mine (ap is_lost is)))

    by_put : (b : Bool) → (goes dir row && not row.injected) ≡ b → list_any p (cons_option (if b then Some row.carried else None) (put_copies dir rows)) ≡ true → (p row.carried && is_lost row.fate) ≡ false →
        (list_any p (put_copies dir rows) ≡ true → list_any p (taken_copies dir (row ∷ rows)) ≡ true) → list_any p (taken_copies dir (row ∷ rows)) ≡ true
    by_put false is put none rest = rest put
    by_put true is put none rest =
        ⊎_elim
        (λ mine. by_fate row.fate refl (and_parts (goes dir row) (not row.injected) is).0 mine none)
        (λ later. rest later)
        (or_cases (p row.carried) (list_any p (put_copies dir rows)) put)

-- what is taken was put, where nothing was injected
all_taken : (P : Carried → Type 0) (dir : Dir) (rows : List Row) → list_any (λ (row : Row). row.injected) rows ≡ false → AllByRecursion P (put_copies dir rows) → AllByRecursion P (taken_copies dir rows)
all_taken P dir [] own all = tt
all_taken P dir (row ∷ rows) own all =
    let parts = or_parts row.injected (list_any (λ (r : Row). r.injected) rows) own in
    by_goes (goes dir row) (is_taken row.fate) row.injected parts.0 all (λ later. all_taken P dir rows parts.1 later)
  where
    by_goes : (g t i : Bool) → i ≡ false → AllByRecursion P (cons_option (if g && not i then Some row.carried else None) (put_copies dir rows)) → (AllByRecursion P (put_copies dir rows) → AllByRecursion P (taken_copies dir rows)) →
        AllByRecursion P (cons_option (if g && t then Some row.carried else None) (taken_copies dir rows))
    by_goes g t true is all rest = absurd (false≢true (sym is))
    by_goes false t false is all rest = rest all
    by_goes true false false is all rest = rest all.1
    by_goes true true false is all rest = (all.0, rest all.1)

front_all : (P : Carried → Type 0) (xs ys : List Carried) → AllByRecursion P (xs ++ ys) → AllByRecursion P xs
front_all P [] ys all = tt
front_all P (x ∷ xs) ys all = (all.0, front_all P xs ys all.1)

-- ---- links

at_link : (P : Span → Type 0) (spans : List Span) (l : ℕ) → l < length spans → AllByRecursion P spans → P (span_in spans l)
at_link P [] l below all = absurd (omega (arith, below))
at_link P (x ∷ xs) zero below all = all.0
at_link P (x ∷ xs) (suc l) below all = at_link P xs l (omega (arith, below)) all.1

module _ (s : Setup) (time n : ℕ) (w : World) (told : IsTold s time n w) (l : ℕ) (dir : Dir) (below : l < length s.links) where
  below_there : l < length w.spans
  below_there = let as_many = links_are s w told.own in omega (arith, below, as_many)

  abbrev lane : Lane
  lane = lane_of dir (span_at w l)

  agrees : LaneAgrees w.places w.records dir (span_at w l).link.rows (lane_of dir (span_at w l))
  agrees = by_dir dir (at_link (SpanAgrees w.places w.records) w.spans l below_there (sound s w told.own).agree)
    where
      by_dir : (d : Dir) → SpanAgrees w.places w.records (span_at w l) → LaneAgrees w.places w.records d (span_at w l).link.rows (lane_of d (span_at w l))
      by_dir Forth h = h.forth
      by_dir Back h = h.back

  -- where the lane begins and ends
  pub joined : ((lane_of dir (span_at w l)).from ≡ from_end dir (slice_index_or s.links l [])) × ((lane_of dir (span_at w l)).to ≡ to_end dir (slice_index_or s.links l []))
  joined =
      let nowhere : Wire = (no_end, no_end, no_end, no_end) in
      by_ends dir (slice_index_or s.links l []) (told.own.wired.joined l [] below)
      (sym (get_or-map wire w.spans l _ nowhere below_there) ∙ (ap (λ ws. get_or ws l nowhere) (wires s.capacity s.places s.links w told.own.wired told.own.reached) ∙ get_or-map wire_of s.links l [] nowhere below))
    where
      by_ends : (d : Dir) (ends : List End) → IsJoin s.places ends → wire (span_at w l) ≡ wire_of ends → ((lane_of d (span_at w l)).from ≡ from_end d ends) × ((lane_of d (span_at w l)).to ≡ to_end d ends)
      by_ends d [] j e = absurd j
      by_ends d (a ∷ []) j e = absurd j
      by_ends d (a ∷ b ∷ c ∷ ends) j e = absurd j
      by_ends Forth (a ∷ b ∷ []) j e = (ap (λ v. v.0) e, ap (λ v. v.1) e)
      by_ends Back (a ∷ b ∷ []) j e = (ap (λ v. v.2) e, ap (λ v. v.3) e)

  -- ---- copies

  module _ (p : Carried → Bool) (gone : list_any p (in_span (span_at w l)) ≡ false) where
    none_queued : list_any p (filter_map queued_copy (span_at w l).link.rows) ≡ false
    none_queued =
        ⊎_elim (λ waits. absurd (false≢true (sym gone ∙ from_at p (span_at w l) (on_link waits)))) (λ free. free)
        (cases_Bool (list_any p (filter_map queued_copy (span_at w l).link.rows)))

    none_in : list_any p (in_lane (lane_of dir (span_at w l))) ≡ true → ⊥
    none_in h = by_dir dir h
      where
        by_dir : (d : Dir) → list_any p (in_lane (lane_of d (span_at w l))) ≡ true → ⊥
        by_dir Forth h = false≢true (sym gone ∙ from_at p (span_at w l) (going h))
        by_dir Back h = false≢true (sym gone ∙ from_at p (span_at w l) (coming h))

    pub crossed : list_any (λ (row : Row). p row.carried && is_lost row.fate) (span_at w l).link.rows ≡ false →
        list_any p (passes (owner_in w.places (lane_of dir (span_at w l)).from.node) (lane_of dir (span_at w l)).from.port (record_at w (lane_of dir (span_at w l)).from.node)) ≡ true →
        list_any p (arrivals (lane_of dir (span_at w l)).to.port (record_at w (lane_of dir (span_at w l)).to.node)) ≡ true
    crossed kept left =
        let box = (lane_of dir (span_at w l)).outbox in
        let hand = option_to_list (lane_of dir (span_at w l)).hand in
        let put : list_any p (put_copies dir (span_at w l).link.rows) ≡ true =
        ⊎_elim (λ there. there) (λ waits. absurd (none_in (left_any p box hand waits)))
        (either_any p (put_copies dir (span_at w l).link.rows) box (any_permutation p _ _ agrees.sent left)) in
        let taken = put_taken p dir (span_at w l).link.rows kept none_queued put in
        let come = arrivals (lane_of dir (span_at w l)).to.port (record_at w (lane_of dir (span_at w l)).to.node) in
        ⊎_elim (λ there. there) (λ held. absurd (none_in (right_any p box hand held)))
        (either_any p come hand (any_permutation p _ _ agrees.came taken))

  -- P of each copy that left by the one port holds of each that came to the other
  pub all_crossed : (P : Carried → Type 0) →
      AllByRecursion P (passes (owner_in w.places (lane_of dir (span_at w l)).from.node) (lane_of dir (span_at w l)).from.port (record_at w (lane_of dir (span_at w l)).from.node)) →
      AllByRecursion P (arrivals (lane_of dir (span_at w l)).to.port (record_at w (lane_of dir (span_at w l)).to.node))
  all_crossed P all =
      let put = front_all P (put_copies dir (span_at w l).link.rows) (lane_of dir (span_at w l)).outbox (all_permutation P _ _ agrees.sent all) in
      let taken = all_taken P dir (span_at w l).link.rows (own_at w.spans l told.own.own) put in
      front_all P (arrivals (lane_of dir (span_at w l)).to.port (record_at w (lane_of dir (span_at w l)).to.node)) (option_to_list (lane_of dir (span_at w l)).hand) (all_permutation P _ _ agrees.came taken)

  -- nothing of a send is on the link that isn't under way
  pub none_there : (send : Probe) → (is_under_way send w ≡ true → ⊥) → list_any (is_copy send) (in_span (span_at w l)) ≡ false
  none_there send gone =
      ⊎_elim (λ there. absurd (gone (any_at (is_copy send) w.spans l there))) (λ free. free) (cases_Bool (list_any (is_copy send) (in_span (span_at w l))))
