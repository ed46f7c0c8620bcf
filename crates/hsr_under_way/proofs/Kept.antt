-- A send of which a copy is under way behind a step had one under way before it, or is the step.
use Rattle.std.proofs.Common.{◌≡◌, ◌⊎◌, inl, inr, ℕ, ◌==◌, ◌&&◌, ◌||◌, Bool, true, false, if◌then◌else◌, List, [], ◌∷◌, ◌++◌, length, map, set, get_or, filter, filter_map, Option, Some, None, option_map, slice_get, refl, sym, ap, ◌∙◌, subst, zero, suc, ⊎_elim, Ok}
use Rattle.std.specs.Prelude.{option_to_list}
use Rattle.std.specs.List.{cons_option, list_any}
use Rattle.std.proofs.lemmas.Bool.{and_parts, false≢true, or_cases, or_left, or_right, cases_Bool}
use Rattle.std.proofs.lemmas.List.Elements.{filter_map-append}
use Rattle.std.proofs.lemmas.List.Folds.{list_any-append}
use Rattle.hsr_link.specs.Link.{fate_of}
use Rattle.hsr_link.specs.Rows.{first_copy, is_queued, lost, queued, turned, waits, with_fate}
use Rattle.hsr_link.specs.declared.row.Dir.{Dir}
use Rattle.hsr_link.specs.declared.row.Dir.TheVariants.{Forth, Back}
use Rattle.hsr_link.specs.declared.row.Fate.{Fate}
use Rattle.hsr_link.specs.declared.row.Fate.TheVariants.{Queued, Taken, LostDown, LostCut, LostOverrun}
use Rattle.hsr_link.specs.declared.row.Row.{Row}
use Rattle.hsr_node.specs.Flow.{pass_of}
use Rattle.hsr_node.specs.Record.{Owner, probe_handled}
use Rattle.hsr_node.specs.declared.entry.Entry.{Entry}
use Rattle.hsr_node.specs.declared.event.Carried.{Carried}
use Rattle.hsr_topology.specs.Links.{is_same_end}
use Rattle.hsr_topology.specs.declared.end.End.{End}
use Rattle.hsr_run_laws.proofs.NoStorm.{IsPassOf, new_pass}
use Rattle.hsr_world_laws.specs.Spans.{Lane, Span, emptied, gift, held_in, lane_of, lanes_of, on_lanes, spread}
use Rattle.hsr_plays.specs.Plays.{in_lane, in_span, in_spans, queued_copy}
use Rattle.hsr_under_way.proofs.Places.{cut_span, put_span, take_span}

-- ---- lists

pub either_any : {X : Type 0} (p : X → Bool) (xs ys : List X) → list_any p (xs ++ ys) ≡ true → (list_any p xs ≡ true) ⊎ (list_any p ys ≡ true)
either_any p xs ys h = or_cases (list_any p xs) (list_any p ys) (sym (list_any-append p xs ys) ∙ h)

pub left_any : {X : Type 0} (p : X → Bool) (xs ys : List X) → list_any p xs ≡ true → list_any p (xs ++ ys) ≡ true
left_any p xs ys h = list_any-append p xs ys ∙ or_left (list_any p xs) (list_any p ys) h

pub right_any : {X : Type 0} (p : X → Bool) (xs ys : List X) → list_any p ys ≡ true → list_any p (xs ++ ys) ≡ true
right_any p xs ys h = list_any-append p xs ys ∙ or_right (list_any p xs) (list_any p ys) h

-- of rows, forth and back, where a copy is that passes
pub data At (p : Carried → Bool) (rows : List Row) (forth back : Lane) : Type 0 where
  on_link : list_any p (filter_map queued_copy rows) ≡ true → At p rows forth back
  going : list_any p (in_lane forth) ≡ true → At p rows forth back
  coming : list_any p (in_lane back) ≡ true → At p rows forth back

-- ---- one span is changed

module _ (p : Carried → Bool) where
  pub replaced : (spans : List Span) (l : ℕ) (d span : Span) → (list_any p (in_span span) ≡ true → list_any p (in_span (get_or spans l d)) ≡ true) →
      list_any p (in_spans (set spans l span)) ≡ true → list_any p (in_spans spans) ≡ true
  replaced [] l d span less h = h
  replaced (x ∷ xs) zero d span less h =
      ⊎_elim (λ here. left_any p (in_span x) (in_spans xs) (less here)) (λ there. right_any p (in_span x) (in_spans xs) there) (either_any p (in_span span) (in_spans xs) h)
  replaced (x ∷ xs) (suc l) d span less h =
      ⊎_elim (λ here. left_any p (in_span x) (in_spans xs) here) (λ there. right_any p (in_span x) (in_spans xs) (replaced xs l d span less there))
      (either_any p (in_span x) (in_spans (set xs l span)) h)

  pub at : (span : Span) → list_any p (in_span span) ≡ true → At p span.link.rows span.forth span.back
  at span h =
      ⊎_elim (λ a. on_link a) (λ b. ⊎_elim (λ c. going c) (λ d. coming d) (either_any p (in_lane span.forth) (in_lane span.back) b))
      (either_any p (filter_map queued_copy span.link.rows) (in_lane span.forth ++ in_lane span.back) h)

  pub from_at : (span : Span) → At p span.link.rows span.forth span.back → list_any p (in_span span) ≡ true
  from_at span (on_link h) = left_any p (filter_map queued_copy span.link.rows) (in_lane span.forth ++ in_lane span.back) h
  from_at span (going h) = right_any p (filter_map queued_copy span.link.rows) (in_lane span.forth ++ in_lane span.back) (left_any p (in_lane span.forth) (in_lane span.back) h)
  from_at span (coming h) = right_any p (filter_map queued_copy span.link.rows) (in_lane span.forth ++ in_lane span.back) (right_any p (in_lane span.forth) (in_lane span.back) h)

  -- ---- a copy is put

  -- a row more is of that copy, if it waits
  pub row_more : (rows : List Row) (row : Row) → list_any p (filter_map queued_copy (rows ++ row ∷ [])) ≡ true → (list_any p (filter_map queued_copy rows) ≡ true) ⊎ (p row.carried ≡ true)
  row_more rows row h =
      ⊎_elim (λ a. inl a) (λ b. inr (by_fate (is_queued row.fate) b))
      (either_any p (filter_map queued_copy rows) (filter_map queued_copy (row ∷ [])) (ap (list_any p) (sym (filter_map-append queued_copy rows (row ∷ []))) ∙ h))
    where
      by_fate : (b : Bool) → list_any p (cons_option (if b then Some row.carried else None) []) ≡ true → p row.carried ≡ true
      by_fate false h = absurd (false≢true h)
      by_fate true h = ⊎_elim (λ yes. yes) (λ no. absurd (false≢true no)) (or_cases (p row.carried) false h)

  -- what stands in a box without its first
  pub less_box : (copy : Carried) (box hand : List Carried) → list_any p (box ++ hand) ≡ true → list_any p ((copy ∷ box) ++ hand) ≡ true
  less_box copy box hand h = or_right (p copy) (list_any p (box ++ hand)) h

  -- ---- a copy is taken

  pub turned_less : (dir : Dir) (rows : List Row) → list_any p (filter_map queued_copy (turned Taken dir rows)) ≡ true → list_any p (filter_map queued_copy rows) ≡ true
  turned_less dir [] h = h
  turned_less dir (row ∷ rows) h = by_test (waits dir row) h (turned_less dir rows)
    where
      more : (o : Option Carried) → list_any p (filter_map queued_copy rows) ≡ true → list_any p (cons_option o (filter_map queued_copy rows)) ≡ true
      more None h = h
      more (Some c) h = or_right (p c) (list_any p (filter_map queued_copy rows)) h

      same_first : (o : Option Carried) (xs : List Carried) → list_any p (cons_option o xs) ≡ true → (list_any p xs ≡ true → list_any p (filter_map queued_copy rows) ≡ true) →
          list_any p (cons_option o (filter_map queued_copy rows)) ≡ true
      same_first None xs h rest = rest h
      same_first (Some c) xs h rest =
          ⊎_elim (λ here. or_left (p c) (list_any p (filter_map queued_copy rows)) here) (λ later. or_right (p c) (list_any p (filter_map queued_copy rows)) (rest later)) (or_cases (p c) (list_any p xs) h)

      by_test : (b : Bool) → list_any p (filter_map queued_copy (if b then with_fate Taken row ∷ rows else row ∷ turned Taken dir rows)) ≡ true →
          (list_any p (filter_map queued_copy (turned Taken dir rows)) ≡ true → list_any p (filter_map queued_copy rows) ≡ true) → list_any p (filter_map queued_copy (row ∷ rows)) ≡ true
      by_test true h rest = more (queued_copy row) h
      by_test false h rest = same_first (queued_copy row) (filter_map queued_copy (turned Taken dir rows)) h rest

  -- the copy that is taken waited
  pub first_waits : (dir : Dir) (rows : List Row) (copy : Carried) → first_copy dir rows ≡ Some copy → p copy ≡ true → list_any p (filter_map queued_copy rows) ≡ true
  first_waits dir [] copy is mine = absurd cc
  first_waits dir (row ∷ rows) copy is mine = by_test (waits dir row) refl is (first_waits dir rows copy)
    where
      by_test : (b : Bool) → waits dir row ≡ b → option_map (λ (r : Row). r.carried) (slice_get (if b then row ∷ queued dir rows else queued dir rows) 0) ≡ Some copy →
          (first_copy dir rows ≡ Some copy → p copy ≡ true → list_any p (filter_map queued_copy rows) ≡ true) → list_any p (filter_map queued_copy (row ∷ rows)) ≡ true
      by_test true waits_so is rest =
          let same : row.carried ≡ copy = cc in
          let queued_so = (and_parts (Rattle.hsr_link.specs.Rows.goes dir row) (is_queued row.fate) waits_so).1 in
          subst (λ b. list_any p (cons_option (if b then Some row.carried else None) (filter_map queued_copy rows)) ≡ true) (sym queued_so)
          (or_left (p row.carried) (list_any p (filter_map queued_copy rows)) (ap p same ∙ mine))
      by_test false waits_not is rest = by_copy (queued_copy row) (rest is mine)
        where
          by_copy : (o : Option Carried) → list_any p (filter_map queued_copy rows) ≡ true → list_any p (cons_option o (filter_map queued_copy rows)) ≡ true
          by_copy None h = h
          by_copy (Some c) h = or_right (p c) (list_any p (filter_map queued_copy rows)) h

  -- what is first in an outbox is under way
  pub box_any : (dir : Dir) (span : Span) (copy : Carried) (box : List Carried) → (lane_of dir span).outbox ≡ copy ∷ box → p copy ≡ true → list_any p (in_span span) ≡ true
  box_any Forth span copy box is mine =
      from_at span (going (left_any p span.forth.outbox (option_to_list span.forth.hand) (ap (list_any p) is ∙ or_left (p copy) (list_any p box) mine)))
  box_any Back span copy box is mine =
      from_at span (coming (left_any p span.back.outbox (option_to_list span.back.hand) (ap (list_any p) is ∙ or_left (p copy) (list_any p box) mine)))

  -- a link on which a copy was put has no other
  pub put_less : (dir : Dir) (span : Span) (copy : Carried) (box : List Carried) → (lane_of dir span).outbox ≡ copy ∷ box → list_any p (in_span (put_span dir copy box span)) ≡ true → list_any p (in_span span) ≡ true
  put_less Forth span copy box is h = by_place (at (put_span Forth copy box span) h)
    where
      by_place : At p (span.link.rows ++ record { dir = Forth; carried = copy; injected = false; fate = fate_of span.link Forth } ∷ []) (record span.forth { outbox = box }) span.back → list_any p (in_span span) ≡ true
      by_place (on_link h) =
          ⊎_elim (λ a. from_at span (on_link a)) (λ mine. box_any Forth span copy box is mine)
          (row_more span.link.rows (record { dir = Forth; carried = copy; injected = false; fate = fate_of span.link Forth }) h)
      by_place (going h) = from_at span (going (ap (λ (b : List Carried). list_any p (b ++ option_to_list span.forth.hand)) is ∙ less_box copy box (option_to_list span.forth.hand) h))
      by_place (coming h) = from_at span (coming h)
  put_less Back span copy box is h = by_place (at (put_span Back copy box span) h)
    where
      by_place : At p (span.link.rows ++ record { dir = Back; carried = copy; injected = false; fate = fate_of span.link Back } ∷ []) span.forth (record span.back { outbox = box }) → list_any p (in_span span) ≡ true
      by_place (on_link h) =
          ⊎_elim (λ a. from_at span (on_link a)) (λ mine. box_any Back span copy box is mine)
          (row_more span.link.rows (record { dir = Back; carried = copy; injected = false; fate = fate_of span.link Back }) h)
      by_place (going h) = from_at span (going h)
      by_place (coming h) = from_at span (coming (ap (λ (b : List Carried). list_any p (b ++ option_to_list span.back.hand)) is ∙ less_box copy box (option_to_list span.back.hand) h))

  -- a link from which one was taken has no other
  pub take_less : (dir : Dir) (span : Span) (copy : Carried) → first_copy dir span.link.rows ≡ Some copy → list_any p (in_span (take_span dir copy span)) ≡ true → list_any p (in_span span) ≡ true
  take_less dir span copy first h = by_dir dir first h
    where
      mine_waits : (dir : Dir) → first_copy dir span.link.rows ≡ Some copy → list_any p (copy ∷ []) ≡ true → list_any p (in_span span) ≡ true
      mine_waits dir first h =
          ⊎_elim (λ mine. from_at span (on_link (first_waits dir span.link.rows copy first mine))) (λ no. absurd (false≢true no)) (or_cases (p copy) false h)

      forth : At p (turned Taken Forth span.link.rows) (record span.forth { hand = Some copy }) span.back → first_copy Forth span.link.rows ≡ Some copy → list_any p (in_span span) ≡ true
      forth (on_link h) first = from_at span (on_link (turned_less Forth span.link.rows h))
      forth (going h) first =
          ⊎_elim (λ a. from_at span (going (left_any p span.forth.outbox (option_to_list span.forth.hand) a))) (λ b. mine_waits Forth first b) (either_any p span.forth.outbox (copy ∷ []) h)
      forth (coming h) first = from_at span (coming h)

      back : At p (turned Taken Back span.link.rows) span.forth (record span.back { hand = Some copy }) → first_copy Back span.link.rows ≡ Some copy → list_any p (in_span span) ≡ true
      back (on_link h) first = from_at span (on_link (turned_less Back span.link.rows h))
      back (going h) first = from_at span (going h)
      back (coming h) first =
          ⊎_elim (λ a. from_at span (coming (left_any p span.back.outbox (option_to_list span.back.hand) a))) (λ b. mine_waits Back first b) (either_any p span.back.outbox (copy ∷ []) h)

      by_dir : (dir : Dir) → first_copy dir span.link.rows ≡ Some copy → list_any p (in_span (take_span dir copy span)) ≡ true → list_any p (in_span span) ≡ true
      by_dir Forth first h = forth (at (take_span Forth copy span) h) first
      by_dir Back first h = back (at (take_span Back copy span) h) first

  -- ---- a link is cut

  lost_one : (row : Row) → queued_copy (lost row) ≡ None
  lost_one row = by_queued (is_queued row.fate) refl
    where
      by_queued : (b : Bool) → is_queued row.fate ≡ b → queued_copy (if b then with_fate LostCut row else row) ≡ None
      by_queued true q = refl
      by_queued false q = ap (λ b. if b then Some row.carried else None) q

  pub none_waits : (rows : List Row) → list_any p (filter_map queued_copy (map lost rows)) ≡ true → ⊥
  none_waits [] h = false≢true h
  none_waits (row ∷ rows) h =
      none_waits rows (subst (λ (o : Option Carried). list_any p (cons_option o (filter_map queued_copy (map lost rows))) ≡ true) (lost_one row) h)

  -- a link that is cut has no other
  pub cut_less : (span : Span) → list_any p (in_span (cut_span span)) ≡ true → list_any p (in_span span) ≡ true
  cut_less span h = by_place (at (cut_span span) h)
    where
      by_place : At p (map lost span.link.rows) span.forth span.back → list_any p (in_span span) ≡ true
      by_place (on_link h) = absurd (none_waits span.link.rows h)
      by_place (going h) = from_at span (going h)
      by_place (coming h) = from_at span (coming h)

  -- ---- a hand

  pub held_any : (end : End) (c : Carried) (spans : List Span) → held_in end (lanes_of spans) ≡ Some c → p c ≡ true → list_any p (in_spans spans) ≡ true
  held_any end c [] is mine = absurd cc
  held_any end c (x ∷ xs) is mine = by_forth (is_same_end x.forth.to end) is (held_any end c xs)
    where
      in_hand : (lane : Lane) → lane.hand ≡ Some c → list_any p (in_lane lane) ≡ true
      in_hand lane hand =
          right_any p lane.outbox (option_to_list lane.hand) (subst (λ o. list_any p (option_to_list o) ≡ true) (sym hand) (or_left (p c) false mine))

      by_back : (b : Bool) → (if b then x.back.hand else held_in end (lanes_of xs)) ≡ Some c → (held_in end (lanes_of xs) ≡ Some c → p c ≡ true → list_any p (in_spans xs) ≡ true) → list_any p (in_spans (x ∷ xs)) ≡ true
      by_back true is rest = left_any p (in_span x) (in_spans xs) (from_at x (coming (in_hand x.back is)))
      by_back false is rest = right_any p (in_span x) (in_spans xs) (rest is mine)

      by_forth : (b : Bool) → (if b then x.forth.hand else (if is_same_end x.back.to end then x.back.hand else held_in end (lanes_of xs))) ≡ Some c →
          (held_in end (lanes_of xs) ≡ Some c → p c ≡ true → list_any p (in_spans xs) ≡ true) → list_any p (in_spans (x ∷ xs)) ≡ true
      by_forth true is rest = left_any p (in_span x) (in_spans xs) (from_at x (going (in_hand x.forth is)))
      by_forth false is rest = by_back (is_same_end x.back.to end) is rest

  -- hands are emptied
  pub emptied_less : (end : End) (spans : List Span) → list_any p (in_spans (map (on_lanes (emptied end)) spans)) ≡ true → list_any p (in_spans spans) ≡ true
  emptied_less end [] h = h
  emptied_less end (x ∷ xs) h =
      ⊎_elim
      (λ here. left_any p (in_span x) (in_spans xs) (from_at x (by_place (at (on_lanes (emptied end) x) here))))
      (λ there. right_any p (in_span x) (in_spans xs) (emptied_less end xs there))
      (either_any p (in_span (on_lanes (emptied end) x)) (in_spans (map (on_lanes (emptied end)) xs)) h)
    where
      lane_less : (lane : Lane) → list_any p (in_lane (emptied end lane)) ≡ true → list_any p (in_lane lane) ≡ true
      lane_less lane h = ⊎_elim (λ a. left_any p lane.outbox (option_to_list lane.hand) a) (λ b. by_test (is_same_end lane.to end) b)
          (either_any p lane.outbox (option_to_list (emptied end lane).hand) h)
        where
          by_test : (b : Bool) → list_any p (option_to_list (if b then None else lane.hand)) ≡ true → list_any p (lane.outbox ++ option_to_list lane.hand) ≡ true
          by_test true h = absurd (false≢true h)
          by_test false h = right_any p lane.outbox (option_to_list lane.hand) h

      by_place : At p x.link.rows (emptied end x.forth) (emptied end x.back) → At p x.link.rows x.forth x.back
      by_place (on_link h) = on_link h
      by_place (going h) = going (lane_less x.forth h)
      by_place (coming h) = coming (lane_less x.back h)

  -- ---- copies join outboxes

  -- what leaves by a port has this
  abbrev pub Gives : Owner → Entry → List Entry → Type 0
  Gives owner x past = (port : ℕ) (c : Carried) → pass_of owner port x past ≡ Some c → p c ≡ true → ⊥

  -- where nothing that leaves is one, none is more
  pub spread_less : (owner : Owner) (x : Entry) (past : List Entry) → Gives owner x past → (spans : List Span) → list_any p (in_spans (map (on_lanes (spread owner x past)) spans)) ≡ true → list_any p (in_spans spans) ≡ true
  spread_less owner x past none [] h = h
  spread_less owner x past none (s ∷ ss) h =
      ⊎_elim
      (λ here. left_any p (in_span s) (in_spans ss) (from_at s (by_place (at (on_lanes (spread owner x past) s) here))))
      (λ there. right_any p (in_span s) (in_spans ss) (spread_less owner x past none ss there))
      (either_any p (in_span (on_lanes (spread owner x past) s)) (in_spans (map (on_lanes (spread owner x past)) ss)) h)
    where
      no_gift : (lane : Lane) → list_any p (gift owner x past lane) ≡ true → ⊥
      no_gift lane h = by_node (lane.from.node == owner.number) h
        where
          by_pass : (o : Option Carried) → pass_of owner lane.from.port x past ≡ o → list_any p (option_to_list o) ≡ true → ⊥
          by_pass None is h = false≢true h
          by_pass (Some c) is h = ⊎_elim (λ mine. none lane.from.port c is mine) (λ no. false≢true no) (or_cases (p c) false h)

          by_node : (b : Bool) → list_any p (if b then option_to_list (pass_of owner lane.from.port x past) else []) ≡ true → ⊥
          by_node true h = by_pass (pass_of owner lane.from.port x past) refl h
          by_node false h = false≢true h

      lane_less : (lane : Lane) → list_any p (in_lane (spread owner x past lane)) ≡ true → list_any p (in_lane lane) ≡ true
      lane_less lane h =
          ⊎_elim
          (λ a. ⊎_elim (λ b. left_any p lane.outbox (option_to_list lane.hand) b) (λ c. absurd (no_gift lane c)) (either_any p lane.outbox (gift owner x past lane) a))
          (λ b. right_any p lane.outbox (option_to_list lane.hand) b)
          (either_any p (lane.outbox ++ gift owner x past lane) (option_to_list lane.hand) h)

      by_place : At p s.link.rows (spread owner x past s.forth) (spread owner x past s.back) → At p s.link.rows s.forth s.back
      by_place (on_link h) = on_link h
      by_place (going h) = going (lane_less s.forth h)
      by_place (coming h) = coming (lane_less s.back h)
