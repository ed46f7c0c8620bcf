-- No put overruns: what waits in a direction is of different sends that are open, and so is what is put.
use Rattle.std.proofs.Common.{◌≡◌, ℕ, ◌+◌, ◌<◌, ◌≤◌, ◌&&◌, Bool, true, false, not, if◌then◌else◌, cond, List, [], ◌∷◌, ◌++◌, length, count_by, filter_map, Option, Some, None, refl, sym, ap, ◌∙◌, subst, arith, ⊎_elim, zero, suc}
use Rattle.std.specs.Prelude.{option_to_list}
use Rattle.std.specs.List.{AllByRecursion, cons_option, list_any}
use Rattle.std.proofs.lemmas.Bool.{and_from, and_parts, cases_Bool, or_cases, or_left, or_parts, or_right}
use Rattle.hsr_node.specs.declared.event.Carried.{Carried}
use Rattle.hsr_node.specs.declared.event.Probe.{Probe}
use Rattle.hsr_link.specs.Rows.{goes, is_queued, put_copies, put_copy, waits}
use Rattle.hsr_link.specs.declared.row.Dir.{Dir}
use Rattle.hsr_link.specs.declared.row.Dir.TheVariants.{Forth, Back}
use Rattle.hsr_link.specs.declared.row.Row.{Row}
use Rattle.hsr_run_laws.specs.Closed.{IsOfSend}
use Rattle.hsr_run_laws.specs.Once.{is_copy}
use Rattle.hsr_run_laws.specs.Run.{is_of}
use Rattle.hsr_run_laws.proofs.Lists.{all_weaker, count_more, one_if, zero_if}
use Rattle.hsr_run_laws.proofs.Pigeon.{pigeon}
use Rattle.hsr_run_laws.proofs.Same.{is_of_itself}
use Rattle.hsr_world_laws.specs.Origin.{InSpan, has_injected, is_injected}
use Rattle.hsr_world_laws.specs.Spans.{Lane, Span, lane_of}
use Rattle.hsr_world_laws.specs.World.{World, span_at, span_in}
use Rattle.hsr_world_laws.proofs.Counts.{count_append, count_option}
use Rattle.hsr_world_steps.specs.declared.step.Step.{Step}
use Rattle.hsr_plays.specs.Conditions.{IsClear}
use Rattle.hsr_plays.specs.Plays.{in_span, in_spans, queued_copy, under_way}
use Rattle.hsr_plays.specs.Law.{run_in}
use Rattle.hsr_plays.specs.Setup.{Setup}
use Rattle.hsr_plays.specs.Spans.{is_open_at, spans}
use Rattle.hsr_plays.specs.declared.span.SendSpan.{SendSpan}
use Rattle.hsr_plays.proofs.Open.{room_always}
use Rattle.hsr_under_way.specs.StepsOn.{Overruns, is_under_way}
use Rattle.hsr_under_way.proofs.Kept.{box_any, from_at, on_link}
use Rattle.hsr_under_way.proofs.Losing.{any_at}
use Rattle.hsr_play_laws.specs.Told.{IsOpenSend, IsTold}
use Rattle.hsr_play_laws.proofs.OneSpan.{IsNamed, all_apart, is_span_of, listed_any, tested}
use Rattle.hsr_play_laws.proofs.Worlds.{copies, links_are}
use Rattle.hsr_play_laws.proofs.Remembers.{once_now}
use Rattle.hsr_play_laws.proofs.Stays.{open_now}

-- ---- what waits in a direction

abbrev waiting : Dir → List Row → List Carried
waiting dir rows = filter_map (λ row. if waits dir row then Some row.carried else None) rows

how_many : (dir : Dir) (rows : List Row) → length (waiting dir rows) ≡ count_by (waits dir) rows
how_many dir [] = refl
how_many dir (row ∷ rows) =
    let more = count_more (waits dir) row rows in
    let rest = how_many dir rows in
    ⊎_elim
    (λ yes. let one = one_if (waits dir row) yes in
    let here = ap (λ b. length (cons_option (if b then Some row.carried else None) (waiting dir rows))) yes in
    omega (arith, more, rest, one, here))
    (λ no. let none = zero_if (waits dir row) no in
    let here = ap (λ b. length (cons_option (if b then Some row.carried else None) (waiting dir rows))) no in
    omega (arith, more, rest, none, here))
    (cases_Bool (waits dir row))

-- where nothing was injected it was put
waiting_put : (p : Carried → Bool) (dir : Dir) (rows : List Row) → list_any (λ (row : Row). row.injected) rows ≡ false → count_by p (waiting dir rows) ≤ count_by p (put_copies dir rows)
waiting_put p dir [] own = omega arith
waiting_put p dir (row ∷ rows) own =
    let parts = or_parts row.injected (list_any (λ (r : Row). r.injected) rows) own in
    let rest = waiting_put p dir rows parts.1 in
    let a = count_option p (if waits dir row then Some row.carried else None) (waiting dir rows) in
    let b = count_option p (put_copy dir row) (put_copies dir rows) in
    let less = one (waits dir row) refl parts.0 in
    omega (arith, rest, a, b, less)
  where
    one : (b : Bool) → waits dir row ≡ b → row.injected ≡ false → count_by p (option_to_list (if b then Some row.carried else None)) ≤ count_by p (option_to_list (put_copy dir row))
    one false is own = let none : count_by p [] ≡ 0 = refl in omega (arith, none)
    one true is own =
        let goes_so = (and_parts (goes dir row) (is_queued row.fate) is).0 in
        let put : (goes dir row && not row.injected) ≡ true = and_from (goes dir row) (not row.injected) goes_so (ap not own) in
        let same = ap (λ b. count_by p (option_to_list (if b then Some row.carried else None))) put in
        omega (arith, same)

-- P of what stands in rows holds of what waits
waiting_all : (P : Carried → Type 0) (dir : Dir) (rows : List Row) → AllByRecursion (λ (row : Row). P row.carried) rows → AllByRecursion P (waiting dir rows)
waiting_all P dir [] all = tt
waiting_all P dir (row ∷ rows) all = by_test (waits dir row) (waiting_all P dir rows all.1)
  where
    by_test : (b : Bool) → AllByRecursion P (waiting dir rows) → AllByRecursion P (cons_option (if b then Some row.carried else None) (waiting dir rows))
    by_test true rest = (all.0, rest)
    by_test false rest = rest

-- it waits
waiting_waits : (p : Carried → Bool) (dir : Dir) (rows : List Row) → list_any p (waiting dir rows) ≡ true → list_any p (filter_map queued_copy rows) ≡ true
waiting_waits p dir [] h = h
waiting_waits p dir (row ∷ rows) h = by_test (waits dir row) refl h (waiting_waits p dir rows)
  where
    more : (o : Option Carried) → list_any p (filter_map queued_copy rows) ≡ true → list_any p (cons_option o (filter_map queued_copy rows)) ≡ true
    more None h = h
    more (Some c) h = or_right (p c) (list_any p (filter_map queued_copy rows)) h

    by_test : (b : Bool) → waits dir row ≡ b → list_any p (cons_option (if b then Some row.carried else None) (waiting dir rows)) ≡ true →
        (list_any p (waiting dir rows) ≡ true → list_any p (filter_map queued_copy rows) ≡ true) → list_any p (filter_map queued_copy (row ∷ rows)) ≡ true
    by_test false is h rest = more (queued_copy row) (rest h)
    by_test true is h rest =
        let queued_so = (and_parts (goes dir row) (is_queued row.fate) is).1 in
        subst (λ b. list_any p (cons_option (if b then Some row.carried else None) (filter_map queued_copy rows)) ≡ true) (sym queued_so)
        (⊎_elim (λ here. or_left (p row.carried) (list_any p (filter_map queued_copy rows)) here) (λ later. or_right (p row.carried) (list_any p (filter_map queued_copy rows)) (rest later))
        (or_cases (p row.carried) (list_any p (waiting dir rows)) h))

-- ---- one span of a world

pub in_spans_at : (P : Carried → Type 0) (spans : List Span) (l : ℕ) → l < length spans → AllByRecursion (InSpan P) spans → InSpan P (span_in spans l)
in_spans_at P [] l below all = absurd (omega (arith, below))
in_spans_at P (x ∷ xs) zero below all = all.0
in_spans_at P (x ∷ xs) (suc l) below all = in_spans_at P xs l (omega (arith, below)) all.1

pub own_at : (spans : List Span) (l : ℕ) → is_injected spans ≡ false → has_injected (span_in spans l) ≡ false
own_at [] l own = refl
own_at (x ∷ xs) zero own = (or_parts (has_injected x) (is_injected xs) own).0
own_at (x ∷ xs) (suc l) own = own_at xs l (or_parts (has_injected x) (is_injected xs) own).1

module _ (s : Setup) (clear : IsClear s) (time n : ℕ) (w : World) (told : IsTold s time n w) where
  -- a copy is of a send that is open
  record IsOpenNow (copy : Carried) : Type 0 where
    named : IsNamed s w copy.probe
    listed : list_any (λ y. is_span_of s w copy.probe y && is_open_at time y) (spans s) ≡ true

  open_copy : (copy : Carried) (o : IsOfSend (run_in s w) copy) → is_under_way o.send w ≡ true → IsOpenNow copy
  open_copy copy o there =
      let is = open_now s w time told.fresh o.send there in
      let of_it = is.is in
      let named : IsNamed s w copy.probe = record { of_send = o.send; named = o.named; main = is.main } in
      record {
        named = named;
        listed = listed_any (λ y. is_span_of s w copy.probe y && is_open_at time y) (spans s) of_it.at is.span of_it.listed
            (and_from (is_span_of s w copy.probe is.span) (is_open_at time is.span) (ap (λ q. is_span_of s w q is.span) o.named ∙ tested s w o.send is.span of_it) is.open_then);
      }

  all_open : (xs : List Carried) → AllByRecursion (IsOfSend (run_in s w)) xs → ((send : Probe) → list_any (is_copy send) xs ≡ true → is_under_way send w ≡ true) → AllByRecursion IsOpenNow xs
  all_open [] of_send there = tt
  all_open (x ∷ xs) of_send there = (
    open_copy x of_send.0 (there of_send.0.send (or_left (is_copy of_send.0.send x) (list_any (is_copy of_send.0.send) xs) (ap (is_of of_send.0.send) of_send.0.named ∙ is_of_itself of_send.0.send))),
    all_open xs of_send.1 (λ send later. there send (or_right (is_copy send x) (list_any (is_copy send) xs) later)),
  )

  -- so fewer wait than there is room, where one more is to be put
  few_wait : (l : ℕ) → l < length w.spans → (dir : Dir) (copy : Carried) (box : List Carried) → (lane_of dir (span_at w l)).outbox ≡ copy ∷ box → count_by (waits dir) (span_at w l).link.rows + 1 ≤ s.room
  few_wait l below dir copy box first =
      let rows = (span_at w l).link.rows in
      let all = all_open (copy ∷ waiting dir rows) (of_box dir first, waiting_all (IsOfSend (run_in s w)) dir rows here.rows) under in
      let apart = all_apart s w {X = Carried} (λ c. c.probe) (copy ∷ waiting dir rows) (all_weaker IsOpenNow (λ (c : Carried). IsNamed s w c.probe) (copy ∷ waiting dir rows) (λ c o. o.named) all) once in
      let most = pigeon (λ (c : Carried) (y : SendSpan). is_span_of s w c.probe y) (is_open_at time) (copy ∷ waiting dir rows) (spans s) apart
      (all_weaker IsOpenNow (λ (c : Carried). list_any (λ y. is_span_of s w c.probe y && is_open_at time y) (spans s) ≡ true) (copy ∷ waiting dir rows) (λ c o. o.listed) all) in
      let room = room_always s clear.room time in
      let many = how_many dir rows in
      omega (arith, most, room, many)
    where
      here : InSpan (IsOfSend (run_in s w)) (span_at w l)
      here = in_spans_at (IsOfSend (run_in s w)) w.spans l below (copies s w told.own).spans

      of_box : (dir : Dir) → (lane_of dir (span_at w l)).outbox ≡ copy ∷ box → IsOfSend (run_in s w) copy
      of_box Forth is = (subst (AllByRecursion (IsOfSend (run_in s w))) is here.forth.outbox).0
      of_box Back is = (subst (AllByRecursion (IsOfSend (run_in s w))) is here.back.outbox).0

      under : (send : Probe) → list_any (is_copy send) (copy ∷ waiting dir (span_at w l).link.rows) ≡ true → is_under_way send w ≡ true
      under send some =
          ⊎_elim
          (λ mine. any_at (is_copy send) w.spans l (box_any (is_copy send) dir (span_at w l) copy box first mine))
          (λ later. any_at (is_copy send) w.spans l (from_at (is_copy send) (span_at w l) (on_link (waiting_waits (is_copy send) dir (span_at w l).link.rows later))))
          (or_cases (is_copy send copy) (list_any (is_copy send) (waiting dir (span_at w l).link.rows)) some)

      once : (send : Probe) → count_by (λ (c : Carried). is_of send c.probe) (copy ∷ waiting dir (span_at w l).link.rows) ≤ 1
      once send =
          let rows = (span_at w l).link.rows in
          let both = once_now s clear time n w told l dir send below in
          let sum = count_append (is_copy send) (put_copies dir rows) (lane_of dir (span_at w l)).outbox in
          let out = ap (count_by (is_copy send)) first in
          let a = count_more (is_copy send) copy box in
          let b = count_more (is_copy send) copy (waiting dir rows) in
          let less = waiting_put (is_copy send) dir rows (own_at w.spans l told.own.own) in
          let all : count_by (is_copy send) (copy ∷ waiting dir (span_at w l).link.rows) ≤ 1 = omega (arith, both, sum, out, a, b, less) in
          all

  pub no_overrun : (step : Step) (l : ℕ) → l < length s.links → Overruns w step l → ⊥
  no_overrun step l below o =
      let as_many = links_are s w told.own in
      let few = few_wait l (omega (arith, below, as_many)) o.dir o.copy o.box o.first in
      let room = told.room l below in
      let full = o.full in
      omega (arith, few, room, full)
