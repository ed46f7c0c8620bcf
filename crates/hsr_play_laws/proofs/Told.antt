-- What is told holds at each moment of a play, and what follows from it.
use Rattle.std.proofs.Common.{◌≡◌, ◌⊎◌, inl, ℕ, ◌+◌, ◌<◌, ◌≤◌, ◌&&◌, Bool, true, false, List, [], ◌∷◌, ◌++◌, length, map, take, count_by, Option, Some, None, refl, sym, ap, ◌∙◌, subst, arith, ⊎_elim, zero, suc, append_assoc, zero-add}
use Rattle.std.specs.Prelude.{slice_get, slice_index_or}
use Rattle.std.specs.List.{AllByRecursion, list_any}
use Rattle.std.proofs.lemmas.Bool.{and_from, false_from_ne_true, false≢true, or_left, or_right}
use Rattle.std.proofs.lemmas.List.{length-append}
use Rattle.std.proofs.lemmas.List.Elements.{recursion_from_All}
use Rattle.hsr_node.specs.declared.event.Probe.{Probe}
use Rattle.hsr_link.specs.Rows.{is_lost, put_copies}
use Rattle.hsr_link.specs.declared.row.Dir.{Dir}
use Rattle.hsr_link.specs.declared.row.Row.{Row}
use Rattle.hsr_run_laws.specs.Once.{is_copy}
use Rattle.hsr_run_laws.specs.Run.{is_of, rows_of}
use Rattle.hsr_run_laws.proofs.Same.{is_of_itself}
use Rattle.hsr_scenario.specs.declared.steps.Order.{Order}
use Rattle.hsr_scenario.specs.declared.steps.Order.TheVariants as order
use Rattle.hsr_world_laws.specs.Closing.{IsQuiet}
use Rattle.hsr_world_laws.specs.Spans.{Span, lane_of}
use Rattle.hsr_world_laws.specs.World.{World, record_at, span_at, span_in, tried}
use Rattle.hsr_world_laws.proofs.Counts.{count_append}
use Rattle.hsr_world_steps.specs.declared.step.Step.{Step}
use Rattle.hsr_plays.specs.Conditions.{IsClear}
use Rattle.hsr_plays.specs.Law.{IsSpanOf, LostDown, NeverOverruns, NeverTwice, is_overrun, is_planned_for, run_in}
use Rattle.hsr_plays.specs.Plays.{IsDone, IsPlayed, Moves, Plays, under_way}
use Rattle.hsr_plays.specs.Setup.{FitsOrder, IsSetup, Setup, first_world, is_move}
use Rattle.hsr_plays.specs.Spans.{is_cut_at, is_down, moment_at}
use Rattle.hsr_plays.specs.declared.span.SendSpan.{SendSpan}
use Rattle.hsr_plays.proofs.Times.{next_moment}
use Rattle.hsr_under_way.specs.StepsOn.{is_lost_on}
use Rattle.hsr_play_laws.specs.Told.{IsOpenSend, IsTold, TellsAll}
use Rattle.hsr_play_laws.proofs.Down.{next_cut, next_is}
use Rattle.hsr_play_laws.proofs.First.{told_first}
use Rattle.hsr_play_laws.proofs.Mains.{count_next}
use Rattle.hsr_play_laws.proofs.Moving.{of_fine, of_move, told_move, told_step}
use Rattle.hsr_play_laws.proofs.Quiet.{quiet_none}
use Rattle.hsr_play_laws.proofs.Worlds.{links_are}
use Rattle.hsr_play_laws.proofs.Remembers.{once_now}
use Rattle.hsr_play_laws.proofs.Stays.{each_copy, timed_kept}

-- ---- a drain

told_drain : (s : Setup) (time n : ℕ) (w : World) → IsTold s time n w → IsQuiet w → slice_get s.orders time ≡ Some order.Drain → IsTold s (time + 1) n w
told_drain s time n w told quiet listed = record {
  own = told.own;
  moment = told.moment ∙ sym (ap (moment_at s.orders) next ∙ next_moment 0 time s.orders order.Drain listed);
  cut = λ l below. told.cut l below ∙ sym (ap (λ m. is_cut_at s.orders m l) next ∙ next_cut l false time s.orders order.Drain listed);
  room = told.room;
  mains = λ k.
      let rest = told.mains k in
      let steps = ap (λ m. count_by (is_planned_for k) (take m s.orders)) next ∙ count_next (is_planned_for k) time s.orders order.Drain listed in
      omega (arith, rest, steps);
  fresh = each_copy (λ q. IsOpenSend s w q (time + 1)) (under_way w) (λ send h. absurd (quiet_none (is_copy send) w.spans quiet h));
  timed = λ k. timed_kept s w w (λ m. inl refl) k time (time + 1) (record_at w k) (omega arith) (told.timed k);
  lost = told.lost;
  overrun = told.overrun;
  balanced = told.balanced;
  moves = told.moves;
}
  where
    next : time + 1 ≡ suc time
    next = omega arith

-- ---- plays

module _ (s : Setup) (setup : IsSetup s) (clear : IsClear s) where
  told_moves : (m time n : ℕ) (w after : World) → IsTold s time n w → Moves s.capacity m w after → IsTold s time (n + m) after
  told_moves zero time n w after told same =
      let e : n + 0 ≡ n = omega arith in
      subst (λ k. IsTold s time k after) (sym e) (subst (IsTold s time n) same told)
  told_moves (suc m) time n w after told (move, between, is, done, rest) =
      let facts = of_move w move is in
      let e : n + suc m ≡ (n + 1) + m = omega arith in
      subst (λ k. IsTold s time k after) (sym e) (told_moves m time (n + 1) between after (told_move s clear time n w told move between facts.not_injecting facts.fits done is) rest)

  told_order : (o : Order) (time n : ℕ) (w after : World) → IsTold s time n w → slice_get s.orders time ≡ Some o → IsDone s.capacity s.within o w after → IsTold s (time + 1) n after
  told_order order.Drain time n w after told listed (quiet, same) = subst (IsTold s (time + 1) n) same (told_drain s time n w told quiet listed)
  told_order (order.Step step) time n w after told listed (done, timely) =
      let fine = clear.fine time (order.Step step) listed in
      told_step s clear time n w told step after (of_fine step fine).0 (fits_at s.orders time (recursion_from_All FitsOrder s.orders setup.fit_orders) listed) done fine listed timely
    where
      fits_at : (orders : List Order) (i : ℕ) → AllByRecursion FitsOrder orders → slice_get orders i ≡ Some (order.Step step) → FitsOrder (order.Step step)
      fits_at [] i all got = absurd cc
      fits_at (q ∷ orders) zero all got = let e : Some q ≡ Some (order.Step step) = got in let same : q ≡ order.Step step = cc in subst FitsOrder same all.0
      fits_at (q ∷ orders) (suc i) all got = fits_at orders i all.1 got

  told_plays : (rest later begun : List Order) (n more : ℕ) (w after : World) → s.orders ≡ begun ++ (rest ++ later) → IsTold s (length begun) n w → Plays s.capacity s.within rest more w after →
      IsTold s (length begun + length rest) (n + more) after
  told_plays [] later begun n more w after whole told moves =
      let e : length begun + 0 ≡ length begun = omega arith in
      subst (λ t. IsTold s t (n + more) after) (sym e) (told_moves more (length begun) n w after told moves)
  told_plays (o ∷ rest) later begun n more w after whole told (m, others, sum, (before, behind, moves, done, plays)) =
      let first = told_moves m (length begun) n w before told moves in
      let listed = ap (λ (orders : List Order). slice_get orders (length begun)) whole ∙ next_is begun (rest ++ later) o in
      let second = told_order o (length begun) (n + m) before behind first listed done in
      let one : length (begun ++ o ∷ []) ≡ length begun + 1 = length-append begun (o ∷ []) in
      let all = told_plays rest later (begun ++ o ∷ []) (n + m) others behind after (whole ∙ sym (append_assoc begun (o ∷ []) (rest ++ later))) (subst (λ t. IsTold s t (n + m) behind) (sym one) second) plays in
      let times : length (begun ++ o ∷ []) + length rest ≡ length begun + length (o ∷ rest) = omega (arith, one) in
      let moved : n + m + others ≡ n + more = omega (arith, sum) in
      subst (λ t. IsTold s t (n + more) after) times (subst (λ k. IsTold s (length (begun ++ o ∷ []) + length rest) k after) moved all)

pub tells_all : TellsAll
tells_all s done later n w setup clear played =
    subst (λ t. IsTold s t n w) (zero-add (length done))
    (subst (λ k. IsTold s (0 + length done) k w) (zero-add n) (told_plays s setup clear done later [] 0 n (first_world s) w played.whole (told_first s setup) played.plays))

-- ---- what follows

pub rows_are : (s : Setup) (w : World) (l : ℕ) → rows_of (run_in s w) l ≡ (span_at w l).link.rows
rows_are s w l = by_spans w.spans l
  where
    by_spans : (spans : List Span) (l : ℕ) → slice_index_or (map (λ (span : Span). span.link.rows) spans) l [] ≡ (span_in spans l).link.rows
    by_spans [] l = refl
    by_spans (x ∷ xs) zero = refl
    by_spans (x ∷ xs) (suc l) = by_spans xs l

pub never_twice : NeverTwice
never_twice s done later n w setup clear played l dir send below =
    let told = tells_all s done later n w setup clear played in
    let as_many = links_are s w told.own in
    let once = once_now s clear (length done) n w told l dir send (omega (arith, below, as_many)) in
    let sum = count_append (is_copy send) (put_copies dir (span_at w l).link.rows) (lane_of dir (span_at w l)).outbox in
    let same = ap (λ rows. count_by (is_copy send) (put_copies dir rows)) (rows_are s w l) in
    omega (arith, once, sum, same)

pub never_overruns : NeverOverruns
never_overruns s done later n w setup clear played l below =
    ap (list_any (λ (row : Row). is_overrun row.fate)) (rows_are s w l) ∙ (tells_all s done later n w setup clear played).overrun l below

pub lost_down : LostDown
lost_down s done later n w setup clear played l i row send below listed lost named =
    let told = tells_all s done later n w setup clear played in
    let o = told.lost l send below (there (span_at w l).link.rows i (ap (λ rows. slice_get rows i) (sym (rows_are s w l)) ∙ listed)) in
    (o.0, o.1, o.2)
  where
    there : (rows : List Row) (i : ℕ) → slice_get rows i ≡ Some row → list_any (λ (r : Row). is_copy send r.carried && is_lost r.fate) rows ≡ true
    there [] i got = absurd cc
    there (r ∷ rows) zero got =
        let e : Some r ≡ Some row = got in
        let same : r ≡ row = cc in
        or_left (is_copy send r.carried && is_lost r.fate) _
        (ap (λ (q : Row). is_copy send q.carried && is_lost q.fate) same ∙ and_from (is_copy send row.carried) (is_lost row.fate) (ap (is_of send) named ∙ is_of_itself send) lost)
    there (r ∷ rows) (suc i) got = or_right (is_copy send r.carried && is_lost r.fate) _ (there rows i got)
