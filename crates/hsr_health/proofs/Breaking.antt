-- The runs of a point, one frame after the other.
use Rattle.std.proofs.Common.{◌≡◌, ℕ, zero, suc, ◌+◌, ◌-◌, ◌<◌, ◌≤◌, ◌&&◌, ◌||◌, Bool, true, false, cond, List, [], ◌∷◌, ◌++◌, append_assoc, get_or, length, map, reverse, take, ◌⊎◌, inl, inr, refl, sym, ap, subst, ◌∙◌, arith, Option, Some, None}
use Rattle.std.specs.List.{list_any, range_with_len}
use Rattle.std.specs.Prelude.{nat_eq, filter, option_map, slice_get, slice_index, unwrap_or}
use Rattle.std.proofs.lemmas.Bool.{and_parts, eq-eqb, eqb-false, ne_eqb}
use Rattle.std.proofs.lemmas.List.{append-nil, length-replicate, length-reverse, map-append, reverse-append, reverse-reverse, take_all, take_more}
use Rattle.std.proofs.lemmas.List.Elements.{filter-append}
use Rattle.std.proofs.lemmas.List.Folds.{list_any_more}
use Rattle.std.proofs.lemmas.List.FromFn.{get_or-map-range_with_len}
use Rattle.std.proofs.lemmas.List.Sorted.{IsPermutation-reverse, list_any-IsPermutation}
use Rattle.std.proofs.lemmas.Option.{get_or_from_slice_get, same_Some, slice_get-get_or, slice_get_within}
use Rattle.std.proofs.lemmas.Slice.Zip.{all_zipped_more}
use Rattle.hsr_frame.specs.Address.{is_group, is_same_address}
use Rattle.hsr_frame_groups.specs.Frames.{CaughtFields}
use Rattle.hsr_sightings.specs.Read.{AreSightings}
use Rattle.hsr_sightings.specs.Ring.{Ring}
use Rattle.hsr_sightings.specs.Seen.{came_both, fate_of}
use Rattle.hsr_sightings.specs.Sightings.{Sighting as Seen, came_both_ways, came_by, is_once, sees_both_ways, sightings}
use Rattle.hsr_sightings.specs.Fields.{Sighting}
use Rattle.hsr_health.specs.Broken.{AreMarked, AreRuns, AreTested, IsClosed, IsEnded, IsRun, IsStep, IsStepIf, IsTold, Kept, Run, Span, Spans, all_spans, end_span, grown, is_group_at, is_marked, is_of_span, is_over, kept_at, none_going, put_sighting, run_at, runs_at, runs_if, runs_of, spans_in}
use Rattle.hsr_health.specs.Counted.{AreSources, changed, goes_to_group, is_fate, is_of, kept_by}
use Rattle.hsr_health.specs.declared.broken.Span as the_span
use Rattle.hsr_health.proofs.Fating.{once_same}
use Rattle.hsr_health.proofs.Ranking.{flat_more}
use Rattle.hsr_health.proofs.Sighted.{AreSeenAs, IsSeenAs, all_seen, came_same, is_first, seen_push}
use Rattle.hsr_health.proofs.Skewing.{owner_same}
use Rattle.hsr_health.proofs.Sourcing.{changed_at, is_other, is_own}
use Rattle.hsr_spread.proofs.Spreading.{replicated}
use Rattle.hsr_sightings.proofs.Counting.{slice_get_end}

-- ---- marks

pub changed_long : {X : Type 0} (f : X → X) (i : ℕ) (xs : List X) → length (changed f i xs) ≡ length xs
changed_long f i [] = refl
changed_long f zero (x ∷ xs) = refl
changed_long f (suc i) (x ∷ xs) = ap suc (changed_long f i xs)

or_false : (b : Bool) → (b || false) ≡ b
or_false true = refl
or_false false = refl

or_true : (b : Bool) → (b || true) ≡ true
or_true true = refl
or_true false = refl

-- ---- sightings, by their indexes

pub seen_long : (ring : Ring) (copies : List CaughtFields) (all : List Sighting) (seen : List Seen) → AreSeenAs ring copies all seen → length all ≡ length seen
seen_long ring copies [] [] are = refl
seen_long ring copies [] (t ∷ seen) are = absurd are
seen_long ring copies (s ∷ all) [] are = absurd are
seen_long ring copies (s ∷ all) (t ∷ seen) are = ap suc (seen_long ring copies all seen are.1)

pub seen_at : (ring : Ring) (copies : List CaughtFields) (all : List Sighting) (seen : List Seen) → AreSeenAs ring copies all seen → (i : ℕ) (s : Sighting) → slice_get all i ≡ Some s
    → (t : Seen) × (slice_get seen i ≡ Some t) × IsSeenAs ring copies s t
seen_at ring copies [] [] are i s here = absurd cc
seen_at ring copies [] (t ∷ seen) are i s here = absurd are
seen_at ring copies (r ∷ all) [] are i s here = absurd are
seen_at ring copies (r ∷ all) (t ∷ seen) are zero s here = (t, refl, subst (λ x. IsSeenAs ring copies x t) (same_Some r s here) are.0)
seen_at ring copies (r ∷ all) (t ∷ seen) are (suc i) s here = seen_at ring copies all seen are.1 i s here

seen_from : (ring : Ring) (copies : List CaughtFields) (all : List Sighting) (seen : List Seen) → AreSeenAs ring copies all seen → (i : ℕ) (t : Seen) → slice_get seen i ≡ Some t
    → (s : Sighting) × (slice_get all i ≡ Some s) × IsSeenAs ring copies s t
seen_from ring copies [] [] are i t here = absurd cc
seen_from ring copies [] (u ∷ seen) are i t here = absurd are
seen_from ring copies (s ∷ all) [] are i t here = absurd are
seen_from ring copies (s ∷ all) (u ∷ seen) are zero t here = (s, refl, subst (IsSeenAs ring copies s) (same_Some u t here) are.0)
seen_from ring copies (s ∷ all) (u ∷ seen) are (suc i) t here = seen_from ring copies all seen are.1 i t here

-- the index of its source
source_there : (ring : Ring) (copies : List CaughtFields) (macs : List (List ℕ)) (of_copy : List ℕ) (s : Sighting) (t : Seen) → AreSources copies macs of_copy → IsSeenAs ring copies s t
    → slice_get macs (slice_index of_copy s.first) ≡ Some t.first.copy.src
source_there ring copies macs of_copy s t sources is =
    let inside = slice_get_within copies s.first t.first is.first in
    sources.each s.first (slice_index of_copy s.first) t.first is.first (slice_get-get_or of_copy s.first 0 (omega (arith, inside, sources.long)))

-- ---- a run that ended

abbrev came_of : Ring → ℕ → List ℕ → Seen → Bool
came_of ring way mac t = is_same_address t.first.copy.src mac && came_by ring way t.copies

any_same : (ring : Ring) (copies : List CaughtFields) (macs : List (List ℕ)) (of_copy : List ℕ) (way k : ℕ) (mac : List ℕ) → AreSources copies macs of_copy → slice_get macs k ≡ Some mac
    → ((s : Sighting) (t : Seen) → IsSeenAs ring copies s t → kept_by way s ≡ came_by ring way t.copies) → (seen : List Sighting) (ts : List Seen) → AreSeenAs ring copies seen ts
    → is_marked of_copy way seen k ≡ list_any (came_of ring way mac) ts
any_same ring copies macs of_copy way k mac sources mac_k same [] [] are = refl
any_same ring copies macs of_copy way k mac sources mac_k same [] (t ∷ ts) are = absurd are
any_same ring copies macs of_copy way k mac sources mac_k same (s ∷ seen) [] are = absurd are
any_same ring copies macs of_copy way k mac sources mac_k same (s ∷ seen) (t ∷ ts) are =
    ap (λ b. (b && kept_by way s) || is_marked of_copy way seen k) (owner_same copies macs of_copy k s.first mac t.first sources mac_k are.0.first)
    ∙ ap (λ b. (is_of mac t.first && b) || is_marked of_copy way seen k) (same s t are.0)
    ∙ ap (λ b. came_of ring way mac t || b) (any_same ring copies macs of_copy way k mac sources mac_k same seen ts are.1)

first_told : (ring : Ring) (copies : List CaughtFields) (seen : List Sighting) (ts : List Seen) (at : ℕ) → AreSeenAs ring copies seen ts → 0 < length ts
    → ((s : Sighting) → slice_get seen 0 ≡ Some s → at ≡ s.at) → option_map (λ (t : Seen). t.first.at) (slice_get ts 0) ≡ Some at
first_told ring copies [] [] at are some is = absurd (omega (arith, some))
first_told ring copies [] (t ∷ ts) at are some is = absurd are
first_told ring copies (s ∷ seen) [] at are some is = absurd are
first_told ring copies (s ∷ seen) (t ∷ ts) at are some is = ap Some (sym (is s refl ∙ are.0.at))

told_run : (ring : Ring) (copies : List CaughtFields) (macs : List (List ℕ)) (of_copy : List ℕ) (point : ℕ) (seen : List Sighting) (going : Span) (told : the_span.Span) → AreSources copies macs of_copy
    → AreSeenAs ring copies seen (reverse going) → 0 < length going → IsTold macs of_copy point seen told → IsRun ring macs (run_at point going) told
told_run ring copies macs of_copy point seen [] told sources are some is = absurd (omega (arith, some))
told_run ring copies macs of_copy point seen (t ∷ going) told sources are some is = record {
  point = is.point;
  first = first_told ring copies seen (reverse run) told.first are (omega (arith, length-reverse run)) is.first;
  last = ap Some (sym (is.last last.0 last.1 ∙ last.2.at));
  frames = is.frames ∙ long;
  by_0 = is.by_0 (λ mac. list_any (came_of ring 0 mac) run) (λ k mac mac_k.
      any_same ring copies macs of_copy 0 k mac sources mac_k (λ s u one. ap is_there one.by_0 ∙ is_first ring 0 u.copies) seen (reverse run) are
      ∙ sym (list_any-IsPermutation (came_of ring 0 mac) run (reverse run) (IsPermutation-reverse run)));
  by_1 = is.by_1 (λ mac. list_any (came_of ring 1 mac) run) (λ k mac mac_k.
      any_same ring copies macs of_copy 1 k mac sources mac_k (λ s u one. ap is_there one.by_1 ∙ is_first ring 1 u.copies) seen (reverse run) are
      ∙ sym (list_any-IsPermutation (came_of ring 1 mac) run (reverse run) (IsPermutation-reverse run)));
}
  where
    run : List Seen
    run = t ∷ going

    is_there : Option ℕ → Bool
    is_there None = false
    is_there (Some n) = true

    long : length seen ≡ length run
    long = seen_long ring copies seen (reverse run) are ∙ length-reverse run

    at_end : slice_get (reverse run) (length going) ≡ Some t
    at_end = ap (λ l. slice_get l (length going)) (reverse-append (t ∷ []) going) ∙ slice_get_end (reverse going) t (length going) (length-reverse going)

    last : (s : Sighting) × (slice_get seen (length seen - 1) ≡ Some s) × IsSeenAs ring copies s t
    last =
        let own = seen_from ring copies seen (reverse run) are (length going) t at_end in
        let place : length seen - 1 ≡ length going = omega (arith, long) in
        (own.0, ap (slice_get seen) place ∙ own.1, own.2)

-- ---- the runs so far

-- what is kept of them, behind the runs of other points
pub record IsRunning (ring : Ring) (copies : List CaughtFields) (macs : List (List ℕ)) (point : ℕ) (before : List Run) (spans : Spans) (now : Kept) : Type 0 where
  pub ended : AreRuns ring macs (before ++ map (run_at point) (reverse spans.ended)) now.ended
  pub seen : AreSeenAs ring copies now.seen (reverse spans.going)
  pub is_of : (k : ℕ) (mac : List ℕ) (own : Bool) → slice_get macs k ≡ Some mac → slice_get now.is_of k ≡ Some own → own ≡ is_of_span mac spans.going
  pub long : length now.is_of ≡ length macs

abbrev no_spans : Spans
no_spans = record { ended = []; going = [] }

none_running : (ring : Ring) (copies : List CaughtFields) (macs : List (List ℕ)) (point : ℕ) (before : List Run) (told : List the_span.Span) → AreRuns ring macs before told
    → IsRunning ring copies macs point before no_spans (none_going told (length macs))
none_running ring copies macs point before told are = record {
  ended = subst (λ l. AreRuns ring macs l told) (sym (append-nil before)) are;
  seen = tt;
  is_of = λ k mac own mac_k own_k. replicated (length macs) false own k own_k;
  long = length-replicate (length macs) false;
}

grown_step : (ring : Ring) (copies : List CaughtFields) (macs : List (List ℕ)) (of_copy : List ℕ) (point : ℕ) (before : List Run) (spans : Spans) (old : Kept) (s : Sighting) (t : Seen)
    → AreSources copies macs of_copy → IsSeenAs ring copies s t → IsRunning ring copies macs point before spans old
    → IsRunning ring copies macs point before (record spans { going = t ∷ spans.going }) (grown of_copy s old)
grown_step ring copies macs of_copy point before spans old s t sources one is = record {
  ended = is.ended;
  seen = subst (AreSeenAs ring copies (old.seen ++ s ∷ [])) (sym (reverse-append (t ∷ []) spans.going)) (seen_push ring copies old.seen (reverse spans.going) s t is.seen one);
  is_of = λ k mac own mac_k own_k. by_place k mac own mac_k (changed_at (λ x. x || true) old.is_of source k own own_k);
  long = changed_long (λ x. x || true) source old.is_of ∙ is.long;
}
  where
    source : ℕ
    source = slice_index of_copy s.first

    its : slice_get macs source ≡ Some t.first.copy.src
    its = source_there ring copies macs of_copy s t sources one

    by_place : (k : ℕ) (mac : List ℕ) (own : Bool) → slice_get macs k ≡ Some mac
        → ((k ≡ source) × ((x : Bool) × (slice_get old.is_of k ≡ Some x) × (own ≡ (x || true)))) ⊎ ((source ≡ k → ⊥) × (slice_get old.is_of k ≡ Some own))
        → own ≡ (is_of mac t.first || is_of_span mac spans.going)
    by_place k mac own mac_k (inl here) =
        let same : mac ≡ t.first.copy.src = same_Some mac t.first.copy.src (sym mac_k ∙ ap (slice_get macs) here.0 ∙ its) in
        here.1.2 ∙ or_true here.1.0 ∙ sym (ap (λ b. b || is_of_span mac spans.going) (ap (λ m. is_of m t.first) same ∙ is_own t.first))
    by_place k mac own mac_k (inr other) =
        is.is_of k mac own mac_k other.1
        ∙ sym (ap (λ b. b || is_of_span mac spans.going) (is_other mac t.first (λ e. other.0 (sources.once source k mac (its ∙ ap Some e) mac_k))))

-- one run more
runs_push : (point : ℕ) (before : List Run) (ended : List Span) (going : Span)
    → (before ++ map (run_at point) (reverse ended)) ++ run_at point going ∷ [] ≡ before ++ map (run_at point) (reverse (going ∷ ended))
runs_push point before ended going =
    append_assoc before (map (run_at point) (reverse ended)) (run_at point going ∷ [])
    ∙ ap (λ l. before ++ l) (sym (ap (map (run_at point)) (reverse-append (going ∷ []) ended) ∙ map-append (run_at point) (reverse ended) (going ∷ [])))

more_runs : (ring : Ring) (copies : List CaughtFields) (macs : List (List ℕ)) (of_copy : List ℕ) (point : ℕ) (before : List Run) (spans : Spans) (old : Kept) (told : the_span.Span)
    → AreSources copies macs of_copy → IsRunning ring copies macs point before spans old → 0 < length spans.going → IsTold macs of_copy point old.seen told
    → AreRuns ring macs (before ++ map (run_at point) (reverse (spans.going ∷ spans.ended))) (old.ended ++ told ∷ [])
more_runs ring copies macs of_copy point before spans old told sources is some is_told =
    subst (λ l. AreRuns ring macs l (old.ended ++ told ∷ [])) (runs_push point before spans.ended spans.going)
    (all_zipped_more (IsRun ring macs) (before ++ map (run_at point) (reverse spans.ended)) old.ended (run_at point spans.going) told is.ended
    (told_run ring copies macs of_copy point old.seen spans.going told sources is.seen some is_told))

ended_step : (ring : Ring) (copies : List CaughtFields) (macs : List (List ℕ)) (of_copy : List ℕ) (point : ℕ) (before : List Run) (spans : Spans) (old new : Kept) → AreSources copies macs of_copy
    → 0 < length spans.going → IsRunning ring copies macs point before spans old → IsEnded macs of_copy point old new → IsRunning ring copies macs point before (end_span spans) new
ended_step ring copies macs of_copy point before spans old new sources some is over = subst (IsRunning ring copies macs point before (end_span spans)) (sym over.is) (record {
  ended = more_runs ring copies macs of_copy point before spans old over.told sources is some over.is_told;
  seen = tt;
  is_of = λ k mac own mac_k own_k. replicated (length macs) false own k own_k;
  long = length-replicate (length macs) false;
})

-- one frame more
running_step : (ring : Ring) (copies : List CaughtFields) (macs : List (List ℕ)) (of_copy : List ℕ) (point : ℕ) (before : List Run) (spans : Spans) (old new : Kept) (s : Sighting) (t : Seen)
    → AreSources copies macs of_copy → IsSeenAs ring copies s t → IsRunning ring copies macs point before spans old
    → IsStepIf (kept_at copies point s) (IsStep macs of_copy point s (is_fate 1 (fate_of ring s)) (is_over of_copy old.is_of s) old new) old new
    → IsRunning ring copies macs point before (cond (is_group_at point t) (put_sighting ring t spans) spans) new
running_step ring copies macs of_copy point before spans old new s t sources one is step =
    by_case (is_group_at point t) (is_once ring t.copies) over some
    (subst (λ b. IsStepIf b (IsStep macs of_copy point s (is_once ring t.copies) over old new) old new) group
    (subst (λ b. IsStepIf (kept_at copies point s) (IsStep macs of_copy point s b over old new) old new) (once_same ring copies s t one)
    (subst (λ b. IsStepIf (kept_at copies point s) (IsStep macs of_copy point s (is_fate 1 (fate_of ring s)) b old new) old new) over_same step)))
  where
    source : ℕ
    source = slice_index of_copy s.first

    its : slice_get macs source ≡ Some t.first.copy.src
    its = source_there ring copies macs of_copy s t sources one

    over : Bool
    over = came_both_ways ring t.copies && is_of_span t.first.copy.src spans.going

    group : kept_at copies point s ≡ is_group_at point t
    group = ap (λ o. goes_to_group o && nat_eq s.point point) one.first ∙ ap (λ n. is_group t.first.copy.dst && nat_eq n point) one.point

    mark : Bool
    mark = get_or old.is_of source false

    marked : slice_get old.is_of source ≡ Some mark
    marked = let inside = slice_get_within macs source t.first.copy.src its in slice_get-get_or old.is_of source false (omega (arith, inside, is.long))

    over_same : is_over of_copy old.is_of s ≡ over
    over_same =
        ap (λ o. came_both s && unwrap_or o false) marked ∙ ap (λ b. came_both s && b) (is.is_of source t.first.copy.src mark its marked)
        ∙ ap (λ b. b && is_of_span t.first.copy.src spans.going) (came_same ring copies s t one)

    none_of : (going : Span) → is_of_span t.first.copy.src going ≡ true → 0 < length going
    none_of [] has = absurd cc
    none_of (u ∷ going) has = omega arith

    some : over ≡ true → 0 < length spans.going
    some has = none_of spans.going (and_parts (came_both_ways ring t.copies) (is_of_span t.first.copy.src spans.going) has).1

    by_case : (g o e : Bool) → (e ≡ true → 0 < length spans.going) → IsStepIf g (IsStep macs of_copy point s o e old new) old new
        → IsRunning ring copies macs point before (cond g (cond o (record spans { going = t ∷ spans.going }) (cond e (end_span spans) spans)) spans) new
    by_case false o e has same = subst (IsRunning ring copies macs point before spans) (sym same) is
    by_case true true e has same =
        subst (IsRunning ring copies macs point before (record spans { going = t ∷ spans.going })) (sym same) (grown_step ring copies macs of_copy point before spans old s t sources one is)
    by_case true false true has ends = ended_step ring copies macs of_copy point before spans old new sources (has refl) is ends
    by_case true false false has same = subst (IsRunning ring copies macs point before spans) (sym same) is

-- ---- all frames

-- all sightings in the order of time
abbrev in_time : Ring → List CaughtFields → List Seen
in_time ring copies = reverse (sightings ring (reverse copies))

-- the runs of those in front of a place
abbrev pub spans_to : Ring → List CaughtFields → ℕ → ℕ → Spans
spans_to ring copies point i = spans_in ring (filter (is_group_at point) (reverse (take i (in_time ring copies))))

pub first_running : (ring : Ring) (copies : List CaughtFields) (macs : List (List ℕ)) (point : ℕ) (before : List Run) (told : List the_span.Span) (now : Kept) → AreRuns ring macs before told
    → now ≡ none_going told (length macs) → IsRunning ring copies macs point before (spans_to ring copies point 0) now
first_running ring copies macs point before told now are is = subst (IsRunning ring copies macs point before no_spans) (sym is) (none_running ring copies macs point before told are)

pub running_more : (ring : Ring) (copies : List CaughtFields) (macs : List (List ℕ)) (of_copy numbers : List ℕ) (point : ℕ) (before : List Run) (all : List Sighting) (i : ℕ) (s : Sighting) (old new : Kept)
    → slice_get all i ≡ Some s → AreSources copies macs of_copy → AreSightings ring copies all numbers → IsRunning ring copies macs point before (spans_to ring copies point i) old
    → IsStepIf (kept_at copies point s) (IsStep macs of_copy point s (is_fate 1 (fate_of ring s)) (is_over of_copy old.is_of s) old new) old new
    → IsRunning ring copies macs point before (spans_to ring copies point (i + 1)) new
running_more ring copies macs of_copy numbers point before all i s old new here sources are is step =
    subst (λ x. IsRunning ring copies macs point before x new) (sym next)
    (running_step ring copies macs of_copy point before (spans_to ring copies point i) old new s t sources own.2 is step)
  where
    own : (u : Seen) × (slice_get (in_time ring copies) i ≡ Some u) × IsSeenAs ring copies s u
    own = seen_at ring copies all (in_time ring copies) (all_seen ring copies all numbers are) i s here

    t : Seen
    t = own.0

    so_far : List Seen
    so_far = reverse (take i (in_time ring copies))

    longer : reverse (take (i + 1) (in_time ring copies)) ≡ t ∷ so_far
    longer =
        let below = slice_get_within (in_time ring copies) i t own.1 in
        ap reverse (take_more (in_time ring copies) i t below ∙ ap (λ x. take i (in_time ring copies) ++ x ∷ []) (get_or_from_slice_get (in_time ring copies) i t t own.1))
        ∙ reverse-append (take i (in_time ring copies)) (t ∷ [])

    by_test : (b : Bool) → spans_in ring (cond b (t ∷ filter (is_group_at point) so_far) (filter (is_group_at point) so_far))
        ≡ cond b (put_sighting ring t (spans_to ring copies point i)) (spans_to ring copies point i)
    by_test true = refl
    by_test false = refl

    next : spans_to ring copies point (i + 1) ≡ cond (is_group_at point t) (put_sighting ring t (spans_to ring copies point i)) (spans_to ring copies point i)
    next = ap (λ l. spans_in ring (filter (is_group_at point) l)) longer ∙ by_test (is_group_at point t)

closed : (ring : Ring) (copies : List CaughtFields) (macs : List (List ℕ)) (of_copy : List ℕ) (point : ℕ) (before : List Run) (spans : Spans) (now : Kept) (told : List the_span.Span)
    → AreSources copies macs of_copy → IsRunning ring copies macs point before spans now → IsClosed macs of_copy point (nat_eq (length now.seen) 0) now told
    → AreRuns ring macs (before ++ map (run_at point) (reverse (all_spans spans))) told
closed ring copies macs of_copy point before spans now told sources is over =
    by_case (nat_eq (length spans.going) 0) refl (subst (λ n. IsClosed macs of_copy point (nat_eq n 0) now told) long over)
  where
    long : length now.seen ≡ length spans.going
    long = seen_long ring copies now.seen (reverse spans.going) is.seen ∙ length-reverse spans.going

    by_case : (b : Bool) → nat_eq (length spans.going) 0 ≡ b → IsClosed macs of_copy point b now told
        → AreRuns ring macs (before ++ map (run_at point) (reverse (cond b spans.ended (spans.going ∷ spans.ended)))) told
    by_case true none same = subst (AreRuns ring macs (before ++ map (run_at point) (reverse spans.ended))) (sym same) is.ended
    by_case false some own =
        let apart = eqb-false (length spans.going) 0 some in
        subst (AreRuns ring macs (before ++ map (run_at point) (reverse (spans.going ∷ spans.ended)))) (sym own.2)
        (more_runs ring copies macs of_copy point before spans now own.0 sources is (omega (arith, apart)) own.1)

pub all_running : (ring : Ring) (copies : List CaughtFields) (macs : List (List ℕ)) (of_copy numbers : List ℕ) (point : ℕ) (before : List Run) (all : List Sighting) (i : ℕ) (now : Kept)
    (told : List the_span.Span) → length all ≤ i → AreSources copies macs of_copy → AreSightings ring copies all numbers → IsRunning ring copies macs point before (spans_to ring copies point i) now
    → IsClosed macs of_copy point (nat_eq (length now.seen) 0) now told → AreRuns ring macs (before ++ runs_at ring copies point) told
all_running ring copies macs of_copy numbers point before all i now told past sources are is over =
    subst (λ l. AreRuns ring macs (before ++ map (run_at point) (reverse (all_spans (spans_in ring (filter (is_group_at point) l))))) told) whole
    (closed ring copies macs of_copy point before (spans_to ring copies point i) now told sources is over)
  where
    long : length all ≡ length (in_time ring copies)
    long = seen_long ring copies all (in_time ring copies) (all_seen ring copies all numbers are)

    whole : reverse (take i (in_time ring copies)) ≡ sightings ring (reverse copies)
    whole = ap reverse (take_all i (in_time ring copies) (omega (arith, past, long))) ∙ reverse-reverse (sightings ring (reverse copies))

-- ---- steps

pub kept_same : (a b : List the_span.Span) (s t : List Sighting) (x y : List Bool) → a ≡ b → s ≡ t → x ≡ y → ◌≡◌ {A = Kept} (record { ended = a; seen = s; is_of = x }) (record { ended = b; seen = t; is_of = y })
kept_same a b s t x y same_a same_s same_x =
    ap (λ l. record { ended = l; seen = s; is_of = x }) same_a ∙ ap (λ l. record { ended = b; seen = l; is_of = x }) same_s ∙ ap (λ l. record { ended = b; seen = t; is_of = l }) same_x

pub step_grows : (macs : List (List ℕ)) (of_copy : List ℕ) (point : ℕ) (s : Sighting) (once over : Bool) (old new : Kept) → once ≡ true → new ≡ grown of_copy s old → IsStep macs of_copy point s once over old new
step_grows macs of_copy point s true over old new is same = same
step_grows macs of_copy point s false over old new is same = absurd cc

pub step_ends : (macs : List (List ℕ)) (of_copy : List ℕ) (point : ℕ) (s : Sighting) (once over : Bool) (old new : Kept) → once ≡ false → over ≡ true → IsEnded macs of_copy point old new
    → IsStep macs of_copy point s once over old new
step_ends macs of_copy point s true over old new is is_over ends = absurd cc
step_ends macs of_copy point s false true old new is is_over ends = ends
step_ends macs of_copy point s false false old new is is_over ends = absurd cc

pub step_none : (macs : List (List ℕ)) (of_copy : List ℕ) (point : ℕ) (s : Sighting) (once over : Bool) (old new : Kept) → once ≡ false → over ≡ false → new ≡ old
    → IsStep macs of_copy point s once over old new
step_none macs of_copy point s true over old new is is_over same = absurd cc
step_none macs of_copy point s false true old new is is_over same = absurd cc
step_none macs of_copy point s false false old new is is_over same = same

pub step_here : (b : Bool) (is_step : Type 0) (old new : Kept) → b ≡ true → is_step → IsStepIf b is_step old new
step_here true is_step old new is step = step
step_here false is_step old new is step = absurd cc

pub step_other : (b : Bool) (is_step : Type 0) (old new : Kept) → b ≡ false → new ≡ old → IsStepIf b is_step old new
step_other true is_step old new is same = absurd cc
step_other false is_step old new is same = same

-- ---- all points

pub points_more : (ring : Ring) (copies : List CaughtFields) (both : List Bool) (point : ℕ) → both ≡ map (sees_both_ways ring copies) (range_with_len 0 (length both)) → point < length both
    → runs_of ring copies point ++ runs_if ring copies point (get_or both point false) ≡ runs_of ring copies (point + 1)
points_more ring copies both point is inside =
    ap (λ b. runs_of ring copies point ++ runs_if ring copies point b) own ∙ sym (flat_more (λ p. runs_if ring copies p (sees_both_ways ring copies p)) point)
  where
    own : get_or both point false ≡ sees_both_ways ring copies point
    own =
        let same : 0 + point ≡ point = omega arith in
        ap (λ l. get_or l point false) is ∙ get_or-map-range_with_len (sees_both_ways ring copies) 0 (length both) point point false inside same

-- ---- addresses that are marked

pub those_more : (macs those new : List (List ℕ)) (marks : List Bool) (k : ℕ) (mac : List ℕ) (mark : Bool) (test : List ℕ → Bool) → slice_get macs k ≡ Some mac → slice_get marks k ≡ Some mark
    → AreTested macs marks test → those ≡ filter test (take k macs) → new ≡ those ++ cond mark (mac ∷ []) [] → new ≡ filter test (take (k + 1) macs)
those_more macs those new marks k mac mark test mac_k mark_k tested those_are is =
    is ∙ ap (λ l. l ++ cond mark (mac ∷ []) []) those_are ∙ ap (λ b. filter test (take k macs) ++ cond b (mac ∷ []) []) (tested k mac mark mac_k mark_k)
    ∙ sym (ap (filter test) (take_more macs k mac (slice_get_within macs k mac mac_k) ∙ ap (λ x. take k macs ++ x ∷ []) (get_or_from_slice_get macs k mac mac mac_k))
    ∙ filter-append test (take k macs) (mac ∷ []))

marks_more : (of_copy : List ℕ) (way : ℕ) (seen : List Sighting) (i : ℕ) (s : Sighting) (old new : List Bool) → slice_get seen i ≡ Some s
    → new ≡ changed (λ own. own || kept_by way s) (slice_index of_copy s.first) old
    → ((k : ℕ) (own : Bool) → slice_get old k ≡ Some own → own ≡ is_marked of_copy way (take i seen) k) → (k : ℕ) (own : Bool) → slice_get new k ≡ Some own → own ≡ is_marked of_copy way (take (i + 1) seen) k
marks_more of_copy way seen i s old new here is are k own own_k =
    by_place (changed_at (λ x. x || kept_by way s) old source k own (ap (λ l. slice_get l k) (sym is) ∙ own_k)) ∙ sym grown_any
  where
    source : ℕ
    source = slice_index of_copy s.first

    grown_any : is_marked of_copy way (take (i + 1) seen) k ≡ (is_marked of_copy way (take i seen) k || (nat_eq source k && kept_by way s))
    grown_any =
        list_any_more (λ x. nat_eq (slice_index of_copy x.first) k && kept_by way x) seen i s (slice_get_within seen i s here)
        ∙ ap (λ x. is_marked of_copy way (take i seen) k || (nat_eq (slice_index of_copy x.first) k && kept_by way x)) (get_or_from_slice_get seen i s s here)

    by_place : ((k ≡ source) × ((x : Bool) × (slice_get old k ≡ Some x) × (own ≡ (x || kept_by way s)))) ⊎ ((source ≡ k → ⊥) × (slice_get old k ≡ Some own))
        → own ≡ (is_marked of_copy way (take i seen) k || (nat_eq source k && kept_by way s))
    by_place (inl mine) =
        mine.1.2 ∙ ap (λ b. b || kept_by way s) (are k mine.1.0 mine.1.1) ∙ sym (ap (λ b. is_marked of_copy way (take i seen) k || (b && kept_by way s)) (eq-eqb source k (sym mine.0)))
    by_place (inr other) =
        are k own other.1 ∙ sym (or_false (is_marked of_copy way (take i seen) k)) ∙ sym (ap (λ b. is_marked of_copy way (take i seen) k || (b && kept_by way s)) (ne_eqb source k other.0))

pub marks_read : (of_copy : List ℕ) (way : ℕ) (seen : List Sighting) (i : ℕ) (s : Sighting) (old new : List Bool) (source : ℕ) (mark : Bool) → slice_get seen i ≡ Some s → source ≡ slice_index of_copy s.first
    → mark ≡ kept_by way s → new ≡ changed (λ own. own || mark) source old → AreMarked of_copy way (take i seen) old → AreMarked of_copy way (take (i + 1) seen) new
marks_read of_copy way seen i s old new source mark here source_is mark_is is are =
    marks_more of_copy way seen i s old new here (is ∙ ap (λ b. changed (λ own. own || b) source old) mark_is ∙ ap (λ n. changed (λ own. own || kept_by way s) n old) source_is) are
