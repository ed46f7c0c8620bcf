-- The first world of a setup: nothing was done.
use Rattle.std.proofs.Common.{◌≡◌, ℕ, ◌+◌, ◌<◌, ◌&&◌, ◌||◌, Bool, true, false, List, [], ◌∷◌, ◌++◌, length, map, count_by, filter_map, Option, Some, None, refl, sym, ap, ◌∙◌, subst, arith, zero, suc}
use Rattle.std.specs.Prelude.{sum_by}
use Rattle.std.specs.List.{AllByRecursion, list_any}
use Rattle.std.proofs.lemmas.Bool.{false≢true}
use Rattle.std.proofs.lemmas.List.Sums.{sum_by-cons}
use Rattle.hsr_node.specs.declared.entry.Entry.{Entry}
use Rattle.hsr_node.specs.declared.event.Carried.{Carried}
use Rattle.hsr_node.specs.declared.event.Probe.{Probe}
use Rattle.hsr_node.specs.declared.place.Place.{Place}
use Rattle.hsr_link.specs.Link.{Link, new_link}
use Rattle.hsr_link.specs.Rows.{is_lost, is_taken}
use Rattle.hsr_link.specs.declared.row.Row.{Row}
use Rattle.hsr_topology.specs.declared.end.End.{End}
use Rattle.hsr_run_laws.specs.Once.{is_copy}
use Rattle.hsr_world_laws.specs.Closing.{IsOwn}
use Rattle.hsr_world_laws.specs.Origin.{has_injected, is_injected}
use Rattle.hsr_world_laws.specs.Reached.{IsReached}
use Rattle.hsr_world_laws.specs.Spans.{Span}
use Rattle.hsr_world_laws.specs.World.{World, new_span, record_at, span_at, span_in}
use Rattle.hsr_world_laws.proofs.First.{no_entries}
use Rattle.hsr_world_laws.proofs.FitFrames.{frames_reached}
use Rattle.hsr_plays.specs.Law.{is_main, is_overrun}
use Rattle.hsr_plays.specs.Plays.{in_span, in_spans}
use Rattle.hsr_plays.specs.Setup.{IsSetup, Setup, first_world}
use Rattle.hsr_under_way.specs.StepsOn.{hands_of, judged_in, moves_in, rows_moved, taken_of}
use Rattle.hsr_play_laws.specs.Told.{IsOpenCopy, IsTold, Timed}

-- ---- one link

new_link_is : (room : ℕ) (ends : List End) → (new_span room ends).link ≡ new_link room
new_link_is room [] = refl
new_link_is room (a ∷ []) = refl
new_link_is room (a ∷ b ∷ ends) = refl

nothing_in : (room : ℕ) (ends : List End) → in_span (new_span room ends) ≡ []
nothing_in room [] = refl
nothing_in room (a ∷ []) = refl
nothing_in room (a ∷ b ∷ ends) = refl

-- ---- all links

no_under_way : (P : Carried → Type 0) (room : ℕ) (links : List (List End)) → AllByRecursion P (in_spans (map (new_span room) links))
no_under_way P room [] = tt
no_under_way P room (link ∷ links) = subst (λ (xs : List Carried). AllByRecursion P (xs ++ in_spans (map (new_span room) links))) (sym (nothing_in room link)) (no_under_way P room links)

no_injected : (room : ℕ) (links : List (List End)) → is_injected (map (new_span room) links) ≡ false
no_injected room [] = refl
no_injected room (link ∷ links) = ap (λ (k : Link). list_any (λ (row : Row). row.injected) k.rows || is_injected (map (new_span room) links)) (new_link_is room link) ∙ no_injected room links

rows_none : (room : ℕ) (links : List (List End)) (l : ℕ) → (span_in (map (new_span room) links) l).link.rows ≡ []
rows_none room [] l = refl
rows_none room (link ∷ links) zero = ap (λ (k : Link). k.rows) (new_link_is room link)
rows_none room (link ∷ links) (suc l) = rows_none room links l

not_cut : (room : ℕ) (links : List (List End)) (l : ℕ) → (span_in (map (new_span room) links) l).link.is_cut ≡ false
not_cut room [] l = refl
not_cut room (link ∷ links) zero = ap (λ (k : Link). k.is_cut) (new_link_is room link)
not_cut room (link ∷ links) (suc l) = not_cut room links l

room_is : (room : ℕ) (links : List (List End)) (l : ℕ) → l < length links → (span_in (map (new_span room) links) l).link.capacity ≡ room
room_is room [] l below = absurd (omega (arith, below))
room_is room (link ∷ links) zero below = ap (λ (k : Link). k.capacity) (new_link_is room link)
room_is room (link ∷ links) (suc l) below = room_is room links l (omega (arith, below))

no_rows_moved : (room : ℕ) (links : List (List End)) → sum_by rows_moved (map (new_span room) links) ≡ 0
no_rows_moved room [] = refl
no_rows_moved room (link ∷ links) =
    let a = sum_by-cons rows_moved (new_span room link) (map (new_span room) links) in
    let b = no_rows_moved room links in
    let c : rows_moved (new_span room link) ≡ 0 =
    ap (λ (k : Link). length k.rows + count_by (λ (row : Row). is_taken row.fate) k.rows) (new_link_is room link) in
    omega (arith, a, b, c)

none_held : (room : ℕ) (links : List (List End)) → sum_by hands_of (map (new_span room) links) ≡ 0
none_held room [] = refl
none_held room (link ∷ links) =
    let a = sum_by-cons hands_of (new_span room link) (map (new_span room) links) in
    let b = none_held room links in
    let c = one link in
    omega (arith, a, b, c)
  where
    one : (ends : List End) → hands_of (new_span room ends) ≡ 0
    one [] = refl
    one (x ∷ []) = refl
    one (x ∷ y ∷ ends) = refl

none_taken : (room : ℕ) (links : List (List End)) → sum_by taken_of (map (new_span room) links) ≡ 0
none_taken room [] = refl
none_taken room (link ∷ links) =
    let a = sum_by-cons taken_of (new_span room link) (map (new_span room) links) in
    let b = none_taken room links in
    let c : taken_of (new_span room link) ≡ 0 = ap (λ (k : Link). count_by (λ (row : Row). is_taken row.fate) k.rows) (new_link_is room link) in
    omega (arith, a, b, c)

none_judged : (places : List Place) → sum_by judged_in (map (λ (place : Place). []) places) ≡ 0
none_judged [] = refl
none_judged (place ∷ places) =
    let a = sum_by-cons judged_in [] (map (λ (p : Place). []) places) in
    let b = none_judged places in
    omega (arith, a, b)

-- ---- the world

pub told_first : (s : Setup) → IsSetup s → IsTold s 0 0 (first_world s)
told_first s setup =
    let reached : IsReached s.capacity s.places s.links (first_world s) = record { room = s.room; steps = []; is = refl; fit_places = setup.fit_places; fit_steps = tt } in
    record {
      own = record {
        wired = setup.wired;
        reached = reached;
        frames = frames_reached s.capacity s.places s.links (first_world s) reached setup.fit_places tt;
        own = no_injected s.room s.links;
      };
      moment = refl;
      cut = λ l below. not_cut s.room s.links l;
      room = λ l below. room_is s.room s.links l below;
      mains = λ k. ap (count_by is_main) (no_entries s.places k);
      fresh = no_under_way (IsOpenCopy s (first_world s) 0) s.room s.links;
      timed = λ k. subst (Timed s (first_world s) k 0) (sym (no_entries s.places k)) tt;
      lost = λ l send below some. absurd (false≢true (subst (λ (rows : List Row). list_any (λ row. is_copy send row.carried && is_lost row.fate) rows ≡ true) (rows_none s.room s.links l) some));
      overrun = λ l below. ap (list_any (λ (row : Row). is_overrun row.fate)) (rows_none s.room s.links l);
      balanced = let a = none_judged s.places in let b = none_held s.room s.links in let c = none_taken s.room s.links in omega (arith, a, b, c);
      moves = let a = no_rows_moved s.room s.links in let b = none_judged s.places in omega (arith, a, b);
    }
