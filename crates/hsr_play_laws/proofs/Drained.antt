-- The steps of a drain are moves, and where it has none left nothing is under way.
use Rattle.std.proofs.Common.{◌≡◌, ℕ, ◌+◌, ◌<◌, not, Bool, true, false, if◌then◌else◌, List, [], ◌∷◌, length, Option, Some, None, option_map, refl, sym, ap, ◌∙◌, subst, arith, ⊎_elim, zero, suc}
use Rattle.std.specs.Prelude.{is_some, slice_index_or}
use Rattle.std.specs.List.{find, list_any}
use Rattle.std.specs.Option.{option_or}
use Rattle.std.proofs.lemmas.Bool.{cases_Bool, false≢true}
use Rattle.std.proofs.lemmas.List.Folds.{find-append}
use Rattle.hsr_node.specs.Place.{ports}
use Rattle.hsr_node.specs.declared.place.Place.{Place}
use Rattle.hsr_node.specs.declared.place.Place.TheVariants.{QuadBox}
use Rattle.hsr_link.specs.Rows.{first_copy}
use Rattle.hsr_link.specs.declared.row.Dir.{Dir}
use Rattle.hsr_link.specs.declared.row.Dir.TheVariants.{Forth, Back}
use Rattle.hsr_topology.specs.Wired.{HasPort, IsWired}
use Rattle.hsr_topology.specs.declared.end.End.{End}
use Rattle.hsr_world_laws.specs.Closing.{IsQuiet, is_busy}
use Rattle.hsr_world_laws.specs.Spans.{Span, lane_of}
use Rattle.hsr_world_laws.specs.World.{World, is_empty, is_held, is_waiting, next_step, ports_from, ports_of, span_at, span_in, take_from, waits_in}
use Rattle.hsr_world_steps.specs.declared.step.Step.{Step}
use Rattle.hsr_world_steps.specs.declared.step.Step.TheVariants.{Put, Take, Judge}
use Rattle.hsr_plays.specs.Setup.{is_move}
use Rattle.hsr_play_laws.proofs.Lanes.{AreWired, lane_is}
use Rattle.hsr_play_laws.proofs.Left.{Left, busy_left, to_judge, to_put, to_take}

-- ---- a step of a drain is a move

take_moves : (l : ℕ) (spans : List Span) (step : Step) → take_from l spans ≡ Some step → is_move step ≡ true
take_moves l [] step is = absurd cc
take_moves l (x ∷ xs) step is = by_tests (is_some (first_copy Forth x.link.rows)) (is_some (first_copy Back x.link.rows)) is (take_moves (l + 1) xs step)
  where
    mine : (dir : Dir) → Some (Take l dir) ≡ Some step → is_move step ≡ true
    mine dir is = let same : Take l dir ≡ step = cc in ap is_move (sym same)

    by_tests : (f b : Bool) → (if f then Some (Take l Forth) else (if b then Some (Take l Back) else take_from (l + 1) xs)) ≡ Some step → (take_from (l + 1) xs ≡ Some step → is_move step ≡ true) → is_move step ≡ true
    by_tests true b is rest = mine Forth is
    by_tests false true is rest = mine Back is
    by_tests false false is rest = rest is

abbrev judge_there : End → Step
judge_there end = Judge end.node end.port

abbrev put_there : End → Step
put_there end = Put end.node end.port

pub next_moves : (w : World) (step : Step) → next_step w ≡ Some step → is_move step ≡ true
next_moves w step is = by_found (find (is_held w) (ports_from 0 w.places)) (find (is_waiting w) (ports_from 0 w.places)) is
  where
    by_found : (a b : Option End) → option_or (option_map judge_there a) (option_or (option_map put_there b) (take_from 0 w.spans)) ≡ Some step → is_move step ≡ true
    by_found (Some end) b is = let same : judge_there end ≡ step = let e : Some (judge_there end) ≡ Some step = is in cc in ap is_move (sym same)
    by_found None (Some end) is = let same : put_there end ≡ step = let e : Some (put_there end) ≡ Some step = is in cc in ap is_move (sym same)
    by_found None None is = take_moves 0 w.spans step is

-- ---- what is not found is nowhere

record IsNothingLeft (w : World) : Type 0 where
  held : find (is_held w) (ports_from 0 w.places) ≡ None
  waiting : find (is_waiting w) (ports_from 0 w.places) ≡ None
  ready : take_from 0 w.spans ≡ None

nothing_left : (w : World) → next_step w ≡ None → IsNothingLeft w
nothing_left w is = by_found (find (is_held w) (ports_from 0 w.places)) (find (is_waiting w) (ports_from 0 w.places)) refl refl is
  where
    by_found : (a b : Option End) → find (is_held w) (ports_from 0 w.places) ≡ a → find (is_waiting w) (ports_from 0 w.places) ≡ b →
        option_or (option_map judge_there a) (option_or (option_map put_there b) (take_from 0 w.spans)) ≡ None → IsNothingLeft w
    by_found (Some end) b held waiting is = absurd cc
    by_found None (Some end) held waiting is = absurd cc
    by_found None None held waiting is = record { held = held; waiting = waiting; ready = is }

module _ (p : End → Bool) where
  none_here : (end : End) (rest : Option End) → (if p end then Some end else rest) ≡ None → (p end ≡ false) × (rest ≡ None)
  none_here end rest is = by_test (p end) is
    where
      by_test : (b : Bool) → (if b then Some end else rest) ≡ None → (b ≡ false) × (rest ≡ None)
      by_test true is = absurd cc
      by_test false is = (refl, is)

  none_of : (n first count : ℕ) → find p (ports_of n first count) ≡ None → (q : ℕ) → q < count → p (record { node = n; port = first + q }) ≡ false
  none_of n first zero none q below = absurd (omega (arith, below))
  none_of n first (suc count) none zero below =
      let e : first + 0 ≡ first = omega arith in
      ap (λ m. p (let end : End = record { node = n; port = m } in end)) e ∙ (none_here (record { node = n; port = first }) (find p (ports_of n (first + 1) count)) none).0
  none_of n first (suc count) none (suc q) below =
      let e : first + suc q ≡ first + 1 + q = omega arith in
      ap (λ m. p (let end : End = record { node = n; port = m } in end)) e
      ∙ none_of n (first + 1) count (none_here (record { node = n; port = first }) (find p (ports_of n (first + 1) count)) none).1 q (omega (arith, below))

  neither : (a b : Option End) → option_or a b ≡ None → (a ≡ None) × (b ≡ None)
  neither None b is = (refl, is)
  neither (Some end) b is = absurd cc

  none_from : (n : ℕ) (places : List Place) → find p (ports_from n places) ≡ None → (m port : ℕ) → m < length places → port < ports (slice_index_or places m QuadBox) → p (record { node = n + m; port = port }) ≡ false
  none_from n [] none m port below there = absurd (omega (arith, below))
  none_from n (place ∷ places) none m port below there =
      let both = neither (find p (ports_of n 0 (ports place))) (find p (ports_from (n + 1) places)) (sym (find-append p (ports_of n 0 (ports place)) (ports_from (n + 1) places)) ∙ none) in
      by_node m below there both.0 (none_from (n + 1) places both.1)
    where
      by_node : (m : ℕ) → m < length (place ∷ places) → port < ports (slice_index_or (place ∷ places) m QuadBox) → find p (ports_of n 0 (ports place)) ≡ None →
          ((m port : ℕ) → m < length places → port < ports (slice_index_or places m QuadBox) → p (record { node = n + 1 + m; port = port }) ≡ false) → p (record { node = n + m; port = port }) ≡ false
      by_node zero below there here rest =
          let e : n + 0 ≡ n = omega arith in
          let f : port ≡ 0 + port = omega arith in
          ap (λ k. p (let end : End = record { node = k; port = port } in end)) e ∙ (ap (λ k. p (let end : End = record { node = n; port = k } in end)) f ∙ none_of n 0 (ports place) here port there)
      by_node (suc m) below there here rest =
          let e : n + suc m ≡ n + 1 + m = omega arith in
          ap (λ k. p (let end : End = record { node = k; port = port } in end)) e ∙ rest m port (omega (arith, below)) there

  -- no port that is there passes the test
  none_there : (places : List Place) → find p (ports_from 0 places) ≡ None → (end : End) → HasPort places end → p end ≡ false
  none_there places none end has =
      let e : 0 + end.node ≡ end.node = omega arith in
      ap (λ k. p (let it : End = record { node = k; port = end.port } in it)) (sym e) ∙ none_from 0 places none end.node end.port has.node (has.port QuadBox)

none_ready : (l : ℕ) (spans : List Span) → take_from l spans ≡ None → (m : ℕ) → m < length spans → (dir : Dir) → is_some (first_copy dir (span_in spans m).link.rows) ≡ false
none_ready l [] none m below dir = absurd (omega (arith, below))
none_ready l (x ∷ xs) none m below dir = by_tests (is_some (first_copy Forth x.link.rows)) (is_some (first_copy Back x.link.rows)) refl refl none m below (none_ready (l + 1) xs)
  where
    here : (dir : Dir) → is_some (first_copy Forth x.link.rows) ≡ false → is_some (first_copy Back x.link.rows) ≡ false → is_some (first_copy dir x.link.rows) ≡ false
    here Forth f b = f
    here Back f b = b

    by_tests : (f b : Bool) → is_some (first_copy Forth x.link.rows) ≡ f → is_some (first_copy Back x.link.rows) ≡ b → (if f then Some (Take l Forth) else (if b then Some (Take l Back) else take_from (l + 1) xs)) ≡ None → (m : ℕ) →
        m < length (x ∷ xs) → (take_from (l + 1) xs ≡ None → (m : ℕ) → m < length xs → (dir : Dir) → is_some (first_copy dir (span_in xs m).link.rows) ≡ false) → is_some (first_copy dir (span_in (x ∷ xs) m).link.rows) ≡ false
    by_tests true b is_f is_b none m below rest = absurd cc
    by_tests false true is_f is_b none m below rest = absurd cc
    by_tests false false is_f is_b none zero below rest = here dir is_f is_b
    by_tests false false is_f is_b none (suc m) below rest = rest none m (omega (arith, below)) dir

-- ---- so it is quiet

pub drained_quiet : (places : List Place) (links : List (List End)) (w : World) → IsWired places links → AreWired places links w → next_step w ≡ None → IsQuiet w
drained_quiet places links w wired are none = ⊎_elim (λ busy. absurd (still (busy_left w.spans busy))) (λ quiet. quiet) (cases_Bool (list_any is_busy w.spans))
  where
    left : IsNothingLeft w
    left = nothing_left w none

    not_so : (p : End → Bool) → find p (ports_from 0 w.places) ≡ None → (end : End) → HasPort places end → p end ≡ true → ⊥
    not_so p nowhere end has so = false≢true (sym (none_there p w.places nowhere end (subst (λ (ps : List Place). HasPort ps end) (sym are.stands) has)) ∙ so)

    still : Left w.spans → ⊥
    still (to_put l dir copy box below out) =
        let it = lane_is places links w wired are l below dir in
        not_so (is_waiting w) left.waiting (lane_of dir (span_at w l)).from it.from (ap (waits_in w.spans) it.spot ∙ ap (λ box. not (is_empty box)) out)
    still (to_judge l dir copy below hand) =
        let it = lane_is places links w wired are l below dir in
        not_so (is_held w) left.held (lane_of dir (span_at w l)).to it.to (ap is_some (it.held ∙ hand))
    still (to_take l dir copy below first) = false≢true (sym (none_ready 0 w.spans left.ready l below dir) ∙ ap is_some first)
