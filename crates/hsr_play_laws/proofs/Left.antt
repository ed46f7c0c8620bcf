-- Where something is under way, there is a copy to put, to judge or to take.
use Rattle.std.proofs.Common.{◌≡◌, ℕ, ◌<◌, ◌&&◌, ◌||◌, not, Bool, true, false, if◌then◌else◌, List, [], ◌∷◌, length, Option, Some, None, option_map, refl, ap, ◌∙◌, arith, ⊎_elim, zero, suc}
use Rattle.std.specs.Prelude.{is_some, slice_get}
use Rattle.std.specs.List.{list_any}
use Rattle.std.proofs.lemmas.Bool.{and_from, false≢true, or_cases}
use Rattle.hsr_node.specs.declared.event.Carried.{Carried}
use Rattle.hsr_link.specs.Rows.{first_copy, goes, is_queued, is_same_dir, queued, waits}
use Rattle.hsr_link.specs.declared.row.Dir.{Dir}
use Rattle.hsr_link.specs.declared.row.Dir.TheVariants.{Forth, Back}
use Rattle.hsr_link.specs.declared.row.Row.{Row}
use Rattle.hsr_world_laws.specs.Closing.{is_busy, is_busy_lane}
use Rattle.hsr_world_laws.specs.Spans.{Span, lane_of}
use Rattle.hsr_world_laws.specs.World.{is_empty, span_in}

pub data Left (spans : List Span) : Type 0 where
  to_put : (l : ℕ) (dir : Dir) (copy : Carried) (box : List Carried) → l < length spans → (lane_of dir (span_in spans l)).outbox ≡ copy ∷ box → Left spans
  to_judge : (l : ℕ) (dir : Dir) (copy : Carried) → l < length spans → (lane_of dir (span_in spans l)).hand ≡ Some copy → Left spans
  to_take : (l : ℕ) (dir : Dir) (copy : Carried) → l < length spans → first_copy dir (span_in spans l).link.rows ≡ Some copy → Left spans

-- ---- one link

record Waiting (rows : List Row) : Type 0 where
  dir : Dir
  copy : Carried
  first : first_copy dir rows ≡ Some copy

same_dir : (dir : Dir) → is_same_dir dir dir ≡ true
same_dir Forth = refl
same_dir Back = refl

waiting : (rows : List Row) → list_any (λ (row : Row). is_queued row.fate) rows ≡ true → Waiting rows
waiting [] some = absurd (false≢true some)
waiting (row ∷ rows) some = by_test (is_queued row.fate) refl some (waiting rows)
  where
    by_test : (b : Bool) → is_queued row.fate ≡ b → (b || list_any (λ (r : Row). is_queued r.fate) rows) ≡ true → (list_any (λ (r : Row). is_queued r.fate) rows ≡ true → Waiting rows) → Waiting (row ∷ rows)
    by_test true is some rest =
        let here : waits row.dir row ≡ true = and_from (goes row.dir row) (is_queued row.fate) (same_dir row.dir) is in
        record { dir = row.dir; copy = row.carried; first = ap (λ b. option_map (λ (r : Row). r.carried) (slice_get (if b then row ∷ queued row.dir rows else queued row.dir rows) 0)) here }
    by_test false is some rest =
        let more = rest some in
        let none : waits more.dir row ≡ false = not_both (goes more.dir row) (is_queued row.fate) is in
        record { dir = more.dir; copy = more.copy; first = ap (λ b. option_map (λ (r : Row). r.carried) (slice_get (if b then row ∷ queued more.dir rows else queued more.dir rows) 0)) none ∙ more.first }
      where
        not_both : (a b : Bool) → b ≡ false → (a && b) ≡ false
        not_both true b e = e
        not_both false b e = refl

left_here : (x : Span) (xs : List Span) → is_busy x ≡ true → Left (x ∷ xs)
left_here x xs busy =
    ⊎_elim
    (λ first. ⊎_elim
    (λ rows. let at = waiting x.link.rows rows in to_take zero at.dir at.copy (omega arith) at.first)
    (λ lane. by_lane Forth x.forth.outbox x.forth.hand refl refl lane)
    (or_cases (list_any (λ (row : Row). is_queued row.fate) x.link.rows) (is_busy_lane x.forth) first))
    (λ lane. by_lane Back x.back.outbox x.back.hand refl refl lane)
    (or_cases (list_any (λ (row : Row). is_queued row.fate) x.link.rows || is_busy_lane x.forth) (is_busy_lane x.back) busy)
  where
    by_lane : (dir : Dir) (box : List Carried) (hand : Option Carried) → (lane_of dir x).outbox ≡ box → (lane_of dir x).hand ≡ hand → (not (is_empty box) || is_some hand) ≡ true → Left (x ∷ xs)
    by_lane dir (copy ∷ box) hand out in_hand h = to_put zero dir copy box (omega arith) out
    by_lane dir [] (Some copy) out in_hand h = to_judge zero dir copy (omega arith) in_hand
    by_lane dir [] None out in_hand h = absurd (false≢true h)

left_later : (x : Span) (xs : List Span) → Left xs → Left (x ∷ xs)
left_later x xs (to_put l dir copy box below is) = to_put (suc l) dir copy box (omega (arith, below)) is
left_later x xs (to_judge l dir copy below is) = to_judge (suc l) dir copy (omega (arith, below)) is
left_later x xs (to_take l dir copy below is) = to_take (suc l) dir copy (omega (arith, below)) is

pub busy_left : (spans : List Span) → list_any is_busy spans ≡ true → Left spans
busy_left [] busy = absurd (false≢true busy)
busy_left (x ∷ xs) busy = ⊎_elim (λ here. left_here x xs here) (λ later. left_later x xs (busy_left xs later)) (or_cases (is_busy x) (list_any is_busy xs) busy)
