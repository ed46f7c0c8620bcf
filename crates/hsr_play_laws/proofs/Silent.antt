-- At the end of a play nothing is under way: the span of each send has ended.
use Rattle.std.proofs.Common.{◌≡◌, ◌⊎◌, ℕ, ◌<◌, ◌≤◌, ◌||◌, not, Bool, true, false, if◌then◌else◌, List, [], ◌∷◌, ◌++◌, length, filter_map, Option, Some, None, refl, sym, ap, ◌∙◌, subst, arith, ⊎_elim}
use Rattle.std.specs.Prelude.{is_some, option_to_list}
use Rattle.std.specs.List.{AllByRecursion, cons_option, list_any}
use Rattle.std.proofs.lemmas.Bool.{false≢true}
use Rattle.hsr_node.specs.declared.event.Carried.{Carried}
use Rattle.hsr_link.specs.Rows.{is_queued}
use Rattle.hsr_link.specs.declared.row.Row.{Row}
use Rattle.hsr_run_laws.specs.Closed.{IsOfSend}
use Rattle.hsr_world_laws.specs.Closing.{IsQuiet, is_busy, is_busy_lane}
use Rattle.hsr_world_laws.specs.Origin.{InLane, InSpan}
use Rattle.hsr_world_laws.specs.Spans.{Lane, Span}
use Rattle.hsr_world_laws.specs.World.{World, is_empty}
use Rattle.hsr_plays.specs.Conditions.{IsClear}
use Rattle.hsr_plays.specs.Law.{run_in}
use Rattle.hsr_plays.specs.Plays.{in_lane, in_span, in_spans, queued_copy, under_way}
use Rattle.hsr_plays.specs.Setup.{Setup}
use Rattle.hsr_plays.proofs.Open.{open_parts}
use Rattle.hsr_play_laws.specs.Told.{IsOpenCopy, IsTold}
use Rattle.hsr_play_laws.proofs.Worlds.{copies}

-- ---- what holds of each copy of a world holds of those under way

all_append : {X : Type 0} (P : X → Type 0) (xs ys : List X) → AllByRecursion P xs → AllByRecursion P ys → AllByRecursion P (xs ++ ys)
all_append P [] ys a b = b
all_append P (x ∷ xs) ys a b = (a.0, all_append P xs ys a.1 b)

all_left : {X : Type 0} (P : X → Type 0) (xs ys : List X) → AllByRecursion P (xs ++ ys) → AllByRecursion P xs
all_left P [] ys all = tt
all_left P (x ∷ xs) ys all = (all.0, all_left P xs ys all.1)

all_right : {X : Type 0} (P : X → Type 0) (xs ys : List X) → AllByRecursion P (xs ++ ys) → AllByRecursion P ys
all_right P [] ys all = all
all_right P (x ∷ xs) ys all = all_right P xs ys all.1

queued_all : (P : Carried → Type 0) (rows : List Row) → AllByRecursion (λ (row : Row). P row.carried) rows → AllByRecursion P (filter_map queued_copy rows)
queued_all P [] all = tt
queued_all P (row ∷ rows) all = by_test (is_queued row.fate) (queued_all P rows all.1)
  where
    by_test : (b : Bool) → AllByRecursion P (filter_map queued_copy rows) → AllByRecursion P (cons_option (if b then Some row.carried else None) (filter_map queued_copy rows))
    by_test true rest = (all.0, rest)
    by_test false rest = rest

lane_all : (P : Carried → Type 0) (lane : Lane) → InLane P lane → AllByRecursion P (in_lane lane)
lane_all P lane all = all_append P lane.outbox (option_to_list lane.hand) all.outbox all.hand

pub under_all : (P : Carried → Type 0) (spans : List Span) → AllByRecursion (InSpan P) spans → AllByRecursion P (in_spans spans)
under_all P [] all = tt
under_all P (x ∷ xs) all =
    all_append P (in_span x) (in_spans xs)
    (all_append P (filter_map queued_copy x.link.rows) (in_lane x.forth ++ in_lane x.back) (queued_all P x.link.rows all.0.rows)
    (all_append P (in_lane x.forth) (in_lane x.back) (lane_all P x.forth all.0.forth) (lane_all P x.back all.0.back)))
    (under_all P xs all.1)

-- ---- where there is none it is quiet

abbrev Never : Carried → Type 0
Never copy = ⊥

rows_idle : (rows : List Row) → AllByRecursion Never (filter_map queued_copy rows) → list_any (λ (row : Row). is_queued row.fate) rows ≡ false
rows_idle [] none = refl
rows_idle (row ∷ rows) none = by_test (is_queued row.fate) none (rows_idle rows)
  where
    by_test : (b : Bool) → AllByRecursion Never (cons_option (if b then Some row.carried else None) (filter_map queued_copy rows)) →
        (AllByRecursion Never (filter_map queued_copy rows) → list_any (λ (r : Row). is_queued r.fate) rows ≡ false) → (b || list_any (λ (r : Row). is_queued r.fate) rows) ≡ false
    by_test true none rest = absurd none.0
    by_test false none rest = rest none

lane_idle : (lane : Lane) → AllByRecursion Never (in_lane lane) → is_busy_lane lane ≡ false
lane_idle lane none = by_parts lane.outbox lane.hand none
  where
    by_parts : (box : List Carried) (hand : Option Carried) → AllByRecursion Never (box ++ option_to_list hand) → (not (is_empty box) || is_some hand) ≡ false
    by_parts [] None none = refl
    by_parts [] (Some c) none = absurd none.0
    by_parts (c ∷ cs) hand none = absurd none.0

all_idle : (spans : List Span) → AllByRecursion Never (in_spans spans) → list_any is_busy spans ≡ false
all_idle [] none = refl
all_idle (x ∷ xs) none =
    let here = all_left Never (in_span x) (in_spans xs) none in
    let lanes = all_right Never (filter_map queued_copy x.link.rows) (in_lane x.forth ++ in_lane x.back) here in
    let rows_so = rows_idle x.link.rows (all_left Never (filter_map queued_copy x.link.rows) (in_lane x.forth ++ in_lane x.back) here) in
    let forth_so = lane_idle x.forth (all_left Never (in_lane x.forth) (in_lane x.back) lanes) in
    let back_so = lane_idle x.back (all_right Never (in_lane x.forth) (in_lane x.back) lanes) in
    let rest = all_idle xs (all_right Never (in_span x) (in_spans xs) none) in
    none_of (list_any (λ (row : Row). is_queued row.fate) x.link.rows) (is_busy_lane x.forth) (is_busy_lane x.back) (list_any is_busy xs) rows_so forth_so back_so rest
  where
    none_of : (a b c d : Bool) → a ≡ false → b ≡ false → c ≡ false → d ≡ false → ((a || b || c) || d) ≡ false
    none_of true b c d p q r t = absurd (false≢true (sym p))
    none_of false true c d p q r t = absurd (false≢true (sym q))
    none_of false false true d p q r t = absurd (false≢true (sym r))
    none_of false false false true p q r t = absurd (false≢true (sym t))
    none_of false false false false p q r t = refl

-- ---- at the end

pub ends_quiet : (s : Setup) → IsClear s → (n : ℕ) (w : World) → IsTold s (length s.orders) n w → IsQuiet w
ends_quiet s clear n w told = all_idle w.spans (none_of (under_way w) (under_all (IsOfSend (run_in s w)) w.spans (copies s w told.own).spans) told.fresh)
  where
    none_of : (xs : List Carried) → AllByRecursion (IsOfSend (run_in s w)) xs → AllByRecursion (IsOpenCopy s w (length s.orders)) xs → AllByRecursion Never xs
    none_of [] of_send opens = tt
    none_of (c ∷ cs) of_send opens =
        let o = opens.0 of_send.0.send of_send.0.named in
        let of_it = o.is in
        let ended = clear.ended of_it.at o.span of_it.listed in
        let p = open_parts (length s.orders) o.span o.open_then in
        absurd (omega (arith, ended, p))
