-- A change at the links that touch a node is a change at all links, where it does nothing to the others.
use Rattle.std.specs.Prelude.{if◌then◌else◌, ◌||◌, ◌&&◌, option_map, option_to_list}
use Rattle.std.proofs.Common.{◌≡◌, ◌≢◌, ℕ, ◌+◌, ◌<◌, ◌≤◌, ◌==◌, Bool, true, false, zero, suc, List, [], ◌∷◌, ◌++◌, drop, map, set, get_or, length, Option, None, Some, refl, ap, sym, subst, ◌∙◌, arith, append_assoc, ⊎_elim}
use Rattle.std.proofs.lemmas.Grind.{get_or-set_at}
use Rattle.std.proofs.lemmas.List.{append-nil, drop_all, drop_more, get_or-set_other, length-append, length-map}
use Rattle.std.proofs.lemmas.List.FromFn.{get_or-map-range_with_len}
use Rattle.std.proofs.Math.Seq.{set-append_seam, get_or-append_seam}
use Rattle.hsr_topology.specs.declared.end.End.{End}
use Rattle.hsr_node.specs.declared.entry.Receipt.{Receipt}
use Rattle.hsr_node.specs.declared.place.Place.{Place}
use Rattle.hsr_link.specs.declared.row.Dir.{Dir}
use Rattle.hsr_link.specs.declared.row.Dir.TheVariants.{Forth, Back}
use Rattle.hsr_node.specs.Copies.{copy_octets}
use Rattle.hsr_node.specs.Record.{probe_handled}
use Rattle.hsr_node.specs.declared.event.Carried.{Carried}
use Rattle.std.proofs.lemmas.Bool.{cases_lt}
use Rattle.hsr_world_links.specs.Giving.{IsReadyAt, IsSpanReady, given_lane, given_span}
use Rattle.hsr_world_links.specs.Hands.{handed, with_hand}
use Rattle.hsr_world_links.specs.Touching.{AreRising, AreTouching, at_each, touches, touching_from, touching_of}
use Rattle.hsr_world_links.specs.Views.{on_span, span_view}
use Rattle.hsr_world_links.specs.declared.span.Span as code
use Rattle.hsr_world_links.proofs.Places.{on_span_seen}
use Rattle.hsr_world_links.proofs.Ports.{Ends, ends_at}
use Rattle.hsr_world_laws.proofs.Counts.{map_set_same}
use Rattle.hsr_world_laws.specs.Spans.{Lane, Span, Spot, emptied, on_lanes}
use Rattle.hsr_world_laws.specs.World.{span_in}

-- ---- all spans

one_longer : (done : List Span) (x : Span) (k : ℕ) → length done ≡ k → length (done ++ x ∷ []) ≡ k + 1
one_longer done x k long = let is = length-append done (x ∷ []) in omega (arith, is, long)

changed_here : (f : Span → Span) (k : ℕ) (done rest : List Span) (span : Span) → length done ≡ k → on_span f k (done ++ span ∷ rest) ≡ done ++ f span ∷ rest
changed_here f k done rest span long =
    ap (λ (j : ℕ). on_span f j (done ++ span ∷ rest)) (sym long)
    ∙ ap (λ (x : Span). set (done ++ span ∷ rest) (length done) (f x)) (get_or-append_seam done span rest _)
    ∙ set-append_seam done span rest (f span)

at_one : (f : Span → Span) (n : ℕ) → ((span : Span) → touches n span ≡ false → f span ≡ span) → (k : ℕ) (done rest : List Span) (span : Span) → length done ≡ k →
    ((x : Span) → at_each f (touching_from n (k + 1) rest) ((done ++ x ∷ []) ++ rest) ≡ (done ++ x ∷ []) ++ map f rest) → (b : Bool) → touches n span ≡ b →
    at_each f (if b then k ∷ touching_from n (k + 1) rest else touching_from n (k + 1) rest) (done ++ span ∷ rest) ≡ done ++ f span ∷ map f rest
at_one f n alike k done rest span long all b = by_case b
  where
    rest_done : (x : Span) → at_each f (touching_from n (k + 1) rest) (done ++ x ∷ rest) ≡ done ++ x ∷ map f rest
    rest_done x =
        ap (at_each f (touching_from n (k + 1) rest)) (sym (append_assoc done (x ∷ []) rest))
        ∙ all x
        ∙ append_assoc done (x ∷ []) (map f rest)

    by_case : (b : Bool) → touches n span ≡ b →
        at_each f (if b then k ∷ touching_from n (k + 1) rest else touching_from n (k + 1) rest) (done ++ span ∷ rest) ≡ done ++ f span ∷ map f rest
    by_case true is = ap (at_each f (touching_from n (k + 1) rest)) (changed_here f k done rest span long) ∙ rest_done (f span)
    by_case false is = rest_done span ∙ ap (λ (x : Span). done ++ x ∷ map f rest) (sym (alike span is))

at_all : (f : Span → Span) (n : ℕ) → ((span : Span) → touches n span ≡ false → f span ≡ span) → (k : ℕ) (done rest : List Span) → length done ≡ k →
    at_each f (touching_from n k rest) (done ++ rest) ≡ done ++ map f rest
at_all f n alike k done [] long = refl
at_all f n alike k done (span ∷ rest) long =
    at_one f n alike k done rest span long (λ x. at_all f n alike (k + 1) (done ++ x ∷ []) rest (one_longer done x k long)) (touches n span) refl

pub at_touching : (f : Span → Span) (n : ℕ) → ((span : Span) → touches n span ≡ false → f span ≡ span) → (spans : List Span) → at_each f (touching_from n 0 spans) spans ≡ map f spans
at_touching f n alike spans = at_all f n alike 0 [] spans refl

-- ---- what does nothing to the others

record IsApart (n : ℕ) (span : Span) : Type 0 where
  forth_from : (span.forth.from.node == n) ≡ false
  forth_to : (span.forth.to.node == n) ≡ false
  back_from : (span.back.from.node == n) ≡ false
  back_to : (span.back.to.node == n) ≡ false

apart : (n : ℕ) (span : Span) → touches n span ≡ false → IsApart n span
apart n span h = by_case (span.forth.from.node == n) (span.forth.to.node == n) (span.back.from.node == n) (span.back.to.node == n) refl refl refl refl h
  where
    by_case : (a b c d : Bool) → (span.forth.from.node == n) ≡ a → (span.forth.to.node == n) ≡ b → (span.back.from.node == n) ≡ c → (span.back.to.node == n) ≡ d →
        (a || (b || (c || d))) ≡ false → IsApart n span
    by_case false false false false e f g h none = record { forth_from = e; forth_to = f; back_from = g; back_to = h }
    by_case true b c d e f g h none = absurd cc
    by_case false true c d e f g h none = absurd cc
    by_case false false true d e f g h none = absurd cc
    by_case false false false true e f g h none = absurd cc

lanes_same : (f : Lane → Lane) (span : Span) → f span.forth ≡ span.forth → f span.back ≡ span.back → on_lanes f span ≡ span
lanes_same f span forth back = λ i. record { link = span.link; forth = forth i; back = back i }

no_gift : (place : Place) (receipt : Receipt) (lane : Lane) → (lane.from.node == receipt.node) ≡ false → given_lane place receipt lane ≡ lane
no_gift place receipt lane none =
    let gift : List Carried =
    option_to_list (option_map (λ octets. record { probe = probe_handled (record { node = receipt.node; place = receipt.place }) receipt.entry.event; octets = octets })
    (copy_octets place receipt.entry.event receipt.entry.outcome lane.from.port)) in
    ap (λ b. record lane { outbox = lane.outbox ++ (if b then gift else []) }) none
    ∙ ap (λ outbox. record lane { outbox = outbox }) (append-nil lane.outbox)

pub given_apart : (place : Place) (receipt : Receipt) (span : Span) → touches receipt.node span ≡ false → on_lanes (given_lane place receipt) span ≡ span
given_apart place receipt span h =
    let a = apart receipt.node span h in
    lanes_same (given_lane place receipt) span (no_gift place receipt span.forth a.forth_from) (no_gift place receipt span.back a.back_from)

pub emptied_apart : (end : End) (span : Span) → touches end.node span ≡ false → on_lanes (emptied end) span ≡ span
emptied_apart end span h =
    let a = apart end.node span h in
    lanes_same (emptied end) span (nothing span.forth a.forth_to) (nothing span.back a.back_to)
  where
    nothing : (lane : Lane) → (lane.to.node == end.node) ≡ false → emptied end lane ≡ lane
    nothing lane none = ap (λ b. record lane { hand = if b && (lane.to.port == end.port) then None else lane.hand }) none

-- ---- they rise

-- one more in front, or none
abbrev or_more : Bool → ℕ → List ℕ → List ℕ
or_more b k rest = if b then k ∷ rest else rest

not_below : (b : Bool) (k : ℕ) (rest : List ℕ) → ((j d : ℕ) → j < length rest → k + 1 ≤ get_or rest j d) → (j d : ℕ) → j < length (or_more b k rest) → k ≤ get_or (or_more b k rest) j d
not_below false k rest more j d h = let later = more j d h in omega (arith, later)
not_below true k rest more zero d h = omega arith
not_below true k rest more (suc j) d h = let later = more j d (omega (arith, h)) in omega (arith, later)

from_k : (n k : ℕ) (spans : List Span) (j d : ℕ) → j < length (touching_from n k spans) → k ≤ get_or (touching_from n k spans) j d
from_k n k [] j d h = absurd (omega (arith, h))
from_k n k (span ∷ spans) j d h = not_below (touches n span) k (touching_from n (k + 1) spans) (from_k n (k + 1) spans) j d h

all_below : (b : Bool) (k count : ℕ) (rest : List ℕ) → ((j d : ℕ) → j < length rest → get_or rest j d < (k + 1) + count) → (j d : ℕ) → j < length (or_more b k rest) →
    get_or (or_more b k rest) j d < k + suc count
all_below false k count rest more j d h = let later = more j d h in omega (arith, later)
all_below true k count rest more zero d h = omega arith
all_below true k count rest more (suc j) d h = let later = more j d (omega (arith, h)) in omega (arith, later)

within : (n k : ℕ) (spans : List Span) (j d : ℕ) → j < length (touching_from n k spans) → get_or (touching_from n k spans) j d < k + length spans
within n k [] j d h = absurd (omega (arith, h))
within n k (span ∷ spans) j d h = all_below (touches n span) k (length spans) (touching_from n (k + 1) spans) (within n (k + 1) spans) j d h

all_rise : (b : Bool) (k : ℕ) (rest : List ℕ) → ((j d : ℕ) → j < length rest → k + 1 ≤ get_or rest j d) → ((i j d e : ℕ) → i < j → j < length rest → get_or rest i d < get_or rest j e) →
    (i j d e : ℕ) → i < j → j < length (or_more b k rest) → get_or (or_more b k rest) i d < get_or (or_more b k rest) j e
all_rise false k rest low more i j d e less h = more i j d e less h
all_rise true k rest low more i zero d e less h = absurd (omega (arith, less))
all_rise true k rest low more zero (suc j) d e less h = let later = low j e (omega (arith, h)) in omega (arith, later)
all_rise true k rest low more (suc i) (suc j) d e less h = more i j d e (omega (arith, less)) (omega (arith, h))

risen : (n k : ℕ) (spans : List Span) (i j d e : ℕ) → i < j → j < length (touching_from n k spans) → get_or (touching_from n k spans) i d < get_or (touching_from n k spans) j e
risen n k [] i j d e less h = absurd (omega (arith, h))
risen n k (span ∷ spans) i j d e less h = all_rise (touches n span) k (touching_from n (k + 1) spans) (from_k n (k + 1) spans) (risen n (k + 1) spans) i j d e less h

pub are_rising : (n : ℕ) (spans : List Span) → AreRising (length spans) (touching_from n 0 spans)
are_rising n spans = record { below = λ j d h. let is = within n 0 spans j d h in omega (arith, is); rising = risen n 0 spans }

-- ---- they stay what they are

abbrev touched_by : ℕ → Ends → Bool
touched_by n e = e.forth_from.node == n || (e.forth_to.node == n || (e.back_from.node == n || e.back_to.node == n))

abbrev by_ends : ℕ → ℕ → List Ends → List ℕ
by_ends n k [] = []
by_ends n k (e ∷ es) = if touched_by n e then k ∷ by_ends n (k + 1) es else by_ends n (k + 1) es

told_by_ends : (n k : ℕ) (spans : List Span) → touching_from n k spans ≡ by_ends n k (map ends_at spans)
told_by_ends n k [] = refl
told_by_ends n k (span ∷ spans) =
    ap (λ (rest : List ℕ). if touches n span then k ∷ rest else rest) (told_by_ends n (k + 1) spans)

pub touching_same : (v w : List Span) → map ends_at v ≡ map ends_at w → (n : ℕ) → touching_from n 0 v ≡ touching_from n 0 w
touching_same v w ends n = told_by_ends n 0 v ∙ (ap (by_ends n 0) ends ∙ sym (told_by_ends n 0 w))

-- those of a node
pub touching_at : (places : List Place) (spans : List Span) (all : List (List ℕ)) (n : ℕ) → AreTouching places spans all → n < length places → touching_of all n ≡ touching_from n 0 spans
touching_at places spans all n is below =
    ap (λ (ls : List (List ℕ)). touching_of ls n) is ∙ get_or-map-range_with_len (λ n. touching_from n 0 spans) 0 (length places) n n [] below (omega arith)

-- another hand leaves the ends what they are
pub hand_ends : (hand : Option Carried) (spans : List Span) (spot : Option Spot) → map ends_at (with_hand hand spans spot) ≡ map ends_at spans
hand_ends hand spans None = refl
hand_ends hand spans (Some spot) = map_set_same ends_at spans spot.link (handed spot.dir hand (span_in spans spot.link)) _ (kept spot.dir (span_in spans spot.link))
  where
    kept : (dir : Dir) (span : Span) → ends_at (handed dir hand span) ≡ ends_at span
    kept Forth span = refl
    kept Back span = refl

-- ---- the code's walk over the links of a node

pub map_given : (place : Place) (receipt : Receipt) (spans : List code.Span) → map (given_span place receipt) spans ≡ map (on_lanes (given_lane place receipt)) (map span_view spans)
map_given place receipt [] = refl
map_given place receipt (x ∷ spans) = ap (λ (ls : List Span). given_span place receipt x ∷ ls) (map_given place receipt spans)

pub rising_of : (n : ℕ) (spans : List code.Span) (links : List ℕ) → links ≡ touching_from n 0 (map span_view spans) → AreRising (length spans) links
rising_of n spans links is =
    subst (AreRising (length spans)) (sym is)
    (subst (λ (count : ℕ). AreRising count (touching_from n 0 (map span_view spans))) (length-map spans span_view) (are_rising n (map span_view spans)))

pub as_long : (v w : List code.Span) → map span_view v ≡ map span_view w → length v ≡ length w
as_long v w alike = sym (length-map v span_view) ∙ ap length alike ∙ length-map w span_view

-- one more link is ready
pub ready_more : (node : ℕ) (links : List ℕ) (i : ℕ) (spans : List code.Span) (x : code.Span) → get_or links i 0 < length spans → ((j : ℕ) → j < i → IsReadyAt node links spans j) → IsSpanReady node x →
    (j : ℕ) → j < i + 1 → IsReadyAt node links (set spans (get_or links i 0) x) j
ready_more node links i spans x below before ready j low = ⊎_elim less (λ high. ⊎_elim (λ h. here (omega (arith, h, high, low))) (λ h. here (omega (arith, h, high, low))) (cases_lt i j)) (cases_lt j i)
  where
    l : ℕ
    l = get_or links i 0

    now : (a : ℕ) → a ≡ l → (d : code.Span) → IsSpanReady node (get_or (set spans l x) a d)
    now a is d = subst (IsSpanReady node) (sym (get_or-set_at spans l a x d is below)) ready

    here : j ≡ i → IsReadyAt node links (set spans l x) j
    here is = now (get_or links j 0) (ap (λ (k : ℕ). get_or links k 0) is)

    other : (a : ℕ) → a ≢ l → ((d : code.Span) → IsSpanReady node (get_or spans a d)) → (d : code.Span) → IsSpanReady node (get_or (set spans l x) a d)
    other a apart was d = subst (IsSpanReady node) (sym (get_or-set_other spans l a x d apart)) (was d)

    less : j < i → IsReadyAt node links (set spans l x) j
    less h =
        let a : ℕ = get_or links j 0 in
        ⊎_elim (λ (lower : a < l). other a (λ e. omega (arith, e, lower)) (before j h))
        (λ (low : l ≤ a). ⊎_elim (λ (higher : l < a). other a (λ e. omega (arith, e, higher)) (before j h)) (λ (high : a ≤ l). now a (omega (arith, low, high))) (cases_lt l a))
        (cases_lt a l)

-- those to come are ready after a change at one before them
pub ready_rest : (node : ℕ) (links : List ℕ) (i : ℕ) (spans : List code.Span) (x : code.Span) (count : ℕ) → AreRising count links →
    ((j : ℕ) → i ≤ j → j < length links → IsReadyAt node links spans j) → (j : ℕ) → i + 1 ≤ j → j < length links → IsReadyAt node links (set spans (get_or links i 0) x) j
ready_rest node links i spans x count rise before j low high = λ d.
    let a : ℕ = get_or links j 0 in
    let l : ℕ = get_or links i 0 in
    let less : l < a = rise.rising i j 0 0 (omega (arith, low)) high in
    subst (IsSpanReady node) (sym (get_or-set_other spans l a x d (λ e. omega (arith, e, less)))) (before j (omega (arith, low)) high d)

-- one more is changed, and all are
pub each_more : (f : Span → Span) (links : List ℕ) (i : ℕ) (spans : List code.Span) (y d : code.Span) → i < length links → get_or links i 0 < length spans →
    span_view y ≡ f (span_view (get_or spans (get_or links i 0) d)) →
    at_each f (drop (i + 1) links) (map span_view (set spans (get_or links i 0) y)) ≡ at_each f (drop i links) (map span_view spans)
each_more f links i spans y d more below h =
    ap (at_each f (drop (i + 1) links)) (on_span_seen f spans (get_or links i 0) y d below h)
    ∙ sym (ap (λ (ls : List ℕ). at_each f ls (map span_view spans)) (drop_more links i 0 more))

pub each_done : (f : Span → Span) (n : ℕ) (links : List ℕ) (i : ℕ) (old new : List code.Span) → ((span : Span) → touches n span ≡ false → f span ≡ span) → length links ≤ i →
    links ≡ touching_from n 0 (map span_view old) → at_each f (drop i links) (map span_view new) ≡ at_each f links (map span_view old) →
    map span_view new ≡ map f (map span_view old)
each_done f n links i old new alike past is done =
    ap (λ (ls : List ℕ). at_each f ls (map span_view new)) (sym (drop_all i links past))
    ∙ done
    ∙ ap (λ (ls : List ℕ). at_each f ls (map span_view old)) is
    ∙ at_touching f n alike (map span_view old)
