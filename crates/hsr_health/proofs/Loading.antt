-- Sums of packets in moving windows.
use Rattle.std.proofs.Common.{◌≡◌, ℕ, zero, suc, ◌+◌, ◌-◌, ◌*◌, ◌<◌, ◌≤◌, ◌^◌, max, min, Bool, true, false, cond, List, [], ◌∷◌, ◌++◌, drop, length, map, take, get_or, ◌⊎◌, inl, inr, refl, sym, ap, subst, ◌∙◌, arith, Option, Some, None}
use Rattle.std.specs.Prelude.{nat_eq, nat_lt, filter, is_some, option_map, slice_get, slice_index, unwrap_or}
use Rattle.std.proofs.Math.Seq.{take-add}
use Rattle.std.proofs.lemmas.Bool.{cases_lt, cond-false, cond-true, le-ltb, lt-ltb}
use Rattle.std.proofs.lemmas.List.{drop_more, length_push, map-append, take_more}
use Rattle.std.proofs.lemmas.List.Sums.{sum_by-append, sum_by-cons, sum_by-take-le, sum_by_more}
use Rattle.std.proofs.lemmas.Option.{get_or_from_slice_get, same_Some, slice_get-get_or, slice_get-map, slice_get_within}
use Rattle.hsr_capture_reader.specs.Fields.{InterfaceFields, PacketFields}
use Rattle.hsr_taps.specs.Asked.{ChoiceFields}
use Rattle.hsr_taps.specs.Came.{AreInOrder, AreTalliesIf, tally_if}
use Rattle.hsr_taps.specs.Tallies.{AreLookedAt, is_at}
use Rattle.hsr_taps.specs.declared.tally.Tally.{Tally}
use Rattle.hsr_health.specs.Loads.{AreLoads, IsEndFrom, Rise, load_if, load_of, own_packets, peak_of, sum_from, weighed, weighed_at, weighed_or}
use Rattle.hsr_health.specs.declared.load.Load.{Load}
use Rattle.hsr_health.specs.declared.load.Weighed.{Weighed}
use Rattle.hsr_sightings.proofs.Counting.{slice_get_end, slice_get_left}

-- ---- the packets of an interface

own_cons : (interface : ℕ) (p : PacketFields) (packets : List PacketFields)
    → own_packets interface (p ∷ packets) ≡ cond (nat_eq p.interface interface) (weighed p ∷ own_packets interface packets) (own_packets interface packets)
own_cons interface p packets = by_case (nat_eq p.interface interface)
  where
    by_case : (b : Bool) → map weighed (cond b (p ∷ filter (λ q. nat_eq q.interface interface) packets) (filter (λ q. nat_eq q.interface interface) packets))
        ≡ cond b (weighed p ∷ own_packets interface packets) (own_packets interface packets)
    by_case true = refl
    by_case false = refl

own_push : (interface : ℕ) (packets : List PacketFields) (p : PacketFields) → own_packets interface (packets ++ p ∷ []) ≡ own_packets interface packets ++ own_packets interface (p ∷ [])
own_push interface [] p = refl
own_push interface (q ∷ packets) p = by_case (own_push interface packets p) (nat_eq q.interface interface)
  where
    rest : List PacketFields → List PacketFields
    rest l = filter (λ r. nat_eq r.interface interface) l

    by_case : own_packets interface (packets ++ p ∷ []) ≡ own_packets interface packets ++ own_packets interface (p ∷ []) → (b : Bool)
        → map weighed (cond b (q ∷ rest (packets ++ p ∷ [])) (rest (packets ++ p ∷ []))) ≡ map weighed (cond b (q ∷ rest packets) (rest packets)) ++ own_packets interface (p ∷ [])
    by_case ih true = ap (λ l. weighed q ∷ l) ih
    by_case ih false = ih

pub own_more : (interface : ℕ) (packets : List PacketFields) (i : ℕ) (p : PacketFields) (old new : List Weighed) → slice_get packets i ≡ Some p → old ≡ own_packets interface (take i packets)
    → new ≡ old ++ own_packets interface (p ∷ []) → new ≡ own_packets interface (take (i + 1) packets)
own_more interface packets i p old new here old_is new_is =
    new_is ∙ ap (λ l. l ++ own_packets interface (p ∷ [])) old_is ∙ sym (own_push interface (take i packets) p)
    ∙ ap (λ x. own_packets interface (take i packets ++ x ∷ [])) (sym (get_or_from_slice_get packets i p p here))
    ∙ ap (own_packets interface) (sym (take_more packets i p (slice_get_within packets i p here)))

-- the index of one more packet, if it came at the interface
pub own_put : (interface : ℕ) (packets : List PacketFields) (i : ℕ) (p : PacketFields) (old new : List ℕ) → slice_get packets i ≡ Some p
    → map (weighed_at packets) old ≡ own_packets interface (take i packets) → new ≡ old ++ cond (nat_eq p.interface interface) (i ∷ []) []
    → map (weighed_at packets) new ≡ own_packets interface (take (i + 1) packets)
own_put interface packets i p old new here old_is new_is =
    own_more interface packets i p (map (weighed_at packets) old) (map (weighed_at packets) new) here old_is
    (ap (map (weighed_at packets)) new_is ∙ map-append (weighed_at packets) old (cond (nat_eq p.interface interface) (i ∷ []) [])
    ∙ ap (λ l. map (weighed_at packets) old ++ l) (by_case (nat_eq p.interface interface)))
  where
    by_case : (b : Bool) → map (weighed_at packets) (cond b (i ∷ []) []) ≡ map weighed (cond b (p ∷ []) [])
    by_case true = ap (λ o. weighed_or o ∷ []) here
    by_case false = refl

-- what the packet with an index among these weighs
pub own_at : (packets : List PacketFields) (own : List ℕ) (k : ℕ) (x : Weighed) → k < length own → x ≡ weighed_at packets (slice_index own k)
    → slice_get (map (weighed_at packets) own) k ≡ Some x
own_at packets own k x below is = slice_get-map (weighed_at packets) own k ∙ ap (option_map (weighed_at packets)) (slice_get-get_or own k 0 below) ∙ ap Some (sym is)

-- each has 64 bits at most
load_small : (interface : ℕ) (packets : List PacketFields) → load_of (own_packets interface packets) ≤ length packets * (2 ^ 64 - 1)
load_small interface [] = omega arith
load_small interface (p ∷ packets) = by_case (nat_eq p.interface interface) (load_small interface packets)
  where
    rest : List PacketFields
    rest = filter (λ q. nat_eq q.interface interface) packets

    by_case : (b : Bool) → load_of (own_packets interface packets) ≤ length packets * (2 ^ 64 - 1) → load_of (map weighed (cond b (p ∷ rest) rest)) ≤ suc (length packets) * (2 ^ 64 - 1)
    by_case true le = let more = sum_by-cons (λ (w : Weighed). w.bits) (weighed p) (own_packets interface packets) in omega (arith, more, le)
    by_case false le = omega (arith, le)

pub few_bits : (interface : ℕ) (packets : List PacketFields) → length packets < 2 ^ 63 → load_of (own_packets interface packets) < 2 ^ 128
few_bits interface packets few = let small = load_small interface packets in omega (arith, small, few)

-- ---- the order of time

order_rest : (p : PacketFields) (packets : List PacketFields) → AreInOrder (p ∷ packets) → AreInOrder packets
order_rest p packets order i a b here next =
    let more : suc i + 1 ≡ suc (i + 1) = omega arith in
    order (suc i) a b here (subst (λ k. slice_get (p ∷ packets) k ≡ Some b) (sym more) next)

none_earlier : (interface : ℕ) (p : PacketFields) (packets : List PacketFields) → AreInOrder (p ∷ packets) → (k : ℕ) (w : Weighed) → slice_get (own_packets interface packets) k ≡ Some w → p.moment ≤ w.at
none_earlier interface p [] order k w here = absurd cc
none_earlier interface p (q ∷ packets) order k w here =
    by_case (nat_eq q.interface interface) (λ m x at_m. none_earlier interface q packets (order_rest p (q ∷ packets) order) m x at_m) k (ap (λ l. slice_get l k) (sym (own_cons interface q packets)) ∙ here)
  where
    le : p.moment ≤ q.moment
    le = order 0 p q refl refl

    by_case : (b : Bool) → ((m : ℕ) (x : Weighed) → slice_get (own_packets interface packets) m ≡ Some x → q.moment ≤ x.at) → (m : ℕ)
        → slice_get (cond b (weighed q ∷ own_packets interface packets) (own_packets interface packets)) m ≡ Some w → p.moment ≤ w.at
    by_case true rest zero at_m = let own : weighed q ≡ w = same_Some (weighed q) w at_m in omega (arith, le, ap (λ (x : Weighed). x.at) own)
    by_case true rest (suc m) at_m = let later = rest m w at_m in omega (arith, le, later)
    by_case false rest m at_m = let later = rest m w at_m in omega (arith, le, later)

pub own_rises : (interface : ℕ) (packets : List PacketFields) → AreInOrder packets → Rise (own_packets interface packets)
own_rises interface [] order j k v w le at_j at_k = absurd cc
own_rises interface (p ∷ packets) order j k v w le at_j at_k =
    by_case (own_rises interface packets (order_rest p packets order)) (nat_eq p.interface interface) j k le (ap (λ l. slice_get l j) (sym (own_cons interface p packets)) ∙ at_j)
    (ap (λ l. slice_get l k) (sym (own_cons interface p packets)) ∙ at_k)
  where
    by_case : Rise (own_packets interface packets) → (b : Bool) → (m n : ℕ) → m ≤ n
        → slice_get (cond b (weighed p ∷ own_packets interface packets) (own_packets interface packets)) m ≡ Some v
        → slice_get (cond b (weighed p ∷ own_packets interface packets) (own_packets interface packets)) n ≡ Some w → v.at ≤ w.at
    by_case rest true zero zero le at_m at_n = let same : v ≡ w = same_Some v w (sym at_m ∙ at_n) in omega (arith, ap (λ (x : Weighed). x.at) same)
    by_case rest true zero (suc n) le at_m at_n =
        let own : weighed p ≡ v = same_Some (weighed p) v at_m in
        let later = none_earlier interface p packets order n w at_n in
        omega (arith, later, ap (λ (x : Weighed). x.at) own)
    by_case rest true (suc m) zero le at_m at_n = absurd (omega (arith, le))
    by_case rest true (suc m) (suc n) le at_m at_n = rest m n v w (omega (arith, le)) at_m at_n
    by_case rest false m n le at_m at_n = rest m n v w le at_m at_n

-- ---- sums of parts

pub take_le : (k : ℕ) (xs : List Weighed) → load_of (take k xs) ≤ load_of xs
take_le k xs = sum_by-take-le (λ (w : Weighed). w.bits) xs k

pub take_load : (xs : List Weighed) (i : ℕ) (x : Weighed) → slice_get xs i ≡ Some x → load_of (take (i + 1) xs) ≡ load_of (take i xs) + x.bits
take_load xs i x here =
    sum_by_more (λ (w : Weighed). w.bits) xs i x (slice_get_within xs i x here) ∙ ap (λ (w : Weighed). load_of (take i xs) + w.bits) (get_or_from_slice_get xs i x x here)

take_split : (xs : List Weighed) (i n : ℕ) → load_of (take (i + n) xs) ≡ load_of (take i xs) + load_of (take n (drop i xs))
take_split xs i n = ap load_of (take-add i n xs) ∙ sum_by-append (λ (w : Weighed). w.bits) (take i xs) (take n (drop i xs))

-- what passes a test stands in front
front_filter : (test : Weighed → Bool) (xs : List Weighed) (r : ℕ) → ((k : ℕ) (x : Weighed) → k < r → slice_get xs k ≡ Some x → test x ≡ true)
    → ((k : ℕ) (x : Weighed) → r ≤ k → slice_get xs k ≡ Some x → test x ≡ false) → filter test xs ≡ take r xs
front_filter test [] zero near far = refl
front_filter test [] (suc r) near far = refl
front_filter test (x ∷ xs) zero near far =
    cond-false (test x) (x ∷ filter test xs) (filter test xs) (far 0 x (omega arith) refl)
    ∙ front_filter test xs 0 (λ k y below at. absurd (omega (arith, below))) (λ k y from at. far (suc k) y (omega arith) at)
front_filter test (x ∷ xs) (suc r) near far =
    cond-true (test x) (x ∷ filter test xs) (filter test xs) (near 0 x (omega arith) refl)
    ∙ ap (λ l. x ∷ l) (front_filter test xs r (λ k y below at. near (suc k) y (omega (arith, below)) at) (λ k y from at. far (suc k) y (omega (arith, from)) at))

get_dropped : (xs : List Weighed) (i k : ℕ) → slice_get (drop i xs) k ≡ slice_get xs (i + k)
get_dropped xs zero k = ap (slice_get xs) (omega arith)
get_dropped [] (suc i) k = refl
get_dropped (x ∷ xs) (suc i) k = let next : suc i + k ≡ suc (i + k) = omega arith in get_dropped xs i k ∙ ap (slice_get (x ∷ xs)) (sym next)

-- ---- a window

-- the sum of the packets less than a time after one, by the sums of the first packets
window : (packets : List Weighed) (i end width : ℕ) (v : Weighed) → slice_get packets i ≡ Some v → i ≤ end
    → ((k : ℕ) (w : Weighed) → i ≤ k → k < end → slice_get packets k ≡ Some w → w.at - v.at < width)
    → ((k : ℕ) (w : Weighed) → end ≤ k → slice_get packets k ≡ Some w → width ≤ w.at - v.at)
    → load_of (take end packets) ≡ load_of (take i packets) + sum_from width v (drop i packets)
window packets i end width v here le near far =
    ap (λ n. load_of (take n packets)) (let sum : end ≡ i + (end - i) = omega (arith, le) in sum) ∙ take_split packets i (end - i)
    ∙ ap (λ l. load_of (take i packets) + load_of l)
    (sym (front_filter (λ w. nat_lt (w.at - v.at) width) (drop i packets) (end - i)
    (λ k w below at. lt-ltb (w.at - v.at) width (near (i + k) w (omega arith) (omega (arith, below)) (sym (get_dropped packets i k) ∙ at)))
    (λ k w from at. le-ltb (w.at - v.at) width (far (i + k) w (omega (arith, from)) (sym (get_dropped packets i k) ∙ at)))))

-- packets in front of the end of a window are near to each later one
abbrev pub AreNear : List Weighed → ℕ → ℕ → ℕ → Type 0
AreNear packets i end width = (j k : ℕ) (v w : Weighed) → i ≤ j → k < end → slice_get packets j ≡ Some v → slice_get packets k ≡ Some w → w.at - v.at < width

-- the next packet is near too
pub near_one : (packets : List Weighed) (from k at width : ℕ) (x : Weighed) → ((j : ℕ) (w : Weighed) → from ≤ j → j < k → slice_get packets j ≡ Some w → w.at - at < width)
    → slice_get packets k ≡ Some x → x.at - at < width → (j : ℕ) (w : Weighed) → from ≤ j → j < k + 1 → slice_get packets j ≡ Some w → w.at - at < width
near_one packets from k at width x near here next j w le below at_j = by_case (cases_lt j k)
  where
    by_case : (j < k) ⊎ (k ≤ j) → w.at - at < width
    by_case (inl before) = near j w le before at_j
    by_case (inr past) =
        let place : k ≡ j = omega (arith, past, below) in
        let same : x ≡ w = same_Some x w (sym here ∙ ap (slice_get packets) place ∙ at_j) in
        subst (λ (y : Weighed). y.at - at < width) same next

pub near_more : (packets : List Weighed) (i old end width : ℕ) (v : Weighed) → Rise packets → slice_get packets i ≡ Some v → IsEndFrom packets old v.at width end → AreNear packets i old width
    → AreNear packets i end width
near_more packets i old end width v rise here found near j k u w le below at_j at_k = by_case (cases_lt k old)
  where
    by_case : (k < old) ⊎ (old ≤ k) → w.at - u.at < width
    by_case (inl before) = near j k u w le before at_j at_k
    by_case (inr from) =
        let own = found.near k w from below at_k in
        let later = rise i j v u le here at_j in
        omega (arith, own, later)

-- one packet more begins a window
pub peak_step : (packets : List Weighed) (i old end width peak new come gone : ℕ) (v : Weighed) → Rise packets → 0 < width
    → slice_get packets i ≡ Some v → i ≤ old → IsEndFrom packets old v.at width end → AreNear packets i old width → come ≡ load_of (take end packets) → gone ≡ load_of (take i packets)
    → new ≡ max peak (come - gone) → max peak (peak_of width (drop i packets)) ≡ peak_of width packets → max new (peak_of width (drop (i + 1) packets)) ≡ peak_of width packets
peak_step packets i old end width peak new come gone v rise wide here le found near come_is gone_is new_is told =
    let all_near = near_more packets i old end width v rise here found near in
    let inside : i < length packets = slice_get_within packets i v here in
    let behind : i ≤ end = omega (arith, le, found.behind) in
    let sum = window packets i end width v here behind (λ k w from below at_k. all_near i k v w (omega arith) below here at_k) (λ k w from at_k. beyond k w from at_k) in
    let dropped : drop i packets ≡ v ∷ drop (i + 1) packets
    = drop_more packets i v inside ∙ ap (λ x. x ∷ drop (i + 1) packets) (get_or_from_slice_get packets i v v here) in
    let first : peak_of width (drop i packets) ≡ max (sum_from width v (drop i packets)) (peak_of width (drop (i + 1) packets))
    = ap (peak_of width) dropped ∙ ap (λ l. max (sum_from width v l) (peak_of width (drop (i + 1) packets))) (sym dropped) in
    omega (arith, new_is, told, sum, come_is, gone_is, first)
  where
    beyond : (k : ℕ) (w : Weighed) → end ≤ k → slice_get packets k ≡ Some w → width ≤ w.at - v.at
    beyond k w from at_k =
        let below : k < length packets = slice_get_within packets k w at_k in
        let at_first : slice_get packets end ≡ Some (get_or packets end w) = slice_get-get_or packets end w (omega (arith, below, from)) in
        let far = found.far (get_or packets end w) at_first in
        let later = rise end k (get_or packets end w) w from at_first at_k in
        omega (arith, far, later)

-- the first packet of all isn't behind the end of its window
pub end_behind : (packets : List Weighed) (i old end width : ℕ) (v : Weighed) → slice_get packets i ≡ Some v → i ≤ old → IsEndFrom packets old v.at width end → 0 < width → i + 1 ≤ end
end_behind packets i old end width v here le found wide = by_case (cases_lt i end)
  where
    by_case : (i < end) ⊎ (end ≤ i) → i + 1 ≤ end
    by_case (inl before) = omega (arith, before)
    by_case (inr past) =
        let place : end ≡ i = omega (arith, past, le, found.behind) in
        let far = found.far v (ap (slice_get packets) place ∙ here) in
        absurd (omega (arith, far, wide))

-- ---- sums, one after the other

pub sum_more : (packets : List Weighed) (i sum own : ℕ) (x : Weighed) → slice_get packets i ≡ Some x → load_of packets < 2 ^ 128 → sum ≡ load_of (take i packets)
    → own ≡ min (sum + x.bits) (2 ^ 128 - 1) → own ≡ load_of (take (i + 1) packets)
sum_more packets i sum own x here few sum_is own_is =
    let more = take_load packets i x here in
    let le = take_le (i + 1) packets in
    omega (arith, few, sum_is, own_is, more, le)

-- ---- the whole

pub same_load : (a b c d e f : ℕ) → a ≡ d → b ≡ e → c ≡ f → ◌≡◌ {A = Load} (record { all = a; in_1ms = b; in_1s = c }) (record { all = d; in_1ms = e; in_1s = f })
same_load a b c d e f all in_1ms in_1s =
    ap (λ (n : ℕ). let load : Load = record { all = n; in_1ms = b; in_1s = c } in load) all
    ∙ ap (λ (n : ℕ). let load : Load = record { all = d; in_1ms = n; in_1s = c } in load) in_1ms
    ∙ ap (λ (n : ℕ). let load : Load = record { all = d; in_1ms = e; in_1s = n } in load) in_1s

-- what is told of each interface, with one more
pub loads_more : (looked : List Bool) (packets : List PacketFields) (loads new : List Load) (i : ℕ) (is_looked : Bool) (own : Load) → length loads ≡ i → slice_get looked i ≡ Some is_looked
    → new ≡ loads ++ own ∷ [] → own ≡ load_if is_looked (own_packets i packets) → AreLoads looked packets loads → AreLoads looked packets new
loads_more looked packets loads new i is_looked own long here is own_is all k x at_k = by_case (cases_lt k (length loads))
  where
    pushed : slice_get (loads ++ own ∷ []) k ≡ Some x
    pushed = ap (λ l. slice_get l k) (sym is) ∙ at_k

    by_case : (k < length loads) ⊎ (length loads ≤ k) → x ≡ load_if (is_at looked k) (own_packets k packets)
    by_case (inl before) = all k x (sym (slice_get_left loads (own ∷ []) k before) ∙ pushed)
    by_case (inr past) =
        let inside : k < length (loads ++ own ∷ []) = slice_get_within (loads ++ own ∷ []) k x pushed in
        let place : k ≡ length loads = omega (arith, past, inside, length_push loads own) in
        let same : own ≡ x = same_Some own x (sym (slice_get_end loads own (length loads) refl) ∙ ap (slice_get (loads ++ own ∷ [])) (sym place) ∙ pushed) in
        let at_i : i ≡ k = omega (arith, place, long) in
        let looks : is_looked ≡ is_at looked i = ap (λ o. unwrap_or o false) (sym here) in
        subst (λ n. x ≡ load_if (is_at looked n) (own_packets n packets)) at_i
        (sym same ∙ own_is ∙ ap (λ b. load_if b (own_packets i packets)) looks)

-- an interface that is looked at has a tally
some_tally : (b : Bool) (tally : Tally) → is_some (tally_if b tally) ≡ b
some_tally true tally = refl
some_tally false tally = refl

-- the same interfaces are looked at as have tallies
pub loads_looked : (choice : ChoiceFields) (interfaces : List InterfaceFields) (first looked : List Bool) (packets : List PacketFields) (tallies : List (Option Tally)) (loads : List Load)
    → AreLookedAt choice interfaces first → AreLookedAt choice interfaces looked → AreTalliesIf looked packets tallies → length tallies ≡ length looked → length loads ≡ length first
    → AreLoads first packets loads → AreLoads (map is_some tallies) packets loads
loads_looked choice interfaces first looked packets tallies loads looks again are long many all i own here =
    let below : i < length first = omega (arith, slice_get_within loads i own here, many) in
    let alike : slice_get first i ≡ slice_get looked i = looks.each i ∙ sym (again.each i) in
    let there : slice_get looked i ≡ Some (get_or first i false) = sym alike ∙ slice_get-get_or first i false below in
    let inside : i < length tallies = omega (arith, slice_get_within looked i (get_or first i false) there, long) in
    let tally = get_or tallies i None in
    let at_i : slice_get tallies i ≡ Some tally = slice_get-get_or tallies i None inside in
    let told : is_some tally ≡ is_at looked i = ap is_some (are i tally at_i) ∙ some_tally (is_at looked i) _ in
    let has : is_at (map is_some tallies) i ≡ is_some tally = ap (λ o. unwrap_or o false) (slice_get-map is_some tallies i ∙ ap (option_map is_some) at_i) in
    let same : is_at first i ≡ is_at looked i = ap (λ o. unwrap_or o false) alike in
    all i own here ∙ ap (λ b. load_if b (own_packets i packets)) (same ∙ sym told ∙ sym has)
