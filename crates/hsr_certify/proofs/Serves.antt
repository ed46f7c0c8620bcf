-- What is avoided, and which nodes a send isn't led to.
use Rattle.std.proofs.Common.{◌≡◌, ℕ, ◌+◌, ◌*◌, ◌<◌, ◌==◌, ◌&&◌, ◌||◌, not, Bool, true, false, if◌then◌else◌, List, [], ◌∷◌, length, slice_index_or, get_or, drop, Option, Some, None, refl, sym, ap, ◌∙◌, subst, arith, ⊎_elim, zero, suc, eq-eqb, eqb-true}
use Rattle.std.specs.Prelude.{◌↔◌, slice_get}
use Rattle.std.proofs.lemmas.List.{drop_more}
use Rattle.std.proofs.lemmas.Option.{get_or_from_slice_get, slice_get-get_or}
use Rattle.std.proofs.lemmas.Bool.{and_parts, cases_lt, false≢true, or_cases, or_left, or_right, not-true}
use Rattle.hsr_bitset.specs.Numbers.{has}
use Rattle.hsr_deliveries.specs.Delivered.{is_due}
use Rattle.hsr_link.specs.declared.row.Dir.{Dir}
use Rattle.hsr_link.specs.declared.row.Dir.TheVariants.{Forth, Back}
use Rattle.hsr_node.specs.declared.place.Place.{Place}
use Rattle.hsr_node.specs.declared.place.Place.TheVariants.{QuadBox}
use Rattle.hsr_run_laws.specs.Run.{Run, place_of}
use Rattle.hsr_network_laws.specs.Network.{Channel}
use Rattle.hsr_routes.specs.Numbered.{dir_number, is_in, number_of}
use Rattle.hsr_routes.specs.Routes.{IsLedTo, heading, sender_at}
use Rattle.hsr_routes.proofs.Alike.{led_alike}
use Rattle.hsr_scenario.specs.declared.steps.Order.{Order}
use Rattle.hsr_plays.specs.Spans.{is_down}
use Rattle.hsr_plays.specs.declared.span.SendSpan.{SendSpan}
use Rattle.hsr_certify.specs.Served.{AreAvoidedBelow, IsCutAt, IsUnled, LeadsTo, ServedBelow, ServesBelow, first_missed_from, is_missed_at}

-- ---- what is avoided

small : (dir : Dir) → dir_number dir < 2
small Forth = omega arith
small Back = omega arith

-- both channels of one more link are put
pub avoided_more : (orders : List Order) (span : SendSpan) (l : ℕ) (down : Bool) (old new : List ℕ) → l < 128 → down ≡ is_down orders span l →
    ((n : ℕ) → n < 512 → has new n ≡ (if (n == 2 * l) || (n == 2 * l + 1) then down else has old n)) →
    AreAvoidedBelow orders span l old → AreAvoidedBelow orders span (l + 1) new
avoided_more orders span l down old new low is put before channel inside =
    let one = small channel.dir in
    let here = put (number_of channel) (omega (arith, one, inside, low)) in
    ⊎_elim
    (λ lower. here ∙ other ((number_of channel == 2 * l) || (number_of channel == 2 * l + 1)) refl lower ∙ before channel lower)
    (λ high.
    let same : channel.link ≡ l = omega (arith, inside, high) in
    here ∙ (ap (λ b. if b then down else has old (number_of channel)) (mine channel.dir same) ∙ (is ∙ ap (is_down orders span) (sym same))))
    (cases_lt channel.link l)
  where
    other : (b : Bool) → ((number_of channel == 2 * l) || (number_of channel == 2 * l + 1)) ≡ b → channel.link < l → (if b then down else has old (number_of channel)) ≡ has old (number_of channel)
    other false is_none lower = refl
    other true is_one lower =
        let few = small channel.dir in
        ⊎_elim
        (λ first. let e = eqb-true (number_of channel) (2 * l) first in absurd (omega (arith, e, few, lower)))
        (λ second. let e = eqb-true (number_of channel) (2 * l + 1) second in absurd (omega (arith, e, few, lower)))
        (or_cases (number_of channel == 2 * l) (number_of channel == 2 * l + 1) is_one)

    mine : (dir : Dir) → channel.link ≡ l → ((2 * channel.link + dir_number dir == 2 * l) || (2 * channel.link + dir_number dir == 2 * l + 1)) ≡ true
    mine Forth same = or_left _ _ (eq-eqb (2 * channel.link + 0) (2 * l) (omega (arith, same)))
    mine Back same = or_right _ _ (eq-eqb (2 * channel.link + 1) (2 * l + 1) (omega (arith, same)))

-- two channels are put one behind the other
pub put_both : (first second down old mid new : Bool) → mid ≡ (if first then down else old) → new ≡ (if second then down else mid) → new ≡ (if first || second then down else old)
put_both true true down old mid new one two = two
put_both true false down old mid new one two = two ∙ one
put_both false true down old mid new one two = two
put_both false false down old mid new one two = two ∙ one

-- ---- who is missed

-- none of the nodes from one on
none_missed : (span : SendSpan) (nodes : List ℕ) (k : ℕ) (places : List Place) → first_missed_from span nodes k places ≡ None →
    (j : ℕ) (d : Place) → j < length places → is_missed_at span nodes (k + j) (slice_index_or places j d) ≡ false
none_missed span nodes k [] none j d below = absurd (omega (arith, below))
none_missed span nodes k (place ∷ places) none j d below = step (is_missed_at span nodes k place) refl none (none_missed span nodes (k + 1) places) j d below
  where
    step : (b : Bool) → is_missed_at span nodes k place ≡ b → (if b then Some k else first_missed_from span nodes (k + 1) places) ≡ None →
        (first_missed_from span nodes (k + 1) places ≡ None → (j : ℕ) (d : Place) → j < length places → is_missed_at span nodes (k + 1 + j) (slice_index_or places j d) ≡ false) →
        (j : ℕ) (d : Place) → j < length (place ∷ places) → is_missed_at span nodes (k + j) (slice_index_or (place ∷ places) j d) ≡ false
    step true is none rest j d below = absurd cc
    step false is none rest zero d below = let same : k + 0 ≡ k = omega arith in ap (λ n. is_missed_at span nodes n place) same ∙ is
    step false is none rest (suc j) d below =
        let same : k + suc j ≡ k + 1 + j = omega arith in
        ap (λ n. is_missed_at span nodes n (slice_index_or places j d)) same ∙ rest none j d (omega (arith, below))

record IsMissed (span : SendSpan) (nodes : List ℕ) (k : ℕ) (places : List Place) (n : ℕ) : Type 0 where
  at : ℕ
  is : n ≡ k + at
  below : at < length places
  missed : (d : Place) → is_missed_at span nodes n (slice_index_or places at d) ≡ true
  before : (j : ℕ) (d : Place) → j < at → is_missed_at span nodes (k + j) (slice_index_or places j d) ≡ false

one_missed : (span : SendSpan) (nodes : List ℕ) (k : ℕ) (places : List Place) (n : ℕ) → first_missed_from span nodes k places ≡ Some n → IsMissed span nodes k places n
one_missed span nodes k [] n some = absurd cc
one_missed span nodes k (place ∷ places) n some = step (is_missed_at span nodes k place) refl some (one_missed span nodes (k + 1) places n)
  where
    step : (b : Bool) → is_missed_at span nodes k place ≡ b → (if b then Some k else first_missed_from span nodes (k + 1) places) ≡ Some n →
        (first_missed_from span nodes (k + 1) places ≡ Some n → IsMissed span nodes (k + 1) places n) → IsMissed span nodes k (place ∷ places) n
    step true is some rest =
        let same : k ≡ n = cc in
        record {
          at = zero;
          is = omega (arith, same);
          below = omega arith;
          missed = λ d. ap (λ m. is_missed_at span nodes m place) (sym same) ∙ is;
          before = λ j d low. absurd (omega (arith, low));
        }
    step false is some rest =
        let m = rest some in
        let at = m.is in
        let low = m.below in
        record {
          at = suc m.at;
          is = omega (arith, at);
          below = omega (arith, low);
          missed = m.missed;
          before = earlier m;
        }
      where
        earlier : (m : IsMissed span nodes (k + 1) places n) (j : ℕ) (d : Place) → j < suc m.at → is_missed_at span nodes (k + j) (slice_index_or (place ∷ places) j d) ≡ false
        earlier m zero d low = let same : k + 0 ≡ k = omega arith in ap (λ x. is_missed_at span nodes x place) same ∙ is
        earlier m (suc j) d low =
            let same : k + suc j ≡ k + 1 + j = omega arith in
            ap (λ x. is_missed_at span nodes x (slice_index_or places j d)) same ∙ m.before j d (omega (arith, low))

-- ---- who isn't led to

module _ (net : Run) (orders : List Order) (span : SendSpan) (avoid nodes : List ℕ) (avoided : AreAvoidedBelow orders span (length net.links) avoid)
    (reached : (k : ℕ) → k < length net.places → (has nodes k ≡ true) ↔ IsLedTo net (sender_at span.asked.node) (heading span.asked.dst span.asked.kind) (is_in avoid) k) where
  -- what is due and isn't missed is led to
  led : (k : ℕ) → k < length net.places → is_due net span.asked.node span.asked.dst span.asked.kind k ≡ true → is_missed_at span nodes k (place_of net k) ≡ false → LeadsTo net orders span k
  led k below due found =
      led_alike net (sender_at span.asked.node) (heading span.asked.dst span.asked.kind) (is_in avoid) (λ channel. is_down orders span channel.link) avoided k
      ((reached k below).0 (by_test (has nodes k) (ap (λ b. b && not (has nodes k)) (sym due) ∙ found)))
    where
      by_test : (b : Bool) → (true && not b) ≡ false → b ≡ true
      by_test true h = refl
      by_test false h = absurd (false≢true (sym h))

  unled : (k : ℕ) → k < length net.places → is_missed_at span nodes k (place_of net k) ≡ true → LeadsTo net orders span k → ⊥
  unled k below missed leads =
      let parts = and_parts (is_due net span.asked.node span.asked.dst span.asked.kind k) (not (has nodes k)) missed in
      let same : (channel : Channel) → channel.link < length net.links → is_down orders span channel.link ≡ is_in avoid channel = λ channel inside. sym (avoided channel inside) in
      let is = (reached k below).1 (led_alike net (sender_at span.asked.node) (heading span.asked.dst span.asked.kind) (λ channel. is_down orders span channel.link) (is_in avoid) same k leads) in
      false≢true (sym (not-true (has nodes k) parts.1) ∙ is)

  pub unled_is : (result : Option ℕ) → result ≡ first_missed_from span nodes 0 net.places → IsUnled net orders span result
  unled_is None is = λ k below due. let here : 0 + k ≡ k = omega arith in led k below due (ap (λ n. is_missed_at span nodes n (place_of net k)) (sym here) ∙ none_missed span nodes 0 net.places (sym is) k QuadBox below)
  unled_is (Some n) is =
      let m = one_missed span nodes 0 net.places n (sym is) in
      let at : m.at ≡ n = let e = m.is in omega (arith, e) in
      let low = m.below in
      let below : n < length net.places = omega (arith, at, low) in
      let missed : is_missed_at span nodes n (place_of net n) ≡ true = ap (λ j. is_missed_at span nodes n (slice_index_or net.places j QuadBox)) (sym at) ∙ m.missed QuadBox in
      record {
        below = below;
        due = (and_parts (is_due net span.asked.node span.asked.dst span.asked.kind n) (not (has nodes n)) missed).0;
        unled = unled n below missed;
        before = λ k lower due. let here : 0 + k ≡ k = omega arith in led k (omega (arith, lower, below)) due (ap (λ j. is_missed_at span nodes j (place_of net k)) (sym here) ∙ m.before k QuadBox (omega (arith, lower, at)));
      }

-- ---- the loops

-- the one at an index is served, or is the first that isn't
module _ (net : Run) (orders : List Order) (spans : List SendSpan) (n : ℕ) (one : SendSpan) (below : n < length spans) (read : one ≡ get_or spans n one) (before : ServedBelow net orders spans n) where
  pub served_more : IsUnled net orders one None → ServedBelow net orders spans (n + 1)
  served_more here i span low listed =
      ⊎_elim
      (λ lower. before i span lower listed)
      (λ high.
      let same : i ≡ n = omega (arith, low, high) in
      let is : one ≡ span = read ∙ get_or_from_slice_get spans n span one (ap (slice_get spans) (sym same) ∙ listed) in
      subst (λ (x : SendSpan). ServesBelow net orders x (length net.places)) is here)
      (cases_lt i n)

  pub cut_found : (k : ℕ) → IsUnled net orders one (Some k) → IsCutAt net orders spans (record { step = one.index; node = k })
  cut_found k here =
      record {
        at = n;
        span = one;
        listed = slice_get-get_or spans n one below ∙ ap Some (sym read);
        index = refl;
        unled = here;
        before = before;
      }

-- the node at an index isn't missed, or is the lowest that is
module _ (span : SendSpan) (nodes : List ℕ) (places : List Place) (n : ℕ) (d : Place) (below : n < length places)
    (before : first_missed_from span nodes n (drop n places) ≡ first_missed_from span nodes 0 places) where
  split_places : first_missed_from span nodes n (drop n places) ≡ first_missed_from span nodes n (get_or places n d ∷ drop (n + 1) places)
  split_places = ap (first_missed_from span nodes n) (drop_more places n d below)

  pub missed_more : is_missed_at span nodes n (get_or places n d) ≡ false → first_missed_from span nodes (n + 1) (drop (n + 1) places) ≡ first_missed_from span nodes 0 places
  missed_more is =
      let on : first_missed_from span nodes n (get_or places n d ∷ drop (n + 1) places) ≡ first_missed_from span nodes (n + 1) (drop (n + 1) places) =
      ap (λ (b : Bool). if b then Some n else first_missed_from span nodes (n + 1) (drop (n + 1) places)) is in
      sym on ∙ (sym split_places ∙ before)

  pub missed_found : is_missed_at span nodes n (get_or places n d) ≡ true → Some n ≡ first_missed_from span nodes 0 places
  missed_found is =
      let here : first_missed_from span nodes n (get_or places n d ∷ drop (n + 1) places) ≡ Some n =
      ap (λ (b : Bool). if b then Some n else first_missed_from span nodes (n + 1) (drop (n + 1) places)) is in
      sym here ∙ (sym split_places ∙ before)
