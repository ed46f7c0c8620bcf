-- Where a fault cuts no send off, each is led to where it is due.
use Rattle.std.proofs.Common.{◌≡◌, ℕ, zero, suc, ◌+◌, ◌-◌, ◌<◌, ◌≤◌, ◌==◌, ◌||◌, not, Bool, true, false, cond, List, [], ◌∷◌, ◌++◌, length, map, filter, take, drop, slice_index_or, Some, None, refl, sym, ap, ◌∙◌, subst, arith, zero-add, ⊎_elim, eqb-true}
use Rattle.std.specs.Prelude.{count_by, slice_get}
use Rattle.std.specs.List.{AllByRecursion, range_with_len}
use Rattle.std.proofs.lemmas.Bool.{cases_Bool, false≢true, not-true, or_cases, or_left, or_right}
use Rattle.std.proofs.lemmas.Nat.Bits.{bit_at-zero}
use Rattle.std.proofs.lemmas.Option.{get_or_from_slice_get, slice_get_within}
use Rattle.hsr_bitset.specs.Numbers.{has_bit}
use Rattle.hsr_deliveries.specs.Delivered.{is_due}
use Rattle.hsr_topology.specs.declared.end.End.{End}
use Rattle.hsr_routes.specs.Routes.{IsLedTo, heading, sender_at}
use Rattle.hsr_scenario.specs.declared.steps.Order.{Order}
use Rattle.hsr_scenario.specs.declared.steps.Order.TheVariants as order
use Rattle.hsr_world_steps.specs.declared.step.Step.TheVariants.{Clock, Send, Supervise, Age, Put, Take, Judge, Cut, Mend, Inject}
use Rattle.hsr_plays.specs.Conditions.{IsClear}
use Rattle.hsr_plays.specs.Setup.{Setup, asked_by, net_of}
use Rattle.hsr_plays.specs.Spans.{cut_after, cut_behind, is_cut_at, is_down, is_down_in, spans}
use Rattle.hsr_plays.specs.declared.span.Asked.{Asked}
use Rattle.hsr_plays.specs.declared.span.SendSpan.{SendSpan}
use Rattle.hsr_plays.proofs.Asking.{asked_at}
use Rattle.hsr_faults.specs.CutOff.{IsOutage, IsServedBy, Told, is_cut}
use Rattle.hsr_faults.specs.Fault.{is_link_off, is_node_off}
use Rattle.hsr_faults.specs.Groups.{heading_of}
use Rattle.hsr_faults.specs.Law.{IsLeft, ServesOn, Sweeps, cut_step, stays, with_fault}
use Rattle.hsr_faults.specs.declared.fault.Fault.{Fault}
use Rattle.hsr_faults.specs.declared.outage.Outage.{Outage}
use Rattle.hsr_faults.proofs.Counting.{count_cons}
use Rattle.hsr_faults.proofs.Leaving.{cut_got, idle_step, leaves, rise_or_same, stands, sub}
use Rattle.hsr_faults.proofs.Sparing.{less_led}
use Rattle.hsr_faults.proofs.Thinning.{IsSame, Thin, place_cut, some_got, thin_filter}

-- ---- cuts at times

cut_on : (l : ℕ) (was : Bool) (a t : ℕ) (orders : List Order) → cut_behind l was (take (a + t) orders) ≡ cut_behind l (cut_behind l was (take a orders)) (take t (drop a orders))
cut_on l was zero t orders = ap (λ n. cut_behind l was (take n orders)) (zero-add t)
cut_on l was (suc a) zero [] = let e : suc a + 0 ≡ suc a = omega arith in ap (λ n. cut_behind l was (take n [])) e
cut_on l was (suc a) (suc t) [] = let e : suc a + suc t ≡ suc (a + suc t) = omega arith in ap (λ n. cut_behind l was (take n [])) e
cut_on l was (suc a) t (o ∷ later) =
    let e : suc a + t ≡ suc (a + t) = omega arith in
    ap (λ n. cut_behind l was (take n (o ∷ later))) e ∙ cut_on l (cut_after l was o) a t later

-- a link that is cut behind some of the steps is down in them
down_in : (l : ℕ) (was : Bool) (t d : ℕ) (orders : List Order) → t ≤ d → cut_behind l was (take t orders) ≡ true → is_down_in l was (take d orders) ≡ true
down_in l was zero zero orders low cut = cut
down_in l was zero (suc d) [] low cut = cut
down_in l was zero (suc d) (o ∷ later) low cut = or_left was (is_down_in l (cut_after l was o) (take d later)) cut
down_in l was (suc t) zero orders low cut = absurd (omega (arith, low))
down_in l was (suc t) (suc d) [] low cut = cut
down_in l was (suc t) (suc d) (o ∷ later) low cut = or_right was (is_down_in l (cut_after l was o) (take d later)) (down_in l (cut_after l was o) t d later (omega (arith, low)) cut)

down_at : (orders : List Order) (span : SendSpan) (l time : ℕ) → span.index ≤ time → time ≤ span.end → is_cut_at orders time l ≡ true → is_down orders span l ≡ true
down_at orders span l time above below cut =
    let e : span.index + (time - span.index) ≡ time = omega (arith, above) in
    let there = sym (cut_on l false span.index (time - span.index) orders) ∙ (ap (λ n. cut_behind l false (take n orders)) e ∙ cut) in
    down_in l (is_cut_at orders span.index l) (time - span.index) (span.end - span.index) (drop span.index orders) (omega (arith, above, below)) there

-- and one that is down in some steps is cut behind some of them
time_in : (l : ℕ) (was : Bool) (d : ℕ) (orders : List Order) → is_down_in l was (take d orders) ≡ true → (t : ℕ) × (t ≤ d) × (cut_behind l was (take t orders) ≡ true)
time_in l was zero orders down = (zero, omega arith, down)
time_in l was (suc d) [] down = (zero, omega arith, down)
time_in l was (suc d) (o ∷ later) down = ⊎_elim
    (λ (now : was ≡ true). (zero, omega arith, now))
    (λ then_down. let rest = time_in l (cut_after l was o) d later then_down in let low = rest.1 in (suc rest.0, omega (arith, low), rest.2))
    (or_cases was (is_down_in l (cut_after l was o) (take d later)) down)

time_of : (orders : List Order) (span : SendSpan) (l : ℕ) → is_down orders span l ≡ true → (t : ℕ) × (t ≤ span.end - span.index) × (is_cut_at orders (span.index + t) l ≡ true)
time_of orders span l down =
    let at = time_in l (is_cut_at orders span.index l) (span.end - span.index) (drop span.index orders) down in
    (at.0, at.1, cut_on l false span.index at.0 orders ∙ at.2)

-- ---- cuts in front

untouched : (off : ℕ → Bool) (l : ℕ) → off l ≡ false → (xs : List ℕ) → AllByRecursion (λ m. (m == l) ≡ false) (filter off xs)
untouched off l on [] = tt
untouched off l on (x ∷ xs) = by_test (off x) refl (untouched off l on xs)
  where
    other : off x ≡ true → (b : Bool) → (x == l) ≡ b → (x == l) ≡ false
    other is true same = absurd (false≢true (sym on ∙ (sym (ap off (eqb-true x l same)) ∙ is)))
    other is false same = same

    by_test : (b : Bool) → off x ≡ b → AllByRecursion (λ m. (m == l) ≡ false) (filter off xs) → AllByRecursion (λ m. (m == l) ≡ false) (cond b (x ∷ filter off xs) (filter off xs))
    by_test true is rest = (other is (x == l) refl, rest)
    by_test false is rest = rest

cut_state : (ls : List ℕ) (ts : List Order) (l : ℕ) (was : Bool) (j : ℕ) → AllByRecursion (λ m. (m == l) ≡ false) ls → cut_behind l was (take (length ls + j) (map cut_step ls ++ ts)) ≡ cut_behind l was (take j ts)
cut_state [] ts l was j all = ap (λ n. cut_behind l was (take n ts)) (zero-add j)
cut_state (m ∷ ls) ts l was j all =
    let e : length (m ∷ ls) + j ≡ suc (length ls + j) = omega arith in
    ap (λ n. cut_behind l was (take n (map cut_step (m ∷ ls) ++ ts))) e
    ∙ (ap (λ b. cut_behind l (b || was) (take (length ls + j) (map cut_step ls ++ ts))) all.0 ∙ cut_state ls ts l was j all.1)

-- ---- who sends

filter_got : (p : Order → Bool) (os : List Order) (j : ℕ) (o : Order) → slice_get (filter p os) j ≡ Some o → p o ≡ true
filter_got p [] j o got = absurd (nope got)
  where
    nope : None ≡ Some o → ⊥
    nope e = cc
filter_got p (x ∷ os) j o got = by_test (p x) refl j got (λ i there. filter_got p os i o there)
  where
    by_test : (b : Bool) → p x ≡ b → (j : ℕ) → slice_get (cond b (x ∷ filter p os) (filter p os)) j ≡ Some o → ((i : ℕ) → slice_get (filter p os) i ≡ Some o → p o ≡ true) → p o ≡ true
    by_test true is zero got rest = let same : x ≡ o = let e : Some x ≡ Some o = got in cc in sym (ap p same) ∙ is
    by_test true is (suc j) got rest = rest j got
    by_test false is j got rest = rest j got

stays_on : (links : List (List End)) (fault : Fault) (o : Order) (asked : Asked) → asked_by o ≡ Some asked → stays links fault o ≡ true → is_node_off fault asked.node ≡ false
stays_on links fault (order.Step (Send node from dst vlan ethertype payload)) asked is stay =
    let one : Asked = record { node = node; from = from; dst = dst; kind = ethertype } in
    let same : one ≡ asked = let e : Some one ≡ Some asked = is in cc in
    sym (ap (λ (x : Asked). is_node_off fault x.node) same) ∙ not-true (is_node_off fault node) stay
stays_on links fault (order.Step (Supervise node about)) asked is stay =
    let one : Asked = record { node = node; from = 0; dst = Rattle.hsr_frame.specs.Address.supervision_address; kind = Rattle.hsr_frame.specs.Layout.ethertype_supervision } in
    let same : one ≡ asked = let e : Some one ≡ Some asked = is in cc in
    sym (ap (λ (x : Asked). is_node_off fault x.node) same) ∙ not-true (is_node_off fault node) stay
stays_on links fault (order.Step (Clock at)) asked is stay = absurd cc
stays_on links fault (order.Step (Age node)) asked is stay = absurd cc
stays_on links fault (order.Step (Put node port)) asked is stay = absurd cc
stays_on links fault (order.Step (Take link dir)) asked is stay = absurd cc
stays_on links fault (order.Step (Judge node port)) asked is stay = absurd cc
stays_on links fault (order.Step (Cut link)) asked is stay = absurd cc
stays_on links fault (order.Step (Mend link)) asked is stay = absurd cc
stays_on links fault (order.Step (Inject link dir octets)) asked is stay = absurd cc
stays_on links fault order.Drain asked is stay = absurd cc

no_ask : (l : ℕ) (o : Order) (asked : Asked) → cut_step l ≡ o → asked_by o ≡ Some asked → ⊥
no_ask l o asked is asks =
    let e : None ≡ Some asked = ap asked_by is ∙ asks in
    cc

-- ---- nobody is cut off

count_none : {X : Type 0} (p : X → Bool) (xs : List X) → count_by p xs ≡ 0 → (i : ℕ) (d : X) → i < length xs → p (slice_index_or xs i d) ≡ false
count_none p [] none i d low = absurd (omega (arith, low))
count_none p (x ∷ xs) none zero d low = by_test (p x) refl
  where
    by_test : (b : Bool) → p x ≡ b → p x ≡ false
    by_test false is = is
    by_test true is =
        let one : cond {A = ℕ} (p x) 1 0 ≡ 1 = ap (λ (b : Bool). cond {A = ℕ} b 1 0) is in
        let all = count_cons p x xs in
        absurd (omega (arith, one, all, none))
count_none p (x ∷ xs) none (suc i) d low = let all = count_cons p x xs in count_none p xs (omega (arith, all, none)) i d (omega (arith, low))

no_bit : (t : Told) → is_cut t ≡ false → (k : ℕ) → has_bit t.nodes k ≡ false
no_bit t none k = by_test (t.nodes == 0) refl
  where
    by_test : (b : Bool) → (t.nodes == 0) ≡ b → has_bit t.nodes k ≡ false
    by_test true is = ap (λ (n : ℕ). has_bit n k) (eqb-true t.nodes 0 is) ∙ ap (λ n. n == 1) (bit_at-zero k)
    by_test false is = absurd (false≢true (sym none ∙ ap not is))

-- ---- the law

module _ (s : Setup) (fault : Fault) (clear : IsClear s) where
  -- what is down with the fault was down or is off
  down_less : (ls : List ℕ) (ts : List Order) (t : Thin (is_link_off s.links fault) s.orders ts) (a b : SendSpan) → IsSame (length ls) (stands s ls ts (is_link_off s.links fault) t) a b → (l : ℕ) →
      AllByRecursion (λ m. (m == l) ≡ false) ls → is_link_off s.links fault l ≡ false → is_down (map cut_step ls ++ ts) b l ≡ true → is_down s.orders a l ≡ true
  down_less ls ts t a b same l all on down =
      let time = time_of (map cut_step ls ++ ts) b l down in
      let n : ℕ = b.index + time.0 in
      let low = same.low in
      let above = same.above in
      let short = time.1 in
      let e : n ≡ length ls + (n - length ls) = omega (arith, low) in
      let cut : is_cut_at s.orders (stands s ls ts (is_link_off s.links fault) t n) l ≡ true =
      sym (place_cut (is_link_off s.links fault) s.orders ts t l false (n - length ls) on)
      ∙ (sym (cut_state ls ts l false (n - length ls) all) ∙ (sym (ap (λ k. cut_behind l false (take k (map cut_step ls ++ ts))) e) ∙ time.2)) in
      let first = rise_or_same s clear ls ts (is_link_off s.links fault) t b.index n low (omega arith) in
      let last = rise_or_same s clear ls ts (is_link_off s.links fault) t n b.end (omega (arith, low)) (omega (arith, short, above)) in
      let a_index = same.index in
      let a_end = same.end in
      down_at s.orders a l (stands s ls ts (is_link_off s.links fault) t n) (omega (arith, first, a_index)) (omega (arith, last, a_end)) cut

  serves_on : (outage : Outage) → length s.places ≤ 64 → IsOutage (net_of s) s.orders (spans s) fault outage → outage.sends ≡ 0 → ServesOn (with_fault s fault) fault
  serves_on outage few told none i b got k below on due =
      let ls : List ℕ = filter (is_link_off s.links fault) (range_with_len 0 (length s.links)) in
      let ts : List Order = filter (stays s.links fault) s.orders in
      let t : Thin (is_link_off s.links fault) s.orders ts = thin_filter (is_link_off s.links fault) (stays s.links fault) (idle_step s.links fault) s.orders in
      let found = some_got (length ls) (stands s ls ts (is_link_off s.links fault) t) (spans s) (spans (with_fault s fault)) (sub s clear ls ts (is_link_off s.links fault) t) i b got in
      let a : SendSpan = found.1 in
      let same : IsSame (length ls) (stands s ls ts (is_link_off s.links fault) t) a b = found.3 in
      let inside : found.0 < length (spans s) = slice_get_within (spans s) found.0 a found.2 in
      let nobody : Told = record { sender = 0; nodes = 0 } in
      let many = told.are.many in
      let zero_sends : count_by is_cut told.told ≡ 0 = sym told.cuts.sends ∙ none in
      let bit = no_bit (slice_index_or told.told found.0 nobody) (count_none is_cut told.told zero_sends found.0 nobody (omega (arith, inside, many))) k in
      let decided = told.are.nodes found.0 nobody a inside k (omega (arith, below, few)) in
      let here : slice_index_or (spans s) found.0 a ≡ a = get_or_from_slice_get (spans s) found.0 a a found.2 in
      let served : IsServedBy (net_of s) (heading_of a) (λ channel. is_down s.orders a channel.link) fault k =
      subst (λ (x : SendSpan). IsServedBy (net_of s) (heading_of x) (λ channel. is_down s.orders x channel.link) fault k) here (decided.served bit) in
      let asks = asked_at s.within 0 0 (map cut_step ls ++ ts) i b got in
      let b_on : is_node_off fault b.asked.node ≡ false = ⊎_elim
      (λ (cut : (l : ℕ) × (cut_step l ≡ asks.order) × (asks.at < length ls)). absurd (no_ask cut.0 asks.order b.asked cut.1 asks.asked))
      (λ (later : (j : ℕ) × (asks.at ≡ length ls + j) × (slice_get ts j ≡ Some asks.order)).
      stays_on s.links fault asks.order b.asked asks.asked (filter_got (stays s.links fault) s.orders later.0 asks.order later.2))
      (cut_got ls ts asks.at asks.order asks.listed) in
      let a_on : is_node_off fault a.asked.node ≡ false = ap (λ (x : Asked). is_node_off fault x.node) same.asked ∙ b_on in
      let a_due : is_due (net_of s) a.asked.node a.asked.dst a.asked.kind k ≡ true = ap (λ (x : Asked). is_due (net_of s) x.node x.dst x.kind k) same.asked ∙ due in
      let led = less_led (net_of s) (sender_at a.asked.node) (heading a.asked.dst a.asked.kind) (λ channel. is_down (map cut_step ls ++ ts) b channel.link) (λ channel. is_down s.orders a channel.link || is_link_off s.links fault channel.link)
      (λ channel there down. ⊎_elim
      (λ (is : is_link_off s.links fault channel.link ≡ true). or_right (is_down s.orders a channel.link) (is_link_off s.links fault channel.link) is)
      (λ (is : is_link_off s.links fault channel.link ≡ false). or_left (is_down s.orders a channel.link) (is_link_off s.links fault channel.link)
      (down_less ls ts t a b same channel.link (untouched (is_link_off s.links fault) channel.link is (range_with_len 0 (length s.links))) is down))
      (cases_Bool (is_link_off s.links fault channel.link)))
      k (served below a_due a_on on) in
      subst (λ (x : Asked). IsLedTo (net_of s) (sender_at x.node) (heading x.dst x.kind) (λ channel. is_down (map cut_step ls ++ ts) b channel.link) k) same.asked led

pub sweeps : Sweeps
sweeps s fault outage setup clear told none =
    let rest : IsLeft (with_fault s fault) = leaves s fault clear in
    let serves : ServesOn (with_fault s fault) fault = serves_on s fault clear outage setup.wired.few_places told none in
    record {
      rest = rest;
      serves = serves;
      clear = λ of_links accepted. record {
        fine = rest.fine;
        ended = rest.ended;
        network = rest.network;
        accepted = accepted;
        not_back = rest.not_back;
        brief = rest.brief;
        uncrowded = rest.uncrowded;
        unwrapped = rest.unwrapped;
        covered = rest.covered;
        room = rest.room;
        served = λ i span listed k below. serves i span listed k below (of_links k);
      };
    }
