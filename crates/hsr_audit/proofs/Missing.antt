-- Which sends their RedBoxes didn't know, from entry to entry and from node to node.
use Rattle.std.proofs.Common.{◌≡◌, ◌⊎◌, ℕ, ◌+◌, ◌<◌, ◌≤◌, ◌==◌, ◌&&◌, ◌||◌, ◌↔◌, nat_lt, max, Bool, true, false, not, if◌then◌else◌, List, [], ◌∷◌, length, reverse, take, slice_index_or, zero, suc, Option, Some, None, refl, sym, ap, ◌∙◌, subst, arith, inl, inr, ⊎_elim, eqb-true, eq-eqb, ltb-true, lt-ltb}
use Rattle.std.specs.Prelude.{slice_get}
use Rattle.std.specs.List.{list_any}
use Rattle.std.proofs.lemmas.Option.{get_or_from_slice_get, none-some, slice_get-get_or, slice_get_past}
use Rattle.std.proofs.lemmas.Bool.{and_parts, cases_Bool, cases_lt, false≢true, not-true, or_cases, or_left, or_parts, or_right}
use Rattle.hsr_frame.specs.Grammar.{Fields}
use Rattle.hsr_node.specs.Flow.{send_at}
use Rattle.hsr_node.specs.Record.{Each, knows, now, probe_handled}
use Rattle.hsr_node.specs.declared.entry.Entry.{Entry}
use Rattle.hsr_node.specs.declared.event.Probe.{Probe}
use Rattle.hsr_node.specs.declared.place.Place.{Place}
use Rattle.hsr_node.specs.declared.place.Place.TheVariants.{QuadBox}
use Rattle.hsr_node.specs.declared.sending.Sending.{Sending}
use Rattle.hsr_link.specs.declared.row.Dir.{Dir}
use Rattle.hsr_link.specs.declared.row.Dir.TheVariants.{Forth, Back}
use Rattle.hsr_topology.specs.declared.end.End.{End}
use Rattle.hsr_tables.specs.Proxies.{Proxies, is_known}
use Rattle.hsr_run_laws.specs.Closed.{IsSend}
use Rattle.hsr_run_laws.specs.Premises.{is_redbox}
use Rattle.hsr_run_laws.specs.Run.{Run, ends_of, from_end, is_of, owner_of, past_of, place_of, record_of, to_end}
use Rattle.hsr_table_demand.specs.Read.{heard_in, stations_of}
use Rattle.hsr_table_demand.proofs.Hearing.{known_same, stations_last}
use Rattle.hsr_table_demand.proofs.Places.{no_entry, past_length, past_more}
use Rattle.hsr_table_demand.proofs.Walking.{place_at}
use Rattle.hsr_network_laws.specs.Network.{Channel, start_of, stop_of}
use Rattle.hsr_network_laws.specs.Stations.{finds}
use Rattle.hsr_audit.specs.Coming.{IsBoxOf, IsKnown, is_to_station}
use Rattle.hsr_audit.specs.Sends.{probe_at}
use Rattle.hsr_audit.specs.Missed.{IsFirstMissed, IsLowest, IsLowestOf, IsMissed, IsUnknown, IsUnknownOf, MissedBelow, MissedOn, is_box_of, is_due_below, is_lower, leads_below, lower_of, sending_at, sent_in, sent_of}
use Rattle.hsr_audit.proofs.Coming.{both, unnot}
use Rattle.hsr_audit.proofs.Sending.{in_record, sent_is}

-- what stands at a place is below the length
get_below : {X : Type 0} (xs : List X) (i : ℕ) (x : X) → slice_get xs i ≡ Some x → i < length xs
get_below xs i x is = ⊎_elim (λ low. low) (λ high. absurd (none-some x (sym (slice_get_past xs i high) ∙ is))) (cases_lt i (length xs))

-- ---- a RedBox of a frame

-- a list of links has one of which a test holds
some_link : (test : List End → Bool) (links : List (List End)) → list_any test links ≡ true → (l : ℕ) × (l < length links) × (test (slice_index_or links l []) ≡ true)
some_link test [] any = absurd (false≢true any)
some_link test (ends ∷ links) any =
    ⊎_elim (λ here. (0, omega arith, here))
    (λ later. let rest = some_link test links later in let low = rest.1 in (suc rest.0, omega (arith, low), rest.2))
    (or_cases (test ends) (list_any test links) any)

link_some : (test : List End → Bool) (links : List (List End)) (l : ℕ) → l < length links → test (slice_index_or links l []) ≡ true → list_any test links ≡ true
link_some test [] l low is = absurd (omega (arith, low))
link_some test (ends ∷ links) zero low is = or_left (test ends) (list_any test links) is
link_some test (ends ∷ links) (suc l) low is = or_right (test ends) (list_any test links) (link_some test links l (omega (arith, low)) is)

module _ (run : Run) (sender : ℕ) (frame : Fields) (k : ℕ) where
  pub box_is : k < length run.places → is_box_of run.places run.links sender frame k ≡ true → IsBoxOf run sender frame k
  box_is node is =
      let parts = and_parts (is_redbox (place_of run k)) (list_any (leads_below run.places sender frame k) run.links) is in
      let some = some_link (leads_below run.places sender frame k) run.links parts.1 in
      let ends = ends_of run some.0 in
      ⊎_elim (λ forth. by_channel parts.0 (record { link = some.0; dir = Forth }) some.1 forth) (λ back. by_channel parts.0 (record { link = some.0; dir = Back }) some.1 back)
      (or_cases (((from_end Forth ends).node == k) && is_due_below run.places sender frame (to_end Forth ends).node) (((to_end Forth ends).node == k) && is_due_below run.places sender frame (from_end Forth ends).node) some.2)
    where
      by_channel : is_redbox (place_of run k) ≡ true → (channel : Channel) → channel.link < length run.links → (((start_of run channel).node == k) && is_due_below run.places sender frame (stop_of run channel).node) ≡ true → IsBoxOf run sender frame k
      by_channel is_box channel below leads =
          let two = and_parts ((start_of run channel).node == k) (is_due_below run.places sender frame (stop_of run channel).node) leads in
          let due = and_parts (is_to_station frame (place_of run (stop_of run channel).node)) (Rattle.hsr_deliveries.specs.Delivered.is_due run sender frame.dst frame.kind (stop_of run channel).node) two.1 in
          record { node = node; box = is_box; channel = channel; below = below; starts = eqb-true (start_of run channel).node k two.0; station = due.0; due = due.1 }

  pub is_box : IsBoxOf run sender frame k → is_box_of run.places run.links sender frame k ≡ true
  is_box b =
      both (is_redbox (place_of run k)) (list_any (leads_below run.places sender frame k) run.links) b.box
      (link_some (leads_below run.places sender frame k) run.links b.channel.link b.below (by_dir b.channel.link b.channel.dir (both ((start_of run b.channel).node == k) (is_due_below run.places sender frame (stop_of run b.channel).node) (eq-eqb (start_of run b.channel).node k b.starts)
      (both (is_to_station frame (place_of run (stop_of run b.channel).node)) (Rattle.hsr_deliveries.specs.Delivered.is_due run sender frame.dst frame.kind (stop_of run b.channel).node) b.station b.due))))
    where
      by_dir : (l : ℕ) (dir : Dir) → (((from_end dir (ends_of run l)).node == k) && is_due_below run.places sender frame (to_end dir (ends_of run l)).node) ≡ true → leads_below run.places sender frame k (ends_of run l) ≡ true
      by_dir l Forth leads = or_left (((from_end Forth (ends_of run l)).node == k) && is_due_below run.places sender frame (to_end Forth (ends_of run l)).node) (((to_end Forth (ends_of run l)).node == k) && is_due_below run.places sender frame (from_end Forth (ends_of run l)).node) leads
      by_dir l Back leads = or_right (((from_end Forth (ends_of run l)).node == k) && is_due_below run.places sender frame (to_end Forth (ends_of run l)).node) (((to_end Forth (ends_of run l)).node == k) && is_due_below run.places sender frame (from_end Forth (ends_of run l)).node) leads

-- ---- unknown

-- an entry that is a send is one
module _ (run : Run) (send : Probe) where
  sending_as : (p : Place) (x : Entry) → send.node < length run.places → send.place < length (record_of run send.node) → slice_get run.places send.node ≡ Some p → slice_get (record_of run send.node) send.place ≡ Some x →
      sending_at run send ≡ send_at (place_of run send.node) send.place (past_of run send.node)
  sending_as p x node below ps xs =
      ap (λ (o : Option Place). sent_in run o send) ps
      ∙ (ap (sent_of p) xs ∙ sym (sent_is run send.node send.place p x node below (sym (get_or_from_slice_get run.places send.node p p ps)) (sym (get_or_from_slice_get (record_of run send.node) send.place x x xs))))

  pub is_sending : (sending : Sending) → IsSend run send sending → sending_at run send ≡ Some sending
  is_sending sending is =
      let below = in_record run send sending is in
      sending_as (place_of run send.node) (slice_index_or (record_of run send.node) send.place no_entry) is.0 below (slice_get-get_or run.places send.node QuadBox is.0) (slice_get-get_or (record_of run send.node) send.place no_entry below) ∙ is.1

  pub sending_is : (sending : Sending) → sending_at run send ≡ Some sending → IsSend run send sending
  sending_is sending is = by_place (slice_get run.places send.node) refl
    where
      by_entry : (p : Place) → slice_get run.places send.node ≡ Some p → send.node < length run.places → (o : Option Entry) → slice_get (record_of run send.node) send.place ≡ o → IsSend run send sending
      by_entry p ps node None none = absurd (none-some sending (sym (ap (λ (o : Option Place). sent_in run o send) ps ∙ ap (sent_of p) none) ∙ is))
      by_entry p ps node (Some x) xs = (node, sym (sending_as p x node (get_below (record_of run send.node) send.place x xs) ps xs) ∙ is)

      by_place : (o : Option Place) → slice_get run.places send.node ≡ o → IsSend run send sending
      by_place None none = absurd (none-some sending (sym (ap (λ (o : Option Place). sent_in run o send) none) ∙ is))
      by_place (Some p) ps = by_entry p ps (get_below run.places send.node p ps) (slice_get (record_of run send.node) send.place) refl

same_send : (run : Run) (send : Probe) (s t : Sending) → IsSend run send s → IsSend run send t → s ≡ t
same_send run send s t one other = same_some s t (sym one.1 ∙ other.1)
  where
    same_some : (s t : Sending) → Some s ≡ Some t → s ≡ t
    same_some s t e = cc

module _ (run : Run) (k : ℕ) (known : List ℕ → Bool) (send : Probe) (sending : Sending) (is : IsSend run send sending) (node : k < length run.places) where
  pub unknown_is : not (known sending.frame.dst) ≡ true → is_box_of run.places run.links send.node sending.frame k ≡ true → IsUnknown run k known send
  unknown_is other box = record { sending = sending; is_send = is; box = box_is run send.node sending.frame k node box; unknown = not-true (known sending.frame.dst) other }

  pub is_unknown : IsUnknown run k known send → (not (known sending.frame.dst) && is_box_of run.places run.links send.node sending.frame k) ≡ true
  is_unknown u =
      let same = same_send run send u.sending sending u.is_send is in
      let P : Sending → Type 0 = λ s. (not (known s.frame.dst) && is_box_of run.places run.links send.node s.frame k) ≡ true in
      subst P same (both (not (known u.sending.frame.dst)) (is_box_of run.places run.links send.node u.sending.frame k) (ap not u.unknown) (is_box run send.node u.sending.frame k u.box))

  pub unknown_same : (b : Bool) → b ≡ (not (known sending.frame.dst) && is_box_of run.places run.links send.node sending.frame k) → (b ≡ true) ↔ IsUnknown run k known send
  unknown_same b at = (
    λ yes. let parts = and_parts (not (known sending.frame.dst)) (is_box_of run.places run.links send.node sending.frame k) (sym at ∙ yes) in unknown_is parts.0 parts.1,
    λ u. at ∙ is_unknown u,
  )

-- by what a test of the destination said
pub unknown_some : (run : Run) (k : ℕ) (known : List ℕ → Bool) (send : Probe) (sending : Sending) → k < length run.places → sending_at run send ≡ Some sending → (heard : Bool) → heard ≡ known sending.frame.dst →
    (b : Bool) → b ≡ (not heard && is_box_of run.places run.links send.node sending.frame k) → (b ≡ true) ↔ IsUnknown run k known send
unknown_some run k known send sending node at heard told b is =
    unknown_same run k known send sending (sending_is run send sending at) node b
    (is ∙ ap (λ x. not x && is_box_of run.places run.links send.node sending.frame k) told)

pub unknown_none : (run : Run) (k : ℕ) (known : List ℕ → Bool) (send : Probe) → sending_at run send ≡ None → (false ≡ true) ↔ IsUnknown run k known send
unknown_none run k known send none = (λ e. absurd (false≢true e), λ u. absurd (none-some u.sending (sym none ∙ is_sending run send u.sending u.is_send)))

-- ---- the order of sends

abbrev IsHigh : Probe → Probe → Type 0
IsHigh p q = (q.node < p.node) ⊎ ((p.node ≡ q.node) × (q.place ≤ p.place))

high_parts : (p q : Probe) → is_lower p q ≡ false → IsHigh p q
high_parts p q is =
    let parts = or_parts (nat_lt p.node q.node) ((p.node == q.node) && nat_lt p.place q.place) is in
    ⊎_elim (λ low. absurd (false≢true (sym parts.0 ∙ lt-ltb p.node q.node low)))
    (λ high. ⊎_elim (λ higher. inl higher)
    (λ low.
    let same : p.node ≡ q.node = omega (arith, high, low) in
    ⊎_elim (λ below. absurd (false≢true (sym parts.1 ∙ both (p.node == q.node) (nat_lt p.place q.place) (eq-eqb p.node q.node same) (lt-ltb p.place q.place below)))) (λ above. inr (same, above)) (cases_lt p.place q.place))
    (cases_lt q.node p.node))
    (cases_lt p.node q.node)

low_parts : (p q : Probe) → is_lower p q ≡ true → (p.node < q.node) ⊎ ((p.node ≡ q.node) × (p.place < q.place))
low_parts p q is =
    ⊎_elim (λ low. inl (ltb-true p.node q.node low))
    (λ rest. let parts = and_parts (p.node == q.node) (nat_lt p.place q.place) rest in inr (eqb-true p.node q.node parts.0, ltb-true p.place q.place parts.1))
    (or_cases (nat_lt p.node q.node) ((p.node == q.node) && nat_lt p.place q.place) is)

high_is : (p q : Probe) → IsHigh p q → is_lower p q ≡ false
high_is p q high = ⊎_elim (λ yes. absurd (clash (low_parts p q yes) high)) (λ no. no) (cases_Bool (is_lower p q))
  where
    clash : (p.node < q.node) ⊎ ((p.node ≡ q.node) × (p.place < q.place)) → IsHigh p q → ⊥
    clash (inl a) (inl b) = omega (arith, a, b)
    clash (inl a) (inr b) = let n = b.0 in omega (arith, a, n)
    clash (inr a) (inl b) = let n = a.0 in omega (arith, n, b)
    clash (inr a) (inr b) = let m = a.1 in let n = b.1 in omega (arith, m, n)

lower_self : (p : Probe) → is_lower p p ≡ false
lower_self p = high_is p p (inr (refl, omega arith))

-- what is lower is not higher
not_both : (p q : Probe) → is_lower q p ≡ true → is_lower p q ≡ false
not_both p q low = high_is p q (turn (low_parts q p low))
  where
    turn : (q.node < p.node) ⊎ ((q.node ≡ p.node) × (q.place < p.place)) → IsHigh p q
    turn (inl a) = inl a
    turn (inr a) = let m = a.1 in inr (sym a.0, omega (arith, m))

not_lower : (o p q : Probe) → is_lower o p ≡ false → is_lower p q ≡ false → is_lower o q ≡ false
not_lower o p q one two = high_is o q (through (high_parts o p one) (high_parts p q two))
  where
    through : IsHigh o p → IsHigh p q → IsHigh o q
    through (inl a) (inl b) = inl (omega (arith, a, b))
    through (inl a) (inr b) = let n = b.0 in inl (omega (arith, a, n))
    through (inr a) (inl b) = let n = a.0 in inl (omega (arith, n, b))
    through (inr a) (inr b) = let m = a.1 in let n = b.1 in inr (a.0 ∙ b.0, omega (arith, m, n))

-- ---- what is handled

module _ (run : Run) (k : ℕ) (known : List ℕ → Bool) where
  same_probe : (p q : Probe) → is_of q (Some p) ≡ true → p ≡ q
  same_probe p q is =
      let parts = and_parts (p.node == q.node) (p.place == q.place) is in
      equal (eqb-true p.node q.node parts.0) (eqb-true p.place q.place parts.1)
    where
      equal : p.node ≡ q.node → p.place ≡ q.place → p ≡ q
      equal node place = λ i. record { node = node i; place = place i }

  of_itself : (p : Probe) → is_of p (Some p) ≡ true
  of_itself p = both (p.node == p.node) (p.place == p.place) (eq-eqb p.node p.node refl) (eq-eqb p.place p.place refl)

  pub none_handled : IsLowest (IsUnknownOf run k known None) None
  none_handled q u = false≢true u.0

  pub not_unknown : (p : Probe) → (IsUnknown run k known p → ⊥) → IsLowest (IsUnknownOf run k known (Some p)) None
  not_unknown p never q u = let Q : Probe → Type 0 = IsUnknown run k known in never (subst Q (sym (same_probe p q u.0)) u.1)

  pub one_unknown : (p : Probe) → IsUnknown run k known p → IsLowest (IsUnknownOf run k known (Some p)) (Some p)
  one_unknown p is = record {
    is = (of_itself p, is);
    lowest = λ q u. let L : Probe → Type 0 = λ o. is_lower o p ≡ false in subst L (same_probe p q u.0) (lower_self p);
  }

-- ---- the lower of two

pub lower_is : (P Q : Probe → Type 0) (a b : Option Probe) → IsLowest P a → IsLowest Q b → IsLowest (λ s. P s ⊎ Q s) (lower_of a b)
lower_is P Q None None na nb = λ s. λ some. ⊎_elim (na s) (nb s) some
lower_is P Q None (Some q) na lb = record { is = inr lb.is; lowest = λ o some. ⊎_elim (λ p. absurd (na o p)) (λ r. lb.lowest o r) some }
lower_is P Q (Some p) None la nb = record { is = inl la.is; lowest = λ o some. ⊎_elim (λ r. la.lowest o r) (λ s. absurd (nb o s)) some }
lower_is P Q (Some p) (Some q) la lb = by_test (is_lower q p) refl
  where
    by_test : (t : Bool) → is_lower q p ≡ t → IsLowest (λ s. P s ⊎ Q s) (if t then Some q else Some p)
    by_test true low = record { is = inr lb.is; lowest = λ o some. ⊎_elim (λ r. not_lower o p q (la.lowest o r) (not_both p q low)) (λ s. lb.lowest o s) some }
    by_test false high = record { is = inl la.is; lowest = λ o some. ⊎_elim (λ r. la.lowest o r) (λ s. not_lower o q p (lb.lowest o s) high) some }

pub lowest_as : (P Q : Probe → Type 0) (o : Option Probe) → ((s : Probe) → P s → Q s) → ((s : Probe) → Q s → P s) → IsLowest P o → IsLowest Q o
lowest_as P Q None there back none = λ s q. none s (back s q)
lowest_as P Q (Some p) there back l = record { is = there p l.is; lowest = λ o q. l.lowest o (back o q) }

-- ---- entry by entry

module _ (run : Run) (k : ℕ) (i : ℕ) (x : Entry) (below : i < length (record_of run k)) (x_is : x ≡ slice_index_or (record_of run k) i x) where
  abbrev past : List Entry
  past = reverse (take i (record_of run k))

  more_is : reverse (take (i + 1) (record_of run k)) ≡ x ∷ past
  more_is = past_more (record_of run k) i x below ∙ ap (λ y. y ∷ past) (sym x_is)

  pub moment_more : (moment at : ℕ) → at ≡ max moment x.at → moment ≡ now past → at ≡ now (reverse (take (i + 1) (record_of run k)))
  moment_more moment at is before = is ∙ (ap (λ n. max n x.at) before ∙ sym (ap now more_is))

  pub stations_more : (stations later : Proxies) (at : ℕ) → at ≡ now (reverse (take (i + 1) (record_of run k))) → later ≡ heard_in (place_of run k) at x.event stations → stations ≡ stations_of (place_of run k) past → later ≡ stations_of (place_of run k) (reverse (take (i + 1) (record_of run k)))
  stations_more stations later at moment is before =
      is
      ∙ (ap (λ n. heard_in (place_of run k) n x.event stations) (moment ∙ ap now more_is)
      ∙ (ap (heard_in (place_of run k) (now (x ∷ past)) x.event) before
      ∙ sym (ap (stations_of (place_of run k)) more_is)))

  -- what the entry's send is unknown by is what it misses
  missed_here : (s : Probe) → IsUnknownOf run k (knows (place_of run k) past (now (x ∷ past)) x.event) (probe_handled (record { node = k; place = i }) x.event) s → IsMissed run k x past s
  missed_here s u =
      let q = probe_handled (record { node = k; place = i }) x.event in
      let long = past_length (record_of run k) i (omega (arith, below)) in
      let H : ℕ → Type 0 = λ n. is_of s (probe_handled (record { node = k; place = n }) x.event) ≡ true in
      let mine = subst H (sym long) u.0 in
      record {
        sending = u.1.sending;
        is_send = u.1.is_send;
        box = u.1.box;
        not_found = neither (is_of s (probe_handled (record { node = k; place = length past }) x.event)) (knows (place_of run k) past (now (x ∷ past)) x.event u.1.sending.frame.dst) mine u.1.unknown;
      }
    where
      neither : (a b : Bool) → a ≡ true → b ≡ false → (not a || b) ≡ false
      neither a b one two = ap (λ c. not c || b) one ∙ two

  here_missed : (s : Probe) → IsMissed run k x past s → IsUnknownOf run k (knows (place_of run k) past (now (x ∷ past)) x.event) (probe_handled (record { node = k; place = i }) x.event) s
  here_missed s m =
      let long = past_length (record_of run k) i (omega (arith, below)) in
      let parts = or_parts (not (is_of s (probe_handled (record { node = k; place = length past }) x.event))) (knows (place_of run k) past (now (x ∷ past)) x.event m.sending.frame.dst) m.not_found in
      let H : ℕ → Type 0 = λ n. is_of s (probe_handled (record { node = k; place = n }) x.event) ≡ true in
      (subst H long (unnot (is_of s (probe_handled (record { node = k; place = length past }) x.event)) parts.0), record { sending = m.sending; is_send = m.is_send; box = m.box; unknown = parts.1 })

  pub missed_more : (stations : Proxies) (at : ℕ) (old here new : Option Probe) → at ≡ now (reverse (take (i + 1) (record_of run k))) → stations ≡ stations_of (place_of run k) (reverse (take (i + 1) (record_of run k))) →
      IsLowest (MissedOn run k past) old → IsLowest (IsUnknownOf run k (is_known at stations.heard) (probe_handled (record { node = k; place = i }) x.event)) here → new ≡ lower_of old here → IsLowest (MissedOn run k (reverse (take (i + 1) (record_of run k)))) new
  missed_more stations at old here new moment heard before found is =
      let K : (List ℕ → Bool) → Type 0 = λ known. IsLowest (IsUnknownOf run k known (probe_handled (record { node = k; place = i }) x.event)) here in
      let known : is_known at stations.heard ≡ knows (place_of run k) past (now (x ∷ past)) x.event =
      ap (λ n. is_known n stations.heard) (moment ∙ ap now more_is) ∙ (ap (λ (p : Proxies). is_known (now (x ∷ past)) p.heard) (heard ∙ ap (stations_of (place_of run k)) more_is) ∙ known_same (place_of run k) x past) in
      let mine = lowest_as (IsUnknownOf run k (knows (place_of run k) past (now (x ∷ past)) x.event) (probe_handled (record { node = k; place = i }) x.event)) (IsMissed run k x past) here missed_here here_missed (subst K known found) in
      let all = lower_is (MissedOn run k past) (IsMissed run k x past) old here before mine in
      let P : List Entry → Type 0 = λ h. IsLowest (MissedOn run k h) new in
      subst P (sym more_is) (subst (IsLowest (MissedOn run k (x ∷ past))) (sym is) all)

-- a RedBox heard nothing after its moment
pub heard_up_to : (run : Run) (k : ℕ) (past : List Entry) (stations : Proxies) (moment : ℕ) → stations ≡ stations_of (place_of run k) past → moment ≡ now past → stations.last ≤ moment
heard_up_to run k past stations moment heard is =
    let last = stations_last (place_of run k) past in
    let same : stations.last ≡ (stations_of (place_of run k) past).last = ap (λ (p : Proxies). p.last) heard in
    omega (arith, same, last, is)

-- the moment of the last entry of a past, and what a node heard up to it
pub record IsHeard (run : Run) (k : ℕ) (past : List Entry) (stations : Proxies) (moment : ℕ) : Type 0 where
  pub moment_is : moment ≡ now past
  pub stations_is : stations ≡ stations_of (place_of run k) past

-- one more entry
pub heard_more : (run : Run) (k i : ℕ) (x : Entry) (p : Place) (stations later : Proxies) (moment at : ℕ) → k < length run.places → i < length (record_of run k) →
    x ≡ slice_index_or (record_of run k) i x → p ≡ slice_index_or run.places k p → at ≡ max moment x.at → later ≡ heard_in p at x.event stations →
    moment ≡ now (reverse (take i (record_of run k))) → stations ≡ stations_of (place_of run k) (reverse (take i (record_of run k))) →
    IsHeard run k (reverse (take (i + 1) (record_of run k))) later at
heard_more run k i x p stations later moment at node below x_is p_is at_is later_is moment_is stations_is =
    let here = place_at run.places k p node p_is in
    let next = moment_more run k i x below x_is moment at at_is moment_is in
    record {
      moment_is = next;
      stations_is = stations_more run k i x below x_is stations later at next (later_is ∙ ap (λ (q : Place). heard_in q at x.event stations) here) stations_is;
    }

-- a node that is no RedBox misses nothing
pub none_missed : (run : Run) (k : ℕ) → is_redbox (place_of run k) ≡ false → (past : List Entry) → IsLowest (MissedOn run k past) None
none_missed run k other [] send m = m
none_missed run k other (x ∷ past) send m = ⊎_elim (λ before. none_missed run k other past send before) (λ here. false≢true (sym other ∙ here.box.box)) m

-- ---- node by node

pub nodes_missed : (run : Run) (n : ℕ) (old here new : Option Probe) → IsLowest (MissedBelow run n) old → IsLowest (MissedOn run n (past_of run n)) here → new ≡ lower_of old here → IsLowest (MissedBelow run (n + 1)) new
nodes_missed run n old here new before found is =
    let next : suc n ≡ n + 1 = omega arith in
    let P : ℕ → Type 0 = λ m. IsLowest (MissedBelow run m) new in
    subst P next (subst (IsLowest (MissedBelow run (suc n))) (sym is) (lower_is (MissedBelow run n) (MissedOn run n (past_of run n)) old here before found))

pub nodes_same : (run : Run) (n : ℕ) (old : Option Probe) → is_redbox (place_of run n) ≡ false → IsLowest (MissedBelow run n) old → IsLowest (MissedBelow run (n + 1)) old
nodes_same run n old other before = nodes_missed run n old None old before (none_missed run n other (past_of run n)) (same old)
  where
    same : (o : Option Probe) → o ≡ lower_of o None
    same None = refl
    same (Some p) = refl

-- ---- what is missed isn't known

module _ (run : Run) (send : Probe) (sending : Sending) (is : IsSend run send sending) where
  -- what isn't missed is found
  found_each : (k : ℕ) → IsBoxOf run send.node sending.frame k → (past : List Entry) → (MissedOn run k past send → ⊥) → Each (λ x before. finds (owner_of run k) send sending.frame.dst x before ≡ true) past
  found_each k box [] never = tt
  found_each k box (x ∷ past) never = (
    ⊎_elim (λ yes. yes) (λ no. absurd (never (inr (record { sending = sending; is_send = is; box = box; not_found = no })))) (cases_Bool (finds (owner_of run k) send sending.frame.dst x past)),
    found_each k box past (λ m. never (inl m)),
  )

  missed_not : (k : ℕ) (past : List Entry) → ((s : Sending) → IsSend run send s → IsBoxOf run send.node s.frame k → Each (λ x before. finds (owner_of run k) send s.frame.dst x before ≡ true) past) → MissedOn run k past send → ⊥
  missed_not k [] all m = m
  missed_not k (x ∷ past) all m = ⊎_elim (λ before. missed_not k past (λ s sent box. (all s sent box).1) before) (λ here. false≢true (sym here.not_found ∙ (all here.sending here.is_send here.box).0)) m

  on_below : (n k : ℕ) → k < n → MissedOn run k (past_of run k) send → MissedBelow run n send
  on_below zero k low m = absurd (omega (arith, low))
  on_below (suc n) k low m =
      ⊎_elim (λ lower. inl (on_below n k lower m))
      (λ high. let same : k ≡ n = omega (arith, low, high) in let P : ℕ → Type 0 = λ j. MissedOn run j (past_of run j) send in inr (subst P same m))
      (cases_lt k n)

  pub known_so : (MissedBelow run (length run.places) send → ⊥) → IsKnown run send sending
  known_so never k box = found_each k box (past_of run k) (λ m. never (on_below (length run.places) k box.node m))

  pub missed_unknown : (n : ℕ) → MissedBelow run n send → IsKnown run send sending → ⊥
  missed_unknown zero m known = m
  missed_unknown (suc n) m known =
      ⊎_elim (λ lower. missed_unknown n lower known)
      (λ here. missed_not n (past_of run n) (λ s sent box. let P : Sending → Type 0 = λ t. IsKnown run send t in subst P (same_send run send sending s is sent) known n box) here)
      m

-- what is missed is a send
record SendOf (run : Run) (send : Probe) : Type 0 where
  sending : Sending
  is_send : IsSend run send sending

missed_send : (run : Run) (n : ℕ) (send : Probe) → MissedBelow run n send → SendOf run send
missed_send run zero send m = absurd m
missed_send run (suc n) send m = ⊎_elim (λ lower. missed_send run n send lower) (λ here. on_past (past_of run n) here) m
  where
    on_past : (past : List Entry) → MissedOn run n past send → SendOf run send
    on_past [] m = absurd m
    on_past (x ∷ past) m = ⊎_elim (λ before. on_past past before) (λ here. record { sending = here.sending; is_send = here.is_send }) m

pub first_is : (run : Run) (n : ℕ) (o : Option Probe) → n ≡ length run.places → IsLowest (MissedBelow run n) o → IsFirstMissed run o
first_is run n None all none = λ send sending is. let P : ℕ → Type 0 = λ m. MissedBelow run m send → ⊥ in known_so run send sending is (subst P all (none send))
first_is run n (Some p) all l =
    let P : ℕ → Type 0 = λ m. IsLowest (MissedBelow run m) (Some p) in
    let first : IsLowestOf (MissedBelow run (length run.places)) p = subst P all l in
    let sent = missed_send run (length run.places) p first.is in
    record {
      node = sent.is_send.0;
      place = in_record run p sent.sending sent.is_send;
      fails = λ known. missed_unknown run p sent.sending sent.is_send (length run.places) first.is (known sent.sending sent.is_send);
      before = λ j low. earlier (probe_at p.node j) first (or_right (nat_lt p.node p.node) ((p.node == p.node) && nat_lt j p.place) (both (p.node == p.node) (nat_lt j p.place) (eq-eqb p.node p.node refl) (lt-ltb j p.place low)));
      nodes = λ l j low inside. earlier (probe_at l j) first (or_left (nat_lt l p.node) ((l == p.node) && nat_lt j p.place) (lt-ltb l p.node low));
    }
  where
    earlier : (q : Probe) → IsLowestOf (MissedBelow run (length run.places)) p → is_lower q p ≡ true → (sending : Sending) → IsSend run q sending → IsKnown run q sending
    earlier q first low sending is = known_so run q sending is (λ m. false≢true (sym (first.lowest q m) ∙ low))
