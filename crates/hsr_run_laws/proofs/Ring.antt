-- A closed run of a ring of DANHs: its nodes, its links, and that all that comes is tagged and of a send.
use Rattle.std.proofs.Common.{◌≡◌, ◌⊎◌, ℕ, ◌+◌, ◌-◌, ◌%◌, ◌<◌, ◌≤◌, Bool, true, false, List, [], ◌∷◌, length, Option, Some, Ok, Err, refl, sym, ap, ◌∙◌, subst, arith, inl, inr, ⊎_elim, mod-lt}
use Rattle.std.specs.List.{list_any, AllByRecursion, cons_option}
use Rattle.hsr_frame.specs.Grammar.{Fields}
use Rattle.hsr_frame.specs.declared.node.Mode.{Mode}
use Rattle.hsr_tag.specs.Seen.{classified}
use Rattle.hsr_tag.specs.Tag.{tag_of, tagged_spelling}
use Rattle.hsr_tag.specs.declared.seen.Seen.TheVariants.{Plain, Tagged}
use Rattle.hsr_node.specs.Copies.{plain_in}
use Rattle.hsr_node.specs.Flow.{arrivals, copy_at, passes, send_at}
use Rattle.hsr_node.specs.Record.{Each, Owner, answer, now}
use Rattle.hsr_node.specs.declared.entry.Entry.{Entry}
use Rattle.hsr_node.specs.declared.event.Carried.{Carried}
use Rattle.hsr_node.specs.declared.event.Event.{Event}
use Rattle.hsr_node.specs.declared.event.Event.TheVariants.{Send, Supervise, Arrive, Age}
use Rattle.hsr_node.specs.declared.place.Place.{Place}
use Rattle.hsr_node.specs.declared.place.Place.TheVariants.{Danh}
use Rattle.hsr_link.specs.declared.row.Dir.{Dir}
use Rattle.hsr_link.specs.declared.row.Dir.TheVariants.{Forth, Back}
use Rattle.hsr_run_laws.specs.Closed.{IsClosed, IsOfSend, IsSend}
use Rattle.hsr_run_laws.specs.Once.{is_copy}
use Rattle.hsr_run_laws.specs.Premises.{IsRing, any_lost, mac_at}
use Rattle.hsr_run_laws.specs.Run.{Run, ends_of, from_end, is_of, owner_of, past_of, place_of, rows_of, to_end}
use Rattle.hsr_topology.specs.declared.end.End.{End}
use Rattle.hsr_run_laws.proofs.Around.{around, around_below, around_end, around_next}
use Rattle.hsr_run_laws.proofs.Danh.{Forwards, IsTagged, RingExit, by_a, by_b, danh, danh_port, exit_port, mode_at, mode_of}
use Rattle.hsr_run_laws.proofs.Keys.{plain_of_send}
use Rattle.hsr_run_laws.proofs.LinkLaws.{arrives_between, hop_between}
use Rattle.hsr_run_laws.proofs.Lists.{all_weaker}
use Rattle.hsr_run_laws.proofs.Records.{Answered, OfArrival, all_at_place, legal_each}
use Rattle.hsr_run_laws.proofs.Same.{is_of_itself}
use Rattle.hsr_run_laws.proofs.Sends.{IsOwnCopy, LeavesAs, all_leave_as}
use Rattle.hsr_run_laws.proofs.Views.{Came, came}
use Rattle.hsr_run_laws.proofs.Written.{never_plain}

-- tagged, and of a send
abbrev pub IsGood : Run → Carried → Type 0
IsGood run copy = IsTagged copy × IsOfSend run copy

-- what is the frame of a send, and isn't read plain, is tagged
pub tagged_or_plain : (run : Run) (copy : Carried) → IsOfSend run copy → ((f : Fields) → came copy ≡ Ok (Plain f) → ⊥) → IsTagged copy
tagged_or_plain run copy o never = by_came (came copy) refl o.frame
  where
    by_came : (seen : Came) → came copy ≡ seen → plain_in seen ≡ Some o.sending.frame → IsTagged copy
    by_came (Ok (Tagged t)) is e = (t, is)
    by_came (Ok (Plain f)) is e = absurd (never f is)
    by_came (Err fault) is e = absurd cc

module _ (run : Run) (macs : List (List ℕ)) (closed : IsClosed run) (ring : IsRing run macs) where
  pub places : length run.places ≡ length macs
  places = ring.places

  pub place_is : (k : ℕ) → k < length macs → place_of run k ≡ Danh (mac_at macs k) (mode_at run k)
  place_is k below =
      ⊎_elim (λ h. h ∙ ap (λ mode. Danh (mac_at macs k) mode) (sym (ap mode_of h))) (λ u. u ∙ ap (λ mode. Danh (mac_at macs k) mode) (sym (ap mode_of u))) (ring.nodes k below)

  pub forwards : (k : ℕ) → k < length macs → Forwards (mode_at run k)
  forwards k below = ⊎_elim (λ h. inl (ap mode_of h)) (λ u. inr (ap mode_of u)) (ring.nodes k below)

  pub owner_is : (k : ℕ) → k < length macs → owner_of run k ≡ danh k (mac_at macs k) (mode_at run k)
  owner_is k below = ap (λ (p : Place). record { number = k; place = p }) (place_is k below)

  pub legal : (k : ℕ) → k < length macs → Each (Answered run.capacity (danh k (mac_at macs k) (mode_at run k))) (past_of run k)
  legal k below =
      let P : Owner → Type 0 = λ owner. Each (Answered run.capacity owner) (past_of run k) in
      subst P (owner_is k below) (legal_each run.capacity (owner_of run k) (past_of run k) (closed.legal k (omega (arith, places))))

  pub link_below : (k : ℕ) → k < length macs → k < length run.links
  link_below k below = omega (arith, ring.count)

  pub next_below : (k : ℕ) → (k + 1) % length macs < length macs
  next_below k = let two : 2 ≤ length macs = ring.two in let some : 0 < length macs = omega arith in mod-lt (k + 1) some

  left_as : (k : ℕ) (r : RingExit) → k < length macs → AllByRecursion (LeavesAs run.capacity k (mac_at macs k) (mode_at run k) (past_of run k) r) (passes (owner_of run k) (exit_port r) (past_of run k))
  left_as k r below =
      let P : Owner → Type 0 = λ owner. AllByRecursion (LeavesAs run.capacity k (mac_at macs k) (mode_at run k) (past_of run k) r) (passes owner (exit_port r) (past_of run k)) in
      subst P (sym (owner_is k below))
      (all_leave_as run.capacity k (mac_at macs k) (mode_at run k) (past_of run k) r (past_of run k) (legal k below) (all_at_place (Danh (mac_at macs k) (mode_at run k)) (past_of run k)))

  -- what is of a send and left a node of the ring is tagged
  good_if_left : (k : ℕ) (r : RingExit) → k < length macs → (copy : Carried) → LeavesAs run.capacity k (mac_at macs k) (mode_at run k) (past_of run k) r copy × IsOfSend run copy → IsGood run copy
  good_if_left k r below copy both =
      ⊎_elim (λ tagged. (tagged, both.1)) (λ own. (tagged_or_plain run copy both.1 (λ f plain. own_plain own f plain), both.1)) both.0
    where
      own_plain : IsOwnCopy run.capacity k (mac_at macs k) (mode_at run k) (past_of run k) r copy → (f : Fields) → came copy ≡ Ok (Plain f) → ⊥
      own_plain own f plain =
          let count : length run.places ≡ length macs = ring.places in
          let place = ap (λ (o : Owner). o.place) (owner_is k below) in
          let S : Place → Type 0 = λ p. send_at p own.place (past_of run k) ≡ Some own.sending in
          let is : IsSend run (record { node = k; place = own.place }) own.sending = (omega arith, subst S (sym place) own.is) in
          let M : Option Rattle.hsr_node.specs.declared.event.Probe.Probe → Type 0 = λ p. is_of (record { node = k; place = own.place }) p ≡ true in
          let mine : is_copy (record { node = k; place = own.place }) copy ≡ true = subst M (sym own.probe) (is_of_itself (record { node = k; place = own.place })) in
          let same = plain_of_send run (record { node = k; place = own.place }) own.sending copy both.1 mine is f plain in
          let read : classified (tagged_spelling (tag_of own.sending.frame (exit_port r) own.seq)) ≡ Ok (Plain own.sending.frame) =
          ap classified (sym own.octets) ∙ (plain ∙ ap (λ (g : Fields). Ok (Plain g)) same) in
          never_plain own.sending.frame (exit_port r) own.seq read

  -- ---- the link from B of a node to A of the next, and back

  pub record IsWay (l : ℕ) (from to : End) : Type 0 where
    pub dir : Dir
    pub is_from : from_end dir (ends_of run l) ≡ from
    pub is_to : to_end dir (ends_of run l) ≡ to

  abbrev pub at_b : ℕ → End
  at_b k = record { node = k; port = 1 }

  abbrev pub at_a : ℕ → End
  at_a k = record { node = k; port = 0 }

  pub way_b : (k : ℕ) → k < length macs → IsWay k (at_b k) (at_a ((k + 1) % length macs))
  way_b k below =
      ⊎_elim (λ way. record { dir = Forth; is_from = way.0; is_to = way.1 }) (λ way. record { dir = Back; is_from = way.1; is_to = way.0 }) (ring.joined k below)

  pub way_a : (k : ℕ) → k < length macs → IsWay k (at_a ((k + 1) % length macs)) (at_b k)
  way_a k below =
      ⊎_elim (λ way. record { dir = Back; is_from = way.1; is_to = way.0 }) (λ way. record { dir = Forth; is_from = way.0; is_to = way.1 }) (ring.joined k below)

  pub hop_b : (k : ℕ) → k < length macs → any_lost (rows_of run k) ≡ false → (p : Carried → Bool) →
      list_any p (passes (owner_of run k) 1 (past_of run k)) ≡ true → list_any p (arrivals 0 (past_of run ((k + 1) % length macs))) ≡ true
  hop_b k below kept p some = let w = way_b k below in hop_between run closed k w.dir (at_b k) (at_a ((k + 1) % length macs)) (link_below k below) w.is_from w.is_to kept p some

  pub hop_a : (k : ℕ) → k < length macs → any_lost (rows_of run k) ≡ false → (p : Carried → Bool) →
      list_any p (passes (owner_of run ((k + 1) % length macs)) 0 (past_of run ((k + 1) % length macs))) ≡ true → list_any p (arrivals 1 (past_of run k)) ≡ true
  hop_a k below kept p some = let w = way_a k below in hop_between run closed k w.dir (at_a ((k + 1) % length macs)) (at_b k) (link_below k below) w.is_from w.is_to kept p some

  -- ---- all that comes is tagged and of a send

  good_at_b : (k : ℕ) → k < length macs → AllByRecursion (IsGood run) (arrivals 1 (past_of run k))
  good_at_b k below =
      let w = way_a k below in
      let n : ℕ = (k + 1) % length macs in
      let all = arrives_between run closed (LeavesAs run.capacity ((k + 1) % length macs) (mac_at macs ((k + 1) % length macs)) (mode_at run ((k + 1) % length macs)) (past_of run ((k + 1) % length macs)) by_a) k w.dir (at_a ((k + 1) % length macs)) (at_b k) (link_below k below) w.is_from w.is_to
      (left_as ((k + 1) % length macs) by_a (next_below k)) in
      all_weaker (λ copy. LeavesAs run.capacity ((k + 1) % length macs) (mac_at macs ((k + 1) % length macs)) (mode_at run ((k + 1) % length macs)) (past_of run ((k + 1) % length macs)) by_a copy × IsOfSend run copy) (IsGood run) (arrivals 1 (past_of run k))
      (good_if_left ((k + 1) % length macs) by_a (next_below k)) all

  good_after : (k : ℕ) → k < length macs → AllByRecursion (IsGood run) (arrivals 0 (past_of run ((k + 1) % length macs)))
  good_after k below =
      let w = way_b k below in
      let all = arrives_between run closed (LeavesAs run.capacity k (mac_at macs k) (mode_at run k) (past_of run k) by_b) k w.dir (at_b k) (at_a ((k + 1) % length macs)) (link_below k below) w.is_from w.is_to (left_as k by_b below) in
      all_weaker (λ copy. LeavesAs run.capacity k (mac_at macs k) (mode_at run k) (past_of run k) by_b copy × IsOfSend run copy) (IsGood run) (arrivals 0 (past_of run ((k + 1) % length macs)))
      (good_if_left k by_b below) all

  -- the place before is one step less than a whole round ahead
  good_at_a : (k : ℕ) → k < length macs → AllByRecursion (IsGood run) (arrivals 0 (past_of run k))
  good_at_a k below =
      let two : 2 ≤ length macs = ring.two in
      let here : (around (length macs) k (length macs - 1) + 1) % length macs ≡ k =
      around_next (length macs) k (length macs - 1) below (omega arith) ∙ (ap (around (length macs) k) (whole two) ∙ around_end (length macs) k) in
      let P : ℕ → Type 0 = λ j. AllByRecursion (IsGood run) (arrivals 0 (past_of run j)) in
      subst P here (good_after (around (length macs) k (length macs - 1)) (around_below (length macs) k (length macs - 1) below (omega arith)))
    where
      whole : 2 ≤ length macs → length macs - 1 + 1 ≡ length macs
      whole h = omega arith

  pub good_at : (k : ℕ) (r : RingExit) → k < length macs → AllByRecursion (IsGood run) (arrivals (exit_port r) (past_of run k))
  good_at k by_a below = good_at_a k below
  good_at k by_b below = good_at_b k below

-- each arrival of a DANH came by A or by B
pub each_arrival : (P : Carried → Type 0) (capacity number : ℕ) (mac : List ℕ) (mode : Mode) (h : List Entry) → Each (Answered capacity (danh number mac mode)) h →
    AllByRecursion P (arrivals 0 h) → AllByRecursion P (arrivals 1 h) → Each (λ x past. OfArrival P x.event) h
each_arrival P capacity number mac mode [] legal on_a on_b = tt
each_arrival P capacity number mac mode (x ∷ past) legal on_a on_b = step x.event x.outcome legal.0 on_a on_b (each_arrival P capacity number mac mode past legal.1)
  where
    Rest : Type 0
    Rest = AllByRecursion P (arrivals 0 past) → AllByRecursion P (arrivals 1 past) → Each (λ x past. OfArrival P x.event) past

    ports : (port : ℕ) (copy : Carried) → (port ≡ 0) ⊎ (port ≡ 1) → AllByRecursion P (cons_option (copy_at 0 (Arrive port copy)) (arrivals 0 past)) →
        AllByRecursion P (cons_option (copy_at 1 (Arrive port copy)) (arrivals 1 past)) → Rest → P copy × Each (λ x past. OfArrival P x.event) past
    ports port copy (inl e) on_a on_b rest =
        let A : ℕ → Type 0 = λ n. AllByRecursion P (cons_option (copy_at 0 (Arrive n copy)) (arrivals 0 past)) in
        let B : ℕ → Type 0 = λ n. AllByRecursion P (cons_option (copy_at 1 (Arrive n copy)) (arrivals 1 past)) in
        let first = subst A e on_a in (first.0, rest first.1 (subst B e on_b))
    ports port copy (inr e) on_a on_b rest =
        let A : ℕ → Type 0 = λ n. AllByRecursion P (cons_option (copy_at 0 (Arrive n copy)) (arrivals 0 past)) in
        let B : ℕ → Type 0 = λ n. AllByRecursion P (cons_option (copy_at 1 (Arrive n copy)) (arrivals 1 past)) in
        let first = subst B e on_b in (first.0, rest (subst A e on_a) first.1)

    step : (event : Event) (outcome : Rattle.hsr_node.specs.declared.event.Outcome.Outcome) → answer capacity (danh number mac mode) past (now (x ∷ past)) event ≡ Ok outcome →
        AllByRecursion P (cons_option (copy_at 0 event) (arrivals 0 past)) → AllByRecursion P (cons_option (copy_at 1 event) (arrivals 1 past)) → Rest →
        OfArrival P event × Each (λ x past. OfArrival P x.event) past
    step (Send from dst vlan ethertype payload) outcome ok on_a on_b rest = (tt, rest on_a on_b)
    step (Supervise about) outcome ok on_a on_b rest = (tt, rest on_a on_b)
    step Age outcome ok on_a on_b rest = (tt, rest on_a on_b)
    step (Arrive port copy) outcome ok on_a on_b rest = ports port copy (danh_port capacity number mac mode past (now (x ∷ past)) port copy outcome ok) on_a on_b rest
