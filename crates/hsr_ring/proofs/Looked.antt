-- What a step doesn't touch stays as it was, so a look at what it touches keeps the sets.
use Rattle.std.specs.Prelude.{is_some, if◌then◌else◌, not, option_to_list}
use Rattle.std.proofs.Common.{◌≡◌, ℕ, zero, suc, ◌/◌, ◌==◌, ◌≤◌, ◌++◌, nat_lt, Bool, true, false, max, List, [], ◌∷◌, map, set, get_or, length, Option, Some, None, option_map, Result, Ok, Err, refl, ap, ap₂, sym, subst, ◌∙◌, arith, eqb-true, eq-eqb}
use Rattle.std.proofs.lemmas.Bool.{false≢true}
use Rattle.std.proofs.lemmas.List.{length-map}
use Rattle.hsr_topology.specs.Links.{is_same_end}
use Rattle.hsr_topology.specs.declared.end.End.{End}
use Rattle.hsr_topology.proofs.Ends.{end_same}
use Rattle.hsr_link.specs.Link.{Link, inject_step, new_link, take_step}
use Rattle.hsr_link.specs.Rows.{first_copy}
use Rattle.hsr_link.specs.declared.row.Dir.{Dir}
use Rattle.hsr_link.specs.declared.row.Dir.TheVariants.{Forth, Back}
use Rattle.hsr_node.specs.Record.{Owner, answer, now}
use Rattle.hsr_node.specs.declared.entry.Entry.{Entry}
use Rattle.hsr_node.specs.declared.event.Carried.{Carried}
use Rattle.hsr_node.specs.declared.event.Event.{Event}
use Rattle.hsr_node.specs.declared.event.Event.TheVariants as event
use Rattle.hsr_node.specs.declared.event.Outcome.{Outcome}
use Rattle.hsr_node.specs.declared.event.StepFault.{StepFault}
use Rattle.hsr_node.specs.declared.place.Place.{Place}
use Rattle.hsr_world_laws.specs.Fit.{FitsStep}
use Rattle.hsr_world_laws.specs.Spans.{Lane, Span, Spot, emptied, gift, held_in, lane_of, lanes_of, on_lanes, spot_from, spread, with_lane, with_link}
use Rattle.hsr_node.specs.Flow.{pass_of}
use Rattle.hsr_world_laws.specs.World.{World, and_added, cleared, entered, has_link, has_node, has_port, is_empty, judged_at, new_span, new_world, no_lane, or_same, owner_at, planned, put_at, put_from, record_at, span_at, span_in, take_to, taken_by, tried, waits_in, with_span}
use Rattle.hsr_topology.specs.Workers.{port_worker}
use Rattle.hsr_bitset.specs.Numbers.{has}
use Rattle.hsr_ring.specs.Pending.{AreLooked, AreOfSenders, ArePending, IsKept, hand_of, is_at, is_by, link_at, step_of, touches_box, touches_hand, touches_link}
use Rattle.hsr_world_links.specs.Ports.{AreTold, dir_at, end_at, held_at, is_held, is_ready, is_waiting, port_in, ports_in, port_fault}
use Rattle.hsr_world_links.specs.Views.{spot_view}
use Rattle.hsr_ring.specs.declared.pending.Move.{Move}
use Rattle.hsr_ring.specs.declared.pending.Move.TheVariants as move
use Rattle.hsr_ring.specs.declared.pending.Pending.{Pending}
use Rattle.hsr_ring.proofs.Next.{few_send}
use Rattle.hsr_world_links.specs.declared.port.Port.{Port}
use Rattle.hsr_world_steps.specs.declared.step.Step.{Step}
use Rattle.hsr_world_steps.specs.declared.step.Step.TheVariants.{Clock, Send, Supervise, Age, Put, Take, Judge, Cut, Mend, Inject}
use Rattle.hsr_world_steps.specs.declared.step.WorldFault.{WorldFault}
use Rattle.hsr_world_steps.specs.declared.step.WorldFault.TheVariants.{NoSuchLink, NoSuchNode, NoSuchPort, TooLong}
use Rattle.hsr_duptable.specs.Table.{IsTableSize}
use Rattle.hsr_run_laws.specs.Run.{no_end}
use Rattle.hsr_world_laws.specs.Reached.{IsReached}
use Rattle.hsr_world_laws.proofs.Reached.{reached-step}
use Rattle.hsr_world_links.specs.Touching.{AreTouching}
use Rattle.hsr_ring.proofs.Ends.{still_touching, AreSame, keeps_ends, told_same}
use Rattle.hsr_world_links.proofs.Ports.{Ends, ends_at, is_there, out_there, port_of_number, spot_from_leads, spot_to_leads}

-- ---- one span, before and after a step, as the ports and the direction of a number see it where the step doesn't touch them

record IsAlike (k : ℕ) (of_hand of_box of_link : Bool) (j : ℕ) (a b : Span) : Type 0 where
  hand : of_hand ≡ false → (dir : Dir) → (lane_of dir b).to ≡ end_at k → is_some (lane_of dir a).hand ≡ is_some (lane_of dir b).hand
  box : of_box ≡ false → (dir : Dir) → (lane_of dir b).from ≡ end_at k → is_empty (lane_of dir a).outbox ≡ is_empty (lane_of dir b).outbox
  rows : of_link ≡ false → j ≡ k / 2 → a.link.rows ≡ b.link.rows

alike : (k : ℕ) (h x l : Bool) (j : ℕ) (s : Span) → IsAlike k h x l j s s
alike k h x l j s = record { hand = λ _ dir e. refl; box = λ _ dir e. refl; rows = λ _ e. refl }

-- one span is changed, or all are
set_at : (P : ℕ → Span → Span → Type 0) → ((j : ℕ) (s : Span) → P j s s) → (l : ℕ) (span : Span) (spans : List Span) → P l span (span_in spans l) → (j : ℕ) → P j (span_in (set spans l span) j) (span_in spans j)
set_at P same l span [] h j = same j (record { link = new_link 0; forth = no_lane; back = no_lane })
set_at P same zero span (x ∷ xs) h zero = h
set_at P same zero span (x ∷ xs) h (suc j) = same (suc j) (span_in xs j)
set_at P same (suc l) span (x ∷ xs) h zero = same 0 x
set_at P same (suc l) span (x ∷ xs) h (suc j) = set_at (λ i. P (suc i)) (λ i s. same (suc i) s) l span xs h j

mapped_at : (P : ℕ → Span → Span → Type 0) → ((j : ℕ) (s : Span) → P j s s) → (f : Span → Span) → ((j : ℕ) (s : Span) → P j (f s) s) → (spans : List Span) (j : ℕ) → P j (span_in (map f spans) j) (span_in spans j)
mapped_at P same f h [] j = same j (record { link = new_link 0; forth = no_lane; back = no_lane })
mapped_at P same f h (x ∷ xs) zero = h 0 x
mapped_at P same f h (x ∷ xs) (suc j) = mapped_at (λ i. P (suc i)) (λ i s. same (suc i) s) f (λ i s. h (suc i) s) xs j

mapped_twice : (P : ℕ → Span → Span → Type 0) → ((j : ℕ) (s : Span) → P j s s) → (f g : Span → Span) → ((j : ℕ) (s : Span) → P j (f (g s)) s) → (spans : List Span) (j : ℕ) → P j (span_in (map f (map g spans)) j) (span_in spans j)
mapped_twice P same f g h [] j = same j (record { link = new_link 0; forth = no_lane; back = no_lane })
mapped_twice P same f g h (x ∷ xs) zero = h 0 x
mapped_twice P same f g h (x ∷ xs) (suc j) = mapped_twice (λ i. P (suc i)) (λ i s. same (suc i) s) f g (λ i s. h (suc i) s) xs j

-- ---- lanes

empty_more : (box : List Carried) → is_empty (box ++ []) ≡ is_empty box
empty_more [] = refl
empty_more (copy ∷ box) = refl

other_number : (i k : ℕ) → (i ≡ k → ⊥) → (i == k) ≡ false
other_number i k h = of (i == k) refl
  where
    of : (b : Bool) → (i == k) ≡ b → b ≡ false
    of true e = absurd (h (eqb-true i k e))
    of false e = refl

-- an entry of another node gives this lane nothing
spread_box : (owner : Owner) (x : Entry) (past : List Entry) (lane : Lane) → (lane.from.node ≡ owner.number → ⊥) → is_empty (lane.outbox ++ gift owner x past lane) ≡ is_empty lane.outbox
spread_box owner x past lane h =
    ap (λ b. is_empty (lane.outbox ++ (if b then option_to_list (pass_of owner lane.from.port x past) else []))) (other_number lane.from.node owner.number h) ∙ empty_more lane.outbox

emptied_hand : (end at : End) (lane : Lane) → lane.to ≡ at → is_same_end at end ≡ false → is_some (emptied end lane).hand ≡ is_some lane.hand
emptied_hand end at lane to apart =
    ap (λ b. is_some (if b then None else lane.hand)) (ap (λ (e : End). is_same_end e end) to ∙ apart)

of_node : (k n : ℕ) (end : End) → end ≡ end_at k → (k / 8 ≡ n → ⊥) → end.node ≡ n → ⊥
of_node k n end e apart h = apart (sym (ap (λ (x : End). x.node) e) ∙ h)

-- ---- steps

met : (P : World → Type 0) (w : World) (b : Bool) (r : Result World WorldFault) (f : WorldFault) → P w → P (or_same w r) → P (or_same w (if b then r else Err f))
met P w true r f same new = new
met P w false r f same new = same

abbrev Alike : ℕ → Bool → Bool → Bool → World → World → Type 0
Alike k h x l w after = (j : ℕ) → IsAlike k h x l j (span_in after.spans j) (span_in w.spans j)

unchanged : (k : ℕ) (h x l : Bool) (w : World) → Alike k h x l w w
unchanged k h x l w j = alike k h x l j (span_in w.spans j)

with_entry : (k : ℕ) (h x l : Bool) (capacity : ℕ) (v w : World) (worker n : ℕ) (e : Event) → v.spans ≡ w.spans → (x ≡ false → k / 8 ≡ n → ⊥) → Alike k h x l w (or_same w (entered capacity v worker n e))
with_entry k h x l capacity v w worker n e same apart = by_case (answer capacity (owner_at v n) (record_at v n) (max (now (record_at v n)) v.moment) e)
  where
    by_case : (r : Result Outcome StepFault) → Alike k h x l w (or_same w (and_added v worker n e r))
    by_case (Err fault) = unchanged k h x l w
    by_case (Ok outcome) =
        let y : Entry = record { worker = worker; at = v.moment; event = e; outcome = outcome } in
        let f : Span → Span = on_lanes (spread (owner_at v n) y (record_at v n)) in
        subst (λ (spans : List Span). (j : ℕ) → IsAlike k h x l j (span_in (map f spans) j) (span_in w.spans j)) (sym same)
        (mapped_at (IsAlike k h x l) (alike k h x l) f (λ j s. record {
          hand = λ _ dir to. dirs (λ d. is_some (lane_of d (f s)).hand ≡ is_some (lane_of d s).hand) refl refl dir;
          box = λ no dir from.
              dirs (λ d. (lane_of d s).from ≡ end_at k → is_empty (lane_of d (f s)).outbox ≡ is_empty (lane_of d s).outbox)
              (λ from. spread_box (owner_at v n) y (record_at v n) s.forth (of_node k n s.forth.from from (apart no)))
              (λ from. spread_box (owner_at v n) y (record_at v n) s.back (of_node k n s.back.from from (apart no))) dir from;
          rows = λ _ e. refl;
        }) w.spans)
      where
        dirs : (P : Dir → Type 0) → P Forth → P Back → (dir : Dir) → P dir
        dirs P a b Forth = a
        dirs P a b Back = b

with_judged : (k : ℕ) (h x l : Bool) (capacity : ℕ) (w : World) (end : End) (held : Option Carried) → (h ≡ false → is_same_end (end_at k) end ≡ false) → (x ≡ false → k / 8 ≡ end.node → ⊥) →
    Alike k h x l w (or_same w (judged_at capacity w end held))
with_judged k h x l capacity w end None own apart = unchanged k h x l w
with_judged k h x l capacity w end (Some copy) own apart =
    by_case (answer capacity (owner_at w end.node) (record_at w end.node) (max (now (record_at w end.node)) w.moment) (event.Arrive end.port copy))
  where
    dirs : (P : Dir → Type 0) → P Forth → P Back → (dir : Dir) → P dir
    dirs P a b Forth = a
    dirs P a b Back = b

    by_case : (r : Result Outcome StepFault) → Alike k h x l w (or_same w (and_added (cleared w end) (port_worker end) end.node (event.Arrive end.port copy) r))
    by_case (Err fault) = unchanged k h x l w
    by_case (Ok outcome) =
        let y : Entry = record { worker = port_worker end; at = w.moment; event = event.Arrive end.port copy; outcome = outcome } in
        let f : Span → Span = on_lanes (spread (owner_at w end.node) y (record_at w end.node)) in
        let g : Span → Span = on_lanes (emptied end) in
        mapped_twice (IsAlike k h x l) (alike k h x l) f g (λ j s. record {
          hand = λ no dir to.
              dirs (λ d. (lane_of d s).to ≡ end_at k → is_some (lane_of d (f (g s))).hand ≡ is_some (lane_of d s).hand)
              (λ to. emptied_hand end (end_at k) s.forth to (own no)) (λ to. emptied_hand end (end_at k) s.back to (own no)) dir to;
          box = λ no dir from.
              dirs (λ d. (lane_of d s).from ≡ end_at k → is_empty (lane_of d (f (g s))).outbox ≡ is_empty (lane_of d s).outbox)
              (λ from. spread_box (owner_at w end.node) y (record_at w end.node) (emptied end s.forth) (of_node k end.node s.forth.from from (apart no)))
              (λ from. spread_box (owner_at w end.node) y (record_at w end.node) (emptied end s.back) (of_node k end.node s.back.from from (apart no))) dir from;
          rows = λ _ e. refl;
        }) w.spans

apart_ends : (k : ℕ) (end at : End) → at ≡ end_at k → at ≡ end → is_same_end (end_at k) end ≡ false → ⊥
apart_ends k end at e f apart = false≢true (sym apart ∙ end_same (end_at k) end (sym e ∙ f))

apart_numbers : (i l j : ℕ) → (i == l) ≡ false → j ≡ i → j ≡ l → ⊥
apart_numbers i l j apart e f = false≢true (sym apart ∙ eq-eqb i l (sym e ∙ f))

with_put : (k : ℕ) (h x l : Bool) (w : World) (end : End) (spot : Option Spot) → ((s : Spot) → spot ≡ Some s → (lane_of s.dir (span_in w.spans s.link)).from ≡ end) →
    (x ≡ false → is_same_end (end_at k) end ≡ false) → (l ≡ false → is_by (link_at spot) (k / 2) ≡ false) → Alike k h x l w (or_same w (put_at w spot))
with_put k h x l w end None leads own apart = unchanged k h x l w
with_put k h x l w end (Some s) leads own apart = by_box (lane_of s.dir (span_at w s.link)).outbox
  where
    span : Span
    span = span_in w.spans s.link

    boxed : (dir1 dir : Dir) (s0 : Span) (l0 : Link) (box : List Carried) → (lane_of dir1 s0).from ≡ end → x ≡ false → (lane_of dir s0).from ≡ end_at k →
        is_empty (lane_of dir (with_link l0 (with_lane dir1 (record (lane_of dir1 s0) { outbox = box }) s0))).outbox ≡ is_empty (lane_of dir s0).outbox
    boxed Forth Back s0 l0 box0 at0 none from0 = refl
    boxed Back Forth s0 l0 box0 at0 none from0 = refl
    boxed Forth Forth s0 l0 box0 at0 none from0 = absurd (apart_ends k end s0.forth.from from0 at0 (own none))
    boxed Back Back s0 l0 box0 at0 none from0 = absurd (apart_ends k end s0.back.from from0 at0 (own none))

    hands : (dir1 dir : Dir) (s0 : Span) (l0 : Link) (box : List Carried) →
        is_some (lane_of dir (with_link l0 (with_lane dir1 (record (lane_of dir1 s0) { outbox = box }) s0))).hand ≡ is_some (lane_of dir s0).hand
    hands Forth Back s0 l0 box0 = refl
    hands Back Forth s0 l0 box0 = refl
    hands Forth Forth s0 l0 box0 = refl
    hands Back Back s0 l0 box0 = refl

    by_box : (box : List Carried) → Alike k h x l w (or_same w (put_from w s box))
    by_box [] = unchanged k h x l w
    by_box (copy ∷ box) = set_at (IsAlike k h x l) (alike k h x l) s.link _ w.spans (record {
      hand = λ _ dir to. hands s.dir dir span _ box;
      box = λ no dir from. boxed s.dir dir span _ box (leads s refl) no from;
      rows = λ no e. absurd (apart_numbers (k / 2) s.link s.link (apart no) e refl);
    })

with_take : (k : ℕ) (h x l : Bool) (w : World) (link : ℕ) (dir0 : Dir) (hand : Option Carried) → (h ≡ false → is_same_end (end_at k) (lane_of dir0 (span_in w.spans link)).to ≡ false) →
    (l ≡ false → (k / 2 == link) ≡ false) → Alike k h x l w (or_same w (take_to w link dir0 hand))
with_take k h x l w link dir0 (Some held) own apart = unchanged k h x l w
with_take k h x l w link dir0 None own apart = by_queue (first_copy dir0 (span_at w link).link.rows)
  where
    span : Span
    span = span_in w.spans link

    hands : (dir1 dir : Dir) (s0 : Span) (l0 : Link) (copy : Carried) → (h ≡ false → is_same_end (end_at k) (lane_of dir1 s0).to ≡ false) → h ≡ false → (lane_of dir s0).to ≡ end_at k →
        is_some (lane_of dir (with_link l0 (with_lane dir1 (record (lane_of dir1 s0) { hand = Some copy }) s0))).hand ≡ is_some (lane_of dir s0).hand
    hands Forth Back s0 l0 copy0 own0 none to0 = refl
    hands Back Forth s0 l0 copy0 own0 none to0 = refl
    hands Forth Forth s0 l0 copy0 own0 none to0 = absurd (apart_ends k s0.forth.to s0.forth.to to0 refl (own0 none))
    hands Back Back s0 l0 copy0 own0 none to0 = absurd (apart_ends k s0.back.to s0.back.to to0 refl (own0 none))

    boxes : (dir1 dir : Dir) (s0 : Span) (l0 : Link) (copy : Carried) →
        is_empty (lane_of dir (with_link l0 (with_lane dir1 (record (lane_of dir1 s0) { hand = Some copy }) s0))).outbox ≡ is_empty (lane_of dir s0).outbox
    boxes Forth Back s0 l0 copy0 = refl
    boxes Back Forth s0 l0 copy0 = refl
    boxes Forth Forth s0 l0 copy0 = refl
    boxes Back Back s0 l0 copy0 = refl

    by_queue : (first : Option Carried) → Alike k h x l w (or_same w (taken_by w link dir0 (first, (take_step (span_at w link).link dir0).1)))
    by_queue None = unchanged k h x l w
    by_queue (Some copy) = set_at (IsAlike k h x l) (alike k h x l) link _ w.spans (record {
      hand = λ no dir to. hands dir0 dir span _ copy own no to;
      box = λ _ dir from. boxes dir0 dir span _ copy;
      rows = λ no e. absurd (apart_numbers (k / 2) link link (apart no) e refl);
    })

-- only the link of a span is changed
with_other_link : (k : ℕ) (h x l : Bool) (w : World) (link : ℕ) (new : Link) → (l ≡ false → link ≡ k / 2 → new.rows ≡ (span_in w.spans link).link.rows) → Alike k h x l w (with_span w link (with_link new (span_at w link)))
with_other_link k h x l w link new rows = set_at (IsAlike k h x l) (alike k h x l) link _ w.spans (record {
  hand = λ _ dir to. dirs (λ d. is_some (lane_of d (with_link new (span_in w.spans link))).hand ≡ is_some (lane_of d (span_in w.spans link)).hand) refl refl dir;
  box = λ _ dir from. dirs (λ d. is_empty (lane_of d (with_link new (span_in w.spans link))).outbox ≡ is_empty (lane_of d (span_in w.spans link)).outbox) refl refl dir;
  rows = rows;
})
  where
    dirs : (P : Dir → Type 0) → P Forth → P Back → (dir : Dir) → P dir
    dirs P a b Forth = a
    dirs P a b Back = b

not_node : (k n : ℕ) (rest : Bool) → (if k / 8 == n then true else rest) ≡ false → k / 8 ≡ n → ⊥
not_node k n rest h e = of (k / 8 == n) (eq-eqb (k / 8) n e) h
  where
    of : (b : Bool) → b ≡ true → (if b then true else rest) ≡ false → ⊥
    of true e h = false≢true (sym h)
    of false e h = false≢true e

abbrev Untouched : World → List Port → Step → ℕ → World → Type 0
Untouched w list step k after = Alike k (touches_hand w.spans step k) (touches_box step k) (touches_link list step k) w after

own_entry : (capacity : ℕ) (w : World) (list : List Port) (step : Step) (k n : ℕ) (e : Event) → touches_box step k ≡ (if k / 8 == n then true else false) →
    Untouched w list step k (or_same w (if has_node w n then entered capacity (planned w n e) 0 n e else Err NoSuchNode))
own_entry capacity w list step k n e boxes =
    met (Untouched w list step k) w (has_node w n) _ _ (unchanged k _ _ _ w)
    (with_entry k _ _ _ capacity (planned w n e) w 0 n e refl (λ no same. not_node k n false (sym boxes ∙ no) same))

untouched : (capacity : ℕ) (w : World) (list : List Port) (k : ℕ) → AreTold w.places w.spans list → (step : Step) → Untouched w list step k (or_same w (tried capacity w step))
unfolding tried
untouched capacity w list k told (Clock at) = unchanged k _ _ _ w
untouched capacity w list k told (Send n from dst vlan ethertype payload) = own_entry capacity w list (Send n from dst vlan ethertype payload) k n (event.Send from dst vlan ethertype payload) refl
untouched capacity w list k told (Supervise n about) = own_entry capacity w list (Supervise n about) k n (event.Supervise about) refl
untouched capacity w list k told (Age n) = own_entry capacity w list (Age n) k n event.Age refl
untouched capacity w list k told (Put n port) = by_port (has_node w n) (has_port w n port) refl refl
  where
    end : End
    end = record { node = n; port = port }

    by_port : (a b : Bool) → has_node w n ≡ a → has_port w n port ≡ b →
        Untouched w list (Put n port) k (or_same w (if a then (if b then put_at w (spot_from (record { node = n; port = port }) 0 w.spans) else Err NoSuchPort) else Err NoSuchNode))
    by_port false b e f = unchanged k _ _ _ w
    by_port true false e f = unchanged k _ _ _ w
    by_port true true e f =
        let fault : port_fault w.places n port ≡ None = ap₂ (λ x y. if x then (if y then None else Some NoSuchPort) else Some NoSuchNode) e f in
        let out = out_there w.places w.spans list n port told (is_there w.places n port fault) in
        with_put k _ _ _ w end (spot_from end 0 w.spans) (λ s is. spot_from_leads end w.spans s is) (λ no. no) (λ no. ap (λ (o : Option Spot). is_by (link_at o) (k / 2)) (sym out) ∙ no)
untouched capacity w list k told (Take l dir) = by_link (has_link w l) refl
  where
    by_link : (b : Bool) → has_link w l ≡ b → Untouched w list (Take l dir) k (or_same w (if b then take_to w l dir (lane_of dir (span_at w l)).hand else Err NoSuchLink))
    by_link false e = unchanged k _ _ _ w
    by_link true e =
        with_take k _ _ _ w l dir (lane_of dir (span_at w l)).hand
        (λ no. ap (λ b. is_at (if b then Some (lane_of dir (span_in w.spans l)).to else None) k) (sym e) ∙ no) (λ no. no)
untouched capacity w list k told (Judge n port) =
    let end : End = record { node = n; port = port } in
    met (Untouched w list (Judge n port) k) w (has_node w n) _ _ (unchanged k _ _ _ w)
    (met (Untouched w list (Judge n port) k) w (has_port w n port) _ _ (unchanged k _ _ _ w)
    (with_judged k _ _ _ capacity w end (held_in end (lanes_of w.spans)) (λ no. no) (λ no same. not_node k n false no same)))
untouched capacity w list k told (Cut l) =
    met (Untouched w list (Cut l) k) w (has_link w l) _ _ (unchanged k _ _ _ w)
    (with_other_link k _ _ _ w l _ (λ no e. absurd (apart_numbers (k / 2) l l no e refl)))
untouched capacity w list k told (Mend l) = met (Untouched w list (Mend l) k) w (has_link w l) _ _ (unchanged k _ _ _ w) (with_other_link k _ _ _ w l _ (λ no e. refl))
untouched capacity w list k told (Inject l dir octets) =
    met (Untouched w list (Inject l dir octets) k) w (has_link w l) _ _ (unchanged k _ _ _ w) (by_length (nat_lt 2048 (length octets)))
  where
    by_length : (b : Bool) →
        Untouched w list (Inject l dir octets) k (or_same w (if b then Err TooLong else Ok (with_span w l (with_link (inject_step (span_at w l).link dir (record { probe = None; octets = octets })).1 (span_at w l)))))
    by_length true = unchanged k _ _ _ w
    by_length false = with_other_link k _ _ _ w l _ (λ no e. absurd (apart_numbers (k / 2) l l no e refl))

-- ---- the sets

same_held : (w : World) (v : List Span) (list : List Port) (k : ℕ) (x l : Bool) → AreTold w.places w.spans list → ((j : ℕ) → IsAlike k false x l j (span_in v j) (span_in w.spans j)) → is_held list v k ≡ is_held list w.spans k
same_held w v list k x l told same = by_spot (option_map spot_view (port_in list k).into) refl
  where
    by_spot : (spot : Option Spot) → option_map spot_view (port_in list k).into ≡ spot → held_at v spot ≡ held_at w.spans spot
    by_spot None e = refl
    by_spot (Some s) e = (same s.link).hand refl s.dir (spot_to_leads (end_at k) w.spans s ((port_of_number w.places w.spans list k told).into s e))

same_waiting : (w : World) (v : List Span) (list : List Port) (k : ℕ) (h l : Bool) → AreTold w.places w.spans list → ((j : ℕ) → IsAlike k h false l j (span_in v j) (span_in w.spans j)) → is_waiting list v k ≡ is_waiting list w.spans k
same_waiting w v list k h l told same = by_spot (option_map spot_view (port_in list k).out) refl
  where
    by_spot : (spot : Option Spot) → option_map spot_view (port_in list k).out ≡ spot → waits_in v spot ≡ waits_in w.spans spot
    by_spot None e = refl
    by_spot (Some s) e = ap not ((same s.link).box refl s.dir (spot_from_leads (end_at k) w.spans s ((port_of_number w.places w.spans list k told).out s e)))

same_ready : (w : World) (v : List Span) (k : ℕ) (h x : Bool) → ((j : ℕ) → IsAlike k h x false j (span_in v j) (span_in w.spans j)) → is_ready v k ≡ is_ready w.spans k
same_ready w v k h x same = ap (λ rows. is_some (first_copy (dir_at k) rows)) ((same (k / 2)).rows refl refl)

now_has : (now before : ℕ → Bool) (touched b : Bool) (k : ℕ) → touched ≡ b → (touched ≡ false → now k ≡ before k) → (if touched then now k else before k) ≡ now k
now_has now before touched true k e same = ap (λ t. if t then now k else before k) e
now_has now before touched false k e same = ap (λ t. if t then now k else before k) e ∙ sym (same e)

-- where the ends of spans are the same, so is the end at which a direction is received
ends_in : (spans : List Span) (l : ℕ) → ends_at (span_in spans l) ≡ get_or (map ends_at spans) l (ends_at (record { link = new_link 0; forth = no_lane; back = no_lane }))
ends_in [] l = refl
ends_in (x ∷ xs) zero = refl
ends_in (x ∷ xs) (suc l) = ends_in xs l

same_hand : (v w : List Span) → map ends_at v ≡ map ends_at w → (step : Step) → hand_of v step ≡ hand_of w step
same_hand v w e (Take l dir) =
    let long : length v ≡ length w = sym (length-map v ends_at) ∙ ap length e ∙ length-map w ends_at in
    let ends : ends_at (span_in v l) ≡ ends_at (span_in w l) = ends_in v l ∙ (ap (λ (es : List Ends). get_or es l (ends_at (record { link = new_link 0; forth = no_lane; back = no_lane }))) e ∙ sym (ends_in w l)) in
    ap₂ (λ (n : ℕ) (to : End). if nat_lt l n then Some to else None) long (to dir (span_in v l) (span_in w l) ends)
  where
    to : (dir : Dir) (a b : Span) → ends_at a ≡ ends_at b → (lane_of dir a).to ≡ (lane_of dir b).to
    to Forth a b e = ap (λ (x : Ends). x.forth_to) e
    to Back a b e = ap (λ (x : Ends). x.back_to) e
same_hand v w e (Judge n port) = refl
same_hand v w e (Clock at) = refl
same_hand v w e (Send n from dst vlan ethertype payload) = refl
same_hand v w e (Supervise n about) = refl
same_hand v w e (Age n) = refl
same_hand v w e (Put n port) = refl
same_hand v w e (Cut l) = refl
same_hand v w e (Mend l) = refl
same_hand v w e (Inject l dir octets) = refl

-- what has a copy to put sends somewhere
pub of_senders : (places : List Place) (list : List Port) (spans : List Span) (left : Pending) → AreTold places spans list → ArePending list spans left → AreOfSenders list left.waiting
of_senders places list spans left told p = record {
  senders = λ k below none. p.waiting k below ∙ ap (λ o. waits_in spans (option_map spot_view o)) none;
  few = λ k high. few_send places spans list k told high;
}

looked_at : (capacity : ℕ) (w after : World) (list : List Port) (step : Step) (old new : Pending) → tried capacity w step ≡ Ok after → AreTold w.places w.spans list → ArePending list w.spans old →
    AreLooked list after.spans step old new → ArePending list after.spans new
looked_at capacity w after list step old new done told p look = record {
  held = λ k below.
      let alike_k = alikes k in
      look.held k below
      ∙ ap (λ t. if t then is_held list after.spans k else has old.held k) (hands k)
      ∙ now_has (is_held list after.spans) (has old.held) (touches_hand w.spans step k) (touches_hand w.spans step k) k refl
      (λ no. same_held w after.spans list k (touches_box step k) (touches_link list step k) told (λ j. subst (λ b. IsAlike k b (touches_box step k) (touches_link list step k) j (span_in after.spans j) (span_in w.spans j)) no (alike_k j)) ∙ sym (p.held k below));
  waiting = λ k below.
      let alike_k = alikes k in
      look.waiting k below
      ∙ now_has (is_waiting list after.spans) (has old.waiting) (touches_box step k) (touches_box step k) k refl
      (λ no. same_waiting w after.spans list k (touches_hand w.spans step k) (touches_link list step k) told (λ j. subst (λ b. IsAlike k (touches_hand w.spans step k) b (touches_link list step k) j (span_in after.spans j) (span_in w.spans j)) no (alike_k j)) ∙ sym (p.waiting k below));
  ready = λ k below.
      let alike_k = alikes k in
      look.ready k below
      ∙ now_has (is_ready after.spans) (has old.ready) (touches_link list step k) (touches_link list step k) k refl
      (λ no. same_ready w after.spans k (touches_hand w.spans step k) (touches_box step k) (λ j. subst (λ b. IsAlike k (touches_hand w.spans step k) (touches_box step k) b j (span_in after.spans j) (span_in w.spans j)) no (alike_k j)) ∙ sym (p.ready k below));
}
  where
    is_after : or_same w (tried capacity w step) ≡ after
    is_after = ap (or_same w) done

    ends : map ends_at after.spans ≡ map ends_at w.spans
    ends = subst (λ (v : World). map ends_at v.spans ≡ map ends_at w.spans) is_after (keeps_ends capacity w step).ends

    hands : (k : ℕ) → touches_hand after.spans step k ≡ touches_hand w.spans step k
    hands k = ap (λ (o : Option End). is_at o k) (same_hand after.spans w.spans ends step)

    alikes : (k : ℕ) → Alike k (touches_hand w.spans step k) (touches_box step k) (touches_link list step k) w after
    alikes k = subst (λ (v : World). Untouched w list step k v) is_after (untouched capacity w list k told step)

-- a move tells nothing that doesn't fit
pub fits_move : (moved : Move) → FitsStep (step_of moved)
fits_move (move.Judge end) = record {}
fits_move (move.Put end) = record {}
fits_move (move.Take l dir) = record {}

-- a step that was done
pub kept_done : (capacity : ℕ) (places : List Place) (links : List (List End)) (list : List Port) (touching : List (List ℕ)) (w after : World) (step : Step) (old new : Pending) → tried capacity w step ≡ Ok after →
    FitsStep step → AreLooked list after.spans step old new → IsKept capacity places links list touching old w → IsKept capacity places links list touching new after
kept_done capacity places links list touching w after step old new done fit look k = record {
  tables = k.tables;
  reached = reached-step capacity places links w after step done fit k.reached;
  few = subst (λ (n : ℕ). n ≤ 128) (sym long) k.few;
  told = told_same after w list same k.told;
  touched = still_touching after w touching same k.touched;
  pending = looked_at capacity w after list step old new done k.told k.pending look;
}
  where
    same : AreSame after w
    same = subst (λ (v : World). AreSame v w) (ap (or_same w) done) (keeps_ends capacity w step)

    long : length after.spans ≡ length w.spans
    long = sym (length-map after.spans ends_at) ∙ ap length same.ends ∙ length-map w.spans ends_at

-- ---- a world in which nothing was done

record IsFresh (s : Span) : Type 0 where
  hand : (dir : Dir) → is_some (lane_of dir s).hand ≡ false
  box : (dir : Dir) → is_empty (lane_of dir s).outbox ≡ true
  rows : (dir : Dir) → is_some (first_copy dir s.link.rows) ≡ false

fresh_lanes : (room : ℕ) (a b c d : End) → IsFresh (record { link = new_link room; forth = record { from = a; to = b; outbox = []; hand = None }; back = record { from = c; to = d; outbox = []; hand = None } })
fresh_lanes room a b c d = record { hand = hands; box = boxes; rows = rows }
  where
    hands : (dir : Dir) →
        is_some (lane_of dir (record { link = new_link room; forth = record { from = a; to = b; outbox = []; hand = None }; back = record { from = c; to = d; outbox = []; hand = None } })).hand ≡ false
    hands Forth = refl
    hands Back = refl

    boxes : (dir : Dir) →
        is_empty (lane_of dir (record { link = new_link room; forth = record { from = a; to = b; outbox = []; hand = None }; back = record { from = c; to = d; outbox = []; hand = None } })).outbox ≡ true
    boxes Forth = refl
    boxes Back = refl

    rows : (dir : Dir) → is_some (first_copy dir []) ≡ false
    rows Forth = refl
    rows Back = refl

fresh_span : (room : ℕ) (link : List End) → IsFresh (new_span room link)
fresh_span room [] = fresh_lanes room no_end no_end no_end no_end
fresh_span room (a ∷ []) = fresh_lanes room no_end no_end no_end no_end
fresh_span room (a ∷ b ∷ ends) = fresh_lanes room a b b a

fresh_at : (room : ℕ) (links : List (List End)) (l : ℕ) → IsFresh (span_in (map (new_span room) links) l)
fresh_at room [] l = fresh_lanes 0 no_end no_end no_end no_end
fresh_at room (link ∷ links) zero = fresh_span room link
fresh_at room (link ∷ links) (suc l) = fresh_at room links l

pub first_pending : (room : ℕ) (links : List (List End)) (list : List Port) (left : Pending) → ArePending [] [] left → ArePending list (map (new_span room) links) left
first_pending room links list left p = record {
  held = λ k below. p.held k below ∙ sym (hands (option_map spot_view (port_in list k).into));
  waiting = λ k below. p.waiting k below ∙ sym (boxes (option_map spot_view (port_in list k).out));
  ready = λ k below. p.ready k below ∙ (nothing (dir_at k) ∙ sym ((fresh_at room links (k / 2)).rows (dir_at k)));
}
  where
    hands : (spot : Option Spot) → held_at (map (new_span room) links) spot ≡ false
    hands None = refl
    hands (Some s) = (fresh_at room links s.link).hand s.dir

    boxes : (spot : Option Spot) → waits_in (map (new_span room) links) spot ≡ false
    boxes None = refl
    boxes (Some s) = ap not ((fresh_at room links s.link).box s.dir)

    nothing : (dir : Dir) → is_some (first_copy dir []) ≡ false
    nothing Forth = refl
    nothing Back = refl

pub kept_new : (capacity room : ℕ) (places : List Place) (links : List (List End)) (list : List Port) (touching : List (List ℕ)) (left : Pending) → IsTableSize capacity → IsReached capacity places links (new_world room places links) →
    length places ≤ 64 → length links ≤ 128 → list ≡ ports_in places (map (new_span room) links) →
    AreTouching places (map (new_span room) links) touching → ArePending [] [] left → IsKept capacity places links list touching left (new_world room places links)
kept_new capacity room places links list touching left tables reached few_places few_links told by p = record {
  tables = tables;
  reached = reached;
  few = let long = length-map links (new_span room) in omega (arith, long, few_links);
  told = record { few = few_places; is = told };
  touched = by;
  pending = first_pending room links list left p;
}
