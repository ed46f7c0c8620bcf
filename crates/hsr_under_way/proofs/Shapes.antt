-- What a step that is done makes of a world, case by case: the one place that looks into a step.
use Rattle.std.proofs.Common.{◌≡◌, ℕ, ◌<◌, nat_lt, max, Bool, true, false, List, [], ◌∷◌, length, Option, Some, None, Result, Ok, Err, refl, sym, ap, ◌∙◌, ltb-true}
use Rattle.std.specs.Prelude.{if◌then◌else◌}
use Rattle.hsr_topology.specs.Workers.{port_worker}
use Rattle.hsr_topology.specs.declared.end.End.{End}
use Rattle.hsr_link.specs.Link.{Link, cut_step, mended, put_step, take_step}
use Rattle.hsr_link.specs.Rows.{first_copy}
use Rattle.hsr_link.specs.declared.row.Dir.{Dir}
use Rattle.hsr_node.specs.Record.{answer, now}
use Rattle.hsr_node.specs.declared.entry.Entry.{Entry}
use Rattle.hsr_node.specs.declared.event.Carried.{Carried}
use Rattle.hsr_node.specs.declared.event.Event.{Event}
use Rattle.hsr_node.specs.declared.event.Event.TheVariants as event
use Rattle.hsr_node.specs.declared.event.Outcome.{Outcome}
use Rattle.hsr_node.specs.declared.event.StepFault.{StepFault}
use Rattle.hsr_world_laws.proofs.Keeps.{entry_of}
use Rattle.hsr_world_laws.specs.Spans.{Spot, held_in, lane_of, lanes_of, spot_from, with_lane, with_link}
use Rattle.hsr_world_laws.specs.World.{World, added, and_added, by_main, cleared, entered, has_link, has_node, has_port, judged_at, owner_at, planned, put_at, put_from, record_at, span_at, take_to, taken_by, tried, with_span}
use Rattle.hsr_world_steps.specs.declared.step.Step.{Step}
use Rattle.hsr_world_steps.specs.declared.step.Step.TheVariants.{Clock, Send, Supervise, Age, Put, Take, Judge, Cut, Mend, Inject}
use Rattle.hsr_world_steps.specs.declared.step.WorldFault.{WorldFault}
use Rattle.hsr_under_way.specs.StepsOn.{is_injecting}

-- ---- the cases

-- what a step asks of a node, by the main worker
abbrev pub Asks : Step → ℕ → Event → Type 0
Asks (Send n from dst vlan ethertype payload) k e = (k ≡ n) × (e ≡ event.Send from dst vlan ethertype payload)
Asks (Supervise n about) k e = (k ≡ n) × (e ≡ event.Supervise about)
Asks (Age n) k e = (k ≡ n) × (e ≡ event.Age)
Asks step k e = ⊥

-- the moment is set
pub record Ticks (w : World) (step : Step) (after : World) : Type 0 where
  pub at : ℕ
  pub step_is : step ≡ Clock at
  pub is : after ≡ record w { moment = at }

-- the main worker brings an event to a node
pub record Brings (capacity : ℕ) (w : World) (step : Step) (after : World) : Type 0 where
  pub node : ℕ
  pub event : Event
  pub asks : Asks step node event
  pub below : node < length w.places
  pub outcome : Outcome
  pub answered : answer capacity (owner_at w node) (record_at w node) (max (now (record_at w node)) w.moment) event ≡ Ok outcome
  pub is : after ≡ added (planned w node event) node (entry_of w 0 event outcome)

-- a node judges what a port holds
pub record Judges (capacity : ℕ) (w : World) (step : Step) (after : World) : Type 0 where
  pub end : End
  pub step_is : step ≡ Judge end.node end.port
  pub below : end.node < length w.places
  pub copy : Carried
  pub held : held_in end (lanes_of w.spans) ≡ Some copy
  pub outcome : Outcome
  pub answered : answer capacity (owner_at w end.node) (record_at w end.node) (max (now (record_at w end.node)) w.moment) (event.Arrive end.port copy) ≡ Ok outcome
  pub is : after ≡ added (cleared w end) end.node (entry_of w (port_worker end) (event.Arrive end.port copy) outcome)

-- the oldest of an outbox goes onto the link
pub record Puts (w : World) (step : Step) (after : World) : Type 0 where
  pub end : End
  pub step_is : step ≡ Put end.node end.port
  pub spot : Spot
  pub found : spot_from end 0 w.spans ≡ Some spot
  pub copy : Carried
  pub box : List Carried
  pub waits : (lane_of spot.dir (span_at w spot.link)).outbox ≡ copy ∷ box
  pub is : after ≡ with_span w spot.link (with_link (put_step (span_at w spot.link).link spot.dir copy).1
      (with_lane spot.dir (record (lane_of spot.dir (span_at w spot.link)) { outbox = box }) (span_at w spot.link)))

-- the oldest that waits on a link comes into a hand
pub record Takes (w : World) (step : Step) (after : World) : Type 0 where
  pub link : ℕ
  pub dir : Dir
  pub step_is : step ≡ Take link dir
  pub below : link < length w.spans
  pub free : (lane_of dir (span_at w link)).hand ≡ None
  pub copy : Carried
  pub first : first_copy dir (span_at w link).link.rows ≡ Some copy
  pub is : after ≡ with_span w link (with_link (take_step (span_at w link).link dir).1
      (with_lane dir (record (lane_of dir (span_at w link)) { hand = Some copy }) (span_at w link)))

pub record Cuts (w : World) (step : Step) (after : World) : Type 0 where
  pub link : ℕ
  pub step_is : step ≡ Cut link
  pub below : link < length w.spans
  pub is : after ≡ with_span w link (with_link (cut_step (span_at w link).link).1 (span_at w link))

pub record Mends (w : World) (step : Step) (after : World) : Type 0 where
  pub link : ℕ
  pub step_is : step ≡ Mend link
  pub below : link < length w.spans
  pub is : after ≡ with_span w link (with_link (mended (span_at w link).link) (span_at w link))

pub data Shape (capacity : ℕ) (w : World) (step : Step) (after : World) : Type 0 where
  ticks : Ticks w step after → Shape capacity w step after
  brings : Brings capacity w step after → Shape capacity w step after
  judges : Judges capacity w step after → Shape capacity w step after
  puts : Puts w step after → Shape capacity w step after
  takes : Takes w step after → Shape capacity w step after
  cuts : Cuts w step after → Shape capacity w step after
  mends : Mends w step after → Shape capacity w step after

-- ---- each step is one of them

-- a test was met, and what comes of it was done
met : (P : World → Type 0) (b : Bool) (r : Result World WorldFault) (f : WorldFault) → (b ≡ true → (after : World) → r ≡ Ok after → P after) →
    (after : World) → (if b then r else Err f) ≡ Ok after → P after
met P true r f k after e = k refl after e
met P false r f k after e = absurd cc

-- an event was answered
answered_so : (capacity : ℕ) (w v : World) (worker n : ℕ) (e : Event) (P : World → Type 0) → ((outcome : Outcome) → answer capacity (owner_at v n) (record_at v n) (max (now (record_at v n)) v.moment) e ≡ Ok outcome →
    P (added v n (entry_of v worker e outcome))) → (after : World) → entered capacity v worker n e ≡ Ok after → P after
answered_so capacity w v worker n e P k after done = by_answer (answer capacity (owner_at v n) (record_at v n) (max (now (record_at v n)) v.moment) e) refl done
  where
    by_answer : (r : Result Outcome StepFault) → answer capacity (owner_at v n) (record_at v n) (max (now (record_at v n)) v.moment) e ≡ r → and_added v worker n e r ≡ Ok after → P after
    by_answer (Err fault) is done = absurd cc
    by_answer (Ok outcome) is done =
        let made : World = added v n (entry_of v worker e outcome) in
        let same : made ≡ after = let f : Ok made ≡ Ok after = done in cc in
        Rattle.std.proofs.Common.subst P same (k outcome is)

main_so : (capacity : ℕ) (w : World) (step : Step) (n : ℕ) (e : Event) → Asks step n e → (after : World) → by_main capacity w n e ≡ Ok after → Shape capacity w step after
main_so capacity w step n e asks after done =
    met (Shape capacity w step) (has_node w n) _ _
    (λ there behind came. answered_so capacity w (planned w n e) 0 n e (Shape capacity w step)
    (λ outcome is. brings (record { node = n; event = e; asks = asks; below = ltb-true n (length w.places) there; outcome = outcome; answered = is; is = refl })) behind came)
    after done

judged_so : (capacity : ℕ) (w : World) (end : End) → end.node < length w.places → (o : Option Carried) → held_in end (lanes_of w.spans) ≡ o → (after : World) → judged_at capacity w end o ≡ Ok after →
    Shape capacity w (Judge end.node end.port) after
judged_so capacity w end below None held after done = absurd cc
judged_so capacity w end below (Some copy) held after done =
    answered_so capacity w (cleared w end) (port_worker end) end.node (event.Arrive end.port copy) (Shape capacity w (Judge end.node end.port))
    (λ outcome is. judges (record { end = end; step_is = refl; below = below; copy = copy; held = held; outcome = outcome; answered = is; is = refl })) after done

put_so : (capacity : ℕ) (w : World) (end : End) (o : Option Spot) → spot_from end 0 w.spans ≡ o → (after : World) → put_at w o ≡ Ok after → Shape capacity w (Put end.node end.port) after
put_so capacity w end None found after done = absurd cc
put_so capacity w end (Some spot) found after done = by_box (lane_of spot.dir (span_at w spot.link)).outbox refl done
  where
    by_box : (box : List Carried) → (lane_of spot.dir (span_at w spot.link)).outbox ≡ box → put_from w spot box ≡ Ok after → Shape capacity w (Put end.node end.port) after
    by_box [] is done = absurd cc
    by_box (copy ∷ box) is done =
        let made : World = with_span w spot.link (with_link (put_step (span_at w spot.link).link spot.dir copy).1
        (with_lane spot.dir (record (lane_of spot.dir (span_at w spot.link)) { outbox = box }) (span_at w spot.link))) in
        let same : made ≡ after = let f : Ok made ≡ Ok after = done in cc in
        puts (record { end = end; step_is = refl; spot = spot; found = found; copy = copy; box = box; waits = is; is = sym same })

take_so : (capacity : ℕ) (w : World) (l : ℕ) (dir : Dir) → l < length w.spans → (hand : Option Carried) → (lane_of dir (span_at w l)).hand ≡ hand → (after : World) → take_to w l dir hand ≡ Ok after →
    Shape capacity w (Take l dir) after
take_so capacity w l dir below (Some held) is after done = absurd cc
take_so capacity w l dir below None is after done = by_first (first_copy dir (span_at w l).link.rows) refl done
  where
    by_first : (o : Option Carried) → first_copy dir (span_at w l).link.rows ≡ o → taken_by w l dir (o, (take_step (span_at w l).link dir).1) ≡ Ok after → Shape capacity w (Take l dir) after
    by_first None first done = absurd cc
    by_first (Some copy) first done =
        let made : World = with_span w l (with_link (take_step (span_at w l).link dir).1 (with_lane dir (record (lane_of dir (span_at w l)) { hand = Some copy }) (span_at w l))) in
        let same : made ≡ after = let f : Ok made ≡ Ok after = done in cc in
        takes (record { link = l; dir = dir; step_is = refl; below = below; free = is; copy = copy; first = first; is = sym same })

pub shape : (capacity : ℕ) (w after : World) (step : Step) → is_injecting step ≡ false → tried capacity w step ≡ Ok after → Shape capacity w step after
unfolding tried
shape capacity w after (Clock at) own done =
    let made : World = record w { moment = at } in
    let same : made ≡ after = let f : Ok made ≡ Ok after = done in cc in
    ticks (record { at = at; step_is = refl; is = sym same })
shape capacity w after (Send n from dst vlan ethertype payload) own done =
    main_so capacity w (Send n from dst vlan ethertype payload) n (event.Send from dst vlan ethertype payload) (refl, refl) after done
shape capacity w after (Supervise n about) own done = main_so capacity w (Supervise n about) n (event.Supervise about) (refl, refl) after done
shape capacity w after (Age n) own done = main_so capacity w (Age n) n event.Age (refl, refl) after done
shape capacity w after (Put n port) own done =
    met (Shape capacity w (Put n port)) (has_node w n) _ _
    (λ there behind came. met (Shape capacity w (Put n port)) (has_port w n port) _ _
    (λ has after_it it. put_so capacity w (record { node = n; port = port }) (spot_from (record { node = n; port = port }) 0 w.spans) refl after_it it) behind came)
    after done
shape capacity w after (Take l dir) own done =
    met (Shape capacity w (Take l dir)) (has_link w l) _ _
    (λ there behind came. take_so capacity w l dir (ltb-true l (length w.spans) there) (lane_of dir (span_at w l)).hand refl behind came) after done
shape capacity w after (Judge n port) own done =
    met (Shape capacity w (Judge n port)) (has_node w n) _ _
    (λ there behind came. met (Shape capacity w (Judge n port)) (has_port w n port) _ _
    (λ has after_it it. judged_so capacity w (record { node = n; port = port }) (ltb-true n (length w.places) there)
    (held_in (record { node = n; port = port }) (lanes_of w.spans)) refl after_it it) behind came)
    after done
shape capacity w after (Cut l) own done =
    met (Shape capacity w (Cut l)) (has_link w l) _ _
    (λ there behind came.
    let made : World = with_span w l (with_link (cut_step (span_at w l).link).1 (span_at w l)) in
    let same : made ≡ behind = let f : Ok made ≡ Ok behind = came in cc in
    cuts (record { link = l; step_is = refl; below = ltb-true l (length w.spans) there; is = sym same })) after done
shape capacity w after (Mend l) own done =
    met (Shape capacity w (Mend l)) (has_link w l) _ _
    (λ there behind came.
    let made : World = with_span w l (with_link (mended (span_at w l).link) (span_at w l)) in
    let same : made ≡ behind = let f : Ok made ≡ Ok behind = came in cc in
    mends (record { link = l; step_is = refl; below = ltb-true l (length w.spans) there; is = sym same })) after done
shape capacity w after (Inject l dir octets) own done = absurd (Rattle.std.proofs.lemmas.Bool.false≢true (sym own))
