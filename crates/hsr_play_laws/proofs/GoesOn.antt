-- Where something is under way in a play some move is done.
use Rattle.std.proofs.Common.{◌≡◌, inl, inr, ℕ, ◌^◌, ◌<◌, max, true, if◌then◌else◌, List, ◌∷◌, length, Option, Some, None, Result, Ok, Err, refl, sym, ap, ◌∙◌, subst, ⊎_elim, lt-ltb}
use Rattle.std.specs.Prelude.{slice_index_or}
use Rattle.std.specs.List.{list_any}
use Rattle.std.proofs.lemmas.Bool.{cases_Bool, cond-true}
use Rattle.hsr_link.specs.Link.{put_step, take_step}
use Rattle.hsr_link.specs.Rows.{first_copy}
use Rattle.hsr_link.specs.declared.row.Dir.{Dir}
use Rattle.hsr_node.specs.Place.{ports}
use Rattle.hsr_node.specs.Record.{now, steps}
use Rattle.hsr_node.specs.declared.event.Carried.{Carried}
use Rattle.hsr_node.specs.declared.event.Event.TheVariants as event
use Rattle.hsr_node.specs.declared.place.Place.{Place}
use Rattle.hsr_node.specs.declared.place.Place.TheVariants.{QuadBox}
use Rattle.hsr_topology.specs.Wired.{HasPort}
use Rattle.hsr_topology.specs.Workers.{port_worker}
use Rattle.hsr_topology.specs.declared.end.End.{End}
use Rattle.hsr_world_laws.specs.Closing.{is_busy}
use Rattle.hsr_world_laws.specs.Spans.{Spot, held_in, lane_of, lanes_of, spot_from, with_lane, with_link}
use Rattle.hsr_world_laws.specs.World.{World, added, and_added, cleared, has_link, has_node, has_port, judged_at, owner_at, put_at, put_from, record_at, span_at, take_to, taken_by, tried, with_span}
use Rattle.hsr_world_laws.proofs.Closed.{wires}
use Rattle.hsr_world_laws.proofs.Keeps.{entry_of}
use Rattle.hsr_world_steps.specs.declared.step.Step.{Step}
use Rattle.hsr_world_steps.specs.declared.step.Step.TheVariants.{Put, Take, Judge}
use Rattle.hsr_world_steps.specs.declared.step.WorldFault.{WorldFault}
use Rattle.hsr_world_steps.specs.declared.step.WorldFault.TheVariants.{NoSuchLink, NoSuchNode, NoSuchPort}
use Rattle.hsr_plays.specs.Conditions.{IsClear}
use Rattle.hsr_plays.specs.Law.{GoesOn}
use Rattle.hsr_plays.specs.Setup.{IsSetup, Setup, is_move}
use Rattle.hsr_play_laws.specs.Told.{IsTold}
use Rattle.hsr_play_laws.proofs.FewSteps.{steps_few}
use Rattle.hsr_play_laws.proofs.Handled.{arrival_answered}
use Rattle.hsr_play_laws.proofs.Lanes.{AreWired, IsLane, lane_is}
use Rattle.hsr_play_laws.proofs.Left.{Left, busy_left, to_judge, to_put, to_take}
use Rattle.hsr_play_laws.proofs.Told.{tells_all}
use Rattle.hsr_play_laws.proofs.Worlds.{places_are}

-- some move is done
abbrev CanMove : ℕ → World → Type 0
CanMove capacity w = (move : Step) × (after : World) × (is_move move ≡ true) × (tried capacity w move ≡ Ok after)

-- ---- what a port that is there lets through

if_met : (w : World) (end : End) → HasPort w.places end → (r : Result World WorldFault) → (if has_node w end.node then (if has_port w end.node end.port then r else Err NoSuchPort) else Err NoSuchNode) ≡ r
if_met w end has r =
    cond-true (has_node w end.node) _ _ (lt-ltb end.node (length w.places) has.node)
    ∙ cond-true (has_port w end.node end.port) r (Err NoSuchPort) (lt-ltb end.port (ports (slice_index_or w.places end.node QuadBox)) (has.port QuadBox))

-- ---- the three moves

puts : (capacity : ℕ) (w : World) (end : End) → HasPort w.places end → (spot : Spot) → spot_from end 0 w.spans ≡ Some spot → (copy : Carried) (box : List Carried) →
    (lane_of spot.dir (span_at w spot.link)).outbox ≡ copy ∷ box → CanMove capacity w
unfolding tried
puts capacity w end has spot found copy box out =
    let after : World = with_span w spot.link (with_link (put_step (span_at w spot.link).link spot.dir copy).1
    (with_lane spot.dir (record (lane_of spot.dir (span_at w spot.link)) { outbox = box }) (span_at w spot.link))) in
    (Put end.node end.port, after, refl, if_met w end has (put_at w (spot_from end 0 w.spans)) ∙ (ap (put_at w) found ∙ ap (put_from w spot) out))

judges : (capacity : ℕ) (w : World) (end : End) → HasPort w.places end → (copy : Carried) → held_in end (lanes_of w.spans) ≡ Some copy → steps (record_at w end.node) < 2 ^ 62 →
    CanMove capacity w
unfolding tried
judges capacity w end has copy held few =
    let v : World = cleared w end in
    let a = arrival_answered capacity (owner_at w end.node) (record_at w end.node) (max (now (record_at w end.node)) w.moment) end.port copy (has.port QuadBox) few in
    let after : World = added v end.node (entry_of w (port_worker end) (event.Arrive end.port copy) a.0) in (
      Judge end.node end.port,
      after,
      refl,
      if_met w end has (judged_at capacity w end (held_in end (lanes_of w.spans))) ∙ (ap (judged_at capacity w end) held ∙ ap (and_added v (port_worker end) end.node (event.Arrive end.port copy)) a.1),
    )

takes : (capacity : ℕ) (w : World) (l : ℕ) (dir : Dir) → l < length w.spans → (copy : Carried) → first_copy dir (span_at w l).link.rows ≡ Some copy → (lane_of dir (span_at w l)).hand ≡ None → CanMove capacity w
unfolding tried
takes capacity w l dir below copy first free =
    let after : World = with_span w l (with_link (take_step (span_at w l).link dir).1 (with_lane dir (record (lane_of dir (span_at w l)) { hand = Some copy }) (span_at w l))) in (
      Take l dir,
      after,
      refl,
      cond-true (has_link w l) (take_to w l dir (lane_of dir (span_at w l)).hand) (Err NoSuchLink) (lt-ltb l (length w.spans) below)
          ∙ (ap (take_to w l dir) free ∙ ap (λ o. taken_by w l dir (o, (take_step (span_at w l).link dir).1)) first),
    )

-- ---- in a play

module _ (s : Setup) (setup : IsSetup s) (clear : IsClear s) (time n : ℕ) (w : World) (told : IsTold s time n w) where
  wired_now : AreWired s.places s.links w
  wired_now = record { stands = places_are s w told.own; joins = wires s.capacity s.places s.links w setup.wired told.own.reached }

  lane : (l : ℕ) (dir : Dir) → l < length w.spans → IsLane s.places w l dir
  lane l dir below = lane_is s.places s.links w setup.wired wired_now l below dir

  port_here : (end : End) → HasPort s.places end → HasPort w.places end
  port_here end has = subst (λ (places : List Place). HasPort places end) (sym (places_are s w told.own)) has

  moves : Left w.spans → CanMove s.capacity w
  moves (to_put l dir copy box below out) =
      let it = lane l dir below in
      puts s.capacity w (lane_of dir (span_at w l)).from (port_here (lane_of dir (span_at w l)).from it.from) (record { link = l; dir = dir }) it.spot copy box out
  moves (to_judge l dir copy below hand) =
      let it = lane l dir below in
      let end : End = (lane_of dir (span_at w l)).to in
      judges s.capacity w end (port_here end it.to) copy (it.held ∙ hand) (steps_few s setup clear time n w told end.node)
  moves (to_take l dir copy below first) = by_hand (lane_of dir (span_at w l)).hand refl
    where
      by_hand : (hand : Option Carried) → (lane_of dir (span_at w l)).hand ≡ hand → CanMove s.capacity w
      by_hand None free = takes s.capacity w l dir below copy first free
      by_hand (Some held) hand =
          let it = lane l dir below in
          let end : End = (lane_of dir (span_at w l)).to in
          judges s.capacity w end (port_here end it.to) held (it.held ∙ hand) (steps_few s setup clear time n w told end.node)

pub goes_on : GoesOn
goes_on s done later n w setup clear played =
    let told = tells_all s done later n w setup clear played in
    ⊎_elim (λ busy. inr (moves s setup clear (length done) n w told (busy_left w.spans busy))) (λ quiet. inl quiet) (cases_Bool (list_any is_busy w.spans))
