-- Each step keeps the ends of links, and so the ports of a world and the links that touch a node.
use Rattle.std.specs.Prelude.{if◌then◌else◌}
use Rattle.std.proofs.Common.{◌≡◌, ℕ, ◌*◌, ◌≤◌, nat_lt, Bool, true, false, max, List, [], ◌∷◌, map, length, Option, Some, None, Result, Ok, Err, refl, ap, sym, subst, ◌∙◌}
use Rattle.std.specs.List.{range_with_len}
use Rattle.hsr_topology.specs.declared.end.End.{End}
use Rattle.hsr_link.specs.Link.{inject_step, take_step}
use Rattle.hsr_link.specs.Rows.{first_copy}
use Rattle.hsr_link.specs.declared.row.Dir.{Dir}
use Rattle.hsr_link.specs.declared.row.Dir.TheVariants.{Forth, Back}
use Rattle.hsr_node.specs.Record.{answer, now}
use Rattle.hsr_node.specs.declared.event.Carried.{Carried}
use Rattle.hsr_node.specs.declared.event.Event.{Event}
use Rattle.hsr_node.specs.declared.event.Event.TheVariants as event
use Rattle.hsr_node.specs.declared.event.Outcome.{Outcome}
use Rattle.hsr_node.specs.declared.event.StepFault.{StepFault}
use Rattle.hsr_node.specs.declared.place.Place.{Place}
use Rattle.hsr_world_laws.specs.Spans.{Span, Spot, emptied, held_in, lane_of, lanes_of, spot_from, spread, with_lane, with_link}
use Rattle.hsr_world_links.specs.Ports.{AreTold, port_at, ports_in}
use Rattle.hsr_world_laws.specs.World.{World, and_added, cleared, entered, has_link, has_node, has_port, judged_at, span_at, or_same, owner_at, planned, put_at, put_from, record_at, take_to, taken_by, tried, with_span}
use Rattle.hsr_topology.specs.Workers.{port_worker}
use Rattle.hsr_world_links.specs.declared.port.Port.{Port}
use Rattle.hsr_world_steps.specs.declared.step.Step.{Step}
use Rattle.hsr_world_steps.specs.declared.step.Step.TheVariants.{Clock, Send, Supervise, Age, Put, Take, Judge, Cut, Mend, Inject}
use Rattle.hsr_world_steps.specs.declared.step.WorldFault.{WorldFault}
use Rattle.hsr_world_steps.specs.declared.step.WorldFault.TheVariants.{TooLong}
use Rattle.hsr_world_laws.proofs.Counts.{map_set_same}
use Rattle.hsr_world_links.specs.Touching.{AreTouching, touching_from, touching_in}
use Rattle.hsr_world_links.proofs.Touched.{touching_same}
use Rattle.hsr_world_links.proofs.Ports.{ends_at, map_same, mapped, port_same}

-- ---- each step keeps the ends of links

pub record AreSame (v w : World) : Type 0 where
  pub places : v.places ≡ w.places
  pub ends : map ends_at v.spans ≡ map ends_at w.spans

pub same : (w : World) → AreSame w w
same w = record { places = refl; ends = refl }

same_span : (w : World) (l : ℕ) (span : Span) → ends_at span ≡ ends_at (span_at w l) → AreSame (with_span w l span) w
same_span w l span e = record { places = refl; ends = map_set_same ends_at w.spans l span _ e }

guarded : (w : World) (b : Bool) (r : Result World WorldFault) (f : WorldFault) → AreSame (or_same w r) w → AreSame (or_same w (if b then r else Err f)) w
guarded w true r f met = met
guarded w false r f met = same w

-- an event at a node, in a world with the same ends
pub same_entered : (capacity : ℕ) (v w : World) (worker n : ℕ) (event : Event) → AreSame v w → AreSame (or_same w (entered capacity v worker n event)) w
same_entered capacity v w worker n event s = by_case (answer capacity (owner_at v n) (record_at v n) (max (now (record_at v n)) v.moment) event)
  where
    by_case : (r : Result Outcome StepFault) → AreSame (or_same w (and_added v worker n event r)) w
    by_case (Err fault) = same w
    by_case (Ok outcome) = record { places = s.places; ends = mapped (spread (owner_at v n) (record { worker = worker; at = v.moment; event = event; outcome = outcome }) (record_at v n)) (λ x. (refl, refl)) v.spans ∙ s.ends }

same_own : (capacity : ℕ) (w : World) (n : ℕ) (event : Event) → AreSame (or_same w (entered capacity (planned w n event) 0 n event)) w
same_own capacity w n event = same_entered capacity (planned w n event) w 0 n event (record { places = refl; ends = refl })

same_judged : (capacity : ℕ) (w : World) (end : End) (held : Option Carried) → AreSame (or_same w (judged_at capacity w end held)) w
same_judged capacity w end None = same w
same_judged capacity w end (Some copy) =
    same_entered capacity (cleared w end) w (port_worker end) end.node (event.Arrive end.port copy) (record { places = refl; ends = mapped (emptied end) (λ x. (refl, refl)) w.spans })

same_box : (w : World) (spot : Spot) (box : List Carried) → AreSame (or_same w (put_from w spot box)) w
same_box w spot [] = same w
same_box w spot (copy ∷ box) = same_span w spot.link _ (kept spot.dir (span_at w spot.link))
  where
    kept : (dir : Dir) (span : Span) → ends_at (with_lane dir (record (lane_of dir span) { outbox = box }) span) ≡ ends_at span
    kept Forth span = refl
    kept Back span = refl

same_put : (w : World) (spot : Option Spot) → AreSame (or_same w (put_at w spot)) w
same_put w None = same w
same_put w (Some spot) = same_box w spot (lane_of spot.dir (span_at w spot.link)).outbox

same_take : (w : World) (l : ℕ) (dir : Dir) (hand : Option Carried) → AreSame (or_same w (take_to w l dir hand)) w
same_take w l dir (Some held) = same w
same_take w l dir None = by_case (first_copy dir (span_at w l).link.rows)
  where
    kept : (dir : Dir) (span : Span) (copy : Carried) → ends_at (with_lane dir (record (lane_of dir span) { hand = Some copy }) span) ≡ ends_at span
    kept Forth span copy = refl
    kept Back span copy = refl

    by_case : (first : Option Carried) → AreSame (or_same w (taken_by w l dir (first, (take_step (span_at w l).link dir).1))) w
    by_case None = same w
    by_case (Some copy) = same_span w l _ (kept dir (span_at w l) copy)

same_injected : (w : World) (l : ℕ) (dir : Dir) (octets : List ℕ) (b : Bool) →
    AreSame (or_same w (if b then Err TooLong else Ok (with_span w l (with_link (inject_step (span_at w l).link dir (record { probe = None; octets = octets })).1 (span_at w l))))) w
same_injected w l dir octets true = same w
same_injected w l dir octets false = same_span w l _ refl

pub keeps_ends : (capacity : ℕ) (w : World) (step : Step) → AreSame (or_same w (tried capacity w step)) w
unfolding tried
keeps_ends capacity w (Clock at) = record { places = refl; ends = refl }
keeps_ends capacity w (Send n from dst vlan ethertype payload) = guarded w (has_node w n) _ _ (same_own capacity w n (event.Send from dst vlan ethertype payload))
keeps_ends capacity w (Supervise n about) = guarded w (has_node w n) _ _ (same_own capacity w n (event.Supervise about))
keeps_ends capacity w (Age n) = guarded w (has_node w n) _ _ (same_own capacity w n event.Age)
keeps_ends capacity w (Put n port) = guarded w (has_node w n) _ _ (guarded w (has_port w n port) _ _ (same_put w (spot_from (record { node = n; port = port }) 0 w.spans)))
keeps_ends capacity w (Take l dir) = guarded w (has_link w l) _ _ (same_take w l dir (lane_of dir (span_at w l)).hand)
keeps_ends capacity w (Judge n port) =
    let end : End = record { node = n; port = port } in
    guarded w (has_node w n) _ _ (guarded w (has_port w n port) _ _ (same_judged capacity w end (held_in end (lanes_of w.spans))))
keeps_ends capacity w (Cut l) = guarded w (has_link w l) _ _ (same_span w l _ refl)
keeps_ends capacity w (Mend l) = guarded w (has_link w l) _ _ (same_span w l _ refl)
keeps_ends capacity w (Inject l dir octets) = guarded w (has_link w l) _ _ (same_injected w l dir octets (nat_lt 2048 (length octets)))

pub told_same : (v w : World) (ports : List Port) → AreSame v w → AreTold w.places w.spans ports → AreTold v.places v.spans ports
told_same v w ports s told = record {
  few = subst (λ (places : List Place). length places ≤ 64) (sym s.places) told.few;
  is = told.is
      ∙ sym (ap (λ (places : List Place). ports_in places v.spans) s.places
      ∙ map_same (port_at w.places v.spans) (port_at w.places w.spans) (port_same w.places v.spans w.spans s.ends) (range_with_len 0 (8 * length w.places)));
}

pub still_touching : (v w : World) (all : List (List ℕ)) → AreSame v w → AreTouching w.places w.spans all → AreTouching v.places v.spans all
still_touching v w all s is =
    is
    ∙ map_same (λ n. touching_from n 0 w.spans) (λ n. touching_from n 0 v.spans) (λ n. sym (touching_same v.spans w.spans s.ends n)) (range_with_len 0 (length w.places))
    ∙ ap (λ (places : List Place). touching_in (length places) v.spans) (sym s.places)

-- an event at a node leaves the ends what they are
pub entered_ends : (capacity : ℕ) (w after : World) (worker n : ℕ) (event : Event) → entered capacity w worker n event ≡ Ok after → map ends_at after.spans ≡ map ends_at w.spans
entered_ends capacity w after worker n event done =
    let s : AreSame after w = subst (λ (v : World). AreSame v w) (ap (or_same w) done) (same_entered capacity w w worker n event (same w)) in
    s.ends
