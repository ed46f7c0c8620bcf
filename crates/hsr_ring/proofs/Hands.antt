-- What a port holds leaves its hand, and comes back.
use Rattle.std.specs.Prelude.{if◌then◌else◌}
use Rattle.std.proofs.Common.{◌≡◌, ℕ, zero, suc, Bool, true, false, List, [], ◌∷◌, set, Option, Some, None, refl, ap, sym, ◌∙◌}
use Rattle.hsr_topology.specs.Links.{is_same_end}
use Rattle.hsr_topology.specs.declared.end.End.{End}
use Rattle.hsr_topology.proofs.Ends.{end_same}
use Rattle.hsr_link.specs.declared.row.Dir.{Dir}
use Rattle.hsr_link.specs.declared.row.Dir.TheVariants.{Forth, Back}
use Rattle.hsr_node.specs.declared.event.Carried.{Carried}
use Rattle.hsr_node.specs.declared.event.Event.{Event}
use Rattle.hsr_node.specs.declared.event.Event.TheVariants as event
use Rattle.hsr_world_laws.specs.Spans.{Lane, Span, Spot, emptied, held_in, lane_of, lanes_of, on_lanes}
use Rattle.hsr_world_laws.specs.World.{World, cleared, entered, judged_at, span_in}
use Rattle.hsr_topology.specs.Workers.{port_worker}
use Rattle.hsr_ring.specs.Hands.{given_back, in_hand}
use Rattle.hsr_world_links.specs.Hands.{hand_in, handed}
use Rattle.hsr_world_links.specs.Ports.{spot_to}
use Rattle.hsr_world_laws.proofs.Counts.{map_set_same}
use Rattle.hsr_ring.proofs.Entered.{cleared_entered, cleared_result}
use Rattle.hsr_world_links.proofs.Ports.{hand_spot, spot_to_leads}

-- the same hand again
own_hand : (dir : Dir) (span : Span) (hand : Option Carried) → (lane_of dir span).hand ≡ hand → handed dir hand span ≡ span
own_hand Forth span hand e = ap (λ (h : Option Carried). record span { forth = record span.forth { hand = h } }) (sym e)
own_hand Back span hand e = ap (λ (h : Option Carried). record span { back = record span.back { hand = h } }) (sym e)

handed_twice : (dir : Dir) (span : Span) (g h : Option Carried) → handed dir h (handed dir g span) ≡ handed dir h span
handed_twice Forth span g h = refl
handed_twice Back span g h = refl

same_at : (spans : List Span) (l : ℕ) (dir : Dir) (hand : Option Carried) → (lane_of dir (span_in spans l)).hand ≡ hand → set spans l (handed dir hand (span_in spans l)) ≡ spans
same_at [] l dir hand e = refl
same_at (x ∷ xs) zero dir hand e = ap (λ (y : Span). y ∷ xs) (own_hand dir x hand e)
same_at (x ∷ xs) (suc l) dir hand e = ap (λ (ys : List Span). x ∷ ys) (same_at xs l dir hand e)

twice_at : (spans : List Span) (l : ℕ) (dir : Dir) (g h : Option Carried) →
    set (set spans l (handed dir g (span_in spans l))) l (handed dir h (span_in (set spans l (handed dir g (span_in spans l))) l)) ≡ set spans l (handed dir h (span_in spans l))
twice_at [] l dir g h = refl
twice_at (x ∷ xs) zero dir g h = ap (λ (y : Span). y ∷ xs) (handed_twice dir x g h)
twice_at (x ∷ xs) (suc l) dir g h = ap (λ (ys : List Span). x ∷ ys) (twice_at xs l dir g h)

-- what was held is held again
pub same_hand : (w : World) (spot : Option Spot) (hand : Option Carried) → hand_in w.spans spot ≡ hand → in_hand hand w spot ≡ w
same_hand w None hand e = refl
same_hand w (Some s) hand e = ap (λ (spans : List Span). record w { spans = spans }) (same_at w.spans s.link s.dir hand e)

hand_twice : (w : World) (spot : Option Spot) (g h : Option Carried) → in_hand h (in_hand g w spot) spot ≡ in_hand h w spot
hand_twice w None g h = refl
hand_twice w (Some s) g h = ap (λ (spans : List Span). record w { spans = spans }) (twice_at w.spans s.link s.dir g h)

pub held_again : (w v after : World) (spot : Option Spot) (port : ℕ) (copy : Carried) (e : Event) → v ≡ in_hand None w spot → hand_in w.spans spot ≡ Some copy → e ≡ event.Arrive port copy →
    after ≡ given_back e v spot → after ≡ w
held_again w v after spot port copy e is held came back =
    back ∙ ap (λ (x : Event). given_back x v spot) came ∙ ap (λ (u : World). in_hand (Some copy) u spot) is ∙ hand_twice w spot None (Some copy) ∙ same_hand w spot (Some copy) held

-- a hand that is empty is empty once more
emptied_lane : (end : End) (lane : Lane) → lane.to ≡ end → emptied end (record lane { hand = None }) ≡ emptied end lane
emptied_lane end lane to = ap (λ (h : Option Carried). record lane { hand = h }) (by_case (is_same_end lane.to end) (end_same lane.to end to))
  where
    by_case : (b : Bool) → b ≡ true → (if b then None else None) ≡ (if b then None else lane.hand)
    by_case true e = refl
    by_case false e = absurd cc

emptied_handed : (end : End) (dir : Dir) (span : Span) → (lane_of dir span).to ≡ end → on_lanes (emptied end) (handed dir None span) ≡ on_lanes (emptied end) span
emptied_handed end Forth span to = ap (λ (lane : Lane). record (on_lanes (emptied end) span) { forth = lane }) (emptied_lane end span.forth to)
emptied_handed end Back span to = ap (λ (lane : Lane). record (on_lanes (emptied end) span) { back = lane }) (emptied_lane end span.back to)

cleared_handed : (w : World) (end : End) (spot : Option Spot) → spot ≡ spot_to end 0 w.spans → cleared (in_hand None w spot) end ≡ cleared w end
cleared_handed w end None e = refl
cleared_handed w end (Some s) e = ap (λ (spans : List Span). record w { spans = spans })
    (map_set_same (on_lanes (emptied end)) w.spans s.link (handed s.dir None (span_in w.spans s.link)) _ (emptied_handed end s.dir (span_in w.spans s.link) (spot_to_leads end w.spans s (sym e))))

pub judged_from : (capacity : ℕ) (w v : World) (end : End) (spot : Option Spot) (copy : Carried) → spot ≡ spot_to end 0 w.spans → hand_in w.spans spot ≡ Some copy → v ≡ in_hand None w spot →
    judged_at capacity w end (held_in end (lanes_of w.spans)) ≡ cleared_result end (entered capacity v (port_worker end) end.node (event.Arrive end.port copy))
judged_from capacity w v end spot copy at held is =
    let holds : held_in end (lanes_of w.spans) ≡ Some copy = sym (hand_spot w.spans end) ∙ (ap (hand_in w.spans) (sym at) ∙ held) in
    ap (judged_at capacity w end) holds
    ∙ ap (λ (u : World). entered capacity u (port_worker end) end.node (event.Arrive end.port copy)) (sym (ap (λ (u : World). cleared u end) is ∙ cleared_handed w end spot at))
    ∙ cleared_entered capacity v end (port_worker end) end.node (event.Arrive end.port copy)

pub holds_nothing : (w : World) (end : End) (spot : Option Spot) → spot ≡ spot_to end 0 w.spans → hand_in w.spans spot ≡ None → None ≡ held_in end (lanes_of w.spans)
holds_nothing w end spot at held = sym held ∙ (ap (hand_in w.spans) at ∙ hand_spot w.spans end)
