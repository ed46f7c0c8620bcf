-- A world that was reached is lawful.
use Rattle.std.proofs.Common.{◌≡◌, ℕ, List, [], ◌∷◌, false, map, refl, ap, ap₂, sym, subst, ◌∙◌}
use Rattle.std.specs.List.{AllByRecursion}
use Rattle.std.proofs.lemmas.List.Elements.{recursion_from_All}
use Rattle.hsr_run_laws.specs.Closed.{IsOfSend}
use Rattle.hsr_finished_run.specs.Finished.{IsPlanned}
use Rattle.hsr_run_laws.specs.Premises.{NumberedFirst}
use Rattle.hsr_topology.specs.Wired.{IsJoin, IsWired}
use Rattle.hsr_topology.specs.declared.end.End.{End}
use Rattle.hsr_node.specs.declared.place.Place.{Place}
use Rattle.hsr_world_laws.specs.Closing.{IsOwn, run_of}
use Rattle.hsr_world_laws.specs.Law.{IsSound}
use Rattle.hsr_world_laws.specs.Lawful.{IsLawful, ends_of, links_of}
use Rattle.hsr_world_laws.specs.Spans.{Span}
use Rattle.hsr_world_laws.specs.Origin.{EachCopy, is_injected}
use Rattle.hsr_world_laws.specs.Reached.{IsReached}
use Rattle.hsr_world_laws.specs.World.{World, new_world}
use Rattle.hsr_world_laws.proofs.Closed.{always_numbered_first, always_of_send}
use Rattle.hsr_world_laws.proofs.First.{first_sound}
use Rattle.hsr_world_laws.proofs.FitFrames.{frames_reached}
use Rattle.hsr_world_laws.proofs.Keeps.{always_sound}
use Rattle.hsr_world_laws.proofs.Plans.{always_planned}
use Rattle.hsr_world_laws.proofs.Wires.{Wire, first_wires, run_keeps, wire, wire_of}

abbrev ends_in : Wire → List End
ends_in v = v.0 ∷ v.1 ∷ []

joined_back : (places : List Place) (links : List (List End)) → AllByRecursion (IsJoin places) links → map ends_in (map wire_of links) ≡ links
joined_back places [] h = refl
joined_back places (link ∷ links) h = ap₂ (λ (x : List End) (xs : List (List End)). x ∷ xs) (one link h.0) (joined_back places links h.1)
  where
    one : (link : List End) → IsJoin places link → ends_in (wire_of link) ≡ link
    one [] join = absurd join
    one (a ∷ []) join = absurd join
    one (a ∷ b ∷ []) join = refl
    one (a ∷ b ∷ c ∷ ends) join = absurd join

ends_by_wires : (spans : List Span) → links_of spans ≡ map ends_in (map wire spans)
ends_by_wires [] = refl
ends_by_wires (span ∷ spans) = ap (λ (xs : List (List End)). ends_of span ∷ xs) (ends_by_wires spans)

-- the links of a world are those of its topology
pub same_links : (capacity : ℕ) (places : List Place) (links : List (List End)) (w : World) → IsWired places links → IsReached capacity places links w → links_of w.spans ≡ links
same_links capacity places links w wired r =
    ends_by_wires w.spans
    ∙ ap (λ (v : World). map ends_in (map wire v.spans)) (sym r.is)
    ∙ ap (map ends_in) ((run_keeps capacity r.steps (new_world r.room places links)).wires ∙ first_wires r.room links)
    ∙ joined_back places links (recursion_from_All (IsJoin places) links wired.joined)

pub own_of : (capacity : ℕ) (places : List Place) (links : List (List End)) (w : World) → IsWired places links → IsReached capacity places links w → is_injected w.spans ≡ false → IsOwn capacity places links w
own_of capacity places links w wired r none = record { wired = wired; reached = r; frames = frames_reached capacity places links w r r.fit_places r.fit_steps; own = none }

pub lawful : (capacity : ℕ) (places : List Place) (links : List (List End)) (w : World) → IsWired places links → IsReached capacity places links w → IsLawful capacity w
lawful capacity places links w wired r =
    let same : links ≡ links_of w.spans = sym (same_links capacity places links w wired r) in record {
      sound = subst (IsSound capacity) r.is (always_sound capacity r.steps (new_world r.room places links) (first_sound capacity r.room places links wired));
      planned = subst (λ (ls : List (List End)). IsPlanned (run_of capacity ls w) w.plan) same (always_planned capacity places links w r);
      of_send = λ none. subst (λ (ls : List (List End)). EachCopy (IsOfSend (run_of capacity ls w)) w) same (always_of_send capacity places links w (own_of capacity places links w wired r none));
      numbered_first = λ none. subst (λ (ls : List (List End)). NumberedFirst (run_of capacity ls w)) same (always_numbered_first capacity places links w (own_of capacity places links w wired r none));
    }
