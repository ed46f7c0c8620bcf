-- Nodes that did nothing.
use Rattle.std.proofs.Common.{◌≡◌, ℕ, ◌+◌, ◌≤◌, List, [], ◌∷◌, map, length, refl, sym, ap, ◌∙◌, suc}
use Rattle.std.specs.List.{range_with_len}
use Rattle.hsr_node.specs.Kept.{Record, past_of}
use Rattle.hsr_node.specs.declared.entry.Entry.{Entry}
use Rattle.hsr_node.specs.declared.place.Place.{Place}
use Rattle.hsr_world_links.specs.Ports.{places_of}
use Rattle.hsr_world_laws.specs.Spans.{Span}
use Rattle.hsr_ring.specs.Starting.{new_records}
use Rattle.hsr_ring.specs.Views.{AreNumbered, world_of}
use Rattle.hsr_world_laws.specs.World.{new_span, new_world}
use Rattle.hsr_topology.specs.declared.end.End.{End}

new_places : (k : ℕ) (places : List Place) → places_of (new_records k places) ≡ places
new_places k [] = refl
new_places k (place ∷ places) = ap (λ (ps : List Place). place ∷ ps) (new_places (k + 1) places)

new_pasts : (k : ℕ) (places : List Place) → map past_of (new_records k places) ≡ map (λ (place : Place). []) places
new_pasts k [] = refl
new_pasts k (place ∷ places) = ap (λ (ps : List (List Entry)). [] ∷ ps) (new_pasts (k + 1) places)

new_numbers : (k : ℕ) (places : List Place) → map (λ (r : Record). r.number) (new_records k places) ≡ range_with_len k (length places)
new_numbers k [] = refl
new_numbers k (place ∷ places) = ap (λ (ns : List ℕ). k ∷ ns) (new_numbers (k + 1) places)

new_length : (k : ℕ) (places : List Place) → length (new_records k places) ≡ length places
new_length k [] = refl
new_length k (place ∷ places) = ap suc (new_length (k + 1) places)

pub new_numbered : (nodes : List Record) (places : List Place) → nodes ≡ new_records 0 places → length places ≤ 64 → AreNumbered nodes
new_numbered nodes places is few =
    let long = ap length is ∙ new_length 0 places in
    record {
      few = rw long few;
      numbered = ap (map (λ (r : Record). r.number)) is ∙ (new_numbers 0 places ∙ ap (range_with_len 0) (sym long));
    }

pub new_world_is : (room : ℕ) (places : List Place) (links : List (List End)) (nodes : List Record) (spans : List Span) →
    nodes ≡ new_records 0 places → spans ≡ map (new_span room) links → world_of 0 nodes spans [] ≡ new_world room places links
new_world_is room places links nodes spans is seen =
    let at = ap places_of is ∙ new_places 0 places in
    let records = ap (map past_of) is ∙ new_pasts 0 places in
    λ i. record { moment = 0; places = at i; records = records i; spans = seen i; plan = [] }
