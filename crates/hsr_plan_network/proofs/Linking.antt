-- The links of rings.
use Rattle.std.proofs.Common.{◌≡◌, ℕ, ◌+◌, ◌<◌, ◌∙◌, ◌++◌, length, get_or, drop, map, List, [], ◌∷◌, refl, ap, sym, append_assoc, append-nil}
use Rattle.std.proofs.lemmas.List.{drop_more}
use Rattle.hsr_topology.specs.declared.end.End.{End}
use Rattle.hsr_plan_network.specs.Links.{ring_link, ring_links}

pub ring_links_step : (rings all : List (List (List ℕ))) (names : List (List ℕ)) (seen : List (List End)) (i : ℕ) (d : List (List ℕ)) → i < length all
    → seen ++ ring_links rings names i (drop i all) ≡ (seen ++ map (ring_link rings names i (get_or all i d)) (get_or all i d)) ++ ring_links rings names (i + 1) (drop (i + 1) all)
ring_links_step rings all names seen i d h =
    ap (λ rs. seen ++ ring_links rings names i rs) (drop_more all i d h)
    ∙ sym (append_assoc seen (map (ring_link rings names i (get_or all i d)) (get_or all i d)) (ring_links rings names (i + 1) (drop (i + 1) all)))
