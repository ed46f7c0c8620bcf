-- The links and nodes of a topology, one by one.
use Rattle.std.proofs.Common.{◌≡◌, ◌+◌, ◌∷◌, ◌++◌, [], List, ℕ, map, ap, sym, ◌∙◌, refl, arith}
use Rattle.std.specs.List.{range_with_len}
use Rattle.std.proofs.lemmas.List.FromFn.{map-range_with_len_more}
use Rattle.hsr_faults.specs.Fault.{offs}
use Rattle.hsr_faults.specs.declared.fault.Off.{Off}
use Rattle.hsr_faults.specs.declared.fault.Off.TheVariants.{Link, Node}

nothing : (xs : List Off) → xs ++ [] ≡ xs
nothing [] = refl
nothing (x ∷ xs) = ap (λ (ys : List Off). x ∷ ys) (nothing xs)

regroup : (xs ys zs : List Off) → (xs ++ ys) ++ zs ≡ xs ++ (ys ++ zs)
regroup [] ys zs = refl
regroup (x ∷ xs) ys zs = ap (λ (ws : List Off). x ∷ ws) (regroup xs ys zs)

pub link_more : (l : ℕ) → offs l 0 ++ Link l ∷ [] ≡ offs (l + 1) 0
link_more l =
    ap (λ (xs : List Off). xs ++ Link l ∷ []) (nothing (map Link (range_with_len 0 l)))
    ∙ (sym (map-range_with_len_more Link 0 l l (omega arith)) ∙ sym (nothing (map Link (range_with_len 0 (l + 1)))))

pub node_more : (l k : ℕ) → offs l k ++ Node k ∷ [] ≡ offs l (k + 1)
node_more l k =
    regroup (map Link (range_with_len 0 l)) (map Node (range_with_len 0 k)) (Node k ∷ [])
    ∙ ap (λ (xs : List Off). map Link (range_with_len 0 l) ++ xs) (sym (map-range_with_len_more Node 0 k k (omega arith)))
