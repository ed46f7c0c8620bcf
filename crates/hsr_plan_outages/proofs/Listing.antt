-- Names and what is cut off, one after another.
use Rattle.std.proofs.Common.{◌≡◌, ℕ, suc, ◌+◌, ◌-◌, ◌<◌, ◌≤◌, ◌∙◌, ◌++◌, ◌∷◌, [], List, Bool, true, false, codes, cond, drop, get_or, length, sym, ap, append_assoc, arith}
use Rattle.std.proofs.lemmas.List.{drop_more}
use Rattle.std.specs.List.{filter, range_with_len}
use Rattle.hsr_bitset.specs.Numbers.{has_bit}
use Rattle.hsr_faults.specs.declared.nodes.Nodes.{Nodes}
use Rattle.hsr_faults.specs.declared.outage.Cut.{Cut}
use Rattle.hsr_plan_network.specs.Nodes.{Node}
use Rattle.hsr_plan_outages.specs.Lines.{cut_text, cuts_text, names_text, nodes_among}
use Rattle.hsr_plan_outages.specs.Names.{node_name}

-- ---- nodes of a set

among_more : (set : Nodes) (k n : ℕ) (b : Bool) → has_bit set.bits k ≡ b
    → nodes_among set k (suc n) ≡ cond b (k ∷ nodes_among set (k + 1) n) (nodes_among set (k + 1) n)
unfolding nodes_among
among_more set k n b is = ap (λ v. cond v (k ∷ nodes_among set (k + 1) n) (nodes_among set (k + 1) n)) is

left : (set : Nodes) (k : ℕ) → k < 64 → nodes_among set k (64 - k) ≡ nodes_among set k (suc (64 - (k + 1)))
left set k low = let e : 64 - k ≡ suc (64 - (k + 1)) = omega (arith, low) in ap (nodes_among set k) e

-- a node that is in the set stands behind a mark
pub name_there : (old mid new mark : List ℕ) (nodes : List Node) (set : Nodes) (k : ℕ) → k < 64 → has_bit set.bits k ≡ true → mid ≡ old ++ mark → new ≡ mid ++ node_name nodes k
    → new ++ names_text nodes (codes ",") (nodes_among set (k + 1) (64 - (k + 1))) ≡ old ++ names_text nodes mark (nodes_among set k (64 - k))
name_there old mid new mark nodes set k low is marked named =
    let later = nodes_among set (k + 1) (64 - (k + 1)) in
    let name = node_name nodes k in
    let rest = names_text nodes (codes ",") later in
    let put : new ≡ old ++ (mark ++ name) = named ∙ (ap (λ xs. xs ++ name) marked ∙ append_assoc old mark name) in
    ap (λ xs. xs ++ rest) put ∙ (append_assoc old (mark ++ name) rest ∙ ap (λ ks. old ++ names_text nodes mark ks) (sym (left set k low ∙ among_more set k (64 - (k + 1)) true is)))

-- one that isn't changes nothing
pub name_absent : (old mark : List ℕ) (nodes : List Node) (set : Nodes) (k : ℕ) → k < 64 → has_bit set.bits k ≡ false
    → old ++ names_text nodes mark (nodes_among set (k + 1) (64 - (k + 1))) ≡ old ++ names_text nodes mark (nodes_among set k (64 - k))
name_absent old mark nodes set k low is = ap (λ ks. old ++ names_text nodes mark ks) (sym (left set k low ∙ among_more set k (64 - (k + 1)) false is))

pub none_above : (set : Nodes) (k : ℕ) → 64 ≤ k → nodes_among set k (64 - k) ≡ []
unfolding nodes_among
none_above set k high = let e : 64 - k ≡ 0 = omega (arith, high) in ap (λ n. filter (has_bit set.bits) (range_with_len k n)) e

-- ---- what is cut off

pub cuts_step : (seen mark : List ℕ) (nodes : List Node) (cuts : List Cut) (i : ℕ) (d : Cut) → i < length cuts
    → seen ++ cuts_text nodes mark (drop i cuts) ≡ (seen ++ (mark ++ cut_text nodes (get_or cuts i d))) ++ cuts_text nodes (codes "; ") (drop (i + 1) cuts)
cuts_step seen mark nodes cuts i d low =
    ap (λ cs. seen ++ cuts_text nodes mark cs) (drop_more cuts i d low)
    ∙ sym (append_assoc seen (mark ++ cut_text nodes (get_or cuts i d)) (cuts_text nodes (codes "; ") (drop (i + 1) cuts)))
