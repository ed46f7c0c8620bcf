-- The addresses of one more node.
use Rattle.std.proofs.Common.{◌≡◌, ℕ, ◌+◌, ◌<◌, ◌≤◌, ◌∙◌, ◌++◌, append_assoc, List, [], ◌∷◌, length, get_or, drop, ap, sym}
use Rattle.std.proofs.lemmas.List.{at_drop_more, at_drop_all}
use Rattle.hsr_plan_network.specs.Nodes.{Node}
use Rattle.hsr_expected.specs.Expected.{macs_by, macs_of}

pub macs_more : (nodes : List Node) (i : ℕ) (n : Node) (macs next whole : List (List ℕ)) → i < length nodes → n ≡ get_or nodes i n
    → next ≡ macs ++ macs_by n → macs ++ macs_of (drop i nodes) ≡ whole → next ++ macs_of (drop (i + 1) nodes) ≡ whole
macs_more nodes i n macs next whole h here is same =
    ap (λ ms. ms ++ macs_of (drop (i + 1) nodes)) is ∙ append_assoc macs (macs_by n) (macs_of (drop (i + 1) nodes))
    ∙ ap (λ (x : Node). macs ++ macs_of (x ∷ drop (i + 1) nodes)) here
    ∙ ap (λ rest. macs ++ rest) (sym (at_drop_more macs_of nodes i n h)) ∙ same

pub macs_all : (nodes : List Node) (i : ℕ) → length nodes ≤ i → macs_of (drop i nodes) ≡ []
macs_all nodes i h = at_drop_all macs_of nodes i h
