-- When two ends are one.
use Rattle.std.proofs.Common.{◌≡◌, ℕ, ◌==◌, ◌&&◌, Bool, true, false, ap, ◌∙◌, arith, eqb-true, eq-eqb}
use Rattle.std.proofs.lemmas.Bool.{and_from, and_parts}
use Rattle.hsr_topology.specs.Links.{is_same_end}
use Rattle.hsr_topology.specs.declared.end.End.{End}

pub end_is : (a b : End) → is_same_end a b ≡ true → a ≡ b
end_is a b h =
    let parts = and_parts (a.node == b.node) (a.port == b.port) h in
    let node = eqb-true a.node b.node parts.0 in
    let port = eqb-true a.port b.port parts.1 in
    λ i. record { node = node i; port = port i }

pub end_same : (a b : End) → a ≡ b → is_same_end a b ≡ true
end_same a b e = and_from (a.node == b.node) (a.port == b.port) (eq-eqb a.node b.node (ap (λ (x : End). x.node) e)) (eq-eqb a.port b.port (ap (λ (x : End). x.port) e))

-- the other way round
pub end_apart : (a b : End) → is_same_end b a ≡ false → is_same_end a b ≡ false
end_apart a b h = flip (a.node == b.node) (b.node == a.node) (a.port == b.port) (b.port == a.port) (numbers a.node b.node) (numbers a.port b.port) h
  where
    numbers : (m k : ℕ) → (m == k) ≡ (k == m)
    numbers m k = grind arith

    flip : (x y u v : Bool) → x ≡ y → u ≡ v → (y && v) ≡ false → (x && u) ≡ false
    flip x y u v e f h = ap (λ z. z && u) e ∙ (ap (λ z. y && z) f ∙ h)
