-- Rounds of supervision.
use Rattle.std.proofs.Common.{◌≡◌, ℕ, zero, suc, ◌+◌, ◌-◌, ◌<◌, ◌≤◌, ◌∙◌, ◌++◌, false, true, min, nat_lt, length, get_or, drop, List, [], refl, ap, sym, arith, append_assoc, append-nil}
use Rattle.std.proofs.lemmas.List.{drop_more}
use Rattle.std.proofs.lemmas.Bool.Decides.{nat_tests}
use Rattle.hsr_plan_network.specs.Nodes.{Node}
use Rattle.hsr_plan_schedule.specs.Moments.{life_of, lives_at, rounds}
use Rattle.hsr_plan_schedule.specs.declared.occasion.Occasion.{Occasion}

pub lives_step : (at : ℕ) (seen : List Occasion) (nodes : List Node) (i : ℕ) (d : Node) → i < length nodes
    → seen ++ lives_at at i (drop i nodes) ≡ (seen ++ life_of (get_or nodes i d).place at i) ++ lives_at at (i + 1) (drop (i + 1) nodes)
lives_step at seen nodes i d h =
    ap (λ ns. seen ++ lives_at at i ns) (drop_more nodes i d h)
    ∙ sym (append_assoc seen (life_of (get_or nodes i d).place at i) (lives_at at (i + 1) (drop (i + 1) nodes)))

-- nothing comes at the end or behind it
pub rounds_past : (n at every until : ℕ) (nodes : List Node) → until ≤ at → rounds n at every until nodes ≡ []
unfolding rounds
rounds_past zero at every until nodes h = refl
rounds_past (suc n) at every until nodes h = let e : nat_lt at until ≡ false = grind (arith, nat_tests) in rw e refl

next : (n at every until : ℕ) (nodes : List Node) → at < until → rounds (suc n) at every until nodes ≡ lives_at at 0 nodes ++ rounds n (at + every) every until nodes
unfolding rounds
next n at every until nodes h = let e : nat_lt at until ≡ true = grind (arith, nat_tests) in rw e refl

-- a moment that is bounded far behind the end is as good
bounded : (n x every until most : ℕ) (nodes : List Node) → until ≤ most → rounds n (min x most) every until nodes ≡ rounds n x every until nodes
bounded n x every until most nodes h =
    grind (arith, rounds_past n x every until nodes, rounds_past n (min x most) every until nodes)

-- a round joins those before it
pub rounds_step : (seen : List Occasion) (most i at every until later bound : ℕ) (nodes : List Node) → i < most → at < until → until ≤ bound → later ≡ min (at + every) bound
    → seen ++ rounds (most - i) at every until nodes ≡ (seen ++ lives_at at 0 nodes) ++ rounds (most - (i + 1)) later every until nodes
rounds_step seen most i at every until later bound nodes h now fits e =
    let n : most - i ≡ suc (most - (i + 1)) = omega arith in
    let same : rounds (most - (i + 1)) later every until nodes ≡ rounds (most - (i + 1)) (at + every) every until nodes =
    ap (λ x. rounds (most - (i + 1)) x every until nodes) e ∙ bounded (most - (i + 1)) (at + every) every until bound nodes fits in
    ap (λ m. seen ++ rounds m at every until nodes) n
    ∙ ap (λ xs. seen ++ xs) (next (most - (i + 1)) at every until nodes now)
    ∙ sym (append_assoc seen (lives_at at 0 nodes) (rounds (most - (i + 1)) (at + every) every until nodes))
    ∙ ap (λ xs. (seen ++ lives_at at 0 nodes) ++ xs) (sym same)

-- at the end or behind it nothing joins
pub rounds_stop : (seen : List Occasion) (n at every until : ℕ) (nodes : List Node) → until ≤ at → seen ++ rounds n at every until nodes ≡ seen
rounds_stop seen n at every until nodes h = rw (rounds_past n at every until nodes h) (append-nil seen)

none : (at every until : ℕ) (nodes : List Node) → rounds 0 at every until nodes ≡ []
unfolding rounds
none at every until nodes = refl

-- where none is left nothing joins
pub rounds_over : (seen : List Occasion) (n i at every until : ℕ) (nodes : List Node) → n ≤ i → seen ++ rounds (n - i) at every until nodes ≡ seen
rounds_over seen n i at every until nodes h =
    let e : n - i ≡ 0 = omega arith in
    ap (λ m. seen ++ rounds m at every until nodes) e ∙ rw (none at every until nodes) (append-nil seen)
