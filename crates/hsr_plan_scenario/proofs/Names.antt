-- Names, one after another.
use Rattle.std.proofs.Common.{◌≡◌, ◌≢◌, ℕ, zero, suc, ◌+◌, ◌≤◌, ◌<◌, ◌∙◌, List, [], ◌∷◌, ◌++◌, length, map, take, get_or, ap, refl, sym, append_assoc, append-nil, arith, Bool, false, ◌==◌, IsTrue}
use Rattle.std.specs.Global.{Global}
use Rattle.std.specs.Prelude.{Vec}
use Rattle.std.proofs.lemmas.Bool.Decides.{nat_tests}
use Rattle.std.proofs.lemmas.List.{get_or-map, length-append, length-map, length-take, map_push, take_all, take-map, take_more}
use Rattle.std.specs.Prelude.{◌↔◌}
use Rattle.hsr_topology.specs.Topology.{Topology}
use Rattle.hsr_scenario.specs.Names.{NamesMeant}
use Rattle.hsr_plan_network.specs.Nodes.{Node}

abbrev pub items : Vec ℕ Global → List ℕ
items name = name.items

pub names_step : (names : List (Vec ℕ Global)) (more : List (List ℕ)) (i : ℕ) (d : Vec ℕ Global) → i < length names
    → map items (take (i + 1) names) ++ more ≡ map items (take i names) ++ ((get_or names i d).items ∷ more)
names_step names more i d h =
    ap (λ t. map items t ++ more) (take_more names i d h)
    ∙ ap (λ t. t ++ more) (map_push items (take i names) (get_or names i d))
    ∙ append_assoc (map items (take i names)) (items (get_or names i d) ∷ []) more

-- what stands behind the front of a list is its next element
next : {X : Type 0} (xs zs : List X) (y d : X) (i : ℕ) → i < length xs → take i xs ++ y ∷ zs ≡ xs → get_or xs i d ≡ y
next [] zs y d i below e = absurd (omega arith)
next (x ∷ xs) zs y d zero below e = cc
next (x ∷ xs) zs y d (suc i) below e = let rest : take i xs ++ y ∷ zs ≡ xs = cc in next xs zs y d i (omega arith) rest

-- another name stands there
pub names_differ : (names : List (Vec ℕ Global)) (others : List Node) (more : List (List ℕ)) (i : ℕ) (d : Vec ℕ Global) (other : List ℕ) → i < length names →
    map items (take i names) ++ other ∷ more ≡ map (λ node. node.name) others → (get_or names i d).items ≢ other → map items names ≢ map (λ node. node.name) others
names_differ names others more i d other below front differs same =
    let below_too : i < length (map items names) = rw length-map below in
    let whole : take i (map items names) ++ other ∷ more ≡ map items names = ap (λ t. t ++ other ∷ more) (take-map items i names) ∙ front ∙ sym same in
    differs (sym (get_or-map items names i d [] below) ∙ next (map items names) more other [] i below_too whole)

-- names are left
pub names_left : (names : List (Vec ℕ Global)) (left others : List Node) (n : ℕ) → length names ≤ n →
    map items (take n names) ++ map (λ node. node.name) left ≡ map (λ node. node.name) others → map items names ≡ map (λ node. node.name) others → left ≡ []
names_left names [] others n all front same = refl
names_left names (node ∷ left) others n all front same =
    let name : Node → List ℕ = λ other. other.name in
    let fronts : List (List ℕ) = map items (take n names) in
    let whole : length (fronts ++ name node ∷ map name left) ≡ length (map name others) = ap length front in
    let same_long : length (map items names) ≡ length (map name others) = ap length same in
    absurd (omega (arith, length-append fronts (name node ∷ map name left), length-map (take n names) items, length-map names items, length-take n names))

-- none are left, exactly where names are the same
pub names_whole : (names : List (Vec ℕ Global)) (left others : List Node) (n : ℕ) (empty : Bool) → length names ≤ n →
    map items (take n names) ++ map (λ node. node.name) left ≡ map (λ node. node.name) others → empty ≡ (length left == 0) →
    (IsTrue empty → map items names ≡ map (λ node. node.name) others) × (map items names ≡ map (λ node. node.name) others → IsTrue empty)
names_whole names [] others n empty all front is =
    (λ none. ap (map items) (sym (take_all n names all)) ∙ sym (append-nil (map items (take n names))) ∙ front, λ same. is)
names_whole names (node ∷ left) others n empty all front is =
    let never : (length (node ∷ left) == 0) ≡ false = grind (arith, nat_tests) in
    (λ none. absurd cc, λ same. let none = names_left names (node ∷ left) others n all front same in absurd cc)

-- ---- two lists, one by one

module _ {X Z : Type 0} (view : X → Z) (Whole : Type 0) (x y : X) (left more others rest : List X) (split : left ≡ x ∷ more) (split_others : others ≡ y ∷ rest)
    (so_far : (map view left ≡ map view others → Whole) × (Whole → map view left ≡ map view others)) where
  opened : map view left ≡ map view others → view x ∷ map view more ≡ view y ∷ map view rest
  opened same = sym (ap (map view) split) ∙ same ∙ ap (map view) split_others

  -- where the first are the same, the rest tells
  pub same_on : view x ≡ view y → (map view more ≡ map view rest → Whole) × (Whole → map view more ≡ map view rest)
  same_on here = (
    λ same. so_far.0 (ap (map view) split ∙ ap (λ z. z ∷ map view more) here ∙ ap (λ zs. view y ∷ zs) same ∙ sym (ap (map view) split_others)),
    λ whole. let all = opened (so_far.1 whole) in cc,
  )

  -- where they aren't, all isn't
  pub same_never : view x ≢ view y → Whole → ⊥
  same_never differs whole = let all = opened (so_far.1 whole) in let first : view x ≡ view y = cc in differs first

-- where topologies and names are the same, all is the same just where the streams are
pub named_same : (m : NamesMeant) (topology : Topology) (names : List (List ℕ)) (streams : List (List (List ℕ))) (r : Bool) → m.topology ≡ topology → m.names ≡ names
    → (IsTrue r ↔ (m.streams ≡ streams)) → IsTrue r ↔ (m ≡ record { topology = topology; names = names; streams = streams })
named_same m topology names streams r here so exact =
    (λ yes. λ i. record { topology = here i; names = so i; streams = exact.0 yes i }, λ same. exact.1 (ap (λ (n : NamesMeant). n.streams) same))
