-- Links that are taken, one by one.
use Rattle.std.proofs.Common.{◌≡◌, ℕ, zero, suc, ◌+◌, ◌<◌, Bool, true, false, cond, nat_lt, List, [], ◌∷◌, ◌++◌, length, get_or, set, replicate, count_by, refl, sym, ap, ◌∙◌, subst, arith, ⊎_elim}
use Rattle.std.specs.Prelude.{◌==◌}
use Rattle.std.specs.List.{AllByRecursion}
use Rattle.std.proofs.lemmas.Bool.{cases_eq, cases_lt}
use Rattle.std.proofs.lemmas.Bool.Decides.{nat_tests}
use Rattle.std.proofs.lemmas.List.{get_or-replicate, get_or-set_other, get_or-set_same, get_or_past, append-nil}
use Rattle.std.proofs.lemmas.List.Sums.{sum_by-append}
use Rattle.std.proofs.lemmas.Grind.{flat_map-append}
use Rattle.hsr_topology.specs.declared.end.End.{End}
use Rattle.hsr_diagram.specs.declared.panel.Lane.{Lane}
use Rattle.hsr_diagram.specs.Free.{AreLeft, AreTaken, IsNoneFree, end_of, freedom}
use Rattle.hsr_diagram.specs.Panels.{AreOnce, IsChain, IsLaneFrom, IsPanel, Panel, count_on, is_on, lanes_in}

-- ---- free links

replicate_long : (n : ℕ) → length (replicate n true) ≡ n
replicate_long zero = refl
replicate_long (suc n) = ap suc (replicate_long n)

pub free_all : (n : ℕ) → AreLeft n [] (replicate n true)
free_all n link = (let e : 0 + freedom (replicate n true) link ≡ freedom (replicate n true) link = omega arith in e) ∙ ⊎_elim
    (λ lt. ap (λ b. cond {A = ℕ} b 1 0) (get_or-replicate n link true false lt ∙ (let e : true ≡ nat_lt link n = grind (arith, nat_tests) in e)))
    (λ ge. ap (λ b. cond {A = ℕ} b 1 0) (get_or_past (replicate n true) link false (let e = replicate_long n in omega (arith, e, ge)) ∙ (let e : false ≡ nat_lt link n = grind (arith, nat_tests) in e)))
    (cases_lt link n)

pub left_below : (n : ℕ) (panels : List Panel) (free : List Bool) (link : ℕ) → AreLeft n panels free → get_or free link false ≡ true → link < n
left_below n panels free link left is = ⊎_elim (λ lt. lt)
    (λ ge. absurd (let one : freedom free link ≡ 1 = ap (λ b. cond {A = ℕ} b 1 0) is in
    let none : nat_lt link n ≡ false = grind (arith, nat_tests) in
    let all : count_on link panels + freedom free link ≡ 0 = left link ∙ ap (λ b. cond {A = ℕ} b 1 0) none in
    omega (arith, one, all)))
    (cases_lt link n)

pub left_none : (n : ℕ) (panels : List Panel) (free : List Bool) → AreLeft n panels free → IsNoneFree free → AreOnce n panels
left_none n panels free left none link =
    let zero_left : freedom free link ≡ 0 = ap (λ b. cond {A = ℕ} b 1 0) (none link) in
    let same : count_on link panels ≡ count_on link panels + freedom free link = omega (arith, zero_left) in
    same ∙ left link

-- ---- one more lane

free_within : (free : List Bool) (link : ℕ) → get_or free link false ≡ true → link < length free
free_within free link is = ⊎_elim (λ lt. lt)
    (λ ge. absurd (let e : false ≡ true = sym (get_or_past free link false ge) ∙ is in cc))
    (cases_lt link (length free))

pub within : (free : List Bool) (link : ℕ) → get_or free link false ≡ true → link < length free
within = free_within

freed : (free : List Bool) (at link : ℕ) → get_or free at false ≡ true → cond (at == link) 1 0 + freedom (set free at false) link ≡ freedom free link
freed free at link is = ⊎_elim same other (cases_eq link at)
  where
    same : link ≡ at → cond (at == link) 1 0 + freedom (set free at false) link ≡ freedom free link
    same e =
        let P : ℕ → Type 0 = λ k. cond (at == k) 1 0 + freedom (set free at false) k ≡ freedom free k in
        let yes : (at == at) ≡ true = grind (arith, nat_tests) in
        let gone : freedom (set free at false) at ≡ 0 = ap (λ b. cond {A = ℕ} b 1 0) (get_or-set_same free at false false (free_within free at is)) in
        let was : freedom free at ≡ 1 = ap (λ b. cond {A = ℕ} b 1 0) is in
        let one : ◌≡◌ {A = ℕ} (cond (at == at) 1 0) 1 = ap (λ b. cond {A = ℕ} b 1 0) yes in
        subst P (sym e) (omega (arith, gone, was, one))

    other : ¬ (link ≡ at) → cond (at == link) 1 0 + freedom (set free at false) link ≡ freedom free link
    other e =
        let no : (at == link) ≡ false = grind (arith, nat_tests) in
        let kept : freedom (set free at false) link ≡ freedom free link = ap (λ b. cond {A = ℕ} b 1 0) (get_or-set_other free at link false false e) in
        let none : ◌≡◌ {A = ℕ} (cond (at == link) 1 0) 0 = ap (λ b. cond {A = ℕ} b 1 0) no in
        omega (arith, kept, none)

pub taken_more : (old new : List Bool) (lanes : List Lane) (lane : Lane) → AreTaken old lanes new → get_or new lane.link false ≡ true → AreTaken old (lanes ++ lane ∷ []) (set new lane.link false)
taken_more old new lanes lane taken is link =
    let more : count_by (is_on link) (lanes ++ lane ∷ []) ≡ count_by (is_on link) lanes + (0 + cond (lane.link == link) 1 0) = sum_by-append (λ x. cond (is_on link x) 1 0) lanes (lane ∷ []) in
    let one = freed new lane.link link is in
    let all = taken link in
    omega (arith, more, one, all)

pub taken_first : (old : List Bool) (lane : Lane) → get_or old lane.link false ≡ true → AreTaken old (lane ∷ []) (set old lane.link false)
taken_first old lane is link = let one = freed old lane.link link is in omega (arith, one)

pub end_more : (links : List (List End)) (node : ℕ) (lanes : List Lane) (lane : Lane) → end_of node (lanes ++ lane ∷ []) ≡ lane.right.node
end_more links node [] lane = refl
end_more links node (first ∷ lanes) lane = end_more links first.right.node lanes lane

pub chain_more : (links : List (List End)) (node : ℕ) (lanes : List Lane) (lane : Lane) → IsChain links node lanes → IsLaneFrom links (end_of node lanes) lane → IsChain links node (lanes ++ lane ∷ [])
chain_more links node [] lane chain is = (is, tt)
chain_more links node (first ∷ lanes) lane chain is = (chain.0, chain_more links first.right.node lanes lane chain.1 is)

-- ---- one more panel

pub left_more : (n : ℕ) (panels : List Panel) (panel : Panel) (old new : List Bool) → AreLeft n panels old → AreTaken old panel.lanes new → AreLeft n (panels ++ panel ∷ []) new
left_more n panels panel old new left taken link =
    let lanes : lanes_in (panels ++ panel ∷ []) ≡ lanes_in panels ++ panel.lanes =
    flat_map-append (λ (p : Panel). p.lanes) panels (panel ∷ []) ∙ ap (λ ls. lanes_in panels ++ ls) (append-nil panel.lanes) in
    let more : count_on link (panels ++ panel ∷ []) ≡ count_on link panels + count_by (is_on link) panel.lanes =
    ap (count_by (is_on link)) lanes ∙ sum_by-append (λ x. cond (is_on link x) 1 0) (lanes_in panels) panel.lanes in
    let all = taken link in
    let same : count_on link (panels ++ panel ∷ []) + freedom new link ≡ count_on link panels + freedom old link = omega (arith, more, all) in
    same ∙ left link

pub panels_more : (links : List (List End)) (panels : List Panel) (panel : Panel) → AllByRecursion (IsPanel links) panels → IsPanel links panel → AllByRecursion (IsPanel links) (panels ++ panel ∷ [])
panels_more links [] panel all is = (is, tt)
panels_more links (first ∷ panels) panel all is = (all.0, panels_more links panels panel all.1 is)
