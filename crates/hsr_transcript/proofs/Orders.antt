-- A plan that is made turn by turn.
use Rattle.std.proofs.Common.{◌≡◌, ℕ, ◌+◌, ◌<◌, ◌==◌, ◌∙◌, List, [], ◌∷◌, ◌++◌, length, map, drop, get_or, Option, Some, None, Bool, true, false, is_some, cond, refl, sym, ap, arith, append_assoc, length-append}
use Rattle.std.proofs.lemmas.Bool.Decides.{nat_tests}
use Rattle.std.proofs.lemmas.List.{append-nil, map-append}
use Rattle.std.proofs.lemmas.List.Elements.{filter_map-append}
use Rattle.std.specs.Prelude.{filter_map}
use Rattle.std.specs.List.{cons_option}
use Rattle.hsr_node.specs.declared.entry.Entry.{Entry}
use Rattle.hsr_finished_run.specs.Finished.{planned_by, planned_for}
use Rattle.hsr_run_laws.specs.Run.{record_in}
use Rattle.hsr_finished_run.specs.declared.planned.Planned.{Planned}
use Rattle.hsr_transcript.specs.Order.{IsNext, IsOrder, Turned, left_in, planned_at}

-- ---- the next entry

pub passed_over : (k : ℕ) (x : Entry) (xs : List Entry) → (x.worker == 0) ≡ false → filter_map (planned_by k) (x ∷ xs) ≡ filter_map (planned_by k) xs
passed_over k x xs e = rw e refl

pub found_here : (k : ℕ) (x : Entry) (xs : List Entry) → (x.worker == 0) ≡ true → filter_map (planned_by k) (x ∷ xs) ≡ planned_at k x ∷ filter_map (planned_by k) xs
found_here k x xs e = rw e refl

-- a place that is found leaves something
pub next_some : (entries : List Entry) (from k : ℕ) (o : Option ℕ) → IsNext entries from o → is_some o ≡ true → ¬ (filter_map (planned_by k) (drop from entries) ≡ [])
next_some entries from k None h s e = absurd (cc)
next_some [] from k (Some i) h s e = let below : i < length {A = Entry} [] = h.0 in absurd (omega arith)
next_some (x ∷ xs) from k (Some i) h s e = let found = h.1 k x in absurd (cc)

-- ---- the way

-- the nodes so far and those to come are the order; what is planned for a node, and what is left of its record, is all of it
pub record OnTheWay (main : List ℕ) (records : List (List Entry)) (plan : List Planned) (passed more : List ℕ) : Type 0 where
  pub nodes : map (λ p. p.node) plan ++ more ≡ main
  pub each : (k : ℕ) → filter_map (planned_for k) plan ++ left_in records passed k ≡ filter_map (planned_by k) (record_in records k)

-- how often a number stands in a list
abbrev pub times : ℕ → List ℕ → ℕ
times k [] = 0
times k (n ∷ ns) = cond (n == k) 1 0 + times k ns

times_append : (k : ℕ) (a b : List ℕ) → times k (a ++ b) ≡ times k a + times k b
times_append k [] b = omega arith
times_append k (n ∷ ns) b = let h : times k (ns ++ b) ≡ times k ns + times k b = times_append k ns b in omega (arith, h)

same : (n : ℕ) → (n == n) ≡ true
same n = grind (arith, nat_tests)

-- what is planned for a node is as often as its number stands among the nodes
planned_times : (k : ℕ) (plan : List Planned) → length (filter_map (planned_for k) plan) ≡ times k (map (λ p. p.node) plan)
planned_times k [] = refl
planned_times k (p ∷ ps) = go (p.node == k) refl (planned_times k ps)
  where
    go : (t : Bool) → (p.node == k) ≡ t → length (filter_map (planned_for k) ps) ≡ times k (map (λ p. p.node) ps) → length (filter_map (planned_for k) (p ∷ ps)) ≡ times k (map (λ p. p.node) (p ∷ ps))
    go true e h = rw e (omega (arith, h))
    go false e h = rw e (omega (arith, h))

-- a plan in order has as many entries of a node as the main worker has there
order_times : (main : List ℕ) (records : List (List Entry)) (plan : List Planned) (k : ℕ) → IsOrder main records plan → times k main ≡ length (filter_map (planned_by k) (record_in records k))
order_times main records plan k o = sym (ap (times k) o.nodes) ∙ sym (planned_times k plan) ∙ ap length (o.each k)

-- and so has a plan on the way, with those to come and those left
way_times : (main : List ℕ) (records : List (List Entry)) (plan : List Planned) (passed more : List ℕ) (k : ℕ) → OnTheWay main records plan passed more
    → (q : List Planned) → IsOrder main records q → length (left_in records passed k) ≡ times k more
way_times main records plan passed more k w q o =
    let all : times k main ≡ length (filter_map (planned_by k) (record_in records k)) = order_times main records q k o in
    let parts : length (filter_map (planned_for k) plan) + length (left_in records passed k) ≡ length (filter_map (planned_by k) (record_in records k))
    = sym (length-append (filter_map (planned_for k) plan) (left_in records passed k)) ∙ ap length (w.each k) in
    let nodes : times k (map (λ p. p.node) plan) + times k more ≡ times k main = sym (times_append k (map (λ p. p.node) plan) more) ∙ ap (times k) w.nodes in
    let here : length (filter_map (planned_for k) plan) ≡ times k (map (λ p. p.node) plan) = planned_times k plan in
    omega (arith, all, parts, nodes, here)

pub way_begins : (main : List ℕ) (records : List (List Entry)) (passed : List ℕ) → ((k : ℕ) → get_or passed k 0 ≡ 0) → OnTheWay main records [] passed main
way_begins main records passed none = record { nodes = refl; each = λ k. ap (λ n. filter_map (planned_by k) (drop n (record_in records k))) (none k) }

cons_behind : (a : List Planned) (o : Option Planned) (b : List Planned) → (a ++ cons_option o []) ++ b ≡ a ++ cons_option o b
cons_behind a None b = ap (λ l. l ++ b) (append-nil a)
cons_behind a (Some p) b = append_assoc a (p ∷ []) b

pub way_on : (main : List ℕ) (records : List (List Entry)) (plan next : List Planned) (old new more rest : List ℕ) (turn : ℕ) (p : Planned) → more ≡ turn ∷ rest → next ≡ plan ++ p ∷ []
    → OnTheWay main records plan old more → Turned records old new turn (Some p) → OnTheWay main records next new rest
way_on main records plan next old new more rest turn p e n w t = record {
  nodes = ap (λ l. map (λ p. p.node) l ++ rest) n
      ∙ ap (λ l. l ++ rest) (map-append (λ p. p.node) plan (p ∷ []))
      ∙ append_assoc (map (λ p. p.node) plan) (p.node ∷ []) rest
      ∙ ap (λ k. map (λ p. p.node) plan ++ k ∷ rest) t.0
      ∙ sym (ap (λ l. map (λ p. p.node) plan ++ l) e)
      ∙ w.nodes;
  each = λ k.
      ap (λ l. filter_map (planned_for k) l ++ left_in records new k) n
      ∙ ap (λ l. l ++ left_in records new k) (filter_map-append (planned_for k) plan (p ∷ []))
      ∙ cons_behind (filter_map (planned_for k) plan) (planned_for k p) (left_in records new k)
      ∙ sym (ap (λ l. filter_map (planned_for k) plan ++ l) (t.1 k))
      ∙ w.each k;
}

pub way_stops : (main : List ℕ) (records : List (List Entry)) (plan : List Planned) (passed new more rest : List ℕ) (turn : ℕ) → more ≡ turn ∷ rest
    → OnTheWay main records plan passed more → Turned records passed new turn None → (q : List Planned) → ¬ IsOrder main records q
way_stops main records plan passed new more rest turn e w t q o =
    let count : length (left_in records passed turn) ≡ times turn more = way_times main records plan passed more turn w q o in
    let none : length (left_in records passed turn) ≡ 0 = ap length t in
    let some : times turn more ≡ 1 + times turn rest = ap (times turn) e ∙ ap (λ b. cond b 1 0 + times turn rest) (same turn) in
    omega (arith, count, none, some)

pub way_ends : (main : List ℕ) (records : List (List Entry)) (plan : List Planned) (passed more : List ℕ) → more ≡ [] → OnTheWay main records plan passed more → ((k : ℕ) → left_in records passed k ≡ [])
    → IsOrder main records plan
way_ends main records plan passed more e w none = record {
  nodes = sym (append-nil (map (λ p. p.node) plan)) ∙ sym (ap (λ l. map (λ p. p.node) plan ++ l) e) ∙ w.nodes;
  each = λ k. sym (append-nil (filter_map (planned_for k) plan)) ∙ sym (ap (λ l. filter_map (planned_for k) plan ++ l) (none k)) ∙ w.each k;
}

no_length : {A : Type 0} (xs : List A) → length xs ≡ 0 → xs ≡ []
no_length [] h = refl
no_length (x ∷ xs) h = absurd (omega arith)

pub way_leaves : (main : List ℕ) (records : List (List Entry)) (plan : List Planned) (passed more : List ℕ) → more ≡ [] → OnTheWay main records plan passed more → ¬ ((k : ℕ) → left_in records passed k ≡ [])
    → (q : List Planned) → ¬ IsOrder main records q
way_leaves main records plan passed more e w some q o =
    some (λ k. no_length (left_in records passed k) (way_times main records plan passed more k w q o ∙ ap (times k) e))
