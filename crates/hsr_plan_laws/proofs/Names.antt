-- Names of which each stands once.
use Rattle.std.proofs.Common.{◌≡◌, ℕ, zero, suc, ◌<◌, ◌∙◌, ◌++◌, ◌||◌, not, Bool, true, false, nat_lt, cond, length, get_or, List, [], ◌∷◌, Some, None, Result, Ok, refl, ap, sym, ⊎_elim, arith, append_assoc, append-nil}
use Rattle.std.specs.Prelude.{⊤}
use Rattle.std.specs.List.{position_or_len}
use Rattle.std.specs.Option.{unwrap_or}
use Rattle.std.specs.Str.{bytes_eq}
use Rattle.std.proofs.lemmas.Bool.{cases_Bool, false≢true, lt-ltb, or_from}
use Rattle.std.proofs.lemmas.List.Elements.{All-get_or}
use Rattle.std.proofs.lemmas.List.Folds.{list_any-append, list_any_at}
use Rattle.std.proofs.lemmas.List.Sums.{position_or_len_is}
use Rattle.std.proofs.lemmas.Slice.Eq.{bytes_eq-Decides}
use Rattle.hsr_topology.proofs.Addresses.{none_pass}
use Rattle.hsr_toml.specs.Fallible.{◌>>=◌}
use Rattle.hsr_plan_text.specs.declared.fault.What.{What}
use Rattle.hsr_plan_text.specs.declared.fault.Refusal.{Refusal}
use Rattle.hsr_plan_network.specs.Checks.{each_once, unless_held}
use Rattle.hsr_plan_network.specs.Names.{is_in, joined, number}

-- ---- what a name is

pub same : (n : List ℕ) → bytes_eq n n ≡ true
same n = (bytes_eq-Decides n n).1 refl

pub apart : (m n : List ℕ) → ¬ (m ≡ n) → bytes_eq m n ≡ false
apart m n differ = ⊎_elim (λ yes. absurd (differ ((bytes_eq-Decides m n).0 yes))) (λ no. no) (cases_Bool (bytes_eq m n))

-- ---- names that stand once

abbrev pub AreOnce : List (List ℕ) → Type 0
AreOnce ns = (j k : ℕ) → j < k → k < length ns → ¬ (get_or ns j [] ≡ get_or ns k [])

held : (b : Bool) (why : Refusal) (rest : Result ⊤ What) → (unless_held (not b) why >>= λ _. rest) ≡ Ok tt → (b ≡ false) × (rest ≡ Ok tt)
held true why rest h = absurd cc
held false why rest h = (refl, h)

absent : (n : List ℕ) (ns : List (List ℕ)) → is_in n ns ≡ false → (k : ℕ) → k < length ns → ¬ (n ≡ get_or ns k [])
absent n ns h k low e =
    let no : bytes_eq (get_or ns k []) n ≡ false = All-get_or (λ m. bytes_eq m n ≡ false) ns k [] low (none_pass (λ m. bytes_eq m n) ns h) in
    let yes : bytes_eq (get_or ns k []) n ≡ true = (bytes_eq-Decides (get_or ns k []) n).1 (sym e) in
    absurd (false≢true (sym no ∙ yes))

pub once : (ns : List (List ℕ)) → each_once ns ≡ Ok tt → AreOnce ns
once [] h j k low high e = absurd (omega (arith, high))
once (n ∷ ns) h zero zero low high e = absurd (omega (arith, low))
once (n ∷ ns) h zero (suc k) low high e = absent n ns (held (is_in n ns) _ (each_once ns) h).0 k (omega (arith, high)) e
once (n ∷ ns) h (suc j) zero low high e = absurd (omega (arith, low))
once (n ∷ ns) h (suc j) (suc k) low high e = once ns (held (is_in n ns) _ (each_once ns) h).1 j k (omega (arith, low)) (omega (arith, high)) e

-- ---- names that are joined

pub joined_new : (seen ns : List (List ℕ)) → ((j : ℕ) → j < length ns → is_in (get_or ns j []) seen ≡ false) → AreOnce ns → joined seen ns ≡ seen ++ ns
joined_new seen [] new o = sym (append-nil seen)
joined_new seen (n ∷ ns) new o =
    ap (λ b. joined (cond b seen (seen ++ n ∷ [])) ns) (new 0 (omega arith))
    ∙ joined_new (seen ++ n ∷ []) ns later (λ j k low high. o (suc j) (suc k) (omega (arith, low)) (omega (arith, high)))
    ∙ append_assoc seen (n ∷ []) ns
  where
    later : (j : ℕ) → j < length ns → is_in (get_or ns j []) (seen ++ n ∷ []) ≡ false
    later j low =
        let m = get_or ns j [] in
        let other : bytes_eq n m ≡ false = apart n m (o 0 (suc j) (omega arith) (omega (arith, low))) in
        list_any-append (λ x. bytes_eq x m) seen (n ∷ [])
        ∙ or_from (is_in m seen) (bytes_eq n m || false) (new (suc j) (omega (arith, low))) (or_from (bytes_eq n m) false other refl)

-- ---- the place of a name

pub number_is : (ns : List (List ℕ)) (k : ℕ) → AreOnce ns → k < length ns → number ns (get_or ns k []) ≡ k
number_is ns k o low =
    let n = get_or ns k [] in
    let at : position_or_len (λ m. bytes_eq m n) ns ≡ k =
    position_or_len_is (λ m. bytes_eq m n) ns k [] (omega (arith, low)) (λ j below. apart (get_or ns j []) n (o j k below low)) (λ _. same n) in
    ap (λ i. unwrap_or (cond (nat_lt i (length ns)) (Some i) None) 0) at
    ∙ ap (λ b. unwrap_or (cond b (Some k) None) 0) (lt-ltb k (length ns) low)

-- a name is among names where it stands there
pub is_there : (ns : List (List ℕ)) (k : ℕ) → k < length ns → is_in (get_or ns k []) ns ≡ true
is_there ns k low = list_any_at (λ m. bytes_eq m (get_or ns k [])) ns k [] low (same (get_or ns k []))
