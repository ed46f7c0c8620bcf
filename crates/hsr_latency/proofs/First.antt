-- The first than which none is greater, found by a walk that keeps the greater of two.
use Rattle.std.proofs.Common.{◌≡◌, ◌&&◌, ◌∙◌, Bool, true, false, not, cond, List, [], ◌∷◌, Option, Some, None, refl, sym, ap}
use Rattle.std.specs.Prelude.{find, fold}
use Rattle.std.specs.List.{list_all}
use Rattle.std.proofs.lemmas.Bool.{and_from, and_parts, false≢true, not_from_false, not-true}

-- what makes a test of two an order: none is greater than itself, and what isn't less than one that isn't less than a third isn't less than that
pub record IsOrder {A : Type 0} (gt : A → A → Bool) : Type 0 where
  pub itself : (a : A) → gt a a ≡ false
  pub other : (a b : A) → gt b a ≡ true → gt a b ≡ false
  pub through : (a b c : A) → gt b a ≡ false → gt a c ≡ false → gt b c ≡ false

abbrev pub none_over : {A : Type 0} → (A → A → Bool) → List A → A → Bool
none_over gt xs x = list_all (λ y. not (gt y x)) xs

abbrev pub keep : {A : Type 0} → (A → A → Bool) → Option A → A → Option A
keep gt None x = Some x
keep gt (Some most) x = cond (gt x most) (Some x) (Some most)

-- a test that follows from another adds nothing to it
both : (lower test rest : Bool) → (test ≡ true → lower ≡ true) → (lower && (test && rest)) ≡ (test && rest)
both lower true rest h = ap (λ b. b && rest) (h refl)
both true false rest h = refl
both false false rest h = refl

second : (test lower rest : Bool) → (test ≡ true → lower ≡ true) → (test && (lower && rest)) ≡ (test && rest)
second true lower rest h = ap (λ b. b && rest) (h refl)
second false lower rest h = refl

all_through : {A : Type 0} (gt : A → A → Bool) → IsOrder gt → (a b : A) → gt b a ≡ false → (xs : List A) → none_over gt xs b ≡ true → none_over gt xs a ≡ true
all_through gt o a b low [] h = refl
all_through gt o a b low (x ∷ xs) h =
    let parts = and_parts (not (gt x b)) (none_over gt xs b) h in
    and_from (not (gt x a)) (none_over gt xs a) (not_from_false (gt x a) (o.through b x a (not-true (gt x b) parts.0) low)) (all_through gt o a b low xs parts.1)

-- the first of two is left out where the second is greater, and the second where it isn't
first_out : {A : Type 0} (gt : A → A → Bool) → IsOrder gt → (a b : A) (xs : List A) → gt b a ≡ true → find (none_over gt (a ∷ b ∷ xs)) (a ∷ b ∷ xs) ≡ find (none_over gt (b ∷ xs)) (b ∷ xs)
first_out {A} gt o a b xs less =
    ap (λ (x : Bool). cond (x && (not (gt b a) && none_over gt xs a)) (Some a) (find (none_over gt (a ∷ b ∷ xs)) (b ∷ xs))) (ap not (o.itself a))
    ∙ (ap (λ (x : Bool). cond (not x && none_over gt xs a) (Some a) (find (none_over gt (a ∷ b ∷ xs)) (b ∷ xs))) less ∙ rest)
  where
    same : ◌≡◌ {A = A → Bool} (none_over gt (a ∷ b ∷ xs)) (none_over gt (b ∷ xs))
    same = λ i. λ (x : A).
        both (not (gt a x)) (not (gt b x)) (none_over gt xs x) (λ h. not_from_false (gt a x) (o.through b a x (o.other a b less) (not-true (gt b x) h))) i

    rest : find (none_over gt (a ∷ b ∷ xs)) (b ∷ xs) ≡ find (none_over gt (b ∷ xs)) (b ∷ xs)
    rest = ap (λ (test : A → Bool). find test (b ∷ xs)) same

second_out : {A : Type 0} (gt : A → A → Bool) → IsOrder gt → (a b : A) (xs : List A) → gt b a ≡ false → find (none_over gt (a ∷ b ∷ xs)) (a ∷ b ∷ xs) ≡ find (none_over gt (a ∷ xs)) (a ∷ xs)
second_out {A} gt o a b xs low = ap (λ (test : A → Bool). find test (a ∷ b ∷ xs)) same ∙ at (none_over gt (a ∷ xs) a) (none_over gt (a ∷ xs) b) refl refl
  where
    same : ◌≡◌ {A = A → Bool} (none_over gt (a ∷ b ∷ xs)) (none_over gt (a ∷ xs))
    same = λ i. λ (x : A).
        second (not (gt a x)) (not (gt b x)) (none_over gt xs x) (λ h. not_from_false (gt b x) (o.through a b x low (not-true (gt a x) h))) i

    at : (x y : Bool) → none_over gt (a ∷ xs) a ≡ x → none_over gt (a ∷ xs) b ≡ y →
        cond (none_over gt (a ∷ xs) a) (Some a) (cond (none_over gt (a ∷ xs) b) (Some b) (find (none_over gt (a ∷ xs)) xs)) ≡ cond (none_over gt (a ∷ xs) a) (Some a) (find (none_over gt (a ∷ xs)) xs)
    at true y here there =
        let P : Bool → Option A → Option A = λ x o. cond x (Some a) o in
        ap (λ (x : Bool). P x (cond (none_over gt (a ∷ xs) b) (Some b) (find (none_over gt (a ∷ xs)) xs))) here
        ∙ sym (ap (λ (x : Bool). P x (find (none_over gt (a ∷ xs)) xs)) here)
    at false false here there =
        ap (λ (x : Bool). cond (none_over gt (a ∷ xs) a) (Some a) (cond x (Some b) (find (none_over gt (a ∷ xs)) xs))) there
    at false true here there =
        let parts = and_parts (not (gt a b)) (none_over gt xs b) there in
        let yes : none_over gt (a ∷ xs) a ≡ true = and_from (not (gt a a)) (none_over gt xs a) (not_from_false (gt a a) (o.itself a)) (all_through gt o a b low xs parts.1) in
        absurd (false≢true (sym here ∙ yes))

from_one : {A : Type 0} (gt : A → A → Bool) → IsOrder gt → (a : A) (xs : List A) → fold (keep gt) (Some a) xs ≡ find (none_over gt (a ∷ xs)) (a ∷ xs)
from_one gt o a [] = sym (ap (λ (x : Bool). cond (not x && true) (Some a) None) (o.itself a))
from_one {A} gt o a (b ∷ xs) = at (gt b a) refl (from_one gt o b xs) (from_one gt o a xs)
  where
    at : (x : Bool) → gt b a ≡ x → fold (keep gt) (Some b) xs ≡ find (none_over gt (b ∷ xs)) (b ∷ xs) → fold (keep gt) (Some a) xs ≡ find (none_over gt (a ∷ xs)) (a ∷ xs) →
        fold (keep gt) (cond (gt b a) (Some b) (Some a)) xs ≡ find (none_over gt (a ∷ b ∷ xs)) (a ∷ b ∷ xs)
    at true is by_b by_a = ap (λ (x : Bool). fold (keep gt) (cond x (Some b) (Some a)) xs) is ∙ (by_b ∙ sym (first_out gt o a b xs is))
    at false is by_b by_a = ap (λ (x : Bool). fold (keep gt) (cond x (Some b) (Some a)) xs) is ∙ (by_a ∙ sym (second_out gt o a b xs is))

pub kept_is_first : {A : Type 0} (gt : A → A → Bool) → IsOrder gt → (xs : List A) → fold (keep gt) None xs ≡ find (none_over gt xs) xs
kept_is_first gt o [] = refl
kept_is_first gt o (a ∷ xs) = from_one gt o a xs
