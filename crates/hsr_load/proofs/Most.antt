-- The channel that has the most, found by a walk that keeps the greater of two.
use Rattle.std.proofs.Common.{◌≡◌, ◌<◌, ◌≤◌, ◌&&◌, ◌∙◌, ℕ, Bool, true, false, cond, List, [], ◌∷◌, Option, Some, None, nat_lt, refl, sym, ap, arith, le-leb, leb-true, ltb-false, ltb-true}
use Rattle.std.specs.Prelude.{find, fold, nat_le}
use Rattle.std.specs.List.{list_all}
use Rattle.std.proofs.lemmas.Bool.{and_from, and_parts, false≢true}
use Rattle.hsr_load.specs.Loads.{is_most, most}
use Rattle.hsr_load.specs.Sums.{more}
use Rattle.hsr_load.specs.declared.load.ChannelLoad.{ChannelLoad}

-- a test that follows from another adds nothing to it
both : (lower test rest : Bool) → (test ≡ true → lower ≡ true) → (lower && (test && rest)) ≡ (test && rest)
both lower true rest h = ap (λ b. b && rest) (h refl)
both true false rest h = refl
both false false rest h = refl

second : (test lower rest : Bool) → (test ≡ true → lower ≡ true) → (test && (lower && rest)) ≡ (test && rest)
second true lower rest h = ap (λ b. b && rest) (h refl)
second false lower rest h = refl

le_through : (a b c : ℕ) → a ≤ b → nat_le b c ≡ true → nat_le a c ≡ true
le_through a b c low is = let up = leb-true b c is in le-leb a c (omega (arith, low, up))

all_through : (a b : ℕ) → a ≤ b → (loads : List ChannelLoad) → list_all (λ (other : ChannelLoad). nat_le other.worst a) loads ≡ true → list_all (λ (other : ChannelLoad). nat_le other.worst b) loads ≡ true
all_through a b low [] h = refl
all_through a b low (load ∷ loads) h =
    let parts = and_parts (nat_le load.worst a) (list_all (λ (other : ChannelLoad). nat_le other.worst a) loads) h in
    let up = leb-true load.worst a parts.0 in
    and_from (nat_le load.worst b) (list_all (λ (other : ChannelLoad). nat_le other.worst b) loads) (le-leb load.worst b (omega (arith, low, up))) (all_through a b low loads parts.1)

itself : (load : ChannelLoad) → nat_le load.worst load.worst ≡ true
itself load = le-leb load.worst load.worst (omega arith)

-- the first of two is left out where it is less, and the second where it isn't more
first_out : (a b : ChannelLoad) (loads : List ChannelLoad) → a.worst < b.worst → find (is_most (a ∷ b ∷ loads)) (a ∷ b ∷ loads) ≡ find (is_most (b ∷ loads)) (b ∷ loads)
first_out a b loads less = at (nat_le b.worst a.worst) refl
  where
    same : ◌≡◌ {A = ChannelLoad → Bool} (is_most (a ∷ b ∷ loads)) (is_most (b ∷ loads))
    same = λ i. λ (load : ChannelLoad).
        both (nat_le a.worst load.worst) (nat_le b.worst load.worst) (list_all (λ (other : ChannelLoad). nat_le other.worst load.worst) loads) (le_through a.worst b.worst load.worst (omega (arith, less))) i

    rest : find (is_most (a ∷ b ∷ loads)) (b ∷ loads) ≡ find (is_most (b ∷ loads)) (b ∷ loads)
    rest = ap (λ (test : ChannelLoad → Bool). find test (b ∷ loads)) same

    at : (x : Bool) → nat_le b.worst a.worst ≡ x → find (is_most (a ∷ b ∷ loads)) (a ∷ b ∷ loads) ≡ find (is_most (b ∷ loads)) (b ∷ loads)
    at true is = let low = leb-true b.worst a.worst is in absurd (omega (arith, low, less))
    at false is =
        let all : ℕ → Bool = λ n. list_all (λ (other : ChannelLoad). nat_le other.worst n) loads in
        ap (λ (x : Bool). cond (nat_le a.worst a.worst && (x && all a.worst)) (Some a) (find (is_most (a ∷ b ∷ loads)) (b ∷ loads))) is
        ∙ (ap (λ (x : Bool). cond (x && false) (Some a) (find (is_most (a ∷ b ∷ loads)) (b ∷ loads))) (itself a) ∙ rest)

second_out : (a b : ChannelLoad) (loads : List ChannelLoad) → b.worst ≤ a.worst → find (is_most (a ∷ b ∷ loads)) (a ∷ b ∷ loads) ≡ find (is_most (a ∷ loads)) (a ∷ loads)
second_out a b loads low = ap (λ (test : ChannelLoad → Bool). find test (a ∷ b ∷ loads)) same ∙ at (is_most (a ∷ loads) a) (is_most (a ∷ loads) b) refl refl
  where
    same : ◌≡◌ {A = ChannelLoad → Bool} (is_most (a ∷ b ∷ loads)) (is_most (a ∷ loads))
    same = λ i. λ (load : ChannelLoad).
        second (nat_le a.worst load.worst) (nat_le b.worst load.worst) (list_all (λ (other : ChannelLoad). nat_le other.worst load.worst) loads) (le_through b.worst a.worst load.worst low) i

    at : (x y : Bool) → is_most (a ∷ loads) a ≡ x → is_most (a ∷ loads) b ≡ y →
        cond (is_most (a ∷ loads) a) (Some a) (cond (is_most (a ∷ loads) b) (Some b) (find (is_most (a ∷ loads)) loads)) ≡ cond (is_most (a ∷ loads) a) (Some a) (find (is_most (a ∷ loads)) loads)
    at true y here there =
        let P : Bool → Option ChannelLoad → Option ChannelLoad = λ x o. cond x (Some a) o in
        ap (λ (x : Bool). P x (cond (is_most (a ∷ loads) b) (Some b) (find (is_most (a ∷ loads)) loads))) here
        ∙ sym (ap (λ (x : Bool). P x (find (is_most (a ∷ loads)) loads)) here)
    at false false here there =
        ap (λ (x : Bool). cond (is_most (a ∷ loads) a) (Some a) (cond x (Some b) (find (is_most (a ∷ loads)) loads))) there
    at false true here there =
        let parts = and_parts (nat_le a.worst b.worst) (list_all (λ (other : ChannelLoad). nat_le other.worst b.worst) loads) there in
        let yes : is_most (a ∷ loads) a ≡ true =
        and_from (nat_le a.worst a.worst) (list_all (λ (other : ChannelLoad). nat_le other.worst a.worst) loads) (itself a) (all_through b.worst a.worst low loads parts.1) in
        absurd (false≢true (sym here ∙ yes))

from_one : (load : ChannelLoad) (loads : List ChannelLoad) → fold more (Some load) loads ≡ most (load ∷ loads)
from_one load [] = sym (ap (λ (x : Bool). cond (x && true) (Some load) None) (itself load))
from_one load (next ∷ loads) = at (nat_lt load.worst next.worst) refl (from_one next loads) (from_one load loads)
  where
    at : (x : Bool) → nat_lt load.worst next.worst ≡ x → fold more (Some next) loads ≡ most (next ∷ loads) → fold more (Some load) loads ≡ most (load ∷ loads) →
        fold more (cond (nat_lt load.worst next.worst) (Some next) (Some load)) loads ≡ most (load ∷ next ∷ loads)
    at true is by_next by_load =
        ap (λ (x : Bool). fold more (cond x (Some next) (Some load)) loads) is ∙ (by_next ∙ sym (first_out load next loads (ltb-true load.worst next.worst is)))
    at false is by_next by_load =
        ap (λ (x : Bool). fold more (cond x (Some next) (Some load)) loads) is ∙ (by_load ∙ sym (second_out load next loads (ltb-false load.worst next.worst is)))

pub most_is : (loads : List ChannelLoad) → fold more None loads ≡ most loads
most_is [] = refl
most_is (load ∷ loads) = from_one load loads
