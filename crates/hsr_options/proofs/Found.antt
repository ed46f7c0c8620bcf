-- What was found, if anything was: a pair from its parts, and what follows of it.
use Rattle.std.proofs.Common.{◌≡◌, Option, Some, None, option_map, IfNone, IfSome, refl, sym, ap, ap₂}

-- a pair whose parts are known
pub joined : {A B : Type 0} (found : Option (A × B)) (name : A) (rows : B) → Some name ≡ option_map (λ p. p.0) found → Some rows ≡ option_map (λ p. p.1) found
    → found ≡ Some (name, rows)
joined None name rows a b = cc
joined (Some p) name rows a b =
    let x : name ≡ p.0 = cc in
    let y : rows ≡ p.1 = cc in
    ap Some (ap₂ (λ u v. (u, v)) (sym x) (sym y))

pub first_part : {X A B : Type 0} (n : X → A) (r : X → B) (o : Option X) → option_map (λ (p : A × B). p.0) (option_map (λ x. (n x, r x)) o) ≡ option_map n o
first_part n r None = refl
first_part n r (Some x) = refl

pub some_weaker : {X : Type 0} (o : Option X) (P Q : X → Type 0) → ((x : X) → P x → Q x) → IfSome o P → IfSome o Q
some_weaker None P Q f h = tt
some_weaker (Some x) P Q f h = f x h

pub none_weaker : {X : Type 0} (o : Option X) (P Q : Type 0) → (P → Q) → IfNone o P → IfNone o Q
none_weaker None P Q f h = f h
none_weaker (Some x) P Q f h = tt
