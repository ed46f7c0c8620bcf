-- The place of a name.
use Rattle.std.proofs.Common.{◌≡◌, ℕ, ◌+◌, suc, cond, nat_lt, not, List, [], ◌∷◌, length, Some, None, refl, ap}
use Rattle.std.specs.Global.{Global}
use Rattle.std.specs.Prelude.{Vec, position}
use Rattle.std.specs.List.{prefix_len}
use Rattle.std.specs.Str.{bytes_eq}
use Rattle.hsr_timeline.specs.Fronts.{lists_of}

front_same : (names : List (Vec ℕ Global)) (word : List ℕ) → prefix_len (λ (name : Vec ℕ Global). not (bytes_eq name.items word)) names ≡ prefix_len (λ name. not (bytes_eq name word)) (lists_of names)
front_same [] word = refl
front_same (name ∷ names) word = ap (λ (n : ℕ). cond (not (bytes_eq name.items word)) (1 + n) 0) (front_same names word)

pub long_same : (names : List (Vec ℕ Global)) → length names ≡ length (lists_of names)
long_same [] = refl
long_same (name ∷ names) = ap suc (long_same names)

pub place_same : (names : List (Vec ℕ Global)) (word : List ℕ) → position (λ (name : Vec ℕ Global). bytes_eq name.items word) names ≡ position (λ name. bytes_eq name word) (lists_of names)
place_same names word =
    let front = front_same names word in
    let long = long_same names in
    λ i. cond (nat_lt (front i) (long i)) (Some (front i)) None
