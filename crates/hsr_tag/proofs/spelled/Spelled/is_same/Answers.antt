use Rattle.std.proofs.Common.{◌≡◌, ◌≢◌, ◌++◌, ◌∙◌, ap, subst, List, ℕ, Option}
use Rattle.std.specs.Borrow.{Bor}
use Rattle.std.specs.Prelude.{MatchOption}
use Rattle.std.proofs.lemmas.Bool.Decides.{Decides-eqb}
use Rattle.std.proofs.lemmas.Slice.Eq.{strip_prefix_is}
use Rattle.hsr_tag.proofs.Pieces.{other-front, same-front}
use Rattle.hsr_tag.proofs.spelled.Spelled.is_same.Goals as goal

abbrev Front : List ℕ → List ℕ → Option (Bor (List ℕ)) → Type 0
Front octets head r = MatchOption r ((left : List ℕ) → octets ≢ head ++ left) (λ x. octets ≡ head ++ x.now)

pub returns-in-Some : goal.returns-in-Some
returns-in-Some c =
    let front : Front c.args.octets.now c.as_slice.result.now c.strip_prefix.result = strip_prefix_is Decides-eqb c.args.octets.now c.as_slice.result.now c.strip_prefix.result c.strip_prefix.ensures.cases in
    let left : c.args.octets.now ≡ c.as_slice.result.now ++ c.in-Some.rest.now = subst (λ r. Front c.args.octets.now c.as_slice.result.now r) c.in-Some.is front in
    same-front c.args.self.now c.self.inside.head.items c.self.inside.rest.now c.args.octets.now c.in-Some.rest.now c.eq.result
    c.self.view_is (left ∙ ap (λ (x : List ℕ). x ++ c.in-Some.rest.now) c.as_slice.ensures.value) c.eq.ensures

pub returns-in-None : goal.returns-in-None
returns-in-None c =
    let front : Front c.args.octets.now c.as_slice.result.now c.strip_prefix.result = strip_prefix_is Decides-eqb c.args.octets.now c.as_slice.result.now c.strip_prefix.result c.strip_prefix.ensures.cases in
    let other : (left : List ℕ) → c.args.octets.now ≢ c.as_slice.result.now ++ left = subst (λ r. Front c.args.octets.now c.as_slice.result.now r) c.in-None.is front in
    let inside : (left : List ℕ) → c.args.octets.now ≢ c.self.inside.head.items ++ left = subst (λ (x : List ℕ). (left : List ℕ) → c.args.octets.now ≢ x ++ left) c.as_slice.ensures.value other in
    (λ no. absurd cc, λ is. absurd (other-front c.args.self.now c.self.inside.head.items c.self.inside.rest.now c.args.octets.now c.self.view_is inside is))
