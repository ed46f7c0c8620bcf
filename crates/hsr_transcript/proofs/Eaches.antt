-- A value for each of some others, over a reader.
use Rattle.std.proofs.Common.{◌≡◌, ℕ, List, [], ◌∷◌, ◌++◌, ◌∙◌, Option, Some, None, Ok, Err, IfSome, sym, ap, subst}
use Rattle.std.proofs.lemmas.List.{append-nil}
use Rattle.hsr_transcript.specs.Reading.{Reader, on_with, gives, each, ◌>>=◌}
use Rattle.hsr_transcript.specs.CodeReads.{Gives}
use Rattle.hsr_transcript.specs.declared.fault.ReadFault.{ReadFault}
use Rattle.hsr_transcript.proofs.Parts.{with_front, with_front_more, passed_at}

abbrev pub Through : {X Y : Type 0} → (X → Reader Y) → Option (List ℕ) → ℕ → List X → Option (List ℕ) → ℕ → List X → List Y → Type 0
Through p old m all left n more front = IfSome old (λ text. (rest : List ℕ) × (left ≡ Some rest)
    × (with_front front (each p more (record { number = n; text = rest })) ≡ each p all (record { number = m; text = text })))

pub each_pushed : {A X Y : Type 0} (view : A → Y) (p : X → Reader Y) (old left rest : Option (List ℕ)) (m n k : ℕ) (all more j : List X) (x : X) (front next : List Y) (a : A) → more ≡ x ∷ j → next ≡ front ++ view a ∷ []
    → Through p old m all left n more front → Gives view left rest n k (Ok a) (p x) → Through p old m all rest k j next
each_pushed view p None left rest m n k all more j x front next a s e h g = tt
each_pushed view p (Some text) left rest m n k all more j x front next a s e h g =
    let u = subst (λ l. Gives view l rest n k (Ok a) (p x)) h.1 g in
    subst (Through p (Some text) m all rest k j) (sym e) (
      u.0,
      u.1,
      sym (with_front_more front (view a) (each p j (record { number = k; text = u.0 })))
          ∙ sym (ap (λ r. with_front front (on_with r (λ y. each p j >>= λ ys. gives (y ∷ ys)))) u.2)
          ∙ sym (ap (λ c. with_front front (each p c (record { number = n; text = h.0 }))) s)
          ∙ h.2,
    )

pub each_fail : {A X Y Z : Type 0} (view : A → Y) (see : Z → List Y) (p : X → Reader Y) (old left rest : Option (List ℕ)) (m n k : ℕ) (all more j : List X) (x : X) (front : List Y) (e : ReadFault) → more ≡ x ∷ j
    → Through p old m all left n more front → Gives view left rest n k (Err e) (p x) → Gives see old rest m k (Err e) (each p all)
each_fail view see p None left rest m n k all more j x front e s h g = tt
each_fail view see p (Some text) left rest m n k all more j x front e s h g =
    passed_at view see rest k e (p x (record { number = n; text = h.0 })) (each p all (record { number = m; text = text }))
    (λ f. sym h.2 ∙ ap (λ c. with_front front (each p c (record { number = n; text = h.0 }))) s
    ∙ ap (λ r. with_front front (on_with r (λ y. each p j >>= λ ys. gives (y ∷ ys)))) f)
    (subst (λ l. Gives view l rest n k (Err e) (p x)) h.1 g)

pub each_done : {X Y Z : Type 0} (see : Z → List Y) (p : X → Reader Y) (old left : Option (List ℕ)) (m n : ℕ) (all more : List X) (z : Z) → more ≡ []
    → Through p old m all left n more (see z) → Gives see old left m n (Ok z) (each p all)
each_done see p None left m n all more z s h = tt
each_done see p (Some text) left m n all more z s h = (
  h.0,
  h.1,
  sym h.2 ∙ ap (λ c. with_front (see z) (each p c (record { number = n; text = h.0 }))) s
      ∙ ap (λ l. Ok (l, record { number = n; text = h.0 })) (append-nil (see z)),
)
