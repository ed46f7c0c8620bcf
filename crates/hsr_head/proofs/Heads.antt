-- A head has the front of its text: it is all of it, or long.
use Rattle.std.proofs.Common.{◌≡◌, ℕ, ◌≤◌, ◌⊎◌, inl, inr, Bool, false, List, ◌++◌, length, Option, None, Some, append_assoc, sym, ap, subst, ◌∙◌}
use Rattle.std.specs.Prelude.{IfSome}
use Rattle.std.specs.Io.KnownBytes.{Consumes, IsAtEnd}
use Rattle.std.proofs.lemmas.List.{append-nil, take-append-le}
use Rattle.hsr_head.specs.Reads.{ReadsHead, ReadsPiece, front}

pub at_end : (old new : Option (List ℕ)) (head : List ℕ) → Consumes old new head → IsAtEnd new → ReadsHead old new head
at_end None new head read end = (tt, tt)
at_end (Some text) None head read end = absurd read
at_end (Some text) (Some rest) head read end = (read, ap front (read ∙ (ap (λ (r : List ℕ). head ++ r) end ∙ append-nil head)))

pub is_long : (old new : Option (List ℕ)) (head : List ℕ) → Consumes old new head → 4096 ≤ length head → ReadsHead old new head
is_long None new head read long = (tt, tt)
is_long (Some text) None head read long = absurd read
is_long (Some text) (Some rest) head read long = (read, ap front read ∙ take-append-le 4096 head rest long)

consumes_more : (a b c : Option (List ℕ)) (xs ys zs : List ℕ) → Consumes a b xs → Consumes b c ys → zs ≡ xs ++ ys → Consumes a c zs
consumes_more None b c xs ys zs one two both = tt
consumes_more (Some a) None c xs ys zs one two both = absurd one
consumes_more (Some a) (Some b) None xs ys zs one two both = absurd two
consumes_more (Some a) (Some b) (Some c) xs ys zs one two both =
    one ∙ ap (λ (t : List ℕ). xs ++ t) two ∙ sym (append_assoc xs ys c) ∙ ap (λ (t : List ℕ). t ++ c) (sym both)

-- a head with one more piece, that ends the text or makes the head long
pub head_read : (old mid new : Option (List ℕ)) (held holds : List ℕ) (more : Bool) → Consumes old mid held → ReadsPiece mid new held holds more →
    (more ≡ false) ⊎ (4096 ≤ length holds) → ReadsHead old new holds
head_read old mid new held holds more so_far (piece, both, read, ends) (inl none) = at_end old new holds (consumes_more old mid new held piece holds so_far read both) (ends none)
head_read old mid new held holds more so_far (piece, both, read, ends) (inr long) = is_long old new holds (consumes_more old mid new held piece holds so_far read both) long

-- what holds of a head's front and what follows holds of the text
pub of_text : (P : List ℕ → List ℕ → Type 0) (old new : Option (List ℕ)) (head : List ℕ) → ReadsHead old new head →
    IfSome new (λ rest. P (front head) (head ++ rest)) → IfSome old (λ text. P (front text) text)
of_text P None new head read holds = tt
of_text P (Some text) None head read holds = absurd read.0
of_text P (Some text) (Some rest) head read holds =
    let there : P (front head) text = subst (λ (t : List ℕ). P (front head) t) (sym read.0) holds in
    subst (λ (f : List ℕ). P f text) (sym read.1) there
