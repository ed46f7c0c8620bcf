-- Readers of lines, one after another: each goes on where the one before it stopped.
use Rattle.std.specs.Prelude.{ℕ, zero, suc, ◌+◌, nat_lt, List, [], ◌∷◌, length, Option, Some, None, Result, Ok, Err, if◌then◌else◌}
use Rattle.hsr_text.specs.Words.{cut}
use Rattle.hsr_transcript.specs.declared.fault.ReadFault.{ReadFault}
use Rattle.hsr_transcript.specs.declared.fault.ReadFault.TheVariants.{BadLine, End}

-- what is left of a text, and the number of its first line
pub record At : Type 0 where
  pub number : ℕ
  pub text : List ℕ

abbrev pub Reader : Type 0 → Type 0
Reader Y = At → Result (Y × At) ReadFault

abbrev pub on_with : {Y Z : Type 0} → Result (Y × At) ReadFault → (Y → Reader Z) → Result (Z × At) ReadFault
on_with (Ok x) f = f x.0 x.1
on_with (Err e) f = Err e

infixl 10 ◌>>=◌
abbrev pub ◌>>=◌ : {Y Z : Type 0} → Reader Y → (Y → Reader Z) → Reader Z
(p >>= f) = λ a. on_with (p a) f

abbrev pub gives : {Y : Type 0} → Y → Reader Y
gives y = λ a. Ok (y, a)

-- the text behind a line feed; a line without one is not yet a line
abbrev pub behind : ℕ → List ℕ → Option (List ℕ) → Result (List ℕ × At) ReadFault
behind n line None = Err End
behind n line (Some rest) = Ok (line, record { number = n + 1; text = rest })

-- the first line, which has at most 8192 octets; `fault` is that of a longer one
abbrev pub line_at : (ℕ → ReadFault) → Reader (List ℕ)
line_at fault = λ a. if nat_lt 8192 (length (cut 10 a.text).0) then Err (fault a.number) else behind a.number (cut 10 a.text).0 (cut 10 a.text).1

-- a line that `of` understands
abbrev pub taken : {Y : Type 0} → Option Y → At → ReadFault → Result (Y × At) ReadFault
taken None b e = Err e
taken (Some y) b e = Ok (y, b)

abbrev pub line_or : {Y : Type 0} → (ℕ → ReadFault) → (List ℕ → Option Y) → Reader Y
line_or fault of = λ a. on_with (line_at fault a) (λ l b. taken (of l) b (fault a.number))

abbrev pub line_of : {Y : Type 0} → (List ℕ → Option Y) → Reader Y
line_of of = line_or BadLine of

-- k values, one after another
abbrev pub many : {Y : Type 0} → Reader Y → ℕ → Reader (List Y)
many p zero = gives []
many p (suc k) = p >>= λ y. many p k >>= λ ys. gives (y ∷ ys)

-- a value for each of some others
abbrev pub each : {X Y : Type 0} → (X → Reader Y) → List X → Reader (List Y)
each p [] = gives []
each p (x ∷ xs) = p x >>= λ y. each p xs >>= λ ys. gives (y ∷ ys)

-- as many values as a line before them says
abbrev pub counted : {Y : Type 0} → (List ℕ → Option ℕ) → Reader Y → Reader (List Y)
counted count p = line_of count >>= λ k. many p k

-- nothing is left
abbrev pub closes : {Y : Type 0} → Result (Y × At) ReadFault → Result Y ReadFault
closes (Err e) = Err e
closes (Ok x) = close_at x.0 x.1.number x.1.text
  where
    close_at : {Y : Type 0} → Y → ℕ → List ℕ → Result Y ReadFault
    close_at y n [] = Ok y
    close_at y n (b ∷ bs) = Err (BadLine n)

abbrev pub whole : {Y : Type 0} → Reader Y → List ℕ → Result Y ReadFault
whole p text = closes (p (record { number = 1; text = text }))
