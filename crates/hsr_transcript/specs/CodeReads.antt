-- What a function over a reader tells of the text.
use Rattle.std.specs.Prelude.{◌≡◌, ℕ, List, [], ◌∷◌, Option, Some, Result, Ok, Err, IfSome}
use Rattle.hsr_transcript.specs.Reading.{At, Reader}
use Rattle.hsr_transcript.specs.declared.fault.ReadFault.{ReadFault}
use Rattle.hsr_transcript.specs.declared.fault.ReadFault.TheVariants.{BadLine, Read, NoMemory}

-- What was read of a text that is known, where what is left is known: the value and the rest, or the fault. After a failed
-- read and without memory nothing is said.
abbrev pub Told : {X Y : Type 0} → (X → Y) → Option (List ℕ) → ℕ → Result X ReadFault → Result (Y × At) ReadFault → Type 0
Told view left n (Ok x) said = (rest : List ℕ) × (left ≡ Some rest) × (said ≡ Ok (view x, record { number = n; text = rest }))
Told view left n (Err Read) said = Unit {0}
Told view left n (Err NoMemory) said = Unit {0}
Told view left n (Err e) said = said ≡ Err e

abbrev pub Gives : {X Y : Type 0} → (X → Y) → Option (List ℕ) → Option (List ℕ) → ℕ → ℕ → Result X ReadFault → Reader Y → Type 0
Gives view old new m n r reading = IfSome old (λ text. Told view new n r (reading (record { number = m; text = text })))

-- nothing is left, or something is
abbrev pub ends_at : ℕ → List ℕ → Result (Unit {0}) ReadFault
ends_at n [] = Ok tt
ends_at n (b ∷ bs) = Err (BadLine n)

-- whether nothing is left of a text that is known
abbrev pub Ends : Option (List ℕ) → ℕ → Result (Unit {0}) ReadFault → Type 0
Ends old n (Err Read) = Unit {0}
Ends old n r = IfSome old (λ text. r ≡ ends_at n text)

-- what was read of a whole text that is known: the value, or the fault; after a failed read and without memory nothing is said
abbrev pub ToldWhole : {X Y : Type 0} → (X → Y) → Result X ReadFault → Result Y ReadFault → Type 0
ToldWhole view (Ok x) said = said ≡ Ok (view x)
ToldWhole view (Err Read) said = Unit {0}
ToldWhole view (Err NoMemory) said = Unit {0}
ToldWhole view (Err e) said = said ≡ Err e

abbrev pub Says : {X Y : Type 0} → (X → Y) → Option (List ℕ) → Result X ReadFault → (List ℕ → Result Y ReadFault) → Type 0
Says view old r reading = IfSome old (λ text. ToldWhole view r (reading text))

-- what is seen of an answer
abbrev pub seen : {X Y : Type 0} → (X → Y) → Result X ReadFault → Result Y ReadFault
seen view (Ok x) = Ok (view x)
seen view (Err e) = Err e
