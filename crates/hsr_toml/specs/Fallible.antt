-- Readings that may fail, one after another, and what code gives of them.
use Rattle.std.specs.Prelude.{◌≡◌, ℕ, Bool, true, false, ⊤, List, [], ◌∷◌, ◌++◌, Result, Ok, Err, if◌then◌else◌}
use Rattle.toml.specs.Data.{Data, Items, no_items, item, Members, no_members, member}

-- the next step, if there was no fault
infixl 10 ◌>>=◌
abbrev pub ◌>>=◌ : {A B E : Type 0} → Result A E → (A → Result B E) → Result B E
(Ok x) >>= f = f x
(Err e) >>= f = Err e

-- a fault, unless it holds
abbrev pub guard : {E : Type 0} → Bool → E → Result ⊤ E
guard holds e = if holds then Ok tt else Err e

-- each item of an array, read after those before it
abbrev pub each_item : {A E : Type 0} → (Data → Result A E) → List A → Items → Result (List A) E
each_item read seen no_items = Ok seen
each_item read seen (item d ds) = read d >>= λ x. each_item read (seen ++ x ∷ []) ds

-- each key of a table with its value, read after those before it
abbrev pub each_member : {A E : Type 0} → (List ℕ → Data → Result A E) → List A → Members → Result (List A) E
each_member read seen no_members = Ok seen
each_member read seen (member k d ms) = read k d >>= λ x. each_member read (seen ++ x ∷ []) ms

-- each table of a list, read after those before it
abbrev pub each_table : {A E : Type 0} → (List A → Members → Result A E) → List A → List Members → Result (List A) E
each_table read seen [] = Ok seen
each_table read seen (ms ∷ more) = read seen ms >>= λ x. each_table read (seen ++ x ∷ []) more

-- ---- what is told is what the definition says, unless memory ran out

abbrev pub UnlessMemory : Bool → Type 0 → Type 0
UnlessMemory true told = Unit {0}
UnlessMemory false told = told

abbrev pub Fails : {Y E : Type 0} → (E → Bool) → E → Result Y E → Type 0
Fails is_memory e said = UnlessMemory (is_memory e) (said ≡ Err e)

abbrev pub Gives : {X Y E : Type 0} → (E → Bool) → (X → Y) → Result X E → Result Y E → Type 0
Gives is_memory view (Ok x) said = said ≡ Ok (view x)
Gives is_memory view (Err e) said = Fails is_memory e said
