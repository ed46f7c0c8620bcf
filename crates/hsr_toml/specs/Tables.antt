-- A table's keys, and the values that stand at them.
use Rattle.std.specs.Prelude.{ℕ, ℤ, pos, negsuc, ◌&&◌, nat_le, Bool, List, [], ◌∷◌, Option, Some, None, Result, Ok, Err, ok_or, if◌then◌else◌}
use Rattle.std.specs.List.{list_any}
use Rattle.std.specs.Str.{bytes_eq}
use Rattle.toml.specs.Data.{Data, Members, no_members, member, Items, no_items, item, get_member, as_str, as_integer, as_array, as_table}
use Rattle.hsr_toml.specs.Faults.{Faults}
use Rattle.hsr_toml.specs.Fallible.{◌>>=◌}

-- the word is one of the keys
abbrev pub is_one_of : {K E : Type 0} → Faults K E → List K → List ℕ → Bool
is_one_of faults keys word = list_any (λ key. bytes_eq word (faults.text key)) keys

-- the first key of the table that is none of these
abbrev pub other_key : {K E : Type 0} → Faults K E → List K → Members → Option (List ℕ)
other_key faults keys no_members = None
other_key faults keys (member k d ms) = if is_one_of faults keys k then other_key faults keys ms else Some k

-- ---- what stands at a key

abbrev pub at_key : {K E : Type 0} → Faults K E → K → Members → Option Data
at_key faults key ms = get_member (faults.text key) ms

abbrev pub present : {K E : Type 0} → Faults K E → K → Option Data → Result Data E
present faults key None = Err (faults.missing key)
present faults key (Some d) = Ok d

-- a value that has to be there
abbrev pub needed : {A K E : Type 0} → Faults K E → K → (K → Data → Result A E) → Members → Result A E
needed faults key read ms = present faults key (at_key faults key ms) >>= read key

abbrev pub read_or : {A K E : Type 0} → K → A → (K → Data → Result A E) → Option Data → Result A E
read_or key default read None = Ok default
read_or key default read (Some d) = read key d

-- a value that may be left out, with what then stands for it
abbrev pub optional : {A K E : Type 0} → Faults K E → K → A → (K → Data → Result A E) → Members → Result A E
optional faults key default read ms = read_or key default read (at_key faults key ms)

-- a value that may be left out, and nothing stands for it
abbrev pub perhaps : {A K E : Type 0} → (K → Data → Result A E) → K → Data → Result (Option A) E
perhaps read key d = read key d >>= λ x. Ok (Some x)

-- ---- kinds of value

abbrev pub text : {K E : Type 0} → Faults K E → K → Data → Result (List ℕ) E
text faults key d = ok_or (as_str d) (faults.wrong_kind key)

abbrev pub integer : {K E : Type 0} → Faults K E → K → Data → Result ℤ E
integer faults key d = ok_or (as_integer d) (faults.wrong_kind key)

abbrev pub items : {K E : Type 0} → Faults K E → K → Data → Result Items E
items faults key d = ok_or (as_array d) (faults.wrong_kind key)

abbrev pub members : {K E : Type 0} → Faults K E → K → Data → Result Members E
members faults key d = ok_or (as_table d) (faults.wrong_kind key)

-- one more in front, where both are there
abbrev pub in_front : {A : Type 0} → Option A → Option (List A) → Option (List A)
in_front (Some x) (Some xs) = Some (x ∷ xs)
in_front _ _ = None

-- what each item of an array is, if each is of that kind
abbrev pub all_of : {A : Type 0} → (Data → Option A) → Items → Option (List A)
all_of as_kind no_items = Some []
all_of as_kind (item d ds) = in_front (as_kind d) (all_of as_kind ds)

abbrev pub texts : {K E : Type 0} → Faults K E → K → Data → Result (List (List ℕ)) E
texts faults key d = items faults key d >>= λ ds. ok_or (all_of as_str ds) (faults.wrong_kind key)

abbrev pub tables : {K E : Type 0} → Faults K E → K → Data → Result (List Members) E
tables faults key d = items faults key d >>= λ ds. ok_or (all_of as_table ds) (faults.wrong_kind key)

-- a text that spells something
abbrev pub word : {A K E : Type 0} → Faults K E → (List ℕ → Option A) → K → Data → Result A E
word faults spelled key d = text faults key d >>= λ s. ok_or (spelled s) (faults.bad_value key)

-- ---- numbers

abbrev pub in_range : ℕ → ℕ → ℤ → Option ℕ
in_range low high (pos n) = if nat_le low n && nat_le n high then Some n else None
in_range low high (negsuc n) = None

-- a number between two, which it may be
abbrev pub between : {K E : Type 0} → Faults K E → ℕ → ℕ → K → Data → Result ℕ E
between faults low high key d = integer faults key d >>= λ z. ok_or (in_range low high z) (faults.bad_value key)
