-- What is told of a fault, and that a fault of one step is the fault of all.
use Rattle.std.proofs.Common.{◌≡◌, Bool, true, false, Result, Ok, Err, ap, subst, sym}
use Rattle.hsr_toml.specs.Fallible.{◌>>=◌, Fails, UnlessMemory}

pub unless : {A B : Type 0} (is_memory : Bool) → (A → B) → UnlessMemory is_memory A → UnlessMemory is_memory B
unless true f h = tt
unless false f h = f h

not_less : {A : Type 0} (is_memory : Bool) → A → UnlessMemory is_memory A
not_less true h = tt
not_less false h = h

-- what fails with a fault is that fault
pub fails : {Y E : Type 0} (is_memory : E → Bool) (e : E) (said : Result Y E) → said ≡ Err e → Fails is_memory e said
fails is_memory e said h = not_less (is_memory e) h

pub stays : {A B E : Type 0} (is_memory : E → Bool) (e : E) (r : Result A E) (f : A → Result B E) → Fails is_memory e r → Fails is_memory e (r >>= f)
stays is_memory e r f h = unless (is_memory e) (ap (λ x. x >>= f)) h

-- where memory ran out nothing is told
pub untold : {Y E : Type 0} (is_memory : E → Bool) (e : E) (said : Result Y E) → is_memory e ≡ true → Fails is_memory e said
untold is_memory e said h = subst (λ memory. UnlessMemory memory (said ≡ Err e)) (sym h) tt
