-- Steps that may be refused, and what code gives of them.
use Rattle.std.specs.Prelude.{◌≡◌, Result, Ok, Err}
use Rattle.hsr_node_lines.specs.declared.fault.LinesFault.{LinesFault}
use Rattle.hsr_node_lines.specs.declared.fault.LinesFault.TheVariants.{Role, Link, NoSuchName, NoDirection, NoMemory}

-- the next step, if there was no fault
infixl 10 ◌>>=◌
abbrev pub ◌>>=◌ : {A B : Type 0} → Result A LinesFault → (A → Result B LinesFault) → Result B LinesFault
(Ok x) >>= f = f x
(Err e) >>= f = Err e

-- what a function answered is what is said, unless room was refused
abbrev pub Fails : {A : Type 0} → LinesFault → Result A LinesFault → Type 0
Fails NoMemory said = Unit {0}
Fails Role said = said ≡ Err Role
Fails (Link link) said = said ≡ Err (Link link)
Fails (NoSuchName name) said = said ≡ Err (NoSuchName name)
Fails (NoDirection packet) said = said ≡ Err (NoDirection packet)

abbrev pub Gives : {A B : Type 0} → (A → B) → Result A LinesFault → Result B LinesFault → Type 0
Gives view (Ok x) said = said ≡ Ok (view x)
Gives view (Err fault) said = Fails fault said
