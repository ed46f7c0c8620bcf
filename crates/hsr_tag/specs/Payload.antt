-- Where the octets of a payload are.
use Rattle.std.specs.Prelude.{ℕ, List}
use Rattle.hsr_tag.specs.declared.payload.Held.{Held}
use Rattle.hsr_tag.specs.declared.payload.Held.TheVariants.{There, Here}

abbrev pub octets_of : Held → List ℕ
octets_of (There octets) = octets.now
octets_of (Here octets) = octets.items
