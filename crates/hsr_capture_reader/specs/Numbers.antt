-- Numbers in either byte order, by the offset where they stand.
use Rattle.std.specs.Prelude.{ℕ, ◌+◌, ◌*◌, List, slice_index}
use Rattle.hsr_capture_reader.specs.declared.numbers.ByteOrder.{ByteOrder}
use Rattle.hsr_capture_reader.specs.declared.numbers.ByteOrder.TheVariants.{Little, Big}

-- of two parts of a number, of which each of the higher one counts so much
abbrev pub joined : ByteOrder → ℕ → ℕ → ℕ → ℕ
joined Little worth first second = second * worth + first
joined Big worth first second = first * worth + second

abbrev pub number16 : ByteOrder → List ℕ → ℕ → ℕ
number16 order octets at = joined order 256 (slice_index octets at) (slice_index octets (at + 1))

abbrev pub number32 : ByteOrder → List ℕ → ℕ → ℕ
number32 order octets at = joined order 65536 (number16 order octets at) (number16 order octets (at + 2))

abbrev pub number64 : ByteOrder → List ℕ → ℕ → ℕ
number64 order octets at = joined order 4294967296 (number32 order octets at) (number32 order octets (at + 4))
