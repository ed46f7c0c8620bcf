-- Addresses as numbers.
use Rattle.std.specs.Prelude.{ℕ, ◌+◌, ◌*◌, List, slice_index}

-- six octets as a number, the first one the greatest
abbrev pub number_of : List ℕ → ℕ
number_of mac =
    ((((slice_index mac 0 * 256 + slice_index mac 1) * 256 + slice_index mac 2) * 256 + slice_index mac 3) * 256 + slice_index mac 4) * 256 + slice_index mac 5
