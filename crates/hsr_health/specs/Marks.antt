-- What is counted of a copy, and how it is kept in one octet.
use Rattle.std.specs.Prelude.{ℕ, ◌+◌, ◌*◌, ◌/◌, ◌%◌, ◌==◌, Bool, true, false}

pub record Marked : Type 0 where
  pub begins : Bool
  pub is_clash : Bool
  pub is_late : Bool
  pub is_wrong_size : Bool
  pub is_wrong_lane : Bool

-- one more answer, as the lowest digit of a number of zeros and ones
abbrev pub with_bit : ℕ → Bool → ℕ
with_bit bits true = bits * 2 + 1
with_bit bits false = bits * 2

abbrev pub bits_of : Marked → ℕ
bits_of m = with_bit (with_bit (with_bit (with_bit (with_bit 0 m.begins) m.is_clash) m.is_late) m.is_wrong_size) m.is_wrong_lane

abbrev pub is_odd : ℕ → Bool
is_odd bits = bits % 2 == 1

abbrev pub marked : ℕ → Marked
marked bits = record {
  begins = is_odd (bits / 16);
  is_clash = is_odd (bits / 8);
  is_late = is_odd (bits / 4);
  is_wrong_size = is_odd (bits / 2);
  is_wrong_lane = is_odd bits;
}
