-- The names and addresses that texts spell.
use Rattle.std.specs.Prelude.{ℕ, ◌==◌, ◌&&◌, ◌||◌, nat_lt, nat_le, Bool, List, length, Option, Some, None, if◌then◌else◌}
use Rattle.std.specs.List.{list_all}
use Rattle.std.specs.Result.{result_ok}
use Rattle.hsr_frame.specs.Address.{address_of}

-- a small letter, a digit or a hyphen
abbrev pub is_name_octet : ℕ → Bool
is_name_octet b = (nat_le 97 b && nat_le b 122) || ((nat_le 48 b && nat_le b 57) || b == 45)

abbrev pub is_name : List ℕ → Bool
is_name s = list_all is_name_octet s && (nat_lt 0 (length s) && nat_le (length s) 32)

abbrev pub name_of : List ℕ → Option (List ℕ)
name_of s = if is_name s then Some s else None

-- the letter of a port of some role: A, B, C, D, I, P
abbrev pub is_port_letter : ℕ → Bool
is_port_letter c = (nat_le 65 c && nat_le c 68) || (c == 73 || c == 80)

abbrev pub mac_of : List ℕ → Option (List ℕ)
mac_of s = result_ok (address_of s)
