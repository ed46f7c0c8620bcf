-- What a contract sees of a `Key`.
use Rattle.std.specs.Prelude.{ℕ, Bool, List, ◌&&◌, nat_eq}
use Rattle.hsr_frame.specs.Address.{is_same_address}

-- the source and the sequence number
pub record Key : Type 0 where
  pub src : List ℕ
  pub seq : ℕ

abbrev pub is_same_key : Key → Key → Bool
is_same_key a b = is_same_address a.src b.src && nat_eq a.seq b.seq
