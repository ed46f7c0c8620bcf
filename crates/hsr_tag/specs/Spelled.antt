-- How long the head of a frame is.
use Rattle.std.specs.Prelude.{ℕ}

-- two addresses, a VLAN tag, an HSR tag with its type, and a type
abbrev pub longest_head : ℕ
longest_head = 24
