-- Where 64 bits don't count the octets of a port.
use Rattle.std.specs.Prelude.{◌≤◌, ◌^◌, ◌⊎◌}
use Rattle.hsr_devices.specs.declared.port.PortLink.{PortLink}

-- more octets came there, or were put there, than 64 bits count
abbrev pub IsUncounted : PortLink → Type 0
IsUncounted link = (2 ^ 64 ≤ link.octets_in) ⊎ (2 ^ 64 ≤ link.octets_out)
