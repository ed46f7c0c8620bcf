-- The channels on which a send lost copies.
use Rattle.std.specs.Prelude.{ℕ, ◌<◌, ◌≡◌, ◌==◌, ◌&&◌, Bool, List}
use Rattle.std.specs.List.{list_any}
use Rattle.hsr_link.specs.Rows.{is_same_dir}
use Rattle.hsr_deliveries.specs.declared.loss.Loss.{Loss}
use Rattle.hsr_network_laws.specs.Network.{Channel}
use Rattle.hsr_bitset.specs.Numbers.{has}
use Rattle.hsr_routes.specs.Numbered.{number_of}

-- a copy was lost on a channel
abbrev pub is_on : Channel → Loss → Bool
is_on channel loss = (loss.link == channel.link) && is_same_dir channel.dir loss.dir

-- a set has just the channels, of the first 256 links, of these losses
abbrev pub AreWaysOf : List Loss → List ℕ → Type 0
AreWaysOf losses set = (channel : Channel) → channel.link < 256 → has set (number_of channel) ≡ list_any (is_on channel) losses
