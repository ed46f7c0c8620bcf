-- What `run` does of a scenario is one of its plays.
--     RunIsPlay   a drain moves what is left, one copy after another in an order of its own, until nothing is under way
use Rattle.std.specs.Prelude.{ℕ, ◌≡◌, [], None}
use Rattle.hsr_ring.specs.Playing as ring
use Rattle.hsr_world_laws.specs.World.{World}
use Rattle.hsr_plays.specs.Plays.{IsPlayed}
use Rattle.hsr_plays.specs.Setup.{IsSetup, Setup, first_world}

-- of a setup that tells no time that a copy lives, since a drain asks for none
abbrev pub RunIsPlay : Type 0
RunIsPlay = (s : Setup) (w : World) → IsSetup s → s.within ≡ None → ring.Plays s.capacity s.orders (first_world s) w → (n : ℕ) × IsPlayed s s.orders [] n w
