-- What a play comes to at its end, but for numbers.
--     IsEnding         it is quiet, and a closed run of a network, in which nothing needed is forgotten and each send reaches where it is due
--     EndsWell         each play of a setup that is clear ends so
--     EndsByNumbers    and is certain, where no node numbered more frames than there are numbers
use Rattle.std.specs.Prelude.{ℕ, ◌≡◌, false, []}
use Rattle.hsr_run_laws.specs.Closed.{IsClosed}
use Rattle.hsr_run_laws.specs.Premises.{NothingForgotten, NumberedFirst}
use Rattle.hsr_network_laws.specs.Delivered.{AllCovered}
use Rattle.hsr_network_laws.specs.Late.{NothingLate}
use Rattle.hsr_network_laws.specs.Network.{IsNetwork}
use Rattle.hsr_number_laws.specs.Counted.{FewNumbers}
use Rattle.hsr_world_laws.specs.Closing.{IsQuiet}
use Rattle.hsr_world_laws.specs.Origin.{is_injected}
use Rattle.hsr_world_laws.specs.World.{World}
use Rattle.hsr_plays.specs.Conditions.{IsClear}
use Rattle.hsr_plays.specs.Law.{DueAreReached, IsCertain, run_in}
use Rattle.hsr_plays.specs.Plays.{IsPlayed}
use Rattle.hsr_plays.specs.Setup.{IsSetup, Setup}

pub record IsEnding (s : Setup) (w : World) : Type 0 where
  pub quiet : IsQuiet w
  pub own : is_injected w.spans ≡ false
  pub closed : IsClosed (run_in s w)
  pub network : IsNetwork (run_in s w)
  pub first : NumberedFirst (run_in s w)
  pub late : NothingLate (run_in s w)
  pub forgotten : NothingForgotten (run_in s w)
  pub covered : AllCovered (run_in s w)
  pub reached : DueAreReached (run_in s w)

abbrev pub EndsWell : Type 0
EndsWell = (s : Setup) (n : ℕ) (w : World) → IsSetup s → IsClear s → IsPlayed s s.orders [] n w → IsEnding s w

abbrev pub EndsByNumbers : Type 0
EndsByNumbers = (s : Setup) (n : ℕ) (w : World) → IsSetup s → IsClear s → IsPlayed s s.orders [] n w → FewNumbers (run_in s w) → IsCertain s w
