-- The load of a finished run: how much each channel carried, over the whole run and in its worst millisecond.
--     span        how long copies went over the run's channels
--     IsLoad      the load of a channel
--     AreLoads    those of channels, in their order; a channel that carried nothing has none
--     most        the first than whose worst millisecond none is greater
use Rattle.std.specs.Prelude.{ℕ, ◌-◌, ◌*◌, ◌/◌, ◌≡◌, nat_le, Bool, max, min, List, [], ◌∷◌, find, fold, length, Option, Some, None}
use Rattle.std.specs.List.{cons_option, list_all, sum_by}
use Rattle.hsr_run_laws.specs.Run.{Run}
use Rattle.hsr_load.specs.Carried.{Channel, channels}
use Rattle.hsr_load.specs.Windows.{IsWorst, octets_of}
use Rattle.hsr_load.specs.declared.load.ChannelLoad.{ChannelLoad}
use Rattle.hsr_load.specs.declared.transit.Transit.{Transit}
use Rattle.hsr_load.specs.declared.window.Window.{Window}

-- ---- how long

-- the first moment and the last, with one more copy
abbrev pub wider : Option (ℕ × ℕ) → Transit → Option (ℕ × ℕ)
wider None t = Some (t.moment, t.moment)
wider (Some ends) t = Some (min ends.0 t.moment, max ends.1 t.moment)

abbrev pub wider_by : Option (ℕ × ℕ) → Channel → Option (ℕ × ℕ)
wider_by ends c = fold wider ends c.transits

-- the first moment and the last at which a channel of the run carried a copy
abbrev pub first_and_last : Run → Option (ℕ × ℕ)
first_and_last run = fold wider_by None (channels run)

-- the time between them in microseconds, a millisecond at least
abbrev pub time_of : Option (ℕ × ℕ) → ℕ
time_of None = 1000
time_of (Some ends) = max 1000 (ends.1 - ends.0)

abbrev pub span : Run → ℕ
span run = time_of (first_and_last run)

-- ---- how much

-- the load of a channel, where copies went for this time: how many it carried, their octets on the wire, the mean in kbit/s
-- rounded down, and the worst millisecond, in kbit/s too, with its first moment
pub record IsLoad (time : ℕ) (c : Channel) (load : ChannelLoad) : Type 0 where
  pub from : load.from ≡ c.from
  pub to : load.to ≡ c.to
  pub frames : load.frames ≡ length c.transits
  pub octets : load.octets ≡ sum_by octets_of c.transits
  pub mean : load.mean ≡ load.octets * 8000 / time
  pub window : Window
  pub is_worst : IsWorst c.transits window
  pub worst : load.worst ≡ window.octets * 8
  pub at : load.at ≡ window.at

abbrev pub IsLoadIf : ℕ → Channel → Option ChannelLoad → Type 0
IsLoadIf time c None = c.transits ≡ []
IsLoadIf time c (Some load) = IsLoad time c load

-- one of the channels has this load or none, and the others have these
pub record IsNext (Rest : List ChannelLoad → Type 0) (time : ℕ) (c : Channel) (loads : List ChannelLoad) : Type 0 where
  pub load : Option ChannelLoad
  pub others : List ChannelLoad
  pub is_load : IsLoadIf time c load
  pub rest : Rest others
  pub all : loads ≡ cons_option load others

abbrev pub AreLoads : ℕ → List Channel → List ChannelLoad → Type 0
AreLoads time [] loads = loads ≡ []
AreLoads time (c ∷ cs) loads = IsNext (AreLoads time cs) time c loads

abbrev pub AreLoadsOf : Run → List ChannelLoad → Type 0
AreLoadsOf run loads = AreLoads (span run) (channels run) loads

-- ---- the most

-- no channel has a greater worst millisecond than this one
abbrev pub is_most : List ChannelLoad → ChannelLoad → Bool
is_most loads load = list_all (λ (other : ChannelLoad). nat_le other.worst load.worst) loads

-- of these the first
abbrev pub most : List ChannelLoad → Option ChannelLoad
most loads = find (is_most loads) loads
