-- The millisecond in which a channel carried the most.
--     octets_from   the octets of the copies that go in the millisecond from a moment on
--     IsWorst       the greatest such number from a copy's moment on, and the first moment that has it
use Rattle.std.specs.Prelude.{ℕ, ◌-◌, ◌<◌, ◌≤◌, ◌≡◌, ◌&&◌, ◌==◌, nat_le, nat_lt, Bool, true, if◌then◌else◌, List, [], Option, Some, None}
use Rattle.std.specs.List.{list_any, sum_by}
use Rattle.hsr_load.specs.declared.transit.Transit.{Transit}
use Rattle.hsr_load.specs.declared.window.Window.{Window}

abbrev pub moment_in : Transit → ℕ
moment_in t = t.moment

abbrev pub octets_of : Transit → ℕ
octets_of t = t.octets

-- a moment lies in the 1000 microseconds from a start on
abbrev pub lies_in : ℕ → ℕ → Bool
lies_in start m = nat_le start m && nat_lt (m - start) 1000

-- the octets of a copy, if it goes then
abbrev pub octets_in : ℕ → Transit → ℕ
octets_in start t = if lies_in start t.moment then t.octets else 0

abbrev pub octets_from : List Transit → ℕ → ℕ
octets_from ts start = sum_by (octets_in start) ts

-- a copy goes at this moment
abbrev pub IsMoment : List Transit → ℕ → Type 0
IsMoment ts m = list_any (λ (t : Transit). t.moment == m) ts ≡ true

-- of the milliseconds that begin with a copy none has more octets, and none that begins earlier has as many
pub record IsWorst (ts : List Transit) (w : Window) : Type 0 where
  pub moment : IsMoment ts w.at
  pub octets : w.octets ≡ octets_from ts w.at
  pub no_more : (m : ℕ) → IsMoment ts m → octets_from ts m ≤ w.octets
  pub first : (m : ℕ) → IsMoment ts m → m < w.at → octets_from ts m < w.octets

-- where there are no copies there is none
abbrev pub IsWorstIf : List Transit → Option Window → Type 0
IsWorstIf ts None = ts ≡ []
IsWorstIf ts (Some w) = IsWorst ts w
