-- From when to when after its cause a copy comes: in microseconds, differences of nanoseconds being rounded down.
use Rattle.std.specs.Prelude.{ℕ, ◌+◌, ◌-◌, ◌/◌, ◌&&◌, min, not, nat_lt, Bool, true, Option, Some, None}
use Rattle.hsr_tap_device.specs.declared.device.Times.{Times}
use Rattle.hsr_judging.specs.declared.window.Window.{Window}

abbrev pub us_from : ℕ → ℕ → ℕ
us_from a b = (b - a) / 1000

-- behind the window
abbrev pub is_over : Window → ℕ → ℕ → Bool
is_over w cause seen = nat_lt w.most (us_from cause seen)

-- in front of it, by more than it may be
abbrev pub is_ahead : Window → ℕ → ℕ → Bool
is_ahead w cause seen = nat_lt w.early (us_from seen cause)

-- later than so much, where that is said
abbrev pub is_past : Option ℕ → ℕ → Bool
is_past None long = true
is_past (Some after) long = nat_lt after long

abbrev pub has : Window → ℕ → ℕ → Bool
has w cause seen = not (is_over w cause seen) && (not (is_ahead w cause seen) && is_past w.after (us_from cause seen))

-- in time
abbrev pub in_time : Times → Window
in_time t = record { early = t.early; after = None; most = t.within }

-- late, and not forgotten
abbrev pub late : Times → Window
late t = record { early = 0; after = Some t.within; most = min (t.within + 400000) 18446744073709551615 }
