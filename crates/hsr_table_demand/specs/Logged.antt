-- What is kept of what a node noted and heard.
--     widest          the greatest of a number at each egress that is wanted
--     needs_of        how many notes an entry needs, by a past
--     needs_in        how many it needs, by what is kept
--     IsLogOf         what is kept tells of this past
--     IsLoggedAfter   what is kept, after one more entry
use Rattle.std.specs.Prelude.{ℕ, ◌+◌, ◌<◌, ◌^◌, ◌≡◌, max, if◌then◌else◌, List, [], ◌∷◌, length}
use Rattle.hsr_frame.specs.Egress.{Egress, up, a, b, c, d}
use Rattle.hsr_frame.specs.declared.egress.Exits.{Exits}
use Rattle.hsr_node.specs.Record.{Owner, knows, notes, now, probe_handled}
use Rattle.hsr_node.specs.declared.entry.Entry.{Entry}
use Rattle.hsr_node.specs.declared.event.Probe.{Probe}
use Rattle.hsr_node.specs.declared.place.Place.{Place}
use Rattle.hsr_table_demand.specs.Read.{Reading, heard_in, read_after, stations_of, wanted_in}
use Rattle.hsr_table_demand.specs.Tallied.{IsTalliedAfter, Tells, reach_in, reach_of}
use Rattle.hsr_table_demand.specs.declared.log.Log.{Log}
use Rattle.hsr_table_demand.specs.declared.tally.Tally.{Tally}

abbrev pub widest : Exits → (Egress → ℕ) → ℕ
widest exits at =
    max (max (max (max (if exits.up then at up else 0) (if exits.a then at a else 0)) (if exits.b then at b else 0)) (if exits.c then at c else 0)) (if exits.d then at d else 0)

-- ---- by a past

abbrev pub needs_of : Owner → List Entry → ℕ
needs_of owner [] = 0
needs_of owner (x ∷ past) = let at = now (x ∷ past) in
    widest (wanted_in owner.place (knows owner.place past at x.event) x.event)
    (λ e. reach_in at (probe_handled (record { node = owner.number; place = length past }) x.event) (notes owner e past))

-- ---- by what is kept

abbrev pub tally_at : Log → Egress → Tally
tally_at log up = log.up
tally_at log a = log.a
tally_at log b = log.b
tally_at log c = log.c
tally_at log d = log.d

abbrev pub moment_of : Log → Entry → ℕ
moment_of log x = max log.moment x.at

-- an entry that stands here, read by what is kept before it
abbrev pub read_by : Log → Place → Probe → Entry → Reading
read_by log = read_after log.moment log.stations

abbrev pub needs_by : Log → Reading → ℕ → ℕ
needs_by log r at = widest r.wanted (λ e. reach_of (tally_at log e) at r.send)

-- there is room for one more note at each egress
pub record HasRoom (log : Log) : Type 0 where
  pub at_up : log.up.count + 1 < 2 ^ 64
  pub at_a : log.a.count + 1 < 2 ^ 64
  pub at_b : log.b.count + 1 < 2 ^ 64
  pub at_c : log.c.count + 1 < 2 ^ 64
  pub at_d : log.d.count + 1 < 2 ^ 64

pub record IsNotedAfter (old : Log) (r : Reading) (at : ℕ) (new : Log) : Type 0 where
  pub at_up : IsTalliedAfter old.up r.noted.up at r.send new.up
  pub at_a : IsTalliedAfter old.a r.noted.a at r.send new.a
  pub at_b : IsTalliedAfter old.b r.noted.b at r.send new.b
  pub at_c : IsTalliedAfter old.c r.noted.c at r.send new.c
  pub at_d : IsTalliedAfter old.d r.noted.d at r.send new.d

pub record IsLoggedAfter (old : Log) (place : Place) (here : Probe) (x : Entry) (new : Log) : Type 0 where
  pub moment : new.moment ≡ moment_of old x
  pub stations : new.stations ≡ heard_in place (moment_of old x) x.event old.stations
  pub noted : IsNotedAfter old (read_by old place here x) (moment_of old x) new

-- ---- what is kept tells of a past

pub record IsLogOf (owner : Owner) (past : List Entry) (log : Log) : Type 0 where
  pub moment : log.moment ≡ now past
  pub stations : log.stations ≡ stations_of owner.place past
  pub tells : (e : Egress) → Tells (tally_at log e) (notes owner e past)
