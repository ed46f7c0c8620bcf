-- What is forgotten, mistaken or numbered late at an entry: by its past, and by what is kept of that.
--     any_wanted      a test holds at an egress that is wanted
--     forgets_of      something is forgotten, by a past
--     mistakes_of     something is mistaken, by a past
--     lates_of        something is numbered late, by a past
--     IsLogOf         what is kept tells of this past
--     IsLoggedAfter   what is kept, after one more entry
use Rattle.std.specs.Prelude.{ℕ, max, ◌≤◌, ◌≡◌, ◌&&◌, ◌||◌, Bool, false, List, [], ◌∷◌, length, reverse, Option, Some, None}
use Rattle.std.specs.List.{list_any}
use Rattle.hsr_frame.specs.Egress.{Egress, up, a, b, c, d, has_exit}
use Rattle.hsr_frame.specs.declared.egress.Exits.{Exits}
use Rattle.hsr_duptable.specs.Key.{Key}
use Rattle.hsr_tag.specs.Seen.{classified}
use Rattle.hsr_node.specs.Record.{Noted, Owner, key_handled, key_in, knows, note_if, notes, now, probe_handled}
use Rattle.hsr_node.specs.declared.entry.Entry.{Entry}
use Rattle.hsr_node.specs.declared.event.Event.{Event}
use Rattle.hsr_node.specs.declared.event.Event.TheVariants.{Arrive}
use Rattle.hsr_node.specs.declared.event.Outcome.{Outcome}
use Rattle.hsr_node.specs.declared.event.Outcome.TheVariants.{Judged}
use Rattle.hsr_node.specs.declared.event.Probe.{Probe}
use Rattle.hsr_node.specs.declared.place.Place.{Place}
use Rattle.hsr_run_laws.specs.Premises.{is_note_of}
use Rattle.hsr_network_laws.specs.Late.{is_numbered_late}
use Rattle.hsr_table_demand.specs.Read.{Reading, heard_in, read_after, stations_of, wanted_in}
use Rattle.hsr_table_demand.specs.Needs.{AreUpTo}
use Rattle.hsr_table_flaws.specs.Places.{is_gone, is_mixed_up, noted_after}
use Rattle.hsr_table_flaws.specs.declared.log.Log.{Log}

abbrev pub any_wanted : Exits → (Egress → Bool) → Bool
any_wanted exits test = ((((exits.up && test up) || (exits.a && test a)) || (exits.b && test b)) || (exits.c && test c)) || (exits.d && test d)

-- the source and number of what came
abbrev pub came_in : Event → Option Key
came_in (Arrive port copy) = key_in (classified copy.octets) None
came_in event = None

-- ---- by a past

abbrev pub forgets_of : ℕ → Owner → List Entry → Bool
forgets_of capacity owner [] = false
forgets_of capacity owner (x ∷ past) = let at = now (x ∷ past) in
    any_wanted (wanted_in owner.place (knows owner.place past at x.event) x.event)
    (λ e. is_gone capacity at (probe_handled (record { node = owner.number; place = length past }) x.event) (notes owner e past))

abbrev pub mistakes_of : ℕ → Owner → List Entry → Bool
mistakes_of capacity owner [] = false
mistakes_of capacity owner (x ∷ past) = let at = now (x ∷ past) in
    any_wanted (wanted_in owner.place (knows owner.place past at x.event) x.event)
    (λ e. is_mixed_up capacity at (came_in x.event) (probe_handled (record { node = owner.number; place = length past }) x.event) (notes owner e past))

abbrev pub lates_of : ℕ → Owner → List Entry → Bool
lates_of capacity owner [] = false
lates_of capacity owner (x ∷ past) = is_numbered_late owner past x.event x.outcome

-- ---- by what is kept

abbrev pub marks_at : Log → Egress → List Noted
marks_at log up = log.up
marks_at log a = log.a
marks_at log b = log.b
marks_at log c = log.c
marks_at log d = log.d

abbrev pub moment_of : Log → Entry → ℕ
moment_of log x = max log.moment x.at

-- an entry that stands here, read by what is kept before it
abbrev pub read_by : Log → Place → Probe → Entry → Reading
read_by log = read_after log.moment log.stations

abbrev pub forgets_by : ℕ → Log → Reading → ℕ → Bool
forgets_by capacity log r at = any_wanted r.wanted (λ e. is_gone capacity at r.send (reverse (marks_at log e)))

abbrev pub mistakes_by : ℕ → Log → Reading → Option Key → ℕ → Bool
mistakes_by capacity log r came at = any_wanted r.wanted (λ e. is_mixed_up capacity at came r.send (reverse (marks_at log e)))

-- a send was noted at some egress
abbrev pub was_marked : Log → Option Probe → Bool
was_marked log send = list_any (λ e. list_any (is_note_of send) (reverse (marks_at log e))) (up ∷ a ∷ b ∷ c ∷ d ∷ [])

abbrev pub is_late_by : Log → Event → Outcome → Bool
is_late_by log (Arrive port copy) (Judged up_too ports (Some seq) cause) = was_marked log copy.probe
is_late_by log event outcome = false

abbrev pub IsNotedAfter : Log → Reading → Option Key → ℕ → Log → Type 0
IsNotedAfter old r key at new = (e : Egress) → marks_at new e ≡ noted_after (marks_at old e) (note_if (has_exit r.noted e) key at r.send)

pub record IsLoggedAfter (old : Log) (place : Place) (here : Probe) (x : Entry) (new : Log) : Type 0 where
  pub moment : new.moment ≡ moment_of old x
  pub stations : new.stations ≡ heard_in place (moment_of old x) x.event old.stations
  pub noted : IsNotedAfter old (read_by old place here x) (key_handled place x.event x.outcome) (moment_of old x) new

-- no note is younger than a moment
pub record IsReadyFor (log : Log) (at : ℕ) : Type 0 where
  pub at_up : AreUpTo at (reverse log.up)
  pub at_a : AreUpTo at (reverse log.a)
  pub at_b : AreUpTo at (reverse log.b)
  pub at_c : AreUpTo at (reverse log.c)
  pub at_d : AreUpTo at (reverse log.d)

-- nothing that is kept is younger than the effective moment
pub record IsAged (log : Log) : Type 0 where
  pub stations : log.stations.last ≤ log.moment
  pub marks : IsReadyFor log log.moment

pub record IsLogOf (owner : Owner) (past : List Entry) (log : Log) : Type 0 where
  pub moment : log.moment ≡ now past
  pub stations : log.stations ≡ stations_of owner.place past
  pub marks : (e : Egress) → marks_at log e ≡ reverse (notes owner e past)
  pub aged : IsAged log
