-- What is kept of a node tells of its past, entry by entry.
use Rattle.std.proofs.Common.{◌≡◌, ℕ, ◌+◌, ◌<◌, ◌≤◌, ◌^◌, Bool, true, false, ◌&&◌, max, if◌then◌else◌, List, [], ◌∷◌, length, Option, Some, None, refl, ap, ◌∙◌, subst, arith}
use Rattle.std.specs.Prelude.{is_some}
use Rattle.std.specs.List.{cons_option}
use Rattle.hsr_frame.specs.Egress.{Egress, up, a, b, c, d, has_exit, no_exits}
use Rattle.hsr_frame.specs.declared.egress.Exits.{Exits}
use Rattle.hsr_duptable.specs.Key.{Key}
use Rattle.hsr_node.specs.Record.{Noted, Owner, is_noted, key_handled, knows, note_of, notes, now, probe_handled}
use Rattle.hsr_node.specs.declared.entry.Entry.{Entry}
use Rattle.hsr_node.specs.declared.event.Outcome.{Outcome}
use Rattle.hsr_node.specs.declared.event.Probe.{Probe}
use Rattle.hsr_tables.specs.Proxies.{Proxies}
use Rattle.hsr_table_demand.specs.Logged.{HasRoom, IsLogOf, IsLoggedAfter, IsNotedAfter, moment_of, needs_by, needs_of, read_by, tally_at, widest}
use Rattle.hsr_table_demand.specs.Read.{Reading, noted_at, wanted_in}
use Rattle.hsr_table_demand.specs.Tallied.{IsTalliedAfter, Tells, reach_of}
use Rattle.hsr_table_demand.specs.declared.log.Log.{Log}
use Rattle.hsr_table_demand.proofs.Hearing.{known_after, stations_after, stations_last}
use Rattle.hsr_table_demand.proofs.Latest.{reach_told, told_more}

-- ---- the widest

pub widest_same : (exits : Exits) (f g : Egress → ℕ) → ((e : Egress) → f e ≡ g e) → widest exits f ≡ widest exits g
widest_same exits f g same = λ i. widest exits (λ e. same e i)

-- ---- what an entry needs

abbrev here_of : Owner → List Entry → Probe
here_of owner past = record { node = owner.number; place = length past }

pub needs_same : (owner : Owner) (past : List Entry) (log : Log) (here : Probe) (x : Entry) → IsLogOf owner past log → here ≡ record { node = owner.number; place = length past } →
    needs_by log (read_by log owner.place here x) (moment_of log x) ≡ needs_of owner (x ∷ past)
needs_same owner past log here x is at_here =
    let at = now (x ∷ past) in
    let moment : moment_of log x ≡ at = ap (λ n. max n x.at) is.moment in
    ap (λ k. widest (wanted_in owner.place k x.event) (λ e. reach_of (tally_at log e) (moment_of log x) (probe_handled here x.event))) (known_after owner.place past x log.moment log.stations is.moment is.stations)
    ∙ (ap (λ n. widest (wanted_in owner.place (knows owner.place past at x.event) x.event) (λ e. reach_of (tally_at log e) n (probe_handled here x.event))) moment
    ∙ (ap (λ p. widest (wanted_in owner.place (knows owner.place past at x.event) x.event) (λ e. reach_of (tally_at log e) at (probe_handled p x.event))) at_here
    ∙ widest_same (wanted_in owner.place (knows owner.place past at x.event) x.event) (λ e. reach_of (tally_at log e) at (probe_handled (here_of owner past) x.event)) _
    (λ e. reach_told (tally_at log e) at (probe_handled (here_of owner past) x.event) (notes owner e past) (is.tells e))))

-- ---- one more entry

none : (b : Bool) → false ≡ (b && false)
none true = refl
none false = refl

some : (b : Bool) → b ≡ (b && true)
some true = refl
some false = refl

noted_same : (o : Option Key) (outcome : Outcome) (e : Egress) → has_exit (if is_some o then noted_at outcome else no_exits) e ≡ (is_noted outcome e && is_some o)
noted_same None outcome up = none (is_noted outcome up)
noted_same None outcome a = none (is_noted outcome a)
noted_same None outcome b = none (is_noted outcome b)
noted_same None outcome c = none (is_noted outcome c)
noted_same None outcome d = none (is_noted outcome d)
noted_same (Some key) outcome up = some (is_noted outcome up)
noted_same (Some key) outcome a = some (is_noted outcome a)
noted_same (Some key) outcome b = some (is_noted outcome b)
noted_same (Some key) outcome c = some (is_noted outcome c)
noted_same (Some key) outcome d = some (is_noted outcome d)

tallied_at : (old new : Log) (r : Reading) (at : ℕ) → IsNotedAfter old r at new → (e : Egress) → IsTalliedAfter (tally_at old e) (has_exit r.noted e) at r.send (tally_at new e)
tallied_at old new r at n up = n.at_up
tallied_at old new r at n a = n.at_a
tallied_at old new r at n b = n.at_b
tallied_at old new r at n c = n.at_c
tallied_at old new r at n d = n.at_d

pub log_more : (owner : Owner) (past : List Entry) (old new : Log) (here : Probe) (x : Entry) → IsLogOf owner past old → here ≡ record { node = owner.number; place = length past } →
    IsLoggedAfter old owner.place here x new → IsLogOf owner (x ∷ past) new
log_more owner past old new here x is at_here after = record {
  moment = after.moment ∙ moment;
  stations = after.stations ∙ stations_after owner.place past x old.moment old.stations is.moment is.stations;
  tells = tells;
}
  where
    moment : moment_of old x ≡ now (x ∷ past)
    moment = ap (λ n. max n x.at) is.moment

    tells : (e : Egress) → Tells (tally_at new e) (notes owner e (x ∷ past))
    tells e =
        let key = key_handled owner.place x.event x.outcome in
        let one = tallied_at old new (read_by old owner.place here x) (moment_of old x) after.noted e in
        let B : Bool → Type 0 = λ t. IsTalliedAfter (tally_at old e) t (moment_of old x) (probe_handled here x.event) (tally_at new e) in
        let M : ℕ → Type 0 = λ n. IsTalliedAfter (tally_at old e) (is_noted x.outcome e && is_some key) n (probe_handled here x.event) (tally_at new e) in
        let H : Probe → Type 0 = λ p. IsTalliedAfter (tally_at old e) (is_noted x.outcome e && is_some key) (now (x ∷ past)) (probe_handled p x.event) (tally_at new e) in
        told_more (tally_at old e) (tally_at new e) (is_noted x.outcome e) key (now (x ∷ past)) (probe_handled (here_of owner past) x.event) (notes owner e past)
        (subst H at_here (subst M moment (subst B (noted_same key x.outcome e) one))) (is.tells e)

-- ---- room and age

notes_many : (owner : Owner) (e : Egress) (past : List Entry) → length (notes owner e past) ≤ length past
notes_many owner e [] = omega arith
notes_many owner e (x ∷ past) = by_note (note_of owner e x past) (notes_many owner e past)
  where
    by_note : (o : Option Noted) → length (notes owner e past) ≤ length past → length (cons_option o (notes owner e past)) ≤ length (x ∷ past)
    by_note None h = omega (arith, h)
    by_note (Some note) h = omega (arith, h)

pub has_room : (owner : Owner) (past : List Entry) (log : Log) → IsLogOf owner past log → length past + 1 < 2 ^ 64 → HasRoom log
has_room owner past log is few = record { at_up = room up; at_a = room a; at_b = room b; at_c = room c; at_d = room d }
  where
    room : (e : Egress) → (tally_at log e).count + 1 < 2 ^ 64
    room e = let count = (is.tells e).count in let most = notes_many owner e past in omega (arith, count, most, few)

pub is_aged : (owner : Owner) (past : List Entry) (log : Log) → IsLogOf owner past log → log.stations.last ≤ log.moment
is_aged owner past log is =
    let last = ap (λ (s : Proxies). s.last) is.stations in
    let told = stations_last owner.place past in
    let moment = is.moment in
    omega (arith, last, told, moment)
