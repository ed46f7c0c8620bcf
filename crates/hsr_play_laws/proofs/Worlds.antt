-- What the laws over worlds tell of a world of a play: its records, its links and its copies.
use Rattle.std.proofs.Common.{◌≡◌, ℕ, ◌<◌, ◌≤◌, Bool, true, false, List, [], ◌∷◌, length, map, reverse, get_or, Option, Some, refl, sym, ap, ◌∙◌, subst, arith, ⊎_elim, zero, suc}
use Rattle.std.specs.Prelude.{slice_index_or}
use Rattle.std.specs.List.{AllByRecursion}
use Rattle.std.proofs.lemmas.Bool.{cases_lt}
use Rattle.std.proofs.lemmas.List.{length-map, reverse-reverse}
use Rattle.hsr_node.specs.Record.{Each}
use Rattle.hsr_node.specs.declared.entry.Entry.{Entry}
use Rattle.hsr_node.specs.declared.event.Carried.{Carried}
use Rattle.hsr_node.specs.declared.event.Event.{Event}
use Rattle.hsr_node.specs.declared.event.Event.TheVariants.{Send, Supervise, Arrive, Age}
use Rattle.hsr_topology.specs.declared.end.End.{End}
use Rattle.hsr_run_laws.specs.Closed.{IsOfSend}
use Rattle.hsr_run_laws.specs.Premises.{NumbersFirst}
use Rattle.hsr_run_laws.specs.Run.{Run, owner_of, past_of, record_in}
use Rattle.hsr_run_laws.proofs.Records.{Answered, OfArrival, each_from_ports, legal_each}
use Rattle.hsr_record_laws.specs.Rivals.{ComesOfSend, IsRecordOf}
use Rattle.hsr_world_laws.specs.Closing.{IsOwn, run_of}
use Rattle.hsr_world_laws.specs.Law.{IsSound}
use Rattle.hsr_world_laws.specs.Origin.{EachCopy}
use Rattle.hsr_world_laws.specs.World.{World, new_span, new_world, record_at, run}
use Rattle.hsr_world_laws.proofs.Closed.{always_numbered_first, always_of_send}
use Rattle.hsr_world_laws.proofs.First.{first_sound}
use Rattle.hsr_world_laws.proofs.Keeps.{always_sound}
use Rattle.hsr_world_laws.proofs.Wires.{always_placed}
use Rattle.hsr_plays.specs.Law.{run_in}
use Rattle.hsr_plays.specs.Setup.{Setup}

-- a record of the run, the newest entry first
pub past_is : (capacity : ℕ) (links : List (List End)) (w : World) (n : ℕ) → past_of (run_of capacity links w) n ≡ record_in w.records n
past_is capacity links w n = by_records w.records n
  where
    by_records : (records : List (List Entry)) (n : ℕ) → reverse (slice_index_or (map reverse records) n []) ≡ record_in records n
    by_records [] n = refl
    by_records (past ∷ records) zero = reverse-reverse past
    by_records (past ∷ records) (suc n) = by_records records n

-- past the last node there is no record
no_record : (records : List (List Entry)) (k : ℕ) → length records ≤ k → record_in records k ≡ []
no_record [] k past = refl
no_record (h ∷ records) zero past = absurd (omega (arith, past))
no_record (h ∷ records) (suc k) past = no_record records k (omega (arith, past))

module _ (s : Setup) (w : World) (own : IsOwn s.capacity s.places s.links w) where
  pub sound : IsSound s.capacity w
  sound = subst (IsSound s.capacity) own.reached.is (always_sound s.capacity own.reached.steps (new_world own.reached.room s.places s.links) (first_sound s.capacity own.reached.room s.places s.links own.wired))

  pub places_are : w.places ≡ s.places
  places_are = ap (λ (v : World). v.places) (sym own.reached.is) ∙ (always_placed s.capacity own.reached.steps (new_world own.reached.room s.places s.links)).places

  pub links_are : length w.spans ≡ length s.links
  links_are =
      ap (λ (v : World). length v.spans) (sym own.reached.is)
      ∙ ((always_placed s.capacity own.reached.steps (new_world own.reached.room s.places s.links)).spans ∙ length-map s.links (new_span own.reached.room))

  pub copies : EachCopy (IsOfSend (run_in s w)) w
  copies = always_of_send s.capacity s.places s.links w own

  pub answers : (k : ℕ) → Each (Answered s.capacity (owner_of (run_in s w) k)) (record_at w k)
  answers k = legal_each s.capacity (owner_of (run_in s w) k) (record_at w k) (sound.legal k)

  pub of_sends : (k : ℕ) → Each (λ x past. OfArrival (IsOfSend (run_in s w)) x.event) (record_at w k)
  of_sends k = each_from_ports (IsOfSend (run_in s w)) (record_at w k) (λ port. copies.came k port)

  pub is_record : (k : ℕ) → IsRecordOf (run_in s w) k (record_at w k)
  is_record k = record {
    legal = sound.legal k;
    of_send = comes (record_at w k) (of_sends k);
    first = ⊎_elim
        (λ inside. subst (Each (λ x past. NumbersFirst (run_in s w) (owner_of (run_in s w) k) past x.event x.outcome)) (past_is s.capacity s.links w k)
        (always_numbered_first s.capacity s.places s.links w own k inside))
        (λ past. let counted = sound.counted in
        subst (Each (λ x past. NumbersFirst (run_in s w) (owner_of (run_in s w) k) past x.event x.outcome)) (sym (no_record w.records k (omega (arith, counted, past)))) tt)
        (cases_lt k (length w.places));
  }
    where
      one : (event : Event) → OfArrival (IsOfSend (run_in s w)) event → ComesOfSend (run_in s w) event
      one (Send from dst vlan ethertype payload) h = tt
      one (Supervise about) h = tt
      one (Arrive port copy) h = h
      one Age h = tt

      comes : (h : List Entry) → Each (λ x past. OfArrival (IsOfSend (run_in s w)) x.event) h → Each (λ x past. ComesOfSend (run_in s w) x.event) h
      comes [] all = tt
      comes (x ∷ past) all = (one x.event all.0, comes past all.1)
