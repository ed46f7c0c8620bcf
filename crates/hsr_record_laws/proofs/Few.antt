-- Where few notes are made behind the first one of a send, nothing that is needed is forgotten.
use Rattle.std.proofs.Common.{◌≡◌, ℕ, ◌+◌, ◌-◌, ◌<◌, ◌≤◌, nat_lt, true, List, [], ◌∷◌, length, take, count_by, Option, Some, sym, subst, arith, lt-ltb}
use Rattle.std.specs.List.{list_any, AllByRecursion}
use Rattle.hsr_frame.specs.Egress.{Egress}
use Rattle.hsr_node.specs.Record.{Each, Noted, notes, now, remembered}
use Rattle.hsr_node.specs.declared.entry.Entry.{Entry}
use Rattle.hsr_node.specs.declared.event.Event.{Event}
use Rattle.hsr_node.specs.declared.event.Event.TheVariants.{Send, Supervise, Arrive, Age}
use Rattle.hsr_node.specs.declared.event.Probe.{Probe}
use Rattle.hsr_run_laws.specs.Closed.{IsOfSend}
use Rattle.hsr_run_laws.specs.Premises.{NumbersFirst, Remembers, is_note_of}
use Rattle.hsr_run_laws.specs.Run.{Run, owner_of}
use Rattle.hsr_run_laws.proofs.Lists.{all_take, all_weaker, any_filtered}
use Rattle.hsr_run_laws.proofs.NotedOnce.{noted_once}
use Rattle.hsr_run_laws.proofs.Records.{Answered, OfArrival, legal_each}
use Rattle.hsr_record_laws.specs.Few.{AreFewSince, FewSinceKeep, IsYoung}
use Rattle.hsr_record_laws.specs.Rivals.{RemembersEach, since}
use Rattle.hsr_record_laws.proofs.Rivals.{each_of_arrival, in_front, mine_in}

-- a note of the send is remembered
still : (capacity at : ℕ) (send : Probe) (ns : List Noted) → (length (since send ns) ≤ capacity) × AllByRecursion (IsYoung at) (since send ns) →
    list_any (is_note_of (Some send)) ns ≡ true → list_any (is_note_of (Some send)) (remembered capacity at ns) ≡ true
still capacity at send ns few some =
    any_filtered (is_note_of (Some send)) (λ n. nat_lt (at - n.moment) 400000) (take capacity ns)
    (all_take (λ n. is_note_of (Some send) n ≡ true → nat_lt (at - n.moment) 400000 ≡ true) capacity ns
    (all_weaker (λ n. is_note_of (Some send) n ≡ true → IsYoung at n) (λ n. is_note_of (Some send) n ≡ true → nat_lt (at - n.moment) 400000 ≡ true) ns
    (λ n h mine. let young : at < n.moment + 400000 = h mine in lt-ltb (at - n.moment) 400000 (omega (arith, young))) (mine_in send (IsYoung at) ns few.1)))
    (in_front send capacity ns few.0 some)

record_keeps : (run : Run) (k : ℕ) (h : List Entry) → Each (Answered run.capacity (owner_of run k)) h → Each (λ x past. OfArrival (IsOfSend run) x.event) h →
    Each (λ x past. NumbersFirst run (owner_of run k) past x.event x.outcome) h → Each (λ x past. AreFewSince run k past (now (x ∷ past)) x.event) h → RemembersEach run k h
record_keeps run k [] legal of_send first few = tt
record_keeps run k (x ∷ past) legal of_send first few =
    let rest = record_keeps run k past legal.1 of_send.1 first.1 few.1 in
    (by_event x.event of_send.0 few.0 rest, rest)
  where
    by_event : (event : Event) → OfArrival (IsOfSend run) event → AreFewSince run k past (now (x ∷ past)) event → RemembersEach run k past →
        Remembers run.capacity (owner_of run k) past (now (x ∷ past)) event
    by_event (Send from dst vlan ethertype payload) o f rest = tt
    by_event (Supervise about) o f rest = tt
    by_event Age o f rest = tt
    by_event (Arrive port copy) o f rest = λ ring e wanted some.
        let P : Option Probe → Type 0 = λ p. list_any (is_note_of p) (notes (owner_of run k) e past) ≡ true in
        let Q : Option Probe → Type 0 = λ p. list_any (is_note_of p) (remembered run.capacity (now (x ∷ past)) (notes (owner_of run k) e past)) ≡ true in
        subst Q (sym o.named)
        (still run.capacity (now (x ∷ past)) o.send (notes (owner_of run k) e past)
        (f o.send o.named e (λ send. (noted_once run k send e past legal.1 of_send.1 first.1 rest).once))
        (subst P o.named some))

pub few_since_keep : FewSinceKeep
few_since_keep run k h is few =
    record_keeps run k h (legal_each run.capacity (owner_of run k) h is.legal) (each_of_arrival run h is.of_send) is.first few
