-- From what is found in the records of a ring to its first doubt.
use Rattle.std.proofs.Common.{◌≡◌, ℕ, false, List, ◌∷◌, Some, sym, subst}
use Rattle.hsr_node.specs.Record.{now}
use Rattle.hsr_audit.specs.Danhs.{HasPremises}
use Rattle.hsr_audit.specs.Doubts.{IsFirst, IsFirstFault, IsRefused, doubt_at, of_ring}
use Rattle.hsr_audit.specs.declared.doubt.AuditFault.{AuditFault}
use Rattle.hsr_audit.specs.declared.doubt.AuditFault.TheVariants as fault
use Rattle.hsr_audit.specs.declared.doubt.Doubt.{Doubt}
use Rattle.hsr_audit.specs.declared.doubt.Doubt.TheVariants as doubt
use Rattle.hsr_audit.specs.Certificate.{Certified, IsCertified, certified}
use Rattle.hsr_deliveries.specs.Delivered.{AreComplete, OnceIsComplete}
use Rattle.hsr_run_laws.specs.Closed.{IsClosed}
use Rattle.hsr_run_laws.specs.Once.{ExactlyOnce}
use Rattle.hsr_audit.specs.Round.{IsClear, IsOwnRing}
use Rattle.hsr_topology.specs.Wired.{IsWired}
use Rattle.hsr_run_laws.specs.Premises.{KnowsOwn, NothingForgotten, NothingMistaken, OneLossyLink, IsRing, Remembers}
use Rattle.hsr_run_laws.specs.Run.{Run, owner_of, record_of}
use Rattle.hsr_network_laws.specs.Late.{NothingLate, is_numbered_late}
use Rattle.hsr_table_flaws.specs.Flaws.{IsFirstFlaw, IsFirstNot, IsInTimeAt, KnowsOwnAt, RemembersAt}
use Rattle.hsr_table_flaws.specs.declared.flaw.Flaw.{Flaw}
use Rattle.hsr_table_flaws.specs.declared.flaw.Flaw.TheVariants.{Forgot, Late, Mistaken}
use Rattle.hsr_table_demand.proofs.Places.{from_each}
use Rattle.hsr_audit.proofs.Premised.{danhs_of_ring, modes_of_ring, own_of_ring, ring_of_own}

-- ---- a place where a premise fails

pub not_all_remembered : (run : Run) (k i : ℕ) → IsFirstNot run (RemembersAt run) k i → NothingForgotten run → ⊥
not_all_remembered run k i f all =
    f.fails (from_each (λ x past. Remembers run.capacity (owner_of run k) past (now (x ∷ past)) x.event) (record_of run k) (all k f.node) i f.place)

pub not_all_known : (run : Run) (k i : ℕ) → IsFirstNot run (KnowsOwnAt run) k i → NothingMistaken run → ⊥
not_all_known run k i f all =
    f.fails (from_each (λ x past. KnowsOwn run.capacity (owner_of run k) past (now (x ∷ past)) x.event) (record_of run k) (all k f.node) i f.place)

pub not_late : (run : Run) (k i : ℕ) → IsFirstNot run (IsInTimeAt run) k i → NothingLate run → ⊥
not_late run k i f all =
    f.fails (from_each (λ x past. is_numbered_late (owner_of run k) past x.event x.outcome ≡ false) (record_of run k) (all k f.node) i f.place)

-- ---- the first doubt

-- of what is found in the records of a ring, in which nothing is numbered late
pub flaw_is : (run : Run) (macs : List (List ℕ)) → IsOwnRing run macs → OneLossyLink run → NothingLate run → (flaw : Flaw) → IsFirstFlaw run (Some flaw) → IsFirst of_ring run (doubt_at flaw)
flaw_is run macs own losses in_time (Forgot k i) is = (own.ring, (own.modes, (own.own, (losses, is))))
flaw_is run macs own losses in_time (Mistaken k i) is = (own.ring, (own.modes, (own.own, (losses, (is.0, is.1)))))
flaw_is run macs own losses in_time (Late k i) is = absurd (not_late run k i is.2 in_time)

-- a doubt refuses
refuses : (run : Run) (d : Doubt) → IsFirst of_ring run d → HasPremises run → ⊥
refuses run doubt.NotRing first some = first (danhs_of_ring run some.0 some.1.ring)
refuses run doubt.Empty first some = first.1.1.1.1.1.1
refuses run doubt.Mode first some = first.1 (modes_of_ring run some.0 some.1.ring)
refuses run doubt.SameAddress first some = first.1.1 (own_of_ring run some.0 some.1.ring)
refuses run (doubt.Side l) first some = first.1.1.1.1.1.1
refuses run doubt.TwoLinks first some = first.1.1.1 some.1.losses
refuses run (doubt.Forgot k i) first some = not_all_remembered run k i first.1.1.1.1 some.1.forgotten
refuses run (doubt.Mistaken k i) first some = not_all_known run k i first.1.1.1.1.1 some.1.mistaken
refuses run (doubt.NumberedLate k i) first some = first.1.1.1.1.1.1
refuses run (doubt.CutOff k i n) first some = first.1.1.1.1.1.1
refuses run (doubt.UnknownStation k i) first some = first.1.1.1.1.1.1
refuses run (doubt.Uncovered k i) first some = first.1.1.1.1.1.1

pub fault_refuses : (run : Run) (f : AuditFault) → IsFirstFault of_ring run f → IsRefused (HasPremises run) f
fault_refuses run (fault.Doubt d) first = refuses run d first
fault_refuses run fault.NoMemory first = tt

-- ---- the certificate

pub own_ring : (run : Run) (macs : List (List ℕ)) → IsWired run.places run.links → IsOwnRing run macs → IsRing run macs
own_ring run macs wired own = subst (IsRing run) (sym own.macs_is) (ring_of_own run wired own.ring own.modes own.own)

certified_is : (run : Run) (macs : List (List ℕ)) (sends : List Certified) → IsWired run.places run.links × IsClosed run → ExactlyOnce → IsClear run macs → sends ≡ certified run macs →
    IsCertified run sends
certified_is run macs sends finished law clear listed =
    let ring = own_ring run macs finished.0 clear.ring in
    record {
      macs = macs;
      premised = record { ring = ring; losses = clear.losses; forgotten = clear.forgotten; mistaken = clear.mistaken };
      listed = listed;
      once = law run macs finished.1 ring clear.losses clear.forgotten clear.mistaken;
    }

-- each send is complete, too
pub certified_so : (run : Run) (macs : List (List ℕ)) (sends : List Certified) → IsWired run.places run.links × IsClosed run → ExactlyOnce → OnceIsComplete → IsClear run macs → sends ≡ certified run macs →
    IsCertified run sends × AreComplete run
certified_so run macs sends finished law completes clear listed =
    let it = certified_is run macs sends finished law clear listed in
    (it, completes run it.macs finished.1 it.premised.ring it.once)
