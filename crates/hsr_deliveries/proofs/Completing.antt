-- Where each send came once to each node that it is due at, and to no other, each send is complete; so in a ring that delivered
-- each frame exactly once.
use Rattle.std.proofs.Common.{◌≡◌, ℕ, zero, suc, ◌+◌, ◌<◌, ◌==◌, ◌&&◌, nat_lt, not, Bool, true, false, if◌then◌else◌, List, [], ◌∷◌, ◌++◌, length, Option, Some, None, refl, sym, ap, ◌∙◌, arith, eq-eqb, eqb-true, ne_eqb}
use Rattle.std.specs.Prelude.{option_map}
use Rattle.std.specs.List.{AllByRecursion, cons_option}
use Rattle.std.proofs.lemmas.Option.{none-some}
use Rattle.hsr_frame.specs.Address.{is_group, is_same_address}
use Rattle.hsr_node.specs.Flow.{send_at, sent_by}
use Rattle.hsr_node.specs.Record.{Owner}
use Rattle.hsr_node.specs.declared.entry.Entry.{Entry}
use Rattle.hsr_node.specs.declared.event.Probe.{Probe}
use Rattle.hsr_node.specs.declared.place.Place.{Place}
use Rattle.hsr_node.specs.declared.place.Place.TheVariants.{Danh}
use Rattle.hsr_node.specs.declared.sending.Sending.{Sending}
use Rattle.hsr_finished_run.proofs.Plan.{all_append}
use Rattle.hsr_run_laws.specs.Closed.{IsClosed, IsSend}
use Rattle.hsr_run_laws.specs.Once.{IsExactlyOnce, is_addressed}
use Rattle.hsr_run_laws.specs.Premises.{IsRing, mac_at}
use Rattle.hsr_run_laws.specs.Run.{Run, owner_of, past_of, place_of}
use Rattle.hsr_frame.proofs.OneMore.{passing_more}
use Rattle.hsr_run_laws.proofs.Danh.{mode_at}
use Rattle.hsr_run_laws.proofs.Ring.{owner_is}
use Rattle.hsr_run_laws.proofs.Same.{same_address}
use Rattle.hsr_run_laws.proofs.Walk.{sent}
use Rattle.hsr_deliveries.specs.Delivered.{AreComplete, IsComplete, OnceIsComplete, deliveries_below, deliveries_in, delivery_by, delivery_of, is_due, is_for, is_missed, is_strayed, is_twice, nodes_below, times}
use Rattle.hsr_deliveries.specs.Counted.{if_one}

-- ---- no nodes

no_nodes : (test : ℕ → Bool) (n : ℕ) → ((k : ℕ) → k < n → test k ≡ false) → nodes_below n test ≡ []
no_nodes test zero never = refl
no_nodes test (suc n) never =
    let next : suc n ≡ n + 1 = omega arith in
    ap (λ m. nodes_below m test) next ∙ passing_more test n
    ∙ ap (λ ns. ns ++ if_one (test n) n) (no_nodes test n (λ k below. never k (omega (arith, below))))
    ∙ ap (λ b. if_one b n) (never n (omega arith))

-- ---- the place of a send

send_within : (place : Place) (n : ℕ) (past : List Entry) (s : Sending) → send_at place n past ≡ Some s → n < length past
send_within place n [] s is = absurd (none-some s is)
send_within place n (x ∷ past) s is = by_test (n == length past) refl is (send_within place n past s)
  where
    by_test : (t : Bool) → (n == length past) ≡ t → (if t then sent_by place x.event x.outcome else send_at place n past) ≡ Some s →
        (send_at place n past ≡ Some s → n < length past) → n < suc (length past)
    by_test true same is rest = let e = eqb-true n (length past) same in omega (arith, e)
    by_test false other is rest = let below = rest is in omega (arith, below)

send_earlier : (place : Place) (n : ℕ) (x : Entry) (past : List Entry) (s : Sending) → send_at place n past ≡ Some s → send_at place n (x ∷ past) ≡ Some s
send_earlier place n x past s is =
    let below = send_within place n past s is in
    ap (λ t. if t then sent_by place x.event x.outcome else send_at place n past) (ne_eqb n (length past) (λ e. omega (arith, e, below))) ∙ is

send_latest : (place : Place) (x : Entry) (past : List Entry) → send_at place (length past) (x ∷ past) ≡ sent_by place x.event x.outcome
send_latest place x past = ap (λ t. if t then sent_by place x.event x.outcome else send_at place (length past) past) (eq-eqb (length past) (length past) refl)

-- ---- a send

-- each send came once to each node that it is due at, and to no other
pub record IsAsDue (run : Run) : Type 0 where
  pub once : (send : Probe) (sending : Sending) (k : ℕ) → IsSend run send sending → k < length run.places → is_due run send.node sending.frame.dst sending.frame.kind k ≡ true → times run send k ≡ 1
  pub none : (send : Probe) (sending : Sending) (k : ℕ) → IsSend run send sending → k < length run.places → is_due run send.node sending.frame.dst sending.frame.kind k ≡ false → times run send k ≡ 0

module _ (run : Run) (as_due : IsAsDue run) where
  module _ (send : Probe) (sending : Sending) (is : IsSend run send sending) where
    abbrev due : ℕ → Bool
    due k = is_due run send.node sending.frame.dst sending.frame.kind k

    none_missed : (k : ℕ) → k < length run.places → is_missed run send sending.frame.dst sending.frame.kind k ≡ false
    none_missed k below = by_due (due k) refl
      where
        by_due : (b : Bool) → due k ≡ b → (b && times run send k == 0) ≡ false
        by_due true for_it = ap (λ n. n == 0) (as_due.once send sending k is below for_it)
        by_due false other = refl

    none_twice : (k : ℕ) → k < length run.places → is_twice run send sending.frame.dst sending.frame.kind k ≡ false
    none_twice k below = by_due (due k) refl
      where
        by_due : (b : Bool) → due k ≡ b → (b && nat_lt 1 (times run send k)) ≡ false
        by_due true for_it = ap (λ n. nat_lt 1 n) (as_due.once send sending k is below for_it)
        by_due false other = refl

    none_strayed : (k : ℕ) → k < length run.places → is_strayed run send sending.frame.dst sending.frame.kind k ≡ false
    none_strayed k below = by_due (due k) refl
      where
        by_due : (b : Bool) → due k ≡ b → (not b && nat_lt 0 (times run send k)) ≡ false
        by_due true for_it = refl
        by_due false other = ap (λ n. nat_lt 0 n) (as_due.none send sending k is below other)

    is_whole : (at : ℕ) → IsComplete (delivery_of run send at sending)
    is_whole at = record {
      missed = no_nodes (is_missed run send sending.frame.dst sending.frame.kind) (length run.places) none_missed;
      twice = no_nodes (is_twice run send sending.frame.dst sending.frame.kind) (length run.places) none_twice;
      strayed = no_nodes (is_strayed run send sending.frame.dst sending.frame.kind) (length run.places) none_strayed;
    }

  -- ---- all sends

  in_record : (k : ℕ) (past : List Entry) → ((n : ℕ) (s : Sending) → send_at (place_of run k) n past ≡ Some s → IsSend run (record { node = k; place = n }) s) →
      AllByRecursion IsComplete (deliveries_in run (owner_of run k) past)
  in_record k [] sends = tt
  in_record k (x ∷ past) sends =
      all_append IsComplete (deliveries_in run (owner_of run k) past) (cons_option (delivery_by run (owner_of run k) x past) [])
      (in_record k past (λ n s is. sends n s (send_earlier (place_of run k) n x past s is)))
      (by_sent (sent_by (place_of run k) x.event x.outcome) refl)
    where
      here : Probe
      here = record { node = k; place = length past }

      by_sent : (o : Option Sending) → sent_by (place_of run k) x.event x.outcome ≡ o → AllByRecursion IsComplete (cons_option (option_map (delivery_of run here x.at) o) [])
      by_sent None is = tt
      by_sent (Some s) is = (is_whole here s (sends (length past) s (send_latest (place_of run k) x past ∙ is)) x.at, tt)

  below : (n : ℕ) → n < suc (length run.places) → AllByRecursion IsComplete (deliveries_below run n)
  below zero in_range = tt
  below (suc k) in_range =
      all_append IsComplete (deliveries_below run k) (deliveries_in run (owner_of run k) (past_of run k))
      (below k (omega (arith, in_range)))
      (in_record k (past_of run k) (λ n s is. (omega (arith, in_range), is)))

pub all_complete : (run : Run) → IsAsDue run → AreComplete run
all_complete run as_due = below run as_due (length run.places) (omega arith)

-- ---- a ring

module _ (run : Run) (macs : List (List ℕ)) (closed : IsClosed run) (ring : IsRing run macs) (once : IsExactlyOnce run macs) where
  module _ (send : Probe) (sending : Sending) (is : IsSend run send sending) where
    place_is : (k : ℕ) → k < length macs → place_of run k ≡ Danh (mac_at macs k) (mode_at run k)
    place_is k below = ap (λ (o : Owner). o.place) (owner_is run macs closed ring k below)

    -- a ring's node is due what it is addressed
    due_is : (k : ℕ) → k < length macs → is_due run send.node sending.frame.dst sending.frame.kind k ≡ is_addressed macs send.node sending.frame k
    due_is k below = ap (λ p. not (k == send.node) && is_for p sending.frame.dst sending.frame.kind) (place_is k below) ∙ by_group (is_group sending.frame.dst) refl
      where
        mine : (t : Bool) → (k == send.node) ≡ t → (s : Bool) → is_same_address (mac_at macs k) sending.frame.dst ≡ s → is_group sending.frame.dst ≡ false → (not t && s) ≡ s
        mine false other s so single = refl
        mine true same false so single = refl
        mine true same true so single =
            absurd ((sent run macs closed ring send sending is).elsewhere single
            (sym (same_address (mac_at macs k) sending.frame.dst so) ∙ ap (mac_at macs) (eqb-true k send.node same)))

        all : (t : Bool) → (t && true) ≡ t
        all true = refl
        all false = refl

        by_group : (g : Bool) → is_group sending.frame.dst ≡ g →
            (not (k == send.node) && (if g then true else is_same_address (mac_at macs k) sending.frame.dst))
            ≡ (if g then not (k == send.node) else is_same_address (mac_at macs k) sending.frame.dst)
        by_group true group = all (not (k == send.node))
        by_group false single = mine (k == send.node) refl (is_same_address (mac_at macs k) sending.frame.dst) refl single

  round_as_due : IsAsDue run
  round_as_due =
      let many = ring.places in
      record {
        once = λ send sending k is below for_it. let there : k < length macs = omega (arith, below, many) in once.once send sending k is there (sym (due_is send sending is k there) ∙ for_it);
        none = λ send sending k is below other. let there : k < length macs = omega (arith, below, many) in once.none send sending k is there (sym (due_is send sending is k there) ∙ other);
      }

pub once_is_complete : OnceIsComplete
once_is_complete run macs closed ring once = all_complete run (round_as_due run macs closed ring once)
