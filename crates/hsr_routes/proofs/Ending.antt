-- The nodes at the ends of channels that are found.
use Rattle.std.proofs.Common.{◌≡◌, ℕ, ◌+◌, ◌*◌, ◌<◌, ◌≤◌, ◌==◌, ◌&&◌, Bool, true, false, if◌then◌else◌, List, length, refl, sym, ap, ◌∙◌, arith, ⊎_elim, eq-eqb, eqb-true, ltb-true, lt-ltb}
use Rattle.std.specs.Prelude.{nat_lt, ◌↔◌}
use Rattle.std.proofs.lemmas.Bool.{and_from, and_parts, cases_lt, false≢true}
use Rattle.hsr_run_laws.specs.Run.{Run}
use Rattle.hsr_network_laws.specs.Network.{Channel, stop_of}
use Rattle.hsr_routes.specs.Search.{IsFound}
use Rattle.hsr_routes.proofs.There.{to_there}
use Rattle.hsr_topology.specs.Wired.{IsWired}
use Rattle.hsr_bitset.specs.Numbers.{has}
use Rattle.hsr_routes.specs.Numbered.{is_found, number_of, channel_at}
use Rattle.hsr_routes.proofs.Spreading.{few, number_back, numbered}

pub record AreEndsBelow (run : Run) (found nodes : List ℕ) (j : ℕ) : Type 0 where
  pub sound : (k : ℕ) → k < 512 → has nodes k ≡ true → IsFound run (is_found run found) k
  pub all : (n : ℕ) → n < j → has found n ≡ true → has nodes (stop_of run (channel_at n)).node ≡ true

-- the nodes at the ends of channels are few
pub small_stops : (run : Run) → IsWired run.places run.links → (n : ℕ) → n < 2 * length run.links → (stop_of run (channel_at n)).node < 512
small_stops run wired n low =
    let there = to_there run.places run.links wired (channel_at n).link (channel_at n).dir (omega (arith, low)) in
    let few_places = wired.few_places in
    omega (arith, there, few_places)

pub ends_start : (run : Run) (found nodes : List ℕ) → ((n : ℕ) → has nodes n ≡ false) → AreEndsBelow run found nodes 0
ends_start run found nodes none = record { sound = λ k low is. absurd (false≢true (sym (none k) ∙ is)); all = λ n low. absurd (omega (arith, low)) }

pub ends_more : (run : Run) (found nodes more : List ℕ) (j node : ℕ) (b : Bool) → j < 2 * length run.links → node ≡ (stop_of run (channel_at j)).node → b ≡ has found j →
    ((n : ℕ) → n < 2 * length run.links → (stop_of run (channel_at n)).node < 512) →
    ((n : ℕ) → n < 512 → has more n ≡ (if b && (n == node) then true else has nodes n)) → AreEndsBelow run found nodes j → AreEndsBelow run found more (j + 1)
ends_more run found nodes more j node b low is is_one small put e = record {
  sound = λ k inside is_in. by_test k b refl (k == node) refl (put k inside) inside is_in;
  all = λ n under is_in.
      let there = small n (omega (arith, under, low)) in
      ⊎_elim
      (λ lower. put (stop_of run (channel_at n)).node there ∙ kept (b && ((stop_of run (channel_at n)).node == node)) (has nodes (stop_of run (channel_at n)).node) (e.all n lower is_in))
      (λ high. let same : n ≡ j = omega (arith, under, high) in at_last n same is_in)
      (cases_lt n j);
}
  where
    kept : (t x : Bool) → x ≡ true → (if t then true else x) ≡ true
    kept true x h = refl
    kept false x h = h

    at_last : (n : ℕ) → n ≡ j → has found n ≡ true → has more (stop_of run (channel_at n)).node ≡ true
    at_last n same is_in =
        let here : (stop_of run (channel_at n)).node ≡ node = ap (λ m. (stop_of run (channel_at m)).node) same ∙ sym is in
        let one : b ≡ true = is_one ∙ (ap (has found) (sym same) ∙ is_in) in
        let there = small n (omega (arith, same, low)) in
        put (stop_of run (channel_at n)).node there
        ∙ ap (λ t. if t then true else has nodes (stop_of run (channel_at n)).node) (and_from b ((stop_of run (channel_at n)).node == node) one (eq-eqb (stop_of run (channel_at n)).node node here))

    by_test : (k : ℕ) (c : Bool) → b ≡ c → (t : Bool) → (k == node) ≡ t → has more k ≡ (if c && t then true else has nodes k) → k < 512 → has more k ≡ true → IsFound run (is_found run found) k
    by_test k false off t same left inside is_in = e.sound k inside (sym left ∙ is_in)
    by_test k true one false same left inside is_in = e.sound k inside (sym left ∙ is_in)
    by_test k true one true same left inside is_in =
        let below : (channel_at j).link < length run.links = omega (arith, low) in
        record {
          channel = channel_at j;
          is = and_from (nat_lt (channel_at j).link (length run.links)) (has found (number_of (channel_at j))) (lt-ltb (channel_at j).link (length run.links) below)
              (ap (has found) (number_back j) ∙ (sym is_one ∙ one));
          here = sym is ∙ sym (eqb-true k node same);
        }

pub ends_are : (run : Run) (found nodes : List ℕ) (j : ℕ) → 2 * length run.links ≤ j → length run.places ≤ 64 → AreEndsBelow run found nodes j →
    (k : ℕ) → k < length run.places → (has nodes k ≡ true) ↔ IsFound run (is_found run found) k
ends_are run found nodes j most small e k below = (
  e.sound k (omega (arith, below, small)),
  λ (f : IsFound run (is_found run found) k).
      let parts = and_parts (nat_lt f.channel.link (length run.links)) (has found (number_of f.channel)) f.is in
      let inside = few (length run.links) f.channel (ltb-true f.channel.link (length run.links) parts.0) in
      let at : (stop_of run (channel_at (number_of f.channel))).node ≡ k = ap (λ (w : Channel). (stop_of run w).node) (numbered f.channel) ∙ f.here in
      sym (ap (has nodes) at) ∙ e.all (number_of f.channel) (omega (arith, inside, most)) parts.1,
)
