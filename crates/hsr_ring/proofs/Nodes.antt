-- A look at the first four numbers of a node is one at all eight.
use Rattle.std.specs.Prelude.{◌&&◌, not, if◌then◌else◌}
use Rattle.std.proofs.Common.{◌≡◌, ℕ, ◌+◌, ◌*◌, ◌/◌, ◌%◌, ◌==◌, ◌<◌, ◌≤◌, nat_lt, Bool, true, false, List, option_map, ap, sym, ◌∙◌, arith, ⊎_elim}
use Rattle.std.proofs.lemmas.Grind.{common_steps}
use Rattle.hsr_bitset.specs.Numbers.{has}
use Rattle.hsr_bitset.proofs.Bits.{nat_cases}
use Rattle.hsr_ring.specs.Pending.{AreOfSenders}
use Rattle.hsr_world_laws.specs.Spans.{Span}
use Rattle.hsr_world_laws.specs.World.{waits_in}
use Rattle.hsr_world_links.specs.Ports.{is_waiting, port_in}
use Rattle.hsr_world_links.specs.Views.{spot_view}
use Rattle.hsr_world_links.specs.declared.port.Port.{Port}

no_matter : (b x y : Bool) → x ≡ false → y ≡ false → (if b then x else y) ≡ false
no_matter true x y e f = e
no_matter false x y e f = f

pub four_looked : (ports : List Port) (spans : List Span) (old : List ℕ) (node k number : ℕ) → number ≡ 8 * node + 4 → k < 512 → AreOfSenders ports old →
    (if not (nat_lt k (8 * node)) && nat_lt k number then is_waiting ports spans k else has old k) ≡ (if k / 8 == node then is_waiting ports spans k else has old k)
four_looked ports spans old node k number end below of = ⊎_elim low high (nat_cases (k % 8) 4)
  where
    low : k % 8 < 4 → (if not (nat_lt k (8 * node)) && nat_lt k number then is_waiting ports spans k else has old k) ≡ (if k / 8 == node then is_waiting ports spans k else has old k)
    low h = grind (arith, common_steps, h, end)

    high : 4 ≤ k % 8 → (if not (nat_lt k (8 * node)) && nat_lt k number then is_waiting ports spans k else has old k) ≡ (if k / 8 == node then is_waiting ports spans k else has old k)
    high h =
        let none = of.few k h in
        let now : is_waiting ports spans k ≡ false = ap (λ o. waits_in spans (option_map spot_view o)) none in
        let before : has old k ≡ false = of.senders k below none in
        no_matter (not (nat_lt k (8 * node)) && nat_lt k number) (is_waiting ports spans k) (has old k) now before
        ∙ sym (no_matter (k / 8 == node) (is_waiting ports spans k) (has old k) now before)
