-- The greatest of delays and the worst of latencies, found by walks that keep the greater of two.
use Rattle.std.proofs.Common.{◌≡◌, ℕ, nat_lt, List, None}
use Rattle.std.specs.Prelude.{fold}
use Rattle.hsr_node.specs.declared.event.Probe.{Probe}
use Rattle.hsr_latency.specs.Delays.{greatest, is_greater, is_lower}
use Rattle.hsr_latency.specs.Kept.{greater, worse}
use Rattle.hsr_latency.specs.Latencies.{is_worse, worst}
use Rattle.hsr_latency.specs.declared.delay.Delay.{Delay}
use Rattle.hsr_latency.specs.declared.latency.NodeLatency.{NodeLatency}
use Rattle.hsr_latency.proofs.First.{IsOrder, kept_is_first}
use Rattle.hsr_latency.proofs.Order.{by_key, by_key_then, higher_apart, higher_first, lower_apart, lower_first}

lower_is : IsOrder is_lower
lower_is = by_key_then (λ (x : Probe). x.node) nat_lt lower_first lower_apart (λ (x y : Probe). nat_lt x.place y.place) (by_key (λ (x : Probe). x.place) nat_lt lower_first)

greater_is : IsOrder is_greater
greater_is = by_key_then (λ (x : Delay). x.time) (λ (x y : ℕ). nat_lt y x) higher_first higher_apart (λ (x y : Delay). is_lower x.send y.send)
    (record { itself = λ a. lower_is.itself a.send; other = λ a b. lower_is.other a.send b.send; through = λ a b c. lower_is.through a.send b.send c.send })

pub greatest_is : (ds : List Delay) → fold greater None ds ≡ greatest ds
greatest_is ds = kept_is_first is_greater greater_is ds

pub worst_is : (latencies : List NodeLatency) → fold worse None latencies ≡ worst latencies
worst_is latencies = kept_is_first is_worse (by_key (λ (x : NodeLatency). x.worst.time) (λ (x y : ℕ). nat_lt y x) higher_first) latencies
