use Rattle.std.proofs.Common.{◌∙◌, length, option_map, ap, ℕ, Option}
use Rattle.hsr_run_laws.specs.Run.{Run}
use Rattle.hsr_latency.specs.Delays.{delays, greatest}
use Rattle.hsr_latency.specs.Latencies.{latency_by, latency_of}
use Rattle.hsr_latency.specs.declared.delay.Arrivals.TheVariants.{Up, Second}
use Rattle.hsr_latency.specs.declared.delay.Delay.{Delay}
use Rattle.hsr_latency.proofs.latencies.node_latency.Goals as goal

-- src/latencies.rt:58:1
pub returns : goal.returns
returns g c =
    let run : Run = c.args.moments.now in
    let k : ℕ = c.args.node in
    c.latency_with.ensures
    ∙ (ap (λ (n : ℕ). option_map (latency_by k n c.in_ok-second.second) c.in_ok-frames.worst) c.in_ok-frames.ensures.many
    ∙ (ap (λ (second : Option Delay). option_map (latency_by k (length (delays Up run k)) second) c.in_ok-frames.worst) c.in_ok-second.ensures.most
    ∙ (ap (λ (worst : Option Delay). option_map (latency_by k (length (delays Up run k)) (greatest (delays Second run k))) worst) c.in_ok-frames.ensures.most
    ∙ ap (λ (of_run : Run). latency_of of_run k) c.requires.moments)))
