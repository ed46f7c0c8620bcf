-- Routes that avoid the same channels are the same.
use Rattle.std.proofs.Common.{◌≡◌, ℕ, ◌<◌, Bool, length, sym, ◌∙◌}
use Rattle.hsr_frame.specs.Grammar.{Fields}
use Rattle.hsr_node.specs.declared.event.Probe.{Probe}
use Rattle.hsr_run_laws.specs.Run.{Run}
use Rattle.hsr_network_laws.specs.Network.{Channel}
use Rattle.hsr_routes.specs.Routes.{IsLedTo, LeadsOver, on, sent}

pub leads_alike : (run : Run) (send : Probe) (frame : Fields) (a b : Channel → Bool) → ((channel : Channel) → channel.link < length run.links → a channel ≡ b channel) →
    (channel : Channel) → LeadsOver run send frame a channel → LeadsOver run send frame b channel
leads_alike run send frame a b same channel (sent channel' free first) =
    sent channel' (record { below = free.below; free = sym (same channel' free.below) ∙ free.free }) first
leads_alike run send frame a b same channel (on before next leads free goes) =
    on before next (leads_alike run send frame a b same before leads) (record { below = free.below; free = sym (same next free.below) ∙ free.free }) goes

pub led_alike : (run : Run) (send : Probe) (frame : Fields) (a b : Channel → Bool) → ((channel : Channel) → channel.link < length run.links → a channel ≡ b channel) →
    (k : ℕ) → IsLedTo run send frame a k → IsLedTo run send frame b k
led_alike run send frame a b same k led = record { channel = led.channel; leads = leads_alike run send frame a b same led.channel led.leads; here = led.here }
