-- A set of channels that is found leads to just the nodes that routes lead to.
use Rattle.std.proofs.Common.{◌≡◌, Bool, true}
use Rattle.hsr_frame.specs.Grammar.{Fields}
use Rattle.hsr_node.specs.declared.event.Probe.{Probe}
use Rattle.hsr_run_laws.specs.Run.{Run}
use Rattle.hsr_network_laws.specs.Network.{Channel}
use Rattle.hsr_routes.specs.Search.{IsSearched, SearchDecides}
use Rattle.hsr_routes.specs.Routes.{LeadsOver, on, sent}

-- all channels to whose ends they lead are found
pub all_found : (run : Run) (send : Probe) (frame : Fields) (avoid found : Channel → Bool) → IsSearched run send frame avoid found → (channel : Channel) → LeadsOver run send frame avoid channel → found channel ≡ true
all_found run send frame avoid found s channel (sent channel' free first) = s.first channel' free first
all_found run send frame avoid found s channel (on before next leads free goes) = s.next before next (all_found run send frame avoid found s before leads) free goes

pub search_decides : SearchDecides
search_decides run send frame avoid found s k = record {
  sound = λ f. record { channel = f.channel; leads = s.comes f.channel f.is; here = f.here };
  complete = λ r. record { channel = r.channel; is = all_found run send frame avoid found s r.channel r.leads; here = r.here };
}
