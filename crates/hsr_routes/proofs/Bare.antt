-- What holds of nodes and links alone holds of a run with them.
use Rattle.hsr_run_laws.specs.Run.{Run}
use Rattle.hsr_network_laws.specs.Network.{IsNetwork}
use Rattle.hsr_routes.specs.Routes.{bare}

pub network_is : (run : Run) → IsNetwork (bare run.places run.links) → IsNetwork run
network_is run net = record {
  modes = net.modes;
  single = net.single;
  differ = net.differ;
  ends = λ channel below. let end = net.ends channel below in record { node = end.node; port = end.port };
  sides = net.sides;
  faces = net.faces;
  apart = net.apart;
}
