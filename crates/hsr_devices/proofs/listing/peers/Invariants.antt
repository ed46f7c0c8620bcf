use Rattle.std.proofs.Common.{◌≡◌, map, take}
use Rattle.hsr_timeline.specs.Fronts.{lists_of}
use Rattle.hsr_devices.specs.Listing.{peer_text}
use Rattle.hsr_devices.proofs.listing.peers.Given as goal

abbrev pub invariant-loop-link : goal.invariant-loop-link
invariant-loop-link l = lists_of l.texts.items ≡ map (peer_text (lists_of l.names) l.places) (take l.link-index l.links)
