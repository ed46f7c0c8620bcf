-- The nodes that a send reaches are those to which routes lead that avoid the channels on which it lost a copy.
use Rattle.std.proofs.Common.{◌≡◌, ℕ, ◌<◌, true, List, Option, Some, None, length, sym, ◌∙◌}
use Rattle.std.specs.Prelude.{◌↔◌, MatchOption}
use Rattle.hsr_frame.specs.Grammar.{Fields}
use Rattle.hsr_node.specs.declared.event.Probe.{Probe}
use Rattle.hsr_run_laws.specs.Run.{Run}
use Rattle.hsr_network_laws.specs.Network.{Channel, IsNetwork}
use Rattle.hsr_network_laws.specs.Channels.{Carries, ComesOver, IsFirstChannel, IsNextChannel, IsReached}
use Rattle.hsr_network_laws.specs.Channels as network
use Rattle.hsr_routes.specs.Networks.{AreGoingRound, HaveOwnAddresses, IsFirstUnlike}
use Rattle.hsr_routes.specs.Numbered.{is_in}
use Rattle.hsr_routes.specs.Routes.{IsFree, IsLedTo, LeadsOver, bare, heading, sender_at}
use Rattle.hsr_routes.specs.Routes as routes
use Rattle.hsr_routes.proofs.Bare.{network_is}
use Rattle.hsr_bitset.specs.Numbers.{has}
use Rattle.hsr_audit.specs.Reaching.{AreReached, IsLossOf}

module _ (run : Run) (send : Probe) (frame : Fields) (set : List ℕ) (loss : IsLossOf run send set) where
  abbrev alone : Run
  alone = bare run.places run.links

  abbrev said : Fields
  said = heading frame.dst frame.kind

  free : (channel : Channel) → Carries run send channel → IsFree alone (is_in set) channel
  free channel carries = record { below = carries.below; free = loss channel carries.below ∙ carries.kept }

  carried : (channel : Channel) → IsFree alone (is_in set) channel → Carries run send channel
  carried channel h = record { below = h.below; kept = sym (loss channel h.below) ∙ h.free }

  so_routes : (channel : Channel) → ComesOver run send frame channel → LeadsOver alone (sender_at send.node) said (is_in set) channel
  so_routes channel (network.sent channel' carries first) =
      routes.sent channel' (free channel' carries) (record { node = first.node; out = first.out })
  so_routes channel (network.on before next comes carries goes) =
      routes.on before next (so_routes before comes) (free next carries)
      (record { node = goes.node; port = goes.port; passes = goes.passes; out = goes.out; away = goes.away })

  so_comes : (channel : Channel) → LeadsOver alone (sender_at send.node) said (is_in set) channel → ComesOver run send frame channel
  so_comes channel (routes.sent channel' h first) =
      network.sent channel' (carried channel' h) (record { node = first.node; out = first.out })
  so_comes channel (routes.on before next leads h goes) =
      network.on before next (so_comes before leads) (carried next h)
      (record { node = goes.node; port = goes.port; passes = goes.passes; out = goes.out; away = goes.away })

  so_reached : (k : ℕ) → IsLedTo alone (sender_at send.node) said (is_in set) k → IsReached run send frame k
  so_reached k led = record { channel = led.channel; comes = so_comes led.channel led.leads; here = led.here }

  so_led : (k : ℕ) → IsReached run send frame k → IsLedTo alone (sender_at send.node) said (is_in set) k
  so_led k reached = record { channel = reached.channel; leads = so_routes reached.channel reached.comes; here = reached.here }

pub reached_is : (run : Run) (send : Probe) (frame : Fields) (set nodes : List ℕ) → IsLossOf run send set →
    ((k : ℕ) → k < length run.places → (has nodes k ≡ true) ↔ IsLedTo (bare run.places run.links) (sender_at send.node) (heading frame.dst frame.kind) (is_in set) k) →
    AreReached run send frame nodes
reached_is run send frame set nodes loss led k below =
    let both = led k below in
    (λ found. so_reached run send frame set loss k (both.0 found), λ reached. both.1 (so_led run send frame set loss k reached))

-- ---- what is told of nodes and links alone is told of the run

pub unlike_is : (run : Run) (result : Option ℕ) →
    MatchOption result (AreGoingRound (bare run.places run.links) → HaveOwnAddresses (bare run.places run.links) → IsNetwork (bare run.places run.links)) (IsFirstUnlike (bare run.places run.links)) →
    MatchOption result (AreGoingRound run → HaveOwnAddresses run → IsNetwork run) (IsFirstUnlike run)
unlike_is run None told = λ modes own. network_is run (told modes own)
unlike_is run (Some l) told = record { below = told.below; unlike = told.unlike; before = told.before }
