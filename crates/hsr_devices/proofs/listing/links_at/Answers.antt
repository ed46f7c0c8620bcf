use Rattle.std.proofs.Common.{◌++◌, ◌∷◌, [], ◌∙◌, ℕ, List, Option, ap, sym, arith}
use Rattle.std.proofs.lemmas.List.FromFn.{map-range_with_len_more}
use Rattle.hsr_run_laws.specs.Run.{Run}
use Rattle.hsr_devices.specs.Listing.{links_at}
use Rattle.hsr_devices.specs.Port.{port_link}
use Rattle.hsr_devices.specs.declared.port.PortLink.{PortLink}
use Rattle.hsr_devices.proofs.listing.links_at.Goals as goal

pub loop-port-preserved : goal.loop-port-preserved
unfolding links_at
loop-port-preserved g c =
    let run : Run = c.args.closed.now.run in
    let port : ℕ = c.loop-port.port in
    let f : ℕ → Option PortLink = λ p. port_link run (record { node = c.args.node; port = p }) in
    c.in_ok-push.ensures.items
    ∙ (ap (λ (ls : List (Option PortLink)). ls ++ c.in_ok-link.link ∷ []) c.loop-port.invariant
    ∙ (ap (λ (o : Option PortLink). links_at run c.args.node port ++ o ∷ []) c.in_ok-link.ensures.ok ∙ sym (map-range_with_len_more f 0 port port (omega arith))))
