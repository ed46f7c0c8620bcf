use Rattle.std.proofs.Common.{◌++◌, ◌∙◌, [], ◌∷◌, arith, subst, sym, take}
use Rattle.std.proofs.lemmas.List.{length-take, take_more}
use Rattle.hsr_taps.specs.Tallies.{AreTallies}
use Rattle.hsr_taps.proofs.tally.tallies_of.Goals as goal

pub loop-packet-preserved : goal.loop-packet-preserved
loop-packet-preserved c =
    let packets = c.args.packets.now in
    let i = c.loop-packet.packet-index in
    let p = c.packet-item.result in
    record {
      long = c.count_packet.ensures.long ∙ c.loop-packet.invariant.long;
      tallies = subst (λ l. AreTallies c.args.looked_at.now l c.count_packet.new.tallies.items) (sym (take_more packets i p (omega arith)))
          (subst (λ x. AreTallies c.args.looked_at.now (take i packets ++ x ∷ []) c.count_packet.new.tallies.items) c.packet-item.is
          (c.count_packet.ensures.tallies (take i packets) (omega (arith, length-take i packets)) c.loop-packet.invariant.tallies));
    }
