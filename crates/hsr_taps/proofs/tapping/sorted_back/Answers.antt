use Rattle.std.proofs.Common.{◌≡◌, ◌++◌, ◌∷◌, ◌∙◌, [], IsSome, ap, option_to_list, subst, sym}
use Rattle.hsr_taps.specs.Came.{caught_in, stray_in, taps_at}
use Rattle.hsr_taps.proofs.Coming.{found_last, tapped_inside}
use Rattle.hsr_taps.proofs.tapping.sorted_back.Goals as goal

pub put_packet-requires : goal.put_packet-requires
put_packet-requires c = λ is. tapped_inside c.args.looked_at.now c.args.taps.now c.in-Some.packet c.requires (subst IsSome c.taps_at.ensures is)

pub loop-packet-preserved : goal.loop-packet-preserved
loop-packet-preserved c =
    let looked = c.args.looked_at.now in
    let taps = c.args.taps.now in
    let left = c.give_back.new.left.items in
    let p = c.in-Some.packet in
    let last : c.loop-packet.left.items ≡ left ++ p ∷ []
    = c.pop.ensures.items ∙ ap (λ o. c.pop.new.self.items ++ option_to_list o) c.in-Some.is ∙ ap (λ l. l ++ p ∷ []) (sym c.give_back.ensures) in
    record {
      copies = found_last (λ q. caught_in q (taps_at looked taps q)) c.loop-packet.left.items left p _ _ _ last c.loop-packet.invariant.copies
          (c.in_ok-put_packet.ensures.copies ∙ ap (λ x. c.loop-packet.sorted.copies.items ++ option_to_list x) (ap (caught_in p) c.taps_at.ensures));
      strays = found_last (λ q. stray_in q (taps_at looked taps q)) c.loop-packet.left.items left p _ _ _ last c.loop-packet.invariant.strays
          (c.in_ok-put_packet.ensures.strays ∙ ap (λ x. c.loop-packet.sorted.strays.items ++ option_to_list x) (ap (stray_in p) c.taps_at.ensures));
    }
