use Rattle.std.proofs.Common.{◌≡◌, ◌++◌, ◌∷◌, ◌∙◌, [], ap, arith, length, option_to_list, sym}
use Rattle.std.proofs.lemmas.List.{length_push}
use Rattle.hsr_capture_reader.specs.Rooms.{packet_by}
use Rattle.hsr_capture_reader.proofs.Places.{one_back}
use Rattle.hsr_capture_reader.proofs.rooms.packets_back.Goals as goal

pub loop-room-preserved : goal.loop-room-preserved
loop-room-preserved c =
    let file = c.args.file.now in
    let left = c.give_back.new.left.items in
    let room = c.in-Some.room in
    let made = c.loop-room.packets.items in
    let last : c.loop-room.left.items ≡ left ++ room ∷ []
    = c.pop.ensures.items ∙ ap (λ o. c.pop.new.self.items ++ option_to_list o) c.in-Some.is ∙ ap (λ l. l ++ room ∷ []) (sym c.give_back.ensures) in
    record {
      packets = one_back file c.loop-room.left.items left room made c.push.new.self.items _ last
          (c.in_ok-push.ensures.items ∙ ap (λ p. made ++ p ∷ []) (c.packet_by.ensures ∙ ap (λ n. packet_by file n room) (c.len-in-Some.ensures ∙ c.pop.new.self.ok.0 ∙ ap length (sym c.give_back.ensures))))
          c.loop-room.invariant.packets;
      many = omega (arith, c.loop-room.invariant.many, ap length last ∙ length_push left room);
    }
