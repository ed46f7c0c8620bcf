use Rattle.std.proofs.Common.{◌≡◌, ◌++◌, ◌∷◌, ◌∙◌, [], ap, arith, length, length-append, sym, take}
use Rattle.std.proofs.lemmas.List.{take_more}
use Rattle.hsr_capture_reader.specs.Names.{interface_by, interfaces_by}
use Rattle.hsr_capture_reader.proofs.Naming.{len_more, len_of, one_more}
use Rattle.hsr_capture_reader.proofs.names.names_of.Goals as goal

pub loop-interface-preserved : goal.loop-interface-preserved
loop-interface-preserved c =
    let all = c.args.interfaces.now in
    let i = c.loop-interface.interface-index in
    let item = c.interface-item.result in
    let names = c.loop-interface.names.items in
    let others = c.loop-interface.others.items in
    let last = c.unnamed.result in
    let longer : c.extend_from_slice.new.self.items ≡ names ++ item.name
    = c.in_ok-extend_from_slice.ensures.items ∙ ap (λ x. names ++ x.name) c.interface.view_is in
    let more : c.push.new.self.items ≡ others ++ last ∷ [] = c.in_ok-push.ensures.items in
    record {
      so_far = ap (λ l. interfaces_by l c.push.new.self.items) longer ∙ ap (interfaces_by (names ++ item.name)) more
          ∙ one_more names item.name others last c.loop-interface.invariant.whole c.unnamed.ensures.name
          ∙ ap (λ l. l ++ interface_by item.name last ∷ []) c.loop-interface.invariant.so_far
          ∙ ap (λ x. take i all ++ x ∷ []) (c.unnamed.ensures.others ∙ c.interface-item.is)
          ∙ sym (take_more all i item c.loop-interface-test.true);
      whole = ap len_of more ∙ len_more others last ∙ omega (arith, c.loop-interface.invariant.whole, c.unnamed.ensures.name, length-append names item.name) ∙ sym (ap length longer);
    }
