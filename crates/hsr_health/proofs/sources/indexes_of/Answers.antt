use Rattle.std.proofs.Common.{◌+◌, ◌∙◌, ap, arith, length, refl, subst}
use Rattle.std.proofs.lemmas.List.{length_push}
use Rattle.std.proofs.lemmas.Option.{slice_get_read}
use Rattle.hsr_address.specs.Numbers.{number_of}
use Rattle.hsr_frame.specs.Address.{IsAddress}
use Rattle.hsr_health.specs.Sources.{IsPlace}
use Rattle.hsr_health.proofs.Addressing.{indexes_more, source_at}
use Rattle.hsr_health.proofs.sources.indexes_of.Goals as goal

pub loop-i-preserved : goal.loop-i-preserved
loop-i-preserved c =
    let copies = c.args.copies.now in
    let macs = c.args.macs.now in
    let i = c.loop-i.i in
    let one = c.index-copies-i.result in
    let here = slice_get_read copies _ i one refl (omega arith) c.index-copies-i.is in
    let address : IsAddress one.copy.src = subst IsAddress c.source_of.ensures c.number_of-number.ensures.address in
    let place : IsPlace macs (number_of one.copy.src) c.place_of.result
    = subst (λ n. IsPlace macs n c.place_of.result) (c.number_of-number.ensures.number ∙ ap number_of c.source_of.ensures) (c.place_of.ensures.place c.requires.macs.rise) in
    record {
      long = ap length c.in_ok-push.ensures.items ∙ length_push c.loop-i.indexes.items _ ∙ ap (λ n. n + 1) c.loop-i.invariant.long;
      each = indexes_more copies macs c.loop-i.indexes.items _ i _ one c.loop-i.invariant.long c.in_ok-push.ensures.items here (source_at copies macs i c.place_of.result one c.requires.macs here address place) c.loop-i.invariant.each;
    }
