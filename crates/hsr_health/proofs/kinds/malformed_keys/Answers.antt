use Rattle.std.proofs.Common.{◌++◌, ◌∙◌, ap, arith, refl}
use Rattle.std.specs.Prelude.{option_to_list}
use Rattle.std.proofs.lemmas.Option.{slice_get_read}
use Rattle.hsr_health.specs.Kinds.{malformed_of}
use Rattle.hsr_health.proofs.Sorting.{found_more}
use Rattle.hsr_health.proofs.kinds.malformed_keys.Goals as goal

pub malformed_key-requires : goal.malformed_key-requires
malformed_key-requires c =
    let strays = c.args.strays.now in
    c.requires c.loop-stray.stray-index c.stray-item.result (slice_get_read strays _ c.loop-stray.stray-index c.stray-item.result refl (omega arith) c.stray-item.is)

pub loop-stray-preserved : goal.loop-stray-preserved
loop-stray-preserved c =
    let strays = c.args.strays.now in
    found_more malformed_of strays c.loop-stray.stray-index c.stray-item.result _ _ (omega arith) c.loop-stray.invariant
    (c.in_ok-put_key.ensures ∙ ap (λ o. c.loop-stray.keys.items ++ option_to_list o) (c.malformed_key.ensures ∙ ap malformed_of c.stray-item.is))
