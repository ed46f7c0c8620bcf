use Rattle.std.proofs.Common.{◌≡◌, ◌++◌, ◌∙◌, Some, ap, arith, below_more, refl, subst, sym}
use Rattle.std.specs.Prelude.{option_to_list, slice_get}
use Rattle.std.proofs.lemmas.Option.{same_Some, slice_get_read, slice_get_within}
use Rattle.hsr_health.specs.Kinds.{IsSmall, untagged_of}
use Rattle.hsr_health.proofs.Sorting.{found_more}
use Rattle.hsr_taps.specs.declared.tapping.Stray.{Stray}
use Rattle.hsr_health.proofs.kinds.untagged_keys.Goals as goal

pub untagged_key-requires : goal.untagged_key-requires
untagged_key-requires c =
    let strays = c.args.strays.now in
    c.requires c.loop-stray.stray-index c.stray-item.result (slice_get_read strays _ c.loop-stray.stray-index c.stray-item.result refl (omega arith) c.stray-item.is)

pub loop-stray-preserved : goal.loop-stray-preserved
loop-stray-preserved c =
    let strays = c.args.strays.now in
    let i = c.loop-stray.stray-index in
    let own = c.stray-item.result in
    let here = slice_get_read strays _ i own refl (omega arith) c.stray-item.is in
    record {
      keys = found_more untagged_of strays i own _ _ (omega arith) c.loop-stray.invariant.keys
          (c.in_ok-put_key.ensures ∙ ap (λ o. c.loop-stray.keys.items ++ option_to_list o) (c.untagged_key.ensures.key ∙ ap untagged_of c.stray-item.is));
      small = below_more (λ k. (stray : Stray) → slice_get strays k ≡ Some stray → IsSmall stray.what) i c.loop-stray.invariant.small
          (λ stray at_i. subst (λ (s : Stray). IsSmall s.what) (same_Some own stray (sym here ∙ at_i)) c.untagged_key.ensures.small);
    }

pub returns-clause-small : goal.returns-clause-small
returns-clause-small c = λ i stray here. c.loop-stray.invariant.small i (let below = slice_get_within c.args.strays.now i stray here in omega (arith, below)) stray here
