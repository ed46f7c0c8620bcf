use Rattle.std.proofs.Common.{◌≡◌, ◌+◌, ◌∙◌, ap, arith, refl, sym, Some}
use Rattle.std.specs.Prelude.{option_map, slice_get}
use Rattle.std.proofs.lemmas.List.{length_push}
use Rattle.std.proofs.lemmas.Option.{slice_get_read}
use Rattle.hsr_taps.specs.Tallies.{is_looked_at}
use Rattle.hsr_taps.proofs.Tallying.{all_looked_at, each_more}
use Rattle.hsr_taps.proofs.tally.looked_at.Goals as goal

pub loop-i-preserved : goal.loop-i-preserved
loop-i-preserved c =
    let interfaces = c.args.interfaces.now in
    let choice = c.args.choice.now in
    let i = c.loop-i.i in
    let here = slice_get_read interfaces _ i c.index-interfaces-i.result refl (omega arith) c.index-interfaces-i.is in
    record {
      long = rw c.in_ok-push.ensures.items (length_push c.loop-i.looked_at.items c.is_looked_at.result ∙ ap (λ n. n + 1) c.loop-i.invariant.long);
      each = each_more (λ k o. o ≡ option_map (is_looked_at choice k) (slice_get interfaces k)) c.loop-i.looked_at.items _ i c.is_looked_at.result c.loop-i.invariant.long c.in_ok-push.ensures.items
          c.loop-i.invariant.each (ap Some c.is_looked_at.ensures ∙ sym (ap (option_map (is_looked_at choice i)) here));
    }

pub returns : goal.returns
returns c = record { each = all_looked_at c.args.choice.now c.args.interfaces.now c.loop-i.looked_at.items c.loop-i.i c.loop-i.invariant.long (omega arith) c.loop-i.invariant.each }
