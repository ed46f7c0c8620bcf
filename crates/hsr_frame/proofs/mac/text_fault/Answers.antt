use Rattle.std.proofs.Common.{◌≡◌, ◌+◌, ◌∙◌, None, drop, slice_index, refl, sym, add-one, drop-cons, below_more}
use Rattle.hsr_frame.specs.Address.{fault_from, place_fault}
use Rattle.hsr_frame.proofs.mac.text_fault.Goals as goal

pub loop-i-preserved : goal.loop-i-preserved
loop-i-preserved c =
    let i = c.loop-i.i in
    let text = c.args.text.now in
    let here : place_fault i (slice_index text i) ≡ None = sym c.octet_fault.ensures ∙ c.in_default.is in
    let within = c.loop-i-test.true in
    let past : fault_from i (drop i text) ≡ fault_from (i + 1) (drop (i + 1) text) = rw (add-one i, drop-cons text i 0, here, add-one i) refl in
    record {
      right = below_more _ _ c.loop-i.invariant.right here;
      first = sym past ∙ c.loop-i.invariant.first;
    }
