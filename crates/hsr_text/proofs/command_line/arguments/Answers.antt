use Rattle.std.proofs.Common.{◌∙◌, ap, map, string_bytes, sym}
use Rattle.std.proofs.lemmas.Iterator.{YieldsList-from_slice}
use Rattle.std.proofs.lemmas.Iterator.Adapters.{YieldsList-from_skip}
use Rattle.std.proofs.lemmas.Iterator.Consumers.{YieldsList-end}
use Rattle.std.proofs.lemmas.Simd.{map-map}
use Rattle.hsr_text.proofs.command_line.arguments.Goals as goal

pub returns : goal.returns
returns c =
    let all = YieldsList-end (YieldsList-from_skip 1 (YieldsList-from_slice c.args.args.now.items cc) cc) c.loop-word.yielded _ c.loop-word.yielded_by _ _ c.in-None.is c.next.ensures.steps in
    c.loop-word.invariant ∙ sym (map-map string_bytes (λ word. word.now) c.loop-word.yielded) ∙ ap (map string_bytes) all.0
