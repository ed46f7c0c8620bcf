use Rattle.std.proofs.Common.{rules, sym}
use Rattle.std.proofs.lemmas.List.{length-take-le, take_all}
use Rattle.hsr_head.proofs.head.front.Goals as goal

pub slice_bounds-result-end : goal.slice_bounds-result-end
slice_bounds-result-end c = sym (length-take-le 4096 c.args.text.now (search rules))

pub returns-else-text-gt-FRONT_LIMIT : goal.returns-else-text-gt-FRONT_LIMIT
returns-else-text-gt-FRONT_LIMIT c = sym (take_all 4096 c.args.text.now (search rules))
