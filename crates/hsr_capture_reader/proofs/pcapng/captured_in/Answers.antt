use Rattle.std.proofs.Common.{◌+◌, ◌≤◌, ◌∙◌, ap, drop, length, subst, sym, take}
use Rattle.hsr_capture_reader.proofs.Places.{part_fits}
use Rattle.hsr_capture_reader.proofs.pcapng.captured_in.Goals as goal

pub returns-clause-fits : goal.returns-clause-fits
returns-clause-fits c =
    let body = c.args.block.now.body in
    subst (λ octets. 20 + length octets ≤ length body) (sym (c.front.ensures ∙ ap (take _) (c.behind.ensures ∙ ap (λ b. drop 20 b.body) c.block.view_is)))
    (part_fits body 20 _ c.requires)
