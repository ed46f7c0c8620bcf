use Rattle.std.proofs.Common.{◌∙◌, ◌++◌, ap}
use Rattle.hsr_plan_outages.specs.Lines.{outage_text}
use Rattle.hsr_plan_outages.proofs.outages.put_next.Goals as goal

pub returns : goal.returns
returns c =
    let outage = c.in_ok-outage.outage in
    let old = c.args.text.now.items in
    record {
      outage = outage;
      is = c.in_ok-outage.ensures;
      told = c.in_ok-put_outage.ensures
          ∙ (ap (λ ls. old ++ outage_text c.args.nodes.now ls c.sends.result outage) c.requires
          ∙ ap (λ n. old ++ outage_text c.args.nodes.now c.args.sweep.now.net.links n outage) c.sends.ensures);
      cuts = c.is_cutting.ensures;
    }
