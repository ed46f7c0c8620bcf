use Rattle.std.proofs.Common.{rules}
use Rattle.hsr_load.proofs.loading.load_with.Goals as goal

pub returns : goal.returns
returns c = record {
  from = search rules;
  to = search rules;
  frames = search rules;
  octets = search rules;
  mean = search rules;
  window = c.args.window;
  is_worst = c.requires.worst;
  worst = search rules;
  at = search rules;
}
