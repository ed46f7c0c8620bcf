use Rattle.std.proofs.Common.{◌∷◌}
use Rattle.hsr_recent_table.specs.Ready.{put_for}
use Rattle.hsr_recent_table.proofs.Telling.{one_more_ready}
use Rattle.hsr_recent_table.proofs.previous.Previous.next.Goals as goal

pub returns-clause-found : goal.returns-clause-found
returns-clause-found c = λ horizon things come. c.previous_in-previous.ensures horizon c.args.i c.args.thing.at things come.0 come.1 c.requires

pub returns-clause-come : goal.returns-clause-come
returns-clause-come c = λ horizon things time here come. (
  put_for c.args.thing c.args.i ∷ come.0,
  one_more_ready horizon things c.args.self.now.table c.put_thing.new.table c.args.i come.0 c.args.thing time come.1 here (c.in_ok-put_thing.ensures.knows come.0 come.1.knows)
      c.put_thing.ensures.moment c.put_thing.ensures.horizon,
)
