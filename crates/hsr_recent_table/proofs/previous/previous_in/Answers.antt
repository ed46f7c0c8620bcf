use Rattle.hsr_recent_table.specs.Recent.{horizon_of, latest, moment_of}
use Rattle.hsr_recent_table.proofs.Telling.{told_is}
use Rattle.hsr_recent_table.proofs.previous.previous_in.Goals as goal

pub returns : goal.returns
returns c = λ horizon i at things puts ready later.
    told_is horizon (horizon_of c.args.table.now) (moment_of c.args.table.now) things i (record { at = at; key = c.args.key }) (latest c.args.key puts) c.get.result
    ready.forgets later (ready.told c.args.key) (c.get.ensures.found puts ready.knows) (c.get.ensures.missing puts ready.knows)
