use Rattle.std.proofs.Common.{◌∙◌, sym, ap}
use Rattle.std.specs.Prelude.{is_some}
use Rattle.hsr_run_index.specs.Indexed.{number_of}
use Rattle.hsr_run_index.proofs.Indexing.{number_put}
use Rattle.hsr_run_index.proofs.numbers.put_number.Goals as goal

pub returns-in-Ok : goal.returns-in-Ok
returns-in-Ok c =
    number_put (number_of c.args.given.now) (number_of c.insert.new.self) c.args.node c.args.seq c.args.send (sym (c.is_some.ensures ∙ ap is_some c.number_of.ensures) ∙ c.if-is_some.false)
    (λ k p. c.in-Ok.ensures.updates.0 (k, p.node, p.place))
