use Rattle.std.proofs.Common.{ap, sym, ◌∙◌}
use Rattle.std.specs.Prelude.{is_some}
use Rattle.hsr_link.specs.Link.{Link}
use Rattle.hsr_link.specs.Rows.{first_copy}
use Rattle.hsr_link.specs.declared.row.Dir.{Dir}
use Rattle.hsr_link.specs.declared.row.Dir.TheVariants.{Forth, Back}
use Rattle.hsr_link.proofs.Waiting.{waits_at_front}
use Rattle.hsr_link.proofs.link.Link.waits.Goals as goal

pub returns-in-Forth : goal.returns-in-Forth
returns-in-Forth c =
    waits_at_front Forth c.self.inside.rows.items c.self.inside.forth c.self.inside.capacity c.has_first.result c.has_first.ensures c.self.invariant.queued_forth
    ∙ ap (λ (dir : Dir). is_some (first_copy dir c.self.inside.rows.items)) (sym c.in-Forth.is)
    ∙ ap (λ (link : Link). is_some (first_copy c.args.dir link.rows)) c.self.view_is

pub returns-in-Back : goal.returns-in-Back
returns-in-Back c =
    waits_at_front Back c.self.inside.rows.items c.self.inside.back c.self.inside.capacity c.has_first-in-Back.result c.has_first-in-Back.ensures c.self.invariant.queued_back
    ∙ ap (λ (dir : Dir). is_some (first_copy dir c.self.inside.rows.items)) (sym c.in-Back.is)
    ∙ ap (λ (link : Link). is_some (first_copy c.args.dir link.rows)) c.self.view_is
