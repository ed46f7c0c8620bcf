use Rattle.std.proofs.Common.{◌∙◌}
use Rattle.hsr_link.proofs.Sound.{added, by_result, so_ok, sound_push_back, sound_push_forth}
use Rattle.hsr_link.specs.declared.row.Dir.TheVariants.{Forth, Back}
use Rattle.hsr_link.proofs.link.Link.add.Goals as goal

pub invariant_of-self : goal.invariant_of-self
invariant_of-self c =
    by_result _ _ c.enter.result c.enter.ensures.ok c.enter.ensures.err
    (λ fate h. sound_push_forth _ _ _ _ _ _ _ c.self.invariant c.in-Forth.is h.1 (rw c.in-Forth.is at h.2))
    (λ e h. rw (h.0, h.1) c.self.invariant)

pub invariant_of-self-in-Back : goal.invariant_of-self-in-Back
invariant_of-self-in-Back c =
    by_result _ _ c.enter-in-Back.result c.enter-in-Back.ensures.ok c.enter-in-Back.ensures.err
    (λ fate h. sound_push_back _ _ _ _ _ _ _ c.self.invariant c.in-Back.is h.1 (rw c.in-Back.is at h.2))
    (λ e h. rw (h.0, h.1) c.self.invariant)

pub returns-in-Forth-clause-ok : goal.returns-in-Forth-clause-ok
returns-in-Forth-clause-ok c =
    so_ok _ _ c.enter.result c.enter.ensures.ok (λ fate h.
    rw (← c.self.view_is) (added _ c.args.dir c.args.carried c.args.injected c.self.inside.forth fate c.enter.new.rows.items Forth c.in-Forth.is c.self.invariant.queued_forth (h.0 ∙ c.put_fate-fate.ensures.fate) (rw h.0 h.1)))

pub returns-in-Back-clause-ok : goal.returns-in-Back-clause-ok
returns-in-Back-clause-ok c =
    so_ok _ _ c.enter-in-Back.result c.enter-in-Back.ensures.ok (λ fate h.
    rw (← c.self.view_is) (added _ c.args.dir c.args.carried c.args.injected c.self.inside.back fate c.enter-in-Back.new.rows.items Back c.in-Back.is c.self.invariant.queued_back (h.0 ∙ c.put_fate-fate-in-Back.ensures.fate) (rw h.0 h.1)))
