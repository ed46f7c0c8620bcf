use Rattle.std.proofs.Common.{rules, ◌≡◌, ◌<◌, ◌==◌, ◌&&◌, ◌∙◌, ℕ, not, true, length, slice_index_or, sym, ap}
use Rattle.std.proofs.lemmas.Bool.{false≢true}
use Rattle.hsr_frame.specs.Grammar.{Fields}
use Rattle.hsr_node.specs.declared.place.Place.{Place}
use Rattle.hsr_deliveries.specs.Delivered.{is_due, is_for}
use Rattle.hsr_run_laws.specs.Run.{Run, place_of}
use Rattle.hsr_table_demand.proofs.Walking.{place_at}
use Rattle.hsr_audit.specs.Coming.{Comes}
use Rattle.hsr_audit.proofs.Reached.{due_more}
use Rattle.hsr_audit.proofs.cutoff.Reach.first_unserved.Goals as goal
use Rattle.hsr_audit.proofs.cutoff.Reach.first_unserved.Goals.{else-is_due-via-then-is_due+else-not-comes, else-is_due-via-else-is_due}

pub loop-node-preserved : goal.loop-node-preserved
loop-node-preserved g c =
    let run : Run = c.args.self.now in
    let n : ℕ = c.loop-node.node in
    let s : ℕ = c.args.send.node in
    let p : Place = c.place-item.result in
    let below : n < length run.places = search rules in
    let p_is : p ≡ slice_index_or run.places n p = search rules in
    let asked : c.is_due.result ≡ is_due run s c.args.frame.now.dst c.args.frame.now.kind n =
    c.is_due.ensures
    ∙ (ap (λ (q : Place). not (n == s) && is_for q c.frame.inside.dst c.frame.inside.kind) (place_at run.places n p below p_is)
    ∙ ap (λ (f : Fields). not (n == s) && is_for (place_of run n) f.dst f.kind) c.frame.view_is) in
    let here : (is_due run c.args.send.node c.args.frame.now.dst c.args.frame.now.kind n ≡ true → Comes run c.args.send c.args.frame.now n) = elim c.else-is_due.branch [
      | else-is_due-via-then-is_due+else-not-comes w ↦ λ due. w.comes.ensures.0 (w.if-not-comes.false)
      | else-is_due-via-else-is_due w ↦ λ due. absurd (false≢true (sym w.if-is_due.false ∙ (asked ∙ due)))
    ] in
    due_more run c.args.send c.args.frame.now n here c.loop-node.invariant
