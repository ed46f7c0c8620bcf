use Rattle.std.proofs.Common.{rules, ◌≡◌, ◌+◌, ◌<◌, ◌∙◌, ℕ, Option, length, slice_index_or, false, sym, ap, subst}
use Rattle.hsr_node.specs.declared.event.Probe.{Probe}
use Rattle.hsr_node.specs.declared.place.Place.{Place}
use Rattle.hsr_run_laws.specs.Premises.{is_redbox}
use Rattle.hsr_run_laws.specs.Run.{Run, place_of}
use Rattle.hsr_table_demand.proofs.Walking.{place_at}
use Rattle.hsr_audit.specs.Missed.{IsLowest, MissedBelow, lower_of}
use Rattle.hsr_audit.proofs.Missing.{first_is, nodes_missed, nodes_same}
use Rattle.hsr_audit.proofs.missed.first_missed.Goals as goal
use Rattle.hsr_audit.proofs.missed.first_missed.Goals.{then-is_redbox, else-is_redbox}

pub loop-node-preserved : goal.loop-node-preserved
loop-node-preserved g c =
    let run : Run = c.args.closed.now.run in
    let n : ℕ = c.loop-node.node in
    let p : Place = c.place-item.result in
    let below : n < length run.places = search rules in
    let p_is : p ≡ slice_index_or run.places n p = search rules in
    let at : p ≡ place_of run n = place_at run.places n p below p_is in
    elim c.if-is_redbox.branch [
      | then-is_redbox w ↦
          let l = w.lowest-is in
          let e = w.lower_of-lowest.ensures in
          let is : c.if-is_redbox.lowest ≡ lower_of c.loop-node.lowest w.missed_by.result = cc in
          nodes_missed run n c.loop-node.lowest w.missed_by.result c.if-is_redbox.lowest c.loop-node.invariant w.missed_by.ensures is
      | else-is_redbox w ↦
          let l = w.lowest-is in
          let same : c.loop-node.lowest ≡ c.if-is_redbox.lowest = cc in
          let other : is_redbox (place_of run n) ≡ false = ap is_redbox (sym at) ∙ (sym c.is_redbox.ensures ∙ w.if-is_redbox.false) in
          let P : Option Probe → Type 0 = λ o. IsLowest (MissedBelow run (n + 1)) o in
          subst P same (nodes_same run n c.loop-node.lowest other c.loop-node.invariant)
    ]

pub returns : goal.returns
returns g c =
    let run : Run = c.args.closed.now.run in
    let all : c.loop-node.node ≡ length run.places = search rules in
    first_is run c.loop-node.node c.loop-node.lowest all c.loop-node.invariant
