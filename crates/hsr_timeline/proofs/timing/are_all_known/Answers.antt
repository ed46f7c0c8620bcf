use Rattle.std.proofs.Common.{◌≡◌, ◌<◌, length, ap, sym, ◌∙◌, rules, below_more, arith, false}
use Rattle.std.specs.Prelude.{IsTrue, vec_len}
use Rattle.std.proofs.lemmas.List.{length-map}
use Rattle.hsr_timeline.specs.Fronts.{AreAllKnown, items_of, length_at, lists_of}
use Rattle.hsr_timeline.proofs.Growing.{row_at}
use Rattle.hsr_timeline.proofs.timing.are_all_known.Goals as goal

pub returns-then-len : goal.returns-then-len
returns-then-len c =
    let records = c.args.records.now in
    let stamps = c.args.stamps.now in
    let below : c.loop-node.node < length records = search rules in
    let within : c.loop-node.node < length stamps = search rules in
    let of_record : length_at (lists_of records) c.loop-node.node ≡ vec_len c.index-records-node.result = ap length (row_at records c.loop-node.node c.index-records-node.result below c.index-records-node.is) ∙ sym c.index-records-node.result.ok.0 in
    let of_stamps : length_at (lists_of stamps) c.loop-node.node ≡ vec_len c.index-stamps-node.result = ap length (row_at stamps c.loop-node.node c.index-stamps-node.result within c.index-stamps-node.is) ∙ sym c.index-stamps-node.result.ok.0 in (
      (λ (h : IsTrue false). absurd (cc)),
      (λ (all : AreAllKnown (lists_of records) (lists_of stamps)).
          let rows = length-map records items_of in
          let e : length_at (lists_of stamps) c.loop-node.node ≡ length_at (lists_of records) c.loop-node.node = all c.loop-node.node (omega (arith, rows, below)) in
          absurd (c.if-len.true (c.len.ensures ∙ (sym of_stamps ∙ (e ∙ (of_record ∙ sym c.len-in-loop-node.ensures)))))),
    )

pub loop-node-preserved : goal.loop-node-preserved
loop-node-preserved c =
    let records = c.args.records.now in
    let stamps = c.args.stamps.now in
    let below : c.loop-node.node < length records = search rules in
    let within : c.loop-node.node < length stamps = search rules in
    let of_record : length_at (lists_of records) c.loop-node.node ≡ vec_len c.index-records-node.result = ap length (row_at records c.loop-node.node c.index-records-node.result below c.index-records-node.is) ∙ sym c.index-records-node.result.ok.0 in
    let of_stamps : length_at (lists_of stamps) c.loop-node.node ≡ vec_len c.index-stamps-node.result = ap length (row_at stamps c.loop-node.node c.index-stamps-node.result within c.index-stamps-node.is) ∙ sym c.index-stamps-node.result.ok.0 in
    below_more _ _ c.loop-node.invariant (of_stamps ∙ (sym c.len.ensures ∙ (c.if-len.false ∙ (c.len-in-loop-node.ensures ∙ sym of_record))))
