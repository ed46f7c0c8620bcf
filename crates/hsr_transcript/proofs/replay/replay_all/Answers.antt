use Rattle.std.proofs.Common.{◌≡◌, ◌+◌, ◌<◌, ◌∙◌, [], ◌∷◌, ◌++◌, length, take, get_or, map, ap, sym, subst, arith}
use Rattle.std.proofs.lemmas.Grind.{common_steps}
use Rattle.std.proofs.lemmas.List.{length-map}
use Rattle.std.proofs.lemmas.List.Elements.{All-get_or}
use Rattle.hsr_node.specs.Place.{HasOwnAddress}
use Rattle.hsr_node.specs.declared.place.Place.{Place}
use Rattle.hsr_transcript.specs.Items.{entry_items}
use Rattle.hsr_transcript_lines.specs.Lines.{line_count}
use Rattle.hsr_transcript.specs.Replay.{AreLegal}
use Rattle.hsr_transcript.proofs.Moved.{held_next, left_next, next_fits}
use Rattle.hsr_transcript.proofs.ReplayAll.{count_next, legal_push, replayed_next, unlike_first}
use Rattle.hsr_transcript.proofs.replay.replay_all.Goals as goal

pub overflow_add-line : goal.overflow_add-line
overflow_add-line g c =
    let i = c.loop-i.i in
    let entries = c.as_mut_slice-entries.result.now in
    let most = next_fits entry_items c.loop-i.records c.args.records.now i c.args.first c.loop-i.line c.index-records-i.result entries (omega arith) (omega (arith, c.requires.paired)) c.loop-i.invariant.left c.index-records-i.is
    (c.as_mut_slice-entries.ensures.value ∙ ap entry_items (sym c.index-records-i.is)) c.loop-i.invariant.lined c.requires.lines in omega (arith, most)

pub replay-requires : goal.replay-requires
replay-requires g c =
    let i = c.loop-i.i in
    let entries = c.as_mut_slice-entries.result.now in
    let most = next_fits entry_items c.loop-i.records c.args.records.now i c.args.first c.loop-i.line c.index-records-i.result entries (omega arith) (omega (arith, c.requires.paired)) c.loop-i.invariant.left c.index-records-i.is
    (c.as_mut_slice-entries.ensures.value ∙ ap entry_items (sym c.index-records-i.is)) c.loop-i.invariant.lined c.requires.lines in
    let own : HasOwnAddress c.in-Ok.place =
    subst HasOwnAddress (sym c.index-places-i.is ∙ sym c.in-Ok.ensures) (All-get_or HasOwnAddress c.args.places.now i c.index-places-i.result c.loop-i-test.true c.requires.stations) in
    (omega (arith, most), (own, (c.requires.capacity, most)))

pub overflow_add-line-in-Ok-replay-2 : goal.overflow_add-line-in-Ok-replay-2
overflow_add-line-in-Ok-replay-2 g c =
    let i = c.loop-i.i in
    let entries = c.as_mut_slice-entries.result.now in
    let most = next_fits entry_items c.loop-i.records c.args.records.now i c.args.first c.loop-i.line c.index-records-i.result entries (omega arith) (omega (arith, c.requires.paired)) c.loop-i.invariant.left c.index-records-i.is
    (c.as_mut_slice-entries.ensures.value ∙ ap entry_items (sym c.index-records-i.is)) c.loop-i.invariant.lined c.requires.lines in omega (arith, most)

pub returns-in-Err : goal.returns-in-Err
returns-in-Err g c =
    let records = map entry_items c.args.records.now in
    let i = c.loop-i.i in
    let entries = c.as_mut_slice-entries.result.now in
    let within : i < length c.args.records.now = omega (arith, c.requires.paired) in
    let here : get_or records i entries ≡ entries = held_next entry_items c.loop-i.records c.args.records.now i c.index-records-i.result entries (omega arith) within c.loop-i.invariant.left c.index-records-i.is
    (c.as_mut_slice-entries.ensures.value ∙ ap entry_items (sym c.index-records-i.is)) in
    let place : get_or c.args.places.now i c.in-Ok.place ≡ c.in-Ok.place =
    subst (λ (p : Place). get_or c.args.places.now i p ≡ p) (sym c.in-Ok.ensures) (sym c.index-places-i.is) in
    unlike_first g.row.C c.args.places.now records c.loop-i.kept.items c.args.first c.loop-i.line i c.in-Ok.place entries c.in-Err.fault c.loop-i-test.true place here
    c.loop-i.invariant.legal c.loop-i.invariant.replayed c.loop-i.invariant.lined c.in-Err.ensures

pub loop-i-preserved : goal.loop-i-preserved
loop-i-preserved g c =
    let records = map entry_items c.args.records.now in
    let i = c.loop-i.i in
    let entries = c.as_mut_slice-entries.result.now in
    let within : i < length c.args.records.now = omega (arith, c.requires.paired) in
    let count : length records ≡ length c.args.records.now = length-map c.args.records.now entry_items in
    let here : get_or records i entries ≡ entries = held_next entry_items c.loop-i.records c.args.records.now i c.index-records-i.result entries (omega arith) within c.loop-i.invariant.left c.index-records-i.is
    (c.as_mut_slice-entries.ensures.value ∙ ap entry_items (sym c.index-records-i.is)) in
    let place : get_or c.args.places.now i c.in-Ok.place ≡ c.in-Ok.place =
    subst (λ (p : Place). get_or c.args.places.now i p ≡ p) (sym c.in-Ok.ensures) (sym c.index-places-i.is) in
    let pushed : c.push.new.self.items ≡ c.loop-i.kept.items ++ c.in-Ok-replay.node ∷ [] = grind (arith, common_steps) in
    let next : line_count (take (i + 1) records) ≡ line_count (take i records) + (1 + length entries) = count_next records i entries (omega (arith, count, c.requires.paired)) here in
    record {
      replayed = replayed_next c.args.places.now records c.loop-i.kept.items c.push.new.self.items i c.in-Ok.place entries c.in-Ok-replay.node (count ∙ c.requires.paired) c.loop-i-test.true place here
          c.loop-i.invariant.replayed pushed c.in-Ok-replay.ensures.0;
      legal = subst (AreLegal g.row.C) (sym pushed) (legal_push g.row.C c.loop-i.kept.items c.in-Ok-replay.node c.loop-i.invariant.legal c.in-Ok-replay.ensures.1);
      left = left_next c.loop-i.records c.args.records.now i c.index-records-i.result _ (omega arith) within c.loop-i.invariant.left;
      lined = let before = c.loop-i.invariant.lined in omega (arith, next, before);
    }
