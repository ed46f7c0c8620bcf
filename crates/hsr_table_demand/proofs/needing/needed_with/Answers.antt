use Rattle.std.proofs.Common.{rules, suc, arith, ◌≡◌, ◌+◌, ◌<◌, ◌^◌, ℕ, length, slice_index_or, refl, ap, ◌∙◌, subst}
use Rattle.hsr_node.specs.declared.entry.Entry.{Entry}
use Rattle.hsr_node.specs.declared.event.Probe.{Probe}
use Rattle.hsr_node.specs.declared.place.Place.{Place}
use Rattle.hsr_run_laws.specs.Run.{Run, place_of, record_of}
use Rattle.hsr_table_demand.specs.Logged.{IsLoggedAfter, moment_of, needs_by, read_by}
use Rattle.hsr_table_demand.specs.Walked.{needs_at, or_more, walked}
use Rattle.hsr_table_demand.specs.declared.most.Needed.{Needed}
use Rattle.hsr_table_demand.proofs.Walking.{place_at, walk_aged, walk_more, walk_needs, walk_room}
use Rattle.hsr_table_demand.proofs.needing.needed_with.Goals as goal

pub step-requires-clause-aged : goal.step-requires-clause-aged
step-requires-clause-aged g c = walk_aged c.args.closed.now.run c.args.node c.loop-i.i c.loop-i.log c.loop-i.invariant.log

pub step-requires-clause-room : goal.step-requires-clause-room
step-requires-clause-room g c =
    let run : Run = c.args.closed.now.run in
    let x : Entry = c.x-item.result in
    let below : c.loop-i.i < length (record_of run c.args.node) = search rules in
    let x_is : x ≡ slice_index_or (record_of run c.args.node) c.loop-i.i x = search rules in
    let few : c.loop-i.i + 1 < 2 ^ 64 = search rules in
    walk_room run c.args.node c.loop-i.i x below x_is c.loop-i.log c.loop-i.invariant.log few

pub loop-i-preserved : goal.loop-i-preserved
loop-i-preserved g c =
    let run : Run = c.args.closed.now.run in
    let k : ℕ = c.args.node in
    let i : ℕ = c.loop-i.i in
    let x : Entry = c.x-item.result in
    let here : Probe = record { node = k; place = i } in
    let p : Place = c.index-places-node.result in
    let below : i < length (record_of run k) = search rules in
    let x_is : x ≡ slice_index_or (record_of run k) i x = search rules in
    let p_is : p ≡ slice_index_or run.places k p = search rules in
    let at : p ≡ place_of run k = place_at run.places k p c.requires.node p_is in
    let needs : c.in_ok-needs.needs ≡ needs_at run k i =
    c.in_ok-needs.ensures.needs ∙ (ap (λ (q : Place). needs_by c.loop-i.log (read_by c.loop-i.log q here x) (moment_of c.loop-i.log x)) at ∙ walk_needs run k i x below x_is c.loop-i.log here refl c.loop-i.invariant.log) in
    let L : Place → Type 0 = λ q. IsLoggedAfter c.loop-i.log q here x c.step.new.self in
    let more : or_more c.loop-i.needed c.in_ok-needs.needs k i ≡ or_more (walked run k c.args.before i) (needs_at run k i) k i =
    ap (λ (m : Needed). or_more m c.in_ok-needs.needs k i) c.loop-i.invariant.most ∙ ap (λ (n : ℕ). or_more (walked run k c.args.before i) n k i) needs in
    let next : suc i ≡ i + 1 = omega arith in
    record {
      log = walk_more run k i x below x_is c.loop-i.log c.step.new.self here refl c.loop-i.invariant.log (subst L at c.in_ok-needs.ensures.logged);
      most = c.or_more-needed.ensures ∙ (more ∙ ap (walked run k c.args.before) next);
    }
