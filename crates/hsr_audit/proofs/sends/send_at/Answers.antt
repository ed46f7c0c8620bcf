use Rattle.std.proofs.Common.{rules, ◌≡◌, ◌∙◌, ℕ, slice_index_or, sym}
use Rattle.hsr_node.specs.declared.entry.Entry.{Entry}
use Rattle.hsr_node.specs.declared.place.Place.{Place}
use Rattle.hsr_run_laws.specs.Run.{Run, record_of}
use Rattle.hsr_audit.proofs.Sending.{sent_is}
use Rattle.hsr_audit.proofs.sends.send_at.Goals as goal

pub returns : goal.returns
returns g c =
    let run : Run = c.args.closed.now.run in
    let k : ℕ = c.args.node in
    let i : ℕ = c.args.place in
    let x : Entry = c.index-entries-place.result in
    let p : Place = c.index-places-node.result in
    let x_is : x ≡ slice_index_or (record_of run k) i x = search rules in
    let p_is : p ≡ slice_index_or run.places k p = search rules in
    c.sent_view.ensures ∙ sym (sent_is run k i p x c.requires.node c.requires.place p_is x_is)
