use Rattle.std.proofs.Common.{◌≡◌, ◌++◌, ◌∷◌, [], ℕ, List, length, sym, ap, subst, arith}
use Rattle.hsr_run_laws.specs.Run.{Run}
use Rattle.hsr_table_demand.specs.declared.most.Needed.{Needed}
use Rattle.hsr_devices.specs.Listing.{AreMost}
use Rattle.hsr_devices.proofs.Needing.{long_push, most_push}
use Rattle.hsr_devices.proofs.listing.all_needed.Goals as goal

pub loop-node-preserved : goal.loop-node-preserved
loop-node-preserved g c =
    let run : Run = c.args.closed.now.run in
    let k : ℕ = c.loop-node.node in
    let ms : List Needed = c.loop-node.needed.items in
    let m : Needed = c.in_ok-needed_at.field-0 in
    let items : c.push.new.self.items ≡ ms ++ m ∷ [] = c.in_ok-push.ensures.items in
    let many = c.loop-node.invariant.many in
    let long = long_push ms m in
    let whole = ap (λ (ns : List Needed). length ns) items in
    let P : List Needed → Type 0 = λ ns. AreMost run 0 ns in
    record {
      many = omega (arith, whole, long, many);
      each = subst P (sym items) (most_push run 0 k ms m c.loop-node.invariant.each (omega (arith, many)) c.in_ok-needed_at.ensures);
    }
