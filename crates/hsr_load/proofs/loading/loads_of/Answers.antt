use Rattle.std.proofs.Common.{◌≡◌, ◌∙◌, List, None, ℕ, ap, subst}
use Rattle.std.specs.Prelude.{IfOk, fold}
use Rattle.hsr_load.specs.Carried.{Channel, channels}
use Rattle.hsr_load.specs.Loads.{AreLoads, span, time_of, wider_by}
use Rattle.hsr_load.proofs.loading.loads_of.Goals as goal

pub returns : goal.returns
returns g c =
    let run = c.args.closed.now.run in
    let list : c.as_slice-list.result.now ≡ channels run = c.as_slice-list.ensures.value ∙ c.in_ok-owned.ensures in
    let time : c.span-time.result ≡ span run = c.span-time.ensures.time ∙ ap (λ (cs : List Channel). time_of (fold wider_by None cs)) list in
    subst (λ (t : ℕ). IfOk c.loads.result (λ loads. AreLoads t (channels run) loads.items)) time
    (subst (λ (cs : List Channel). IfOk c.loads.result (λ loads. AreLoads c.span-time.result cs loads.items)) list c.loads.ensures)
