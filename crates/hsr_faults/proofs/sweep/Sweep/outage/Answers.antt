use Rattle.std.proofs.Common.{rules, ◌≡◌, ◌∙◌, List, ap, length, subst}
use Rattle.std.specs.Prelude.{IfOk}
use Rattle.hsr_run_laws.specs.Run.{Run}
use Rattle.hsr_topology.specs.Wired.{IsWired}
use Rattle.hsr_routes.specs.Routes.{bare}
use Rattle.hsr_faults.specs.CutOff.{AreCuts, IsOutage, Told}
use Rattle.hsr_faults.specs.Lines.{AreMissed, told_of}
use Rattle.hsr_faults.specs.Sweep.{Swept, sends_of}
use Rattle.hsr_faults.specs.declared.groups.Group.{Group}
use Rattle.hsr_faults.specs.declared.nodes.Nodes.{Nodes}
use Rattle.hsr_faults.proofs.Telling.{lined, lined_as, outage_is, told_all}
use Rattle.hsr_faults.proofs.sweep.Sweep.outage.Goals as goal

pub told-requires : goal.told-requires
told-requires c =
    let groups : List Group = c.self.inside.groups.items in
    let net : Run = bare c.self.inside.topology.now.places c.self.inside.topology.now.links in
    let s : Swept = record { net = net; orders = c.self.inside.orders.now; within = c.self.inside.within } in
    let all : c.as_slice-2.result.now ≡ groups = c.as_slice-2.ensures.value in
    let missed : AreMissed net c.args.fault groups (length groups) c.in_ok-missed.missed.items =
    subst (λ (xs : List Group). AreMissed net c.args.fault xs (length xs) c.in_ok-missed.missed.items) all c.in_ok-missed.ensures in
    lined_as groups c.as_slice-4.result.now c.self.inside.of.items c.as_slice-5.result.now c.self.inside.counts.items c.as_slice-6.result.now c.in_ok-missed.missed.items c.as_slice-7.result.now
    c.as_slice-4.ensures.value c.as_slice-5.ensures.value c.as_slice-6.ensures.value c.as_slice-7.ensures.value
    (lined s.orders (sends_of s) groups c.self.inside.of.items c.self.inside.counts.items c.in_ok-missed.missed.items c.self.invariant.grouped c.self.invariant.counted missed.many)

pub returns : goal.returns
returns c =
    let groups : List Group = c.self.inside.groups.items in
    let net : Run = bare c.self.inside.topology.now.places c.self.inside.topology.now.links in
    let wired : IsWired net.places net.links = search rules in
    let s : Swept = record { net = net; orders = c.self.inside.orders.now; within = c.self.inside.within } in
    let of = c.self.inside.of.items in
    let nodes : List Nodes = c.in_ok-missed.missed.items in
    let all : c.as_slice-2.result.now ≡ groups = c.as_slice-2.ensures.value in
    let missed : AreMissed net c.args.fault groups (length groups) nodes =
    subst (λ (xs : List Group). AreMissed net c.args.fault xs (length xs) nodes) all c.in_ok-missed.ensures in
    let told : told_of c.as_slice-4.result.now c.as_slice-7.result.now c.as_slice-5.result.now ≡ told_of groups nodes of =
    ap (λ (xs : List Group). told_of xs c.as_slice-7.result.now c.as_slice-5.result.now) c.as_slice-4.ensures.value
    ∙ (ap (λ (xs : List Nodes). told_of groups xs c.as_slice-5.result.now) c.as_slice-7.ensures.value ∙ ap (told_of groups nodes) c.as_slice-5.ensures.value) in
    let cuts : IfOk c.told.result (λ outage. AreCuts (told_of groups nodes of) outage.cuts.items outage.sends) =
    subst (λ (xs : List Told). IfOk c.told.result (λ outage. AreCuts xs outage.cuts.items outage.sends)) told c.told.ensures.cuts in
    subst (λ (x : Swept). IfOk c.told.result (IsOutage x.net x.orders (sends_of x) c.args.fault)) c.self.view_is
    (outage_is c.told.result net s.orders (sends_of s) c.args.fault (told_of groups nodes of)
    (told_all net s.orders (sends_of s) c.args.fault groups of nodes wired.few_links c.self.invariant.grouped missed) c.told.ensures.fault cuts)
