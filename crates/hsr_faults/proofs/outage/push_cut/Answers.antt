use Rattle.std.proofs.Common.{rules, ◌≡◌, ◌<◌, ◌∙◌, ◌∷◌, ◌++◌, ◌==◌, not, ℕ, Bool, List, [], ap, arith, length, slice_index_or, sym, true, false, refl}
use Rattle.std.proofs.lemmas.Bool.{false≢true}
use Rattle.std.proofs.lemmas.Grind.{common_steps}
use Rattle.std.proofs.lemmas.List.{get_or_default}
use Rattle.hsr_faults.specs.CutOff.{IsListed, is_cut}
use Rattle.hsr_faults.specs.Lines.{no_group, no_nodes, told_at}
use Rattle.hsr_faults.specs.declared.groups.Group.{Group}
use Rattle.hsr_faults.specs.declared.nodes.Nodes.{Nodes}
use Rattle.hsr_faults.specs.declared.outage.Cut.{Cut}
use Rattle.hsr_faults.proofs.Lining.{cuts_more}
use Rattle.hsr_faults.proofs.outage.push_cut.Goals as goal

pub returns-in_ok-push : goal.returns-in_ok-push
returns-in_ok-push c =
    let groups : List Group = c.args.groups.now in
    let missed : List Nodes = c.args.missed.now in
    let j : ℕ = c.args.j in
    let group : Group = c.index-groups-j.result in
    let below : j < length groups = c.requires.group in
    let read : group ≡ slice_index_or groups j group = search rules in
    let same : slice_index_or groups j group ≡ slice_index_or groups j no_group = get_or_default groups j group no_group below in
    let cut : Cut = record { sender = (slice_index_or groups j group).frame.sender; nodes = slice_index_or missed j no_nodes; sends = c.alike-sends.result } in
    let cuts : List Cut = c.args.cuts.now.items in
    let pushed = c.in_ok-push.ensures.items in
    let more : c.push.new.self.items ≡ cuts ++ cut ∷ [] = grind (arith, common_steps) in
    let some : not c.is_empty.result ≡ true = search rules in
    let is : is_cut (told_at groups missed j) ≡ true = ap not (sym c.is_empty.ensures) ∙ some in
    let unlisted : c.is_listed.result ≡ false = search rules in
    let items : c.as_slice.result.now ≡ cuts = search rules in
    cuts_more groups c.args.of.now c.args.counts.now missed c.requires.lined j below cuts c.requires.below c.push.new.self.items cut more
    (ap (λ (g : Group). g.frame.sender) same) refl is c.alike-sends.ensures
    (λ (l : IsListed cuts cut.sender cut.nodes.bits). false≢true (sym unlisted ∙ c.is_listed.ensures.1 (Rattle.std.proofs.Common.subst (λ (xs : List Cut). IsListed xs cut.sender cut.nodes.bits) (sym items) l)))
