use Rattle.std.proofs.Common.{rules, ◌≡◌, ◌<◌, ◌∙◌, ℕ, Bool, List, ap, length, slice_index_or, subst, sym}
use Rattle.std.proofs.lemmas.List.{get_or_default}
use Rattle.hsr_faults.specs.CutOff.{is_of}
use Rattle.hsr_faults.specs.Lines.{no_group, no_nodes, told_at}
use Rattle.hsr_faults.specs.declared.groups.Group.{Group}
use Rattle.hsr_faults.proofs.Counting.{all_below, count_map, counted_more, none_below}
use Rattle.hsr_faults.proofs.outage.alike.Goals as goal

pub loop-j-init : goal.loop-j-init
loop-j-init c =
    sym (none_below (λ x. is_of c.args.sender c.args.nodes.bits (told_at c.args.groups.now c.args.missed.now x)) c.args.of.now)

pub loop-j-preserved : goal.loop-j-preserved
loop-j-preserved c =
    let p : ℕ → Bool = λ x. is_of c.args.sender c.args.nodes.bits (told_at c.args.groups.now c.args.missed.now x) in
    let groups : List Group = c.args.groups.now in
    let group : Group = c.index-groups-j.result in
    let j : ℕ = c.loop-j.j in
    let below : j < length groups = search rules in
    let read : group ≡ slice_index_or groups j group = search rules in
    let same : group ≡ slice_index_or groups j no_group = read ∙ get_or_default groups j group no_group below in
    let test : c.is_alike.result ≡ p j =
    c.is_alike.ensures ∙ ap (λ (g : Group). is_of c.args.sender c.args.nodes.bits (record { sender = g.frame.sender; nodes = (slice_index_or c.args.missed.now j no_nodes).bits })) same in
    counted_more p j c.args.of.now c.loop-j.sends c.if_one-sends.result (slice_index_or c.args.counts.now j 0) c.is_alike.result c.loop-j.invariant c.if_one-sends.ensures test
    (c.requires.counts_are.each j 0 below)

pub returns : goal.returns
returns c =
    let p : ℕ → Bool = λ x. is_of c.args.sender c.args.nodes.bits (told_at c.args.groups.now c.args.missed.now x) in
    let end : c.loop-j.j ≡ length c.args.groups.now = search rules in
    c.loop-j.invariant
    ∙ (all_below p c.loop-j.j c.args.of.now (λ i d low. subst (λ n. slice_index_or c.args.of.now i d < n) (sym end) (c.requires.below i d low))
    ∙ sym (count_map (is_of c.args.sender c.args.nodes.bits) (told_at c.args.groups.now c.args.missed.now) c.args.of.now))
