use Rattle.std.proofs.Common.{◌+◌, ◌∙◌, ap, length, subst}
use Rattle.std.proofs.lemmas.List.{length_push}
use Rattle.hsr_health.specs.Numbering.{AreGroups, IsFirstSame}
use Rattle.hsr_health.proofs.Gapping.{groups_more}
use Rattle.hsr_health.proofs.ledger.groups_of.Goals as goal

pub loop-k-preserved : goal.loop-k-preserved
loop-k-preserved c =
    let names = c.in_ok-names.names.items in
    let groups = c.loop-k.groups.items in
    record {
      long = ap length c.in_ok-push.ensures.items ∙ length_push groups _ ∙ ap (λ n. n + 1) c.loop-k.invariant.long;
      groups = groups_more names groups _ c.loop-k.k c.first_same.result c.loop-k.invariant.long c.in_ok-push.ensures.items
          (subst (λ l. IsFirstSame l c.loop-k.k c.first_same.result) c.as_slice.ensures.value c.first_same.ensures) c.loop-k.invariant.groups;
    }

pub returns-clause-groups : goal.returns-clause-groups
returns-clause-groups c = subst (λ l. AreGroups l c.loop-k.groups.items) c.in_ok-names.ensures c.loop-k.invariant.groups
