use Rattle.std.proofs.Common.{arith, length, ◌-◌, ap, sym, subst, ◌∙◌, List}
use Rattle.hsr_duptable.proofs.RisingNotes.{IsRising-raise, IsRising-filter}
use Rattle.hsr_duptable.proofs.Chains.{AreChained-drop}
use Rattle.hsr_duptable.specs.Chains.{AreChained}
use Rattle.hsr_duptable.specs.declared.chain.Entry.{Entry}
use Rattle.circular_buffer.specs.Buffer.{Buffer}
use Rattle.hsr_duptable.proofs.table.DupTable.age.Goals as goal

pub drop_expired-requires : goal.drop_expired-requires
drop_expired-requires g c =
    let later = rw (← c.self.view_is) at c.requires in
    IsRising-raise 0 _ _ _ later c.self.invariant.0.rising

pub invariant_of-self : goal.invariant_of-self
invariant_of-self g c =
    let later = rw (← c.self.view_is) at c.requires in
    let i = c.self.invariant.0 in
    let left = c.drop_expired.new.ring in
    let fewer = AreChained-drop g.row.C c.self.inside.ring.items c.self.inside.heads.items c.self.inside.noted (length c.self.inside.ring.items - length left.items) (omega arith) c.self.invariant.1 in (
      rw c.drop_expired.ensures.notes record {
        least = i.least;
        most = i.most;
        exact = ap (λ (b : Buffer Entry). b.capacity) c.drop_expired.ensures.last ∙ i.exact;
        rising = IsRising-filter _ 0 _ _ (IsRising-raise 0 _ _ _ later i.rising);
      },
      subst (λ (es : List Entry). AreChained g.row.C es c.self.inside.heads.items c.self.inside.noted) (sym (ap (λ (b : Buffer Entry). b.items) c.drop_expired.ensures.last)) fewer,
    )
