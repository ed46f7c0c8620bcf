use Rattle.hsr_table_flaws.proofs.Placing.{key_placed, send_placed}
use Rattle.std.proofs.Common.{refl, sym, ap, ◌∙◌, length, reverse}
use Rattle.hsr_table_flaws.specs.Places.{place_in}
use Rattle.hsr_run_laws.specs.Premises.{is_mistaken}
use Rattle.hsr_table_flaws.proofs.marks.Marks.add.Goals as goal

pub invariant_of-self-2 : goal.invariant_of-self-2
invariant_of-self-2 c = (
  send_placed _ _ _ c.self.inside.marks.items _ (record { key = c.args.key; moment = c.args.moment; probe = c.args.probe }) _ c.in_ok-add_mark.ensures.put (ap length c.as_slice.ensures.value) c.self.invariant.0 c.make_room.ensures.sends c.name_send.ensures,
  key_placed _ _ _ c.self.inside.marks.items _ (record { key = c.args.key; moment = c.args.moment; probe = c.args.probe }) _ c.in_ok-add_mark.ensures.put (ap length c.as_slice.ensures.value) refl (c.place_of_other.ensures ∙ ap (λ notes. place_in (is_mistaken c.args.key c.args.probe) (reverse notes)) (sym c.self.view_is)) c.self.invariant.1 c.make_room.ensures.keys c.name_key.ensures,
)
