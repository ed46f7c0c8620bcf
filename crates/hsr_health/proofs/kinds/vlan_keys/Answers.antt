use Rattle.std.proofs.Common.{◌≡◌, ◌∙◌, ap, arith, length, refl, subst, sym}
use Rattle.std.proofs.lemmas.Option.{slice_get_read}
use Rattle.hsr_health.specs.Counted.{mark_of}
use Rattle.hsr_health.specs.Kinds.{AreVlanKeys}
use Rattle.hsr_health.specs.Marks.{Marked}
use Rattle.hsr_health.proofs.Sourcing.{told_is}
use Rattle.hsr_health.proofs.Tagging.{no_vlans, vlan_step}
use Rattle.hsr_health.proofs.kinds.vlan_keys.Goals as goal

pub loop-i-init : goal.loop-i-init
loop-i-init c = subst (AreVlanKeys c.args.copies.now 0) (sym c.new-keys.ensures.items) (no_vlans c.args.copies.now)

pub loop-i-preserved : goal.loop-i-preserved
loop-i-preserved c =
    let copies = c.args.copies.now in
    let i = c.loop-i.i in
    let x = c.index-copies-i.result in
    let here = slice_get_read copies _ i c.index-copies-i.result refl (omega arith) c.index-copies-i.is in
    let told = c.index-marks-i.is ∙ told_is (mark_of c.requires.0 c.requires.1) copies c.args.marks.now i c.index-copies-i.result c.index-marks-i.result c.requires.2 here (omega (arith, c.requires.2.long)) in
    vlan_step copies i c.index-copies-i.result _ _ c.loop-i.keys.items _ here (c.begins.ensures ∙ ap (λ (m : Marked). m.begins) told)
    c.vlan_key.ensures.key c.vlan_key.ensures.small c.in_ok-put_key.ensures c.loop-i.invariant

pub returns : goal.returns
returns c =
    let end : c.loop-i.i ≡ length c.args.copies.now = omega arith in
    subst (λ n. AreVlanKeys c.args.copies.now n c.loop-i.keys.items) end c.loop-i.invariant
