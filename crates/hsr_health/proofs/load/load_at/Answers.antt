use Rattle.std.proofs.Common.{◌≡◌, ◌∙◌, ◌<◌, ◌^◌, ap, map, rules, subst, sym, true}
use Rattle.hsr_health.specs.Loads.{Rise, load_by, load_if, load_of, own_packets, weighed_at}
use Rattle.hsr_health.proofs.Loading.{own_rises}
use Rattle.hsr_health.proofs.load.load_at.Goals as goal

pub load_of-requires : goal.load_of-requires
load_of-requires c =
    subst Rise (sym (ap (map (weighed_at c.args.packets.now)) c.as_slice.ensures.value ∙ c.in_ok-own.ensures)) (own_rises c.args.interface c.args.packets.now c.requires.order)

pub returns : goal.returns
returns c = λ few.
    let same = ap (map (weighed_at c.args.packets.now)) c.as_slice.ensures.value ∙ c.in_ok-own.ensures in
    let looked : c.args.is_looked_at ≡ true = search rules in
    c.load_of.ensures (subst (λ l. load_of l < 2 ^ 128) (sym same) few) ∙ ap load_by same ∙ ap (λ b. load_if b (own_packets c.args.interface c.args.packets.now)) (sym looked)
