use Rattle.std.proofs.Common.{◌∙◌, ap, arith, inl, get_or, set, subst, sym, ◌++◌, ◌∷◌, []}
use Rattle.hsr_taps.specs.Tallies.{AreTallies, came_at}
use Rattle.hsr_taps.proofs.Tallying.{few_came, put_tally, still_tallies}
use Rattle.hsr_taps.proofs.tally.count_at.Goals as goal

pub returns-then-interface-len-clause-tallies : goal.returns-then-interface-len-clause-tallies
returns-then-interface-len-clause-tallies c = λ looked packets few is all.
    let p = c.args.packet.now in
    let place = c.interface-interface.ensures in
    subst (λ n. AreTallies looked (packets ++ p ∷ []) (set c.args.tallies.now.items n c.with.result)) (sym place)
    (put_tally looked packets p c.args.tallies.now.items c.index.result.now c.with.result (omega (arith, c.interface-interface.ensures)) is
    (λ own. c.with.ensures (came_at p.interface packets) (few_came packets p.interface few) (c.index.ensures ∙ ap (λ n. get_or c.args.tallies.now.items n c.index.result.now) place ∙ own)) all)

pub returns-else-interface-len-clause-tallies : goal.returns-else-interface-len-clause-tallies
returns-else-interface-len-clause-tallies c = λ looked packets few is all. still_tallies looked packets c.args.packet.now c.args.tallies.now.items (inl (omega (arith, c.interface-interface.ensures))) all
