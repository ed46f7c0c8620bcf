use Rattle.std.proofs.Common.{◌∙◌, List, ℕ, ◌++◌, ap, codes}
use Rattle.std.specs.Fmt.{decimal}
use Rattle.hsr_judging_text.proofs.Joining.{last_piece, next_count, next_piece}
use Rattle.hsr_judging_text.specs.Sums.{sum_line}
use Rattle.hsr_judging_text.proofs.sums.put_sum.Goals as goal

pub returns : goal.returns
unfolding sum_line
returns c =
    let old : List ℕ = c.args.text.now.items in
    let one : List ℕ = codes "sum " ++ decimal c.args.sum.now.count in
    let two : List ℕ = one ++ codes " first packet " ++ decimal c.args.sum.now.packet in
    let three : List ℕ = two ++ codes " " in
    let four : List ℕ = three ++ c.args.sum.now.kind in
    last_piece c.put-2.result old c.put_octets.new.text.items c.put-2.new.text.items four (codes "\n")
    (next_piece old c.put.new.text.items c.put_octets.new.text.items three c.args.sum.now.kind
    (next_piece old c.put_count-2.new.text.items c.put.new.text.items two (codes " ")
    (next_count old c.put_count.new.text.items c.put_count-2.new.text.items one (codes " first packet ") c.from.result c.args.sum.now.packet c.from.ensures
    c.in_ok-put_count.ensures c.in_ok-put_count-2.ensures) c.in_ok-put.ensures.ok)
    (c.in_ok-put_octets.ensures.ok ∙ ap (λ (kind : List ℕ). c.put.new.text.items ++ kind) c.as_slice.ensures)) c.put-2.ensures.ok
