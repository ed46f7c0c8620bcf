use Rattle.std.proofs.Common.{◌++◌, ◌∙◌, List, ℕ, ap, sym}
use Rattle.std.proofs.lemmas.List.{append_assoc}
use Rattle.std.proofs.lemmas.Result.{on_ok_weaker}
use Rattle.hex.specs.Hex.{encode_upper}
use Rattle.hsr_node_text.proofs.Digits.{digits_of_both}
use Rattle.hsr_node_text.proofs.reply.put_pieces.Goals as goal

pub returns : goal.returns
returns c =
    let front = c.args.front.now in
    let rest = c.args.rest.now in
    let old = c.args.text.now.items in
    on_ok_weaker c.put_hex-2.result (λ e. e ∙ ap (λ (l : List ℕ). l ++ encode_upper rest) c.in_ok-put_hex.ensures.ok
    ∙ append_assoc old (encode_upper front) (encode_upper rest) ∙ ap (λ (l : List ℕ). old ++ l) (sym (digits_of_both front rest))) c.put_hex-2.ensures.ok
