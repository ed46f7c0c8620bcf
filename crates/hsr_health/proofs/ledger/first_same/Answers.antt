use Rattle.std.proofs.Common.{◌≡◌, ◌∙◌, Some, ap, arith, below_more, false, refl, rules, sym, true}
use Rattle.std.proofs.lemmas.Option.{same_Some, slice_get_read}
use Rattle.std.proofs.lemmas.Slice.Eq.{bytes_eq-Decides}
use Rattle.hsr_frame.specs.Address.{is_same_address}
use Rattle.hsr_health.proofs.ledger.first_same.Goals as goal

pub returns-then-eq : goal.returns-then-eq
returns-then-eq c =
    let names = c.args.names.now in
    let yes : is_same_address c.index-names-j.result c.index-names-k.result ≡ true = search rules in
    let at_j = slice_get_read names _ c.loop-j.j c.index-names-j.result refl (omega (arith, c.requires)) c.index-names-j.is in
    let at_k = slice_get_read names _ c.args.k c.index-names-k.result refl (omega (arith, c.requires)) c.index-names-k.is in
    record {
      same = at_j ∙ ap Some ((bytes_eq-Decides c.index-names-j.result c.index-names-k.result).0 yes) ∙ sym at_k;
      before = c.loop-j.invariant;
    }

pub loop-j-preserved : goal.loop-j-preserved
loop-j-preserved c =
    let names = c.args.names.now in
    let no : is_same_address c.index-names-j.result c.index-names-k.result ≡ false = search rules in
    let at_j = slice_get_read names _ c.loop-j.j c.index-names-j.result refl (omega (arith, c.requires)) c.index-names-j.is in
    let at_k = slice_get_read names _ c.args.k c.index-names-k.result refl (omega (arith, c.requires)) c.index-names-k.is in
    below_more _ _ c.loop-j.invariant
    (λ same.
    let yes : is_same_address c.index-names-j.result c.index-names-k.result ≡ true
    = (bytes_eq-Decides c.index-names-j.result c.index-names-k.result).1 (same_Some _ _ (sym at_j ∙ same ∙ at_k)) in absurd cc)
