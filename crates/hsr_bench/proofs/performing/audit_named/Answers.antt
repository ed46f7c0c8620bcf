use Rattle.std.proofs.Common.{List, subst, ℕ}
use Rattle.hsr_bench.specs.Performing.{IsNoText}
use Rattle.hsr_bench.proofs.Audits.{no_text_so}
use Rattle.hsr_bench.proofs.performing.audit_named.Goals as goal

pub returns : goal.returns
returns g c =
    let P : List ℕ → Type 0 = λ octets. IsNoText octets c.in-Err-text_of.fault in
    no_text_so c.args.table c.args.audit (g.R.Read.remaining c.args.reader.now) (g.D.Disk.texts c.args.disk.now c.args.path.now) _ _ c.in-Ok.octets.items c.in-Err-text_of.fault _
    c.in-Ok.ensures.ok (subst P c.as_slice.ensures.value c.in-Err-text_of.ensures.err) c.stop-in-Err-text_of.ensures
