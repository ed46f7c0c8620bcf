use Rattle.std.proofs.Common.{◌+◌, arith, refl}
use Rattle.std.proofs.lemmas.Option.{slice_get_read}
use Rattle.hsr_health.proofs.Addressing.{macs_more, many_sources}
use Rattle.hsr_health.proofs.sources.macs_of.Goals as goal

pub returns-then-len-gt-MOST_SOURCES-clause-none : goal.returns-then-len-gt-MOST_SOURCES-clause-none
returns-then-len-gt-MOST_SOURCES-clause-none c =
    let copies = c.args.copies.now in
    let here = slice_get_read copies _ c.loop-i.i c.index-copies-i.result refl (omega arith) c.index-copies-i.is in
    many_sources copies (c.loop-i.i + 1) c.put_mac.new.macs.items
    (macs_more copies c.loop-i.i c.index-copies-i.result c.source_of.result c.loop-i.macs.items _ here c.source_of.ensures c.in_ok-put_mac.ensures.address c.in_ok-put_mac.ensures.with c.loop-i.invariant.macs)
    (omega (arith, c.if-len-gt-MOST_SOURCES.true, c.len.ensures, c.put_mac.new.macs.ok.0))

pub loop-i-preserved : goal.loop-i-preserved
loop-i-preserved c =
    let copies = c.args.copies.now in
    let here = slice_get_read copies _ c.loop-i.i c.index-copies-i.result refl (omega arith) c.index-copies-i.is in
    record {
      macs = macs_more copies c.loop-i.i c.index-copies-i.result c.source_of.result c.loop-i.macs.items _ here c.source_of.ensures c.in_ok-put_mac.ensures.address c.in_ok-put_mac.ensures.with c.loop-i.invariant.macs;
      few = omega (arith, c.if-len-gt-MOST_SOURCES.false, c.len.ensures, c.put_mac.new.macs.ok.0);
    }
