use Rattle.std.proofs.Common.{◌-◌, ◌∙◌, ap, length, refl, sym}
use Rattle.std.specs.Prelude.{slice_get}
use Rattle.hsr_health.specs.ByKey.{has_key}
use Rattle.hsr_health.proofs.Keying.{put_new, put_same}
use Rattle.hsr_health.proofs.by_key.put_key.Goals as goal

pub returns-then-is_last : goal.returns-then-is_last
returns-then-is_last c = λ keys few most are.
    let same = ap (λ l. has_key c.args.key (slice_get l (length l - 1))) c.as_slice.ensures.value in
    put_same keys c.args.counts.now.items c.add_last.new.counts.items c.args.key few (sym same ∙ sym c.is_last.ensures ∙ c.if-is_last.true) c.add_last.ensures are

pub returns : goal.returns
returns c = λ keys few most are.
    let same = ap (λ l. has_key c.args.key (slice_get l (length l - 1))) c.as_slice.ensures.value in
    put_new keys c.args.counts.now.items c.push.new.self.items c.args.key _ (sym same ∙ sym c.is_last.ensures ∙ c.if-is_last.false) c.in_ok-push.ensures.items refl refl most are
