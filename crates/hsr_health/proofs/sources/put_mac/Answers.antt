use Rattle.std.proofs.Common.{◌≡◌, ◌∙◌, ap, arith, false, length, subst, sym, true}
use Rattle.std.specs.Prelude.{slice_get}
use Rattle.hsr_address.specs.Numbers.{number_of}
use Rattle.hsr_health.specs.Sources.{IsPlace, Rise, stands_by}
use Rattle.hsr_health.proofs.Addressing.{with_new, with_old}
use Rattle.hsr_health.proofs.sources.put_mac.Goals as goal

pub returns-then-stands_at-clause-with : goal.returns-then-stands_at-clause-with
returns-then-stands_at-clause-with c = λ rise.
    let macs = c.args.macs.now.items in
    let place = c.place_of-place.result in
    let stands : stands_by (number_of c.args.mac) (slice_get macs place) ≡ true
    = sym (ap (λ n. stands_by n (slice_get macs place)) c.number_of-number.ensures.number)
    ∙ sym (ap (λ l. stands_by c.number_of-number.result (slice_get l place)) c.as_slice-2.ensures.value) ∙ sym c.stands_at.ensures ∙ c.if-stands_at.true in
    with_old macs c.args.mac place stands rise

pub returns-clause-with : goal.returns-clause-with
returns-clause-with c = λ rise.
    let macs = c.args.macs.now.items in
    let place = c.place_of-place.result in
    let none : stands_by (number_of c.args.mac) (slice_get macs place) ≡ false
    = sym (ap (λ n. stands_by n (slice_get macs place)) c.number_of-number.ensures.number)
    ∙ sym (ap (λ l. stands_by c.number_of-number.result (slice_get l place)) c.as_slice-2.ensures.value) ∙ sym c.stands_at.ensures ∙ c.if-stands_at.false in
    let at : IsPlace macs (number_of c.args.mac) place
    = subst (λ l. IsPlace l (number_of c.args.mac) place) c.as_slice.ensures.value
    (subst (λ n. IsPlace c.as_slice.result.now n place) c.number_of-number.ensures.number (c.place_of-place.ensures.place (subst Rise (sym c.as_slice.ensures.value) rise))) in
    with_new macs c.insert.new.self.items c.args.mac place (omega (arith, c.place_of-place.ensures.within, ap length c.as_slice.ensures.value)) c.in_ok-insert.ensures.items none at rise
