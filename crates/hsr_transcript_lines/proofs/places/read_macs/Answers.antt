use Rattle.std.proofs.Common.{◌≡◌, ◌≤◌, ◌<◌, ◌-◌, ◌+◌, ◌∷◌, [], None, Some, length, length-append, option_map, ap, sym, ◌∙◌, arith, ◌==◌, true, false}
use Rattle.std.proofs.lemmas.Bool.Decides.{nat_tests}
use Rattle.std.specs.Result.{result_ok}
use Rattle.hsr_frame.specs.Address.{address_of}
use Rattle.hsr_transcript_lines.proofs.Macs.{macs_full, macs_bad, macs_more, macs_done}
use Rattle.hsr_transcript_lines.proofs.places.read_macs.Goals as goal

pub returns-then-is_full : goal.returns-then-is_full
returns-then-is_full c =
    let full : (length c.loop-address.macs.items == 16) ≡ true = sym c.if-is_full.ensures.value in
    macs_full c.loop-address.macs.items (16 - length c.loop-address.macs.items) (option_map (λ s. s.now) c.loop-address.left) _ c.in-Some.address.now (option_map (λ s. s.now) c.in-Some.rest)
    (grind (arith, nat_tests)) c.in-Some.ensures c.loop-address.invariant

pub returns-in_err-ok : goal.returns-in_err-ok
returns-in_err-ok c =
    let exact = ap result_ok c.from_ascii.ensures.exact in
    let none : result_ok (address_of c.in-Some.address.now) ≡ None = cc (exact, c.in_err-ok.ensures.value) in
    ap (option_map (λ macs. macs.items)) c.from_residual.ensures
    ∙ macs_bad c.loop-address.macs.items (16 - length c.loop-address.macs.items) (option_map (λ s. s.now) c.loop-address.left) _ c.in-Some.address.now (option_map (λ s. s.now) c.in-Some.rest)
    c.in-Some.ensures none c.loop-address.invariant

pub loop-address-preserved : goal.loop-address-preserved
loop-address-preserved c =
    let exact = ap result_ok c.from_ascii.ensures.exact in
    let one : result_ok (address_of c.in-Some.address.now) ≡ Some c.in_ok-ok.field-0 = cc (exact, c.in_ok-ok.ensures.value) in
    let room : (length c.loop-address.macs.items == 16) ≡ false = sym c.if-is_full.ensures.value in
    let most : length c.loop-address.macs.items ≤ 16 = c.if-is_full.ensures.fits in
    let below : length c.loop-address.macs.items < 16 = grind (arith, nat_tests) in
    let grown : length c.push.new.self.items ≡ length c.loop-address.macs.items + 1 = ap length c.push.ensures.items ∙ length-append c.loop-address.macs.items (c.in_ok-ok.field-0 ∷ []) ∙ omega arith in
    macs_more c.loop-address.macs.items c.push.new.self.items (16 - length c.loop-address.macs.items) (16 - length c.push.new.self.items) (option_map (λ s. s.now) c.loop-address.left) _ c.in-Some.address.now c.in_ok-ok.field-0
    (option_map (λ s. s.now) c.in-Some.rest) (omega arith) c.in-Some.ensures one c.push.ensures.items c.loop-address.invariant

pub returns : goal.returns
returns c =
    macs_done c.loop-address.macs.items (16 - length c.loop-address.macs.items) (option_map (λ s. s.now) c.loop-address.left) _ c.in_default.ensures c.loop-address.invariant
