use Rattle.std.proofs.Common.{◌≡◌, ◌-◌, ◌<◌, ◌≤◌, ◌∙◌, Some, true, false, ap, arith, length, map, max, refl, rules, subst, sym, ℕ}
use Rattle.std.specs.Prelude.{slice_get}
use Rattle.std.proofs.lemmas.List.{length-map, length_push}
use Rattle.std.proofs.lemmas.Option.{slice_get_read}
use Rattle.hsr_sightings.specs.Crowding.{IsRecentFrom, begun_by, moment_in}
use Rattle.hsr_sightings.proofs.Crowding.{kept_copy, kept_push, more_crowding, recent_within, still_at}
use Rattle.hsr_sightings.proofs.late.put_begun.Goals as goal

pub returns-then-not-begins : goal.returns-then-not-begins
returns-then-not-begins c = λ ring point is begins_is.
    let nothing : c.args.begins ≡ false = search rules in
    let things = map (begun_by c.args.copies.now) c.args.crowding.now.things.items in
    still_at ring c.args.copies.now point c.args.i c.args.begins things c.args.crowding.now.from c.args.crowding.now.most c.requires.below nothing begins_is is

pub recent_from-crowding-requires : goal.recent_from-crowding-requires
recent_from-crowding-requires c =
    let long = ap length c.as_slice.ensures.value ∙ ap length c.in_ok-push.ensures.items ∙ length_push c.args.crowding.now.things.items c.args.i in
    omega (arith, c.requires.within, long)

pub greater-crowding-requires : goal.greater-crowding-requires
greater-crowding-requires c =
    let copies = c.args.copies.now in
    let numbers = c.args.crowding.now.things.items in
    let new = c.push.new.self.items in
    let from = c.args.crowding.now.from in
    let found = c.recent_from-crowding.result in
    let x = c.index-copies-i.result in
    let here = slice_get_read copies _ c.args.i x refl c.requires.below c.index-copies-i.is in
    let recent = subst (λ l. IsRecentFrom (map (begun_by copies) l) from c.at-at.result found) c.as_slice.ensures.value c.recent_from-crowding.ensures in
    let within = recent_within (map (begun_by copies) numbers) (map (begun_by copies) new) (begun_by copies c.args.i) from c.at-at.result found
    (kept_push copies numbers new c.args.i c.in_ok-push.ensures.items) (ap moment_in here ∙ sym c.at-at.ensures) (omega (arith, c.requires.within, length-map numbers (begun_by copies))) recent in
    omega (arith, within, length-map new (begun_by copies), ap length c.as_slice-2.ensures.value)

pub returns : goal.returns
returns c = λ ring point is begins_is.
    let copies = c.args.copies.now in
    let i = c.args.i in
    let x = c.index-copies-i.result in
    let numbers = c.args.crowding.now.things.items in
    let from = c.args.crowding.now.from in
    let most = c.args.crowding.now.most in
    let new = c.push.new.self.items in
    let found = c.recent_from-crowding.result in
    let after = c.greater-crowding.result in
    let at = c.at-at.ensures in
    let same = c.as_slice-2.ensures.value in
    let long = length-map new (begun_by copies) in
    let here = slice_get_read copies _ i x refl c.requires.below c.index-copies-i.is in
    let begins : c.args.begins ≡ true = search rules in
    let recent = subst (λ n. IsRecentFrom (map (begun_by copies) new) from n found) at
    (subst (λ l. IsRecentFrom (map (begun_by copies) l) from c.at-at.result found) c.as_slice.ensures.value c.recent_from-crowding.ensures) in
    let frames : after.frames ≡ max (length new - found) most.frames = c.greater-crowding.ensures.frames ∙ ap (λ l. max (length l - found) most.frames) same in
    let kept = subst (λ l. length l - found ≤ most.frames → after ≡ most) same c.greater-crowding.ensures.kept in
    let first = subst (λ l. most.frames < length l - found → (k : ℕ) → slice_get l found ≡ Some k → after.first ≡ k) same c.greater-crowding.ensures.first in
    more_crowding ring copies point i x (map (begun_by copies) numbers) (map (begun_by copies) new) (begun_by copies i) from found most after c.requires.time here (sym (begins_is x here) ∙ begins) is
    (ap moment_in here) refl (kept_push copies numbers new i c.in_ok-push.ensures.items) recent
    (frames ∙ ap (λ n. max (n - found) most.frames) (sym long))
    (λ le. kept (omega (arith, le, long)))
    (λ less b at_found. first (omega (arith, less, long)) b.copy (kept_copy copies new found b at_found))
