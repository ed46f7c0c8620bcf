use Rattle.std.proofs.Common.{◌≡◌, ◌+◌, ◌∙◌, ap, length, refl, set, subst, sym}
use Rattle.std.specs.Prelude.{slice_get, slice_index, OnOk, Result, Ok, Err}
use Rattle.std.proofs.lemmas.Option.{get_or_from_slice_get, slice_get_read, slice_get_within}
use Rattle.hsr_frame_groups.specs.Frames.{past_of}
use Rattle.hsr_sightings.specs.Copies.{times_before}
use Rattle.hsr_sightings.specs.Finding.{AreFound, IsPreviousSighting}
use Rattle.hsr_sightings.proofs.Gathering.{begin_step, join_step, left_set, own_number, soon_after}
use Rattle.hsr_sightings.proofs.sighting.put_copy.Goals as goal

all_three : {T E P Q R S : Type 0} (r : Result T E) → OnOk r P → OnOk r Q → OnOk r R → (P → Q → R → S) → OnOk r S
all_three (Ok x) p q r f = f p q r
all_three (Err e) p q r f = tt

on_ok : {T E P Q : Type 0} (r : Result T E) → OnOk r P → (P → Q) → OnOk r Q
on_ok (Ok x) p f = f p
on_ok (Err e) p f = tt

pub put_joined-requires-clause-number : goal.put_joined-requires-clause-number
put_joined-requires-clause-number c =
    let copies = c.args.copies.now in
    let i = c.args.i in
    let x = c.index-copies-i.result in
    let found = c.args.found.now in
    let here = slice_get_read copies _ i x refl c.requires.below c.index-copies-i.is in
    let previous = subst (IsPreviousSighting c.args.ring.now copies i) c.in-Some.is c.requires.previous in
    let own = own_number c.args.ring.now copies i c.in-Some.j c.index-number.result.now x found.all.items found.of_copy.items found.begun.items here c.requires.found previous c.index-number.ensures in
    slice_get_within found.all.items c.index-number.result.now own.seen own.numbered

pub put_joined-requires-clause-soon : goal.put_joined-requires-clause-soon
put_joined-requires-clause-soon c =
    let copies = c.args.copies.now in
    let i = c.args.i in
    let x = c.index-copies-i.result in
    let found = c.args.found.now in
    let here = slice_get_read copies _ i x refl c.requires.below c.index-copies-i.is in
    let previous = subst (IsPreviousSighting c.args.ring.now copies i) c.in-Some.is c.requires.previous in
    let own = own_number c.args.ring.now copies i c.in-Some.j c.index-number.result.now x found.all.items found.of_copy.items found.begun.items here c.requires.found previous c.index-number.ensures in
    soon_after c.args.ring.now copies c.requires.read.0 i c.index-number.result.now x found.all.items found.of_copy.items found.begun.items c.requires.read.1 here c.requires.found own

pub returns-in-None-clause-found : goal.returns-in-None-clause-found
returns-in-None-clause-found c =
    let copies = c.args.copies.now in
    let ring = c.args.ring.now in
    let i = c.args.i in
    let x = c.index-copies-i.result in
    let found = c.args.found.now in
    let new = c.put_begun.new.found in
    let here = slice_get_read copies _ i x refl c.requires.below c.index-copies-i.is in
    let count : slice_index c.args.carried.now i ≡ times_before (past_of copies i) x
    = get_or_from_slice_get c.args.carried.now i (times_before (past_of copies i) x) 0 (c.requires.carried.each i x here) in
    let none = subst (IsPreviousSighting ring copies i) c.in-None.is c.requires.previous in
    all_three c.put_begun.result c.put_begun.ensures.all c.put_begun.ensures.of_copy c.put_begun.ensures.counts (λ all of_copy counts.
    subst (λ l. AreFound ring copies (i + 1) new.all.items l new.begun.items) (sym of_copy)
    (subst (λ l. AreFound ring copies (i + 1) l (set found.of_copy.items i (length found.all.items)) new.begun.items) (sym all)
    (begin_step ring copies c.requires.read.0 i (slice_index c.args.carried.now i) x found.all.items found.of_copy.items found.begun.items new.begun.items c.requires.read.1 here count c.requires.found none
    (c.requires.places x.direction) counts)))

pub returns-in-None-clause-left : goal.returns-in-None-clause-left
returns-in-None-clause-left c = on_ok c.put_begun.result c.put_begun.ensures.of_copy (λ of_copy k before.
    ap (λ l. slice_get l k) of_copy ∙ left_set c.args.found.now.of_copy.items c.args.i k (length c.args.found.now.all.items) before)

pub returns-in-Some-clause-found : goal.returns-in-Some-clause-found
returns-in-Some-clause-found c =
    let copies = c.args.copies.now in
    let ring = c.args.ring.now in
    let i = c.args.i in
    let x = c.index-copies-i.result in
    let found = c.args.found.now in
    let number = c.index-number.result.now in
    let new = c.put_joined.new.found in
    let here = slice_get_read copies _ i x refl c.requires.below c.index-copies-i.is in
    let count : slice_index c.args.carried.now i ≡ times_before (past_of copies i) x
    = get_or_from_slice_get c.args.carried.now i (times_before (past_of copies i) x) 0 (c.requires.carried.each i x here) in
    let previous = subst (IsPreviousSighting ring copies i) c.in-Some.is c.requires.previous in
    let own = own_number ring copies i c.in-Some.j number x found.all.items found.of_copy.items found.begun.items here c.requires.found previous c.index-number.ensures in
    subst (λ l. AreFound ring copies (i + 1) new.all.items l new.begun.items) (sym c.put_joined.ensures.of_copy)
    (subst (λ l. AreFound ring copies (i + 1) new.all.items (set found.of_copy.items i number) l) (sym c.put_joined.ensures.counts)
    (join_step ring copies i number (slice_index c.args.carried.now i) x found.all.items new.all.items found.of_copy.items found.begun.items here count c.requires.found own
    (c.put_joined.ensures.all own.seen own.numbered)))

pub returns-in-Some-clause-left : goal.returns-in-Some-clause-left
returns-in-Some-clause-left c = λ k before.
    ap (λ l. slice_get l k) c.put_joined.ensures.of_copy ∙ left_set c.args.found.now.of_copy.items c.args.i k c.index-number.result.now before
