use Rattle.std.proofs.Common.{◌≡◌, ◌∙◌, ap, refl, sym}
use Rattle.std.proofs.lemmas.Bool.{and_left, ne_eqb}
use Rattle.std.proofs.lemmas.Option.{same_Some, slice_get_read}
use Rattle.hsr_frame_groups.specs.Frames.{past_of}
use Rattle.std.specs.Prelude.{nat_eq}
use Rattle.hsr_sightings.specs.Fields.{Sighting}
use Rattle.hsr_sightings.specs.Copies.{begins_there}
use Rattle.hsr_sightings.specs.Ring.{is_at, point_of}
use Rattle.hsr_sightings.proofs.Demanding.{begins_at_is, number_within}
use Rattle.hsr_sightings.proofs.late.begins_at.Goals as goal

pub bounds-sightings-of_copy : goal.bounds-sightings-of_copy
bounds-sightings-of_copy c = number_within c.args.ring.now c.args.copies.now c.args.sightings.now c.args.of_copy.now c.args.i c.requires.sightings c.requires.below

pub returns-then-point_of-point : goal.returns-then-point_of-point
returns-then-point_of-point c = λ x here.
    let copies = c.args.copies.now in
    let own = slice_get_read copies _ c.args.i c.index-copies-i.result refl c.requires.below c.index-copies-i.is in
    let same : c.index-copies-i.result ≡ x = same_Some _ _ (sym own ∙ here) in
    let place : point_of c.args.ring.now x ≡ c.args.point = ap (point_of c.args.ring.now) (sym same) ∙ sym c.point_of.ensures ∙ c.if-point_of-point.true in
    let first = c.first.ensures ∙ ap (λ (s : Sighting). s.first) c.index-sightings-of_copy.is in
    ap (λ n. nat_eq n c.args.i) first ∙ begins_at_is c.args.ring.now copies c.args.sightings.now c.args.of_copy.now c.args.i c.args.point x c.index-sightings-of_copy.result c.requires.sightings here place

pub returns-else-point_of-point : goal.returns-else-point_of-point
returns-else-point_of-point c = λ x here.
    let copies = c.args.copies.now in
    let ring = c.args.ring.now in
    let own = slice_get_read copies _ c.args.i c.index-copies-i.result refl c.requires.below c.index-copies-i.is in
    let same : c.index-copies-i.result ≡ x = same_Some _ _ (sym own ∙ here) in
    let place : c.point_of.result ≡ point_of ring x = c.point_of.ensures ∙ ap (point_of ring) same in
    ne_eqb c.point_of.result c.args.point c.if-point_of-point.false
    ∙ sym (and_left (is_at ring c.args.point x) (begins_there ring (past_of copies c.args.i) x) (ne_eqb (point_of ring x) c.args.point (λ e. c.if-point_of-point.false (place ∙ e))))
