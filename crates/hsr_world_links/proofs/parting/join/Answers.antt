use Rattle.std.proofs.Common.{◌≡◌, ◌∷◌, [], ◌++◌, map, ap, ap₂, sym, subst, ◌∙◌, arith, append-nil}
use Rattle.std.proofs.lemmas.Option.{MatchOption-at_some, MatchOption-at_none}
use Rattle.std.proofs.lemmas.List.{nil_from_length}
use Rattle.std.specs.Vec.Iter.{into_iter_items}
use Rattle.hsr_finished_run.specs.Finished.{items_of}
use Rattle.hsr_world_links.specs.Parting.{AreWhole, bare_view, joined}
use Rattle.hsr_world_links.specs.Views.{span_view}
use Rattle.hsr_world_links.proofs.Apart.{joined_none, moved}
use Rattle.hsr_world_links.proofs.parting.join.Goals as goal

pub loop-bare-init : goal.loop-bare-init
loop-bare-init c =
    let links = c.into_iter-of_links.ensures.rest in
    let rest = c.into_iter-rest.ensures.rest in
    record {
      left = subst (λ xs. AreWhole (map items_of xs) (map bare_view (into_iter_items c.into_iter-rest.result))) (sym links) (subst (λ ys. AreWhole (map items_of c.args.rows.items) (map bare_view ys)) (sym rest) c.requires.whole);
      all = ap (λ xs. map span_view xs ++ joined (map items_of (into_iter_items c.into_iter-of_links.result)) (map bare_view (into_iter_items c.into_iter-rest.result))) c.requires.room.0 ∙ ap₂ (λ xs ys. joined (map items_of xs) (map bare_view ys)) links rest;
      room = omega (arith, c.requires.room.1, c.requires.room.2, c.into_iter-rest.ensures.len);
    }

pub loop-bare-smaller : goal.loop-bare-smaller
loop-bare-smaller c =
    let at = MatchOption-at_some _ _ _ c.in-Some.is c.next.ensures.cases in
    omega (arith, at.1)

pub loop-bare-preserved : goal.loop-bare-preserved
loop-bare-preserved c =
    let inv = c.loop-bare.invariant in
    let at = MatchOption-at_some _ _ _ c.in-Some.is c.next.ensures.cases in
    let of = MatchOption-at_some _ _ _ c.in-Some-next.is c.next-in-Some.ensures.cases in
    let left = subst (λ xs. AreWhole (map items_of xs) (map bare_view (c.in-Some.bare ∷ into_iter_items c.next.new.self))) of.0 (subst (λ ys. AreWhole (map items_of (into_iter_items c.loop-bare.of_links)) (map bare_view ys)) at.0 inv.left) in
    let all = sym (ap₂ (λ xs ys. map span_view c.loop-bare.spans.items ++ joined (map items_of xs) (map bare_view ys)) of.0 at.0) ∙ inv.all in
    record {
      left = left.1;
      all = ap (λ xs. map span_view xs ++ joined (map items_of (into_iter_items c.next-in-Some.new.self)) (map bare_view (into_iter_items c.next.new.self))) c.push_reserved.ensures.items
          ∙ moved span_view c.loop-bare.spans.items _ _ _ _ c.whole.ensures all;
      room = omega (arith, inv.room, at.1, c.push_reserved.ensures.len, c.push_reserved.ensures.capacity);
    }

pub returns : goal.returns
returns c =
    let at = MatchOption-at_none _ _ c.in_default.is c.next.ensures.cases in
    let none : into_iter_items c.loop-bare.rest ≡ [] = nil_from_length _ (omega (arith, at.0, c.loop-bare.rest.rest.ok.0)) in
    sym (
    ap (λ xs. map span_view c.loop-bare.spans.items ++ joined (map items_of (into_iter_items c.loop-bare.of_links)) (map bare_view xs)) none
    ∙ ap (λ zs. map span_view c.loop-bare.spans.items ++ zs) (joined_none (map items_of (into_iter_items c.loop-bare.of_links)))
    ∙ append-nil (map span_view c.loop-bare.spans.items))
    ∙ c.loop-bare.invariant.all
