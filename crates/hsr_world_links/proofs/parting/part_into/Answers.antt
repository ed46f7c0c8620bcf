use Rattle.std.proofs.Common.{◌≡◌, [], ◌++◌, map, ap, sym, ◌∙◌, arith, append-nil}
use Rattle.std.proofs.lemmas.Option.{MatchOption-at_some, MatchOption-at_none}
use Rattle.std.proofs.lemmas.List.{nil_from_length}
use Rattle.std.specs.Vec.Iter.{into_iter_items}
use Rattle.hsr_finished_run.specs.Finished.{items_of}
use Rattle.hsr_world_links.specs.Parting.{bare_of, bare_view, rows_in}
use Rattle.hsr_world_links.specs.Views.{span_view}
use Rattle.hsr_world_links.proofs.Apart.{moved}
use Rattle.hsr_world_links.proofs.parting.part_into.Goals as goal

pub loop-span-init : goal.loop-span-init
loop-span-init c = record {
  rows = ap (λ xs. map items_of xs ++ map rows_in (map span_view (into_iter_items c.into_iter-rest.result))) c.requires.rows.0 ∙ ap (λ xs. map rows_in (map span_view xs)) c.into_iter-rest.ensures.rest;
  bares = ap (λ xs. map bare_view xs ++ map bare_of (map span_view (into_iter_items c.into_iter-rest.result))) c.requires.bares.0 ∙ ap (λ xs. map bare_of (map span_view xs)) c.into_iter-rest.ensures.rest;
  rows_moved = omega (arith, c.requires.rows.1, c.into_iter-rest.ensures.len);
  bares_moved = omega (arith, c.requires.bares.1, c.into_iter-rest.ensures.len);
  rows_room = c.requires.rows.2;
  bares_room = c.requires.bares.2;
}

pub loop-span-smaller : goal.loop-span-smaller
loop-span-smaller c =
    let at = MatchOption-at_some _ _ _ c.in-Some.is c.next.ensures.cases in
    omega (arith, at.1)

pub loop-span-preserved : goal.loop-span-preserved
loop-span-preserved c =
    let inv = c.loop-span.invariant in
    let at = MatchOption-at_some _ _ _ c.in-Some.is c.next.ensures.cases in
    record {
      rows = ap (λ xs. map items_of xs ++ map rows_in (map span_view (into_iter_items c.next.new.self))) c.push_reserved.ensures.items
          ∙ moved items_of c.loop-span.rows.items _ _ _ _ c.part_of-own.ensures.rows (sym (ap (λ xs. map items_of c.loop-span.rows.items ++ map rows_in (map span_view xs)) at.0) ∙ inv.rows);
      bares = ap (λ xs. map bare_view xs ++ map bare_of (map span_view (into_iter_items c.next.new.self))) c.push_reserved-in-Some.ensures.items
          ∙ moved bare_view c.loop-span.bares.items _ _ _ _ c.part_of-own.ensures.bare (sym (ap (λ xs. map bare_view c.loop-span.bares.items ++ map bare_of (map span_view xs)) at.0) ∙ inv.bares);
      rows_moved = omega (arith, inv.rows_moved, at.1, c.push_reserved.ensures.len);
      bares_moved = omega (arith, inv.bares_moved, at.1, c.push_reserved-in-Some.ensures.len);
      rows_room = omega (arith, inv.rows_room, c.push_reserved.ensures.capacity);
      bares_room = omega (arith, inv.bares_room, c.push_reserved-in-Some.ensures.capacity);
    }

pub returns-clause-rows : goal.returns-clause-rows
returns-clause-rows c =
    let at = MatchOption-at_none _ _ c.in_default.is c.next.ensures.cases in
    let none : into_iter_items c.loop-span.rest ≡ [] = nil_from_length _ (omega (arith, at.0, c.loop-span.rest.rest.ok.0)) in
    sym (ap (λ xs. map items_of c.loop-span.rows.items ++ map rows_in (map span_view xs)) none ∙ append-nil (map items_of c.loop-span.rows.items)) ∙ c.loop-span.invariant.rows

pub returns-clause-bares : goal.returns-clause-bares
returns-clause-bares c =
    let at = MatchOption-at_none _ _ c.in_default.is c.next.ensures.cases in
    let none : into_iter_items c.loop-span.rest ≡ [] = nil_from_length _ (omega (arith, at.0, c.loop-span.rest.rest.ok.0)) in
    sym (ap (λ xs. map bare_view c.loop-span.bares.items ++ map bare_of (map span_view xs)) none ∙ append-nil (map bare_view c.loop-span.bares.items)) ∙ c.loop-span.invariant.bares

pub returns-clause-len : goal.returns-clause-len
returns-clause-len c =
    let at = MatchOption-at_none _ _ c.in_default.is c.next.ensures.cases in
    omega (arith, at.0, c.loop-span.invariant.bares_moved)
