use Rattle.std.proofs.Common.{rules, ◌≡◌, ◌+◌, ◌≤◌, ℕ, Option, length, sym, subst}
use Rattle.hsr_run_laws.specs.Run.{Run}
use Rattle.hsr_table_flaws.specs.Flaws.{IsFirstPlaceOf, Test}
use Rattle.hsr_table_flaws.specs.Looked.{forgets_of, lates_of, mistakes_of}
use Rattle.hsr_table_flaws.proofs.Firsts.{first_forgotten, first_late, first_mistaken, nothing_forgotten, nothing_late, nothing_mistaken, place_more}
use Rattle.hsr_table_flaws.proofs.flaws.first_flaw.Goals as goal

-- what the places found say of a test, as it stands in a case
found_as : (test : Test) (run : Run) (n : ℕ) (first o : Option (ℕ × ℕ)) → first ≡ o → IsFirstPlaceOf test run n first → IsFirstPlaceOf test run n o
found_as test run n first o is found = subst (λ (p : Option (ℕ × ℕ)). IsFirstPlaceOf test run n p) is found

pub loop-node-preserved : goal.loop-node-preserved
loop-node-preserved g c =
    let run : Run = c.args.closed.now.run in
    let n : ℕ = c.loop-node.node in
    record {
      forgot = found_as forgets_of run (n + 1) _ _ (sym c.first_after-forgot.ensures)
          (place_more forgets_of run n c.loop-node.forgot c.in_ok-firsts.firsts.forgot c.in_ok-firsts.ensures.forgot_at c.loop-node.invariant.forgot);
      mistaken = found_as mistakes_of run (n + 1) _ _ (sym c.first_after-mistaken.ensures)
          (place_more mistakes_of run n c.loop-node.mistaken c.in_ok-firsts.firsts.mistaken c.in_ok-firsts.ensures.mistaken_at c.loop-node.invariant.mistaken);
      late = found_as lates_of run (n + 1) _ _ (sym c.first_after-late.ensures)
          (place_more lates_of run n c.loop-node.late c.in_ok-firsts.firsts.late c.in_ok-firsts.ensures.late_at c.loop-node.invariant.late);
    }

pub returns-in-Some-default-default : goal.returns-in-Some-default-default
returns-in-Some-default-default g c =
    let run : Run = c.args.closed.now.run in
    let n : ℕ = c.loop-node.node in
    let most : n ≤ length run.places = search rules in
    first_forgotten run n c.in-Some-default-default.node c.in-Some-default-default.place most (found_as forgets_of run n _ _ c.in-Some-default-default.is-0 c.loop-node.invariant.forgot)

pub returns-in-None-Some-default : goal.returns-in-None-Some-default
returns-in-None-Some-default g c =
    let run : Run = c.args.closed.now.run in
    let n : ℕ = c.loop-node.node in
    let most : n ≤ length run.places = search rules in
    let all : length run.places ≤ n = search rules in (
      nothing_forgotten run n all (found_as forgets_of run n _ _ c.in-None-Some-default.is-0 c.loop-node.invariant.forgot),
      first_mistaken run n c.in-None-Some-default.node c.in-None-Some-default.place most (found_as mistakes_of run n _ _ c.in-None-Some-default.is-1 c.loop-node.invariant.mistaken),
    )

pub returns-in-None-None-Some : goal.returns-in-None-None-Some
returns-in-None-None-Some g c =
    let run : Run = c.args.closed.now.run in
    let n : ℕ = c.loop-node.node in
    let most : n ≤ length run.places = search rules in
    let all : length run.places ≤ n = search rules in (
      nothing_forgotten run n all (found_as forgets_of run n _ _ c.in-None-None-Some.is-0 c.loop-node.invariant.forgot),
      nothing_mistaken run n all (found_as mistakes_of run n _ _ c.in-None-None-Some.is-1 c.loop-node.invariant.mistaken),
      first_late run n c.in-None-None-Some.node c.in-None-None-Some.place most (found_as lates_of run n _ _ c.in-None-None-Some.is-2 c.loop-node.invariant.late),
    )

pub returns-in-None-None-None : goal.returns-in-None-None-None
returns-in-None-None-None g c =
    let run : Run = c.args.closed.now.run in
    let n : ℕ = c.loop-node.node in
    let all : length run.places ≤ n = search rules in (
      nothing_forgotten run n all (found_as forgets_of run n _ _ c.in-None-None-None.is-0 c.loop-node.invariant.forgot),
      nothing_mistaken run n all (found_as mistakes_of run n _ _ c.in-None-None-None.is-1 c.loop-node.invariant.mistaken),
      nothing_late run n all (found_as lates_of run n _ _ c.in-None-None-None.is-2 c.loop-node.invariant.late),
    )
