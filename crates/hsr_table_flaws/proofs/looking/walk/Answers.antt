use Rattle.std.proofs.Common.{rules, ◌≡◌, ◌+◌, ◌<◌, ℕ, Option, length, slice_index_or, refl, sym, ap, ◌∙◌, subst}
use Rattle.hsr_node.specs.declared.entry.Entry.{Entry}
use Rattle.hsr_node.specs.declared.event.Probe.{Probe}
use Rattle.hsr_node.specs.declared.place.Place.{Place}
use Rattle.hsr_run_laws.specs.Run.{Run, place_of, record_of}
use Rattle.hsr_table_demand.proofs.Walking.{place_at}
use Rattle.hsr_table_flaws.specs.Flaws.{IsFirstAt, test_at}
use Rattle.hsr_table_flaws.specs.Looked.{IsLoggedAfter, came_in, forgets_by, forgets_of, lates_of, mistakes_by, mistakes_of, moment_of, read_by}
use Rattle.hsr_table_flaws.proofs.Firsts.{first_more, walk_forgets, walk_late, walk_mistakes, walk_more}
use Rattle.hsr_table_flaws.proofs.looking.walk.Goals as goal

pub step-requires : goal.step-requires
step-requires g c = c.loop-i.invariant.log.aged

pub loop-i-preserved : goal.loop-i-preserved
loop-i-preserved g c =
    let run : Run = c.args.closed.now.run in
    let k : ℕ = c.args.node in
    let i : ℕ = c.loop-i.i in
    let x : Entry = c.x-item.result in
    let here : Probe = record { node = k; place = i } in
    let p : Place = c.index-places-node.result in
    let old = c.loop-i.log in
    let below : i < length (record_of run k) = search rules in
    let x_is : x ≡ slice_index_or (record_of run k) i x = search rules in
    let p_is : p ≡ slice_index_or run.places k p = search rules in
    let at : p ≡ place_of run k = place_at run.places k p c.requires.node p_is in
    let forgets : c.in_ok-look.look.forgets ≡ test_at forgets_of run k i =
    c.in_ok-look.ensures.forgets
    ∙ (ap (λ (q : Place). forgets_by g.row.C old (read_by old q here x) (moment_of old x)) at
    ∙ (ap (λ n. forgets_by n old (read_by old (place_of run k) here x) (moment_of old x)) (sym c.topology.ensures.capacity)
    ∙ walk_forgets run k i x below x_is old here refl c.loop-i.invariant.log)) in
    let mistakes : c.in_ok-look.look.mistakes ≡ test_at mistakes_of run k i =
    c.in_ok-look.ensures.mistakes
    ∙ (ap (λ (q : Place). mistakes_by g.row.C old (read_by old q here x) (came_in x.event) (moment_of old x)) at
    ∙ (ap (λ n. mistakes_by n old (read_by old (place_of run k) here x) (came_in x.event) (moment_of old x)) (sym c.topology.ensures.capacity)
    ∙ walk_mistakes run k i x below x_is old here refl c.loop-i.invariant.log)) in
    let late : c.in_ok-look.look.is_late ≡ test_at lates_of run k i = c.in_ok-look.ensures.is_late ∙ walk_late run k i x below x_is old c.loop-i.invariant.log in
    let L : Place → Type 0 = λ q. IsLoggedAfter old q here x c.step.new.self in
    record {
      log = walk_more run k i x below x_is old c.step.new.self here refl c.loop-i.invariant.log (subst L at c.in_ok-look.ensures.logged);
      forgot = subst (λ (o : Option ℕ). IsFirstAt forgets_of run k (i + 1) o) (sym c.first_of-forgot.ensures) (first_more forgets_of run k i c.loop-i.forgot c.in_ok-look.look.forgets forgets c.loop-i.invariant.forgot);
      mistaken = subst (λ (o : Option ℕ). IsFirstAt mistakes_of run k (i + 1) o) (sym c.first_of-mistaken.ensures) (first_more mistakes_of run k i c.loop-i.mistaken c.in_ok-look.look.mistakes mistakes c.loop-i.invariant.mistaken);
      late = subst (λ (o : Option ℕ). IsFirstAt lates_of run k (i + 1) o) (sym c.first_of-late.ensures) (first_more lates_of run k i c.loop-i.late c.in_ok-look.look.is_late late c.loop-i.invariant.late);
    }

pub returns : goal.returns
returns g c =
    let run : Run = c.args.closed.now.run in
    let k : ℕ = c.args.node in
    let all : c.loop-i.i ≡ length (record_of run k) = search rules in
    record {
      forgot_at = subst (λ n. IsFirstAt forgets_of run k n c.loop-i.forgot) all c.loop-i.invariant.forgot;
      mistaken_at = subst (λ n. IsFirstAt mistakes_of run k n c.loop-i.mistaken) all c.loop-i.invariant.mistaken;
      late_at = subst (λ n. IsFirstAt lates_of run k n c.loop-i.late) all c.loop-i.invariant.late;
    }
