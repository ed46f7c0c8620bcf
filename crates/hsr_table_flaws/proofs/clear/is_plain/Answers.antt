use Rattle.std.proofs.Common.{rules, ◌≡◌, ◌+◌, ◌<◌, ◌≤◌, ℕ, Bool, true, false, cond, List, ◌∷◌, Some, length, reverse, take, take_all, refl, sym, ap, ◌∙◌, subst, arith}
use mir.Val.{bool_byte}
use Rattle.std.specs.Prelude.{is_some, slice_index_or, slice_set}
use Rattle.std.proofs.lemmas.Bool.Decides.{nat_tests}
use Rattle.hsr_frame.specs.Egress.{no_exits}
use Rattle.hsr_frame.specs.declared.egress.Exits.{Exits}
use Rattle.hsr_node.specs.Record.{Each, Owner, number_in, probe_handled}
use Rattle.hsr_node.specs.declared.entry.Entry.{Entry}
use Rattle.hsr_run_laws.specs.Run.{Run, owner_of, past_of, record_of}
use Rattle.hsr_run_laws.proofs.Lists.{count_more}
use Rattle.hsr_network_laws.specs.Late.{is_numbered_late}
use Rattle.hsr_number_laws.specs.Counted.{numbered_in}
use Rattle.hsr_finished_run.proofs.Places.{past_length, past_with}
use Rattle.hsr_table_demand.specs.Read.{noted_at}
use Rattle.hsr_table_flaws.specs.Clear.{AreMarked, IsNew, is_odd, joined, mark_place}
use Rattle.hsr_table_flaws.proofs.Logging.{here_of}
use Rattle.hsr_table_flaws.proofs.Marking.{late_if, marks_more, new_if}
use Rattle.hsr_table_flaws.proofs.clear.is_plain.Goals as goal

byte_is : (b : Bool) → bool_byte b ≡ cond b 1 0
byte_is true = refl
byte_is false = refl

pub loop-place-preserved : goal.loop-place-preserved
loop-place-preserved g c =
    let run : Run = c.args.closed.now.run in
    let k : ℕ = c.args.node in
    let i : ℕ = c.loop-place.place in
    let x : Entry = c.x-item.result in
    let owner : Owner = owner_of run k in
    let before : List Entry = reverse (take i (record_of run k)) in
    let starts : List ℕ = c.args.starts.now in
    let marks : List Exits = c.loop-place.marks in
    let at : ℕ = c.in-Some.at in
    let below : i < length (record_of run k) = search rules in
    let x_is : x ≡ slice_index_or (record_of run k) i x = search rules in
    let more : reverse (take (i + 1) (record_of run k)) ≡ x ∷ before = past_with (record_of run k) i x below x_is in
    let long : length before ≡ i = past_length (record_of run k) i (omega (arith, below)) in
    let place_is : mark_place starts (length marks) (probe_handled (here_of owner before) x.event) ≡ Some at =
    ap (λ n. mark_place starts (length marks) (probe_handled (record { node = k; place = n }) x.event)) long
    ∙ (ap (mark_place starts (length marks)) (sym c.probe-send.ensures) ∙ (sym c.mark_place.ensures.is ∙ c.in-Some.is)) in
    let numbered : c.is_some-is_numbered.result ≡ is_some (number_in x.outcome) = c.is_some-is_numbered.ensures ∙ ap is_some c.number.ensures in
    let even : is_odd (slice_index_or marks at no_exits) (noted_at x.outcome) (is_some (number_in x.outcome)) ≡ false =
    ap (λ noted. is_odd (slice_index_or marks at no_exits) noted (is_some (number_in x.outcome))) (sym c.noted_at-noted.ensures)
    ∙ (ap (λ b. is_odd (slice_index_or marks at no_exits) c.noted_at-noted.result b) (sym numbered) ∙ (sym c.is_odd.ensures ∙ c.if-is_odd.false)) in
    let value : c.joined.result ≡ joined (slice_index_or marks at no_exits) (noted_at x.outcome) =
    c.joined.ensures ∙ ap (λ noted. joined (slice_index_or marks at no_exits) noted) c.noted_at-noted.ensures in
    let marked : AreMarked owner before starts marks = c.loop-place.invariant.marked in
    let counted = count_more (λ (y : Entry). is_some (number_in y.outcome)) x before in
    let bit : c.from-numbers.result ≡ cond (is_some (number_in x.outcome)) 1 0 = c.from-numbers.ensures ∙ (byte_is c.is_some-is_numbered.result ∙ ap (λ b. cond {A = ℕ} b 1 0) numbered) in
    let so_far : c.loop-place.numbers ≡ numbered_in before = c.loop-place.invariant.numbers in
    let one_more : c.loop-place.numbers + c.from-numbers.result ≡ numbered_in (x ∷ before) = omega (arith, counted, bit, so_far) in
    record {
      marked = subst (λ (h : List Entry). AreMarked owner h starts (slice_set marks at c.joined.result)) (sym more)
          (subst (λ (v : Exits). AreMarked owner (x ∷ before) starts (slice_set marks at v)) (sym value) (marks_more owner x before starts marks at marked place_is c.in-Some.ensures.below));
      once = subst (λ (h : List Entry). Each (IsNew owner) h) (sym more) (new_if owner x before starts marks at marked place_is even, c.loop-place.invariant.once);
      in_time = subst (λ (h : List Entry). Each (λ y past. is_numbered_late owner past y.event y.outcome ≡ false) h) (sym more)
          (late_if owner x before starts marks at marked place_is even, c.loop-place.invariant.in_time);
      numbers = one_more ∙ ap numbered_in (sym more);
    }

pub returns : goal.returns
returns g c = λ few.
    let run : Run = c.args.closed.now.run in
    let k : ℕ = c.args.node in
    let owner : Owner = owner_of run k in
    let all : c.loop-place.place ≡ length (record_of run k) = search rules in
    let whole : reverse (take c.loop-place.place (record_of run k)) ≡ past_of run k =
    ap (λ n. reverse (take n (record_of run k))) all ∙ ap reverse (take_all (length (record_of run k)) (record_of run k) (omega arith)) in
    let low : c.loop-place.numbers ≤ 65536 = grind (arith, nat_tests, few) in
    record {
      once = subst (λ (h : List Entry). Each (IsNew owner) h) whole c.loop-place.invariant.once;
      in_time = subst (λ (h : List Entry). Each (λ y past. is_numbered_late owner past y.event y.outcome ≡ false) h) whole c.loop-place.invariant.in_time;
      few = subst (λ (h : List Entry). numbered_in h ≤ 65536) whole (subst (λ n. n ≤ 65536) c.loop-place.invariant.numbers low);
    }
