-- What records tell, the oldest entry first and the newest first.
use Rattle.std.proofs.Common.{◌≡◌, ◌↔◌, ℕ, ◌+◌, ◌<◌, ◌≤◌, zero, suc, cond, List, [], ◌∷◌, ◌++◌, length, reverse, IsPermutation, Option, Some, None, refl, sym, ap, ◌∙◌, subst, arith, append-nil, append_assoc}
use Rattle.std.specs.List.{cons_option}
use Rattle.std.specs.Option.{option_or}
use Rattle.std.specs.Prelude.{slice_get}
use Rattle.std.proofs.lemmas.List.{reverse-append}
use Rattle.std.proofs.lemmas.List.Sorted.{IsPermutation-refl, IsPermutation-reverse, IsPermutation-sym, IsPermutation-trans}
use Rattle.hsr_node.specs.Flow.{arrivals, passes, send_at, sent_by}
use Rattle.hsr_node.specs.Kept.{Record, owner_of, past_of}
use Rattle.hsr_node.specs.Record.{Owner}
use Rattle.hsr_node.specs.declared.entry.Entry.{Entry}
use Rattle.hsr_node.specs.declared.event.Carried.{Carried}
use Rattle.hsr_node.specs.declared.event.Probe.{Probe}
use Rattle.hsr_node.specs.declared.place.Place.{Place}
use Rattle.hsr_link.specs.declared.row.Dir.{Dir}
use Rattle.hsr_link.specs.declared.row.Row.{Row}
use Rattle.hsr_run_index.specs.InOrder.{PutsFit, TakensFit, came, came_by, copies_of_passage, passed, passed_by}
use Rattle.hsr_run_index.specs.declared.agreement.Passage.TheVariants.{Put, Taken}
use Rattle.hsr_run_index.specs.Often.{AsOften}
use Rattle.hsr_run_laws.specs.Run.{given_at, gives}
use Rattle.hsr_run_index.specs.Origin.{given_in, sent_in}
use Rattle.hsr_run_index.proofs.Decided.{not_same, same}
use Rattle.hsr_run_index.proofs.Often.{as_often, in_order}

-- ---- lists

turn : {X : Type 0} (x : X) (xs past : List X) → reverse (x ∷ xs) ++ past ≡ reverse xs ++ (x ∷ past)
turn x xs past = ap (λ ys. ys ++ past) (reverse-append (x ∷ []) xs) ∙ append_assoc (reverse xs) (x ∷ []) past

more : {X : Type 0} (o : Option X) (ys zs : List X) → reverse ys ++ cons_option o zs ≡ reverse (cons_option o ys) ++ zs
more None ys zs = refl
more (Some x) ys zs = sym (turn x ys zs)

-- ---- passes and arrivals

passes_turned : (owner : Owner) (port : ℕ) (xs past : List Entry) → passes owner port (reverse xs ++ past) ≡ reverse (passed owner port (length past) xs) ++ passes owner port past
passes_turned owner port [] past = refl
passes_turned owner port (x ∷ xs) past =
    let n : length (x ∷ past) ≡ length past + 1 = omega arith in
    ap (passes owner port) (turn x xs past)
    ∙ (passes_turned owner port xs (x ∷ past)
    ∙ (ap (λ k. reverse (passed owner port k xs) ++ passes owner port (x ∷ past)) n
    ∙ more (passed_by owner port (length past) x) (passed owner port (length past + 1) xs) (passes owner port past)))

pub passes_of : (owner : Owner) (port : ℕ) (xs : List Entry) → passes owner port (reverse xs) ≡ reverse (passed owner port 0 xs)
passes_of owner port xs = ap (passes owner port) (sym (append-nil (reverse xs))) ∙ (passes_turned owner port xs [] ∙ append-nil (reverse (passed owner port 0 xs)))

arrivals_turned : (port : ℕ) (xs past : List Entry) → arrivals port (reverse xs ++ past) ≡ reverse (came port xs) ++ arrivals port past
arrivals_turned port [] past = refl
arrivals_turned port (x ∷ xs) past =
    ap (arrivals port) (turn x xs past) ∙ (arrivals_turned port xs (x ∷ past) ∙ more (came_by port x) (came port xs) (arrivals port past))

pub arrivals_of : (port : ℕ) (xs : List Entry) → arrivals port (reverse xs) ≡ reverse (came port xs)
arrivals_of port xs = ap (arrivals port) (sym (append-nil (reverse xs))) ∙ (arrivals_turned port xs [] ∙ append-nil (reverse (came port xs)))

-- ---- agreement

passes_moved : (r : Record) (port : ℕ) → IsPermutation (passed (owner_of r) port 0 r.entries) (passes (owner_of r) port (past_of r))
passes_moved r port =
    let P : List Carried → Type 0 = IsPermutation (passed (owner_of r) port 0 r.entries) in
    subst P (sym (passes_of (owner_of r) port r.entries)) (IsPermutation-reverse (passed (owner_of r) port 0 r.entries))

arrivals_moved : (r : Record) (port : ℕ) → IsPermutation (came port r.entries) (arrivals port (past_of r))
arrivals_moved r port =
    let P : List Carried → Type 0 = IsPermutation (came port r.entries) in
    subst P (sym (arrivals_of port r.entries)) (IsPermutation-reverse (came port r.entries))

puts_from : (r : Record) (port : ℕ) (dir : Dir) (rows : List Row) → IsPermutation (passed (owner_of r) port 0 r.entries) (copies_of_passage Put dir rows) → PutsFit r port dir rows
puts_from r port dir rows h =
    IsPermutation-trans (passes (owner_of r) port (past_of r)) (passed (owner_of r) port 0 r.entries) (copies_of_passage Put dir rows)
    (IsPermutation-sym (passed (owner_of r) port 0 r.entries) (passes (owner_of r) port (past_of r)) (passes_moved r port)) h

takens_from : (r : Record) (port : ℕ) (dir : Dir) (rows : List Row) → IsPermutation (copies_of_passage Taken dir rows) (came port r.entries) → TakensFit r port dir rows
takens_from r port dir rows h = IsPermutation-trans (copies_of_passage Taken dir rows) (came port r.entries) (arrivals port (past_of r)) h (arrivals_moved r port)

pub puts_same : (r : Record) (port : ℕ) (dir : Dir) (rows : List Row) → passed (owner_of r) port 0 r.entries ≡ copies_of_passage Put dir rows → PutsFit r port dir rows
puts_same r port dir rows e =
    let P : List Carried → Type 0 = λ xs. IsPermutation xs (copies_of_passage Put dir rows) in
    puts_from r port dir rows (subst P (sym e) (IsPermutation-refl (copies_of_passage Put dir rows)))

pub takens_same : (r : Record) (port : ℕ) (dir : Dir) (rows : List Row) → copies_of_passage Taken dir rows ≡ came port r.entries → TakensFit r port dir rows
takens_same r port dir rows e =
    let P : List Carried → Type 0 = λ xs. IsPermutation xs (came port r.entries) in
    takens_from r port dir rows (subst P (sym e) (IsPermutation-refl (came port r.entries)))

pub puts_often : (r : Record) (port : ℕ) (dir : Dir) (rows : List Row) → AsOften (passed (owner_of r) port 0 r.entries) (copies_of_passage Put dir rows) ↔ PutsFit r port dir rows
puts_often r port dir rows = (
  λ h. puts_from r port dir rows (in_order _ _ h),
  λ fit. as_often _ _ (IsPermutation-trans (passed (owner_of r) port 0 r.entries) (passes (owner_of r) port (past_of r)) (copies_of_passage Put dir rows) (passes_moved r port) fit),
)

pub takens_often : (r : Record) (port : ℕ) (dir : Dir) (rows : List Row) → AsOften (copies_of_passage Taken dir rows) (came port r.entries) ↔ TakensFit r port dir rows
takens_often r port dir rows = (
  λ h. takens_from r port dir rows (in_order _ _ h),
  λ fit. as_often _ _ (IsPermutation-trans (copies_of_passage Taken dir rows) (arrivals port (past_of r)) (came port r.entries) fit
      (IsPermutation-sym (came port r.entries) (arrivals port (past_of r)) (arrivals_moved r port))),
)

-- ---- numbers that are given

or_assoc : {X : Type 0} (a b c : Option X) → option_or (option_or a b) c ≡ option_or a (option_or b c)
or_assoc None b c = refl
or_assoc (Some x) b c = refl

or_none : {X : Type 0} (a : Option X) → option_or a None ≡ a
or_none None = refl
or_none (Some x) = refl

given_turned : (send : Probe) (xs past : List Entry) → given_at send (reverse xs ++ past) ≡ option_or (given_at send past) (given_in send xs)
given_turned send [] past = sym (or_none (given_at send past))
given_turned send (x ∷ xs) past =
    ap (given_at send) (turn x xs past) ∙ (given_turned send xs (x ∷ past) ∙ or_assoc (given_at send past) (gives send x.event x.outcome) (given_in send xs))

pub given_of : (send : Probe) (xs : List Entry) → given_at send (reverse xs) ≡ given_in send xs
given_of send xs = ap (given_at send) (sym (append-nil (reverse xs))) ∙ given_turned send xs []

-- ---- sends

pub send_below : (place : Place) (n : ℕ) (xs past : List Entry) → n < length past → send_at place n (reverse xs ++ past) ≡ send_at place n past
send_below place n [] past below = refl
send_below place n (x ∷ xs) past below =
    ap (send_at place n) (turn x xs past) ∙ (send_below place n xs (x ∷ past) (omega (arith, below))
    ∙ ap (λ b. cond b (sent_by place x.event x.outcome) (send_at place n past)) (not_same n (length past) (λ e. omega (arith, e, below))))

send_past : (place : Place) (n : ℕ) (past : List Entry) → length past ≤ n → send_at place n past ≡ None
send_past place n [] h = refl
send_past place n (x ∷ past) h =
    ap (λ b. cond b (sent_by place x.event x.outcome) (send_at place n past)) (not_same n (length past) (λ e. omega (arith, e, h)))
    ∙ send_past place n past (omega (arith, h))

send_turned : (place : Place) (i : ℕ) (xs past : List Entry) → send_at place (length past + i) (reverse xs ++ past) ≡ sent_in place (slice_get xs i)
send_turned place i [] past = send_past place (length past + i) past (omega arith)
send_turned place zero (x ∷ xs) past =
    ap (send_at place (length past + 0)) (turn x xs past)
    ∙ (send_below place (length past + 0) xs (x ∷ past) (omega arith)
    ∙ ap (λ b. cond b (sent_by place x.event x.outcome) (send_at place (length past + 0) past)) (same (length past + 0) (length past) (omega arith)))
send_turned place (suc i) (x ∷ xs) past =
    let n : length past + suc i ≡ length (x ∷ past) + i = omega arith in
    ap (send_at place (length past + suc i)) (turn x xs past)
    ∙ (ap (λ k. send_at place k (reverse xs ++ (x ∷ past))) n ∙ send_turned place i xs (x ∷ past))

pub send_of : (place : Place) (n : ℕ) (xs : List Entry) → send_at place n (reverse xs) ≡ sent_in place (slice_get xs n)
send_of place n xs =
    let k : n ≡ 0 + n = omega arith in
    ap (send_at place n) (sym (append-nil (reverse xs))) ∙ (ap (λ m. send_at place m (reverse xs ++ [])) k ∙ send_turned place n xs [])
