-- A run whose moments are told in a finer unit: the same copies and sends, and the same plan in that unit. So it is closed where
-- it was.
use Rattle.std.proofs.Common.{◌≡◌, ℕ, zero, suc, ◌<◌, ◌==◌, Bool, true, false, if◌then◌else◌, List, [], ◌∷◌, ◌++◌, length, map, reverse, filter_map, Option, Some, None, option_map, IsPermutation, refl, ap, ap₂, sym, ◌∙◌, subst, inl, inr, ⊎_elim}
use Rattle.std.proofs.Math.Path.{fun_ext}
use Rattle.std.proofs.lemmas.List.{get_or-map, length-map, map-append, reverse-append}
use Rattle.std.specs.List.{cons_option}
use Rattle.std.specs.Option.{option_and_then, option_or}
use Rattle.hsr_node.specs.Copies.{copy_octets}
use Rattle.hsr_node.specs.Flow.{arrivals, copy_at, pass_of, passes, send_at, sent_by}
use Rattle.hsr_node.specs.Record.{IsLegal, IsLegalBy, Owner, probe_handled}
use Rattle.hsr_node.specs.Times.{Times, usual}
use Rattle.hsr_node.specs.Units.{entry_in_unit, in_unit}
use Rattle.hsr_node.specs.declared.entry.Entry.{Entry}
use Rattle.hsr_node.specs.declared.event.Carried.{Carried}
use Rattle.hsr_node.specs.declared.event.Probe.{Probe}
use Rattle.hsr_node.specs.declared.place.Place.{Place}
use Rattle.hsr_link.specs.Rows.{put_copies, taken_copies}
use Rattle.hsr_link.specs.declared.row.Row.{Row}
use Rattle.hsr_run_laws.specs.Closed.{IsClosed, IsOfSend, IsSettled}
use Rattle.hsr_run_laws.specs.Run.{Run, ends_of, from_end, given, given_at, gives, owner_of, past_of, peer_in, place_of, record_in, record_of, rows_of, to_end}
use Rattle.hsr_run_laws.proofs.Lists.{all_implied}
use Rattle.hsr_finished_run.specs.Finished.{IsPlanOf, IsPlanned, planned_by, planned_for}
use Rattle.hsr_finished_run.specs.declared.planned.Planned.{Planned}
use Rattle.hsr_transcript.specs.Earlier.{IsClosedBy, planned_in_unit, run_in_unit}

-- ---- lists

map_reverse : {X Y : Type 0} (f : X → Y) (xs : List X) → map f (reverse xs) ≡ reverse (map f xs)
map_reverse f [] = refl
map_reverse f (x ∷ xs) =
    ap (map f) (reverse-append (x ∷ []) xs) ∙ map-append f (reverse xs) (x ∷ []) ∙ ap (λ front. front ++ f x ∷ []) (map_reverse f xs)
    ∙ sym (reverse-append (f x ∷ []) (map f xs))

-- what is made of changed elements is what was made of them, changed
filter_map-changed : {X Y : Type 0} (f : X → X) (g : Y → Y) (h : X → Option Y) → ((x : X) → h (f x) ≡ option_map g (h x)) → (xs : List X)
    → filter_map h (map f xs) ≡ map g (filter_map h xs)
filter_map-changed f g h same [] = refl
filter_map-changed f g h same (x ∷ xs) = ap₂ cons_option (same x) (filter_map-changed f g h same xs) ∙ one (h x)
  where
    one : (first : Option _) → cons_option (option_map g first) (map g (filter_map h xs)) ≡ map g (cons_option first (filter_map h xs))
    one None = refl
    one (Some y) = refl

-- ---- what a past tells without its moments

arrivals_same : (k port : ℕ) (past : List Entry) → arrivals port (in_unit k past) ≡ arrivals port past
arrivals_same k port [] = refl
arrivals_same k port (x ∷ past) = ap (cons_option (copy_at port x.event)) (arrivals_same k port past)

pass_same : (k : ℕ) (owner : Owner) (port : ℕ) (x : Entry) (past : List Entry) → pass_of owner port (entry_in_unit k x) (in_unit k past) ≡ pass_of owner port x past
pass_same k owner port x past =
    ap (λ below. option_map (λ octets. record { probe = probe_handled (record { node = owner.number; place = below }) x.event; octets = octets }) (copy_octets owner.place x.event x.outcome port))
    (length-map past (entry_in_unit k))

passes_same : (k : ℕ) (owner : Owner) (port : ℕ) (past : List Entry) → passes owner port (in_unit k past) ≡ passes owner port past
passes_same k owner port [] = refl
passes_same k owner port (x ∷ past) = ap₂ cons_option (pass_same k owner port x past) (passes_same k owner port past)

send_same : (k : ℕ) (place : Place) (n : ℕ) (past : List Entry) → send_at place n (in_unit k past) ≡ send_at place n past
send_same k place n [] = refl
send_same k place n (x ∷ past) =
    ap₂ (λ below older. if n == below then sent_by place x.event x.outcome else older) (length-map past (entry_in_unit k)) (send_same k place n past)

given_same : (k : ℕ) (send : Probe) (past : List Entry) → given_at send (in_unit k past) ≡ given_at send past
given_same k send [] = refl
given_same k send (x ∷ past) = ap (λ older. option_or older (gives send x.event x.outcome)) (given_same k send past)

-- ---- the records of a run

pub record_scaled : (k : ℕ) (records : List (List Entry)) (n : ℕ) → record_in (map (in_unit k) records) n ≡ in_unit k (record_in records n)
record_scaled k [] n = refl
record_scaled k (entries ∷ records) zero = refl
record_scaled k (entries ∷ records) (suc n) = record_scaled k records n

past_scaled : (k : ℕ) (run : Run) (n : ℕ) → past_of (run_in_unit k run) n ≡ in_unit k (past_of run n)
past_scaled k run n = ap reverse (record_scaled k run.records n) ∙ sym (map_reverse (entry_in_unit k) (record_of run n))

arrivals_there : (k : ℕ) (run : Run) (port n : ℕ) → arrivals port (past_of (run_in_unit k run) n) ≡ arrivals port (past_of run n)
arrivals_there k run port n = ap (arrivals port) (past_scaled k run n) ∙ arrivals_same k port (past_of run n)

passes_there : (k : ℕ) (run : Run) (owner : Owner) (port n : ℕ) → passes owner port (past_of (run_in_unit k run) n) ≡ passes owner port (past_of run n)
passes_there k run owner port n = ap (passes owner port) (past_scaled k run n) ∙ passes_same k owner port (past_of run n)

send_there : (k : ℕ) (run : Run) (place : Place) (i n : ℕ) → send_at place i (past_of (run_in_unit k run) n) ≡ send_at place i (past_of run n)
send_there k run place i n = ap (send_at place i) (past_scaled k run n) ∙ send_same k place i (past_of run n)

given_there : (k : ℕ) (run : Run) (send : Probe) → given (run_in_unit k run) send ≡ given run send
given_there k run send =
    ap (λ at. option_and_then at (peer_in (record { node = send.node; port = 0 }) run.links))
    (fun_ext (λ end. ap (given_at send) (past_scaled k run end.node) ∙ given_same k send (past_of run end.node)))

-- ---- closed

of_send : (k : ℕ) (run : Run) (copy : Carried) → IsOfSend run copy → IsOfSend (run_in_unit k run) copy
of_send k run copy is = record {
  send = is.send;
  sending = is.sending;
  named = is.named;
  is_send = (is.is_send.0, send_there k run (place_of run is.send.node) is.send.place is.send.node ∙ is.is_send.1);
  frame = is.frame;
  number = λ tagged same. ap (option_or is.sending.seq) (given_there k run is.send) ∙ is.number tagged same;
}

row_settled : (k : ℕ) (run : Run) (row : Row) → IsSettled run row → IsSettled (run_in_unit k run) row
row_settled k run row is = record { put = is.put; origin = of_send k run row.carried is.origin; gone = is.gone }

-- what is closed by some times is closed in that unit, where what is legal by these times is legal there
pub closed_finer : (k : ℕ) (times : Times) → ((capacity : ℕ) (owner : Owner) (past : List Entry) → IsLegalBy times capacity owner past → IsLegal capacity owner (in_unit k past))
    → (run : Run) → IsClosedBy times run → IsClosed (run_in_unit k run)
closed_finer k times legal run closed = record {
  tables = closed.tables;
  records = length-map run.records (in_unit k) ∙ closed.records;
  rows = closed.rows;
  legal = λ n below. subst (IsLegal run.capacity (owner_of run n)) (sym (past_scaled k run n)) (legal run.capacity (owner_of run n) (past_of run n) (closed.legal n below));
  put = λ l dir below. let end = from_end dir (ends_of run l) in
      subst (λ copies. IsPermutation copies (put_copies dir (rows_of run l))) (sym (passes_there k run (owner_of run end.node) end.port end.node)) (closed.put l dir below);
  taken = λ l dir below. let end = to_end dir (ends_of run l) in
      subst (IsPermutation (taken_copies dir (rows_of run l))) (sym (arrivals_there k run end.port end.node)) (closed.taken l dir below);
  settled = λ l below. all_implied (IsSettled run) (IsSettled (run_in_unit k run)) (row_settled k run) (rows_of run l) (closed.settled l below);
  linked = λ n port below. ⊎_elim
      (λ link. inl (record { link = link.link; dir = link.dir; below = link.below; ends = link.ends }))
      (λ none. inr (arrivals_there k run port n ∙ none))
      (closed.linked n port below);
}

-- with the usual times this is what is closed
pub closed_of_usual : (run : Run) → IsClosedBy usual run → IsClosed run
unfolding IsLegal
closed_of_usual run closed = record {
  tables = closed.tables;
  records = closed.records;
  rows = closed.rows;
  legal = closed.legal;
  put = closed.put;
  taken = closed.taken;
  settled = closed.settled;
  linked = closed.linked;
}

pub usual_of_closed : (run : Run) → IsClosed run → IsClosedBy usual run
unfolding IsLegal
usual_of_closed run closed = record {
  tables = closed.tables;
  records = closed.records;
  rows = closed.rows;
  legal = closed.legal;
  put = closed.put;
  taken = closed.taken;
  settled = closed.settled;
  linked = closed.linked;
}

-- ---- the plan

for_scaled : (k n : ℕ) (p : Planned) → planned_for n (planned_in_unit k p) ≡ option_map (planned_in_unit k) (planned_for n p)
for_scaled k n p = one (p.node == n)
  where
    one : (is : Bool) → (if is then Some (planned_in_unit k p) else None) ≡ option_map (planned_in_unit k) (if is then Some p else None)
    one true = refl
    one false = refl

by_scaled : (k n : ℕ) (x : Entry) → planned_by n (entry_in_unit k x) ≡ option_map (planned_in_unit k) (planned_by n x)
by_scaled k n x = one (x.worker == 0)
  where
    planned : Planned
    planned = record { node = n; at = x.at; event = x.event }

    one : (is : Bool) → (if is then Some (planned_in_unit k planned) else None) ≡ option_map (planned_in_unit k) (if is then Some planned else None)
    one true = refl
    one false = refl

plan_scaled : (k : ℕ) (run : Run) (plan : List Planned) (n : ℕ) → IsPlanOf plan n (record_of run n) → IsPlanOf (map (planned_in_unit k) plan) n (record_of (run_in_unit k run) n)
plan_scaled k run plan n is =
    filter_map-changed (planned_in_unit k) (planned_in_unit k) (planned_for n) (for_scaled k n) plan
    ∙ ap (map (planned_in_unit k)) is
    ∙ sym (filter_map-changed (entry_in_unit k) (planned_in_unit k) (planned_by n) (by_scaled k n) (record_of run n))
    ∙ sym (ap (filter_map (planned_by n)) (record_scaled k run.records n))

pub planned_finer : (k : ℕ) (run : Run) (plan : List Planned) → IsPlanned run plan → IsPlanned (run_in_unit k run) (map (planned_in_unit k) plan)
planned_finer k run plan planned = record {
  nodes = λ i d below. let within = subst (λ n. i < n) (length-map plan (planned_in_unit k)) below in
      subst (λ (p : Planned). p.node < length run.places) (sym (get_or-map (planned_in_unit k) plan i d d within)) (planned.nodes i d within);
  each = λ n below. plan_scaled k run plan n (planned.each n below);
}
