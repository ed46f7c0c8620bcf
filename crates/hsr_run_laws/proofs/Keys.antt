-- Each arrival of a closed run is of a send, and all that is of one send has one source and one number.
use Rattle.std.proofs.Common.{◌≡◌, ℕ, ◌<◌, Bool, true, false, ◌&&◌, if◌then◌else◌, List, [], ◌∷◌, length, filter_map, Option, Some, None, Ok, refl, sym, ap, ◌∙◌, subst, ⊎_elim}
use Rattle.std.specs.Prelude.{unwrap_or}
use Rattle.std.specs.List.{AllByRecursion, cons_option}
use Rattle.hsr_frame.specs.Grammar.{Fields}
use Rattle.hsr_tag.specs.Tag.{TaggedFields, untag_of}
use Rattle.hsr_tag.specs.declared.seen.Seen.TheVariants.{Plain, Tagged}
use Rattle.hsr_duptable.specs.Key.{Key}
use Rattle.hsr_forwarding.specs.Arrival.{key_of}
use Rattle.hsr_node.specs.Copies.{plain_in}
use Rattle.hsr_node.specs.Flow.{arrivals, send_at}
use Rattle.hsr_node.specs.declared.sending.Sending.{Sending}
use Rattle.hsr_node.specs.Record.{Each, Noted}
use Rattle.hsr_node.specs.declared.event.Carried.{Carried}
use Rattle.hsr_node.specs.declared.event.Probe.{Probe}
use Rattle.hsr_link.specs.declared.row.Dir.{Dir}
use Rattle.hsr_link.specs.declared.row.Row.{Row}
use Rattle.hsr_run_laws.specs.Closed.{IsClosed, IsOfSend, IsSend, IsSettled, number_of}
use Rattle.hsr_run_laws.specs.Once.{is_copy}
use Rattle.hsr_run_laws.specs.Premises.{is_note_of}
use Rattle.hsr_link.specs.Rows.{is_same_dir, is_taken, taken_copy}
use Rattle.hsr_run_laws.specs.Run.{Run, past_of, place_of, rows_of}
use Rattle.hsr_topology.specs.declared.end.End.{End}
use Rattle.hsr_run_laws.proofs.Lists.{all_permutation}
use Rattle.hsr_run_laws.proofs.Records.{OfArrival, each_from_ports}
use Rattle.hsr_run_laws.proofs.Same.{keys_same, probe_is}
use Rattle.hsr_run_laws.proofs.Views.{came}

-- a row's copy is of a send
taken_of_send : (run : Run) (dir : Dir) (rows : List Row) → AllByRecursion (IsSettled run) rows → AllByRecursion (IsOfSend run) (filter_map (taken_copy dir) rows)
taken_of_send run dir [] settled = tt
taken_of_send run dir (row ∷ rows) settled = step (is_same_dir dir row.dir && is_taken row.fate) (taken_of_send run dir rows settled.1)
  where
    step : (b : Bool) → AllByRecursion (IsOfSend run) (filter_map (taken_copy dir) rows) → AllByRecursion (IsOfSend run) (cons_option (if b then Some row.carried else None) (filter_map (taken_copy dir) rows))
    step true rest = (settled.0.origin, rest)
    step false rest = rest

-- each arrival of a closed run is of a send
pub each_of_send : (run : Run) → IsClosed run → (k : ℕ) → k < length run.places → Each (λ x past. OfArrival (IsOfSend run) x.event) (past_of run k)
each_of_send run closed k below = each_from_ports (IsOfSend run) (past_of run k) by_port
  where
    by_port : (port : ℕ) → AllByRecursion (IsOfSend run) (arrivals port (past_of run k))
    by_port port =
        ⊎_elim
        (λ at.
        let P : End → Type 0 = λ end. AllByRecursion (IsOfSend run) (arrivals end.port (past_of run end.node)) in
        subst P at.ends (all_permutation (IsOfSend run) _ _ (closed.taken at.link at.dir at.below) (taken_of_send run at.dir (rows_of run at.link) (closed.settled at.link at.below))))
        (λ none. let Q : List Carried → Type 0 = AllByRecursion (IsOfSend run) in subst Q (sym none) tt)
        (closed.linked k port below)

pub same_send : (run : Run) (send : Probe) (copy : Carried) (o : IsOfSend run copy) → is_copy send copy ≡ true → o.send ≡ send
same_send run send copy o mine = let e = probe_is send copy.probe mine in let f = o.named in cc

pub same_sending : (run : Run) (send : Probe) (sending : Sending) (copy : Carried) (o : IsOfSend run copy) → is_copy send copy ≡ true → IsSend run send sending → o.sending ≡ sending
same_sending run send sending copy o mine is =
    let P : Probe → Type 0 = λ p. send_at (place_of run p.node) p.place (past_of run p.node) ≡ Some o.sending in
    let here = subst P (same_send run send copy o mine) o.is_send.1 in
    let there = is.1 in
    let same : Some o.sending ≡ Some sending = sym here ∙ there in
    cc

-- what is tagged of a send has its frame and its number
pub tagged_of_send : (run : Run) (send : Probe) (sending : Sending) (copy : Carried) (o : IsOfSend run copy) → is_copy send copy ≡ true → IsSend run send sending →
    (t : TaggedFields) → came copy ≡ Ok (Tagged t) → (untag_of t ≡ sending.frame) × (number_of run send sending ≡ Some t.seq)
tagged_of_send run send sending copy o mine is t tagged =
    let same = same_sending run send sending copy o mine is in
    let frame : Some (untag_of t) ≡ Some o.sending.frame = sym (ap plain_in tagged) ∙ o.frame in
    let N : Probe → Sending → Type 0 = λ p s. number_of run p s ≡ Some t.seq in
    let equal : untag_of t ≡ o.sending.frame = cc in (
      equal ∙ ap (λ (s : Sending). s.frame) same,
      subst (λ (s : Sending). N send s) same (subst (λ (p : Probe). N p o.sending) (same_send run send copy o mine) (o.number t tagged)),
    )

-- what is plain of a send is its frame
pub plain_of_send : (run : Run) (send : Probe) (sending : Sending) (copy : Carried) (o : IsOfSend run copy) → is_copy send copy ≡ true → IsSend run send sending →
    (f : Fields) → came copy ≡ Ok (Plain f) → f ≡ sending.frame
plain_of_send run send sending copy o mine is f plain =
    let same = same_sending run send sending copy o mine is in
    let frame : Some f ≡ Some o.sending.frame = sym (ap plain_in plain) ∙ o.frame in
    let equal : f ≡ o.sending.frame = cc in
    equal ∙ ap (λ (s : Sending). s.frame) same

-- a note of a send has a key
abbrev pub HasKey : Probe → Key → Noted → Type 0
HasKey send key note = is_note_of (Some send) note ≡ true → note.key ≡ key

-- the source and number of a send
pub record SendKey (run : Run) (send : Probe) : Type 0 where
  pub key : Key
  pub kept : (copy : Carried) → IsOfSend run copy → is_copy send copy ≡ true → (t : TaggedFields) → came copy ≡ Ok (Tagged t) → key_of t ≡ key
  pub given : (copy : Carried) → IsOfSend run copy → is_copy send copy ≡ true → (f : Fields) (seq : ℕ) → came copy ≡ Ok (Plain f) →
      ((sending : Sending) → IsSend run send sending → number_of run send sending ≡ Some seq) → record { src = f.src; seq = seq } ≡ key

pub send_key : (run : Run) (send : Probe) → SendKey run send
send_key run send = by_send (send_at (place_of run send.node) send.place (past_of run send.node)) refl
  where
    -- a copy of it tells that it is a send
    is_send : (copy : Carried) (o : IsOfSend run copy) → is_copy send copy ≡ true → IsSend run send o.sending
    is_send copy o mine = let P : Probe → Type 0 = λ p. IsSend run p o.sending in subst P (same_send run send copy o mine) o.is_send

    the_number : (o : Option ℕ) (n : ℕ) → o ≡ Some n → n ≡ unwrap_or o 0
    the_number o n e = sym (ap (λ x. unwrap_or x 0) e)

    by_send : (o : Option Sending) → send_at (place_of run send.node) send.place (past_of run send.node) ≡ o → SendKey run send
    by_send None e = record {
      key = record { src = []; seq = 0 };
      kept = λ copy o mine t tagged. let there = (is_send copy o mine).1 in absurd cc;
      given = λ copy o mine f seq plain number. let there = (is_send copy o mine).1 in absurd cc;
    }
    by_send (Some s) e = record {
      key = record { src = s.frame.src; seq = unwrap_or (number_of run send s) 0 };
      kept = λ copy o mine t tagged.
          let is : IsSend run send s = ((is_send copy o mine).0, e) in
          let both = tagged_of_send run send s copy o mine is t tagged in
          keys_same (key_of t) (record { src = s.frame.src; seq = unwrap_or (number_of run send s) 0 }) (ap (λ (f : Fields). f.src) both.0) (the_number (number_of run send s) t.seq both.1);
      given = λ copy o mine f seq plain number.
          let is : IsSend run send s = ((is_send copy o mine).0, e) in
          keys_same (record { src = f.src; seq = seq }) (record { src = s.frame.src; seq = unwrap_or (number_of run send s) 0 })
          (ap (λ (g : Fields). g.src) (plain_of_send run send s copy o mine is f plain)) (the_number (number_of run send s) seq (number s is));
    }
