-- The sends of a ring of DANHs, listed by their destinations.
use Rattle.std.proofs.Common.{◌≡◌, ℕ, ◌+◌, ◌<◌, if◌then◌else◌, List, [], ◌∷◌, ◌++◌, length, reverse, slice_index_or, Option, Some, None, refl, sym, ap, ◌∙◌, subst, arith, suc, take_all}
use Rattle.std.specs.Prelude.{option_map}
use Rattle.std.specs.List.{cons_option}
use Rattle.hsr_frame.proofs.OneMore.{passing_more}
use Rattle.hsr_node.specs.Flow.{sent_by}
use Rattle.hsr_node.specs.declared.sending.Sending.{Sending}
use Rattle.hsr_node.specs.declared.entry.Entry.{Entry}
use Rattle.hsr_node.specs.declared.event.Probe.{Probe}
use Rattle.hsr_node.specs.declared.place.Place.{Place}
use Rattle.hsr_audit.specs.Certificate.{certified_as, certified_below, certified_in}
use Rattle.hsr_audit.specs.Listed.{certified_to, dst_of, frame_to, is_for, listed_at, listed_by, receivers_below, sent_to}
use Rattle.hsr_run_laws.specs.Once.{is_addressed}
use Rattle.hsr_run_laws.specs.Run.{Run, owner_of, past_of}
use Rattle.hsr_run_laws.specs.Premises.{mac_at}
use Rattle.hsr_table_demand.proofs.Places.{past_length, past_more}

-- ---- receivers

-- one more node, which may be one that a frame is for
pub receivers_more : (macs : List (List ℕ)) (sender : ℕ) (dst : List ℕ) (k : ℕ) →
    receivers_below macs sender dst (k + 1) ≡ receivers_below macs sender dst k ++ (if is_for (mac_at macs k) dst sender k then k ∷ [] else [])
receivers_more macs sender dst k = passing_more (is_addressed macs sender (frame_to dst)) k

-- ---- entries

same_certified : (macs : List (List ℕ)) (send : Probe) (o : Option Sending) → option_map (certified_to macs send) (option_map dst_of o) ≡ option_map (certified_as macs send) o
same_certified macs send None = refl
same_certified macs send (Some s) = refl

-- one more entry, which may be a send
pub listed_more : (macs : List (List ℕ)) (number : ℕ) (place : Place) (xs : List Entry) (i : ℕ) (d : Entry) → i < length xs →
    listed_at macs number place xs i ++ listed_by macs (record { node = number; place = i }) place (slice_index_or xs i d) ≡ listed_at macs number place xs (i + 1)
unfolding sent_to listed_by
listed_more macs number place xs i d below =
    let x = slice_index_or xs i d in
    let here : Probe = record { node = number; place = i } in
    let sent = sent_by place x.event x.outcome in
    let P : ℕ → Type 0 = λ n. listed_at macs number place xs i ++ cons_option (option_map (certified_to macs here) (option_map dst_of sent)) []
    ≡ listed_at macs number place xs i ++ cons_option (option_map (certified_as macs (record { node = number; place = n })) sent) [] in
    subst P (sym (past_length xs i (omega (arith, below)))) (ap (λ o. listed_at macs number place xs i ++ cons_option o []) (same_certified macs here sent))
    ∙ sym (ap (certified_in macs (record { number = number; place = place })) (past_more xs i d below))

-- one more node
pub certified_more : (run : Run) (macs : List (List ℕ)) (k : ℕ) → certified_below run macs (k + 1) ≡ certified_below run macs k ++ certified_in macs (owner_of run k) (past_of run k)
certified_more run macs k = let next : k + 1 ≡ suc k = omega arith in ap (certified_below run macs) next

-- the whole of a record
pub listed_whole : (macs : List (List ℕ)) (number : ℕ) (place : Place) (xs : List Entry) →
    listed_at macs number place xs (length xs) ≡ certified_in macs (record { number = number; place = place }) (reverse xs)
listed_whole macs number place xs = ap (λ ys. certified_in macs (record { number = number; place = place }) (reverse ys)) (take_all (length xs) xs (omega arith))
