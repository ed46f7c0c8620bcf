-- What is found by the records one after another is what a run tells of copies and their sends.
use Rattle.std.proofs.Common.{◌≡◌, ◌↔◌, ℕ, ◌+◌, ◌<◌, zero, suc, List, [], ◌∷◌, length, map, get_or, reverse, Option, Some, None, Vec, refl, sym, ap, ◌∙◌, subst, arith, ⊎_elim}
use Rattle.std.specs.Global.{Global}
use Rattle.std.specs.Option.{option_and_then, option_or}
use Rattle.std.specs.Prelude.{slice_get}
use Rattle.std.proofs.lemmas.Bool.{cases_lt}
use Rattle.std.proofs.lemmas.Option.{none-some}
use Rattle.hsr_node.specs.Flow.{send_at}
use Rattle.hsr_node.specs.declared.sending.Sending.{Sending}
use Rattle.hsr_node.specs.Kept.{Record}
use Rattle.hsr_node.specs.declared.event.Carried.{Carried}
use Rattle.hsr_node.specs.declared.event.Probe.{Probe}
use Rattle.hsr_node.specs.declared.place.Place.{Place}
use Rattle.hsr_node.specs.declared.place.Place.TheVariants.{QuadBox}
use Rattle.hsr_link.specs.declared.row.Row.{Row}
use Rattle.hsr_finished_run.specs.Checked.{AreKnown, IsKnown, IsStranger}
use Rattle.hsr_run_laws.specs.Closed.{IsOfSend}
use Rattle.hsr_finished_run.specs.Finished.{run_of}
use Rattle.hsr_run_index.specs.Origin.{IsOurs, IsOwn, given_of, given_to, sent_at, sent_of}
use Rattle.hsr_run_laws.specs.Run.{Run, given, given_at, past_of, peer_in, place_of}
use Rattle.hsr_finished_run.specs.Shape.{IsShaped}
use Rattle.hsr_topology.specs.Topology.{Topology}
use Rattle.hsr_topology.specs.declared.end.End.{End}
use Rattle.hsr_run_index.proofs.Forwards as forwards
use Rattle.hsr_finished_run.proofs.Shaped.{many}

given_node : (send : Probe) (kept : List Record) (k : ℕ) → given_of send (slice_get kept k) ≡ given_at send (reverse (get_or (map (λ (r : Record). r.entries) kept) k []))
given_node send [] k = refl
given_node send (r ∷ rs) zero = sym (forwards.given_of send r.entries)
given_node send (r ∷ rs) (suc k) = given_node send rs k

sent_node : (n : ℕ) (kept : List Record) (k : ℕ) →
    sent_of n (slice_get kept k) ≡ send_at (get_or (map (λ (r : Record). r.place) kept) k QuadBox) n (reverse (get_or (map (λ (r : Record). r.entries) kept) k []))
sent_node n [] k = refl
sent_node n (r ∷ rs) zero = sym (forwards.send_of r.place n r.entries)
sent_node n (r ∷ rs) (suc k) = sent_node n rs k

sent_inside : (n : ℕ) (kept : List Record) (k : ℕ) (s : Sending) → sent_of n (slice_get kept k) ≡ Some s → k < length kept
sent_inside n [] k s h = absurd (none-some s h)
sent_inside n (r ∷ rs) zero s h = omega arith
sent_inside n (r ∷ rs) (suc k) s h = let below = sent_inside n rs k s h in omega (arith, below)

module _ (capacity : ℕ) (topology : Topology) (kept : List Record) (rows : List (Vec Row Global)) (shaped : IsShaped topology kept rows) where
  abbrev pub whole : Run
  whole = run_of capacity topology kept rows

  given_same : (send : Probe) → given_to topology.links kept send ≡ given whole send
  given_same send = by_peer (peer_in (record { node = send.node; port = 0 }) topology.links)
    where
      by_peer : (o : Option End) → option_and_then (λ (end : End). given_of send (slice_get kept end.node)) o ≡ option_and_then (λ (end : End). given_at send (past_of whole end.node)) o
      by_peer None = refl
      by_peer (Some end) = given_node send kept end.node

  sent_same : (send : Probe) → sent_at kept send ≡ send_at (place_of whole send.node) send.place (past_of whole send.node)
  sent_same send =
      sent_node send.place kept send.node
      ∙ ap (λ (ps : List Place). send_at (get_or ps send.node QuadBox) send.place (past_of whole send.node)) shaped.places

  pub own : (copy : Carried) → IsOwn topology.links kept copy ↔ IsOfSend whole copy
  own copy = (
    λ o.
        let below = sent_inside o.send.place kept o.send.node o.sending o.is_send in
        record {
          send = o.send;
          sending = o.sending;
          named = o.named;
          is_send = (omega (arith, below, many capacity topology kept rows shaped), sym (sent_same o.send) ∙ o.is_send);
          frame = o.fits.plain;
          number = λ tagged is. ap (option_or o.sending.seq) (sym (given_same o.send)) ∙ o.fits.numbered tagged is;
        },
    λ o. record {
      send = o.send;
      sending = o.sending;
      named = o.named;
      is_send = sent_same o.send ∙ o.is_send.1;
      fits = record { plain = o.frame; numbered = λ tagged is. ap (option_or o.sending.seq) (given_same o.send) ∙ o.number tagged is };
    },
  )

  pub known : (row : Row) → IsOurs topology.links kept row → IsKnown whole row
  known row h = record { put = h.put; origin = (own row.carried).0 h.own }

  pub ours : (row : Row) → IsKnown whole row → IsOurs topology.links kept row
  ours row h = record { put = h.put; own = (own row.carried).1 h.origin }

  -- one more row
  pub one_more : (list : List Row) (i : ℕ) (e : Row) → i < length list → IsKnown whole (get_or list i e) → AreKnown whole list i → AreKnown whole list (i + 1)
  one_more list i e inside here before k d below =
      let P : ℕ → Type 0 = λ j. IsKnown whole (get_or list j d) in
      ⊎_elim (λ lower. before k d lower)
      (λ upper. let j : i ≡ k = omega arith in subst P j (subst (IsKnown whole) (any list i e d inside) here))
      (cases_lt k i)
    where
      any : (list : List Row) (i : ℕ) (x d : Row) → i < length list → get_or list i x ≡ get_or list i d
      any [] i x d h = absurd (omega arith)
      any (y ∷ ys) zero x d h = refl
      any (y ∷ ys) (suc i) x d h = any ys i x d (omega arith)

  -- a row that isn't ours, after others that are known
  pub stranger_at : (list : List Row) (i : ℕ) (e : Row) → i < length list → e ≡ get_or list i e → ¬ IsOurs topology.links kept e → AreKnown whole list i → IsStranger whole list i
  stranger_at list i e inside at other before = record {
    below = inside;
    here = λ d is. other (ours e (subst (IsKnown whole) (any list i d e inside ∙ sym at) is));
    before = before;
  }
    where
      any : (list : List Row) (i : ℕ) (x d : Row) → i < length list → get_or list i x ≡ get_or list i d
      any [] i x d h = absurd (omega arith)
      any (y ∷ ys) zero x d h = refl
      any (y ∷ ys) (suc i) x d h = any ys i x d (omega arith)
