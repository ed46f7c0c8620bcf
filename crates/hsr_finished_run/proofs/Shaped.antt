-- What shape gives: nodes at the ends of links, records by their numbers, and links where something came.
use Rattle.std.proofs.Common.{◌≡◌, ◌⊎◌, inl, inr, ℕ, ◌<◌, ◌==◌, zero, suc, true, false, cond, List, [], ◌∷◌, length, get_or, reverse, slice_index_or, Option, Some, None, Vec, refl, sym, ap, ◌∙◌, subst, arith, ⊎_elim, eqb-true}
use Rattle.std.specs.Global.{Global}
use Rattle.std.specs.List.{cons_option, AllByRecursion}
use Rattle.std.proofs.lemmas.Bool.{false≢true, or_cases, cases_Bool}
use Rattle.std.proofs.lemmas.List.{get_or-map, length-map}
use Rattle.std.proofs.lemmas.List.Elements.{recursion_from_All}
use Rattle.hsr_node.specs.Flow.{arrivals, copy_at}
use Rattle.hsr_node.specs.Kept.{Record, owner_of, past_of}
use Rattle.hsr_node.specs.declared.entry.Entry.{Entry}
use Rattle.hsr_node.specs.declared.event.Carried.{Carried}
use Rattle.hsr_node.specs.declared.event.Event.{Event}
use Rattle.hsr_node.specs.declared.event.Event.TheVariants.{Send, Supervise, Arrive, Age}
use Rattle.hsr_node.specs.declared.place.Place.{Place}
use Rattle.hsr_node.specs.declared.place.Place.TheVariants.{QuadBox}
use Rattle.hsr_link.specs.declared.row.Dir.{Dir}
use Rattle.hsr_link.specs.declared.row.Dir.TheVariants.{Forth, Back}
use Rattle.hsr_link.specs.declared.row.Row.{Row}
use Rattle.hsr_topology.proofs.Ends.{end_is}
use Rattle.hsr_run_laws.specs.Closed.{HasLink}
use Rattle.hsr_finished_run.specs.Finished.{run_of}
use Rattle.hsr_run_index.specs.InOrder.{came}
use Rattle.hsr_topology.specs.Links.{is_end_of, is_same_end, is_used}
use Rattle.hsr_run_laws.specs.Run as run
use Rattle.hsr_run_laws.specs.Run.{Run, from_end, to_end}
use Rattle.hsr_finished_run.specs.Shape.{AreLinked, IsShaped, is_linked}
use Rattle.hsr_topology.specs.Topology.{Topology}
use Rattle.hsr_topology.specs.Wired.{IsJoin, IsWired}
use Rattle.hsr_topology.specs.declared.end.End.{End}
use Rattle.hsr_run_index.proofs.Forwards.{arrivals_of}

-- ---- ends

record AreThere (places : List Place) (dir : Dir) (link : List End) : Type 0 where
  from : (from_end dir link).node < length places
  to : (to_end dir link).node < length places

join_ends : (places : List Place) (link : List End) (dir : Dir) → IsJoin places link → AreThere places dir link
join_ends places [] dir h = elim h [ ]
join_ends places (a ∷ []) dir h = elim h [ ]
join_ends places (a ∷ b ∷ []) Forth h = record { from = h.first.node; to = h.second.node }
join_ends places (a ∷ b ∷ []) Back h = record { from = h.second.node; to = h.first.node }
join_ends places (a ∷ b ∷ c ∷ ends) dir h = elim h [ ]

there_at : (places : List Place) (links : List (List End)) (l : ℕ) (dir : Dir) → AllByRecursion (IsJoin places) links → l < length links → AreThere places dir (slice_index_or links l [])
there_at places [] l dir h below = absurd (omega arith)
there_at places (link ∷ links) zero dir h below = join_ends places link dir h.0
there_at places (link ∷ links) (suc l) dir h below = there_at places links l dir h.1 (omega (arith, below))

pub from_there : (places : List Place) (links : List (List End)) → IsWired places links → (l : ℕ) (dir : Dir) → l < length links → (from_end dir (slice_index_or links l [])).node < length places
from_there places links wired l dir below = (there_at places links l dir (recursion_from_All (IsJoin places) links wired.joined) below).from

pub to_there : (places : List Place) (links : List (List End)) → IsWired places links → (l : ℕ) (dir : Dir) → l < length links → (to_end dir (slice_index_or links l [])).node < length places
to_there places links wired l dir below = (there_at places links l dir (recursion_from_All (IsJoin places) links wired.joined) below).to

-- ---- records by their numbers

-- the node is whose record it is
pub record IsRecordOf (r : Run) (k : ℕ) (kept : Record) : Type 0 where
  pub owner : run.owner_of r k ≡ owner_of kept
  pub past : run.past_of r k ≡ past_of kept

module _ (capacity : ℕ) (topology : Topology) (kept : List Record) (rows : List (Vec Row Global)) (shaped : IsShaped topology kept rows) where
  pub many : length kept ≡ length topology.places
  many = sym (length-map kept (λ (r : Record). r.place)) ∙ ap length shaped.places

  pub record_at : (k : ℕ) (d : Record) → k < length kept → IsRecordOf (run_of capacity topology kept rows) k (slice_index_or kept k d)
  record_at k d below =
      let number : (get_or kept k d).number ≡ k = (shaped.fit k d below).0 in
      let place : get_or topology.places k QuadBox ≡ (get_or kept k d).place =
      ap (λ (ps : List Place). get_or ps k QuadBox) (sym shaped.places) ∙ get_or-map (λ (r : Record). r.place) kept k d QuadBox below in
      record {
        owner = λ i. record { number = sym number i; place = place i };
        past = ap reverse (get_or-map (λ (r : Record). r.entries) kept k d [] below);
      }

-- ---- links where something came

-- a link and a direction in which it leads to an end
abbrev LeadsTo : List (List End) → End → Type 0
LeadsTo links end = (l : ℕ) × (dir : Dir) × (l < length links) × (to_end dir (slice_index_or links l []) ≡ end)

leads_in : (places : List Place) (link : List End) (links : List (List End)) (end : End) → IsJoin places link → is_end_of end link ≡ true → LeadsTo (link ∷ links) end
leads_in places [] links end h is = elim h [ ]
leads_in places (a ∷ []) links end h is = elim h [ ]
leads_in places (a ∷ b ∷ []) links end h is =
    ⊎_elim (λ first. (0, Back, omega arith, sym (end_is end a first)))
    (λ other. ⊎_elim (λ second. (0, Forth, omega arith, sym (end_is end b second))) (λ none. absurd (false≢true none)) (or_cases (is_same_end end b) false other))
    (or_cases (is_same_end end a) (is_end_of end (b ∷ [])) is)
leads_in places (a ∷ b ∷ c ∷ ends) links end h is = elim h [ ]

leads_to : (places : List Place) (links : List (List End)) (end : End) → AllByRecursion (IsJoin places) links → is_used links end ≡ true → LeadsTo links end
leads_to places [] end h is = absurd (false≢true is)
leads_to places (link ∷ links) end h is =
    ⊎_elim (λ here. leads_in places link links end h.0 here)
    (λ later. let rest = leads_to places links end h.1 later in (suc rest.0, rest.1, omega (arith, rest.2), rest.3))
    (or_cases (is_end_of end link) (is_used links end) is)

none_by : (links : List (List End)) (k port : ℕ) (event : Event) → is_used links (record { node = k; port = port }) ≡ false → is_linked links k event ≡ true → copy_at port event ≡ None
none_by links k port (Send from dst vlan ethertype payload) free is = refl
none_by links k port (Supervise about) free is = refl
none_by links k port (Arrive x copy) free is =
    ⊎_elim (λ same. let U : ℕ → Type 0 = λ p. is_used links (record { node = k; port = p }) ≡ true in absurd (false≢true (sym free ∙ subst U (eqb-true x port same) is)))
    (λ other. ap (λ b. cond b (Some copy) None) other)
    (cases_Bool (x == port))
none_by links k port Age free is = refl

none_came : (links : List (List End)) (k port : ℕ) (entries : List Entry) → is_used links (record { node = k; port = port }) ≡ false → AreLinked links k entries (length entries) → came port entries ≡ []
none_came links k port [] free all = refl
none_came links k port (x ∷ xs) free all =
    ap (λ (o : Option Carried). cons_option o (came port xs)) (none_by links k port x.event free (all 0 x (omega arith)))
    ∙ none_came links k port xs free (λ i d below. all (suc i) d (omega (arith, below)))

pub linked : (capacity : ℕ) (topology : Topology) (kept : List Record) (rows : List (Vec Row Global)) → IsShaped topology kept rows → IsWired topology.places topology.links →
    (k port : ℕ) → k < length topology.places → HasLink (run_of capacity topology kept rows) k port ⊎ (arrivals port (run.past_of (run_of capacity topology kept rows) k) ≡ [])
linked capacity topology kept rows shaped wired k port below =
    let d : Record = record { number = 0; place = QuadBox; entries = [] } in
    let inside : k < length kept = omega (arith, below, many capacity topology kept rows shaped) in
    ⊎_elim (λ used. let found = leads_to topology.places topology.links (record { node = k; port = port }) (recursion_from_All (IsJoin topology.places) topology.links wired.joined) used in
    inl (record { link = found.0; dir = found.1; below = found.2; ends = found.3 }))
    (λ free. inr (ap (arrivals port) (record_at capacity topology kept rows shaped k d inside).past
    ∙ (arrivals_of port (get_or kept k d).entries ∙ ap reverse (none_came topology.links k port (get_or kept k d).entries free (shaped.fit k d inside).1))))
    (cases_Bool (is_used topology.links (record { node = k; port = port })))
