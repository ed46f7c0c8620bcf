-- The records and rows of a closed run are its topology's.
use Rattle.std.proofs.Common.{◌≡◌, ◌⊎◌, inl, inr, ℕ, zero, suc, ◌+◌, ◌<◌, true, false, cond, List, [], ◌∷◌, length, map, get_or, Some, None, Vec, refl, sym, ap, ◌∙◌, subst, arith, ⊎_elim, eq-eqb}
use Rattle.std.specs.Global.{Global}
use Rattle.std.specs.List.{AllByRecursion}
use Rattle.std.specs.Prelude.{slice_index_or}
use Rattle.std.proofs.lemmas.Bool.{or_left, or_right}
use Rattle.std.proofs.lemmas.List.{length-map}
use Rattle.std.proofs.lemmas.List.Elements.{recursion_from_All}
use Rattle.hsr_node.specs.Flow.{copy_at}
use Rattle.hsr_node.specs.Kept.{Record}
use Rattle.hsr_node.specs.declared.event.Event.{Event}
use Rattle.hsr_node.specs.declared.event.Event.TheVariants.{Send, Supervise, Arrive, Age}
use Rattle.hsr_node.specs.declared.place.Place.{Place}
use Rattle.hsr_node.specs.declared.place.Place.TheVariants.{QuadBox}
use Rattle.hsr_link.specs.declared.row.Dir.{Dir}
use Rattle.hsr_link.specs.declared.row.Dir.TheVariants.{Forth, Back}
use Rattle.hsr_link.specs.declared.row.Row.{Row}
use Rattle.hsr_topology.proofs.Ends.{end_same}
use Rattle.hsr_run_laws.specs.Closed.{IsClosed}
use Rattle.hsr_finished_run.specs.Finished.{items_of}
use Rattle.hsr_topology.specs.Links.{is_end_of, is_same_end, is_used}
use Rattle.hsr_run_laws.specs.Run.{Run, past_of, record_of, to_end}
use Rattle.hsr_finished_run.specs.Shape.{AreLinked, IsShaped, NodeFits, is_linked}
use Rattle.hsr_topology.specs.Wired.{IsJoin, IsWired}
use Rattle.hsr_topology.specs.declared.end.End.{End}
use Rattle.hsr_transcript.specs.Replay.{records_from}
use Rattle.hsr_transcript.proofs.Numbered.{many_from, places_from, record_from}
use Rattle.hsr_finished_run.proofs.Places.{from_each}
use Rattle.hsr_transcript.proofs.Unlike.{none_came}

-- ---- where a link leads, it is used

end_of : (places : List Place) (link : List End) (dir : Dir) (end : End) → IsJoin places link → to_end dir link ≡ end → is_end_of end link ≡ true
end_of places [] dir end join is = absurd join
end_of places (a ∷ []) dir end join is = absurd join
end_of places (a ∷ b ∷ []) Forth end join is = or_right (is_same_end end a) (is_end_of end (b ∷ [])) (or_left (is_same_end end b) false (end_same end b (sym is)))
end_of places (a ∷ b ∷ []) Back end join is = or_left (is_same_end end a) (is_end_of end (b ∷ [])) (end_same end a (sym is))
end_of places (a ∷ b ∷ c ∷ ends) dir end join is = absurd join

used : (places : List Place) (links : List (List End)) (l : ℕ) (dir : Dir) (end : End) → AllByRecursion (IsJoin places) links → l < length links → to_end dir (slice_index_or links l []) ≡ end
    → is_used links end ≡ true
used places [] l dir end joins below is = absurd (omega arith)
used places (link ∷ links) zero dir end joins below is = or_left (is_end_of end link) (is_used links end) (end_of places link dir end joins.0 is)
used places (link ∷ links) (suc l) dir end joins below is = or_right (is_end_of end link) (is_used links end) (used places links l dir end joins.1 (omega (arith, below)) is)

-- ---- what came, came by a link

linked_by : (links : List (List End)) (k : ℕ) (event : Event) → ((port : ℕ) → (is_used links (record { node = k; port = port }) ≡ true) ⊎ (copy_at port event ≡ None)) → is_linked links k event ≡ true
linked_by links k (Send from dst vlan kind payload) h = refl
linked_by links k (Supervise about) h = refl
linked_by links k Age h = refl
linked_by links k (Arrive port copy) h = ⊎_elim (λ is. is) (λ none. other (ap (λ b. cond b (Some copy) None) (eq-eqb port port refl)) none) (h port)
  where
    other : copy_at port (Arrive port copy) ≡ Some copy → copy_at port (Arrive port copy) ≡ None → is_used links (record { node = k; port = port }) ≡ true
    other some none = absurd (cc)

are_linked : (run : Run) (k : ℕ) → IsWired run.places run.links → IsClosed run → k < length run.places → AreLinked run.links k (record_of run k) (length (record_of run k))
are_linked run k wired closed below i d inside = linked_by run.links k (get_or (record_of run k) i d).event (λ port. ⊎_elim
    (λ link. inl (used run.places run.links link.link link.dir (record { node = k; port = port }) (recursion_from_All (IsJoin run.places) run.links wired.joined) link.below link.ends))
    (λ none. inr (from_each (λ x past. copy_at port x.event ≡ None) (record_of run k) (none_came port (past_of run k) none) i inside d))
    (closed.linked k port below))

-- ---- all

pub shaped : (run : Run) (rows : List (Vec Row Global)) → IsWired run.places run.links → IsClosed run → map items_of rows ≡ run.rows
    → IsShaped (record { places = run.places; links = run.links }) (records_from 0 run.places run.records) rows
shaped run rows wired closed same = record {
  places = places_from 0 run.places run.records closed.records;
  of_links = sym (length-map rows items_of) ∙ ap length same ∙ closed.rows;
  fit = λ k d below.
      let inside : k < length run.places = omega (arith, below, many_from 0 run.places run.records closed.records) in
      let P : Record → Type 0 = NodeFits run.links k in
      subst P (sym (record_from 0 k run.places run.records d QuadBox closed.records inside)) (let s : 0 + k ≡ k = omega arith in s, are_linked run k wired closed inside);
}
