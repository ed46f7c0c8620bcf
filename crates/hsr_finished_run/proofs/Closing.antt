-- What was checked makes a run closed; and what is a cause keeps it from being so.
use Rattle.std.proofs.Common.{◌≡◌, ℕ, ◌<◌, zero, suc, false, List, [], ◌∷◌, length, slice_index_or, Vec, refl, sym, ◌∙◌, subst, arith}
use Rattle.std.specs.Global.{Global}
use Rattle.std.specs.List.{AllByRecursion}
use Rattle.std.proofs.lemmas.Bool.{or_parts, or_from}
use Rattle.std.proofs.lemmas.List.{length-map}
use Rattle.hsr_node.specs.Kept.{Record, owner_of}
use Rattle.hsr_node.specs.Record.{IsLegal, Owner}
use Rattle.hsr_node.specs.declared.entry.Entry.{Entry}
use Rattle.hsr_node.specs.declared.place.Place.TheVariants.{QuadBox}
use Rattle.hsr_link.specs.Rows.{is_queued}
use Rattle.hsr_link.specs.declared.row.Row.{Row}
use Rattle.hsr_finished_run.specs.Checked.{AllAgree, AreKnown, AreLegal, HasNoStranger, IsQuiet, PutsAgree, TakensAgree, is_noisy}
use Rattle.hsr_duptable.specs.Table.{IsTableSize}
use Rattle.hsr_run_laws.specs.Closed.{IsClosed, IsSettled}
use Rattle.hsr_finished_run.specs.Finished.{items_of, run_of}
use Rattle.hsr_run_laws.specs.Run as run
use Rattle.hsr_run_laws.specs.Run.{Run, rows_of}
use Rattle.hsr_finished_run.specs.Shape.{IsShaped}
use Rattle.hsr_topology.specs.Topology.{Topology}
use Rattle.hsr_topology.specs.Wired.{IsWired}
use Rattle.hsr_finished_run.proofs.Shaped.{linked, many, record_at}

-- ---- rows

settled_rows : (r : Run) (rows : List Row) → AreKnown r rows (length rows) → is_noisy rows ≡ false → AllByRecursion (IsSettled r) rows
settled_rows r [] known quiet = tt
settled_rows r (row ∷ rows) known quiet =
    let first = known 0 row (omega arith) in
    let parts = or_parts (is_queued row.fate) (is_noisy rows) quiet in
    (record { put = first.put; origin = first.origin; gone = parts.0 }, settled_rows r rows (λ i d below. known (suc i) d (omega (arith, below))) parts.1)

pub known_rows : (r : Run) (rows : List Row) → AllByRecursion (IsSettled r) rows → AreKnown r rows (length rows)
known_rows r [] h = λ i d below. absurd (omega arith)
known_rows r (row ∷ rows) h = by_index (known_rows r rows h.1)
  where
    by_index : AreKnown r rows (length rows) → AreKnown r (row ∷ rows) (length (row ∷ rows))
    by_index rest zero d below = record { put = h.0.put; origin = h.0.origin }
    by_index rest (suc i) d below = rest i d (omega (arith, below))

pub quiet_rows : (r : Run) (rows : List Row) → AllByRecursion (IsSettled r) rows → is_noisy rows ≡ false
quiet_rows r [] h = refl
quiet_rows r (row ∷ rows) h = or_from (is_queued row.fate) (is_noisy rows) h.0.gone (quiet_rows r rows h.1)

-- ---- all

module _ (capacity : ℕ) (topology : Topology) (kept : List Record) (rows : List (Vec Row Global)) (shaped : IsShaped topology kept rows) where
  abbrev pub whole : Run
  whole = run_of capacity topology kept rows

  legal_at : AreLegal capacity kept (length kept) → (k : ℕ) → k < length topology.places → IsLegal capacity (run.owner_of whole k) (run.past_of whole k)
  legal_at legal k below =
      let d : Record = record { number = 0; place = QuadBox; entries = [] } in
      let inside : k < length kept = omega (arith, below, many capacity topology kept rows shaped) in
      let is = record_at capacity topology kept rows shaped k d inside in
      let P : Owner → Type 0 = λ o. IsLegal capacity o (run.past_of whole k) in
      let Q : List Entry → Type 0 = λ past. IsLegal capacity (owner_of (slice_index_or kept k d)) past in
      subst P (sym is.owner) (subst Q (sym is.past) (legal k d inside))

  pub closed : IsTableSize capacity → IsWired topology.places topology.links → AreLegal capacity kept (length kept) →
      PutsAgree whole (length topology.links) → TakensAgree whole (length topology.links) →
      HasNoStranger whole (length topology.links) → IsQuiet whole (length topology.links) → IsClosed whole
  unfolding AllAgree HasNoStranger IsQuiet
  closed tables wired legal puts takens known quiet = record {
    tables = tables;
    records = length-map kept (λ (r : Record). r.entries) ∙ many capacity topology kept rows shaped;
    rows = length-map rows items_of ∙ shaped.of_links;
    legal = legal_at legal;
    put = puts;
    taken = takens;
    settled = λ l below. settled_rows whole (rows_of whole l) (known l below) (quiet l below);
    linked = linked capacity topology kept rows shaped wired;
  }
