-- A picture, by the parts of which it is made.
use Rattle.std.proofs.Common.{◌≡◌, List, length, map, ap, ◌∙◌, subst}
use Rattle.std.specs.Global.{Global}
use Rattle.std.specs.Prelude.{Vec}
use Rattle.hsr_node.specs.declared.event.Probe.{Probe}
use Rattle.hsr_topology.specs.Topology.{Topology}
use Rattle.hsr_run_laws.specs.Run.{Run}
use Rattle.hsr_timeline.specs.Fronts.{lists_of}
use Rattle.hsr_timeline.specs.Stamps.{at_spot}
use Rattle.hsr_timeline.specs.declared.stamp.Stamp.{Stamp}
use Rattle.hsr_timeline.specs.declared.hop.Hop.{Hop}
use Rattle.hsr_diagram.specs.Panels.{ArePanels, Panel}
use Rattle.hsr_deliveries.specs.Delivered.{Delivery}
use Rattle.hsr_timeline.specs.declared.shown.Shown.{Shown}
use Rattle.hsr_diagram.specs.Arrows.{arrow_of, hops_by_link}
use Rattle.hsr_diagram.specs.Sends.{sents}
use Rattle.hsr_diagram.specs.declared.arrow.Arrow.{Arrow}
use Rattle.hsr_diagram.specs.declared.sending.Sent.{Sent}
use Rattle.hsr_diagram.specs.declared.span.Span.{Span}

pub panels_there : (run : Run) (t : Topology) (panels : List Panel) → t.places ≡ run.places → t.links ≡ run.links → ArePanels t panels → ArePanels (record { places = run.places; links = run.links }) panels
panels_there run t panels places links are =
    let same : t ≡ record { places = run.places; links = run.links } = λ i. record { places = places i; links = links i } in
    let P : Topology → Type 0 = λ u. ArePanels u panels in
    subst P same are

module _ (run : Run) (sends : List Probe) (span : Span) (wanted : List Shown) where
  pub arrows_there : (hops one : List (Vec Hop Global)) (stamps two : List (Vec Stamp Global)) (arrows : List Arrow) → one ≡ hops → two ≡ stamps → lists_of hops ≡ hops_by_link run (length run.links) →
      arrows ≡ map (arrow_of run (lists_of one) (at_spot (lists_of two))) wanted → arrows ≡ map (arrow_of run (hops_by_link run (length run.links)) (at_spot (lists_of stamps))) wanted
  arrows_there hops one stamps two arrows is_hops is_stamps hops_are arrows_are =
      arrows_are
      ∙ (ap (λ hs. map (arrow_of run (lists_of hs) (at_spot (lists_of two))) wanted) is_hops
      ∙ (ap (λ hs. map (arrow_of run hs (at_spot (lists_of two))) wanted) hops_are
      ∙ ap (λ ts. map (arrow_of run (hops_by_link run (length run.links)) (at_spot (lists_of ts))) wanted) is_stamps))

  pub sends_there : (stamps one : List (Vec Stamp Global)) (ds other : List Delivery) (list : List Sent) → one ≡ stamps → other ≡ ds →
      list ≡ sents (at_spot (lists_of one)) sends span other → list ≡ sents (at_spot (lists_of stamps)) sends span ds
  sends_there stamps one ds other list is_stamps is_ds list_is =
      list_is ∙ (ap (λ ts. sents (at_spot (lists_of ts)) sends span other) is_stamps ∙ ap (sents (at_spot (lists_of stamps)) sends span) is_ds)
