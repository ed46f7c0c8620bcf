-- What is shown of a run, by the parts of which it is made.
use Rattle.std.proofs.Common.{◌≡◌, ℕ, List, Option, Result, Ok, Err, sym, subst}
use Rattle.std.specs.Borrow.{Bor}
use Rattle.std.specs.Global.{Global}
use Rattle.std.specs.Prelude.{IfOk, Vec}
use Rattle.hsr_node.specs.declared.event.Probe.{Probe}
use Rattle.hsr_topology.specs.Topology.{Topology}
use Rattle.hsr_finished_run.specs.Finished.{Finished}
use Rattle.hsr_timeline.specs.Fronts.{lists_of}
use Rattle.hsr_devices.specs.Listing.{IsListing}
use Rattle.hsr_view.specs.Viewing.{AreNames, IsCaptureOf, IsPaged, IsPictured, IsSend, IsShown, Shows, topology_of}
use Rattle.hsr_view.specs.declared.views.What.{What}
use Rattle.hsr_view.specs.declared.views.What.TheVariants.{Capture, Devices, Page, Picture}
use Rattle.hsr_diagram.specs.declared.span.Span.{Span}
use Rattle.hsr_view.specs.declared.fault.Fault.{Fault}

abbrev pub Names : Type 0
Names = List (Vec ℕ Global)

pub named_there : (f : Finished) (t : Topology) (scenario : Option (List ℕ)) (names : Names) → t.places ≡ f.run.places → t.links ≡ f.run.links → AreNames t scenario (lists_of names) → AreNames (topology_of f.run) scenario (lists_of names)
named_there f t scenario names places links named =
    let same : t ≡ topology_of f.run = λ i. record { places = places i; links = links i } in
    let P : Topology → Type 0 = λ u. AreNames u scenario (lists_of names) in
    subst P same named

module _ (f : Finished) (t : Topology) (scenario : Option (List ℕ)) (names : Names) (places : t.places ≡ f.run.places) (links : t.links ≡ f.run.links) (named : AreNames t scenario (lists_of names)) where
  pub shown_devices : (what : What) (one : Names) (text : List ℕ) → what ≡ Devices → one ≡ names → IsListing (lists_of one) f.run text → IsShown f what scenario text
  shown_devices what one text is same listing =
      let P : Names → Type 0 = λ ns. IsListing (lists_of ns) f.run text in
      let S : What → Type 0 = λ w. Shows (lists_of names) f scenario w text in
      record { names = lists_of names; named = named_there f t scenario names places links named; shows = subst S (sym is) (subst P same listing) }

  pub shown_picture : (what : What) (one : Names) (sends : Vec (Bor (List ℕ) × ℕ) Global) (list : List (Bor (List ℕ) × ℕ)) (span : Span) (r : Result (Vec ℕ Global) Fault) →
      what ≡ Picture sends span → one ≡ names → list ≡ sends.items → IfOk r (λ octets. IsPictured (lists_of one) f scenario list span octets.items) → IfOk r (λ octets. IsShown f what scenario octets.items)
  shown_picture what one sends list span (Err fault) is first second picture = tt
  shown_picture what one sends list span (Ok octets) is first second picture =
      let P : Names → Type 0 = λ ns. IsPictured (lists_of ns) f scenario list span octets.items in
      let Q : List (Bor (List ℕ) × ℕ) → Type 0 = λ xs. IsPictured (lists_of names) f scenario xs span octets.items in
      let S : What → Type 0 = λ w. Shows (lists_of names) f scenario w octets.items in
      record { names = lists_of names; named = named_there f t scenario names places links named; shows = subst S (sym is) (subst Q second (subst P first picture)) }

  pub shown_capture : (what : What) (one two : Names) (link : Option ℕ) (send : Option (Bor (List ℕ) × ℕ)) (probe : Option Probe) (r : Result (Vec ℕ Global) Fault) →
      what ≡ Capture link send → one ≡ names → IsSend (lists_of one) send probe → two ≡ names →
      IfOk r (λ octets. IsCaptureOf (lists_of two) f (record { link = link; send = probe }) octets.items) → IfOk r (λ octets. IsShown f what scenario octets.items)
  shown_capture what one two link send probe (Err fault) is first sends second capture = tt
  shown_capture what one two link send probe (Ok octets) is first sends second capture =
      let P : Names → Type 0 = λ ns. IsSend (lists_of ns) send probe in
      let Q : Names → Type 0 = λ ns. IsCaptureOf (lists_of ns) f (record { link = link; send = probe }) octets.items in
      let S : What → Type 0 = λ w. Shows (lists_of names) f scenario w octets.items in
      record { names = lists_of names; named = named_there f t scenario names places links named; shows = subst S (sym is) (probe, subst P first sends, subst Q second capture) }

  pub shown_page : (what : What) (one : Names) (sends : Vec (Bor (List ℕ) × ℕ) Global) (list : List (Bor (List ℕ) × ℕ)) (span : Span) (title : Bor (List ℕ)) (r : Result (Vec ℕ Global) Fault) →
      what ≡ Page sends span title → one ≡ names → list ≡ sends.items → IfOk r (λ octets. IsPaged (lists_of one) f scenario title.now list span octets.items) → IfOk r (λ octets. IsShown f what scenario octets.items)
  shown_page what one sends list span title (Err fault) is first second page = tt
  shown_page what one sends list span title (Ok octets) is first second page =
      let P : Names → Type 0 = λ ns. IsPaged (lists_of ns) f scenario title.now list span octets.items in
      let Q : List (Bor (List ℕ) × ℕ) → Type 0 = λ xs. IsPaged (lists_of names) f scenario title.now xs span octets.items in
      let S : What → Type 0 = λ w. Shows (lists_of names) f scenario w octets.items in
      record { names = lists_of names; named = named_there f t scenario names places links named; shows = subst S (sym is) (subst Q second (subst P first page)) }
