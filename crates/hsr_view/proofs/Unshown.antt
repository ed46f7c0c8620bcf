-- Why nothing is shown of a run, by the parts of which it would be made.
use Rattle.std.proofs.Common.{◌≡◌, ◌⊎◌, inl, inr, ℕ, List, Option, Result, Ok, Err, sym, subst}
use Rattle.std.specs.Borrow.{Bor}
use Rattle.std.specs.Global.{Global}
use Rattle.std.specs.Prelude.{IfErr, Vec}
use Rattle.hsr_node.specs.declared.event.Probe.{Probe}
use Rattle.hsr_topology.specs.Topology.{Topology}
use Rattle.hsr_finished_run.specs.Finished.{Finished}
use Rattle.hsr_timeline.specs.Fronts.{lists_of}
use Rattle.hsr_diagram.specs.declared.span.Span.{Span}
use Rattle.hsr_timeline.specs.Causes.{origins}
use Rattle.hsr_timeline.specs.Stamps.{HasNoStamps}
use Rattle.hsr_view.specs.Fault.{page_fault, picture_fault}
use Rattle.hsr_view.specs.Refusals.{IsStray, IsUncaptured, IsUnpicturedIn, IsUnshown, IsUnshownBy}
use Rattle.hsr_view.specs.Viewing.{AreNames, IsSend}
use Rattle.hsr_view.specs.declared.views.What.{What}
use Rattle.hsr_view.specs.declared.views.What.TheVariants.{Capture, Page, Picture}
use Rattle.hsr_view.specs.declared.fault.Fault.{Fault}
use Rattle.hsr_view.specs.declared.fault.Fault.TheVariants as fault
use Rattle.hsr_view.proofs.Showing.{Names, named_there}

module _ (f : Finished) (t : Topology) (scenario : Option (List ℕ)) (names : Names) (places : t.places ≡ f.run.places) (links : t.links ≡ f.run.links) (named : AreNames t scenario (lists_of names)) where
  by_names : (what : What) (why : Fault) → IsUnshownBy (lists_of names) f what why → IsUnshown f what scenario why
  by_names what why unshown = inr (inr (lists_of names, named_there f t scenario names places links named, unshown))

  pub stray_send : (what : What) (one : Names) (link : Option ℕ) (send : Option (Bor (List ℕ) × ℕ)) (why : Fault) → what ≡ Capture link send → one ≡ names → (why ≡ fault.Send) × IsStray (lists_of one) send → IsUnshown f what scenario why
  stray_send what one link send why is first stray =
      let P : Names → Type 0 = λ ns. (why ≡ fault.Send) × IsStray (lists_of ns) send in
      let S : What → Type 0 = λ w. IsUnshownBy (lists_of names) f w why in
      by_names what why (subst S (sym is) (inl (subst P first stray)))

  pub unshown_capture : (what : What) (one two : Names) (link : Option ℕ) (send : Option (Bor (List ℕ) × ℕ)) (probe : Option Probe) (r : Result (Vec ℕ Global) Fault) →
      what ≡ Capture link send → one ≡ names → IsSend (lists_of one) send probe → two ≡ names →
      IfErr r (IsUncaptured (lists_of two) f (record { link = link; send = probe })) → IfErr r (IsUnshown f what scenario)
  unshown_capture what one two link send probe (Ok octets) is first sends second uncaptured = tt
  unshown_capture what one two link send probe (Err why) is first sends second uncaptured =
      let P : Names → Type 0 = λ ns. IsSend (lists_of ns) send probe in
      let Q : Names → Type 0 = λ ns. IsUncaptured (lists_of ns) f (record { link = link; send = probe }) why in
      let S : What → Type 0 = λ w. IsUnshownBy (lists_of names) f w why in
      by_names what why (subst S (sym is) (inr (probe, subst P first sends, subst Q second uncaptured)))

  pub unshown_picture : (what : What) (one : Names) (sends : Vec (Bor (List ℕ) × ℕ) Global) (list : List (Bor (List ℕ) × ℕ)) (span : Span) (r : Result (Vec ℕ Global) Fault) →
      what ≡ Picture sends span → one ≡ names → list ≡ sends.items →
      IfErr r (λ why. (why ≡ fault.Memory) ⊎ IsUnpicturedIn (lists_of one) f list span 400 picture_fault why) → IfErr r (IsUnshown f what scenario)
  unshown_picture what one sends list span (Ok octets) is first second undrawn = tt
  unshown_picture what one sends list span (Err why) is first second (inl memory) = inl memory
  unshown_picture what one sends list span (Err why) is first second (inr undrawn) =
      let P : Names → Type 0 = λ ns. IsUnpicturedIn (lists_of ns) f list span 400 picture_fault why in
      let Q : List (Bor (List ℕ) × ℕ) → Type 0 = λ xs. IsUnpicturedIn (lists_of names) f xs span 400 picture_fault why in
      let S : What → Type 0 = λ w. IsUnshownBy (lists_of names) f w why in
      by_names what why (subst S (sym is) (subst Q second (subst P first undrawn)))

  pub unshown_page : (what : What) (one : Names) (sends : Vec (Bor (List ℕ) × ℕ) Global) (list : List (Bor (List ℕ) × ℕ)) (span : Span) (title : Bor (List ℕ)) (r : Result (Vec ℕ Global) Fault) →
      what ≡ Page sends span title → one ≡ names → list ≡ sends.items →
      IfErr r (λ why. (why ≡ fault.Memory) ⊎ (IsUnpicturedIn (lists_of one) f list span 6000 page_fault why ⊎ ((why ≡ fault.Circle) × HasNoStamps (origins f.run f.plan)))) → IfErr r (IsUnshown f what scenario)
  unshown_page what one sends list span title (Ok octets) is first second unpaged = tt
  unshown_page what one sends list span title (Err why) is first second (inl memory) = inl memory
  unshown_page what one sends list span title (Err why) is first second (inr unpaged) =
      let C : Type 0 = (why ≡ fault.Circle) × HasNoStamps (origins f.run f.plan) in
      let P : Names → Type 0 = λ ns. IsUnpicturedIn (lists_of ns) f list span 6000 page_fault why ⊎ C in
      let Q : List (Bor (List ℕ) × ℕ) → Type 0 = λ xs. IsUnpicturedIn (lists_of names) f xs span 6000 page_fault why ⊎ C in
      let S : What → Type 0 = λ w. IsUnshownBy (lists_of names) f w why in
      by_names what why (subst S (sym is) (subst Q second (subst P first unpaged)))
