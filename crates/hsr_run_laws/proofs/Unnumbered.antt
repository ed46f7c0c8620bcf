-- What comes to a node that is no RedBox gets no number there.
use Rattle.std.proofs.Common.{◌≡◌, ℕ, ◌==◌, Bool, true, false, if◌then◌else◌, List, [], ◌∷◌, Option, Some, None, Ok, sym, ap}
use Rattle.std.specs.Prelude.{option_map}
use Rattle.std.proofs.lemmas.Bool.{false≢true}
use Rattle.hsr_frame.specs.declared.node.RingPort.{RingPort}
use Rattle.hsr_danh.specs.Wanted as of_danh
use Rattle.hsr_redbox.specs.Step.{number_of}
use Rattle.hsr_redbox.specs.Wanted.{unnumbered}
use Rattle.hsr_redbox.specs.declared.wanted.Handling.{Handling}
use Rattle.hsr_quadbox.specs.Wanted as of_quadbox
use Rattle.hsr_quadbox.specs.declared.wanted.QuadPort.{QuadPort}
use Rattle.hsr_node.specs.Record.{Each, Owner, answer, handling, next_number, now, station_wanted}
use Rattle.hsr_node.specs.Step.{quad_port, ring_port}
use Rattle.hsr_node.specs.declared.entry.Entry.{Entry}
use Rattle.hsr_frame.specs.declared.node.Cause.{Cause}
use Rattle.hsr_node.specs.declared.event.Carried.{Carried}
use Rattle.hsr_node.specs.declared.event.Event.{Event}
use Rattle.hsr_node.specs.declared.event.Event.TheVariants.{Send, Supervise, Arrive, Age}
use Rattle.hsr_node.specs.declared.event.Outcome.{Outcome}
use Rattle.hsr_node.specs.declared.event.Outcome.TheVariants.{Sent, Life, Judged, Aged}
use Rattle.hsr_node.specs.declared.place.Place.{Place}
use Rattle.hsr_node.specs.declared.place.Place.TheVariants.{Danh, RedBox, QuadBox, Station}
use Rattle.hsr_run_laws.specs.Premises.{NumbersFirst, is_redbox}
use Rattle.hsr_run_laws.specs.Run.{Run}
use Rattle.hsr_run_laws.proofs.Records.{Answered}
use Rattle.hsr_run_laws.proofs.Views.{Came, came, judged, knows_at}

unnumbered_here : (place : Place) → is_redbox place ≡ false → (known : List ℕ → Bool) (port : ℕ) (seen : Came) (h : Handling) → handling place known port seen ≡ Some h → h.source ≡ None
unnumbered_here (RedBox mac mode) no_box known port seen h is = absurd (false≢true (sym no_box))
unnumbered_here (Danh mac mode) no_box known port seen h is = by_port (ring_port port) is
  where
    by_port : (o : Option RingPort) → option_map (λ x. unnumbered (of_danh.wanted mac mode x seen)) o ≡ Some h → h.source ≡ None
    by_port None e = absurd cc
    by_port (Some x) e = let same : unnumbered (of_danh.wanted mac mode x seen) ≡ h = cc in sym (ap (λ (g : Handling). g.source) same)
unnumbered_here QuadBox no_box known port seen h is = by_port (quad_port port) is
  where
    by_port : (o : Option QuadPort) → option_map (λ x. unnumbered (of_quadbox.wanted x seen)) o ≡ Some h → h.source ≡ None
    by_port None e = absurd cc
    by_port (Some x) e = let same : unnumbered (of_quadbox.wanted x seen) ≡ h = cc in sym (ap (λ (g : Handling). g.source) same)
unnumbered_here (Station macs) no_box known port seen h is = by_port (port == 0) is
  where
    by_port : (o : Bool) → (if o then Some (unnumbered (station_wanted macs.items seen)) else None) ≡ Some h → h.source ≡ None
    by_port true e = let same : unnumbered (station_wanted macs.items seen) ≡ h = cc in sym (ap (λ (g : Handling). g.source) same)
    by_port false e = absurd cc

pub numbers_none : (capacity : ℕ) (owner : Owner) (past : List Entry) (at port : ℕ) (copy : Carried) (up_too : Bool) (out_ports : List Bool) (seq : ℕ) (why : Cause) → is_redbox owner.place ≡ false →
    answer capacity owner past at (Arrive port copy) ≡ Ok (Judged up_too out_ports (Some seq) why) → ⊥
numbers_none capacity owner past at port copy up_too out_ports seq why no_box ok =
    let j = judged capacity owner past at port copy (Judged up_too out_ports (Some seq) why) ok in
    let none : number_of j.h.source (next_number past) ≡ None = ap (λ s. number_of s (next_number past)) (unnumbered_here owner.place no_box (knows_at owner past at port copy) port (came copy) j.h j.is) in
    let some : Some seq ≡ number_of j.h.source (next_number past) = let e = j.out in cc in
    absurd cc

pub record_numbers_none : (run : Run) (owner : Owner) (h : List Entry) → is_redbox owner.place ≡ false → Each (Answered run.capacity owner) h → Each (λ x past. NumbersFirst run owner past x.event x.outcome) h
record_numbers_none run owner [] no_box legal = tt
record_numbers_none run owner (x ∷ past) no_box legal = (step x.event x.outcome legal.0, record_numbers_none run owner past no_box legal.1)
  where
    step : (event : Event) (outcome : Outcome) → answer run.capacity owner past (now (x ∷ past)) event ≡ Ok outcome → NumbersFirst run owner past event outcome
    step (Arrive port copy) (Judged up_too ports (Some seq) why) ok = absurd (numbers_none run.capacity owner past (now (x ∷ past)) port copy up_too ports seq why no_box ok)
    step (Arrive port copy) (Judged up_too ports None why) ok = tt
    step (Arrive port copy) (Sent seq ports) ok = tt
    step (Arrive port copy) (Life seq life ports) ok = tt
    step (Arrive port copy) Aged ok = tt
    step (Send from dst vlan ethertype payload) outcome ok = tt
    step (Supervise about) outcome ok = tt
    step Age outcome ok = tt
