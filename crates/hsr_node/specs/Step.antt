-- One step of a node: the step of its kind, and WrongEvent where the event doesn't fit the kind, its ports or its addresses.
use Rattle.std.specs.Prelude.{ℕ, ◌==◌, true, false, List, [], ◌∷◌, length, Option, Some, None, Result, Ok, Err, if◌then◌else◌}
use Rattle.hsr_frame.specs.Cases.{first_of}
use Rattle.hsr_frame.specs.declared.counters.Counters.{Counters}
use Rattle.hsr_frame.specs.declared.fault.Spent.{Spent}
use Rattle.hsr_frame.specs.declared.node.Life.{Life}
use Rattle.hsr_frame.specs.declared.node.RingPort.{RingPort}
use Rattle.hsr_frame.specs.declared.node.RingPort.TheVariants as ring
use Rattle.hsr_danh.specs.Machine as danh
use Rattle.hsr_danh.specs.Step as of_danh
use Rattle.hsr_danh.specs.declared.danh.Sent.{Sent as DanhSent}
use Rattle.hsr_danh.specs.declared.danh.Verdict.{Verdict}
use Rattle.hsr_redbox.specs.Machine as redbox
use Rattle.hsr_redbox.specs.Step as of_redbox
use Rattle.hsr_frame.specs.declared.node.About.{About}
use Rattle.hsr_frame.specs.declared.node.About.TheVariants.{Own, Proxied}
use Rattle.hsr_redbox.specs.declared.call.BoxPort.{BoxPort}
use Rattle.hsr_redbox.specs.declared.call.BoxPort.TheVariants as box
use Rattle.hsr_redbox.specs.declared.call.BoxSent.{BoxSent}
use Rattle.hsr_redbox.specs.declared.call.BoxVerdict.{BoxVerdict}
use Rattle.hsr_redbox.specs.declared.call.LifeFault.{LifeFault}
use Rattle.hsr_redbox.specs.declared.call.LifeFault.TheVariants as life
use Rattle.hsr_quadbox.specs.Machine as quadbox
use Rattle.hsr_quadbox.specs.Step as of_quadbox
use Rattle.hsr_quadbox.specs.declared.quadbox.QuadVerdict.{QuadVerdict}
use Rattle.hsr_quadbox.specs.declared.wanted.QuadPort.{QuadPort}
use Rattle.hsr_quadbox.specs.declared.wanted.QuadPort.TheVariants as quad
use Rattle.hsr_node.specs.declared.event.Event.{Event}
use Rattle.hsr_node.specs.declared.event.Event.TheVariants.{Send, Supervise, Arrive, Age}
use Rattle.hsr_node.specs.Station as station
use Rattle.hsr_node.specs.declared.event.Outcome.{Outcome}
use Rattle.hsr_node.specs.declared.event.Outcome.TheVariants as outcome
use Rattle.hsr_node.specs.declared.event.StepFault.{StepFault}
use Rattle.hsr_node.specs.declared.event.StepFault.TheVariants as refused
use Rattle.hsr_node.specs.declared.node.Node.{Node}
use Rattle.hsr_node.specs.declared.node.Node.TheVariants.{Danh, RedBox, QuadBox, Station}
use Rattle.hsr_node.specs.declared.place.Place.{Place}
use Rattle.hsr_node.specs.declared.place.Place.TheVariants as place

-- ---- answers, told of any kind of node

-- an answer, by what it tells and what it refuses
abbrev pub told : {A E : Type 0} → (A → Outcome) → (E → StepFault) → Result A E → Result Outcome StepFault
told done fault (Ok x) = Ok (done x)
told done fault (Err e) = Err (fault e)

-- the same, with what the node holds after it
abbrev pub told_with : {A E M : Type 0} → (A → Outcome) → (E → StepFault) → Result A E × M → Result Outcome StepFault × M
told_with done fault after = (told done fault after.0, after.1)

-- nothing changes
abbrev pub wrong : {M : Type 0} → M → Result Outcome StepFault × M
wrong machine = (Err refused.WrongEvent, machine)

abbrev pub spent : Spent → StepFault
spent _ = refused.Spent

-- a supervision frame leaves by both ring ports
abbrev pub lived : Life → Outcome
lived l = outcome.Life l.seq l.life (true ∷ true ∷ false ∷ false ∷ [])

-- ---- a DANH: one address, the ports A and B, and no station to speak for

abbrev pub ring_port : ℕ → Option RingPort
ring_port n = first_of ((n == 0, Some ring.A) ∷ (n == 1, Some ring.B) ∷ []) None

abbrev pub danh_sent : DanhSent → Outcome
danh_sent sent = outcome.Sent (Some sent.seq) (true ∷ true ∷ false ∷ false ∷ [])

abbrev pub danh_judged : Verdict → Outcome
danh_judged v = outcome.Judged v.up (v.a ∷ v.b ∷ false ∷ false ∷ []) None v.cause

abbrev pub danh_send : ℕ → danh.Machine → ℕ → List ℕ → ℕ → ℕ → Result Outcome StepFault × danh.Machine
danh_send capacity machine at dst ethertype len =
    told_with danh_sent refused.Send (of_danh.send_step capacity machine at dst ethertype len)

abbrev pub danh_life : ℕ → danh.Machine → ℕ → Result Outcome StepFault × danh.Machine
danh_life capacity machine at = told_with lived spent (of_danh.life_step capacity machine at)

abbrev pub danh_arrive : ℕ → danh.Machine → ℕ → Option RingPort → List ℕ → Result Outcome StepFault × danh.Machine
danh_arrive capacity machine at None octets = wrong machine
danh_arrive capacity machine at (Some x) octets = told_with danh_judged spent (of_danh.arrive_step capacity machine at x octets)

abbrev pub danh_supervise : ℕ → danh.Machine → ℕ → About → Result Outcome StepFault × danh.Machine
danh_supervise capacity machine at Own = danh_life capacity machine at
danh_supervise capacity machine at (Proxied mac) = wrong machine

unfoldable pub danh_step : ℕ → danh.Machine → ℕ → Event → Result Outcome StepFault × danh.Machine
danh_step capacity machine at (Send from dst vlan ethertype payload) = if from == 0 then danh_send capacity machine at dst ethertype (length payload) else wrong machine
danh_step capacity machine at (Supervise about) = danh_supervise capacity machine at about
danh_step capacity machine at (Arrive port copy) = danh_arrive capacity machine at (ring_port port) copy.octets
danh_step capacity machine at Age = (Ok outcome.Aged, of_danh.age_step machine at)

-- ---- a RedBox: one address, the ports A and B, and the interlink

abbrev pub box_port : ℕ → Option BoxPort
box_port n = first_of ((n == 0, Some box.A) ∷ (n == 1, Some box.B) ∷ (n == 2, Some box.I) ∷ []) None

abbrev pub box_sent : BoxSent → Outcome
box_sent sent = outcome.Sent sent.seq (sent.a ∷ sent.b ∷ sent.interlink ∷ false ∷ [])

abbrev pub box_judged : BoxVerdict → Outcome
box_judged v = outcome.Judged v.up (v.a ∷ v.b ∷ v.interlink ∷ false ∷ []) v.seq v.cause

abbrev pub life_fault : LifeFault → StepFault
life_fault life.NotProxied = refused.NotProxied
life_fault life.Spent = refused.Spent

abbrev pub redbox_send : ℕ → redbox.Machine → ℕ → List ℕ → ℕ → ℕ → Result Outcome StepFault × redbox.Machine
redbox_send capacity machine at dst ethertype len =
    told_with box_sent refused.Send (of_redbox.send_step capacity machine at dst ethertype len)

abbrev pub redbox_supervise : ℕ → redbox.Machine → ℕ → About → Result Outcome StepFault × redbox.Machine
redbox_supervise capacity machine at about = told_with lived life_fault (of_redbox.life_step capacity machine at about)

abbrev pub redbox_arrive : ℕ → redbox.Machine → ℕ → Option BoxPort → List ℕ → Result Outcome StepFault × redbox.Machine
redbox_arrive capacity machine at None octets = wrong machine
redbox_arrive capacity machine at (Some x) octets = told_with box_judged spent (of_redbox.arrive_step capacity machine at x octets)

unfoldable pub redbox_step : ℕ → redbox.Machine → ℕ → Event → Result Outcome StepFault × redbox.Machine
redbox_step capacity machine at (Send from dst vlan ethertype payload) = if from == 0 then redbox_send capacity machine at dst ethertype (length payload) else wrong machine
redbox_step capacity machine at (Supervise about) = redbox_supervise capacity machine at about
redbox_step capacity machine at (Arrive port copy) = redbox_arrive capacity machine at (box_port port) copy.octets
redbox_step capacity machine at Age = (Ok outcome.Aged, of_redbox.age_step machine at)

-- ---- a QuadBox: no address, and the ports A, B, C and D

abbrev pub quad_port : ℕ → Option QuadPort
quad_port n = first_of ((n == 0, Some quad.A) ∷ (n == 1, Some quad.B) ∷ (n == 2, Some quad.C) ∷ (n == 3, Some quad.D) ∷ []) None

abbrev pub quad_judged : QuadVerdict → Outcome
quad_judged v = outcome.Judged false v.out None v.cause

abbrev pub quadbox_arrive : ℕ → quadbox.Machine → ℕ → Option QuadPort → List ℕ → Result Outcome StepFault × quadbox.Machine
quadbox_arrive capacity machine at None octets = wrong machine
quadbox_arrive capacity machine at (Some x) octets = told_with quad_judged spent (of_quadbox.arrive_step capacity machine at x octets)

unfoldable pub quadbox_step : ℕ → quadbox.Machine → ℕ → Event → Result Outcome StepFault × quadbox.Machine
quadbox_step capacity machine at (Send from dst vlan ethertype payload) = wrong machine
quadbox_step capacity machine at (Supervise about) = wrong machine
quadbox_step capacity machine at (Arrive port copy) = quadbox_arrive capacity machine at (quad_port port) copy.octets
quadbox_step capacity machine at Age = (Ok outcome.Aged, of_quadbox.age_step machine at)

-- ---- any node

-- what it holds at first
abbrev pub new_node : (capacity : ℕ) → Place → Node capacity
new_node capacity (place.Danh mac mode) = Danh (danh.new_machine mac mode)
new_node capacity (place.RedBox mac mode) = RedBox (redbox.new_machine mac mode)
new_node capacity place.QuadBox = QuadBox quadbox.new_machine
new_node capacity (place.Station macs) = Station (station.new_machine macs.items)

abbrev pub within : {M N : Type 0} → (M → N) → Result Outcome StepFault × M → Result Outcome StepFault × N
within node after = (after.0, node after.1)

abbrev pub node_step : (capacity : ℕ) → Node capacity → ℕ → Event → Result Outcome StepFault × Node capacity
node_step capacity (Danh machine) at event = within Danh (danh_step capacity machine at event)
node_step capacity (RedBox machine) at event = within RedBox (redbox_step capacity machine at event)
node_step capacity (QuadBox machine) at event = within QuadBox (quadbox_step capacity machine at event)
node_step capacity (Station machine) at event = within Station (station.station_step machine at event)

abbrev pub counters_of : (capacity : ℕ) → Node capacity → Counters
counters_of capacity (Danh machine) = machine.counters
counters_of capacity (RedBox machine) = machine.counters
counters_of capacity (QuadBox machine) = machine.counters
counters_of capacity (Station machine) = machine.counters
