-- What is refused changes nothing.
use Rattle.std.proofs.Common.{◌≡◌, ℕ, ◌==◌, ◌^◌, Bool, true, false, if◌then◌else◌, List, length, Option, Some, None, Result, Ok, Err, refl, ap}
use Rattle.std.specs.Prelude.{slice_get}
use Rattle.hsr_frame.specs.Send.{send_refusal}
use Rattle.hsr_frame.specs.declared.fault.SendFault.{SendFault}
use Rattle.hsr_frame.specs.declared.node.RingPort.{RingPort}
use Rattle.hsr_danh.specs.Machine as danh
use Rattle.hsr_danh.specs.Step as of_danh
use Rattle.hsr_redbox.specs.Machine as redbox
use Rattle.hsr_redbox.specs.Step as of_redbox
use Rattle.hsr_redbox.specs.Wanted.{handling_send}
use Rattle.hsr_frame.specs.declared.node.About.TheVariants.{Own, Proxied}
use Rattle.hsr_redbox.specs.declared.call.BoxPort.{BoxPort}
use Rattle.hsr_redbox.specs.declared.call.LifeFault.{LifeFault}
use Rattle.hsr_redbox.specs.declared.wanted.Handling.{Handling}
use Rattle.hsr_tables.specs.Proxies.{is_known}
use Rattle.hsr_quadbox.specs.Machine as quadbox
use Rattle.hsr_quadbox.specs.Step as of_quadbox
use Rattle.hsr_quadbox.specs.declared.wanted.QuadPort.{QuadPort}
use Rattle.hsr_node.specs.Station as station
use Rattle.hsr_node.specs.Step.{box_judged, box_port, box_sent, danh_arrive, danh_judged, danh_sent, danh_step, life_fault, lived, node_step, quad_judged, quad_port, quadbox_arrive, quadbox_step, redbox_arrive, redbox_step, ring_port, spent, told, told_with, wrong}
use Rattle.hsr_node.specs.declared.event.Event.{Event}
use Rattle.hsr_node.specs.declared.event.Event.TheVariants.{Send, Supervise, Arrive, Age}
use Rattle.hsr_node.specs.declared.event.Outcome.{Outcome}
use Rattle.hsr_node.specs.declared.event.StepFault.{StepFault}
use Rattle.hsr_node.specs.declared.event.StepFault.TheVariants as refused
use Rattle.hsr_node.specs.declared.node.Node.{Node}
use Rattle.hsr_node.specs.declared.node.Node.TheVariants.{Danh, RedBox, QuadBox, Station}

-- a refusal leaves what was held
abbrev Leaves : {A E M : Type 0} → M → Result A E × M → Type 0
Leaves {E = E} machine s = (e : E) → s.0 ≡ Err e → s.1 ≡ machine

done-leaves : {A E M : Type 0} (machine after : M) (x : A) → Leaves {E = E} machine (Ok x, after)
done-leaves machine after x e h = absurd (cc)

told-leaves : {A E M : Type 0} (done : A → Outcome) (fault : E → StepFault) (machine after : M) (r : Result A E) → Leaves machine (r, after) → Leaves machine (told done fault r, after)
told-leaves done fault machine after (Ok x) h e p = absurd (cc)
told-leaves done fault machine after (Err f) h e p = h f refl

-- ---- each kind of node

danh-leaves : (capacity : ℕ) (machine : danh.Machine) (at : ℕ) (event : Event) → Leaves machine (danh_step capacity machine at event)
unfolding danh_step of_danh.send_step of_danh.life_step of_danh.arrive_step
danh-leaves capacity machine at (Send from dst vlan ethertype payload) = by_source (from == 0)
  where
    by_refusal : (refusal : Option SendFault) → Leaves machine (of_danh.send_or_refuse capacity machine (of_danh.now_at machine at) refusal)
    by_refusal (Some fault) = λ e h. refl
    by_refusal None = done-leaves machine (of_danh.send_or_refuse capacity machine (of_danh.now_at machine at) None).1 (record { seq = machine.next })

    by_source : (is_own : Bool) → Leaves machine (if is_own then told_with danh_sent refused.Send (of_danh.send_or_refuse capacity machine (of_danh.now_at machine at) (send_refusal machine.own machine.accepted dst ethertype (length payload))) else wrong machine)
    by_source true =
        let s = of_danh.send_or_refuse capacity machine (of_danh.now_at machine at) (send_refusal machine.own machine.accepted dst ethertype (length payload)) in
        told-leaves danh_sent refused.Send machine s.1 s.0 (by_refusal (send_refusal machine.own machine.accepted dst ethertype (length payload)))
    by_source false = λ e h. refl
danh-leaves capacity machine at (Supervise Own) =
    let s = of_danh.life_or_spent capacity machine (of_danh.now_at machine at) (machine.accepted == 2 ^ 62) in
    told-leaves lived spent machine s.1 s.0 (by_spent (machine.accepted == 2 ^ 62))
  where
    by_spent : (is_spent : Bool) → Leaves machine (of_danh.life_or_spent capacity machine (of_danh.now_at machine at) is_spent)
    by_spent true = λ e h. refl
    by_spent false = λ e h. absurd (cc)
danh-leaves capacity machine at (Supervise (Proxied mac)) = λ e h. refl
danh-leaves capacity machine at (Arrive port copy) = by_port (ring_port port)
  where
    by_spent : (x : RingPort) (is_spent : Bool) → Leaves machine (of_danh.arrive_or_spent capacity machine (of_danh.now_at machine at) x copy.octets is_spent)
    by_spent x true = λ e h. refl
    by_spent x false = λ e h. absurd (cc)

    by_port : (found : Option RingPort) → Leaves machine (danh_arrive capacity machine at found copy.octets)
    by_port None = λ e h. refl
    by_port (Some x) =
        let s = of_danh.arrive_or_spent capacity machine (of_danh.now_at machine at) x copy.octets (machine.accepted == 2 ^ 62) in
        told-leaves danh_judged spent machine s.1 s.0 (by_spent x (machine.accepted == 2 ^ 62))
danh-leaves capacity machine at Age = λ e h. absurd (cc)

redbox-leaves : (capacity : ℕ) (machine : redbox.Machine) (at : ℕ) (event : Event) → Leaves machine (redbox_step capacity machine at event)
unfolding redbox_step of_redbox.send_step of_redbox.life_step of_redbox.arrive_step
redbox-leaves capacity machine at (Send from dst vlan ethertype payload) = by_source (from == 0)
  where
    by_refusal : (h : Handling) (refusal : Option SendFault) → Leaves machine (of_redbox.send_or_refuse capacity machine (of_redbox.now_at machine at) h refusal)
    by_refusal h (Some fault) = λ e p. refl
    by_refusal h None = λ e p. absurd (cc)

    by_source : (is_own : Bool) → Leaves machine (if is_own then told_with box_sent refused.Send
        (of_redbox.send_or_refuse capacity machine (of_redbox.now_at machine at) (handling_send machine.own (is_known (of_redbox.now_at machine at) machine.proxies.heard) dst ethertype) (send_refusal machine.own machine.accepted dst ethertype (length payload)))
        else wrong machine)
    by_source true =
        let h = handling_send machine.own (is_known (of_redbox.now_at machine at) machine.proxies.heard) dst ethertype in
        let s = of_redbox.send_or_refuse capacity machine (of_redbox.now_at machine at) h (send_refusal machine.own machine.accepted dst ethertype (length payload)) in
        told-leaves box_sent refused.Send machine s.1 s.0 (by_refusal h (send_refusal machine.own machine.accepted dst ethertype (length payload)))
    by_source false = λ e h. refl
redbox-leaves capacity machine at (Supervise about) =
    let refusal = of_redbox.life_refusal (is_known (of_redbox.now_at machine at) machine.proxies.heard) machine.accepted about in
    let s = of_redbox.life_or_refuse capacity machine (of_redbox.now_at machine at) refusal in
    told-leaves lived life_fault machine s.1 s.0 (by_refusal refusal)
  where
    by_refusal : (refusal : Option LifeFault) → Leaves machine (of_redbox.life_or_refuse capacity machine (of_redbox.now_at machine at) refusal)
    by_refusal (Some fault) = λ e h. refl
    by_refusal None = λ e h. absurd (cc)
redbox-leaves capacity machine at (Arrive port copy) = by_port (box_port port)
  where
    by_spent : (y : BoxPort) (is_spent : Bool) → Leaves machine (of_redbox.arrive_or_spent capacity machine (of_redbox.now_at machine at) y copy.octets is_spent)
    by_spent y true = λ e h. refl
    by_spent y false = λ e h. absurd (cc)

    by_port : (found : Option BoxPort) → Leaves machine (redbox_arrive capacity machine at found copy.octets)
    by_port None = λ e h. refl
    by_port (Some y) =
        let s = of_redbox.arrive_or_spent capacity machine (of_redbox.now_at machine at) y copy.octets (machine.accepted == 2 ^ 62) in
        told-leaves box_judged spent machine s.1 s.0 (by_spent y (machine.accepted == 2 ^ 62))
redbox-leaves capacity machine at Age = λ e h. absurd (cc)

quadbox-leaves : (capacity : ℕ) (machine : quadbox.Machine) (at : ℕ) (event : Event) → Leaves machine (quadbox_step capacity machine at event)
unfolding quadbox_step of_quadbox.arrive_step
quadbox-leaves capacity machine at (Send from dst vlan ethertype payload) = λ e h. refl
quadbox-leaves capacity machine at (Supervise about) = λ e h. refl
quadbox-leaves capacity machine at (Arrive port copy) = by_port (quad_port port)
  where
    by_spent : (x : QuadPort) (is_spent : Bool) → Leaves machine (of_quadbox.arrive_or_spent capacity machine (of_quadbox.now_at machine at) x copy.octets is_spent)
    by_spent x true = λ e h. refl
    by_spent x false = λ e h. absurd (cc)

    by_port : (found : Option QuadPort) → Leaves machine (quadbox_arrive capacity machine at found copy.octets)
    by_port None = λ e h. refl
    by_port (Some x) =
        let s = of_quadbox.arrive_or_spent capacity machine (of_quadbox.now_at machine at) x copy.octets (machine.accepted == 2 ^ 62) in
        told-leaves quad_judged spent machine s.1 s.0 (by_spent x (machine.accepted == 2 ^ 62))
quadbox-leaves capacity machine at Age = λ e h. absurd (cc)

station-leaves : (machine : station.Machine) (at : ℕ) (event : Event) → Leaves machine (station.station_step machine at event)
unfolding station.after_send station.after_arrival
station-leaves machine at (Send from dst vlan ethertype payload) = by_source (slice_get machine.macs from)
  where
    by_refusal : (refusal : Option SendFault) → Leaves machine (station.send_or_refuse machine at refusal)
    by_refusal (Some fault) = λ e h. refl
    by_refusal None = λ e h. absurd (cc)

    by_source : (src : Option (List ℕ)) → Leaves machine (station.send_from machine at src dst ethertype (length payload))
    by_source None = λ e h. refl
    by_source (Some src) = by_refusal (send_refusal src machine.accepted dst ethertype (length payload))
station-leaves machine at (Supervise about) = λ e h. refl
station-leaves machine at (Arrive port copy) = by_port (port == 0)
  where
    by_spent : (is_spent : Bool) → Leaves machine (station.arrive_or_spent machine at copy.octets is_spent)
    by_spent true = λ e h. refl
    by_spent false = λ e h. absurd (cc)

    by_port : (is_there : Bool) → Leaves machine (if is_there then station.arrive_or_spent machine at copy.octets (machine.accepted == 2 ^ 62) else (Err refused.WrongEvent, machine))
    by_port true = by_spent (machine.accepted == 2 ^ 62)
    by_port false = λ e h. refl
station-leaves machine at Age = λ e h. absurd (cc)

pub refused-leaves : (capacity : ℕ) (n : Node capacity) (at : ℕ) (event : Event) → Leaves n (node_step capacity n at event)
refused-leaves capacity (Danh machine) at event e h = ap (λ m. Danh m) (danh-leaves capacity machine at event e h)
refused-leaves capacity (RedBox machine) at event e h = ap (λ m. RedBox m) (redbox-leaves capacity machine at event e h)
refused-leaves capacity (QuadBox machine) at event e h = ap (λ m. QuadBox m) (quadbox-leaves capacity machine at event e h)
refused-leaves capacity (Station machine) at event e h = ap (λ m. Station m) (station-leaves machine at event e h)
