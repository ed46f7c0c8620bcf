-- What a DANH does: what it takes, what it forwards and what it sends.
use Rattle.std.proofs.Common.{◌≡◌, ◌⊎◌, ℕ, Bool, true, false, if◌then◌else◌, List, length, Option, Some, None, Ok, Err, refl, sym, ap, ◌∙◌, subst, inl, inr, ⊎_elim, zero, suc, arith}
use Rattle.std.specs.Prelude.{option_map}
use Rattle.std.proofs.lemmas.Bool.{false≢true}
use Rattle.hsr_frame.specs.Egress.{Egress, up, a, b, c, d, to, in_mode}
use Rattle.hsr_frame.specs.declared.node.Cause.{Cause}
use Rattle.hsr_frame.specs.declared.node.Mode.{Mode}
use Rattle.hsr_frame.specs.declared.node.Mode.TheVariants.{H, N, U}
use Rattle.hsr_frame.specs.declared.node.RingPort.{RingPort}
use Rattle.hsr_tag.specs.Tag.{TaggedFields}
use Rattle.hsr_tag.specs.declared.seen.Seen.TheVariants.{Plain, Tagged}
use Rattle.hsr_danh.specs.Wanted as of_danh
use Rattle.hsr_redbox.specs.Wanted.{unnumbered}
use Rattle.hsr_node.specs.Copies.{as_came, copy_octets, passed_octets, ports_of}
use Rattle.hsr_node.specs.Flow.{pass_of, wanted_at, wants}
use Rattle.hsr_node.specs.Record.{Owner, answer, has_port, leaves, passing, probe_handled, life_answer, lived_or_refused, lives, next_number, send_answer, sent_as, sent_or_refused, steps}
use Rattle.hsr_node.specs.Step.{ring_port}
use Rattle.hsr_node.specs.declared.entry.Entry.{Entry}
use Rattle.hsr_node.specs.declared.event.Carried.{Carried}
use Rattle.hsr_node.specs.declared.event.Event.{Event}
use Rattle.hsr_node.specs.declared.event.Event.TheVariants.{Arrive}
use Rattle.hsr_node.specs.declared.event.Outcome.{Outcome}
use Rattle.hsr_node.specs.declared.event.Outcome.TheVariants.{Sent, Life, Judged, Aged}
use Rattle.hsr_node.specs.declared.place.Place.{Place}
use Rattle.hsr_node.specs.declared.place.Place.TheVariants.{Danh, RedBox, QuadBox, Station}
use Rattle.hsr_run_laws.specs.Run.{Run, place_of}
use Rattle.hsr_run_laws.proofs.Views.{Came, came, judged}
use Rattle.hsr_run_laws.proofs.Wanted.{no_ring_port}

abbrev pub danh : ℕ → List ℕ → Mode → Owner
danh number mac mode = record { number = number; place = Danh mac mode }

-- the mode of a node, and that of a node of a run
abbrev pub mode_of : Place → Mode
mode_of (Danh mac mode) = mode
mode_of (RedBox mac mode) = mode
mode_of QuadBox = N
mode_of (Station macs) = N

abbrev pub mode_at : Run → ℕ → Mode
mode_at run k = mode_of (place_of run k)

-- it forwards round the ring
abbrev pub Forwards : Mode → Type 0
Forwards mode = (mode ≡ H) ⊎ (mode ≡ U)

abbrev pub IsTagged : Carried → Type 0
IsTagged copy = (t : TaggedFields) × (came copy ≡ Ok (Tagged t))

-- ---- what comes

pub danh_tagged : (mac : List ℕ) (mode : Mode) (known : List ℕ → Bool) (port : ℕ) (seen : Came) (e : Egress) → wants (Danh mac mode) known port seen e ≡ true → (t : TaggedFields) × (seen ≡ Ok (Tagged t))
danh_tagged mac mode known port (Ok (Tagged t)) e h = (t, refl)
danh_tagged mac mode known port (Ok (Plain frame)) e h = absurd (false≢true (sym (by_port (ring_port port) e) ∙ h))
  where
    by_port : (o : Option RingPort) (e : Egress) → wanted_at (option_map (λ x. unnumbered (of_danh.wanted mac mode x (Ok (Plain frame)))) o) e ≡ false
    by_port None e = refl
    by_port (Some x) up = refl
    by_port (Some x) a = refl
    by_port (Some x) b = refl
    by_port (Some x) c = refl
    by_port (Some x) d = refl
danh_tagged mac mode known port (Err fault) e h = absurd (false≢true (sym (by_port (ring_port port) e) ∙ h))
  where
    by_port : (o : Option RingPort) (e : Egress) → wanted_at (option_map (λ x. unnumbered (of_danh.wanted mac mode x (Err fault))) o) e ≡ false
    by_port None e = refl
    by_port (Some x) up = refl
    by_port (Some x) a = refl
    by_port (Some x) b = refl
    by_port (Some x) c = refl
    by_port (Some x) d = refl

-- it has the ports A and B
pub danh_port : (capacity number : ℕ) (mac : List ℕ) (mode : Mode) (past : List Entry) (at port : ℕ) (copy : Carried) (outcome : Outcome) →
    answer capacity (danh number mac mode) past at (Arrive port copy) ≡ Ok outcome → (port ≡ 0) ⊎ (port ≡ 1)
danh_port capacity number mac mode past at zero copy outcome ok = inl refl
danh_port capacity number mac mode past at (suc zero) copy outcome ok = inr refl
danh_port capacity number mac mode past at (suc (suc n)) copy outcome ok =
    let j = judged capacity (danh number mac mode) past at (suc (suc n)) copy outcome ok in
    let H' : Option RingPort → Type 0 = λ o. option_map (λ x. unnumbered (of_danh.wanted mac mode x (came copy))) o ≡ Some j.h in
    let none = subst H' (no_ring_port (suc (suc n)) (omega arith)) j.is in
    absurd cc

-- ---- what is forwarded

pub data RingExit : Type 0 where
  by_a : RingExit
  by_b : RingExit

abbrev pub exit_port : RingExit → ℕ
exit_port by_a = 0
exit_port by_b = 1

abbrev pub egress : RingExit → Egress
egress by_a = a
egress by_b = b

leaves_by : (outcome : Outcome) (x : RingExit) → has_port (ports_of outcome) (exit_port x) ≡ leaves outcome (egress x)
leaves_by (Sent seq ports) by_a = refl
leaves_by (Sent seq ports) by_b = refl
leaves_by (Life seq life ports) by_a = refl
leaves_by (Life seq life ports) by_b = refl
leaves_by (Judged up_too ports seq why) by_a = refl
leaves_by (Judged up_too ports seq why) by_b = refl
leaves_by Aged by_a = refl
leaves_by Aged by_b = refl

forwards_octets : (mac : List ℕ) (mode : Mode) (port : ℕ) (copy : Carried) (up_too : Bool) (out_ports : List Bool) (seq : Option ℕ) (why : Cause) (x : RingExit) → (port ≡ 0) ⊎ (port ≡ 1) →
    copy_octets (Danh mac mode) (Arrive port copy) (Judged up_too out_ports seq why) (exit_port x) ≡ (if has_port out_ports (exit_port x) then as_came copy.octets else None)
unfolding copy_octets passed_octets
forwards_octets mac mode port copy up_too out_ports seq why x port_is =
    let P : ℕ → Type 0 = λ n. copy_octets (Danh mac mode) (Arrive n copy) (Judged up_too out_ports seq why) (exit_port x) ≡ (if has_port out_ports (exit_port x) then as_came copy.octets else None) in
    ⊎_elim (λ e. subst P (sym e) (at_a x)) (λ e. subst P (sym e) (at_b x)) port_is
  where
    at_a : (x : RingExit) → copy_octets (Danh mac mode) (Arrive 0 copy) (Judged up_too out_ports seq why) (exit_port x) ≡ (if has_port out_ports (exit_port x) then as_came copy.octets else None)
    at_a by_a = refl
    at_a by_b = refl

    at_b : (x : RingExit) → copy_octets (Danh mac mode) (Arrive 1 copy) (Judged up_too out_ports seq why) (exit_port x) ≡ (if has_port out_ports (exit_port x) then as_came copy.octets else None)
    at_b by_a = refl
    at_b by_b = refl

-- what comes and leaves by a ring port leaves as it came
pub danh_pass : (capacity number : ℕ) (mac : List ℕ) (mode : Mode) (x : Entry) (past : List Entry) (at port : ℕ) (copy : Carried) (r : RingExit) → x.event ≡ Arrive port copy →
    answer capacity (danh number mac mode) past at (Arrive port copy) ≡ Ok x.outcome →
    pass_of (danh number mac mode) (exit_port r) x past ≡ option_map (λ octets. record { probe = copy.probe; octets = octets }) (if leaves x.outcome (egress r) then as_came copy.octets else None)
danh_pass capacity number mac mode x past at port copy r is ok =
    let j = judged capacity (danh number mac mode) past at port copy x.outcome ok in
    let probe_at : Event → Option Rattle.hsr_node.specs.declared.event.Probe.Probe = λ ev. probe_handled (record { node = number; place = length past }) ev in
    let E : Event → Type 0 = λ ev. option_map (λ octets. let c : Carried = record { probe = probe_handled (record { node = number; place = length past }) ev; octets = octets } in c) (copy_octets (Danh mac mode) ev x.outcome (exit_port r))
    ≡ option_map (λ octets. record { probe = copy.probe; octets = octets }) (if leaves x.outcome (egress r) then as_came copy.octets else None) in
    subst E (sym is) (ap (option_map (λ octets. let c : Carried = record { probe = copy.probe; octets = octets } in c)) (octets j.h.wants (passing (Rattle.hsr_node.specs.Record.remembers capacity (danh number mac mode) past at) j.h.wants.exits (came copy)) (Rattle.hsr_redbox.specs.Step.number_of j.h.source (next_number past)) j.out))
  where
    octets : (w : Rattle.hsr_frame.specs.declared.egress.Wants.Wants) (p : Rattle.hsr_frame.specs.declared.egress.Exits.Exits) (seq : Option ℕ) → x.outcome ≡ Judged p.up (Rattle.hsr_node.specs.Record.ports p) seq (Rattle.hsr_frame.specs.Egress.cause_of w p) →
        copy_octets (Danh mac mode) (Arrive port copy) x.outcome (exit_port r) ≡ (if leaves x.outcome (egress r) then as_came copy.octets else None)
    octets w p seq out =
        let O : Outcome → Type 0 = λ o. copy_octets (Danh mac mode) (Arrive port copy) o (exit_port r) ≡ (if leaves o (egress r) then as_came copy.octets else None) in
        let o : Outcome = Judged p.up (Rattle.hsr_node.specs.Record.ports p) seq (Rattle.hsr_frame.specs.Egress.cause_of w p) in
        let L = leaves_by (Judged p.up (Rattle.hsr_node.specs.Record.ports p) seq (Rattle.hsr_frame.specs.Egress.cause_of w p)) r in
        subst O (sym out)
        (forwards_octets mac mode port copy p.up (Rattle.hsr_node.specs.Record.ports p) seq (Rattle.hsr_frame.specs.Egress.cause_of w p) r (danh_port capacity number mac mode past at port copy x.outcome ok)
        ∙ ap (λ b. if b then as_came copy.octets else None) L)
