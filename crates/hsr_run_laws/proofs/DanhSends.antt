-- What a DANH sends: each frame of its own by both ring ports, with its number.
use Rattle.std.proofs.Common.{◌≡◌, ◌⊎◌, ℕ, ◌==◌, ◌^◌, ◌%◌, Bool, true, false, ◌||◌, if◌then◌else◌, List, [], ◌∷◌, length, Option, Some, None, Ok, Err, refl, sym, ap, ◌∙◌, subst, inl, inr}
use Rattle.std.specs.Prelude.{nat_lt}
use Rattle.std.proofs.lemmas.Bool.{false≢true}
use Rattle.hsr_frame.specs.Address.{is_group, is_same_address}
use Rattle.hsr_frame.specs.Cases.{first_of}
use Rattle.hsr_frame.specs.Grammar.{Fields}
use Rattle.hsr_frame.specs.declared.fault.SendFault.{SendFault}
use Rattle.hsr_frame.specs.declared.fault.SendFault.TheVariants.{SelfAddressed, ReservedType, TooLong}
use Rattle.hsr_frame.specs.declared.fault.SendFault.TheVariants as refused
use Rattle.hsr_frame.specs.declared.node.Mode.{Mode}
use Rattle.hsr_tag.specs.Tag.{tag_of, tagged_spelling}
use Rattle.hsr_frame.specs.declared.node.About.{About}
use Rattle.hsr_frame.specs.declared.node.About.TheVariants.{Own, Proxied}
use Rattle.hsr_node.specs.Copies.{address_at, asked_frame, copy_octets, life_frame, passed_octets, ports_of, side_of, written}
use Rattle.hsr_node.specs.Flow.{sending_of, sent_by}
use Rattle.hsr_node.specs.declared.sending.Sending.{Sending}
use Rattle.hsr_node.specs.Record.{answer, has_port, lives, next_number, send_answer, sent_or_refused, steps}
use Rattle.hsr_node.specs.declared.entry.Entry.{Entry}
use Rattle.hsr_node.specs.declared.event.Event.{Event}
use Rattle.hsr_node.specs.declared.event.Event.TheVariants.{Send, Supervise, Age}
use Rattle.hsr_node.specs.declared.event.Outcome.{Outcome}
use Rattle.hsr_node.specs.declared.event.Outcome.TheVariants.{Sent, Life}
use Rattle.hsr_node.specs.declared.place.Place.TheVariants.{Danh}
use Rattle.hsr_run_laws.proofs.Records.{asked_source}
use Rattle.hsr_run_laws.proofs.Same.{other_address}
use Rattle.hsr_run_laws.proofs.Wanted.{no_ring_port}
use Rattle.hsr_run_laws.proofs.Danh.{RingExit, by_a, by_b, danh, exit_port}

-- an own frame leaves by both ring ports with its number, and isn't addressed to the node itself
pub record IsOwnSend (mac : List ℕ) (mode : Mode) (event : Event) (outcome : Outcome) (s : Sending) : Type 0 where
  pub seq : ℕ
  pub number : s.seq ≡ Some seq
  pub source : s.frame.src ≡ mac
  pub elsewhere : is_group s.frame.dst ≡ false → s.frame.dst ≡ mac → ⊥
  pub octets : (r : RingExit) → copy_octets (Danh mac mode) event outcome (exit_port r) ≡ Some (tagged_spelling (tag_of s.frame (exit_port r) seq))

-- an entry of an own frame sends nothing, or sends so
abbrev pub SendsOrNot : List ℕ → Mode → Event → Outcome → Type 0
SendsOrNot mac mode event outcome =
    ((sent_by (Danh mac mode) event outcome ≡ None) × ((r : RingExit) → copy_octets (Danh mac mode) event outcome (exit_port r) ≡ None))
    ⊎ ((s : Sending) × (sent_by (Danh mac mode) event outcome ≡ Some s) × IsOwnSend mac mode event outcome s)

send_octets : (mac : List ℕ) (mode : Mode) (from : ℕ) (dst : List ℕ) (vlan : Option ℕ) (ethertype : ℕ) (payload : List ℕ) (seq : ℕ) (o : Option Fields) → asked_frame (address_at (Danh mac mode) from) dst vlan ethertype payload ≡ o → (r : RingExit) →
    copy_octets (Danh mac mode) (Send from dst vlan ethertype payload) (Sent (Some seq) (true ∷ true ∷ false ∷ false ∷ [])) (exit_port r) ≡ written (side_of (Danh mac mode) (exit_port r)) (Some seq) o
unfolding copy_octets passed_octets
send_octets mac mode from dst vlan ethertype payload seq o is by_a = ap (written (side_of (Danh mac mode) 0) (Some seq)) is
send_octets mac mode from dst vlan ethertype payload seq o is by_b = ap (written (side_of (Danh mac mode) 1) (Some seq)) is

life_out : (mac : List ℕ) (mode : Mode) (about : About) (seq life : ℕ) (o : Option Fields) → life_frame (Some mac) about life ≡ o → (r : RingExit) →
    copy_octets (Danh mac mode) (Supervise about) (Life seq life (true ∷ true ∷ false ∷ false ∷ [])) (exit_port r) ≡ written (side_of (Danh mac mode) (exit_port r)) (Some seq) o
unfolding copy_octets passed_octets
life_out mac mode about seq life o is by_a = ap (written (side_of (Danh mac mode) 0) (Some seq)) is
life_out mac mode about seq life o is by_b = ap (written (side_of (Danh mac mode) 1) (Some seq)) is

pub written_none : (mac : List ℕ) (mode : Mode) (seq : ℕ) (r : RingExit) → written (side_of (Danh mac mode) (exit_port r)) (Some seq) None ≡ None
written_none mac mode seq by_a = refl
written_none mac mode seq by_b = refl

pub written_some : (mac : List ℕ) (mode : Mode) (seq : ℕ) (f : Fields) (r : RingExit) → written (side_of (Danh mac mode) (exit_port r)) (Some seq) (Some f) ≡ Some (tagged_spelling (tag_of f (exit_port r) seq))
written_some mac mode seq f by_a = refl
written_some mac mode seq f by_b = refl

pub nothing_aged : (mac : List ℕ) (mode : Mode) (event : Event) (outcome : Outcome) (port : ℕ) → event ≡ Age → copy_octets (Danh mac mode) event outcome port ≡ None
unfolding copy_octets passed_octets
nothing_aged mac mode event outcome port e = ap (λ ev. copy_octets (Danh mac mode) ev outcome port) e ∙ shut (has_port (ports_of outcome) port)
  where
    shut : (t : Bool) → (if t then (let none : Option (List ℕ) = None in none) else None) ≡ None
    shut true = refl
    shut false = refl

pub danh_sends : (capacity number : ℕ) (mac : List ℕ) (mode : Mode) (past : List Entry) (at from : ℕ) (dst : List ℕ) (vlan : Option ℕ) (ethertype : ℕ) (payload : List ℕ) (outcome : Outcome) →
    answer capacity (danh number mac mode) past at (Send from dst vlan ethertype payload) ≡ Ok outcome → SendsOrNot mac mode (Send from dst vlan ethertype payload) outcome
danh_sends capacity number mac mode past at from dst vlan ethertype payload outcome ok = by_from (from == 0) refl ok
  where
    event : Event
    event = Send from dst vlan ethertype payload

    address : Bool → Option (List ℕ)
    address t = if t then Some mac else None

    by_frame : (o : Option Fields) → asked_frame (address_at (Danh mac mode) from) dst vlan ethertype payload ≡ o → (seq : ℕ) → is_same_address dst mac ≡ false → SendsOrNot mac mode (Send from dst vlan ethertype payload) (Sent (Some seq) (true ∷ true ∷ false ∷ false ∷ []))
    by_frame None is seq other =
        inl (ap (sending_of (Some seq)) is, λ r. send_octets mac mode from dst vlan ethertype payload seq None is r ∙ written_none mac mode seq r)
    by_frame (Some f) is seq other =
        let two = asked_source (address_at (Danh mac mode) from) dst vlan ethertype payload f is in
        inr (
          record { frame = f; seq = Some seq },
          ap (sending_of (Some seq)) is,
          record {
            seq = seq;
            number = refl;
            source = asked_here f two.0;
            elsewhere = λ single same. other_address dst mac other (sym two.1 ∙ same);
            octets = λ r. send_octets mac mode from dst vlan ethertype payload seq (Some f) is r ∙ written_some mac mode seq f r;
          },
        )
      where
        asked_here : (f : Fields) → address_at (Danh mac mode) from ≡ Some f.src → f.src ≡ mac
        asked_here f e = by_test (from == 0) e
          where
            by_test : (t : Bool) → (if t then Some mac else None) ≡ Some f.src → f.src ≡ mac
            by_test true e = cc
            by_test false e = absurd cc

    accepted : (same : Bool) → is_same_address dst mac ≡ same → (rest : List (Bool × Option SendFault)) → sent_or_refused (first_of ((same, Some SelfAddressed) ∷ rest) None) (Sent (Some (next_number past)) (true ∷ true ∷ false ∷ false ∷ [])) ≡ Ok outcome →
        (Sent (Some (next_number past)) (true ∷ true ∷ false ∷ false ∷ []) ≡ outcome) × (is_same_address dst mac ≡ false)
    accepted true is rest e = absurd cc
    accepted false is rest e = (by_fault (first_of rest None) e, is)
      where
        by_fault : (o : Option SendFault) → sent_or_refused o (Sent (Some (next_number past)) (true ∷ true ∷ false ∷ false ∷ [])) ≡ Ok outcome → Sent (Some (next_number past)) (true ∷ true ∷ false ∷ false ∷ []) ≡ outcome
        by_fault None e = cc
        by_fault (Some fault) e = absurd cc

    by_from : (t : Bool) → (from == 0) ≡ t → send_answer capacity (danh number mac mode) past at (if t then Some mac else None) dst ethertype (length payload) ≡ Ok outcome → SendsOrNot mac mode (Send from dst vlan ethertype payload) outcome
    by_from false is e = absurd cc
    by_from true is e =
        let two = accepted (is_same_address dst mac) refl
        ((ethertype == 0x892F || ethertype == 0x8100, Some ReservedType) ∷ (steps past == 2 ^ 62, Some refused.Spent) ∷ (nat_lt 1500 (length payload), Some TooLong) ∷ []) e in
        let P : Outcome → Type 0 = λ o. SendsOrNot mac mode (Send from dst vlan ethertype payload) o in
        subst P two.0 (by_frame (asked_frame (address_at (Danh mac mode) from) dst vlan ethertype payload) refl (next_number past) two.1)

pub danh_lives : (capacity number : ℕ) (mac : List ℕ) (mode : Mode) (past : List Entry) (at : ℕ) (about : About) (outcome : Outcome) →
    answer capacity (danh number mac mode) past at (Supervise about) ≡ Ok outcome → SendsOrNot mac mode (Supervise about) outcome
danh_lives capacity number mac mode past at (Proxied other) outcome ok = absurd cc
danh_lives capacity number mac mode past at Own outcome ok =
    let P : Outcome → Type 0 = λ o. SendsOrNot mac mode (Supervise Own) o in
    subst P (by_spent (steps past == 2 ^ 62) ok) (by_frame (life_frame (Some mac) Own (lives past % 65536)) refl)
  where
    answered : Outcome
    answered = Life (next_number past) (lives past % 65536) (true ∷ true ∷ false ∷ false ∷ [])

    by_spent : (t : Bool) → (if t then Err Rattle.hsr_node.specs.declared.event.StepFault.TheVariants.Spent else Ok (Life (next_number past) (lives past % 65536) (true ∷ true ∷ false ∷ false ∷ []))) ≡ Ok outcome →
        Life (next_number past) (lives past % 65536) (true ∷ true ∷ false ∷ false ∷ []) ≡ outcome
    by_spent true e = absurd cc
    by_spent false e = cc

    by_frame : (o : Option Fields) → life_frame (Some mac) Own (lives past % 65536) ≡ o → SendsOrNot mac mode (Supervise Own) (Life (next_number past) (lives past % 65536) (true ∷ true ∷ false ∷ false ∷ []))
    by_frame None is = inl (ap (sending_of (Some (next_number past))) is, λ r. life_out mac mode Own (next_number past) (lives past % 65536) None is r ∙ written_none mac mode (next_number past) r)
    by_frame (Some f) is =
        inr (
          record { frame = f; seq = Some (next_number past) },
          ap (sending_of (Some (next_number past))) is,
          record {
            seq = next_number past;
            number = refl;
            source = Rattle.hsr_run_laws.proofs.Wanted.life_source mac Own (lives past % 65536) f is;
            elsewhere = λ single same. false≢true (sym single ∙ ap is_group (Rattle.hsr_run_laws.proofs.Wanted.life_group mac Own (lives past % 65536) f is));
            octets = λ r. life_out mac mode Own (next_number past) (lives past % 65536) (Some f) is r ∙ written_some mac mode (next_number past) f r;
          },
        )
