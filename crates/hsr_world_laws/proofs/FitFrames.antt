-- Sends of fit nodes by fit steps are frames that octets can spell.
use Rattle.std.proofs.Common.{◌≡◌, ℕ, ◌<◌, ◌==◌, ◌^◌, nat_lt, max, Bool, true, false, List, [], ◌∷◌, ◌++◌, set, get_or, length, slice_get, Option, Some, None, Result, Ok, Err, refl, sym, ap, ◌∙◌, subst, arith, eq-eqb, zero, suc}
use Rattle.std.specs.Prelude.{if◌then◌else◌, ◌||◌, IfSome, ◌%◌, slice_index}
use Rattle.std.specs.List.{All, AllByRecursion}
use Rattle.std.proofs.lemmas.Bool.{false≢true, ltb-false}
use Rattle.std.proofs.lemmas.List.Elements.{recursion_from_All}
use Rattle.hsr_frame.specs.Address.{is_group, supervision_address}
use Rattle.hsr_frame.specs.Grammar.{Fields}
use Rattle.hsr_frame.specs.declared.node.About.{About}
use Rattle.hsr_supervision.specs.Payload as payload
use Rattle.hsr_tag.specs.Tag.{IsPlain}
use Rattle.hsr_node.specs.Copies.{address_at, asked_frame, frame_of, life_frame, life_said, ring_address}
use Rattle.hsr_node.specs.Flow.{send_at, sent_by}
use Rattle.hsr_node.specs.declared.sending.Sending.{Sending}
use Rattle.hsr_node.specs.Record.{Each, answer, now}
use Rattle.hsr_node.specs.declared.entry.Entry.{Entry}
use Rattle.hsr_node.specs.declared.event.Carried.{Carried}
use Rattle.hsr_node.specs.declared.event.Event.{Event}
use Rattle.hsr_node.specs.declared.event.Event.TheVariants as event
use Rattle.hsr_node.specs.declared.event.Outcome.{Outcome}
use Rattle.hsr_node.specs.declared.event.Outcome.TheVariants as outcome
use Rattle.hsr_node.specs.declared.event.StepFault.{StepFault}
use Rattle.hsr_node.specs.declared.place.Place.{Place}
use Rattle.hsr_node.specs.declared.place.Place.TheVariants.{Danh, RedBox, QuadBox, Station}
use Rattle.hsr_run_laws.specs.Run.{owner_in, record_in}
use Rattle.hsr_topology.specs.declared.end.End.{End}
use Rattle.hsr_run_laws.proofs.Records.{sending_frame}
use Rattle.hsr_world_laws.specs.Closing.{AreFrames}
use Rattle.hsr_world_laws.specs.Fit.{FitsEvent, FitsPlace, FitsStep, IsFit}
use Rattle.hsr_world_laws.specs.Fitting.{AlwaysFrames, FitFrames}
use Rattle.hsr_world_laws.specs.Spans.{held_in, lane_of, lanes_of, spot_from}
use Rattle.hsr_world_laws.specs.Reached.{IsReached}
use Rattle.hsr_world_laws.specs.World.{World, and_added, cleared, entered, has_link, has_node, has_port, injected_at, judged_at, span_at, new_world, or_same, owner_at, planned, put_at, record_at, run, take_to, tried}
use Rattle.hsr_topology.specs.Workers.{port_worker}
use Rattle.hsr_world_steps.specs.declared.step.Step.{Step}
use Rattle.hsr_world_steps.specs.declared.step.Step.TheVariants as step
use Rattle.hsr_world_steps.specs.declared.step.WorldFault.{WorldFault}
use Rattle.hsr_world_laws.proofs.First.{no_entries}
use Rattle.hsr_world_laws.proofs.Keeps.{entry_of}
use Rattle.hsr_world_laws.proofs.Linked.{same_injected, same_put, same_take}
use Rattle.hsr_world_laws.proofs.Wires.{run_keeps}

-- ---- one frame

plain_of : (f g : Fields) → length f.dst ≡ 6 → length f.src ≡ 6 → IfSome f.vlan (λ control. control < 2 ^ 16) → f.kind < 2 ^ 16 → frame_of f ≡ Some g → IsPlain g
plain_of f g dst src vlan ethertype h = by_test (is_group f.src) (f.kind == 0x892F) (f.kind == 0x8100) (nat_lt 1500 (length f.rest)) refl refl refl refl h
  where
    by_test : (p q r s : Bool) → is_group f.src ≡ p → (f.kind == 0x892F) ≡ q → (f.kind == 0x8100) ≡ r → nat_lt 1500 (length f.rest) ≡ s → (if p || q || r || s then None else Some f) ≡ Some g → IsPlain g
    by_test true q r s a b c d h = absurd cc
    by_test false true r s a b c d h = absurd cc
    by_test false false true s a b c d h = absurd cc
    by_test false false false true a b c d h = absurd cc
    by_test false false false false a b c d h =
        let same : f ≡ g = cc in
        let short = ltb-false 1500 (length f.rest) d in
        subst IsPlain same (record {
          raw = record {
            dst = dst;
            src = src;
            vlan = vlan;
            kind = ethertype;
            rest = omega (arith, short);
            station = λ group. false≢true (sym a ∙ eq-eqb (slice_index f.src 0 % 2) 1 group);
            one_tag = λ e. false≢true (sym c ∙ eq-eqb f.kind 0x8100 e);
          };
          no_tag = λ e. false≢true (sym b ∙ eq-eqb f.kind 0x892F e);
          payload = omega (arith, short);
        })

-- ---- one send

all_at : {X : Type 0} (P : X → Type 0) (xs : List X) (i : ℕ) (x : X) → AllByRecursion P xs → slice_get xs i ≡ Some x → P x
all_at P [] i x all h = absurd cc
all_at P (y ∷ xs) zero x all h = let same : y ≡ x = cc in subst P same all.0
all_at P (y ∷ xs) (suc i) x all h = all_at P xs i x all.1 h

own_six : (place : Place) (from : ℕ) (src : List ℕ) → FitsPlace place → address_at place from ≡ Some src → length src ≡ 6
own_six (Danh mac mode) from src fit h = by_case (from == 0) h
  where
    by_case : (b : Bool) → (if b then Some mac else None) ≡ Some src → length src ≡ 6
    by_case true h = let same : mac ≡ src = cc in ap length (sym same) ∙ fit
    by_case false h = absurd cc
own_six (RedBox mac mode) from src fit h = by_case (from == 0) h
  where
    by_case : (b : Bool) → (if b then Some mac else None) ≡ Some src → length src ≡ 6
    by_case true h = let same : mac ≡ src = cc in ap length (sym same) ∙ fit
    by_case false h = absurd cc
own_six QuadBox from src fit h = absurd cc
own_six (Station macs) from src fit h = let six : List ℕ → Type 0 = λ mac. length mac ≡ 6 in all_at six macs.items from src (recursion_from_All six macs.items fit) h

ring_six : (place : Place) (src : List ℕ) → FitsPlace place → ring_address place ≡ Some src → length src ≡ 6
ring_six (Danh mac mode) src fit h = let same : mac ≡ src = cc in ap length (sym same) ∙ fit
ring_six (RedBox mac mode) src fit h = let same : mac ≡ src = cc in ap length (sym same) ∙ fit
ring_six QuadBox src fit h = absurd cc
ring_six (Station macs) src fit h = absurd cc

asked_plain : (place : Place) (from : ℕ) (dst : List ℕ) (vlan : Option ℕ) (ethertype : ℕ) (payload : List ℕ) (f : Fields) → FitsPlace place → IsFit dst vlan ethertype →
    asked_frame (address_at place from) dst vlan ethertype payload ≡ Some f → IsPlain f
asked_plain place from dst vlan ethertype payload f fit w h = by_address (address_at place from) refl h
  where
    by_address : (o : Option (List ℕ)) → address_at place from ≡ o → asked_frame o dst vlan ethertype payload ≡ Some f → IsPlain f
    by_address None e h = absurd cc
    by_address (Some src) e h = plain_of (record { dst = dst; src = src; vlan = vlan; kind = ethertype; rest = payload }) f w.address (own_six place from src fit e) w.tag w.type h

life_plain : (place : Place) (about : About) (life : ℕ) (f : Fields) → FitsPlace place → life_frame (ring_address place) about life ≡ Some f → IsPlain f
life_plain place about life f fit h = by_address (ring_address place) refl h
  where
    by_address : (o : Option (List ℕ)) → ring_address place ≡ o → life_frame o about life ≡ Some f → IsPlain f
    by_address None e h = absurd cc
    by_address (Some own) e h =
        plain_of (record { dst = supervision_address; src = own; vlan = None; kind = 0x88FB; rest = payload.spelling (life_said own about life) }) f refl (ring_six place own fit e) tt (omega arith) h

sent_plain : (place : Place) (e : Event) (o : Outcome) (s : Sending) → FitsPlace place → FitsEvent e → sent_by place e o ≡ Some s → IsPlain s.frame
sent_plain place (event.Send from dst vlan ethertype payload) (outcome.Sent seq ports) s fit w h =
    asked_plain place from dst vlan ethertype payload s.frame fit w (sending_frame seq (asked_frame (address_at place from) dst vlan ethertype payload) s h).0
sent_plain place (event.Supervise about) (outcome.Life seq life ports) s fit w h = life_plain place about life s.frame fit (sending_frame (Some seq) (life_frame (ring_address place) about life) s h).0
sent_plain place (event.Send from dst vlan ethertype payload) (outcome.Life seq life ports) s fit w h = absurd cc
sent_plain place (event.Send from dst vlan ethertype payload) (outcome.Judged up_too ports seq cause) s fit w h = absurd cc
sent_plain place (event.Send from dst vlan ethertype payload) outcome.Aged s fit w h = absurd cc
sent_plain place (event.Supervise about) (outcome.Sent seq ports) s fit w h = absurd cc
sent_plain place (event.Supervise about) (outcome.Judged up_too ports seq cause) s fit w h = absurd cc
sent_plain place (event.Supervise about) outcome.Aged s fit w h = absurd cc
sent_plain place (event.Arrive port copy) o s fit w h = absurd cc
sent_plain place event.Age o s fit w h = absurd cc

-- ---- records

-- the events of a record are fit
abbrev AreFit : List Entry → Type 0
AreFit past = Each (λ x below. FitsEvent x.event) past

record_plain : (place : Place) (k : ℕ) (h : List Entry) (s : Sending) → FitsPlace place → AreFit h → send_at place k h ≡ Some s → IsPlain s.frame
record_plain place k [] s fit all sent = absurd cc
record_plain place k (x ∷ past) s fit all sent = by_case (k == length past) sent (λ e. record_plain place k past s fit all.1 e)
  where
    by_case : (b : Bool) → (if b then sent_by place x.event x.outcome else send_at place k past) ≡ Some s → (send_at place k past ≡ Some s → IsPlain s.frame) → IsPlain s.frame
    by_case true e rest = sent_plain place x.event x.outcome s fit all.0 e
    by_case false e rest = rest e

place_fits : (places : List Place) (n : ℕ) → AllByRecursion FitsPlace places → FitsPlace (get_or places n QuadBox)
place_fits [] n all = tt
place_fits (place ∷ places) zero all = all.0
place_fits (place ∷ places) (suc n) all = place_fits places n all.1

pub fit_frames : FitFrames
fit_frames places records fit all send s sent =
    record_plain (owner_in places send.node).place send.place (record_in records send.node) s (place_fits places send.node (recursion_from_All FitsPlace places fit)) (all send.node) sent

-- ---- steps

abbrev Kept : World → World → Type 0
Kept v w = ((n : ℕ) → AreFit (record_in v.records n)) → (n : ℕ) → AreFit (record_in w.records n)

fit_added : (records : List (List Entry)) (n : ℕ) (x : Entry) → FitsEvent x.event → ((m : ℕ) → AreFit (record_in records m)) → (m : ℕ) → AreFit (record_in (set records n (x ∷ record_in records n)) m)
fit_added records n x fit all m = by_list records n m (record_in records n) (all n) all
  where
    by_list : (records : List (List Entry)) (n m : ℕ) (past : List Entry) → AreFit past → ((k : ℕ) → AreFit (record_in records k)) → AreFit (record_in (set records n (x ∷ past)) m)
    by_list [] n m past fits all = tt
    by_list (r ∷ records) zero zero past fits all = (fit, fits)
    by_list (r ∷ records) zero (suc m) past fits all = all (suc m)
    by_list (r ∷ records) (suc n) zero past fits all = all zero
    by_list (r ∷ records) (suc n) (suc m) past fits all = by_list records n m past fits (λ k. all (suc k))

fit_entered : (capacity : ℕ) (v w : World) (worker n : ℕ) (e : Event) → FitsEvent e → v.records ≡ w.records → Kept v (or_same v (entered capacity w worker n e))
fit_entered capacity v w worker n e fit same all = by_case (answer capacity (owner_at w n) (record_at w n) (max (now (record_at w n)) w.moment) e)
  where
    by_case : (r : Result Outcome StepFault) → (m : ℕ) → AreFit (record_in (or_same v (and_added w worker n e r)).records m)
    by_case (Err fault) = all
    by_case (Ok o) = fit_added w.records n (entry_of w worker e o) fit (subst (λ (records : List (List Entry)). (m : ℕ) → AreFit (record_in records m)) same all)

fit_judged : (capacity : ℕ) (w : World) (end : End) (held : Option Carried) → Kept w (or_same w (judged_at capacity w end held))
fit_judged capacity w end None all = all
fit_judged capacity w end (Some c) all = fit_entered capacity w (cleared w end) (port_worker end) end.node (event.Arrive end.port c) tt refl all

fit_same : (w after : World) → after.records ≡ w.records → Kept w after
fit_same w after e all = subst (λ (records : List (List Entry)). (m : ℕ) → AreFit (record_in records m)) (sym e) all

met : (w : World) (b : Bool) (r : Result World WorldFault) (f : WorldFault) → Kept w (or_same w r) → Kept w (or_same w (if b then r else Err f))
met w true r f k all = k all
met w false r f k all = all

fit_step : (capacity : ℕ) (w : World) (s : Step) → FitsStep s → Kept w (or_same w (tried capacity w s))
unfolding tried
fit_step capacity w (step.Clock at) fit = λ all. all
fit_step capacity w (step.Send n from dst vlan ethertype payload) fit =
    met w (has_node w n) _ _ (fit_entered capacity w (planned w n (event.Send from dst vlan ethertype payload)) 0 n (event.Send from dst vlan ethertype payload) fit refl)
fit_step capacity w (step.Supervise n about) fit = met w (has_node w n) _ _ (fit_entered capacity w (planned w n (event.Supervise about)) 0 n (event.Supervise about) tt refl)
fit_step capacity w (step.Age n) fit = met w (has_node w n) _ _ (fit_entered capacity w (planned w n event.Age) 0 n event.Age tt refl)
fit_step capacity w (step.Put n port) fit =
    met w (has_node w n) _ _ (met w (has_port w n port) _ _ (fit_same w (or_same w (put_at w (spot_from (record { node = n; port = port }) 0 w.spans))) (same_put w (spot_from (record { node = n; port = port }) 0 w.spans))))
fit_step capacity w (step.Take l dir) fit = met w (has_link w l) _ _ (fit_same w (or_same w (take_to w l dir (lane_of dir (span_at w l)).hand)) (same_take w l dir (lane_of dir (span_at w l)).hand))
fit_step capacity w (step.Judge n port) fit =
    met w (has_node w n) _ _ (met w (has_port w n port) _ _ (fit_judged capacity w (record { node = n; port = port }) (held_in (record { node = n; port = port }) (lanes_of w.spans))))
fit_step capacity w (step.Cut l) fit = met w (has_link w l) _ _ (λ all. all)
fit_step capacity w (step.Mend l) fit = met w (has_link w l) _ _ (λ all. all)
fit_step capacity w (step.Inject l dir octets) fit = met w (has_link w l) _ _ (fit_same w (or_same w (injected_at w l dir octets)) (same_injected w l dir octets))

fit_run : (capacity : ℕ) (steps : List Step) (w : World) → AllByRecursion FitsStep steps → Kept w (run capacity steps w)
fit_run capacity [] w fit all = all
fit_run capacity (s ∷ steps) w fit all = fit_run capacity steps (or_same w (tried capacity w s)) fit.1 (fit_step capacity w s fit.0 all)

pub always_frames : AlwaysFrames
always_frames capacity room places links steps fit all =
    fit_frames (run capacity steps (new_world room places links)).places (run capacity steps (new_world room places links)).records
    (subst (All FitsPlace) (sym (run_keeps capacity steps (new_world room places links)).places) fit)
    (fit_run capacity steps (new_world room places links) all (λ n. subst AreFit (sym (no_entries places n)) tt))

-- ---- a world that was reached by fit steps

pub frames_reached : (capacity : ℕ) (places : List Place) (links : List (List End)) (w : World) (r : IsReached capacity places links w) → All FitsPlace places → AllByRecursion FitsStep r.steps → AreFrames w.places w.records
frames_reached capacity places links w r fit all = subst (λ (v : World). AreFrames v.places v.records) r.is (always_frames capacity r.room places links r.steps fit all)

-- one fit step more
pub fit_last : (steps : List Step) (s : Step) → AllByRecursion FitsStep steps → FitsStep s → AllByRecursion FitsStep (steps ++ s ∷ [])
fit_last [] s all fit = (fit, tt)
fit_last (first ∷ steps) s all fit = (all.0, fit_last steps s all.1 fit)
