use Rattle.std.proofs.Common.{◌∙◌, ◌-◌, ap, arith, length, subst, sym}
use Rattle.std.specs.Prelude.{slice_get}
use Rattle.std.proofs.lemmas.List.Sorted.{length_permutation}
use Rattle.hsr_capture_reader.specs.Capture.{CaptureFields}
use Rattle.hsr_packet_order.specs.Disorder.{disorder_of}
use Rattle.hsr_taps.specs.Came.{AreInOrder, IsTapped}
use Rattle.hsr_health.specs.Loads.{AreLoads}
use Rattle.hsr_health.specs.Whole.{IsInTime, end_by, moment_or}
use Rattle.hsr_health.proofs.Capturing.{in_order_from, own_numbers_from}
use Rattle.hsr_taps.specs.Tallies.{AreLookedAt}
use Rattle.hsr_health.proofs.Loading.{loads_looked}
use Rattle.hsr_health.proofs.traffic.traffic_of.Goals as goal

pub tap-requires-clause-packets : goal.tap-requires-clause-packets
tap-requires-clause-packets c =
    let in_time = subst (λ l. IsInTime l c.in_ok-sorted.sorted.items) (ap (λ (x : CaptureFields). x.packets) c.capture.view_is) c.in_ok-sorted.ensures in
    omega (arith, length_permutation _ _ in_time.same, c.requires.packets)

pub tap-requires-clause-numbers : goal.tap-requires-clause-numbers
tap-requires-clause-numbers c =
    let in_time = subst (λ l. IsInTime l c.in_ok-sorted.sorted.items) (ap (λ (x : CaptureFields). x.packets) c.capture.view_is) c.in_ok-sorted.ensures in
    own_numbers_from c.args.capture.packets c.in_ok-sorted.sorted.items in_time.same c.requires.numbers

pub tap-requires-clause-time : goal.tap-requires-clause-time
tap-requires-clause-time c = in_order_from c.in_ok-sorted.sorted.items c.in_ok-sorted.ensures.sorted

pub loads_of-requires : goal.loads_of-requires
loads_of-requires c =
    let in_time = subst (λ l. IsInTime l c.in_ok-sorted.sorted.items) (ap (λ (x : CaptureFields). x.packets) c.capture.view_is) c.in_ok-sorted.ensures in
    record {
      order = subst AreInOrder (sym c.as_slice-in_order.ensures.value) (in_order_from c.in_ok-sorted.sorted.items c.in_ok-sorted.ensures.sorted);
      few = omega (arith, length_permutation _ _ in_time.same, c.requires.packets, ap length c.as_slice-in_order.ensures.value);
    }

pub returns : goal.returns
returns c =
    let choice = c.args.choice.now in
    let sorted = c.in_ok-sorted.sorted.items in
    let tapped = c.in_ok-tapped.field-0.tapped in
    let loads = c.in_ok-loads.loads.items in
    let packets = ap (λ (x : CaptureFields). x.packets) c.capture.view_is in
    let interfaces = c.args.capture.interfaces in
    let by_number = c.as_slice-by_number.ensures.value ∙ ap (λ (x : CaptureFields). x.interfaces) c.capture.view_is in
    let looked = c.in_ok-looked.looked.items in
    let looks = subst (λ l. AreLookedAt choice l looked) by_number c.in_ok-looked.ensures in
    let tap_is = subst (λ l. IsTapped choice l sorted c.in_ok-tapped.ensures.0 tapped c.in_ok-tapped.field-0.copies.items) by_number c.in_ok-tapped.ensures.1 in
    record {
      packets = sorted;
      in_time = subst (λ l. IsInTime l sorted) packets c.in_ok-sorted.ensures;
      outline = record {
        interfaces = ap (λ (x : CaptureFields). x.interfaces) c.capture.view_is;
        losses = ap (λ (x : CaptureFields). x.losses) c.capture.view_is;
        many = c.len-many.ensures ∙ c.capture.inside.packets.ok.0 ∙ ap length packets;
        disorder = c.disorder_of-disorder.ensures ∙ ap disorder_of (c.as_slice.ensures.value ∙ packets);
        start = c.first_moment-start.ensures ∙ ap (λ l. moment_or (slice_get l 0)) c.as_slice-in_order.ensures.value;
        end = c.last_moment-end.ensures ∙ ap (λ l. end_by c.capture.inside.end (slice_get l (length l - 1))) c.as_slice-in_order.ensures.value ∙ ap (λ (x : CaptureFields). end_by x.end (slice_get sorted (length sorted - 1))) c.capture.view_is;
        is_short = ap (λ (x : CaptureFields). x.is_short) c.capture.view_is;
      };
      looked = c.in_ok-tapped.ensures.0;
      tapped = tap_is;
      loads = loads_looked choice interfaces looked c.in_ok-tapped.ensures.0 sorted tapped.tallies.items loads looks tap_is.looks tap_is.tallies tap_is.long
          (c.in_ok-loads.ensures.long ∙ ap length c.as_slice-2.ensures.value)
          (subst (λ l. AreLoads l sorted loads) c.as_slice-2.ensures.value (subst (λ l. AreLoads c.as_slice-2.result.now l loads) c.as_slice-in_order.ensures.value c.in_ok-loads.ensures.loads));
    }
