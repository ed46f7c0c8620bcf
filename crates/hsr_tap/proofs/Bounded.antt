-- The bounds of a capture that was read: how many interfaces and packets it has, and that each packet has a number of its own.
use Rattle.std.proofs.Common.{◌≡◌, ◌⊎◌, inl, inr, ℕ, zero, suc, ◌+◌, ◌<◌, ◌≤◌, Bool, true, false, not, if◌then◌else◌, List, [], ◌∷◌, ◌++◌, length, length-append, refl, rules, sym, ap, subst, ◌∙◌, arith, Option, Some, None, Result, Ok, Err}
use Rattle.std.specs.Prelude.{nat_le, nat_lt, ◌==◌, drop, slice_get}
use Rattle.hsr_frame.specs.Cases.{first_of}
use Rattle.std.proofs.lemmas.Bool.{leb-false}
use Rattle.std.proofs.lemmas.Option.{same_Some}
use Rattle.std.specs.Result.{result_ok}
use Rattle.hsr_capture_reader.specs.Blocks.{BlockFields, Blocks, blocks_past, is_section}
use Rattle.hsr_capture_reader.specs.Capture.{CaptureFields, capture_in, capture_of, is_gzip, most_octets, pcap_in, reading_of}
use Rattle.hsr_capture_reader.specs.Fields.{InterfaceFields, PacketFields}
use Rattle.hsr_capture_reader.specs.Numbers.{number16, number32}
use Rattle.hsr_capture_reader.specs.Pcap.{format_of, interface_of, kept_at, packets_past, pcap_of, then_on}
use Rattle.hsr_capture_reader.specs.Pcap as pcap
use Rattle.hsr_capture_reader.specs.Pcapng.{CapturedFields, captured_there, captured_told, counted, counted_at, enhanced_told, interface_in, interface_told, noted, obsolete_told, packet_of, pcapng_of, pushed, read_on, refused, section_told, simple_at, simple_in, simple_told, stamped_told, statistics_told, told}
use Rattle.hsr_capture_reader.specs.Reading.{ReadingFields, nothing_read, with_interface, with_packet, ◌>>=◌}
use Rattle.hsr_capture_reader.specs.declared.fault.CaptureFault.{CaptureFault}
use Rattle.hsr_capture_reader.specs.declared.fault.CaptureFault.TheVariants as fault
use Rattle.hsr_capture_reader.specs.declared.fault.Refusal.{Refusal}
use Rattle.hsr_sightings.proofs.Gathering.{slice_get_push}
use Rattle.hsr_taps.specs.Came.{ArePackets}
use Rattle.hsr_health.specs.Whole.{IsBounded}

-- each packet's number is its place, from 1
abbrev AreNumbered : List PacketFields → Type 0
AreNumbered packets = (i : ℕ) (p : PacketFields) → slice_get packets i ≡ Some p → p.number ≡ i + 1

record Fits (r : ReadingFields) : Type 0 where
  interfaces : length r.interfaces ≤ 64
  packets : length r.packets ≤ 1048576
  numbered : AreNumbered r.packets

FitsIf : Result ReadingFields Refusal → Type 0
FitsIf (Ok r) = Fits r
FitsIf (Err e) = Unit {0}

-- ---- steps

fits_of : (r : ReadingFields) → FitsIf (Ok r) → Fits r
unfolding FitsIf
fits_of r fits = fits

ok_fits : (r : ReadingFields) → Fits r → FitsIf (Ok r)
unfolding FitsIf
ok_fits r fits = fits

err_fits : (e : Refusal) → FitsIf (Err e)
unfolding FitsIf
err_fits e = tt

bind_fits : (next : Result ReadingFields Refusal) (f : ReadingFields → Result ReadingFields Refusal) → FitsIf next → ((x : ReadingFields) → Fits x → FitsIf (f x)) → FitsIf (next >>= f)
bind_fits (Ok x) f fits h = h x (fits_of x fits)
bind_fits (Err e) f fits h = err_fits e

choose : (b : Bool) (x y : Result ReadingFields Refusal) → (b ≡ true → FitsIf x) → (b ≡ false → FitsIf y) → FitsIf (if b then x else y)
choose true x y h k = h refl
choose false x y h k = k refl

more : (packets : List PacketFields) (c : CapturedFields) → AreNumbered packets → AreNumbered (packets ++ packet_of packets c ∷ [])
more packets c h i p is = by_place (slice_get_push packets (packet_of packets c) p i is)
  where
    by_place : (slice_get packets i ≡ Some p) ⊎ ((i ≡ length packets) × (p ≡ packet_of packets c)) → p.number ≡ i + 1
    by_place (inl there) = h i p there
    by_place (inr (at, same)) = ap (λ (q : PacketFields). q.number) same ∙ ap (λ (n : ℕ). n + 1) (sym at)

with_packet_fits : (r : ReadingFields) (c : CapturedFields) → length r.packets < 1048576 → Fits r → Fits (with_packet r (packet_of r.packets c))
with_packet_fits r c below fits = record {
  interfaces = fits.interfaces;
  packets = let long = length-append r.packets (packet_of r.packets c ∷ []) in omega (arith, below, long);
  numbered = more r.packets c fits.numbered;
}

pushed_fits : (r : ReadingFields) (offset : ℕ) (c : CapturedFields) → Fits r → FitsIf (pushed r offset c)
unfolding pushed
pushed_fits r offset c fits = choose (nat_le 1048576 (length r.packets)) (refused offset fault.Packets) (Ok (with_packet r (packet_of r.packets c))) (λ full. err_fits _)
    (λ room. ok_fits (with_packet r (packet_of r.packets c)) (with_packet_fits r c (leb-false 1048576 (length r.packets) room) fits))

with_interface_fits : (r : ReadingFields) (x : InterfaceFields) → length r.interfaces < 64 → Fits r → Fits (with_interface r x)
with_interface_fits r x below fits = record {
  interfaces = let long = length-append r.interfaces (x ∷ []) in omega (arith, below, long);
  packets = fits.packets;
  numbered = fits.numbered;
}

interface_fits : (fcs : ℕ) (r : ReadingFields) (b : BlockFields) → Fits r → FitsIf (interface_told fcs r b)
unfolding interface_told
interface_fits fcs r b fits =
    choose (nat_lt (length b.body) 8) (refused b.offset fault.Block)
    (if nat_le 64 (length r.interfaces) then refused 0 fault.Interfaces else Ok (with_interface r (interface_in fcs b)))
    (λ short. err_fits _) (λ long. choose (nat_le 64 (length r.interfaces)) (refused 0 fault.Interfaces) (Ok (with_interface r (interface_in fcs b)))
    (λ full. err_fits _)
    (λ room. ok_fits (with_interface r (interface_in fcs b)) (with_interface_fits r (interface_in fcs b) (leb-false 64 (length r.interfaces) room) fits)))

earlier_fits : (r : ReadingFields) (earlier : ℕ) → Fits r → Fits (record r { earlier = earlier })
earlier_fits r earlier fits = record { interfaces = fits.interfaces; packets = fits.packets; numbered = fits.numbered }

section_fits : (r : ReadingFields) (b : BlockFields) → Fits r → FitsIf (section_told r b)
unfolding section_told
section_fits r b fits =
    choose (nat_lt (length b.body) 16) (refused b.offset fault.Block)
    (if not (number16 b.order b.body 4 == 1) then refused b.offset fault.Version else Ok (record r { earlier = length r.interfaces }))
    (λ short. err_fits _) (λ long. choose (not (number16 b.order b.body 4 == 1)) (refused b.offset fault.Version) (Ok (record r { earlier = length r.interfaces }))
    (λ other. err_fits _) (λ one. ok_fits (record r { earlier = length r.interfaces }) (earlier_fits r (length r.interfaces) fits)))

noted_fits : (r : ReadingFields) (b : BlockFields) (i moment : ℕ) → Fits r → Fits (noted r b i moment)
unfolding noted
noted_fits r b i moment fits = record { interfaces = fits.interfaces; packets = fits.packets; numbered = fits.numbered }

captured_fits : (r : ReadingFields) (b : BlockFields) (i : ℕ) (c : CapturedFields) → Fits r → FitsIf (captured_told r b i c)
unfolding captured_told
captured_fits r b i c fits = pushed_fits (noted r b i c.moment) b.offset c (noted_fits r b i c.moment fits)

then_captured : (r : ReadingFields) (b : BlockFields) (i : ℕ) (found : Result CapturedFields Refusal) → Fits r → FitsIf (found >>= captured_told r b i)
then_captured r b i (Ok c) fits = captured_fits r b i c fits
then_captured r b i (Err e) fits = err_fits e

stamped_fits : (r : ReadingFields) (b : BlockFields) (number : ℕ) → Fits r → FitsIf (stamped_told r b number)
unfolding stamped_told
stamped_fits r b number fits = then_captured r b (r.earlier + number) (captured_there r.interfaces b (r.earlier + number)) fits

enhanced_fits : (r : ReadingFields) (b : BlockFields) → Fits r → FitsIf (enhanced_told r b)
unfolding enhanced_told
enhanced_fits r b fits = choose (nat_lt (length b.body) 20) (refused b.offset fault.Block) (stamped_told r b (number32 b.order b.body 0)) (λ short. err_fits _) (λ long. stamped_fits r b (number32 b.order b.body 0) fits)

obsolete_fits : (r : ReadingFields) (b : BlockFields) → Fits r → FitsIf (obsolete_told r b)
unfolding obsolete_told
obsolete_fits r b fits = choose (nat_lt (length b.body) 20) (refused b.offset fault.Block) (stamped_told r b (number16 b.order b.body 0)) (λ short. err_fits _) (λ long. stamped_fits r b (number16 b.order b.body 0) fits)

simple_at_fits : (r : ReadingFields) (b : BlockFields) (interface : Option InterfaceFields) → Fits r → FitsIf (simple_at r b interface)
simple_at_fits r b None fits = err_fits _
simple_at_fits r b (Some interface) fits = pushed_fits r b.offset (simple_in r.earlier r.stamp b interface) fits

simple_fits : (r : ReadingFields) (b : BlockFields) → Fits r → FitsIf (simple_told r b)
unfolding simple_told
simple_fits r b fits = choose (nat_lt (length b.body) 4) (refused b.offset fault.Block) (simple_at r b (slice_get r.interfaces r.earlier)) (λ short. err_fits _) (λ long. simple_at_fits r b (slice_get r.interfaces r.earlier) fits)

counted_fits : (r : ReadingFields) (b : BlockFields) (i : ℕ) (interface : Option InterfaceFields) → Fits r → Fits (counted_at r b i interface)
unfolding counted
counted_fits r b i None fits = fits
counted_fits r b i (Some interface) fits = record { interfaces = fits.interfaces; packets = fits.packets; numbered = fits.numbered }

statistics_fits : (r : ReadingFields) (b : BlockFields) → Fits r → FitsIf (statistics_told r b)
unfolding statistics_told
statistics_fits r b fits =
    choose (nat_lt (length b.body) 12) (refused b.offset fault.Block)
    (Ok (counted_at r b (r.earlier + number32 b.order b.body 0) (slice_get r.interfaces (r.earlier + number32 b.order b.body 0))))
    (λ short. err_fits _)
    (λ long. ok_fits (counted_at r b (r.earlier + number32 b.order b.body 0) (slice_get r.interfaces (r.earlier + number32 b.order b.body 0)))
    (counted_fits r b (r.earlier + number32 b.order b.body 0) (slice_get r.interfaces (r.earlier + number32 b.order b.body 0)) fits))

told_fits : (fcs : ℕ) (r : ReadingFields) (b : BlockFields) → Fits r → FitsIf (told fcs r b)
unfolding told
told_fits fcs r b fits =
    choose (b.block_type == 0x0A0D0D0A) (section_told r b) (first_of ((b.block_type == 1, interface_told fcs r b) ∷ (b.block_type == 2, obsolete_told r b) ∷ (b.block_type == 3, simple_told r b) ∷ (b.block_type == 5, statistics_told r b) ∷ (b.block_type == 6, enhanced_told r b) ∷ []) (Ok r))
    (λ is. section_fits r b fits) (λ other.
    choose (b.block_type == 1) (interface_told fcs r b) (first_of ((b.block_type == 2, obsolete_told r b) ∷ (b.block_type == 3, simple_told r b) ∷ (b.block_type == 5, statistics_told r b) ∷ (b.block_type == 6, enhanced_told r b) ∷ []) (Ok r))
    (λ is. interface_fits fcs r b fits) (λ other.
    choose (b.block_type == 2) (obsolete_told r b) (first_of ((b.block_type == 3, simple_told r b) ∷ (b.block_type == 5, statistics_told r b) ∷ (b.block_type == 6, enhanced_told r b) ∷ []) (Ok r))
    (λ is. obsolete_fits r b fits) (λ other.
    choose (b.block_type == 3) (simple_told r b) (first_of ((b.block_type == 5, statistics_told r b) ∷ (b.block_type == 6, enhanced_told r b) ∷ []) (Ok r))
    (λ is. simple_fits r b fits) (λ other.
    choose (b.block_type == 5) (statistics_told r b) (first_of ((b.block_type == 6, enhanced_told r b) ∷ []) (Ok r))
    (λ is. statistics_fits r b fits) (λ other.
    choose (b.block_type == 6) (enhanced_told r b) (Ok r) (λ is. enhanced_fits r b fits) (λ other. ok_fits r fits))))))

-- ---- blocks

short_fits : (r : ReadingFields) (is_short : Bool) → Fits r → Fits (record r { is_short = is_short })
short_fits r is_short fits = record { interfaces = fits.interfaces; packets = fits.packets; numbered = fits.numbered }

read_fits : (fcs : ℕ) (r : ReadingFields) (bs : List BlockFields) (is_short : Result Bool Refusal) → Fits r → FitsIf (read_on fcs r bs is_short)
read_fits fcs r [] (Ok is_short) fits = ok_fits (record r { is_short = is_short }) (short_fits r is_short fits)
read_fits fcs r [] (Err e) fits = err_fits e
read_fits fcs r (b ∷ bs) is_short fits =
    bind_fits (told fcs r b) (λ next. read_on fcs next bs is_short) (told_fits fcs r b fits) (λ next fits. read_fits fcs next bs is_short fits)

nothing_fits : Fits nothing_read
nothing_fits = record { interfaces = search rules; packets = search rules; numbered = λ i p is. absurd (cc) }

pcapng_fits : (fcs : ℕ) (octets : List ℕ) → FitsIf (pcapng_of fcs octets)
unfolding pcapng_of
pcapng_fits fcs octets = read_fits fcs nothing_read _ _ nothing_fits

-- ---- packets of the other format

kept_fits : (r : ReadingFields) (offset : ℕ) (c : CapturedFields) (behind : ReadingFields → Result ReadingFields Refusal) (kept : Result (Option ℕ) CaptureFault) → Fits r
    → ((x : ReadingFields) → Fits x → FitsIf (behind x)) → FitsIf (then_on r offset c behind kept)
kept_fits r offset c behind (Ok None) fits h = ok_fits (record r { is_short = true }) (short_fits r true fits)
kept_fits r offset c behind (Ok (Some kept)) fits h = bind_fits (pushed r offset c) behind (pushed_fits r offset c fits) h
kept_fits r offset c behind (Err e) fits h = err_fits _

past_fits : (n offset fcs : ℕ) (format : _) (r : ReadingFields) (octets : List ℕ) → Fits r → FitsIf (packets_past n offset fcs format r octets)
past_fits n offset fcs format r [] fits = ok_fits r fits
past_fits (suc n) offset fcs format r (octet ∷ octets) fits = past_fits n (offset + 1) fcs format r octets fits
past_fits zero offset fcs format r (octet ∷ octets) fits =
    kept_fits r offset (pcap.captured_at fcs format (octet ∷ octets))
    (λ next. packets_past (15 + number32 format.order (octet ∷ octets) 8) (offset + 1) fcs format next octets)
    (kept_at format.order (octet ∷ octets)) fits
    (λ next fits. past_fits (15 + number32 format.order (octet ∷ octets) 8) (offset + 1) fcs format next octets fits)

one_fits : (interface : InterfaceFields) → Fits (with_interface nothing_read interface)
one_fits interface = record { interfaces = search rules; packets = search rules; numbered = λ i p is. absurd (cc) }

pcap_fits : (fcs : ℕ) (format : _) (octets : List ℕ) → FitsIf (pcap_of fcs format octets)
unfolding pcap_of
pcap_fits fcs format octets =
    choose (nat_lt (length octets) 24) (refused 0 fault.Header)
    (packets_past 0 24 (interface_of fcs format octets).fcs format (with_interface nothing_read (interface_of fcs format octets)) (drop 24 octets))
    (λ short. err_fits _)
    (λ long. past_fits 0 24 (interface_of fcs format octets).fcs format (with_interface nothing_read (interface_of fcs format octets)) (drop 24 octets) (one_fits (interface_of fcs format octets)))

pcap_in_fits : (fcs : ℕ) (octets : List ℕ) (format : _) → FitsIf (pcap_in fcs octets format)
pcap_in_fits fcs octets None = err_fits _
pcap_in_fits fcs octets (Some format) = pcap_fits fcs format octets

-- ---- the whole

reading_fits : (fcs : ℕ) (octets : List ℕ) → FitsIf (reading_of fcs octets)
reading_fits fcs octets =
    choose (nat_lt most_octets (length octets)) (refused 0 fault.TooLarge) (first_of ((is_gzip octets, refused 0 fault.Gzip) ∷ (is_section octets, pcapng_of fcs octets) ∷ []) (pcap_in fcs octets (format_of octets)))
    (λ large. err_fits _) (λ small.
    choose (is_gzip octets) (refused 0 fault.Gzip) (first_of ((is_section octets, pcapng_of fcs octets) ∷ []) (pcap_in fcs octets (format_of octets)))
    (λ packed. err_fits _) (λ plain.
    choose (is_section octets) (pcapng_of fcs octets) (pcap_in fcs octets (format_of octets)) (λ section. pcapng_fits fcs octets) (λ other. pcap_in_fits fcs octets (format_of octets))))

own_numbers : (packets : List PacketFields) → AreNumbered packets → ArePackets packets
own_numbers packets h i j p q at there same = let a = h i p at in let b = h j q there in omega (arith, a, b, same)

bounded_by : (r : ReadingFields) → Fits r → IsBounded (record { interfaces = r.interfaces; losses = r.losses; packets = r.packets; end = r.end; is_short = r.is_short })
bounded_by r fits = record { interfaces = fits.interfaces; packets = fits.packets; numbers = own_numbers r.packets fits.numbered }

pub is_bounded : (fcs : ℕ) (octets : List ℕ) (capture : CaptureFields) → capture_of fcs octets ≡ Ok capture → IsBounded capture
unfolding capture_of
is_bounded fcs octets capture is = by_reading (reading_of fcs octets) (reading_fits fcs octets) is
  where
    by_reading : (r : Result ReadingFields Refusal) → FitsIf r → (r >>= capture_in) ≡ Ok capture → IsBounded capture
    by_reading (Err e) fits is = absurd (cc)
    by_reading (Ok r) fits is = subst IsBounded (same_Some _ capture (ap result_ok is)) (bounded_by r (fits_of r fits))
