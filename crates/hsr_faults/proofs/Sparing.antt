-- Routes that avoid more lead to less; and where what is off is spare, to the same.
use Rattle.std.proofs.Common.{◌≡◌, ℕ, ◌+◌, ◌*◌, ◌/◌, ◌<◌, ◌≤◌, ◌&&◌, ◌||◌, ◌⊎◌, not, Bool, true, false, List, length, refl, sym, ap, ◌∙◌, subst, arith}
use Rattle.std.proofs.lemmas.Bool.{and_from, and_parts, false≢true, not-true, or_cases, or_left}
use Rattle.hsr_bitset.specs.Numbers.{has, has_bit}
use Rattle.hsr_frame.specs.Grammar.{Fields}
use Rattle.hsr_link.specs.declared.row.Dir.{Dir}
use Rattle.hsr_link.specs.declared.row.Dir.TheVariants.{Forth, Back}
use Rattle.hsr_node.specs.declared.event.Probe.{Probe}
use Rattle.hsr_run_laws.specs.Run.{Run}
use Rattle.hsr_network_laws.specs.Network.{Channel}
use Rattle.hsr_routes.specs.Numbered.{dir_number, is_in, number_of}
use Rattle.hsr_routes.specs.Routes.{IsLedTo, LeadsOver, heading, on, sender_at, sent}
use Rattle.hsr_routes.specs.declared.heading.Heading.{Heading}
use Rattle.hsr_routes.proofs.Alike.{led_alike}
use Rattle.hsr_faults.specs.Course.{AreDue, AreLed}
use Rattle.hsr_faults.specs.CutOff.{AreCutOffBy, IsCutOffBy, IsServedBy}
use Rattle.hsr_faults.specs.Fault.{is_link_off, is_node_off}
use Rattle.hsr_faults.specs.Search.{AreLedBy}
use Rattle.hsr_faults.specs.Sets.{IsWithin}
use Rattle.hsr_faults.specs.declared.fault.Fault.{Fault}

-- ---- more is avoided

-- what one set avoids the other does
abbrev pub AvoidsMore : Run → (Channel → Bool) → (Channel → Bool) → Type 0
AvoidsMore net a b = (channel : Channel) → channel.link < length net.links → a channel ≡ true → b channel ≡ true

still_free : (a b : Bool) → (a ≡ true → b ≡ true) → b ≡ false → a ≡ false
still_free true b more free = absurd (false≢true (sym free ∙ more refl))
still_free false b more free = refl

less_over : (net : Run) (send : Probe) (frame : Fields) (a b : Channel → Bool) → AvoidsMore net a b → (channel : Channel) → LeadsOver net send frame b channel → LeadsOver net send frame a channel
less_over net send frame a b more channel (sent channel' free first) =
    sent channel' (record { below = free.below; free = still_free (a channel') (b channel') (more channel' free.below) free.free }) first
less_over net send frame a b more channel (on before next leads free goes) =
    on before next (less_over net send frame a b more before leads) (record { below = free.below; free = still_free (a next) (b next) (more next free.below) free.free }) goes

pub less_led : (net : Run) (send : Probe) (frame : Fields) (a b : Channel → Bool) → AvoidsMore net a b → (k : ℕ) → IsLedTo net send frame b k → IsLedTo net send frame a k
less_led net send frame a b more k led = record { channel = led.channel; leads = less_over net send frame a b more led.channel led.leads; here = led.here }

-- ---- spare

-- while all that is off is spare, the same nodes are led to as while nothing is off
pub spare_led : (net : Run) (frame : Heading) (down off spare : List ℕ) (nodes : ℕ) → IsWithin down spare → IsWithin off spare → AreLed net frame down nodes → AreLed net frame spare nodes → AreLedBy net frame down off nodes
spare_led net frame down off spare nodes in_spare off_in led led_spare k below = (
  λ is. less_led net (sender_at frame.sender) (heading frame.dst frame.kind) (λ channel. is_in down channel || is_in off channel) (is_in spare)
      (λ channel there avoided. both channel (or_cases (is_in down channel) (is_in off channel) avoided)) k ((led_spare k below).0 is),
  λ reached. (led k below).1 (less_led net (sender_at frame.sender) (heading frame.dst frame.kind) (is_in down) (λ channel. is_in down channel || is_in off channel)
      (λ channel there avoided. or_left (is_in down channel) (is_in off channel) avoided) k reached),
)
  where
    both : (channel : Channel) → ((is_in down channel ≡ true) ⊎ (is_in off channel ≡ true)) → is_in spare channel ≡ true
    both channel either = Rattle.std.proofs.Common.⊎_elim (λ d. in_spare (number_of channel) d) (λ o. off_in (number_of channel) o) either

-- what is found with both sets avoided
pub searched_led : (net : Run) (frame : Heading) (down off all : List ℕ) (nodes : ℕ) → ((n : ℕ) → has all n ≡ (has down n || has off n)) → AreLed net frame all nodes → AreLedBy net frame down off nodes
searched_led net frame down off all nodes are led k below =
    let same : (channel : Channel) → channel.link < length net.links → is_in all channel ≡ (is_in down channel || is_in off channel) = λ channel there. are (number_of channel) in
    let back : (channel : Channel) → channel.link < length net.links → (is_in down channel || is_in off channel) ≡ is_in all channel = λ channel there. sym (are (number_of channel)) in (
      λ is. led_alike net (sender_at frame.sender) (heading frame.dst frame.kind) (is_in all) (λ channel. is_in down channel || is_in off channel) same k ((led k below).0 is),
      λ reached. (led k below).1 (led_alike net (sender_at frame.sender) (heading frame.dst frame.kind) (λ channel. is_in down channel || is_in off channel) (is_in all) back k reached),
    )

-- ---- cut off

half : (channel : Channel) → number_of channel / 2 ≡ channel.link
half channel = by_dir channel.dir
  where
    by_dir : (dir : Dir) → (2 * channel.link + dir_number dir) / 2 ≡ channel.link
    by_dir Forth = omega arith
    by_dir Back = omega arith

inside : (links : ℕ) (channel : Channel) → channel.link < links → number_of channel < 2 * links
inside links channel low = by_dir channel.dir
  where
    by_dir : (dir : Dir) → 2 * channel.link + dir_number dir < 2 * links
    by_dir Forth = omega (arith, low)
    by_dir Back = omega (arith, low)

-- a set of the channels that are off is the links that are off
pub off_links : (net : Run) (fault : Fault) (off : List ℕ) → ((n : ℕ) → n < 2 * length net.links → has off n ≡ is_link_off net.links fault (n / 2)) →
    (channel : Channel) → channel.link < length net.links → is_in off channel ≡ is_link_off net.links fault channel.link
off_links net fault off are channel low = are (number_of channel) (inside (length net.links) channel low) ∙ ap (is_link_off net.links fault) (half channel)

-- a sender that is off is cut off from nobody
pub none_cut : (net : Run) (frame : Heading) (avoid : Channel → Bool) (fault : Fault) (nodes : ℕ) → is_node_off fault frame.sender ≡ true → ((k : ℕ) → has_bit nodes k ≡ false) → AreCutOffBy net frame avoid fault nodes
none_cut net frame avoid fault nodes off none k low = record {
  sound = λ is. absurd (false≢true (sym (none k) ∙ is));
  complete = λ (cut : IsCutOffBy net frame avoid fault k). absurd (false≢true (sym cut.sends ∙ off));
  served = λ is below due sends. absurd (false≢true (sym sends ∙ off));
}

pub cut_off : (net : Run) (frame : Heading) (down off : List ℕ) (fault : Fault) (due led shut some nodes : ℕ) → is_node_off fault frame.sender ≡ false →
    ((n : ℕ) → n < 2 * length net.links → has off n ≡ is_link_off net.links fault (n / 2)) → ((k : ℕ) → k < 64 → has_bit shut k ≡ is_node_off fault k) →
    AreDue net frame due → AreLedBy net frame down off led → ((k : ℕ) → k < 64 → has_bit some k ≡ (has_bit due k && not (has_bit led k))) → ((k : ℕ) → k < 64 → has_bit nodes k ≡ (has_bit some k && not (has_bit shut k))) →
    AreCutOffBy net frame (is_in down) fault nodes
cut_off net frame down off fault due led shut some nodes sender_on offs shuts dues leds somes alls k low = record { sound = tells; complete = told; served = served }
  where
    avoid : Channel → Bool
    avoid channel = is_in down channel || is_link_off net.links fault channel.link

    to : (channel : Channel) → channel.link < length net.links → (is_in down channel || is_in off channel) ≡ (is_in down channel || is_link_off net.links fault channel.link)
    to channel there = ap (λ b. is_in down channel || b) (off_links net fault off offs channel there)

    back : (channel : Channel) → channel.link < length net.links → (is_in down channel || is_link_off net.links fault channel.link) ≡ (is_in down channel || is_in off channel)
    back channel there = sym (to channel there)

    tells : has_bit nodes k ≡ true → IsCutOffBy net frame (is_in down) fault k
    tells is =
        let last = and_parts (has_bit some k) (not (has_bit shut k)) (sym (alls k low) ∙ is) in
        let first = and_parts (has_bit due k) (not (has_bit led k)) (sym (somes k low) ∙ last.0) in
        let at = (dues k low).0 first.0 in
        record {
          below = at.0;
          due = at.1;
          sends = sender_on;
          takes = sym (shuts k low) ∙ not-true (has_bit shut k) last.1;
          cut = λ reached. false≢true (sym (not-true (has_bit led k) first.1) ∙ (leds k at.0).1
              (led_alike net (sender_at frame.sender) (heading frame.dst frame.kind) (λ channel. is_in down channel || is_link_off net.links fault channel.link) (λ channel. is_in down channel || is_in off channel) back k reached));
        }

    told : IsCutOffBy net frame (is_in down) fault k → has_bit nodes k ≡ true
    told cut = alls k low ∙ and_from (has_bit some k) (not (has_bit shut k))
        (somes k low ∙ and_from (has_bit due k) (not (has_bit led k)) ((dues k low).1 (cut.below, cut.due)) (ap not (not_led (has_bit led k) refl)))
        (ap not (shuts k low ∙ cut.takes))
      where
        not_led : (b : Bool) → has_bit led k ≡ b → has_bit led k ≡ false
        not_led false is = is
        not_led true is = absurd (cut.cut
            (led_alike net (sender_at frame.sender) (heading frame.dst frame.kind) (λ channel. is_in down channel || is_in off channel) (λ channel. is_in down channel || is_link_off net.links fault channel.link) to k ((leds k cut.below).0 is)))

    served : has_bit nodes k ≡ false → IsServedBy net frame (is_in down) fault k
    served none below is_due sends takes =
        led_alike net (sender_at frame.sender) (heading frame.dst frame.kind) (λ channel. is_in down channel || is_in off channel) (λ channel. is_in down channel || is_link_off net.links fault channel.link) to k
        ((leds k below).0 (led_is (has_bit led k) refl))
      where
        led_is : (b : Bool) → has_bit led k ≡ b → has_bit led k ≡ true
        led_is true is = is
        led_is false is = absurd (false≢true (sym none ∙ (alls k low ∙ and_from (has_bit some k) (not (has_bit shut k))
            (somes k low ∙ and_from (has_bit due k) (not (has_bit led k)) ((dues k low).1 (below, is_due)) (ap not is))
            (ap not (shuts k low ∙ takes)))))
