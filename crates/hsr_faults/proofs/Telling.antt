-- What is told of each send, from what is told of its group.
use Rattle.std.proofs.Common.{◌≡◌, ℕ, ◌+◌, ◌*◌, ◌/◌, ◌<◌, ◌≤◌, ◌||◌, Bool, List, length, slice_index_or, sym, ap, ◌∙◌, subst, arith}
use Rattle.std.specs.Prelude.{IfOk, Result, Ok, Err}
use Rattle.std.proofs.lemmas.List.{get_or-map, length-map}
use Rattle.hsr_link.specs.declared.row.Dir.{Dir}
use Rattle.hsr_link.specs.declared.row.Dir.TheVariants.{Forth, Back}
use Rattle.hsr_run_laws.specs.Run.{Run}
use Rattle.hsr_network_laws.specs.Network.{Channel}
use Rattle.hsr_routes.specs.Numbered.{dir_number, is_in, number_of}
use Rattle.hsr_routes.specs.Routes.{heading, sender_at}
use Rattle.hsr_routes.specs.declared.heading.Heading.{Heading}
use Rattle.hsr_routes.proofs.Alike.{led_alike}
use Rattle.hsr_scenario.specs.declared.steps.Order.{Order}
use Rattle.hsr_plays.specs.Spans.{is_down}
use Rattle.hsr_plays.specs.declared.span.SendSpan.{SendSpan}
use Rattle.hsr_faults.specs.CutOff.{AreCutOff, AreCutOffBy, AreCuts, AreTold, IsCutOffBy, IsOutage, Told}
use Rattle.hsr_faults.specs.Fault.{is_link_off}
use Rattle.hsr_faults.specs.Groups.{AreCounts, AreGrouped, IsGroupOf}
use Rattle.hsr_faults.specs.Lines.{AreLined, AreMissed, no_group, no_nodes, told_at, told_of}
use Rattle.hsr_faults.specs.declared.fault.Fault.{Fault}
use Rattle.hsr_faults.specs.declared.groups.Group.{Group}
use Rattle.hsr_faults.specs.declared.nodes.Nodes.{Nodes}
use Rattle.hsr_faults.specs.declared.outage.Outage.{Outage}

-- ---- one send

one_alike : (net : Run) (frame : Heading) (a b : Channel → Bool) (fault : Fault) → ((channel : Channel) → channel.link < length net.links → a channel ≡ b channel) → (k : ℕ) → IsCutOffBy net frame a fault k → IsCutOffBy net frame b fault k
one_alike net frame a b fault same k cut = record {
  below = cut.below;
  due = cut.due;
  sends = cut.sends;
  takes = cut.takes;
  cut = λ led. cut.cut (led_alike net (sender_at frame.sender) (heading frame.dst frame.kind) (λ channel. b channel || is_link_off net.links fault channel.link) (λ channel. a channel || is_link_off net.links fault channel.link)
      (λ channel there. ap (λ t. t || is_link_off net.links fault channel.link) (sym (same channel there))) k led);
}

cut_alike : (net : Run) (frame : Heading) (a b : Channel → Bool) (fault : Fault) (nodes : ℕ) → ((channel : Channel) → channel.link < length net.links → a channel ≡ b channel) → AreCutOffBy net frame a fault nodes → AreCutOffBy net frame b fault nodes
cut_alike net frame a b fault nodes same are k low = record {
  sound = λ is. one_alike net frame a b fault same k ((are k low).sound is);
  complete = λ cut. (are k low).complete (one_alike net frame b a fault (λ channel there. sym (same channel there)) k cut);
  served = λ none below due sends takes.
      led_alike net (sender_at frame.sender) (heading frame.dst frame.kind) (λ channel. a channel || is_link_off net.links fault channel.link) (λ channel. b channel || is_link_off net.links fault channel.link)
      (λ channel there. ap (λ t. t || is_link_off net.links fault channel.link) (same channel there)) k ((are k low).served none below due sends takes);
}

half : (channel : Channel) → number_of channel / 2 ≡ channel.link
half channel = by_dir channel.dir
  where
    by_dir : (dir : Dir) → (2 * channel.link + dir_number dir) / 2 ≡ channel.link
    by_dir Forth = omega arith
    by_dir Back = omega arith

inside : (channel : Channel) → channel.link < 128 → number_of channel < 256
inside channel low = by_dir channel.dir
  where
    by_dir : (dir : Dir) → 2 * channel.link + dir_number dir < 256
    by_dir Forth = omega (arith, low)
    by_dir Back = omega (arith, low)

-- from its group
send_cut : (net : Run) (orders : List Order) (fault : Fault) (span : SendSpan) (group : Group) (nodes : ℕ) → length net.links ≤ 128 → IsGroupOf orders span group → AreCutOffBy net group.frame (is_in group.down.words) fault nodes →
    AreCutOff net orders fault span nodes
send_cut net orders fault span group nodes few is are =
    subst (λ (frame : Heading). AreCutOffBy net frame (λ channel. is_down orders span channel.link) fault nodes) is.frame
    (cut_alike net group.frame (is_in group.down.words) (λ channel. is_down orders span channel.link) fault nodes
    (λ channel there. is.down (number_of channel) (inside channel (omega (arith, there, few))) ∙ ap (is_down orders span) (half channel))
    are)

-- ---- all sends

module _ (net : Run) (orders : List Order) (spans : List SendSpan) (fault : Fault) (groups : List Group) (of : List ℕ) (missed : List Nodes) (few : length net.links ≤ 128) (grouped : AreGrouped orders spans (length spans) groups of)
    (are : AreMissed net fault groups (length groups) missed) where
  at : (i : ℕ) (t : Told) → i < length spans → slice_index_or (told_of groups missed of) i t ≡ told_at groups missed (slice_index_or of i 0)
  at i t low = let many = grouped.many in get_or-map (told_at groups missed) of i 0 t (omega (arith, low, many))

  of_send : (i : ℕ) (span : SendSpan) → i < length spans → IsGroupOf orders (slice_index_or spans i span) (slice_index_or groups (slice_index_or of i 0) no_group)
  of_send i span low = grouped.each i 0 no_group span low

  pub told_all : AreTold net orders fault spans (told_of groups missed of)
  told_all = record {
    many = length-map of (told_at groups missed) ∙ grouped.many;
    sender = λ i t span low. ap (λ (x : Told). x.sender) (at i t low) ∙ ap (λ (frame : Heading). frame.sender) (of_send i span low).frame;
    nodes = λ i t span low.
        subst (λ (x : Told). AreCutOff net orders fault (slice_index_or spans i span) x.nodes) (sym (at i t low))
        (send_cut net orders fault (slice_index_or spans i span) (slice_index_or groups (slice_index_or of i 0) no_group) (slice_index_or missed (slice_index_or of i 0) no_nodes).bits few (of_send i span low)
        (are.each (slice_index_or of i 0) no_nodes no_group (grouped.below i 0 low)));
  }

-- groups with their counts
pub lined : (orders : List Order) (spans : List SendSpan) (groups : List Group) (of counts : List ℕ) (missed : List Nodes) → AreGrouped orders spans (length spans) groups of → AreCounts (length groups) of counts → length missed ≡ length groups →
    AreLined groups of counts missed
lined orders spans groups of counts missed grouped counted many = record {
  counts_are = counted;
  many = many;
  below = λ i d low. let long = grouped.many in grouped.below i d (omega (arith, low, long));
  some = grouped.some;
  rises = λ i j e low. let long = grouped.many in grouped.rises i j e (omega (arith, low, long));
}

-- lists by other names
pub lined_as : (groups groups' : List Group) (of of' counts counts' : List ℕ) (missed missed' : List Nodes) → groups' ≡ groups → of' ≡ of → counts' ≡ counts → missed' ≡ missed → AreLined groups of counts missed → AreLined groups' of' counts' missed'
lined_as groups groups' of of' counts counts' missed missed' a b c d lined =
    subst (λ (xs : List Group). AreLined xs of' counts' missed') (sym a)
    (subst (λ (xs : List ℕ). AreLined groups xs counts' missed') (sym b)
    (subst (λ (xs : List ℕ). AreLined groups of xs missed') (sym c)
    (subst (λ (xs : List Nodes). AreLined groups of counts xs) (sym d) lined)))

-- all that is told of a fault, if memory suffices
pub outage_is : {E : Type 0} (r : Result Outage E) (net : Run) (orders : List Order) (spans : List SendSpan) (fault : Fault) (told : List Told) → AreTold net orders fault spans told → IfOk r (λ outage. outage.fault ≡ fault) →
    IfOk r (λ outage. AreCuts told outage.cuts.items outage.sends) → IfOk r (IsOutage net orders spans fault)
outage_is (Ok outage) net orders spans fault told are same cuts = record { same = same; told = told; are = are; cuts = cuts }
outage_is (Err e) net orders spans fault told are same cuts = cuts
