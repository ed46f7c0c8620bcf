-- No step changes where the nodes stand and what the links join.
use Rattle.std.proofs.Common.{◌≡◌, ℕ, ◌<◌, nat_lt, max, Bool, true, false, List, [], ◌∷◌, ◌++◌, length, map, Option, Some, None, Result, Ok, Err, refl, sym, ap, ◌∙◌, subst, arith, eq-eqb, ⊎_elim}
use Rattle.std.specs.Prelude.{if◌then◌else◌, not, slice_index_or}
use Rattle.std.specs.List.{All, AllByRecursion}
use Rattle.std.specs.Option.{option_or}
use Rattle.std.proofs.lemmas.Bool.{false≢true, and_cases}
use Rattle.std.proofs.lemmas.List.{length-map, length-set}
use Rattle.std.proofs.lemmas.List.Elements.{All-head, All-tail}
use Rattle.std.proofs.lemmas.Option.{slice_get-get_or}
use Rattle.hsr_frame.specs.declared.node.Mode.{Mode}
use Rattle.hsr_link.specs.Link.{take_step}
use Rattle.hsr_link.specs.Rows.{first_copy}
use Rattle.hsr_link.specs.declared.row.Dir.{Dir}
use Rattle.hsr_link.specs.declared.row.Dir.TheVariants.{Forth, Back}
use Rattle.hsr_node.specs.Record.{answer, now}
use Rattle.hsr_node.specs.declared.event.Carried.{Carried}
use Rattle.hsr_node.specs.declared.event.Event.{Event}
use Rattle.hsr_node.specs.declared.event.Event.TheVariants as event
use Rattle.hsr_node.specs.declared.event.Outcome.{Outcome}
use Rattle.hsr_node.specs.declared.event.StepFault.{StepFault}
use Rattle.hsr_node.specs.declared.place.Place.{Place}
use Rattle.hsr_node.specs.declared.place.Place.TheVariants.{Danh, RedBox, QuadBox, Station}
use Rattle.hsr_topology.proofs.Ends.{end_apart, end_same}
use Rattle.hsr_topology.specs.Links.{faces_wrongly, is_a_station, is_interlink, is_interlink_of, is_same_end, is_station}
use Rattle.hsr_node.specs.Place.{ports}
use Rattle.hsr_run_laws.specs.Run.{joined_by, no_end, peer_in}
use Rattle.hsr_topology.specs.Wired.{AreDistinct, HasPort, IsJoin, IsWired, ends_of}
use Rattle.hsr_topology.specs.declared.end.End.{End}
use Rattle.hsr_world_laws.specs.Closing.{AlwaysPlaced, IsPlaced, StepPlaced}
use Rattle.hsr_world_laws.specs.Spans.{Lane, Span, Spot, emptied, held_in, lane_of, lanes_of, on_lanes, spot_from, spread, with_lane, with_link}
use Rattle.hsr_world_laws.specs.World.{World, and_added, cleared, entered, has_link, has_node, has_port, injected_at, judged_at, span_at, new_span, new_world, or_same, owner_at, planned, put_at, put_from, record_at, run, take_to, taken_by, tried, with_span}
use Rattle.hsr_topology.specs.Workers.{port_worker}
use Rattle.hsr_world_steps.specs.declared.step.Step.{Step}
use Rattle.hsr_world_steps.specs.declared.step.Step.TheVariants.{Clock, Send, Supervise, Age, Put, Take, Judge, Cut, Mend, Inject}
use Rattle.hsr_world_steps.specs.declared.step.WorldFault.{WorldFault}
use Rattle.hsr_world_steps.specs.declared.step.WorldFault.TheVariants.{TooLong}
use Rattle.hsr_world_laws.proofs.Keeps.{entry_of}
use Rattle.hsr_world_laws.proofs.Counts.{map_set_same}

-- where the two lanes of a span begin and end
abbrev pub Wire : Type 0
Wire = End × End × End × End

abbrev pub wire : Span → Wire
wire span = (span.forth.from, span.forth.to, span.back.from, span.back.to)

pub record IsKept (old new : World) : Type 0 where
  pub places : new.places ≡ old.places
  pub records : length new.records ≡ length old.records
  pub wires : map wire new.spans ≡ map wire old.spans

-- ---- steps

same : (w : World) → IsKept w w
same w = record { places = refl; records = refl; wires = refl }

kept_span : (w : World) (l : ℕ) (span : Span) → wire span ≡ wire (span_at w l) → IsKept w (with_span w l span)
kept_span w l span e = record { places = refl; records = refl; wires = map_set_same wire w.spans l span _ e }

wires_mapped : (f : Lane → Lane) → ((span : Span) → wire (on_lanes f span) ≡ wire span) → (spans : List Span) → map wire (map (on_lanes f) spans) ≡ map wire spans
wires_mapped f keeps [] = refl
wires_mapped f keeps (span ∷ spans) = ap (λ x. x ∷ map wire (map (on_lanes f) spans)) (keeps span) ∙ ap (λ xs. wire span ∷ xs) (wires_mapped f keeps spans)

kept_entered : (capacity : ℕ) (v w : World) (worker n : ℕ) (e : Event) → IsKept v w → IsKept v (or_same v (entered capacity w worker n e))
kept_entered capacity v w worker n e k = by_case (answer capacity (owner_at w n) (record_at w n) (max (now (record_at w n)) w.moment) e)
  where
    by_case : (r : Result Outcome StepFault) → IsKept v (or_same v (and_added w worker n e r))
    by_case (Err fault) = same v
    by_case (Ok outcome) = record {
      places = k.places;
      records = length-set w.records n (entry_of w worker e outcome ∷ record_at w n) ∙ k.records;
      wires = wires_mapped (spread (owner_at w n) (entry_of w worker e outcome) (record_at w n)) (λ span. refl) w.spans ∙ k.wires;
    }

kept_judged : (capacity : ℕ) (w : World) (end : End) (held : Option Carried) → IsKept w (or_same w (judged_at capacity w end held))
kept_judged capacity w end None = same w
kept_judged capacity w end (Some c) =
    kept_entered capacity w (cleared w end) (port_worker end) end.node (event.Arrive end.port c) (record { places = refl; records = refl; wires = wires_mapped (emptied end) (λ span. refl) w.spans })

wire_lane : (dir : Dir) (span : Span) (lane : Lane) → lane.from ≡ (lane_of dir span).from → lane.to ≡ (lane_of dir span).to → wire (with_lane dir lane span) ≡ wire span
wire_lane Forth span lane f t = λ i. (f i, t i, span.back.from, span.back.to)
wire_lane Back span lane f t = λ i. (span.forth.from, span.forth.to, f i, t i)

kept_put : (w : World) (spot : Option Spot) → IsKept w (or_same w (put_at w spot))
kept_put w None = same w
kept_put w (Some s) = by_case (lane_of s.dir (span_at w s.link)).outbox
  where
    by_case : (box : List Carried) → IsKept w (or_same w (put_from w s box))
    by_case [] = same w
    by_case (c ∷ cs) = kept_span w s.link _ (wire_lane s.dir (span_at w s.link) (record (lane_of s.dir (span_at w s.link)) { outbox = cs }) refl refl)

kept_take : (w : World) (l : ℕ) (dir : Dir) (hand : Option Carried) → IsKept w (or_same w (take_to w l dir hand))
kept_take w l dir (Some held) = same w
kept_take w l dir None = of_queue (first_copy dir (span_at w l).link.rows)
  where
    of_queue : (first : Option Carried) → IsKept w (or_same w (taken_by w l dir (first, (take_step (span_at w l).link dir).1)))
    of_queue None = same w
    of_queue (Some c) = kept_span w l _ (wire_lane dir (span_at w l) (record (lane_of dir (span_at w l)) { hand = Some c }) refl refl)

kept_injected : (w : World) (l : ℕ) (dir : Dir) (octets : List ℕ) → IsKept w (or_same w (injected_at w l dir octets))
kept_injected w l dir octets = by_case (nat_lt 2048 (length octets))
  where
    by_case : (b : Bool) → IsKept w (or_same w (if b then Err TooLong else Ok (with_span w l (with_link (Rattle.hsr_link.specs.Link.inject_step (span_at w l).link dir (record { probe = None; octets = octets })).1 (span_at w l)))))
    by_case true = same w
    by_case false = kept_span w l _ refl

met : (w : World) (b : Bool) (r : Result World WorldFault) (f : WorldFault) → IsKept w (or_same w r) → IsKept w (or_same w (if b then r else Err f))
met w true r f k = k
met w false r f k = same w

pub step_keeps : (capacity : ℕ) (w : World) (step : Step) → IsKept w (or_same w (tried capacity w step))
unfolding tried
step_keeps capacity w (Clock at) = record { places = refl; records = refl; wires = refl }
step_keeps capacity w (Send n from dst vlan ethertype payload) =
    met w (has_node w n) _ _ (kept_entered capacity w (planned w n (event.Send from dst vlan ethertype payload)) 0 n (event.Send from dst vlan ethertype payload) (record { places = refl; records = refl; wires = refl }))
step_keeps capacity w (Supervise n about) = met w (has_node w n) _ _ (kept_entered capacity w (planned w n (event.Supervise about)) 0 n (event.Supervise about) (record { places = refl; records = refl; wires = refl }))
step_keeps capacity w (Age n) = met w (has_node w n) _ _ (kept_entered capacity w (planned w n event.Age) 0 n event.Age (record { places = refl; records = refl; wires = refl }))
step_keeps capacity w (Put n port) = met w (has_node w n) _ _ (met w (has_port w n port) _ _ (kept_put w (spot_from (record { node = n; port = port }) 0 w.spans)))
step_keeps capacity w (Take l dir) = met w (has_link w l) _ _ (kept_take w l dir (lane_of dir (span_at w l)).hand)
step_keeps capacity w (Judge n port) =
    met w (has_node w n) _ _ (met w (has_port w n port) _ _ (kept_judged capacity w (record { node = n; port = port }) (held_in (record { node = n; port = port }) (lanes_of w.spans))))
step_keeps capacity w (Cut l) = met w (has_link w l) _ _ (kept_span w l _ refl)
step_keeps capacity w (Mend l) = met w (has_link w l) _ _ (kept_span w l _ refl)
step_keeps capacity w (Inject l dir octets) = met w (has_link w l) _ _ (kept_injected w l dir octets)

then_kept : (u v w : World) → IsKept u v → IsKept v w → IsKept u w
then_kept u v w a b = record { places = b.places ∙ a.places; records = b.records ∙ a.records; wires = b.wires ∙ a.wires }

pub run_keeps : (capacity : ℕ) (steps : List Step) (w : World) → IsKept w (run capacity steps w)
run_keeps capacity [] w = same w
run_keeps capacity (step ∷ steps) w = then_kept w (or_same w (tried capacity w step)) _ (step_keeps capacity w step) (run_keeps capacity steps (or_same w (tried capacity w step)))

placed : (old new : World) → IsKept old new → IsPlaced old new
placed old new k = record { places = k.places; records = k.records; spans = sym (length-map new.spans wire) ∙ (ap length k.wires ∙ length-map old.spans wire) }

pub always_placed : AlwaysPlaced
always_placed capacity steps w = placed w (run capacity steps w) (run_keeps capacity steps w)

pub step_placed : StepPlaced
step_placed capacity step w after e = placed w after (subst (λ (r : Result World WorldFault). IsKept w (or_same w r)) e (step_keeps capacity w step))

-- ---- the wires of the first world

abbrev pub wire_of : List End → Wire
wire_of (a ∷ b ∷ _) = (a, b, b, a)
wire_of _ = (no_end, no_end, no_end, no_end)

pub first_wires : (room : ℕ) (links : List (List End)) → map wire (map (new_span room) links) ≡ map wire_of links
first_wires room [] = refl
first_wires room (link ∷ links) = ap (λ x. x ∷ map wire (map (new_span room) links)) (one link) ∙ ap (λ xs. wire_of link ∷ xs) (first_wires room links)
  where
    one : (x : List End) → wire (new_span room x) ≡ wire_of x
    one [] = refl
    one (a ∷ []) = refl
    one (a ∷ b ∷ ends) = refl

-- ---- each end leads to the other

abbrev pub ArePeers : List (List End) → Wire → Type 0
ArePeers links e = (peer_in e.0 links ≡ Some e.1) × (peer_in e.2 links ≡ Some e.3)

joined_none : (a b end : End) → is_same_end end a ≡ false → is_same_end end b ≡ false → joined_by end (a ∷ b ∷ []) ≡ None
joined_none a b end x y = by_case (is_same_end a end) (is_same_end b end) (end_apart a end x) (end_apart b end y)
  where
    by_case : (p q : Bool) → p ≡ false → q ≡ false → (if p then Some b else (if q then Some a else None)) ≡ None
    by_case true q e f = absurd (false≢true (sym e))
    by_case false true e f = absurd (false≢true (sym f))
    by_case false false e f = refl

joined_first : (a b : End) → joined_by a (a ∷ b ∷ []) ≡ Some b
joined_first a b = by_case (is_same_end a a) (end_same a a refl)
  where
    by_case : (p : Bool) → p ≡ true → (if p then Some b else (if is_same_end b a then Some a else None)) ≡ Some b
    by_case true e = refl
    by_case false e = absurd (false≢true e)

joined_second : (a b : End) → is_same_end b a ≡ false → joined_by b (a ∷ b ∷ []) ≡ Some a
joined_second a b x = by_case (is_same_end a b) (is_same_end b b) (end_apart a b x) (end_same b b refl)
  where
    by_case : (p q : Bool) → p ≡ false → q ≡ true → (if p then Some b else (if q then Some a else None)) ≡ Some a
    by_case true q e f = absurd (false≢true (sym e))
    by_case false true e f = refl
    by_case false false e f = absurd (false≢true f)

lifted : (places : List Place) (a b : End) (links some : List (List End)) → All (IsJoin places) some → All (λ other. is_same_end other a ≡ false) (ends_of some) → All (λ other. is_same_end other b ≡ false) (ends_of some) →
    AllByRecursion (ArePeers links) (map wire_of some) → AllByRecursion (ArePeers ((a ∷ b ∷ []) ∷ links)) (map wire_of some)
lifted places a b links [] joins of_a of_b all = tt
lifted places a b links (link ∷ some) joins of_a of_b all =
    by_link link (All-head (IsJoin places) link some joins) of_a of_b all (λ x y rest. lifted places a b links some (All-tail (IsJoin places) link some joins) x y rest)
  where
    A : End → Type 0
    A other = is_same_end other a ≡ false

    B : End → Type 0
    B other = is_same_end other b ≡ false

    by_link : (x : List End) → IsJoin places x → All (λ other. is_same_end other a ≡ false) (x ++ ends_of some) → All (λ other. is_same_end other b ≡ false) (x ++ ends_of some) →
        AllByRecursion (ArePeers links) (map wire_of (x ∷ some)) →
        (All (λ other. is_same_end other a ≡ false) (ends_of some) → All (λ other. is_same_end other b ≡ false) (ends_of some) → AllByRecursion (ArePeers links) (map wire_of some) →
        AllByRecursion (ArePeers ((a ∷ b ∷ []) ∷ links)) (map wire_of some)) →
        AllByRecursion (ArePeers ((a ∷ b ∷ []) ∷ links)) (map wire_of (x ∷ some))
    by_link [] j of_a of_b all rest = absurd j
    by_link (c ∷ []) j of_a of_b all rest = absurd j
    by_link (c ∷ d ∷ e ∷ ends) j of_a of_b all rest = absurd j
    by_link (c ∷ d ∷ []) j of_a of_b all rest =
        let P : End → Type 0 = λ other. is_same_end other a ≡ false in
        let Q : End → Type 0 = λ other. is_same_end other b ≡ false in
        let below_a = All-tail P c (d ∷ ends_of some) of_a in
        let below_b = All-tail Q c (d ∷ ends_of some) of_b in
        let none_c = joined_none a b c (All-head P c (d ∷ ends_of some) of_a) (All-head Q c (d ∷ ends_of some) of_b) in
        let none_d = joined_none a b d (All-head P d (ends_of some) below_a) (All-head Q d (ends_of some) below_b) in
        let here : ArePeers ((a ∷ b ∷ []) ∷ links) (wire_of (c ∷ d ∷ [])) =
        (ap (λ o. option_or o (peer_in c links)) none_c ∙ all.0.0, ap (λ o. option_or o (peer_in d links)) none_d ∙ all.0.1) in
        (here, rest (All-tail P d (ends_of some) below_a) (All-tail Q d (ends_of some) below_b) all.1)

pub peers : (places : List Place) (links : List (List End)) → All (IsJoin places) links → AreDistinct (ends_of links) → AllByRecursion (ArePeers links) (map wire_of links)
peers places [] joins distinct = tt
peers places (link ∷ links) joins distinct = by_link link (All-head (IsJoin places) link links joins) distinct (peers places links (All-tail (IsJoin places) link links joins))
  where
    rest_joins : All (IsJoin places) links
    rest_joins = All-tail (IsJoin places) link links joins

    by_link : (x : List End) → IsJoin places x → AreDistinct (x ++ ends_of links) → (AreDistinct (ends_of links) → AllByRecursion (ArePeers links) (map wire_of links)) → AllByRecursion (ArePeers (x ∷ links)) (map wire_of (x ∷ links))
    by_link [] j d rest = absurd j
    by_link (a ∷ []) j d rest = absurd j
    by_link (a ∷ b ∷ c ∷ ends) j d rest = absurd j
    by_link (a ∷ b ∷ []) j d rest =
        let P : End → Type 0 = λ other. is_same_end other a ≡ false in
        let here : ArePeers ((a ∷ b ∷ []) ∷ links) (wire_of (a ∷ b ∷ [])) =
        (ap (λ o. option_or o (peer_in a links)) (joined_first a b), ap (λ o. option_or o (peer_in b links)) (joined_second a b (All-head P b (ends_of links) d.0))) in
        (here, lifted places a b links links rest_joins (All-tail P b (ends_of links) d.0) d.1.0 (rest d.1.1))

-- ---- what an interlink faces

-- what stands at the other end of a lane to an interlink
pub record FromStation (places : List Place) (from : End) : Type 0 where
  pub macs : _
  pub station : slice_index_or places from.node QuadBox ≡ Station macs
  pub port : from.port ≡ 0

pub record Faces (places : List Place) (from to : End) : Type 0 where
  pub apart : from.node ≡ to.node → ⊥
  pub station : (mac : List ℕ) (mode : Mode) → slice_index_or places to.node QuadBox ≡ RedBox mac mode → to.port ≡ 2 → FromStation places from

is_the_station : (place : Place) → is_a_station (Some place) ≡ true → (macs : _) × (place ≡ Station macs)
is_the_station (Danh mac mode) h = absurd (false≢true h)
is_the_station (RedBox mac mode) h = absurd (false≢true h)
is_the_station QuadBox h = absurd (false≢true h)
is_the_station (Station macs) h = (macs, refl)

one_port : (n : ℕ) → n < 1 → n ≡ 0
one_port n h = omega (arith, h)

-- the end of a link faces the other as it must
faces : (places : List Place) (from to : End) → HasPort places from → HasPort places to → (from.node ≡ to.node → ⊥) → faces_wrongly places to from ≡ false → Faces places from to
faces places from to here there apart right = record {
  apart = apart;
  station = λ mac mode box port.
      let inter : is_interlink places to ≡ true =
      ap (λ o. is_interlink_of o to.port) (slice_get-get_or places to.node QuadBox there.node ∙ ap (λ (p : Place). Some p) box) ∙ eq-eqb to.port 2 port in
      let stands : is_station places from ≡ true = ⊎_elim (λ no. absurd (false≢true (sym no ∙ inter))) (λ no. negated (is_station places from) no) (and_cases (is_interlink places to) (not (is_station places from)) right) in
      let which = is_the_station (slice_index_or places from.node QuadBox) (ap is_a_station (sym (slice_get-get_or places from.node QuadBox here.node)) ∙ stands) in
      record {
        macs = which.0;
        station = which.1;
        port = one_port from.port (subst (λ (p : Place). from.port < ports p) which.1 (here.port QuadBox));
      };
}
  where
    negated : (b : Bool) → not b ≡ false → b ≡ true
    negated true h = refl
    negated false h = absurd (false≢true (sym h))

abbrev pub WiredWell : List Place → List (List End) → Wire → Type 0
WiredWell places links e = Faces places e.0 e.1 × Faces places e.2 e.3 × ArePeers links e

all_wired : (places : List Place) (all some : List (List End)) → All (IsJoin places) some → AllByRecursion (ArePeers all) (map wire_of some) → AllByRecursion (WiredWell places all) (map wire_of some)
all_wired places all [] joins peers = tt
all_wired places all (link ∷ some) joins peers =
    (by_link link (All-head (IsJoin places) link some joins) peers.0, all_wired places all some (All-tail (IsJoin places) link some joins) peers.1)
  where
    by_link : (x : List End) → IsJoin places x → ArePeers all (wire_of x) → WiredWell places all (wire_of x)
    by_link [] j p = absurd j
    by_link (a ∷ []) j p = absurd j
    by_link (a ∷ b ∷ c ∷ ends) j p = absurd j
    by_link (a ∷ b ∷ []) j p = (faces places a b j.first j.second j.apart j.back, faces places b a j.second j.first (λ e. j.apart (sym e)) j.forth, p)

-- what holds of each span, whatever was done
pub wired_well : (capacity room : ℕ) (places : List Place) (links : List (List End)) (steps : List Step) → IsWired places links →
    AllByRecursion (WiredWell places links) (map wire (run capacity steps (new_world room places links)).spans)
wired_well capacity room places links steps w =
    subst (AllByRecursion (WiredWell places links)) (sym ((run_keeps capacity steps (new_world room places links)).wires ∙ first_wires room links))
    (all_wired places links links w.joined (peers places links w.joined w.distinct))
