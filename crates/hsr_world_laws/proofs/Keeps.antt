-- Each step keeps a world sound.
use Rattle.std.proofs.Common.{◌≡◌, ℕ, ◌<◌, nat_lt, max, Bool, true, false, List, [], ◌∷◌, map, set, get_or, length, Option, Some, None, Result, Ok, Err, refl, sym, ap, ◌∙◌, subst, arith, eqb-true, eq-eqb, ⊎_elim, zero, suc, ◌==◌}
use Rattle.std.proofs.lemmas.List.Elements.{recursion_from_All}
use Rattle.std.specs.Prelude.{if◌then◌else◌}
use Rattle.std.specs.List.{AllByRecursion}
use Rattle.std.proofs.lemmas.Bool.{false≢true, cases_Bool}
use Rattle.std.proofs.lemmas.List.{get_or-set_same, get_or-set_other, length-set}
use Rattle.hsr_topology.proofs.Ends.{end_is, end_same}
use Rattle.hsr_topology.specs.Links.{is_same_end}
use Rattle.hsr_run_laws.specs.Run.{owner_in, record_in}
use Rattle.hsr_topology.specs.Wired.{AreDistinct}
use Rattle.hsr_topology.specs.declared.end.End.{End}
use Rattle.hsr_link.specs.Link.{inject_step, take_step}
use Rattle.hsr_link.specs.Rows.{first_copy}
use Rattle.hsr_link.specs.declared.row.Dir.{Dir}
use Rattle.hsr_link.specs.declared.row.Dir.TheVariants.{Forth, Back}
use Rattle.hsr_node.specs.Flow.{copy_at}
use Rattle.hsr_node.specs.Record.{IsLegal, Owner, answer, now}
use Rattle.hsr_node.specs.declared.entry.Entry.{Entry}
use Rattle.hsr_node.specs.declared.event.Carried.{Carried}
use Rattle.hsr_node.specs.declared.event.Event.{Event}
use Rattle.hsr_node.specs.declared.event.Event.TheVariants as event
use Rattle.hsr_node.specs.declared.event.Outcome.{Outcome}
use Rattle.hsr_node.specs.declared.event.StepFault.{StepFault}
use Rattle.hsr_world_laws.specs.Law.{AlwaysSound, IsSound, SpanAgrees, receiving}
use Rattle.hsr_world_laws.specs.Spans.{Lane, Span, Spot, emptied, held_in, lane_of, lanes_of, on_lanes, spot_from, spread, with_lane, with_link}
use Rattle.hsr_world_laws.specs.World.{World, and_added, cleared, entered, has_link, has_node, has_port, injected_at, judged_at, span_at, or_same, owner_at, planned, put_at, put_from, record_at, take_to, taken_by, tried, with_span}
use Rattle.hsr_topology.specs.Workers.{port_worker}
use Rattle.hsr_world_steps.specs.declared.step.Step.{Step}
use Rattle.hsr_world_steps.specs.declared.step.Step.TheVariants.{Clock, Send, Supervise, Age, Put, Take, Judge, Cut, Mend, Inject}
use Rattle.hsr_world_steps.specs.declared.step.WorldFault.{WorldFault}
use Rattle.hsr_world_steps.specs.declared.step.WorldFault.TheVariants.{TooLong}
use Rattle.hsr_world_laws.proofs.Lanes.{Handed, handed_over, lane_added, span_cut, span_injected, span_mended, span_put, span_taken, nothing_came}

-- ---- lists

pub all_mapped : {X : Type 0} (P Q : X → Type 0) (f : X → X) → ((x : X) → P x → Q (f x)) → (xs : List X) → AllByRecursion P xs → AllByRecursion Q (map f xs)
all_mapped P Q f h [] all = tt
all_mapped P Q f h (x ∷ xs) all = (h x all.0, all_mapped P Q f h xs all.1)

pub all_replaced : {X : Type 0} (P : X → Type 0) (xs : List X) (i : ℕ) (d y : X) → (P (get_or xs i d) → P y) → AllByRecursion P xs → AllByRecursion P (set xs i y)
all_replaced P [] i d y f all = tt
all_replaced P (x ∷ xs) zero d y f all = (f all.0, all.1)
all_replaced P (x ∷ xs) (suc i) d y f all = (all.0, all_replaced P xs i d y f all.1)

-- ---- one span is changed

-- the receiving ends stay
ends_set : (spans : List Span) (l : ℕ) (d span : Span) → span.forth.to ≡ (get_or spans l d).forth.to → span.back.to ≡ (get_or spans l d).back.to →
    receiving (lanes_of (set spans l span)) ≡ receiving (lanes_of spans)
ends_set [] l d span f b = refl
ends_set (x ∷ xs) zero d span f b = ap (λ (e : End). e ∷ span.back.to ∷ receiving (lanes_of xs)) f ∙ ap (λ (e : End). x.forth.to ∷ e ∷ receiving (lanes_of xs)) b
ends_set (x ∷ xs) (suc l) d span f b = ap (λ (es : List End). x.forth.to ∷ x.back.to ∷ es) (ends_set xs l d span f b)

ends_mapped : (f : Lane → Lane) → ((x : Lane) → (f x).to ≡ x.to) → (spans : List Span) → receiving (lanes_of (map (on_lanes f) spans)) ≡ receiving (lanes_of spans)
ends_mapped f h [] = refl
ends_mapped f h (x ∷ xs) =
    ap (λ (e : End). e ∷ (f x.back).to ∷ receiving (lanes_of (map (on_lanes f) xs))) (h x.forth)
    ∙ (ap (λ (e : End). x.forth.to ∷ e ∷ receiving (lanes_of (map (on_lanes f) xs))) (h x.back)
    ∙ ap (λ (es : List End). x.forth.to ∷ x.back.to ∷ es) (ends_mapped f h xs))

sound_span : (capacity : ℕ) (w : World) (l : ℕ) (span : Span) → span.forth.to ≡ (span_at w l).forth.to → span.back.to ≡ (span_at w l).back.to →
    (SpanAgrees w.places w.records (span_at w l) → SpanAgrees w.places w.records span) → IsSound capacity w → IsSound capacity (with_span w l span)
sound_span capacity w l span f b keeps h = record {
  counted = h.counted;
  legal = h.legal;
  agree = all_replaced (SpanAgrees w.places w.records) w.spans l _ span keeps h.agree;
  distinct = subst AreDistinct (sym (ends_set w.spans l _ span f b)) h.distinct;
}

-- ---- what a port holds

none_held : (x end : End) (c : Carried) → is_same_end x end ≡ true → (xs : List Lane) → AllByRecursion (λ y. is_same_end y x ≡ false) (receiving xs) →
    AllByRecursion (λ (y : Lane). is_same_end y.to end ≡ true → y.hand ≡ Some c) xs
none_held x end c here [] apart = tt
none_held x end c here (y ∷ ys) apart = ((λ e. absurd (false≢true (sym apart.0 ∙ end_same y.to x (end_is y.to end e ∙ sym (end_is x end here))))), none_held x end c here ys apart.1)

-- the copy that is found for an end is in each hand there
held_all : (end : End) (lanes : List Lane) (c : Carried) → AreDistinct (receiving lanes) → held_in end lanes ≡ Some c →
    AllByRecursion (λ (y : Lane). is_same_end y.to end ≡ true → y.hand ≡ Some c) lanes
held_all end [] c d h = tt
held_all end (x ∷ xs) c d h = by_case (λ e. held_all end xs c d.1 e) (is_same_end x.to end) refl h
  where
    by_case : (held_in end xs ≡ Some c → AllByRecursion (λ (y : Lane). is_same_end y.to end ≡ true → y.hand ≡ Some c) xs) →
        (b : Bool) → is_same_end x.to end ≡ b → (if b then x.hand else held_in end xs) ≡ Some c →
        AllByRecursion (λ (y : Lane). is_same_end y.to end ≡ true → y.hand ≡ Some c) (x ∷ xs)
    by_case below true e h = ((λ t. h), none_held x.to end c e xs (recursion_from_All (λ y. is_same_end y x.to ≡ false) (receiving xs) d.0))
    by_case below false e h = ((λ t. absurd (false≢true (sym e ∙ t))), below h)

spans_from_lanes : (P : Lane → Type 0) (spans : List Span) → AllByRecursion P (lanes_of spans) → AllByRecursion (λ span. P span.forth × P span.back) spans
spans_from_lanes P [] all = tt
spans_from_lanes P (x ∷ xs) all = ((all.0, all.1.0), spans_from_lanes P xs all.1.1)

-- ---- an entry is added

legal_more : (capacity : ℕ) (owner : Owner) (x : Entry) (past : List Entry) → answer capacity owner past (now (x ∷ past)) x.event ≡ Ok x.outcome → IsLegal capacity owner past → IsLegal capacity owner (x ∷ past)
unfolding IsLegal
legal_more capacity owner x past answered legal = (answered, legal)

abbrev pub entry_of : World → ℕ → Event → Outcome → Entry
entry_of w worker event outcome = record { worker = worker; at = w.moment; event = event; outcome = outcome }

-- the spans of w agree with the records once node n has the entry x, whose copies join their outboxes
abbrev AgreeAdded : World → ℕ → Entry → List Span → Type 0
AgreeAdded w n x spans = AllByRecursion (λ span. SpanAgrees w.places (set w.records n (x ∷ record_at w n)) (on_lanes (spread (owner_at w n) x (record_at w n)) span)) spans

sound_entered : (capacity : ℕ) (v w : World) (worker n : ℕ) (event : Event) → n < length w.records → length w.records ≡ length w.places →
    ((m : ℕ) → IsLegal capacity (owner_in w.places m) (record_in w.records m)) → AreDistinct (receiving (lanes_of w.spans)) →
    ((outcome : Outcome) → AgreeAdded w n (entry_of w worker event outcome) w.spans) →
    IsSound capacity v → IsSound capacity (or_same v (entered capacity w worker n event))
sound_entered capacity v w worker n event below counted legal distinct agree h =
    by_case (answer capacity (owner_at w n) (record_at w n) (max (now (record_at w n)) w.moment) event) refl
  where
    by_case : (r : Result Outcome StepFault) → answer capacity (owner_at w n) (record_at w n) (max (now (record_at w n)) w.moment) event ≡ r → IsSound capacity (or_same v (and_added w worker n event r))
    by_case (Err fault) e = h
    by_case (Ok outcome) e =
        let x : Entry = entry_of w worker event outcome in
        let past = record_at w n in
        record {
          counted = length-set w.records n (x ∷ past) ∙ counted;
          legal = λ m. ⊎_elim
              (λ same. subst (λ k. IsLegal capacity (owner_in w.places k) (record_in (set w.records n (x ∷ past)) k)) (sym (eqb-true m n same))
              (subst (IsLegal capacity (owner_at w n)) (sym (get_or-set_same w.records n (x ∷ past) [] below)) (legal_more capacity (owner_at w n) x past e (legal n))))
              (λ other. subst (IsLegal capacity (owner_in w.places m)) (sym (get_or-set_other w.records n m (x ∷ past) [] (λ s. false≢true (sym other ∙ eq-eqb m n s)))) (legal m))
              (cases_Bool (m == n));
          agree = all_mapped (λ span. SpanAgrees w.places (set w.records n (x ∷ past)) (on_lanes (spread (owner_at w n) x past) span)) (SpanAgrees w.places (set w.records n (x ∷ past))) (on_lanes (spread (owner_at w n) x past)) (λ span a. a) w.spans (agree outcome);
          distinct = subst AreDistinct (sym (ends_mapped (spread (owner_at w n) x past) (λ y. refl) w.spans)) distinct;
        }

-- by the main worker
sound_own : (capacity : ℕ) (w : World) (n : ℕ) (event : Event) → n < length w.records → ((port : ℕ) → copy_at port event ≡ None) → IsSound capacity w →
    IsSound capacity (or_same w (entered capacity (planned w n event) 0 n event))
sound_own capacity w n event below none h =
    sound_entered capacity w (planned w n event) 0 n event below h.counted h.legal h.distinct
    (λ outcome. kept (entry_of w 0 event outcome) refl w.spans h.agree) h
  where
    kept : (x : Entry) → x.event ≡ event → (spans : List Span) → AllByRecursion (SpanAgrees w.places w.records) spans → AgreeAdded w n x spans
    kept x e [] all = tt
    kept x e (span ∷ spans) all = (
      record {
        forth = lane_added w.places w.records n x Forth span.link.rows span.forth span.forth.hand below (nothing_came n x.event span.forth (ap (copy_at span.forth.to.port) e ∙ none span.forth.to.port)) all.0.forth;
        back = lane_added w.places w.records n x Back span.link.rows span.back span.back.hand below (nothing_came n x.event span.back (ap (copy_at span.back.to.port) e ∙ none span.back.to.port)) all.0.back;
      },
      kept x e spans all.1,
    )

-- by the worker of a port: what it holds is judged
sound_judged : (capacity : ℕ) (w : World) (end : End) → end.node < length w.records → IsSound capacity w →
    IsSound capacity (or_same w (judged_at capacity w end (held_in end (lanes_of w.spans))))
sound_judged capacity w end below h = by_case (held_in end (lanes_of w.spans)) refl
  where
    by_case : (held : Option Carried) → held_in end (lanes_of w.spans) ≡ held → IsSound capacity (or_same w (judged_at capacity w end held))
    by_case None e = h
    by_case (Some c) e =
        sound_entered capacity w (cleared w end) (port_worker end) end.node (event.Arrive end.port c) below h.counted h.legal
        (subst AreDistinct (sym (ends_mapped (emptied end) (λ y. refl) w.spans)) h.distinct)
        (λ outcome. kept c (entry_of w (port_worker end) (event.Arrive end.port c) outcome) refl w.spans h.agree
        (spans_from_lanes (λ y. is_same_end y.to end ≡ true → y.hand ≡ Some c) w.spans (held_all end (lanes_of w.spans) c h.distinct e))) h
      where
        kept : (c : Carried) (x : Entry) → x.event ≡ event.Arrive end.port c → (spans : List Span) → AllByRecursion (SpanAgrees w.places w.records) spans →
            AllByRecursion (λ span. (is_same_end span.forth.to end ≡ true → span.forth.hand ≡ Some c) × (is_same_end span.back.to end ≡ true → span.back.hand ≡ Some c)) spans →
            AgreeAdded w end.node x (map (on_lanes (emptied end)) spans)
        kept c x e [] all held = tt
        kept c x e (span ∷ spans) all held = (
          record {
            forth = lane_added w.places w.records end.node x Forth span.link.rows span.forth _ below (over span.forth (handed_over end c span.forth held.0.0)) all.0.forth;
            back = lane_added w.places w.records end.node x Back span.link.rows span.back _ below (over span.back (handed_over end c span.back held.0.1)) all.0.back;
          },
          kept c x e spans all.1 held.1,
        )
          where
            over : (lane : Lane) → Handed end.node (event.Arrive end.port c) lane (if is_same_end lane.to end then None else lane.hand) → Handed end.node x.event lane (if is_same_end lane.to end then None else lane.hand)
            over lane handed = subst (λ v. Handed end.node v lane (if is_same_end lane.to end then None else lane.hand)) (sym e) handed

-- ---- the steps on links

sound_put : (capacity : ℕ) (w : World) (spot : Option Spot) → IsSound capacity w → IsSound capacity (or_same w (put_at w spot))
sound_put capacity w None h = h
sound_put capacity w (Some s) h = by_case (lane_of s.dir (span_at w s.link)).outbox refl
  where
    ends_kept : (dir : Dir) (span : Span) (box : List Carried) →
        ((with_lane dir (record (lane_of dir span) { outbox = box }) span).forth.to ≡ span.forth.to) × ((with_lane dir (record (lane_of dir span) { outbox = box }) span).back.to ≡ span.back.to)
    ends_kept Forth span box = (refl, refl)
    ends_kept Back span box = (refl, refl)

    by_case : (box : List Carried) → (lane_of s.dir (span_at w s.link)).outbox ≡ box → IsSound capacity (or_same w (put_from w s box))
    by_case [] e = h
    by_case (c ∷ cs) e =
        let k = ends_kept s.dir (span_at w s.link) cs in
        sound_span capacity w s.link _ k.0 k.1 (span_put w.places w.records (span_at w s.link) s.dir c cs e) h

sound_take : (capacity : ℕ) (w : World) (l : ℕ) (dir : Dir) → IsSound capacity w → IsSound capacity (or_same w (take_to w l dir (lane_of dir (span_at w l)).hand))
sound_take capacity w l dir h = by_case (lane_of dir (span_at w l)).hand refl
  where
    ends_kept : (dir : Dir) (span : Span) (hand : Option Carried) →
        ((with_lane dir (record (lane_of dir span) { hand = hand }) span).forth.to ≡ span.forth.to) × ((with_lane dir (record (lane_of dir span) { hand = hand }) span).back.to ≡ span.back.to)
    ends_kept Forth span hand = (refl, refl)
    ends_kept Back span hand = (refl, refl)

    of_queue : (lane_of dir (span_at w l)).hand ≡ None → (first : Option Carried) → first_copy dir (span_at w l).link.rows ≡ first → IsSound capacity (or_same w (taken_by w l dir (first, (take_step (span_at w l).link dir).1)))
    of_queue free None e = h
    of_queue free (Some c) e =
        let k = ends_kept dir (span_at w l) (Some c) in
        sound_span capacity w l _ k.0 k.1 (span_taken w.places w.records (span_at w l) dir c free e) h

    by_case : (hand : Option Carried) → (lane_of dir (span_at w l)).hand ≡ hand → IsSound capacity (or_same w (take_to w l dir hand))
    by_case (Some held) e = h
    by_case None e = of_queue e (first_copy dir (span_at w l).link.rows) refl

sound_injected : (capacity : ℕ) (w : World) (l : ℕ) (dir : Dir) (octets : List ℕ) → IsSound capacity w → IsSound capacity (or_same w (injected_at w l dir octets))
sound_injected capacity w l dir octets h = by_case (nat_lt 2048 (length octets))
  where
    by_case : (b : Bool) → IsSound capacity (or_same w (if b then Err TooLong else Ok (with_span w l (with_link (inject_step (span_at w l).link dir (record { probe = None; octets = octets })).1 (span_at w l)))))
    by_case true = h
    by_case false = sound_span capacity w l _ refl refl (span_injected w.places w.records (span_at w l) dir (record { probe = None; octets = octets })) h

-- ---- any step

-- a refusal, or what comes of a test that was met
guarded : (capacity : ℕ) (w : World) (b : Bool) (r : Result World WorldFault) (f : WorldFault) → IsSound capacity w → (b ≡ true → IsSound capacity (or_same w r)) → IsSound capacity (or_same w (if b then r else Err f))
guarded capacity w true r f h met = met refl
guarded capacity w false r f h met = h

pub below_by : (a b : ℕ) → nat_lt a b ≡ true → a < b
below_by a b h = grind arith

pub node_below : (capacity : ℕ) (w : World) (n : ℕ) → IsSound capacity w → has_node w n ≡ true → n < length w.records
node_below capacity w n h e = let counted = h.counted in let below = below_by n (length w.places) e in omega (arith, counted, below)

pub keeps : (capacity : ℕ) (w : World) (step : Step) → IsSound capacity w → IsSound capacity (or_same w (tried capacity w step))
unfolding tried
keeps capacity w (Clock at) h = record { counted = h.counted; legal = h.legal; agree = h.agree; distinct = h.distinct }
keeps capacity w (Send n from dst vlan ethertype payload) h =
    guarded capacity w (has_node w n) _ _ h (λ e. sound_own capacity w n (event.Send from dst vlan ethertype payload) (node_below capacity w n h e) (λ port. refl) h)
keeps capacity w (Supervise n about) h = guarded capacity w (has_node w n) _ _ h (λ e. sound_own capacity w n (event.Supervise about) (node_below capacity w n h e) (λ port. refl) h)
keeps capacity w (Age n) h = guarded capacity w (has_node w n) _ _ h (λ e. sound_own capacity w n event.Age (node_below capacity w n h e) (λ port. refl) h)
keeps capacity w (Put n port) h =
    guarded capacity w (has_node w n) _ _ h (λ e. guarded capacity w (has_port w n port) _ _ h (λ f. sound_put capacity w (spot_from (record { node = n; port = port }) 0 w.spans) h))
keeps capacity w (Take l dir) h = guarded capacity w (has_link w l) _ _ h (λ e. sound_take capacity w l dir h)
keeps capacity w (Judge n port) h =
    guarded capacity w (has_node w n) _ _ h (λ e. guarded capacity w (has_port w n port) _ _ h (λ f. sound_judged capacity w (record { node = n; port = port }) (node_below capacity w n h e) h))
keeps capacity w (Cut l) h = guarded capacity w (has_link w l) _ _ h (λ e. sound_span capacity w l _ refl refl (span_cut w.places w.records (span_at w l)) h)
keeps capacity w (Mend l) h = guarded capacity w (has_link w l) _ _ h (λ e. sound_span capacity w l _ refl refl (span_mended w.places w.records (span_at w l)) h)
keeps capacity w (Inject l dir octets) h = guarded capacity w (has_link w l) _ _ h (λ e. sound_injected capacity w l dir octets h)

pub always_sound : AlwaysSound
always_sound capacity [] w h = h
always_sound capacity (step ∷ steps) w h = always_sound capacity steps (or_same w (tried capacity w step)) (keeps capacity w step h)

-- the same of a step that was done
pub kept_by : (capacity : ℕ) (w after : World) (step : Step) → tried capacity w step ≡ Ok after → IsSound capacity w → IsSound capacity after
kept_by capacity w after step e h = subst (λ (r : Result World WorldFault). IsSound capacity (or_same w r)) e (keeps capacity w step h)
