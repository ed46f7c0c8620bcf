-- Each name, event and stream of a list.
use Rattle.std.proofs.Common.{◌≡◌, ℕ, ◌+◌, ◌<◌, ◌∙◌, ◌++◌, length, get_or, drop, List, [], ◌∷◌, Bool, Option, Result, Ok, ap, sym, subst}
use Rattle.std.specs.Prelude.{⊤}
use Rattle.std.proofs.lemmas.List.{drop_more}
use Rattle.hsr_topology.specs.declared.end.End.{End}
use Rattle.hsr_plan_text.proofs.Lists.{stays, stays_at}
use Rattle.hsr_toml.specs.Fallible.{◌>>=◌}
use Rattle.hsr_plan_text.specs.Fallible.{Fails, FailsAt, at_spot}
use Rattle.hsr_plan_text.specs.Plan.{Stream}
use Rattle.hsr_plan_text.specs.declared.fault.PlanFault.{PlanFault}
use Rattle.hsr_plan_text.specs.declared.fault.Spot.TheVariants as spot
use Rattle.hsr_plan_text.specs.declared.fault.What.{What}
use Rattle.hsr_plan_text.specs.declared.plan.Event.{Event}
use Rattle.hsr_plan_network.specs.Nodes.{Node}
use Rattle.hsr_plan_text.specs.declared.fault.Refusal.TheVariants.{Idle}
use Rattle.hsr_plan_network.proofs.Passing.{passes_fails, passes_step}
use Rattle.hsr_plan_network.specs.Checks.{each_passes, unless_held}
use Rattle.hsr_plan_schedule.specs.Changes.{each_felt, idle_key, is_felt, last_before, last_of, later}
use Rattle.hsr_plan_schedule.specs.declared.changes.Last.{Last}
use Rattle.hsr_plan_schedule.specs.declared.occasion.Happening.{Happening}
use Rattle.hsr_plan_schedule.specs.Senders.{receives, source, sources}
use Rattle.hsr_plan_schedule.specs.Events.{event}
use Rattle.hsr_plan_schedule.specs.Moments.{sends}
use Rattle.hsr_plan_schedule.specs.Occasions.{events_from, room_behind, sends_from}
use Rattle.hsr_plan_schedule.specs.Publishing.{fits, publications_from, published}
use Rattle.hsr_plan_schedule.specs.declared.occasion.Occasion.{Occasion}
use Rattle.hsr_plan_schedule.specs.declared.publication.Publication.{Publication}
use Rattle.hsr_plan_schedule.specs.declared.publishing.Counted.{Counted}
use Rattle.hsr_plan_schedule.specs.declared.publishing.NextPublication.{NextPublication}
use Rattle.hsr_plan_schedule.specs.declared.occasion.Sender.{Sender}

-- ---- senders

pub sources_step : (nodes : List Node) (dst : List ℕ) (seen : List Sender) (ns : List (List ℕ)) (i : ℕ) (d : List ℕ) (s : Sender) → i < length ns
    → source nodes dst (get_or ns i d) ≡ Ok s → sources nodes dst seen (drop i ns) ≡ sources nodes dst (seen ++ s ∷ []) (drop (i + 1) ns)
sources_step nodes dst seen ns i d s h e =
    ap (sources nodes dst seen) (drop_more ns i d h) ∙ ap (λ r. r >>= λ s. sources nodes dst (seen ++ s ∷ []) (drop (i + 1) ns)) e

pub sources_fail : (nodes : List Node) (dst : List ℕ) (seen : List Sender) (ns : List (List ℕ)) (i : ℕ) (d : List ℕ) (what : What) (whole : Result (List Sender) What) → i < length ns
    → sources nodes dst seen (drop i ns) ≡ whole → Fails what (source nodes dst (get_or ns i d)) → Fails what whole
sources_fail nodes dst seen ns i d what whole h same f =
    subst (Fails what) (sym (ap (sources nodes dst seen) (drop_more ns i d h)) ∙ same) (stays what (source nodes dst (get_or ns i d)) (λ s. sources nodes dst (seen ++ s ∷ []) (drop (i + 1) ns)) f)

-- ---- events

pub events_step : (until : Option ℕ) (nodes : List Node) (links : List (List End)) (seen : List Occasion) (es : List Event) (i : ℕ) (d : Event) (o : Occasion) → i < length es
    → at_spot (spot.Event (length seen)) (event until nodes links (get_or es i d)) ≡ Ok o
    → events_from until nodes links seen (drop i es) ≡ events_from until nodes links (seen ++ o ∷ []) (drop (i + 1) es)
events_step until nodes links seen es i d o h e =
    ap (events_from until nodes links seen) (drop_more es i d h) ∙ ap (λ r. r >>= λ o. events_from until nodes links (seen ++ o ∷ []) (drop (i + 1) es)) e

pub events_fail : (until : Option ℕ) (nodes : List Node) (links : List (List End)) (seen : List Occasion) (es : List Event) (i : ℕ) (d : Event) (e : PlanFault) (whole : Result (List Occasion) PlanFault) → i < length es
    → events_from until nodes links seen (drop i es) ≡ whole → FailsAt e e.what (at_spot (spot.Event (length seen)) (event until nodes links (get_or es i d))) → FailsAt e e.what whole
events_fail until nodes links seen es i d e whole h same f =
    subst (FailsAt e e.what) (sym (ap (events_from until nodes links seen) (drop_more es i d h)) ∙ same)
    (stays_at e e.what (at_spot (spot.Event (length seen)) (event until nodes links (get_or es i d))) (λ o. events_from until nodes links (seen ++ o ∷ []) (drop (i + 1) es)) f)

-- ---- events that change something

pub last_step : (now : ℕ) (too : Bool) (w : Happening) (last : Option Last) (os : List Occasion) (i : ℕ) (d : Occasion) → i < length os
    → last_of now too w last (drop i os) ≡ last_of now too w (later now too w last (get_or os i d)) (drop (i + 1) os)
last_step now too w last os i d h = ap (last_of now too w last) (drop_more os i d h)

abbrev felt_at : List Occasion → ℕ → Occasion → Result ⊤ PlanFault
felt_at all i e = at_spot (spot.Event i) (unless_held (is_felt e.what (last_before all i e)) (Idle (idle_key e.what)))

pub felt_step : (all es : List Occasion) (i : ℕ) (d : Occasion) (u : ⊤) → i < length es
    → at_spot (spot.Event i) (unless_held (is_felt (get_or es i d).what (last_before all i (get_or es i d))) (Idle (idle_key (get_or es i d).what))) ≡ Ok u
    → each_felt all i (drop i es) ≡ each_felt all (i + 1) (drop (i + 1) es)
felt_step all es i d u h e = ap (each_felt all i) (drop_more es i d h) ∙ ap (λ r. r >>= λ _. each_felt all (i + 1) (drop (i + 1) es)) e

pub felt_fail : (all es : List Occasion) (i : ℕ) (d : Occasion) (e : PlanFault) (whole : Result ⊤ PlanFault) → i < length es
    → each_felt all i (drop i es) ≡ whole
    → FailsAt e e.what (at_spot (spot.Event i) (unless_held (is_felt (get_or es i d).what (last_before all i (get_or es i d))) (Idle (idle_key (get_or es i d).what)))) → FailsAt e e.what whole
felt_fail all es i d e whole h same f =
    subst (FailsAt e e.what) (sym (ap (each_felt all i) (drop_more es i d h)) ∙ same) (stays_at e e.what (felt_at all i (get_or es i d)) (λ _. each_felt all (i + 1) (drop (i + 1) es)) f)

-- ---- receivers

pub receives_step : (nodes : List Node) (senders : List Sender) (dst : List ℕ) (xs : List (List ℕ)) (i : ℕ) (d : List ℕ) (u : ⊤) → i < length xs → receives nodes senders dst (get_or xs i d) ≡ Ok u
    → each_passes (receives nodes senders dst) (drop i xs) ≡ each_passes (receives nodes senders dst) (drop (i + 1) xs)
receives_step nodes senders dst = passes_step (receives nodes senders dst)

pub receives_fails : (nodes : List Node) (senders : List Sender) (dst : List ℕ) (xs : List (List ℕ)) (i : ℕ) (d : List ℕ) (what : What) (whole : Result ⊤ What) → i < length xs
    → each_passes (receives nodes senders dst) (drop i xs) ≡ whole → Fails what (receives nodes senders dst (get_or xs i d)) → Fails what whole
receives_fails nodes senders dst = passes_fails (receives nodes senders dst)

-- ---- payloads that fit

pub fits_step : (p : Publication) (s : Stream) (xs : List (List ℕ)) (i : ℕ) (d : List ℕ) (u : ⊤) → i < length xs → fits p s (get_or xs i d) ≡ Ok u
    → each_passes (fits p s) (drop i xs) ≡ each_passes (fits p s) (drop (i + 1) xs)
fits_step p s = passes_step (fits p s)

pub fits_fails : (p : Publication) (s : Stream) (xs : List (List ℕ)) (i : ℕ) (d : List ℕ) (what : What) (whole : Result ⊤ What) → i < length xs
    → each_passes (fits p s) (drop i xs) ≡ whole → Fails what (fits p s (get_or xs i d)) → Fails what whole
fits_fails p s = passes_fails (fits p s)

-- ---- what streams publish

pub publications_step : (until : Option ℕ) (seen : List Publication) (counted : Counted) (ss : List Stream) (i : ℕ) (d : Stream) (p : NextPublication) → i < length ss
    → at_spot (spot.Stream (length seen)) (published until seen counted (get_or ss i d)) ≡ Ok p
    → publications_from until seen counted (drop i ss) ≡ publications_from until (seen ++ p.publication ∷ []) p.counted (drop (i + 1) ss)
publications_step until seen counted ss i d p h e =
    ap (publications_from until seen counted) (drop_more ss i d h) ∙ ap (λ r. r >>= λ p. publications_from until (seen ++ p.publication ∷ []) p.counted (drop (i + 1) ss)) e

pub publications_fail : (until : Option ℕ) (seen : List Publication) (counted : Counted) (ss : List Stream) (i : ℕ) (d : Stream) (e : PlanFault) (whole : Result (List Publication) PlanFault) → i < length ss
    → publications_from until seen counted (drop i ss) ≡ whole → FailsAt e e.what (at_spot (spot.Stream (length seen)) (published until seen counted (get_or ss i d))) → FailsAt e e.what whole
publications_fail until seen counted ss i d e whole h same f =
    subst (FailsAt e e.what) (sym (ap (publications_from until seen counted) (drop_more ss i d h)) ∙ same)
    (stays_at e e.what (at_spot (spot.Stream (length seen)) (published until seen counted (get_or ss i d))) (λ p. publications_from until (seen ++ p.publication ∷ []) p.counted (drop (i + 1) ss)) f)

-- ---- streams

pub sends_step : (nodes : List Node) (until : Option ℕ) (seen : List Occasion) (ss : List Stream) (i : ℕ) (d : Stream) (os : List Occasion) → i < length ss
    → at_spot (spot.Stream i) (sends nodes until (room_behind seen) i (get_or ss i d)) ≡ Ok os
    → sends_from nodes until seen i (drop i ss) ≡ sends_from nodes until (seen ++ os) (i + 1) (drop (i + 1) ss)
sends_step nodes until seen ss i d os h e =
    ap (sends_from nodes until seen i) (drop_more ss i d h) ∙ ap (λ r. r >>= λ os. sends_from nodes until (seen ++ os) (i + 1) (drop (i + 1) ss)) e

pub sends_fail : (nodes : List Node) (until : Option ℕ) (seen : List Occasion) (ss : List Stream) (i : ℕ) (d : Stream) (e : PlanFault) (whole : Result (List Occasion) PlanFault) → i < length ss
    → sends_from nodes until seen i (drop i ss) ≡ whole → FailsAt e e.what (at_spot (spot.Stream i) (sends nodes until (room_behind seen) i (get_or ss i d))) → FailsAt e e.what whole
sends_fail nodes until seen ss i d e whole h same f =
    subst (FailsAt e e.what) (sym (ap (sends_from nodes until seen i) (drop_more ss i d h)) ∙ same)
    (stays_at e e.what (at_spot (spot.Stream i) (sends nodes until (room_behind seen) i (get_or ss i d))) (λ os. sends_from nodes until (seen ++ os) (i + 1) (drop (i + 1) ss)) f)
