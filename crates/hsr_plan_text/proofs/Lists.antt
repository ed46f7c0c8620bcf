-- Each item of an array, each key of a table, each table of a list.
use Rattle.std.proofs.Common.{◌≡◌, ℕ, ◌+◌, ◌<◌, ◌++◌, length, get_or, drop, map, List, [], ◌∷◌, Result, Ok, Err, Bor, ap, string_bytes}
use Rattle.toml.specs.View.{view, items_view, members_view, table_view}
use Rattle.toml.specs.declared.value.Value.{Value}
use Rattle.toml.proofs.Views.{Entry}
use Rattle.hsr_toml.specs.Fallible.{◌>>=◌, each_item, each_member}
use Rattle.hsr_toml.proofs.Fallible.{unless}
use Rattle.hsr_toml.proofs.Lists.{Table, item_fail, item_step, member_fail, member_step, table_fail, table_step}
use Rattle.hsr_plan_text.specs.Fallible.{Fails, FailsAt, Gives, GivesAt, at_spot, each}
use Rattle.hsr_plan_text.specs.Fault.{is_memory, is_memory_at}
use Rattle.hsr_plan_text.specs.Network.{address, mode, name, redbox, ring}
use Rattle.hsr_plan_text.specs.Plan.{Behind, Stream}
use Rattle.hsr_plan_text.specs.Tables.{moment}
use Rattle.hsr_plan_text.specs.Streams.{stream_in}
use Rattle.hsr_plan_text.specs.Events.{end, event_in}
use Rattle.hsr_plan_text.specs.declared.fault.Key.{Key}
use Rattle.hsr_plan_text.specs.declared.fault.PlanFault.{PlanFault}
use Rattle.hsr_plan_text.specs.declared.fault.Spot.{Spot}
use Rattle.hsr_plan_text.specs.declared.fault.Spot.TheVariants as spot
use Rattle.hsr_plan_text.specs.declared.fault.What.{What}
use Rattle.hsr_plan_text.specs.declared.plan.Addressed.{Addressed}
use Rattle.hsr_plan_text.specs.declared.plan.Event.{Event}
use Rattle.hsr_plan_text.specs.declared.plan.InMode.{InMode}
use Rattle.hsr_plan_text.specs.declared.plan.LinkEnd.{LinkEnd}

-- a fault keeps its meaning where its place is put to it
pub spotted : {X Y : Type 0} (see : X → Y) (spot : Spot) (r : Result X What) (said : Result Y What)
    → Gives see r said → GivesAt see (at_spot spot r) (at_spot spot said)
spotted see spot (Ok x) said h = ap (at_spot spot) h
spotted see spot (Err what) said h = unless (is_memory what) (ap (at_spot spot)) h

-- a fault of one step is the fault of all
pub stays : {A B : Type 0} (what : What) (r : Result A What) (f : A → Result B What) → Fails what r → Fails what (r >>= f)
stays what r f h = unless (is_memory what) (ap (λ x. x >>= f)) h

pub stays_at : {A B : Type 0} (e : PlanFault) (what : What) (r : Result A PlanFault) (f : A → Result B PlanFault) → FailsAt e what r → FailsAt e what (r >>= f)
stays_at e what r f h = unless (is_memory what) (ap (λ x. x >>= f)) h

-- ---- names

pub names_step : (key : Key) (seen : List (List ℕ)) (vs : List Value) (i : ℕ) (d : Value) (x : (List ℕ)) → i < length vs → name key (view (get_or vs i d)) ≡ Ok x
    → each_item (name key) seen (items_view (drop i vs)) ≡ each_item (name key) (seen ++ x ∷ []) (items_view (drop (i + 1) vs))
names_step key = item_step (name key)

pub names_fail : (key : Key) (seen : List (List ℕ)) (vs : List Value) (i : ℕ) (d : Value) (what : What) (whole : Result (List (List ℕ)) What) → i < length vs
    → each_item (name key) seen (items_view (drop i vs)) ≡ whole → Fails what (name key (view (get_or vs i d))) → Fails what whole
names_fail key = item_fail (name key) is_memory

-- ---- ends

pub ends_step : (key : Key) (seen : List LinkEnd) (vs : List Value) (i : ℕ) (d : Value) (x : LinkEnd) → i < length vs → end key (view (get_or vs i d)) ≡ Ok x
    → each_item (end key) seen (items_view (drop i vs)) ≡ each_item (end key) (seen ++ x ∷ []) (items_view (drop (i + 1) vs))
ends_step key = item_step (end key)

pub ends_fail : (key : Key) (seen : List LinkEnd) (vs : List Value) (i : ℕ) (d : Value) (what : What) (whole : Result (List LinkEnd) What) → i < length vs
    → each_item (end key) seen (items_view (drop i vs)) ≡ whole → Fails what (end key (view (get_or vs i d))) → Fails what whole
ends_fail key = item_fail (end key) is_memory

-- ---- moments

pub moments_step : (key : Key) (seen : List ℕ) (vs : List Value) (i : ℕ) (d : Value) (x : ℕ) → i < length vs → moment key (view (get_or vs i d)) ≡ Ok x
    → each_item (moment key) seen (items_view (drop i vs)) ≡ each_item (moment key) (seen ++ x ∷ []) (items_view (drop (i + 1) vs))
moments_step key = item_step (moment key)

pub moments_fail : (key : Key) (seen : List ℕ) (vs : List Value) (i : ℕ) (d : Value) (what : What) (whole : Result (List ℕ) What) → i < length vs
    → each_item (moment key) seen (items_view (drop i vs)) ≡ whole → Fails what (moment key (view (get_or vs i d))) → Fails what whole
moments_fail key = item_fail (moment key) is_memory

-- ---- rings

pub rings_step : (seen : List (List (List ℕ))) (es rest : List Entry) (e : Entry) (x : (List (List ℕ))) → es ≡ e ∷ rest → ring (string_bytes e.0) (view e.1) ≡ Ok x
    → each_member ring seen (members_view es) ≡ each_member ring (seen ++ x ∷ []) (members_view rest)
rings_step = member_step ring

pub rings_fail : (seen : List (List (List ℕ))) (es rest : List Entry) (e : Entry) (what : What) (whole : Result (List (List (List ℕ))) What) → es ≡ e ∷ rest
    → each_member ring seen (members_view es) ≡ whole → Fails what (ring (string_bytes e.0) (view e.1)) → Fails what whole
rings_fail = member_fail ring is_memory

-- ---- redboxes

pub redboxes_step : (seen : List Behind) (es rest : List Entry) (e : Entry) (x : Behind) → es ≡ e ∷ rest → redbox (string_bytes e.0) (view e.1) ≡ Ok x
    → each_member redbox seen (members_view es) ≡ each_member redbox (seen ++ x ∷ []) (members_view rest)
redboxes_step = member_step redbox

pub redboxes_fail : (seen : List Behind) (es rest : List Entry) (e : Entry) (what : What) (whole : Result (List Behind) What) → es ≡ e ∷ rest
    → each_member redbox seen (members_view es) ≡ whole → Fails what (redbox (string_bytes e.0) (view e.1)) → Fails what whole
redboxes_fail = member_fail redbox is_memory

-- ---- addresses

pub addresses_step : (seen : List Addressed) (es rest : List Entry) (e : Entry) (x : Addressed) → es ≡ e ∷ rest → address (string_bytes e.0) (view e.1) ≡ Ok x
    → each_member address seen (members_view es) ≡ each_member address (seen ++ x ∷ []) (members_view rest)
addresses_step = member_step address

pub addresses_fail : (seen : List Addressed) (es rest : List Entry) (e : Entry) (what : What) (whole : Result (List Addressed) What) → es ≡ e ∷ rest
    → each_member address seen (members_view es) ≡ whole → Fails what (address (string_bytes e.0) (view e.1)) → Fails what whole
addresses_fail = member_fail address is_memory

-- ---- modes

pub modes_step : (seen : List InMode) (es rest : List Entry) (e : Entry) (x : InMode) → es ≡ e ∷ rest → mode (string_bytes e.0) (view e.1) ≡ Ok x
    → each_member mode seen (members_view es) ≡ each_member mode (seen ++ x ∷ []) (members_view rest)
modes_step = member_step mode

pub modes_fail : (seen : List InMode) (es rest : List Entry) (e : Entry) (what : What) (whole : Result (List InMode) What) → es ≡ e ∷ rest
    → each_member mode seen (members_view es) ≡ whole → Fails what (mode (string_bytes e.0) (view e.1)) → Fails what whole
modes_fail = member_fail mode is_memory

-- ---- streams

pub streams_step : (seen : List Stream) (ts : List (Bor Table)) (i : ℕ) (d : Bor Table) (x : Stream) → i < length ts
    → at_spot (spot.Stream (length seen)) (stream_in (table_view (get_or ts i d).now)) ≡ Ok x
    → each spot.Stream stream_in seen (map (λ t. table_view t.now) (drop i ts)) ≡ each spot.Stream stream_in (seen ++ x ∷ []) (map (λ t. table_view t.now) (drop (i + 1) ts))
streams_step = table_step (λ seen ms. at_spot (spot.Stream (length seen)) (stream_in ms))

pub streams_fail : (seen : List Stream) (ts : List (Bor Table)) (i : ℕ) (d : Bor Table) (e : PlanFault) (whole : Result (List Stream) PlanFault) → i < length ts
    → each spot.Stream stream_in seen (map (λ t. table_view t.now) (drop i ts)) ≡ whole → FailsAt e e.what (at_spot (spot.Stream (length seen)) (stream_in (table_view (get_or ts i d).now))) → FailsAt e e.what whole
streams_fail = table_fail (λ seen ms. at_spot (spot.Stream (length seen)) (stream_in ms)) is_memory_at

-- ---- events

pub events_step : (seen : List Event) (ts : List (Bor Table)) (i : ℕ) (d : Bor Table) (x : Event) → i < length ts
    → at_spot (spot.Event (length seen)) (event_in (table_view (get_or ts i d).now)) ≡ Ok x
    → each spot.Event event_in seen (map (λ t. table_view t.now) (drop i ts)) ≡ each spot.Event event_in (seen ++ x ∷ []) (map (λ t. table_view t.now) (drop (i + 1) ts))
events_step = table_step (λ seen ms. at_spot (spot.Event (length seen)) (event_in ms))

pub events_fail : (seen : List Event) (ts : List (Bor Table)) (i : ℕ) (d : Bor Table) (e : PlanFault) (whole : Result (List Event) PlanFault) → i < length ts
    → each spot.Event event_in seen (map (λ t. table_view t.now) (drop i ts)) ≡ whole → FailsAt e e.what (at_spot (spot.Event (length seen)) (event_in (table_view (get_or ts i d).now))) → FailsAt e e.what whole
events_fail = table_fail (λ seen ms. at_spot (spot.Event (length seen)) (event_in ms)) is_memory_at
