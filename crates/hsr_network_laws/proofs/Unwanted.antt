-- What no node wants: what is no frame, what it sent itself, what came plain from a ring, and, for a Station, anything on.
use Rattle.std.proofs.Common.{ap, Bool, Err, List, None, Ok, Option, Some, [], arith, false, if◌then◌else◌, inr, refl, suc, sym, true, zero, ℕ, ◌<◌, ◌==◌, ◌||◌, ◌∙◌, ◌∷◌, ◌≡◌}
use Rattle.std.specs.Prelude.{option_map, slice_get}
use Rattle.std.proofs.lemmas.Bool.{false≢true, or_left, or_right}
use Rattle.hsr_frame.specs.Address.{is_among, is_group, is_same_address}
use Rattle.hsr_frame.specs.Cases.{first_of}
use Rattle.hsr_frame.specs.Egress.{Egress, beyond, has_exit, in_mode, is_supervision, nowhere, onward, to, up}
use Rattle.hsr_frame.specs.Egress as out
use Rattle.hsr_frame.specs.Grammar.{Fields}
use Rattle.hsr_frame.specs.declared.egress.Wants.{Wants}
use Rattle.hsr_frame.specs.declared.fault.FrameFault.{FrameFault}
use Rattle.hsr_frame.specs.declared.node.Cause.TheVariants as cause
use Rattle.hsr_frame.specs.declared.node.Mode.{Mode}
use Rattle.hsr_frame.specs.declared.node.Mode.TheVariants.{H, N, U}
use Rattle.hsr_frame.specs.declared.node.RingPort.{RingPort}
use Rattle.hsr_frame.specs.declared.node.RingPort.TheVariants as ring
use Rattle.hsr_tag.specs.Tag.{TaggedFields}
use Rattle.hsr_tag.specs.declared.seen.Seen.TheVariants.{Plain, Tagged}
use Rattle.hsr_danh.specs.Wanted as of_danh
use Rattle.hsr_redbox.specs.Wanted as of_redbox
use Rattle.hsr_redbox.specs.Wanted.{numbered, unnumbered}
use Rattle.hsr_redbox.specs.declared.call.BoxPort.{BoxPort}
use Rattle.hsr_redbox.specs.declared.call.BoxPort.TheVariants as box
use Rattle.hsr_redbox.specs.declared.wanted.Handling.{Handling}
use Rattle.hsr_quadbox.specs.Wanted as of_quadbox
use Rattle.hsr_quadbox.specs.declared.wanted.QuadPort.{QuadPort}
use Rattle.hsr_quadbox.specs.declared.wanted.QuadPort.TheVariants as quad
use Rattle.hsr_node.specs.Flow.{wanted_at, wants}
use Rattle.hsr_node.specs.Place.{ports}
use Rattle.hsr_node.specs.Record.{box_handling, station_wanted}
use Rattle.hsr_node.specs.Step.{box_port, quad_port, ring_port}
use Rattle.hsr_node.specs.declared.place.Place.{Place}
use Rattle.hsr_node.specs.declared.place.Place.TheVariants.{Danh, RedBox, QuadBox, Station}
use Rattle.hsr_network_laws.proofs.Wants.{not_among}
use Rattle.hsr_run_laws.proofs.RingWants.{no_life, wants_not_up}
use Rattle.hsr_run_laws.proofs.Danh.{danh_tagged}
use Rattle.hsr_run_laws.proofs.Records.{IsSource}
use Rattle.hsr_run_laws.proofs.Same.{address_other, address_same}
use Rattle.hsr_run_laws.proofs.Views.{Came}
use Rattle.hsr_run_laws.proofs.Wanted.{no_exit}
use Rattle.hsr_network_laws.specs.Network.{HasAddress, is_edge, is_station}
use Rattle.hsr_network_laws.proofs.Sides.{exit_of}

-- ---- what is no frame

pub fault_unwanted : (place : Place) (known : List ℕ → Bool) (port : ℕ) (fault : FrameFault) (e : Egress) → wants place known port (Err fault) e ≡ false
fault_unwanted (Danh mac mode) known port fault e = by_port (ring_port port)
  where
    by_port : (o : Option RingPort) → wanted_at (option_map (λ x. unnumbered (of_danh.wanted mac mode x (Err fault))) o) e ≡ false
    by_port None = refl
    by_port (Some x) = no_exit (cause.Malformed fault) e
fault_unwanted (RedBox mac mode) known port fault e = by_port (box_port port)
  where
    by_port : (o : Option BoxPort) → wanted_at (option_map (λ x. box_handling mac mode known x (Err fault)) o) e ≡ false
    by_port None = refl
    by_port (Some box.A) = no_exit (cause.Malformed fault) e
    by_port (Some box.B) = no_exit (cause.Malformed fault) e
    by_port (Some box.I) = no_exit (cause.Malformed fault) e
fault_unwanted QuadBox known port fault e = by_port (quad_port port)
  where
    by_port : (o : Option QuadPort) → wanted_at (option_map (λ x. unnumbered (of_quadbox.wanted x (Err fault))) o) e ≡ false
    by_port None = refl
    by_port (Some x) = no_exit (cause.Malformed fault) e
fault_unwanted (Station macs) known port fault e = by_port (port == 0)
  where
    by_port : (b : Bool) → wanted_at (if b then Some (unnumbered (station_wanted macs.items (Err fault))) else None) e ≡ false
    by_port true = no_exit (cause.Malformed fault) e
    by_port false = refl

-- ---- what came plain from a ring

quad_tagged : (known : List ℕ → Bool) (port : ℕ) (seen : Came) (e : Egress) → wants QuadBox known port seen e ≡ true → (t : TaggedFields) × (seen ≡ Ok (Tagged t))
quad_tagged known port (Ok (Tagged t)) e h = (t, refl)
quad_tagged known port (Ok (Plain frame)) e h = absurd (false≢true (sym (by_port (quad_port port) e) ∙ h))
  where
    by_port : (o : Option QuadPort) (e : Egress) → wanted_at (option_map (λ x. unnumbered (of_quadbox.wanted x (Ok (Plain frame)))) o) e ≡ false
    by_port None e = refl
    by_port (Some x) e = no_exit cause.Untagged e
quad_tagged known port (Err fault) e h = absurd (false≢true (sym (fault_unwanted QuadBox known port fault e) ∙ h))

box_tagged : (mac : List ℕ) (mode : Mode) (known : List ℕ → Bool) (port : ℕ) (seen : Came) (e : Egress) → port < 2 → wants (RedBox mac mode) known port seen e ≡ true → (t : TaggedFields) × (seen ≡ Ok (Tagged t))
box_tagged mac mode known port (Ok (Tagged t)) e h w = (t, refl)
box_tagged mac mode known zero (Ok (Plain f)) e h w = absurd (false≢true (sym (no_exit cause.Untagged e) ∙ w))
box_tagged mac mode known (suc zero) (Ok (Plain f)) e h w = absurd (false≢true (sym (no_exit cause.Untagged e) ∙ w))
box_tagged mac mode known (suc (suc n)) (Ok (Plain f)) e h w = absurd (omega arith)
box_tagged mac mode known port (Err fault) e h w = absurd (false≢true (sym (fault_unwanted (RedBox mac mode) known port fault e) ∙ w))

-- what is wanted of what comes from a ring is tagged
pub ring_tagged : (place : Place) (known : List ℕ → Bool) (port : ℕ) (seen : Came) (e : Egress) → port < ports place → is_edge place port ≡ false → wants place known port seen e ≡ true → (t : TaggedFields) × (seen ≡ Ok (Tagged t))
ring_tagged (Danh mac mode) known port seen e below edge w = danh_tagged mac mode known port seen e w
ring_tagged (RedBox mac mode) known zero seen e below edge w = box_tagged mac mode known 0 seen e (omega arith) w
ring_tagged (RedBox mac mode) known (suc zero) seen e below edge w = box_tagged mac mode known 1 seen e (omega arith) w
ring_tagged (RedBox mac mode) known (suc (suc zero)) seen e below edge w = absurd (false≢true (sym edge))
ring_tagged (RedBox mac mode) known (suc (suc (suc n))) seen e below edge w = absurd (omega arith)
ring_tagged QuadBox known port seen e below edge w = quad_tagged known port seen e w
ring_tagged (Station macs) known port seen e below edge w = absurd (false≢true (sym edge))

-- ---- nothing plain of a node's own is wanted

own_returned : (own : Bool) (rest : List (Bool × Handling)) (other : Handling) (e : Egress) → own ≡ true → has_exit (first_of ((own, unnumbered (nowhere cause.Returned)) ∷ rest) other).wants.exits e ≡ false
own_returned true rest other e h = no_exit cause.Returned e
own_returned false rest other e h = absurd (false≢true h)

own_shut : (own : Bool) (rest : List (Bool × Wants)) (other : Wants) (e : Egress) → own ≡ true → has_exit (first_of ((own, nowhere cause.Returned) ∷ rest) other).exits e ≡ false
own_shut true rest other e h = no_exit cause.Returned e
own_shut false rest other e h = absurd (false≢true h)

pub at_among : (macs : List (List ℕ)) (mac : List ℕ) (i : ℕ) → slice_get macs i ≡ Some mac → is_among macs mac ≡ true
at_among [] mac i h = absurd cc
at_among (own ∷ macs) mac zero h = let same : own ≡ mac = cc in or_left _ _ (address_same own mac same)
at_among (own ∷ macs) mac (suc i) h = or_right _ _ (at_among macs mac i h)

pub own_plain_unwanted : (place : Place) (known : List ℕ → Bool) (port : ℕ) (f : Fields) (e : Egress) → IsSource place f.src → wants place known port (Ok (Plain f)) e ≡ false
own_plain_unwanted (Danh mac mode) known port f e own = by_port (ring_port port)
  where
    by_port : (o : Option RingPort) → wanted_at (option_map (λ x. unnumbered (of_danh.wanted mac mode x (Ok (Plain f)))) o) e ≡ false
    by_port None = refl
    by_port (Some x) = no_exit cause.Untagged e
own_plain_unwanted (RedBox mac mode) known port f e own = by_port (box_port port)
  where
    by_port : (o : Option BoxPort) → wanted_at (option_map (λ x. box_handling mac mode known x (Ok (Plain f))) o) e ≡ false
    by_port None = refl
    by_port (Some box.A) = no_exit cause.Untagged e
    by_port (Some box.B) = no_exit cause.Untagged e
    by_port (Some box.I) =
        own_returned (is_same_address f.src mac) ((is_same_address f.dst mac, unnumbered (to (up ∷ []))) ∷ (known f.dst, unnumbered (nowhere cause.Local)) ∷ (is_group f.dst, numbered f.src (to (up ∷ out.a ∷ out.b ∷ []))) ∷ [])
        (numbered f.src (to (out.a ∷ out.b ∷ []))) e (address_same f.src mac own)
own_plain_unwanted QuadBox known port f e own = absurd own
own_plain_unwanted (Station macs) known port f e own = by_port (port == 0)
  where
    by_port : (o : Bool) → wanted_at (if o then Some (unnumbered (station_wanted macs.items (Ok (Plain f)))) else None) e ≡ false
    by_port true = own_shut (is_among macs.items f.src) ((is_among macs.items f.dst || is_group f.dst, to (up ∷ [])) ∷ []) (to []) e (at_among macs.items f.src own.0 own.1)
    by_port false = refl

-- ---- a QuadBox wants nothing up, and a Station nothing on

pub quad_not_up : (known : List ℕ → Bool) (port : ℕ) (seen : Came) → wants QuadBox known port seen up ≡ false
quad_not_up known port seen = by_port (quad_port port) seen
  where
    by_port : (o : Option QuadPort) (seen : Came) → wanted_at (option_map (λ x. unnumbered (of_quadbox.wanted x seen)) o) up ≡ false
    by_port None seen = refl
    by_port (Some x) (Ok (Plain f)) = refl
    by_port (Some x) (Err fault) = refl
    by_port (Some quad.A) (Ok (Tagged t)) = refl
    by_port (Some quad.B) (Ok (Tagged t)) = refl
    by_port (Some quad.C) (Ok (Tagged t)) = refl
    by_port (Some quad.D) (Ok (Tagged t)) = refl

station_shut : (own mine : Bool) (n : ℕ) → has_exit (first_of ((own, nowhere cause.Returned) ∷ (mine, to (up ∷ [])) ∷ []) (to [])).exits (exit_of n) ≡ false
station_shut true mine n = no_exit cause.Returned (exit_of n)
station_shut false true zero = refl
station_shut false true (suc zero) = refl
station_shut false true (suc (suc zero)) = refl
station_shut false true (suc (suc (suc n))) = refl
station_shut false false zero = refl
station_shut false false (suc zero) = refl
station_shut false false (suc (suc zero)) = refl
station_shut false false (suc (suc (suc n))) = refl

pub station_lets_none : (place : Place) → is_station place ≡ true → (known : List ℕ → Bool) (port : ℕ) (seen : Came) (n : ℕ) → port < ports place → wants place known port seen (exit_of n) ≡ true → ⊥
station_lets_none (Danh mac mode) s known port seen n h w = false≢true s
station_lets_none (RedBox mac mode) s known port seen n h w = false≢true s
station_lets_none QuadBox s known port seen n h w = false≢true s
station_lets_none (Station macs) s known zero (Ok (Plain f)) n h w = false≢true (sym (station_shut (is_among macs.items f.src) (is_among macs.items f.dst || is_group f.dst) n) ∙ w)
station_lets_none (Station macs) s known zero (Ok (Tagged t)) n h w = false≢true (sym (no_exit cause.Tagged (exit_of n)) ∙ w)
station_lets_none (Station macs) s known zero (Err fault) n h w = false≢true (sym (no_exit (cause.Malformed fault) (exit_of n)) ∙ w)
station_lets_none (Station macs) s known (suc port) seen n h w = omega arith

-- ---- a single frame goes up at no node but the one with its address

-- mode N takes nothing from up
up_in : (mode : Mode) (w : Wants) → has_exit (in_mode mode w).exits up ≡ has_exit w.exits up
up_in H w = refl
up_in N w = refl
up_in U w = refl

box_shut : (mode : Mode) (own same life group near : Bool) (p : RingPort) → same ≡ false → life ≡ false → group ≡ false →
    has_exit (first_of ((own, nowhere cause.Returned) ∷ (same, to (up ∷ onward mode p)) ∷ (life, to (up ∷ beyond p ∷ [])) ∷ (group, to (up ∷ of_redbox.interlink ∷ beyond p ∷ [])) ∷ (near, to (of_redbox.interlink ∷ onward mode p)) ∷ []) (to (beyond p ∷ []))).exits up ≡ false
box_shut mode own true life group near p s l g = absurd (false≢true (sym s))
box_shut mode own false true group near p s l g = absurd (false≢true (sym l))
box_shut mode own false false true near p s l g = absurd (false≢true (sym g))
box_shut mode true false false false near p s l g = refl
box_shut H false false false false true p s l g = refl
box_shut N false false false false true p s l g = refl
box_shut U false false false false true ring.A s l g = refl
box_shut U false false false false true ring.B s l g = refl
box_shut mode false false false false false ring.A s l g = refl
box_shut mode false false false false false ring.B s l g = refl

edge_shut : (own same near group : Bool) (src : List ℕ) → same ≡ false → group ≡ false →
    has_exit (first_of ((own, unnumbered (nowhere cause.Returned)) ∷ (same, unnumbered (to (up ∷ []))) ∷ (near, unnumbered (nowhere cause.Local)) ∷ (group, numbered src (to (up ∷ out.a ∷ out.b ∷ []))) ∷ []) (numbered src (to (out.a ∷ out.b ∷ [])))).wants.exits up ≡ false
edge_shut own true near group src s g = absurd (false≢true (sym s))
edge_shut own same near true src s g = absurd (false≢true (sym g))
edge_shut true false near false src s g = refl
edge_shut false false true false src s g = refl
edge_shut false false false false src s g = refl

station_not_up : (own mine : Bool) → mine ≡ false → has_exit (first_of ((own, nowhere cause.Returned) ∷ (mine, to (up ∷ [])) ∷ []) (to [])).exits up ≡ false
station_not_up own true m = absurd (false≢true (sym m))
station_not_up true false m = refl
station_not_up false false m = refl

-- of what comes tagged, and of what comes plain
pub single_tagged : (place : Place) (known : List ℕ → Bool) (port : ℕ) (t : TaggedFields) → is_group t.dst ≡ false → (HasAddress place t.dst → ⊥) → wants place known port (Ok (Tagged t)) up ≡ false
single_tagged (Danh mac mode) known port t single other = wants_not_up mac mode known port t (inr (single, other))
single_tagged (RedBox mac mode) known port t single other = by_port (box_port port)
  where
    on_ring : (p : RingPort) → has_exit (in_mode mode (of_redbox.wanted_tagged mac mode known p t)).exits up ≡ false
    on_ring p = up_in mode (of_redbox.wanted_tagged mac mode known p t)
        ∙ box_shut mode (is_same_address t.src mac) (is_same_address t.dst mac) (is_supervision t.dst t.kind) (is_group t.dst) (known t.dst) p (address_other t.dst mac other) (no_life t.dst t.kind single) single

    by_port : (o : Option BoxPort) → wanted_at (option_map (λ x. box_handling mac mode known x (Ok (Tagged t))) o) up ≡ false
    by_port None = refl
    by_port (Some box.A) = on_ring ring.A
    by_port (Some box.B) = on_ring ring.B
    by_port (Some box.I) = refl
single_tagged QuadBox known port t single other = quad_not_up known port (Ok (Tagged t))
single_tagged (Station macs) known port t single other = by_port (port == 0)
  where
    by_port : (b : Bool) → wanted_at (if b then Some (unnumbered (station_wanted macs.items (Ok (Tagged t)))) else None) up ≡ false
    by_port true = refl
    by_port false = refl

pub single_plain : (place : Place) (known : List ℕ → Bool) (port : ℕ) (f : Fields) → is_group f.dst ≡ false → (HasAddress place f.dst → ⊥) → wants place known port (Ok (Plain f)) up ≡ false
single_plain (Danh mac mode) known port f single other = by_port (ring_port port)
  where
    by_port : (o : Option RingPort) → wanted_at (option_map (λ x. unnumbered (of_danh.wanted mac mode x (Ok (Plain f)))) o) up ≡ false
    by_port None = refl
    by_port (Some x) = refl
single_plain (RedBox mac mode) known port f single other = by_port (box_port port)
  where
    by_port : (o : Option BoxPort) → wanted_at (option_map (λ x. box_handling mac mode known x (Ok (Plain f))) o) up ≡ false
    by_port None = refl
    by_port (Some box.A) = refl
    by_port (Some box.B) = refl
    by_port (Some box.I) = edge_shut (is_same_address f.src mac) (is_same_address f.dst mac) (known f.dst) (is_group f.dst) f.src (address_other f.dst mac other) single
single_plain QuadBox known port f single other = quad_not_up known port (Ok (Plain f))
single_plain (Station macs) known port f single other = by_port (port == 0)
  where
    mine : (is_among macs.items f.dst || is_group f.dst) ≡ false
    mine = ap (λ b. b || is_group f.dst) (not_among macs.items f.dst other) ∙ single

    by_port : (b : Bool) → wanted_at (if b then Some (unnumbered (station_wanted macs.items (Ok (Plain f)))) else None) up ≡ false
    by_port true = station_not_up (is_among macs.items f.src) (is_among macs.items f.dst || is_group f.dst) mine
    by_port false = refl
