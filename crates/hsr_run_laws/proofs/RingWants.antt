-- What a DANH wants of a tagged frame: up where it is for the node, and, in mode H or U, across where it is neither from
-- nor only for the node.
use Rattle.std.proofs.Common.{◌≡◌, ◌⊎◌, ◌==◌, ◌&&◌, ◌∙◌, ap, ℕ, Bool, true, false, List, [], ◌∷◌, Option, Some, None, Ok, refl, sym, inl, inr, ⊎_elim}
use Rattle.std.specs.Prelude.{option_map}
use Rattle.std.proofs.lemmas.Bool.{false≢true}
use Rattle.hsr_frame.specs.Address.{is_group, is_same_address, supervision_address}
use Rattle.hsr_frame.specs.Cases.{first_of}
use Rattle.hsr_frame.specs.Egress.{Egress, up, a, b, beyond, in_mode, is_supervision, nowhere, onward, to, has_exit}
use Rattle.hsr_frame.specs.Layout.{ethertype_supervision}
use Rattle.hsr_frame.specs.declared.node.Cause.TheVariants.{Returned}
use Rattle.hsr_frame.specs.declared.node.Mode.{Mode}
use Rattle.hsr_frame.specs.declared.node.Mode.TheVariants.{H, N, U}
use Rattle.hsr_frame.specs.declared.node.RingPort.{RingPort}
use Rattle.hsr_frame.specs.declared.node.RingPort.TheVariants.{A, B}
use Rattle.hsr_tag.specs.Tag.{TaggedFields}
use Rattle.hsr_tag.specs.declared.seen.Seen.TheVariants.{Tagged}
use Rattle.hsr_danh.specs.Wanted as of_danh
use Rattle.hsr_redbox.specs.Wanted.{unnumbered}
use Rattle.hsr_node.specs.Flow.{wanted_at, wants}
use Rattle.hsr_node.specs.Step.{ring_port}
use Rattle.hsr_node.specs.declared.place.Place.TheVariants.{Danh}
use Rattle.hsr_run_laws.proofs.Danh.{Forwards, RingExit, by_a, by_b, egress, exit_port}
use Rattle.hsr_run_laws.proofs.Same.{address_other, address_same, same_address}

-- no supervision frame is to a single address
pub no_life : (dst : List ℕ) (ethertype : ℕ) → is_group dst ≡ false → is_supervision dst ethertype ≡ false
no_life dst ethertype single = by_test (is_same_address dst supervision_address) refl
  where
    by_test : (b : Bool) → is_same_address dst supervision_address ≡ b → (b && (ethertype == ethertype_supervision)) ≡ false
    by_test false e = refl
    by_test true e = absurd (false≢true (sym single ∙ ap is_group (same_address dst supervision_address e)))

-- by the source, the destination and the kinds of frame and address
abbrev wanted_by : Mode → Bool → Bool → Bool → Bool → RingPort → Egress → Bool
wanted_by mode own same life group p e =
    has_exit (in_mode mode (first_of ((own, nowhere Returned) ∷ (same, to (up ∷ onward mode p)) ∷ (life, to (up ∷ beyond p ∷ [])) ∷ (group, to (up ∷ beyond p ∷ [])) ∷ []) (to (beyond p ∷ [])))).exits e

up_by : (mode : Mode) (own same life group : Bool) (p : RingPort) → own ≡ false → (group ≡ false → same ≡ true) → wanted_by mode own same life group p up ≡ true
up_by mode true same life group p o m = absurd (false≢true (sym o))
up_by H false true life group p o m = refl
up_by N false true life group p o m = refl
up_by U false true life group A o m = refl
up_by U false true life group B o m = refl
up_by H false false true group A o m = refl
up_by H false false true group B o m = refl
up_by N false false true group A o m = refl
up_by N false false true group B o m = refl
up_by U false false true group A o m = refl
up_by U false false true group B o m = refl
up_by H false false false true A o m = refl
up_by H false false false true B o m = refl
up_by N false false false true A o m = refl
up_by N false false false true B o m = refl
up_by U false false false true A o m = refl
up_by U false false false true B o m = refl
up_by mode false false false false p o m = absurd (false≢true (m refl))

not_up_by : (mode : Mode) (own same life group : Bool) (p : RingPort) → (own ≡ true) ⊎ ((group ≡ false) × (same ≡ false)) → (group ≡ false → life ≡ false) → wanted_by mode own same life group p up ≡ false
not_up_by H true same life group p h s = refl
not_up_by N true same life group p h s = refl
not_up_by U true same life group p h s = refl
not_up_by mode false true life group p (inl h) s = absurd (false≢true h)
not_up_by mode false true life group p (inr h) s = absurd (false≢true (sym h.1))
not_up_by mode false false life true p (inl h) s = absurd (false≢true h)
not_up_by mode false false life true p (inr h) s = absurd (false≢true (sym h.0))
not_up_by mode false false true false p h s = absurd (false≢true (sym (s refl)))
not_up_by H false false false false A h s = refl
not_up_by H false false false false B h s = refl
not_up_by N false false false false A h s = refl
not_up_by N false false false false B h s = refl
not_up_by U false false false false A h s = refl
not_up_by U false false false false B h s = refl

across_by : (mode : Mode) (own same life group : Bool) → Forwards mode → own ≡ false → same ≡ false → (wanted_by mode own same life group A b ≡ true) × (wanted_by mode own same life group B a ≡ true)
across_by mode true same life group on o s = absurd (false≢true (sym o))
across_by mode false true life group on o s = absurd (false≢true (sym s))
across_by H false false true group on o s = (refl, refl)
across_by H false false false true on o s = (refl, refl)
across_by H false false false false on o s = (refl, refl)
across_by U false false true group on o s = (refl, refl)
across_by U false false false true on o s = (refl, refl)
across_by U false false false false on o s = (refl, refl)
across_by N false false life group (inl h) o s = absurd cc
across_by N false false life group (inr u) o s = absurd cc

-- from a ring port the other one is across
abbrev pub across : RingExit → RingExit
across by_a = by_b
across by_b = by_a

pub wants_up : (mac : List ℕ) (mode : Mode) (known : List ℕ → Bool) (x : RingExit) (t : TaggedFields) → (t.src ≡ mac → ⊥) → (is_group t.dst ≡ false → t.dst ≡ mac) →
    wants (Danh mac mode) known (exit_port x) (Ok (Tagged t)) up ≡ true
wants_up mac mode known by_a t other for_me = up_by mode (is_same_address t.src mac) (is_same_address t.dst mac) (is_supervision t.dst t.kind) (is_group t.dst) A (address_other t.src mac other) (λ g. address_same t.dst mac (for_me g))
wants_up mac mode known by_b t other for_me = up_by mode (is_same_address t.src mac) (is_same_address t.dst mac) (is_supervision t.dst t.kind) (is_group t.dst) B (address_other t.src mac other) (λ g. address_same t.dst mac (for_me g))

pub wants_across : (mac : List ℕ) (mode : Mode) → Forwards mode → (known : List ℕ → Bool) (x : RingExit) (t : TaggedFields) → (t.src ≡ mac → ⊥) → (t.dst ≡ mac → ⊥) →
    wants (Danh mac mode) known (exit_port x) (Ok (Tagged t)) (egress (across x)) ≡ true
wants_across mac mode on known by_a t other further =
    (across_by mode (is_same_address t.src mac) (is_same_address t.dst mac) (is_supervision t.dst t.kind) (is_group t.dst) on (address_other t.src mac other) (address_other t.dst mac further)).0
wants_across mac mode on known by_b t other further =
    (across_by mode (is_same_address t.src mac) (is_same_address t.dst mac) (is_supervision t.dst t.kind) (is_group t.dst) on (address_other t.src mac other) (address_other t.dst mac further)).1

pub wants_not_up : (mac : List ℕ) (mode : Mode) (known : List ℕ → Bool) (port : ℕ) (t : TaggedFields) → (t.src ≡ mac) ⊎ ((is_group t.dst ≡ false) × (t.dst ≡ mac → ⊥)) →
    wants (Danh mac mode) known port (Ok (Tagged t)) up ≡ false
wants_not_up mac mode known port t why = by_port (ring_port port)
  where
    how : (is_same_address t.src mac ≡ true) ⊎ ((is_group t.dst ≡ false) × (is_same_address t.dst mac ≡ false))
    how = ⊎_elim (λ own. inl (address_same t.src mac own)) (λ two. inr (two.0, address_other t.dst mac two.1)) why

    by_port : (o : Option RingPort) → wanted_at (option_map (λ x. unnumbered (of_danh.wanted mac mode x (Ok (Tagged t)))) o) up ≡ false
    by_port None = refl
    by_port (Some p) =
        not_up_by mode (is_same_address t.src mac) (is_same_address t.dst mac) (is_supervision t.dst t.kind) (is_group t.dst) p
        how (no_life t.dst t.kind)
