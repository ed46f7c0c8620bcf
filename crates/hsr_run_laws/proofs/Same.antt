-- Tests that decide equality: of addresses, of keys, of probes.
use Rattle.std.proofs.Common.{◌≡◌, ℕ, ◌==◌, Bool, true, false, List, Option, Some, None, refl, sym, ap, ◌∙◌, eqb-true, eq-eqb, ⊎_elim}
use Rattle.std.specs.Prelude.{nat_eq}
use Rattle.std.specs.List.{list_any, cons_option}
use Rattle.std.proofs.lemmas.Bool.{and_parts, and_from, false≢true, or_right, cases_Bool}
use Rattle.std.proofs.lemmas.Slice.Eq.{bytes_eq-Decides}
use Rattle.hsr_frame.specs.Address.{is_same_address}
use Rattle.hsr_duptable.specs.Key.{Key, is_same_key}
use Rattle.hsr_node.specs.declared.event.Probe.{Probe}
use Rattle.hsr_run_laws.specs.Run.{is_of}

pub same_address : (a b : List ℕ) → is_same_address a b ≡ true → a ≡ b
same_address a b h = (bytes_eq-Decides a b).0 h

pub address_same : (a b : List ℕ) → a ≡ b → is_same_address a b ≡ true
address_same a b e = (bytes_eq-Decides a b).1 e

pub address_other : (a b : List ℕ) → (a ≡ b → ⊥) → is_same_address a b ≡ false
address_other a b other = ⊎_elim (λ same. absurd (other (same_address a b same))) (λ not_same. not_same) (cases_Bool (is_same_address a b))

pub other_address : (a b : List ℕ) → is_same_address a b ≡ false → a ≡ b → ⊥
other_address a b h e = false≢true (sym h ∙ address_same a b e)

pub keys_same : (a b : Key) → a.src ≡ b.src → a.seq ≡ b.seq → a ≡ b
keys_same a b src seq = λ i. record { src = src i; seq = seq i }

pub key_same : (a b : Key) → a ≡ b → is_same_key a b ≡ true
key_same a b e = and_from (is_same_address a.src b.src) (nat_eq a.seq b.seq) (address_same a.src b.src (ap (λ (k : Key). k.src) e)) (eq-eqb a.seq b.seq (ap (λ (k : Key). k.seq) e))

pub probes_same : (p q : Probe) → p.node ≡ q.node → p.place ≡ q.place → p ≡ q
probes_same p q node place = λ i. record { node = node i; place = place i }

pub probe_is : (send : Probe) (other : Option Probe) → is_of send other ≡ true → other ≡ Some send
probe_is send None h = absurd (false≢true h)
probe_is send (Some other) h =
    let parts = and_parts (other.node == send.node) (other.place == send.place) h in
    ap (λ (p : Probe). Some p) (probes_same other send (eqb-true other.node send.node parts.0) (eqb-true other.place send.place parts.1))

pub is_of_itself : (send : Probe) → is_of send (Some send) ≡ true
is_of_itself send = and_from (send.node == send.node) (send.place == send.place) (eq-eqb send.node send.node refl) (eq-eqb send.place send.place refl)

pub any_one_more : {X : Type 0} (p : X → Bool) (o : Option X) (xs : List X) → list_any p xs ≡ true → list_any p (cons_option o xs) ≡ true
any_one_more p None xs h = h
any_one_more p (Some x) xs h = or_right (p x) _ h

pub same_key : (a b : Key) → is_same_key a b ≡ true → a ≡ b
same_key a b h = let parts = and_parts (is_same_address a.src b.src) (nat_eq a.seq b.seq) h in keys_same a b (same_address a.src b.src parts.0) (eqb-true a.seq b.seq parts.1)
