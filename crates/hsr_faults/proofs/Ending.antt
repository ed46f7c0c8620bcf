-- The channels that end at nodes, and the nodes at the ends of channels that are found.
use Rattle.std.proofs.Common.{◌≡◌, ℕ, ◌+◌, ◌<◌, ◌≤◌, ◌==◌, Bool, true, false, if◌then◌else◌, List, length, slice_index_or, refl, sym, ap, ◌∙◌, subst, arith, ⊎_elim, eq-eqb, eqb-true, ltb-true, lt-ltb}
use Rattle.std.specs.Prelude.{nat_lt, ◌↔◌, IsTrue}
use Rattle.std.proofs.lemmas.Bool.{and_from, and_parts, cases_lt, false≢true}
use Rattle.hsr_run_laws.specs.Run.{Run}
use Rattle.hsr_network_laws.specs.Network.{Channel, stop_of}
use Rattle.hsr_routes.specs.Search.{IsFound}
use Rattle.hsr_bitset.specs.Numbers.{has, has_bit}
use Rattle.hsr_routes.specs.Numbered.{channel_at, is_found, number_of}
use Rattle.hsr_routes.proofs.Spreading.{few, numbered, number_back}
use Rattle.hsr_faults.specs.Search.{AreInto}
use Rattle.hsr_faults.specs.Sets.{Meet}
use Rattle.hsr_faults.specs.declared.channels.Channels.{Channels}

-- ---- to a node

abbrev pub StopsBelow : Run → ℕ → ℕ → List ℕ → Type 0
StopsBelow net node j set = (n : ℕ) → (has set n ≡ true) ↔ ((n < j) × ((stop_of net (channel_at n)).node ≡ node))

pub stops_more : (net : Run) (node j : ℕ) (b : Bool) (set more : List ℕ) (here : ℕ) → here ≡ (stop_of net (channel_at j)).node → b ≡ (here == node) →
    ((n : ℕ) → has more n ≡ (if n == j then b else has set n)) → StopsBelow net node j set → StopsBelow net node (j + 1) more
stops_more net node j b set more here at is put s n = by_test (n == j) refl (put n)
  where
    by_test : (t : Bool) → (n == j) ≡ t → has more n ≡ (if t then b else has set n) → (has more n ≡ true) ↔ ((n < j + 1) × ((stop_of net (channel_at n)).node ≡ node))
    by_test true same now =
        let this : n ≡ j = eqb-true n j same in
        let at_this : (stop_of net (channel_at n)).node ≡ here = ap (λ m. (stop_of net (channel_at m)).node) this ∙ sym at in (
          λ h. (omega (arith, this), at_this ∙ eqb-true here node (sym is ∙ (sym now ∙ h))),
          λ h. now ∙ (is ∙ eq-eqb here node (sym at_this ∙ h.1)),
        )
    by_test false same now = (
      λ h. let before = (s n).0 (sym now ∙ h) in let low = before.0 in (omega (arith, low), before.1),
      λ h. now ∙ (s n).1 (lower h.0, h.1),
    )
      where
        lower : n < j + 1 → n < j
        lower low = ⊎_elim (λ (l : n < j). l) (λ high. let this : n ≡ j = omega (arith, low, high) in absurd (false≢true (sym same ∙ eq-eqb n j this))) (cases_lt n j)

-- ---- found

abbrev pub EndBelow : List Channels → List ℕ → ℕ → ℕ → Type 0
EndBelow into found j nodes = (k : ℕ) (d : Channels) → k < j → (has_bit nodes k ≡ true) ↔ Meet (slice_index_or into k d).words found

pub end_more : (into : List Channels) (found : List ℕ) (j : ℕ) (one : Channels) (b : Bool) (nodes more : ℕ) → j < length into → j < 64 → ((d : Channels) → slice_index_or into j d ≡ one) → (IsTrue b ↔ Meet one.words found) →
    ((k : ℕ) → k < 64 → has_bit more k ≡ (if k == j then b else has_bit nodes k)) → EndBelow into found j nodes → EndBelow into found (j + 1) more
end_more into found j one b nodes more below small at tells put s k d low = by_test (k == j) refl (put k (omega (arith, low, small)))
  where
    by_test : (t : Bool) → (k == j) ≡ t → has_bit more k ≡ (if t then b else has_bit nodes k) → (has_bit more k ≡ true) ↔ Meet (slice_index_or into k d).words found
    by_test true same now =
        let this : k ≡ j = eqb-true k j same in
        let is : slice_index_or into k d ≡ one = ap (λ n. slice_index_or into n d) this ∙ at d in (
          λ h. subst (λ (x : Channels). Meet x.words found) (sym is) (tells.0 (sym now ∙ h)),
          λ h. now ∙ tells.1 (subst (λ (x : Channels). Meet x.words found) is h),
        )
    by_test false same now =
        let lower : k < j = ⊎_elim (λ (l : k < j). l) (λ high. let this : k ≡ j = omega (arith, low, high) in absurd (false≢true (sym same ∙ eq-eqb k j this))) (cases_lt k j) in
        (λ h. (s k d lower).0 (sym now ∙ h), λ h. now ∙ (s k d lower).1 h)

pub ends_are : (net : Run) (into : List Channels) (found : List ℕ) (d : Channels) (j nodes : ℕ) → AreInto net into → length into ≤ j → EndBelow into found j nodes →
    (k : ℕ) → k < length net.places → (has_bit nodes k ≡ true) ↔ IsFound net (is_found net found) k
ends_are net into found d j nodes are most s k below =
    let many = are.many in
    let low : k < j = omega (arith, below, many, most) in
    let stops = are.each k d below in (
      λ h.
          let met = (s k d low).0 h in
          let there = (stops met.number).0 met.first in
          let low_number = there.0 in
          record {
            channel = channel_at met.number;
            is = and_from (nat_lt (channel_at met.number).link (length net.links)) (has found (number_of (channel_at met.number))) (lt-ltb (channel_at met.number).link (length net.links) (omega (arith, low_number)))
                (ap (has found) (number_back met.number) ∙ met.second);
            here = there.1;
          },
      λ (f : IsFound net (is_found net found) k).
          let parts = and_parts (nat_lt f.channel.link (length net.links)) (has found (number_of f.channel)) f.is in
          let inside = few (length net.links) f.channel (ltb-true f.channel.link (length net.links) parts.0) in
          let at : (stop_of net (channel_at (number_of f.channel))).node ≡ k = ap (λ (w : Channel). (stop_of net w).node) (numbered f.channel) ∙ f.here in
          (s k d low).1 (record { number = number_of f.channel; first = (stops (number_of f.channel)).1 (inside, at); second = parts.1 }),
    )
