-- Rows of streams, one after another, that tell what was gathered.
use Rattle.std.proofs.Common.{◌≡◌, ℕ, zero, suc, ◌+◌, ◌<◌, ◌≤◌, Bool, List, [], ◌∷◌, ◌++◌, drop, get_or, length, ◌⊎◌, inl, inr, refl, sym, ap, subst, ◌∙◌, arith, append_assoc, Option, Some, None}
use Rattle.std.specs.Prelude.{if◌then◌else◌, min, option_map, option_to_list, slice_get, IfSome}
use Rattle.std.proofs.lemmas.List.{append-nil, drop_more}
use Rattle.std.proofs.lemmas.Option.{same_Some, slice_get_cases}
use Rattle.hsr_bitset.specs.Numbers.{has}
use Rattle.hsr_deliveries.specs.Delivered.{Delivery, deliveries, nodes_below}
use Rattle.hsr_frame.proofs.OneMore.{passing_more}
use Rattle.hsr_latency.specs.declared.grouped.Member.{Member}
use Rattle.hsr_plan_page.specs.declared.facts.StreamRow.{StreamRow}
use Rattle.hsr_plan_sweep.specs.Counting.{outcomes, stream_if}
use Rattle.hsr_plan_report.specs.Missing.{one_missed}
use Rattle.hsr_plan_report.specs.StreamRows.{AreGathered, AreStreamRows, EachNoted, HasNoted, HaveNoted, IsNoted, IsStreamRow, Sends, members, rows_for, time_of}
use Rattle.hsr_plan_report.specs.Streams.{row_of, sends_at}
use Rattle.hsr_plan_report.specs.declared.sent.Sent.{Sent}
use Rattle.hsr_plan_report.specs.declared.streams.Gathered.{Gathered}
use Rattle.hsr_plan_report.specs.declared.streams.Noted.{Noted}

pub members_step : (seen : List Member) (streams : List (Option ℕ)) (last : ℕ) (ds : List Delivery) (i : ℕ) (d : Delivery) → i < length ds
    → seen ++ members streams last i (drop i ds)
    ≡ (seen ++ record { send = (get_or ds i d).send; group = row_of last (stream_if (slice_get streams i)) } ∷ []) ++ members streams last (i + 1) (drop (i + 1) ds)
members_step seen streams last ds i d h =
    ap (λ xs. seen ++ members streams last i xs) (drop_more ds i d h)
    ∙ sym (append_assoc seen (record { send = (get_or ds i d).send; group = row_of last (stream_if (slice_get streams i)) } ∷ []) (members streams last (i + 1) (drop (i + 1) ds)))

none≢some : {X : Type 0} {x : X} → None ≡ Some x → ⊥
none≢some e = cc

pushed : {X : Type 0} (xs : List X) (y x : X) (k : ℕ) → slice_get (xs ++ y ∷ []) k ≡ Some x → (slice_get xs k ≡ Some x) ⊎ ((k ≡ length xs) × (x ≡ y))
pushed [] y x zero at_k = inr (refl, sym (same_Some y x at_k))
pushed [] y x (suc k) at_k = absurd cc
pushed (z ∷ xs) y x zero at_k = inl at_k
pushed (z ∷ xs) y x (suc k) at_k = by_place (pushed xs y x k at_k)
  where
    by_place : (slice_get xs k ≡ Some x) ⊎ ((k ≡ length xs) × (x ≡ y)) → (slice_get (z ∷ xs) (suc k) ≡ Some x) ⊎ ((suc k ≡ length (z ∷ xs)) × (x ≡ y))
    by_place (inl old) = inl old
    by_place (inr new) = inr (ap suc new.0, new.1)

module _ (all : Gathered) (nodes : ℕ) where
  -- one row more
  pub have_more : (rows : List StreamRow) (k : ℕ) (noted : Noted) (row : StreamRow) → length rows ≡ k → IsNoted all nodes k noted → HasNoted noted row → EachNoted all nodes rows
      → EachNoted all nodes (rows ++ row ∷ [])
  have_more rows k noted row long is has have n own at_n = by_place (pushed rows row own n at_n)
    where
      by_place : (slice_get rows n ≡ Some own) ⊎ ((n ≡ length rows) × (own ≡ row)) → (it : Noted) × IsNoted all nodes n it × HasNoted it own
      by_place (inl old) = have n own old
      by_place (inr new) = (noted, subst (λ m. IsNoted all nodes m noted) (sym (new.0 ∙ long)) is, subst (HasNoted noted) (sym new.1) has)

  -- and perhaps another one
  pub have_last : (rows : List StreamRow) (k : ℕ) (noted : Noted) (row : Option StreamRow) → length rows ≡ k → IsNoted all nodes k noted → IfSome row (HasNoted noted) → EachNoted all nodes rows
      → EachNoted all nodes (rows ++ option_to_list row)
  have_last rows k noted None long is has have = subst (EachNoted all nodes) (sym (append-nil rows)) have
  have_last rows k noted (Some row) long is has have = have_more rows k noted row long is has have

-- tests that agree below a number pick the same below it
nodes_same : (n : ℕ) (p q : ℕ → Bool) → ((k : ℕ) → k < n → p k ≡ q k) → nodes_below n p ≡ nodes_below n q
nodes_same zero p q same = refl
nodes_same (suc n) p q same =
    let next : suc n ≡ n + 1 = omega arith in
    ap (λ m. nodes_below m p) next ∙ passing_more p n ∙ ap (λ ks. ks ++ (if p n then n ∷ [] else [])) (nodes_same n p q (λ k low. same k (omega (arith, low))))
    ∙ ap (λ b. nodes_below n q ++ (if b then n ∷ [] else [])) (same n (omega arith)) ∙ sym (passing_more q n) ∙ sym (ap (λ m. nodes_below m q) next)

at_most : (n k : ℕ) → k < min n 512 → k < 512
at_most n k low = omega (arith, low)

each_noted : (s : Sends) (last : ℕ) (all : Gathered) (rows : List StreamRow) → AreGathered s last all → EachNoted all (length s.audience.nodes) rows
    → (k : ℕ) (row : StreamRow) → slice_get rows k ≡ Some row → IsStreamRow s last k row
each_noted s last all rows are have k row here =
    let own = have k row here in
    let noted = own.0 in
    let is = own.1 in
    let tells = own.2 in
    let told = are.sent k noted.sent is.sent in
    let nodes = length s.audience.nodes in
    record {
      sends = tells.sends ∙ told.0;
      complete = tells.complete ∙ told.1;
      missing = tells.missing ∙ is.missing
          ∙ nodes_same (min nodes 512) (has is.set) (λ node. one_missed s.audience s.streams last k node 0 (deliveries s.run)) (λ node low. are.missing k is.set is.is_set node (at_most nodes node low));
      longest = tells.latency ∙ is.latency ∙ ap (option_map time_of) (are.longest.each k is.most is.is_most);
    }

pub rows_noted : (s : Sends) (last : ℕ) (all : Gathered) (rows : List StreamRow) → AreGathered s last all → HaveNoted all (length s.audience.nodes) last rows → AreStreamRows s last rows
rows_noted s last all rows are have = record {
  many = at_last (slice_get all.sent.items last) refl;
  each = each_noted s last all rows are have.each;
}
  where
    at_last : (found : Option Sent) → slice_get all.sent.items last ≡ found
        → length rows ≡ last + rows_for (sends_at s.streams last (outcomes s.audience s.streams 0 (deliveries s.run)) last)
    at_last (Some sent) here = have.many sent here ∙ ap (λ n. last + rows_for n) (are.sent last sent here).0
    at_last None here = absurd (there (slice_get_cases all.sent.items last).1)
      where
        there : ((x : Sent) × (last < length all.sent.items) × (slice_get all.sent.items last ≡ Some x) × (get_or all.sent.items last x ≡ x)) ⊎ ((length all.sent.items ≤ last) × (slice_get all.sent.items last ≡ None)) → ⊥
        there (inl some) = none≢some (sym here ∙ some.2)
        there (inr past) = let long = are.long in omega (arith, long, past.0)
