-- The channels that follow each channel, and how a search goes on by them.
use Rattle.std.proofs.Common.{◌≡◌, inl, inr, ℕ, ◌+◌, ◌*◌, ◌<◌, ◌==◌, ◌&&◌, ◌||◌, not, Bool, true, false, if◌then◌else◌, List, length, Option, refl, sym, ap, ◌∙◌, subst, arith, ⊎_elim, eq-eqb, eqb-true}
use Rattle.std.specs.Prelude.{◌↔◌, IsTrue}
use Rattle.std.proofs.lemmas.Bool.{and_from, and_parts, cases_Bool, cases_lt, false≢true, not-true, or_right}
use Rattle.hsr_frame.specs.Grammar.{Fields}
use Rattle.hsr_node.specs.declared.event.Probe.{Probe}
use Rattle.hsr_run_laws.specs.Run.{Run}
use Rattle.hsr_network_laws.specs.Network.{Channel}
use Rattle.hsr_bitset.specs.Numbers.{has}
use Rattle.hsr_routes.specs.Numbered.{channel_at, is_in, number_of}
use Rattle.hsr_routes.specs.Routes.{IsFree}
use Rattle.hsr_routes.specs.Spread.{Follows, Grows, IsSpread, IsTakenOut, OnlyFollows}
use Rattle.hsr_routes.proofs.Spreading.{few, numbered}
use Rattle.hsr_faults.specs.Onward.{AreFollowing}
use Rattle.hsr_faults.specs.Search.{IsGoneOn}
use Rattle.hsr_faults.specs.Sets.{IsTaken}

-- ---- the channels that follow

module _ (net : Run) (send : Probe) (frame : Fields) (from : Option Channel) where
  -- of the channels with numbers below one
  pub record AreFollowingBelow (j : ℕ) (set : List ℕ) : Type 0 where
    pub only : (n : ℕ) → has set n ≡ true → (n < j) × Follows net send frame from (channel_at n)
    pub all : (n : ℕ) → n < j → Follows net send frame from (channel_at n) → has set n ≡ true

  pub following_start : (set : List ℕ) → ((n : ℕ) → has set n ≡ false) → AreFollowingBelow 0 set
  following_start set none = record { only = λ n is. absurd (false≢true (sym (none n) ∙ is)); all = λ n low. absurd (omega (arith, low)) }

  pub following_more : (j : ℕ) (channel : Channel) (b : Bool) (set more : List ℕ) → channel ≡ channel_at j → (IsTrue b ↔ Follows net send frame from channel) →
      ((n : ℕ) → has more n ≡ (if n == j then b else has set n)) → AreFollowingBelow j set → AreFollowingBelow (j + 1) more
  following_more j channel b set more at tells put s = record {
    only = λ n is. only_by n (n == j) refl (put n) is;
    all = λ n low follows. ⊎_elim
        (λ lower. all_by n (n == j) refl (put n) follows lower)
        (λ high.
        let same : n ≡ j = omega (arith, low, high) in
        put n ∙ (ap (λ t. if t then b else has set n) (eq-eqb n j same) ∙ tells.1 (subst (Follows net send frame from) (ap channel_at same ∙ sym at) follows)))
        (cases_lt n j);
  }
    where
      only_by : (n : ℕ) (t : Bool) → (n == j) ≡ t → has more n ≡ (if t then b else has set n) → has more n ≡ true → (n < j + 1) × Follows net send frame from (channel_at n)
      only_by n true same now is =
          let here : n ≡ j = eqb-true n j same in
          (omega (arith, here), subst (Follows net send frame from) (at ∙ ap channel_at (sym here)) (tells.0 (sym now ∙ is)))
      only_by n false same now is = let before = s.only n (sym now ∙ is) in let low = before.0 in (omega (arith, low), before.1)

      all_by : (n : ℕ) (t : Bool) → (n == j) ≡ t → has more n ≡ (if t then b else has set n) → Follows net send frame from (channel_at n) → n < j → has more n ≡ true
      all_by n true same now follows lower = let here : n ≡ j = eqb-true n j same in absurd (omega (arith, here, lower))
      all_by n false same now follows lower = now ∙ s.all n lower follows

  pub following_all : (j : ℕ) (set : List ℕ) → j ≡ 2 * length net.links → AreFollowingBelow j set → AreFollowing net send frame from set
  following_all j set end s = record {
    only = λ n is. let before = s.only n is in let low = before.0 in (omega (arith, low, end), before.1);
    all = λ channel below follows.
        let low = few (length net.links) channel below in
        s.all (number_of channel) (omega (arith, low, end)) (subst (Follows net send frame from) (sym (numbered channel)) follows);
  }

-- ---- on from a channel

module _ (net : Run) (send : Probe) (frame : Fields) (avoid : List ℕ) (from : Option Channel) (channels f w f1 w1 : List ℕ) (following : AreFollowing net send frame from channels)
    (gone : IsGoneOn channels avoid f w f1 w1) where
  is_new : ℕ → Bool
  is_new n = has channels n && not (has avoid n) && not (has f n)

  record IsNew (n : ℕ) : Type 0 where
    follows : has channels n ≡ true
    free : has avoid n ≡ false
    missing : has f n ≡ false

  new_parts : (n : ℕ) → (has channels n && not (has avoid n) && not (has f n)) ≡ true → IsNew n
  new_parts n is =
      let last = and_parts (has channels n && not (has avoid n)) (not (has f n)) is in
      let first = and_parts (has channels n) (not (has avoid n)) last.0 in
      record { follows = first.0; free = not-true (has avoid n) first.1; missing = not-true (has f n) last.1 }

  new_from : (n : ℕ) → has channels n ≡ true → has avoid n ≡ false → has f n ≡ false → (has channels n && not (has avoid n) && not (has f n)) ≡ true
  new_from n a b c = and_from (has channels n && not (has avoid n)) (not (has f n)) (and_from (has channels n) (not (has avoid n)) a (ap not b)) (ap not c)

  nothing_more : (x y : Bool) → y ≡ false → (x || y) ≡ x
  nothing_more true y is = refl
  nothing_more false y is = is

  so_true : (x y : Bool) → y ≡ true → (x || y) ≡ true
  so_true x y is = or_right x y is

  grows : Grows net f w f1 w1
  grows n low = ⊎_elim
      (λ (is : (has channels n && not (has avoid n) && not (has f n)) ≡ true).
      let parts = new_parts n is in
      inr (record {
        below = (following.only n parts.follows).0;
        missing = parts.missing;
        is = gone.now_found n ∙ so_true (has f n) (has channels n && not (has avoid n) && not (has f n)) is;
        waits = gone.now_waits n ∙ so_true (has w n) (has channels n && not (has avoid n) && not (has f n)) is;
      }))
      (λ (none : (has channels n && not (has avoid n) && not (has f n)) ≡ false). inl (record {
        same = gone.now_found n ∙ nothing_more (has f n) (has channels n && not (has avoid n) && not (has f n)) none;
        waits = gone.now_waits n ∙ nothing_more (has w n) (has channels n && not (has avoid n) && not (has f n)) none;
      }))
      (cases_Bool (has channels n && not (has avoid n) && not (has f n)))

  only : OnlyFollows net send frame (is_in avoid) from f f1
  only channel below missing is = ⊎_elim
      (λ (new : (has channels (number_of channel) && not (has avoid (number_of channel)) && not (has f (number_of channel))) ≡ true).
      let parts = new_parts (number_of channel) new in
      (record { below = below; free = parts.free }, subst (Follows net send frame from) (numbered channel) (following.only (number_of channel) parts.follows).1))
      (λ (none : (has channels (number_of channel) && not (has avoid (number_of channel)) && not (has f (number_of channel))) ≡ false).
      absurd (false≢true (sym missing ∙ (sym (gone.now_found (number_of channel) ∙ nothing_more (has f (number_of channel)) (has channels (number_of channel) && not (has avoid (number_of channel)) && not (has f (number_of channel))) none) ∙ is))))
      (cases_Bool (has channels (number_of channel) && not (has avoid (number_of channel)) && not (has f (number_of channel))))

  all : (channel : Channel) → IsFree net (is_in avoid) channel → Follows net send frame from channel → has f1 (number_of channel) ≡ true
  all channel free follows = gone.now_found (number_of channel) ∙ by_found (has f (number_of channel)) refl
    where
      by_found : (b : Bool) → has f (number_of channel) ≡ b → (has f (number_of channel) || (has channels (number_of channel) && not (has avoid (number_of channel)) && not (has f (number_of channel)))) ≡ true
      by_found true was = ap (λ t. t || (has channels (number_of channel) && not (has avoid (number_of channel)) && not (has f (number_of channel)))) was
      by_found false was = so_true (has f (number_of channel)) (has channels (number_of channel) && not (has avoid (number_of channel)) && not (has f (number_of channel)))
          (new_from (number_of channel) (following.all channel free.below follows) free.free was)

  pub gone_spread : IsSpread net send frame (is_in avoid) from f w f1 w1
  gone_spread = record { grows = grows; only = only; all = all }

-- ---- what is taken out

pub taken_out : (n : ℕ) (w w1 : List ℕ) → IsTaken n w w1 → IsTakenOut n w w1
taken_out n w w1 taken = record { below = let low = taken.below in omega (arith, low); waited = taken.was; left = λ k low. taken.left k }
