-- The copies of a channel come to their ends one after another, each at a moment that is to come.
use Rattle.std.proofs.Common.{◌≡◌, ◌⊎◌, inl, inr, ℕ, ◌-◌, ◌<◌, ◌≤◌, Bool, true, false, List, [], ◌∷◌, ◌++◌, length, Option, Some, None, slice_get, refl, sym, ap, ◌∙◌, subst, arith}
use Rattle.std.specs.Prelude.{if◌then◌else◌}
use Rattle.std.specs.Option.{IfSome}
use Rattle.std.proofs.lemmas.Bool.{false≢true}
use Rattle.std.proofs.lemmas.Option.{slice_get_within}
use Rattle.hsr_link.specs.Rows.{is_queued}
use Rattle.hsr_link.specs.declared.row.Dir.{Dir}
use Rattle.hsr_link.specs.declared.row.Fate.{Fate}
use Rattle.hsr_link.specs.declared.row.Fate.TheVariants.{LostCut}
use Rattle.hsr_link.specs.declared.row.Row.{Row}
use Rattle.hsr_plan_text.specs.declared.plan.Transfer.{Transfer}
use Rattle.hsr_world_laws.specs.World.{World}
use Rattle.hsr_plan_hops.specs.Flights.{Channel, Sight, arrival_if, arrival_on, arrives_at, carrying, flight_of, free_behind, is_cut_off, is_cut_off_if, is_on_way, is_queued_if, kept, no_channel, on_way, put_if, put_on, rows_at}
use Rattle.hsr_plan_hops.specs.Refusing.{IsBadPace}
use Rattle.hsr_plan_hops.specs.declared.flights.Arrival.{Arrival}
use Rattle.hsr_plan_hops.specs.declared.flights.Flight.{Flight}
use Rattle.hsr_plan_hops.proofs.Ends.{IsFrom, IsToCome, comes_in_time, end_of, head_of_put, least, least_behind_put, least_is_to_come, least_of_put, least_rises, none_beyond, soonest}
use Rattle.hsr_plan_hops.proofs.Rows.{AreGrown, NoneWaits}

-- a copy of a link, whose row is there; its first octets are at the end of the link before all are
pub record IsKnown (transfer : Transfer) (l : ℕ) (w : World) (f : Flight) : Type 0 where
  pub link : f.link ≡ l
  pub row : f.row < length (rows_at w f.link)
  pub head : (v : Sight) → arrives_at transfer v f ≤ end_of transfer f

-- those that still wait come to their ends one after another, from one moment up to another
abbrev pub AreInOrder : Transfer → ℕ → World → ℕ → ℕ → List Flight → Type 0
AreInOrder transfer l w to from [] = from ≤ to
AreInOrder transfer l w to from (f ∷ fs) =
    IsKnown transfer l w f × ((is_on_way w f ≡ false × AreInOrder transfer l w to from fs) ⊎ ((from ≤ end_of transfer f) × AreInOrder transfer l w to (end_of transfer f) fs))

module _ (transfer : Transfer) (l : ℕ) (w : World) where
  abbrev InOrder : ℕ → ℕ → List Flight → Type 0
  InOrder = AreInOrder transfer l w

  wider : (from to before behind : ℕ) (fs : List Flight) → before ≤ from → to ≤ behind → InOrder to from fs → InOrder behind before fs
  wider from to before behind [] a b h = omega arith
  wider from to before behind (f ∷ fs) a b (known, inl (gone, rest)) = (known, inl (gone, wider from to before behind fs a b rest))
  wider from to before behind (f ∷ fs) a b (known, inr (le, rest)) = (known, inr (omega arith, wider (end_of transfer f) to (end_of transfer f) behind fs (omega arith) b rest))

  -- the first copy that waits, if one does
  front : (Q : List Flight → Type 0) (f : Flight) (fs : List Flight) → (is_on_way w f ≡ true → Q (f ∷ fs)) → (is_on_way w f ≡ false → Q (on_way w fs)) → Q (on_way w (f ∷ fs))
  front Q f fs here past = by_case (is_on_way w f) refl
    where
      by_case : (b : Bool) → is_on_way w f ≡ b → Q (if b then f ∷ fs else on_way w fs)
      by_case true e = here e
      by_case false e = past e

  trimmed : (from to : ℕ) (fs : List Flight) → InOrder to from fs → InOrder to from (on_way w fs)
  trimmed from to [] h = h
  trimmed from to (f ∷ fs) (known, inl (gone, rest)) = front (InOrder to from) f fs (λ e. (known, inl (gone, rest))) (λ e. trimmed from to fs rest)
  trimmed from to (f ∷ fs) (known, inr (le, rest)) =
      front (InOrder to from) f fs (λ e. (known, inr (le, rest))) (λ e. trimmed from to fs (wider (end_of transfer f) to from to fs le (omega arith) rest))

  one_more : (from to behind : ℕ) (g : Flight) (fs : List Flight) → IsKnown transfer l w g → to ≤ end_of transfer g → end_of transfer g ≤ behind → InOrder to from fs → InOrder behind from (fs ++ g ∷ [])
  one_more from to behind g [] k a b h = (k, inr (omega arith, b))
  one_more from to behind g (f ∷ fs) k a b (known, inl (gone, rest)) = (known, inl (gone, one_more from to behind g fs k a b rest))
  one_more from to behind g (f ∷ fs) k a b (known, inr (le, rest)) = (known, inr (le, one_more (end_of transfer f) to behind g fs k a b rest))

  -- of the copy that comes to its end first
  abbrev First : Sight → (Arrival → Type 0) → List Flight → Type 0
  First v P fs = IfSome (arrival_if transfer v (slice_get fs 0)) P

  -- no other does before
  later_on : (v : Sight) (from to moment behind : ℕ) (fs : List Flight) → to ≤ behind → moment ≤ behind → First v (IsFrom moment) (on_way w fs) → InOrder to from fs → InOrder behind moment fs
  later_on v from to moment behind [] a b soon h = b
  later_on v from to moment behind (f ∷ fs) a b soon (known, inl (gone, rest)) =
      let Q : List Flight → Type 0 = λ xs. First v (IsFrom moment) xs → InOrder behind moment (f ∷ fs) in
      front Q f fs (λ e is. absurd (false≢true (sym gone ∙ e))) (λ e is. (known, inl (e, later_on v from to moment behind fs a b is rest))) soon
  later_on v from to moment behind (f ∷ fs) a b soon (known, inr (le, rest)) =
      let Q : List Flight → Type 0 = λ xs. First v (IsFrom moment) xs → InOrder behind moment (f ∷ fs) in
      let end : ℕ = end_of transfer f in
      front Q f fs
      (λ e is. (known, inr (omega (arith, is, known.head v), wider end to end behind fs (omega arith) a rest)))
      (λ e is. (known, inl (e, later_on v end to moment behind fs a b is rest)))
      soon

  first_in_time : (v : Sight) (from to : ℕ) (fs : List Flight) → soonest v.now v.begun ≤ from → InOrder to from fs → First v (IsToCome v.now v.begun) (on_way w fs)
  first_in_time v from to [] a h = tt
  first_in_time v from to (f ∷ fs) a (known, inl (gone, rest)) =
      front (First v (IsToCome v.now v.begun)) f fs (λ e. absurd (false≢true (sym gone ∙ e))) (λ e. first_in_time v from to fs a rest)
  first_in_time v from to (f ∷ fs) a (known, inr (le, rest)) =
      front (First v (IsToCome v.now v.begun)) f fs
      (λ e. (comes_in_time transfer v f (omega arith), none_beyond transfer v f))
      (λ e. first_in_time v (end_of transfer f) to fs (omega arith) rest)

-- ---- in a world that comes next

module _ (transfer : Transfer) (l : ℕ) (w after : World) (grown : AreGrown w after) where
  still_known : (f : Flight) → IsKnown transfer l w f → IsKnown transfer l after f
  still_known f known = record { link = known.link; row = let longer = (grown f.link).longer in let row = known.row in omega arith; head = known.head }

  still_gone : (f : Flight) → IsKnown transfer l w f → is_on_way w f ≡ false → is_on_way after f ≡ false
  still_gone f known gone = by_case (is_on_way after f) refl
    where
      by_case : (b : Bool) → is_on_way after f ≡ b → b ≡ false
      by_case true e = absurd (false≢true (sym gone ∙ (grown f.link).waiting f.row known.row e))
      by_case false e = refl

  still_in_order : (from to behind : ℕ) (fs : List Flight) → to ≤ behind → AreInOrder transfer l w to from fs → AreInOrder transfer l after behind from fs
  still_in_order from to behind [] a h = omega arith
  still_in_order from to behind (f ∷ fs) a (known, inl (gone, rest)) = (still_known f known, inl (still_gone f known gone, still_in_order from to behind fs a rest))
  still_in_order from to behind (f ∷ fs) a (known, inr (le, rest)) = (still_known f known, inr (le, still_in_order (end_of transfer f) to behind fs a rest))

  none_left : (f : Flight) → NoneWaits (rows_at after l) → IsKnown transfer l w f → is_on_way after f ≡ false
  none_left f none known = ap (λ k. is_queued_if (slice_get (rows_at after k) f.row)) known.link ∙ none f.row

  -- where none waits any more, from any moment on
  all_gone : (from to start behind : ℕ) (fs : List Flight) → NoneWaits (rows_at after l) → start ≤ behind → AreInOrder transfer l w to from fs → AreInOrder transfer l after behind start fs
  all_gone from to start behind [] none a h = a
  all_gone from to start behind (f ∷ fs) none a (known, inl (gone, rest)) = (still_known f known, inl (none_left f none known, all_gone from to start behind fs none a rest))
  all_gone from to start behind (f ∷ fs) none a (known, inr (le, rest)) =
      (still_known f known, inl (none_left f none known, all_gone (end_of transfer f) to start behind fs none a rest))

-- ---- a channel

-- of the link; those of its copies that wait come to their ends one after another, from a moment that is to come up to the least for the next
pub record IsInTime (transfer : Transfer) (now : ℕ) (begun : Bool) (w : World) (l : ℕ) (c : Channel) : Type 0 where
  pub put_last : IfSome c.last (λ g. (g.link ≡ l) × (g.row < length (rows_at w g.link)))
  pub in_order : AreInOrder transfer l w (least transfer now (free_behind w c.last)) (soonest now begun) c.waiting

pub none_put : (transfer : Transfer) (now : ℕ) (begun : Bool) (w : World) (l : ℕ) → ¬ IsBadPace transfer → IsInTime transfer now begun w l no_channel
none_put transfer now begun w l good = record { put_last = tt; in_order = least_is_to_come transfer now 0 begun good }

pub first_arrival : (transfer : Transfer) (v : Sight) (l : ℕ) (c : Channel) → IsInTime transfer v.now v.begun v.world l c → IfSome (arrival_on transfer v c) (IsToCome v.now v.begun)
first_arrival transfer v l c h = first_in_time transfer l v.world v (soonest v.now v.begun) _ c.waiting (omega arith) h.in_order

pub at_moment : (transfer : Transfer) (v : Sight) (moment : ℕ) (begun : Bool) (l : ℕ) (c : Channel) → ¬ IsBadPace transfer → v.now ≤ moment → IfSome (arrival_on transfer v c) (IsFrom (soonest moment begun))
    → IsInTime transfer v.now v.begun v.world l c → IsInTime transfer moment begun v.world l c
at_moment transfer v moment begun l c good later soon h =
    let free : ℕ = free_behind v.world c.last in
    record {
      put_last = h.put_last;
      in_order = later_on transfer l v.world v (soonest v.now v.begun) (least transfer v.now free) (soonest moment begun) (least transfer moment free) c.waiting
          (least_rises transfer v.now moment free free later (omega arith)) (least_is_to_come transfer moment free begun good) soon h.in_order;
    }

free_keeps : (w after : World) (g : Flight) → (is_cut_off_if (slice_get (rows_at after g.link) g.row) ≡ true → is_cut_off_if (slice_get (rows_at w g.link) g.row) ≡ true)
    → free_behind w (Some g) ≤ free_behind after (Some g)
free_keeps w after g = by_case (is_cut_off_if (slice_get (rows_at w g.link) g.row)) (is_cut_off_if (slice_get (rows_at after g.link) g.row))
  where
    by_case : (a b : Bool) → (b ≡ true → a ≡ true) → (if a then 0 else g.ends) ≤ (if b then 0 else g.ends)
    by_case true b h = omega arith
    by_case false true h = absurd (false≢true (h refl))
    by_case false false h = omega arith

pub in_world : (transfer : Transfer) (now : ℕ) (begun : Bool) (w after : World) (l : ℕ) (c : Channel) → ¬ IsBadPace transfer → AreGrown w after → IsInTime transfer now begun w l c → IsInTime transfer now begun after l c
in_world transfer now begun w after l c good grown h = by_case c.last h.put_last h.in_order
  where
    by_case : (o : Option Flight) → IfSome o (λ g. (g.link ≡ l) × (g.row < length (rows_at w g.link)))
        → AreInOrder transfer l w (least transfer now (free_behind w o)) (soonest now begun) c.waiting
        → IsInTime transfer now begun after l (record { waiting = c.waiting; last = o })
    by_case None known order = record { put_last = tt; in_order = still_in_order transfer l w after grown _ _ _ c.waiting (omega arith) order }
    by_case (Some g) known order =
        let longer = (grown g.link).longer in
        let row = known.1 in
        let free : ℕ = free_behind after (Some g) in
        record {
          put_last = (known.0, omega arith);
          in_order = elim (grown g.link).cut_off as (λ x. AreInOrder transfer l after (least transfer now free) (soonest now begun) c.waiting) [
            | inl stays ↦ still_in_order transfer l w after grown _ _ _ c.waiting (least_rises transfer now now _ free (omega arith) (free_keeps w after g (stays g.row row))) order
            | inr none ↦ all_gone transfer l w after grown _ _ _ _ c.waiting (subst (λ k. NoneWaits (rows_at after k)) known.0 none) (least_is_to_come transfer now free begun good) order
          ];
        }

pub kept_in_time : (transfer : Transfer) (now : ℕ) (begun : Bool) (w : World) (l : ℕ) (c : Channel) → IsInTime transfer now begun w l c → IsInTime transfer now begun w l (kept w c)
kept_in_time transfer now begun w l c h = record { put_last = h.put_last; in_order = trimmed transfer l w _ _ c.waiting h.in_order }

not_cut_off : (fate : Fate) → is_queued fate ≡ true → is_cut_off fate ≡ false
not_cut_off LostCut e = absurd (false≢true e)
not_cut_off _ e = refl

pub put_in_time : (transfer : Transfer) (now : ℕ) (begun : Bool) (w : World) (turn l : ℕ) (dir : Dir) (c : Channel) → IsInTime transfer now begun w l c → IsInTime transfer now begun w l (put_on transfer now turn l dir w c)
put_in_time transfer now begun w turn l dir c h = by_case (slice_get (rows_at w l) (length (rows_at w l) - 1)) refl
  where
    number : ℕ
    number = length (rows_at w l) - 1

    free : ℕ
    free = free_behind w c.last

    queued : (row : Row) → slice_get (rows_at w l) number ≡ Some row → is_queued row.fate ≡ true → IsInTime transfer now begun w l (carrying w c (flight_of transfer now turn l dir number free row))
    queued row is waits =
        let g : Flight = flight_of transfer now turn l dir number free row in
        let within : number < length (rows_at w l) = slice_get_within (rows_at w l) number row is in
        let uncut : is_cut_off_if (slice_get (rows_at w l) number) ≡ false = ap is_cut_off_if is ∙ not_cut_off row.fate waits in
        let freed : free_behind w (Some g) ≡ g.ends = ap (λ b. if b then 0 else g.ends) uncut in
        record {
          put_last = (refl, within);
          in_order = one_more transfer l w (soonest now begun) (least transfer now free) (least transfer now (free_behind w (Some g))) g (on_way w c.waiting)
              (record { link = refl; row = within; head = head_of_put now turn l dir number free row transfer })
              (least_of_put now turn l dir number free row transfer)
              (subst (λ n. end_of transfer g ≤ least transfer now n) (sym freed) (least_behind_put now turn l dir number free row transfer))
              (trimmed transfer l w _ _ c.waiting h.in_order);
        }

    by_case : (o : Option Row) → slice_get (rows_at w l) number ≡ o → IsInTime transfer now begun w l (put_if transfer now turn l dir w c o)
    by_case None is = h
    by_case (Some row) is = by_fate (is_queued row.fate) refl
      where
        by_fate : (b : Bool) → is_queued row.fate ≡ b → IsInTime transfer now begun w l (if b then carrying w c (flight_of transfer now turn l dir number free row) else c)
        by_fate true waits = queued row is waits
        by_fate false waits = h
