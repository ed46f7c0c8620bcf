-- A search goes on, channel by channel.
use Rattle.std.proofs.Common.{◌≡◌, ◌⊎◌, inl, inr, ℕ, ◌+◌, ◌*◌, ◌/◌, ◌%◌, ◌<◌, ◌≤◌, ◌==◌, ◌&&◌, not, Bool, true, false, if◌then◌else◌, List, length, slice_index_or, Option, Some, None, refl, sym, ap, ◌∙◌, subst, arith, zero, suc, ⊎_elim, eq-eqb, eqb-true}
use Rattle.std.proofs.lemmas.Bool.{cases_Bool, cases_lt, false≢true}
use Rattle.std.proofs.lemmas.List.{get_or_default}
use Rattle.hsr_frame.specs.Grammar.{Fields}
use Rattle.hsr_node.specs.declared.event.Probe.{Probe}
use Rattle.hsr_link.specs.declared.row.Dir.{Dir}
use Rattle.hsr_link.specs.declared.row.Dir.TheVariants.{Forth, Back}
use Rattle.hsr_run_laws.specs.Run.{Run}
use Rattle.hsr_network_laws.specs.Network.{Channel, start_of}
use Rattle.hsr_routes.specs.Search.{IsSearched}
use Rattle.hsr_network_laws.specs.Channels.{IsNextChannel}
use Rattle.hsr_routes.specs.Routes.{IsFree, LeadsOver, on, sent}
use Rattle.hsr_bitset.specs.Numbers.{has}
use Rattle.hsr_routes.specs.Numbered.{dir_number, is_found, number_of, channel_at}
use Rattle.hsr_routes.specs.Spread.{Follows, Grows, IsAdded, IsAsBefore, IsFront, IsPut, IsSpread, IsTakenOut, OnlyFollows, left_below, left_over, next_node, weight}
use Rattle.hsr_routes.specs.Started.{channels_from}
use Rattle.hsr_routes.proofs.Started.{stands}

-- ---- numbers

pub numbered : (channel : Channel) → channel_at (number_of channel) ≡ channel
numbered channel = by_dir channel.dir
  where
    by_dir : (dir : Dir) → channel_at (2 * channel.link + dir_number dir) ≡ record { link = channel.link; dir = dir }
    by_dir Forth =
        let link : (2 * channel.link + 0) / 2 ≡ channel.link = omega arith in
        let rest : (2 * channel.link + 0) % 2 ≡ 0 = omega arith in
        let even = eq-eqb ((2 * channel.link + 0) % 2) 0 rest in
        λ i. record { link = link i; dir = (λ (b : Bool). if b then Forth else Back) (even i) }
    by_dir Back =
        let link : (2 * channel.link + 1) / 2 ≡ channel.link = omega arith in
        let odd : ((2 * channel.link + 1) % 2 == 0) ≡ false = grind arith in
        λ i. record { link = link i; dir = (λ (b : Bool). if b then Forth else Back) (odd i) }

pub number_back : (n : ℕ) → number_of (channel_at n) ≡ n
number_back n = by_rest (n % 2 == 0) refl
  where
    by_rest : (b : Bool) → (n % 2 == 0) ≡ b → 2 * (n / 2) + dir_number (if b then Forth else Back) ≡ n
    by_rest true is = let even = eqb-true (n % 2) 0 is in omega (arith, even)
    by_rest false is = let odd : n % 2 ≡ 1 = grind (arith, is) in omega (arith, odd)

pub few : (links : ℕ) (channel : Channel) → channel.link < links → number_of channel < 2 * links
few links channel below = by_dir channel.dir
  where
    by_dir : (dir : Dir) → 2 * channel.link + dir_number dir < 2 * links
    by_dir Forth = omega (arith, below)
    by_dir Back = omega (arith, below)

-- ---- what grows

module _ (run : Run) where
  pub grows_not : (found waiting : List ℕ) → Grows run found waiting found waiting
  grows_not found waiting n below = inl (record { same = refl; waits = refl })

  pub grows_on : (f w f1 w1 f2 w2 : List ℕ) → Grows run f w f1 w1 → Grows run f1 w1 f2 w2 → Grows run f w f2 w2
  grows_on f w f1 w1 f2 w2 one two n below =
      ⊎_elim
      (λ (a : IsAsBefore f w f1 w1 n). ⊎_elim
      (λ (b : IsAsBefore f1 w1 f2 w2 n). inl (record { same = b.same ∙ a.same; waits = b.waits ∙ a.waits }))
      (λ (b : IsAdded run f1 f2 w2 n). inr (record { below = b.below; missing = sym a.same ∙ b.missing; is = b.is; waits = b.waits }))
      (two n below))
      (λ (a : IsAdded run f f1 w1 n). ⊎_elim
      (λ (b : IsAsBefore f1 w1 f2 w2 n). inr (record { below = a.below; missing = a.missing; is = b.same ∙ a.is; waits = b.waits ∙ a.waits }))
      (λ (b : IsAdded run f1 f2 w2 n). absurd (false≢true (sym b.missing ∙ a.is)))
      (two n below))
      (one n below)

  -- what was found is found
  pub still : (f w f1 w1 : List ℕ) → Grows run f w f1 w1 → (n : ℕ) → n < 512 → has f n ≡ true → has f1 n ≡ true
  still f w f1 w1 grows n below is =
      ⊎_elim (λ (a : IsAsBefore f w f1 w1 n). a.same ∙ is) (λ (a : IsAdded run f f1 w1 n). a.is) (grows n below)

  -- a number is put
  put_grows : (b : Bool) (number : ℕ) (f w f1 w1 : List ℕ) → number < 2 * length run.links → IsPut b number f w f1 w1 → Grows run f w f1 w1
  put_grows b number f w f1 w1 low put n below = by_is b (n == number) refl (has f number) refl (put.now_found n below) (put.now_waits n below)
    where
      by_is : (b e : Bool) → (n == number) ≡ e → (old : Bool) → has f number ≡ old → has f1 n ≡ (if b && e then true else has f n) →
          has w1 n ≡ (if b && e && not old then true else has w n) → IsAsBefore f w f1 w1 n ⊎ IsAdded run f f1 w1 n
      by_is false e same old was found waits = inl (record { same = found; waits = waits })
      by_is true false same old was found waits = inl (record { same = found; waits = waits })
      by_is true true same true was found waits =
          let at : n ≡ number = eqb-true n number same in
          inl (record { same = found ∙ sym (ap (has f) at ∙ was); waits = waits })
      by_is true true same false was found waits =
          let at : n ≡ number = eqb-true n number same in
          inr (record { below = omega (arith, at, low); missing = ap (has f) at ∙ was; is = found; waits = waits })

  put_there : (number : ℕ) (f w f1 w1 : List ℕ) → number < 512 → IsPut true number f w f1 w1 → has f1 number ≡ true
  put_there number f w f1 w1 below put =
      let same = eq-eqb number number refl in
      put.now_found number below ∙ ap (λ b. if b then true else has f number) same

-- ---- the channels that follow one

pub record IsSpreadBelow (run : Run) (send : Probe) (frame : Fields) (avoid : Channel → Bool) (from : Option Channel) (channels : List Channel) (j : ℕ) (f w f1 w1 : List ℕ) : Type 0 where
  pub grows : Grows run f w f1 w1
  pub only : OnlyFollows run send frame avoid from f f1
  pub all : (i : ℕ) (d : Channel) → i < j → IsFree run avoid (slice_index_or channels i d) → Follows run send frame from (slice_index_or channels i d) → has f1 (number_of (slice_index_or channels i d)) ≡ true

module _ (run : Run) (send : Probe) (frame : Fields) (avoid : Channel → Bool) (from : Option Channel) where
  pub spread_start : (channels : List Channel) (f w : List ℕ) → IsSpreadBelow run send frame avoid from channels 0 f w f w
  spread_start channels f w = record {
    grows = grows_not run f w;
    only = λ channel below missing is. absurd (false≢true (sym missing ∙ is));
    all = λ i d low. absurd (omega (arith, low));
  }

  pub spread_more : (channels : List Channel) (j : ℕ) (channel : Channel) (b : Bool) (f w f1 w1 f2 w2 : List ℕ) → length run.links ≤ 128 → j < length channels → slice_index_or channels j channel ≡ channel → channel.link < length run.links →
      (b ≡ true → IsFree run avoid channel × Follows run send frame from channel) → (IsFree run avoid channel × Follows run send frame from channel → b ≡ true) →
      IsPut b (number_of channel) f1 w1 f2 w2 → IsSpreadBelow run send frame avoid from channels j f w f1 w1 → IsSpreadBelow run send frame avoid from channels (j + 1) f w f2 w2
  spread_more channels j channel b f w f1 w1 f2 w2 small inside at below takes so_takes put s = record {
    grows = grows_on run f w f1 w1 f2 w2 s.grows more;
    only = λ other low missing is. ⊎_elim (λ before. s.only other low missing before) (λ new. newly other low new is) (cases_Bool (has f1 (number_of other)));
    all = λ i d low carries follows.
        ⊎_elim
        (λ lower. still run f1 w1 f2 w2 more (number_of (slice_index_or channels i d)) (in_set i d carries) (s.all i d lower carries follows))
        (λ high. let same : i ≡ j = omega (arith, low, high) in here i d same carries follows)
        (cases_lt i j);
  }
    where
      number_low : number_of channel < 2 * length run.links
      number_low = few (length run.links) channel below

      more : Grows run f1 w1 f2 w2
      more = put_grows run b (number_of channel) f1 w1 f2 w2 number_low put

      in_set : (i : ℕ) (d : Channel) → IsFree run avoid (slice_index_or channels i d) → number_of (slice_index_or channels i d) < 512
      in_set i d carries = let low = few (length run.links) (slice_index_or channels i d) carries.below in omega (arith, low, small)

      here : (i : ℕ) (d : Channel) → i ≡ j → IsFree run avoid (slice_index_or channels i d) → Follows run send frame from (slice_index_or channels i d) → has f2 (number_of (slice_index_or channels i d)) ≡ true
      here i d same carries follows =
          let is : slice_index_or channels i d ≡ channel = ap (λ n. slice_index_or channels n d) same ∙ (get_or_default channels j d channel inside ∙ at) in
          let P : Channel → Type 0 = λ x. IsFree run avoid x in
          let Q : Channel → Type 0 = λ x. Follows run send frame from x in
          let R : Bool → Type 0 = λ t. IsPut t (number_of channel) f1 w1 f2 w2 in
          let chosen = so_takes (subst P is carries, subst Q is follows) in
          ap (λ (x : Channel). has f2 (number_of x)) is ∙ put_there run (number_of channel) f1 w1 f2 w2 (omega (arith, number_low, small)) (subst R chosen put)

      newly : (other : Channel) → other.link < length run.links → has f1 (number_of other) ≡ false → has f2 (number_of other) ≡ true → IsFree run avoid other × Follows run send frame from other
      newly other low missing is =
          let few_other = few (length run.links) other low in
          by_is b refl (number_of other == number_of channel) refl (put.now_found (number_of other) (omega (arith, few_other, small)))
        where
          by_is : (t : Bool) → b ≡ t → (e : Bool) → (number_of other == number_of channel) ≡ e → has f2 (number_of other) ≡ (if t && e then true else has f1 (number_of other)) →
              IsFree run avoid other × Follows run send frame from other
          by_is false off e same found = absurd (false≢true (sym (found ∙ missing) ∙ is))
          by_is true takes_it false same found = absurd (false≢true (sym (found ∙ missing) ∙ is))
          by_is true takes_it true same found =
              let number : number_of channel ≡ number_of other = sym (eqb-true (number_of other) (number_of channel) same) in
              let equal : channel ≡ other = sym (numbered channel) ∙ (ap channel_at number ∙ numbered other) in
              let P : Channel → Type 0 = λ x. IsFree run avoid x × Follows run send frame from x in
              subst P equal (takes takes_it)

  pub spread_all : (channels : List Channel) (j : ℕ) (f w f1 w1 : List ℕ) → channels ≡ channels_from (next_node run send from) 0 run.links → length channels ≤ j →
      IsSpreadBelow run send frame avoid from channels j f w f1 w1 → IsSpread run send frame avoid from f w f1 w1
  spread_all channels j f w f1 w1 is most s = record {
    grows = s.grows;
    only = s.only;
    all = λ channel carries follows.
        let there = stands run (next_node run send from) channel carries.below (starts from channel follows) in
        let low = there.below in
        let long = ap length is in
        let same : slice_index_or channels there.place channel ≡ channel = ap (λ xs. slice_index_or xs there.place channel) is ∙ there.is channel in
        let P : Channel → Type 0 = λ x. IsFree run avoid x in
        let Q : Channel → Type 0 = λ x. Follows run send frame from x in
        sym (ap (λ (x : Channel). has f1 (number_of x)) same)
        ∙ s.all there.place channel (omega (arith, low, long, most)) (subst P (sym same) carries) (subst Q (sym same) follows);
  }
    where
      starts : (o : Option Channel) (channel : Channel) → Follows run send frame o channel → (start_of run channel).node ≡ next_node run send o
      starts None channel follows = follows.node
      starts (Some before) channel follows = follows.node

-- ---- the search

module _ (run : Run) (send : Probe) (frame : Fields) (avoid : Channel → Bool) (small : length run.links ≤ 128) where
  in_set : (channel : Channel) → channel.link < length run.links → number_of channel < 512
  in_set channel below = let low = few (length run.links) channel below in omega (arith, low, small)

  -- from the sender
  pub front_start : (f w f1 w1 : List ℕ) → ((n : ℕ) → has f n ≡ false) → ((n : ℕ) → has w n ≡ false) → IsSpread run send frame avoid None f w f1 w1 → IsFront run send frame avoid f1 w1
  front_start f w f1 w1 no_f no_w s = record {
    comes = λ channel below is. let new = s.only channel below (no_f (number_of channel)) is in sent channel new.0 new.1;
    waits = λ n low waits. ⊎_elim
        (λ (a : IsAsBefore f w f1 w1 n). absurd (false≢true (sym (a.waits ∙ no_w n) ∙ waits)))
        (λ (a : IsAdded run f f1 w1 n). (a.is, a.below))
        (s.grows n low);
    first = s.all;
    next = λ channel next below is idle carries goes. ⊎_elim
        (λ (a : IsAsBefore f w f1 w1 (number_of channel)). absurd (false≢true (sym (a.same ∙ no_f (number_of channel)) ∙ is)))
        (λ (a : IsAdded run f f1 w1 (number_of channel)). absurd (false≢true (sym idle ∙ a.waits)))
        (s.grows (number_of channel) (in_set channel below));
  }

  -- what waits is a channel, to whose end the send comes
  pub waiting_channel : (f w : List ℕ) (n : ℕ) → IsFront run send frame avoid f w → n < 512 → has w n ≡ true → (channel_at n).link < length run.links
  waiting_channel f w n front low waits = let here = (front.waits n low waits).1 in omega (arith, here)

  front_next : (f w w1 f2 w2 : List ℕ) (n : ℕ) → IsFront run send frame avoid f w → IsTakenOut n w w1 → IsSpread run send frame avoid (Some (channel_at n)) f w1 f2 w2 → IsFront run send frame avoid f2 w2
  front_next f w w1 f2 w2 n front out s = record {
    comes = λ channel below is. ⊎_elim
        (λ was. front.comes channel below was)
        (λ new. let takes = s.only channel below new is in on (channel_at n) channel from_here takes.0 takes.1)
        (cases_Bool (has f (number_of channel)));
    waits = λ k low waits. ⊎_elim
        (λ (a : IsAsBefore f w1 f2 w2 k). let was = waited k low (sym a.waits ∙ waits) in let old = front.waits k low was in (a.same ∙ old.0, old.1))
        (λ (a : IsAdded run f f2 w2 k). (a.is, a.below))
        (s.grows k low);
    first = λ channel carries is. still run f w1 f2 w2 s.grows (number_of channel) (in_set channel carries.below) (front.first channel carries is);
    next = goes_on;
  }
    where
      waited : (k : ℕ) → k < 512 → has w1 k ≡ true → has w k ≡ true
      waited k low is = by_is (k == n) (out.left k low)
        where
          by_is : (e : Bool) → has w1 k ≡ (if e then false else has w k) → has w k ≡ true
          by_is true left = absurd (false≢true (sym left ∙ is))
          by_is false left = sym left ∙ is

      from_here : LeadsOver run send frame avoid (channel_at n)
      from_here =
          let found = (front.waits n out.below out.waited).0 in
          front.comes (channel_at n) (waiting_channel f w n front out.below out.waited) (ap (has f) (number_back n) ∙ found)

      goes_on : (channel next : Channel) → channel.link < length run.links → has f2 (number_of channel) ≡ true → has w2 (number_of channel) ≡ false → IsFree run avoid next → IsNextChannel run send frame channel next → has f2 (number_of next) ≡ true
      goes_on channel next below is idle carries goes = ⊎_elim
          (λ (a : IsAsBefore f w1 f2 w2 (number_of channel)). by_is (number_of channel == n) refl (sym a.same ∙ is) (sym a.waits ∙ idle) (out.left (number_of channel) (in_set channel below)))
          (λ (a : IsAdded run f f2 w2 (number_of channel)). absurd (false≢true (sym idle ∙ a.waits)))
          (s.grows (number_of channel) (in_set channel below))
        where
          by_is : (e : Bool) → (number_of channel == n) ≡ e → has f (number_of channel) ≡ true → has w1 (number_of channel) ≡ false → has w1 (number_of channel) ≡ (if e then false else has w (number_of channel)) → has f2 (number_of next) ≡ true
          by_is true same was free left =
              let at : channel ≡ channel_at n = sym (numbered channel) ∙ ap channel_at (eqb-true (number_of channel) n same) in
              let P : Channel → Type 0 = λ x. IsNextChannel run send frame x next in
              s.all next carries (subst P at goes)
          by_is false same was free left =
              still run f w1 f2 w2 s.grows (number_of next) (in_set next carries.below) (front.next channel next below was (sym left ∙ free) carries goes)

  -- nothing waits
  pub searched : (f w : List ℕ) → IsFront run send frame avoid f w → ((n : ℕ) → n < 512 → has w n ≡ false) → IsSearched run send frame avoid (is_found run f)
  searched f w front none = record {
    comes = λ channel is. let both = Rattle.std.proofs.lemmas.Bool.and_parts (Rattle.std.specs.Prelude.nat_lt channel.link (length run.links)) (has f (number_of channel)) is in
        front.comes channel (Rattle.std.proofs.Common.ltb-true channel.link (length run.links) both.0) both.1;
    first = λ channel carries is. found channel carries.below (front.first channel carries is);
    next = λ channel next is carries goes. let both = Rattle.std.proofs.lemmas.Bool.and_parts (Rattle.std.specs.Prelude.nat_lt channel.link (length run.links)) (has f (number_of channel)) is in
        let below = Rattle.std.proofs.Common.ltb-true channel.link (length run.links) both.0 in
        found next carries.below (front.next channel next below both.1 (none (number_of channel) (in_set channel below)) carries goes);
  }
    where
      found : (channel : Channel) → channel.link < length run.links → has f (number_of channel) ≡ true → is_found run f channel ≡ true
      found channel below is = Rattle.std.proofs.lemmas.Bool.and_from (Rattle.std.specs.Prelude.nat_lt channel.link (length run.links)) (has f (number_of channel)) (Rattle.std.proofs.Common.lt-ltb channel.link (length run.links) below) is

-- ---- the search ends

lighter : (run : Run) (f w w1 f2 w2 : List ℕ) (n : ℕ) → IsTakenOut n w w1 → Grows run f w1 f2 w2 → (k : ℕ) → k < 512 → weight (has f2 k) (has w2 k) ≤ weight (has f k) (has w k)
lighter run f w w1 f2 w2 n out grows k low = ⊎_elim
    (λ (a : IsAsBefore f w1 f2 w2 k). same_or_less a)
    (λ (a : IsAdded run f f2 w2 k).
    let P : Bool → Bool → Bool → Bool → Type 0 = λ x y u v. weight x y ≤ weight u v in
    subst (λ x. weight x (has w2 k) ≤ weight (has f k) (has w k)) (sym a.is)
    (subst (λ y. weight true y ≤ weight (has f k) (has w k)) (sym a.waits)
    (subst (λ u. weight true true ≤ weight u (has w k)) (sym a.missing) (omega arith))))
    (grows k low)
  where
    less_by : (x y z e : Bool) → y ≡ (if e then false else z) → weight x y ≤ weight x z
    less_by true y true true is = subst (λ t. weight true t ≤ weight true true) (sym is) (omega arith)
    less_by true y true false is = subst (λ t. weight true t ≤ weight true true) (sym is) (omega arith)
    less_by true y false true is = subst (λ t. weight true t ≤ weight true false) (sym is) (omega arith)
    less_by true y false false is = subst (λ t. weight true t ≤ weight true false) (sym is) (omega arith)
    less_by false y z e is = omega arith

    same_or_less : IsAsBefore f w1 f2 w2 k → weight (has f2 k) (has w2 k) ≤ weight (has f k) (has w k)
    same_or_less a =
        subst (λ x. weight x (has w2 k) ≤ weight (has f k) (has w k)) (sym a.same)
        (less_by (has f k) (has w2 k) (has w k) (k == n) (a.waits ∙ out.left k low))

least : (run : Run) (f w w1 f2 w2 : List ℕ) (n : ℕ) → has f n ≡ true → IsTakenOut n w w1 → Grows run f w1 f2 w2 → weight (has f2 n) (has w2 n) < weight (has f n) (has w n)
least run f w w1 f2 w2 n found out grows = ⊎_elim
    (λ (a : IsAsBefore f w1 f2 w2 n).
    let same = eq-eqb n n refl in
    let free : has w2 n ≡ false = a.waits ∙ (out.left n out.below ∙ ap (λ b. if b then false else has w n) same) in
    subst (λ x. weight x (has w2 n) < weight (has f n) (has w n)) (sym (a.same ∙ found))
    (subst (λ y. weight true y < weight (has f n) (has w n)) (sym free)
    (subst (λ u. weight true false < weight u (has w n)) (sym found)
    (subst (λ v. weight true false < weight true v) (sym out.waited) (omega arith)))))
    (λ (a : IsAdded run f f2 w2 n). absurd (false≢true (sym a.missing ∙ found)))
    (grows n out.below)

left_less : (run : Run) (f w w1 f2 w2 : List ℕ) (n : ℕ) → has f n ≡ true → IsTakenOut n w w1 → Grows run f w1 f2 w2 → left_over f2 w2 < left_over f w
unfolding left_over
left_less run f w w1 f2 w2 n found out grows = under 512 (omega arith) out.below
  where
    no_more : (m : ℕ) → m ≤ 512 → left_below f2 w2 m ≤ left_below f w m
    no_more zero low = omega arith
    no_more (suc m) low =
        let rest = no_more m (omega (arith, low)) in
        let here = lighter run f w w1 f2 w2 n out grows m (omega (arith, low)) in
        omega (arith, rest, here)

    under : (m : ℕ) → m ≤ 512 → n < m → left_below f2 w2 m < left_below f w m
    under zero low inside = absurd (omega (arith, inside))
    under (suc m) low inside = ⊎_elim
        (λ lower.
        let rest = under m (omega (arith, low)) lower in
        let here = lighter run f w w1 f2 w2 n out grows m (omega (arith, low)) in
        omega (arith, rest, here))
        (λ high.
        let same : n ≡ m = omega (arith, inside, high) in
        let rest = no_more m (omega (arith, low)) in
        let least_here : weight (has f2 m) (has w2 m) < weight (has f m) (has w m) = subst (λ k. weight (has f2 k) (has w2 k) < weight (has f k) (has w k)) same (least run f w w1 f2 w2 n found out grows) in
        omega (arith, rest, least_here))
        (cases_lt n m)

-- ---- a step of the search

-- it goes on from a channel that waited, which is told by its number, and less is left to do
pub went_on : (run : Run) (send : Probe) (frame : Fields) (avoid : Channel → Bool) → length run.links ≤ 128 → (channel : Channel) (n : ℕ) (found f w w1 f2 w2 : List ℕ) → channel ≡ channel_at n → found ≡ f →
    IsFront run send frame avoid f w → IsTakenOut n w w1 → IsSpread run send frame avoid (Some channel) found w1 f2 w2 → IsFront run send frame avoid f2 w2 × (left_over f2 w2 < left_over f w)
went_on run send frame avoid small channel n found f w w1 f2 w2 at same front out s =
    let spread : IsSpread run send frame avoid (Some (channel_at n)) f w1 f2 w2 =
    subst (λ (x : List ℕ). IsSpread run send frame avoid (Some (channel_at n)) x w1 f2 w2) same
    (subst (λ (x : Channel). IsSpread run send frame avoid (Some x) found w1 f2 w2) at s) in
    (front_next run send frame avoid small f w w1 f2 w2 n front out spread, left_less run f w w1 f2 w2 n (front.waits n out.below out.waited).0 out spread.grows)
