-- Each expected copy is alone, or one observed copy has it, and no other.
use Rattle.std.proofs.Common.{◌≡◌, ◌≢◌, ℕ, zero, suc, ◌+◌, ◌<◌, ◌≤◌, ◌∙◌, ◌==◌, ◌&&◌, Bool, true, false, nat_lt, List, [], ◌∷◌, length, drop, replicate, slice_get, unwrap_or, Option, Some, None, Bor, refl, ap, sym, subst, arith, ◌⊎◌, inl, inr, if◌then◌else◌}
use Rattle.std.proofs.lemmas.Bool.{and_parts, cases_eq, cases_lt, eq-eqb, ne_eqb, lt-ltb, le-ltb}
use Rattle.std.proofs.lemmas.List.{get_or-set_same, get_or-set_other, get_or-replicate, length-replicate, length-set}
use Rattle.std.proofs.lemmas.Option.{slice_get_past, unwrap_or-slice_get}
use Rattle.std.specs.List.{slice_set}
use Rattle.hsr_tap_device.specs.declared.device.Times.{Times}
use Rattle.hsr_playback.specs.declared.expected.Expected.{Expected}
use Rattle.hsr_playback.specs.declared.passage.Passage.{Passage}
use Rattle.hsr_judging.specs.Matching.{Matched, first_alone, fits, found, given, got_by, is_alone, matched, next_turn, over_front, start, turn_of, turned, views}
use Rattle.hsr_judging.proofs.Turning.{views_long}
use Rattle.hsr_judging.specs.Partition.{IsPartition, has_it, holders, one_if}
use Rattle.hsr_judging.specs.Windows.{is_ahead}
use Rattle.hsr_judging.specs.declared.agreement.Rule.{Rule}
use Rattle.hsr_judging.specs.declared.matching.Got.{Got}
use Rattle.hsr_judging.specs.declared.matching.Turn.{Turn}
use Rattle.hsr_judging.specs.declared.matching.Word.{Word}
use Rattle.hsr_judging.specs.declared.matching.Word.TheVariants.{Same, Late, Altered}

-- ---- what is found is alone

-- a choice of the first that fits
chosen : (ahead here fit : Bool) (n m : ℕ) (rest : Option ℕ) (P : ℕ → Type 0) → (here ≡ true → P n) → (rest ≡ Some m → P m)
    → (if ahead then None else (if here && fit then Some n else rest)) ≡ Some m → P m
chosen true here fit n m rest P p q h = absurd (cc)
chosen false false fit n m rest P p q h = q h
chosen false true false n m rest P p q h = q h
chosen false true true n m rest P p q h = let e : n ≡ m = cc in subst P e (p refl)

first_is_alone : (t : Turn) (alone : List Bool) (s : Passage) (n : ℕ) (es : List Expected) (m : ℕ) → first_alone t alone s n es ≡ Some m → is_alone alone m ≡ true
first_is_alone t alone s n [] m h = absurd (cc)
first_is_alone t alone s n (e ∷ es) m h =
    chosen (is_ahead t.window e.moment s.moment) (is_alone alone n) (fits t e s) n m (first_alone t alone s (n + 1) es) (λ k. is_alone alone k ≡ true)
    (λ here. here) (λ r. first_is_alone t alone s (n + 1) es m r) h

-- ---- who is alone after one was taken

within : (alone : List Bool) (n : ℕ) → is_alone alone n ≡ true → n < length alone
within alone n h = elim (cases_lt n (length alone)) as (λ _. n < length alone) [
  | inl less ↦ less
  | inr past ↦ (let none : slice_get alone n ≡ None = slice_get_past alone n past in let same : unwrap_or (slice_get alone n) false ≡ false = ap (λ o. unwrap_or o false) none in absurd (cc))
]

-- a copy that is alone and fits is there
pub free_within : (alone : List Bool) (n : ℕ) (fit : Bool) → (is_alone alone n && fit) ≡ true → n < length alone
free_within alone n fit h = within alone n (and_parts (is_alone alone n) fit h).0

taken_here : (alone : List Bool) (n : ℕ) → n < length alone → is_alone (slice_set alone n false) n ≡ false
taken_here alone n h = unwrap_or-slice_get (slice_set alone n false) n false ∙ get_or-set_same alone n false false h

others_stay : (alone : List Bool) (n i : ℕ) → i ≢ n → is_alone (slice_set alone n false) i ≡ is_alone alone i
others_stay alone n i h =
    unwrap_or-slice_get (slice_set alone n false) i false ∙ get_or-set_other alone n i false false h ∙ sym (unwrap_or-slice_get alone i false)

sum_of : (a b c : Bool) → a ≡ true → b ≡ false → c ≡ true → one_if a + one_if b ≡ one_if c
sum_of false b c p q r = absurd (cc)
sum_of true true c p q r = absurd (cc)
sum_of true false false p q r = absurd (cc)
sum_of true false true p q r = refl

other_of : (a b c : Bool) → a ≡ false → b ≡ c → one_if a + one_if b ≡ one_if c
other_of true b c p q = absurd (cc)
other_of false b c p q = let same : one_if b ≡ one_if c = ap one_if q in omega arith

set_alone : (alone : List Bool) (n i : ℕ) → is_alone alone n ≡ true → one_if (n == i) + one_if (is_alone (slice_set alone n false) i) ≡ one_if (is_alone alone i)
set_alone alone n i h = elim (cases_eq n i) as (λ _. one_if (n == i) + one_if (is_alone (slice_set alone n false) i) ≡ one_if (is_alone alone i)) [
  | inl e ↦ sum_of (n == i) (is_alone (slice_set alone n false) i) (is_alone alone i) (eq-eqb n i e)
      (subst (λ k. is_alone (slice_set alone n false) k ≡ false) e (taken_here alone n (within alone n h))) (subst (λ k. is_alone alone k ≡ true) e h)
  | inr ne ↦ other_of (n == i) (is_alone (slice_set alone n false) i) (is_alone alone i) (ne_eqb n i ne) (others_stay alone n i (λ same. ne (sym same)))
]

-- ---- one copy, a turn, three turns

given_keeps : (word : Word) (alone : List Bool) (o : Option ℕ) (i : ℕ) → ((n : ℕ) → o ≡ Some n → is_alone alone n ≡ true)
    → one_if (has_it i (given word alone o).0) + one_if (is_alone (given word alone o).1 i) ≡ one_if (is_alone alone i)
given_keeps word alone None i h = omega arith
given_keeps word alone (Some n) i h = set_alone alone n i (h n refl)

one_keeps : (t : Turn) (es : List Expected) (alone : List Bool) (g : Option Got) (s : Passage) (i : ℕ)
    → one_if (has_it i (got_by t es alone g s).0) + one_if (is_alone (got_by t es alone g s).1 i) ≡ one_if (has_it i g) + one_if (is_alone alone i)
one_keeps t es alone (Some got) s i = refl
one_keeps t es alone None s i =
    let kept = given_keeps t.word alone (found t es alone s) i (λ n h. first_is_alone t alone s (over_front t.window s.moment es) (drop (over_front t.window s.moment es) es) n h) in omega (arith, kept)

pub turned_keeps : (t : Turn) (es : List Expected) (alone : List Bool) (gs : List (Option Got)) (ss : List Passage) (i : ℕ)
    → holders i (turned t es alone gs ss).0 + one_if (is_alone (turned t es alone gs ss).1 i) ≡ holders i gs + one_if (is_alone alone i)
turned_keeps t es alone [] ss i = refl
turned_keeps t es alone (g ∷ gs) [] i = refl
turned_keeps t es alone (g ∷ gs) (s ∷ ss) i =
    let one = one_keeps t es alone g s i in
    let rest = turned_keeps t es (got_by t es alone g s).1 gs ss i in
    omega (arith, one, rest)

none_held : (n i : ℕ) → holders i (replicate n None) ≡ 0
none_held zero i = refl
none_held (suc n) i = let rest = none_held n i in omega (arith, rest)

all_alone : (n i : ℕ) → one_if (is_alone (replicate n true) i) ≡ one_if (nat_lt i n)
all_alone n i = elim (cases_lt i n) as (λ _. one_if (is_alone (replicate n true) i) ≡ one_if (nat_lt i n)) [
  | inl less ↦ (ap one_if (unwrap_or-slice_get (replicate n true) i false ∙ get_or-replicate n i true false less ∙ sym (lt-ltb i n less)))
  | inr past ↦ (let long : length (replicate n true) ≤ i = omega (arith, length-replicate n true) in
      ap one_if (ap (λ o. unwrap_or o false) (slice_get_past (replicate n true) i long) ∙ sym (le-ltb i n past)))
]

start_parts : (es : List Expected) (ss : List Passage) → IsPartition (length es) (start es ss)
start_parts es ss i = let none = none_held (length ss) i in let all = all_alone (length es) i in omega (arith, none, all)

turn_parts : (t : Turn) (es : List Expected) (ss : List Passage) (m : Matched) → IsPartition (length es) m → IsPartition (length es) (next_turn t es ss m)
turn_parts t es ss m h i = turned_keeps t es m.1 m.0 ss i ∙ h i

pub matched_parts : (times : Times) (rule : Rule) (es : List Expected) (ss : List Passage) → IsPartition (length es) (matched times rule es ss)
unfolding matched
matched_parts times rule es ss =
    turn_parts (turn_of times rule Altered) es ss (next_turn (turn_of times rule Late) es ss (next_turn (turn_of times rule Same) es ss (start es ss)))
    (turn_parts (turn_of times rule Late) es ss (next_turn (turn_of times rule Same) es ss (start es ss))
    (turn_parts (turn_of times rule Same) es ss (start es ss) (start_parts es ss)))

-- ---- as many as there were

given_long : (word : Word) (alone : List Bool) (o : Option ℕ) → length (given word alone o).1 ≡ length alone
given_long word alone None = refl
given_long word alone (Some n) = length-set alone n false

one_long : (t : Turn) (es : List Expected) (alone : List Bool) (g : Option Got) (s : Passage) → length (got_by t es alone g s).1 ≡ length alone
one_long t es alone (Some got) s = refl
one_long t es alone None s = given_long t.word alone (found t es alone s)

gots_long : (t : Turn) (es : List Expected) (alone : List Bool) (gs : List (Option Got)) (ss : List Passage) → length (turned t es alone gs ss).0 ≡ length gs
gots_long t es alone [] ss = refl
gots_long t es alone (g ∷ gs) [] = refl
gots_long t es alone (g ∷ gs) (s ∷ ss) = ap suc (gots_long t es (got_by t es alone g s).1 gs ss)

alone_long : (t : Turn) (es : List Expected) (alone : List Bool) (gs : List (Option Got)) (ss : List Passage) → length (turned t es alone gs ss).1 ≡ length alone
alone_long t es alone [] ss = refl
alone_long t es alone (g ∷ gs) [] = refl
alone_long t es alone (g ∷ gs) (s ∷ ss) = alone_long t es (got_by t es alone g s).1 gs ss ∙ one_long t es alone g s

-- for each observed copy what it has, and for each expected one whether it is alone
abbrev pub AreAll : List Expected → List Passage → Matched → Type 0
AreAll es ss m = (length m.0 ≡ length ss) × (length m.1 ≡ length es)

next_all : (t : Turn) (es : List Expected) (ss : List Passage) (m : Matched) → AreAll es ss m → AreAll es ss (next_turn t es ss m)
next_all t es ss m h = (gots_long t es m.1 m.0 ss ∙ h.0, alone_long t es m.1 m.0 ss ∙ h.1)

start_all : (es : List Expected) (ss : List Passage) → AreAll es ss (start es ss)
start_all es ss = (length-replicate (length ss) None, length-replicate (length es) true)

pub matched_all : (times : Times) (rule : Rule) (es : List Expected) (ss : List Passage) → AreAll es ss (matched times rule es ss)
unfolding matched
matched_all times rule es ss =
    next_all (turn_of times rule Altered) es ss (next_turn (turn_of times rule Late) es ss (next_turn (turn_of times rule Same) es ss (start es ss)))
    (next_all (turn_of times rule Late) es ss (next_turn (turn_of times rule Same) es ss (start es ss))
    (next_all (turn_of times rule Same) es ss (start es ss) (start_all es ss)))

-- ---- three turns, one after the other

turned_at : (t u : Turn) (es : List Expected) (ss : List Passage) (alone left : List Bool) (gs hs : List (Option Got)) → t ≡ u → alone ≡ left → gs ≡ hs
    → ◌≡◌ {A = Matched} (turned t es alone gs ss) (turned u es left hs ss)
turned_at t u es ss alone left gs hs p q r =
    ap (λ (x : Turn). turned x es alone gs ss) p ∙ ap (λ (x : List Bool). turned u es x gs ss) q ∙ ap (λ (x : List (Option Got)). turned u es left x ss) r

-- the turns, with what each was given and gave
pub three_turns : (times : Times) (rule : Rule) (es : List Expected) (ps : List (Bor Passage)) (same late altered : Turn) (nothing first firsts second seconds gots : List (Option Got))
    (alone one two three : List Bool) → same ≡ turn_of times rule Same → late ≡ turn_of times rule Late → altered ≡ turn_of times rule Altered
    → alone ≡ replicate (length es) true → nothing ≡ replicate (length ps) None → firsts ≡ first → seconds ≡ second
    → ◌≡◌ {A = Matched} (first, one) (turned same es alone nothing (views ps)) → ◌≡◌ {A = Matched} (second, two) (turned late es one firsts (views ps))
    → ◌≡◌ {A = Matched} (gots, three) (turned altered es two seconds (views ps)) → ◌≡◌ {A = Matched} (gots, three) (matched times rule es (views ps))
unfolding matched
three_turns times rule es ps same late altered nothing first firsts second seconds gots alone one two three is_same is_late is_altered is_alone is_nothing is_firsts is_seconds p q r =
    let ss : List Passage = views ps in
    let begun : ◌≡◌ {A = Matched} (first, one) (next_turn (turn_of times rule Same) es ss (start es ss)) = p ∙ turned_at same (turn_of times rule Same) es ss alone (replicate (length es) true)
    nothing (replicate (length ss) None) is_same is_alone (is_nothing ∙ ap (λ (n : ℕ). replicate n None) (sym (views_long ps))) in
    let on : ◌≡◌ {A = Matched} (second, two) (next_turn (turn_of times rule Late) es ss (first, one)) = q ∙ turned_at late (turn_of times rule Late) es ss one one firsts first is_late refl is_firsts in
    let last : ◌≡◌ {A = Matched} (gots, three) (next_turn (turn_of times rule Altered) es ss (second, two))
    = r ∙ turned_at altered (turn_of times rule Altered) es ss two two seconds second is_altered refl is_seconds in
    last ∙ ap (λ (m : Matched). next_turn (turn_of times rule Altered) es ss m) (on ∙ ap (λ (m : Matched). next_turn (turn_of times rule Late) es ss m) begun)

-- so what was answered is a partition
pub parted : (times : Times) (rule : Rule) (es : List Expected) (ss : List Passage) (m : Matched) → m ≡ matched times rule es ss → IsPartition (length es) m
parted times rule es ss m e = subst (λ (n : Matched). IsPartition (length es) n) (sym e) (matched_parts times rule es ss)
