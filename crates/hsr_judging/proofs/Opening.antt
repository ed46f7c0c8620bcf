-- How many copies in front have a window that is over.
use Rattle.std.proofs.Common.{◌≡◌, ℕ, zero, suc, ◌+◌, ◌-◌, ◌/◌, ◌<◌, ◌≤◌, ◌∙◌, Bool, true, false, nat_lt, List, [], ◌∷◌, length, get_or, drop, Option, Some, None, refl, ap, sym, subst, arith, if◌then◌else◌}
use Rattle.std.proofs.lemmas.Bool.{ltb-true, lt-ltb}
use Rattle.hsr_playback.specs.declared.expected.Expected.{Expected}
use Rattle.hsr_judging.specs.Matching.{over_front}
use Rattle.hsr_judging.specs.Windows.{is_over, us_from}
use Rattle.hsr_judging.specs.declared.window.Window.{Window}

counted : (over : Bool) (rest n : ℕ) → rest ≤ n → (if over then rest + 1 else 0) ≤ n + 1
counted true rest n h = omega arith
counted false rest n h = omega arith

-- no more than there are
pub over_within : (w : Window) (at : ℕ) (es : List Expected) → over_front w at es ≤ length es
over_within w at [] = omega arith
over_within w at (e ∷ es) = let more = counted (is_over w e.moment at) (over_front w at es) (length es) (over_within w at es) in omega (arith, more)

more_over : (over : Bool) (rest i : ℕ) → over ≡ true → i ≤ rest → i + 1 ≤ (if over then rest + 1 else 0)
more_over false rest i p h = absurd (cc)
more_over true rest i p h = omega arith

still_over : (over : Bool) (rest i : ℕ) → i + 1 ≤ (if over then rest + 1 else 0) → i ≤ rest
still_over false rest i h = absurd (omega arith)
still_over true rest i h = omega arith

front_over : (over : Bool) (rest i : ℕ) → i + 1 ≤ (if over then rest + 1 else 0) → over ≡ true
front_over true rest i h = refl
front_over false rest i h = absurd (omega arith)

-- one more that is over
over_more : (w : Window) (at : ℕ) (es : List Expected) (i : ℕ) (d : Expected) → i < length es → i ≤ over_front w at es → is_over w (get_or es i d).moment at ≡ true
    → i + 1 ≤ over_front w at es
over_more w at [] i d h k p = absurd (omega arith)
over_more w at (e ∷ es) zero d h k p = more_over (is_over w e.moment at) (over_front w at es) zero p (omega arith)
over_more w at (e ∷ es) (suc i) d h k p =
    let below : i ≤ over_front w at es = still_over (is_over w e.moment at) (over_front w at es) i (omega (arith, k)) in
    let rest = over_more w at es i d (omega arith) below p in
    let is : is_over w e.moment at ≡ true = front_over (is_over w e.moment at) (over_front w at es) i (omega (arith, k)) in
    let all = more_over (is_over w e.moment at) (over_front w at es) (i + 1) is rest in omega (arith, all)

no_more : (over : Bool) (rest : ℕ) → over ≡ false → (if over then rest + 1 else 0) ≡ 0
no_more true rest p = absurd (cc)
no_more false rest p = refl

one_more : (over : Bool) (rest i : ℕ) → over ≡ true → rest ≡ i → (if over then rest + 1 else 0) ≡ i + 1
one_more false rest i p h = absurd (cc)
one_more true rest i p h = omega arith

-- the first that isn't over
over_end : (w : Window) (at : ℕ) (es : List Expected) (i : ℕ) (d : Expected) → i < length es → i ≤ over_front w at es → is_over w (get_or es i d).moment at ≡ false
    → over_front w at es ≡ i
over_end w at [] i d h k p = absurd (omega arith)
over_end w at (e ∷ es) zero d h k p = no_more (is_over w e.moment at) (over_front w at es) p
over_end w at (e ∷ es) (suc i) d h k p =
    let below : i ≤ over_front w at es = still_over (is_over w e.moment at) (over_front w at es) i (omega (arith, k)) in
    let rest = over_end w at es i d (omega arith) below p in
    let is : is_over w e.moment at ≡ true = front_over (is_over w e.moment at) (over_front w at es) i (omega (arith, k)) in
    let all = one_more (is_over w e.moment at) (over_front w at es) i is rest in omega (arith, all)

-- the same of a copy that stands there
pub over_on : (w : Window) (at : ℕ) (es : List Expected) (i : ℕ) (e : Expected) → i < length es → e ≡ get_or es i e → i ≤ over_front w at es
    → is_over w e.moment at ≡ true → i + 1 ≤ over_front w at es
over_on w at es i e h here k p = over_more w at es i e h k (subst (λ (x : Expected). is_over w x.moment at ≡ true) here p)

pub over_here : (w : Window) (at : ℕ) (es : List Expected) (i : ℕ) (e : Expected) → i < length es → e ≡ get_or es i e → i ≤ over_front w at es
    → is_over w e.moment at ≡ false → i ≡ over_front w at es
over_here w at es i e h here k p = sym (over_end w at es i e h k (subst (λ (x : Expected). is_over w x.moment at ≡ false) here p))

later_over : (w : Window) (cause at later : ℕ) → at ≤ later → is_over w cause at ≡ true → is_over w cause later ≡ true
later_over w cause at later h p =
    let long : w.most < us_from cause at = ltb-true w.most (us_from cause at) p in
    let less : us_from cause at ≤ us_from cause later = omega arith in
    lt-ltb w.most (us_from cause later) (omega arith)

grown : (over later : Bool) (rest more : ℕ) → (over ≡ true → later ≡ true) → rest ≤ more → (if over then rest + 1 else 0) ≤ (if later then more + 1 else 0)
grown false later rest more p h = omega arith
grown true true rest more p h = omega arith
grown true false rest more p h = let no : false ≡ true = p refl in absurd (cc)

-- what is over stays so
pub over_grows : (w : Window) (at later : ℕ) (es : List Expected) → at ≤ later → over_front w at es ≤ over_front w later es
over_grows w at later [] h = omega arith
over_grows w at later (e ∷ es) h =
    grown (is_over w e.moment at) (is_over w e.moment later) (over_front w at es) (over_front w later es) (later_over w e.moment at later h) (over_grows w at later es h)
