-- One more copy of a list that is gone over.
use Rattle.std.proofs.Common.{◌≡◌, ℕ, ◌+◌, ◌<◌, ◌≤◌, ◌∙◌, ◌++◌, ◌&&◌, append_assoc, sym, Bool, true, false, List, [], ◌∷◌, length, get_or, drop, Option, Some, None, Bor, refl, ap, if◌then◌else◌}
use Rattle.std.proofs.lemmas.List.{append-nil, at_drop_more, at_drop_all, drop_more, drop_all, length-map}
use Rattle.hsr_playback.specs.declared.expected.Expected.{Expected}
use Rattle.hsr_playback.specs.declared.passage.Passage.{Passage}
use Rattle.hsr_judging.specs.Matching.{Matched, first_alone, fits, got_by, in_front, is_alone, turned, views}
use Rattle.hsr_judging.specs.Windows.{is_ahead}
use Rattle.hsr_judging.specs.declared.matching.Got.{Got}
use Rattle.hsr_judging.specs.declared.matching.Turn.{Turn}

first_more : (t : Turn) (alone : List Bool) (s : Passage) (es : List Expected) (i : ℕ) (e : Expected) → i < length es → e ≡ get_or es i e
    → first_alone t alone s i (drop i es)
    ≡ (if is_ahead t.window e.moment s.moment then None else (if is_alone alone i && fits t e s then Some i else first_alone t alone s (i + 1) (drop (i + 1) es)))
first_more t alone s es i e h here =
    at_drop_more (first_alone t alone s i) es i e h ∙ ap (λ (x : Expected). first_alone t alone s i (x ∷ drop (i + 1) es)) (sym here)

ahead_is : (a b : Bool) (i : ℕ) (rest : Option ℕ) → a ≡ true → (if a then None else (if b then Some i else rest)) ≡ None
ahead_is false b i rest p = absurd (cc)
ahead_is true b i rest p = refl

free_is : (a b : Bool) (i : ℕ) (rest : Option ℕ) → a ≡ false → b ≡ true → (if a then None else (if b then Some i else rest)) ≡ Some i
free_is true b i rest p q = absurd (cc)
free_is false false i rest p q = absurd (cc)
free_is false true i rest p q = refl

on_is : (a b : Bool) (i : ℕ) (rest : Option ℕ) → a ≡ false → b ≡ false → (if a then None else (if b then Some i else rest)) ≡ rest
on_is true b i rest p q = absurd (cc)
on_is false true i rest p q = absurd (cc)
on_is false false i rest p q = refl

pub first_ahead : (t : Turn) (alone : List Bool) (s : Passage) (es : List Expected) (i : ℕ) (e : Expected) → i < length es → e ≡ get_or es i e
    → is_ahead t.window e.moment s.moment ≡ true → first_alone t alone s i (drop i es) ≡ None
first_ahead t alone s es i e h here ahead =
    first_more t alone s es i e h here
    ∙ ahead_is (is_ahead t.window e.moment s.moment) (is_alone alone i && fits t e s) i (first_alone t alone s (i + 1) (drop (i + 1) es)) ahead

pub first_free : (t : Turn) (alone : List Bool) (s : Passage) (es : List Expected) (i : ℕ) (e : Expected) → i < length es → e ≡ get_or es i e
    → is_ahead t.window e.moment s.moment ≡ false → (is_alone alone i && fits t e s) ≡ true → first_alone t alone s i (drop i es) ≡ Some i
first_free t alone s es i e h here begun free =
    first_more t alone s es i e h here
    ∙ free_is (is_ahead t.window e.moment s.moment) (is_alone alone i && fits t e s) i (first_alone t alone s (i + 1) (drop (i + 1) es)) begun free

pub first_on : (t : Turn) (alone : List Bool) (s : Passage) (es : List Expected) (i : ℕ) (e : Expected) → i < length es → e ≡ get_or es i e
    → is_ahead t.window e.moment s.moment ≡ false → (is_alone alone i && fits t e s) ≡ false
    → first_alone t alone s i (drop i es) ≡ first_alone t alone s (i + 1) (drop (i + 1) es)
first_on t alone s es i e h here begun other =
    first_more t alone s es i e h here
    ∙ on_is (is_ahead t.window e.moment s.moment) (is_alone alone i && fits t e s) i (first_alone t alone s (i + 1) (drop (i + 1) es)) begun other

pub first_all : (t : Turn) (alone : List Bool) (s : Passage) (es : List Expected) (i : ℕ) → length es ≤ i → first_alone t alone s i (drop i es) ≡ None
first_all t alone s es i h = at_drop_all (first_alone t alone s i) es i h

pub views_long : (ps : List (Bor Passage)) → length (views ps) ≡ length ps
views_long ps = length-map ps (λ (p : Bor Passage). p.now)

pub views_more : (ps : List (Bor Passage)) (k : ℕ) (d : Bor Passage) → k < length ps → views (drop k ps) ≡ (get_or ps k d).now ∷ views (drop (k + 1) ps)
views_more ps k d h = ap views (drop_more ps k d h)

pub turned_more : (t : Turn) (es : List Expected) (alone : List Bool) (gs : List (Option Got)) (ps : List (Bor Passage)) (k : ℕ) (g : Option Got) (p : Bor Passage)
    → k < length gs → k < length ps
    → turned t es alone (drop k gs) (views (drop k ps)) ≡ turned t es alone (get_or gs k g ∷ drop (k + 1) gs) ((get_or ps k p).now ∷ views (drop (k + 1) ps))
turned_more t es alone gs ps k g p hg hp =
    ap (λ rest. turned t es alone rest (views (drop k ps))) (drop_more gs k g hg) ∙ ap (turned t es alone (get_or gs k g ∷ drop (k + 1) gs)) (views_more ps k p hp)

pub turned_all : (t : Turn) (es : List Expected) (alone : List Bool) (gs : List (Option Got)) (ss : List Passage) (k : ℕ) → length gs ≤ k → turned t es alone (drop k gs) ss ≡ ([], alone)
turned_all t es alone gs ss k h = ap (λ rest. turned t es alone rest ss) (drop_all k gs h)

-- ---- one more copy of a turn

abbrev pair_of : List (Option Got) → List Bool → Matched
pair_of gots alone = (gots, alone)

same_matched : (gots more : List (Option Got)) (alone rest : List Bool) → gots ≡ more → alone ≡ rest → ◌≡◌ {A = Matched} (gots, alone) (more, rest)
same_matched gots more alone rest p q = ap (λ (l : List (Option Got)). pair_of l alone) p ∙ ap (pair_of more) q

turned_step : (t : Turn) (es : List Expected) (alone after : List Bool) (gs : List (Option Got)) (ps : List (Bor Passage)) (k : ℕ) (g : Option Got) (p : Bor Passage) (got : Option Got)
    → k < length gs → k < length ps → p ≡ get_or ps k p → (got, after) ≡ got_by t es alone (get_or gs k g) p.now
    → turned t es alone (drop k gs) (views (drop k ps)) ≡ in_front got (turned t es after (drop (k + 1) gs) (views (drop (k + 1) ps)))
turned_step t es alone after gs ps k g p got hg hp here e =
    turned_more t es alone gs ps k g p hg hp
    ∙ ap (λ (q : Bor Passage). turned t es alone (get_or gs k g ∷ drop (k + 1) gs) (q.now ∷ views (drop (k + 1) ps))) (sym here)
    ∙ ap (λ (y : Option Got × List Bool). in_front y.0 (turned t es y.1 (drop (k + 1) gs) (views (drop (k + 1) ps)))) (sym e)

pub turn_gots : (t : Turn) (es : List Expected) (alone after : List Bool) (gs : List (Option Got)) (ps : List (Bor Passage)) (k : ℕ) (g : Option Got) (p : Bor Passage) (got : Option Got)
    (front next whole : List (Option Got)) → k < length gs → k < length ps → p ≡ get_or ps k p → (got, after) ≡ got_by t es alone (get_or gs k g) p.now
    → next ≡ front ++ got ∷ [] → front ++ (turned t es alone (drop k gs) (views (drop k ps))).0 ≡ whole
    → next ++ (turned t es after (drop (k + 1) gs) (views (drop (k + 1) ps))).0 ≡ whole
turn_gots t es alone after gs ps k g p got front next whole hg hp here e put h =
    ap (λ (l : List (Option Got)). l ++ (turned t es after (drop (k + 1) gs) (views (drop (k + 1) ps))).0) put
    ∙ append_assoc front (got ∷ []) (turned t es after (drop (k + 1) gs) (views (drop (k + 1) ps))).0
    ∙ ap (λ (m : Matched). front ++ m.0) (sym (turned_step t es alone after gs ps k g p got hg hp here e)) ∙ h

pub turn_alone : (t : Turn) (es : List Expected) (alone after : List Bool) (gs : List (Option Got)) (ps : List (Bor Passage)) (k : ℕ) (g : Option Got) (p : Bor Passage) (got : Option Got)
    (whole : List Bool) → k < length gs → k < length ps → p ≡ get_or ps k p → (got, after) ≡ got_by t es alone (get_or gs k g) p.now
    → (turned t es alone (drop k gs) (views (drop k ps))).1 ≡ whole → (turned t es after (drop (k + 1) gs) (views (drop (k + 1) ps))).1 ≡ whole
turn_alone t es alone after gs ps k g p got whole hg hp here e h =
    ap (λ (m : Matched). m.1) (sym (turned_step t es alone after gs ps k g p got hg hp here e)) ∙ h

-- where nothing is left, that is what all have
pub turn_done : (t : Turn) (es : List Expected) (alone : List Bool) (gs : List (Option Got)) (ps : List (Bor Passage)) (k : ℕ) (next : List (Option Got)) (whole : Matched) → length gs ≤ k
    → next ++ (turned t es alone (drop k gs) (views (drop k ps))).0 ≡ whole.0 → (turned t es alone (drop k gs) (views (drop k ps))).1 ≡ whole.1
    → ◌≡◌ {A = Matched} (next, alone) whole
turn_done t es alone gs ps k next whole h gots left =
    let done = turned_all t es alone gs (views (drop k ps)) k h in
    let front : next ≡ whole.0 = sym (append-nil next) ∙ ap (λ (m : Matched). next ++ m.0) (sym done) ∙ gots in
    let rest : alone ≡ whole.1 = ap (λ (m : Matched). m.1) (sym done) ∙ left in
    same_matched next whole.0 alone whole.1 front rest
