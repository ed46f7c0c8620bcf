-- Readers in a row read what their writers write, and only that.
use Rattle.std.proofs.Common.{◌≡◌, ℕ, zero, suc, ◌+◌, ◌≤◌, List, [], ◌∷◌, ◌++◌, ◌∙◌, length, Option, Some, None, Result, Ok, Err, refl, sym, ap, subst, arith, append_assoc, length-append}
use Rattle.std.specs.List.{AllByRecursion}
use Rattle.std.proofs.lemmas.List.{append-nil}
use Rattle.hsr_transcript.specs.Reading.{At, Reader, on_with, gives, ◌>>=◌, line_at, taken, line_or, line_of, many, each, counted, whole, closes}
use Rattle.hsr_transcript_lines.specs.Lines.{lines_by, lines_counted, lines_each, text_of}
use Rattle.hsr_transcript.specs.Readable.{FitEach}
use Rattle.hsr_transcript_lines.specs.Readable.{IsLineOf}
use Rattle.hsr_transcript.proofs.OfKind.{Both, Kind}
use Rattle.hsr_transcript.specs.declared.fault.ReadFault.{ReadFault}
use Rattle.hsr_transcript.specs.declared.fault.ReadFault.TheVariants.{BadLine}
use Rattle.hsr_transcript.proofs.Cuts.{ok_parts, IsLine, line_again, line_spells}

pub text_more : (a b : List (List ℕ)) (rest : List ℕ) → text_of (a ++ b) ++ rest ≡ text_of a ++ (text_of b ++ rest)
text_more [] b rest = refl
text_more (l ∷ ls) b rest =
    append_assoc l (10 ∷ text_of (ls ++ b)) rest
    ∙ ap (λ x. l ++ 10 ∷ x) (text_more ls b rest)
    ∙ sym (append_assoc l (10 ∷ text_of ls) (text_of b ++ rest))

-- one line
pub line_both : {Y : Type 0} (fault : ℕ → ReadFault) (of : List ℕ → Option Y) (spelled : Y → List ℕ) → Kind of spelled
    → Both (line_or fault of) (λ y. spelled y ∷ []) (IsLineOf of spelled)
line_both {Y} fault of spelled kind = record {
  again = λ y f n rest.
      ap (λ x. on_with (line_at fault (record { number = n; text = x })) (λ l b. taken (of l) b (fault n))) (append_assoc (spelled y) (10 ∷ []) rest)
      ∙ ap (λ r. on_with r (λ l b. taken (of l) b (fault n))) (line_again fault (spelled y) rest n f.0.line f.1)
      ∙ ap (λ o. taken o (record { number = n + 1; text = rest }) (fault n)) f.0.read;
  spells = λ a b y e. go a b y (line_at fault a) refl e;
}
  where
    on : (a b : At) (y : Y) (l : List ℕ) (c : At) → IsLine a l c → (o : Option Y) → of l ≡ o → taken o c (fault a.number) ≡ Ok (y, b)
        → IsLineOf of spelled y × (a.text ≡ text_of (spelled y ∷ []) ++ b.text) × (b.number ≡ a.number + length (spelled y ∷ []))
    on a b y l c is None f e = absurd (cc)
    on a b y l c is (Some x) f e =
        let parts = ok_parts e in
        let same = parts.0 in
        let left = parts.1 in
        let said = kind.spells l y is.lacks (f ∙ ap Some same) in (
          (said.0, subst (λ l. length l ≤ 8192) said.1 is.bound),
          is.text ∙ ap (λ l. l ++ 10 ∷ c.text) said.1 ∙ ap (λ c. spelled y ++ 10 ∷ c.text) left ∙ sym (append_assoc (spelled y) (10 ∷ []) b.text),
          sym (ap (λ c. c.number) left) ∙ is.number,
        )

    go : (a b : At) (y : Y) (r : Result (List ℕ × At) ReadFault) → line_at fault a ≡ r → on_with r (λ l b. taken (of l) b (fault a.number)) ≡ Ok (y, b)
        → IsLineOf of spelled y × (a.text ≡ text_of (spelled y ∷ []) ++ b.text) × (b.number ≡ a.number + length (spelled y ∷ []))
    go a b y (Err x) h e = absurd (cc)
    go a b y (Ok x) h e = on a b y x.0 x.1 (line_spells fault a x.1 x.0 h) (of x.0) refl e

-- one reader, and one that goes on by what it read
pub bind_both : {Y Z : Type 0} (p : Reader Y) (s : Y → List (List ℕ)) (F : Y → Type 0) (f : Y → Reader Z) (t : Y → Z → List (List ℕ)) (Whole : Z → Type 0) (pick : Z → Y)
    → Both p s F → ((z : Z) → Whole z → F (pick z)) → ((y : Y) → F y → Both (f y) (t y) (λ z. Whole z × (pick z ≡ y)))
    → Both (p >>= f) (λ z. s (pick z) ++ t (pick z) z) Whole
bind_both {Y} {Z} p s F f t Whole pick law fits more = record {
  again = λ z w n rest.
      let y = pick z in
      let m = n + length (s y) in
      let count : m + length (t y z) ≡ n + length (s y ++ t y z) = rw (length-append (s y) (t y z)) (omega arith) in
      ap (λ x. on_with (p (record { number = n; text = x })) f) (text_more (s y) (t y z) rest)
      ∙ ap (λ r. on_with r f) (law.again y (fits z w) n (text_of (t y z) ++ rest))
      ∙ (more y (fits z w)).again z (w, refl) m rest
      ∙ ap (λ k. Ok (z, record { number = k; text = rest })) count;
  spells = λ a b z e. go a b z (p a) refl e;
}
  where
    go : (a b : At) (z : Z) (r : Result (Y × At) ReadFault) → p a ≡ r → on_with r f ≡ Ok (z, b)
        → Whole z × (a.text ≡ text_of (s (pick z) ++ t (pick z) z) ++ b.text) × (b.number ≡ a.number + length (s (pick z) ++ t (pick z) z))
    go a b z (Err x) h e = absurd (cc)
    go a b z (Ok x) h e =
        let one = law.spells a x.1 x.0 h in
        let two = (more x.0 one.0).spells x.1 b z e in
        let y = x.0 in
        let here : a.text ≡ text_of (s y ++ t y z) ++ b.text = one.1 ∙ ap (λ r. text_of (s y) ++ r) two.1 ∙ sym (text_more (s y) (t y z) b.text) in
        let count : b.number ≡ a.number + length (s y ++ t y z) = rw (length-append (s y) (t y z)) (omega (arith, one.2, two.2)) in (
          two.0.0,
          here ∙ ap (λ y. text_of (s y ++ t y z) ++ b.text) (sym two.0.1),
          count ∙ ap (λ y. a.number + length (s y ++ t y z)) (sym two.0.1),
        )

-- the value itself, with no line
pub gives_both : {Z : Type 0} (x : Z) (Whole : Z → Type 0) → Whole x → ((z : Z) → Whole z → x ≡ z) → Both (gives x) (λ _. []) Whole
gives_both x Whole w is = record {
  again = λ z h n rest. ap (λ z. Ok (z, record { number = n; text = rest })) (is z h) ∙ ap (λ k. Ok (z, record { number = k; text = rest })) (let e : n ≡ n + length {A = List ℕ} [] = omega arith in e);
  spells = λ a b z e.
      let parts = ok_parts e in (
        subst Whole parts.0 w,
        ap (λ c. c.text) parts.1,
        let e : a.number ≡ a.number + length {A = List ℕ} [] = omega arith in sym (ap (λ c. c.number) parts.1) ∙ e,
      );
}

-- the same with other words
pub both_by : {Y : Type 0} (p : Reader Y) (s t : Y → List (List ℕ)) (F G : Y → Type 0) → ((y : Y) → F y → G y) → ((y : Y) → G y → F y) → ((y : Y) → G y → t y ≡ s y)
    → Both p s F → Both p t G
both_by p s t F G to from same law = record {
  again = λ y g n rest.
      ap (λ l. p (record { number = n; text = text_of l ++ rest })) (same y g)
      ∙ law.again y (from y g) n rest
      ∙ ap (λ l. Ok (y, record { number = n + length l; text = rest })) (sym (same y g));
  spells = λ a b y e.
      let said = law.spells a b y e in (
        to y said.0,
        said.1 ∙ ap (λ l. text_of l ++ b.text) (sym (same y (to y said.0))),
        said.2 ∙ ap (λ l. a.number + length l) (sym (same y (to y said.0))),
      );
}

-- one value in front of others
abbrev pub on_cons : {Y : Type 0} → (Y → List (List ℕ)) → (List Y → List (List ℕ)) → List Y → List (List ℕ)
on_cons s t [] = []
on_cons s t (y ∷ ys) = s y ++ t ys

abbrev pub OnCons : {Y : Type 0} → (Y → Type 0) → (List Y → Type 0) → List Y → Type 0
OnCons F G [] = ⊥
OnCons F G (y ∷ ys) = F y × G ys

pub cons_both : {Y : Type 0} (p : Reader Y) (q : Reader (List Y)) (s : Y → List (List ℕ)) (t : List Y → List (List ℕ)) (F : Y → Type 0) (G : List Y → Type 0)
    → Both p s F → Both q t G → Both (p >>= λ y. q >>= λ ys. gives (y ∷ ys)) (on_cons s t) (OnCons F G)
cons_both {Y} p q s t F G one more = record {
  again = again;
  spells = λ a b zs e. go a b zs (p a) refl e;
}
  where
    again : (ys : List Y) → OnCons F G ys → (n : ℕ) (rest : List ℕ)
        → (p >>= λ y. q >>= λ ys. gives (y ∷ ys)) (record { number = n; text = text_of (on_cons s t ys) ++ rest }) ≡ Ok (ys, record { number = n + length (on_cons s t ys); text = rest })
    again [] h n rest = absurd h
    again (y ∷ ys) h n rest =
        let count : n + length (s y) + length (t ys) ≡ n + length (s y ++ t ys) = rw (length-append (s y) (t ys)) (omega arith) in
        ap (λ x. on_with (p (record { number = n; text = x })) (λ y. q >>= λ ys. gives (y ∷ ys))) (text_more (s y) (t ys) rest)
        ∙ ap (λ r. on_with r (λ y. q >>= λ ys. gives (y ∷ ys))) (one.again y h.0 n (text_of (t ys) ++ rest))
        ∙ ap (λ r. on_with r (λ ys. gives (y ∷ ys))) (more.again ys h.1 (n + length (s y)) rest)
        ∙ ap (λ k. Ok (y ∷ ys, record { number = k; text = rest })) count

    on : (a b : At) (zs : List Y) (y : Y) (c : At) → F y × (a.text ≡ text_of (s y) ++ c.text) × (c.number ≡ a.number + length (s y))
        → (r : Result (List Y × At) ReadFault) → q c ≡ r → on_with r (λ ys. gives (y ∷ ys)) ≡ Ok (zs, b)
        → OnCons F G zs × (a.text ≡ text_of (on_cons s t zs) ++ b.text) × (b.number ≡ a.number + length (on_cons s t zs))
    on a b zs y c said (Err x) h e = absurd (cc)
    on a b zs y c said (Ok w) h e =
        let parts = ok_parts e in
        let rest = more.spells c w.1 w.0 h in
        let ys = w.0 in
        let count : w.1.number ≡ a.number + length (s y ++ t ys) = rw (length-append (s y) (t ys)) (omega (arith, said.2, rest.2)) in
        let here : OnCons F G (y ∷ ys) × (a.text ≡ text_of (s y ++ t ys) ++ w.1.text) × (w.1.number ≡ a.number + length (s y ++ t ys)) =
        ((said.0, rest.0), said.1 ∙ ap (λ r. text_of (s y) ++ r) rest.1 ∙ sym (text_more (s y) (t ys) w.1.text), count) in
        subst (λ c. OnCons F G zs × (a.text ≡ text_of (on_cons s t zs) ++ c.text) × (c.number ≡ a.number + length (on_cons s t zs))) parts.1
        (subst (λ zs. OnCons F G zs × (a.text ≡ text_of (on_cons s t zs) ++ w.1.text) × (w.1.number ≡ a.number + length (on_cons s t zs))) parts.0 here)

    go : (a b : At) (zs : List Y) (r : Result (Y × At) ReadFault) → p a ≡ r → on_with r (λ y. q >>= λ ys. gives (y ∷ ys)) ≡ Ok (zs, b)
        → OnCons F G zs × (a.text ≡ text_of (on_cons s t zs) ++ b.text) × (b.number ≡ a.number + length (on_cons s t zs))
    go a b zs (Err x) h e = absurd (cc)
    go a b zs (Ok x) h e = on a b zs x.0 x.1 (one.spells a x.1 x.0 h) (q x.1) refl e

-- k values
pub many_both : {Y : Type 0} (p : Reader Y) (s : Y → List (List ℕ)) (F : Y → Type 0) → Both p s F
    → (k : ℕ) → Both (many p k) (lines_by s) (λ ys. (length ys ≡ k) × AllByRecursion F ys)
many_both {Y} p s F law zero =
    both_by (gives []) (λ _. []) (lines_by s) (λ ys. [] ≡ ys) (λ ys. (length ys ≡ 0) × AllByRecursion F ys)
    (λ ys e. subst (λ ys. (length ys ≡ 0) × AllByRecursion F ys) e (refl, tt))
    none
    same
    (gives_both [] (λ ys. [] ≡ ys) refl (λ ys e. e))
  where
    none : (ys : List Y) → (length ys ≡ 0) × AllByRecursion F ys → [] ≡ ys
    none [] h = refl
    none (y ∷ ys) h = absurd (omega (arith, h.0))

    same : (ys : List Y) → (length ys ≡ 0) × AllByRecursion F ys → lines_by s ys ≡ []
    same [] h = refl
    same (y ∷ ys) h = absurd (omega (arith, h.0))
many_both {Y} p s F law (suc k) =
    both_by (many p (suc k)) (on_cons s (lines_by s)) (lines_by s) (OnCons F (λ ys. (length ys ≡ k) × AllByRecursion F ys)) (λ ys. (length ys ≡ suc k) × AllByRecursion F ys)
    to from same
    (cons_both p (many p k) s (lines_by s) F (λ ys. (length ys ≡ k) × AllByRecursion F ys) law (many_both p s F law k))
  where
    to : (ys : List Y) → OnCons F (λ ys. (length ys ≡ k) × AllByRecursion F ys) ys → (length ys ≡ suc k) × AllByRecursion F ys
    to [] h = absurd h
    to (y ∷ ys) h = (omega (arith, h.1.0), (h.0, h.1.1))

    from : (ys : List Y) → (length ys ≡ suc k) × AllByRecursion F ys → OnCons F (λ ys. (length ys ≡ k) × AllByRecursion F ys) ys
    from [] h = omega (arith, h.0)
    from (y ∷ ys) h = (h.1.0, (omega (arith, h.0), h.1.1))

    same : (ys : List Y) → (length ys ≡ suc k) × AllByRecursion F ys → lines_by s ys ≡ on_cons s (lines_by s) ys
    same [] h = refl
    same (y ∷ ys) h = refl

-- a value for each of some others
pub each_both : {X Y : Type 0} (p : X → Reader Y) (s : X → Y → List (List ℕ)) (F : X → Y → Type 0) → ((x : X) → Both (p x) (s x) (F x))
    → (xs : List X) → Both (each p xs) (lines_each s xs) (FitEach F xs)
each_both {X} {Y} p s F law [] =
    both_by (gives []) (λ _. []) (lines_each s []) (λ ys. [] ≡ ys) (FitEach F [])
    (λ ys e. subst (FitEach F []) e tt) none (λ ys h. refl)
    (gives_both [] (λ ys. [] ≡ ys) refl (λ ys e. e))
  where
    none : (ys : List Y) → FitEach F [] ys → [] ≡ ys
    none [] h = refl
    none (y ∷ ys) h = absurd h
each_both {X} {Y} p s F law (x ∷ xs) =
    both_by (each p (x ∷ xs)) (on_cons (s x) (lines_each s xs)) (lines_each s (x ∷ xs)) (OnCons (F x) (FitEach F xs)) (FitEach F (x ∷ xs))
    to from same
    (cons_both (p x) (each p xs) (s x) (lines_each s xs) (F x) (FitEach F xs) (law x) (each_both p s F law xs))
  where
    to : (ys : List Y) → OnCons (F x) (FitEach F xs) ys → FitEach F (x ∷ xs) ys
    to [] h = h
    to (y ∷ ys) h = h

    from : (ys : List Y) → FitEach F (x ∷ xs) ys → OnCons (F x) (FitEach F xs) ys
    from [] h = h
    from (y ∷ ys) h = h

    same : (ys : List Y) → FitEach F (x ∷ xs) ys → lines_each s (x ∷ xs) ys ≡ on_cons (s x) (lines_each s xs) ys
    same [] h = refl
    same (y ∷ ys) h = refl

-- a line that says how many, and as many
pub counted_both : {Y : Type 0} (count : List ℕ → Option ℕ) (head : ℕ → List ℕ) (p : Reader Y) (s : Y → List (List ℕ)) (F : Y → Type 0)
    → Kind count head → Both p s F
    → Both (counted count p) (lines_counted head s) (λ ys. IsLineOf count head (length ys) × AllByRecursion F ys)
counted_both {Y} count head p s F kind law =
    bind_both (line_of count) (λ k. head k ∷ []) (IsLineOf count head) (λ k. many p k) (λ k. lines_by s) (λ ys. IsLineOf count head (length ys) × AllByRecursion F ys) length
    (line_both BadLine count head kind)
    (λ ys h. h.0)
    (λ k h.
    both_by (many p k) (lines_by s) (lines_by s) (λ ys. (length ys ≡ k) × AllByRecursion F ys) (λ ys. (IsLineOf count head (length ys) × AllByRecursion F ys) × (length ys ≡ k))
    (λ ys f. ((subst (IsLineOf count head) (sym f.0) h, f.1), f.0)) (λ ys f. (f.1, f.0.1)) (λ ys f. refl)
    (many_both p s F law k))

-- the whole text
pub whole_again : {Y : Type 0} (p : Reader Y) (s : Y → List (List ℕ)) (F : Y → Type 0) → Both p s F → (y : Y) → F y → whole p (text_of (s y)) ≡ Ok y
whole_again p s F law y f =
    ap (λ x. closes (p (record { number = 1; text = x }))) (sym (append-nil (text_of (s y)))) ∙ ap closes (law.again y f 1 [])

pub whole_spells : {Y : Type 0} (p : Reader Y) (s : Y → List (List ℕ)) (F : Y → Type 0) → Both p s F → (text : List ℕ) (y : Y) → whole p text ≡ Ok y → F y × (text ≡ text_of (s y))
whole_spells {Y} p s F law text y e = go (p (record { number = 1; text = text })) refl e
  where
    on : (z : Y) (n : ℕ) (rest : List ℕ) → p (record { number = 1; text = text }) ≡ Ok (z, record { number = n; text = rest }) → closes (Ok (z, record { number = n; text = rest })) ≡ Ok y
        → F y × (text ≡ text_of (s y))
    on z n [] h e =
        let same : z ≡ y = cc in
        let said = law.spells (record { number = 1; text = text }) (record { number = n; text = [] }) z h in
        subst (λ y. F y × (text ≡ text_of (s y))) same (said.0, said.1 ∙ append-nil (text_of (s z)))
    on z n (b ∷ bs) h e = absurd (cc)

    go : (r : Result (Y × At) ReadFault) → p (record { number = 1; text = text }) ≡ r → closes r ≡ Ok y → F y × (text ≡ text_of (s y))
    go (Err x) h e = absurd (cc)
    go (Ok x) h e = on x.0 x.1.number x.1.text h e
