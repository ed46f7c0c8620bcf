-- One line, one value, some values, over a reader.
use Rattle.std.proofs.Common.{◌≡◌, ℕ, suc, ◌+◌, ◌<◌, ◌≤◌, nat_lt, List, [], ◌∷◌, ◌++◌, ◌∙◌, length, Option, Some, None, Result, Ok, Err, IfSome, refl, sym, ap, subst, cond, arith, Bool, true, false, append_assoc}
use Rattle.std.proofs.lemmas.Bool.Decides.{nat_tests}
use Rattle.hsr_text.specs.Lines.{ReadsFront}
use Rattle.hsr_text.specs.Words.{cut}
use Rattle.hsr_text.specs.declared.lines.Front.TheVariants.{Line, Rest, TooLong}
use Rattle.hsr_text.specs.declared.time_unit.TimeUnit.{TimeUnit}
use Rattle.hsr_transcript_lines.specs.Parsed.{version_of}
use Rattle.hsr_transcript.specs.Reading.{At, Reader, on_with, gives, behind, line_at, taken, line_or, line_of, many, ◌>>=◌, closes, whole}
use Rattle.hsr_transcript.specs.Form.{as_version, form_of, said_at, version_at}
use Rattle.hsr_transcript.specs.CodeReads.{Told, Gives, Ends, Says, ToldWhole, ends_at}
use Rattle.hsr_transcript.specs.Transcript.{Said}
use Rattle.hsr_transcript.specs.declared.fault.ReadFault.{ReadFault}
use Rattle.hsr_transcript.specs.declared.fault.ReadFault.TheVariants.{Version, BadLine, End, Disagrees, Read, NoMemory}

line_is : (fault : ℕ → ReadFault) (a : At) (line : List ℕ) (left : Option (List ℕ)) → cut 10 a.text ≡ (line, left) → length line ≤ 8192 → line_at fault a ≡ behind a.number line left
line_is fault a line left e h =
    let short : nat_lt 8192 (length line) ≡ false = grind (arith, nat_tests) in
    ap (λ c. cond (nat_lt 8192 (length c.0)) (Err (fault a.number)) (behind a.number c.0 c.1)) e
    ∙ ap (λ t. cond t (Err (fault a.number)) (behind a.number line left)) short

long_line : (fault : ℕ → ReadFault) (a : At) → 8192 < length (cut 10 a.text).0 → line_at fault a ≡ Err (fault a.number)
long_line fault a h =
    ap (λ t. cond t (Err (fault a.number)) (behind a.number (cut 10 a.text).0 (cut 10 a.text).1)) (let e : nat_lt 8192 (length (cut 10 a.text).0) ≡ true = grind (arith, nat_tests) in e)

pub line_given : (old new : Option (List ℕ)) (line : List ℕ) (n : ℕ) → ReadsFront 8192 old new line Line → length line ≤ 8192
    → Gives (λ (_ : Unit {0}). line) old new n (n + 1) (Ok tt) (line_at BadLine)
line_given None new line n f h = tt
line_given (Some text) new line n f h = (f.0, f.1, line_is BadLine (record { number = n; text = text }) line (Some f.0) f.2 h)

pub line_ends : (old new : Option (List ℕ)) (line : List ℕ) (n m : ℕ) → ReadsFront 8192 old new line Rest → length line ≤ 8192
    → Gives (λ (_ : Unit {0}). line) old new n m (Err End) (line_at BadLine)
line_ends None new line n m f h = tt
line_ends (Some text) new line n m f h = line_is BadLine (record { number = n; text = text }) line None f.2.0 h

pub line_long : (old new : Option (List ℕ)) (line : List ℕ) (n m : ℕ) → ReadsFront 8192 old new line TooLong
    → Gives (λ (_ : Unit {0}). line) old new n m (Err (BadLine n)) (line_at BadLine)
line_long None new line n m f = tt
line_long (Some text) new line n m f = long_line BadLine (record { number = n; text = text }) f.2.0

-- a fault of a first part is the fault of the whole
pub passed_at : {X Y Z W : Type 0} (view : X → Y) (see : Z → W) (new : Option (List ℕ)) (n : ℕ) (e : ReadFault) (r : Result (Y × At) ReadFault) (w : Result (W × At) ReadFault)
    → (r ≡ Err e → w ≡ Err e) → Told view new n (Err e) r → Told see new n (Err e) w
passed_at view see new n Version r w on g = on g
passed_at view see new n (BadLine k) r w on g = on g
passed_at view see new n End r w on g = on g
passed_at view see new n (Disagrees cause) r w on g = on g
passed_at view see new n Read r w on g = tt
passed_at view see new n NoMemory r w on g = tt

pub passed_on : {X Y Z W : Type 0} (view : X → Y) (see : Z → W) (old new : Option (List ℕ)) (m n : ℕ) (e : ReadFault) (p : Reader Y) (q : Reader W)
    → ((a : At) → p a ≡ Err e → q a ≡ Err e) → Gives view old new m n (Err e) p → Gives see old new m n (Err e) q
passed_on view see None new m n e p q on g = tt
passed_on view see (Some text) new m n e p q on g = passed_at view see new n e _ _ (on _) g

pub one_given : {X Y : Type 0} (view : X → Y) (of : List ℕ → Option Y) (old new : Option (List ℕ)) (line : List ℕ) (m n : ℕ) (x : X)
    → Gives (λ (_ : Unit {0}). line) old new m n (Ok tt) (line_at BadLine) → of line ≡ Some (view x) → Gives view old new m n (Ok x) (line_of of)
one_given view of None new line m n x g e = tt
one_given view of (Some text) new line m n x g e = (
  g.0,
  g.1,
  ap (λ r. on_with r (λ l b. taken (of l) b (BadLine m))) g.2 ∙ ap (λ o. taken o (record { number = n; text = g.0 }) (BadLine m)) e,
)

pub one_bad : {X Y : Type 0} (view : X → Y) (of : List ℕ → Option Y) (old new : Option (List ℕ)) (line : List ℕ) (m n : ℕ)
    → Gives (λ (_ : Unit {0}). line) old new m n (Ok tt) (line_at BadLine) → of line ≡ None → Gives view old new m n (Err (BadLine m)) (line_of of)
one_bad view of None new line m n g e = tt
one_bad view of (Some text) new line m n g e =
    ap (λ r. on_with r (λ l b. taken (of l) b (BadLine m))) g.2 ∙ ap (λ o. taken o (record { number = n; text = g.0 }) (BadLine m)) e

pub one_fails : {X Y : Type 0} (view : X → Y) (of : List ℕ → Option Y) (old new : Option (List ℕ)) (line : List ℕ) (m n : ℕ) (e : ReadFault)
    → Gives (λ (_ : Unit {0}). line) old new m n (Err e) (line_at BadLine) → Gives view old new m n (Err e) (line_of of)
one_fails view of old new line m n e g =
    passed_on (λ (_ : Unit {0}). line) view old new m n e (line_at BadLine) (line_of of) (λ a h. ap (λ r. on_with r (λ l b. taken (of l) b (BadLine a.number))) h) g

-- values in front of those that are still read
abbrev pub with_front : {Y : Type 0} → List Y → Result (List Y × At) ReadFault → Result (List Y × At) ReadFault
with_front front read = on_with read (λ ys. gives (front ++ ys))

-- part of a section: the values so far, and those that are left
abbrev pub Partly : {Y : Type 0} → Reader Y → Option (List ℕ) → ℕ → ℕ → Option (List ℕ) → ℕ → ℕ → List Y → Type 0
Partly p old m count left n more front = IfSome old (λ text. (rest : List ℕ) × (left ≡ Some rest)
    × (with_front front (many p more (record { number = n; text = rest })) ≡ many p count (record { number = m; text = text })))

pub with_front_more : {Y : Type 0} (front : List Y) (y : Y) (read : Result (List Y × At) ReadFault)
    → with_front front (on_with read (λ ys. gives (y ∷ ys))) ≡ with_front (front ++ y ∷ []) read
with_front_more front y (Ok x) = ap (λ l. Ok (l, x.1)) (sym (append_assoc front (y ∷ []) x.0))
with_front_more front y (Err e) = refl

pub many_on : {X Y : Type 0} (view : X → Y) (p : Reader Y) (old left rest : Option (List ℕ)) (m count n k more j : ℕ) (front : List Y) (x : X) → more ≡ suc j
    → Partly p old m count left n more front → Gives view left rest n k (Ok x) p → Partly p old m count rest k j (front ++ view x ∷ [])
many_on view p None left rest m count n k more j front x s h g = tt
many_on view p (Some text) left rest m count n k more j front x s h g =
    let u = subst (λ l. Gives view l rest n k (Ok x) p) h.1 g in (
      u.0,
      u.1,
      sym (with_front_more front (view x) (many p j (record { number = k; text = u.0 })))
          ∙ sym (ap (λ r. with_front front (on_with r (λ y. many p j >>= λ ys. gives (y ∷ ys)))) u.2)
          ∙ sym (ap (λ c. with_front front (many p c (record { number = n; text = h.0 }))) s)
          ∙ h.2,
    )

pub many_pushed : {X Y : Type 0} (view : X → Y) (p : Reader Y) (old left rest : Option (List ℕ)) (m count n k more j : ℕ) (front next : List Y) (x : X) → more ≡ suc j → next ≡ front ++ view x ∷ []
    → Partly p old m count left n more front → Gives view left rest n k (Ok x) p → Partly p old m count rest k j next
many_pushed view p old left rest m count n k more j front next x s e h g =
    subst (Partly p old m count rest k j) (sym e) (many_on view p old left rest m count n k more j front x s h g)

-- one reading, and one that goes on by what it gave
pub bind_told : {X Y Z W : Type 0} (view : X → Y) (see : Z → W) (p : Reader Y) (f : Y → Reader W) (old mid new : Option (List ℕ)) (m k n : ℕ) (x : X) (r : Result Z ReadFault)
    → Gives view old mid m k (Ok x) p → Gives see mid new k n r (f (view x)) → Gives see old new m n r (p >>= f)
bind_told view see p f None mid new m k n x r g h = tt
bind_told view see p f (Some text) mid new m k n x r g h =
    let u = subst (λ l. Gives see l new k n r (f (view x))) g.1 h in
    subst (Told see new n r) (sym (ap (λ w. on_with w f) g.2)) u

pub bind_fails : {X Y Z W : Type 0} (view : X → Y) (see : Z → W) (p : Reader Y) (f : Y → Reader W) (old new : Option (List ℕ)) (m n : ℕ) (e : ReadFault)
    → Gives view old new m n (Err e) p → Gives see old new m n (Err e) (p >>= f)
bind_fails view see p f old new m n e g = passed_on view see old new m n e p (p >>= f) (λ a h. ap (λ w. on_with w f) h) g

pub many_fail : {X Y Z : Type 0} (view : X → Y) (see : Z → List Y) (p : Reader Y) (old left rest : Option (List ℕ)) (m count n k more j : ℕ) (front : List Y) (e : ReadFault) → more ≡ suc j
    → Partly p old m count left n more front → Gives view left rest n k (Err e) p → Gives see old rest m k (Err e) (many p count)
many_fail view see p None left rest m count n k more j front e s h g = tt
many_fail view see p (Some text) left rest m count n k more j front e s h g =
    passed_at view see rest k e (p (record { number = n; text = h.0 })) (many p count (record { number = m; text = text }))
    (λ f. sym h.2 ∙ ap (λ c. with_front front (many p c (record { number = n; text = h.0 }))) s
    ∙ ap (λ r. with_front front (on_with r (λ y. many p j >>= λ ys. gives (y ∷ ys)))) f)
    (subst (λ l. Gives view l rest n k (Err e) p) h.1 g)

-- the same value seen in another way
pub seen_so : {X Y : Type 0} (view see : X → Y) (old new : Option (List ℕ)) (m n : ℕ) (r : Result X ReadFault) (p : Reader Y) → ((x : X) → view x ≡ see x) → Gives view old new m n r p → Gives see old new m n r p
seen_so view see None new m n r p e g = tt
seen_so view see (Some text) new m n (Ok x) p e g = (g.0, g.1, g.2 ∙ ap (λ y. Ok (y, record { number = n; text = g.0 })) (e x))
seen_so view see (Some text) new m n (Err f) p e g = passed_at view see new n f (p (record { number = m; text = text })) (p (record { number = m; text = text })) (λ h. h) g

-- a last reading, and the value that is made of it
pub last_told : {X Y Z W : Type 0} (view : X → Y) (see : Z → W) (p : Reader Y) (f : Y → W) (old new : Option (List ℕ)) (m n : ℕ) (x : X) (z : Z)
    → Gives view old new m n (Ok x) p → f (view x) ≡ see z → Gives see old new m n (Ok z) (p >>= λ y. gives (f y))
last_told view see p f None new m n x z g e = tt
last_told view see p f (Some text) new m n x z g e = (g.0, g.1, ap (λ w. on_with w (λ y. gives (f y))) g.2 ∙ ap (λ w. Ok (w, record { number = n; text = g.0 })) e)

-- ---- the first line

abbrev pub versioned : {Y : Type 0} → Result Y ReadFault → Result Y ReadFault
versioned (Ok x) = Ok x
versioned (Err e) = Err (as_version e)

version_line : {Y : Type 0} (of : List ℕ → Option Y) (a : At) → line_or (λ _. Version) of a ≡ versioned (line_of of a)
version_line {Y} of a = go (nat_lt 8192 (length (cut 10 a.text).0)) (cut 10 a.text).1
  where
    on : (o : Option Y) (b : At) → taken o b Version ≡ versioned (taken o b (BadLine a.number))
    on None b = refl
    on (Some y) b = refl

    go : (t : Bool) (left : Option (List ℕ))
        → on_with (cond t (Err Version) (behind a.number (cut 10 a.text).0 left)) (λ l b. taken (of l) b Version)
        ≡ versioned (on_with (cond t (Err (BadLine a.number)) (behind a.number (cut 10 a.text).0 left)) (λ l b. taken (of l) b (BadLine a.number)))
    go true left = refl
    go false None = refl
    go false (Some rest) = on (of (cut 10 a.text).0) (record { number = a.number + 1; text = rest })

pub version_given : (old new : Option (List ℕ)) (m n : ℕ) (unit : TimeUnit) → Gives (λ v. v) old new m n (Ok unit) (line_of version_of)
    → Gives (λ v. v) old new m n (Ok unit) version_at
unfolding version_at
version_given None new m n unit g = tt
version_given (Some text) new m n unit g = (g.0, g.1, version_line version_of (record { number = m; text = text }) ∙ ap versioned g.2)

pub version_fails : (old new : Option (List ℕ)) (m n : ℕ) (e : ReadFault) → Gives (λ (unit : TimeUnit). unit) old new m n (Err e) (line_of version_of)
    → Gives (λ (unit : TimeUnit). unit) old new m n (Err (as_version e)) version_at
unfolding version_at
version_fails None new m n e g = tt
version_fails (Some text) new m n Version g = version_line version_of (record { number = m; text = text }) ∙ ap versioned g
version_fails (Some text) new m n (BadLine k) g = version_line version_of (record { number = m; text = text }) ∙ ap versioned g
version_fails (Some text) new m n End g = version_line version_of (record { number = m; text = text }) ∙ ap versioned g
version_fails (Some text) new m n (Disagrees cause) g = version_line version_of (record { number = m; text = text }) ∙ ap versioned g
version_fails (Some text) new m n Read g = tt
version_fails (Some text) new m n NoMemory g = tt

-- ---- whole texts

pub form_told : {X : Type 0} (view : X → Said) (capacity : ℕ) (old mid : Option (List ℕ)) (n : ℕ) (x : X) → Gives view old mid 1 n (Ok x) (said_at capacity) → Ends mid n (Ok tt) → Says view old (Ok x) (form_of capacity)
unfolding form_of
form_told view capacity None mid n x g h = tt
form_told view capacity (Some text) mid n x g h =
    let none : Ok tt ≡ ends_at n g.0 = subst (λ o. Ends o n (Ok tt)) g.1 h in
    ap closes g.2 ∙ closed g.0 none
  where
    closed : (rest : List ℕ) → Ok tt ≡ ends_at n rest → closes (Ok (view x, record { number = n; text = rest })) ≡ Ok (view x)
    closed [] e = refl
    closed (b ∷ bs) e = absurd (cc)

pub form_more : {X Z : Type 0} (view : X → Said) (see : Z → Said) (capacity : ℕ) (old mid : Option (List ℕ)) (n : ℕ) (x : X) (e : ReadFault) → Gives view old mid 1 n (Ok x) (said_at capacity) → Ends mid n (Err e)
    → Says see old (Err e) (form_of capacity)
unfolding form_of
form_more view see capacity None mid n x e g h = tt
form_more {X} {Z} view see capacity (Some text) mid n x e g h = go e h
  where
    closed : (f : ReadFault) (rest : List ℕ) → Err f ≡ ends_at n rest → closes (Ok (view x, record { number = n; text = rest })) ≡ Err f
    closed f [] e = absurd (cc)
    closed f (b ∷ bs) e = let same : f ≡ BadLine n = cc in ap Err (sym same)

    on : (f : ReadFault) → IfSome mid (λ text. Err f ≡ ends_at n text) → whole (said_at capacity) text ≡ Err f
    on f h = ap closes g.2 ∙ closed f g.0 (subst (λ o. IfSome o (λ text. Err f ≡ ends_at n text)) g.1 h)

    go : (f : ReadFault) → Ends mid n (Err f) → ToldWhole see (Err f) (whole (said_at capacity) text)
    go Version h = on Version h
    go (BadLine k) h = on (BadLine k) h
    go End h = on End h
    go (Disagrees cause) h = on (Disagrees cause) h
    go Read h = tt
    go NoMemory h = tt

pub form_fails : {X Z : Type 0} (view : X → Said) (see : Z → Said) (capacity : ℕ) (old mid : Option (List ℕ)) (n : ℕ) (e : ReadFault) → Gives view old mid 1 n (Err e) (said_at capacity) → Says see old (Err e) (form_of capacity)
unfolding form_of
form_fails view see capacity None mid n e g = tt
form_fails view see capacity (Some text) mid n Version g = ap closes g
form_fails view see capacity (Some text) mid n (BadLine k) g = ap closes g
form_fails view see capacity (Some text) mid n End g = ap closes g
form_fails view see capacity (Some text) mid n (Disagrees cause) g = ap closes g
form_fails view see capacity (Some text) mid n Read g = tt
form_fails view see capacity (Some text) mid n NoMemory g = tt
