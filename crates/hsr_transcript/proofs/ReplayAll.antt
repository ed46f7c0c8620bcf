-- Records that are replayed one after another.
use Rattle.std.proofs.Common.{◌≡◌, ℕ, zero, suc, ◌+◌, ◌<◌, ◌≤◌, ◌^◌, ◌∙◌, List, [], ◌∷◌, ◌++◌, length, take, get_or, map, Err, sym, ap, ap₂, subst, arith}
use Rattle.std.proofs.lemmas.List.{get_or-map, length-take-le}
use Rattle.std.proofs.Math.Seq.{take-suc}
use Rattle.hsr_node.specs.Kept.{Record, owner_of, past_of}
use Rattle.hsr_node.specs.Record.{IsLegal}
use Rattle.hsr_node.specs.declared.entry.Entry.{Entry}
use Rattle.hsr_node.specs.declared.place.Place.{Place}
use Rattle.hsr_transcript_lines.specs.Lines.{line_count}
use Rattle.hsr_transcript.specs.Replay.{AreLegal, IsUnlike, Replayed, ReplayedAll, records_from}
use Rattle.hsr_transcript.specs.declared.fault.ReadFault.{ReadFault}
use Rattle.hsr_transcript.specs.declared.fault.ReadFault.TheVariants.{Version, BadLine, End, Disagrees, Read, NoMemory}
use Rattle.hsr_transcript_lines.proofs.Grown.{line_count_push}

-- the front with one more element
pub taken : {A : Type 0} (xs : List A) (i : ℕ) (x : A) → i < length xs → get_or xs i x ≡ x → take (i + 1) xs ≡ take i xs ++ x ∷ []
taken xs i x h e = ap (λ n. take n xs) (let s : i + 1 ≡ suc i = omega arith in s) ∙ take-suc xs i x h ∙ ap (λ y. take i xs ++ y ∷ []) e

pub count_front : {Y : Type 0} (n : ℕ) (yss : List (List Y)) → line_count (take n yss) ≤ line_count yss
count_front zero yss = omega arith
count_front (suc n) [] = omega arith
count_front (suc n) (ys ∷ yss) = let h : line_count (take n yss) ≤ line_count yss = count_front n yss in omega (arith, h)

pub count_next : {Y : Type 0} (yss : List (List Y)) (i : ℕ) (ys : List Y) → i < length yss → get_or yss i ys ≡ ys → line_count (take (i + 1) yss) ≡ line_count (take i yss) + (1 + length ys)
count_next yss i ys h e = ap line_count (taken yss i ys h e) ∙ line_count_push (take i yss) ys

pub records_push : (n : ℕ) (places : List Place) (records : List (List Entry)) (place : Place) (entries : List Entry) → length places ≡ length records
    → records_from n (places ++ place ∷ []) (records ++ entries ∷ []) ≡ records_from n places records ++ record { number = n + length places; place = place; entries = entries } ∷ []
records_push n [] [] place entries e = ap (λ k. record { number = k; place = place; entries = entries } ∷ []) (let s : n ≡ n + length {A = Place} [] = omega arith in s)
records_push n [] (es ∷ records) place entries e = absurd (omega arith)
records_push n (p ∷ places) [] place entries e = absurd (omega arith)
records_push n (p ∷ places) (es ∷ records) place entries e =
    ap (λ l. record { number = n; place = p; entries = es } ∷ l)
    (records_push (n + 1) places records place entries (omega arith)
    ∙ ap (λ k. records_from (n + 1) places records ++ record { number = k; place = place; entries = entries } ∷ []) (let s : n + 1 + length places ≡ n + length (p ∷ places) = omega arith in s))

pub legal_push : (capacity : ℕ) (rs : List Record) (r : Record) → AreLegal capacity rs → IsLegal capacity (owner_of r) (past_of r) → AreLegal capacity (rs ++ r ∷ [])
legal_push capacity [] r h l = (l, tt)
legal_push capacity (x ∷ rs) r h l = (h.0, legal_push capacity rs r h.1 l)

-- an element of a list of lists
pub held : {V Y : Type 0} (f : V → List Y) (xs : List V) (i : ℕ) (x : V) (ys : List Y) → i < length xs → x ≡ get_or xs i x → ys ≡ f x → get_or (map f xs) i ys ≡ ys
held f xs i x ys h is e = get_or-map f xs i x ys h ∙ ap f (sym is) ∙ sym e

-- the lines of the next record fit where all lines do
pub lines_fit : {Y : Type 0} (yss : List (List Y)) (i first line : ℕ) (ys : List Y) → i < length yss → get_or yss i ys ≡ ys → line ≡ first + line_count (take i yss) → first + line_count yss < 2 ^ 64
    → line + 1 + length ys < 2 ^ 64
lines_fit yss i first line ys h e l most =
    let next : line_count (take (i + 1) yss) ≡ line_count (take i yss) + (1 + length ys) = count_next yss i ys h e in
    let all : line_count (take (i + 1) yss) ≤ line_count yss = count_front (i + 1) yss in
    omega (arith, next, all)

pub unlike_first : (capacity : ℕ) (places : List Place) (records : List (List Entry)) (kept : List Record) (first line i : ℕ) (place : Place) (entries : List Entry) (fault : ReadFault)
    → i < length places → get_or places i place ≡ place → get_or records i entries ≡ entries → AreLegal capacity kept → kept ≡ records_from 0 (take i places) (take i records)
    → line ≡ first + line_count (take i records) → Replayed capacity i place entries (line + 1) (Err fault) → ReplayedAll capacity places records first (Err fault)
unlike_first capacity places records kept first line i place entries (BadLine k) h p e legal same l u = record {
  node = i;
  place = place;
  entries = entries;
  within = h;
  stands = p;
  holds = e;
  legal = subst (AreLegal capacity) same legal;
  unlike = subst (λ n. IsUnlike capacity i place entries (n + 1) k) l u;
}
unlike_first capacity places records kept first line i place entries Version h p e legal same l u = u
unlike_first capacity places records kept first line i place entries End h p e legal same l u = u
unlike_first capacity places records kept first line i place entries (Disagrees cause) h p e legal same l u = u
unlike_first capacity places records kept first line i place entries Read h p e legal same l u = u
unlike_first capacity places records kept first line i place entries NoMemory h p e legal same l u = tt

pub replayed_next : (places : List Place) (records : List (List Entry)) (kept next : List Record) (i : ℕ) (place : Place) (entries : List Entry) (r : Record) → length records ≡ length places
    → i < length places → get_or places i place ≡ place → get_or records i entries ≡ entries → kept ≡ records_from 0 (take i places) (take i records) → next ≡ kept ++ r ∷ []
    → r ≡ record { number = i; place = place; entries = entries } → next ≡ records_from 0 (take (i + 1) places) (take (i + 1) records)
replayed_next places records kept next i place entries r paired h p e same n is =
    let front : length (take i places) ≡ i = length-take-le i places (omega arith) in
    let other : length (take i records) ≡ i = length-take-le i records (omega (arith, paired)) in
    n ∙ ap (λ l. l ++ r ∷ []) same
    ∙ ap (λ x. records_from 0 (take i places) (take i records) ++ x ∷ []) (is ∙ ap (λ k. record { number = k; place = place; entries = entries }) (let s : i ≡ 0 + length (take i places) = omega (arith, front) in s))
    ∙ sym (records_push 0 (take i places) (take i records) place entries (front ∙ sym other))
    ∙ sym (ap₂ (λ a b. records_from 0 a b) (taken places i place h p) (taken records i entries (omega (arith, paired)) e))
