-- The letters of ports behind an outcome tell by which ports a frame left.
use Rattle.std.proofs.Common.{◌≡◌, ℕ, zero, suc, ◌==◌, ◌&&◌, nat_lt, Some, None, Option, List, [], ◌∷◌, ◌++◌, ◌∙◌, append-nil, length, slice_index_or, refl, sym, ap, cond, arith, Bool, true, false, eqb-true}
use Rattle.std.proofs.lemmas.Bool.{and_parts, or_from, true≢false}
use Rattle.std.specs.Prelude.{codes}
use Rattle.arrayvec.specs.ArrayVec.{ArrayVec}
use Rattle.hsr_text.specs.Words.{cut}
use Rattle.hsr_frame.specs.declared.node.Mode.{Mode}
use Rattle.hsr_node.specs.Record.{has_port}
use Rattle.hsr_node.specs.declared.place.Place.{Place}
use Rattle.hsr_node.specs.declared.place.Place.TheVariants.{Danh, RedBox, QuadBox, Station}
use Rattle.hsr_transcript_lines.specs.Parsed.{has_octet, read_ports, tail_of}
use Rattle.hsr_transcript_lines.specs.Readable.{Lacks}
use Rattle.hsr_transcript_lines.proofs.Roles.{AreExitsOf}
use Rattle.hsr_transcript_lines.specs.Spelled.{port_text, ports_text, up_text}
use Rattle.hsr_node.specs.Words.{letter}
use Rattle.hsr_transcript_lines.proofs.CutWords.{cut_end, cut_word, lacks_more}
use Rattle.hsr_transcript_lines.proofs.WordTexts.{is_word, lacks_word}

-- ---- what follows a word: nothing, or a space and more

abbrev pub opens : List ℕ → Bool
opens [] = true
opens (b ∷ bs) = b == 32

abbrev pub behind_space : List ℕ → Option (List ℕ)
behind_space [] = None
behind_space (b ∷ bs) = Some bs

pub cut_tail : (w tail : List ℕ) → is_word w ≡ true → opens tail ≡ true → cut 32 (w ++ tail) ≡ (w, behind_space tail)
cut_tail w [] h k = ap (cut 32) (append-nil w) ∙ cut_end 32 w (lacks_word 32 w (omega arith) h)
cut_tail w (b ∷ bs) h k = ap (λ b. cut 32 (w ++ b ∷ bs)) (eqb-true b 32 k) ∙ cut_word 32 w bs (lacks_word 32 w (omega arith) h)

opens_more : (a b : List ℕ) → opens a ≡ true → opens b ≡ true → opens (a ++ b) ≡ true
opens_more [] b h k = k
opens_more (x ∷ xs) b h k = h

-- ---- the text of ports

abbrev is_letter : ℕ → Bool
is_letter c = nat_lt 62 c && nat_lt c 91

abbrev are_letters : List ℕ → Bool
are_letters [] = true
are_letters (c ∷ cs) = is_letter c && are_letters cs

letter_at : (cs : List ℕ) (k : ℕ) → are_letters cs ≡ true → is_letter (slice_index_or cs k 63) ≡ true
letter_at [] k h = refl
letter_at (c ∷ cs) zero h = (and_parts (is_letter c) (are_letters cs) h).0
letter_at (c ∷ cs) (suc k) h = letter_at cs k (and_parts (is_letter c) (are_letters cs) h).1

letter_fit : (place : Place) (k : ℕ) → is_letter (letter place k) ≡ true
letter_fit (Danh mac mode) k = letter_at (codes "AB") k refl
letter_fit (RedBox mac mode) k = letter_at (codes "ABI") k refl
letter_fit QuadBox k = letter_at (codes "ABCD") k refl
letter_fit (Station macs) k = letter_at (codes "P") k refl

no_letter : (s c : ℕ) → is_letter s ≡ false → is_letter c ≡ true → (c == s) ≡ false
no_letter s c h k = go (c == s) refl
  where
    go : (t : Bool) → (c == s) ≡ t → (c == s) ≡ false
    go false t = t
    go true t =
        let bad : is_letter s ≡ true = ap is_letter (sym (eqb-true c s t)) ∙ k in
        absurd (true≢false (sym bad ∙ h))

part_lacks : (s c : ℕ) (t : Bool) → (32 == s) ≡ false → (c == s) ≡ false → Lacks s (cond t (32 ∷ c ∷ []) [])
part_lacks s c false h k = tt
part_lacks s c true h k = (h, (k, tt))

pub ports_lack : (s : ℕ) (place : Place) (ports : List Bool) → (32 == s) ≡ false → is_letter s ≡ false → Lacks s (ports_text place ports)
ports_lack s place ports h k =
    let part : (n : ℕ) → Lacks s (port_text place ports n) = λ n. part_lacks s (letter place n) (has_port ports n) h (no_letter s (letter place n) k (letter_fit place n)) in
    lacks_more s _ _ (part 0) (lacks_more s _ _ (part 1) (lacks_more s _ _ (part 2) (part 3)))

part_opens : (c : ℕ) (t : Bool) → opens (cond t (32 ∷ c ∷ []) []) ≡ true
part_opens c false = refl
part_opens c true = refl

pub ports_open : (place : Place) (ports : List Bool) → opens (ports_text place ports) ≡ true
ports_open place ports =
    let part : (n : ℕ) → opens (port_text place ports n) ≡ true = λ n. part_opens (letter place n) (has_port ports n) in
    let text = λ (n : ℕ). port_text place ports n in
    opens_more (text 0) (text 1 ++ (text 2 ++ text 3)) (part 0) (opens_more (text 1) (text 2 ++ text 3) (part 1) (opens_more (text 2) (text 3) (part 2) (part 3)))

-- ---- what the letters tell

abbrev IsTold : Place → Bool → Bool → Bool → Bool → Type 0
IsTold place a b c d = read_ports place (ports_text place (a ∷ b ∷ c ∷ d ∷ [])) ≡ a ∷ b ∷ c ∷ d ∷ []

danh_told : (mac : List ℕ) (mode : Mode) (a b : Bool) → IsTold (Danh mac mode) a b false false
unfolding has_octet
danh_told mac mode false false = refl
danh_told mac mode false true = refl
danh_told mac mode true false = refl
danh_told mac mode true true = refl

box_told : (mac : List ℕ) (mode : Mode) (a b c : Bool) → IsTold (RedBox mac mode) a b c false
unfolding has_octet
box_told mac mode false false false = refl
box_told mac mode false false true = refl
box_told mac mode false true false = refl
box_told mac mode false true true = refl
box_told mac mode true false false = refl
box_told mac mode true false true = refl
box_told mac mode true true false = refl
box_told mac mode true true true = refl

quad_told : (a b c d : Bool) → IsTold QuadBox a b c d
unfolding has_octet
quad_told false false false false = refl
quad_told false false false true = refl
quad_told false false true false = refl
quad_told false false true true = refl
quad_told false true false false = refl
quad_told false true false true = refl
quad_told false true true false = refl
quad_told false true true true = refl
quad_told true false false false = refl
quad_told true false false true = refl
quad_told true false true false = refl
quad_told true false true true = refl
quad_told true true false false = refl
quad_told true true false true = refl
quad_told true true true false = refl
quad_told true true true true = refl

station_told : (macs : ArrayVec (List ℕ)) (a : Bool) → IsTold (Station macs) a false false false
unfolding has_octet
station_told macs false = refl
station_told macs true = refl

exits_told : (place : Place) (a b c d : Bool) → AreExitsOf place (a ∷ b ∷ c ∷ d ∷ []) → IsTold place a b c d
exits_told (Danh mac mode) a b true d h = let no = h 2 refl in absurd (omega arith)
exits_told (Danh mac mode) a b false true h = let no = h 3 refl in absurd (omega arith)
exits_told (Danh mac mode) a b false false h = danh_told mac mode a b
exits_told (RedBox mac mode) a b c true h = let no = h 3 refl in absurd (omega arith)
exits_told (RedBox mac mode) a b c false h = box_told mac mode a b c
exits_told QuadBox a b c d h = quad_told a b c d
exits_told (Station macs) a true c d h = let no = h 1 refl in absurd (omega arith)
exits_told (Station macs) a false true d h = let no = h 2 refl in absurd (omega arith)
exits_told (Station macs) a false false true h = let no = h 3 refl in absurd (omega arith)
exits_told (Station macs) a false false false h = station_told macs a

pub ports_told : (place : Place) (ports : List Bool) → length ports ≡ 4 → AreExitsOf place ports → read_ports place (ports_text place ports) ≡ ports
ports_told place [] four h = absurd (omega arith)
ports_told place (a ∷ []) four h = absurd (omega arith)
ports_told place (a ∷ b ∷ []) four h = absurd (omega arith)
ports_told place (a ∷ b ∷ c ∷ []) four h = absurd (omega arith)
ports_told place (a ∷ b ∷ c ∷ d ∷ []) four h = exits_told place a b c d h
ports_told place (a ∷ b ∷ c ∷ d ∷ e ∷ more) four h = absurd (omega arith)

-- ---- `up` and a space tell of no port

past_space : (place : Place) (text : List ℕ) → read_ports place text ≡ read_ports place (32 ∷ text)
unfolding has_octet
past_space (Danh mac mode) text = refl
past_space (RedBox mac mode) text = refl
past_space QuadBox text = refl
past_space (Station macs) text = refl

past_up : (place : Place) (text : List ℕ) → read_ports place (117 ∷ 112 ∷ text) ≡ read_ports place text
unfolding has_octet
past_up (Danh mac mode) text = refl
past_up (RedBox mac mode) text = refl
past_up QuadBox text = refl
past_up (Station macs) text = refl

said_behind : (place : Place) (tail : List ℕ) → opens tail ≡ true → read_ports place (tail_of (behind_space tail)) ≡ read_ports place tail
said_behind place [] h = refl
said_behind place (b ∷ bs) h = past_space place bs ∙ ap (λ b. read_ports place (b ∷ bs)) (sym (eqb-true b 32 h))

pub ports_behind : (place : Place) (ports : List Bool) → length ports ≡ 4 → AreExitsOf place ports → read_ports place (tail_of (behind_space (ports_text place ports))) ≡ ports
ports_behind place ports four h = said_behind place (ports_text place ports) (ports_open place ports) ∙ ports_told place ports four h

pub up_open : (up : Bool) (place : Place) (ports : List Bool) → opens (up_text up ++ ports_text place ports) ≡ true
up_open true place ports = refl
up_open false place ports = ports_open place ports

pub ports_behind_up : (up : Bool) (place : Place) (ports : List Bool) → length ports ≡ 4 → AreExitsOf place ports
    → read_ports place (tail_of (behind_space (up_text up ++ ports_text place ports))) ≡ ports
ports_behind_up true place ports four h = past_up place (ports_text place ports) ∙ ports_told place ports four h
ports_behind_up false place ports four h = ports_behind place ports four h

-- ---- whether `up` is there

lacks_has : (s : ℕ) (text : List ℕ) → Lacks s text → has_octet s text ≡ false
unfolding has_octet
lacks_has s [] h = refl
lacks_has s (b ∷ bs) h = or_from (b == s) _ h.0 (lacks_has s bs h.1)

tail_lacks : (s : ℕ) (tail : List ℕ) → Lacks s tail → Lacks s (tail_of (behind_space tail))
tail_lacks s [] h = tt
tail_lacks s (b ∷ bs) h = h.1

pub up_told : (up : Bool) (place : Place) (ports : List Bool) → has_octet 117 (tail_of (behind_space (up_text up ++ ports_text place ports))) ≡ up
unfolding has_octet
up_told true place ports = refl
up_told false place ports = lacks_has 117 _ (tail_lacks 117 (ports_text place ports) (ports_lack 117 place ports refl refl))

pub up_line : (up : Bool) → Lacks 10 (up_text up)
up_line true = (refl, (refl, (refl, tt)))
up_line false = tt
