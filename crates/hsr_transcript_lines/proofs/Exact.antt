-- Words that are read and are the one spelling of what they say, and lines of such words.
use Rattle.std.proofs.Common.{◌≡◌, ℕ, ◌^◌, ◌<◌, ◌==◌, ◌&&◌, ◌||◌, nat_lt, Option, None, Some, Ok, Err, Result, List, [], ◌∷◌, ◌++◌, ◌∙◌, length, append_assoc, option_map, refl, sym, ap, ap₂, subst, arith, cond, Bool, true, false}
use Rattle.std.proofs.lemmas.Bool.{and_parts}
use Rattle.std.proofs.lemmas.Bool.Decides.{nat_tests}
use Rattle.std.proofs.lemmas.Fmt.{decimal-digits_value}
use Rattle.std.proofs.lemmas.List.{append-nil}
use Rattle.std.proofs.lemmas.Nat.{be_bytes_2}
use Rattle.std.proofs.lemmas.Slice.Eq.{bytes_eq-Decides}
use borrow.Author.Tests.{eqb-true}
use Rattle.std.specs.Prelude.{codes, not, IfOk}
use Rattle.std.specs.Int.{from_be_bytes, w16}
use Rattle.std.specs.Str.{all_ascii_digits, bytes_eq}
use Rattle.std.specs.Fmt.{decimal}
use Rattle.std.specs.Result.{result_ok}
use Rattle.hex.specs.Hex.{decode_of, decode_sized, encode_upper, encode_with}
use Rattle.hex.specs.declared.error.FromHexError.{FromHexError}
use Rattle.hex.proofs.HexLemmas.{decode_of-ok, decode_sized-ok, decode_sized-twice}
use Rattle.hsr_frame.specs.Address.{address_text, upper_digit, upper_text}
use Rattle.hsr_frame.specs.Grammar.{pair}
use Rattle.hsr_text.specs.Moments.{whole_units}
use Rattle.hsr_text.specs.declared.time_unit.TimeUnit.{TimeUnit}
use Rattle.hsr_text.specs.Words.{◌>>=◌, cut, decimal_of, hex_octets_of, hex_pair_of, is_decimal, mac_text, value_on, word_at}
use Rattle.hsr_node.specs.declared.event.Event.{Event}
use Rattle.hsr_node.specs.declared.event.Event.TheVariants.{Send, Arrive}
use Rattle.hsr_node.specs.declared.event.Outcome.{Outcome}
use Rattle.hsr_node.specs.declared.event.Probe.{Probe}
use Rattle.hsr_node.specs.declared.place.Place.{Place}
use Rattle.hsr_node.specs.Words.{letter}
use Rattle.hsr_link.specs.Rows.{is_queued}
use Rattle.hsr_link.specs.Words.{dir_of, dir_word, fate_of, fate_word}
use Rattle.hsr_link.specs.declared.row.Dir.{Dir}
use Rattle.hsr_link.specs.declared.row.Dir.TheVariants.{Forth, Back}
use Rattle.hsr_link.specs.declared.row.Fate.{Fate}
use Rattle.hsr_link.specs.declared.row.Fate.TheVariants.{Queued, Taken, LostDown, LostCut, LostOverrun}
use Rattle.hsr_transcript_lines.specs.Exact.{after, is_upper, exactly, tested}
use Rattle.hsr_transcript_lines.specs.Parsed.{below, read_fate, read_probe, read_vlan}
use Rattle.hsr_transcript_lines.specs.Spelled.{entry_text, event_text, octets_text, outcome_text, probe_text, row_text, vlan_text}
use Rattle.hsr_transcript_lines.proofs.Again.{exactly_again}
use Rattle.hsr_transcript_lines.proofs.CutWords.{cut_spells}
use Rattle.hsr_transcript_lines.proofs.UpperDigits.{decoded}
use Rattle.hsr_transcript_lines.proofs.WordTexts.{own}

-- ---- answers

-- what holds of a value that is there
pub ok_told : {X E : Type 0} (P : X → Type 0) (r : Result X E) (x : X) → result_ok r ≡ Some x → IfOk r P → P x
ok_told P (Ok y) x e h = let same : y ≡ x = cc in subst P same h
ok_told P (Err f) x e h = absurd (cc)

-- what follows from what holds of a value
pub ok_more : {X E : Type 0} (P Q : X → Type 0) (r : Result X E) → ((x : X) → P x → Q x) → IfOk r P → IfOk r Q
ok_more P Q (Ok x) more h = more x h
ok_more P Q (Err f) more h = tt

-- ---- lines

-- what is said, where the line is surely that of the value
pub exactly_sure : {Y : Type 0} (spelled : Y → List ℕ) (said : List ℕ → Option Y) (line : List ℕ) (y : Y) → said line ≡ Some y → spelled y ≡ line
    → exactly spelled said line ≡ Some y
exactly_sure spelled said line y e same =
    subst (λ l. exactly spelled said l ≡ Some y) same (exactly_again spelled said y (ap said same ∙ e))

-- ---- words of a text

cut_whole : (xs : List ℕ) → xs ≡ (cut 32 xs).0 ++ after (cut 32 xs).1
cut_whole [] = refl
cut_whole (b ∷ bs) = go (b == 32) refl (cut_whole bs)
  where
    go : (t : Bool) → (b == 32) ≡ t → bs ≡ (cut 32 bs).0 ++ after (cut 32 bs).1
        → b ∷ bs ≡ (cond {A = List ℕ × Option (List ℕ)} t ([], Some bs) (b ∷ (cut 32 bs).0, (cut 32 bs).1)).0 ++ after (cond {A = List ℕ × Option (List ℕ)} t ([], Some bs) (b ∷ (cut 32 bs).0, (cut 32 bs).1)).1
    go true e more = let same : b ≡ 32 = eqb-true b 32 e in ap (λ c. c ∷ bs) same
    go false e more = ap (λ l. b ∷ l) more

-- a word, and what stands behind it
pub word_whole : (o r : Option (List ℕ)) (w : List ℕ) → Some (w, r) ≡ word_at o → o ≡ Some (w ++ after r)
word_whole None r w e = absurd (cc)
word_whole (Some text) r w e =
    let same : ◌≡◌ {A = List ℕ × Option (List ℕ)} (w, r) (cut 32 text) = cc in
    ap Some (cut_whole text ∙ sym (ap (λ c. c.0 ++ after c.1) same))

-- a word that is spelled so, and what stands behind it
pub behind : (o r : Option (List ℕ)) (w t more : List ℕ) → Some (w, r) ≡ word_at o → t ≡ w → after r ≡ more → after o ≡ 32 ∷ (t ++ more)
behind o r w t more e is rest = ap after (word_whole o r w e) ∙ ap (λ l. 32 ∷ l) (ap₂ (λ a b. a ++ b) (sym is) rest)

-- the last word
last : (o r : Option (List ℕ)) (w t : List ℕ) → Some (w, r) ≡ word_at o → t ≡ w → r ≡ None → after o ≡ 32 ∷ t
last o r w t e is none = behind o r w t [] e is (ap after none) ∙ ap (λ l. 32 ∷ l) (append-nil t)

-- ---- numbers

-- of digits a zero is the first only where it is alone
lead : (b : ℕ) (bs : List ℕ) → (nat_lt 48 b || length bs == 0) ≡ true → b ≡ 48 → length (b ∷ bs) ≡ 1
lead b bs h z = grind (arith, nat_tests)

pub number_exact : (w : List ℕ) (n : ℕ) → decimal_of w ≡ Some n → decimal n ≡ w
number_exact [] n e = absurd (cc)
number_exact (b ∷ bs) n e = go (is_decimal (b ∷ bs) && nat_lt (value_on 0 (b ∷ bs)) (2 ^ 64)) refl e
  where
    go : (t : Bool) → (is_decimal (b ∷ bs) && nat_lt (value_on 0 (b ∷ bs)) (2 ^ 64)) ≡ t → cond t (Some (value_on 0 (b ∷ bs))) None ≡ Some n → decimal n ≡ b ∷ bs
    go false h e = absurd (cc)
    go true h e =
        let parts = and_parts (is_decimal (b ∷ bs)) (nat_lt (value_on 0 (b ∷ bs)) (2 ^ 64)) h in
        let digits = and_parts (all_ascii_digits (b ∷ bs)) (nat_lt 48 b || length bs == 0) parts.0 in
        let small : value_on 0 (b ∷ bs) < 2 ^ 64 = let s = parts.1 in grind (arith, nat_tests, s) in
        let is : value_on 0 (b ∷ bs) ≡ n = cc in
        ap decimal (sym is) ∙ decimal-digits_value own (b ∷ bs) digits.0 (omega arith) (lead b bs digits.1) small

-- ---- octets

ok_of : (r : Result (List ℕ) FromHexError) (xs : List ℕ) → result_ok r ≡ Some xs → r ≡ Ok xs
ok_of (Ok ys) xs e = let is : ys ≡ xs = cc in ap (λ l. Ok l) is
ok_of (Err f) xs e = absurd (cc)

-- octets that are read of a word are spelled by it
spelled_by : (xs : List ℕ) (b : ℕ) (bs : List ℕ) → encode_upper xs ≡ b ∷ bs → octets_text xs ≡ b ∷ bs
unfolding encode_with
spelled_by [] b bs e = absurd (cc)
spelled_by (x ∷ xs) b bs e = e

alone : (cs : List ℕ) → length cs ≡ 0 → cs ≡ []
alone [] e = refl
alone (c ∷ cs) e = absurd (omega arith)

pub octets_exact : (w xs : List ℕ) → hex_octets_of w ≡ Some xs → is_upper w ≡ true → octets_text xs ≡ w
octets_exact [] xs e u = absurd (cc)
octets_exact (b ∷ bs) xs e u = go (b == 45 && length bs == 0) refl e
  where
    go : (t : Bool) → (b == 45 && length bs == 0) ≡ t → cond t (Some []) (result_ok (decode_of (b ∷ bs))) ≡ Some xs → octets_text xs ≡ b ∷ bs
    go true h e =
        let parts = and_parts (b == 45) (length bs == 0) h in
        let none : [] ≡ xs = cc in
        let hyphen : b ≡ 45 = eqb-true b 45 parts.0 in
        let last : bs ≡ [] = alone bs (eqb-true (length bs) 0 parts.1) in
        ap octets_text (sym none) ∙ sym (ap₂ (λ c cs. c ∷ cs) hyphen last)
    go false h e = spelled_by xs b bs (decoded (b ∷ bs) xs (ok_of (decode_of (b ∷ bs)) xs e) u)

-- two octets
pub pair_exact : (w : List ℕ) (n : ℕ) → hex_pair_of w ≡ Some n → is_upper w ≡ true → encode_upper (pair n) ≡ w
pair_exact w n e u = go (decode_sized w 2) refl e
  where
    go : (r : Result (List ℕ) FromHexError) → decode_sized w 2 ≡ r → (result_ok r >>= λ octets. Some (from_be_bytes w16 octets)) ≡ Some n → encode_upper (pair n) ≡ w
    go (Err f) h e = absurd (cc)
    go (Ok xs) h e =
        let len = decode_sized-ok w 2 xs h in
        let whole : decode_of w ≡ Ok xs = sym (decode_sized-twice w 2 len) ∙ h in
        let told = decode_of-ok w xs whole in
        let two : length xs ≡ 2 = let t = told.2 in omega arith in
        let is : n ≡ from_be_bytes w16 xs = cc in
        ap encode_upper (be_bytes_2 xs n two told.3 is) ∙ decoded w xs whole u

-- ---- addresses

pub upper_exact : (w : List ℕ) → is_upper w ≡ true → upper_text w ≡ w
upper_exact [] u = refl
upper_exact (b ∷ bs) u =
    let parts = and_parts (nat_lt b 97) (is_upper bs) u in
    let same : upper_digit b ≡ b = let p = parts.0 in grind (arith, nat_tests, p) in
    ap₂ (λ c cs. c ∷ cs) same (upper_exact bs parts.1)

-- ---- words of tables

-- a row of a table of words
row_exact : {Y : Type 0} (text : Y → List ℕ) (w word : List ℕ) (x y : Y) (other : Option Y) → text x ≡ word → (other ≡ Some y → text y ≡ w)
    → cond (bytes_eq w word) (Some x) other ≡ Some y → text y ≡ w
row_exact text w word x y other is more = go (bytes_eq w word) refl
  where
    go : (t : Bool) → bytes_eq w word ≡ t → cond t (Some x) other ≡ Some y → text y ≡ w
    go true h e = let same : x ≡ y = cc in ap text (sym same) ∙ is ∙ sym ((bytes_eq-Decides w word).0 h)
    go false h e = more e

pub dir_exact : (w : List ℕ) (d : Dir) → dir_of w ≡ Some d → dir_word d ≡ w
dir_exact w d e =
    row_exact dir_word w (codes "forth") Forth d _ refl (row_exact dir_word w (codes "back") Back d None refl (λ f. absurd (cc))) e

fate_word_exact : (w : List ℕ) (f : Fate) → fate_of w ≡ Some f → fate_word f ≡ w
fate_word_exact w f e =
    row_exact fate_word w (codes "queued") Queued f _ refl
    (row_exact fate_word w (codes "taken") Taken f _ refl
    (row_exact fate_word w (codes "down") LostDown f _ refl
    (row_exact fate_word w (codes "cut") LostCut f _ refl
    (row_exact fate_word w (codes "overrun") LostOverrun f None refl (λ g. absurd (cc)))))) e

tested_was : {Y : Type 0} (test : Y → Bool) (o : Option Y) (y : Y) → tested test o ≡ Some y → o ≡ Some y
tested_was test None y e = absurd (cc)
tested_was test (Some x) y e = go (test x) e
  where
    go : (t : Bool) → cond t (Some x) None ≡ Some y → Some x ≡ Some y
    go true e = e
    go false e = absurd (cc)

pub fate_exact : (w : List ℕ) (f : Fate) → read_fate w ≡ Some f → fate_word f ≡ w
fate_exact w f e = fate_word_exact w f (tested_was (λ fate. not (is_queued fate)) (fate_of w) f e)

-- ---- words of events

pub below_exact : (bound : ℕ) (w : List ℕ) (n : ℕ) → below bound w ≡ Some n → decimal n ≡ w
below_exact bound w n e = number_exact w n (tested_was (λ n. nat_lt n bound) (decimal_of w) n e)

pub probe_exact : (w : List ℕ) (p : Probe) → read_probe w ≡ Some p → probe_text (Some p) ≡ w
probe_exact w p e = go (decimal_of (cut 58 w).0) refl (cut 58 w).1 refl e
  where
    on : (n : ℕ) → decimal_of (cut 58 w).0 ≡ Some n → (rest : List ℕ) → (cut 58 w).1 ≡ Some rest → (o : Option ℕ) → decimal_of rest ≡ o
        → (o >>= λ place. Some (record { node = n; place = place })) ≡ Some p → probe_text (Some p) ≡ w
    on n a rest b None c e = absurd (cc)
    on n a rest b (Some m) c e =
        let is : record { node = n; place = m } ≡ p = cc in
        ap (λ (q : Probe). probe_text (Some q)) (sym is) ∙ ap₂ (λ x y. x ++ 58 ∷ y) (number_exact (cut 58 w).0 n a) (number_exact rest m c) ∙ sym (cut_spells 58 w rest b)

    go : (o : Option ℕ) → decimal_of (cut 58 w).0 ≡ o → (r : Option (List ℕ)) → (cut 58 w).1 ≡ r
        → (o >>= λ node. r >>= λ rest. decimal_of rest >>= λ place. Some (record { node = node; place = place })) ≡ Some p → probe_text (Some p) ≡ w
    go None a r b e = absurd (cc)
    go (Some n) a None b e = absurd (cc)
    go (Some n) a (Some rest) b e = on n a rest b (decimal_of rest) refl e

pub vlan_exact : (w : List ℕ) (vlan : Option ℕ) → read_vlan w ≡ Some vlan → is_upper w ≡ true → vlan_text vlan ≡ w
vlan_exact w vlan e u = go (bytes_eq w (codes "-")) refl (hex_pair_of w) refl e
  where
    go : (t : Bool) → bytes_eq w (codes "-") ≡ t → (o : Option ℕ) → hex_pair_of w ≡ o → cond t (Some None) (option_map Some o) ≡ Some vlan → vlan_text vlan ≡ w
    go true h o a e = let is : None ≡ vlan = cc in ap vlan_text (sym is) ∙ sym ((bytes_eq-Decides w (codes "-")).0 h)
    go false h None a e = absurd (cc)
    go false h (Some n) a e = let is : Some n ≡ vlan = cc in ap vlan_text (sym is) ∙ pair_exact w n a u

pub mac_exact : (w mac : List ℕ) → upper_text w ≡ address_text mac → is_upper w ≡ true → mac_text mac ≡ w
unfolding mac_text
mac_exact w mac e u = sym e ∙ upper_exact w u

-- ---- rows

pub row_sure : (line w1 w2 w3 w4 : List ℕ) (r1 r2 r3 r4 : Option (List ℕ)) (dir : Dir) (p : Probe) (octets : List ℕ) (fate : Fate)
    → Some (w1, r1) ≡ word_at (Some line) → Some (w2, r2) ≡ word_at r1 → Some (w3, r3) ≡ word_at r2 → Some (w4, r4) ≡ word_at r3
    → dir_of w1 ≡ Some dir → read_probe w2 ≡ Some p → hex_octets_of w3 ≡ Some octets → read_fate w4 ≡ Some fate → is_upper w3 ≡ true → r4 ≡ None
    → row_text (record { dir = dir; carried = record { probe = Some p; octets = octets }; injected = false; fate = fate }) ≡ line
unfolding row_text
row_sure line w1 w2 w3 w4 r1 r2 r3 r4 dir p octets fate e1 e2 e3 e4 d q o f u none =
    let from_4 = last r3 r4 w4 (fate_word fate) e4 (fate_exact w4 fate f) none in
    let from_3 = behind r2 r3 w3 (octets_text octets) _ e3 (octets_exact w3 octets o u) from_4 in
    let from_2 = behind r1 r2 w2 (probe_text (Some p)) _ e2 (probe_exact w2 p q) from_3 in
    let from_1 = behind (Some line) r1 w1 (dir_word dir) _ e1 (dir_exact w1 dir d) from_2 in
    cc

-- ---- entries

pub send_sure : (place : Place) (o r1 r2 r3 r4 r5 : Option (List ℕ)) (w1 w2 w3 w4 w5 : List ℕ) (from : ℕ) (dst : List ℕ) (vlan : Option ℕ) (ethertype : ℕ) (payload : List ℕ)
    → Some (w1, r1) ≡ word_at o → Some (w2, r2) ≡ word_at r1 → Some (w3, r3) ≡ word_at r2 → Some (w4, r4) ≡ word_at r3 → Some (w5, r5) ≡ word_at r4
    → below 256 w1 ≡ Some from → upper_text w2 ≡ address_text dst → read_vlan w3 ≡ Some vlan → hex_pair_of w4 ≡ Some ethertype → hex_octets_of w5 ≡ Some payload
    → is_upper w2 ≡ true → is_upper w3 ≡ true → is_upper w4 ≡ true → is_upper w5 ≡ true
    → codes "send" ++ after o ≡ event_text place (Send from dst vlan ethertype payload) ++ after r5
unfolding event_text
send_sure place o r1 r2 r3 r4 r5 w1 w2 w3 w4 w5 from dst vlan ethertype payload e1 e2 e3 e4 e5 a b c d f u2 u3 u4 u5 =
    let from_5 = behind r4 r5 w5 (octets_text payload) (after r5) e5 (octets_exact w5 payload f u5) refl in
    let from_4 = behind r3 r4 w4 (encode_upper (pair ethertype)) _ e4 (pair_exact w4 ethertype d u4) from_5 in
    let from_3 = behind r2 r3 w3 (vlan_text vlan) _ e3 (vlan_exact w3 vlan c u3) from_4 in
    let from_2 = behind r1 r2 w2 (mac_text dst) _ e2 (mac_exact w2 dst b u2) from_3 in
    let from_1 = behind o r1 w1 (decimal from) _ e1 (below_exact 256 w1 from a) from_2 in
    ap (λ l. codes "send" ++ l) from_1 ∙ simp append_assoc

pub arrive_sure : (place : Place) (o r1 r2 r3 : Option (List ℕ)) (w1 w2 w3 : List ℕ) (port : ℕ) (p : Probe) (octets : List ℕ)
    → Some (w1, r1) ≡ word_at o → Some (w2, r2) ≡ word_at r1 → Some (w3, r3) ≡ word_at r2
    → w1 ≡ letter place port ∷ [] → read_probe w2 ≡ Some p → hex_octets_of w3 ≡ Some octets → is_upper w3 ≡ true
    → codes "arrive" ++ after o ≡ event_text place (Arrive port (record { probe = Some p; octets = octets })) ++ after r3
unfolding event_text
arrive_sure place o r1 r2 r3 w1 w2 w3 port p octets e1 e2 e3 a b c u =
    let from_3 = behind r2 r3 w3 (octets_text octets) (after r3) e3 (octets_exact w3 octets c u) refl in
    let from_2 = behind r1 r2 w2 (probe_text (Some p)) _ e2 (probe_exact w2 p b) from_3 in
    let from_1 = behind o r1 w1 (letter place port ∷ []) _ e1 (sym a) from_2 in
    ap (λ l. codes "arrive" ++ l) from_1 ∙ simp append_assoc

pub entry_sure : (unit : TimeUnit) (place : Place) (line w1 w2 w3 : List ℕ) (r1 r2 r3 r4 : Option (List ℕ)) (worker at : ℕ) (event : Event) (outcome : Outcome)
    → Some (w1, r1) ≡ word_at (Some line) → Some (w2, r2) ≡ word_at r1 → after r2 ≡ 32 ∷ (event_text place event ++ after r3) → Some (w3, r4) ≡ word_at r3
    → below (2 ^ 16) w1 ≡ Some worker → decimal (whole_units unit at) ≡ w2 → w3 ≡ codes "=" → after r4 ≡ 32 ∷ outcome_text place outcome
    → entry_text unit place (record { worker = worker; at = at; event = event; outcome = outcome }) ≡ line
unfolding entry_text
entry_sure unit place line w1 w2 w3 r1 r2 r3 r4 worker at event outcome e1 e2 e3 e4 a b c d =
    let from_4 = behind r3 r4 w3 (codes "=") _ e4 (sym c) d in
    let from_3 : after r2 ≡ 32 ∷ (event_text place event ++ 32 ∷ (codes "=" ++ 32 ∷ outcome_text place outcome)) = e3 ∙ ap (λ l. 32 ∷ (event_text place event ++ l)) from_4 in
    let from_2 = behind r1 r2 w2 (decimal (whole_units unit at)) _ e2 b from_3 in
    let from_1 = behind (Some line) r1 w1 (decimal worker) _ e1 (below_exact (2 ^ 16) w1 worker a) from_2 in
    cc
