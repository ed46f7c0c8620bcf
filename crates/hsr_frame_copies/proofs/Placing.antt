-- What stands at the places of a packet that is a copy.
use Rattle.std.proofs.Common.{◌≡◌, ℕ, ◌+◌, ◌-◌, ◌<◌, ◌≤◌, ◌==◌, if◌then◌else◌, Bool, true, false, List, [], ◌++◌, length, take, drop, replicate, Option, Some, None, Result, Ok, Err, refl, sym, ap, subst, ◌∙◌, length-append, append-nil, arith}
use Rattle.std.specs.Option.{option_or}
use Rattle.std.specs.Prelude.{IfOk, nat_lt}
use Rattle.std.proofs.lemmas.List.{length-replicate, length-drop, get_or-drop, get_or_append_left, take-append-le, drop-append-le}
use Rattle.std.proofs.lemmas.Bool.Decides.{nat_tests}
use Rattle.std.proofs.lemmas.Bool.{ltb-false, ltb-true}
use Rattle.hsr_frame.specs.Cases.{unless}
use Rattle.hsr_frame.specs.Grammar.{Fields, fields_of, has_vlan, head_len, number_at, raw_fault}
use Rattle.hsr_frame.specs.Layout.{ethertype_hsr}
use Rattle.hsr_frame.specs.declared.fault.FrameFault.{FrameFault}
use Rattle.hsr_tag.specs.Seen.{classified, frame_fault, seen_in, tag_fault, tagged_of}
use Rattle.hsr_tag.specs.Tag.{TaggedFields}
use Rattle.hsr_tag.specs.declared.seen.Seen.{Seen}
use Rattle.hsr_tag.specs.declared.seen.Seen.TheVariants.{Plain, Tagged}
use Rattle.hsr_capture_reader.specs.Fields.{PacketFields}
use Rattle.hsr_frame_copies.specs.declared.contents.NoCopy.{NoCopy}
use Rattle.hsr_frame_copies.specs.declared.contents.NoCopy.TheVariants.{Unread}
use Rattle.hsr_frame_copies.specs.Contents.{CopyFields, IsAtPlaces, copy_at, copy_in, copy_of, filled, needed, payload_at, size_of}

-- what octets are that are a tagged frame: long enough, and no longer than a frame
pub record IsTaggedBy (octets : List ℕ) (t : TaggedFields) : Type 0 where
  pub head : payload_at octets ≤ length octets
  pub room : length octets ≤ 1524
  pub kind : (fields_of octets).kind == ethertype_hsr ≡ true
  pub fields : t ≡ tagged_of (fields_of octets)

-- no fault was found
tagged_seen : (o : Option FrameFault) (octets : List ℕ) (t : TaggedFields) → unless o (seen_in (fields_of octets)) ≡ Ok (Tagged t)
    → (o ≡ None) × (seen_in (fields_of octets) ≡ Tagged t)
tagged_seen None octets t is = (refl, cc)
tagged_seen (Some e) octets t is = absurd cc

ok_same : (a b : CopyFields) → ◌≡◌ {A = Result CopyFields NoCopy} (Ok a) (Ok b) → a ≡ b
ok_same a b is = cc

neither : (a b : Option FrameFault) → option_or a b ≡ None → (a ≡ None) × (b ≡ None)
neither None b is = (refl, is)
neither (Some e) b is = absurd cc

no_case : (b : Bool) (e : FrameFault) (rest : Option FrameFault) → (if b then Some e else rest) ≡ None → (b ≡ false) × (rest ≡ None)
no_case true e rest is = absurd cc
no_case false e rest is = (refl, is)

-- octets with no fault reach to their rest, which isn't too long
reaches : (octets : List ℕ) → raw_fault octets ≡ None → (head_len octets ≤ length octets) × (length octets ≤ head_len octets + 1506)
reaches octets none = grind (arith, nat_tests)

heads_by : (b : Bool) → (if b then 18 else 14) ≤ 18
heads_by true = omega arith
heads_by false = omega arith

tagged_same : (a b : TaggedFields) → Tagged a ≡ Tagged b → b ≡ a
tagged_same a b is = cc

no_plain : (f : Fields) (t : TaggedFields) → Plain f ≡ Tagged t → ⊥
no_plain f t is = cc

heads : (octets : List ℕ) → head_len octets ≤ 18
heads octets = heads_by (has_vlan octets)

long_enough : (octets : List ℕ) → (fields_of octets).kind == ethertype_hsr ≡ true → tag_fault (fields_of octets) ≡ None → 6 ≤ length (fields_of octets).rest
long_enough octets is none = grind (arith, nat_tests)

tagged_is : (octets : List ℕ) (t : TaggedFields) → (fields_of octets).kind == ethertype_hsr ≡ true → seen_in (fields_of octets) ≡ Tagged t → t ≡ tagged_of (fields_of octets)
tagged_is octets t is seen = tagged_same (tagged_of (fields_of octets)) t (subst (λ b. (if b then Tagged (tagged_of (fields_of octets)) else Plain (fields_of octets)) ≡ Tagged t) is seen)

plain_is : (octets : List ℕ) (t : TaggedFields) → (fields_of octets).kind == ethertype_hsr ≡ false → seen_in (fields_of octets) ≡ Tagged t → ⊥
plain_is octets t is seen = no_plain (fields_of octets) t (subst (λ b. (if b then Tagged (tagged_of (fields_of octets)) else Plain (fields_of octets)) ≡ Tagged t) is seen)

by_kind : (octets : List ℕ) (t : TaggedFields) (b : Bool) → (fields_of octets).kind == ethertype_hsr ≡ b → raw_fault octets ≡ None → tag_fault (fields_of octets) ≡ None
    → seen_in (fields_of octets) ≡ Tagged t → IsTaggedBy octets t
by_kind octets t true is raw tag seen =
    let reach = reaches octets raw in
    let rest : 6 ≤ length (drop (head_len octets) octets) = long_enough octets is tag in
    let vlan = heads octets in
    record {
      head = omega (arith, reach.0, rest, length-drop (head_len octets) octets);
      room = omega (arith, reach.1, vlan);
      kind = is;
      fields = tagged_is octets t is seen;
    }
by_kind octets t false is raw tag seen = absurd (plain_is octets t is seen)

tagged_by : (octets : List ℕ) (t : TaggedFields) → classified octets ≡ Ok (Tagged t) → IsTaggedBy octets t
unfolding classified
tagged_by octets t is =
    let seen = tagged_seen (frame_fault octets) octets t is in
    let none = neither (raw_fault octets) (tag_fault (fields_of octets)) seen.0 in
    by_kind octets t ((fields_of octets).kind == ethertype_hsr) refl none.0 none.1 seen.1

-- ---- octets that are no longer than others which begin with them

shifted : (h i : ℕ) (octets : List ℕ) → number_at i (drop h octets) ≡ number_at (h + i) octets
shifted h i octets =
    let next : h + (i + 1) ≡ h + i + 1 = omega arith in
    rw (get_or-drop h octets i 0, get_or-drop h octets (i + 1) 0, next) refl

same_number : (octets more : List ℕ) (i : ℕ) → i + 1 < length octets → number_at i (octets ++ more) ≡ number_at i octets
same_number octets more i lt =
    rw (get_or_append_left octets more 0 i (omega (arith, lt)), get_or_append_left octets more 0 (i + 1) lt) refl

-- a tagged frame whose first octets reach to its payload has its fields at their places
fields_same : (octets more : List ℕ) (b : Bool) → has_vlan octets ≡ b → payload_at octets ≤ length octets
    → copy_in octets (Ok (Tagged (tagged_of (fields_of (octets ++ more))))) ≡ Ok (copy_at octets (length (octets ++ more)))
fields_same octets more true is le =
    let len : 24 ≤ length octets = subst (λ x. (if x then 18 else 14) + 6 ≤ length octets) is le in
    let whole : has_vlan (octets ++ more) ≡ true = ap (λ n. n == 0x8100) (same_number octets more 12 (omega (arith, len))) ∙ is in
    let dst : take 6 (octets ++ more) ≡ take 6 octets = take-append-le 6 octets more (omega (arith, len)) in
    let rest : drop 6 (octets ++ more) ≡ drop 6 octets ++ more = drop-append-le 6 octets more (omega (arith, len)) in
    let src : take 6 (drop 6 (octets ++ more)) ≡ take 6 (drop 6 octets)
    = ap (take 6) rest ∙ take-append-le 6 (drop 6 octets) more (omega (arith, len, length-drop 6 octets)) in
    let vlan : number_at 14 (octets ++ more) ≡ number_at 14 octets = same_number octets more 14 (omega (arith, len)) in
    let first : number_at 0 (drop 18 (octets ++ more)) ≡ number_at 18 octets = shifted 18 0 (octets ++ more) ∙ same_number octets more 18 (omega (arith, len)) in
    let seq : number_at 2 (drop 18 (octets ++ more)) ≡ number_at 20 octets = shifted 18 2 (octets ++ more) ∙ same_number octets more 20 (omega (arith, len)) in
    let kind : number_at 4 (drop 18 (octets ++ more)) ≡ number_at 22 octets = shifted 18 4 (octets ++ more) ∙ same_number octets more 22 (omega (arith, len)) in
    let size : length (drop 6 (drop 18 (octets ++ more))) ≡ length (octets ++ more) - 24
    = omega (arith, length-drop 6 (drop 18 (octets ++ more)), length-drop 18 (octets ++ more)) in
    rw (is, whole, dst, src, vlan, first, seq, kind, size) refl
fields_same octets more false is le =
    let len : 20 ≤ length octets = subst (λ x. (if x then 18 else 14) + 6 ≤ length octets) is le in
    let whole : has_vlan (octets ++ more) ≡ false = ap (λ n. n == 0x8100) (same_number octets more 12 (omega (arith, len))) ∙ is in
    let dst : take 6 (octets ++ more) ≡ take 6 octets = take-append-le 6 octets more (omega (arith, len)) in
    let rest : drop 6 (octets ++ more) ≡ drop 6 octets ++ more = drop-append-le 6 octets more (omega (arith, len)) in
    let src : take 6 (drop 6 (octets ++ more)) ≡ take 6 (drop 6 octets)
    = ap (take 6) rest ∙ take-append-le 6 (drop 6 octets) more (omega (arith, len, length-drop 6 octets)) in
    let first : number_at 0 (drop 14 (octets ++ more)) ≡ number_at 14 octets = shifted 14 0 (octets ++ more) ∙ same_number octets more 14 (omega (arith, len)) in
    let seq : number_at 2 (drop 14 (octets ++ more)) ≡ number_at 16 octets = shifted 14 2 (octets ++ more) ∙ same_number octets more 16 (omega (arith, len)) in
    let kind : number_at 4 (drop 14 (octets ++ more)) ≡ number_at 18 octets = shifted 14 4 (octets ++ more) ∙ same_number octets more 18 (omega (arith, len)) in
    let size : length (drop 6 (drop 14 (octets ++ more))) ≡ length (octets ++ more) - 20
    = omega (arith, length-drop 6 (drop 14 (octets ++ more)), length-drop 14 (octets ++ more)) in
    rw (is, whole, dst, src, first, seq, kind, size) refl

-- ---- what was captured of a tagged frame

-- octets with zeros behind them, or with nothing, that are a tagged frame
placed_by : (p : PacketFields) (more : List ℕ) (copy : CopyFields) (s : Result Seen FrameFault) → classified (p.octets ++ more) ≡ s → copy_in p.octets s ≡ Ok copy
    → ((t : TaggedFields) → IsTaggedBy (p.octets ++ more) t → payload_at p.octets ≤ length p.octets) → length (p.octets ++ more) ≡ size_of p → IsAtPlaces p copy
placed_by p more copy (Ok (Tagged t)) is copied head size =
    let by = tagged_by (p.octets ++ more) t is in
    let same : copy_in p.octets (Ok (Tagged t)) ≡ Ok (copy_at p.octets (length (p.octets ++ more)))
    = ap (λ x. copy_in p.octets (Ok (Tagged x))) by.fields ∙ fields_same p.octets more (has_vlan p.octets) refl (head t by) in
    let found : copy ≡ copy_at p.octets (length (p.octets ++ more)) = ok_same copy (copy_at p.octets (length (p.octets ++ more))) (sym copied ∙ same) in
    record { room = subst (λ n. n ≤ 1524) size by.room; head = head t by; places = found ∙ ap (copy_at p.octets) size }
placed_by p more copy (Ok (Plain f)) is copied head size = absurd cc
placed_by p more copy (Err e) is copied head size = absurd cc

-- the octets up to the type say where the tag is
same_kind : (octets more : List ℕ) (b : Bool) → has_vlan octets ≡ b → 14 ≤ length octets → head_len octets ≤ length octets
    → (fields_of (octets ++ more)).kind == ethertype_hsr ≡ true → number_at (head_len octets - 2) octets == ethertype_hsr ≡ true
same_kind octets more true is long head kind =
    let len : 18 ≤ length octets = subst (λ x. (if x then 18 else 14) ≤ length octets) is head in
    let whole : has_vlan (octets ++ more) ≡ true = ap (λ n. n == 0x8100) (same_number octets more 12 (omega (arith, len))) ∙ is in
    let there : number_at 16 (octets ++ more) == ethertype_hsr ≡ true = subst (λ x. number_at ((if x then 18 else 14) - 2) (octets ++ more) == ethertype_hsr ≡ true) whole kind in
    rw is (sym (ap (λ n. n == ethertype_hsr) (same_number octets more 16 (omega (arith, len)))) ∙ there)
same_kind octets more false is long head kind =
    let whole : has_vlan (octets ++ more) ≡ false = ap (λ n. n == 0x8100) (same_number octets more 12 (omega (arith, long))) ∙ is in
    let there : number_at 12 (octets ++ more) == ethertype_hsr ≡ true = subst (λ x. number_at ((if x then 18 else 14) - 2) (octets ++ more) == ethertype_hsr ≡ true) whole kind in
    rw is (sym (ap (λ n. n == ethertype_hsr) (same_number octets more 12 (omega (arith, long)))) ∙ there)

-- as many octets as are needed reach to the last type, and behind the tag that this may be of
needed_head : (octets : List ℕ) → nat_lt (length octets) (needed octets) ≡ false → (14 ≤ length octets) × (head_len octets ≤ length octets)
needed_head octets is = grind (arith, nat_tests)

needed_tag : (octets : List ℕ) → nat_lt (length octets) (needed octets) ≡ false → number_at (head_len octets - 2) octets == ethertype_hsr ≡ true → payload_at octets ≤ length octets
needed_tag octets is kind = grind (arith, nat_tests)

placed_cut : (p : PacketFields) (copy : CopyFields) (b : Bool) → nat_lt (length p.octets) (needed p.octets) ≡ b → length p.octets < p.length
    → (if b then Err Unread else copy_in p.octets (classified (filled p))) ≡ Ok copy → IsAtPlaces p copy
placed_cut p copy true is cut found = absurd cc
placed_cut p copy false is cut found =
    let heads = needed_head p.octets is in
    let size : length (filled p) ≡ size_of p = omega (arith, cut, length-append p.octets (replicate (p.length - length p.octets) 0), length-replicate {A = ℕ} (p.length - length p.octets) 0) in
    placed_by p (replicate (p.length - length p.octets) 0) copy (classified (filled p)) refl found
    (λ t by. needed_tag p.octets is (same_kind p.octets (replicate (p.length - length p.octets) 0) (has_vlan p.octets) refl heads.0 heads.1 by.kind)) size

placed_whole : (p : PacketFields) (copy : CopyFields) → p.length ≤ length p.octets → copy_in p.octets (classified p.octets) ≡ Ok copy → IsAtPlaces p copy
placed_whole p copy whole found =
    let all : p.octets ++ [] ≡ p.octets = append-nil p.octets in
    let size : length (p.octets ++ []) ≡ size_of p = ap length all ∙ omega (arith, whole) in
    placed_by p [] copy (classified p.octets) (ap classified all) found
    (λ t by. subst (λ xs. payload_at xs ≤ length xs) all by.head) size

placed_if : (p : PacketFields) (copy : CopyFields) (b : Bool) → nat_lt (length p.octets) p.length ≡ b
    → (if b then (if nat_lt (length p.octets) (needed p.octets) then Err Unread else copy_in p.octets (classified (filled p))) else copy_in p.octets (classified p.octets)) ≡ Ok copy
    → IsAtPlaces p copy
placed_if p copy true is found = placed_cut p copy (nat_lt (length p.octets) (needed p.octets)) refl (ltb-true (length p.octets) p.length is) found
placed_if p copy false is found = placed_whole p copy (ltb-false (length p.octets) p.length is) found

-- what a packet is that is a copy stands at its places
pub placed : (p : PacketFields) (r : Result CopyFields NoCopy) → r ≡ copy_of p → IfOk r (λ copy. IsAtPlaces p copy)
placed p (Ok copy) is = placed_if p copy (nat_lt (length p.octets) p.length) refl (sym is)
placed p (Err what) is = tt
