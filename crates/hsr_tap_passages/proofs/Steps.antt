-- Steps one after the other: what is left answers for all.
use Rattle.std.proofs.Common.{◌≡◌, ℕ, suc, ◌+◌, add-one, drop-cons, ◌<◌, ◌≤◌, ◌++◌, append_assoc, true, false, List, [], ◌∷◌, length, get_or, drop, map, sym, ap, subst, ◌∙◌, Option, Result, Ok, Err, if◌then◌else◌, arith}
use Rattle.std.proofs.lemmas.Bool.{cond-false, cond-true}
use Rattle.std.proofs.lemmas.List.{at_drop_more, at_drop_all}
use Rattle.std.proofs.lemmas.List.FromFn.{map-range_with_len_more}
use Rattle.std.specs.List.{range_with_len}
use Rattle.std.specs.Prelude.{⊤}
use Rattle.hsr_toml.specs.Fallible.{◌>>=◌}
use Rattle.hsr_toml.proofs.Fallible.{fails, stays}
use Rattle.hsr_capture_reader.specs.Fields.{InterfaceFields, PacketFields}
use Rattle.hsr_tap_device.specs.declared.device.Named.{Named}
use Rattle.hsr_tap_device.specs.declared.device.Tap.{Tap}
use Rattle.hsr_tap_device.specs.declared.device.Times.{Times}
use Rattle.hsr_playback.specs.declared.passage.Passage.{Passage}
use Rattle.hsr_tap_passages.specs.Faults.{Fails, is_memory}
use Rattle.hsr_tap_passages.specs.Interfaces.{are_used, indexes_from, is_used, named_as, on_ethernet, tap_at}
use Rattle.hsr_tap_passages.specs.Shown.{passages_from, with_packet}
use Rattle.hsr_tap_passages.specs.declared.fault.PassageFault.{PassageFault}
use Rattle.hsr_tap_passages.specs.declared.fault.PassageFault.TheVariants.{NoSuchName}

-- what stands at a place
drop_here : {X : Type 0} (xs : List X) (i : ℕ) (x : X) → i < length xs → x ≡ get_or xs i x → drop i xs ≡ x ∷ drop (i + 1) xs
drop_here xs i x h here = drop-cons xs i x h ∙ ap (λ z. z ∷ drop (suc i) xs) (sym here) ∙ ap (λ n. x ∷ drop n xs) (sym (add-one i))

pub fails_on : {A B : Type 0} (e : PassageFault) (step : Result A PassageFault) (f : A → Result B PassageFault) → Fails e step → Fails e (step >>= f)
fails_on e step f h = stays is_memory e step f h

-- ---- interfaces

module _ (named : List Named) (seen : List (Option ℕ)) (is : List InterfaceFields) (i : ℕ) (x : InterfaceFields) where
  first_index : i < length is → x ≡ get_or is i x → indexes_from named seen (drop i is)
      ≡ (on_ethernet x.link (named_as named (length seen) x.name) >>= λ index. indexes_from named (seen ++ index ∷ []) (drop (i + 1) is))
  first_index h here = ap (indexes_from named seen) (drop_here is i x h here)

  pub indexes_step : (index : Option ℕ) → i < length is → x ≡ get_or is i x → on_ethernet x.link (named_as named (length seen) x.name) ≡ Ok index
      → indexes_from named seen (drop i is) ≡ indexes_from named (seen ++ index ∷ []) (drop (i + 1) is)
  indexes_step index h here e = first_index h here ∙ ap (λ r. r >>= λ index. indexes_from named (seen ++ index ∷ []) (drop (i + 1) is)) e

  pub indexes_fail : (e : PassageFault) (whole : Result (List (Option ℕ)) PassageFault) → i < length is → x ≡ get_or is i x → indexes_from named seen (drop i is) ≡ whole
      → on_ethernet x.link (named_as named (length seen) x.name) ≡ Err e → Fails e whole
  indexes_fail e whole h here same fault =
      fails is_memory e whole (sym same ∙ first_index h here ∙ ap (λ r. r >>= λ index. indexes_from named (seen ++ index ∷ []) (drop (i + 1) is)) fault)

-- ---- names that no interface has

module _ (indexes : List (Option ℕ)) (ns : List Named) (i : ℕ) (n : Named) where
  first_name : i < length ns → n ≡ get_or ns i n → are_used indexes i (drop i ns)
      ≡ (if is_used indexes i then are_used indexes (i + 1) (drop (i + 1) ns) else Err (NoSuchName n.name))
  first_name h here = ap (are_used indexes i) (drop_here ns i n h here)

  pub used_step : (whole : Result ⊤ PassageFault) → i < length ns → n ≡ get_or ns i n → is_used indexes i ≡ true → are_used indexes i (drop i ns) ≡ whole
      → are_used indexes (i + 1) (drop (i + 1) ns) ≡ whole
  used_step whole h here used same =
      sym (cond-true (is_used indexes i) (are_used indexes (i + 1) (drop (i + 1) ns)) (Err (NoSuchName n.name)) used) ∙ sym (first_name h here) ∙ same

  pub used_fail : (whole : Result ⊤ PassageFault) → i < length ns → n ≡ get_or ns i n → is_used indexes i ≡ false → are_used indexes i (drop i ns) ≡ whole
      → whole ≡ Err (NoSuchName n.name)
  used_fail whole h here used same =
      sym same ∙ first_name h here ∙ cond-false (is_used indexes i) (are_used indexes (i + 1) (drop (i + 1) ns)) (Err (NoSuchName n.name)) used

pub used_all : (indexes : List (Option ℕ)) (ns : List Named) (i : ℕ) → length ns ≤ i → are_used indexes i (drop i ns) ≡ Ok tt
used_all indexes ns i h = at_drop_all (are_used indexes i) ns i h

-- ---- taps

pub map_step : (named : List Named) (indexes : List (Option ℕ)) (k : ℕ) (d : Option ℕ) (taps whole : List (Option Tap)) → k < length indexes
    → taps ++ map (tap_at named) (drop k indexes) ≡ whole
    → (taps ++ tap_at named (get_or indexes k d) ∷ []) ++ map (tap_at named) (drop (k + 1) indexes) ≡ whole
map_step named indexes k d taps whole h same =
    append_assoc taps (tap_at named (get_or indexes k d) ∷ []) (map (tap_at named) (drop (k + 1) indexes))
    ∙ ap (λ rest. taps ++ rest) (sym (at_drop_more (map (tap_at named)) indexes k d h)) ∙ same

pub map_all : (named : List Named) (indexes : List (Option ℕ)) (k : ℕ) → length indexes ≤ k → map (tap_at named) (drop k indexes) ≡ []
map_all named indexes k h = at_drop_all (map (tap_at named)) indexes k h

-- ---- counts

-- one more of a list that a function of the index gives
pub counts_more : (f : ℕ → ℕ) (i count : ℕ) (counts next : List ℕ) → count ≡ f i → counts ≡ map f (range_with_len 0 i) → next ≡ counts ++ count ∷ []
    → next ≡ map f (range_with_len 0 (i + 1))
counts_more f i count counts next is so_far put =
    put ∙ ap (λ (front : List ℕ). front ++ count ∷ []) so_far ∙ ap (λ (n : ℕ). map f (range_with_len 0 i) ++ n ∷ []) is
    ∙ sym (map-range_with_len_more f 0 i i (omega arith))

-- ---- packets

module _ (times : Times) (start end : ℕ) (taps : List (Option Tap)) (seen : List Passage) (ps : List PacketFields) (i : ℕ) (x : PacketFields) where
  first_packet : i < length ps → x ≡ get_or ps i x → passages_from times start end taps seen (drop i ps)
      ≡ (with_packet times start end taps seen x >>= λ next. passages_from times start end taps next (drop (i + 1) ps))
  first_packet h here = ap (passages_from times start end taps seen) (drop_here ps i x h here)

  pub passages_step : (next : List Passage) → i < length ps → x ≡ get_or ps i x → with_packet times start end taps seen x ≡ Ok next
      → passages_from times start end taps seen (drop i ps) ≡ passages_from times start end taps next (drop (i + 1) ps)
  passages_step next h here e = first_packet h here ∙ ap (λ r. r >>= λ next. passages_from times start end taps next (drop (i + 1) ps)) e

  pub passages_fail : (e : PassageFault) (whole : Result (List Passage) PassageFault) → i < length ps → x ≡ get_or ps i x
      → passages_from times start end taps seen (drop i ps) ≡ whole → Fails e (with_packet times start end taps seen x) → Fails e whole
  passages_fail e whole h here same wrong =
      subst (Fails e) (sym (first_packet h here) ∙ same)
      (stays is_memory e (with_packet times start end taps seen x) (λ next. passages_from times start end taps next (drop (i + 1) ps)) wrong)
