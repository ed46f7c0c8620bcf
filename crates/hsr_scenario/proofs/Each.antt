-- Readings one after another, and tables one after another.
use Rattle.std.proofs.Common.{◌≡◌, ◌⊎◌, ℕ, zero, suc, ◌+◌, ◌≤◌, List, [], ◌∷◌, ◌++◌, length, take, slice_get, Some, Result, Ok, Err, refl, sym, ap, ◌∙◌, subst, arith, inl, inr, append-nil, append_assoc}
use Rattle.toml.specs.Data.{Members}
use Rattle.hsr_toml.specs.Fallible.{◌>>=◌}
use Rattle.hsr_scenario.specs.Fallible.{at_spot, each}
use Rattle.hsr_scenario.specs.declared.fault.ScenarioFault.{ScenarioFault}
use Rattle.hsr_scenario.specs.declared.fault.Spot.{Spot}
use Rattle.hsr_scenario.specs.declared.fault.What.{What}
use Rattle.hsr_scenario.specs.Listed.{AreAllRead, IsFirstBad}

-- ---- readings

pub ok_is : {A E : Type 0} (x y : A) → (let r : Result A E = Ok x in r) ≡ Ok y → x ≡ y
ok_is x y same = cc

pub then_ok : {A B E : Type 0} (m : Result A E) (f : A → Result B E) (y : B) → (m >>= f) ≡ Ok y → (x : A) × (m ≡ Ok x) × (f x ≡ Ok y)
then_ok (Ok x) f y is = (x, refl, is)
then_ok (Err e) f y is = absurd cc

pub then_err : {A B E : Type 0} (m : Result A E) (f : A → Result B E) (e : E) → (m >>= f) ≡ Err e → (m ≡ Err e) ⊎ ((x : A) × (m ≡ Ok x) × (f x ≡ Err e))
then_err (Ok x) f e is = inr (x, refl, is)
then_err (Err d) f e is = inl cc

pub spot_ok : {A : Type 0} (spot : Spot) (r : Result A What) (x : A) → at_spot spot r ≡ Ok x → r ≡ Ok x
spot_ok spot (Ok y) x is = cc
spot_ok spot (Err e) x is = absurd cc

pub spot_err : {A : Type 0} (spot : Spot) (r : Result A What) (f : ScenarioFault) → at_spot spot r ≡ Err f → (f.spot ≡ spot) × (r ≡ Err f.what)
spot_err spot (Ok x) f is = absurd cc
spot_err spot (Err e) f is =
    let same : (record { spot = spot; what = e }) ≡ f = cc in
    (sym (ap (λ (g : ScenarioFault). g.spot) same), ap (λ (g : ScenarioFault). Err g.what) same)

-- ---- tables, behind things that are read already

module _ {A : Type 0} (spot : ℕ → Spot) (read : List A → Members → Result A What) where
  -- the first tables are ys
  pub record ReadOn (seen : List A) (these : List Members) (ys : List A) : Type 0 where
    pub few : length ys ≤ length these
    pub each : (i : ℕ) (table : Members) (y : A) → slice_get these i ≡ Some table → slice_get ys i ≡ Some y → read (seen ++ take i ys) table ≡ Ok y

  record AllOn (seen : List A) (these : List Members) (xs : List A) : Type 0 where
    ys : List A
    all : xs ≡ seen ++ ys
    many : length ys ≡ length these
    are : ReadOn seen these ys

  record BadOn (seen : List A) (these : List Members) (f : ScenarioFault) : Type 0 where
    ys : List A
    are : ReadOn seen these ys
    table : Members
    here : slice_get these (length ys) ≡ Some table
    place : f.spot ≡ spot (length seen + length ys)
    fails : read (seen ++ ys) table ≡ Err f.what

  read_none : (seen : List A) (these : List Members) → ReadOn seen these []
  read_none seen these = record {
    few = omega arith;
    each = λ i table y at none. absurd (nothing i none);
  }
    where
      nothing : {y : A} (i : ℕ) → slice_get [] i ≡ Some y → ⊥
      nothing zero none = absurd cc
      nothing (suc i) none = absurd cc

  read_more : (seen : List A) (x : A) (ms : Members) (more : List Members) (ys : List A) → read seen ms ≡ Ok x → ReadOn (seen ++ x ∷ []) more ys → ReadOn seen (ms ∷ more) (x ∷ ys)
  read_more seen x ms more ys here on = record {
    few = let few = on.few in omega (arith, few);
    each = at;
  }
    where
      at : (i : ℕ) (table : Members) (y : A) → slice_get (ms ∷ more) i ≡ Some table → slice_get (x ∷ ys) i ≡ Some y → read (seen ++ take i (x ∷ ys)) table ≡ Ok y
      at zero table y is_table is_y =
          let same_table : ms ≡ table = cc in
          let same_y : x ≡ y = cc in
          subst (λ t. read (seen ++ []) t ≡ Ok y) same_table (subst (λ z. read (seen ++ []) ms ≡ Ok z) same_y (ap (λ zs. read zs ms) (append-nil seen) ∙ here))
      at (suc i) table y is_table is_y = ap (λ zs. read zs table) (sym (append_assoc seen (x ∷ []) (take i ys))) ∙ on.each i table y is_table is_y

  all_on : (seen : List A) (these : List Members) (xs : List A) → each spot read seen these ≡ Ok xs → AllOn seen these xs
  all_on seen [] xs is = record { ys = []; all = sym (ok_is seen xs is) ∙ sym (append-nil seen); many = refl; are = read_none seen [] }
  all_on seen (ms ∷ more) xs is =
      let first = then_ok (at_spot (spot (length seen)) (read seen ms)) (λ x. each spot read (seen ++ x ∷ []) more) xs is in
      let x = first.0 in
      let rest = all_on (seen ++ x ∷ []) more xs first.2 in
      let many = rest.many in
      record {
        ys = x ∷ rest.ys;
        all = rest.all ∙ append_assoc seen (x ∷ []) rest.ys;
        many = omega (arith, many);
        are = read_more seen x ms more rest.ys (spot_ok (spot (length seen)) (read seen ms) x first.1) rest.are;
      }

  bad_on : (seen : List A) (these : List Members) (f : ScenarioFault) → each spot read seen these ≡ Err f → BadOn seen these f
  bad_on seen [] f is = absurd cc
  bad_on seen (ms ∷ more) f is = by_first (λ x. bad_on (seen ++ x ∷ []) more f) (then_err (at_spot (spot (length seen)) (read seen ms)) (λ x. each spot read (seen ++ x ∷ []) more) f is)
    where
      by_first : ((x : A) → each spot read (seen ++ x ∷ []) more ≡ Err f → BadOn (seen ++ x ∷ []) more f) → (at_spot (spot (length seen)) (read seen ms) ≡ Err f) ⊎ ((x : A) × (at_spot (spot (length seen)) (read seen ms) ≡ Ok x) × (each spot read (seen ++ x ∷ []) more ≡ Err f)) → BadOn seen (ms ∷ more) f
      by_first on (inl bad) =
          let here = spot_err (spot (length seen)) (read seen ms) f bad in
          let none : length seen ≡ length seen + 0 = omega arith in
          record {
            ys = [];
            are = read_none seen (ms ∷ more);
            table = ms;
            here = refl;
            place = here.0 ∙ ap spot none;
            fails = ap (λ zs. read zs ms) (append-nil seen) ∙ here.1;
          }
      by_first on (inr later) =
          let x = later.0 in
          let rest = on x later.2 in
          let one_more = Rattle.std.proofs.lemmas.List.length-append seen (x ∷ []) in
          let same : length (seen ++ x ∷ []) + length rest.ys ≡ length seen + suc (length rest.ys) = omega (arith, one_more) in
          record {
            ys = x ∷ rest.ys;
            are = read_more seen x ms more rest.ys (spot_ok (spot (length seen)) (read seen ms) x later.1) rest.are;
            table = rest.table;
            here = rest.here;
            place = rest.place ∙ ap spot same;
            fails = ap (λ zs. read zs rest.table) (sym (append_assoc seen (x ∷ []) rest.ys)) ∙ rest.fails;
          }

  -- ---- from the first table on

  pub all_read : (these : List Members) (xs : List A) → each spot read [] these ≡ Ok xs → AreAllRead read these xs
  all_read these xs is =
      let all = all_on [] these xs is in
      let same : all.ys ≡ xs = sym all.all in
      let P : List A → Type 0 = λ ys. AreAllRead read these ys in
      subst P same (record { there = omega arith; many = all.many; each = all.are.each })

  pub first_bad : (these : List Members) (f : ScenarioFault) → each spot read [] these ≡ Err f → (i : ℕ) × (f.spot ≡ spot i) × IsFirstBad read these i f.what
  first_bad these f is =
      let bad = bad_on [] these f is in
      let first : 0 + length bad.ys ≡ length bad.ys = omega arith in (
        length bad.ys,
        bad.place ∙ ap spot first,
        record {
          before = bad.ys;
          are_read = record { there = bad.are.few; many = refl; each = bad.are.each };
          table = bad.table;
          here = bad.here;
          fails = bad.fails;
        },
      )
