-- Files that are put one after the other.
use Rattle.std.proofs.Common.{ℕ, zero, suc, ◌≡◌, ◌<◌, ◌+◌, List, [], ◌∷◌, ◌++◌, length, map, take, slice_index_or, Option, Some, None, refl, sym, ap, subst, ◌∙◌, append_assoc, append-nil, arith}
use Rattle.std.proofs.lemmas.List.{length-map, map-append, take_all, take_more}
use Rattle.hsr_files.specs.Files.{File, Puts, PutsFront, file_in, files_in}
use Rattle.hsr_files.specs.declared.disk.NewFile.{NewFile}

pub none_put : (known : Option (List File)) → Puts known known []
none_put None = tt
none_put (Some xs) = sym (append-nil xs)

then_put : (a b c : Option (List File)) (xs ys : List File) → Puts a b xs → Puts b c ys → Puts a c (xs ++ ys)
then_put None b c xs ys one two = tt
then_put (Some p) None c xs ys one two = absurd one
then_put (Some p) (Some q) None xs ys one two = absurd two
then_put (Some p) (Some q) (Some r) xs ys one two = two ∙ ap (λ s. s ++ ys) one ∙ append_assoc p xs ys

front_of : {X Y : Type 0} (f : X → Y) (n : ℕ) (xs : List X) → take n (map f xs) ≡ map f (take n xs)
front_of f zero xs = refl
front_of f (suc n) [] = refl
front_of f (suc n) (x ∷ xs) = ap (λ ys. f x ∷ ys) (front_of f n xs)

module _ (folder : List ℕ) (files : List NewFile) (a : Option (List File)) where
  -- one more was put
  pub one_more : (b c : Option (List File)) (i : ℕ) (d : NewFile) → i < length files → Puts a b (files_in folder (take i files))
      → Puts b c (file_in folder (slice_index_or files i d) ∷ []) → Puts a c (files_in folder (take (i + 1) files))
  one_more b c i d below one two =
      let more = ap (map (file_in folder)) (take_more files i d below) ∙ map-append (file_in folder) (take i files) (slice_index_or files i d ∷ []) in
      subst (λ (xs : List File). Puts a c xs) (sym more) (then_put a b c _ _ one two)

  -- one more wasn't
  pub front_put : (b c : Option (List File)) (i : ℕ) → i < length files → Puts a b (files_in folder (take i files)) → Puts b c [] → PutsFront a c (files_in folder files)
  front_put b c i below one two = (
    i,
    subst (λ (n : ℕ). i < n) (sym (length-map files (file_in folder))) below,
    subst (λ (xs : List File). Puts a c xs) (append-nil (files_in folder (take i files)) ∙ sym (front_of (file_in folder) i files)) (then_put a b c _ _ one two),
  )

  -- all were put
  pub all_put : (b : Option (List File)) → Puts a b (files_in folder (take (length files) files)) → Puts a b (files_in folder files)
  all_put b one = subst (λ (xs : List NewFile). Puts a b (files_in folder xs)) (take_all (length files) files (omega arith)) one
