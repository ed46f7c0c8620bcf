-- Texts that grow by what one more element says.
use Rattle.std.proofs.Common.{◌≡◌, ℕ, ◌+◌, ◌<◌, List, ◌++◌, length, take, slice_index_or, ap, sym, ◌∙◌, add-one, append_assoc}
use Rattle.std.specs.List.{flat_map}
use Rattle.hsr_frame.proofs.OneMore.{grown}
use Rattle.hsr_link.specs.declared.row.Dir.TheVariants.{Forth, Back}
use Rattle.hsr_run_laws.specs.Run.{Run}
use Rattle.hsr_capture.specs.Capture.{interface_of, interfaces_below}

pub text_grown : {X : Type 0} (text : X → List ℕ) (xs : List X) (i : ℕ) (d : X) (start old new : List ℕ) → i < length xs →
    old ≡ start ++ flat_map text (take i xs) → new ≡ old ++ text (slice_index_or xs i d) → new ≡ start ++ flat_map text (take (i + 1) xs)
text_grown text xs i d start old new below so_far more = more ∙ ap (λ t. t ++ text (slice_index_or xs i d)) so_far ∙ grown text xs i d start below

-- the interfaces of one more link
pub links_grown : (names : List (List ℕ)) (run : Run) (l : ℕ) (start old new : List ℕ) → old ≡ start ++ interfaces_below names run l →
    new ≡ old ++ (interface_of names run l Forth ++ interface_of names run l Back) → new ≡ start ++ interfaces_below names run (l + 1)
links_grown names run l start old new so_far more =
    let both : List ℕ = interface_of names run l Forth ++ interface_of names run l Back in
    more ∙ ap (λ t. t ++ both) so_far ∙ append_assoc start (interfaces_below names run l) both ∙ ap (λ n. start ++ interfaces_below names run n) (sym (add-one l))
