-- Links apart from their rows are the same links with them again.
use Rattle.std.proofs.Common.{◌≡◌, List, [], ◌∷◌, ◌++◌, map, refl, ap, ap₂, ◌∙◌}
use Rattle.hsr_link.specs.declared.row.Row.{Row}
use Rattle.hsr_world_links.specs.Parting.{AreWhole, Bare, bare_of, joined, rows_in}
use Rattle.hsr_world_laws.specs.Spans.{Span}

-- one more element is moved
pub moved : {X Y : Type 0} (f : X → Y) (done : List X) (x : X) (y : Y) (rest all : List Y) → f x ≡ y → map f done ++ y ∷ rest ≡ all → map f (done ++ x ∷ []) ++ rest ≡ all
moved f [] x y rest all same h = ap (λ z. z ∷ rest) same ∙ h
moved f (d ∷ done) x y rest all same h = ap (λ zs. f d ∷ zs) (moved f done x y rest (map f done ++ y ∷ rest) same refl) ∙ h

-- parts of links are whole, and are these links
pub parts_whole : (spans : List Span) → AreWhole (map rows_in spans) (map bare_of spans)
parts_whole [] = tt
parts_whole (span ∷ spans) = (refl, parts_whole spans)

pub parts_joined : (spans : List Span) → joined (map rows_in spans) (map bare_of spans) ≡ spans
parts_joined [] = refl
parts_joined (span ∷ spans) = ap (λ rest. span ∷ rest) (parts_joined spans)

pub whole_again : (spans : List Span) (rows : List (List Row)) (bares : List Bare) → rows ≡ map rows_in spans → bares ≡ map bare_of spans → AreWhole rows bares
whole_again spans rows bares r b = rw (r, b) (parts_whole spans)

pub joined_again : (spans : List Span) (rows : List (List Row)) (bares : List Bare) → rows ≡ map rows_in spans → bares ≡ map bare_of spans → joined rows bares ≡ spans
joined_again spans rows bares r b = ap₂ joined r b ∙ parts_joined spans

pub joined_none : (all : List (List Row)) → joined all [] ≡ []
joined_none [] = refl
joined_none (rows ∷ all) = refl
