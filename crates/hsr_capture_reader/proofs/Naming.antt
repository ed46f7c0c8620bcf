-- The names of interfaces, one behind the other.
use Rattle.std.proofs.Common.{◌≡◌, ℕ, ◌+◌, List, [], ◌∷◌, ◌++◌, length, take, drop, refl, ap, arith}
use Rattle.std.proofs.lemmas.List.{length-drop, take_all, take-append-le, drop-append-le}
use Rattle.hsr_capture_reader.specs.declared.names.Named.{Named}
use Rattle.hsr_capture_reader.specs.Names.{interface_by, interfaces_by}

-- how many octets the names have
abbrev pub len_of : List Named → ℕ
len_of [] = 0
len_of (named ∷ others) = named.len + len_of others

pub one_more : (names name : List ℕ) (named : List Named) (last : Named) → len_of named ≡ length names → last.len ≡ length name
    → interfaces_by (names ++ name) (named ++ last ∷ []) ≡ interfaces_by names named ++ interface_by name last ∷ []
one_more [] name [] last all is = let e : take last.len name ≡ name = take_all last.len name (omega (arith, is)) in rw e refl
one_more (octet ∷ names) name [] last all is = absurd (omega (arith, all))
one_more names name (first ∷ named) last all is =
    let front : take first.len (names ++ name) ≡ take first.len names = take-append-le first.len names name (omega (arith, all)) in
    let rest : drop first.len (names ++ name) ≡ drop first.len names ++ name = drop-append-le first.len names name (omega (arith, all)) in
    let left : len_of named ≡ length (drop first.len names) = omega (arith, all, length-drop first.len names) in
    rw (front, rest) (ap (λ others. interface_by (take first.len names) first ∷ others) (one_more (drop first.len names) name named last left is))

pub len_more : (named : List Named) (last : Named) → len_of (named ++ last ∷ []) ≡ len_of named + last.len
len_more [] last = omega arith
len_more (first ∷ named) last = omega (arith, len_more named last)
