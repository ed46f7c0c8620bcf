-- What is written is read back.
use Rattle.std.proofs.Common.{◌≡◌, ◌^◌, ℕ, ◌<◌, ◌+◌, ◌*◌, ◌/◌, ◌%◌, List, [], ◌∷◌, length, slice_index, refl, arith, Ok, Option, Some, None, IfSome}
use Rattle.hsr_frame.proofs.Cells.{cells_of_6}
use Rattle.hsr_supervision.specs.declared.payload.SupKind.{SupKind}
use Rattle.hsr_supervision.specs.declared.payload.SupKind.TheVariants.{PrpDiscard, PrpAccept, Hsr}
use Rattle.hsr_supervision.specs.Payload.{Fields, IsSaid, read_of, spelling}

-- a list of six octets, by its cells
abbrev six : List ℕ → List ℕ
six xs = slice_index xs 0 ∷ slice_index xs 1 ∷ slice_index xs 2 ∷ slice_index xs 3 ∷ slice_index xs 4 ∷ slice_index xs 5 ∷ []

pair_number : (n : ℕ) → n < 2 ^ 16 → n / 256 % 256 * 256 + n % 256 ≡ n
pair_number n lt = omega arith

high : (p v : ℕ) → v < 4096 → (p * 4096 + v) / 4096 ≡ p
high p v lt = omega arith

low : (p v : ℕ) → v < 4096 → (p * 4096 + v) % 4096 ≡ v
low p v lt = omega arith

again_alone : (p v q : ℕ) (kind : SupKind) (x : List ℕ) → p < 16 → v < 4096 → q < 2 ^ 16
    → let s : Fields = record { path = p; version = v; seq = q; kind = kind; about = six x; redbox = None } in read_of (spelling s) ≡ Ok s
again_alone p v q PrpDiscard x a b c = rw (pair_number (p * 4096 + v) (omega arith), pair_number q c, high p v b, low p v b) refl
again_alone p v q PrpAccept x a b c = rw (pair_number (p * 4096 + v) (omega arith), pair_number q c, high p v b, low p v b) refl
again_alone p v q Hsr x a b c = rw (pair_number (p * 4096 + v) (omega arith), pair_number q c, high p v b, low p v b) refl

again_proxied : (p v q : ℕ) (kind : SupKind) (x y : List ℕ) → p < 16 → v < 4096 → q < 2 ^ 16
    → let s : Fields = record { path = p; version = v; seq = q; kind = kind; about = six x; redbox = Some (six y) } in read_of (spelling s) ≡ Ok s
again_proxied p v q PrpDiscard x y a b c = rw (pair_number (p * 4096 + v) (omega arith), pair_number q c, high p v b, low p v b) refl
again_proxied p v q PrpAccept x y a b c = rw (pair_number (p * 4096 + v) (omega arith), pair_number q c, high p v b, low p v b) refl
again_proxied p v q Hsr x y a b c = rw (pair_number (p * 4096 + v) (omega arith), pair_number q c, high p v b, low p v b) refl

again_fields : (p v q : ℕ) (kind : SupKind) (x : List ℕ) (redbox : Option (List ℕ)) → p < 16 → v < 4096 → q < 2 ^ 16 → length x ≡ 6 → IfSome redbox (λ y. length y ≡ 6)
    → let s : Fields = record { path = p; version = v; seq = q; kind = kind; about = x; redbox = redbox } in read_of (spelling s) ≡ Ok s
again_fields p v q kind x None a b c six_x six_y = rw (cells_of_6 x six_x) (again_alone p v q kind x a b c)
again_fields p v q kind x (Some y) a b c six_x six_y = rw (cells_of_6 x six_x, cells_of_6 y six_y) (again_proxied p v q kind x y a b c)

-- what is written is read back
pub again : (s : Fields) → IsSaid s → read_of (spelling s) ≡ Ok s
again s said = again_fields s.path s.version s.seq s.kind s.about s.redbox said.path said.version said.seq said.about said.redbox
