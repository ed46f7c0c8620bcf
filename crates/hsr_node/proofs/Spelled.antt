-- What was written as a word or a letter is read again.
use Rattle.std.proofs.Common.{◌≡◌, ◌<◌, ℕ, zero, suc, Some, refl, arith}
use Rattle.hsr_node.specs.Place.{ports}
use Rattle.hsr_node.specs.Words.{letter, port_of, role_of, role_word}
use Rattle.hsr_node.specs.declared.place.Place.{Place}
use Rattle.hsr_node.specs.declared.place.Place.TheVariants.{Danh, RedBox, QuadBox, Station}
use Rattle.hsr_node.specs.declared.role.Role.{Role}
use Rattle.hsr_node.specs.declared.role.Role.TheVariants as role

pub role_again : (r : Role) → role_of (role_word r) ≡ Some r
role_again role.Danh = refl
role_again role.RedBox = refl
role_again role.QuadBox = refl
role_again role.Station = refl

pub letter_again : (place : Place) (port : ℕ) → port < ports place → port_of place (letter place port) ≡ Some port
letter_again (Danh mac mode) zero h = refl
letter_again (Danh mac mode) (suc zero) h = refl
letter_again (Danh mac mode) (suc (suc n)) h = absurd (omega arith)
letter_again (RedBox mac mode) zero h = refl
letter_again (RedBox mac mode) (suc zero) h = refl
letter_again (RedBox mac mode) (suc (suc zero)) h = refl
letter_again (RedBox mac mode) (suc (suc (suc n))) h = absurd (omega arith)
letter_again QuadBox zero h = refl
letter_again QuadBox (suc zero) h = refl
letter_again QuadBox (suc (suc zero)) h = refl
letter_again QuadBox (suc (suc (suc zero))) h = refl
letter_again QuadBox (suc (suc (suc (suc n)))) h = absurd (omega arith)
letter_again (Station macs) zero h = refl
letter_again (Station macs) (suc n) h = absurd (omega arith)
