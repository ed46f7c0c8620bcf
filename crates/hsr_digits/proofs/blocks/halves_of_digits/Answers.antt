use Rattle.std.proofs.Common.{◌≡◌, ◌++◌, drop, take}
use Rattle.hex.specs.Hex.{encode_upper}
use Rattle.hsr_digits.proofs.Lanes.{first_places, second_places, woven_back, woven_front}
use Rattle.hsr_digits.proofs.blocks.halves_of_digits.Goals as goal
use lib.Lanes.{pick_l}

pub returns-clause-front : goal.returns-clause-front
returns-clause-front c =
    let woven : pick_l 0 (c.high_digits.result ++ c.low_digits.result) first_places ≡ encode_upper (take 8 c.args.octets)
    = rw (c.high_digits.ensures, c.low_digits.ensures) (woven_front c.args.octets c.fits-octets.0) in
    woven

pub returns-clause-back : goal.returns-clause-back
returns-clause-back c =
    let woven : pick_l 0 (c.high_digits.result ++ c.low_digits.result) second_places ≡ encode_upper (drop 8 c.args.octets)
    = rw (c.high_digits.ensures, c.low_digits.ensures) (woven_back c.args.octets c.fits-octets.0) in
    woven
