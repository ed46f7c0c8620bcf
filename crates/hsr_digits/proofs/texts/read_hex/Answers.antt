use Rattle.std.proofs.Common.{◌∙◌, length, sym}
use Rattle.hsr_digits.proofs.HexDigits.{unread}
use Rattle.hsr_digits.proofs.texts.read_hex.Goals as goal

pub returns-then-not-each_is_digit : goal.returns-then-not-each_is_digit
returns-then-not-each_is_digit c =
    sym (unread (length c.args.octets.now) 0 c.args.digits.now c.requires (sym c.each_is_digit.ensures ∙ c.if-not-each_is_digit.true))
