-- A verdict in words; a doubt is a word, and the numbers of what it names.
use Rattle.std.specs.Prelude.{ℕ, List, ◌++◌, codes}
use Rattle.std.specs.Fmt.{decimal}
use Rattle.hsr_certify.specs.declared.doubt.Doubt.{Doubt}
use Rattle.hsr_certify.specs.declared.doubt.Doubt.TheVariants.{Empty, Fine, Open, Mode, SameAddress, Side, Refused, Back, Late, Crowded, Wrapped, Uncovered, Queue, CutOff}
use Rattle.hsr_certify_text.specs.declared.verdict.Verdict.{Verdict}
use Rattle.hsr_certify_text.specs.declared.verdict.Verdict.TheVariants.{Certified, Doubted}

abbrev pub doubt_text : Doubt → List ℕ
doubt_text Empty = codes "empty"
doubt_text (Fine step) = codes "fine " ++ decimal step
doubt_text (Open step) = codes "open " ++ decimal step
doubt_text Mode = codes "mode"
doubt_text SameAddress = codes "same-address"
doubt_text (Side link) = codes "side " ++ decimal link
doubt_text (Refused step) = codes "refused " ++ decimal step
doubt_text (Back step) = codes "back " ++ decimal step
doubt_text (Late step) = codes "late " ++ decimal step
doubt_text (Crowded step) = codes "crowded " ++ decimal step
doubt_text (Wrapped step) = codes "wrapped " ++ decimal step
doubt_text (Uncovered step) = codes "uncovered " ++ decimal step
doubt_text (Queue step) = codes "queue " ++ decimal step
doubt_text (CutOff step node) = codes "cut-off " ++ decimal step ++ codes " " ++ decimal node

abbrev pub verdict_line : Verdict → List ℕ
verdict_line (Certified certified) = codes "certified " ++ decimal certified.sends ++ codes " in any order\n"
verdict_line (Doubted doubt) = codes "doubt " ++ doubt_text doubt ++ codes "\n"
