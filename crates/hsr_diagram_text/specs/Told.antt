-- Sends that aren't complete.
--     incomplete_words   one of them
--     more_words         how many more there are
use Rattle.std.specs.Prelude.{ℕ, List, [], ◌∷◌, ◌++◌, codes}
use Rattle.std.specs.Fmt.{decimal}
use Rattle.std.specs.List.{flat_map}
use Rattle.hsr_link.specs.Words.{dir_word, fate_word}
use Rattle.hsr_deliveries.specs.declared.loss.Loss.{Loss}
use Rattle.hsr_deliveries.specs.Delivered.{Delivery}
use Rattle.hsr_diagram_text.specs.Moments.{moment_text}
use Rattle.hsr_diagram_text.specs.Sends.{nodes_text, send_text}

-- a loss: link, direction and fate
unfoldable pub loss_text : Loss → List ℕ
loss_text loss = codes "link " ++ decimal loss.link ++ codes " " ++ dir_word loss.dir ++ codes " " ++ fate_word loss.fate

abbrev pub next_loss : Loss → List ℕ
next_loss loss = codes ", " ++ loss_text loss

-- losses, parted by commas; nothing where there are none
abbrev pub losses_text : List Loss → List ℕ
losses_text [] = []
losses_text (loss ∷ losses) = codes "; lost on " ++ loss_text loss ++ flat_map next_loss losses

-- a send and its moment, as it was given
unfoldable pub at_text : List (List ℕ) → Delivery → List ℕ
at_text names d = send_text names d.send ++ codes " at " ++ moment_text d.at

-- the send, which nodes missed it, took it up twice, or took it up though it wasn't due there, and where copies of it were lost
unfoldable pub incomplete_words : List (List ℕ) → Delivery → List ℕ
incomplete_words names d =
    at_text names d ++ nodes_text names (codes "; missed by ") d.missed ++ nodes_text names (codes "; twice at ") d.twice
    ++ nodes_text names (codes "; strayed to ") d.strayed ++ losses_text d.lost

-- how many more there are
unfoldable pub more_words : ℕ → List ℕ
more_words n = codes "and " ++ decimal n ++ codes " more that aren't complete"
