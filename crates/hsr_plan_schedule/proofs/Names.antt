-- The names of streams, one after another.
use Rattle.std.proofs.Common.{◌≡◌, ℕ, ◌+◌, ◌<◌, ◌∙◌, ◌++◌, length, get_or, drop, List, [], ◌∷◌, ap, sym, append_assoc}
use Rattle.std.proofs.lemmas.List.{drop_more}
use Rattle.hsr_plan_text.specs.Plan.{Stream}
use Rattle.hsr_plan_schedule.specs.Naming.{names_from, stream_name, with_more}
use Rattle.hsr_plan_schedule.specs.declared.naming.Counts.{Counts}

pub names_step : (seen : List (List ℕ)) (counts : Counts) (streams : List Stream) (i : ℕ) (d : Stream) → i < length streams
    → seen ++ names_from counts (drop i streams)
    ≡ (seen ++ stream_name (get_or streams i d).framing.kind (with_more (get_or streams i d).framing.kind 1 counts) ∷ []) ++ names_from (with_more (get_or streams i d).framing.kind 1 counts) (drop (i + 1) streams)
names_step seen counts streams i d h =
    ap (λ ss. seen ++ names_from counts ss) (drop_more streams i d h)
    ∙ sym (append_assoc seen (stream_name (get_or streams i d).framing.kind (with_more (get_or streams i d).framing.kind 1 counts) ∷ []) (names_from (with_more (get_or streams i d).framing.kind 1 counts) (drop (i + 1) streams)))
