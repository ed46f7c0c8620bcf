use Rattle.std.proofs.Common.{◌≡◌, ◌+◌, ◌++◌, ◌∙◌, None, Some, ap, arith, option_map, refl, sym, take}
use Rattle.hsr_text.specs.Words.{cut}
use Rattle.hsr_text.proofs.Pieces.{line_filled, long_filled, part_filled}
use Rattle.hsr_text.proofs.lines.fill.Goals as goal

pub unwrap-requires : goal.unwrap-requires
unwrap-requires g c =
    let front = c.split_at.result.0.now in
    let e : cut 10 (take (c.remaining_capacity-room.result + 1) c.args.piece.now) ≡ (front, Some c.in_default-Some.field-0-1.now) =
    ap (cut 10) (sym c.reach.ensures) ∙ c.split_at.ensures ∙ ap (λ o. (front, option_map (λ s. s.now) o)) c.in_default-Some.is-1 in
    let all = line_filled g.row.N c.remaining_capacity-room.result c.args.piece.now front c.in_default-Some.field-0-1.now c.args.line.now.items (c.args.line.now.items ++ front) e refl in
    c.try_extend_from_slice.ensures.variant.1 (omega (arith, all.0, c.remaining_capacity-room.ensures))

pub returns-in_default-Some-clause-within : goal.returns-in_default-Some-clause-within
returns-in_default-Some-clause-within g c =
    let front = c.split_at.result.0.now in
    let e : cut 10 (take (c.remaining_capacity-room.result + 1) c.args.piece.now) ≡ (front, Some c.in_default-Some.field-0-1.now) =
    ap (cut 10) (sym c.reach.ensures) ∙ c.split_at.ensures ∙ ap (λ o. (front, option_map (λ s. s.now) o)) c.in_default-Some.is-1 in
    (line_filled g.row.N c.remaining_capacity-room.result c.args.piece.now front c.in_default-Some.field-0-1.now c.args.line.now.items (c.args.line.now.items ++ front) e refl).1

pub returns-in_default-Some-clause-filled : goal.returns-in_default-Some-clause-filled
returns-in_default-Some-clause-filled g c =
    let front = c.split_at.result.0.now in
    let e : cut 10 (take (c.remaining_capacity-room.result + 1) c.args.piece.now) ≡ (front, Some c.in_default-Some.field-0-1.now) =
    ap (cut 10) (sym c.reach.ensures) ∙ c.split_at.ensures ∙ ap (λ o. (front, option_map (λ s. s.now) o)) c.in_default-Some.is-1 in
    let grown : c.try_extend_from_slice.new.self.items ≡ c.args.line.now.items ++ front = rw c.unwrap.ensures at c.try_extend_from_slice.ensures.ok in
    (line_filled g.row.N c.remaining_capacity-room.result c.args.piece.now front c.in_default-Some.field-0-1.now c.args.line.now.items _ e grown).2

pub returns-in_default-None-clause-within : goal.returns-in_default-None-clause-within
returns-in_default-None-clause-within g c =
    let front = c.split_at.result.0.now in
    let e : cut 10 (take (c.remaining_capacity-room.result + 1) c.args.piece.now) ≡ (front, None) =
    ap (cut 10) (sym c.reach.ensures) ∙ c.split_at.ensures ∙ ap (λ o. (front, option_map (λ s. s.now) o)) c.in_default-None.is-1 in
    (part_filled g.row.N c.remaining_capacity-room.result c.args.piece.now front c.args.line.now.items (c.args.line.now.items ++ front) e refl).0

pub returns-in_default-None-clause-filled : goal.returns-in_default-None-clause-filled
returns-in_default-None-clause-filled g c =
    let front = c.split_at.result.0.now in
    let room = c.remaining_capacity-room.result in
    let e : cut 10 (take (room + 1) c.args.piece.now) ≡ (front, None) =
    ap (cut 10) (sym c.reach.ensures) ∙ c.split_at.ensures ∙ ap (λ o. (front, option_map (λ s. s.now) o)) c.in_default-None.is-1 in
    let grown : c.try_extend_from_slice-in_default-None.new.self.items ≡ c.args.line.now.items ++ take room front =
    rw c.unwrap-in_default-None.ensures at c.try_extend_from_slice-in_default-None.ensures.ok in
    (long_filled g.row.N room c.args.piece.now front c.args.line.now.items _ e c.if-front-room.true c.remaining_capacity-room.ensures grown).1

pub returns-in_default-None-2-clause-within : goal.returns-in_default-None-2-clause-within
returns-in_default-None-2-clause-within g c =
    let front = c.split_at.result.0.now in
    let e : cut 10 (take (c.remaining_capacity-room.result + 1) c.args.piece.now) ≡ (front, None) =
    ap (cut 10) (sym c.reach.ensures) ∙ c.split_at.ensures ∙ ap (λ o. (front, option_map (λ s. s.now) o)) c.in_default-None-2.is-1 in
    (part_filled g.row.N c.remaining_capacity-room.result c.args.piece.now front c.args.line.now.items (c.args.line.now.items ++ front) e refl).0

pub returns-in_default-None-2-clause-filled : goal.returns-in_default-None-2-clause-filled
returns-in_default-None-2-clause-filled g c =
    let front = c.split_at.result.0.now in
    let e : cut 10 (take (c.remaining_capacity-room.result + 1) c.args.piece.now) ≡ (front, None) =
    ap (cut 10) (sym c.reach.ensures) ∙ c.split_at.ensures ∙ ap (λ o. (front, option_map (λ s. s.now) o)) c.in_default-None-2.is-1 in
    let grown : c.try_extend_from_slice-in_default-None-2.new.self.items ≡ c.args.line.now.items ++ front =
    rw c.unwrap-in_default-None-2.ensures at c.try_extend_from_slice-in_default-None-2.ensures.ok in
    (part_filled g.row.N c.remaining_capacity-room.result c.args.piece.now front c.args.line.now.items _ e grown).1
