use Rattle.std.proofs.Common.{arith, refl, ◌≡◌}
use Rattle.std.specs.Prelude.{slice_index}
use Rattle.std.proofs.lemmas.Grind.{common_steps}
use Rattle.hsr_duptable.proofs.RisingNotes.{IsRising-drop, IsRising-push}
use Rattle.hsr_duptable.proofs.Chains.{AreChained-note, notes_of-keep_last}
use Rattle.hsr_duptable.proofs.table.DupTable.note.Goals as goal

pub invariant_of-self : goal.invariant_of-self
invariant_of-self g c =
    let later = rw (← c.self.view_is) at c.requires.later in
    let i = c.self.invariant.0 in
    let link : c.index-older.result.now ≡ slice_index c.self.inside.heads.items c.bucket-bucket.result = grind (arith, common_steps, c.index-older.ensures, c.bucket-bucket.ensures.within, c.self.invariant.1.head_count) in
    rw (c.push_back.ensures.items, i.exact) (
      record {
        least = i.least;
        most = i.most;
        exact = refl;
        rising = rw (notes_of-keep_last g.row.C) (IsRising-drop _ 0 _ _ (IsRising-push 0 _ _ _ later i.rising));
      },
      AreChained-note g.row.C _ _ _ _ _ c.bucket-bucket.ensures.within c.bucket-bucket.ensures.value link c.self.invariant.1,
    )

pub returns : goal.returns
returns g c = rw (c.push_back.ensures.items, c.self.invariant.0.exact, ← c.self.view_is, notes_of-keep_last) refl
