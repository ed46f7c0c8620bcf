use Rattle.std.proofs.Common.{◌≡◌, ◌++◌, ℕ, List, subst, sym}
use Rattle.std.specs.Prelude.{OnOk}
use Rattle.std.proofs.lemmas.List.Folds.{flat_map-map}
use Rattle.hsr_timeline.specs.Fronts.{items_of}
use Rattle.hsr_devices.specs.Cells.{right}
use Rattle.hsr_devices.proofs.listing.put_texts.Goals as goal

pub returns : goal.returns
returns c =
    let P : List ℕ → Type 0 = λ rest. OnOk c.put_each.result (c.put_each.new.text.items ≡ c.args.text.now.items ++ rest) in
    subst P (sym (flat_map-map (right c.args.width) items_of c.args.texts.now)) c.put_each.ensures
