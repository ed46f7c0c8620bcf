use Rattle.std.proofs.Common.{◌<◌, ◌∙◌, List, Option, None, ℕ, length, get_or, ap, arith, rules}
use Rattle.hsr_timeline.proofs.Sided.{place_at, places_long}
use Rattle.hsr_load.proofs.carrying.place_of.Goals as goal

pub bounds-places-j : goal.bounds-places-j
bounds-places-j g c =
    let many = places_long c.args.closed.now.run c.args.link c.args.dir in
    let same = ap (λ (ps : List (Option ℕ)). length ps) c.requires.places in
    let below = c.requires.below in
    omega (arith, many, same, below)

pub offset_bounds-places-j : goal.offset_bounds-places-j
offset_bounds-places-j g c =
    let many = places_long c.args.closed.now.run c.args.link c.args.dir in
    let same = ap (λ (ps : List (Option ℕ)). length ps) c.requires.places in
    let low = c.requires.below in
    let below : c.args.j < length c.args.places.now = omega (arith, many, same, low) in
    search rules

pub returns : goal.returns
returns g c = ap (λ (ps : List (Option ℕ)). get_or ps c.args.j None) c.requires.places ∙ place_at c.args.closed.now.run c.args.link c.args.dir c.args.j c.requires.below
