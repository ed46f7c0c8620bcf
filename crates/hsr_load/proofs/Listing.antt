-- The loads of channels, one more at the end.
use Rattle.std.proofs.Common.{◌≡◌, ℕ, ◌+◌, ◌<◌, List, [], ◌∷◌, ◌++◌, length, take, slice_index_or, Option, Some, None, refl, sym, ap, ◌∙◌, subst}
use Rattle.std.specs.List.{cons_option}
use Rattle.std.proofs.lemmas.List.{take_more}
use Rattle.hsr_load.specs.Carried.{Channel}
use Rattle.hsr_load.specs.Loads.{AreLoads, IsLoadIf}
use Rattle.hsr_load.specs.declared.load.ChannelLoad.{ChannelLoad}

option_append : (o : Option ChannelLoad) (xs ys : List ChannelLoad) → cons_option o xs ++ ys ≡ cons_option o (xs ++ ys)
option_append None xs ys = refl
option_append (Some x) xs ys = refl

loads_push : (time : ℕ) (cs : List Channel) (c : Channel) (loads : List ChannelLoad) (o : Option ChannelLoad) → AreLoads time cs loads → IsLoadIf time c o →
    AreLoads time (cs ++ c ∷ []) (loads ++ cons_option o [])
loads_push time [] c loads o are is = record {
  load = o;
  others = [];
  is_load = is;
  rest = refl;
  all = ap (λ (xs : List ChannelLoad). xs ++ cons_option o []) are;
}
loads_push time (first ∷ cs) c loads o are is = record {
  load = are.load;
  others = are.others ++ cons_option o [];
  is_load = are.is_load;
  rest = loads_push time cs c are.others o are.rest is;
  all = ap (λ (xs : List ChannelLoad). xs ++ cons_option o []) are.all ∙ option_append are.load are.others (cons_option o []);
}

pub loads_more : (time : ℕ) (cs : List Channel) (i : ℕ) (d : Channel) (loads : List ChannelLoad) (o : Option ChannelLoad) → i < length cs → AreLoads time (take i cs) loads →
    IsLoadIf time (slice_index_or cs i d) o → AreLoads time (take (i + 1) cs) (loads ++ cons_option o [])
loads_more time cs i d loads o below are is =
    subst (λ (xs : List Channel). AreLoads time xs (loads ++ cons_option o [])) (sym (take_more cs i d below)) (loads_push time (take i cs) (slice_index_or cs i d) loads o are is)
