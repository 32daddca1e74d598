-- Single facts behind the tests: the reading order by `is_lt`, an event of a time among rows.
use mathlib.Core.Path.{◌≡◌, refl, ap}
use mathlib.Core.Bool.{Bool, ◌||◌}
use mathlib.Core.List.{List, [], ◌∷◌, map}
use Prim.Native.Nat.{ℕ, Ordering}
use lib.Dec.{eqb}
use lib.ListN.{get_or}
use Rattle.std.specs.Ordering.{is_lt}
use Rattle.std.specs.declared.cmp.Ordering.TheVariants.{Less, Equal, Greater}
use Rattle.std.specs.List.{list_any}
use Rattle.definition.specs.Lists.{is_less}
use Rattle.definition.specs.State.{by_order}
use Rattle.definition.specs.BadState.{has_run}
use Rattle.history.specs.Rows.{saved_of}

pub less_by_order : (o : Ordering) → is_lt (by_order o Less Equal Greater) ≡ is_less o
less_by_order Ordering.lt = refl
less_by_order Ordering.eq = refl
less_by_order Ordering.gt = refl

pub run_said : (t : ℕ) (rows : List (List ℕ)) → list_any (λ e. eqb (get_or e 0 0) t) rows ≡ has_run t (map saved_of rows)
unfolding has_run
run_said t [] = refl
run_said t (e ∷ rows) = ap (λ (b : Bool). eqb (get_or e 0 0) t || b) (run_said t rows)
