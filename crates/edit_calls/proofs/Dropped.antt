-- What comes of the values of a tree that was dropped.
use Rattle.std.proofs.Common.{◌≡◌, ◌≢◌, Bool, true, [], ◌∷◌, None, Result, Ok, Err, IfOk, sym, ap, ◌∙◌, subst}
use Rattle.sled_nodes.proofs.Basics.{false_true}
use Rattle.sled_nodes.specs.Order.{Key}
use Rattle.sled_store.specs.Store.{Store}
use Rattle.sled_store.specs.theory.Facts.{put_name_here}
use Rattle.sled_model.specs.Maps.{Merge}
use Rattle.sled_model.specs.State.{State}
use Rattle.sled_model.specs.Refusal.{is_number, must_refuse_of}
use Rattle.sled_model.specs.declared.tree.Tree.{Tree}
use Rattle.sled.specs.Values.{DbValue, db_state}
use Rattle.sled.specs.Drops.{DropsTree}
use Rattle.sled.proofs.Trees.{current}

-- the name has no tree now, and so none of this number
pub never_passes : {P M : Type 0} (store : P → Store) (meant : M → Merge) (old new : DbValue P M) (t : Tree) (dropped : Bool) → DropsTree store meant old t.name dropped new → dropped ≡ true → must_refuse_of (db_state store meant new) (t ∷ []) ≢ None
never_passes store meant old new t dropped d e must =
    let named : DropsTree store meant old t.name true new = subst (λ b. DropsTree store meant old t.name b new) e d in
    let none : (db_state store meant new).trees t.name ≡ None = ap (λ (s : State). s.trees t.name) (named.is.state (λ n. None) 0) ∙ put_name_here (db_state store meant old).trees t.name None in
    false_true (sym (ap (is_number t.number) none) ∙ current (db_state store meant new) t must)

pub never_passes_as : {P M E : Type 0} (store : P → Store) (meant : M → Merge) (old new : DbValue P M) (t : Tree) (name : Key) (r : Result Bool E) → name ≡ t.name → IfOk r (λ dropped. DropsTree store meant old name dropped new)
    → IfOk r (λ dropped. dropped ≡ true → must_refuse_of (db_state store meant new) (t ∷ []) ≢ None)
never_passes_as store meant old new t name (Ok dropped) is d = never_passes store meant old new t dropped (subst (λ n. DropsTree store meant old n dropped new) is d)
never_passes_as store meant old new t name (Err e) is d = tt
