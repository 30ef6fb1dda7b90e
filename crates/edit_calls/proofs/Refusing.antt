-- What comes of a closed database.
use Rattle.std.proofs.Common.{◌≡◌, ℕ, not, true, false, [], ◌∷◌, List, Some, None, Result, Ok, Err, IfOk, IfErr, if◌then◌else◌, sym, ap, ◌∙◌, subst}
use Rattle.sled_nodes.proofs.Basics.{none_some}
use Rattle.sled_nodes.specs.declared.error.Error.{Error}
use Rattle.sled_nodes.specs.declared.error.Error.TheVariants as error
use Rattle.sled_store.specs.Store.{Store, now}
use Rattle.sled_model.specs.Maps.{Map, Merge}
use Rattle.sled_model.specs.State.{State}
use Rattle.sled_model.specs.Refusal.{IsClosed, first_of, foreign_test, dropped_test, must_refuse_of}
use Rattle.sled_model.specs.declared.tree.Tree.{Tree}
use Rattle.sled.specs.Values.{DbValue, db_state}
use Rattle.sled.specs.Reads.{ReadsMap, RefusesReading, refuses_reading_as}

-- that a group is open is the first cause of a refusal
closed_first : (s : State) (trees : List Tree) → s.is_open ≡ false → must_refuse_of s trees ≡ Some IsClosed
closed_first s trees e = ap (λ b. first_of (if b then None else Some IsClosed) (first_of (foreign_test s.name trees) (dropped_test s trees))) e

module _ {P M : Type 0} (store : P → Store) (meant : M → Merge) (d : DbValue P M) (tree : Tree) (grouped : (now (store d.pages)).in_group ≡ true) where
  closed : must_refuse_of (db_state store meant d) (tree ∷ []) ≡ Some IsClosed
  closed = closed_first (db_state store meant d) (tree ∷ []) (ap not grouped)

  pub reads_closed : {A : Type 0} (claim : A → Map → Type 0) (of : ℕ → ℕ) (r : Result A Error) → IfOk r (λ found. ReadsMap store meant d tree (claim found)) → IfErr r (RefusesReading store meant d tree of) → r ≡ Err error.Closed
  reads_closed claim of (Ok found) reads refuses = none_some (sym reads.tested ∙ closed)
  reads_closed claim of (Err e) reads refuses = ap Err (subst (λ o. refuses_reading_as store meant d tree of o e) closed refuses.is)
