-- The tests that come before a call.
use Rattle.std.proofs.Common.{◌≡◌, Bool, true, false, not, ◌&&◌, cond, [], ◌∷◌, Option, Some, None, Bor, refl, sym, ap, ◌∙◌, subst, inl, inr}
use Rattle.sled_nodes.proofs.Basics.{none_some, not_true}
use Rattle.sled_nodes.specs.Order.{Key}
use Rattle.sled_nodes.specs.declared.error.Error.{Error}
use Rattle.sled_nodes.specs.declared.error.Error.TheVariants as error
use Rattle.sled_nodes.specs.declared.error.Fault.{Fault}
use Rattle.sled_store.specs.Store.{Store, now}
use Rattle.sled_model.specs.Maps.{Merge}
use Rattle.sled_model.specs.State.{State}
use Rattle.sled_model.specs.Refusal.{MustRefuse, IsClosed, IsDropped, HasNoOperator, TellsTurns, first_of, must_refuse_of, must_refuse, operator_test, needs_operator, has_operator, foreign_test, dropped_test, ToPoint, ToCall}
use Rattle.sled_model.specs.declared.call.Call.{Call}
use Rattle.sled_model.specs.declared.call.Whole.TheVariants.{Flush}
use Rattle.sled_model.specs.declared.tree.Tree.{Tree}
use Rattle.sled.specs.Calls.{must_be_refused_as}
use Rattle.sled.specs.Values.{DbValue, db_state}

pub first_alone : (a : Option MustRefuse) → first_of a None ≡ a
first_alone None = refl
first_alone (Some m) = refl

-- a call that needs no operator has the tests of its tree alone
pub must_plain : (s : State) (tree : Tree) (call : Call) → needs_operator call ≡ false → must_refuse s (ToPoint tree call) ≡ must_refuse_of s (tree ∷ [])
must_plain s tree call e = ap (λ b. first_of (must_refuse_of s (tree ∷ [])) (cond (b && not (has_operator (s.trees tree.name))) (Some HasNoOperator) None)) e ∙ first_alone (must_refuse_of s (tree ∷ []))

-- and one whose tree has its operator
pub must_operated : (s : State) (tree : Tree) (call : Call) → has_operator (s.trees tree.name) ≡ true → must_refuse s (ToPoint tree call) ≡ must_refuse_of s (tree ∷ [])
must_operated s tree call e = ap (λ b. first_of (must_refuse_of s (tree ∷ [])) (cond (needs_operator call && not b) (Some HasNoOperator) None)) e ∙ ap (λ b. first_of (must_refuse_of s (tree ∷ [])) (cond b (Some HasNoOperator) None)) (neither (needs_operator call)) ∙ first_alone (must_refuse_of s (tree ∷ []))
  where
    neither : (b : Bool) → b && false ≡ false
    neither true = refl
    neither false = refl

-- the tree passes its tests, and has no operator
pub must_unoperated : (s : State) (tree : Tree) (call : Call) → must_refuse_of s (tree ∷ []) ≡ None → needs_operator call ≡ true → has_operator (s.trees tree.name) ≡ false → must_refuse s (ToPoint tree call) ≡ Some HasNoOperator
must_unoperated s tree call none needs has =
    ap (λ z. first_of z (operator_test s (ToPoint tree call))) none
    ∙ ap (λ b. cond (b && not (has_operator (s.trees tree.name))) (Some HasNoOperator) None) needs
    ∙ ap (λ b. cond (not b) (Some HasNoOperator) None) has

-- a tree that fails its tests fails them first
pub must_first : (s : State) (tree : Tree) (call : Call) (m : MustRefuse) → must_refuse_of s (tree ∷ []) ≡ Some m → must_refuse s (ToPoint tree call) ≡ Some m
must_first s tree call m e = ap (λ z. first_of z (operator_test s (ToPoint tree call))) e

-- the tests of a call begin with those of its tree
pub tree_tested : (s : State) (tree : Tree) (call : Call) → must_refuse s (ToPoint tree call) ≡ None → must_refuse_of s (tree ∷ []) ≡ None
tree_tested s tree call e = go (must_refuse_of s (tree ∷ [])) e
  where
    go : (o : Option MustRefuse) → first_of o (operator_test s (ToPoint tree call)) ≡ None → o ≡ None
    go None e = refl
    go (Some m) e = none_some (sym e)

-- where the tests pass the database is open
pub tested_open : (s : State) (t : Tree) → must_refuse_of s (t ∷ []) ≡ None → s.is_open ≡ true
tested_open s t e = go s.is_open (first_of (foreign_test s.name (t ∷ [])) (dropped_test s (t ∷ []))) e
  where
    go : (b : Bool) (later : Option MustRefuse) → first_of (cond b None (Some IsClosed)) later ≡ None → b ≡ true
    go true later e = refl
    go false later e = none_some (sym e)

-- no test tells a bug, or that turns are used up
pub untold_bug : (o : Option MustRefuse) (text : Bor Key) → must_be_refused_as o (error.ReportableBug text) → ⊥
untold_bug (Some IsClosed) text t = cc
untold_bug (Some (IsDropped name)) text (inl t) = cc
untold_bug (Some (IsDropped name)) text (inr t) = cc
untold_bug other text t = t

pub untold_turns : (o : Option MustRefuse) (e : Error) → must_be_refused_as o e → TellsTurns e → ⊥
untold_turns o (error.ReportableBug text) t tells = untold_bug o text t
untold_turns o other t tells = tells

-- .. or a fault
pub untold_fault : (o : Option MustRefuse) (e : Error) → must_be_refused_as o e → (fault : Fault) → e ≡ error.Io fault → ⊥
untold_fault o e t fault is = go o (subst (must_be_refused_as o) is t)
  where
    go : (o : Option MustRefuse) → must_be_refused_as o (error.Io fault) → ⊥
    go (Some IsClosed) t = cc
    go (Some (IsDropped name)) (inl t) = cc
    go (Some (IsDropped name)) (inr t) = cc
    go other t = t

module _ {P M : Type 0} (store : P → Store) (meant : M → Merge) (old : DbValue P M) where
  -- .. and so no group is open
  pub tested_calm : (t : Tree) → must_refuse_of (db_state store meant old) (t ∷ []) ≡ None → (now (store old.pages)).in_group ≡ false
  tested_calm t must = not_true (now (store old.pages)).in_group (tested_open (db_state store meant old) t must)

  pub open_now : (now (store old.pages)).in_group ≡ false → must_refuse (db_state store meant old) (ToCall Flush) ≡ None
  open_now e = ap (λ b. first_of (first_of (cond (not b) None (Some IsClosed)) None) None) e

  pub closed_now : (now (store old.pages)).in_group ≡ true → must_refuse (db_state store meant old) (ToCall Flush) ≡ Some IsClosed
  closed_now e = ap (λ b. first_of (first_of (cond (not b) None (Some IsClosed)) None) None) e
