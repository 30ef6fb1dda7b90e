-- The tests that come before a group, each of all its trees.
use Rattle.std.proofs.Common.{◌≡◌, Bool, true, false, cond, List, [], ◌∷◌, ◌++◌, append_assoc, Some, None, refl, sym, ap, ◌∙◌}
use Rattle.std.specs.Str.{bytes_eq}
use Rattle.sled_nodes.proofs.Basics.{none_some}
use Rattle.sled_nodes.specs.Order.{Key}
use Rattle.sled_batch.specs.Batch.{Writes}
use Rattle.sled_model.specs.State.{State}
use Rattle.sled_model.specs.Refusal.{IsClosed, IsForeign, IsDropped, first_of, is_number, foreign_test, dropped_test, must_refuse_of, trees_of_batches}
use Rattle.sled_model.specs.declared.tree.Tree.{Tree}
use Rattle.sled_model.proofs.Tests.{first_none, none_first}

-- ---- the tests of a list of trees

-- the trees of a list pass where those of its parts do
foreign_parts : (name : Key) (some more : List Tree) → foreign_test name (some ++ more) ≡ None → (foreign_test name some ≡ None) × (foreign_test name more ≡ None)
foreign_parts name [] more e = (refl, e)
foreign_parts name (t ∷ some) more e = go (bytes_eq t.database name) (foreign_parts name some more) e
  where
    go : (b : Bool) → (foreign_test name (some ++ more) ≡ None → (foreign_test name some ≡ None) × (foreign_test name more ≡ None)) → cond b (foreign_test name (some ++ more)) (Some IsForeign) ≡ None
        → (cond b (foreign_test name some) (Some IsForeign) ≡ None) × (foreign_test name more ≡ None)
    go true parts f = parts f
    go false parts f = none_some (sym f)

dropped_parts : (s : State) (some more : List Tree) → dropped_test s (some ++ more) ≡ None → (dropped_test s some ≡ None) × (dropped_test s more ≡ None)
dropped_parts s [] more e = (refl, e)
dropped_parts s (t ∷ some) more e = go (is_number t.number (s.trees t.name)) (dropped_parts s some more) e
  where
    go : (b : Bool) → (dropped_test s (some ++ more) ≡ None → (dropped_test s some ≡ None) × (dropped_test s more ≡ None)) → cond b (dropped_test s (some ++ more)) (Some (IsDropped t.name)) ≡ None
        → (cond b (dropped_test s some) (Some (IsDropped t.name)) ≡ None) × (dropped_test s more ≡ None)
    go true parts f = parts f
    go false parts f = none_some (sym f)

pub tested_parts : (s : State) (some more : List Tree) → must_refuse_of s (some ++ more) ≡ None → (must_refuse_of s some ≡ None) × (must_refuse_of s more ≡ None)
tested_parts s some more e =
    let opens = first_none (cond s.is_open None (Some IsClosed)) (first_of (foreign_test s.name (some ++ more)) (dropped_test s (some ++ more))) e in
    let both = first_none (foreign_test s.name (some ++ more)) (dropped_test s (some ++ more)) opens.1 in
    let foreign = foreign_parts s.name some more both.0 in
    let dropped = dropped_parts s some more both.1 in
    (none_first _ _ opens.0 (none_first _ _ foreign.0 dropped.0), none_first _ _ opens.0 (none_first _ _ foreign.1 dropped.1))

-- .. of batches and the tree of one more
pub tested_last : (s : State) (before : List (Tree × Writes)) (tree : Tree) → must_refuse_of s (trees_of_batches before ++ tree ∷ []) ≡ None → must_refuse_of s (tree ∷ []) ≡ None
tested_last s before tree e = (tested_parts s (trees_of_batches before) (tree ∷ []) e).1

trees_of_both : (some more : List (Tree × Writes)) → trees_of_batches (some ++ more) ≡ trees_of_batches some ++ trees_of_batches more
trees_of_both [] more = refl
trees_of_both (b ∷ some) more = ap (λ ts. b.0 ∷ ts) (trees_of_both some more)

-- and of one of the batches
pub tested_among : (s : State) (some : List (Tree × Writes)) (b : Tree × Writes) (more : List (Tree × Writes)) → must_refuse_of s (trees_of_batches (some ++ b ∷ more)) ≡ None → must_refuse_of s (b.0 ∷ []) ≡ None
tested_among s some b more e =
    let rest = (tested_parts s (trees_of_batches some) (trees_of_batches (b ∷ more)) (ap (must_refuse_of s) (sym (trees_of_both some (b ∷ more))) ∙ e)).1 in
    (tested_parts s (b.0 ∷ []) (trees_of_batches more) rest).0

-- .. and of the batches before it with it
pub tested_upto : (s : State) (some : List (Tree × Writes)) (b : Tree × Writes) (more : List (Tree × Writes)) → must_refuse_of s (trees_of_batches (some ++ b ∷ more)) ≡ None → must_refuse_of s (trees_of_batches some ++ b.0 ∷ []) ≡ None
tested_upto s some b more e =
    (tested_parts s (trees_of_batches some ++ b.0 ∷ []) (trees_of_batches more) (ap (must_refuse_of s) (append_assoc (trees_of_batches some) (b.0 ∷ []) (trees_of_batches more) ∙ sym (trees_of_both some (b ∷ more))) ∙ e)).0
