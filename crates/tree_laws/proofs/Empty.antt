-- A store with no tree.
use Rattle.std.proofs.Common.{◌≡◌, ℕ, suc, [], Option, Some, None, MatchOption, refl, sym, subst, inl}
use Rattle.sled_nodes.proofs.Basics.{none_some}
use Rattle.sled_store.specs.State.{Nodes}
use Rattle.tree_laws.specs.Forest.{Tree, WellFormed, IsSized, place, head}
use Rattle.tree_laws.specs.theory.Laws.{no_forest, EmptyLaw}

-- where no name has a root, no page needs a place
pub no_trees : (nodes : Nodes) (roots : Tree → Option ℕ) → ((t : Tree) → roots t ≡ None) → WellFormed nodes roots no_forest
no_trees nodes roots none = record {
  homed = λ x p i. absurd i;
  page = λ x p e. none_some e;
  run = λ x. inl refl;
  pointer = λ t h p n i. absurd i;
  child = λ x p n i. absurd i;
  down = λ t h p n e. none_some e;
  top = λ t. subst (λ o. MatchOption o ((h : ℕ) → no_forest.chain (place t h) ≡ []) (λ r. (h : ℕ) × (head (no_forest.chain (place t h)) ≡ Some r) × (no_forest.chain (place t (suc h)) ≡ []))) (sym (none t)) (λ h. refl);
}

pub no_sizes : (nodes : Nodes) → IsSized nodes no_forest
no_sizes nodes = record { fits = λ x p n e. none_some e; child = λ x p c n d i. absurd i }

pub empty_law : EmptyLaw
empty_law = (no_trees _ _ (λ t. refl), no_sizes _)
