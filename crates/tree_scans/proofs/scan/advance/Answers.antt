use Rattle.sled_tree.specs.theory.Linking.{StepsBy}
use Rattle.std.specs.Prelude.{None}
use Rattle.std.proofs.Common.{sym, ◌∙◌, subst}
use Rattle.tree_scans.specs.theory.Scans.{ComesTo}
use Rattle.tree_scans.proofs.Stepping.{gives, ends, goes_on, ends_at_root, walks_from_root, walks, lacks}
use Rattle.tree_scans.proofs.scan.advance.Goals as goal

pub returns-in-Err : goal.returns-in-Err
returns-in-Err g c = lacks (StepsBy None) _ _ _ c.at_leaf.new.giving c.in-Give.is _ _ c.in-Err.ensures.err

pub returns-in-Ok-Pair : goal.returns-in-Ok-Pair
returns-in-Ok-Pair g c = gives (StepsBy None) _ _ _ _ c.in-Give.is _ _ (subst (ComesTo _ _ _ _) c.in-Ok-Pair.field-0-is c.in-Ok-Pair.ensures.ok)

pub returns-in-Ok-End : goal.returns-in-Ok-End
returns-in-Ok-End g c = ends (StepsBy None) _ _ _ _ c.in-Give.is _ (subst (ComesTo _ _ _ _) c.in-Ok-End.field-0-is c.in-Ok-End.ensures.ok)

pub returns-in-Ok-GoesOn : goal.returns-in-Ok-GoesOn
returns-in-Ok-GoesOn g c = goes_on (StepsBy None) _ _ _ _ c.in-Give.is _ _ _ _ (subst (ComesTo _ _ _ _) c.in-Ok-GoesOn.field-0-is c.in-Ok-GoesOn.ensures.ok) _ c.begin_behind.ensures c.walk.ensures

pub returns-then-has_none : goal.returns-then-has_none
returns-then-has_none g c = ends_at_root (StepsBy None) _ _ c.in-Root.is _ (sym c.has_none.ensures ∙ c.if-has_none.true)

pub returns-else-has_none : goal.returns-else-has_none
returns-else-has_none g c = walks_from_root (StepsBy None) _ _ c.in-Root.is _ _ _ (sym c.has_none.ensures ∙ c.if-has_none.false) c.walk-else-has_none.ensures

pub returns-in_default : goal.returns-in_default
returns-in_default g c = walks (StepsBy None) _ _ _ _ _ c.in_default.not-Root c.in_default.not-Give c.walk-in_default.ensures
