use Rattle.std.proofs.Common.{sym, subst, []}
use Rattle.std.specs.declared.ops.Bound.TheVariants.{Included}
use Rattle.sled_nodes.specs.Among.{bound_of}
use Rattle.tree_reads.specs.theory.Leaves.{StartsAt}
use Rattle.tree_reads.proofs.Seeking.{starts_included, starts_excluded, starts_unbounded}
use Rattle.tree_reads.proofs.nearest.start_of.Goals as goal

pub returns-in-Included : goal.returns-in-Included
returns-in-Included c = subst (λ b. StartsAt (bound_of b) (Included c.in-Included.start.now)) (sym c.in-Included.is) (starts_included c.in-Included.start.now)

pub returns-in-Excluded : goal.returns-in-Excluded
returns-in-Excluded c = subst (λ b. StartsAt (bound_of b) (Included c.in-Excluded.start.now)) (sym c.in-Excluded.is) (starts_excluded c.in-Excluded.start.now)

pub returns-in-Unbounded : goal.returns-in-Unbounded
returns-in-Unbounded c = subst (λ b. StartsAt (bound_of b) (Included [])) (sym c.in-Unbounded.is) starts_unbounded
