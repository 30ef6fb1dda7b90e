use Rattle.std.proofs.Common.{sym, subst, List, ℕ}
use Rattle.sled_log.specs.Digest.{digest}
use Rattle.sled_log.specs.Tear.{EndsAt}
use Rattle.sled_log.proofs.Mended.{ends_within}
use Rattle.sled_log.proofs.mending.end_of.Goals as goal

pub returns-in-Ok-clause-ok : goal.returns-in-Ok-clause-ok
returns-in-Ok-clause-ok c = subst (λ (ps : List (List ℕ)). EndsAt digest c.args.bytes.now ps c.in-Ok.log.gate) (sym c.in-Ok.ensures.read) c.in-Ok.ensures.ends

pub returns-in-Ok-clause-within : goal.returns-in-Ok-clause-within
returns-in-Ok-clause-within c = ends_within c.in-Ok.ensures.ends
