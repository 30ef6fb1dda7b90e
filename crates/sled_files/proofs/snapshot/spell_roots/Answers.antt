use Rattle.std.proofs.Common.{sym, rules}
use Rattle.sled_files.proofs.Snapping.{roots_push}
use Rattle.sled_files.proofs.Sizing.{sized_roots}
use Rattle.sled_files.proofs.snapshot.spell_roots.Goals as goal

pub loop-name-preserved : goal.loop-name-preserved
loop-name-preserved c = roots_push c.in-Some.name c.as_ref.result.now c.in-Some.pid (sym c.as_ref.ensures) c.loop-name.invariant c.in-Some.ensures.items c.in_default-spelled.ensures.fits c.in_default-spelled.ensures.ok

pub returns-clause-long : goal.returns-clause-long
returns-clause-long c = sized_roots c.loop-name.invariant (search rules)
