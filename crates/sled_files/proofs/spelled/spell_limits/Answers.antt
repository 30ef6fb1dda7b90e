use Rattle.std.proofs.Common.{refl, rules}
use Rattle.sled_files.proofs.Raising.{ahead_done, ahead_none}
use Rattle.sled_files.proofs.spelled.spell_limits.Goals as goal

pub returns-then-versions-old_versions-clause-ok : goal.returns-then-versions-old_versions-clause-ok
returns-then-versions-old_versions-clause-ok c = ahead_none (record { pids = c.args.old_pids; versions = c.args.old_versions }) (record { pids = c.args.pids; versions = c.args.versions }) c.if-pids-old_pids.true c.if-versions-old_versions.true refl

pub returns-clause-ok : goal.returns-clause-ok
returns-clause-ok c = ahead_done (record { pids = c.args.old_pids; versions = c.args.old_versions }) c.args.pids c.args.versions c.args.pending.now.items c.spell.new.out.items c.spell.result (search rules) c.spell.ensures.fits c.spell.ensures.ok
