use Rattle.std.proofs.Common.{refl, inr, sym, ◌∙◌}
use Rattle.sled_files.proofs.Moments.{moments_none}
use Rattle.sled_files.proofs.Limits.{raises_files, fails_reached}
use Rattle.sled_files.proofs.file_pages.FilePages.reach_next.Goals as goal

pub returns-then-are_below-clause-any_moment : goal.returns-then-are_below-clause-any_moment
returns-then-are_below-clause-any_moment g c = rw (← c.self.view_is) (moments_none c.law_time.ensures.first c.law_time.ensures.second refl c.self.invariant.lasts)

pub returns-in-Ok-clause-limits : goal.returns-in-Ok-clause-limits
returns-in-Ok-clause-limits g c = inr (raises_files c.args.self.now c.raise.new.self c.args.pid c.args.version c.requires (rw (← c.self.view_is) (sym c.are_below.ensures ∙ c.if-are_below.false)) c.in-Ok.ensures.limits c.in-Ok.ensures.grown)

pub returns-in-Err-clause-fails : goal.returns-in-Err-clause-fails
returns-in-Err-clause-fails g c = fails_reached c.args.self.now c.raise.new.self c.args.pid c.args.version c.requires (rw (← c.self.view_is) (sym c.are_below.ensures ∙ c.if-are_below.false)) c.in-Err.ensures.fails
