use Rattle.std.proofs.Common.{sym, ◌∙◌, subst, List, ℕ}
use Rattle.sled_disk.specs.Disk.{Only}
use Rattle.sled_log.proofs.Appending.{on_ok}
use Rattle.sled_log.proofs.writing.cut_through.Goals as goal

pub returns-clause-cut : goal.returns-clause-cut
returns-clause-cut g c = on_ok c.sync.result (λ durable. c.sync.ensures.seen ∙ c.in_ok-cut.ensures.cut) c.sync.ensures.durable

pub returns-clause-durable : goal.returns-clause-durable
returns-clause-durable g c = on_ok c.sync.result (λ durable. subst (λ (l : List ℕ). Only l (g.D.Disk.may_leave c.sync.new.self)) (sym c.sync.ensures.seen) durable) c.sync.ensures.durable
