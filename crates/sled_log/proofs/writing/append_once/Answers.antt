use Rattle.std.proofs.Common.{◌+◌, ◌++◌, length, sym, [], ◌∷◌, List, ℕ, ◌∙◌, ap, subst}
use Rattle.sled_disk.specs.Disk.{written}
use Rattle.sled_log.specs.Log.{opened, log_of, IsLog}
use Rattle.sled_log.proofs.Appending.{log_opened, log_after, on_ok}
use Rattle.sled_log.specs.Tear.{log_to_tear}
use Rattle.sled_log.proofs.Tearing.{log_reads, after_block_write, after_gate_write, after_one_sync}
use Rattle.sled_log.proofs.writing.append_once.Goals as goal

pub returns-in_err-write_at-clause-any_moment : goal.returns-in_err-write_at-clause-any_moment
returns-in_err-write_at-clause-any_moment g c =
    let disk = g.D.Disk in
    after_block_write disk.seen disk.moment disk.left_since disk.may_leave c.args.disk.now c.args.gate c.args.block.now c.requires.last c.requires.on_disk c.law_only_now.ensures c.write_at.new.self c.write_at.ensures.crash c.write_at.ensures.time

pub returns-in_err-write_at-2-clause-any_moment : goal.returns-in_err-write_at-2-clause-any_moment
returns-in_err-write_at-2-clause-any_moment g c =
    let disk = g.D.Disk in
    after_gate_write disk.seen disk.moment disk.left_since disk.may_leave c.args.disk.now c.args.gate c.args.block.now c.requires.last c.requires.on_disk c.law_only_now.ensures c.write_at.new.self c.write_at.ensures.crash c.write_at.ensures.time
    c.write_at-2.new.self c.write_at-2.ensures.crash c.write_at-2.ensures.time

pub returns-clause-any_moment : goal.returns-clause-any_moment
returns-clause-any_moment g c =
    let disk = g.D.Disk in
    after_one_sync disk.seen disk.moment disk.left_since disk.may_leave c.args.disk.now c.args.gate c.args.block.now c.requires.last c.requires.on_disk c.law_only_now.ensures c.write_at.new.self c.write_at.ensures.crash c.write_at.ensures.time
    c.write_at-2.new.self c.write_at-2.ensures.crash c.write_at-2.ensures.time c.sync.new.self c.sync.ensures.crash c.sync.ensures.time

pub returns-clause-acknowledged : goal.returns-clause-acknowledged
returns-clause-acknowledged g c =
    on_ok c.sync.result
    (λ durable b. ap (log_of b.digest) (c.sync.ensures.seen ∙ c.in_ok-write_at-2.ensures.written ∙ ap (λ (l : List ℕ). written c.args.gate (opened ∷ []) l) c.in_ok-write_at.ensures.written) ∙ log_opened b)
    c.sync.ensures.durable

pub returns-clause-next : goal.returns-clause-next
returns-clause-next g c =
    on_ok c.sync.result
    (λ durable b. subst (λ (file : List ℕ). IsLog b.digest file (b.payloads ++ b.payload ∷ []) (c.args.gate + length c.args.block.now)) (sym (c.sync.ensures.seen ∙ c.in_ok-write_at-2.ensures.written ∙ ap (λ (l : List ℕ). written c.args.gate (opened ∷ []) l) c.in_ok-write_at.ensures.written)) (log_after b))
    c.sync.ensures.durable

pub returns-clause-read : goal.returns-clause-read
returns-clause-read g c =
    on_ok c.sync.result
    (λ durable b. ap (log_to_tear b.digest) (c.sync.ensures.seen ∙ c.in_ok-write_at-2.ensures.written ∙ ap (λ (l : List ℕ). written c.args.gate (opened ∷ []) l) c.in_ok-write_at.ensures.written) ∙ log_reads b.digest b.small (log_after b))
    c.sync.ensures.durable
