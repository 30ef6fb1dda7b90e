use Rattle.std.proofs.Common.{◌≡◌, ◌∙◌, ap, inl, rules}
use Rattle.sled_files.specs.Stored.{Stored, missed_after}
use Rattle.sled_files.proofs.Over.{if_err}
use Rattle.sled_files.proofs.Limits.{flushes_missed}
use Rattle.sled_files.proofs.file_pages.FilePagesPages.flush.Goals as goal

pub returns-then-not-is_due-clause-cause : goal.returns-then-not-is_due-clause-cause
returns-then-not-is_due-clause-cause g c = if_err c.flush_on.result (λ e h due. h) c.flush_on.ensures.cause

pub returns-in-Ok-clause-renewed : goal.returns-in-Ok-clause-renewed
returns-in-Ok-clause-renewed g c = λ due. inl (c.in-Ok.ensures.renewed, c.flush_whole.ensures.rule.missed)

pub returns-in-Err-NoMemory-clause-renewed : goal.returns-in-Err-NoMemory-clause-renewed
returns-in-Err-NoMemory-clause-renewed g c =
    let same : c.flush_whole.new.self ≡ c.args.self.now = search rules in
    flushes_missed g.D.Disk.seen _ _ c.args.self.now c.miss.new.self c.flush_on-in-Err-NoMemory.new.self c.flush_on-in-Err-NoMemory.result (c.miss.ensures ∙ ap (λ (v : Stored g.row.D.Denot). record v { missed = missed_after v }) same) c.flush_on-in-Err-NoMemory.ensures.rule.missed c.flush_on-in-Err-NoMemory.ensures.grown
