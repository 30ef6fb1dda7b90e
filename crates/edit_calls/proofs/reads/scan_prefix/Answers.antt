use Rattle.edit_calls.proofs.reads.scan_prefix.Goals as goal

pub returns : goal.returns
returns c = assumption
