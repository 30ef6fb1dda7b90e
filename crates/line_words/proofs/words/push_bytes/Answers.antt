use Rattle.line_words.proofs.Spelling.{pushed-run, pushed-last}
use Rattle.line_words.proofs.words.push_bytes.Goals as goal

pub returns-in_default-clause-ok : goal.returns-in_default-clause-ok
returns-in_default-clause-ok c = pushed-last _ _ _ _ _ _ c.count_plain.ensures.plain c.split_at.ensures.front c.split_at.ensures.back c.in_default.ensures.cases c.in_ok-extend_from_slice.ensures.items c.runs.invariant

pub runs-preserved : goal.runs-preserved
runs-preserved c = pushed-run _ _ _ _ _ _ _ _ _ c.count_plain.ensures.plain c.split_at.ensures.front c.split_at.ensures.back c.in-Some.ensures.cases.0 c.in_ok-extend_from_slice.ensures.items c.in_ok-push_byte.ensures.ok c.runs.invariant
