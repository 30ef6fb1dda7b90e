use Rattle.line_words.proofs.print.push_event.Goals as goal

pub returns-in-Insert-clause-ok : goal.returns-in-Insert-clause-ok
returns-in-Insert-clause-ok c = rw (c.in-Insert.is, ← c.as_ref.ensures, ← c.as_ref-in-Insert.ensures) c.push_entry.ensures.ok
