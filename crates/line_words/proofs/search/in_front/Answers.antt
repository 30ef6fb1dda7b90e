use Rattle.line_words.proofs.Searching.{none_found, some_found}
use Rattle.line_words.proofs.search.in_front.Goals as goal

pub returns-then-found-eq0 : goal.returns-then-found-eq0
returns-then-found-eq0 c = none_found c.args.byte c.args.bytes.now c.args.at c.requires c.if-found-eq0.true

pub returns-else-found-eq0 : goal.returns-else-found-eq0
returns-else-found-eq0 c = some_found c.args.byte c.args.bytes.now c.args.at c.requires c.if-found-eq0.false
