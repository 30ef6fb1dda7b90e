use Rattle.std.proofs.Common.{All, List, subst}
use Rattle.std.proofs.lemmas.List.Elements.{All-map}
use Rattle.machine_shared.specs.Gathered.{IsOfGiven}
use Rattle.machine_shared.specs.Made.{EntryValue, entry_value}
use Rattle.machine_shared.proofs.gather.agrees_with.Goals as goal

pub returns-then-has_no_others-clause-others : goal.returns-then-has_no_others-clause-others
returns-then-has_no_others-clause-others g c h = subst (λ (es : List EntryValue). All (IsOfGiven c.args.given) es) c.history-history.ensures.entries (All-map (IsOfGiven c.args.given) entry_value c.history-history.result.now (c.has_no_others.ensures c.if-has_no_others.true))
