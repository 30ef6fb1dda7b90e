use Rattle.std.proofs.Common.{All, List, subst}
use Rattle.machine_shared.specs.Gathered.{EachOnceBehind, IsMadeIn}
use Rattle.machine_shared.specs.Values.{CallerValue}
use Rattle.machine_shared.proofs.db.Db.gather.Goals as goal

pub returns-in-Some-clause-numbers : goal.returns-in-Some-clause-numbers
returns-in-Some-clause-numbers g c = subst (λ (hs : List CallerValue). EachOnceBehind c.args.self.before c.args.self.given hs) c.as_slice.ensures.value c.in-Some.ensures.numbers

pub returns-in-Some-clause-made : goal.returns-in-Some-clause-made
returns-in-Some-clause-made g c = subst (λ (hs : List CallerValue). All (IsMadeIn c.in-Some.state.history) hs) c.as_slice.ensures.value c.in-Some.ensures.made
