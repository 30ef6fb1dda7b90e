use Rattle.std.proofs.Common.{◌∙◌, sym}
use Rattle.machine_alone.specs.Values.{slots_of}
use Rattle.machine_shared.proofs.Noted.{not_noted}
use Rattle.machine_shared.proofs.noting.step_noting.Goals as goal

pub returns-then-not-is_on_key_in-clause-noted : goal.returns-then-not-is_on_key_in-clause-noted
returns-then-not-is_on_key_in-clause-noted g c = not_noted c.step.result (slots_of c.args.machine.now.flights c.args.slot) (sym c.is_on_key_in.ensures ∙ c.if-not-is_on_key_in.true)
