use Rattle.std.proofs.Common.{◌≡◌, length, arith}
use Rattle.std.proofs.lemmas.List.{length-map}
use Rattle.machine_shared.specs.Made.{entry_value, entry_values}
use Rattle.machine_shared.proofs.state.State.counted_by.Goals as goal

pub invariant_of-result : goal.invariant_of-result
invariant_of-result g c =
    let counted : length (entry_values c.self.inside.history.items) ≡ c.add.new.self.total = omega (arith, c.add.ensures.total, c.requires.none, c.len.ensures, c.self.inside.history.ok.0, length-map c.self.inside.history.items entry_value) in (
      record {
        legal = c.self.invariant.0.legal;
        leads = c.self.invariant.0.leads;
        crashes = c.self.invariant.0.crashes;
        covers = c.self.invariant.0.covers;
        ids = c.self.invariant.0.ids;
        counted = counted;
      },
      c.self.invariant.1,
      c.self.invariant.2,
    )
