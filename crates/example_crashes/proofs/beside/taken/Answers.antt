use Rattle.std.proofs.Common.{◌≡◌, ◌∙◌, length, ap, arith}
use Rattle.sled_pages.specs.Memory.{store_of}
use Rattle.machine_shared.specs.Values.{OpeningValue}
use Rattle.example_crashes.proofs.Together.{is_taken}
use Rattle.example_crashes.proofs.beside.taken.Goals as goal

pub returns-then-is_open-clause-raised : goal.returns-then-is_open-clause-raised
returns-then-is_open-clause-raised g c = λ tree key callers times few all.
    let count : length c.args.handles.items ≡ c.args.shared.given = omega (arith, c.args.handles.ok.0, c.in-Ok.ensures.count) in
    is_taken tree key store_of c.in-Ok.state callers times c.args.shared.given c.args.handles.items c.args.shared.before c.requires.before count few c.in-Ok.ensures.legal c.in-Ok.ensures.crashes
    (ap (λ (o : OpeningValue). o.flushed) c.in-Ok.ensures.opening ∙ c.requires.flushed) (c.is_open.ensures c.if-is_open.true) c.in-Ok.ensures.made c.in-Ok.ensures.numbers c.in-Ok.ensures.others all
