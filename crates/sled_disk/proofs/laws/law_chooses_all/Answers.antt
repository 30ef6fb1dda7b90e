use Rattle.sled_disk.proofs.Reached.{all_chosen}
use Rattle.sled_disk.proofs.laws.law_chooses_all.Goals as goal

pub returns : goal.returns
returns c =
    let disk = c.args.disk.now in
    record { each = λ o may low. all_chosen disk.calls.items disk.first.items o disk.begun disk.fits may low }
