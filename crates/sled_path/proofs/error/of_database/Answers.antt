use Rattle.sled_host.specs.Host.{bytes_of, outcomes_of}
use Rattle.sled_once.specs.Once as once
use Rattle.sled_path.specs.Path.{AreAsFound}
use Rattle.sled_path.specs.Once.{AreWhole}
use Rattle.sled_path.proofs.Unfit.{unfit}
use Rattle.sled_path.proofs.error.of_database.Goals as goal

pub returns-in_default-clause-why : goal.returns-in_default-clause-why
returns-in_default-clause-why c = λ opening is_locked files store left is why.
    unfit bytes_of outcomes_of (AreAsFound opening) opening is_locked files store left is c.args.e c.in_default.not-Io why

pub returns-in_default-clause-why_once : goal.returns-in_default-clause-why_once
returns-in_default-clause-why_once c = λ opening is_locked files store left is why.
    unfit once.bytes_of once.outcomes_of (AreWhole opening) opening is_locked files store left is c.args.e c.in_default.not-Io why
