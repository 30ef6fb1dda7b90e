use Rattle.std.proofs.Common.{subst}
use Rattle.sled_store.specs.Store.{now}
use Rattle.tree_laws.specs.Contents.{trees_of}
use Rattle.sled_host.specs.declared.host.HostFile.{HostFile}
use Rattle.sled_once.specs.Once.{Once}
use Rattle.sled_files.specs.Stored.{Stored}
use Rattle.sled_path.specs.Path.{GoesOnFrom}
use Rattle.sled_path.specs.Once.{GoesOnOnce}
use Rattle.example_files.proofs.Found.{one_in}
use Rattle.example_files.proofs.paths.law_found_maps_once.Goals as goal

pub returns : goal.returns
returns g c opening is_locked name new is honest kept are =
    let goes : GoesOnFrom c.args.db.now.pages is.store = subst (λ (p : Stored (Once HostFile)). GoesOnOnce p) c.pages.ensures c.law_once_goes_on.ensures opening is_locked is.files is.store is.is honest in
    record { left = trees_of (now is.store); one = one_in goes kept are; is = is.opens.maps }
