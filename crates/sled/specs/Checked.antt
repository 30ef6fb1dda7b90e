-- What opening pages after a check of them does.
use Rattle.std.specs.Prelude.{◌≡◌, ◌⊎◌, Bool, true, false}
use Rattle.sled_nodes.specs.declared.error.Error.{Error}
use Rattle.sled_nodes.specs.declared.error.Error.TheVariants.{Corruption}
use Rattle.sled_store.specs.State.{State}
use Rattle.sled_store.specs.Store.{Store, now}
use Rattle.tree_laws.specs.Crashes.{IsValid}
use Rattle.tree_check.specs.Check.{RefusesCheck}
use Rattle.sled.specs.Opens.{RefusesOpen}
use Rattle.sled.specs.declared.open.TheConstants.{GROUP_IS_OPEN}

-- the pages are well formed, and no group is open
pub record IsFit (s : State) : Type 0 where
  pub well : IsValid s
  pub no_group : s.in_group ≡ false

abbrev pub refuses_fit_as : Bool → Store → Error → Type 0
refuses_fit_as true s e = e ≡ Corruption GROUP_IS_OPEN
refuses_fit_as false s e = RefusesCheck s e

-- a group is open, which has an error code of its own; or else the check of the pages is refused
pub record RefusesFit (s : Store) (e : Error) : Type 0 where
  pub is : refuses_fit_as (now s).in_group s e

-- pages were not fit, or could not be checked, and are as they were; or they are fit, and opening them was refused
pub record RefusesChecked (old : Store) (e : Error) (new : Store) : Type 0 where
  pub is : (RefusesFit old e × (new ≡ old)) ⊎ (IsFit (now old) × RefusesOpen old e new)
