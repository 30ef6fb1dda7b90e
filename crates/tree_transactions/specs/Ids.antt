-- Ids inside a transaction.
use Rattle.std.specs.Prelude.{◌≡◌, ℕ, ◌+◌, ◌-◌, ◌<◌, ◌≤◌, ◌⊎◌, nat_lt, Bool, true, false, ◌&&◌, List, [], ◌∷◌}
use Rattle.sled_nodes.specs.declared.error.Error.{Error}
use Rattle.sled_nodes.specs.declared.error.Error.TheVariants.{Unsupported}
use Rattle.sled_nodes.specs.declared.texts.TheConstants.{NO_ID_SET_ASIDE}
use Rattle.sled_store.specs.Store.{Store, IsRefused}
use Rattle.sled_model.specs.Ids.{greatest_of_all, raised}

-- the next id is given: one above the greatest so far, which is set aside, since it is no greater than the mark
pub record TakesId (mark old id new : ℕ) : Type 0 where
  pub next : id ≡ old + 1
  pub aside : id ≤ mark
  pub is : new ≡ id

abbrev pub tells_no_id : Error → Type 0
tells_no_id (Unsupported text) = text.now ≡ NO_ID_SET_ASIDE.now
tells_no_id e = ⊥

-- no id is set aside
pub record LacksId (mark greatest : ℕ) (e : Error) : Type 0 where
  pub none : mark ≤ greatest
  pub is : tells_no_id e

-- fewer than 1024 ids are set aside, and not all are
abbrev pub is_short : ℕ → ℕ → Bool
is_short greatest mark = nat_lt (mark - greatest) 1024 && nat_lt mark greatest_of_all

abbrev pub sets_aside_as : Bool → Store → Store → Type 0
sets_aside_as false old new = new ≡ old
sets_aside_as true old new = (new ≡ record old { mark = raised old.mark }) ⊎ ((e : Error) × IsRefused e old new)

-- if few ids are set aside the mark is raised, or the store refuses that, which is passed over
pub record SetsAside (greatest : ℕ) (old new : Store) : Type 0 where
  pub is : sets_aside_as (is_short greatest old.mark) old new

-- .. and if a list has no trees nothing is done
abbrev pub sets_aside_for : List ℕ → ℕ → Store → Store → Type 0
sets_aside_for [] greatest old new = new ≡ old
sets_aside_for (root ∷ roots) greatest old new = SetsAside greatest old new

-- The greatest id that was given, before a closure ran and after it, which left this one. It takes no id back, and none that is not
-- set aside
pub record GoesOn (before mark left after : ℕ) : Type 0 where
  pub rises : before ≤ after
  pub aside : before < after → after ≤ mark
  pub is : before ≤ left → left ≤ mark → after ≡ left

-- the store means what it did, but that the mark may be raised and faults counted
pub record OnlyRaises (old new : Store) : Type 0 where
  pub is : new ≡ record old { mark = new.mark; faults = new.faults }
  pub mark : old.mark ≤ new.mark
  pub faults : old.faults ≤ new.faults
