-- Stores that can be opened: an empty one, and what a crash leaves of a database's pages.
use Rattle.std.proofs.Common.{◌≡◌, ℕ, false, sym, ap, ◌∙◌, subst}
use Rattle.sled_store.specs.Crash.{Crashes}
use Rattle.sled_store.specs.theory.Facts.{may_leave_crashed}
use Rattle.sled_pages.specs.Memory.{empty_store}
use Rattle.sled_store.specs.State.{State, after_all}
use Rattle.sled_store.specs.Store.{Store, now}
use Rattle.tree_laws.specs.Crashes.{IsValid, IsCrashConsistent}
use Rattle.tree_laws.specs.theory.Laws.{no_forest}
use Rattle.tree_laws.proofs.Empty.{empty_law}

empty_well : IsValid (now empty_store)
empty_well = record { forest = no_forest; formed = empty_law.0; sized = empty_law.1 }

pub empty_is_well : (s : Store) → s ≡ empty_store → IsValid (now s)
empty_is_well s e = subst (λ (z : Store). IsValid (now z)) (sym e) empty_well

pub empty_is_calm : (s : Store) → s ≡ empty_store → (now s).in_group ≡ false
empty_is_calm s e = ap (λ (z : Store). (now z).in_group) e

module _ (keep : ℕ) (old new : Store) (c : Crashes keep old new) where
  left_now : now new ≡ new.base
  left_now = ap (λ (z : Store). after_all z.recent new.base) c.is

  pub left_is_well : IsCrashConsistent old → IsValid (now new)
  left_is_well safe = subst IsValid (sym left_now) (safe.whole new.base (may_leave_crashed keep old new c).is)

  pub left_is_calm : (now new).in_group ≡ false
  left_is_calm = ap (λ (z : State). z.in_group) (left_now ∙ ap (λ (z : Store). z.base) c.is) ∙ c.sealed
