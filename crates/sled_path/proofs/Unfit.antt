-- Why no database was opened over a store that was.
use Rattle.std.proofs.Common.{◌≡◌, inl, inr, ℕ, List, refl}
use Rattle.std.specs.Prelude.{◌⊎◌, Bool, true, false}
use Rattle.sled_nodes.specs.declared.error.Error.{Error}
use Rattle.sled_nodes.specs.declared.error.Error.TheVariants as error
use Rattle.sled_nodes.specs.declared.error.Fault.{Fault}
use Rattle.sled_store.specs.Store.{Store, now}
use Rattle.sled_files.specs.Files.{Files}
use Rattle.sled_host.specs.declared.host.HostFile.{HostFile}
use Rattle.sled_host.specs.declared.pair.Opening.{Opening}
use Rattle.sled.specs.Checked.{IsFit, RefusesFit, RefusesChecked, refuses_fit_as}
use Rattle.sled.specs.Opens.{RefusesOpen}
use Rattle.sled_path.specs.Path.{StoreOver, is_why_closed_over}
use Rattle.sled_path.specs.declared.error.OpenError.TheVariants.{Database}

-- an error that neither a check nor an open group has
of_none : (s : Store) (e : Error) → ((f : Fault) → e ≡ error.Corruption f → ⊥) → (refuses_fit_as false s e → ⊥) → (in_group : Bool) → refuses_fit_as in_group s e → ⊥
of_none s e other none true is = other _ is
of_none s e other none false is = none is

module _ {D : Type 0} (seen : D → List ℕ) (may_leave : D → List ℕ → Type 0) (known : Bool → HostFile → HostFile → Type 0) (opening : Opening) (is_locked : Bool) (files : Files D) (store left : Store) (is : StoreOver seen may_leave (known is_locked) files store) where
  by_check : (e : Error) → ((f : Fault) → e ≡ error.Io f → ⊥) → RefusesFit store e → is_why_closed_over seen may_leave known opening (Database e)
  by_check error.NoMemory not_io why = tt
  by_check (error.Corruption finding) not_io why = record { files = files; store = store; is_locked = is_locked; is = is; why = why }
  by_check (error.Io fault) not_io why = absurd (not_io fault refl)
  by_check (error.CollectionNotFound name) not_io why = absurd (of_none store (error.CollectionNotFound name) (λ f same. cc) (λ none. none.is) (now store).in_group why.is)
  by_check (error.Unsupported text) not_io why = absurd (of_none store (error.Unsupported text) (λ f same. cc) (λ none. none.is) (now store).in_group why.is)
  by_check (error.ReportableBug text) not_io why = absurd (of_none store (error.ReportableBug text) (λ f same. cc) (λ none. none.is) (now store).in_group why.is)
  by_check error.Closed not_io why = absurd (of_none store error.Closed (λ f same. cc) (λ none. none.is) (now store).in_group why.is)

  by_opening : (e : Error) → ((f : Fault) → e ≡ error.Io f → ⊥) → RefusesOpen store e left → is_why_closed_over seen may_leave known opening (Database e)
  by_opening error.NoMemory not_io why = tt
  by_opening (error.Corruption finding) not_io why = absurd why.cause.is
  by_opening (error.Io fault) not_io why = absurd (not_io fault refl)
  by_opening (error.CollectionNotFound name) not_io why = absurd why.cause.is
  by_opening (error.Unsupported text) not_io why = absurd why.cause.is
  by_opening (error.ReportableBug text) not_io why = absurd why.cause.is
  by_opening error.Closed not_io why = absurd why.cause.is

  by_either : (e : Error) → ((f : Fault) → e ≡ error.Io f → ⊥) → (RefusesFit store e × (left ≡ store)) ⊎ (IsFit (now store) × RefusesOpen store e left) → is_why_closed_over seen may_leave known opening (Database e)
  by_either e not_io (inl check) = by_check e not_io check.0
  by_either e not_io (inr opening) = by_opening e not_io opening.1

  pub unfit : (e : Error) → ((f : Fault) → e ≡ error.Io f → ⊥) → RefusesChecked store e left → is_why_closed_over seen may_leave known opening (Database e)
  unfit e not_io why = by_either e not_io why.is
