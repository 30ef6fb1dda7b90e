-- A closure of a transaction that was run keeps what holds of a state: ids were taken, or nothing changed.
use Rattle.std.proofs.Common.{◌≡◌, ◌∙◌, ◌⊎◌, inl, inr, ℕ, List, [], None, append-nil, sym, refl, ap, subst}
use Rattle.sled_store.specs.Store.{Store}
use Rattle.sled_model.specs.Collections.{Content}
use Rattle.sled_model.specs.Maps.{Merge}
use Rattle.sled_model.specs.State.{State, maps_of}
use Rattle.sled.specs.Transactions.{TakesIds}
use Rattle.sled.specs.Values.{DbValue}
use Rattle.machine_alone.specs.Values.{MachineValue}
use Rattle.machine_alone.proofs.Runs.{extended}
use Rattle.machine_shared.specs.Made.{EntryValue}
use Rattle.machine_shared.specs.Sound.{CrashLeaves, IsState}
use Rattle.machine_shared.specs.Transacted.{with_db}
use Rattle.machine_shared.specs.Values.{OpeningValue, StateValue}
use Rattle.machine_shared.proofs.Ids.{later}
use Rattle.machine_shared.proofs.Leading.{GoesTo, rests, still, none_added, legal_of, leads_of}
use Rattle.machine_shared.proofs.Moments.{GoesOn}

-- the state that a method knows by its parts, with the database that it has now
pub same_parts : {P M : Type 0} (s : StateValue P M) (m new : MachineValue P M) (inside : StateValue P M) → inside ≡ s → m ≡ inside.machine → new ≡ record m { db = new.db } → record inside { machine = new } ≡ with_db s new.db
same_parts {P} {M} s m new inside is here same = ap (λ (x : MachineValue P M). record inside { machine = x }) (same ∙ ap (λ (x : MachineValue P M). record x { db = new.db }) here) ∙ ap (λ (x : StateValue P M). with_db x new.db) is

module _ {P M : Type 0} (store : P → Store) (number : P → ℕ) (meant : M → Merge) (a b : MachineValue P M) (opening : OpeningValue) (history : List EntryValue) (total : ℕ) (h : IsState store a opening history total) where
  taken_state : TakesIds store meant a.db b.db → GoesTo h b history total
  taken_state t = (record { legal = legal_of crashes.0; leads = leads_of crashes.0; crashes = crashes.0; covers = λ f. crashes.1 ∙ h.covers f; ids = later 0 a.db.greatest_id b.db.greatest_id _ h.ids t.rises; counted = h.counted }, crashes.2)
    where
      crashes : (c : CrashLeaves store b opening.contents history) × (c.earlier ≡ h.crashes.earlier) × GoesOn h.crashes.moments c.moments
      crashes = rests store number meant a b opening.contents history h.crashes history (sym (append-nil history)) (still store number meant a b opening.contents history h.crashes (ap (λ (x : State). x.is_open) (t.state (λ n. None) 0)) (ap maps_of (t.state (λ n. None) 0)))
          (none_added store number meant a b opening.contents history h.crashes [] refl (extended [] (store a.db.pages) (store b.db.pages) t.leaves.extends h.crashes.left h.crashes.leaves))

  pub ran_state : b ≡ record a { db = b.db } → TakesIds store meant a.db b.db ⊎ (b.db ≡ a.db) → GoesTo h b history total
  ran_state same (inl t) = taken_state t
  ran_state same (inr none) = subst (λ (x : MachineValue P M). GoesTo h x history total) (sym (same ∙ ap (λ (d : DbValue P M). record a { db = d }) none)) (h, λ i m there. there)
