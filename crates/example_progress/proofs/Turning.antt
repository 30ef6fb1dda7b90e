-- Steps of a machine that began with no call in flight.
use Rattle.std.proofs.Common.{◌≡◌, ◌≢◌, ℕ, suc, ◌%◌, List, [], ◌∷◌, length, get_or, slice_get, Result, Ok, Err, Some, IfOk, IfErr, refl, ap, arith}
use Rattle.std.proofs.lemmas.Option.{slice_get-get_or}
use Rattle.sled_nodes.specs.declared.error.Error.{Error}
use Rattle.sled_store.specs.Store.{Store}
use Rattle.sled_model.specs.Maps.{Merge}
use Rattle.sled_model.specs.declared.call.Call.{Call}
use Rattle.sled_model.specs.declared.outcome.Outcome.{Outcome}
use Rattle.sled_model.specs.declared.outcome.Outcome.TheVariants as outcome
use Rattle.sled_model.specs.declared.outcome.Step.TheVariants as step
use Rattle.sled_model.specs.declared.tree.Tree.{Tree}
use Rattle.machine_alone.specs.Step.{MachineStepContract}
use Rattle.machine_alone.specs.Values.{MachineValue, kept_at}
use Rattle.example_progress.specs.Turns.{TellsInTurn}
use Rattle.machine_laws.specs.Moves.{IsSound, IsReached, BeginsEmpty, Steps, MovesInARow, Begins, Moves}

-- the one whose turn it is
pub in_turn : {X : Type 0} (xs : List X) (i : ℕ) (d : X) → xs ≢ [] → slice_get xs (i % length xs) ≡ Some (get_or xs (i % length xs) d)
in_turn [] i d some = absurd (some refl)
in_turn (x ∷ xs) i d some = slice_get-get_or (x ∷ xs) (i % length (x ∷ xs)) d (omega arith)

module _ {P M : Type 0} (store : P → Store) (number : P → ℕ) (meant : M → Merge) where
  abbrev Reached : MachineValue P M → Type 0
  Reached m = IsReached store number meant m

  -- a machine over a database
  pub started : (m : MachineValue P M) → m.flights ≡ [] → IsSound store m → Reached m
  started m none sound = BeginsEmpty sound (λ slot. ap (λ z. kept_at z slot) none)

  -- a call begins, or does not
  pub begins : (a b : MachineValue P M) (tree : Tree) (call : Call) (result : Result ℕ Error) → Reached a → IfOk result (λ slot. MachineStepContract store number meant a (step.Begin tree call) (outcome.Begun slot) b)
      → IfErr result (λ e. MachineStepContract store number meant a (step.Begin tree call) (outcome.Refused e) b) → IsSound store b → Reached b
  begins a b tree call (Ok slot) r k l sound = Steps r k sound
  begins a b tree call (Err e) r k l sound = Steps r l sound

  -- so many steps in a row that go on
  pub record Turned (first : MachineValue P M) (n : ℕ) (m : MachineValue P M) : Type 0 where
    pub row : MovesInARow store number meant first n m
    pub reached : Reached m

  pub none_turned : (first : MachineValue P M) → Reached first → Turned first 0 first
  none_turned first r = record { row = Begins; reached = r }

  pub one_more : (first a b : MachineValue P M) (slot n : ℕ) → Turned first n a → MachineStepContract store number meant a (step.Step slot) outcome.Moved b → IsSound store b → Turned first (suc n) b
  one_more first a b slot n r k sound = record { row = Moves r.row k sound; reached = Steps r.reached k sound }

  -- .. and one more of the slot whose turn it is, which comes out so
  pub tells : (first a b : MachineValue P M) (slots : List ℕ) (slot n : ℕ) (o : Outcome) → Turned first n a → slice_get slots (n % length slots) ≡ Some slot → MachineStepContract store number meant a (step.Step slot) o b → IsSound store b
      → TellsInTurn store number meant first slots o b × Reached b
  tells first a b slots slot n o r turn k sound = (record { turns = n; before = a; row = r.row; slot = slot; turn = turn; tells = k }, Steps r.reached k sound)
