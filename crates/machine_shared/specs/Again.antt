-- A state that is shared again.
use Rattle.std.specs.Prelude.{◌≡◌, ℕ, ◌+◌, ◌≤◌, ◌^◌, All, List}
use Rattle.sled_nodes.specs.declared.error.Error.{Error}
use Rattle.sled_nodes.specs.declared.error.Error.TheVariants.{Unsupported, NoMemory}
use Rattle.sled_nodes.specs.declared.texts.TheConstants.{NUMBERS_USED_UP}
use Rattle.machine_shared.specs.Made.{EntryValue}
use Rattle.machine_shared.specs.Values.{SharedValue, StateValue}

-- no entry is that of a caller of a greater number
abbrev pub NoneAbove : List EntryValue → ℕ → Type 0
NoneAbove history number = All (λ e. e.by ≤ number) history

-- so many callers share it, none of which has a handle yet, and their numbers follow the greatest in the history
pub record SharesAgain {P M : Type 0} (state : StateValue P M) (callers : ℕ) (shared : SharedValue) : Type 0 where
  pub callers_are : shared.callers ≡ callers
  pub none : shared.given ≡ 0
  pub behind : NoneAbove state.history shared.before
  pub next : (number : ℕ) → NoneAbove state.history number → shared.before ≤ number
  pub opening : shared.opening ≡ state.opening

-- there are not so many numbers left, or there is no memory
abbrev pub refuses_again_as : {P M : Type 0} → StateValue P M → ℕ → Error → Type 0
refuses_again_as state callers NoMemory = Unit {0}
refuses_again_as state callers (Unsupported text) = (text.now ≡ NUMBERS_USED_UP.now) × ((number : ℕ) → NoneAbove state.history number → 2 ^ 64 ≤ number + callers)
refuses_again_as state callers e = ⊥

pub record RefusesAgain {P M : Type 0} (state : StateValue P M) (callers : ℕ) (e : Error) : Type 0 where
  pub is : refuses_again_as state callers e
