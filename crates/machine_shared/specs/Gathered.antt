-- Callers that are gathered: their numbers, and what they made.
use Rattle.std.specs.Prelude.{◌≡◌, ℕ, ◌<◌, ◌≤◌, ◌+◌, nat_eq, List, count_by}
use Rattle.sled_nodes.specs.declared.error.Error.{Error}
use Rattle.sled_nodes.specs.declared.error.Error.TheVariants.{Unsupported, NoMemory}
use Rattle.sled_nodes.specs.declared.texts.TheConstants.{NUMBERS_USED_UP}
use Rattle.machine_shared.specs.History.{made_by}
use Rattle.machine_shared.specs.Made.{EntryValue}
use Rattle.machine_shared.specs.Values.{CallerValue, SharedValue}

-- so many numbers were given, from 1 on
abbrev pub IsGiven : ℕ → ℕ → Type 0
IsGiven given n = (0 < n) × (n ≤ given)

-- how many of these callers have the number
abbrev pub times : List CallerValue → ℕ → ℕ
times callers n = count_by (λ c. nat_eq n c.number) callers

-- each number that was given is that of one of these callers
abbrev pub EachOnce : ℕ → List CallerValue → Type 0
EachOnce given callers = (n : ℕ) → IsGiven given n → times callers n ≡ 1

-- .. and so each number above the greatest in the history that was shared
abbrev pub EachOnceBehind : ℕ → ℕ → List CallerValue → Type 0
EachOnceBehind before given callers = (n : ℕ) → IsGiven given n → times callers (before + n) ≡ 1

-- the caller's list is that of the entries with its number, in order
abbrev pub IsMadeIn : List EntryValue → CallerValue → Type 0
IsMadeIn history c = c.made ≡ made_by c.number history

-- the entry is that of a caller whose number was given
abbrev pub IsOfGiven : ℕ → EntryValue → Type 0
IsOfGiven given e = IsGiven given e.by

-- no more handle is made if all callers have one, and else for want of memory alone
abbrev pub refuses_handle_as : SharedValue → Error → Type 0
refuses_handle_as d NoMemory = d.given < d.callers
refuses_handle_as d (Unsupported text) = (text.now ≡ NUMBERS_USED_UP.now) × (d.given ≡ d.callers)
refuses_handle_as d e = ⊥

pub record RefusesHandle (d : SharedValue) (e : Error) : Type 0 where
  pub is : refuses_handle_as d e
