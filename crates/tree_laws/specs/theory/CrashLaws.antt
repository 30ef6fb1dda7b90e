-- The laws of what a crash may leave, as types.
use Rattle.std.specs.Prelude.{◌≡◌, ℕ, nat_eq, true, false, List, [], ◌∷◌, ◌++◌, if◌then◌else◌}
use Rattle.sled_store.specs.State.{Action}
use Rattle.sled_store.specs.Store.{Store, now}
use Rattle.tree_laws.specs.Contents.{trees_of}
use Rattle.tree_laws.specs.Crashes.{IsValid, IsCrashConsistent, Trees, StutterEquivalent, AddsCrashStates, Flushes}
use Rattle.tree_laws.specs.theory.Crashes.{AddsAction}

-- growths follow one another, and their trees are one behind the other
abbrev pub ExtendsLaw : Type 0
ExtendsLaw = (k l : List Trees) (a b c : Store) → AddsCrashStates k a b → AddsCrashStates l b c → AddsCrashStates (k ++ l) a c

-- if no action was added, nothing grew: faults, the mark and what can be read do not matter
abbrev pub RestsLaw : Type 0
RestsLaw = (a b : Store) → b.base ≡ a.base → b.recent ≡ a.recent → b.actions ≡ a.actions → AddsCrashStates [] a b

-- an action outside every group that leaves a well-formed state adds the trees of that state
abbrev pub DecidesLaw : Type 0
DecidesLaw = (act : Action) (a b : Store) → AddsAction act a b → (now b).in_group ≡ false → IsValid (now b) → AddsCrashStates (trees_of (now b) ∷ []) a b

-- .. and adds no trees if they are as they were
abbrev pub UnseenLaw : Type 0
UnseenLaw = (act : Action) (a b : Store) → AddsAction act a b → (now a).in_group ≡ false → (now b).in_group ≡ false → IsValid (now b) → trees_of (now b) ≡ trees_of (now a) → AddsCrashStates [] a b

-- an action inside a group adds nothing that a crash may leave
abbrev pub InsideGroupLaw : Type 0
InsideGroupLaw = (act : Action) (a b : Store) → AddsAction act a b → (now b).in_group ≡ true → AddsCrashStates [] a b

-- a call that is decided without a change adds the trees as they are
abbrev pub AgainLaw : Type 0
AgainLaw = (maps : List Trees) (a b : Store) → AddsCrashStates maps a b → (now b).in_group ≡ false → AddsCrashStates (maps ++ trees_of (now b) ∷ []) a b

-- the shape and the size are kept in each state that a crash may leave
abbrev pub ValidLaw : Type 0
ValidLaw = (act : Action) (a b : Store) → AddsAction act a b → IsCrashConsistent a → ((now b).in_group ≡ false → IsValid (now b)) → IsCrashConsistent b

-- and after a flush of a state that has them
abbrev pub FlushesValidLaw : Type 0
FlushesValidLaw = (a b : Store) → Flushes a b → (now a).in_group ≡ false → IsValid (now a) → IsCrashConsistent b

-- a number comes before a list, unless the list begins with it
abbrev pub ahead : ℕ → List ℕ → List ℕ
ahead x [] = x ∷ []
ahead x (y ∷ ys) = if nat_eq x y then (y ∷ ys) else (x ∷ y ∷ ys)

-- the numbers, each run of equal neighbours taken once
abbrev pub once_each : List ℕ → List ℕ
once_each [] = []
once_each (x ∷ xs) = ahead x (once_each xs)

-- what it is that lists match, said of numbers, which can be compared
abbrev pub MatchesLaw : Type 0
MatchesLaw = (xs ys : List ℕ) → (StutterEquivalent xs ys → once_each xs ≡ once_each ys) × (once_each xs ≡ once_each ys → StutterEquivalent xs ys)
