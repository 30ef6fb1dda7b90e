-- What a crash may leave after some call, by what it might leave before and the maps that the call added.
use Rattle.std.proofs.Common.{◌≡◌, ◌⊎◌, List, [], ◌∷◌, map, sym, refl, ◌∙◌, inl, inr}
use Rattle.sled_store.specs.In.{In}
use Rattle.sled_store.specs.State.{State}
use Rattle.sled_store.specs.Store.{Store}
use Rattle.sled_store.specs.Crash.{crash_states, IsCrashState}
use Rattle.sled_store.proofs.Lists.{map_in}
use Rattle.sled_model.specs.Maps.{Maps}
use Rattle.tree_laws.specs.Contents.{trees_of}
use Rattle.tree_laws.specs.Crashes.{Stutters, StutterEquivalent, AddsCrashStates}
use Rattle.tree_laws.proofs.Runs.{In_cases}

-- an element of a list is one of the list once repetitions are taken out
once_has : {X : Type 0} (once xs : List X) (y : X) → Stutters once xs → In y xs → In y once
once_has [] [] y r i = i
once_has [] (x ∷ xs) y r i = absurd r
once_has (a ∷ once) [] y r i = absurd r
once_has (a ∷ once) (x ∷ xs) y (e, inl r) (inl q) = inl (q ∙ sym e)
once_has (a ∷ once) (x ∷ xs) y (e, inl r) (inr i) = inr (once_has once xs y r i)
once_has (a ∷ once) (x ∷ xs) y (e, inr r) (inl q) = inl (q ∙ sym e)
once_has (a ∷ once) (x ∷ xs) y (e, inr r) (inr i) = once_has (a ∷ once) xs y r i

has_once : {X : Type 0} (once xs : List X) (y : X) → Stutters once xs → In y once → In y xs
has_once [] [] y r i = i
has_once [] (x ∷ xs) y r i = absurd r
has_once (a ∷ once) [] y r i = absurd r
has_once (a ∷ once) (x ∷ xs) y (e, inl r) (inl q) = inl (q ∙ e)
has_once (a ∷ once) (x ∷ xs) y (e, inl r) (inr i) = inr (has_once once xs y r i)
has_once (a ∷ once) (x ∷ xs) y (e, inr r) (inl q) = inl (q ∙ e)
has_once (a ∷ once) (x ∷ xs) y (e, inr r) (inr i) = inr (has_once (a ∷ once) xs y r (inr i))

-- lists that are the same once repetitions are taken out have the same elements
pub matches_has : {X : Type 0} (xs ys : List X) (y : X) → StutterEquivalent xs ys → In y xs → In y ys
matches_has xs ys y m i = has_once m.once ys y m.right (once_has m.once xs y m.left i)

in_mapped : {X Y : Type 0} (f : X → Y) (xs : List X) (y : Y) → In y (map f xs) → (x : X) × In x xs × (y ≡ f x)
in_mapped f [] y i = absurd i
in_mapped f (z ∷ xs) y (inl e) = (z, inl refl, e)
in_mapped f (z ∷ xs) y (inr i) = let found = in_mapped f xs y i in (found.0, inr found.1, found.2)

-- the state has maps that a crash might leave before, or some of those that were added
pub left_by : (maps : List Maps) (a b : Store) (state : State) → AddsCrashStates maps a b → IsCrashState b state → ((earlier : State) × IsCrashState a earlier × (trees_of state ≡ trees_of earlier)) ⊎ In (trees_of state) maps
left_by maps a b state adds left =
    elim (In_cases (map trees_of (crash_states a)) maps (trees_of state) (matches_has _ _ (trees_of state) adds.grew (map_in trees_of (crash_states b) state left.is))) [
      | inl i ↦ let found = in_mapped trees_of (crash_states a) (trees_of state) i in inl (found.0, record { is = found.1 }, found.2)
      | inr i ↦ inr i
    ]
