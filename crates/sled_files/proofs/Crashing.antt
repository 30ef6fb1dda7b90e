-- The last of the states that a crash may leave, and those after an action more.
use Rattle.std.proofs.Common.{◌≡◌, inl, inr, List, [], ◌∷◌, ◌++◌, refl}
use Rattle.std.specs.Prelude.{Bool, true, false, if◌then◌else◌}
use Rattle.sled_store.specs.In.{In}
use Rattle.sled_store.specs.State.{State, Action, after, after_all}
use Rattle.sled_store.specs.Crash.{left_from}

alone : (b : Bool) (s : State) → b ≡ false → In s (if b then [] else (s ∷ []))
alone true s out = absurd (cc)
alone false s out = inl refl

further : (b : Bool) (x s : State) (rest : List State) → In x rest → In x (if b then rest else (s ∷ rest))
further true x s rest i = i
further false x s rest i = inr i

-- the state after all actions is one that a crash may leave, if it is outside every group
pub last_left : (s : State) (actions : List Action) → (after_all actions s).in_group ≡ false → In (after_all actions s) (left_from s actions)
last_left s [] out = alone s.in_group s out
last_left s (a ∷ actions) out = further s.in_group (after_all actions (after a s)) s (left_from (after a s) actions) (last_left (after a s) actions out)

more_alone : (b : Bool) (x s : State) (rest : List State) → In x (if b then [] else (s ∷ [])) → In x (if b then rest else (s ∷ rest))
more_alone true x s rest i = absurd i
more_alone false x s rest (inl is) = inl is
more_alone false x s rest (inr none) = absurd none

more_behind : (b : Bool) (x s : State) (rest more : List State) → (In x rest → In x more) → In x (if b then rest else (s ∷ rest)) → In x (if b then more else (s ∷ more))
more_behind true x s rest more on i = on i
more_behind false x s rest more on (inl is) = inl is
more_behind false x s rest more on (inr i) = inr (on i)

-- a state that a crash may leave is one after an action more
pub left_stays : (x s : State) (actions : List Action) (a : Action) → In x (left_from s actions) → In x (left_from s (actions ++ a ∷ []))
left_stays x s [] a i = more_alone s.in_group x s (left_from (after a s) []) i
left_stays x s (c ∷ actions) a i = more_behind s.in_group x s (left_from (after c s) actions) (left_from (after c s) (actions ++ a ∷ [])) (left_stays x (after c s) actions a) i
