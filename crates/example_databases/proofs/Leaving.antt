-- What a crash leaves that keeps all actions.
use Rattle.std.proofs.Common.{◌≡◌, ℕ, zero, suc, ◌<◌, ◌≤◌, length, take, Bool, true, false, cond, List, [], ◌∷◌, append-nil, map, sym, refl, ap, ◌∙◌, inl, inr, arith}
use Rattle.std.proofs.Math.Seq.{take-length}
use Rattle.sled_store.specs.State.{State, Action, after, after_all}
use Rattle.sled_store.specs.Store.{Store, now}
use Rattle.sled_store.specs.Crash.{left_from, crash_states, Crashes}
use Rattle.tree_laws.specs.Contents.{trees_of}
use Rattle.tree_laws.specs.Crashes.{Stutters, StutterEquivalent, AddsCrashStates}

-- the last of a list, or this one
abbrev last_or : {X : Type 0} → X → List X → X
last_or d [] = d
last_or d (x ∷ xs) = last_or x xs

-- a list ends as it does once repetitions are taken out
once_ends : {X : Type 0} (d : X) (once xs : List X) → Stutters once xs → last_or d once ≡ last_or d xs
once_ends d [] [] r = refl
once_ends d [] (x ∷ xs) r = absurd r
once_ends d (a ∷ once) [] r = absurd r
once_ends d (a ∷ once) (x ∷ xs) (e, inl r) = ap (λ y. last_or y once) e ∙ once_ends x once xs r
once_ends d (a ∷ once) (x ∷ xs) (e, inr r) = once_ends x (a ∷ once) xs r

match_ends : {X : Type 0} (d : X) (xs ys : List X) → StutterEquivalent xs ys → last_or d xs ≡ last_or d ys
match_ends d xs ys m = sym (once_ends d m.once xs m.left) ∙ once_ends d m.once ys m.right

mapped_ends : {X Y : Type 0} (f : X → Y) (d : X) (xs : List X) → last_or (f d) (map f xs) ≡ f (last_or d xs)
mapped_ends f d [] = refl
mapped_ends f d (x ∷ xs) = mapped_ends f x xs

-- no state is left of actions that are all within a group
none_left : (s : State) (actions : List Action) → ((j : ℕ) → j ≤ length actions → (after_all (take j actions) s).in_group ≡ true) → left_from s actions ≡ []
none_left s [] inside = ap (λ b. cond b [] (s ∷ [])) (inside 0 (omega arith))
none_left s (a ∷ rest) inside = ap (λ b. cond b (left_from (after a s) rest) (s ∷ left_from (after a s) rest)) (inside 0 (omega arith)) ∙ none_left (after a s) rest (λ j l. inside (suc j) (omega (arith, l)))

-- the longest beginning of the actions that ends outside every group leads to the last state that a crash may leave
longest : (d s : State) (actions : List Action) (kept : ℕ) → kept ≤ length actions → (after_all (take kept actions) s).in_group ≡ false
    → ((j : ℕ) → kept < j → j ≤ length actions → (after_all (take j actions) s).in_group ≡ true) → last_or d (left_from s actions) ≡ after_all (take kept actions) s
longest d s [] zero within sealed most = ap (λ b. last_or d (cond b [] (s ∷ []))) sealed
longest d s [] (suc kept) within sealed most = absurd (omega (arith, within))
longest d s (a ∷ rest) zero within sealed most =
    ap (λ b. last_or d (cond b (left_from (after a s) rest) (s ∷ left_from (after a s) rest))) sealed
    ∙ ap (last_or s) (none_left (after a s) rest (λ j l. most (suc j) (omega arith) (omega (arith, l))))
longest d s (a ∷ rest) (suc kept) within sealed most = go (λ e. longest e (after a s) rest kept (omega (arith, within)) sealed (λ j l m. most (suc j) (omega (arith, l)) (omega (arith, m)))) s.in_group
  where
    go : ((e : State) → last_or e (left_from (after a s) rest) ≡ after_all (take kept rest) (after a s)) → (b : Bool) → last_or d (cond b (left_from (after a s) rest) (s ∷ left_from (after a s) rest)) ≡ after_all (take kept rest) (after a s)
    go more true = more d
    go more false = more s

-- where nothing was added, what a crash leaves that keeps all actions has the maps of before
pub kept_all : (keep : ℕ) (a b left : Store) → AddsCrashStates [] a b → (now a).in_group ≡ false → Crashes keep b left → length b.recent ≤ keep → trees_of (now left) ≡ trees_of (now a)
kept_all keep a b left adds calm c all =
    ap trees_of left_is ∙ sym (mapped_ends trees_of b.base (crash_states b)) ∙ ap (λ d. last_or d (map trees_of (crash_states b))) (ap trees_of adds.base)
    ∙ match_ends (trees_of a.base) _ _ adds.grew ∙ ap (last_or (trees_of a.base)) (append-nil (map trees_of (crash_states a))) ∙ mapped_ends trees_of a.base (crash_states a)
    ∙ ap trees_of (longest a.base a.base a.recent (length a.recent) (omega arith) (whole calm) (λ j l m. absurd (omega (arith, l, m))) ∙ ap (λ l. after_all l a.base) (take-length a.recent))
  where
    left_is : now left ≡ last_or b.base (crash_states b)
    left_is = ap now c.is ∙ sym (longest b.base b.base b.recent c.kept c.within c.sealed (λ j l m. c.most j l (omega (arith, m, all)) m))

    whole : (now a).in_group ≡ false → (after_all (take (length a.recent) a.recent) a.base).in_group ≡ false
    whole e = ap (λ l. (after_all l a.base).in_group) (take-length a.recent) ∙ e
