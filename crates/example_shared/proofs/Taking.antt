-- A job that is taken had been put in, since it was taken before.
use Rattle.std.proofs.Common.{◌≡◌, ◌⊎◌, ◌∙◌, Bool, true, false, cond, ◌&&◌, is_some, List, [], ◌∷◌, ◌++◌, Option, Some, None, is_eq, sym, refl, ap, subst, inl, inr}
use Rattle.std.specs.FinMap.Entries.{find}
use Rattle.std.specs.List.{AllByRecursion}
use Rattle.std.specs.Str.{bytes_eq}
use Rattle.std.proofs.lemmas.Cmp.{tied_itself}
use Rattle.sled_nodes.proofs.Basics.{none_some, some_is, false_true, key_total}
use Rattle.sled_nodes.specs.Order.{Key, key_cmp}
use Rattle.sled_store.specs.theory.Facts.{name_itself, put_name_here}
use Rattle.sled_model.specs.Answer.{map_after}
use Rattle.sled_model.specs.Maps.{Map, Maps, IsLeast}
use Rattle.sled_model.specs.declared.call.Call.TheVariants.{Insert}
use Rattle.sled_model.specs.declared.decision.Decision.{Decision}
use Rattle.sled_model.specs.declared.decision.Effect.TheVariants as effect
use Rattle.sled_model.specs.declared.reply.Reply.{Reply}
use Rattle.sled_model.specs.declared.reply.Reply.TheVariants.{Pair}
use Rattle.sled_model.specs.declared.tree.Tree.{Tree}
use Rattle.sled_model.proofs.Shapes.{same_value}
use Rattle.machine_shared.specs.History.{MakesPoint, makes_as, IsLegal}
use Rattle.machine_shared.specs.Made.{MadeValue, PointMade, WholeMade, EntryValue}
use Rattle.machine_shared.specs.WholeMade.{MakesPop, map_popped}
use Rattle.machine_shared.specs.Wholes.{PopMin}
use Rattle.example_shared.specs.Places.{found_in, value_at, is_at, made_in, Leaves}
use Rattle.example_shared.specs.Queueing.{IsInsert, IsTake, IsPushOrTake, Has, TakesOnce}
use Rattle.example_shared.proofs.Keys.{after_effect, without_here, left_after, values_same, at_same}
use Rattle.example_shared.proofs.Standing.{put_left, point_here, point_elsewhere, Makes, legal_makes, cut, all_first, all_last}

-- ---- an insert

pub insert_here : (a c : Maps) (t : Tree) (k v : Key) (reply : Reply) → MakesPoint a t (Insert k v) reply c → value_at c t.name k ≡ Some v
insert_here a c t k v reply p =
    point_here a t (Insert k v) reply c p
    ∙ ap (λ (d : Decision). after_effect d.effect (find key_cmp k p.map)) p.comes
    ∙ go (same_value (find key_cmp k p.map) (Some v)) refl
  where
    go : (b : Bool) → same_value (find key_cmp k p.map) (Some v) ≡ b → after_effect (cond b effect.Nothing (effect.Set v)) (find key_cmp k p.map) ≡ Some v
    go true e = values_same (find key_cmp k p.map) (Some v) e
    go false e = refl

-- two names are one or not
pub apart : (a b : Key) → bytes_eq a b ≡ false → a ≡ b → ⊥
apart a b off e = false_true (sym off ∙ ap (λ x. bytes_eq x b) e ∙ name_itself b)

pub not_at : (tree key : Key) (t : Tree) (k : Key) → is_at tree key t k ≡ false → ((t.name ≡ tree) → ⊥) ⊎ ((k ≡ key) → ⊥)
not_at tree key t k e = go (bytes_eq t.name tree) (bytes_eq k key) refl refl e
  where
    go : (x y : Bool) → bytes_eq t.name tree ≡ x → bytes_eq k key ≡ y → x && y ≡ false → ((t.name ≡ tree) → ⊥) ⊎ ((k ≡ key) → ⊥)
    go true true p q h = false_true (sym h)
    go true false p q h = inr (apart k key q)
    go false y p q h = inl (apart t.name tree p)

-- ---- a pop

pair_is : {a b : Option (Key × Key)} → Pair a ≡ Pair b → a ≡ b
pair_is e = cc

-- what a pop leaves was there
popped_left : (found : Option (Key × Key)) (map : Map) (q w : Key) → find key_cmp q (map_popped found map) ≡ Some w → find key_cmp q map ≡ Some w
popped_left None map q w e = e
popped_left (Some pair) map q w e = left_after (is_some (find key_cmp pair.0 map)) pair.0 q map w e

pop_left : (a c : Maps) (t : Tree) (reply : Reply) → MakesPop IsLeast a t reply c → (tree key w : Key) → value_at c tree key ≡ Some w → value_at a tree key ≡ Some w
pop_left a c t reply p tree key w e =
    put_left a t.name tree key p.map (map_popped p.found p.map) w p.there (popped_left p.found p.map key w) (ap (λ (m : Maps). value_at m tree key) (sym p.is) ∙ e)

-- the first pair of a map is found in it, and not in what is left without it
pub first_found : (key value : Key) (map : Map) → IsLeast map (Some (key, value)) → find key_cmp key map ≡ Some value
first_found key value map ends =
    ap (find key_cmp key) ends.1 ∙ ap (λ o. cond (is_eq o) (Some value) (find key_cmp key ends.0)) (tied_itself key_total key)

first_gone : (key value : Key) (map : Map) → find key_cmp key map ≡ Some value → find key_cmp key (map_popped (Some (key, value)) map) ≡ None
first_gone key value map there =
    ap (λ o. find key_cmp key (map_after (cond (is_some o) effect.Remove effect.Nothing) key map)) there ∙ without_here key map

module _ (a c : Maps) (t : Tree) (key value : Key) (reply : Reply) (p : MakesPop IsLeast a t reply c) (told : reply ≡ Pair (Some (key, value))) where
  found_is : p.found ≡ Some (key, value)
  found_is = pair_is (sym p.replies ∙ told)

  found_there : find key_cmp key p.map ≡ Some value
  found_there = first_found key value p.map (subst (IsLeast p.map) found_is p.ends)

  pop_stood : value_at a t.name key ≡ Some value
  pop_stood = ap (λ o. found_in o key) p.there ∙ found_there

  pop_gone : value_at c t.name key ≡ None
  pop_gone =
      ap (λ (m : Maps). value_at m t.name key) p.is
      ∙ ap (λ o. found_in o key) (put_name_here a t.name (Some (map_popped p.found p.map)))
      ∙ ap (λ f. find key_cmp key (map_popped f p.map)) found_is
      ∙ first_gone key value p.map found_there

-- ---- a history

module _ (tree key : Key) where
  taken_stood : (value : Key) (m : MadeValue) (a c : Maps) → makes_as a m c → IsTake tree key value m → value_at a tree key ≡ Some value
  taken_stood value (WholeMade (PopMin t) reply) a c p is = subst (λ n. value_at a n key ≡ Some value) is.0 (pop_stood a c t key value reply p is.1)
  taken_stood value m a c p is = absurd is

  taken_gone : (value : Key) (m : MadeValue) (a c : Maps) → makes_as a m c → IsTake tree key value m → value_at c tree key ≡ None
  taken_gone value (WholeMade (PopMin t) reply) a c p is = subst (λ n. value_at c n key ≡ None) is.0 (pop_gone a c t key value reply p is.1)
  taken_gone value m a c p is = absurd is

  -- what stands after an insert was inserted, or stood before
  inserted : (w : Key) (t : Tree) (k v : Key) (reply : Reply) (a c : Maps) → MakesPoint a t (Insert k v) reply c → value_at c tree key ≡ Some w → (b : Bool) → is_at tree key t k ≡ b
      → (value_at a tree key ≡ Some w) ⊎ ((t.name ≡ tree) × (k ≡ key) × (v ≡ w))
  inserted w t k v reply a c p e true at =
      let same = at_same tree key t k at in
      let here : value_at c tree key ≡ Some v = subst (λ n. value_at c n key ≡ Some v) same.0 (subst (λ q. value_at c t.name q ≡ Some v) same.1 (insert_here a c t k v reply p)) in
      inr (same.0, same.1, some_is (sym here ∙ e))
  inserted w t k v reply a c p e false at = inl (sym (point_elsewhere a t (Insert k v) reply c p tree key (not_at tree key t k at)) ∙ e)

  only_left : (w : Key) (m : MadeValue) (a c : Maps) → makes_as a m c → ⊥ ⊎ ((k : Key) → Leaves tree k m) → value_at c tree key ≡ Some w → (value_at a tree key ≡ Some w) ⊎ IsInsert tree key w m
  only_left w m a c p (inl none) e = absurd none
  only_left w m a c p (inr leaves) e = inl (sym (leaves key a c p) ∙ e)

  -- the same of each call
  origin_of : (w : Key) (m : MadeValue) (a c : Maps) → makes_as a m c → IsPushOrTake m ⊎ ((k : Key) → Leaves tree k m) → value_at c tree key ≡ Some w → (value_at a tree key ≡ Some w) ⊎ IsInsert tree key w m
  origin_of w (PointMade t (Insert k v) reply) a c p h e = inserted w t k v reply a c p e (is_at tree key t k) refl
  origin_of w (WholeMade (PopMin t) reply) a c p h e = inl (pop_left a c t reply p tree key w e)
  origin_of w m a c p h e = only_left w m a c p h e

  behind : (w : Key) (m : MadeValue) (made : List MadeValue) (a : Maps) → (value_at a tree key ≡ Some w) ⊎ IsInsert tree key w m → (value_at a tree key ≡ Some w) ⊎ Has (IsInsert tree key w) (m ∷ made)
  behind w m made a (inl stood) = inl stood
  behind w m made a (inr put) = inr (inl put)

  -- .. and of all calls, one after the other
  origin : (w : Key) (made : List MadeValue) (a b : Maps) → Makes a made b → AllByRecursion (λ m. IsPushOrTake m ⊎ ((k : Key) → Leaves tree k m)) made → value_at b tree key ≡ Some w
      → (value_at a tree key ≡ Some w) ⊎ Has (IsInsert tree key w) made
  origin w [] a b h all e = inl (sym (ap (λ (m : Maps). value_at m tree key) h) ∙ e)
  origin w (m ∷ made) a b h all e = elim (origin w made h.0 b h.2 all.1 e) [
    | inl stood ↦ behind w m made a (origin_of w m a h.0 h.1 all.0 stood)
    | inr put ↦ inr (inr put)
  ]

  put_before : (value : Key) (take : MadeValue) (before after : List MadeValue) (a b : Maps) → Makes a (before ++ take ∷ after) b
      → AllByRecursion (λ m. IsPushOrTake m ⊎ ((k : Key) → Leaves tree k m)) (before ++ take ∷ after) → IsTake tree key value take → (value_at a tree key ≡ Some value) ⊎ Has (IsInsert tree key value) before
  put_before value take before after a b h all is =
      let r = cut before (take ∷ after) a b h in
      origin value before a r.0 r.1 (all_first (λ m. IsPushOrTake m ⊎ ((k : Key) → Leaves tree k m)) before (take ∷ after) all) (taken_stood value take r.0 r.2.0 r.2.1 is)

  -- what is there no more was put there
  put_anew : (w : Key) (made : List MadeValue) (a : Maps) → value_at a tree key ≡ None → (value_at a tree key ≡ Some w) ⊎ Has (IsInsert tree key w) made → Has (IsInsert tree key w) made
  put_anew w made a gone (inl stood) = none_some (sym gone ∙ stood)
  put_anew w made a gone (inr put) = put

  put_between : (first second : Key) (take other : MadeValue) (before between after : List MadeValue) (a b : Maps) → Makes a (before ++ take ∷ between ++ other ∷ after) b
      → AllByRecursion (λ m. IsPushOrTake m ⊎ ((k : Key) → Leaves tree k m)) (before ++ take ∷ between ++ other ∷ after) → IsTake tree key first take → IsTake tree key second other → Has (IsInsert tree key second) between
  put_between first second take other before between after a b h all is was =
      let r = cut (before ++ take ∷ between) (other ∷ after) a b h in
      let q = cut before (take ∷ between) a r.0 r.1 in
      let each = all_last (λ m. IsPushOrTake m ⊎ ((k : Key) → Leaves tree k m)) before (take ∷ between) (all_first (λ m. IsPushOrTake m ⊎ ((k : Key) → Leaves tree k m)) (before ++ take ∷ between) (other ∷ after) all) in
      put_anew second between q.2.0 (taken_gone first take q.0 q.2.0 q.2.1 is) (origin second between q.2.0 r.0 q.2.2 each.1 (taken_stood second other r.0 r.2.0 r.2.1 was))

pub takes_once : (old new : Maps) (tree : Key) (history : List EntryValue) → IsLegal old history new → AllByRecursion (λ m. IsPushOrTake m ⊎ ((key : Key) → Leaves tree key m)) (made_in history) → TakesOnce old tree (made_in history)
takes_once old new tree history legal all = record {
  put = λ before after key value take split is.
      put_before tree key value take before after old new (subst (λ l. Makes old l new) split (legal_makes legal)) (subst (AllByRecursion (λ m. IsPushOrTake m ⊎ ((k : Key) → Leaves tree k m))) split all) is;
  again = λ before between after key first second take other split is was.
      put_between tree key first second take other before between after old new (subst (λ l. Makes old l new) split (legal_makes legal)) (subst (AllByRecursion (λ m. IsPushOrTake m ⊎ ((k : Key) → Leaves tree k m))) split all) is was;
}
