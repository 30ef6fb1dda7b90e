-- A job that was put in and not taken is still there.
use Rattle.std.proofs.Common.{◌≡◌, ◌⊎◌, ◌∙◌, Bool, true, false, cond, is_some, List, [], ◌∷◌, ◌++◌, Option, Some, None, sym, refl, ap, subst, inl, inr}
use Rattle.std.specs.FinMap.Entries.{find}
use Rattle.std.specs.List.{AllByRecursion}
use Rattle.std.specs.Str.{bytes_eq}
use Rattle.sled_nodes.proofs.Basics.{some_is}
use Rattle.sled_nodes.specs.Order.{Key, key_cmp}
use Rattle.sled_store.specs.theory.Facts.{same_name}
use Rattle.sled_model.specs.Maps.{Maps, IsLeast}
use Rattle.sled_model.specs.declared.call.Call.TheVariants.{Insert}
use Rattle.sled_model.specs.declared.decision.Effect.TheVariants as effect
use Rattle.sled_model.specs.declared.reply.Reply.{Reply}
use Rattle.sled_model.specs.declared.reply.Reply.TheVariants.{Pair}
use Rattle.sled_model.specs.declared.tree.Tree.{Tree}
use Rattle.machine_shared.specs.History.{MakesPoint, makes_as}
use Rattle.machine_shared.specs.Made.{MadeValue, PointMade, WholeMade}
use Rattle.machine_shared.specs.WholeMade.{MakesPop, map_popped}
use Rattle.machine_shared.specs.Wholes.{PopMin}
use Rattle.example_shared.specs.Places.{found_in, value_at, is_at, made_in, Leaves}
use Rattle.example_shared.specs.Queueing.{IsInsert, IsInsertAt, IsTake, IsPushOrTake, Has, QueueLaw}
use Rattle.example_shared.proofs.Keys.{effect_there, at_same}
use Rattle.example_shared.proofs.Standing.{put_keeps, put_other, point_elsewhere, Makes, legal_makes, cut, all_last}
use Rattle.example_shared.proofs.Taking.{apart, not_at, insert_here, first_found, takes_once}

-- ---- a pop

module _ (tree key w : Key) (a c : Maps) (t : Tree) (reply : Reply) (p : MakesPop IsLeast a t reply c) (e : value_at a tree key ≡ Some w) where
  stays : find key_cmp key (map_popped p.found p.map) ≡ find key_cmp key p.map → value_at c tree key ≡ Some w
  stays same = ap (λ (m : Maps). value_at m tree key) p.is ∙ put_keeps a t.name tree key p.map (map_popped p.found p.map) p.there same ∙ e

  stays_elsewhere : ((t.name ≡ tree) → ⊥) → value_at c tree key ≡ Some w
  stays_elsewhere off = ap (λ (m : Maps). value_at m tree key) p.is ∙ put_other a t.name tree key (Some (map_popped p.found p.map)) (λ h. off (sym h)) ∙ e

  -- the pair that is popped at the key has what stood there
  stood_there : (k : Key) → t.name ≡ tree → k ≡ key → find key_cmp k p.map ≡ Some w
  stood_there k name here =
      sym (ap (λ o. found_in o k) p.there)
      ∙ subst (λ q. value_at a t.name q ≡ Some w) (sym here) (subst (λ n. value_at a n key ≡ Some w) (sym name) e)

  taken_here : (k v : Key) → p.found ≡ Some (k, v) → t.name ≡ tree → k ≡ key → IsTake tree key w (WholeMade (PopMin t) reply)
  taken_here k v f name here =
      let there : find key_cmp k p.map ≡ Some v = first_found k v p.map (subst (IsLeast p.map) f p.ends) in
      let same : v ≡ w = some_is (sym there ∙ stood_there k name here) in
      (name, p.replies ∙ ap Pair f ∙ ap (λ x. Pair (Some (x, v))) here ∙ ap (λ x. Pair (Some (key, x))) same)

  by_key : (k v : Key) → p.found ≡ Some (k, v) → t.name ≡ tree → (b : Bool) → bytes_eq k key ≡ b → (value_at c tree key ≡ Some w) ⊎ IsTake tree key w (WholeMade (PopMin t) reply)
  by_key k v f name true q = inr (taken_here k v f name (same_name k key q))
  by_key k v f name false q =
      inl (stays (ap (λ o. find key_cmp key (map_popped o p.map)) f ∙ effect_there (cond (is_some (find key_cmp k p.map)) effect.Remove effect.Nothing) key k p.map (λ h. apart k key q (sym h))))

  by_found : (o : Option (Key × Key)) → p.found ≡ o → t.name ≡ tree → (value_at c tree key ≡ Some w) ⊎ IsTake tree key w (WholeMade (PopMin t) reply)
  by_found None f name = inl (stays (ap (λ o. find key_cmp key (map_popped o p.map)) f))
  by_found (Some pair) f name = by_key pair.0 pair.1 f name (bytes_eq pair.0 key) refl

  popped : (b : Bool) → bytes_eq t.name tree ≡ b → (value_at c tree key ≡ Some w) ⊎ IsTake tree key w (WholeMade (PopMin t) reply)
  popped true q = by_found p.found refl (same_name t.name tree q)
  popped false q = inl (stays_elsewhere (apart t.name tree q))

-- ---- a history

module _ (tree key : Key) where
  taken_or_not : (w : Key) (m : MadeValue) (there : Type 0) → there ⊎ IsTake tree key w m → there ⊎ (IsTake tree key w m ⊎ IsInsertAt tree key m)
  taken_or_not w m there (inl x) = inl x
  taken_or_not w m there (inr x) = inr (inl x)

  inserted_or_not : (w : Key) (t : Tree) (k v : Key) (reply : Reply) (a c : Maps) → MakesPoint a t (Insert k v) reply c → value_at a tree key ≡ Some w → (b : Bool) → is_at tree key t k ≡ b
      → (value_at c tree key ≡ Some w) ⊎ (IsTake tree key w (PointMade t (Insert k v) reply) ⊎ IsInsertAt tree key (PointMade t (Insert k v) reply))
  inserted_or_not w t k v reply a c p e true at = let same = at_same tree key t k at in inr (inr (v, (same.0, same.1, refl)))
  inserted_or_not w t k v reply a c p e false at = inl (point_elsewhere a t (Insert k v) reply c p tree key (not_at tree key t k at) ∙ e)

  only_left : (w : Key) (m : MadeValue) (a c : Maps) → makes_as a m c → ⊥ ⊎ ((k : Key) → Leaves tree k m) → value_at a tree key ≡ Some w → (value_at c tree key ≡ Some w) ⊎ (IsTake tree key w m ⊎ IsInsertAt tree key m)
  only_left w m a c p (inl none) e = absurd none
  only_left w m a c p (inr leaves) e = inl (leaves key a c p ∙ e)

  -- what stands before a call stands after it, or the call takes it or inserts there
  after_one : (w : Key) (m : MadeValue) (a c : Maps) → makes_as a m c → IsPushOrTake m ⊎ ((k : Key) → Leaves tree k m) → value_at a tree key ≡ Some w → (value_at c tree key ≡ Some w) ⊎ (IsTake tree key w m ⊎ IsInsertAt tree key m)
  after_one w (PointMade t (Insert k v) reply) a c p h e = inserted_or_not w t k v reply a c p e (is_at tree key t k) refl
  after_one w (WholeMade (PopMin t) reply) a c p h e = taken_or_not w (WholeMade (PopMin t) reply) (value_at c tree key ≡ Some w) (popped tree key w a c t reply p e (bytes_eq t.name tree) refl)
  after_one w m a c p h e = only_left w m a c p h e

  -- .. and so of all calls, one after the other
  after_all : (w : Key) (made : List MadeValue) (a b : Maps) → Makes a made b → AllByRecursion (λ m. IsPushOrTake m ⊎ ((k : Key) → Leaves tree k m)) made → value_at a tree key ≡ Some w
      → (value_at b tree key ≡ Some w) ⊎ Has (λ m. IsTake tree key w m ⊎ IsInsertAt tree key m) made
  after_all w [] a b h all e = inl (ap (λ (m : Maps). value_at m tree key) h ∙ e)
  after_all w (m ∷ made) a b h all e = elim (after_one w m a h.0 h.1 all.0 e) [
    | inl there ↦ elim (after_all w made h.0 b h.2 all.1 there) [
      | inl last ↦ inl last
      | inr some ↦ inr (inr some)
    ]
    | inr ends ↦ inr (inl ends)
  ]

  inserted_there : (value : Key) (m : MadeValue) (a c : Maps) → makes_as a m c → IsInsert tree key value m → value_at c tree key ≡ Some value
  inserted_there value (PointMade t (Insert k v) reply) a c p is =
      subst (λ x. value_at c tree key ≡ Some x) is.2 (subst (λ n. value_at c n key ≡ Some v) is.0 (subst (λ q. value_at c t.name q ≡ Some v) is.1 (insert_here a c t k v reply p)))
  inserted_there value m a c p is = absurd is

  after_insert : (value : Key) (insert : MadeValue) (before after : List MadeValue) (a b : Maps) → Makes a (before ++ insert ∷ after) b
      → AllByRecursion (λ m. IsPushOrTake m ⊎ ((k : Key) → Leaves tree k m)) (before ++ insert ∷ after) → IsInsert tree key value insert
      → (value_at b tree key ≡ Some value) ⊎ Has (λ m. IsTake tree key value m ⊎ IsInsertAt tree key m) after
  after_insert value insert before after a b h all is =
      let r = cut before (insert ∷ after) a b h in
      let each = all_last (λ m. IsPushOrTake m ⊎ ((k : Key) → Leaves tree k m)) before (insert ∷ after) all in
      after_all value after r.2.0 b r.2.2 each.1 (inserted_there value insert r.0 r.2.0 r.2.1 is)

pub queue_law : QueueLaw
queue_law old new tree history legal all = (
  takes_once old new tree history legal all,
  record {
    stood = λ key value there. after_all tree key value (made_in history) old new (legal_makes legal) all there;
    put = λ before after key value insert split is.
        after_insert tree key value insert before after old new (subst (λ l. Makes old l new) split (legal_makes legal)) (subst (AllByRecursion (λ m. IsPushOrTake m ⊎ ((k : Key) → Leaves tree k m))) split all) is;
  },
)
