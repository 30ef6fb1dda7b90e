-- What stands at a key of a map after an effect.
use Rattle.std.proofs.Common.{◌≡◌, ◌≢◌, ◌∙◌, Bool, true, false, not, cond, ◌&&◌, Option, Some, None, Less, Equal, Greater, is_eq, sym, refl, ap}
use Rattle.std.specs.FinMap.Entries.{find, find-where_key}
use Rattle.std.specs.Ordering.{eq_by_cmp}
use Rattle.std.specs.Str.{bytes_eq}
use Rattle.std.specs.declared.cmp.Ordering.{Ordering}
use Rattle.std.proofs.lemmas.Cmp.{tied_itself}
use Rattle.sled_nodes.proofs.Basics.{none_some, false_true, key_total, key_same}
use Rattle.sled_nodes.proofs.Put.{found_here, found_there}
use Rattle.sled_nodes.specs.Order.{Key, key_cmp}
use Rattle.sled_nodes.specs.Node.{without}
use Rattle.sled_store.specs.theory.Facts.{same_name, name_itself}
use Rattle.sled_model.specs.Maps.{Map}
use Rattle.sled_model.specs.Answer.{map_after, effect_of_write}
use Rattle.sled_model.specs.declared.decision.Effect.{Effect}
use Rattle.sled_model.specs.declared.decision.Effect.TheVariants as effect
use Rattle.sled_model.specs.declared.tree.Tree.{Tree}
use Rattle.sled_model.proofs.Shapes.{same_value}
use Rattle.example_parts.proofs.Written.{tied_back}
use Rattle.example_shared.specs.Places.{is_at}

turned : (b : Bool) (value : Option Key) → cond (not b) value None ≡ cond b None value
turned true value = refl
turned false value = refl

-- a map without a key
pub without_as : (q k : Key) (m : Map) → find key_cmp q (without k m) ≡ cond (is_eq (key_cmp q k)) None (find key_cmp q m)
without_as q k m =
    find-where_key key_cmp (λ x. not (eq_by_cmp key_cmp k x)) q (λ x same. ap (λ z. not (eq_by_cmp key_cmp k z)) (sym (key_same q x same))) m
    ∙ ap (λ b. cond (not b) (find key_cmp q m) None) (tied_back q k (key_cmp q k) refl)
    ∙ turned (is_eq (key_cmp q k)) (find key_cmp q m)

pub without_here : (k : Key) (m : Map) → find key_cmp k (without k m) ≡ None
without_here k m = without_as k k m ∙ ap (λ o. cond (is_eq o) None (find key_cmp k m)) (tied_itself key_total k)

without_there : (q k : Key) (m : Map) → q ≢ k → find key_cmp q (without k m) ≡ find key_cmp q m
without_there q k m off = without_as q k m ∙ go (key_cmp q k) refl
  where
    go : (o : Ordering) → key_cmp q k ≡ o → cond (is_eq o) None (find key_cmp q m) ≡ find key_cmp q m
    go Less e = refl
    go Equal e = absurd (off (key_same q k e))
    go Greater e = refl

-- the value after an effect
abbrev pub after_effect : Effect → Option Key → Option Key
after_effect effect.Nothing value = value
after_effect (effect.Set v) value = Some v
after_effect effect.Remove value = None

pub effect_here : (e : Effect) (k : Key) (m : Map) → find key_cmp k (map_after e k m) ≡ after_effect e (find key_cmp k m)
effect_here effect.Nothing k m = refl
effect_here (effect.Set v) k m = found_here k v m
effect_here effect.Remove k m = without_here k m

pub effect_there : (e : Effect) (q k : Key) (m : Map) → q ≢ k → find key_cmp q (map_after e k m) ≡ find key_cmp q m
effect_there effect.Nothing q k m off = refl
effect_there (effect.Set v) q k m off = found_there q k v m off
effect_there effect.Remove q k m off = without_there q k m off

pub write_leaves : (new value : Option Key) → after_effect (effect_of_write new) value ≡ new
write_leaves None value = refl
write_leaves (Some v) value = refl

-- what a removal leaves was there
pub left_after : (b : Bool) (k q : Key) (m : Map) (w : Key) → find key_cmp q (map_after (cond b effect.Remove effect.Nothing) k m) ≡ Some w → find key_cmp q m ≡ Some w
left_after false k q m w e = e
left_after true k q m w e = go (is_eq (key_cmp q k)) (sym (without_as q k m) ∙ e)
  where
    go : (b : Bool) → cond b None (find key_cmp q m) ≡ Some w → find key_cmp q m ≡ Some w
    go true h = none_some h
    go false h = h

-- two values by the test are one
pub values_same : (a b : Option Key) → same_value a b ≡ true → a ≡ b
values_same None None e = refl
values_same None (Some y) e = false_true e
values_same (Some x) None e = false_true e
values_same (Some x) (Some y) e = ap Some (same_name x y e)

-- a key of a tree by the test
pub at_same : (tree key : Key) (t : Tree) (k : Key) → is_at tree key t k ≡ true → (t.name ≡ tree) × (k ≡ key)
at_same tree key t k e = go (bytes_eq t.name tree) (bytes_eq k key) refl refl e
  where
    go : (x y : Bool) → bytes_eq t.name tree ≡ x → bytes_eq k key ≡ y → x && y ≡ true → (t.name ≡ tree) × (k ≡ key)
    go true true p q h = (same_name t.name tree p, same_name k key q)
    go true false p q h = false_true h
    go false y p q h = false_true h

pub at_itself : (tree key : Key) (t : Tree) (k : Key) → t.name ≡ tree → k ≡ key → is_at tree key t k ≡ true
at_itself tree key t k name here =
    ap (λ n. bytes_eq t.name n && bytes_eq k key) (sym name)
    ∙ ap (λ q. bytes_eq t.name t.name && bytes_eq k q) (sym here)
    ∙ ap (λ b. b && bytes_eq k k) (name_itself t.name)
    ∙ name_itself k
