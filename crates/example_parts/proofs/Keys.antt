-- Keys that are the same or not, and an insert in a map.
use Rattle.std.proofs.Common.{◌≡◌, ◌≢◌, ◌⊎◌, Bool, true, false, cond, Option, Some, None, Less, Equal, Greater, is_eq, sym, refl, ap, ◌∙◌, inl, inr}
use Rattle.std.specs.FinMap.Entries.{find}
use Rattle.std.specs.Str.{bytes_eq}
use Rattle.std.specs.declared.cmp.Ordering.{Ordering}
use Rattle.std.proofs.lemmas.Cmp.{tied_itself}
use Rattle.sled_nodes.proofs.Basics.{false_true, key_total, key_same}
use Rattle.sled_nodes.proofs.Put.{found_here, found_there}
use Rattle.sled_nodes.specs.Order.{Key, key_cmp}
use Rattle.sled_store.specs.theory.Facts.{same_name}
use Rattle.sled_model.specs.Maps.{Map, Merge}
use Rattle.sled_model.specs.Answer.{answer_of, decision_of, map_after}
use Rattle.sled_model.specs.declared.call.Call.TheVariants.{Insert}
use Rattle.sled_model.specs.declared.decision.Effect.TheVariants.{Nothing, Set}

pub apart : (q k : Key) → is_eq (key_cmp q k) ≡ false → q ≢ k
apart q k off same = false_true (sym off ∙ ap (λ x. is_eq (key_cmp x k)) same ∙ ap is_eq (tied_itself key_total k))

pub same_or_apart : (q k : Key) → (q ≡ k) ⊎ (q ≢ k)
same_or_apart q k = go (key_cmp q k) refl
  where
    go : (o : Ordering) → key_cmp q k ≡ o → (q ≡ k) ⊎ (q ≢ k)
    go Less e = inr (apart q k (ap is_eq e))
    go Equal e = inl (key_same q k e)
    go Greater e = inr (apart q k (ap is_eq e))

-- after an insert the key has the value
pub insert_here : (merge : Option Merge) (k v : Key) (m : Map) → find key_cmp k (answer_of merge (Insert k v) m).map ≡ Some v
insert_here merge k v m = go (find key_cmp k m) refl
  where
    over : (old : Key) (b : Bool) → bytes_eq old v ≡ b → find key_cmp k m ≡ Some old → find key_cmp k (map_after (cond b Nothing (Set v)) k m) ≡ Some v
    over old true same e = e ∙ ap Some (same_name old v same)
    over old false other e = found_here k v m

    go : (o : Option Key) → find key_cmp k m ≡ o → find key_cmp k (map_after (decision_of merge (Insert k v) o).effect k m) ≡ Some v
    go None e = found_here k v m
    go (Some old) e = over old (bytes_eq old v) refl e

-- .. and every other key what it had
pub insert_there : (merge : Option Merge) (q k v : Key) (m : Map) → q ≢ k → find key_cmp q (answer_of merge (Insert k v) m).map ≡ find key_cmp q m
insert_there merge q k v m off = go (find key_cmp k m)
  where
    over : (old : Key) (b : Bool) → find key_cmp q (map_after (cond b Nothing (Set v)) k m) ≡ find key_cmp q m
    over old true = refl
    over old false = found_there q k v m off

    go : (o : Option Key) → find key_cmp q (map_after (decision_of merge (Insert k v) o).effect k m) ≡ find key_cmp q m
    go None = found_there q k v m off
    go (Some old) = over old (bytes_eq old v)
