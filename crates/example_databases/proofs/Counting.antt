-- What merges and closures do to counters.
use Rattle.std.proofs.Common.{◌≡◌, ℕ, ◌<◌, ◌+◌, ◌%◌, ◌^◌, Bool, true, false, cond, Option, Some, None, option_map, is_some, Ok, Err, sym, refl, ap, ◌∙◌, subst, arith}
use Rattle.std.proofs.lemmas.Nat.{from_be_bytes-to_be_bytes_8, mod_below}
use Rattle.std.specs.FinMap.Entries.{find, put}
use Rattle.std.specs.Fn.{Called}
use Rattle.std.specs.Option.{option_copied}
use Rattle.std.specs.declared.vec.Vec.{Vec}
use Rattle.std.specs.declared.alloc.Global.{Global}
use denote.Ref.{Bor}
use Rattle.std.specs.Int.{w64, to_be_bytes}
use Rattle.sled_nodes.proofs.Basics.{none_some, some_is}
use Rattle.sled_nodes.proofs.Put.{found_here, found_there}
use Rattle.sled_nodes.specs.Order.{Key, key_cmp}
use Rattle.sled_store.specs.theory.Facts.{put_name_here, put_name_elsewhere}
use Rattle.sled_store.specs.Store.{Store}
use Rattle.sled_nodes.specs.declared.error.Error.{Error}
use Rattle.sled_model.specs.Maps.{Map, Merge}
use Rattle.sled_model.specs.Answer.{answer_of, map_after, effect_of_write}
use Rattle.sled_model.specs.State.{State, NamedTree, maps_of}
use Rattle.sled_model.specs.Refusal.{has_operator}
use Rattle.sled_model.specs.Whole.{DecidesPoint, RefusesPoint}
use Rattle.sled_model.specs.declared.call.Call.{Call}
use Rattle.sled_model.specs.declared.call.Call.TheVariants as call
use Rattle.sled_model.specs.declared.decision.Decision.{Decision}
use Rattle.sled_model.specs.declared.decision.Effect.TheVariants as effect
use Rattle.sled_model.specs.declared.reply.Reply.{Reply}
use Rattle.sled_model.specs.declared.reply.Reply.TheVariants.{Swapped}
use Rattle.sled_model.specs.declared.tree.Tree.{Tree}
use Rattle.sled_model.proofs.Shapes.{same_value}
use Rattle.sled.specs.Values.{DbValue, db_state, named}
use Rattle.sled.specs.Reads.{ReadsMap}
use Rattle.sled.specs.Fetch.{Closure, FetchDecided, FetchRefused}
use Rattle.sled.proofs.Promising.{has_one}
use Rattle.example_parts.specs.Reads.{found_in, maps_now}
use Rattle.example_parts.specs.Counters.{number_in, sum_of, bytes_of_sum, adding, counter_in}
use Rattle.example_parts.proofs.Reading.{number_read}
use Rattle.example_databases.specs.Counters.{SetsCounter}

-- the bytes of a sum are its number
pub sum_read : (stood : Option Key) (n : ℕ) → number_in (Some (bytes_of_sum stood n)) ≡ sum_of (number_in stood) n
sum_read stood n = from_be_bytes-to_be_bytes_8 (sum_of (number_in stood) n) (below (number_in stood + n))
  where
    below : (m : ℕ) → m % 2 ^ 64 < 2 ^ 64
    below m = mod_below m (2 ^ 64) (omega arith)

-- ---- a call that changes nothing

module _ {P M : Type 0} (store : P → Store) (meant : M → Merge) (old : DbValue P M) (tree : Tree) (k : Key) where
  pub counted : (value : Option Key) → ReadsMap store meant old tree (λ map. value ≡ find key_cmp k map) → number_in value ≡ counter_in (maps_now store meant old) tree.name k
  counted value r = ap number_in (r.is ∙ sym (ap (λ o. found_in (option_map (λ (t : NamedTree). t.map) o) k) r.there))

  pub not_added : (c : Call) (e : Error) (new : DbValue P M) → RefusesPoint (db_state store meant old) (store old.pages) (store new.pages) tree c e (db_state store meant new) → maps_now store meant new ≡ maps_now store meant old
  not_added c e new p = ap maps_of p.is

-- ---- a call that writes a value

module _ (old new : State) (tree : Tree) (c : Call) (reply : Reply) (d : DecidesPoint old tree c reply new) where
  was : maps_of old tree.name ≡ Some d.named.map
  was = ap (option_map (λ (t : NamedTree). t.map)) d.there

  module _ (k v : Key) (is : (answer_of d.named.merge c d.named.map).map ≡ put key_cmp k v d.named.map) where
    here : maps_of new tree.name ≡ Some (put key_cmp k v d.named.map)
    here = ap (λ (s : State). maps_of s tree.name) d.is ∙ ap (option_map (λ (t : NamedTree). t.map)) (put_name_here old.trees tree.name (Some (record d.named { map = (answer_of d.named.merge c d.named.map).map }))) ∙ ap Some is

    pub writes : SetsCounter (maps_of old) (maps_of new) tree.name k (number_in (Some v))
    writes = record {
      here = ap (λ o. number_in (found_in o k)) here ∙ ap number_in (found_here k v d.named.map);
      names = λ other off. ap (λ o. found_in o other) here ∙ found_there other k v d.named.map off ∙ sym (ap (λ o. found_in o other) was);
      trees = λ other off. ap (λ (s : State). maps_of s other) d.is ∙ ap (option_map (λ (t : NamedTree). t.map)) (put_name_elsewhere old.trees tree.name other (Some (record d.named { map = (answer_of d.named.merge c d.named.map).map })) off);
    }

-- ---- a merge

-- where all operators mean the same, a tree that has one has that
one_meaning : {M : Type 0} (meant : M → Merge) (one : Merge) → ((m : M) → meant m ≡ one) → (found : Option M) → is_some (option_map meant found) ≡ true → option_map meant found ≡ Some one
one_meaning meant one same None e = absurd cc
one_meaning meant one same (Some m) e = ap Some (same m)

merge_of : (n : Option ℕ) (m : Option Map) (merge : ℕ → Option Merge) (t : NamedTree) → named n m merge ≡ Some t → (x : ℕ) × (t.merge ≡ merge x)
merge_of None m merge t e = none_some e
merge_of (Some n) None merge t e = none_some e
merge_of (Some n) (Some m) merge t e = (n, ap (λ (z : NamedTree). z.merge) (sym (some_is e)))

module _ {P M : Type 0} (store : P → Store) (meant : M → Merge) (same : (m : M) → meant m ≡ adding) (old new : DbValue P M) (tree : Tree) (k bytes : Key) (reply : Reply) (d : DecidesPoint (db_state store meant old) tree (call.Merge k bytes) reply (db_state store meant new)) where
  operator : d.named.merge ≡ Some adding
  operator =
      let x = merge_of _ _ _ d.named d.there in
      x.1 ∙ one_meaning meant adding same _ (ap is_some (sym x.1) ∙ (ap has_operator (sym d.there) ∙ has_one (db_state store meant old) tree k bytes d.free))

  stands : find key_cmp k d.named.map ≡ found_in (maps_now store meant old tree.name) k
  stands = ap (λ o. found_in o k) (sym (was (db_state store meant old) (db_state store meant new) tree (call.Merge k bytes) reply d))

  added_now : SetsCounter (maps_now store meant old) (maps_now store meant new) tree.name k (number_in (Some (bytes_of_sum (find key_cmp k d.named.map) (number_in (Some bytes)))))
  added_now = writes (db_state store meant old) (db_state store meant new) tree (call.Merge k bytes) reply d k (bytes_of_sum (find key_cmp k d.named.map) (number_in (Some bytes))) (ap (λ m. (answer_of m (call.Merge k bytes) d.named.map).map) operator)

  pub added : (n : ℕ) → bytes ≡ to_be_bytes w64 n → n < 2 ^ 64 → SetsCounter (maps_now store meant old) (maps_now store meant new) tree.name k (sum_of (counter_in (maps_now store meant old) tree.name k) n)
  added n is fits = subst (λ z. SetsCounter (maps_now store meant old) (maps_now store meant new) tree.name k z)
      (sum_read (find key_cmp k d.named.map) (number_in (Some bytes)) ∙ ap (λ o. sum_of (number_in o) (number_in (Some bytes))) stands ∙ ap (sum_of (counter_in (maps_now store meant old) tree.name k)) (number_read bytes n is fits))
      added_now

-- ---- a closure

module _ {P M F : Type 0} (store : P → Store) (meant : M → Merge) (closure : Closure F) (f : F) (old : DbValue P M) (tree : Tree) (k : Key) (new : DbValue P M) where
  -- the closure answers what is one above the number that it is shown
  abbrev pub Raises : Type 0
  Raises = (shown : Option (Bor Key)) (answer : Option (Vec ℕ Global)) (after : F) → Called closure f (shown, tt) (Ok answer) after → option_map (λ v. v.items) answer ≡ Some (bytes_of_sum (option_copied shown) 1)

  pub not_raised : (e : Error) → FetchRefused store meant closure f old tree k e new → maps_now store meant new ≡ maps_now store meant old
  not_raised e r = ap maps_of r.same

  module _ (stood made : Option Key) (d : FetchDecided store meant closure f old tree k stood made new) (raises : Raises) where
    abbrev p : DecidesPoint (db_state store meant old) tree (call.CompareAndSwap k stood made) (Swapped (Ok tt)) (db_state store meant new)
    p = d.swaps.decides

    made_is : made ≡ Some (bytes_of_sum stood 1)
    made_is = d.makes.is ∙ raises d.makes.answers.shown d.makes.answer d.makes.answers.after d.makes.answers.called ∙ ap (λ o. Some (bytes_of_sum o 1)) d.makes.answers.shows

    stood_is : number_in stood ≡ counter_in (maps_now store meant old) tree.name k
    stood_is = counted store meant old tree k stood d.makes.stands

    pub raised : number_in made ≡ sum_of (counter_in (maps_now store meant old) tree.name k) 1
    raised = ap number_in made_is ∙ sum_read stood 1 ∙ ap (λ n. sum_of n 1) stood_is

    -- the swap was written, since it was told so
    written : (new-value : Option Key) (m : Map) (b : Bool) → Swapped (Ok tt) ≡ (cond {A = Decision} b (record { effect = effect_of_write new-value; reply = Swapped (Ok tt) }) (record { effect = effect.Nothing; reply = Swapped (Err (record { current = find key_cmp k m; proposed = new-value })) })).reply
        → map_after (cond {A = Decision} b (record { effect = effect_of_write new-value; reply = Swapped (Ok tt) }) (record { effect = effect.Nothing; reply = Swapped (Err (record { current = find key_cmp k m; proposed = new-value })) })).effect k m ≡ map_after (effect_of_write new-value) k m
    written new-value m true e = refl
    written new-value m false e = absurd cc

    pub set_raised : SetsCounter (maps_now store meant old) (maps_now store meant new) tree.name k (number_in made)
    set_raised = subst (λ o. SetsCounter (maps_now store meant old) (maps_now store meant new) tree.name k (number_in o)) (sym made_is)
        (writes (db_state store meant old) (db_state store meant new) tree (call.CompareAndSwap k stood made) (Swapped (Ok tt)) p k (bytes_of_sum stood 1)
        (written made p.named.map (same_value (find key_cmp k p.named.map) stood) p.replies ∙ ap (λ o. map_after (effect_of_write o) k p.named.map) made_is))
