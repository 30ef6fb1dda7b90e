-- What a call on a key promises, part by part, and the records that the parts make.
use Rattle.std.proofs.Common.{◌≡◌, ◌≢◌, Bool, true, false, not, cond, T, [], ◌∷◌, Option, Some, None, option_map, is_some, Result, Ok, Err, Less, Equal, Greater, is_eq, refl, sym, ap, ◌∙◌, subst, inl, inr}
use Rattle.std.specs.FinMap.Entries.{find, put, is_sorted, same_entries, is_sorted-put, is_sorted-where_key, find-put, find-where_key}
use Rattle.std.specs.Ordering.{eq_by_cmp}
use Rattle.std.specs.Str.{bytes_eq}
use Rattle.std.specs.declared.cmp.Ordering.{Ordering}
use Rattle.sled_nodes.proofs.Basics.{none_some, some_is, of_true, key_total, key_same, tied}
use Rattle.sled_nodes.specs.Order.{Key, key_cmp}
use Rattle.sled_nodes.specs.Node.{without}
use Rattle.sled_nodes.specs.declared.error.Error.{Error}
use Rattle.sled_store.specs.Store.{Store}
use Rattle.sled_store.specs.theory.Facts.{same_name, name_itself, put_name_here, put_name_elsewhere}
use Rattle.sled_model.specs.Maps.{Map, Merge}
use Rattle.sled_model.specs.Answer.{answer_of, decision_of, map_after, effect_of_write, key_of}
use Rattle.sled_model.specs.State.{State, NamedTree, maps_of}
use Rattle.sled_model.specs.Refusal.{MustRefuse, HasNoOperator, first_of, must_refuse, must_refuse_of, has_operator, ToPoint}
use Rattle.sled_model.specs.Whole.{DecidesPoint, RefusesPoint}
use Rattle.sled_model.specs.declared.call.Call.{Call}
use Rattle.sled_model.specs.declared.call.Call.TheVariants.{Insert, Remove, CompareAndSwap}
use Rattle.sled_model.specs.declared.call.Call.TheVariants as calls
use Rattle.sled_model.specs.declared.decision.Decision.{Decision}
use Rattle.sled_model.specs.declared.decision.Effect.TheVariants as effect
use Rattle.sled_model.specs.declared.reply.CompareAndSwapError.{CompareAndSwapError}
use Rattle.sled_model.specs.declared.reply.Reply.{Reply}
use Rattle.sled_model.specs.declared.reply.Reply.TheVariants.{Value, Swapped}
use Rattle.sled_model.specs.declared.tree.Tree.{Tree}
use Rattle.sled_model.proofs.Shapes.{same_value}
use Rattle.sled.specs.Sound.{IsDb}
use Rattle.sled.specs.Values.{DbValue, db_state}
use Rattle.sled.specs.Direct.{Conducts, PointDecided, PointRefused, RunsAtOnce}
use Rattle.sled.specs.Promises.{ChangesMap, with_value, Swaps, Merges, StopsCall, GivesUpCall}
use Rattle.sled.proofs.Trees.{maps_ascend}

-- ---- an insert puts its pair in its place, also where an equal value stands and nothing is written

find_stays : (k v : Key) (m : Map) → find key_cmp k m ≡ Some v → (q : Key) → find key_cmp q (put key_cmp k v m) ≡ find key_cmp q m
find_stays k v m there q = find-put key_cmp key_total q k v m ∙ go (key_cmp q k) refl
  where
    go : (o : Ordering) → key_cmp q k ≡ o → cond (is_eq o) (Some v) (find key_cmp q m) ≡ find key_cmp q m
    go Less e = refl
    go Equal e = sym there ∙ ap (λ x. find key_cmp x m) (sym (key_same q k e))
    go Greater e = refl

put_stays : (k v : Key) (m : Map) → T (is_sorted key_cmp m) → find key_cmp k m ≡ Some v → m ≡ put key_cmp k v m
put_stays k v m sorted there =
    sym (same_entries key_cmp key_total key_same (put key_cmp k v m) m (is_sorted-put key_cmp key_total k v m sorted) sorted (find_stays k v m there))

pub insert_puts : (merge : Option Merge) (k v : Key) (m : Map) → T (is_sorted key_cmp m) → (answer_of merge (Insert k v) m).map ≡ put key_cmp k v m
insert_puts merge k v m sorted = go (find key_cmp k m) refl
  where
    over : (old : Key) (b : Bool) → bytes_eq old v ≡ b → find key_cmp k m ≡ Some old → map_after (cond b effect.Nothing (effect.Set v)) k m ≡ put key_cmp k v m
    over old true same e = put_stays k v m sorted (e ∙ ap Some (same_name old v same))
    over old false other e = refl

    go : (o : Option Key) → find key_cmp k m ≡ o → map_after (decision_of merge (Insert k v) o).effect k m ≡ put key_cmp k v m
    go None e = refl
    go (Some old) e = over old (bytes_eq old v) refl e

-- ---- and a removal takes its key out, also where there is none

none_stays : (k : Key) (m : Map) → find key_cmp k m ≡ None → (q : Key) → find key_cmp q (without k m) ≡ find key_cmp q m
none_stays k m none q =
    find-where_key key_cmp (λ x. not (eq_by_cmp key_cmp k x)) q (λ x p. ap (λ z. not (eq_by_cmp key_cmp k z)) (sym (key_same q x p))) m ∙ go (eq_by_cmp key_cmp k q) refl
  where
    go : (b : Bool) → eq_by_cmp key_cmp k q ≡ b → cond (not b) (find key_cmp q m) None ≡ find key_cmp q m
    go true p = sym (ap (λ z. find key_cmp z m) (sym (tied k q p)) ∙ none)
    go false p = refl

none_out : (k : Key) (m : Map) → T (is_sorted key_cmp m) → find key_cmp k m ≡ None → m ≡ without k m
none_out k m sorted none =
    sym (same_entries key_cmp key_total key_same (without k m) m (is_sorted-where_key key_cmp (λ x. not (eq_by_cmp key_cmp k x)) m sorted) sorted (none_stays k m none))

pub remove_takes : (merge : Option Merge) (k : Key) (m : Map) → T (is_sorted key_cmp m) → (answer_of merge (Remove k) m).map ≡ without k m
remove_takes merge k m sorted = go (find key_cmp k m) refl
  where
    go : (o : Option Key) → find key_cmp k m ≡ o → map_after (decision_of merge (Remove k) o).effect k m ≡ without k m
    go None e = none_out k m sorted e
    go (Some old) e = refl

-- ---- a swap, and a merge

written_is : (key : Key) (made : Option Key) (m : Map) → map_after (effect_of_write made) key m ≡ with_value key made m
written_is key None m = refl
written_is key (Some v) m = refl

found_other : (value stood : Option Key) → same_value value stood ≡ false → value ≢ stood
found_other None None e is = apart (sym e)
  where
    apart : false ≡ true → ⊥
    apart e = cc
found_other None (Some b) e is = none_some is
found_other (Some a) None e is = none_some (sym is)
found_other (Some a) (Some b) e is = apart (sym e ∙ ap (λ z. bytes_eq z b) (some_is is) ∙ name_itself b)
  where
    apart : false ≡ true → ⊥
    apart e = cc

abbrev swap_of : Bool → Option Key → Option Key → Decision
swap_of b value made = cond b (record { effect = effect_of_write made; reply = Swapped (Ok tt) }) (record { effect = effect.Nothing; reply = Swapped (Err (record { current = value; proposed = made })) })

swap_is : (key : Key) (stood made : Option Key) (m : Map) (b : Bool) → same_value (find key_cmp key m) stood ≡ b → (swapped : Result (Unit {0}) CompareAndSwapError) → Swapped swapped ≡ (swap_of b (find key_cmp key m) made).reply
    → Swaps key stood made swapped m (map_after (swap_of b (find key_cmp key m) made).effect key m)
swap_is key stood made m true e (Ok done) replies = (go (find key_cmp key m) stood e, written_is key made m)
  where
    go : (value wanted : Option Key) → same_value value wanted ≡ true → value ≡ wanted
    go None None e = refl
    go None (Some b) e = absurd cc
    go (Some a) None e = absurd cc
    go (Some a) (Some b) e = ap Some (same_name a b e)
swap_is key stood made m true e (Err why) replies = absurd cc
swap_is key stood made m false e (Ok done) replies = absurd cc
swap_is key stood made m false e (Err why) replies = (found_other (find key_cmp key m) stood e, why_is replies, refl)
  where
    why_is : {a b : CompareAndSwapError} → Swapped (Err a) ≡ Swapped (Err b) → a ≡ b
    why_is e = cc

-- a tree that passes the tests of a merge has an operator
pub has_one : (s : State) (tree : Tree) (k bytes : Key) → must_refuse s (ToPoint tree (calls.Merge k bytes)) ≡ None → has_operator (s.trees tree.name) ≡ true
has_one s tree k bytes = go (must_refuse_of s (tree ∷ [])) (has_operator (s.trees tree.name))
  where
    go : (o : Option MustRefuse) (b : Bool) → first_of o (cond (not b) (Some HasNoOperator) None) ≡ None → b ≡ true
    go None true e = refl
    go None false e = none_some (sym e)
    go (Some m) b e = none_some (sym e)

merge_is : (named : NamedTree) (key bytes : Key) (merged : Option Key) (o : Option Merge) → named.merge ≡ o → is_some o ≡ true → Value merged ≡ (answer_of o (calls.Merge key bytes) named.map).reply
    → Merges (Some named) key bytes merged named.map (answer_of o (calls.Merge key bytes) named.map).map
merge_is named key bytes merged None is some replies = absurd cc
merge_is named key bytes merged (Some merge) is some replies =
    let value = merge key (find key_cmp key named.map) bytes in
    let same : merged ≡ value = value_is replies in
    (merge, is, same, written_is key value named.map ∙ ap (λ v. with_value key v named.map) (sym same))
  where
    value_is : {a b : Option Key} → Value a ≡ Value b → a ≡ b
    value_is e = cc

module _ {P M : Type 0} (store : P → Store) (meant : M → Merge) (old : DbValue P M) (tree : Tree) where
  -- ---- the parts of the records, for whatever call and reply the code made

  -- a call that is refused
  abbrev Stopped : Call → Error → DbValue P M → Type 0
  Stopped c e new = record {
    changes : Unit {0};
    decides : Unit {0};
    refuses : RefusesPoint (db_state store meant old) (store old.pages) (store new.pages) tree c e (db_state store meant new);
    leaves : Conducts store [] (Some e) old new;
    steps : Unit {0};
    stops : StopsCall store meant old tree c e new;
    gives_up : GivesUpCall (store old.pages) tree (key_of c) e;
  }

  pub refused : (call c : Call) → call ≡ c → (e : Error) (new : DbValue P M) → PointRefused store meant old tree call e new → Stopped c e new
  refused call c is e new made =
      let p = subst (λ z. PointRefused store meant old tree z e new) is made in record {
        changes = tt;
        decides = tt;
        refuses = p.refuses;
        leaves = p.conducts;
        steps = tt;
        stops = elim p.steps [
          | inl first ↦ inl first
          | inr flies ↦ inr (record { last = flies.0; steps = flies.1 })
        ];
        gives_up = p.turns;
      }

  -- one that is decided, and what it claims of the map of the tree before and after it
  abbrev Did : (Map → Map → Type 0) → Call → Reply → DbValue P M → Type 0
  Did claim c reply new = record {
    changes : ChangesMap store meant old tree claim new;
    decides : DecidesPoint (db_state store meant old) tree c reply (db_state store meant new);
    refuses : Unit {0};
    leaves : Conducts store (maps_of (db_state store meant new) ∷ []) None old new;
    steps : RunsAtOnce store meant old tree c (Ok reply) new;
    stops : Unit {0};
    gives_up : Unit {0};
  }

  module _ (new : DbValue P M) (c : Call) (reply : Reply) (p : PointDecided store meant old tree c reply new) where
    was : maps_of (db_state store meant old) tree.name ≡ Some p.decides.named.map
    was = ap (option_map (λ (t : NamedTree). t.map)) p.decides.there

    sorted : IsDb store old → T (is_sorted key_cmp p.decides.named.map)
    sorted db = of_true (is_sorted key_cmp p.decides.named.map) ((maps_ascend store meant old db).is tree.name p.decides.named.map was)

    did : (claim : Map → Map → Type 0) → claim p.decides.named.map (answer_of p.decides.named.merge c p.decides.named.map).map → Did claim c reply new
    did claim holds =
        let d = p.decides in
        let answer = answer_of d.named.merge c d.named.map in record {
          changes = record {
            before = d.named.map;
            was = was;
            after = answer.map;
            becomes = ap (λ s. maps_of s tree.name) d.is ∙ ap (option_map (λ (t : NamedTree). t.map)) (put_name_here (db_state store meant old).trees tree.name (Some (record (d.named) { map = answer.map })));
            is = holds;
            others = λ name off. ap (λ s. maps_of s name) d.is ∙ ap (option_map (λ (t : NamedTree). t.map)) (put_name_elsewhere (db_state store meant old).trees tree.name name (Some (record (d.named) { map = answer.map })) off);
          };
          decides = d;
          refuses = tt;
          leaves = p.conducts;
          steps = record { last = p.last; steps = p.steps };
          stops = tt;
          gives_up = tt;
        }

  -- .. call by call
  module _ (new : DbValue P M) (call : Call) (reply : Reply) (made : PointDecided store meant old tree call reply new) where
    p : (c : Call) → call ≡ c → (r : Reply) → reply ≡ r → PointDecided store meant old tree c r new
    p c is r told = subst (λ z. PointDecided store meant old tree c z new) told (subst (λ z. PointDecided store meant old tree z reply new) is made)

    value_is : {a b : Option Key} → Value a ≡ Value b → a ≡ b
    value_is e = cc

    pub inserts : IsDb store old → (key value : Key) → call ≡ Insert key value → (stood : Option Key) → reply ≡ Value stood → Did (λ before after. (stood ≡ find key_cmp key before) × (after ≡ put key_cmp key value before)) (Insert key value) (Value stood) new
    inserts db key value is stood told =
        let q = p (Insert key value) is (Value stood) told in
        let named = q.decides.named in
        did new (Insert key value) (Value stood) q (λ before after. (stood ≡ find key_cmp key before) × (after ≡ put key_cmp key value before))
        (value_is q.decides.replies, insert_puts named.merge key value named.map (sorted new (Insert key value) (Value stood) q db))

    pub removes : IsDb store old → (key : Key) → call ≡ Remove key → (stood : Option Key) → reply ≡ Value stood → Did (λ before after. (stood ≡ find key_cmp key before) × (after ≡ without key before)) (Remove key) (Value stood) new
    removes db key is stood told =
        let q = p (Remove key) is (Value stood) told in
        let named = q.decides.named in
        did new (Remove key) (Value stood) q (λ before after. (stood ≡ find key_cmp key before) × (after ≡ without key before))
        (value_is q.decides.replies, remove_takes named.merge key named.map (sorted new (Remove key) (Value stood) q db))

    pub swaps : (key : Key) (stood next : Option Key) → call ≡ CompareAndSwap key stood next → (swap : Result (Unit {0}) CompareAndSwapError) → reply ≡ Swapped swap → Did (Swaps key stood next swap) (CompareAndSwap key stood next) (Swapped swap) new
    swaps key stood next is swap told =
        let q = p (CompareAndSwap key stood next) is (Swapped swap) told in
        let m = q.decides.named.map in
        did new (CompareAndSwap key stood next) (Swapped swap) q (Swaps key stood next swap) (swap_is key stood next m (same_value (find key_cmp key m) stood) refl swap q.decides.replies)

    pub merges : (key bytes : Key) → call ≡ calls.Merge key bytes → (value : Option Key) → reply ≡ Value value → Did (Merges ((db_state store meant old).trees tree.name) key bytes value) (calls.Merge key bytes) (Value value) new
    merges key bytes is value told =
        let q = p (calls.Merge key bytes) is (Value value) told in
        let named = q.decides.named in
        did new (calls.Merge key bytes) (Value value) q (Merges ((db_state store meant old).trees tree.name) key bytes value)
        (subst (λ o. Merges o key bytes value named.map (answer_of named.merge (calls.Merge key bytes) named.map).map) (sym q.decides.there)
        (merge_is named key bytes value named.merge refl (ap has_operator (sym q.decides.there) ∙ has_one (db_state store meant old) tree key bytes q.decides.free) q.decides.replies))

  -- a swap that found what stood sets the other value
  pub sets : (key : Key) (stood made : Option Key) (new : DbValue P M) → PointDecided store meant old tree (CompareAndSwap key stood made) (Swapped (Ok tt)) new → ChangesMap store meant old tree (λ before after. (stood ≡ find key_cmp key before) × (after ≡ with_value key made before)) new
  sets key stood made new p =
      let m = p.decides.named.map in
      let s = swap_is key stood made m (same_value (find key_cmp key m) stood) refl (Ok tt) p.decides.replies in
      (did new (CompareAndSwap key stood made) (Swapped (Ok tt)) p (λ before after. (stood ≡ find key_cmp key before) × (after ≡ with_value key made before)) (sym s.0, s.1)).changes

  -- ---- the records, made of their parts again

  pub decided_of_parts : (call : Call) (reply : Reply) (new : DbValue P M) → DecidesPoint (db_state store meant old) tree call reply (db_state store meant new)
      → Conducts store (maps_of (db_state store meant new) ∷ []) None old new → RunsAtOnce store meant old tree call (Ok reply) new → PointDecided store meant old tree call reply new
  decided_of_parts call reply new decides leaves steps = record { decides = decides; conducts = leaves; last = steps.last; steps = steps.steps }

  pub refused_of_parts : (call : Call) (e : Error) (new : DbValue P M) → RefusesPoint (db_state store meant old) (store old.pages) (store new.pages) tree call e (db_state store meant new)
      → Conducts store [] (Some e) old new → StopsCall store meant old tree call e new → GivesUpCall (store old.pages) tree (key_of call) e → PointRefused store meant old tree call e new
  refused_of_parts call e new refuses leaves stops gives_up = record {
    refuses = refuses;
    conducts = leaves;
    steps = elim stops [
      | inl first ↦ inl first
      | inr flies ↦ inr (flies.last, flies.steps)
    ];
    turns = gives_up;
  }
