-- What the writes of a group make of a key, and which of them change something.
use Rattle.std.proofs.Common.{◌≡◌, ◌≢◌, Bool, true, false, not, ◌&&◌, cond, List, [], ◌∷◌, ◌++◌, map, append_assoc, append-nil, Option, Some, None, is_some, Less, Equal, Greater, is_eq, is_lt, refl, sym, ap, ◌∙◌}
use Rattle.std.specs.FinMap.Entries.{find, find-put, find-where_key, below_all, is_sorted}
use Rattle.std.specs.Option.{option_to_list}
use Rattle.std.specs.Ordering.{eq_by_cmp}
use Rattle.std.specs.Str.{bytes_eq}
use Rattle.std.specs.declared.cmp.Ordering.{Ordering}
use Rattle.std.proofs.lemmas.Cmp.{tied_itself}
use Rattle.sled_nodes.proofs.Basics.{both_true, key_total, key_same, tied}
use Rattle.sled_nodes.specs.Order.{Key, key_cmp}
use Rattle.sled_nodes.specs.Node.{without}
use Rattle.sled_batch.specs.Batch.{Writes, Rises}
use Rattle.sled_store.specs.theory.Facts.{same_name, put_name_here, put_name_elsewhere}
use Rattle.sled_model.specs.Maps.{Map, Merge}
use Rattle.sled_model.specs.Answer.{answer_of, decision_of, event_of, map_after}
use Rattle.sled_model.specs.State.{State, NamedTree}
use Rattle.sled_model.specs.Groups.{Write, writes_on, writes_of, call_with, after_write_on, after_writes}
use Rattle.sled_model.specs.declared.call.Call.TheVariants.{Insert, Remove}
use Rattle.sled_model.specs.declared.decision.Effect.TheVariants as effect
use Rattle.sled_model.specs.declared.tree.Tree.{Tree}
use Rattle.sled_model.proofs.Shapes.{after_write, answer_of_write, call_of_write, same_value}
use Rattle.sled_tree.specs.declared.flight.Job.{Job}
use Rattle.sled.specs.Groups.{jobs_of_write}
use Rattle.sled.specs.theory.Groups.{value_in}

-- ---- the order of keys

is_tied : (a : Key) → eq_by_cmp key_cmp a a ≡ true
is_tied a = ap is_eq (tied_itself key_total a)

turned : (a b : Key) → eq_by_cmp key_cmp a b ≡ eq_by_cmp key_cmp b a
turned a b = go (eq_by_cmp key_cmp a b) (eq_by_cmp key_cmp b a) refl refl
  where
    go : (x y : Bool) → eq_by_cmp key_cmp a b ≡ x → eq_by_cmp key_cmp b a ≡ y → x ≡ y
    go true true p q = refl
    go false false p q = refl
    go true false p q = sym (is_tied a) ∙ ap (λ k. eq_by_cmp key_cmp k a) (tied a b p) ∙ q
    go false true p q = sym p ∙ ap (λ k. eq_by_cmp key_cmp k b) (sym (tied b a q)) ∙ is_tied b

-- ---- one write of a key

-- where the value stands already
stands_there : (key : Key) (value : Option Key) (m : Map) (q : Key) → find key_cmp key m ≡ value → find key_cmp q m ≡ cond (eq_by_cmp key_cmp q key) value (find key_cmp q m)
stands_there key value m q e = go (eq_by_cmp key_cmp q key) refl
  where
    go : (b : Bool) → eq_by_cmp key_cmp q key ≡ b → find key_cmp q m ≡ cond b value (find key_cmp q m)
    go true p = ap (λ k. find key_cmp k m) (tied q key p) ∙ e
    go false p = refl

taken_out : (key : Key) (m : Map) (q : Key) → find key_cmp q (without key m) ≡ cond (eq_by_cmp key_cmp q key) None (find key_cmp q m)
taken_out key m q =
    find-where_key key_cmp (λ x. not (eq_by_cmp key_cmp key x)) q (λ x p. ap (λ k. not (eq_by_cmp key_cmp key k)) (sym (key_same q x p))) m
    ∙ ap (λ b. cond (not b) (find key_cmp q m) None) (turned key q)
    ∙ swapped (eq_by_cmp key_cmp q key)
  where
    swapped : (b : Bool) → cond (not b) (find key_cmp q m) None ≡ cond b None (find key_cmp q m)
    swapped true = refl
    swapped false = refl

-- The key that is written has what was written, and every other what it had
pub written : (merge : Option Merge) (key : Key) (value : Option Key) (m : Map) (q : Key) → find key_cmp q (answer_of merge (call_with key value) m).map ≡ cond (eq_by_cmp key_cmp q key) value (find key_cmp q m)
written merge key None m q = go (find key_cmp key m) refl
  where
    go : (o : Option Key) → find key_cmp key m ≡ o → find key_cmp q (map_after (cond (is_some o) effect.Remove effect.Nothing) key m) ≡ cond (eq_by_cmp key_cmp q key) None (find key_cmp q m)
    go None e = stands_there key None m q e
    go (Some x) e = taken_out key m q
written merge key (Some value) m q = go (find key_cmp key m) refl
  where
    over : (x : Key) (b : Bool) → bytes_eq x value ≡ b → find key_cmp key m ≡ Some x → find key_cmp q (map_after (cond b effect.Nothing (effect.Set value)) key m) ≡ cond (eq_by_cmp key_cmp q key) (Some value) (find key_cmp q m)
    over x true p e = stands_there key (Some value) m q (e ∙ ap Some (same_name x value p))
    over x false p e = find-put key_cmp key_total q key value m

    go : (o : Option Key) → find key_cmp key m ≡ o → find key_cmp q (map_after (decision_of merge (Insert key value) o).effect key m) ≡ cond (eq_by_cmp key_cmp q key) (Some value) (find key_cmp q m)
    go None e = find-put key_cmp key_total q key value m
    go (Some x) e = over x (bytes_eq x value) refl e

-- ---- and in a state

-- another tree is as it was
pub write_elsewhere : (w : Write) (s : State) (name : Key) → name ≢ w.tree.name → (after_write w s).trees name ≡ s.trees name
write_elsewhere w s name off = go (s.trees w.tree.name)
  where
    go : (o : Option NamedTree) → (after_write_on o w s).trees name ≡ s.trees name
    go None = refl
    go (Some t) = put_name_elsewhere s.trees w.tree.name name (Some (record t { map = (answer_of_write t w).map })) off

-- no tree comes and none goes
pub write_keeps : (w : Write) (s : State) (name : Key) → is_some ((after_write w s).trees name) ≡ is_some (s.trees name)
write_keeps w s name = go (s.trees w.tree.name) refl
  where
    go : (o : Option NamedTree) → s.trees w.tree.name ≡ o → is_some ((after_write_on o w s).trees name) ≡ is_some (s.trees name)
    go None e = refl
    go (Some t) e = here (bytes_eq name w.tree.name) refl
      where
        here : (b : Bool) → bytes_eq name w.tree.name ≡ b → is_some (cond b (Some (record t { map = (answer_of_write t w).map })) (s.trees name)) ≡ is_some (s.trees name)
        here true p = sym (ap (λ n. is_some (s.trees n)) (same_name name w.tree.name p) ∙ ap is_some e)
        here false p = refl

-- a key of the tree that is written
pub write_here : (w : Write) (s : State) (q : Key) → is_some (s.trees w.tree.name) ≡ true → value_in ((after_write w s).trees w.tree.name) q ≡ cond (eq_by_cmp key_cmp q w.key) w.value (value_in (s.trees w.tree.name) q)
write_here w s q there = go (s.trees w.tree.name) there
  where
    go : (o : Option NamedTree) → is_some o ≡ true → value_in ((after_write_on o w s).trees w.tree.name) q ≡ cond (eq_by_cmp key_cmp q w.key) w.value (value_in o q)
    go None e = cc
    go (Some t) e = ap (λ o. value_in o q) (put_name_here s.trees w.tree.name (Some (record t { map = (answer_of_write t w).map }))) ∙ written t.merge w.key w.value t.map q

-- ---- the writes of a batch

pub writes_elsewhere : (tree : Tree) (ws : Writes) (s : State) (name : Key) → name ≢ tree.name → (after_writes (writes_on tree ws) s).trees name ≡ s.trees name
writes_elsewhere tree [] s name off = refl
writes_elsewhere tree (w ∷ ws) s name off =
    let first : Write = record { tree = tree; key = w.0; value = w.1 } in
    writes_elsewhere tree ws (after_write first s) name off ∙ write_elsewhere first s name off

pub writes_keep : (ws : List Write) (s : State) (name : Key) → is_some ((after_writes ws s).trees name) ≡ is_some (s.trees name)
writes_keep [] s name = refl
writes_keep (w ∷ ws) s name = writes_keep ws (after_write w s) name ∙ write_keeps w s name

-- what was written of the key, or what it had
abbrev pub written_or : Option (Option Key) → Option Key → Option Key
written_or None before = before
written_or (Some value) before = value

untied : (o : Ordering) → is_lt o ≡ true → is_eq o ≡ false
untied Less e = refl
untied Equal e = cc
untied Greater e = cc

-- a key below all others is not among them
below_found : {X : Type 0} (key : Key) (es : List (Key × X)) → below_all key_cmp key es ≡ true → find key_cmp key es ≡ None
below_found key [] e = refl
below_found key (d ∷ es) e =
    let parts = both_true _ _ e in
    ap (λ b. cond b (Some d.1) (find key_cmp key es)) (untied (key_cmp key d.0) parts.0) ∙ below_found key es parts.1

pub writes_here : (tree : Tree) (ws : Writes) (s : State) (q : Key) → Rises ws → is_some (s.trees tree.name) ≡ true → value_in ((after_writes (writes_on tree ws) s).trees tree.name) q ≡ written_or (find key_cmp q ws) (value_in (s.trees tree.name) q)
writes_here tree [] s q rises there = refl
writes_here tree (w ∷ ws) s q rises there =
    let first : Write = record { tree = tree; key = w.0; value = w.1 } in
    let parts = both_true _ _ rises in
    writes_here tree ws (after_write first s) q parts.1 (write_keeps first s tree.name ∙ there)
    ∙ ap (written_or (find key_cmp q ws)) (write_here first s q there)
    ∙ joined (eq_by_cmp key_cmp q w.0) refl
  where
    joined : (b : Bool) → eq_by_cmp key_cmp q w.0 ≡ b → written_or (find key_cmp q ws) (cond b w.1 (value_in (s.trees tree.name) q)) ≡ written_or (cond b (Some w.1) (find key_cmp q ws)) (value_in (s.trees tree.name) q)
    joined true p = ap (λ o. written_or o w.1) (ap (λ k. find key_cmp k ws) (tied q w.0 p) ∙ below_found w.0 ws (both_true _ _ rises).0)
    joined false p = refl

-- ---- writes that come one after the other

pub after_both : (vs ws : List Write) (s : State) → after_writes (vs ++ ws) s ≡ after_writes ws (after_writes vs s)
after_both [] ws s = refl
after_both (v ∷ vs) ws s = after_both vs ws (after_write v s)

pub writes_of_both : (some more : List (Tree × Writes)) → writes_of (some ++ more) ≡ writes_of some ++ writes_of more
writes_of_both [] more = refl
writes_of_both (b ∷ some) more = ap (λ ws. writes_on b.0 b.1 ++ ws) (writes_of_both some more) ∙ sym (append_assoc (writes_on b.0 b.1) (writes_of some) (writes_of more))

-- .. of batches and one more
pub after_one_more : (before : List (Tree × Writes)) (b : Tree × Writes) (s : State) → after_writes (writes_of (before ++ b ∷ [])) s ≡ after_writes (writes_on b.0 b.1) (after_writes (writes_of before) s)
after_one_more before b s =
    ap (λ ws. after_writes ws s) (writes_of_both before (b ∷ []) ∙ ap (λ ws. writes_of before ++ ws) (append-nil (writes_on b.0 b.1)))
    ∙ after_both (writes_of before) (writes_on b.0 b.1) s

-- ---- the batches that are made, and a key that is to have a value

-- one more batch on the tree, or on another
pub made_here : (before : List (Tree × Writes)) (b : Tree × Writes) (s : State) (tree : Tree) (q : Key) → Rises b.1 → is_some (s.trees tree.name) ≡ true → b.0.name ≡ tree.name
    → value_in ((after_writes (writes_of (before ++ b ∷ [])) s).trees tree.name) q ≡ written_or (find key_cmp q b.1) (value_in ((after_writes (writes_of before) s).trees tree.name) q)
made_here before b s tree q rises there same =
    let then = after_writes (writes_of before) s in
    ap (λ (z : State). value_in (z.trees tree.name) q) (after_one_more before b s)
    ∙ ap (λ n. value_in ((after_writes (writes_on b.0 b.1) then).trees n) q) (sym same)
    ∙ writes_here b.0 b.1 then q rises (ap (λ n. is_some (then.trees n)) same ∙ writes_keep (writes_of before) s tree.name ∙ there)
    ∙ ap (λ n. written_or (find key_cmp q b.1) (value_in (then.trees n) q)) same

pub made_elsewhere : (before : List (Tree × Writes)) (b : Tree × Writes) (s : State) (tree : Tree) (q : Key) → tree.name ≢ b.0.name
    → value_in ((after_writes (writes_of (before ++ b ∷ [])) s).trees tree.name) q ≡ value_in ((after_writes (writes_of before) s).trees tree.name) q
made_elsewhere before b s tree q off =
    ap (λ (z : State). value_in (z.trees tree.name) q) (after_one_more before b s)
    ∙ ap (λ o. value_in o q) (writes_elsewhere b.0 b.1 (after_writes (writes_of before) s) tree.name off)

-- ---- which writes of a batch change something

-- the keys before one that comes in its turn are others
pub not_before : {X : Type 0} (done : List (Key × X)) (key : Key) (value : X) (more : List (Key × X)) → is_sorted key_cmp (done ++ (key, value) ∷ more) ≡ true → find key_cmp key done ≡ None
not_before [] key value more rises = refl
not_before {X = X} (d ∷ done) key value more rises =
    let parts = both_true _ _ rises in
    ap (λ b. cond b (Some d.1) (find key_cmp key done)) (turned key d.0 ∙ untied (key_cmp d.0 key) (later done parts.0)) ∙ not_before done key value more parts.1
  where
    later : (es : List (Key × X)) → below_all key_cmp d.0 (es ++ (key, value) ∷ more) ≡ true → is_lt (key_cmp d.0 key) ≡ true
    later [] e = (both_true _ _ e).0
    later (x ∷ es) e = later es (both_true _ _ e).1

-- so that the writes before it leave its value
pub still_there : (tree : Tree) (done : Writes) (key : Key) (value : Option Key) (more : Writes) (s : State) → Rises (done ++ (key, value) ∷ more) → is_some (s.trees tree.name) ≡ true
    → value_in ((after_writes (writes_on tree done) s).trees tree.name) key ≡ value_in (s.trees tree.name) key
still_there tree done key value more s rises there = writes_here tree done s key (beginning done rises) there ∙ ap (λ o. written_or o (value_in (s.trees tree.name) key)) (not_before done key value more rises)
  where
    joined : (a b : Bool) → a ≡ true → b ≡ true → a && b ≡ true
    joined true b p q = q
    joined false b p q = cc

    below : (x : Key) (es : Writes) → below_all key_cmp x (es ++ (key, value) ∷ more) ≡ true → below_all key_cmp x es ≡ true
    below x [] e = refl
    below x (d ∷ es) e = let parts = both_true _ _ e in joined _ _ parts.0 (below x es parts.1)

    beginning : (es : Writes) → Rises (es ++ (key, value) ∷ more) → Rises es
    beginning [] e = refl
    beginning (d ∷ es) e = let parts = both_true _ _ e in joined _ _ (below d.0 es parts.0) (beginning es parts.1)

abbrev pub job_of : Write → Job
job_of w = record { tree = w.tree; call = call_of_write w }

-- a write brings an event where its value does not stand
pub brings : (o : Option NamedTree) (w : Write) → is_some o ≡ true → jobs_of_write o w ≡ cond (same_value (value_in o w.key) w.value) [] (job_of w ∷ [])
brings None w e = cc
brings (Some t) w e = go w.key w.value
  where
    set : (b : Bool) (key v : Key) → map (λ e. job_of w) (option_to_list (event_of (cond b effect.Nothing (effect.Set v)) key)) ≡ cond b [] (job_of w ∷ [])
    set true key v = refl
    set false key v = refl

    over : (key v : Key) (found : Option Key) → map (λ e. job_of w) (option_to_list (event_of (decision_of t.merge (Insert key v) found).effect key)) ≡ cond (same_value found (Some v)) [] (job_of w ∷ [])
    over key v None = refl
    over key v (Some x) = set (bytes_eq x v) key v

    out : (key : Key) (found : Option Key) → map (λ e. job_of w) (option_to_list (event_of (decision_of t.merge (Remove key) found).effect key)) ≡ cond (same_value found None) [] (job_of w ∷ [])
    out key None = refl
    out key (Some x) = refl

    go : (key : Key) (value : Option Key) → map (λ e. job_of w) (option_to_list (answer_of t.merge (call_with key value) t.map).event) ≡ cond (same_value (find key_cmp key t.map) value) [] (job_of w ∷ [])
    go key None = out key (find key_cmp key t.map)
    go key (Some v) = over key v (find key_cmp key t.map)
