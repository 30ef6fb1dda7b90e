-- An import of an export gives a database that holds nothing the maps of the other.
use Rattle.std.proofs.Common.{◌≡◌, ◌⊎◌, ℕ, Bool, true, false, cond, List, [], ◌∷◌, ◌++◌, append-nil, append_assoc, unwrap_or, Option, Some, None, option_map, Less, Equal, is_eq, Result, Ok, Err, OnOk, sym, refl, ap, ◌∙◌, subst, inl, inr}
use Rattle.std.specs.FinMap.Entries.{find, is_sorted, below_all}
use Rattle.std.specs.List.{AllByRecursion}
use Rattle.std.specs.Ordering.{eq_by_cmp, nat_cmp}
use Rattle.std.specs.Str.{bytes_eq}
use Rattle.std.proofs.lemmas.Cmp.{tied_itself}
use Rattle.sled_nodes.proofs.Basics.{none_some, some_is, both_true, is_less, key_total, tied}
use Rattle.sled_nodes.specs.Order.{Key, key_cmp, Below}
use Rattle.sled_store.specs.Update.{put_name}
use Rattle.sled_store.specs.theory.Facts.{put_name_here, same_name, name_itself, other_name}
use Rattle.sled_store.specs.Store.{Store, now}
use Rattle.sled_nodes.specs.declared.error.Error.{Error}
use Rattle.sled_model.specs.Maps.{Map, Maps, Merge}
use Rattle.sled_model.specs.Answer.{answer_of}
use Rattle.sled_model.specs.Collections.{Content}
use Rattle.sled_model.specs.Imports.{Part, OpensName, Puts, puts_of, parts_of, does_part_as, DoesParts, NoPart, OnePart}
use Rattle.sled_model.specs.State.{State, NamedTree, maps_of}
use Rattle.sled_model.specs.Whole.{state_opened}
use Rattle.sled_model.specs.declared.call.Call.TheVariants.{Insert}
use Rattle.sled_model.proofs.Shapes.{new_tree}
use Rattle.tree_laws.specs.Contents.{trees_of}
use Rattle.sled.specs.Values.{DbValue, db_state, numbers_of, named}
use Rattle.sled.specs.Sound.{IsDb, MapsAscend}
use Rattle.tree_pages.specs.Export.{collections}
use Rattle.sled.specs.Imports.{ImportDecided}
use Rattle.example_databases.specs.Copies.{HoldsNothing, HasAllOf}
use Rattle.example_databases.proofs.Queueing.{inserted}

-- ---- maps that rise

-- the keys before a pair are below its key
at_end : (k : Key) (xs : Map) (p : Key × Key) (ys : Map) → below_all key_cmp k (xs ++ p ∷ ys) ≡ true → Below k p.0
at_end k [] p ys t = is_less (key_cmp k p.0) (both_true _ _ t).0
at_end k (x ∷ xs) p ys t = at_end k xs p ys (both_true _ _ t).1

before : (xs : Map) (p : Key × Key) (ys : Map) → is_sorted key_cmp (xs ++ p ∷ ys) ≡ true → AllByRecursion (λ e. Below e.0 p.0) xs
before [] p ys t = tt
before (x ∷ xs) p ys t = let s = both_true _ _ t in (at_end x.0 xs p ys s.0, before xs p ys s.1)

-- ---- what parts make of the tree of a name

-- the pairs of a tree, if there is one
abbrev held : Option NamedTree → Map
held None = []
held (Some t) = t.map

-- the pairs that parts put into the tree of this name
abbrev puts_at : Key → List Part → Map
puts_at name [] = []
puts_at name (OpensName n ∷ parts) = puts_at name parts
puts_at name (Puts n key value ∷ parts) = cond (bytes_eq name n) ((key, value) ∷ puts_at name parts) (puts_at name parts)

opened_held : (o : Option NamedTree) (s : State) (n name : Key) → s.trees n ≡ o → held ((state_opened o s n).trees name) ≡ held (s.trees name)
opened_held (Some t) s n name e = refl
opened_held None s n name e = go (bytes_eq name n) refl
  where
    go : (b : Bool) → bytes_eq name n ≡ b → held (cond b (Some (new_tree s)) (s.trees name)) ≡ held (s.trees name)
    go true is = sym (ap held (ap s.trees (same_name name n is) ∙ e))
    go false is = refl

-- a tree after a pair was inserted
abbrev with_pair : NamedTree → Key → Key → NamedTree
with_pair t key value = record t { map = (answer_of t.merge (Insert key value) t.map).map }

-- a part that is done takes its pair from those to come to those of the tree, where the keys of all rise
part_held : (name : Key) (a m : State) (part : Part) (maps : List Maps) (parts : List Part) → does_part_as a part m maps → is_sorted key_cmp (held (a.trees name) ++ puts_at name (part ∷ parts)) ≡ true → held (m.trees name) ++ puts_at name parts ≡ held (a.trees name) ++ puts_at name (part ∷ parts)
part_held name a m (OpensName n) maps parts d t = ap (λ x. x ++ puts_at name parts) (ap (λ (s : State). held (s.trees name)) d.0 ∙ opened_held (a.trees n) a n name refl)
part_held name a m (Puts n key value) maps parts d t = go (bytes_eq name n) refl t
  where
    after : (c : Bool) → bytes_eq name n ≡ c → held (m.trees name) ≡ held (cond c (Some (with_pair d.named key value)) (a.trees name))
    after c same = ap (λ (s : State). held (s.trees name)) d.is ∙ ap (λ c. held (cond c (Some (with_pair d.named key value)) (a.trees name))) same

    go : (c : Bool) → bytes_eq name n ≡ c → is_sorted key_cmp (held (a.trees name) ++ cond c ((key, value) ∷ puts_at name parts) (puts_at name parts)) ≡ true → held (m.trees name) ++ puts_at name parts ≡ held (a.trees name) ++ cond (bytes_eq name n) ((key, value) ∷ puts_at name parts) (puts_at name parts)
    go true same t =
        let was : held (a.trees name) ≡ d.named.map = ap held (ap a.trees (same_name name n same) ∙ d.there) in
        let below : AllByRecursion (λ e. Below e.0 key) d.named.map = before d.named.map (key, value) (puts_at name parts) (subst (λ x. is_sorted key_cmp (x ++ (key, value) ∷ puts_at name parts) ≡ true) was t) in
        let is_now : held (m.trees name) ≡ held (a.trees name) ++ (key, value) ∷ [] = after true same ∙ inserted d.named.merge key value d.named.map below ∙ ap (λ x. x ++ (key, value) ∷ []) (sym was) in
        ap (λ x. x ++ puts_at name parts) is_now
        ∙ append_assoc (held (a.trees name)) ((key, value) ∷ []) (puts_at name parts)
        ∙ ap (λ c. held (a.trees name) ++ cond c ((key, value) ∷ puts_at name parts) (puts_at name parts)) (sym same)
    go false same t = ap (λ x. x ++ puts_at name parts) (after false same) ∙ ap (λ c. held (a.trees name) ++ cond c ((key, value) ∷ puts_at name parts) (puts_at name parts)) (sym same)

-- after the parts the tree has its pairs of before and behind them those that were put, where their keys rise
done_at : (name : Key) {a b : State} {parts : List Part} {maps : List Maps} → DoesParts a parts b maps → is_sorted key_cmp (held (a.trees name) ++ puts_at name parts) ≡ true → held (b.trees name) ≡ held (a.trees name) ++ puts_at name parts
done_at name {a = a} NoPart t = sym (append-nil (held (a.trees name)))
done_at name {a = a} (OnePart {m = m} {part = part} {parts = parts} added one more) t =
    let e = part_held name a m part added parts one t in
    done_at name more (subst (λ x. is_sorted key_cmp x ≡ true) (sym e) t) ∙ e

-- ---- a tree that is there stays, and a name that is opened has one

abbrev IsThere : State → Key → Type 0
IsThere s name = (t : NamedTree) × (s.trees name ≡ Some t)

put_there : (f : Key → Option NamedTree) (n : Key) (x : NamedTree) (name : Key) (t : NamedTree) → f name ≡ Some t → (u : NamedTree) × (put_name f n (Some x) name ≡ Some u)
put_there f n x name t e = go (bytes_eq name n)
  where
    go : (b : Bool) → (u : NamedTree) × (cond b (Some x) (f name) ≡ Some u)
    go true = (x, refl)
    go false = (t, e)

part_stays : (a m : State) (part : Part) (maps : List Maps) (name : Key) → does_part_as a part m maps → IsThere a name → IsThere m name
part_stays a m (OpensName n) maps name d (t, e) = subst (λ (s : State). IsThere s name) (sym d.0) (go (a.trees n))
  where
    go : (o : Option NamedTree) → IsThere (state_opened o a n) name
    go (Some u) = (t, e)
    go None = put_there a.trees n (new_tree a) name t e
part_stays a m (Puts n key value) maps name d (t, e) = subst (λ (s : State). IsThere s name) (sym d.is) (put_there a.trees n (record (d.named) { map = (answer_of d.named.merge (Insert key value) d.named.map).map }) name t e)

parts_stay : (name : Key) {a b : State} {parts : List Part} {maps : List Maps} → DoesParts a parts b maps → IsThere a name → IsThere b name
parts_stay name NoPart t = t
parts_stay name {a = a} (OnePart {m = m} {part = part} added one more) t = parts_stay name more (part_stays a m part added name one t)

-- some part opens the name
abbrev AreOpening : Key → List Part → Type 0
AreOpening name [] = ⊥
AreOpening name (OpensName n ∷ parts) = (n ≡ name) ⊎ AreOpening name parts
AreOpening name (Puts n key value ∷ parts) = AreOpening name parts

opened_there : (a : State) (name : Key) (o : Option NamedTree) → a.trees name ≡ o → IsThere (state_opened o a name) name
opened_there a name (Some t) e = (t, e)
opened_there a name None e = (new_tree a, put_name_here a.trees name (Some (new_tree a)))

part_opens : (name : Key) (a m : State) (part : Part) (maps : List Maps) (parts : List Part) → does_part_as a part m maps → AreOpening name (part ∷ parts) → IsThere m name ⊎ AreOpening name parts
part_opens name a m (OpensName n) maps parts d (inl e) = inl (subst (λ (s : State). IsThere s name) (sym d.0) (subst (λ z. IsThere (state_opened (a.trees z) a z) name) (sym e) (opened_there a name (a.trees name) refl)))
part_opens name a m (OpensName n) maps parts d (inr o) = inr o
part_opens name a m (Puts n key value) maps parts d o = inr o

parts_open : (name : Key) {a b : State} {parts : List Part} {maps : List Maps} → DoesParts a parts b maps → AreOpening name parts → IsThere b name
parts_open name NoPart o = absurd o
parts_open name {a = a} (OnePart {m = m} {part = part} {parts = parts} added one more) o = elim (part_opens name a m part added parts one o) [
  | inl there ↦ parts_stay name more there
  | inr later ↦ parts_open name more later
]

-- ---- the parts of an export

puts_same : (name : Key) (ps : Map) (others : List Part) → puts_at name (puts_of name ps others) ≡ ps ++ puts_at name others
puts_same name [] others = refl
puts_same name (p ∷ ps) others = ap (λ c. cond c (p ∷ puts_at name (puts_of name ps others)) (puts_at name (puts_of name ps others))) (name_itself name) ∙ ap (λ l. p ∷ l) (puts_same name ps others)

puts_other : (name n : Key) (ps : Map) (others : List Part) → bytes_eq name n ≡ false → puts_at name (puts_of n ps others) ≡ puts_at name others
puts_other name n [] others off = refl
puts_other name n (p ∷ ps) others off = ap (λ c. cond c (p ∷ puts_at name (puts_of n ps others)) (puts_at name (puts_of n ps others))) off ∙ puts_other name n ps others off

opening_more : (name n : Key) (ps : Map) (others : List Part) → AreOpening name others → AreOpening name (puts_of n ps others)
opening_more name n [] others o = o
opening_more name n (p ∷ ps) others o = opening_more name n ps others o

below_other : (k n : Key) → Below k n → bytes_eq k n ≡ false
below_other k n below = other_name k n (λ e. apart (sym below ∙ ap (λ z. key_cmp z n) e ∙ tied_itself key_total n))
  where
    apart : Less ≡ Equal → ⊥
    apart e = cc

none_later : (maps : Maps) (k : Key) (ts : List (Key × ℕ)) → below_all key_cmp k ts ≡ true → puts_at k (parts_of (collections maps ts)) ≡ []
none_later maps k [] t = refl
none_later maps k (r ∷ rs) t = let s = both_true _ _ t in puts_other k r.0 (unwrap_or (maps r.0) []) (parts_of (collections maps rs)) (below_other k r.0 (is_less (key_cmp k r.0) s.0)) ∙ none_later maps k rs s.1

-- names that differ by their order differ by the test
apart_by_order : (a b : Key) → eq_by_cmp key_cmp a b ≡ false → bytes_eq a b ≡ false
apart_by_order a b off = other_name a b (λ e. differ (sym off ∙ ap (λ z. eq_by_cmp key_cmp z b) e ∙ ap is_eq (tied_itself key_total b)))
  where
    differ : false ≡ true → ⊥
    differ e = cc

exported : (maps : Maps) (name : Key) (n : ℕ) (ts : List (Key × ℕ)) → is_sorted key_cmp ts ≡ true → find key_cmp name ts ≡ Some n → (puts_at name (parts_of (collections maps ts)) ≡ unwrap_or (maps name) []) × AreOpening name (parts_of (collections maps ts))
exported maps name n [] t e = none_some e
exported maps name n (r ∷ rs) t e = go (exported maps name n rs (both_true _ _ t).1) (eq_by_cmp key_cmp name r.0) refl e
  where
    here : puts_at r.0 (puts_of r.0 (unwrap_or (maps r.0) []) (parts_of (collections maps rs))) ≡ (unwrap_or (maps r.0) [])
    here = puts_same r.0 (unwrap_or (maps r.0) []) (parts_of (collections maps rs)) ∙ ap (λ l. (unwrap_or (maps r.0) []) ++ l) (none_later maps r.0 rs (both_true _ _ t).0) ∙ append-nil (unwrap_or (maps r.0) [])

    go : (find key_cmp name rs ≡ Some n → (puts_at name (parts_of (collections maps rs)) ≡ unwrap_or (maps name) []) × AreOpening name (parts_of (collections maps rs))) → (b : Bool) → eq_by_cmp key_cmp name r.0 ≡ b → cond b (Some r.1) (find key_cmp name rs) ≡ Some n
        → (puts_at name (puts_of r.0 (unwrap_or (maps r.0) []) (parts_of (collections maps rs))) ≡ unwrap_or (maps name) []) × ((r.0 ≡ name) ⊎ AreOpening name (puts_of r.0 (unwrap_or (maps r.0) []) (parts_of (collections maps rs))))
    go rest true same e = let is = tied name r.0 same in (subst (λ z. puts_at z (puts_of r.0 (unwrap_or (maps r.0) []) (parts_of (collections maps rs))) ≡ unwrap_or (maps z) []) (sym is) here, inl (sym is))
    go rest false same e = let later = rest e in (puts_other name r.0 (unwrap_or (maps r.0) []) (parts_of (collections maps rs)) (apart_by_order name r.0 same) ∙ later.0, inr (opening_more name r.0 (unwrap_or (maps r.0) []) (parts_of (collections maps rs)) later.1))

-- ---- the copy

module _ {P M Q N : Type 0} (store : P → Store) (meant : M → Merge) (other : Q → Store) (other_meant : N → Merge) (first : DbValue P M) (old new : DbValue Q N) where
  abbrev operators : ℕ → Option Merge
  operators n = option_map meant (find nat_cmp n first.operators)

  listed : (name : Key) (tree : NamedTree) → (db_state store meant first).trees name ≡ Some tree → ((n : ℕ) × (find key_cmp name first.trees ≡ Some n)) × (trees_of (now (store first.pages)) name ≡ Some tree.map)
  listed name tree e = go (numbers_of first.trees name) (trees_of (now (store first.pages)) name) refl refl e
    where
      go : (k : Option ℕ) (m : Option Map) → numbers_of first.trees name ≡ k → trees_of (now (store first.pages)) name ≡ m → named k m operators ≡ Some tree → ((n : ℕ) × (find key_cmp name first.trees ≡ Some n)) × (trees_of (now (store first.pages)) name ≡ Some tree.map)
      go None m a b e = none_some e
      go (Some n) None a b e = none_some e
      go (Some n) (Some m) a b e = ((n, a), b ∙ ap (λ (t : NamedTree). Some t.map) (some_is e))

  nothing : HoldsNothing (db_state other other_meant old) → (name : Key) → held ((db_state other other_meant old).trees name) ≡ []
  nothing holds name = go ((db_state other other_meant old).trees name) refl
    where
      go : (o : Option NamedTree) → (db_state other other_meant old).trees name ≡ o → held o ≡ []
      go None e = refl
      go (Some t) e = holds.is name t e

  pub copied : IsDb store first → MapsAscend (maps_of (db_state store meant first)) → HoldsNothing (db_state other other_meant old) → (all : List Content) → all ≡ collections (trees_of (now (store first.pages))) first.trees → ImportDecided other other_meant old all new
      → HasAllOf (db_state store meant first) (db_state other other_meant new)
  copied db ascend holds all is decided = record {
    is = λ name tree there.
        let l = listed name tree there in
        let given = exported (trees_of (now (store first.pages))) name l.0.0 first.trees db.ascends l.0.1 in
        let does = subst (λ cs. DoesParts (db_state other other_meant old) (parts_of cs) (db_state other other_meant new) decided.maps) is (decided.decides (λ n. None) 0).does in
        let has = parts_open name does given.1 in
        let puts : puts_at name (parts_of (collections (trees_of (now (store first.pages))) first.trees)) ≡ tree.map = given.0 ∙ ap (λ o. unwrap_or o []) l.1 in
        let whole : held ((db_state other other_meant old).trees name) ++ puts_at name (parts_of (collections (trees_of (now (store first.pages))) first.trees)) ≡ tree.map = ap (λ x. x ++ puts_at name (parts_of (collections (trees_of (now (store first.pages))) first.trees))) (nothing holds name) ∙ puts in
        let rises : is_sorted key_cmp tree.map ≡ true = ascend.is name tree.map (ap (option_map (λ (t : NamedTree). t.map)) there) in
        record {
          named = has.0;
          there = has.1;
          same = sym (ap held has.1) ∙ done_at name does (subst (λ x. is_sorted key_cmp x ≡ true) (sym whole) rises) ∙ whole;
        };
  }

  pub all_copied : IsDb store first → MapsAscend (maps_of (db_state store meant first)) → (all : List Content) → all ≡ collections (trees_of (now (store first.pages))) first.trees → (r : Result (Unit {0}) Error) → OnOk r (ImportDecided other other_meant old all new)
      → OnOk r (HoldsNothing (db_state other other_meant old) → HasAllOf (db_state store meant first) (db_state other other_meant new))
  all_copied db ascend all is (Ok u) d = λ holds. copied db ascend holds all is d
  all_copied db ascend all is (Err e) d = tt
