-- An import loses nothing, whether it is decided or refused midway.
use Rattle.std.proofs.Common.{◌≡◌, Bool, true, false, cond, List, Option, Some, None, Result, Ok, Err, OnOk, IfErr, sym, refl, ap, ◌∙◌, subst, inl, inr}
use Rattle.std.specs.FinMap.Entries.{find}
use Rattle.std.specs.Str.{bytes_eq}
use Rattle.sled_nodes.proofs.Basics.{none_some, some_is}
use Rattle.sled_nodes.specs.Order.{Key, key_cmp}
use Rattle.sled_store.specs.theory.Facts.{same_name}
use Rattle.sled_store.specs.Store.{Store}
use Rattle.sled_nodes.specs.declared.error.Error.{Error}
use Rattle.sled_model.specs.Maps.{Maps, Merge}
use Rattle.sled_model.specs.Answer.{answer_of}
use Rattle.sled_model.specs.Collections.{Content}
use Rattle.sled_model.specs.Imports.{Part, OpensName, Puts, does_part_as, DoesParts, NoPart, OnePart}
use Rattle.sled_model.specs.State.{State, NamedTree}
use Rattle.sled_model.specs.Whole.{state_opened}
use Rattle.sled_model.specs.declared.call.Call.TheVariants.{Insert}
use Rattle.sled_model.proofs.Shapes.{new_tree}
use Rattle.sled.specs.Values.{DbValue, db_state}
use Rattle.sled.specs.Imports.{ImportDecided, ImportRefused}
use Rattle.example_parts.proofs.Keys.{insert_there}
use Rattle.example_databases.specs.Copies.{KeepsTree, LosesNothing}

as_it_is : (s : State) (name : Key) (tree : NamedTree) → s.trees name ≡ Some tree → KeepsTree s name tree
as_it_is s name tree there = record { named = tree; there = there; number = refl; merge = refl; pairs = λ key value is. is }

pub nothing_done : (s : State) → LosesNothing s s
nothing_done s = record { is = as_it_is s }

then_more : (a m b : State) → LosesNothing a m → LosesNothing m b → LosesNothing a b
then_more a m b first second = record {
  is = λ name tree there.
      let f = first.is name tree there in
      let g = second.is name f.named f.there in
      record { named = g.named; there = g.there; number = g.number ∙ f.number; merge = g.merge ∙ f.merge; pairs = λ key value is. g.pairs key value (f.pairs key value is) };
}

opened_keeps : (s : State) (n : Key) (o : Option NamedTree) → s.trees n ≡ o → LosesNothing s (state_opened o s n)
opened_keeps s n (Some t) e = nothing_done s
opened_keeps s n None e = record { is = λ name tree there. record { named = tree; there = go name tree there (bytes_eq name n) refl; number = refl; merge = refl; pairs = λ key value is. is } }
  where
    go : (name : Key) (tree : NamedTree) → s.trees name ≡ Some tree → (b : Bool) → bytes_eq name n ≡ b → cond b (Some (new_tree s)) (s.trees name) ≡ Some tree
    go name tree there true same = none_some (sym e ∙ sym (ap s.trees (same_name name n same)) ∙ there)
    go name tree there false same = there

-- a tree after a pair was inserted
abbrev with_pair : NamedTree → Key → Key → NamedTree
with_pair t key value = record t { map = (answer_of t.merge (Insert key value) t.map).map }

-- .. whose key was absent has the pairs that it had
pair_keeps : (t : NamedTree) (k v : Key) → find key_cmp k t.map ≡ None → (key value : Key) → find key_cmp key t.map ≡ Some value → find key_cmp key (with_pair t k v).map ≡ Some value
pair_keeps t k v absent key value is = insert_there t.merge key k v t.map (λ same. none_some (sym absent ∙ sym (ap (λ x. find key_cmp x t.map) same) ∙ is)) ∙ is

part_keeps : (a m : State) (part : Part) (maps : List Maps) → does_part_as a part m maps → LosesNothing a m
part_keeps a m (OpensName n) maps d = subst (λ (s : State). LosesNothing a s) (sym d.0) (opened_keeps a n (a.trees n) refl)
part_keeps a m (Puts n k v) maps d = record { is = λ name tree there. go name tree there (bytes_eq name n) refl }
  where
    now : (name : Key) (b : Bool) → bytes_eq name n ≡ b → m.trees name ≡ cond b (Some (with_pair d.named k v)) (a.trees name)
    now name b same = ap (λ (s : State). s.trees name) d.is ∙ ap (λ c. cond c (Some (with_pair d.named k v)) (a.trees name)) same

    go : (name : Key) (tree : NamedTree) → a.trees name ≡ Some tree → (b : Bool) → bytes_eq name n ≡ b → KeepsTree m name tree
    go name tree there true same =
        let is : d.named ≡ tree = some_is (sym d.there ∙ sym (ap a.trees (same_name name n same)) ∙ there) in
        record {
          named = with_pair d.named k v;
          there = now name true same;
          number = ap (λ (t : NamedTree). t.number) is;
          merge = ap (λ (t : NamedTree). t.merge) is;
          pairs = subst (λ (t : NamedTree). (key value : Key) → find key_cmp key t.map ≡ Some value → find key_cmp key (with_pair d.named k v).map ≡ Some value) is (pair_keeps d.named k v d.absent);
        }
    go name tree there false same = record { named = tree; there = now name false same ∙ there; number = refl; merge = refl; pairs = λ key value is. is }

parts_keep : {a b : State} {parts : List Part} {maps : List Maps} → DoesParts a parts b maps → LosesNothing a b
parts_keep {a = a} NoPart = nothing_done a
parts_keep {a = a} {b = b} (OnePart {m = m} {part = part} added one more) = then_more a m b (part_keeps a m part added one) (parts_keep more)

module _ {Q N : Type 0} (store : Q → Store) (meant : N → Merge) (old new : DbValue Q N) where
  decided_keeps : (all : List Content) → ImportDecided store meant old all new → LosesNothing (db_state store meant old) (db_state store meant new)
  decided_keeps all d = parts_keep (d.decides (λ n. None) 0).does

  refused_keeps : (all : List Content) (e : Error) → ImportRefused store meant old all e new → LosesNothing (db_state store meant old) (db_state store meant new)
  refused_keeps all e d = elim d.refuses [
    | inl test ↦ subst (λ (x : DbValue Q N). LosesNothing (db_state store meant old) (db_state store meant x)) (sym test.1) (nothing_done (db_state store meant old))
    | inr stops ↦ subst (λ (s : State). LosesNothing (db_state store meant old) s) (sym (stops.stays (λ n. None) 0)) (parts_keep (stops.state (λ n. None) 0).does)
  ]

  -- however the import came out, nothing is lost
  pub import_keeps : (all : List Content) (r : Result (Unit {0}) Error) → OnOk r (ImportDecided store meant old all new) → IfErr r (λ e. ImportRefused store meant old all e new) → LosesNothing (db_state store meant old) (db_state store meant new)
  import_keeps all (Ok u) ok err = decided_keeps all ok
  import_keeps all (Err e) ok err = refused_keeps all e err
