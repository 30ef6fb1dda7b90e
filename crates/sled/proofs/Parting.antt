-- What imports make of the maps, and what a crash may leave of them.
use Rattle.std.proofs.Common.{◌≡◌, ◌⊎◌, ℕ, Bool, true, false, cond, List, [], ◌∷◌, ◌++◌, append_assoc, Option, Some, None, option_map, sym, refl, ap, ◌∙◌, subst, inl, inr}
use Rattle.std.specs.Prelude.{is_none}
use Rattle.std.specs.FinMap.Entries.{find, put}
use Rattle.std.specs.Str.{bytes_eq}
use Rattle.sled_nodes.specs.Order.{Key, key_cmp}
use Rattle.sled_store.specs.In.{In}
use Rattle.sled_store.specs.Store.{Store}
use Rattle.sled_store.specs.theory.Facts.{same_name}
use Rattle.sled_nodes.specs.declared.error.Error.{Error}
use Rattle.sled_model.specs.Maps.{Map, Maps, Merge}
use Rattle.sled_model.specs.Answer.{answer_of, map_after, decision_of}
use Rattle.sled_model.specs.Collections.{Content}
use Rattle.sled_model.specs.Imports.{Part, OpensName, Puts, parts_of, does_part_as, DoesParts, NoPart, OnePart, refuses_part}
use Rattle.sled_model.specs.Refusal.{must_refuse_of, cause_of_import, may_refuse_as}
use Rattle.sled_model.specs.State.{State, NamedTree, maps_of}
use Rattle.sled_model.specs.Whole.{state_opened, maps_if}
use Rattle.sled_model.specs.declared.call.Call.TheVariants.{Insert}
use Rattle.sled_model.proofs.Shapes.{new_tree}
use Rattle.tree_laws.proofs.Runs.{In_cases}
use Rattle.sled.specs.Values.{DbValue, db_state}
use Rattle.sled.specs.Imports.{ImportStops, ImportRefused}
use Rattle.sled.specs.Parts.{told_parts, ImportRefusedAfter, parts_before}
use Rattle.sled.specs.Promises.{map_opened}
use Rattle.sled.specs.theory.Imports.{PartsDone}
use Rattle.sled.specs.Wholes.{LeavesMaps}
use Rattle.sled.specs.ManyKeys.{map_after_part, map_after_parts, HaveFirst, ImportsMaps, RefusesImport}
use Rattle.sled.proofs.Clearing.{map_in}

-- ---- one part

-- a new value stands in its place
put_absent : (merge : Option Merge) (key value : Key) (m : Map) → find key_cmp key m ≡ None → (answer_of merge (Insert key value) m).map ≡ put key_cmp key value m
put_absent merge key value m none = ap (λ o. map_after (decision_of merge (Insert key value) o).effect key m) none

opened_map : (s : State) (opened name : Key) (o : Option NamedTree) → s.trees opened ≡ o → maps_of (state_opened o s opened) name ≡ map_after_part (OpensName opened) name (maps_of s name)
opened_map s opened name (Some t) there = go (bytes_eq name opened) refl
  where
    go : (b : Bool) → bytes_eq name opened ≡ b → maps_of s name ≡ cond b (Some (map_opened (maps_of s name))) (maps_of s name)
    go false e = refl
    go true e = let is : maps_of s name ≡ Some t.map = ap (maps_of s) (same_name name opened e) ∙ ap map_in there in is ∙ ap (λ m. Some (map_opened m)) (sym is)
opened_map s opened name None there = go (bytes_eq name opened) refl
  where
    go : (b : Bool) → bytes_eq name opened ≡ b → map_in (cond b (Some (new_tree s)) (s.trees name)) ≡ cond b (Some (map_opened (maps_of s name))) (maps_of s name)
    go false e = refl
    go true e = ap (λ m. Some (map_opened m)) (sym (ap (maps_of s) (same_name name opened e) ∙ ap map_in there))

put_map : (s : State) (into key value name : Key) (t : NamedTree) → s.trees into ≡ Some t → find key_cmp key t.map ≡ None
    → map_in (cond (bytes_eq name into) (Some (record t { map = (answer_of t.merge (Insert key value) t.map).map })) (s.trees name)) ≡ map_after_part (Puts into key value) name (maps_of s name)
put_map s into key value name t there absent = go (bytes_eq name into) refl
  where
    go : (b : Bool) → bytes_eq name into ≡ b → map_in (cond b (Some (record t { map = (answer_of t.merge (Insert key value) t.map).map })) (s.trees name)) ≡ cond b (option_map (put key_cmp key value) (maps_of s name)) (maps_of s name)
    go false e = refl
    go true e = ap (λ (m : Map). Some m) (put_absent t.merge key value t.map absent) ∙ ap (option_map (put key_cmp key value)) (sym (ap (maps_of s) (same_name name into e) ∙ ap map_in there))

part_map : (a b : State) (part : Part) (maps : List Maps) → does_part_as a part b maps → (name : Key) → maps_of b name ≡ map_after_part part name (maps_of a name)
part_map a b (OpensName opened) maps d name = ap (λ s. maps_of s name) d.0 ∙ opened_map a opened name (a.trees opened) refl
part_map a b (Puts into key value) maps d name = let p = d in ap (λ s. maps_of s name) p.is ∙ put_map a into key value name p.named p.there p.absent

-- and the maps that it added are those after it
part_added : (a b : State) (part : Part) (maps : List Maps) → does_part_as a part b maps → (m : Maps) → In m maps → m ≡ maps_of b
part_added a b (OpensName opened) maps d m i = go (a.trees opened) (subst (In m) d.1 i)
  where
    go : (o : Option NamedTree) → In m (maps_if (is_none o) b) → m ≡ maps_of b
    go None (inl e) = e
    go None (inr later) = absurd later
    go (Some t) later = absurd later
part_added a b (Puts into key value) maps d m i = go (subst (In m) d.added i)
  where
    go : In m (maps_of b ∷ []) → m ≡ maps_of b
    go (inl e) = e
    go (inr later) = absurd later

-- ---- parts one after the other

parts_map : {a b : State} {parts : List Part} {maps : List Maps} → DoesParts a parts b maps → (name : Key) → maps_of b name ≡ map_after_parts parts name (maps_of a name)
parts_map NoPart name = refl
parts_map {a = a} {b = b} (OnePart {m = mid} {part = part} {parts = parts} {maps = maps} added one more) name =
    parts_map more name ∙ ap (map_after_parts parts name) (part_map a mid part added one name)

-- some first parts are done in these maps
pub record SomeDone (a : State) (parts : List Part) (m : Maps) : Type 0 where
  pub done : List Part
  pub later : List Part
  pub first : parts ≡ done ++ later
  pub is : (name : Key) → m name ≡ map_after_parts done name (maps_of a name)

some_done : {a b : State} {parts : List Part} {maps : List Maps} → DoesParts a parts b maps → (m : Maps) → In m maps → SomeDone a parts m
some_done NoPart m i = absurd i
some_done {a = a} {b = b} (OnePart {m = mid} {part = part} {parts = parts} {maps = maps} added one more) m i = elim (In_cases added maps m i) [
  | inl k ↦ record { done = part ∷ []; later = parts; first = refl; is = λ name. ap (λ (f : Maps). f name) (part_added a mid part added one m k) ∙ part_map a mid part added one name }
  | inr k ↦
      let s = some_done more m k in record {
        done = part ∷ s.done;
        later = s.later;
        first = ap (λ l. part ∷ l) s.first;
        is = λ name. s.is name ∙ ap (map_after_parts s.done name) (part_map a mid part added one name);
      }
]

-- ---- imports

more_later : (parts done next_on first later : List Part) → parts ≡ done ++ next_on → done ≡ first ++ later → parts ≡ first ++ (later ++ next_on)
more_later parts done next_on first later all e = all ∙ ap (λ l. l ++ next_on) e ∙ append_assoc first later next_on

module _ {P M : Type 0} (store : P → Store) (meant : M → Merge) (old : DbValue P M) (all : List Content) (new : DbValue P M) where
  pub done_changes : PartsDone store meant old (parts_of all) new → ImportsMaps store meant old all new
  done_changes d = record { is = λ name. parts_map (d.does (λ n. None) 0) name }

  pub done_leaves : PartsDone store meant old (parts_of all) new → LeavesMaps store meant (HaveFirst store meant old (parts_of all)) None old new
  done_leaves d = record {
    maps = d.maps;
    each = λ m i. let s = some_done (d.does (λ n. None) 0) m i in record { done = s.done; later = s.later; first = s.first; is = s.is };
    leaves = d.leaves;
  }

  pub import_refused_leaves : (e : Error) → ImportRefused store meant old all e new → LeavesMaps store meant (HaveFirst store meant old (parts_of all)) None old new
  import_refused_leaves e w = record { maps = w.maps; each = λ m i. go m i w.refuses; leaves = w.leaves }
    where
      go : (m : Maps) → In m w.maps → (may_refuse_as (must_refuse_of (db_state store meant old) []) (cause_of_import all) e × (new ≡ old) × (w.maps ≡ [])) ⊎ ImportStops store meant old all e new w.maps → HaveFirst store meant old (parts_of all) m
      go m i (inl at_once) = absurd (subst (In m) at_once.2 i)
      go m i (inr k) =
          let stops = k.state (λ n. None) 0 in
          let s = some_done stops.does m i in record {
            done = s.done;
            later = s.later ++ k.stop.next ∷ k.stop.later;
            first = more_later (parts_of all) k.stop.done (k.stop.next ∷ k.stop.later) s.done s.later stops.all_parts s.first;
            is = s.is;
          }

  stopped_before : (number : ℕ) (e : Error) (maps : List Maps) (is : (may_refuse_as (must_refuse_of (db_state store meant old) []) (cause_of_import all) e × (new ≡ old) × (maps ≡ [])) ⊎ ImportStops store meant old all e new maps)
      → number ≡ told_parts (parts_before store meant is) → RefusesImport store meant old all number e new
  stopped_before number e maps (inl at_once) told = record {
    done = [];
    told = told;
    is = λ name. ap (λ (d : DbValue P M). maps_of (db_state store meant d) name) at_once.1;
    why = inl (refl, at_once.0);
  }
  stopped_before number e maps (inr k) told =
      let stops = k.state (λ n. None) 0 in
      let same = k.stays (λ n. None) 0 in record {
        done = k.stop.done;
        told = told;
        is = λ name. ap (λ s. maps_of s name) same ∙ parts_map stops.does name;
        why = inr (k.stop.next, k.stop.later, stops.all_parts, subst (λ s. refuses_part s (store old.pages) (store new.pages) k.stop.next e) (sym same) stops.refuses);
      }

  pub import_refuses : (number : ℕ) (e : Error) → ImportRefusedAfter store meant old all number e new → RefusesImport store meant old all number e new
  import_refuses number e w = stopped_before number e w.is.maps w.is.refuses w.told
