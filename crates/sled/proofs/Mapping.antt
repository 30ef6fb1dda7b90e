-- What whole calls that are made at once, and those of closures, make of the maps.
use Rattle.std.proofs.Common.{◌≡◌, ◌≢◌, ℕ, zero, suc, Bool, true, false, List, [], ◌∷◌, Option, Some, None, is_some, option_map, Result, Ok, Err, IfOk, OnOk, sym, refl, ap, ◌∙◌, subst, T}
use Rattle.sled_nodes.proofs.Basics.{of_true}
use Rattle.std.specs.FinMap.Entries.{is_sorted}
use Rattle.sled_nodes.specs.Order.{Key, key_cmp}
use Rattle.sled_batch.specs.Batch.{Writes}
use Rattle.sled_store.specs.Store.{Store}
use Rattle.sled_store.specs.theory.Facts.{put_name_here, put_name_elsewhere}
use Rattle.sled_nodes.specs.declared.error.Error.{Error}
use Rattle.sled_model.specs.Maps.{Map, Maps, Merge}
use Rattle.sled_model.specs.Answer.{answer_of}
use Rattle.sled_model.specs.State.{State, NamedTree, maps_of, after_decision_on}
use Rattle.sled_model.specs.Groups.{writes_of, after_writes}
use Rattle.sled_model.specs.Whole.{Pops, after_pop, RemovesLeast, RemovesNone, RemovesOne, OpensTree, state_opened}
use Rattle.sled_model.specs.declared.call.Call.TheVariants.{Remove}
use Rattle.sled_model.specs.declared.call.Whole.{Whole}
use Rattle.sled_model.specs.declared.call.Whole.TheVariants.{Clear, OpenTree}
use Rattle.sled_model.specs.declared.reply.Reply.TheVariants.{Pair, Done}
use Rattle.sled_model.specs.declared.reply.Reply.TheVariants as told
use Rattle.sled_model.specs.declared.tree.Tree.{Tree}
use Rattle.sled_model.proofs.Shapes.{new_tree}
use Rattle.sled.specs.declared.whole.Side.{Side}
use Rattle.sled.specs.declared.whole.Side.TheVariants.{Least, Greatest}
use Rattle.sled.specs.Values.{DbValue, db_state}
use Rattle.sled.specs.Sound.{IsDb}
use Rattle.sled.specs.Direct.{Conducts, WholeDecided, WholeRefused}
use Rattle.sled.specs.Groups.{GroupDecided}
use Rattle.sled.specs.Drops.{DropsTree, drops_as}
use Rattle.sled.specs.Pops.{end_of, pop_of}
use Rattle.sled.specs.Promises.{ChangesMap, RefusesCall, OpensMap, DropsMap, map_opened, without_found}
use Rattle.sled.proofs.Promising.{remove_takes}
use Rattle.sled.proofs.Trees.{maps_ascend}

abbrev map_in : Option NamedTree → Option Map
map_in o = option_map (λ (t : NamedTree). t.map) o

-- ---- states

popped_map : (s : State) (name : Key) (t : NamedTree) → s.trees name ≡ Some t → T (is_sorted key_cmp t.map) → (found : Option (Key × Key)) → maps_of (after_pop s name t found) name ≡ Some (without_found found t.map)
popped_map s name t there sorted None = ap map_in there
popped_map s name t there sorted (Some pair) =
    let answer = answer_of t.merge (Remove pair.0) t.map in
    ap map_in (put_name_here s.trees name (Some (record t { map = answer.map }))) ∙ ap (λ (m : Map). Some m) (remove_takes t.merge pair.0 t.map sorted)

popped_others : (s : State) (name : Key) (t : NamedTree) (found : Option (Key × Key)) (other : Key) → other ≢ name → maps_of (after_pop s name t found) other ≡ maps_of s other
popped_others s name t None other off = refl
popped_others s name t (Some pair) other off = ap map_in (put_name_elsewhere s.trees name other (Some (record t { map = (answer_of t.merge (Remove pair.0) t.map).map })) off)

-- a clear changes no other map
removes_others : (tree : Tree) (n : ℕ) (a b : State) (maps : List Maps) → RemovesLeast tree a n b maps → (other : Key) → other ≢ tree.name → maps_of b other ≡ maps_of a other
removes_others tree zero a b [] RemovesNone other off = refl
removes_others tree (suc n) a b (m ∷ maps) (RemovesOne named pair rest there is more) other off =
    removes_others tree n (after_decision_on a tree.name named (answer_of named.merge (Remove pair.0) named.map)) b maps more other off
    ∙ ap map_in (put_name_elsewhere a.trees tree.name other (Some (record named { map = (answer_of named.merge (Remove pair.0) named.map).map })) off)
removes_others tree zero a b (m ∷ maps) run other off = elim run [ ]
removes_others tree (suc n) a b [] run other off = elim run [ ]

-- .. and the tree that it leaves was there before
removes_from : (tree : Tree) (n : ℕ) (a b : State) (maps : List Maps) → RemovesLeast tree a n b maps → (t : NamedTree) → b.trees tree.name ≡ Some t → (named : NamedTree) × (a.trees tree.name ≡ Some named)
removes_from tree zero a b [] RemovesNone t there = (t, there)
removes_from tree (suc n) a b (m ∷ maps) (RemovesOne named pair rest here is more) t there = (named, here)
removes_from tree zero a b (m ∷ maps) run t there = elim run [ ]
removes_from tree (suc n) a b [] run t there = elim run [ ]

-- ---- calls

module _ {P M : Type 0} (store : P → Store) (meant : M → Merge) (old new : DbValue P M) where
  -- what is claimed of the two maps may be less
  pub claims_less : (tree : Tree) (claim less : Map → Map → Type 0) → ((before after : Map) → claim before after → less before after) → ChangesMap store meant old tree claim new → ChangesMap store meant old tree less new
  claims_less tree claim less follows c = record { before = c.before; was = c.was; after = c.after; becomes = c.becomes; is = follows c.before c.after c.is; others = c.others }

  module _ (tree : Tree) where
    abbrev Popped : (Map → Option (Key × Key) → Type 0) → Option (Key × Key) → Type 0
    Popped is_end found = ChangesMap store meant old tree (λ before after. is_end before found × (after ≡ without_found found before)) new

    pops : IsDb store old → {is_end : Map → Option (Key × Key) → Type 0} {whole : Whole} {maps : List Maps} (found : Option (Key × Key)) → Pops is_end (db_state store meant old) whole tree (Pair found) (db_state store meant new) maps → Popped is_end found
    pops db {is_end = is_end} found p =
        let same : found ≡ p.found = told_pair p.replies in
        let was : maps_of (db_state store meant old) tree.name ≡ Some p.named.map = ap map_in p.there in
        record {
          before = p.named.map;
          was = was;
          after = without_found found p.named.map;
          becomes = ap (λ s. maps_of s tree.name) p.is
              ∙ popped_map (db_state store meant old) tree.name p.named p.there (of_true (is_sorted key_cmp p.named.map) ((maps_ascend store meant old db).is tree.name p.named.map was)) p.found
              ∙ ap (λ f. Some (without_found f p.named.map)) (sym same);
          is = (subst (is_end p.named.map) (sym same) p.ends, refl);
          others = λ other off. ap (λ s. maps_of s other) p.is ∙ popped_others (db_state store meant old) tree.name p.named p.found other off;
        }
      where
        told_pair : {a b : Option (Key × Key)} → Pair a ≡ Pair b → a ≡ b
        told_pair e = cc

    -- a pop, and what it leaves
    pub pop_changes : IsDb store old → (side : Side) (found : Option (Key × Key)) → WholeDecided store meant old (pop_of side tree) (Pair found) new → Popped (end_of side) found × Conducts store (maps_of (db_state store meant new) ∷ []) None old new
    pop_changes db Least found w = let p = w.decides (λ n. None) 0 0 in (pops db found p, subst (λ m. Conducts store m None old new) p.added (record { acts = w.acts; leaves = w.leaves; same = w.same }))
    pop_changes db Greatest found w = let p = w.decides (λ n. None) 0 0 in (pops db found p, subst (λ m. Conducts store m None old new) p.added (record { acts = w.acts; leaves = w.leaves; same = w.same }))

    pub pop_refuses : (side : Side) (e : Error) → WholeRefused store meant old (pop_of side tree) e new → RefusesCall store meant old (pop_of side tree) e new × Conducts store [] (Some e) old new
    pop_refuses Least e w = let r = w.refuses (λ n. None) 0 in (record { may = r.0; is = r.1 }, subst (λ m. Conducts store m (Some e) old new) r.2 (record { acts = w.acts; leaves = w.leaves; same = w.same }))
    pop_refuses Greatest e w = let r = w.refuses (λ n. None) 0 in (record { may = r.0; is = r.1 }, subst (λ m. Conducts store m (Some e) old new) r.2 (record { acts = w.acts; leaves = w.leaves; same = w.same }))

    pub clear_changes : WholeDecided store meant old (Clear tree) Done new → ChangesMap store meant old tree (λ before after. after ≡ []) new
    clear_changes w =
        let c = (w.decides (λ n. None) 0 0).1 in
        let had = removes_from tree c.parts (db_state store meant old) (db_state store meant new) w.maps c.removes c.named c.there in record {
          before = had.0.map;
          was = ap map_in had.1;
          after = c.named.map;
          becomes = ap map_in c.there;
          is = c.none;
          others = removes_others tree c.parts (db_state store meant old) (db_state store meant new) w.maps c.removes;
        }

  opens_map : (name : Key) (tree : Tree) → WholeDecided store meant old (OpenTree name) (told.Tree tree) new → OpensMap store meant old name new
  opens_map name tree w = go ((db_state store meant old).trees name) refl opens.is
    where
      opens : OpensTree (db_state store meant old) name (told.Tree tree) (db_state store meant new) w.maps
      opens = w.decides (λ n. None) 0 0

      go : (o : Option NamedTree) → (db_state store meant old).trees name ≡ o → db_state store meant new ≡ state_opened o (db_state store meant old) name → OpensMap store meant old name new
      go (Some t) there is = record {
        becomes = ap (λ s. maps_of s name) is ∙ ap map_in there ∙ sym (ap (λ o. Some (map_opened (map_in o))) there);
        others = λ other off. ap (λ s. maps_of s other) is;
      }
      go None there is =
          let made : Option NamedTree = Some (new_tree (db_state store meant old)) in record {
            becomes = ap (λ s. maps_of s name) is ∙ ap map_in (put_name_here (db_state store meant old).trees name made) ∙ sym (ap (λ o. Some (map_opened (map_in o))) there);
            others = λ other off. ap (λ s. maps_of s other) is ∙ ap map_in (put_name_elsewhere (db_state store meant old).trees name other made off);
          }

  pub opens_all : (name : Key) (r : Result Tree Error) → IfOk r (λ tree. WholeDecided store meant old (OpenTree name) (told.Tree tree) new) → OnOk r (OpensMap store meant old name new)
  opens_all name (Ok tree) w = opens_map name tree w
  opens_all name (Err e) w = tt

  pub drops_map : (name : Key) (dropped : Bool) → DropsTree store meant old name dropped new → DropsMap store meant old name dropped new
  drops_map name dropped d = go dropped d.is
    where
      go : (b : Bool) → drops_as store meant old name b new → DropsMap store meant old name b new
      go true d =
          let is = d.state (λ n. None) 0 in record {
            was = sym (ap (λ o. is_some (map_in o)) d.there);
            goes = record {
              becomes = ap (λ s. maps_of s name) is ∙ ap map_in (put_name_here (db_state store meant old).trees name None);
              others = λ other off. ap (λ s. maps_of s other) is ∙ ap map_in (put_name_elsewhere (db_state store meant old).trees name other None off);
            };
          }
      go false d = record {
        was = sym (ap (λ o. is_some (map_in o)) d.0);
        goes = record { becomes = ap (λ (z : DbValue P M). maps_of (db_state store meant z) name) d.1 ∙ ap map_in d.0; others = λ other off. ap (λ (z : DbValue P M). maps_of (db_state store meant z) other) d.1 };
      }

  pub group_changes : (batches : List (Tree × Writes)) {A : Type 0} (r : Result A Error) → OnOk r (GroupDecided store meant old batches new) → OnOk r (db_state store meant new ≡ after_writes (writes_of batches) (db_state store meant old))
  group_changes batches (Ok done) d = (d.decides (λ n. None) 0).is
  group_changes batches (Err e) d = tt
